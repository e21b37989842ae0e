-- The starred cases, proved as a whole by one computed test.
use mathlib.Core.Path.{◌≡◌, refl}
use mathlib.Core.Bool.{Bool, true, false, ◌&&◌, false≢true}
use mathlib.Core.List.{List, [], ◌∷◌}
use lib.Dec.{eqb}
use borrow.Author.Tests.{eqb-true}
use Rattle.circuit.specs.Limits.{notes_room}
use Rattle.circuit.specs.Gadgets.{in_and, in_ref, index, gadget}
use Rattle.circuit.specs.Kinds.{kind_of, shape}
use Rattle.circuit.specs.Circuit.{new_stage, made}
use Rattle.circuit.specs.Rules.{Judgement, pass, refuse, words_rule, frame_rule, frames, head_rule, checked}
use Rattle.circuit.specs.Answer.{Answer, accepted, refused, verdict_of}
use Rattle.semantics.specs.Probes.{stops, sheet}
use Rattle.semantics.specs.Calls.{bytes_rule, probes_rule, sheets_rule, call_rule, value_bytes, reading_bytes}
use Rattle.semantics.specs.Counts.{alike}
use Rattle.semantics.proofs.Alike.{same_list}
use Rattle.semantics.specs.Cases.{Case, judged, evaluates, reads, notes, room, Right, cases}

-- the tests of it
abbrev passes : Judgement → Bool
passes pass = true
passes (refuse rule frame word) = false

abbrev answers_agree : Answer → Answer → Bool
answers_agree (accepted a b c) (accepted d e f) = eqb a d && (eqb b e && eqb c f)
answers_agree (accepted a b c) (refused d e f) = false
answers_agree (refused a b c) (accepted d e f) = false
answers_agree (refused a b c) (refused d e f) = eqb a d && (eqb b e && eqb c f)

unfoldable pub right : Case → Bool
right (judged table a) = answers_agree (verdict_of table notes_room) a
right (evaluates table shares tape values) =
    passes (call_rule table notes shares tape (room ∷ []) []) && alike eqb (value_bytes table notes shares tape) values
right (reads table shares tape probes reading) =
    passes (call_rule table notes shares tape (room ∷ room ∷ []) probes) && alike eqb (reading_bytes table notes shares tape probes) reading

unfoldable pub all_cases_right : List Case → Bool
all_cases_right [] = true
all_cases_right (k ∷ ks) = right k && all_cases_right ks

-- a test that passes is the rule
both : {A : Type 0} (a b : Bool) → (a && b) ≡ true → (a ≡ true → b ≡ true → A) → A
both true b h f = f refl h
both false b h f = absurd (false≢true h)

passes_pass : (j : Judgement) → passes j ≡ true → j ≡ pass
passes_pass pass h = refl
passes_pass (refuse rule frame word) h = absurd (false≢true h)

same_answer : (a b : Answer) → answers_agree a b ≡ true → a ≡ b
same_answer (accepted a b c) (accepted d e f) h = both (eqb a d) (eqb b e && eqb c f) h (λ p h. both (eqb b e) (eqb c f) h (λ q s.
    let x = eqb-true a d p in let y = eqb-true b e q in let z = eqb-true c f s in cc))
same_answer (accepted a b c) (refused d e f) h = absurd (false≢true h)
same_answer (refused a b c) (accepted d e f) h = absurd (false≢true h)
same_answer (refused a b c) (refused d e f) h = both (eqb a d) (eqb b e && eqb c f) h (λ p h. both (eqb b e) (eqb c f) h (λ q s.
    let x = eqb-true a d p in let y = eqb-true b e q in let z = eqb-true c f s in cc))

pub right_sound : (k : Case) → right k ≡ true → Right k
unfolding right
right_sound (judged table a) h = same_answer (verdict_of table notes_room) a h
right_sound (evaluates table shares tape values) h =
    both (passes (call_rule table notes shares tape (room ∷ []) [])) (alike eqb (value_bytes table notes shares tape) values) h
    (λ p q. (passes_pass (call_rule table notes shares tape (room ∷ []) []) p, same_list (value_bytes table notes shares tape) values q))
right_sound (reads table shares tape probes reading) h =
    both (passes (call_rule table notes shares tape (room ∷ room ∷ []) probes)) (alike eqb (reading_bytes table notes shares tape probes) reading) h
    (λ p q. (passes_pass (call_rule table notes shares tape (room ∷ room ∷ []) probes) p, same_list (reading_bytes table notes shares tape probes) reading q))

-- every case of a list is right
abbrev pub EveryRight : List Case → Type 0
EveryRight [] = Unit {0}
EveryRight (k ∷ ks) = Right k × EveryRight ks

pub all_sound : (ks : List Case) → all_cases_right ks ≡ true → EveryRight ks
unfolding all_cases_right
all_sound [] h = tt
all_sound (k ∷ ks) h = both (right k) (all_cases_right ks) h (λ p q. (right_sound k p, all_sound ks q))

computed : all_cases_right cases ≡ true
unfolding cases all_cases_right right checked head_rule frames frame_rule words_rule kind_of shape new_stage made gadget index in_and in_ref stops sheet bytes_rule probes_rule sheets_rule call_rule
computed = refl

pub starred_cases : EveryRight cases
starred_cases = all_sound cases computed
