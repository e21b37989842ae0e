-- What a frame breaks, as a judgement.
use mathlib.Core.Path.{◌≡◌, refl}
use mathlib.Core.Bool.{Bool, true, false}
use Prim.Native.Nat.{ℕ}
use Rattle.std.specs.Prelude.{Result, Ok, Err}
use Rattle.circuit.specs.Refusals.{number_of}
use Rattle.circuit.specs.Rules.{Judgement, pass, refuse, need, ◌then◌}
use Rattle.circuit.specs.declared.rules.Rule.{Rule}
use Rattle.checker.specs.declared.forms.Spot.{Spot}
use Rattle.checker.specs.Internal.Notes.{ask}
use Rattle.checker.specs.Internal.Adding.{at_word, ◌and_then◌}

-- the judgement on frame f by what it breaks
abbrev pub judged_at : ℕ → Result (Unit {0}) Spot → Judgement
judged_at f (Ok u) = pass
judged_at f (Err s) = refuse (number_of s.rule) f s.word

-- of one part behind another
pub judged_then : (f : ℕ) (a b : Result (Unit {0}) Spot) → judged_at f (a and_then b) ≡ (judged_at f a then judged_at f b)
judged_then f (Ok u) b = refl
judged_then f (Err s) b = refl

-- of a test
pub tested : (b : Bool) (rule : Rule) (f w : ℕ) → judged_at f (at_word w (ask b rule)) ≡ need b (number_of rule) f w
tested true rule f w = refl
tested false rule f w = refl

-- judgements in a row
pub pass_last : (j : Judgement) → (j then pass) ≡ j
pass_last pass = refl
pass_last (refuse a b c) = refl

pub then_assoc : (i j k : Judgement) → ((i then j) then k) ≡ (i then (j then k))
then_assoc pass j k = refl
then_assoc (refuse a b c) j k = refl
