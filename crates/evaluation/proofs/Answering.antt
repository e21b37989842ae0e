-- A call's outcome. Rules 15 to 19 as what is left of the call's judgement; and what an accepted and a refused call rest on.
use mathlib.Core.Path.{◌≡◌, refl, sym, ap, ap₂, subst, ◌∙◌}
use mathlib.Core.Bool.{Bool, true, false, false≢true}
use mathlib.Core.List.{List, [], ◌∷◌, ◌++◌}
use Prim.Native.Nat.{ℕ, zero, suc, ◌+◌, ◌*◌, ◌≤◌, ◌<◌, min}
use native.Mathlib.Nat.{add-zero, add-suc, suc-add}
use native.Mathlib.Omega.{arith}
use lib.Dec.{leb, ltb, eqb}
use lib.ListN.{length}
use borrow.Author.Tests.{eqb-true, le-leb, lt-leb, leb-true, leb-false, ltb-true}
use Rattle.circuit.specs.Limits.{wire_limit}
use Rattle.circuit.specs.Lists.{nth, mem, overwrite}
use Rattle.circuit.specs.Circuit.{Circuit, size, empty}
use Rattle.circuit.specs.Rules.{Judgement, pass, refuse, need, ◌then◌, checked}
use Rattle.circuit.specs.Answer.{refused, answer}
use Rattle.circuit.proofs.Base.{cases, or_cases, In}
use Rattle.circuit.proofs.Judging.{then_pass, need_then}
use Rattle.circuit.proofs.Answers.{answer-pass, answer-refused}
use Rattle.circuit.proofs.Building.{build-shares}
use Rattle.circuit.proofs.Exact.{sound, accepted-size}
use Rattle.semantics.specs.Values.{bits, bytes, values_of}
use Rattle.semantics.specs.Calls.{written, bytes_rule, probes_rule, sheets_rule, circuit_of, call_rule}
use Rattle.std.specs.Prelude.{Option, Some, None, Result, Ok, Err}
use Rattle.circuit.specs.declared.rules.Refusal.{Refusal}
use Rattle.checker.specs.declared.Accepted.{Accepted}
use Rattle.checker.specs.Answers.{answer_of}
use Rattle.gadgets.specs.Internal.Accepting.{AcceptedTable, circuit_in}
use Rattle.gadgets.proofs.Framing.{inputs_few}
use Rattle.gadgets.proofs.Walking.{least-notes, same-circuit}
use Rattle.simulation.specs.Internal.Evaluating.{Evaluable, Bits, Evaluates}
use Rattle.simulation.proofs.Single.{single}
use Rattle.evaluation.specs.Internal.Refusing.{refusal}
use Rattle.evaluation.specs.Internal.Calling.{Shortest, Judged}

-- a refusal is that of the rules behind it too, and leaves a buffer as found
module _ (k : Circuit) (j : Judgement) {a b c : ℕ} (h : refused a b c ≡ answer k j) where
  pub answer-refuse : (rest : Judgement) → refused a b c ≡ answer k (j then rest)
  answer-refuse rest = rw (answer-refused k j h)

  pub untouched : (new old : List ℕ) → old ≡ written j new old
  untouched new old = rw (answer-refused k j h)

-- what is left of a judgement once a rule is kept, and its end where it is broken
pub kept : {j : Judgement} (b : Bool) (rule : ℕ) (rest : Judgement) → j ≡ (need b rule 0 0 then rest) → b ≡ true → j ≡ rest
kept b rule rest e h = e ∙ ap (λ t. need t rule 0 0 then rest) h

pub broken : {j : Judgement} (b : Bool) (rule : ℕ) (rest : Judgement) → j ≡ (need b rule 0 0 then rest) → b ≡ false → j ≡ refuse rule 0 0
broken b rule rest e h = e ∙ ap (λ t. need t rule 0 0 then rest) h

pub none_found : {j : Judgement} (rule i : ℕ) {r : Option ℕ} (rest : Judgement) → j ≡ (refusal rule i r then rest) → r ≡ None → j ≡ rest
none_found rule i rest e h = e ∙ rw h

pub first_found : {j : Judgement} (rule i : ℕ) {r : Option ℕ} (rest : Judgement) → j ≡ (refusal rule i r then rest) → {x : ℕ} → r ≡ Some x → j ≡ refuse rule 0 (i + x)
first_found rule i rest e h = e ∙ rw h

-- shares, then tape
pub then_assoc : (i j k : Judgement) → ((i then j) then k) ≡ (i then (j then k))
then_assoc pass j k = refl
then_assoc (refuse a b c) j k = refl

pub then_none : (j : Judgement) → (j then pass) ≡ j
then_none pass = refl
then_none (refuse a b c) = refl

bytes-append : (n : ℕ) (xs ys : List ℕ) → bytes_rule n (xs ++ ys) ≡ (bytes_rule n xs then bytes_rule (n + length xs) ys)
unfolding bytes_rule
bytes-append n [] ys = simp add-zero
bytes-append n (x ∷ xs) ys = rw (add-suc n (length xs), ← suc-add n (length xs), then_assoc (need (leb x 1) 18 0 n)) (ap (λ j. need (leb x 1) 18 0 n then j) (bytes-append (suc n) xs ys))

-- bytes that pass are bits, and probes that pass are on wires
pub bits-pass : (i : ℕ) (xs : List ℕ) → bytes_rule i xs ≡ pass → Bits xs
unfolding bytes_rule
bits-pass i [] h x = omega arith
bits-pass i (b ∷ xs) h zero = leb-true b 1 (need_then (leb b 1) 18 0 i (bytes_rule (suc i) xs) h).0
bits-pass i (b ∷ xs) h (suc x) = bits-pass (suc i) xs (need_then (leb b 1) 18 0 i (bytes_rule (suc i) xs) h).1 x

pub probes_pass : (k : Circuit) (n : ℕ) (ps : List ℕ) → probes_rule k n ps ≡ pass → (x : ℕ) → In x ps → x < size k
unfolding probes_rule
probes_pass k n [] h x i = absurd (false≢true i)
probes_pass k n (p ∷ ps) h x i =
    let (a, b) = need_then (ltb p (size k)) 19 0 n (probes_rule k (suc n) ps) h in
    or_cases (eqb x p) (mem x ps) i
    (λ e. subst (λ (m : ℕ). m < size k) (sym (eqb-true x p e)) (ltb-true p (size k) a))
    (λ e. probes_pass k (suc n) ps b x e)

-- the shortest of the buffers
pub one-sheet : (v : List ℕ) → Shortest (length v) (v ∷ [])
unfolding sheets_rule
one-sheet v = then_none (need (leb wire_limit (length v)) 17 0 0)

pub two_sheets : (v r : List ℕ) (n : ℕ) → n ≡ min (length v) (length r) → Shortest n (v ∷ r ∷ [])
unfolding sheets_rule
two_sheets v r n e = cases (leb wire_limit (length v))
    (λ a. cases (leb wire_limit (length r))
    (λ b. rw (a, b, le-leb wire_limit n (omega (arith, leb-true wire_limit (length v) a, leb-true wire_limit (length r) b))))
    (λ b. rw (a, b, lt-leb wire_limit n (omega (arith, leb-false wire_limit (length r) b)))))
    (λ a. rw (a, lt-leb wire_limit n (omega (arith, leb-false wire_limit (length v) a))))

-- a call on a table that is accepted: its number of shares is its second word, and few are asked for
pub record Taken (table notes : List ℕ) : Type 0 where
  pub accepted : AcceptedTable table
  pub circuit_is : circuit_of table notes ≡ circuit_in table
  pub d_is : nth table 1 ≡ (circuit_of table notes).d
  pub shares_few : (circuit_of table notes).inputs * (circuit_of table notes).d ≤ wire_limit
  pub wires_few : size (circuit_of table notes) ≤ wire_limit

pub taken : (table notes : List ℕ) → (checked table (length notes)).judgement ≡ pass → Taken table notes
taken table notes p =
    let a = sound table (length notes) p in
    record {
      accepted = least-notes a;
      circuit_is = same-circuit a;
      d_is = ap (λ t. nth t 1) a.table_is ∙ sym (ap (λ (k : Circuit). k.d) a.circuit_is ∙ build-shares (empty a.d) a.fs);
      shares_few = omega (arith, accepted-size a, subst (λ (k : Circuit). k.inputs * k.d ≤ size k) (sym a.circuit_is) (inputs_few (empty a.d) a.fs (omega arith)));
      wires_few = accepted-size a;
    }

module _ (table notes shares tape : List ℕ) (sheets : List (List ℕ)) (probes : List ℕ) where
  abbrev k : Circuit
  k = circuit_of table notes

  abbrev rule : Judgement
  rule = call_rule table notes shares tape sheets probes

  -- the checker's refusal is the call's; where it accepts, rules 15 to 19 are left
  pub refused-first : {a b c : ℕ} → refused a b c ≡ answer k (checked table (length notes)).judgement → refused a b c ≡ answer k rule
  unfolding call_rule
  refused-first h = answer-refuse k (checked table (length notes)).judgement h _

  pub rules-left : (room : ℕ) → Shortest room sheets → (checked table (length notes)).judgement ≡ pass
      → rule ≡ (need (eqb (length shares) (k.inputs * k.d)) 15 0 0 then need (eqb (length tape) k.randoms) 16 0 0 then need (leb wire_limit room) 17 0 0
      then bytes_rule 0 shares then bytes_rule (0 + length shares) tape then probes_rule k 0 probes)
  unfolding call_rule
  rules-left room s p = rw (p, s, bytes-append 0 shares tape, then_assoc (bytes_rule 0 shares) (bytes_rule (0 + length shares) tape) (probes_rule k 0 probes))

  -- what an accepted call rests on
  pub record Passed (room wires : ℕ) : Type 0 where
    pub passes : rule ≡ pass
    pub of : Taken table notes
    pub shared : length shares ≡ (circuit_in table).inputs * (circuit_in table).d
    pub drawn : length tape ≡ (circuit_in table).randoms
    pub share_bits : Bits shares
    pub tape_bits : Bits tape
    pub roomy : wire_limit ≤ room
    pub wires_are : wires ≡ size (circuit_in table)
    pub few : wires ≤ wire_limit
    pub probed : (x : ℕ) → In x probes → x < wires

  passed_by : (room wires : ℕ) → Shortest room sheets → rule ≡ pass → wires ≡ size k → Passed room wires
  unfolding call_rule
  passed_by room wires s p w =
      let first = (then_pass (checked table (length notes)).judgement _ p).0 in
      let t = taken table notes first in
      let (b, h1) = need_then (eqb (length shares) (k.inputs * k.d)) 15 0 0 _ (sym (rules-left room s first) ∙ p) in
      let (c, h2) = need_then (eqb (length tape) k.randoms) 16 0 0 _ h1 in
      let (d, h3) = need_then (leb wire_limit room) 17 0 0 _ h2 in
      let (e, h4) = then_pass (bytes_rule 0 shares) _ h3 in
      let (f, g) = then_pass (bytes_rule (0 + length shares) tape) _ h4 in
      record {
        passes = p;
        of = t;
        shared = eqb-true (length shares) (k.inputs * k.d) b ∙ ap (λ (c : Circuit). c.inputs * c.d) t.circuit_is;
        drawn = eqb-true (length tape) k.randoms c ∙ ap (λ (c : Circuit). c.randoms) t.circuit_is;
        share_bits = bits-pass 0 shares e;
        tape_bits = bits-pass (0 + length shares) tape f;
        roomy = leb-true wire_limit room d;
        wires_are = w ∙ ap size t.circuit_is;
        few = omega (arith, t.wires_few);
        probed = λ x i. omega (arith, probes_pass k 0 probes g x i);
      }

  -- its values are filled in, and its buffers hold what is said of the table's circuit
  pub evaluable : {room wires n : ℕ} → Passed room wires → room ≤ n → Evaluable table shares tape n
  evaluable p enough = record { accepted = p.of.accepted; shared = p.shared; drawn = p.drawn; roomy = omega arith }

  pub evaluated : {room wires : ℕ} → Passed room wires → {old new : List ℕ} → Evaluates table shares tape old new → room ≤ length old
      → new ≡ overwrite (bytes (values_of (circuit_in table).wires (bits shares) (bits tape))) old
  evaluated p e enough = single e p.share_bits p.tape_bits (omega arith)

  pub holds : {room wires : ℕ} → Passed room wires → (bytes : Circuit → List ℕ) (old : List ℕ) {new : List ℕ} → new ≡ overwrite (bytes (circuit_in table)) old → new ≡ written rule (bytes k) old
  holds p bytes old e = e ∙ sym (ap₂ (λ i c. written i (bytes c) old) p.passes p.of.circuit_is)

-- a judged call by its answer: accepted, it rests on that; refused, its buffers are as found
module _ {table notes shares tape probes new : List ℕ} {room : ℕ} {r : Result Accepted Refusal} (j : Judged table notes shares tape probes room new r) (sheets : List (List ℕ)) (shortest : Shortest room sheets) where
  pub passed : {a : Accepted} → r ≡ Ok a → Passed table notes shares tape sheets probes room a.wires
  passed e = let (p, wires, _) = answer-pass (circuit_of table notes) (call_rule table notes shares tape sheets probes) (sym (ap answer_of e) ∙ j.answers sheets shortest) in
      passed_by table notes shares tape sheets probes room _ shortest p wires

  pub left : {f : Refusal} → r ≡ Err f → (bytes old : List ℕ) → old ≡ written (call_rule table notes shares tape sheets probes) bytes old
  left e bytes old = untouched (circuit_of table notes) (call_rule table notes shares tape sheets probes) (sym (ap answer_of e) ∙ j.answers sheets shortest) bytes old
