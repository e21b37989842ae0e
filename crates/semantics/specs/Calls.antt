-- Document 01, "Where each refusal is met", rules 15 to 19, and what evaluation and readings leave in their sheets.
use Rattle.std.specs.Prelude.{◌≡◌, List, [], ◌∷◌, ◌++◌, ℕ, suc, ◌*◌, leb, ltb, eqb, length}
use Rattle.circuit.specs.Limits.{wire_limit}
use Rattle.circuit.specs.Lists.{overwrite}
use Rattle.circuit.specs.Circuit.{Circuit, size}
use Rattle.circuit.specs.Rules.{Judgement, pass, refuse, need, ◌then◌, checked}
use Rattle.circuit.specs.Answer.{Answer, answer, notes_after}
use Rattle.semantics.specs.Values.{bits, bytes, values_of}
use Rattle.semantics.specs.Probes.{reading_of}

-- 18: shares, then tape, a byte over 1, counted from i on
unfoldable pub bytes_rule : ℕ → List ℕ → Judgement
bytes_rule i [] = pass
bytes_rule i (b ∷ bs) = need (leb b 1) 18 0 i then bytes_rule (suc i) bs

-- 19: no such wire, counted from i on
unfoldable pub probes_rule : Circuit → ℕ → List ℕ → Judgement
probes_rule k i [] = pass
probes_rule k i (p ∷ ps) = need (ltb p (size k)) 19 0 i then probes_rule k (suc i) ps

-- 17: a value or reading sheet of too few bytes
unfoldable pub sheets_rule : List (List ℕ) → Judgement
sheets_rule [] = pass
sheets_rule (s ∷ ss) = need (leb wire_limit (length s)) 17 0 0 then sheets_rule ss

-- what a sheet holds after a call: refused, it is untouched
abbrev pub written : Judgement → (new old : List ℕ) → List ℕ
written pass new old = overwrite new old
written (refuse rule frame word) new old = old

-- the checker accepts a table with these notes; the circuit that it makes, as far as it comes
abbrev pub Accepts : (table notes : List ℕ) → Type 0
Accepts table notes = (checked table (length notes)).judgement ≡ pass

abbrev pub circuit_of : (table notes : List ℕ) → Circuit
circuit_of table notes = (checked table (length notes)).circuit

-- a call on a table, with notes of these words, shares and tape
module _ (table notes shares tape : List ℕ) where
  abbrev k : Circuit
  k = circuit_of table notes

  -- its judgement: the checker's, then 15 to 19. Evaluation takes a value sheet and no probes, readings a reading sheet too
  unfoldable pub call_rule : (sheets : List (List ℕ)) (probes : List ℕ) → Judgement
  call_rule sheets probes = (checked table (length notes)).judgement
      then need (eqb (length shares) (k.inputs * k.d)) 15 0 0
      then need (eqb (length tape) k.randoms) 16 0 0
      then sheets_rule sheets
      then bytes_rule 0 (shares ++ tape)
      then probes_rule k 0 probes

  -- its answer, and the notes after it
  abbrev pub call_answer : (sheets : List (List ℕ)) (probes : List ℕ) → Answer
  call_answer sheets probes = answer k (call_rule sheets probes)

  abbrev pub call_notes : List ℕ
  call_notes = notes_after k notes

  -- the values of the circuit's wires, and the reading of probes
  abbrev pub value_bytes : List ℕ
  value_bytes = bytes (values_of k.wires (bits shares) (bits tape))

  abbrev pub reading_bytes : (probes : List ℕ) → List ℕ
  reading_bytes probes = reading_of k.wires probes (bits shares) (bits tape)
