-- Marks on probed wires, moved on from the last wire to the first, end on the stops that the probes read.
use mathlib.Core.Path.{◌≡◌, sym, subst, ◌∙◌}
use mathlib.Core.Bool.{true, false, false≢true}
use mathlib.Core.List.{List, [], ◌∷◌}
use Prim.Native.Nat.{ℕ, suc, ◌+◌, ◌≤◌, ◌<◌}
use native.Mathlib.Omega.{arith}
use lib.Dec.{eqb, ltb}
use lib.ListN.{length, set}
use borrow.Author.Tests.{eqb-true, eqb-false, ltb-true, ltb-false}
use Rattle.circuit.specs.Lists.{nth, mem}
use Rattle.circuit.specs.Circuit.{is_set}
use Rattle.circuit.specs.Wires.{Wire, Gate, is_stop}
use Rattle.circuit.proofs.Base.{cases, or_cases, lt_ne, In, in_head, in_each, every_in, Every}
use Rattle.circuit.proofs.Numbered.{all_get}
use Rattle.semantics.specs.Probes.{operands, stops}
use Rattle.semantics.proofs.Reading.{same_test, concat_map_in, probe, stop_reads, gate-reads}
use Rattle.semantics.proofs.Solving.{nothing, gate_at, OrderedFrom}
use Rattle.gadgets.proofs.Bits.{set_low, set_high}
use Rattle.reach.specs.Internal.Marks.{mark_all, propagated, Marked, Source, Moving, Unmarked}
use Rattle.reach.specs.Internal.Reading.{OnStops}
use Rattle.reach.proofs.Marked.{mark_keep, mark_new, mark_cases, clear-cases, clear-other}

in_one : (s x : ℕ) → In s (x ∷ []) → s ≡ x
in_one s x h = or_cases (eqb s x) false h (eqb-true s x) (λ e. absurd (false≢true e))

pub moving_start : (ws : List Wire) (probes marks : List ℕ) → ((x : ℕ) → is_set (nth marks x) ≡ mem x probes) → ((x : ℕ) → In x probes → x < length ws) → Moving ws probes marks (length ws)
unfolding stops
moving_start ws probes marks e l = record {
  into = λ x s m i. concat_map_in s (probe ws) probes x (sym (e x) ∙ m) i;
  from = λ s i. in_each s (probe ws) probes i (λ y p q. record { wire = y; marked = e y ∙ p; reads = q });
  made = λ x m. l x (sym (e x) ∙ m);
  settled = λ x h m. let k = l x (sym (e x) ∙ m) in absurd (omega arith);
}

module _ (ws : List Wire) (early : OrderedFrom 0 ws) (probes marks : List ℕ) (w : ℕ) (l : w < length ws) (room : length ws ≤ length marks) (h : Moving ws probes marks (suc w)) where
  abbrev g : Gate
  g = gate_at ws w

  early-at : (y : ℕ) → In y (operands g) → y < w
  early-at y i = subst (λ (n : ℕ). y < n) (omega arith) (every_in (λ y. y < 0 + w) (operands g) (all_get (λ x wire. Every (λ y. y < x) (operands wire.gate)) 0 ws nothing early w l) y i)

  -- a stop, or a wire with no mark, stays
  stays : (Marked marks w → is_stop g ≡ true) → Moving ws probes marks w
  stays f = record {
    into = h.into;
    from = h.from;
    made = h.made;
    settled = λ x k m. cases (ltb w x) (λ e. h.settled x (ltb-true w x e) m)
        (λ e. let z : w ≡ x = omega (arith, ltb-false w x e) in subst (λ (n : ℕ). is_stop (gate_at ws n) ≡ true) z (f (subst (Marked marks) (sym z) m)));
  }

  -- a mark on another wire goes to the wires that it takes, in any order
  module _ (ops : List ℕ) (out : (y : ℕ) → In y ops → In y (operands g)) (back : (y : ℕ) → In y (operands g) → In y ops) where
    moved : is_stop g ≡ false → Marked marks w → Moving ws probes (set (mark_all marks ops) w 0) w
    moved stop mine = record {
      into = λ x s m i. clear-cases (mark_all marks ops) w x m (λ e m'. mark_cases marks ops x m'
          (λ k. h.into w s mine (rw (gate-reads ws early nothing w l stop) (concat_map_in s (probe ws) (operands g) x (out x k) i)))
          (λ k. h.into x s k i));
      from = λ s i. next s (h.from s i);
      made = λ x m. clear-cases (mark_all marks ops) w x m (λ e m'. mark_cases marks ops x m' (λ k. omega (arith, early-at x (out x k))) (λ k. h.made x k));
      settled = λ x k m. clear-cases (mark_all marks ops) w x m (λ e m'. mark_cases marks ops x m'
          (λ i. absurd (omega (arith, early-at x (out x i))))
          (λ i. h.settled x (above x k e) i));
    }
      where
        above : (x : ℕ) → w ≤ x → eqb x w ≡ false → suc w ≤ x
        above x k e = cases (ltb w x) (ltb-true w x) (λ z. absurd (eqb-false x w e (omega (arith, ltb-false w x z))))

        new : ℕ → Type 0
        new s = Source ws (set (mark_all marks ops) w 0) s

        next : (s : ℕ) → Source ws marks s → new s
        next s t = cases (eqb t.wire w)
            (λ e. in_each s (probe ws) (operands g)
            (subst (In s) (gate-reads ws early nothing w l stop) (subst (λ (n : ℕ). In s (probe ws n)) (eqb-true t.wire w e) t.reads))
            (λ y p q. record {
              wire = y;
              marked = clear-other (mark_all marks ops) w y (lt_ne y w (early-at y p)) (mark_new marks ops y (back y p) (omega (arith, early-at y p)));
              reads = q;
            }))
            (λ e. record {
              wire = t.wire;
              marked = clear-other (mark_all marks ops) w t.wire e (mark_keep marks ops t.wire t.marked);
              reads = t.reads;
            })

    pub moving_gate : is_stop g ≡ false → Moving ws probes (propagated w ops marks) w
    moving_gate e = cases (ltb (nth marks w) 1)
        (λ k. rw k (stays (λ m. absurd (false≢true (sym (set_low (nth marks w) (ltb-true (nth marks w) 1 k)) ∙ m)))))
        (λ k. rw k (moved e (set_high (nth marks w) (ltb-false (nth marks w) 1 k))))

  pub moving_stop : is_stop g ≡ true → Moving ws probes marks w
  moving_stop e = stays (λ m. e)

-- wires with no mark are passed over
pub moving_unmarked : {ws : List Wire} {probes marks : List ℕ} {from to : ℕ} → Moving ws probes marks to → Unmarked marks from to → Moving ws probes marks from
moving_unmarked {marks = marks} {to = to} m k = record {
  into = m.into;
  from = m.from;
  made = m.made;
  settled = λ x p q. cases (ltb x to)
      (λ e. absurd (false≢true (sym (set_low (nth marks x) (k x p (ltb-true x to e))) ∙ q)))
      (λ e. m.settled x (ltb-false x to e) q);
}

-- at the end the marked wires are the stops read
pub moving_end : (ws : List Wire) → OrderedFrom 0 ws → (probes marks : List ℕ) → Moving ws probes marks 0 → OnStops ws probes marks
moving_end ws early probes marks h = record {
  is = λ x. same_test (is_set (nth marks x)) (mem x (stops ws probes))
      (λ m. h.into x x m (rw (alone x m) (in_head x [])))
      (λ i. let s = h.from x i in subst (Marked marks) (sym (in_one x s.wire (subst (In x) (alone s.wire s.marked) s.reads))) s.marked);
  made = h.made;
}
  where
    alone : (y : ℕ) → Marked marks y → probe ws y ≡ y ∷ []
    alone y m = stop_reads ws early nothing y (h.made y m) (h.settled y (omega arith) m)
