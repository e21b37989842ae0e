-- REF: every probed wire, and every output with a label among the share indices behind, looks the same; no bit is flipped.
use mathlib.Core.Path.{refl, sym, ◌∙◌}
use mathlib.Core.Bool.{Bool, false}
use mathlib.Core.List.{List}
use Prim.Native.Nat.{ℕ, ◌<◌}
use Rattle.circuit.specs.Gadgets.{Part, r, s, S, others, sorted, in_ref}
use Rattle.circuit.proofs.Base.{no_flip, In, every_map, AllFrom, all_any}
use Rattle.circuit.proofs.Parts.{others_pair, InREF, fresh, added, ref_parts, ref_has, sorted-at}
use Rattle.secrecy.proofs.Roles.{Role, role}
use Rattle.secrecy.proofs.Coupled.{Shift, Decided}
use Rattle.secrecy.proofs.Same.{Two, Same, stop_same, carry}
use Rattle.secrecy.proofs.Sites.{Site, Entry, number, Known, Good, entries_at, out, ins, out_ins, ProbedRole, PartFact, OutFact, look, good}

-- no bit is flipped
abbrev pub still : Role → Shift
still o f f' = false

pub still_decided : (n : ℕ) (es : List Entry) → AllFrom (λ x e. Decided x (still e.role)) n es
still_decided = all_any _ (λ x e f g f' g' h h'. refl)

-- a REF of d shares, from the wire `first` on
module _ (is_probed : ℕ → Bool) (d first : ℕ) (a : ℕ → ℕ) (start end : ℕ) (behind : List ℕ) where
  abbrev pub refsite : Site
  refsite = record { is_probed = is_probed; d = d; first = first; a = a; b = a; inside = in_ref d; output = S; start = start; end = end; behind = behind }

  -- two evaluations in which a(i) looks the same for each i in `ins`
  module _ (T : Two) (known : AllFrom (Known T still) first (entries_at refsite)) (sa : (i : ℕ) → i < d → In i (ins refsite) → Same T (a i)) where
    open T use {f, f'}

    -- what is known of a part's wire
    abbrev Seen : ℕ → Part → Type 0
    Seen = PartFact refsite T still

    fact : {p : Part} → InREF d p → Seen (number refsite p) p
    fact {p} o = look refsite T still known p (ref_has d o)

    r_same : (x i j : ℕ) → Seen x (r i j) → Same T x
    r_same x i j h = stop_same h refl (sym (h.bits.flipped refl ∙ no_flip (f x)))

    s_same : (x i : ℕ) → i < d → Seen x (s i) → In i (ins refsite) → Same T x
    s_same x i l h q = carry h refl refl (
      sa i l q,
      every_map (Same T) (λ j. number refsite (sorted r i j)) (others d i)
          (λ j z. sorted-at (λ i j p. Same T (number refsite p)) r d i j (others_pair d i j l z) (λ i j o l. r_same (number refsite (r i j)) i j (fact (fresh i j o l))) (λ x h. h)),
    )

    inner-same : (x : ℕ) (p : Part) → InREF d p → Seen x p → ProbedRole refsite (role p) → Same T x
    inner-same x _ (fresh i j o l) h t = r_same x i j h
    inner-same x _ (added i l) h t = s_same x i l h t

    S_same : (x i : ℕ) → i < d → OutFact refsite T still x i → In i (out refsite) → Same T x
    S_same x i l h k = carry h refl refl (s_same (number refsite (s i)) i l (fact (added i l)) (out_ins refsite i k), tt)

    pub ref_good : AllFrom (Good T is_probed behind) first (entries_at refsite)
    ref_good = good refsite T still (InREF d) (ref_parts d) inner-same S_same known
