-- AND: every probed wire, and every output with a label among the share indices behind, looks the same.
use mathlib.Core.Path.{◌≡◌, refl, sym, ap, ap₂, ◌∙◌}
use mathlib.Core.Bool.{Bool, true, false, not, ◌&&◌}
use mathlib.Core.List.{List, map}
use Prim.Native.Nat.{ℕ, ◌≤◌, ◌<◌}
use native.Mathlib.Omega.{arith}
use lib.Dec.{ltb}
use Rattle.circuit.specs.Lists.{◌⊕◌}
use Rattle.circuit.specs.Wires.{reg}
use Rattle.circuit.specs.Gadgets.{Part, r, R, m, u, U, v, V', w, W, c, labels, sorted, in_and}
use Rattle.circuit.proofs.Base.{no_flip, cases, ltb_other, In, AllFrom, all_of, all_any}
use Rattle.circuit.proofs.Parts.{Pair, other, output_every, InAND, is_r, is_R, is_B, is_m, is_M, is_u, is_U, is_v, is_V, is_w, is_W, and_parts, and_has, sorted-at}
use Rattle.secrecy.proofs.Roles.{Role, lone, pair, role}
use Rattle.secrecy.proofs.Taken.{seen_both}
use Rattle.secrecy.proofs.Coupled.{Values, Shift, Decided}
use Rattle.secrecy.proofs.Same.{Two, Fact, Same, stop_same, carry}
use Rattle.secrecy.proofs.Flips.{delta, delta_swap, delta_none, delta_half, delta_u, delta_w, delta_agree}
use Rattle.secrecy.proofs.Sites.{Site, number, Known, Good, entries_at, entries_all, out, ins, out_ins, touched, ProbedRole, PartFact, OutFact, look, good}

-- an AND of d shares, from the wire `first` on
module _ (is_probed : ℕ → Bool) (d first : ℕ) (a b : ℕ → ℕ) (start end : ℕ) (behind : List ℕ) where
  abbrev pub site : Site
  site = record { is_probed = is_probed; d = d; first = first; a = a; b = b; inside = in_and d; output = c; start = start; end = end; behind = behind }

  -- the flip of the bit r(i,j)
  abbrev flip : ℕ → ℕ → Shift
  flip i j = delta (ins site) (out site) (touched site true) a b i j

  -- the flips by role: only the bits r are random, so only theirs count
  abbrev pub flips : Role → Shift
  flips (lone i) f f' = false
  flips (pair x i j) f f' = flip i j f f'

  swap : (i j : ℕ) (f f' : Values) → flip i j f f' ≡ flip j i f f'
  swap i j f f' = delta_swap (ins site) (out site) (touched site true) a b i j f f'

  -- a probed wire that is no w and no W: the bit is not flipped
  quiet : (f f' : Values) (i j : ℕ) → ProbedRole site (pair false i j) → flip i j f f' ≡ false
  unfolding ins touched
  quiet f f' i j t = delta_none (ins site) (out site) (touched site true) a b f f' i j t.one t.two (seen_both is_probed i j (out site) first (map role (in_and d)) t.hit)

  -- two evaluations in which a(i) and b(i) look the same for each i in `ins`
  module _ (T : Two) (known : AllFrom (Known T flips) first (entries_at site))
      (sa : (i : ℕ) → i < d → In i (ins site) → Same T (a i)) (sb : (i : ℕ) → i < d → In i (ins site) → Same T (b i)) where
    open T use {f, f'}

    -- whether r(i,j) is flipped; what is known of a part's wire; its number; the number of r(i,j)
    abbrev D : ℕ → ℕ → Bool
    D i j = flip i j f f'

    abbrev Seen : ℕ → Part → Type 0
    Seen = PartFact site T flips

    abbrev wire : Part → ℕ
    wire = number site

    abbrev ρ : ℕ → ℕ → ℕ
    ρ i j = wire (sorted r i j)

    fact : {p : Part} → InAND d p → Seen (wire p) p
    fact {p} o = look site T flips known p (and_has d o)

    -- a register of a wire that looks the same
    held : {x y : ℕ} {δ : Shift} → Fact T (reg y) δ x → Same T y → Same T x
    held h s = carry h refl refl (s, tt)

    -- r and R
    r_same : {x : ℕ} (i j : ℕ) → Seen x (r i j) → D i j ≡ false → Same T x
    r_same {x} i j h e = stop_same h refl (sym (h.bits.flipped refl ∙ ap (λ z. f x ⊕ z) e ∙ no_flip (f x)))

    rs : (i j : ℕ) → Pair d i j → D i j ≡ false → Same T (ρ i j)
    rs i j o = sorted-at (λ i j p. D i j ≡ false → Same T (wire p)) r d i j o (λ i j o l. r_same i j (fact (is_r i j o l))) (λ x h e. h (swap j i f f' ∙ e))

    Rs : (i j : ℕ) → Pair d i j → D i j ≡ false → Same T (wire (sorted R i j))
    Rs i j o = sorted-at (λ i j p. D i j ≡ false → Same T (wire p)) R d i j o (λ i j o l e. held (fact (is_R i j o l)) (r_same i j (fact (is_r i j o l)) e)) (λ x h e. h (swap j i f f' ∙ e))

    ρ_flip : (i j : ℕ) → Pair d i j → f' (ρ i j) ≡ (f (ρ i j) ⊕ D i j)
    ρ_flip i j o = sorted-at (λ i j p. f' (wire p) ≡ (f (wire p) ⊕ D i j)) r d i j o (λ i j o l. (fact (is_r i j o l)).bits.flipped refl) (λ x h. h ∙ ap (λ z. f (wire x) ⊕ z) (swap j i f f'))

    R_left : (i j : ℕ) → Pair d i j → f (wire (sorted R i j)) ≡ f (ρ i j)
    R_left i j o = cases (ltb i j) (λ l. rw l ((fact (is_R i j o l)).bits.left refl)) (λ l. rw l ((fact (is_R j i (other o) (ltb_other i j o.apart l))).bits.left refl))

    R_right : (i j : ℕ) → Pair d i j → f' (wire (sorted R i j)) ≡ f' (ρ i j)
    R_right i j o = cases (ltb i j) (λ l. rw l ((fact (is_R i j o l)).bits.right refl)) (λ l. rw l ((fact (is_R j i (other o) (ltb_other i j o.apart l))).bits.right refl))

    -- m, u and v, probed
    m_same : {x i : ℕ} → i < d → Seen x (m i) → In i (ins site) → Same T x
    m_same {i = i} l h q = carry h refl refl (sa i l q, (held (fact (is_B i l)) (sb i l q), tt))

    u_same : {x i j : ℕ} → Pair d i j → Seen x (u i j) → ProbedRole site (pair false i j) → Same T x
    u_same {i = i} {j = j} o h t = carry h refl refl (sa i o.fst t.one, (Rs i j o (quiet f f' i j t), tt))

    v_same : {x i j : ℕ} → Pair d i j → Seen x (v i j) → ProbedRole site (pair false j i) → Same T x
    v_same {i = i} {j = j} o h t = carry h refl refl (sb j o.snd t.one, (rs i j o (swap i j f f' ∙ quiet f f' j i t), tt))

    -- w, probed: V is restored
    V_left : (i j : ℕ) → Pair d i j → f (wire (V' i j)) ≡ (f (b j) ⊕ f (ρ i j))
    V_left i j o = (fact (is_V i j o)).bits.left refl ∙ (fact (is_v i j o)).bits.left refl ∙ ap (λ z. f (b j) ⊕ z) (no_flip (f (ρ i j)))

    V_right : (i j : ℕ) → Pair d i j → f' (wire (V' i j)) ≡ (f' (b j) ⊕ (f (ρ i j) ⊕ D i j))
    V_right i j o = (fact (is_V i j o)).bits.right refl ∙ (fact (is_v i j o)).bits.right refl ∙ ap (λ z. f' (b j) ⊕ z) (no_flip (f' (ρ i j)) ∙ ρ_flip i j o)

    V_half : (i j : ℕ) → Pair d i j → ProbedRole site (pair true i j) → Same T (wire (V' i j))
    V_half i j o t = stop_same (fact (is_V i j o)) refl (V_left i j o
        ∙ delta_half (ins site) (out site) (touched site true) a b f f' i j (f (ρ i j)) (λ q. (sb j o.snd q).valued) t.one t.two t.hit ∙ sym (V_right i j o))

    w_same : {x i j : ℕ} → Pair d i j → Seen x (w i j) → ProbedRole site (pair true i j) → Same T x
    w_same {i = i} {j = j} o h t = carry h refl refl (sa i o.fst t.one, (V_half i j o t, tt))

    -- the registers that a seen output adds up
    U_out : (i j : ℕ) → Pair d i j → In i (ins site) → In i (out site) → Same T (wire (U i j))
    U_out i j o q k =
        let h = fact (is_U i j o) in
        let g = fact (is_u i j o) in
        stop_same h refl (h.bits.left refl ∙ g.bits.left refl ∙ ap (λ z. not (f (a i)) && z) (R_left i j o)
        ∙ delta_u (ins site) (out site) (touched site true) a b f f' i j (f (ρ i j)) q k
        ∙ ap₂ (λ y z. not y && z) (sa i o.fst q).valued (sym (ρ_flip i j o) ∙ sym (R_right i j o)) ∙ sym (g.bits.right refl) ∙ sym (h.bits.right refl))

    W_out : (i j : ℕ) → Pair d i j → In i (ins site) → In i (out site) → Same T (wire (W i j))
    W_out i j o q k =
        let h = fact (is_W i j o) in
        let g = fact (is_w i j o) in
        stop_same h refl (h.bits.left refl ∙ g.bits.left refl ∙ ap (λ z. f (a i) && z) (V_left i j o)
        ∙ delta_w (ins site) (out site) (touched site true) a b f f' i j (f (ρ i j)) (λ l. (sb j o.snd l).valued) q k
        ∙ ap₂ (λ y z. y && z) (sa i o.fst q).valued (sym (V_right i j o)) ∙ sym (g.bits.right refl) ∙ sym (h.bits.right refl))

    -- an output in `out`
    c_same : (x i : ℕ) → i < d → OutFact site T flips x i → In i (out site) → Same T x
    c_same x i l h k = let q = out_ins site i k in
        carry h refl refl (output_every (Same T) wire l (held (fact (is_M i l)) (m_same l (fact (is_m i l)) q)) (λ j o. U_out i j o q k) (λ j o. W_out i j o q k))

    -- a probed inner wire, whichever it is
    inner-same : (x : ℕ) (p : Part) → InAND d p → Seen x p → ProbedRole site (role p) → Same T x
    inner-same x _ (is_r i j o l) h t = r_same i j h (quiet f f' i j t)
    inner-same x _ (is_R i j o l) h t = held h (r_same i j (fact (is_r i j o l)) (quiet f f' i j t))
    inner-same x _ (is_B i l) h t = held h (sb i l t)
    inner-same x _ (is_m i l) h t = m_same l h t
    inner-same x _ (is_M i l) h t = held h (m_same l (fact (is_m i l)) t)
    inner-same x _ (is_u i j o) h t = u_same o h t
    inner-same x _ (is_U i j o) h t = held h (u_same o (fact (is_u i j o)) t)
    inner-same x _ (is_v i j o) h t = v_same o h t
    inner-same x _ (is_V i j o) h t = held h (v_same o (fact (is_v i j o)) t)
    inner-same x _ (is_w i j o) h t = w_same o h t
    inner-same x _ (is_W i j o) h t = held h (w_same o (fact (is_w i j o)) t)

    pub and_good : AllFrom (Good T is_probed behind) first (entries_at site)
    and_good = good site T flips (InAND d) (and_parts d) inner-same c_same known

  -- flips are decided by the wires a and b
  module _ (la : (i : ℕ) → i < d → a i < first) (lb : (i : ℕ) → i < d → b i < first) where
    pairs : (i j x : ℕ) → first ≤ x → Pair d i j → Decided x (flip i j)
    pairs i j x l o f g f' g' h h' =
        let ai = la i o.fst in
        let aj = la j o.snd in
        let bi = lb i o.fst in
        let bj = lb j o.snd in
        delta_agree (ins site) (out site) (touched site true) a b i j f g f' g' (h (a i) (omega arith)) (h (a j) (omega arith)) (h (b i) (omega arith)) (h (b j) (omega arith)) (h' (b i) (omega arith)) (h' (b j) (omega arith))

    inner_decided : (x : ℕ) (p : Part) → first ≤ x → InAND d p → Decided x (flips (role p))
    inner_decided x _ n (is_r i j o l) = pairs i j x n o
    inner_decided x _ n (is_R i j o l) = pairs i j x n o
    inner_decided x _ n (is_B i l) = λ f g f' g' h h'. refl
    inner_decided x _ n (is_m i l) = λ f g f' g' h h'. refl
    inner_decided x _ n (is_M i l) = λ f g f' g' h h'. refl
    inner_decided x _ n (is_u i j o) = pairs i j x n o
    inner_decided x _ n (is_U i j o) = pairs i j x n o
    inner_decided x _ n (is_v i j o) = pairs j i x n (other o)
    inner_decided x _ n (is_V i j o) = pairs j i x n (other o)
    inner_decided x _ n (is_w i j o) = pairs i j x n o
    inner_decided x _ n (is_W i j o) = pairs i j x n o

    pub and_decided : AllFrom (λ x e. Decided x (flips e.role)) first (entries_at site)
    and_decided = entries_all site (λ x e. Decided x (flips e.role)) (all_of _ (InAND d) first (in_and d) inner_decided (and_parts d)) (all_any _ (λ x i f g f' g' h h'. refl) _ (labels d))
