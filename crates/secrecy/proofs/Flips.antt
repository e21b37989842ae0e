-- The flip of a random bit of AND in the second evaluation, and what it does to the gadget's wires: bits only.
use mathlib.Core.Path.{◌≡◌, refl, sym, ap, ◌∙◌}
use mathlib.Core.Bool.{Bool, true, false, cond, not, ◌&&◌}
use mathlib.Core.List.{List}
use mathlib.Core.Logic.{◌⊎◌, ⊎_elim}
use Prim.Native.Nat.{ℕ}
use Rattle.circuit.specs.Lists.{◌⊕◌, mem}
use Rattle.circuit.proofs.Base.{no_flip, cases, clash, In}
use Rattle.secrecy.proofs.Coupled.{Values, Shift}

-- x where only the first of two labels is there, y where only the second is, and no flip otherwise
abbrev one_of : Bool → Bool → Bool → Bool → Bool
one_of true true x y = false
one_of true false x y = x
one_of false true x y = y
one_of false false x y = false

one_of_swap : (p q x y : Bool) → one_of p q x y ≡ one_of q p y x
one_of_swap true true x y = refl
one_of_swap true false x y = refl
one_of_swap false true x y = refl
one_of_swap false false x y = refl

flip : (r : Bool) → (r ⊕ true) ≡ not r
flip true = refl
flip false = refl

-- the bits: a wire b + r is restored by the flip b + b'
restore : (b b' r : Bool) → (b ⊕ r) ≡ (b' ⊕ (r ⊕ (b ⊕ b')))
restore true true r = ap not (sym (no_flip r))
restore true false r = sym (flip r)
restore false true true = refl
restore false true false = refl
restore false false r = sym (no_flip r)

gate_u : (a r e : Bool) → (not a && r) ≡ (not a && (r ⊕ (a && e)))
gate_u true r e = refl
gate_u false r e = sym (no_flip r)

gate_w : (a b b' r : Bool) → (a && (b ⊕ r)) ≡ (a && (b' ⊕ (r ⊕ (a && (b ⊕ b')))))
gate_w true b b' r = restore b b' r
gate_w false b b' r = refl

-- `ins` and `out` are the share indices before and behind AND's inner wires; halfSeen tells whether w or W of (i,j) is probed;
-- a and b are the wires that AND is given
module _ (ins out : List ℕ) (half_seen : ℕ → ℕ → Bool) (a b : ℕ → ℕ) where
  -- the flip of r(i,j) where i is in `ins` and j is not: a(i)·(b(j) + b'(j)) if the output i may be seen, and b(j) + b'(j) if not
  -- and w or W is
  unfoldable pub part : ℕ → ℕ → Shift
  part i j v v' = cond (mem i out) (v (a i)) (half_seen i j) && (v (b j) ⊕ v' (b j))

  -- the flip of r(i,j)
  unfoldable pub delta : ℕ → ℕ → Shift
  delta i j v v' = one_of (mem i ins) (mem j ins) (part i j v v') (part j i v v')

  pub delta_swap : (i j : ℕ) (v v' : Values) → delta i j v v' ≡ delta j i v v'
  unfolding delta
  delta_swap i j v v' = one_of_swap (mem i ins) (mem j ins) (part i j v v') (part j i v v')

  module _ (v v' : Values) where
    delta_both : (i j : ℕ) → In i ins → In j ins → delta i j v v' ≡ false
    unfolding delta
    delta_both i j p q = rw (p, q)

    delta_one : (i j : ℕ) → In i ins → mem j ins ≡ false → delta i j v v' ≡ part i j v v'
    unfolding delta
    delta_one i j p q = rw (p, q)

    -- a probed wire r, R, u, U, v, V of the pair: the bit is not flipped
    pub delta_none : (i j : ℕ) → In i ins → (In j ins ⊎ (mem i out ≡ false)) → (half_seen i j ≡ true → In j ins) → delta i j v v' ≡ false
    unfolding part
    delta_none i j p c s = cases (mem j ins) (delta_both i j p)
        (λ n. delta_one i j p n ∙ ⊎_elim (λ k. clash k n)
        (λ (o : mem i out ≡ false). cases (half_seen i j) (λ k. clash (s k) n) (λ k. rw (o, k))) c)

    -- a probed wire w, W of the pair: V is restored
    pub delta_half : (i j : ℕ) (r : Bool) → (In j ins → v (b j) ≡ v' (b j)) → In i ins → (In j ins ⊎ (mem i out ≡ false)) → half_seen i j ≡ true
        → (v (b j) ⊕ r) ≡ (v' (b j) ⊕ (r ⊕ delta i j v v'))
    unfolding part
    delta_half i j r sb p c s = cases (mem j ins)
        (λ q. rw (delta_both i j p q, no_flip r, sb q))
        (λ n. rw (delta_one i j p n) (⊎_elim (λ k. clash k n) (λ (o : mem i out ≡ false). rw (o, s) (restore (v (b j)) (v' (b j)) r)) c))

    -- the output i is seen: U and W keep their values
    pub delta_u : (i j : ℕ) (r : Bool) → In i ins → In i out → (not (v (a i)) && r) ≡ (not (v (a i)) && (r ⊕ delta i j v v'))
    unfolding part
    delta_u i j r p o = cases (mem j ins)
        (λ q. rw (delta_both i j p q, no_flip r))
        (λ n. rw (delta_one i j p n, o) (gate_u (v (a i)) r (v (b j) ⊕ v' (b j))))

    pub delta_w : (i j : ℕ) (r : Bool) → (In j ins → v (b j) ≡ v' (b j)) → In i ins → In i out → (v (a i) && (v (b j) ⊕ r)) ≡ (v (a i) && (v' (b j) ⊕ (r ⊕ delta i j v v')))
    unfolding part
    delta_w i j r sb p o = cases (mem j ins)
        (λ q. rw (delta_both i j p q, no_flip r, sb q))
        (λ n. rw (delta_one i j p n, o) (gate_w (v (a i)) (v (b j)) (v' (b j)) r))

  -- it is decided by the wires a and b
  pub delta_agree : (i j : ℕ) (v w v' w' : Values) → v (a i) ≡ w (a i) → v (a j) ≡ w (a j) → v (b i) ≡ w (b i) → v (b j) ≡ w (b j)
      → v' (b i) ≡ w' (b i) → v' (b j) ≡ w' (b j) → delta i j v v' ≡ delta i j w w'
  unfolding delta part
  delta_agree i j v w v' w' p q x y x' y' = cc
