-- The values of a circuit meet its equations: each wire that is no random bit has the value of its gate, from the values of all.
use mathlib.Core.Path.{◌≡◌, refl, sym, ap, subst, ◌∙◌}
use mathlib.Core.Bool.{Bool, false, cond, true≢false}
use mathlib.Core.List.{List, [], ◌∷◌, ◌++◌, map}
use Prim.Native.Nat.{ℕ}
use native.Mathlib.Omega.{arith}
use lib.ListN.{drop}
use Rattle.circuit.specs.Wires.{Gate, input, constant, random, reg, inverse, sum, product, and_not, Wire}
use Rattle.circuit.specs.Circuit.{Circuit, size, empty, made, extend}
use Rattle.circuit.proofs.Base.{no_flip, AllFrom, all_left, all_right, all_imp, all_map, all_unmap}
use Rattle.circuit.proofs.Building.{build_more, build-append}
use Rattle.circuit.specs.Composition.{Frame, build}
use Rattle.semantics.specs.Values.{at, value, is_random, values_from, values_of}
use Rattle.secrecy.proofs.Coupled.{Values, Step, Run, Low, EarlyStep, Settled, settled}

-- an evaluation beside itself, with no bit flipped
value-tape : (g : Gate) (f : Values) (sh t : List Bool) → is_random g ≡ false → value g f sh t ≡ value g f sh []
value-tape (input n) f sh t e = refl
value-tape (constant b) f sh t e = refl
value-tape random f sh t e = absurd (true≢false e)
value-tape (reg x) f sh t e = refl
value-tape (inverse x) f sh t e = refl
value-tape (sum xs) f sh t e = refl
value-tape (product x y) f sh t e = refl
value-tape (and_not x y) f sh t e = refl

-- a step that is never flipped
abbrev calm : Wire → Step
calm x = record { wire = x; shift = λ f f'. false }

-- the values of a circuit are the end of such a walk
run-values : (ws : List Wire) (sh t vs : List Bool) → Run sh sh (map calm ws) vs vs (values_from sh t vs ws) (values_from sh t vs ws)
run-values [] sh t vs = (refl, refl)
run-values (x ∷ ws) sh t vs =
    let g = x.gate in
    let b = value g (at vs) sh t in (
      b,
      b,
      record { left = λ e. value-tape g (at vs) sh t e; right = λ e. value-tape g (at vs) sh t e; flipped = λ e. sym (no_flip b) },
      run-values ws sh (cond (is_random g) (drop 1 t) t) (vs ++ (b ∷ [])),
    )

-- the wire x has the value of its gate, unless it is random
abbrev pub Meets : Values → List Bool → ℕ → Gate → Type 0
Meets f sh x g = is_random g ≡ false → f x ≡ value g f sh []

-- and so every wire does, where gates take earlier wires
equations : (ws : List Wire) → AllFrom (λ x w. Low x w.gate) 0 ws → (sh t : List Bool) → AllFrom (λ x w. Meets (at (values_of ws sh t)) sh x w.gate) 0 ws
equations ws low sh t =
    let g = values_of ws sh t in
    let early = all_map EarlyStep calm 0 ws (all_imp (λ x w. Low x w.gate) _ (λ x w l. record { low = l; decided = λ f h f' h' a a'. refl }) 0 ws low) in
    all_imp (λ x w. Settled sh sh g g x (calm w)) _ (λ x w b. b.left) 0 ws
    (all_unmap (Settled sh sh g g) calm 0 ws (settled sh sh (map calm ws) [] [] g g refl early (run-values ws sh t [])))

-- the wires that a frame f makes, in the circuit of frames with others before and behind it
pub made-meets : (d : ℕ) {all : List Frame} (fs : List Frame) (f : Frame) (gs : List Frame) → all ≡ fs ++ (f ∷ gs)
    → AllFrom (λ x w. Low x w.gate) 0 (build (empty d) all).wires → (sh t : List Bool) → let k = build (empty d) fs in
    AllFrom (λ x w. Meets (at (values_of (build (empty d) all).wires sh t)) sh x w.gate) (size k) (made k f.ops f.kind)
made-meets d {all} fs f gs q low sh t =
    let k = build (empty d) fs in
    let Q : ℕ → Wire → Type 0 = λ x w. Meets (at (values_of (build (empty d) all).wires sh t)) sh x w.gate in
    let new = made k f.ops f.kind in
    let (rest, e) = build_more (extend k f.ops f.kind) gs in
    let whole : (build (empty d) all).wires ≡ (k.wires ++ new) ++ rest = ap (λ l. (build (empty d) l).wires) q ∙ ap (λ (c : Circuit). c.wires) (build-append (empty d) fs (f ∷ gs)) ∙ e in
    subst (λ (n : ℕ). AllFrom Q n new) (omega arith)
    (all_right Q 0 k.wires new (all_left Q 0 (k.wires ++ new) rest (subst (AllFrom Q 0) whole (equations (build (empty d) all).wires low sh t))))
