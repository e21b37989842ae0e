-- A gadget in its place: what its wires are known to be, and what is wanted of them.
use mathlib.Core.Path.{◌≡◌, refl, ap, ◌∙◌}
use mathlib.Core.Bool.{Bool, true, false}
use mathlib.Core.List.{List, ◌++◌, map, map-append, map-map}
use mathlib.Core.Logic.{◌⊎◌}
use Prim.Native.Nat.{ℕ, ◌+◌, ◌<◌}
use native.Mathlib.Omega.{arith}
use lib.ListN.{length, length-map}
use Rattle.circuit.specs.Lists.{mem}
use Rattle.circuit.specs.Wires.{Gate, Place, named, inner, Wire, ◌placed◌}
use Rattle.circuit.specs.Gadgets.{Part, labels, gate, delay, index, gadget}
use Rattle.circuit.proofs.Base.{In, Sub, Has, Every, AllFrom, all_append, all_left, all_right, all_zip, all_map, all_unmap, all_every}
use Rattle.circuit.proofs.Parts.{index_at, labels_lt}
use Rattle.secrecy.proofs.Roles.{Role, lone, pair, role}
use Rattle.secrecy.proofs.Taken.{taken, taken_sub, taken_append, Chosen, chosen, seen, seen_all}
use Rattle.secrecy.proofs.Coupled.{Shift, Step}
use Rattle.secrecy.proofs.Same.{Two, Fact, Same}

-- a wire and its role
pub record Entry : Type 0 where
  pub wire : Wire
  pub role : Role

abbrev pub entry : Gate → Place → Role → Entry
entry g p o = record { wire = g placed p; role = o }

abbrev pub entry_wire : Entry → Wire
entry_wire e = e.wire

abbrev pub entry_role : Entry → Role
entry_role e = e.role

-- the wire as a step of the walk, where the role decides the shift
abbrev pub lift : (Role → Shift) → Entry → Step
lift δ e = record { wire = e.wire; shift = δ e.role }

-- what is known of a wire
abbrev pub Known : Two → (Role → Shift) → ℕ → Entry → Type 0
Known T δ x e = Fact T e.wire.gate (δ e.role) x

-- what is wanted of it: it looks the same if it is probed, or named with a label among the share indices behind
pub record Good (T : Two) (is_probed : ℕ → Bool) (behind : List ℕ) (x : ℕ) (e : Entry) : Type 0 where
  pub probed : is_probed x ≡ true → Same T x
  pub shown : (l t : ℕ) → e.wire.place ≡ named l t → In l behind → Same T x

-- an inner wire has no label
pub hidden : {A : Type 0} {n l t : ℕ} → inner n ≡ named l t → A
hidden z = let y : ◌≡◌ {A = ℕ} 0 1 = cc in absurd (omega arith)

-- a gadget of d shares from the wire `first` on, over the wires a and b: its inner parts, its outputs, the stages of b's wires and of the
-- outputs; which wires are probed; the share indices behind it
pub record Site : Type 0 where
  pub is_probed : ℕ → Bool
  pub d : ℕ
  pub first : ℕ
  pub a : ℕ → ℕ
  pub b : ℕ → ℕ
  pub inside : List Part
  pub output : ℕ → Part
  pub start : ℕ
  pub end : ℕ
  pub behind : List ℕ

module _ (here : Site) where
  open here use {is_probed, d, first, a, b, inside, output, start, end, behind}

  -- the wire of a part, and its gate
  abbrev pub number : Part → ℕ
  number p = first + index p inside

  abbrev pub gate_of : Part → Gate
  gate_of p = gate d a b number p

  -- the wires of the gadget with their roles
  abbrev inner_entry : Part → Entry
  inner_entry p = entry (gate_of p) (inner (start + delay p)) (role p)

  abbrev outer_entry : ℕ → Entry
  outer_entry i = entry (gate_of (output i)) (named i end) (lone i)

  unfoldable pub entries_at : List Entry
  entries_at = map inner_entry inside ++ map outer_entry (labels d)

  pub wires-at : map entry_wire entries_at ≡ gadget d first a b inside output start end
  unfolding entries_at gadget
  wires-at = simp (map-append, map-map)

  -- the share indices once the outputs are taken, and once the inner parts are taken too
  unfoldable pub out : List ℕ
  out = taken is_probed behind (first + length inside) (map lone (labels d))

  unfoldable pub ins : List ℕ
  ins = taken is_probed out first (map role inside)

  pub ins_eq : taken is_probed behind first (map entry_role entries_at) ≡ ins
  unfolding entries_at ins out
  ins_eq = simp (map-append, map-map) (taken_append is_probed behind first (map role inside) (map lone (labels d))
      ∙ ap (λ n. taken is_probed (taken is_probed behind (first + n) (map lone (labels d))) first (map role inside)) (length-map inside role))

  pub out_ins : Sub out ins
  unfolding ins
  out_ins = taken_sub is_probed out first (map role inside)

  pub behind-out : Sub behind out
  unfolding out
  behind-out = taken_sub is_probed behind (first + length inside) (map lone (labels d))

  -- whether an inner wire of this pair is probed
  unfoldable pub touched : Bool → ℕ → ℕ → Bool
  touched x i j = seen is_probed x i j first (map role inside)

  -- what a probed inner wire says
  pub record Pick (x : Bool) (p q : ℕ) : Type 0 where
    pub one : In p ins
    pub two : In q ins ⊎ (mem p out ≡ false)
    pub hit : touched x p q ≡ true

  -- the same of a wire of any role
  abbrev pub ProbedRole : Role → Type 0
  ProbedRole (lone i) = In i ins
  ProbedRole (pair x p q) = Pick x p q

  tell : (o : Role) → Chosen out ins o → ((x : Bool) (p q : ℕ) → o ≡ pair x p q → touched x p q ≡ true) → ProbedRole o
  tell (lone i) h k = h
  tell (pair x p q) h k = record { one = h.0; two = h.1; hit = k x p q refl }

  told : AllFrom (λ x p. is_probed x ≡ true → ProbedRole (role p)) first inside
  unfolding ins touched
  told = all_unmap (λ x o. is_probed x ≡ true → ProbedRole o) role first inside
      (all_zip (λ x o. is_probed x ≡ true → Chosen out ins o) (λ x o. is_probed x ≡ true → (y : Bool) (p q : ℕ) → o ≡ pair y p q → touched y p q ≡ true) (λ x o. is_probed x ≡ true → ProbedRole o)
      (λ x o h k p. tell o (h p) (k p)) first (map role inside) (chosen is_probed out first (map role inside)) (seen_all is_probed first (map role inside)))

  outside : AllFrom (λ x i. is_probed x ≡ true → In i out) (first + length inside) (labels d)
  unfolding out
  outside = all_unmap (λ x o. is_probed x ≡ true → Chosen behind out o) lone (first + length inside) (labels d) (chosen is_probed behind (first + length inside) (map lone (labels d)))

  -- a property of the wires, of the inner parts and of the outputs
  module _ (Q : ℕ → Entry → Type 0) where
    pub entries_all : AllFrom (λ x p. Q x (inner_entry p)) first inside → AllFrom (λ x i. Q x (outer_entry i)) (first + length inside) (labels d) → AllFrom Q first entries_at
    unfolding entries_at
    entries_all h k = all_append Q first (map inner_entry inside) (map outer_entry (labels d)) (all_map Q inner_entry first inside h) (rw (length-map inside inner_entry) (all_map Q outer_entry _ (labels d) k))

    entries_inner : AllFrom Q first entries_at → AllFrom (λ x p. Q x (inner_entry p)) first inside
    unfolding entries_at
    entries_inner h = all_unmap Q inner_entry first inside (all_left Q first (map inner_entry inside) (map outer_entry (labels d)) h)

    entries_outer : AllFrom Q first entries_at → AllFrom (λ x i. Q x (outer_entry i)) (first + length inside) (labels d)
    unfolding entries_at
    entries_outer h = all_unmap Q outer_entry _ (labels d) (rw (length-map inside inner_entry) at (all_right Q first (map inner_entry inside) (map outer_entry (labels d)) h))

  module _ (T : Two) (δ : Role → Shift) where
    -- what is known of the wire x, that of a part or of an output
    abbrev pub PartFact : ℕ → Part → Type 0
    PartFact x p = Fact T (gate_of p) (δ (role p)) x

    abbrev pub OutFact : ℕ → ℕ → Type 0
    OutFact x i = Fact T (gate_of (output i)) (δ (lone i)) x

    -- what is known of a part, at its number
    pub look : AllFrom (Known T δ) first entries_at → (p : Part) → Has p inside → PartFact (number p) p
    look h p k = index_at PartFact first inside p k (entries_inner (Known T δ) h)

    -- where every inner part and every output look the same if they must, so does every wire of the gadget
    pub good : (Ok : Part → Type 0) → Every Ok inside
        → ((x : ℕ) (p : Part) → Ok p → PartFact x p → ProbedRole (role p) → Same T x)
        → ((x i : ℕ) → i < d → OutFact x i → In i out → Same T x)
        → AllFrom (Known T δ) first entries_at → AllFrom (Good T is_probed behind) first entries_at
    good Ok ok inn outp h =
        let G = Good T is_probed behind in
        let n = first + length inside in
        let Told : ℕ → Part → Type 0 = λ x p. is_probed x ≡ true → ProbedRole (role p) in
        let Shown : ℕ → ℕ → Type 0 = λ x i. is_probed x ≡ true → In i out in
        entries_all G
        (all_every (λ x p. G x (inner_entry p)) Ok first inside (all_zip PartFact Told (λ x p. Ok p → G x (inner_entry p))
        (λ x p f q o. record { probed = λ z. inn x p o f (q z); shown = λ l t z i. hidden z }) first inside (entries_inner (Known T δ) h) told) ok)
        (all_every (λ x i. G x (outer_entry i)) (λ i. i < d) n (labels d) (all_zip OutFact Shown (λ x i. i < d → G x (outer_entry i))
        (λ x i f q o. record { probed = λ z. outp x i o f (q z); shown = λ l t z k. outp x i o f (behind-out i (let e : l ≡ i = cc in rw e at k)) }) n (labels d) (entries_outer (Known T δ) h) outside) (labels_lt d))
