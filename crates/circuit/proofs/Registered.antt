-- Which wires are registered, by the kind of their frame: those of IN, CON and REG, and the outputs of REF.
use mathlib.Core.Path.{◌≡◌, refl}
use mathlib.Core.Bool.{Bool, true, false}
use mathlib.Core.List.{List}
use Prim.Native.Nat.{ℕ}
use native.Mathlib.Omega.{arith}
use Rattle.circuit.specs.Wires.{is_stop, named, inner, Wire}
use Rattle.circuit.specs.Gadgets.{c, S, in_and, in_ref}
use Rattle.circuit.specs.Kinds.{Kind, HEAD, IN, CON, XOR, NOT, REG, AND, REF, OUT}
use Rattle.circuit.specs.Circuit.{Circuit, size, new_stage, made}
use Rattle.circuit.proofs.Base.{AllFrom, all_any}
use Rattle.circuit.proofs.Numbered.{at_all}
use Rattle.circuit.proofs.Building.{gadget-all}

-- document 02's list: an IN, CON or REG wire, or a REF output
abbrev pub registered_kind : Kind → Bool
registered_kind HEAD = false
registered_kind IN = true
registered_kind CON = true
registered_kind XOR = false
registered_kind NOT = false
registered_kind REG = true
registered_kind AND = false
registered_kind REF = true
registered_kind OUT = false

-- a wire that frames may name is registered where its frame's kind says so
abbrev pub RegisteredBy : Kind → ℕ → Wire → Type 0
RegisteredBy kind x wire = (l t : ℕ) → wire.place ≡ named l t → is_stop wire.gate ≡ registered_kind kind

not_named : {A : Type 0} {s l t : ℕ} → inner s ≡ named l t → A
not_named e = absurd (let z : ◌≡◌ {A = ℕ} 0 1 = cc in omega arith)

pub registered_kinds : (k : Circuit) (ops : List ℕ) (kind : Kind) → AllFrom (RegisteredBy kind) (size k) (made k ops kind)
unfolding made new_stage
registered_kinds k ops HEAD = tt
registered_kinds k ops IN = at_all (RegisteredBy IN) _ (size k) 0 k.d (λ i o l t e. refl)
registered_kinds k ops CON = (λ l t e. refl, tt)
registered_kinds k ops XOR = (λ l t e. refl, tt)
registered_kinds k ops NOT = (λ l t e. refl, tt)
registered_kinds k ops REG = (λ l t e. refl, tt)
registered_kinds k ops AND = gadget-all k.d (size k) _ _ (in_and k.d) c _ _ (RegisteredBy AND) (all_any _ (λ x p l t. not_named) (size k) (in_and k.d)) (λ x i o g l t e. refl)
registered_kinds k ops REF = gadget-all k.d (size k) _ _ (in_ref k.d) S _ _ (RegisteredBy REF) (all_any _ (λ x p l t. not_named) (size k) (in_ref k.d)) (λ x i o g l t e. refl)
registered_kinds k ops OUT = tt
