-- The frames: every probed wire, and every named wire whose label is among the share indices behind, looks the same.
use mathlib.Core.Path.{◌≡◌, refl, sym, subst, ◌∙◌}
use mathlib.Core.Bool.{Bool, true}
use mathlib.Core.List.{List, [], ◌∷◌, map, map-map}
use Prim.Native.Nat.{ℕ, suc, ◌+◌, ◌*◌, ◌<◌}
use native.Mathlib.Omega.{arith}
use Rattle.circuit.specs.Lists.{nth}
use Rattle.circuit.specs.Wires.{Gate, input, constant, reg, inverse, sum, named, Wire}
use Rattle.circuit.specs.Gadgets.{labels}
use Rattle.circuit.specs.Kinds.{Kind, HEAD, IN, CON, XOR, NOT, REG, AND, REF, OUT}
use Rattle.circuit.specs.Circuit.{Circuit, size, place, label_shown, stage_shown, is_set, new_stage, made, look_up}
use Rattle.circuit.proofs.Base.{In, in_head, AllFrom, all_zip, all_map, all_unmap, all_every}
use Rattle.circuit.proofs.Parts.{labels_lt}
use Rattle.circuit.specs.Composition.{Fits, fit-IN, fit-CON, fit-XOR, fit-NOT, fit-REG, fit-AND, fit-REF, fit-OUT}
use Rattle.circuit.proofs.Numbered.{all_get}
use Rattle.circuit.proofs.Building.{named-made, label-told}
use Rattle.semantics.specs.Values.{at}
use Rattle.secrecy.proofs.Roles.{Role, lone}
use Rattle.secrecy.proofs.Taken.{taken, taken_sub, chosen, Chosen}
use Rattle.secrecy.proofs.Coupled.{Shift, Decided}
use Rattle.secrecy.proofs.Same.{Two, Same, settle, carry}
use Rattle.secrecy.proofs.Sites.{Site, Entry, entry, entry_wire, entry_role, Known, Good, entries_at, wires-at, ins_eq}
use Rattle.secrecy.proofs.And.{site, flips, and_good, and_decided}
use Rattle.secrecy.proofs.Ref.{still, still_decided, refsite, ref_good}

-- the wires of a frame with their roles, where P are probed and the share indices `behind` stand behind it
module _ (is_probed : ℕ → Bool) (behind : List ℕ) (k : Circuit) where
  -- a frame's words: the wires a, which are REF's wires too, and the wires b
  abbrev wire_a : List ℕ → ℕ → ℕ
  wire_a ops i = nth ops (1 + i)

  abbrev wire_b : List ℕ → ℕ → ℕ
  wire_b ops i = nth ops (1 + k.d + i)

  abbrev stage_at : List ℕ → ℕ → ℕ
  stage_at ops i = stage_shown (look_up k (nth ops i))

  abbrev and_site : List ℕ → Site
  and_site ops = site is_probed k.d (size k) (wire_a ops) (wire_b ops) (stage_at ops (1 + k.d)) (new_stage k ops AND) behind

  abbrev ref_site : List ℕ → Site
  ref_site ops = refsite is_probed k.d (size k) (wire_a ops) (stage_at ops 1) (new_stage k ops REF) behind

  -- a wire of IN, and a wire with the label of the first that the frame names
  abbrev in_entry : List ℕ → ℕ → Entry
  in_entry ops i = entry (input (k.inputs * k.d + i)) (named i (new_stage k ops IN)) (lone i)

  abbrev alike : List ℕ → Kind → Gate → Entry
  alike ops kind g = let l = label_shown (look_up k (nth ops 0)) in entry g (named l (new_stage k ops kind)) (lone l)

  unfoldable pub entries : List ℕ → Kind → List Entry
  entries ops HEAD = []
  entries ops IN = map (in_entry ops) (labels k.d)
  entries ops CON = entry (constant (is_set (nth ops 1))) (named (nth ops 0) (new_stage k ops CON)) (lone (nth ops 0)) ∷ []
  entries ops XOR = alike ops XOR (sum (nth ops 0 ∷ nth ops 1 ∷ [])) ∷ []
  entries ops NOT = alike ops NOT (inverse (nth ops 0)) ∷ []
  entries ops REG = alike ops REG (reg (nth ops 0)) ∷ []
  entries ops AND = entries_at (and_site ops)
  entries ops REF = entries_at (ref_site ops)
  entries ops OUT = []

  -- only AND flips random bits
  unfoldable pub frame_flips : List ℕ → Kind → Role → Shift
  frame_flips ops HEAD = still
  frame_flips ops IN = still
  frame_flips ops CON = still
  frame_flips ops XOR = still
  frame_flips ops NOT = still
  frame_flips ops REG = still
  frame_flips ops AND = flips is_probed k.d (size k) (wire_a ops) (wire_b ops) (stage_at ops (1 + k.d)) (new_stage k ops AND) behind
  frame_flips ops REF = still
  frame_flips ops OUT = still

  pub frame-wires : (ops : List ℕ) (kind : Kind) → map entry_wire (entries ops kind) ≡ made k ops kind
  unfolding entries made new_stage
  frame-wires ops HEAD = refl
  frame-wires ops IN = map-map entry_wire (in_entry ops) (labels k.d)
  frame-wires ops CON = refl
  frame-wires ops XOR = refl
  frame-wires ops NOT = refl
  frame-wires ops REG = refl
  frame-wires ops AND = wires-at (and_site ops)
  frame-wires ops REF = wires-at (ref_site ops)
  frame-wires ops OUT = refl

  -- the share indices before a frame
  abbrev pub before : List ℕ → Kind → List ℕ
  before ops kind = taken is_probed behind (size k) (map entry_role (entries ops kind))

  module _ (T : Two) where
    abbrev G : ℕ → Entry → Type 0
    G = Good T is_probed behind

    -- what is known before a frame: wires named with labels in J look the same, and so do shares with labels in J
    abbrev pub Shown : List ℕ → ℕ → Wire → Type 0
    Shown J x wire = (l t : ℕ) → wire.place ≡ named l t → In l J → Same T x

    abbrev pub Holds : List ℕ → Type 0
    Holds J = AllFrom (Shown J) 0 k.wires

    pub held : (J : List ℕ) → Holds J → (x l t : ℕ) → place k x ≡ named l t → In l J → Same T x
    held J h x l t p i = subst (Same T) (omega arith) (all_get (Shown J) 0 k.wires _ h x (named-made k x l t p) l t p i)

    abbrev pub Shares : List ℕ → Type 0
    Shares J = (n i : ℕ) → i < k.d → In i J → at T.sh (n * k.d + i) ≡ at T.sh' (n * k.d + i)

    -- a frame of one wire, whose label is l
    single : (g : Gate) (l t : ℕ) → (In l (taken is_probed behind (size k) (lone l ∷ [])) → Same T (size k)) → AllFrom G (size k) (entry g (named l t) (lone l) ∷ [])
    single g l t f = (
      record { probed = λ h. f (rw h (in_head l behind)); shown = λ j y z i. f (taken_sub is_probed behind (size k) (lone l ∷ []) l (let e : j ≡ l = cc in rw e at i)) },
      tt,
    )

    inputs_good : (ops : List ℕ) → Shares (taken is_probed behind (size k) (map entry_role (map (in_entry ops) (labels k.d))))
        → AllFrom (Known T still) (size k) (map (in_entry ops) (labels k.d)) → AllFrom G (size k) (map (in_entry ops) (labels k.d))
    inputs_good ops sh h =
        let es = map (in_entry ops) (labels k.d) in
        let J = taken is_probed behind (size k) (map entry_role es) in
        let n = size k in
        let is = labels k.d in
        let F : ℕ → ℕ → Type 0 = λ x i. Known T still x (in_entry ops i) in
        let C : ℕ → ℕ → Type 0 = λ x i. is_probed x ≡ true → In i J in
        let cs : AllFrom C n is = all_unmap (λ x e. is_probed x ≡ true → Chosen behind J (entry_role e)) (in_entry ops) n is (all_unmap (λ x o. is_probed x ≡ true → Chosen behind J o) entry_role n es (chosen is_probed behind n (map entry_role es))) in
        let one : (x i : ℕ) → i < k.d → F x i → In i J → Same T x = λ x i l f q. settle f (f.bits.left refl ∙ sh k.inputs i l q ∙ sym (f.bits.right refl)) (λ z. tt) in
        all_map G (in_entry ops) n is (all_every (λ x i. G x (in_entry ops i)) (λ i. i < k.d) n is (all_zip F C (λ x i. i < k.d → G x (in_entry ops i))
        (λ x i f c l. record { probed = λ p. one x i l f (c p); shown = λ j y z q. one x i l f (taken_sub is_probed behind n (map entry_role es) i (let e : j ≡ i = cc in rw e at q)) })
        n is (all_unmap (Known T still) (in_entry ops) n is h) cs) (labels_lt k.d))

    pub frame_good : {kind : Kind} {ops : List ℕ} → Fits k kind ops → Shares (before ops kind)
        → ((x l t : ℕ) → place k x ≡ named l t → In l (before ops kind) → Same T x) → AllFrom (Known T (frame_flips ops kind)) (size k) (entries ops kind) → AllFrom G (size k) (entries ops kind)
    unfolding entries frame_flips
    frame_good (fit-IN t e) sh i h = inputs_good (t ∷ []) sh h
    frame_good (fit-CON l b t o e f) sh i h = single (constant (is_set b)) l (new_stage k (l ∷ b ∷ t ∷ []) CON) (λ q. carry h.0 refl refl tt)
    frame_good (fit-XOR x y l t p q) sh i h = single (sum (x ∷ y ∷ [])) (label_shown (look_up k x)) (new_stage k (x ∷ y ∷ []) XOR)
        (λ z. let e : In l (before (x ∷ y ∷ []) XOR) = subst (λ (j : ℕ). In j (before (x ∷ y ∷ []) XOR)) (label-told k x p) z in carry h.0 refl refl (i x l t p e, (i y l t q e, tt)))
    frame_good (fit-NOT x l t p) sh i h = single (inverse x) (label_shown (look_up k x)) (new_stage k (x ∷ []) NOT)
        (λ z. carry h.0 refl refl (i x l t p (subst (λ (j : ℕ). In j (before (x ∷ []) NOT)) (label-told k x p) z), tt))
    frame_good (fit-REG x l t p e) sh i h = single (reg x) (label_shown (look_up k x)) (new_stage k (x ∷ []) REG)
        (λ z. carry h.0 refl refl (i x l t p (subst (λ (j : ℕ). In j (before (x ∷ []) REG)) (label-told k x p) z), tt))
    frame_good (fit-AND ops t n z p q s) sh i h =
        let e = ins_eq (and_site ops) in
        and_good is_probed k.d (size k) (wire_a ops) (wire_b ops) (stage_at ops (1 + k.d)) (new_stage k ops AND) behind T h
        (λ j l z. i (wire_a ops j) j (suc t) (p j l) (rw e z)) (λ j l z. i (wire_b ops j) j t (q j l) (rw e z))
    frame_good (fit-REF ops t n z p s) sh i h =
        let e = ins_eq (ref_site ops) in
        ref_good is_probed k.d (size k) (wire_a ops) (stage_at ops 1) (new_stage k ops REF) behind T h (λ j l z. i (wire_a ops j) j t (p j l) (rw e z))
    frame_good (fit-OUT ops t n p q) sh i h = tt

  -- no flip but AND's, which is decided by the wires a and b
  pub frame_decided : {kind : Kind} {ops : List ℕ} → Fits k kind ops → AllFrom (λ x e. Decided x (frame_flips ops kind e.role)) (size k) (entries ops kind)
  unfolding entries frame_flips
  frame_decided (fit-IN t e) = still_decided (size k) (entries (t ∷ []) IN)
  frame_decided (fit-CON l b t o e f) = still_decided (size k) (entries (l ∷ b ∷ t ∷ []) CON)
  frame_decided (fit-XOR x y l t p q) = still_decided (size k) (entries (x ∷ y ∷ []) XOR)
  frame_decided (fit-NOT x l t p) = still_decided (size k) (entries (x ∷ []) NOT)
  frame_decided (fit-REG x l t p e) = still_decided (size k) (entries (x ∷ []) REG)
  frame_decided (fit-AND ops t n z p q s) = and_decided is_probed k.d (size k) (wire_a ops) (wire_b ops) (stage_at ops (1 + k.d)) (new_stage k ops AND) behind
      (λ i l. named-made k (wire_a ops i) i (suc t) (p i l)) (λ i l. named-made k (wire_b ops i) i t (q i l))
  frame_decided (fit-REF ops t n z p s) = still_decided (size k) (entries ops REF)
  frame_decided (fit-OUT ops t n p q) = tt
