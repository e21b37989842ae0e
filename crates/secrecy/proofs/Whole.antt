-- Frame after frame: in two coupled evaluations that agree at the share indices taken, every probed wire looks the same.
use mathlib.Core.Path.{◌≡◌, refl, sym, ap, subst, ◌∙◌}
use mathlib.Core.Bool.{Bool, true}
use mathlib.Core.List.{List, [], ◌∷◌, ◌++◌, map, append_assoc, append-nil, map-append, map-map}
use Prim.Native.Nat.{ℕ, ◌+◌, ◌≤◌}
use native.Mathlib.Omega.{arith}
use lib.ListN.{length, length-append, length-map}
use Rattle.circuit.specs.Circuit.{Circuit, size, made, extend}
use Rattle.circuit.specs.Composition.{Frame, build, AllFit, done, next}
use Rattle.circuit.proofs.Base.{Sub, AllFrom, all_append, all_left, all_right, all_imp, all_map, all_unmap}
use Rattle.secrecy.proofs.Frames.{entries, frame_flips, frame-wires, before, Shown, Holds, held, Shares, frame_good, frame_decided}
use Rattle.secrecy.proofs.Roles.{Role}
use Rattle.secrecy.proofs.Taken.{taken, taken_sub, taken_append, taken_length, count}
use Rattle.secrecy.proofs.Coupled.{Shift, Step, wire_of, Decided}
use Rattle.secrecy.proofs.Same.{Two, Fact, Same}
use Rattle.secrecy.proofs.Sites.{Entry, entry_wire, entry_role, lift, Good}

-- the circuit with one frame more
abbrev pub step : Circuit → Frame → Circuit
step k f = extend k f.ops f.kind

-- the probed wires, and the share indices to start from
module _ (is_probed : ℕ → Bool) (start : List ℕ) where
  -- a frame's wires with their roles, and its flips, where these share indices stand behind it
  abbrev entries_of : List ℕ → Circuit → Frame → List Entry
  entries_of behind k f = entries is_probed behind k f.ops f.kind

  abbrev flips_of : List ℕ → Circuit → Frame → Role → Shift
  flips_of behind k f = frame_flips is_probed behind k f.ops f.kind

  -- the share indices before a list of frames
  abbrev pub front : Circuit → List Frame → List ℕ
  front k [] = start
  front k (f ∷ fs) = before is_probed (front (step k f) fs) k f.ops f.kind

  -- the wires of frames as the steps of one walk
  abbrev pub steps : Circuit → List Frame → List Step
  steps k [] = []
  steps k (f ∷ fs) = map (lift (flips_of (front (step k f) fs) k f)) (entries_of (front (step k f) fs) k f) ++ steps (step k f) fs

  pub steps_wires : (k : Circuit) (fs : List Frame) → (build k fs).wires ≡ k.wires ++ map wire_of (steps k fs)
  steps_wires k [] = sym (append-nil k.wires)
  steps_wires k (f ∷ fs) = let behind = front (step k f) fs in let es = entries_of behind k f in let δ = flips_of behind k f in
      steps_wires (step k f) fs ∙ append_assoc k.wires (made k f.ops f.kind) (map wire_of (steps (step k f) fs))
      ∙ rw (map-append wire_of (map (lift δ) es) (steps (step k f) fs), map-map wire_of (lift δ) es, frame-wires is_probed behind k f.ops f.kind)

  size_step : (k : Circuit) (f : Frame) (behind : List ℕ) → size (step k f) ≡ size k + length (entries_of behind k f)
  size_step k f behind = length-append k.wires (made k f.ops f.kind) ∙ ap (λ x. size k + x) (ap length (sym (frame-wires is_probed behind k f.ops f.kind)) ∙ length-map (entries_of behind k f) entry_wire)

  -- the roles of the wires of frames, by which the share indices are taken all at once
  pub roles : Circuit → List Frame → List Role
  roles k [] = []
  roles k (f ∷ fs) = map entry_role (entries_of (front (step k f) fs) k f) ++ roles (step k f) fs

  front_taken : (k : Circuit) (fs : List Frame) → front k fs ≡ taken is_probed start (size k) (roles k fs)
  unfolding roles
  front_taken k [] = refl
  front_taken k (f ∷ fs) = let behind = front (step k f) fs in let rs = map entry_role (entries_of behind k f) in
      ap (λ x. taken is_probed x (size k) rs) (front_taken (step k f) fs
      ∙ ap (λ n. taken is_probed start n (roles (step k f) fs)) (size_step k f behind ∙ ap (λ n. size k + n) (sym (length-map (entries_of behind k f) entry_role))))
      ∙ sym (taken_append is_probed start (size k) rs (roles (step k f) fs))

  pub front_sub : (k : Circuit) (fs : List Frame) → Sub start (front k fs)
  front_sub k fs = rw (front_taken k fs) (taken_sub is_probed start (size k) (roles k fs))

  pub front_length : (k : Circuit) (fs : List Frame) → length (front k fs) ≤ length start + count is_probed (size k) (roles k fs)
  front_length k fs = rw (front_taken k fs) (taken_length is_probed start (size k) (roles k fs))

  -- a property of the steps of a frame, and of those behind it
  steps_all : (Q : ℕ → Step → Type 0) (k : Circuit) (f : Frame) (fs : List Frame) → let behind = front (step k f) fs in
      AllFrom (λ x e. Q x (lift (flips_of behind k f) e)) (size k) (entries_of behind k f) → AllFrom Q (size (step k f)) (steps (step k f) fs) → AllFrom Q (size k) (steps k (f ∷ fs))
  steps_all Q k f fs h rest = let behind = front (step k f) fs in let es = entries_of behind k f in let δ = flips_of behind k f in
      all_append Q (size k) (map (lift δ) es) (steps (step k f) fs) (all_map Q (lift δ) (size k) es h)
      (rw (length-map es (lift δ), ← size_step k f behind) rest)

  -- every flip is decided by earlier values
  pub decided : {k : Circuit} {fs : List Frame} → AllFit k fs → AllFrom (λ x s. Decided x s.shift) (size k) (steps k fs)
  decided done = tt
  decided (next {k = k} {f = f} {fs = fs} t room ts) = steps_all (λ x s. Decided x s.shift) k f fs (frame_decided is_probed (front (step k f) fs) k t) (decided ts)

  module _ (T : Two) (J : List ℕ) where
    -- what is known of the wires, and what is wanted of them
    abbrev pub Sure : ℕ → Step → Type 0
    Sure x s = Fact T s.wire.gate s.shift x

    abbrev pub Seen : ℕ → Step → Type 0
    Seen x s = is_probed x ≡ true → Same T x

    -- after a frame, the wires named with labels behind it look the same
    holds_step : (k : Circuit) (f : Frame) (behind : List ℕ) → Holds is_probed behind k T behind → AllFrom (Good T is_probed behind) (size k) (entries_of behind k f) → Holds is_probed behind (step k f) T behind
    holds_step k f behind h q = let S = Shown is_probed behind k T behind in let es = entries_of behind k f in
        all_append S 0 k.wires (made k f.ops f.kind) h (subst (λ n. AllFrom S n (made k f.ops f.kind)) (omega arith)
        (rw (frame-wires is_probed behind k f.ops f.kind) at (all_map S entry_wire (size k) es (all_imp (Good T is_probed behind) (λ x e. S x e.wire) (λ x e g. g.shown) (size k) es q))))

    -- so frame after frame: every probed wire looks the same, and in the end every wire named with a label to start from
    pub static : {k : Circuit} {fs : List Frame} → AllFit k fs → Shares is_probed start k T J → Sub (front k fs) J → Holds is_probed start k T (front k fs)
        → AllFrom Sure (size k) (steps k fs) → AllFrom Seen (size k) (steps k fs) × Holds is_probed start (build k fs) T start
    static done sh j h w = (tt, h)
    static (next {k = k} {f = f} {fs = fs} t room ts) sh j h w =
        let behind = front (step k f) fs in
        let es = entries_of behind k f in
        let δ = flips_of behind k f in
        let n = size k in
        let rest = steps (step k f) fs in
        let e : size (step k f) ≡ n + length (map (lift δ) es) = size_step k f behind ∙ ap (λ x. n + x) (sym (length-map es (lift δ))) in
        let up : Sub behind (before is_probed behind k f.ops f.kind) = taken_sub is_probed behind n (map entry_role es) in
        let good = frame_good is_probed behind k T t (λ a i l q. sh a i l (j i q)) (held is_probed behind k T (front k (f ∷ fs)) h) (all_unmap Sure (lift δ) n es (all_left Sure n (map (lift δ) es) rest w)) in
        let old : Holds is_probed behind k T behind = all_imp _ (Shown is_probed behind k T behind) (λ x wire s l t p q. s l t p (up l q)) 0 k.wires h in
        let (a, b) = static ts sh (λ i q. j i (up i q)) (holds_step k f behind old good) (rw (← e) at (all_right Sure n (map (lift δ) es) rest w)) in
        (steps_all Seen k f fs (all_imp (Good T is_probed behind) (λ x g. is_probed x ≡ true → Same T x) (λ x g q. q.probed) n es good) a, b)
