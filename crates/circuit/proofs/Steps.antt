-- The walk over a table goes from frame to frame and never stops short.
use mathlib.Core.Path.{◌≡◌, refl}
use mathlib.Core.List.{List, [], ◌∷◌}
use Prim.Native.Nat.{ℕ, zero, suc}
use lib.ListN.{take, drop}
use Rattle.circuit.specs.Kinds.{kind_of, words}
use Rattle.circuit.specs.Circuit.{Circuit, extend}
use Rattle.circuit.specs.Rules.{pass, refuse, frame_rule, frames}

-- the words still to be passed over are passed over, whatever they are
pub frames-drop : (k : Circuit) (f n : ℕ) (xs : List ℕ) → frames k f n xs ≡ frames k f 0 (drop n xs)
unfolding frames
frames-drop k f zero xs = refl
frames-drop k f (suc n) [] = refl
frames-drop k f (suc n) (x ∷ xs) = frames-drop k f n xs

-- a frame that passes is added to the circuit, and the walk goes on behind its words
pub frames-pass : (k : Circuit) (f x : ℕ) (rest : List ℕ) → frame_rule k f x rest ≡ pass
    → frames k f 0 (x ∷ rest) ≡ frames (extend k (take (words k.d (kind_of x)) rest) (kind_of x)) (suc f) 0 (drop (words k.d (kind_of x)) rest)
unfolding frames
frames-pass k f x rest h = rw h (frames-drop (extend k (take (words k.d (kind_of x)) rest) (kind_of x)) (suc f) (words k.d (kind_of x)) rest)

-- a frame that is refused ends the walk, with the circuit of the frames before it
pub frames-refuse : (k : Circuit) (f x : ℕ) (rest : List ℕ) (rule frame word : ℕ) → frame_rule k f x rest ≡ refuse rule frame word
    → frames k f 0 (x ∷ rest) ≡ record { circuit = k; judgement = refuse rule frame word }
unfolding frames
frames-refuse k f x rest rule frame word h = rw h
