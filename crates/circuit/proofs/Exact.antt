-- Exactness: the checker accepts a table exactly where it is a HEAD and frames that fit one after the other.
use mathlib.Core.Path.{◌≡◌, refl, sym, ap, ap₂, ◌∙◌}
use mathlib.Core.Bool.{◌&&◌}
use mathlib.Core.List.{List, [], ◌∷◌, ◌++◌}
use Prim.Native.Nat.{ℕ, zero, suc, ◌≤◌}
use native.Mathlib.Omega.{arith}
use lib.Dec.{leb, eqb}
use lib.ListN.{length, take, drop, take-append-drop}
use lib.Seq.{drop-nil, take_at, drop_at}
use borrow.Author.Tests.{leb-true, le-leb, eqb-true}
use Rattle.circuit.specs.Limits.{table_limit, wire_limit, notes_room, stage_limit, fewest_shares, most_shares}
use Rattle.circuit.specs.Lists.{nth}
use Rattle.circuit.specs.Kinds.{kind_of, share_count, words}
use Rattle.circuit.specs.Circuit.{Circuit, size, empty, place, stage_of, extend}
use Rattle.circuit.specs.Rules.{Judgement, pass, refuse, frame_rule, Checked, onward, frames, head_rule, checked}
use Rattle.circuit.proofs.Base.{and_left, and_right}
use Rattle.circuit.proofs.Steps.{frames-pass}
use Rattle.circuit.specs.Composition.{Frame, AllFit, done, next, build, kind_word, words_of}
use Rattle.circuit.proofs.Building.{Lawful, InTime, build-size, stage_le, intime_step, build_intime}
use Rattle.circuit.proofs.Judging.{never, need_then, word-pass}
use Rattle.circuit.proofs.Fitting.{kind-known, frame-pass, fit-meets, fit-pass}

-- what the acceptance of a table shows
pub record Accepted (table : List ℕ) (room : ℕ) : Type 0 where
  pub d : ℕ
  pub fs : List Frame
  pub table_is : table ≡ 0 ∷ d ∷ words_of fs
  pub least : fewest_shares ≤ d
  pub most : d ≤ most_shares
  pub short : length table ≤ table_limit
  pub roomy : notes_room ≤ room
  pub fit : AllFit (empty d) fs
  pub circuit_is : (checked table room).circuit ≡ build (empty d) fs

-- what the frames of a table show, from a circuit on, n words being passed over first
record Walked (k : Circuit) (f n : ℕ) (xs : List ℕ) : Type 0 where
  fs : List Frame
  words_are : drop n xs ≡ words_of fs
  fit : AllFit k fs
  circuit_is : (frames k f n xs).circuit ≡ build k fs

onward-pass : (j : Judgement) (k : Circuit) (rest : Checked) → (onward j k rest).judgement ≡ pass → (j ≡ pass) × (onward j k rest ≡ rest)
onward-pass pass k rest h = (refl, refl)
onward-pass (refuse rule frame word) k rest h = never rule frame word h

walked : (k : Circuit) (f n : ℕ) (xs : List ℕ) → fewest_shares ≤ k.d → (frames k f n xs).judgement ≡ pass → Walked k f n xs
unfolding frames
walked k f n [] ge h = record { fs = []; words_are = drop-nil n; fit = done; circuit_is = refl }
walked k f (suc n) (x ∷ xs) ge h = let w = walked k f n xs ge h in
    record { fs = w.fs; words_are = w.words_are; fit = w.fit; circuit_is = w.circuit_is }
walked k f zero (x ∷ xs) ge h =
    let n = words k.d (kind_of x) in
    let ops = take n xs in
    let (e, on) = onward-pass (frame_rule k f x xs) k (frames (extend k ops (kind_of x)) (suc f) n xs) h in
    let p = frame-pass k f x xs ge e in
    let w = walked (extend k ops (kind_of x)) (suc f) n xs ge (sym (ap (λ r. r.judgement) on) ∙ h) in
    record {
      fs = record { kind = kind_of x; ops = ops } ∷ w.fs;
      words_are = ap₂ ◌∷◌ (sym p.kind) (sym (take-append-drop n xs) ∙ ap (λ (l : List ℕ). ops ++ l) w.words_are);
      fit = next p.fits p.few w.fit;
      circuit_is = ap (λ r. r.circuit) on ∙ w.circuit_is;
    }

-- what a HEAD that passes shows
pub record Headed (table : List ℕ) (room : ℕ) : Type 0 where
  pub short : length table ≤ table_limit
  pub roomy : notes_room ≤ room
  pub two : 2 ≤ length table
  pub zero : nth table 0 ≡ 0
  pub least : fewest_shares ≤ nth table 1
  pub most : nth table 1 ≤ most_shares

pub head_pass : (table : List ℕ) (room : ℕ) → head_rule table room ≡ pass → Headed table room
unfolding head_rule
head_pass table room e =
    let (p1, h2) = need_then (leb (length table) table_limit) 1 0 0 _ e in
    let (p2, h3) = need_then (leb notes_room room) 2 0 0 _ h2 in
    let (p3, h4) = need_then (leb 2 (length table) && eqb (nth table 0) 0) 3 0 0 _ h3 in
    let (ge, le) = word-pass (empty 0) 0 [] share_count 1 (nth table 1) h4 in
    record {
      short = leb-true _ _ p1;
      roomy = leb-true _ _ p2;
      two = leb-true _ _ (and_left _ _ p3);
      zero = eqb-true _ _ (and_right (leb 2 (length table)) _ p3);
      least = ge;
      most = le;
    }

headed : (xs ws : List ℕ) → 2 ≤ length xs → nth xs 0 ≡ 0 → drop 2 xs ≡ ws → xs ≡ 0 ∷ nth xs 1 ∷ ws
headed [] ws l e h = absurd (omega arith)
headed (x ∷ []) ws l e h = absurd (omega arith)
headed (x ∷ y ∷ xs) ws l e h = cc

-- soundness
pub sound : (table : List ℕ) (room : ℕ) → (checked table room).judgement ≡ pass → Accepted table room
unfolding checked
sound table room h =
    let d = nth table 1 in
    let (e, on) = onward-pass (head_rule table room) (empty 0) (frames (empty d) 1 0 (drop 2 table)) h in
    let p = head_pass table room e in
    let w = walked (empty d) 1 0 (drop 2 table) p.least (sym (ap (λ r. r.judgement) on) ∙ h) in
    record {
      d = d;
      fs = w.fs;
      table_is = headed table (words_of w.fs) p.two p.zero w.words_are;
      least = p.least;
      most = p.most;
      short = p.short;
      roomy = p.roomy;
      fit = w.fit;
      circuit_is = ap (λ r. r.circuit) on ∙ w.circuit_is;
    }

-- completeness: frames that fit are walked to the end
frames-fit : (k : Circuit) (f : ℕ) (fs : List Frame) → fewest_shares ≤ k.d → Lawful InTime k → AllFit k fs
    → frames k f 0 (words_of fs) ≡ record { circuit = build k fs; judgement = pass }
frames-fit k f _ ge h done = unfold frames in refl
frames-fit k f _ ge h (next {f = g} {fs = fs} fits few more) =
    let kind = g.kind in
    let count = (fit-meets k kind g.ops ge h fits).count in
    rw (
      frames-pass k f (kind_word kind) (g.ops ++ words_of fs) (fit-pass k f kind g.ops (words_of fs) ge h fits few),
      kind-known kind,
      take_at g.ops (words_of fs) (words k.d kind) count,
      drop_at g.ops (words_of fs) (words k.d kind) count,
    ) (frames-fit (extend k g.ops kind) (suc f) fs ge (intime_step k g.ops kind ge fits h) more)

pub complete : (d : ℕ) (fs : List Frame) (room : ℕ) → fewest_shares ≤ d → d ≤ most_shares → length (0 ∷ d ∷ words_of fs) ≤ table_limit → notes_room ≤ room
    → AllFit (empty d) fs → checked (0 ∷ d ∷ words_of fs) room ≡ record { circuit = build (empty d) fs; judgement = pass }
unfolding checked head_rule
complete d fs room ge le short roomy fit =
    let table : List ℕ = 0 ∷ d ∷ words_of fs in
    rw (le-leb (length table) table_limit short, le-leb notes_room room roomy, le-leb 2 (length table) (omega arith), le-leb fewest_shares d ge, le-leb d most_shares le)
    (frames-fit (empty d) 1 fs ge tt fit)

-- what holds of the circuit of every accepted table: at most 8,192 wires, and no stage over 255
pub accepted-size : {table : List ℕ} {room : ℕ} → Accepted table room → size (checked table room).circuit ≤ wire_limit
accepted-size a = rw a.circuit_is (build-size a.fs a.fit (omega arith))

pub accepted-stages : {table : List ℕ} {room : ℕ} → Accepted table room → (x : ℕ) → stage_of (place (checked table room).circuit x) ≤ stage_limit
accepted-stages a x = rw a.circuit_is (stage_le (build (empty a.d) a.fs) (build_intime a.d a.fs a.least a.fit) x)
