-- The frames before the walk's place are expanded: their wires that others name, or that are read, are sums of variables.
use mathlib.Core.Path.{◌≡◌, refl, sym, ap, subst, ◌∙◌}
use mathlib.Core.Bool.{Bool, true}
use mathlib.Core.List.{List, [], map}
use Rattle.std.specs.Prelude.{Option, Some, None, Result, Ok, Err}
use Prim.Native.Nat.{ℕ, zero, suc, ◌+◌, ◌*◌, ◌-◌, ◌^◌, ◌≤◌, ◌<◌}
use native.Mathlib.Omega.{arith}
use lib.Dec.{ltb}
use lib.ListN.{length, replicate}
use borrow.Author.Tests.{ltb-true, ltb-false}
use Rattle.circuit.specs.Lists.{nth}
use Rattle.circuit.specs.Circuit.{Circuit, size, look_up, is_named}
use Rattle.circuit.proofs.Base.{cases}
use Rattle.gadgets.specs.Internal.Accepting.{AcceptedTable, circuit_in}
use Rattle.circuit.specs.declared.rules.Rule.{Rule}
use Rattle.frames.specs.declared.walk.Frame.{Frame as FrameCode}
use Rattle.frames.specs.declared.walk.Next.{Next}
use Rattle.frames.specs.declared.walk.Walk.{Walk}
use Rattle.frames.specs.declared.kinds.Shape.{Shape as ShapeCode}
use Rattle.frames.specs.Walk.{operands_at}
use Rattle.gadgets.proofs.Walking.{whole, whole_ordered, randoms-grow, Met, Answers}
use Rattle.simulation.specs.Internal.Filling.{Values, FrameValues}
use Rattle.simulation.specs.Internal.Evaluating.{packed, Evaluable}
use Rattle.simulation.specs.Internal.Walked.{WalkedTo, values_at}
use Rattle.simulation.proofs.Walked.{walked_start, rank_is, frame-within, walked_next, walked_all}
use Rattle.simulation.proofs.Equations.{frame-values}
use Rattle.symbolic.specs.declared.gadget.Term.{Term}
use Rattle.symbolic.specs.Internal.Sums.{added, Before}
use Rattle.symbolic.specs.Internal.Terms.{product, term_at}
use Rattle.symbolic.specs.Internal.Expanding.{Words, Solves, Expanded}
use Rattle.symbolic.proofs.Standing.{product_value}
use Rattle.symbolic.proofs.Bounded.{some, more, Below}

-- a wire that others name, or that is read
pub data Told (k : Circuit) (read : List ℕ) (found x : ℕ) : Type 0 where
  by_name : is_named (look_up k x) ≡ true → Told k read found x
  by_list : (i : ℕ) → i < found → nth read i ≡ x → Told k read found x

-- the word of a wire is that of its sum, whatever words the variables have
abbrev pub Right : (k : Circuit) (shares tape read : List ℕ) (found : ℕ) (terms : List ℕ) (outputs w x sum : ℕ) → Type 0
Right k shares tape read found terms outputs w x s =
    (n : ℕ) (sharings tapes : ℕ → List Bool) (f : Values) → Words shares tape n sharings tapes f → Solves terms outputs read found w f → values_at k.wires n sharings tapes x ≡ added s f

pub record ExpandedTo (room : ℕ) (table shares tape read : List ℕ) (found : ℕ) (sums terms : List ℕ) (place w from used outputs : ℕ) : Type 0 where
  pub walked : WalkedTo table shares tape room place w from used
  pub sums_sized : length sums ≡ room
  pub few : outputs ≤ 2 * used
  pub below : (x : ℕ) → x < w → is_named (look_up (whole walked.evaluable.accepted) x) ≡ true → nth sums x < 2 ^ (18 + outputs)
  pub right : (x : ℕ) → x < w → Told (whole walked.evaluable.accepted) read found x → Right (whole walked.evaluable.accepted) shares tape read found terms outputs w x (nth sums x)
  pub before : (n : ℕ) → n < outputs → Before terms n
  pub reads_before : (i : ℕ) → i < found → Before terms (32 + i)
  pub sized : length terms ≡ 80

zeros_at : (m n : ℕ) → nth (replicate m 0) n ≡ 0
zeros_at zero n = refl
zeros_at (suc m) zero = refl
zeros_at (suc m) (suc n) = zeros_at m n

-- before the first frame
pub expanded_start : {table shares tape read sums : List ℕ} {found : ℕ} → Evaluable table shares tape (length sums)
    → ExpandedTo (length sums) table shares tape read found sums (replicate 80 0) 2 0 0 0 0
expanded_start {found = found} e = record {
  walked = walked_start e;
  sums_sized = refl;
  few = omega arith;
  below = λ x l. absurd (omega arith);
  right = λ x l. absurd (omega arith);
  before = λ n l. absurd (omega arith);
  reads_before = λ i l. record { one = zero_below (2 * (32 + i)) (18 + (32 + i)); other = zero_below (2 * (32 + i) + 1) (18 + (32 + i)) };
  sized = refl;
}
  where
    zero_below : (x m : ℕ) → nth (replicate 80 0) x < 2 ^ m
    zero_below x m = rw (zeros_at 80 x) (some m)

module _ {room : ℕ} {table shares tape read : List ℕ} {found : ℕ} {sums terms : List ℕ} {place w from used outputs : ℕ}
    (t : ExpandedTo room table shares tape read found sums terms place w from used outputs) where
  abbrev a : AcceptedTable table
  a = t.walked.evaluable.accepted

  abbrev k : Circuit
  k = whole a

  -- no frame: none is left
  pub none_met : (s : Result (Option Next) Rule) → Answers a t.walked.between (nth table 1) w from s → ((n : Next) → s ≡ Ok (Some n) → ⊥) → t.walked.between.after ≡ []
  none_met (Ok (Some n)) h none = absurd (none n refl)
  none_met (Ok None) h none = h
  none_met (Err rule) h none = absurd h

  -- words of variables that are right behind a frame are right before it
  pub earlier : {terms' : List ℕ} {r w' : ℕ} (f : Values) → outputs ≤ r → w ≤ w' → ((n : ℕ) → n < outputs → term_at terms' n ≡ term_at terms n)
      → ((i : ℕ) → i < found → nth read i < w → term_at terms' (32 + i) ≡ term_at terms (32 + i))
      → Solves terms' r read found w' f → Solves terms outputs read found w f
  earlier f more wide outs reads s = record {
    outs = λ n l. s.outs n (omega arith) ∙ ap (product_value f) (outs n l);
    reads = λ i l u. s.reads i l (omega arith) ∙ ap (product_value f) (reads i l u);
  }

  pub before_same : {terms' : List ℕ} {n : ℕ} → term_at terms' n ≡ term_at terms n → Before terms n → Before terms' n
  before_same {terms'} {n} e b = record {
    one = subst (λ (x : Term). x.one < 2 ^ (18 + n)) (sym e) b.one;
    other = subst (λ (x : Term). x.other < 2 ^ (18 + n)) (sym e) b.other;
  }

  pub before-term : {terms' : List ℕ} {n : ℕ} (x : Term) → term_at terms' n ≡ product x → Below (18 + n) x → Before terms' n
  before-term {n = n} x e b = record {
    one = subst (λ (y : Term). y.one < 2 ^ (18 + n)) (sym e) b.first;
    other = subst (λ (y : Term). y.other < 2 ^ (18 + n)) (sym e) b.second;
  }

  module _ {d : ℕ} {fr : FrameCode} {sh : ShapeCode} {wk : Walk} (same : d ≡ a.d) (m : Met a t.walked.between d w from fr sh wk) where
    abbrev ops : List ℕ
    ops = operands_at table d place

    -- what the values of the frame's wires meet
    pub holds : (n : ℕ) (sharings tapes : ℕ → List Bool) (f : Values) → Words shares tape n sharings tapes f
        → FrameValues fr (packed n (λ l. true)) d w from used ops (map (λ s. added s f) shares) (map (λ s. added s f) tape) (values_at k.wires n sharings tapes)
    holds n sharings tapes f v = frame-values k.wires (whole_ordered a) (packed n (λ l. true))
        (map (λ s. added s f) shares) (map (λ s. added s f) tape) n sharings tapes refl v.shared v.drawn fr d w from used ops
        m.gates (frame-within t.walked same m) (rank_is t.walked)

    -- behind a frame: its own wires are right, and the others as they were
    pub record Made (sums' terms' : List ℕ) (r : ℕ) : Type 0 where
      pub more : outputs ≤ r
      pub few : r ≤ 2 * (used + sh.randoms)
      pub kept : (x : ℕ) → x < w → nth sums' x ≡ nth sums x
      pub sized : length sums' ≡ length sums
      pub terms_sized : length terms' ≡ length terms
      pub outs_kept : (n : ℕ) → n < outputs → term_at terms' n ≡ term_at terms n
      pub reads_kept : (i : ℕ) → i < found → nth read i < w → term_at terms' (32 + i) ≡ term_at terms (32 + i)
      pub below : (x : ℕ) → w ≤ x → x < w + sh.wires → is_named (look_up k x) ≡ true → nth sums' x < 2 ^ (18 + r)
      pub right : (x : ℕ) → w ≤ x → x < w + sh.wires → Told k read found x → Right k shares tape read found terms' r (w + sh.wires) x (nth sums' x)
      pub before : (n : ℕ) → outputs ≤ n → n < r → Before terms' n
      pub reads_before : (i : ℕ) → i < found → Before terms' (32 + i)

    pub expanded-next : {sums' terms' : List ℕ} {r : ℕ} → Made sums' terms' r
        → ExpandedTo room table shares tape read found sums' terms' wk.at (w + sh.wires) (from + d * sh.inputs) (used + sh.randoms) r
    expanded-next {sums'} {terms'} {r} z = record {
      walked = walked_next t.walked same m;
      sums_sized = z.sized ∙ t.sums_sized;
      few = z.few;
      below = λ x l e. cases (ltb x w)
          (λ u. let h = ltb-true x w u in subst (λ (s : ℕ). s < 2 ^ (18 + r)) (sym (z.kept x h)) (more {m = 18 + outputs} (omega (arith, z.more)) (t.below x h e)))
          (λ u. z.below x (ltb-false x w u) l e);
      right = λ x l o n sharings tapes f v s. cases (ltb x w)
          (λ u. let h = ltb-true x w u in t.right x h o n sharings tapes f v (earlier f z.more (omega arith) z.outs_kept z.reads_kept s) ∙ ap (λ y. added y f) (sym (z.kept x h)))
          (λ u. z.right x (ltb-false x w u) l o n sharings tapes f v s);
      before = λ n l. cases (ltb n outputs) (λ e. before_same (z.outs_kept n (ltb-true n outputs e)) (t.before n (ltb-true n outputs e))) (λ e. z.before n (ltb-false n outputs e) l);
      reads_before = z.reads_before;
      sized = z.terms_sized ∙ t.sized;
    }

  -- all frames are expanded
  pub all-expanded : t.walked.between.after ≡ [] → length tape ≤ 16 → ((i : ℕ) → i < found → nth read i < size (circuit_in table)) → Expanded table shares tape read found sums terms outputs
  all-expanded none short made =
      let all = walked_all t.walked none in
      let drawn : length tape ≡ k.randoms = t.walked.evaluable.drawn ∙ ap (λ (c : Circuit). c.randoms) a.circuit_is in
      record {
        few = omega (arith, t.few, t.walked.used_are, randoms-grow a t.walked.between, drawn);
        before = λ n l u. t.before n u;
        reads_before = λ n l u. let i = n - 32 in let z : 32 + i ≡ n = omega arith in subst (Before terms) z (t.reads_before i (omega arith));
        right = λ n sharings tapes f v s i l. rw a.circuit_is (t.right (nth read i) (omega (arith, made i l, all)) (by_list i l refl) n sharings tapes f v
            (subst (λ (y : ℕ). Solves terms outputs read found y f) (sym all) s));
      }
