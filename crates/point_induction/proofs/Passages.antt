-- Passages: with an edge more, and where they end.
use Rattle.std.proofs.Common.{◌≡◌, ℕ, zero, suc, List, [], ◌∷◌, ◌++◌, Option, Some, refl, sym, ap, subst, ◌∙◌, arith}
use Rattle.std.specs.Prelude.{Bool, true, false, not, nat_lt, ◌==◌, ◌&&◌, ◌||◌, slice_get}
use Rattle.std.specs.List.{list_any}
use Rattle.std.proofs.lemmas.Bool.{eqb-true, false≢true, le-ltb}
use Rattle.syntax_tree.specs.Value.{State}
use Rattle.flow_graph.specs.FlowGraph.{Arc}
use Rattle.flow_graph.specs.Walks.{CallMeaning, EdgeRelates, Stride, Walks}
use Rattle.point_induction.specs.Points.{EntersNoHead, Passage, is_head, is_point, leads_back_to}

same-way : (o : Option Arc) (a b : Arc) → o ≡ Some a → o ≡ Some b → a ≡ b
same-way o a b e f = cc

-- the way at a place is the one that is there
free-edge : (arcs : List Arc) (k : ℕ) (way : Arc) → slice_get arcs k ≡ Some way → is_head arcs way.to ≡ false
    → (other : Arc) → slice_get arcs k ≡ Some other → is_head arcs other.to ≡ false
free-edge arcs k way is free other there = subst (λ (w : Arc). is_head arcs w.to ≡ false) (same-way (slice_get arcs k) way other is there) free

free-more : (arcs : List Arc) (path more : List Stride) → EntersNoHead arcs path → EntersNoHead arcs more → EntersNoHead arcs (path ++ more)
free-more arcs [] more free other = other
free-more arcs (stride ∷ path) more free other = (free.0, free-more arcs path more free.1 other)

walk-more : (calls : CallMeaning) (globals : ℕ) (arcs : List Arc) (node : ℕ) (state : State) (path : List Stride) (k : ℕ) (way : Arc) (between after : State)
    → Walks calls globals arcs node state path way.from between → slice_get arcs k ≡ Some way → EdgeRelates calls globals way.act between after
    → Walks calls globals arcs node state (path ++ record { edge = k; state = after } ∷ []) way.to after
walk-more calls globals arcs node state [] k way between after walk is relates =
    (way, is, sym walk.0, subst (λ s. EdgeRelates calls globals way.act s after) (sym walk.1) relates, (refl, refl))
walk-more calls globals arcs node state (stride ∷ path) k way between after walk is relates =
    (walk.0, walk.1, walk.2, walk.3, walk-more calls globals arcs (Arc.to walk.0) stride.state path k way between after walk.4 is relates)

pub passage-more : (calls : CallMeaning) (globals : ℕ) (arcs : List Arc) (node : ℕ) (before : State) (k : ℕ) (way : Arc) (between after : State)
    → Passage calls globals arcs node before way.from between → slice_get arcs k ≡ Some way → is_head arcs way.to ≡ false → EdgeRelates calls globals way.act between after
    → Passage calls globals arcs node before way.to after
passage-more calls globals arcs node before k way between after passage is free relates =
    record {
      path = passage.path ++ record { edge = k; state = after } ∷ [];
      walk = walk-more calls globals arcs node before passage.path k way between after passage.walk is relates;
      free = free-more arcs passage.path (record { edge = k; state = after } ∷ []) passage.free (free-edge arcs k way is free, tt);
    }

pub passage-none : (calls : CallMeaning) (globals : ℕ) (arcs : List Arc) (node : ℕ) (state : State) → Passage calls globals arcs node state node state
passage-none calls globals arcs node state = record { path = []; walk = (refl, refl); free = tt }

-- ---- a path that is not empty ends at a node that is no point

any-there : (node : ℕ) (arcs : List Arc) (k : ℕ) (way : Arc) → slice_get arcs k ≡ Some way → leads_back_to node way ≡ true → list_any (leads_back_to node) arcs ≡ true
any-there node [] k way is back = absurd (cc)
any-there node (a ∷ arcs) zero way is back =
    let same : a ≡ way = cc in
    ap (λ b. b || list_any (leads_back_to node) arcs) (ap (leads_back_to node) same ∙ back)
any-there node (a ∷ arcs) (suc k) way is back = any-last (leads_back_to node a) (list_any (leads_back_to node) arcs) (any-there node arcs k way is back)
  where
    any-last : (b c : Bool) → c ≡ true → (b || c) ≡ true
    any-last true c e = refl
    any-last false c e = e

-- no edge leads forward to node 0
entered-zero : (arcs : List Arc) (k : ℕ) (way : Arc) → slice_get arcs k ≡ Some way → way.to ≡ 0 → is_head arcs 0 ≡ true
entered-zero arcs k way is e =
    any-there 0 arcs k way is (ap (λ n. n == 0 && not (nat_lt way.from n)) e ∙ ap not (le-ltb way.from 0 (omega arith)))

-- where a path ends
record Ending (arcs : List Arc) (to : ℕ) : Type 0 where
  edge : ℕ
  way : Arc
  is : slice_get arcs edge ≡ Some way
  ends : way.to ≡ to
  free : is_head arcs to ≡ false

ending : (calls : CallMeaning) (globals : ℕ) (arcs : List Arc) (node : ℕ) (state : State) (stride : Stride) (path : List Stride) (to : ℕ) (after : State)
    → Walks calls globals arcs node state (stride ∷ path) to after → EntersNoHead arcs (stride ∷ path) → Ending arcs to
ending calls globals arcs node state stride [] to after walk free =
    let last = walk.4 in
    record {
      edge = stride.edge;
      way = walk.0;
      is = walk.1;
      ends = last.0;
      free = subst (λ n. is_head arcs n ≡ false) last.0 (free.0 walk.0 walk.1);
    }
ending calls globals arcs node state stride (next ∷ path) to after walk free =
    ending calls globals arcs (Arc.to walk.0) stride.state next path to after walk.4 free.1

no-point : (arcs : List Arc) (to : ℕ) → Ending arcs to → is_point arcs to ≡ true → ⊥
no-point arcs to e point = by-entry (to == 0) refl
  where
    by-entry : (b : Bool) → (to == 0) ≡ b → ⊥
    by-entry true entry =
        let same = eqb-true to 0 entry in
        false≢true (sym (subst (λ n. is_head arcs n ≡ false) same e.free) ∙ entered-zero arcs e.edge e.way e.is (e.ends ∙ same))
    by-entry false other = false≢true (sym e.free ∙ subst (λ b. (b || is_head arcs to) ≡ true) other point)

-- what leads to a point without entering a head on the way is where it began
pub passage-to_point : (calls : CallMeaning) (globals : ℕ) (arcs : List Arc) (node : ℕ) (before : State) (to : ℕ) (after : State)
    → Passage calls globals arcs node before to after → is_point arcs to ≡ true → (node ≡ to) × (before ≡ after)
passage-to_point calls globals arcs node before to after passage point = along passage.path passage.walk passage.free
  where
    along : (path : List Stride) → Walks calls globals arcs node before path to after → EntersNoHead arcs path → (node ≡ to) × (before ≡ after)
    along [] walk free = walk
    along (stride ∷ path) walk free = absurd (no-point arcs to (ending calls globals arcs node before stride path to after walk free) point)
