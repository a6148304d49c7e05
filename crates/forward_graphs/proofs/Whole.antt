-- The laws of an evaluation, whole.
use Rattle.std.proofs.Common.{◌≡◌, ◌⊎◌, ℕ, ◌<◌, ℤ, List, [], ◌∷◌, length, refl, sym, ◌∙◌, ap, subst, inl, inr, arith, Some}
use Rattle.std.specs.List.{slice_get}
use Rattle.std.specs.Option.{unwrap_or}
use Rattle.std.proofs.lemmas.Option.{slice_get_within}
use Rattle.path_expr.specs.declared.cell.Cell.{Cell}
use Rattle.path_expr.specs.declared.cell.Cell.TheVariants as known
use Rattle.path_expr.specs.declared.link.Link.{Link}
use Rattle.path_expr.specs.Walks.{IsWalk}
use Rattle.transition_formula.specs.Meaning.{Holds}
use Rattle.transition_formula.specs.Transition.{Transition}
use Rattle.posing.specs.Posing.{Always, ◌>>=◌}
use Rattle.posing.proofs.Paths.{always_bind, always_weaker}
use Rattle.forward_graphs.specs.declared.step.Step.{Step}
use Rattle.checked_tree.specs.Graph.{Graph, link_at, leaf_at, vocabulary_at}
use Rattle.forward_graphs.specs.Graph.{step_at}
use Rattle.forward_graphs.specs.Evaluation.{cell_at, cells_by, joined_steps, leaf_steps, walk_cells}
use Rattle.checked_tree.specs.Law.{IsRun, HoldsCell}
use Rattle.forward_graphs.specs.Law.{IsForward, CellsHold, FitsCell, AreFittedCells, HaveCanonicalLeaves, AreCanonicalCells, EvaluationHolds, EvaluationFits}
use Rattle.forward_graphs.specs.UnderWay.{AreSteps}
use Rattle.forward_graphs.proofs.StepLaws.{KeepsLeaves, AreJoined, IsCovered, SaysNoLess, leaves-keep, joined-keep, some-found, some-more, step-known}
use Rattle.forward_graphs.proofs.Groups.{IsIn}
use Rattle.forward_graphs.proofs.CellLaws.{KeepsCells, cells-keep}

module _ (g : Graph) (source : ℕ) (is : IsForward g source) where
  -- steps that cover all leaves
  pub record AreWhole (steps : List Step) : Type 0 where
    pub all : AreSteps g steps
    pub covered : HaveCanonicalLeaves g → (n : ℕ) → n < length g.links → IsCovered (link_at g n).from (link_at g n).to (leaf_at g n) steps

  -- and the cells by them
  pub record Ends (cells : List (Cell Transition)) : Type 0 where
    pub steps : List Step
    pub whole : AreWhole steps
    pub kept : KeepsCells g source steps [] cells

  module _ (leaves : List Step) (made : KeepsLeaves g [] leaves) (joined : List Step) (all : AreJoined g leaves joined) where
    whole-steps : AreWhole joined
    whole-steps = record { all = all.all; covered = λ canonical n lt. through n (made.covered canonical n lt) }
      where
        through : (n : ℕ) → (IsIn n [] ⊎ IsCovered (link_at g n).from (link_at g n).to (leaf_at g n) leaves) → IsCovered (link_at g n).from (link_at g n).to (leaf_at g n) joined
        through n (inl h) = absurd h
        through n (inr h) =
            let first = some-found (SaysNoLess (link_at g n).from (link_at g n).to (leaf_at g n)) leaves h in
            some-more (SaysNoLess (step_at leaves first.number).from (step_at leaves first.number).to (step_at leaves first.number).formula)
            (SaysNoLess (link_at g n).from (link_at g n).to (leaf_at g n))
            (λ step later. record {
              from_is = later.from_is ∙ first.says.from_is;
              to_is = later.to_is ∙ first.says.to_is;
              covers = λ before after held. later.covers before after (first.says.covers before after held);
            })
            joined (all.covered first.number first.is)

  evaluation-ends : Always Ends (walk_cells g source)
  unfolding walk_cells
  evaluation-ends =
      always_bind (KeepsLeaves g []) Ends (leaf_steps g) (λ leaves. joined_steps g leaves >>= cells_by g source) (leaves-keep g source is)
      (λ leaves made. always_bind (AreJoined g leaves) Ends (joined_steps g leaves) (cells_by g source) (joined-keep g leaves made.steps)
      (λ joined all. always_weaker (KeepsCells g source joined []) Ends (cells_by g source joined)
      (λ cells kept. record { steps = joined; whole = whole-steps leaves made joined all; kept = kept })
      (cells-keep g source is.source_is joined all.all)))

  -- ---- what is read off

  module _ (cells : List (Cell Transition)) (ends : Ends cells) where
    one-each : length cells ≡ length g.nodes
    one-each = let all = ends.kept.count in omega (arith, all)

    found-cell : (node : ℕ) (cell : Cell Transition) → slice_get cells node ≡ Some cell → cell_at cells node ≡ cell
    found-cell node cell found = ap (λ o. unwrap_or o known.Zero) found

    pub cells-fit : AreFittedCells g source cells
    cells-fit = record {
      one_each = one-each;
      fits = λ node cell found. subst (FitsCell (vocabulary_at g source) (vocabulary_at g node)) (found-cell node cell found) (ends.kept.fit node (slice_get_within cells node cell found));
    }

    module _ (leaves : HaveCanonicalLeaves g) (canonical : AreCanonicalCells cells) where
      -- a link from a node leads to the cell of the next
      link-holds : (number from to : ℕ) → slice_get g.links number ≡ Some (record { from = from; to = to }) → (before middle after : List ℤ)
          → HoldsCell (cell_at cells from) before middle → Holds (leaf_at g number) middle after → HoldsCell (cell_at cells to) before after
      link-holds number from to leads before middle after held said =
          let lt = slice_get_within g.links number _ leads in
          let link : link_at g number ≡ record { from = from; to = to } = ap (λ o. unwrap_or o record { from = 0; to = 0 }) leads in
          let step = some-found (SaysNoLess (link_at g number).from (link_at g number).to (leaf_at g number)) ends.steps (ends.whole.covered leaves number lt) in
          let from_is : (step_at ends.steps step.number).from ≡ from = step.says.from_is ∙ ap (λ (l : Link). l.from) link in
          let to_is : (step_at ends.steps step.number).to ≡ to = step.says.to_is ∙ ap (λ (l : Link). l.to) link in
          let inside : (step_at ends.steps step.number).to < length cells =
          subst (λ n. (step_at ends.steps step.number).to < n) (sym one-each) (step-known g ends.steps step.number ends.whole.all step.is).target in
          subst (λ n. HoldsCell (cell_at cells n) before after) to_is
          (ends.kept.holds canonical step.number step.is inside before middle after
          (subst (λ n. HoldsCell (cell_at cells n) before middle) (sym from_is) held) (step.says.covers middle after said))

      walk-holds : (word : List ℕ) (from to : ℕ) (before middle after : List ℤ) → IsWalk g.links from to word → HoldsCell (cell_at cells from) before middle → IsRun g word middle after
          → HoldsCell (cell_at cells to) before after
      walk-holds [] from to before middle after walk held run =
          subst (λ n. HoldsCell (cell_at cells n) before after) walk (subst (HoldsCell (cell_at cells from) before) run held)
      walk-holds (number ∷ word) from to before middle after walk held run =
          walk-holds word walk.0 to before run.0 after walk.2 (link-holds number from walk.0 walk.1 before middle run.0 held run.1) run.2

      source-holds : (state : List ℤ) → HoldsCell (cell_at cells source) state state
      source-holds state = subst (λ c. HoldsCell c state state) (sym (ends.kept.one (subst (λ n. source < n) (sym one-each) is.source_is))) refl

      pub cells-hold : CellsHold g source cells
      cells-hold node cell found word walk before after run =
          subst (λ c. HoldsCell c before after) (found-cell node cell found) (walk-holds word source node before before after walk (source-holds before) run)

pub evaluation-holds : EvaluationHolds
evaluation-holds g source is leaves =
    always_weaker (Ends g source is) (λ cells. AreCanonicalCells cells → CellsHold g source cells) (walk_cells g source)
    (λ cells ends canonical. cells-hold g source is cells ends leaves canonical) (evaluation-ends g source is)

pub evaluation-fits : EvaluationFits
evaluation-fits g source is =
    always_weaker (Ends g source is) (AreFittedCells g source) (walk_cells g source) (λ cells ends. cells-fit g source is cells ends) (evaluation-ends g source is)
