use Rattle.std.proofs.Common.{◌≡◌, ℕ, List, [], ◌∷◌, ◌++◌, Bool, ap, refl, subst, sym, ◌∙◌}
use Rattle.std.specs.Prelude.{◌==◌, if◌then◌else◌}
use Rattle.path_expr.specs.declared.cell.Cell.{Cell}
use Rattle.path_expr.specs.declared.cell.Cell.TheVariants as known
use Rattle.transition_formula.specs.Transition.{Transition}
use Rattle.posing.specs.Posing.{Posing, Done, ◌>>=◌}
use Rattle.posing.proofs.Following.{stops}
use Rattle.posing.proofs.Steps.{at_end, error_first, in_other_words, value_first}
use Rattle.forward_graphs.specs.declared.step.Step.{Step}
use Rattle.forward_graphs.specs.Evaluation.{arrival_formula, cell_of, with_node}
use Rattle.checked_tree.specs.Graph.{Graph}
use Rattle.forward_graphs.specs.UnderWay.{graph_of, AreUnderWay}
use Rattle.forward_graphs.proofs.arriving.with_node.Goals as goal

module _ (g : Graph) (source : ℕ) (steps : List Step) (cells : List (Cell Transition)) (node : ℕ) where
  -- the cells with one more, by whether it is the source's
  abbrev by_source : Bool → Posing (List (Cell Transition))
  by_source b = if b then Done (cells ++ known.One ∷ []) else (arrival_formula g source steps cells node >>= λ found. Done (cells ++ cell_of found ∷ []))

  by_source-same : (b : Bool) → b ≡ (node == source) → by_source b ≡ with_node g source steps cells node
  unfolding with_node
  by_source-same b e = ap by_source e

pub returns-then-is_source : goal.returns-then-is_source
returns-then-is_source g c =
    in_other_words (by_source-same (graph_of c.args.walks) c.args.walks.source c.args.walks.steps.now c.args.cells c.args.node _ (sym c.if-is_source.true ∙ c.is_source.ensures))
    (at_end c.in_ok-with_cell.ensures)

pub arrival_formula-requires-clause-before : goal.arrival_formula-requires-clause-before
arrival_formula-requires-clause-before g c =
    subst (λ cells. AreUnderWay (graph_of c.args.walks) c.args.walks.source c.args.walks.steps.now cells c.args.node) (sym c.as_slice.ensures) c.requires.before

pub returns-in_err-found : goal.returns-in_err-found
returns-in_err-found g c =
    in_other_words (by_source-same (graph_of c.args.walks) c.args.walks.source c.args.walks.steps.now c.args.cells c.args.node _ (sym c.if-is_source.false ∙ c.is_source.ensures))
    (error_first (λ found. Done (c.args.cells ++ cell_of found ∷ [])) c.in_err-found.ensures
    (ap (λ cells. arrival_formula (graph_of c.args.walks) c.args.walks.source c.args.walks.steps.now cells c.args.node) c.as_slice.ensures) c.from_residual-in_err-found.ensures.1)

pub returns-in_err-with_cell-2 : goal.returns-in_err-with_cell-2
returns-in_err-with_cell-2 g c =
    in_other_words (by_source-same (graph_of c.args.walks) c.args.walks.source c.args.walks.steps.now c.args.cells c.args.node _ (sym c.if-is_source.false ∙ c.is_source.ensures))
    (value_first (λ found. Done (c.args.cells ++ cell_of found ∷ [])) c.in_ok-found.ensures
    (ap (λ cells. arrival_formula (graph_of c.args.walks) c.args.walks.source c.args.walks.steps.now cells c.args.node) c.as_slice.ensures)
    (stops _ _ _ _ _ _ refl c.from_residual-in_err-with_cell-2.ensures.1))

pub returns : goal.returns
returns g c =
    in_other_words (by_source-same (graph_of c.args.walks) c.args.walks.source c.args.walks.steps.now c.args.cells c.args.node _ (sym c.if-is_source.false ∙ c.is_source.ensures))
    (value_first (λ found. Done (c.args.cells ++ cell_of found ∷ [])) c.in_ok-found.ensures
    (ap (λ cells. arrival_formula (graph_of c.args.walks) c.args.walks.source c.args.walks.steps.now cells c.args.node) c.as_slice.ensures)
    (at_end (c.in_ok-with_cell-2.ensures ∙ ap (λ cell. c.args.cells ++ cell ∷ []) c.cell_of.ensures)))
