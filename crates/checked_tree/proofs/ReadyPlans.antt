-- A plan that is ready to be evaluated: its graph is given once more by vocabularies that are
-- shared, and its keys, its order and its cells as slices.
use Rattle.std.specs.Prelude.{ℕ, length, map, replicate}
use Rattle.std.specs.List.{IsDistinct}
use Rattle.std.proofs.Common.{◌≡◌, List, [], sym, subst, ap, ◌∙◌}
use Rattle.path_expr.specs.declared.cell.Cell.{Cell}
use Rattle.path_expr.specs.declared.link.Link.{Link}
use Rattle.transition_formula.specs.Transition.{Transition}
use Rattle.posing.specs.declared.log.Log.{Log}
use Rattle.polyhedra.specs.Vocabulary.{Vocabulary}
use Rattle.checked_tree.specs.declared.growth.Growth.{Growth}
use Rattle.checked_tree.specs.declared.key.Key.{Key}
use Rattle.checked_tree.specs.declared.step.TreeStep.{TreeStep}
use Rattle.checked_tree.specs.Graph.{graph_of}
use Rattle.checked_tree.specs.Evaluation.{evaluated_cells}
use Rattle.checked_tree.specs.Law.{IsEvaluated, HaveCanonicalLeaves}
use Rattle.checked_tree.specs.Plan.{IsPlanned}
use Rattle.checked_tree.specs.ByNumber.{evaluated_cells_by}
use Rattle.checked_tree.specs.Grown.{trees_of, AreGrown}
use Rattle.checked_tree.specs.Growing.{bare_growth, tree_cell, AreGrowing, AreGrownCells, IsPlantable}
use Rattle.checked_tree.proofs.Growths.{growing-first}
use Rattle.checked_tree.proofs.GrownCells.{all-grown, cells-grown, planned-same}
use Rattle.checked_tree.proofs.NumberedKeys.{key_eq}
use Rattle.checked_tree.proofs.SameByNumber.{distinct_places, plans-evaluate}

pub record IsReadyPlan (links : List Link) (leaves : List Transition) (nodes shared : List Vocabulary) (source : ℕ) (keys : List Key) (order : List ℕ) (cells : List (Cell ℕ)) : Type 0 where
  pub same : shared ≡ nodes
  pub planned : IsPlanned (length shared) links source keys order cells
  pub plantable : IsPlantable (graph_of links leaves shared) source keys

-- a plan whose parts are given in other words
pub plan-ready : {links : List Link} {leaves : List Transition} {nodes shared : List Vocabulary} {source count : ℕ} {keys known : List Key} {order numbers : List ℕ} {cells places : List (Cell ℕ)} →
    shared ≡ nodes → count ≡ length nodes → keys ≡ known → IsDistinct key_eq known → order ≡ numbers → cells ≡ places →
    IsPlanned count links source known numbers places → IsEvaluated (graph_of links leaves nodes) source → HaveCanonicalLeaves (graph_of links leaves shared) →
    IsReadyPlan links leaves nodes shared source keys order cells
plan-ready {links} {leaves} {nodes} {shared} {source} {count} {keys} same counted k unique o c planned is canonical = record {
  same = same;
  planned = planned-same _ _ links source _ _ _ _ _ _ (counted ∙ sym (ap length same)) k o c planned;
  plantable = record {
    evaluated = subst (λ ns. IsEvaluated (graph_of links leaves ns) source) (sym same) is;
    distinct = distinct_places keys (subst (IsDistinct key_eq) (sym k) unique);
    leaves = canonical;
  };
}

module _ {links : List Link} {leaves : List Transition} {nodes shared : List Vocabulary} {source : ℕ} {keys : List Key} {order : List ℕ} {cells : List (Cell ℕ)}
    (ready : IsReadyPlan links leaves nodes shared source keys order cells) where
  -- nothing has grown yet
  pub plan-growing : (log : Log) → AreGrowing (graph_of links leaves shared) source keys log log (replicate (length keys) bare_growth) order
  plan-growing log = growing-first (graph_of links leaves shared) source keys log order cells ready.plantable ready.planned

  -- both evaluations are one
  pub plan-evaluated : evaluated_cells_by (graph_of links leaves shared) keys order cells ≡ evaluated_cells (graph_of links leaves nodes) source
  plan-evaluated =
      sym (plans-evaluate (graph_of links leaves shared) source keys order cells ready.plantable.evaluated ready.plantable.distinct ready.planned)
      ∙ ap (λ ns. evaluated_cells (graph_of links leaves ns) source) ready.same

  module _ {start log : Log} {growths : List Growth} (all : AreGrowing (graph_of links leaves shared) source keys start log growths []) where
    pub plan-cells : AreGrownCells growths cells
    plan-cells = cells-grown (graph_of links leaves shared) source keys start log growths order cells ready.planned all

    -- the trees at the cells are those that an evaluation makes
    pub plan-grown : (made : List (Cell TreeStep)) → trees_of made ≡ map (tree_cell growths) cells → AreGrown (graph_of links leaves nodes) source start log (trees_of made)
    plan-grown made same =
        subst (λ ns. AreGrown (graph_of links leaves ns) source start log (trees_of made)) ready.same
        (subst (AreGrown (graph_of links leaves shared) source start log) (sym same)
        (all-grown (graph_of links leaves shared) source keys start log growths order cells ready.planned all))
