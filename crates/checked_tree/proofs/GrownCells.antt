-- The cells of trees that an evaluation comes to, and what holds of them.
use Rattle.std.specs.List.{slice_get}
use Rattle.std.specs.Option.{unwrap_or}
use Rattle.std.specs.Prelude.{Option, None}
use Rattle.std.proofs.Common.{◌≡◌, ◌<◌, ℕ, zero, suc, ℤ, List, [], ◌∷◌, ◌++◌, length, map, Some, refl, sym, ◌∙◌, ap, subst}
use Rattle.std.proofs.lemmas.List.{append-nil, length-map}
use Rattle.std.proofs.lemmas.Option.{slice_get_within}
use Rattle.path_expr.specs.declared.cell.Cell.{Cell}
use Rattle.path_expr.specs.declared.cell.Cell.TheVariants as known
use Rattle.path_expr.specs.declared.link.Link.{Link}
use Rattle.path_expr.specs.Elimination.{path_at}
use Rattle.path_expr.specs.Operations.{operations}
use Rattle.path_expr.specs.PathExpr.{PathExpr, Zero, One, InLanguage}
use Rattle.path_expr.specs.Walks.{IsWalk}
use Rattle.path_expr.proofs.WayWalks.{language_is_walks}
use Rattle.posing.specs.declared.log.Log.{Log}
use Rattle.transition_formula.specs.Transition.{Transition}
use Rattle.polyhedra.specs.Vocabulary.{Vocabulary}
use Rattle.checked_tree.specs.declared.growth.Growth.{Growth}
use Rattle.checked_tree.specs.declared.key.Key.{Key}
use Rattle.checked_tree.specs.declared.step.TreeStep.{TreeStep}
use Rattle.checked_tree.specs.Graph.{Graph, vocabulary_at, start_of, end_of}
use Rattle.checked_tree.specs.Law.{IsEvaluated, IsRun, IsBetweenEnds, HoldsCell, FitsCell, AreFittedCells, CellsHold}
use Rattle.checked_tree.specs.Plan.{IsPathOf, ArePathsOf, IsCellOf, IsPlanned}
use Rattle.checked_tree.specs.ByNumber.{cell_by}
use Rattle.checked_tree.specs.Ready.{IsAmong}
use Rattle.checked_tree.specs.Tree.{Tree, own_of, formula_of, path_of, tree_of}
use Rattle.checked_tree.specs.Grown.{cell_map, trees_of, formulas_of, IsTreeAt, StandsAt, AreGrown}
use Rattle.checked_tree.specs.Growing.{growth_at, grown_tree, formula_in, entries_in, no_tree, tree_cell, IsGrownAs, IsGrownCell, AreGrownCells, AreGrowing}
use Rattle.checked_tree.proofs.Growths.{entry_at-growth}
use Rattle.checked_tree.proofs.SameByNumber.{path-within}
use Rattle.checked_tree.proofs.Stands.{Stands}
use Rattle.checked_tree.proofs.EliminationSteps.{path_at-stands}
use Rattle.checked_tree.proofs.Trees.{trees-fit, trees-hold, runs-are-related}

same-some : {X : Type 0} (x y : X) → Some x ≡ Some y → x ≡ y
same-some x y e = cc

-- what is found in a list that is made of another one is made of what stands there
pub map-found : {A B : Type 0} (f : A → B) (xs : List A) (n : ℕ) (y : B) → slice_get (map f xs) n ≡ Some y → (x : A) × (slice_get xs n ≡ Some x) × (f x ≡ y)
map-found f [] n y e = absurd (none n e)
  where
    none : (n : ℕ) → slice_get [] n ≡ Some y → ⊥
    none n e = cc
map-found f (x ∷ xs) zero y e = (x, refl, same-some (f x) y e)
map-found f (x ∷ xs) (suc n) y e = map-found f xs n y e

map-get : {A B : Type 0} (f : A → B) (xs : List A) (n : ℕ) (x : A) → slice_get xs n ≡ Some x → slice_get (map f xs) n ≡ Some (f x)
map-get f [] n x e = absurd (none n e)
  where
    none : (n : ℕ) → slice_get [] n ≡ Some x → ⊥
    none n e = cc
map-get f (y ∷ xs) zero x e = ap (λ z. Some (f z)) (same-some y x e)
map-get f (y ∷ xs) (suc n) x e = map-get f xs n x e

-- ---- the cells of growths

module _ (g : Graph) (source : ℕ) (keys : List Key) (start log : Log) (growths : List Growth) (order : List ℕ) (cells : List (Cell ℕ))
    (planned : IsPlanned (length g.nodes) g.links source keys order cells) (way : AreGrowing g source keys start log growths []) where
  all-made : map path_of way.steps ≡ operations (length g.nodes) g.links source
  all-made = by_paths way.paths way.numbers way.parts
    where
      by_paths : (paths : List PathExpr) → ArePathsOf keys paths [] → map path_of way.steps ++ paths ≡ operations (length g.nodes) g.links source → map path_of way.steps ≡ operations (length g.nodes) g.links source
      by_paths [] numbers parts = sym (append-nil (map path_of way.steps)) ∙ parts
      by_paths (p ∷ paths) numbers parts = absurd numbers

  module _ (node : ℕ) (below : node < length g.nodes) where
    abbrev path : PathExpr
    path = path_at (length g.nodes) g.links source node

    stands : Stands g (operations (length g.nodes) g.links source) path source node
    stands = path_at-stands g source way.plantable.evaluated.graph way.plantable.evaluated.source_is node below

    -- a path that was made, and leads from the source to the node
    record IsMadeHere (p : PathExpr) : Type 0 where
      among : IsAmong p (map path_of way.steps)
      from_source : start_of g p ≡ source
      to_node : end_of g p ≡ node

    made-here : (p : PathExpr) (n : ℕ) → IsPathOf keys p n → Stands g (operations (length g.nodes) g.links source) p source node → IsMadeHere p
    made-here Zero n is h = absurd is
    made-here One n is h = absurd is
    made-here p n is h = record { among = subst (IsAmong p) (sym all-made) h.0; from_source = h.1; to_node = h.2 }

    tree-here : (n : ℕ) → IsPathOf keys path n → IsGrownAs g way.steps (growth_at growths n) path
    tree-here n is = way.grown path n is (made-here path n is stands).among

    stands-here : (cell : Cell ℕ) → IsCellOf keys path cell → StandsAt g source way.steps node (tree_cell growths cell)
    stands-here known.Zero is = is
    stands-here known.One is = is
    stands-here (known.Item n) is =
        let x = tree-here n is in
        let here = made-here path n is stands in
        subst (IsTreeAt g source way.steps node) (sym (ap (λ o. unwrap_or o no_tree) x.is)) (record {
          path = x.of_path.path;
          among = x.among;
          checked = x.of_path.checked;
          of = x.of_path.of;
          from_is = x.of_path.from_is ∙ ap (vocabulary_at g) here.from_source;
          to_is = x.of_path.to_is ∙ ap (vocabulary_at g) here.to_node;
        })

    grown-here : (cell : Cell ℕ) → IsCellOf keys path cell → IsGrownCell growths cell
    grown-here known.Zero is = tt
    grown-here known.One is = tt
    grown-here (known.Item n) is =
        let x = tree-here n is in
        record { within = subst (λ l. n < l) (sym way.long) (path-within g keys way.plantable.distinct path n is); tree = x.tree; is = x.is }

  below-nodes : (node : ℕ) (cell : Cell ℕ) → slice_get cells node ≡ Some cell → node < length g.nodes
  below-nodes node cell found = subst (λ n. node < n) planned.one_each (slice_get_within cells node cell found)

  pub cells-grown : AreGrownCells growths cells
  cells-grown node cell found = grown-here node (below-nodes node cell found) cell (planned.cells_are node cell found)

  pub all-grown : AreGrown g source start log (map (tree_cell growths) cells)
  all-grown = record {
    steps = way.steps;
    paths = all-made;
    noted = way.noted;
    answered = way.answered;
    shared = way.shared;
    one_each = length-map cells (tree_cell growths) ∙ planned.one_each;
    cells_are = λ node cell found. let known_cell = map-found (tree_cell growths) cells node cell found in
        subst (StandsAt g source way.steps node) known_cell.2
        (stands-here node (below-nodes node known_cell.0 known_cell.1) known_cell.0 (planned.cells_are node known_cell.0 known_cell.1));
  }

-- a plan, its parts in other words
pub planned-same : (m n : ℕ) (links : List Link) (source : ℕ) (keys others : List Key) (order numbers : List ℕ) (cells known : List (Cell ℕ)) → m ≡ n → others ≡ keys → numbers ≡ order → known ≡ cells →
    IsPlanned m links source keys order cells → IsPlanned n links source others numbers known
planned-same m n links source keys others order numbers cells known count k o c planned =
    subst (λ x. IsPlanned n links source x numbers known) (sym k)
    (subst (λ x. IsPlanned n links source keys x known) (sym o)
    (subst (λ x. IsPlanned n links source keys order x) (sym c)
    (subst (λ x. IsPlanned x links source keys order cells) count planned)))

-- ---- the formulas of cells

abbrev tree_formula : TreeStep → Transition
tree_formula step = formula_of (tree_of step)

formula-cell : (cell : Cell TreeStep) → cell_map tree_formula cell ≡ cell_map formula_of (cell_map tree_of cell)
formula-cell known.Zero = refl
formula-cell known.One = refl
formula-cell (known.Item step) = refl

formulas-trees : (cells : List (Cell TreeStep)) → formulas_of cells ≡ map (cell_map formula_of) (trees_of cells)
formulas-trees [] = refl
formulas-trees (cell ∷ cells) = λ i. formula-cell cell i ∷ formulas-trees cells i

formula-in : (found : Option Tree) → formula_of (unwrap_or found no_tree) ≡ formula_in found
formula-in None = refl
formula-in (Some t) = refl

cell-formula : (growths : List Growth) (cell : Cell ℕ) → cell_map formula_of (tree_cell growths cell) ≡ cell_by (entries_in growths) cell
cell-formula growths known.Zero = refl
cell-formula growths known.One = refl
cell-formula growths (known.Item n) =
    λ i. known.Item ((formula-in (grown_tree (growth_at growths n)) ∙ sym (λ j. (entry_at-growth growths n j).formula)) i)

cells-formulas : (growths : List Growth) (cells : List (Cell ℕ)) → map (cell_map formula_of) (map (tree_cell growths) cells) ≡ map (cell_by (entries_in growths)) cells
cells-formulas growths [] = refl
cells-formulas growths (cell ∷ cells) = λ i. cell-formula growths cell i ∷ cells-formulas growths cells i

pub formulas-same : (growths : List Growth) (cells : List (Cell ℕ)) (made : List (Cell TreeStep)) → trees_of made ≡ map (tree_cell growths) cells → formulas_of made ≡ map (cell_by (entries_in growths)) cells
formulas-same growths cells made same = formulas-trees made ∙ ap (λ all. map (cell_map formula_of) all) same ∙ cells-formulas growths cells

-- ---- what holds of the cells

module _ (g : Graph) (source : ℕ) (is : IsEvaluated g source) (before after : Log) (cells : List (Cell TreeStep)) (grown : AreGrown g source before after (trees_of cells)) where
  module _ (node : ℕ) (below : node < length g.nodes) where
    walk-in : (p : PathExpr) → path_at (length g.nodes) g.links source node ≡ p → (word : List ℕ) → IsWalk g.links source node word → InLanguage p word
    walk-in p e word walk = subst (λ q. InLanguage q word) e ((language_is_walks (length g.nodes) g.links source node is.graph is.source_is below word).1 walk)

    cell-holds : (cell : Cell TreeStep) → StandsAt g source grown.steps node (cell_map tree_of cell) → (word : List ℕ) → IsWalk g.links source node word → (s t : List ℤ) →
        length s ≡ (vocabulary_at g source).columns → IsRun g word s t → HoldsCell (cell_map tree_formula cell) s t
    cell-holds known.Zero stand word walk s t long run = walk-in Zero stand word walk
    cell-holds known.One stand word walk s t long run = subst (λ w. IsRun g w s t) (walk-in One stand word walk) run
    cell-holds (known.Item step) stand word walk s t long run =
        trees-hold (tree_of step) stand.checked s t (long ∙ ap (λ (v : Vocabulary). v.columns) (sym stand.from_is))
        (runs-are-related g (tree_of step) stand.of word (walk-in (path_of (tree_of step)) (sym stand.path) word walk) s t run)

    cell-fits : (cell : Cell TreeStep) → StandsAt g source grown.steps node (cell_map tree_of cell) → FitsCell (vocabulary_at g source) (vocabulary_at g node) (cell_map tree_formula cell)
    cell-fits known.Zero stand = tt
    cell-fits known.One stand = tt
    cell-fits (known.Item step) stand =
        subst (λ v. IsBetweenEnds v (vocabulary_at g node) (tree_formula step)) stand.from_is
        (subst (λ v. IsBetweenEnds (own_of (tree_of step)).from v (tree_formula step)) stand.to_is (trees-fit (tree_of step) stand.checked))

  node-below : (node : ℕ) (cell : Cell TreeStep) → slice_get cells node ≡ Some cell → node < length g.nodes
  node-below node cell found = subst (λ n. node < n) (sym (length-map cells (cell_map tree_of)) ∙ grown.one_each) (slice_get_within cells node cell found)

  stands-at : (node : ℕ) (cell : Cell TreeStep) → slice_get cells node ≡ Some cell → StandsAt g source grown.steps node (cell_map tree_of cell)
  stands-at node cell found = grown.cells_are node (cell_map tree_of cell) (map-get (cell_map tree_of) cells node cell found)

  pub grown-hold : CellsHold g source (formulas_of cells)
  grown-hold node formula found word walk s t long run =
      let cell = map-found (cell_map tree_formula) cells node formula found in
      subst (λ (c : Cell Transition). HoldsCell c s t) cell.2 (cell-holds node (node-below node cell.0 cell.1) cell.0 (stands-at node cell.0 cell.1) word walk s t long run)

  pub grown-fit : AreFittedCells g source (formulas_of cells)
  grown-fit = record {
    one_each = length-map cells (cell_map tree_formula) ∙ sym (length-map cells (cell_map tree_of)) ∙ grown.one_each;
    fits = λ node formula found. let cell = map-found (cell_map tree_formula) cells node formula found in
        subst (FitsCell (vocabulary_at g source) (vocabulary_at g node)) cell.2 (cell-fits node (node-below node cell.0 cell.1) cell.0 (stands-at node cell.0 cell.1));
  }
