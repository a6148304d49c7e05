-- What stands at the members of a group, from one of them on, leads to their pairs.
use Rattle.std.proofs.Common.{◌≡◌, ℕ, ◌<◌, ◌≤◌, length, List, [], refl, sym, ap, subst, ◌∙◌, arith}
use Rattle.std.specs.Prelude.{slice_get}
use Rattle.std.specs.Option.{unwrap_or}
use Rattle.std.proofs.lemmas.List.FromFn.{get_or-map-range_with_len}
use Rattle.std.proofs.lemmas.List.{length-map}
use Rattle.std.proofs.lemmas.Option.{unwrap_or-slice_get}
use Rattle.items.proofs.Each.{each-more}
use Rattle.linear_terms.specs.declared.row.Case.{Case}
use Rattle.transition_formula.specs.Transition.{Transition}
use Rattle.path_expr.specs.declared.cell.Cell.{Cell}
use Rattle.path_expr.specs.declared.cell.Cell.TheVariants as known
use Rattle.path_expr.specs.PathExpr.{PathExpr, Zero, One, Edge, Seq, Join, Star, InLanguage}
use Rattle.path_expr.specs.Elimination.{path_at}
use Rattle.path_expr.proofs.WayWalks.{language_is_walks}
use Rattle.posing.specs.Posing.{Done, Always}
use Rattle.posing.proofs.Paths.{always_any, always_bind}
use Rattle.polyhedra.specs.Vocabulary.{Vocabulary}
use Rattle.checked_tree.specs.Evaluation.{Made, cell_at, cell_of, cells_of, evaluated_cells, evaluation}
use Rattle.checked_tree.specs.Graph.{Graph}
use Rattle.checked_tree.specs.Law.{AreFittedCells, FitsCell, IsEvaluated}
use Rattle.newton_rounds.specs.Between.{AreChainsFrom, GoesBetween, IsGroup, width_at}
use Rattle.newton_rounds.specs.Closure.{ends_at, group_graph, pair_cell}
use Rattle.newton_rounds.specs.Pairs.{PairEnds, Stretch}
use Rattle.newton_rounds.proofs.CratesBelow.{fitted-few, identity-fits, some_at}
use Rattle.newton_rounds.proofs.GroupGraphs.{vocabulary-is}

-- ---- nothing was done at the source alone

-- the cell of a place; past the end no way leads there
abbrev pub found_at : List (Cell Transition) → ℕ → Cell Transition
found_at cells n = unwrap_or (slice_get cells n) known.Zero

abbrev pub StaysAt : Graph → ℕ → List (Cell Transition) → Type 0
StaysAt g source cells = (n : ℕ) → n < length g.nodes → found_at cells n ≡ known.One → source ≡ n

one-path : (made : Made) (path : PathExpr) → cell_of made path ≡ known.One → InLanguage path []
one-path made Zero e = absurd (cc e)
one-path made One e = refl
one-path made (Edge n) e = absurd (cc e)
one-path made (Seq a b) e = absurd (cc e)
one-path made (Join a b) e = absurd (cc e)
one-path made (Star a) e = absurd (cc e)

pub cells-stay : (g : Graph) (source : ℕ) → IsEvaluated g source → Always (StaysAt g source) (evaluated_cells g source)
unfolding evaluated_cells
cells-stay g source is =
    always_bind (λ made. Unit {0}) (StaysAt g source) (evaluation g source) (λ made. Done (cells_of g source made)) (always_any (λ made. Unit {0}) (evaluation g source) (λ made. tt))
    (λ made any n lt e.
    let read : found_at (cells_of g source made) n ≡ cell_at g source made n =
    unwrap_or-slice_get (cells_of g source made) n known.Zero ∙ get_or-map-range_with_len (cell_at g source made) 0 (length g.nodes) n n known.Zero lt (omega arith) in
    (language_is_walks (length g.nodes) g.links source n is.graph is.source_is lt []).0 (one-path made (path_at (length g.nodes) g.links source n) (sym read ∙ e)))

-- ---- the cells as formulas of pairs

cell-goes : (from to : Vocabulary) (cell : Cell Transition) → FitsCell from to cell → (cell ≡ known.One → from.columns ≡ to.columns) → GoesBetween 1000 from.columns to.columns (pair_cell from.columns to.columns cell)
cell-goes from to known.Zero fit same = record { from_is = refl; to_is = refl; fits = refl; few = tt }
cell-goes from to known.One fit same = record { from_is = refl; to_is = same refl; fits = identity-fits from.columns; few = (omega arith, tt) }
cell-goes from to (known.Item f) fit same = record {
  from_is = fit.between.from_is;
  to_is = fit.between.to_is;
  fits = fit.between.fits;
  few = each-more (λ (case : Case). case.aux ≤ 64) (λ (case : Case). case.aux ≤ 1000) (λ case few. omega (arith, few)) f.cases (fitted-few f.cases fit.fitted);
}

pub chains-from : (members : List PairEnds) (stretches : List Stretch) → IsGroup members stretches → (place : ℕ) (cells : List (Cell Transition)) → AreFittedCells (group_graph members stretches) place cells
    → StaysAt (group_graph members stretches) place cells → AreChainsFrom members place cells
chains-from members stretches group place cells fitted stays = record {
  each = fitted.one_each ∙ length-map members (λ (m : PairEnds). m.pair);
  lead = λ n lt.
      let many = length-map members (λ (m : PairEnds). m.pair) in
      let each = fitted.one_each in
      let there = some_at cells n (omega (arith, lt, many, each)) in
      let from = ends_at members place in
      let to = ends_at members n in
      let fit : FitsCell from.pair to.pair there.0 =
      subst (λ (both : Vocabulary × Vocabulary). FitsCell both.0 both.1 there.0) (λ i. (vocabulary-is members stretches group place i, vocabulary-is members stretches group n i)) (fitted.fits n there.0 there.1) in
      let read : found_at cells n ≡ there.0 = ap (λ o. unwrap_or o known.Zero) there.1 in
      subst (λ cell. GoesBetween 1000 from.pair.columns to.pair.columns (pair_cell from.pair.columns to.pair.columns cell)) (sym read)
      (cell-goes from.pair to.pair there.0 fit (λ one. ap (width_at members) (stays n (omega (arith, lt, many)) (read ∙ one))));
}
