-- The cells of ways as they are asked for where steps are made: each as a formula, which holds of
-- the passages or arrivals that lead there.
use Rattle.std.proofs.Common.{◌≡◌, ℕ, ◌+◌, ◌<◌, ◌≤◌, List, [], ◌∷◌, map, length, Option, Some, None, refl, sym, ap, subst, ◌∙◌, arith}
use Rattle.std.specs.Prelude.{IsTrue, ◌&&◌, nat_le, slice_get, unwrap_or}
use Rattle.std.specs.List.{AllByRecursion, list_all}
use Rattle.std.proofs.lemmas.Bool.{and_parts, leb-true}
use Rattle.std.proofs.lemmas.List.{get_or-replicate, length-replicate}
use Rattle.std.proofs.lemmas.List.Elements.{All-from_recursion}
use Rattle.std.proofs.lemmas.Option.{same_Some, slice_get_within, unwrap_or-slice_get}
use Rattle.items.proofs.Each.{each_from_test}
use Rattle.linear_terms.specs.declared.row.Case.{Case}
use Rattle.transition_formula.specs.Composition.{identity_of}
use Rattle.transition_formula.specs.Transition.{Transition, most_auxiliaries, most_rows}
use Rattle.path_expr.specs.declared.cell.Cell.{Cell}
use Rattle.path_expr.specs.declared.cell.Cell.TheVariants as found
use Rattle.path_expr.specs.Walks.{IsGraph}
use Rattle.polyhedra.specs.Vocabulary.{Vocabulary}
use Rattle.syntax_tree.specs.declared.program.Proc.{Proc}
use Rattle.syntax_tree.specs.declared.program.Program.{Program}
use Rattle.syntax_tree.specs.Value.{State}
use Rattle.syntax_tree.specs.WellFormed.{width_of}
use Rattle.flow_graph.specs.Walks.{Stride, Walks}
use Rattle.leaf_cases.specs.Conditions.{KnownCalls}
use Rattle.vocabularies.specs.Ends.{full_of}
use Rattle.checked_tree.specs.Graph.{Graph, vocabulary_at}
use Rattle.checked_tree.specs.Law.{HoldsCell}
use Rattle.forward_graphs.specs.Law.{AreFittedCells, FitsCell}
use Rattle.point_induction.specs.Points.{heads_of}
use Rattle.proc_summary.specs.Claims.{HoldsIf}
use Rattle.proc_summary.specs.Flow.{formula_of}
use Rattle.proc_summary.specs.Subject.{link_of, own_graph}
use Rattle.proc_summary.proofs.CratesBelow.{identity-fits, identity-holds, some_at}
use Rattle.proc_summary.proofs.Graphs.{full-columns}
use Rattle.point_ways.specs.Claims.{WaysHold}
use Rattle.point_ways.specs.Ways.{way_graph}
use Rattle.point_ways.proofs.ForwardWays.{arc-inside}
use Rattle.point_ways.proofs.HeadRanks.{places_are_ranks}
use Rattle.point_steps.specs.Claims.{AreWayCells, IsWayFormula, WaysCover, most_way_auxiliaries}

-- ---- a walk stays among the nodes

module _ (program : Program) (p : Proc) (known : List (Option Transition)) (inside : IsGraph (own_graph p).nodes (map link_of (own_graph p).arcs)) where
  walk-inside : (path : List Stride) (node last : ℕ) (before after : State) → node < (own_graph p).nodes
      → Walks (KnownCalls known) (length program.globals) (own_graph p).arcs node before path last after → last < (own_graph p).nodes
  walk-inside [] node last before after lt walk = subst (λ n. n < (own_graph p).nodes) walk.0 lt
  walk-inside (stride ∷ path) node last before after lt (way, is, starts, relates, later) =
      walk-inside path way.to last stride.state after (arc-inside (own_graph p) inside stride.edge way is).1 later

-- ---- cells as formulas

few-each : (cases : List Case) → IsTrue (list_all (λ (case : Case). nat_le (length case.rows) most_rows && nat_le case.aux most_auxiliaries) cases)
    → AllByRecursion (λ (case : Case). case.aux ≤ most_way_auxiliaries) cases
few-each cases h =
    each_from_test (λ (case : Case). nat_le (length case.rows) most_rows && nat_le case.aux most_auxiliaries) (λ (case : Case). case.aux ≤ most_way_auxiliaries)
    (λ case k. leb-true case.aux most_auxiliaries (and_parts (nat_le (length case.rows) most_rows) (nat_le case.aux most_auxiliaries) k).1) cases h

cell-holds : (columns : ℕ) (cell : Cell Transition) (before after : State) → length before ≡ columns → HoldsCell cell before after → HoldsIf (formula_of columns cell) before after
cell-holds columns found.Zero before after long h = h
cell-holds columns found.One before after long h = identity-holds columns before after h long
cell-holds columns (found.Item f) before after long h = h

module _ (program : Program) (p : Proc) (known : List (Option Transition)) (source : ℕ) (within : source < (own_graph p).nodes) (cells : List (Cell Transition))
    (fitted : AreFittedCells (way_graph program p known source) source cells) where
  abbrev ways : Graph
  ways = way_graph program p known source

  abbrev count : ℕ
  count = (own_graph p).nodes + length (heads_of (own_graph p))

  cells-many : length cells ≡ count
  cells-many = fitted.one_each ∙ length-replicate count (full_of program p)

  columns-there : (node : ℕ) → node < count → (vocabulary_at ways node).columns ≡ width_of program p
  columns-there node lt =
      ap (λ (voc : Vocabulary). voc.columns) (unwrap_or-slice_get ways.nodes node _ ∙ get_or-replicate count node (full_of program p) _ lt) ∙ full-columns program p

  formula-fits : (node : ℕ) → node < count → (cell : Cell Transition) → FitsCell (vocabulary_at ways source) (vocabulary_at ways node) cell
      → (f : Transition) → formula_of (width_of program p) cell ≡ Some f → IsWayFormula (width_of program p) f
  formula-fits node lt found.Zero h f e = absurd (cc)
  formula-fits node lt found.One h f e =
      subst (IsWayFormula (width_of program p)) (same_Some _ f e) record {
        from = refl;
        to = refl;
        fits = identity-fits (width_of program p);
        few = All-from_recursion (λ (case : Case). case.aux ≤ most_way_auxiliaries) (identity_of (width_of program p)).cases (omega arith, tt);
      }
  formula-fits node lt (found.Item g) h f e =
      subst (IsWayFormula (width_of program p)) (same_Some g f e) record {
        from = sym h.between.starts ∙ columns-there source (omega (arith, within));
        to = sym h.between.ends ∙ columns-there node lt;
        fits = h.between.fits;
        few = All-from_recursion (λ (case : Case). case.aux ≤ most_way_auxiliaries) g.cases (few-each g.cases (and_parts (nat_le (length g.cases) 64) _ h.within).1);
      }

  pub ways-fit : AreWayCells (width_of program p) cells
  ways-fit = record { each = λ node f e. by node f (slice_get cells node) refl e }
    where
      by : (node : ℕ) (f : Transition) (o : Option (Cell Transition)) → slice_get cells node ≡ o → formula_of (width_of program p) (unwrap_or o found.Zero) ≡ Some f → IsWayFormula (width_of program p) f
      by node f None at e = absurd (cc)
      by node f (Some cell) at e = formula-fits node (subst (λ n. node < n) cells-many (slice_get_within cells node cell at)) cell (fitted.fits node cell at) f e

  pub ways-cover : IsGraph (own_graph p).nodes (map link_of (own_graph p).arcs) → WaysHold program p known source cells → WaysCover program p known source cells
  ways-cover inside hold = record {
    passed = λ node before after long passage.
        let last = walk-inside program p known inside passage.path source node before after within passage.walk in
        let cell = some_at cells node (subst (λ n. node < n) (sym cells-many) (omega (arith, last))) in
        subst (λ o. HoldsIf (formula_of (width_of program p) (unwrap_or o found.Zero)) before after) (sym cell.1)
        (cell-holds (width_of program p) cell.0 before after long (hold.passed node cell.0 cell.1 before after long passage));
    arrived = λ n head before after long is arrival.
        let ranks = places_are_ranks (own_graph p) n head is in
        let less = slice_get_within (heads_of (own_graph p)) n head is in
        let cell = some_at cells ((own_graph p).nodes + n) (subst (λ m. (own_graph p).nodes + n < m) (sym cells-many) (omega (arith, less))) in
        subst (λ o. HoldsIf (formula_of (width_of program p) (unwrap_or o found.Zero)) before after) (sym cell.1)
        (cell-holds (width_of program p) cell.0 before after long
        (hold.arrived head cell.0 (ap (λ rank. slice_get cells ((own_graph p).nodes + rank)) ranks.2 ∙ cell.1) before after long arrival));
  }
