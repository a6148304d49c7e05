-- The table that lists of rows make.
use Rattle.std.proofs.Common.{◌≡◌, ◌<◌, ◌+◌, ℕ, suc, Bool, true, false, List, [], ◌∷◌, ◌++◌, Option, Some, ◌⊎◌, inl, inr, refl, sym, ap, subst, ◌∙◌, arith, eq-eqb, length}
use Rattle.std.specs.Prelude.{◌==◌, slice_get, unwrap_or, if◌then◌else◌}
use Rattle.std.specs.List.{AllByRecursion}
use Rattle.std.proofs.lemmas.List.{length-append}
use Rattle.std.proofs.lemmas.Option.{same_Some, slice_get_cases, slice_get_within}
use Rattle.path_expr.proofs.TableLemmas.{slice_get-push, slice_get_some}
use Rattle.linear_terms.specs.declared.row.Row.{Row}
use Rattle.syntax_tree.specs.declared.program.Proc.{Proc}
use Rattle.syntax_tree.specs.declared.program.Program.{Program}
use Rattle.syntax_tree.specs.WellFormed.{width_of}
use Rattle.flow_graph.specs.FlowGraph.{graph_of}
use Rattle.point_induction.specs.Points.{heads_of, points_of}
use Rattle.vocabularies.specs.Ends.{entry_width}
use Rattle.vocabularies.specs.Procs.{IsProcOf}
use Rattle.point_rounds.specs.declared.table.PointTable.{PointTable}
use Rattle.point_rounds.specs.Table.{ArePlaced, IsTable, list_at_node, pair_columns, point_columns, rows_at, rows_at_exit}
use Rattle.point_search.specs.Shapes.{AreExitLists, AreListsOf, ArePlacedAt, ArePlacedUnless, ArePointLists, IsEntryList, IsExitList}
use Rattle.point_search.proofs.PlacedRows.{placed-none}

-- ---- one procedure

-- the lists of a procedure, by what is known of it
pub lists-of : (program : Program) (proc : ℕ) (p : Proc) (heads : List ℕ) (entry : List Row) (others lists : List (List Row)) → IsProcOf program proc p → heads ≡ heads_of (graph_of program proc)
    → IsEntryList program proc p entry → ArePlacedAt (length heads) (width_of program p) others → lists ≡ entry ∷ others → AreListsOf program proc lists
lists-of program proc p heads entry others lists is same first later e = record {
  entry = entry;
  others = others;
  is = e;
  long = later.long ∙ ap length same;
  main = first.main;
  at_entry = λ q other. subst (λ (r : Proc). ArePlaced (entry_width program r) entry) (one q other) first.placed;
  at_heads = λ q other. subst (λ (r : Proc). AllByRecursion (ArePlaced (width_of program r)) others) (one q other) later.placed;
}
  where
    one : (q : Proc) → IsProcOf program proc q → p ≡ q
    one q other = same_Some p q (sym is ∙ other)

-- the rows at its exit
pub exit-of : (program : Program) (proc : ℕ) (p : Proc) (columns : ℕ) (none : Bool) (rows : List Row) → IsProcOf program proc p → columns ≡ pair_columns program p
    → none ≡ (program.main == proc) → ArePlacedUnless none columns rows → IsExitList program proc rows
exit-of program proc p columns none rows is same means placed = record {
  main = λ e. placed.no_rows (means ∙ eq-eqb program.main proc (sym e));
  placed = λ q other. subst (λ (r : Proc). ArePlaced (pair_columns program r) rows) (same_Some p q (sym is ∙ other)) (subst (λ n. ArePlaced n rows) same placed.placed);
}

-- the rows at its entry
pub entry-of : (program : Program) (proc : ℕ) (p : Proc) (columns : ℕ) (none : Bool) (rows : List Row) → columns ≡ entry_width program p
    → none ≡ (program.main == proc) → ArePlacedUnless none columns rows → IsEntryList program proc p rows
entry-of program proc p columns none rows same means placed = record {
  main = λ e. placed.no_rows (means ∙ eq-eqb program.main proc (sym e));
  placed = subst (λ n. ArePlaced n rows) same placed.placed;
}

-- ---- one procedure more

pub points-none : (program : Program) (points : List (List (List Row))) → points ≡ [] → ArePointLists program 0 points
points-none program points e = record { each = ap length e; are = λ proc lists is. absurd (cc (subst (λ (xs : List (List (List Row))). slice_get xs proc ≡ Some lists) e is)) }

pub points-more : (program : Program) (count : ℕ) (points new : List (List (List Row))) (lists : List (List Row)) → ArePointLists program count points → AreListsOf program count lists
    → new ≡ points ++ lists ∷ [] → ArePointLists program (count + 1) new
points-more program count points new lists made one e = record {
  each = ap length e ∙ length-append points (lists ∷ []) ∙ ap (λ n. n + 1) made.each;
  are = λ proc own is. by proc own (slice_get-push points lists proc own (subst (λ (xs : List (List (List Row))). slice_get xs proc ≡ Some own) e is));
}
  where
    by : (proc : ℕ) (own : List (List Row)) → (slice_get points proc ≡ Some own) ⊎ ((proc ≡ length points) × (lists ≡ own)) → AreListsOf program proc own
    by proc own (inl before) = made.are proc own before
    by proc own (inr last) = subst (λ (xs : List (List Row)). AreListsOf program proc xs) last.1 (subst (λ (n : ℕ). AreListsOf program n lists) (sym (last.0 ∙ made.each)) one)

pub exits-none : (program : Program) (exits : List (List Row)) → exits ≡ [] → AreExitLists program 0 exits
exits-none program exits e = record { each = ap length e; are = λ proc rows is. absurd (cc (subst (λ (xs : List (List Row)). slice_get xs proc ≡ Some rows) e is)) }

pub exits-more : (program : Program) (count : ℕ) (exits new : List (List Row)) (rows : List Row) → AreExitLists program count exits → IsExitList program count rows
    → new ≡ exits ++ rows ∷ [] → AreExitLists program (count + 1) new
exits-more program count exits new rows made one e = record {
  each = ap length e ∙ length-append exits (rows ∷ []) ∙ ap (λ n. n + 1) made.each;
  are = λ proc own is. by proc own (slice_get-push exits rows proc own (subst (λ (xs : List (List Row)). slice_get xs proc ≡ Some own) e is));
}
  where
    by : (proc : ℕ) (own : List Row) → (slice_get exits proc ≡ Some own) ⊎ ((proc ≡ length exits) × (rows ≡ own)) → IsExitList program proc own
    by proc own (inl before) = made.are proc own before
    by proc own (inr last) = subst (λ (xs : List Row). IsExitList program proc xs) last.1 (subst (λ (n : ℕ). IsExitList program n rows) (sym (last.0 ∙ made.each)) one)

-- ---- the rows at a node

-- where each list is placed, the one at a node is
list-placed : (columns : ℕ) (node : ℕ) (nodes : List ℕ) (lists : List (List Row)) → AllByRecursion (ArePlaced columns) lists → ArePlaced columns (list_at_node node nodes lists)
list-placed columns node [] lists each = placed-none columns
list-placed columns node (point ∷ nodes) [] each = placed-none columns
list-placed columns node (point ∷ nodes) (rows ∷ lists) each = by (node == point) each.0 (list-placed columns node nodes lists each.1)
  where
    by : (b : Bool) → ArePlaced columns rows → ArePlaced columns (list_at_node node nodes lists) → ArePlaced columns (if b then rows else list_at_node node nodes lists)
    by true here later = here
    by false here later = later

-- the rows at each node of a procedure are placed
lists-placed : (program : Program) (proc : ℕ) (p : Proc) (lists : List (List Row)) → IsProcOf program proc p → AreListsOf program proc lists → (node : ℕ)
    → ArePlaced (point_columns program p node) (list_at_node node (points_of (graph_of program proc)) lists)
lists-placed program proc p lists is made node =
    let heads = heads_of (graph_of program proc) in
    subst (λ (all : List (List Row)). ArePlaced (point_columns program p node) (list_at_node node (0 ∷ heads) all)) (sym made.is)
    (by (node == 0) (made.at_entry p is) (list-placed (width_of program p) node heads made.others (made.at_heads p is)))
  where
    by : (b : Bool) → ArePlaced (entry_width program p) made.entry → ArePlaced (width_of program p) (list_at_node node (heads_of (graph_of program proc)) made.others)
        → ArePlaced (if b then entry_width program p else width_of program p) (if b then made.entry else list_at_node node (heads_of (graph_of program proc)) made.others)
    by true here later = here
    by false here later = later

-- ---- the table

module _ (program : Program) (table : PointTable) (points : ArePointLists program (length program.procs) table.points) (exits : AreExitLists program (length program.procs) table.exits) where
  -- the lists of a procedure that is there
  lists_of : (proc : ℕ) → proc < length program.procs → (lists : List (List Row)) × (slice_get table.points proc ≡ Some lists)
  lists_of proc less = let all = points.each in slice_get_some table.points proc (omega (arith, less, all))

  exit_of : (proc : ℕ) → proc < length program.procs → (rows : List Row) × (slice_get table.exits proc ≡ Some rows)
  exit_of proc less = let all = exits.each in slice_get_some table.exits proc (omega (arith, less, all))

  points-long : (proc : ℕ) (lists : List (List Row)) → slice_get table.points proc ≡ Some lists → length lists ≡ length (points_of (graph_of program proc))
  points-long proc lists is =
      let made = points.are proc lists is in
      ap length made.is ∙ ap suc made.long

  points-at : (proc : ℕ) (p : Proc) → IsProcOf program proc p → (node : ℕ) → ArePlaced (point_columns program p node) (rows_at program table proc node)
  points-at proc p is node =
      let found = lists_of proc (slice_get_within program.procs proc p is) in
      subst (λ (o : Option (List (List Row))). ArePlaced (point_columns program p node) (list_at_node node (points_of (graph_of program proc)) (unwrap_or o []))) (sym found.1)
      (lists-placed program proc p found.0 is (points.are proc found.0 found.1) node)

  exits-at : (proc : ℕ) (p : Proc) → IsProcOf program proc p → ArePlaced (pair_columns program p) (rows_at_exit table proc)
  exits-at proc p is =
      let found = exit_of proc (slice_get_within program.procs proc p is) in
      subst (λ (o : Option (List Row)). ArePlaced (pair_columns program p) (unwrap_or o [])) (sym found.1) ((exits.are proc found.0 found.1).placed p is)

  main-entry : rows_at program table program.main 0 ≡ []
  main-entry = elim (slice_get_cases table.points program.main).1 [
    | inl some ↦ ap (λ o. list_at_node 0 (points_of (graph_of program program.main)) (unwrap_or o [])) some.2 ∙ ap (list_at_node 0 (points_of (graph_of program program.main))) (points.are program.main some.0 some.2).is ∙ (points.are program.main some.0 some.2).main refl
    | inr past ↦ ap (λ o. list_at_node 0 (points_of (graph_of program program.main)) (unwrap_or o [])) past.1
  ]

  main-exit : rows_at_exit table program.main ≡ []
  main-exit = elim (slice_get_cases table.exits program.main).1 [
    | inl some ↦ ap (λ o. unwrap_or o []) some.2 ∙ (exits.are program.main some.0 some.2).main refl
    | inr past ↦ ap (λ o. unwrap_or o []) past.1
  ]

  pub table-made : IsTable program table
  table-made = record {
    procs = points.each;
    exits = exits.each;
    points = points-long;
    at = points-at;
    at_exit = exits-at;
    main_entry = main-entry;
    main_exit = main-exit;
  }
