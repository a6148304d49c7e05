-- The table that is left of one: rows at each place without those that fell, which are fewer where
-- one of the table's fell, and all where none did.
use Rattle.std.proofs.Common.{◌≡◌, ◌≤◌, ◌<◌, ℕ, zero, suc, ◌+◌, Bool, true, false, List, [], ◌∷◌, Some, refl, sym, ap, subst, ◌∙◌, arith, length}
use Rattle.std.specs.Prelude.{IsTrue, ◌==◌, slice_get, unwrap_or, if◌then◌else◌}
use Rattle.std.specs.List.{list_all}
use Rattle.std.proofs.lemmas.Bool.{and_from, and_parts, eqb-true}
use Rattle.std.proofs.lemmas.Option.{same_Some}
use Rattle.linear_terms.specs.declared.row.Row.{Row}
use Rattle.syntax_tree.specs.declared.program.Program.{Program}
use Rattle.flow_graph.specs.FlowGraph.{graph_of}
use Rattle.point_induction.specs.Points.{points_of}
use Rattle.point_rounds.specs.declared.round.FallenRow.{FallenRow}
use Rattle.point_rounds.specs.declared.round.RowPlace.{RowPlace}
use Rattle.point_rounds.specs.declared.round.RowPlace.TheVariants.{AtPoint, AtExit}
use Rattle.point_rounds.specs.declared.table.PointTable.{PointTable}
use Rattle.point_rounds.specs.Rounds.{count_at_points, count_of, exits_left, is_fallen, lists_left, points_left, row_count, rows_at_place, rows_left, table_left}
use Rattle.point_rounds.specs.Table.{ArePlaced, IsTable, list_at_node, rows_at, rows_at_exit}

module _ (fell : List FallenRow) where
  -- ---- the rows of a place

  left-few : (place : RowPlace) (n : ℕ) (rows : List Row) → length (rows_left fell place n rows) ≤ length rows
  left-few place n [] = omega arith
  left-few place n (row ∷ rows) = by (is_fallen fell place n) (left-few place (n + 1) rows)
    where
      by : (b : Bool) → length (rows_left fell place (n + 1) rows) ≤ length rows → length (if b then rows_left fell place (n + 1) rows else (row ∷ rows_left fell place (n + 1) rows)) ≤ suc (length rows)
      by true less = omega (arith, less)
      by false less = omega (arith, less)

  left-each : (test : Row → Bool) (place : RowPlace) (n : ℕ) (rows : List Row) → IsTrue (list_all test rows) → IsTrue (list_all test (rows_left fell place n rows))
  left-each test place n [] h = h
  left-each test place n (row ∷ rows) h =
      let parts = and_parts (test row) (list_all test rows) h in
      by (is_fallen fell place n) parts.0 (left-each test place (n + 1) rows parts.1)
    where
      by : (b : Bool) → IsTrue (test row) → IsTrue (list_all test (rows_left fell place (n + 1) rows)) → IsTrue (list_all test (if b then rows_left fell place (n + 1) rows else (row ∷ rows_left fell place (n + 1) rows)))
      by true one more = more
      by false one more = and_from (test row) (list_all test (rows_left fell place (n + 1) rows)) one more

  left-falls : (place : RowPlace) (n : ℕ) (rows : List Row) (k number : ℕ) → k < length rows → n + k ≡ number → is_fallen fell place number ≡ true → length (rows_left fell place n rows) + 1 ≤ length rows
  left-falls place n [] k number lt e is = absurd (omega (arith, lt))
  left-falls place n (row ∷ rows) zero number lt e is =
      by (is_fallen fell place n) (ap (is_fallen fell place) (omega (arith, e)) ∙ is) (left-few place (n + 1) rows)
    where
      by : (b : Bool) → b ≡ true → length (rows_left fell place (n + 1) rows) ≤ length rows
          → length (if b then rows_left fell place (n + 1) rows else (row ∷ rows_left fell place (n + 1) rows)) + 1 ≤ suc (length rows)
      by true f less = omega (arith, less)
      by false f less = absurd (cc)
  left-falls place n (row ∷ rows) (suc k) number lt e is =
      by (is_fallen fell place n) (left-falls place (n + 1) rows k number (omega (arith, lt)) (omega (arith, e)) is)
    where
      by : (b : Bool) → length (rows_left fell place (n + 1) rows) + 1 ≤ length rows
          → length (if b then rows_left fell place (n + 1) rows else (row ∷ rows_left fell place (n + 1) rows)) + 1 ≤ suc (length rows)
      by true less = omega (arith, less)
      by false less = omega (arith, less)

  placed-left : (columns : ℕ) (place : RowPlace) (rows : List Row) → ArePlaced columns rows → ArePlaced columns (rows_left fell place 0 rows)
  placed-left columns place rows placed =
      let less = left-few place 0 rows in
      let few = placed.few in
      record { few = omega (arith, less, few); over = left-each _ place 0 rows placed.over }

  -- ---- the lists of a procedure

  lists-at : (proc node : ℕ) (nodes : List ℕ) (lists : List (List Row)) → list_at_node node nodes (lists_left fell proc nodes lists) ≡ rows_left fell (AtPoint proc node) 0 (list_at_node node nodes lists)
  lists-at proc node [] lists = refl
  lists-at proc node (point ∷ nodes) [] = refl
  lists-at proc node (point ∷ nodes) (rows ∷ lists) = by (node == point) refl (lists-at proc node nodes lists)
    where
      by : (b : Bool) → (node == point) ≡ b → list_at_node node nodes (lists_left fell proc nodes lists) ≡ rows_left fell (AtPoint proc node) 0 (list_at_node node nodes lists)
          → (if b then rows_left fell (AtPoint proc point) 0 rows else list_at_node node nodes (lists_left fell proc nodes lists))
          ≡ rows_left fell (AtPoint proc node) 0 (if b then rows else list_at_node node nodes lists)
      by true e later = ap (λ n. rows_left fell (AtPoint proc n) 0 rows) (sym (eqb-true node point e))
      by false e later = later

  lists-long : (proc : ℕ) (nodes : List ℕ) (lists : List (List Row)) → length lists ≡ length nodes → length (lists_left fell proc nodes lists) ≡ length nodes
  lists-long proc [] lists e = refl
  lists-long proc (node ∷ nodes) [] e = e
  lists-long proc (node ∷ nodes) (rows ∷ lists) e = ap suc (lists-long proc nodes lists (omega (arith, e)))

  lists-few : (proc : ℕ) (nodes : List ℕ) (lists : List (List Row)) → count_of (lists_left fell proc nodes lists) ≤ count_of lists
  lists-few proc [] lists = omega arith
  lists-few proc (node ∷ nodes) [] = omega arith
  lists-few proc (node ∷ nodes) (rows ∷ lists) =
      let less = left-few (AtPoint proc node) 0 rows in
      let later = lists-few proc nodes lists in
      omega (arith, less, later)

  lists-fall : (proc node : ℕ) (nodes : List ℕ) (lists : List (List Row)) (number : ℕ) → number < length (list_at_node node nodes lists) → is_fallen fell (AtPoint proc node) number ≡ true
      → count_of (lists_left fell proc nodes lists) + 1 ≤ count_of lists
  lists-fall proc node [] lists number lt is = absurd (omega (arith, lt))
  lists-fall proc node (point ∷ nodes) [] number lt is = absurd (omega (arith, lt))
  lists-fall proc node (point ∷ nodes) (rows ∷ lists) number lt is = by (node == point) refl lt (λ more. lists-fall proc node nodes lists number more is)
    where
      by : (b : Bool) → (node == point) ≡ b → number < length (if b then rows else list_at_node node nodes lists)
          → (number < length (list_at_node node nodes lists) → count_of (lists_left fell proc nodes lists) + 1 ≤ count_of lists)
          → length (rows_left fell (AtPoint proc point) 0 rows) + count_of (lists_left fell proc nodes lists) + 1 ≤ length rows + count_of lists
      by true e here later =
          let one = left-falls (AtPoint proc point) 0 rows number number here (omega arith) (subst (λ n. is_fallen fell (AtPoint proc n) number ≡ true) (eqb-true node point e) is) in
          let others = lists-few proc nodes lists in
          omega (arith, one, others)
      by false e there later =
          let one = left-few (AtPoint proc point) 0 rows in
          let others = later there in
          omega (arith, one, others)

  -- ---- the exits

  exits-get : (from : ℕ) (exits : List (List Row)) (k proc : ℕ) → from + k ≡ proc
      → unwrap_or (slice_get (exits_left fell from exits) k) [] ≡ rows_left fell (AtExit proc) 0 (unwrap_or (slice_get exits k) [])
  exits-get from [] k proc e = refl
  exits-get from (rows ∷ exits) zero proc e = ap (λ p. rows_left fell (AtExit p) 0 rows) (omega (arith, e))
  exits-get from (rows ∷ exits) (suc k) proc e = exits-get (from + 1) exits k proc (omega (arith, e))

  exits-long : (from : ℕ) (exits : List (List Row)) → length (exits_left fell from exits) ≡ length exits
  exits-long from [] = refl
  exits-long from (rows ∷ exits) = ap suc (exits-long (from + 1) exits)

  exits-few : (from : ℕ) (exits : List (List Row)) → count_of (exits_left fell from exits) ≤ count_of exits
  exits-few from [] = omega arith
  exits-few from (rows ∷ exits) =
      let less = left-few (AtExit from) 0 rows in
      let later = exits-few (from + 1) exits in
      omega (arith, less, later)

  exits-fall : (from : ℕ) (exits : List (List Row)) (k proc number : ℕ) → from + k ≡ proc → number < length (unwrap_or (slice_get exits k) []) → is_fallen fell (AtExit proc) number ≡ true
      → count_of (exits_left fell from exits) + 1 ≤ count_of exits
  exits-fall from [] k proc number e lt is = absurd (omega (arith, lt))
  exits-fall from (rows ∷ exits) zero proc number e lt is =
      let same : proc ≡ from = omega (arith, e) in
      let one = left-falls (AtExit from) 0 rows number number lt (omega arith) (subst (λ p. is_fallen fell (AtExit p) number ≡ true) same is) in
      let others = exits-few (from + 1) exits in
      omega (arith, one, others)
  exits-fall from (rows ∷ exits) (suc k) proc number e lt is =
      let one = left-few (AtExit from) 0 rows in
      let others = exits-fall (from + 1) exits k proc number (omega (arith, e)) lt is in
      omega (arith, one, others)

  -- ---- the points

  module _ (program : Program) where
    points-get : (from : ℕ) (points : List (List (List Row))) (k proc : ℕ) → from + k ≡ proc
        → unwrap_or (slice_get (points_left program fell from points) k) [] ≡ lists_left fell proc (points_of (graph_of program proc)) (unwrap_or (slice_get points k) [])
    points-get from [] k proc e = refl
    points-get from (lists ∷ points) zero proc e = ap (λ p. lists_left fell p (points_of (graph_of program p)) lists) (omega (arith, e))
    points-get from (lists ∷ points) (suc k) proc e = points-get (from + 1) points k proc (omega (arith, e))

    points-long : (from : ℕ) (points : List (List (List Row))) → length (points_left program fell from points) ≡ length points
    points-long from [] = refl
    points-long from (lists ∷ points) = ap suc (points-long (from + 1) points)

    points-few : (from : ℕ) (points : List (List (List Row))) → count_at_points (points_left program fell from points) ≤ count_at_points points
    points-few from [] = omega arith
    points-few from (lists ∷ points) =
        let less = lists-few from (points_of (graph_of program from)) lists in
        let later = points-few (from + 1) points in
        omega (arith, less, later)

    points-fall : (from : ℕ) (points : List (List (List Row))) (k proc node number : ℕ) → from + k ≡ proc
        → number < length (list_at_node node (points_of (graph_of program proc)) (unwrap_or (slice_get points k) [])) → is_fallen fell (AtPoint proc node) number ≡ true
        → count_at_points (points_left program fell from points) + 1 ≤ count_at_points points
    points-fall from [] k proc node number e lt is = absurd (omega (arith, lt))
    points-fall from (lists ∷ points) zero proc node number e lt is =
        let same : proc ≡ from = omega (arith, e) in
        let nodes = points_of (graph_of program from) in
        let here : number < length (list_at_node node nodes lists) = subst (λ p. number < length (list_at_node node (points_of (graph_of program p)) lists)) same lt in
        let one = lists-fall from node nodes lists number here (subst (λ p. is_fallen fell (AtPoint p node) number ≡ true) same is) in
        let others = points-few (from + 1) points in
        omega (arith, one, others)
    points-fall from (lists ∷ points) (suc k) proc node number e lt is =
        let one = lists-few from (points_of (graph_of program from)) lists in
        let others = points-fall (from + 1) points k proc node number (omega (arith, e)) lt is in
        omega (arith, one, others)

    -- ---- the table

    rows_at-left : (table : PointTable) (proc node : ℕ) → rows_at program (table_left program fell table) proc node ≡ rows_left fell (AtPoint proc node) 0 (rows_at program table proc node)
    rows_at-left table proc node =
        let nodes = points_of (graph_of program proc) in
        ap (list_at_node node nodes) (points-get 0 table.points proc proc (omega arith)) ∙ lists-at proc node nodes (unwrap_or (slice_get table.points proc) [])

    rows_at_exit-left : (table : PointTable) (proc : ℕ) → rows_at_exit (table_left program fell table) proc ≡ rows_left fell (AtExit proc) 0 (rows_at_exit table proc)
    rows_at_exit-left table proc = exits-get 0 table.exits proc proc (omega arith)

    -- lists of the length that they had
    lists_long-left : (from : ℕ) (points : List (List (List Row)))
        → ((k proc : ℕ) (lists : List (List Row)) → from + k ≡ proc → slice_get points k ≡ Some lists → length lists ≡ length (points_of (graph_of program proc)))
        → (k proc : ℕ) (lists : List (List Row)) → from + k ≡ proc → slice_get (points_left program fell from points) k ≡ Some lists → length lists ≡ length (points_of (graph_of program proc))
    lists_long-left from [] long k proc lists e is = long k proc lists e is
    lists_long-left from (first ∷ points) long zero proc lists e is =
        let nodes = points_of (graph_of program from) in
        let same : lists_left fell from nodes first ≡ lists = same_Some (lists_left fell from nodes first) lists is in
        let here : proc ≡ from = omega (arith, e) in
        subst (λ (p : ℕ). length lists ≡ length (points_of (graph_of program p))) (sym here)
        (subst (λ (l : List (List Row)). length l ≡ length nodes) same (lists-long from nodes first (long 0 from first (omega arith) refl)))
    lists_long-left from (first ∷ points) long (suc k) proc lists e is =
        lists_long-left (from + 1) points (λ j p l f there. long (suc j) p l (omega (arith, f)) there) k proc lists (omega (arith, e)) is

    -- what is left of a table is one
    pub table-left : (table : PointTable) → IsTable program table → IsTable program (table_left program fell table)
    table-left table shape =
        record {
          procs = points-long 0 table.points ∙ shape.procs;
          exits = exits-long 0 table.exits ∙ shape.exits;
          points = λ proc lists is. lists_long-left 0 table.points (λ k p l e there. subst (λ (n : ℕ). length l ≡ length (points_of (graph_of program n))) (omega (arith, e)) (shape.points k l there)) proc proc lists (omega arith) is;
          at = λ proc p is node. subst (ArePlaced _) (sym (rows_at-left table proc node)) (placed-left _ (AtPoint proc node) (rows_at program table proc node) (shape.at proc p is node));
          at_exit = λ proc p is. subst (ArePlaced _) (sym (rows_at_exit-left table proc)) (placed-left _ (AtExit proc) (rows_at_exit table proc) (shape.at_exit proc p is));
          main_entry = rows_at-left table program.main 0 ∙ ap (rows_left fell (AtPoint program.main 0) 0) shape.main_entry;
          main_exit = rows_at_exit-left table program.main ∙ ap (rows_left fell (AtExit program.main) 0) shape.main_exit;
        }

    -- it has fewer rows where one of the table's fell
    pub table-falls : (table : PointTable) (place : RowPlace) (number : ℕ) → number < length (rows_at_place program table place) → is_fallen fell place number ≡ true
        → row_count (table_left program fell table) < row_count table
    table-falls table (AtPoint proc node) number lt is =
        let one = points-fall 0 table.points proc proc node number (omega arith) lt is in
        let others = exits-few 0 table.exits in
        omega (arith, one, others)
    table-falls table (AtExit proc) number lt is =
        let one = points-few 0 table.points in
        let others = exits-fall 0 table.exits proc proc number (omega arith) lt is in
        omega (arith, one, others)

-- ---- where none fell

module _ (program : Program) where
  same-left : (place : RowPlace) (n : ℕ) (rows : List Row) → rows_left [] place n rows ≡ rows
  same-left place n [] = refl
  same-left place n (row ∷ rows) = ap (λ l. row ∷ l) (same-left place (n + 1) rows)

  same-lists : (proc : ℕ) (nodes : List ℕ) (lists : List (List Row)) → length lists ≡ length nodes → lists_left [] proc nodes lists ≡ lists
  same-lists proc [] [] e = refl
  same-lists proc [] (rows ∷ lists) e = absurd (omega (arith, e))
  same-lists proc (node ∷ nodes) [] e = refl
  same-lists proc (node ∷ nodes) (rows ∷ lists) e = λ i. same-left (AtPoint proc node) 0 rows i ∷ same-lists proc nodes lists (omega (arith, e)) i

  same-points : (from : ℕ) (points : List (List (List Row)))
      → ((k proc : ℕ) (lists : List (List Row)) → from + k ≡ proc → slice_get points k ≡ Some lists → length lists ≡ length (points_of (graph_of program proc))) → points_left program [] from points ≡ points
  same-points from [] long = refl
  same-points from (lists ∷ points) long =
      λ i. same-lists from (points_of (graph_of program from)) lists (long 0 from lists (omega arith) refl) i
      ∷ same-points (from + 1) points (λ k p l e there. long (suc k) p l (omega (arith, e)) there) i

  same-exits : (from : ℕ) (exits : List (List Row)) → exits_left [] from exits ≡ exits
  same-exits from [] = refl
  same-exits from (rows ∷ exits) = λ i. same-left (AtExit from) 0 rows i ∷ same-exits (from + 1) exits i

  -- the table stays as it is
  pub table-same : (table : PointTable) → IsTable program table → table_left program [] table ≡ table
  table-same table shape =
      λ i. record {
        points = same-points 0 table.points (λ k p l e there. subst (λ (n : ℕ). length l ≡ length (points_of (graph_of program n))) (omega (arith, e)) (shape.points k l there)) i;
        exits = same-exits 0 table.exits i;
      }
