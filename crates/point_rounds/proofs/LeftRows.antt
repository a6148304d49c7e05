-- What the code makes of a table is what is left of it.
use Rattle.std.proofs.Common.{◌≡◌, ℕ, ◌+◌, ◌<◌, ◌≤◌, Bool, true, false, cond, List, [], ◌∷◌, ◌++◌, map, length, drop, get_or, Option, None, Some, inl, inr, refl, sym, ap, ◌∙◌, append_assoc, arith}
use Rattle.std.specs.Prelude.{◌==◌, ◌||◌, ◌&&◌, slice_get, unwrap_or, if◌then◌else◌}
use Rattle.std.specs.List.{filter, list_any}
use Rattle.std.proofs.lemmas.List.{drop_all, drop_more, length-append}
use Rattle.std.proofs.lemmas.Option.{get_or_from_slice_get, slice_get_cases, slice_get_within}
use Rattle.linear_terms.specs.declared.row.Row.{Row}
use Rattle.syntax_tree.specs.declared.program.Program.{Program}
use Rattle.flow_graph.specs.FlowGraph.{graph_of}
use Rattle.point_induction.specs.Points.{heads_of, points_of}
use Rattle.point_rounds.specs.declared.round.FallenRow.{FallenRow}
use Rattle.point_rounds.specs.declared.round.RowPlace.{RowPlace}
use Rattle.point_rounds.specs.declared.round.RowPlace.TheVariants.{AtPoint, AtExit}
use Rattle.point_rounds.specs.Parts.{numbers_at, rows_without, with_list, with_next}
use Rattle.point_rounds.specs.Rounds.{exits_left, is_fallen, is_same_place, lists_left, points_left, rows_left}
use Rattle.point_rounds.specs.Table.{list_at_node}
use Rattle.point_rounds.proofs.RowColumns.{none-there}

-- ---- the rows of a place

-- the numbers of one more row stand before those of the others
pub numbers-first : (place : RowPlace) (row : FallenRow) (fell : List FallenRow) → numbers_at place (row ∷ fell) ≡ numbers_at place (row ∷ []) ++ numbers_at place fell
numbers-first place row fell = by (is_same_place row.place place)
  where
    by : (b : Bool) → map (λ (r : FallenRow). r.number) (cond b (row ∷ filter (λ (r : FallenRow). is_same_place r.place place) fell) (filter (λ (r : FallenRow). is_same_place r.place place) fell))
        ≡ map (λ (r : FallenRow). r.number) (cond b (row ∷ []) []) ++ numbers_at place fell
    by true = refl
    by false = refl

pub numbers-next : (place : RowPlace) (fell : List FallenRow) (i : ℕ) (row : FallenRow) (made next : List ℕ) → i < length fell → row ≡ get_or fell i row → next ≡ made ++ numbers_at place (row ∷ [])
    → next ++ numbers_at place (drop (i + 1) fell) ≡ made ++ numbers_at place (drop i fell)
numbers-next place fell i row made next lt is more =
    ap (λ ns. ns ++ numbers_at place (drop (i + 1) fell)) more
    ∙ append_assoc made (numbers_at place (row ∷ [])) (numbers_at place (drop (i + 1) fell))
    ∙ ap (λ ns. made ++ ns) (sym (numbers-first place row (drop (i + 1) fell)) ∙ ap (numbers_at place) (ap (λ r. r ∷ drop (i + 1) fell) is ∙ sym (drop_more fell i row lt)))

fallen-number : (place : RowPlace) (n : ℕ) (fell : List FallenRow) → list_any (λ number. number == n) (numbers_at place fell) ≡ is_fallen fell place n
fallen-number place n [] = refl
fallen-number place n (row ∷ fell) = by (is_same_place row.place place) (fallen-number place n fell)
  where
    by : (b : Bool) → list_any (λ number. number == n) (numbers_at place fell) ≡ is_fallen fell place n
        → list_any (λ number. number == n) (map (λ (r : FallenRow). r.number) (cond b (row ∷ filter (λ (r : FallenRow). is_same_place r.place place) fell) (filter (λ (r : FallenRow). is_same_place r.place place) fell)))
        ≡ ((b && row.number == n) || is_fallen fell place n)
    by true e = ap (λ rest. (row.number == n) || rest) e
    by false e = e

pub without-left : (place : RowPlace) (fell : List FallenRow) (n : ℕ) (rows : List Row) → rows_without (numbers_at place fell) n rows ≡ rows_left fell place n rows
without-left place fell n [] = refl
without-left place fell n (row ∷ rows) =
    λ i. if (fallen-number place n fell i) then (without-left place fell (n + 1) rows i) else (row ∷ without-left place fell (n + 1) rows i)

-- ---- loops over rows and lists of rows

-- one row more of those that are left
pub without-next : (numbers : List ℕ) (n : ℕ) (row : Row) (rows made next : List Row) → next ≡ (if list_any (λ number. number == n) numbers then made else made ++ row ∷ [])
    → next ++ rows_without numbers (n + 1) rows ≡ made ++ rows_without numbers n (row ∷ rows)
without-next numbers n row rows made next is = ap (λ l. l ++ rows_without numbers (n + 1) rows) is ∙ by (list_any (λ number. number == n) numbers)
  where
    by : (b : Bool) → (if b then made else made ++ row ∷ []) ++ rows_without numbers (n + 1) rows ≡ made ++ (if b then rows_without numbers (n + 1) rows else (row ∷ rows_without numbers (n + 1) rows))
    by true = refl
    by false = append_assoc made (row ∷ []) (rows_without numbers (n + 1) rows)

module _ (fell : List FallenRow) where
  pub lists-next : (proc : ℕ) (points : List ℕ) (rows : List Row) (rest left next : List (List Row)) → next ≡ with_list fell proc points left rows
      → next ++ lists_left fell proc (drop (length next) points) rest ≡ left ++ lists_left fell proc (drop (length left) points) (rows ∷ rest)
  lists-next proc points rows rest left next is =
      elim (slice_get_cases points (length left)).1 [
        | inl some ↦ there some.0 some.1 some.2 some.3
        | inr past ↦ none past.0 past.1
      ]
    where
      none : length points ≤ length left → slice_get points (length left) ≡ None
          → next ++ lists_left fell proc (drop (length next) points) rest ≡ left ++ lists_left fell proc (drop (length left) points) (rows ∷ rest)
      none le e =
          let same : next ≡ left = is ∙ ap (with_next fell proc left rows) e in
          let empty = drop_all (length left) points le in
          ap (λ l. l ++ lists_left fell proc (drop (length l) points) rest) same
          ∙ ap (λ ps. left ++ lists_left fell proc ps rest) empty ∙ ap (λ ps. left ++ lists_left fell proc ps (rows ∷ rest)) (sym empty)

      there : (node : ℕ) → length left < length points → slice_get points (length left) ≡ Some node → get_or points (length left) node ≡ node
          → next ++ lists_left fell proc (drop (length next) points) rest ≡ left ++ lists_left fell proc (drop (length left) points) (rows ∷ rest)
      there node lt e at =
          let own = rows_left fell (AtPoint proc node) 0 rows in
          let same : next ≡ left ++ own ∷ [] = is ∙ ap (with_next fell proc left rows) e in
          let long : length next ≡ length left + 1 = ap length same ∙ length-append left (own ∷ []) in
          let begins : drop (length left) points ≡ node ∷ drop (length left + 1) points = drop_more points (length left) node lt ∙ ap (λ n. n ∷ drop (length left + 1) points) at in
          (λ i. same i ++ lists_left fell proc (drop (long i) points) rest)
          ∙ append_assoc left (own ∷ []) (lists_left fell proc (drop (length left + 1) points) rest)
          ∙ ap (λ ps. left ++ lists_left fell proc ps (rows ∷ rest)) (sym begins)

  pub lists-end : (proc : ℕ) (points : List ℕ) → lists_left fell proc points [] ≡ []
  lists-end proc [] = refl
  lists-end proc (node ∷ nodes) = refl

  pub points-next : (program : Program) (proc : ℕ) (heads : List ℕ) (lists own : List (List Row)) (rest left next : List (List (List Row))) → heads ≡ heads_of (graph_of program proc)
      → own ≡ lists_left fell proc (0 ∷ heads) lists → next ≡ left ++ own ∷ []
      → next ++ points_left program fell (proc + 1) rest ≡ left ++ points_left program fell proc (lists ∷ rest)
  points-next program proc heads lists own rest left next are is more =
      ap (λ l. l ++ points_left program fell (proc + 1) rest) (more ∙ ap (λ o. left ++ o ∷ []) (is ∙ ap (λ hs. lists_left fell proc (0 ∷ hs) lists) are))
      ∙ append_assoc left (lists_left fell proc (points_of (graph_of program proc)) lists ∷ []) (points_left program fell (proc + 1) rest)

  pub exits-next : (proc : ℕ) (rows own : List Row) (rest left next : List (List Row)) → own ≡ rows_left fell (AtExit proc) 0 rows → next ≡ left ++ own ∷ []
      → next ++ exits_left fell (proc + 1) rest ≡ left ++ exits_left fell proc (rows ∷ rest)
  exits-next proc rows own rest left next is more =
      ap (λ l. l ++ exits_left fell (proc + 1) rest) (more ∙ ap (λ o. left ++ o ∷ []) is)
      ∙ append_assoc left (rows_left fell (AtExit proc) 0 rows ∷ []) (exits_left fell (proc + 1) rest)

-- ---- the rows at a node

module _ (node : ℕ) where
  none-listed : (nodes : List ℕ) → list_at_node {A = Row} node nodes [] ≡ []
  none-listed [] = refl
  none-listed (point ∷ points) = refl

  -- a head that is another node is passed
  pub heads-passed : (heads : List ℕ) (lists : List (List Row)) (i head : ℕ) → i < length heads → head ≡ get_or heads i head → (node == head) ≡ false
      → list_at_node node (drop (i + 1) heads) (drop (i + 1) lists) ≡ list_at_node node (drop i heads) (drop i lists)
  heads-passed heads lists i head lt is other =
      sym (ap (λ hs. list_at_node node hs (drop i lists)) begins ∙ passed)
    where
      begins : drop i heads ≡ head ∷ drop (i + 1) heads
      begins = drop_more heads i head lt ∙ ap (λ h. h ∷ drop (i + 1) heads) (sym is)

      passed : list_at_node node (head ∷ drop (i + 1) heads) (drop i lists) ≡ list_at_node node (drop (i + 1) heads) (drop (i + 1) lists)
      passed = elim (slice_get_cases lists i).1 [
        | inl some ↦
            ap (list_at_node node (head ∷ drop (i + 1) heads)) (drop_more lists i some.0 some.1)
            ∙ ap (λ b. if b then get_or lists i some.0 else list_at_node node (drop (i + 1) heads) (drop (i + 1) lists)) other
        | inr past ↦
            ap (list_at_node node (head ∷ drop (i + 1) heads)) (drop_all i lists past.0)
            ∙ sym (none-listed (drop (i + 1) heads)) ∙ ap (list_at_node node (drop (i + 1) heads)) (sym (drop_all (i + 1) lists (let le = past.0 in omega (arith, le))))
      ]

  -- at the node's own place stand its rows
  pub heads-found : (heads : List ℕ) (lists : List (List Row)) (i head : ℕ) → i < length heads → head ≡ get_or heads i head → (node == head) ≡ true
      → (o : Option (List Row)) → slice_get lists i ≡ o → (rows : List Row) → rows ≡ (unwrap_or o []) → rows ≡ list_at_node node (drop i heads) (drop i lists)
  heads-found heads lists i head lt is own o at rows same =
      same ∙ sym (ap (λ hs. list_at_node node hs (drop i lists)) begins ∙ by o at)
    where
      begins : drop i heads ≡ head ∷ drop (i + 1) heads
      begins = drop_more heads i head lt ∙ ap (λ h. h ∷ drop (i + 1) heads) (sym is)

      by : (o : Option (List Row)) → slice_get lists i ≡ o → list_at_node node (head ∷ drop (i + 1) heads) (drop i lists) ≡ unwrap_or o []
      by (Some own_rows) e =
          let less = slice_get_within lists i own_rows e in
          ap (list_at_node node (head ∷ drop (i + 1) heads)) (drop_more lists i own_rows less ∙ ap (λ l. l ∷ drop (i + 1) lists) (get_or_from_slice_get lists i own_rows own_rows e))
          ∙ ap (λ b. if b then own_rows else list_at_node node (drop (i + 1) heads) (drop (i + 1) lists)) own
      by None e = ap (list_at_node node (head ∷ drop (i + 1) heads)) (drop_all i lists (none-there lists i e))

  -- past the heads there is none
  pub heads-end : (heads : List ℕ) (lists : List (List Row)) (i : ℕ) → length heads ≤ i → list_at_node node (drop i heads) (drop i lists) ≡ []
  heads-end heads lists i le = ap (λ hs. list_at_node node hs (drop i lists)) (drop_all i heads le)
