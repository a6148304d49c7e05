-- The cells of the first table, one link at a time.
use Rattle.std.proofs.Common.{◌≡◌, ℕ, zero, suc, ◌+◌, ◌<◌, ◌≤◌, Bool, true, false, cond, ◌&&◌, eqb, ltb, List, [], ◌∷◌, ◌++◌, length, take, drop, None, Some, refl, sym, ◌∙◌, ap, subst, arith, add-one, add-zero, append_assoc, length-take, get_or, eq-eqb, inl, inr, ◌⊎◌}
use Rattle.std.specs.List.{slice_get}
use Rattle.std.specs.Option.{unwrap_or}
use Rattle.std.proofs.lemmas.Bool.{cases_order, cases_lt, lt-ltb, le-ltb, ne_eqb, cond-true, cond-false}
use Rattle.std.proofs.lemmas.List.{append-nil, take-append-drop}
use Rattle.std.proofs.lemmas.Bool.Decides.{nat_tests}
use Rattle.std.proofs.lemmas.Option.{slice_get_within, get_or_from_slice_get}
use Rattle.path_expr.specs.declared.link.Link.{Link}
use Rattle.path_expr.specs.PathExpr.{PathExpr, Zero, Edge, join_of}
use Rattle.path_expr.specs.Elimination.{place_of, joins, links_between, path_through, first_table}
use Rattle.path_expr.specs.Operations.{below, join_operation, join_operations, first_row_operations}
use Rattle.path_expr.specs.Elimination.{Table as Cells}
use Rattle.path_expr.specs.Algebra.{Keeps}
use Rattle.path_expr.specs.Runs.{Runs}
use Rattle.path_expr.specs.Holds.{IsItem, IsItemOrZero, AreEdges, HoldsAll, node_at}
use Rattle.path_expr.specs.Table.{entry, cell}
use Rattle.path_expr.specs.declared.table.Table.{Table}
use Rattle.path_expr.specs.declared.rows.Rows.{Rows}
use Rattle.path_expr.specs.Numbers.{numbers_at, path_through_at, joins_at, HaveItems, AllHaveItems}
use Rattle.path_expr.specs.Sweeps.{with_cell, row_written, rows_begun}
use Rattle.path_expr.specs.Walks.{IsGraph}
use Rattle.path_expr.proofs.RunLemmas.{Runs-then, Runs-as}
use Rattle.path_expr.proofs.TableLemmas.{slice_get_some}
use Rattle.path_expr.proofs.HoldLemmas.{IsItem-kept}
use Rattle.path_expr.proofs.SweepLemmas.{HoldsAll-as, sweep-cond, row_written-skip, below-skip, below-more, below-as}
use Rattle.path_expr.proofs.CellWalks.{Among, JoinsFrom, of_between}
use Rattle.path_expr.proofs.WayWalks.{place_below}

pub node_at-place_of : (source v : ℕ) → node_at source (place_of source v) ≡ v
node_at-place_of source v = grind (arith, nat_tests)

pub joined-append : (p : PathExpr) (ks ms : List ℕ) → path_through p (ks ++ ms) ≡ path_through (path_through p ks) ms
joined-append p [] ms = refl
joined-append p (k ∷ ks) ms = joined-append (join_of p (Edge k)) ks ms

pub join_operations-append : (p : PathExpr) (ks ms : List ℕ) → join_operations p (ks ++ ms) ≡ join_operations p ks ++ join_operations (path_through p ks) ms
join_operations-append p [] ms = refl
join_operations-append p (k ∷ ks) ms =
    ap (λ x. join_operation p (Edge k) ++ x) (join_operations-append (join_of p (Edge k)) ks ms)
    ∙ sym (append_assoc (join_operation p (Edge k)) (join_operations (join_of p (Edge k)) ks) (join_operations (path_through (join_of p (Edge k)) ks) ms))

cond-append : (b : Bool) (k : ℕ) (xs ys : List ℕ) → cond b (k ∷ (xs ++ ys)) (xs ++ ys) ≡ cond b (k ∷ xs) xs ++ ys
cond-append true k xs ys = refl
cond-append false k xs ys = refl

links_between-append : (source m : ℕ) (xs : List Link) (l : Link) (i j : ℕ) →
    links_between source m (xs ++ l ∷ []) i j ≡ links_between source m xs i j ++ cond (joins source l i j) ((m + length xs) ∷ []) []
links_between-append source m [] l i j = ap (λ k. cond (joins source l i j) (k ∷ []) []) (sym (add-zero m))
links_between-append source m (x ∷ xs) l i j =
    ap (λ r. cond (joins source x i j) (m ∷ r) r) (links_between-append source (m + 1) xs l i j)
    ∙ (cond-append (joins source x i j) m (links_between source (m + 1) xs i j) (cond (joins source l i j) (((m + 1) + length xs) ∷ []) [])
    ∙ ap (λ k. cond (joins source x i j) (m ∷ links_between source (m + 1) xs i j) (links_between source (m + 1) xs i j) ++ cond (joins source l i j) (k ∷ []) [])
    (let e : (m + 1) + length xs ≡ m + suc (length xs) = omega arith in e))

take-more : {X : Type 0} (xs : List X) (n : ℕ) (l : X) → slice_get xs n ≡ Some l → take (suc n) xs ≡ take n xs ++ l ∷ []
take-more [] n l e = absurd (none n e)
  where
    none : (k : ℕ) → slice_get [] k ≡ Some l → ⊥
    none k f = cc
take-more (x ∷ xs) zero l e = let f : x ≡ l = cc in ap (λ y. y ∷ []) f
take-more (x ∷ xs) (suc n) l e = ap (λ y. x ∷ y) (take-more xs n l e)

pub links_between-more : (source : ℕ) (links : List Link) (n : ℕ) (l : Link) (i j : ℕ) → slice_get links n ≡ Some l →
    links_between source 0 (take n links) i j ++ cond (joins source l i j) (n ∷ []) [] ≡ links_between source 0 (take (n + 1) links) i j
links_between-more source links n l i j e =
    ap (λ k. links_between source 0 (take n links) i j ++ cond (joins source l i j) (k ∷ []) [])
    (let within = slice_get_within links n l e in let f : n ≡ 0 + length (take n links) = omega (arith, length-take n links) in f)
    ∙ (sym (links_between-append source 0 (take n links) l i j)
    ∙ (ap (λ xs. links_between source 0 xs i j) (sym (take-more links n l e))
    ∙ ap (λ k. links_between source 0 (take k links) i j) (sym (add-one n))))

-- whether a link leads from place i to place j, by the places of its ends
pub joins-here : (source : ℕ) (links : List Link) (n from to : ℕ) (l : Link) (i j : ℕ) → slice_get links n ≡ Some l →
    from ≡ place_of source (get_or links n (record { from = 0; to = 0 })).from → to ≡ place_of source (get_or links n (record { from = 0; to = 0 })).to →
    (eqb from i && eqb to j) ≡ joins source l i j
joins-here source links n from to l i j is at_from at_to =
    let same = get_or_from_slice_get links n l (record { from = 0; to = 0 }) is in
    ap (λ x. eqb x i && eqb to j) (at_from ∙ ap (λ (y : Link). place_of source y.from) same)
    ∙ ap (λ x. eqb (place_of source l.from) i && eqb x j) (at_to ∙ ap (λ (y : Link). place_of source y.to) same)

pub first_table-is : (links : List Link) (source i j : ℕ) → path_through Zero (links_between source 0 links i j) ≡ first_table links source i j
unfolding first_table
first_table-is links source i j = refl

pub first_row_operations-is : (nodes : ℕ) (links : List Link) (source i : ℕ) →
    below (λ j. join_operations Zero (links_between source 0 links i j)) nodes ≡ first_row_operations nodes links source i
unfolding first_row_operations
first_row_operations-is nodes links source i = refl

nobody : (ks : List ℕ) → ((k : ℕ) → Among k ks → ⊥) → ks ≡ []
nobody [] h = refl
nobody (k ∷ ks) h = absurd (h k (inl refl))

-- no link leads from or to a place outside the graph
pub links_between-outside : (nodes : ℕ) (links : List Link) (source : ℕ) → IsGraph nodes links → source < nodes → (i j : ℕ) →
    (nodes ≤ i) ⊎ (nodes ≤ j) → links_between source 0 links i j ≡ []
links_between-outside nodes links source g hs i j past =
    nobody (links_between source 0 links i j) (λ k m. none (of_between source 0 links k i j m) past)
  where
    none : {k : ℕ} → JoinsFrom source 0 links k i j → (nodes ≤ i) ⊎ (nodes ≤ j) → ⊥
    none h p =
        let within = slice_get_within links h.at h.joins.link h.joins.is in
        let both = g h.at h.joins.link within in
        let is = get_or_from_slice_get links h.at h.joins.link h.joins.link h.joins.is in
        let from : h.joins.link.from < nodes = subst (λ (x : Link). x.from < nodes) is both.0 in
        let to : h.joins.link.to < nodes = subst (λ (x : Link). x.to < nodes) is both.1 in
        let i_below : i < nodes = subst (λ x. x < nodes) h.joins.from (place_below source nodes h.joins.link.from hs from) in
        let j_below : j < nodes = subst (λ x. x < nodes) h.joins.to (place_below source nodes h.joins.link.to hs to) in
        elim p [ inl le ↦ omega arith | inr le ↦ omega arith ]

among-slice_get : (ks : List ℕ) (k number : ℕ) → slice_get ks k ≡ Some number → Among number ks
among-slice_get [] k number e = absurd (none k e)
  where
    none : (k : ℕ) → slice_get [] k ≡ Some number → ⊥
    none k f = cc
among-slice_get (x ∷ ks) zero number e = inl (let f : x ≡ number = cc in sym f)
among-slice_get (x ∷ ks) (suc k) number e = inr (among-slice_get ks k number e)

-- what the items of links are, by the places of these links
module _ {A T : Type 0} {fits : A → PathExpr → T → Type 0} {spans : A → T → ℕ → ℕ → Type 0} {a : A} {items : List T} where
  item_between : (links : List Link) (source : ℕ) → AreEdges fits spans a links items → length items ≡ length links → (number i j : ℕ) →
      JoinsFrom source 0 links number i j → (item : T) × (slice_get items number ≡ Some item) × IsItem fits spans a (Edge number) item (node_at source i) (node_at source j)
  item_between links source edges counted number i j h =
      let same : h.at ≡ number = omega (arith, h.is) in
      let is : slice_get links number ≡ Some h.joins.link = subst (λ k. slice_get links k ≡ Some h.joins.link) same h.joins.is in
      let within = slice_get_within links number h.joins.link is in
      let found = slice_get_some items number (omega (arith, within, counted)) in
      let made = edges.at number h.joins.link found.0 is found.1 in
      let from : h.joins.link.from ≡ node_at source i = sym (node_at-place_of source h.joins.link.from) ∙ ap (node_at source) h.joins.from in
      let to : h.joins.link.to ≡ node_at source j = sym (node_at-place_of source h.joins.link.to) ∙ ap (node_at source) h.joins.to in
      (found.0, found.1, subst (λ k. IsItem fits spans a (Edge number) found.0 k (node_at source j)) from (subst (λ k. IsItem fits spans a (Edge number) found.0 h.joins.link.from k) to made))

  pub AllHaveItems-of : (links : List Link) (source : ℕ) (numbers : Rows (List ℕ)) → AreEdges fits spans a links items → length items ≡ length links →
      ((i j : ℕ) → numbers_at numbers i j ≡ links_between source 0 links i j) → AllHaveItems fits spans source a items numbers
  AllHaveItems-of links source numbers edges counted same = record {
    at = λ i j. record {
      at = λ k number is. item_between links source edges counted number i j (of_between source 0 links number i j
          (subst (λ ks. Among number ks) (same i j) (among-slice_get (numbers_at numbers i j) k number is)));
    };
  }

-- the item of one of these links
pub link_item : {A T : Type 0} {fits : A → PathExpr → T → Type 0} {spans : A → T → ℕ → ℕ → Type 0} {a : A} (items : List T) (numbers : List ℕ) (from to t : ℕ) (x : T) →
    HaveItems fits spans a items numbers from to → t < length numbers → x ≡ get_or items (get_or numbers t 0) x →
    (k : ℕ) × (slice_get numbers t ≡ Some k) × IsItem fits spans a (Edge k) x from to
link_item {A} {T} {fits} {spans} {a} items numbers from to t x h lt e =
    let s = slice_get_some numbers t lt in
    let have = h.at t s.0 s.1 in
    let same : have.0 ≡ x = sym (get_or_from_slice_get items s.0 have.0 x have.1) ∙ (ap (λ k. get_or items k x) (sym (get_or_from_slice_get numbers t s.0 0 s.1)) ∙ sym e) in
    (s.0, s.1, subst (λ y. IsItem fits spans a (Edge s.0) y from to) same have.2)

-- the items of links stay so
module _ {A T : Type 0} {fits : A → PathExpr → T → Type 0} {spans : A → T → ℕ → ℕ → Type 0} {ends : A → ℕ → ℕ → ℕ → Type 0} {faults : A → ℕ} {a b : A}
    (keeps : Keeps fits spans ends faults a b) {items : List T} where
  pub HaveItems-kept : {numbers : List ℕ} {from to : ℕ} → HaveItems fits spans a items numbers from to → HaveItems fits spans b items numbers from to
  HaveItems-kept h = record { at = λ k number is. let x = h.at k number is in (x.0, x.1, IsItem-kept keeps x.2) }

  pub AllHaveItems-kept : {source : ℕ} {numbers : Rows (List ℕ)} → AllHaveItems fits spans source a items numbers → AllHaveItems fits spans source b items numbers
  AllHaveItems-kept h = record { at = λ i j. HaveItems-kept (h.at i j) }

-- the joins by the first of the links, and by one more
take-suc : (ks : List ℕ) (n k : ℕ) → slice_get ks n ≡ Some k → take (n + 1) ks ≡ take n ks ++ k ∷ []
take-suc ks n k e = ap (λ m. take m ks) (add-one n) ∙ take-more ks n k e

pub joins-more : (ks : List ℕ) (n k : ℕ) → slice_get ks n ≡ Some k →
    (join_operations Zero (take n ks) ++ join_operation (path_through Zero (take n ks)) (Edge k) ≡ join_operations Zero (take (n + 1) ks))
    × (join_of (path_through Zero (take n ks)) (Edge k) ≡ path_through Zero (take (n + 1) ks))
joins-more ks n k e = (
  ap (λ x. join_operations Zero (take n ks) ++ x) (sym (append-nil (join_operation (path_through Zero (take n ks)) (Edge k))))
      ∙ (sym (join_operations-append Zero (take n ks) (k ∷ [])) ∙ ap (join_operations Zero) (sym (take-suc ks n k e))),
  sym (joined-append Zero (take n ks) (k ∷ [])) ∙ ap (path_through Zero) (sym (take-suc ks n k e)),
)

pub joins-rest : (ks : List ℕ) (n : ℕ) → (rest : List PathExpr) × (join_operations Zero (take n ks) ++ rest ≡ join_operations Zero ks)
joins-rest ks n = (
  join_operations (path_through Zero (take n ks)) (drop n ks),
  sym (join_operations-append Zero (take n ks) (drop n ks)) ∙ ap (join_operations Zero) (take-append-drop n ks),
)

-- the cells of a row go on at the next one that has links
module _ {A T F : Type 0} {fits : A → PathExpr → T → Type 0} {spans : A → T → ℕ → ℕ → Type 0} {ends : A → ℕ → ℕ → ℕ → Type 0}
    {is_memory : F → Bool} {faults : A → ℕ} {made : A → List PathExpr → Type 0} {stopped : A → PathExpr → Type 0} {source : ℕ} {a b : A} where
  pub begun-at : {table : Table T} (f : Cells) (numbers : Rows (List ℕ)) (i from j : ℕ) → from ≤ j → ((k : ℕ) → f i k ≡ Zero) → ((k : ℕ) → from ≤ k → k < j → entry numbers i k ≡ None) →
      Runs fits spans ends is_memory faults made stopped a b (below (joins_at numbers i) from) None × HoldsAll fits spans source b (row_written f i from (path_through_at numbers i)) table →
      Runs fits spans ends is_memory faults made stopped a b (below (joins_at numbers i) j) None × HoldsAll fits spans source b (row_written f i j (path_through_at numbers i)) table
  begun-at f numbers i from j le holds_no none so_far = (
    Runs-as (below-skip (joins_at numbers i) from j le (λ k x y. sym (ap (λ o. join_operations Zero (unwrap_or o [])) (none k x y)))) so_far.0,
    HoldsAll-as (row_written-skip f i from j (path_through_at numbers i) le (λ k x y. ap (λ o. path_through Zero (unwrap_or o [])) (none k x y) ∙ sym (holds_no k))) so_far.1,
  )

  pub begun-more : {c : A} {new : Table T} (f : Cells) (numbers : Rows (List ℕ)) (i j : ℕ) →
      Runs fits spans ends is_memory faults made stopped a b (below (joins_at numbers i) j) None →
      Runs fits spans ends is_memory faults made stopped b c (joins_at numbers i j) None →
      HoldsAll fits spans source c (with_cell (row_written f i j (path_through_at numbers i)) i j (path_through_at numbers i j)) new →
      Runs fits spans ends is_memory faults made stopped a c (below (joins_at numbers i) (j + 1)) None × HoldsAll fits spans source c (row_written f i (j + 1) (path_through_at numbers i)) new
  begun-more f numbers i j run here h = (
    Runs-as (below-more (joins_at numbers i) j) (Runs-then run here),
    HoldsAll-as (λ a b. sweep-cond (path_through_at numbers i) (f a b) (eqb a i) b j) h,
  )

-- the cell that comes next has not begun
pub row_written-here : (f : Cells) (i j : ℕ) (row : ℕ → PathExpr) → row_written f i j row i j ≡ f i j
row_written-here f i j row = cond-false (eqb i i && ltb j j) (row j) (f i j) (ap (λ x. eqb i i && x) (le-ltb j j (omega arith)) ∙ and-false (eqb i i))
  where
    and-false : (b : Bool) → (b && false) ≡ false
    and-false true = refl
    and-false false = refl

-- a row that has begun whole
pub rows_begun-more : (first : Cells) (nodes i : ℕ) → ((a b : ℕ) → (nodes ≤ a) ⊎ (nodes ≤ b) → first a b ≡ Zero) → (a b : ℕ) →
    row_written (rows_begun first i) i nodes (first i) a b ≡ rows_begun first (i + 1) a b
rows_begun-more first nodes i outside a b = at (cases_order a i)
  where
    columns : (b < nodes) ⊎ (nodes ≤ b) → cond (ltb b nodes) (first i b) Zero ≡ first i b
    columns (inl lt) = cond-true (ltb b nodes) (first i b) Zero (lt-ltb b nodes lt)
    columns (inr le) = cond-false (ltb b nodes) (first i b) Zero (le-ltb b nodes le) ∙ sym (outside i b (inr le))

    at : (a ≡ i) ⊎ ((a < i) ⊎ (i < a)) → cond (eqb a i && ltb b nodes) (first i b) (cond (ltb a i) (first a b) Zero) ≡ cond (ltb a (i + 1)) (first a b) Zero
    at (inl e) = ap (λ x. cond (x && ltb b nodes) (first i b) (cond (ltb a i) (first a b) Zero)) (eq-eqb a i e)
        ∙ (ap (λ x. cond (ltb b nodes) (first i b) (cond x (first a b) Zero)) (le-ltb a i (omega arith))
        ∙ (columns (cases_lt b nodes) ∙ (ap (λ k. first k b) (sym e) ∙ sym (cond-true (ltb a (i + 1)) (first a b) Zero (lt-ltb a (i + 1) (omega arith))))))
    at (inr (inl lt)) = ap (λ x. cond (x && ltb b nodes) (first i b) (cond (ltb a i) (first a b) Zero)) (ne_eqb a i (omega arith))
        ∙ (cond-true (ltb a i) (first a b) Zero (lt-ltb a i lt) ∙ sym (cond-true (ltb a (i + 1)) (first a b) Zero (lt-ltb a (i + 1) (omega arith))))
    at (inr (inr gt)) = ap (λ x. cond (x && ltb b nodes) (first i b) (cond (ltb a i) (first a b) Zero)) (ne_eqb a i (omega arith))
        ∙ (cond-false (ltb a i) (first a b) Zero (le-ltb a i (omega arith)) ∙ sym (cond-false (ltb a (i + 1)) (first a b) Zero (le-ltb a (i + 1) (omega arith))))

-- a row that has not begun
pub rows_begun-later : (first : Cells) (i b : ℕ) → rows_begun first i i b ≡ Zero
rows_begun-later first i b = cond-false (ltb i i) (first i b) Zero (le-ltb i i (omega arith))

pub rows_begun-all : (first : Cells) (nodes : ℕ) → ((a b : ℕ) → (nodes ≤ a) ⊎ (nodes ≤ b) → first a b ≡ Zero) → (a b : ℕ) → rows_begun first nodes a b ≡ first a b
rows_begun-all first nodes outside a b = at (cases_lt a nodes)
  where
    at : (a < nodes) ⊎ (nodes ≤ a) → cond (ltb a nodes) (first a b) Zero ≡ first a b
    at (inl lt) = cond-true (ltb a nodes) (first a b) Zero (lt-ltb a nodes lt)
    at (inr le) = cond-false (ltb a nodes) (first a b) Zero (le-ltb a nodes le) ∙ sym (outside a b (inl le))

-- a table that holds nothing
pub HoldsAll-empty : {A T : Type 0} {fits : A → PathExpr → T → Type 0} {spans : A → T → ℕ → ℕ → Type 0} {source : ℕ} {a : A} {table : Table T} (first : Cells) →
    ((i j : ℕ) → cell table i j ≡ None) → HoldsAll fits spans source a (rows_begun first 0) table
HoldsAll-empty {A} {T} {fits} {spans} {source} {a} {table} first none = record {
  at = λ i j. subst (λ o. IsItemOrZero fits spans a (rows_begun first 0 i j) o (node_at source i) (node_at source j)) (sym (none i j))
      (cond-false (ltb i 0) (first i j) Zero (le-ltb i 0 (omega arith)));
}

-- the operations and the table by the numbers are those by the links
pub joins-are : (nodes : ℕ) (links : List Link) (source : ℕ) (numbers : Rows (List ℕ)) → ((i j : ℕ) → numbers_at numbers i j ≡ links_between source 0 links i j) →
    below (λ i. below (joins_at numbers i) nodes) nodes ≡ below (first_row_operations nodes links source) nodes
joins-are nodes links source numbers same =
    below-as (λ i. below (joins_at numbers i) nodes) (first_row_operations nodes links source) nodes (λ i lt.
    below-as (joins_at numbers i) (λ j. join_operations Zero (links_between source 0 links i j)) nodes (λ j less. ap (join_operations Zero) (same i j))
    ∙ first_row_operations-is nodes links source i)

pub joined-are : (links : List Link) (source : ℕ) (numbers : Rows (List ℕ)) → ((i j : ℕ) → numbers_at numbers i j ≡ links_between source 0 links i j) → (i j : ℕ) →
    path_through_at numbers i j ≡ first_table links source i j
joined-are links source numbers same i j = ap (path_through Zero) (same i j) ∙ first_table-is links source i j

-- one of these links has its item within the list
pub link_within : {A T : Type 0} {fits : A → PathExpr → T → Type 0} {spans : A → T → ℕ → ℕ → Type 0} {a : A} (items : List T) (numbers : List ℕ) (from to t : ℕ) →
    HaveItems fits spans a items numbers from to → t < length numbers → get_or numbers t 0 < length items
link_within items numbers from to t h lt =
    let s = slice_get_some numbers t lt in
    let have = h.at t s.0 s.1 in
    subst (λ k. k < length items) (sym (get_or_from_slice_get numbers t s.0 0 s.1)) (slice_get_within items s.0 have.0 have.1)
