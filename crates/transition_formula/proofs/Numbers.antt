-- New numbers of the auxiliaries that occur: they keep their order, and the code's list of them is
-- the definition.
use Rattle.std.proofs.Common.{◌≡◌, ℕ, zero, suc, ◌+◌, ◌-◌, ◌<◌, ◌≤◌, Bool, true, false, cond, length, map, List, [], ◌∷◌, refl, sym, ap, subst, ◌∙◌, arith}
use Rattle.std.specs.Prelude.{IsTrue, slice_index}
use Rattle.std.specs.List.{list_all, list_any, range_with_len}
use Rattle.std.proofs.lemmas.Bool.Decides.{Decides-eqb}
use Rattle.std.proofs.lemmas.List.FromFn.{get_or-map-range_with_len, length-map-range_with_len}
use Rattle.linear_terms.specs.declared.col.Col.{Col}
use Rattle.linear_terms.specs.declared.col.Col.TheVariants.{At, Aux}
use Rattle.linear_terms.specs.declared.row.Row.{Row}
use Rattle.linear_terms.specs.declared.row.Case.{Case}
use Rattle.linear_terms.specs.Polynomial.{Terms, Polynomial}
use Rattle.linear_terms.specs.Auxiliaries.{is_auxiliary, has_auxiliary, occurs, renumbered_column, renumbered_polynomial, is_numbered, KeepsOrder}
use Rattle.transition_formula.specs.Transition.{every_column, every_column_of}
use Rattle.transition_formula.specs.Renumbering.{occurs_in, count_below, new_number, renumbered_row, renumbered_case}
use Rattle.transition_formula.proofs.ColumnTests.{both, all_more, more_columns, more_columns_of}
use Rattle.transition_formula.proofs.Fitting.{below-true, true-below}
use Rattle.transition_formula.proofs.Loops.{met_by, or_left, or_right}

-- ---- how many below

count_below-step : (test : ℕ → Bool) (n : ℕ) → count_below test n ≤ count_below test (suc n)
count_below-step test n = go (test n)
  where
    go : (b : Bool) → count_below test n ≤ cond b (count_below test n + 1) (count_below test n)
    go true = omega arith
    go false = omega arith

count_below-up : (test : ℕ → Bool) (m k : ℕ) → count_below test m ≤ count_below test (m + k)
count_below-up test m zero = let same : m + 0 ≡ m = omega arith in subst (λ n. count_below test m ≤ count_below test n) (sym same) (omega arith)
count_below-up test m (suc k) =
    let same : m + suc k ≡ suc (m + k) = omega arith in
    let step = count_below-step test (m + k) in
    let before = count_below-up test m k in
    subst (λ n. count_below test m ≤ count_below test n) (sym same) (omega arith)

count_below-passed : (test : ℕ → Bool) (m : ℕ) → IsTrue (test m) → count_below test (suc m) ≡ count_below test m + 1
count_below-passed test m h = ap (λ b. cond b (count_below test m + 1) (count_below test m)) h

pub count_below-keeps : (test : ℕ → Bool) (m n : ℕ) → IsTrue (test m) → m < n → count_below test m < count_below test n
count_below-keeps test m n h lt =
    let same : suc m + (n - suc m) ≡ n = omega arith in
    let up = subst (λ k. count_below test (suc m) ≤ count_below test k) same (count_below-up test (suc m) (n - suc m)) in
    omega (arith, count_below-passed test m h)

pub count_below-next : (test : ℕ → Bool) (n : ℕ) → count_below test (n + 1) ≡ cond (test n) (count_below test n + 1) (count_below test n)
count_below-next test n = let next : n + 1 ≡ suc n = omega arith in ap (count_below test) next

pub count_below-most : (test : ℕ → Bool) (n : ℕ) → count_below test n ≤ n
count_below-most test zero = omega arith
count_below-most test (suc n) = go (test n) (count_below-most test n)
  where
    go : (b : Bool) → count_below test n ≤ n → cond b (count_below test n + 1) (count_below test n) ≤ suc n
    go true h = omega arith
    go false h = omega arith

-- ---- what occurs has a number

auxiliary_is : (n end : ℕ) (c : Col) → IsTrue (is_auxiliary n c) → IsTrue (is_numbered end c) → n < end
auxiliary_is n end (At m) h k = cc
auxiliary_is n end (Aux m) h k = let same = (Decides-eqb m n).0 h in subst (λ x. x < end) same (true-below m end k)

pub occurs-below : (n end : ℕ) (p : Polynomial) → IsTrue (occurs n p) → IsTrue (every_column (is_numbered end) p) → n < end
occurs-below n end p h k =
    met_by (λ t. has_auxiliary n t.0) (λ t. list_all (is_numbered end) t.0) p.terms h k (λ t e f. met_by (is_auxiliary n) (is_numbered end) t.0 e f (λ c. auxiliary_is n end c))

pub row_occurs-below : (n end : ℕ) (rows : List Row) → IsTrue (list_any (λ row. occurs n row.poly) rows) → IsTrue (list_all (λ row. every_column (is_numbered end) row.poly) rows) → n < end
row_occurs-below n end rows h k = met_by (λ row. occurs n row.poly) (λ row. every_column (is_numbered end) row.poly) rows h k (λ row. occurs-below n end row.poly)

pub post_occurs-below : (n end : ℕ) (posts : List Polynomial) → IsTrue (list_any (occurs n) posts) → IsTrue (list_all (every_column (is_numbered end)) posts) → n < end
post_occurs-below n end posts h k = met_by (occurs n) (every_column (is_numbered end)) posts h k (λ p. occurs-below n end p)

-- ---- the list of new numbers

pub record IsNumbering (numbers : List ℕ) (case : Case) : Type 0 where
  pub is : numbers ≡ map (new_number case) (range_with_len 0 (case.aux + 1))

pub number_at : (numbers : List ℕ) (case : Case) → IsNumbering numbers case → (n : ℕ) → n < case.aux + 1 → slice_index numbers n ≡ new_number case n
number_at numbers case list n lt = ap (λ l. slice_index l n) list.is ∙ get_or-map-range_with_len (new_number case) 0 (case.aux + 1) n n 0 lt (omega arith)

pub many_numbers : (numbers : List ℕ) (case : Case) → IsNumbering numbers case → length numbers ≡ case.aux + 1
many_numbers numbers case list = ap length list.is ∙ length-map-range_with_len (new_number case) 0 (case.aux + 1)

keeps_order : (numbers : List ℕ) (case : Case) → IsNumbering numbers case → (occurring : ℕ → Bool) → ((n : ℕ) → IsTrue (occurring n) → IsTrue (occurs_in case n)) → ((n : ℕ) → IsTrue (occurring n) → n < case.aux)
    → KeepsOrder (slice_index numbers) occurring
keeps_order numbers case list occurring there below m n h k lt =
    let first = below m h in
    let second = below n k in
    let e = number_at numbers case list m (omega arith) in
    let f = number_at numbers case list n (omega arith) in
    omega (arith, e, f, count_below-keeps (occurs_in case) m n (there m h) lt)

-- ---- the parts of a case

pub record Numbered (case : Case) : Type 0 where
  pub rows : IsTrue (list_all (λ row. every_column (is_numbered case.aux) row.poly) case.rows)
  pub posts : IsTrue (list_all (every_column (is_numbered case.aux)) case.post)

pub numbered : (case : Case) → IsTrue (every_column_of (is_numbered case.aux) case) → Numbered case
numbered case h =
    let parts = both (list_all (λ row. every_column (is_numbered case.aux) row.poly) case.rows) (list_all (every_column (is_numbered case.aux)) case.post) h in
    record { rows = parts.0; posts = parts.1 }

is_numbered-more : (end more : ℕ) → end ≤ more → (c : Col) → IsTrue (is_numbered end c) → IsTrue (is_numbered more c)
is_numbered-more end more le (At n) h = h
is_numbered-more end more le (Aux n) h = let lt = true-below n end h in below-true n more (omega arith)

pub rows_numbered : (numbers : List ℕ) (case : Case) → IsNumbering numbers case → Numbered case → IsTrue (list_all (λ row. every_column (is_numbered (length numbers)) row.poly) case.rows)
rows_numbered numbers case list h = more_columns_of (is_numbered case.aux) (is_numbered (length numbers)) (is_numbered-more case.aux (length numbers) (omega (arith, many_numbers numbers case list))) case.rows h.rows

pub posts_numbered : (numbers : List ℕ) (case : Case) → IsNumbering numbers case → Numbered case → IsTrue (list_all (every_column (is_numbered (length numbers))) case.post)
posts_numbered numbers case list h =
    all_more (every_column (is_numbered case.aux)) (every_column (is_numbered (length numbers)))
    (more_columns (is_numbered case.aux) (is_numbered (length numbers)) (is_numbered-more case.aux (length numbers) (omega (arith, many_numbers numbers case list)))) case.post h.posts

pub rows_order : (numbers : List ℕ) (case : Case) → IsNumbering numbers case → Numbered case → KeepsOrder (slice_index numbers) (λ n. list_any (λ row. occurs n row.poly) case.rows)
rows_order numbers case list h =
    keeps_order numbers case list (λ n. list_any (λ row. occurs n row.poly) case.rows) (λ n k. or_left (list_any (λ row. occurs n row.poly) case.rows) (list_any (occurs n) case.post) k) (λ n k. row_occurs-below n case.aux case.rows k h.rows)

pub posts_order : (numbers : List ℕ) (case : Case) → IsNumbering numbers case → Numbered case → KeepsOrder (slice_index numbers) (λ n. list_any (occurs n) case.post)
posts_order numbers case list h =
    keeps_order numbers case list (λ n. list_any (occurs n) case.post) (λ n k. or_right (list_any (λ row. occurs n row.poly) case.rows) (list_any (occurs n) case.post) k) (λ n k. post_occurs-below n case.aux case.post k h.posts)

-- ---- two numberings that agree

abbrev numbered_terms : (ℕ → ℕ) → Terms → Terms
numbered_terms f ts = map (λ t. (map (renumbered_column f) t.0, t.1)) ts

module _ (f g : ℕ → ℕ) (end : ℕ) (agree : (n : ℕ) → n < end → f n ≡ g n) where
  column_agrees : (c : Col) → IsTrue (is_numbered end c) → renumbered_column f c ≡ renumbered_column g c
  column_agrees (At n) h = refl
  column_agrees (Aux n) h = ap Aux (agree n (true-below n end h))

  columns_agree : (m : List Col) → IsTrue (list_all (is_numbered end) m) → map (renumbered_column f) m ≡ map (renumbered_column g) m
  columns_agree [] h = refl
  columns_agree (c ∷ m) h = let parts = both (is_numbered end c) (list_all (is_numbered end) m) h in λ i. column_agrees c parts.0 i ∷ columns_agree m parts.1 i

  terms_agree : (ts : Terms) → IsTrue (list_all (λ t. list_all (is_numbered end) t.0) ts) → numbered_terms f ts ≡ numbered_terms g ts
  terms_agree [] h = refl
  terms_agree (t ∷ ts) h =
      let parts = both (list_all (is_numbered end) t.0) (list_all (λ u. list_all (is_numbered end) u.0) ts) h in λ i. (columns_agree t.0 parts.0 i, t.1) ∷ terms_agree ts parts.1 i

  pub polynomial_agrees : (p : Polynomial) → IsTrue (every_column (is_numbered end) p) → renumbered_polynomial f p ≡ renumbered_polynomial g p
  polynomial_agrees p h = λ i. record { terms = terms_agree p.terms h i; rest = p.rest }

  rows_agree : (rows : List Row) → IsTrue (list_all (λ row. every_column (is_numbered end) row.poly) rows) → map (renumbered_row f) rows ≡ map (renumbered_row g) rows
  rows_agree [] h = refl
  rows_agree (row ∷ rows) h =
      let parts = both (every_column (is_numbered end) row.poly) (list_all (λ r. every_column (is_numbered end) r.poly) rows) h in λ i. record { poly = polynomial_agrees row.poly parts.0 i; kind = row.kind } ∷ rows_agree rows parts.1 i

  posts_agree : (posts : List Polynomial) → IsTrue (list_all (every_column (is_numbered end)) posts) → map (renumbered_polynomial f) posts ≡ map (renumbered_polynomial g) posts
  posts_agree [] h = refl
  posts_agree (p ∷ posts) h = let parts = both (every_column (is_numbered end) p) (list_all (every_column (is_numbered end)) posts) h in λ i. polynomial_agrees p parts.0 i ∷ posts_agree posts parts.1 i

pub renumbered_made : (numbers : List ℕ) (case : Case) → IsNumbering numbers case → Numbered case → (aux : ℕ) (rows : List Row) (post : List Polynomial)
    → aux ≡ slice_index numbers case.aux → rows ≡ map (renumbered_row (slice_index numbers)) case.rows → post ≡ map (renumbered_polynomial (slice_index numbers)) case.post
    → (let c : Case = record { aux = aux; rows = rows; post = post } in c ≡ renumbered_case case)
renumbered_made numbers case list h aux rows post e f g =
    let agree : (n : ℕ) → n < case.aux → slice_index numbers n ≡ new_number case n = λ n lt. number_at numbers case list n (omega arith) in
    λ i. record {
      aux = (e ∙ number_at numbers case list case.aux (omega arith)) i;
      rows = (f ∙ rows_agree (slice_index numbers) (new_number case) case.aux agree case.rows h.rows) i;
      post = (g ∙ posts_agree (slice_index numbers) (new_number case) case.aux agree case.post h.posts) i;
    }
