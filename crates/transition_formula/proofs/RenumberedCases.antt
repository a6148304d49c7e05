-- A case whose auxiliaries are numbered anew holds of what it held of, and of no more.
use Rattle.std.proofs.Common.{◌≡◌, ◌⊎◌, inl, inr, ℕ, zero, suc, ◌<◌, ◌≤◌, ◌==◌, Bool, true, false, cond, ℤ, ◌+ℤ◌, ◌*ℤ◌, map, List, [], ◌∷◌, refl, sym, ap, subst, ◌∙◌, arith}
use Rattle.std.specs.Prelude.{IsTrue, ◌&&◌}
use Rattle.std.specs.List.{AllByRecursion, list_any, list_all}
use Rattle.std.proofs.lemmas.Bool.{cases_lt}
use Rattle.std.proofs.lemmas.Bool.Decides.{Decides-eqb}
use Rattle.items.proofs.Each.{each-any, each-both}
use Rattle.linear_terms.specs.declared.col.Col.{Col}
use Rattle.linear_terms.specs.declared.col.Col.TheVariants.{At, Aux}
use Rattle.linear_terms.specs.declared.row.Row.{Row}
use Rattle.linear_terms.specs.declared.row.Case.{Case}
use Rattle.linear_terms.specs.Auxiliaries.{occurs, renumbered_polynomial, renumbered_column, is_numbered}
use Rattle.linear_terms.specs.Polynomial.{Terms, Polynomial}
use Rattle.linear_terms.specs.Row.{IsWithin, RowsHold}
use Rattle.linear_terms.specs.Value.{Valuation, mono_value, terms_value, value_of}
use Rattle.linear_terms.proofs.Columns.{EachColumn}
use Rattle.linear_terms.proofs.Numbering.{Occurring, terms_occur}
use Rattle.transition_formula.specs.Meaning.{numbers, HoldsCase}
use Rattle.transition_formula.specs.Renumbering.{count_below, new_number, occurs_in, renumbered_case, renumbered_row}
use Rattle.transition_formula.specs.Transition.{every_column}
use Rattle.transition_formula.proofs.ColumnTests.{both, columns_from_test}
use Rattle.transition_formula.proofs.Fitting.{true-below}
use Rattle.transition_formula.proofs.Loops.{or_left, or_right}
use Rattle.transition_formula.proofs.Numbers.{Numbered, count_below-keeps}

-- ---- the auxiliary that a new number stands for

old_number : (ℕ → Bool) → ℕ → ℕ → ℕ
old_number test zero j = 0
old_number test (suc n) j = cond (test n && count_below test n == j) n (old_number test n j)

found_again : (test : ℕ → Bool) (k n : ℕ) → IsTrue (test k) → k < n → old_number test n (count_below test k) ≡ k
unfolding old_number
found_again test k zero h lt = absurd (omega arith)
found_again test k (suc n) h lt = go (cases_lt k n) (found_again test k n h)
  where
    last : k ≡ n → cond (test n && count_below test n == count_below test k) n (old_number test n (count_below test k)) ≡ k
    last same =
        let passes : test n ≡ true = ap test (sym same) ∙ h in
        let counts = (Decides-eqb (count_below test n) (count_below test k)).1 (ap (count_below test) (sym same)) in
        (λ i. cond (passes i && counts i) n (old_number test n (count_below test k))) ∙ sym same

    other : k < n → (b : Bool) → (test n && count_below test n == count_below test k) ≡ b → (k < n → old_number test n (count_below test k) ≡ k) → cond b n (old_number test n (count_below test k)) ≡ k
    other within true e ih =
        let parts = both (test n) (count_below test n == count_below test k) e in
        let same = (Decides-eqb (count_below test n) (count_below test k)).0 parts.1 in
        absurd (omega (arith, same, count_below-keeps test k n h within))
    other within false e ih = ih within

    go : (k < n) ⊎ (n ≤ k) → (k < n → old_number test n (count_below test k) ≡ k) → cond (test n && count_below test n == count_below test k) n (old_number test n (count_below test k)) ≡ k
    go (inl within) ih = other within (test n && count_below test n == count_below test k) refl ih
    go (inr past) ih = last (omega arith)

-- ---- values under numbers that the new columns tell

module _ (number : ℕ → ℕ) (at bt : Valuation) (P : Col → Type 0) (tells : (c : Col) → P c → bt (renumbered_column number c) ≡ at c) where
  mono-told : (m : List Col) → AllByRecursion P m → mono_value bt (map (renumbered_column number) m) ≡ mono_value at m
  mono-told [] h = refl
  mono-told (c ∷ m) h = λ i. tells c h.0 i *ℤ mono-told m h.1 i

  terms-told : (ts : Terms) → EachColumn P ts → terms_value bt (map (λ t. (map (renumbered_column number) t.0, t.1)) ts) ≡ terms_value at ts
  terms-told [] h = refl
  terms-told (t ∷ ts) h = λ i. t.1 *ℤ mono-told t.0 h.0 i +ℤ terms-told ts h.1 i

  value-told : (p : Polynomial) → EachColumn P p.terms → value_of bt (renumbered_polynomial number p) ≡ value_of at p
  value-told p h = ap (λ v. v +ℤ p.rest) (terms-told p.terms h)

  rows-told : (rows : List Row) → AllByRecursion (λ row. EachColumn P row.poly.terms) rows → RowsHold at rows → RowsHold bt (map (renumbered_row number) rows)
  rows-told [] h k = tt
  rows-told (row ∷ rows) h k = (subst (IsWithin row.kind) (sym (value-told row.poly h.0)) k.0, rows-told rows h.1 k.1)

  told-rows : (rows : List Row) → AllByRecursion (λ row. EachColumn P row.poly.terms) rows → RowsHold bt (map (renumbered_row number) rows) → RowsHold at rows
  told-rows [] h k = tt
  told-rows (row ∷ rows) h k = (subst (IsWithin row.kind) (value-told row.poly h.0) k.0, told-rows rows h.1 k.1)

  posts-told : (posts : List Polynomial) → AllByRecursion (λ p. EachColumn P p.terms) posts → map (value_of bt) (map (renumbered_polynomial number) posts) ≡ map (value_of at) posts
  posts-told [] h = refl
  posts-told (p ∷ posts) h = λ i. value-told p h.0 i ∷ posts-told posts h.1 i

-- ---- the columns of a case

module _ (case : Case) where
  abbrev Known : Col → Type 0
  Known c = IsTrue (is_numbered case.aux c) × Occurring (λ n. IsTrue (occurs_in case n)) c

  known-terms : (ts : Terms) → EachColumn (λ c. IsTrue (is_numbered case.aux c)) ts → EachColumn (Occurring (λ n. IsTrue (occurs_in case n))) ts → EachColumn Known ts
  known-terms [] h k = tt
  known-terms (t ∷ ts) h k = (each-both (λ c. IsTrue (is_numbered case.aux c)) (Occurring (λ n. IsTrue (occurs_in case n))) t.0 h.0 k.0, known-terms ts h.1 k.1)

  known : (p : Polynomial) → IsTrue (every_column (is_numbered case.aux) p) → ((n : ℕ) → IsTrue (occurs n p) → IsTrue (occurs_in case n)) → EachColumn Known p.terms
  known p h there = known-terms p.terms (columns_from_test (is_numbered case.aux) p h) (terms_occur (λ n. IsTrue (occurs_in case n)) p.terms there)

  known-rows : (rows : List Row) → IsTrue (list_all (λ row. every_column (is_numbered case.aux) row.poly) rows) → ((n : ℕ) → IsTrue (list_any (λ row. occurs n row.poly) rows) → IsTrue (occurs_in case n)) → AllByRecursion (λ row. EachColumn Known row.poly.terms) rows
  known-rows [] h there = tt
  known-rows (row ∷ rows) h there =
      let parts = both (every_column (is_numbered case.aux) row.poly) (list_all (λ r. every_column (is_numbered case.aux) r.poly) rows) h in (
        known row.poly parts.0 (λ n k. there n (or_left (occurs n row.poly) (list_any (λ r. occurs n r.poly) rows) k)),
        known-rows rows parts.1 (λ n k. there n (or_right (occurs n row.poly) (list_any (λ r. occurs n r.poly) rows) k)),
      )

  known-posts : (posts : List Polynomial) → IsTrue (list_all (every_column (is_numbered case.aux)) posts) → ((n : ℕ) → IsTrue (list_any (occurs n) posts) → IsTrue (occurs_in case n)) → AllByRecursion (λ p. EachColumn Known p.terms) posts
  known-posts [] h there = tt
  known-posts (p ∷ posts) h there =
      let parts = both (every_column (is_numbered case.aux) p) (list_all (every_column (is_numbered case.aux)) posts) h in (
        known p parts.0 (λ n k. there n (or_left (occurs n p) (list_any (occurs n) posts) k)),
        known-posts posts parts.1 (λ n k. there n (or_right (occurs n p) (list_any (occurs n) posts) k)),
      )

  -- numbers that an auxiliary's new number stands for
  abbrev renumbered_aux : (ℕ → ℤ) → ℕ → ℤ
  renumbered_aux aux j = aux (old_number (occurs_in case) case.aux j)

  tells-known : (before : List ℤ) (aux : ℕ → ℤ) (c : Col) → Known c → numbers before (renumbered_aux aux) (renumbered_column (new_number case) c) ≡ numbers before aux c
  tells-known before aux (At m) h = refl
  tells-known before aux (Aux m) h = ap aux (found_again (occurs_in case) m case.aux h.1 (true-below m case.aux h.0))

  pub renumbered-hold : Numbered case → (before after : List ℤ) → HoldsCase case before after → HoldsCase (renumbered_case case) before after
  renumbered-hold all before after (aux, h) =
      let at = numbers before aux in
      let bt = numbers before (renumbered_aux aux) in (
        renumbered_aux aux,
        record {
          rows =
              rows-told (new_number case) at bt Known (tells-known before aux) case.rows
              (known-rows case.rows all.rows (λ n k. or_left (list_any (λ row. occurs n row.poly) case.rows) (list_any (occurs n) case.post) k)) h.rows;
          posts =
              posts-told (new_number case) at bt Known (tells-known before aux) case.post
              (known-posts case.post all.posts (λ n k. or_right (list_any (λ row. occurs n row.poly) case.rows) (list_any (occurs n) case.post) k)) ∙ h.posts;
        },
      )

-- ---- the other way every column tells

tells-any : (number : ℕ → ℕ) (before : List ℤ) (aux : ℕ → ℤ) (c : Col) → Unit {0} → numbers before aux (renumbered_column number c) ≡ numbers before (λ n. aux (number n)) c
tells-any number before aux (At m) h = refl
tells-any number before aux (Aux m) h = refl

any_terms : (ts : Terms) → EachColumn (λ c. Unit {0}) ts
any_terms ts = each-any (λ t. AllByRecursion (λ c. Unit {0}) t.0) (λ t. each-any (λ c. Unit {0}) (λ c. tt) t.0) ts

any_rows : (rows : List Row) → AllByRecursion (λ row. EachColumn (λ c. Unit {0}) row.poly.terms) rows
any_rows rows = each-any (λ row. EachColumn (λ c. Unit {0}) row.poly.terms) (λ row. any_terms row.poly.terms) rows

any_posts : (posts : List Polynomial) → AllByRecursion (λ p. EachColumn (λ c. Unit {0}) p.terms) posts
any_posts posts = each-any (λ p. EachColumn (λ c. Unit {0}) p.terms) (λ p. any_terms p.terms) posts

-- each new column tells its old one, whichever the columns are
module _ (number : ℕ → ℕ) (at bt : Valuation) (tells : (c : Col) → bt (renumbered_column number c) ≡ at c) where
  pub rows-moved : (rows : List Row) → RowsHold at rows → RowsHold bt (map (renumbered_row number) rows)
  rows-moved rows = rows-told number at bt (λ c. Unit {0}) (λ c any. tells c) rows (any_rows rows)

  pub moved-rows : (rows : List Row) → RowsHold bt (map (renumbered_row number) rows) → RowsHold at rows
  moved-rows rows = told-rows number at bt (λ c. Unit {0}) (λ c any. tells c) rows (any_rows rows)

  pub posts-moved : (posts : List Polynomial) → map (value_of bt) (map (renumbered_polynomial number) posts) ≡ map (value_of at) posts
  posts-moved posts = posts-told number at bt (λ c. Unit {0}) (λ c any. tells c) posts (any_posts posts)

pub renumbered-held : (case : Case) (before after : List ℤ) → HoldsCase (renumbered_case case) before after → HoldsCase case before after
renumbered-held case before after (aux, h) =
    let number = new_number case in
    let at = numbers before (λ n. aux (number n)) in
    let bt = numbers before aux in (
      λ n. aux (number n),
      record {
        rows = told-rows number at bt (λ c. Unit {0}) (tells-any number before aux) case.rows (any_rows case.rows) h.rows;
        posts = sym (posts-told number at bt (λ c. Unit {0}) (tells-any number before aux) case.post (any_posts case.post)) ∙ h.posts;
      },
    )
