-- Rows put in order are true where they were: equal rows once, opposite rows as equations.
use Rattle.std.proofs.Common.{◌≡◌, Bool, true, false, cond, ℤ, pos, ◌+ℤ◌, ◌*ℤ◌, ◌≤ℤ◌, fold, List, [], ◌∷◌, ◌++◌, Option, Some, None, refl, sym, ap, subst, ◌∙◌, arith}
use Rattle.std.specs.Prelude.{IsTrue, neg_ℤ, int_lt, not, ◌||◌, ◌&&◌}
use Rattle.std.specs.List.{AllByRecursion, list_any, find}
use Rattle.std.specs.Ordering.{int_eq}
use Rattle.std.specs.Cmp.Lexicographic.{pointwise}
use Rattle.std.proofs.lemmas.Int.{ints}
use Rattle.std.proofs.lemmas.Bool.Decides.{Decides-int_eq}
use Rattle.whole_numbers.proofs.Ring.{neg_ℤ-*ℤ}
use Rattle.linear_terms.specs.declared.row.Kind.{Kind}
use Rattle.linear_terms.specs.declared.row.Kind.TheVariants.{AtMost, Equal}
use Rattle.linear_terms.specs.declared.row.Row.{Row}
use Rattle.linear_terms.specs.Polynomial.{Terms, Polynomial}
use Rattle.linear_terms.specs.Equality.{term_eq, poly_eq}
use Rattle.linear_terms.specs.Row.{IsWithin, RowHolds, starts_negative, RowsHold}
use Rattle.linear_terms.specs.Value.{Valuation, mono_value, terms_value, value_of}
use Rattle.linear_terms.proofs.Columns.{each-append}
use Rattle.linear_terms.proofs.Equal.{poly_eq_decides}
use Rattle.transition_formula.specs.Meaning.{AreTrueLeft}
use Rattle.transition_formula.specs.Rows.{alike_by, alike, stronger, with_row, each_once, is_at_most, negated_terms, are_opposite, exclude, can_agree, close, equation_of, with_met, met_rows, opposites_met}
use Rattle.transition_formula.proofs.ColumnTests.{both, both_true}
use Rattle.transition_formula.proofs.Loops.{row_with, or_right}

-- ---- equal terms

abbrev alone : Terms → Polynomial
alone ts = record { terms = ts; rest = pos 0 }

pub terms_same : (ts us : Terms) → IsTrue (pointwise term_eq ts us) → ts ≡ us
terms_same ts us h = ap (λ (p : Polynomial). p.terms) ((poly_eq_decides (alone ts) (alone us) (poly_eq (alone ts) (alone us)) refl).0 (both_true (pointwise term_eq ts us) true h refl))

pub polys_same : (p q : Polynomial) → IsTrue (poly_eq p q) → p ≡ q
polys_same p q h = (poly_eq_decides p q (poly_eq p q) refl).0 h

-- ---- some element passes, and each has the property

some_of : {X Goal : Type 0} (test : X → Bool) (P : X → Type 0) (xs : List X) → IsTrue (list_any test xs) → AllByRecursion P xs → ((x : X) → IsTrue (test x) → P x → Goal) → Goal
some_of test P [] h each tells = cc
some_of {Goal = Goal} test P (x ∷ xs) h each tells = go (test x) refl h (λ any. some_of test P xs any each.1 tells)
  where
    go : (b : Bool) → test x ≡ b → IsTrue (b || list_any test xs) → (IsTrue (list_any test xs) → Goal) → Goal
    go true e any ih = tells x e each.0
    go false e any ih = ih any

found : {X : Type 0} (test : X → Bool) (P : X → Type 0) (xs : List X) (x : X) → find test xs ≡ Some x → AllByRecursion P xs → IsTrue (test x) × P x
found test P [] x e each = cc
found test P (y ∷ xs) x e each = go (test y) refl e (λ f. found test P xs x f each.1)
  where
    go : (b : Bool) → test y ≡ b → cond b (Some y) (find test xs) ≡ Some x → (find test xs ≡ Some x → IsTrue (test x) × P x) → IsTrue (test x) × P x
    go true t f ih = let same : y ≡ x = cc in (subst (λ z. IsTrue (test z)) same t, subst P same each.0)
    go false t f ih = ih f

none_found : {X : Type 0} (test : X → Bool) (xs : List X) → find test xs ≡ None → IsTrue (list_any test xs) → ⊥
none_found test [] e any = cc
none_found test (y ∷ xs) e any = go (test y) e any (λ f h. none_found test xs f h)
  where
    go : (b : Bool) → cond b (Some y) (find test xs) ≡ None → IsTrue (b || list_any test xs) → (find test xs ≡ None → IsTrue (list_any test xs) → ⊥) → ⊥
    go true f h ih = cc
    go false f h ih = ih f h

everywhere : {X : Type 0} (P Q : X → Type 0) → ((x : X) → P x → Q x) → (xs : List X) → AllByRecursion P xs → AllByRecursion Q xs
everywhere P Q more [] each = tt
everywhere P Q more (x ∷ xs) each = (more x each.0, everywhere P Q more xs each.1)

module _ (at : Valuation) where
  -- ---- each row once

  alike-held : (p : Polynomial) (k : Kind) (q : Polynomial) (l : Kind) → IsTrue (alike_by k l (row_with p k) (row_with q l)) → RowHolds at (stronger (row_with p k) (row_with q l)) → RowHolds at (row_with p k) × RowHolds at (row_with q l)
  alike-held p AtMost q AtMost h held = go (int_lt p.rest q.rest) refl held
    where
      same : terms_value at p.terms ≡ terms_value at q.terms
      same = ap (terms_value at) (terms_same p.terms q.terms h)

      less : (t u c d : ℤ) → t ≡ u → int_lt c d ≡ true → (u +ℤ d) ≤ℤ pos 0 → (t +ℤ c) ≤ℤ pos 0
      less t u c d e f k = omega (arith, ints)

      no_less : (t u c d : ℤ) → t ≡ u → int_lt c d ≡ false → (t +ℤ c) ≤ℤ pos 0 → (u +ℤ d) ≤ℤ pos 0
      no_less t u c d e f k = omega (arith, ints)

      go : (b : Bool) → int_lt p.rest q.rest ≡ b → RowHolds at (cond b (row_with q AtMost) (row_with p AtMost)) → RowHolds at (row_with p AtMost) × RowHolds at (row_with q AtMost)
      go true e k = (less (terms_value at p.terms) (terms_value at q.terms) p.rest q.rest same e k, k)
      go false e k = (k, no_less (terms_value at p.terms) (terms_value at q.terms) p.rest q.rest same e k)
  alike-held p AtMost q Equal h held = cc
  alike-held p Equal q AtMost h held = cc
  alike-held p Equal q Equal h held = go (int_lt p.rest q.rest) held
    where
      same : value_of at p ≡ value_of at q
      same = ap (value_of at) (polys_same p q h)

      go : (b : Bool) → RowHolds at (cond b (row_with q Equal) (row_with p Equal)) → RowHolds at (row_with p Equal) × RowHolds at (row_with q Equal)
      go true k = (same ∙ k, k)
      go false k = (k, sym same ∙ k)

  stronger-holds : (r s : Row) → RowHolds at r → RowHolds at s → RowHolds at (stronger r s)
  stronger-holds r s h k = go (int_lt r.poly.rest s.poly.rest)
    where
      go : (b : Bool) → RowHolds at (cond b s r)
      go true = k
      go false = h

  with_row-hold : (rows : List Row) (s : Row) → RowsHold at rows → RowHolds at s → RowsHold at (with_row rows s)
  with_row-hold [] s h k = (k, tt)
  with_row-hold (r ∷ rows) s h k = go (alike r s) (with_row-hold rows s h.1 k)
    where
      go : (b : Bool) → RowsHold at (with_row rows s) → RowsHold at (cond b (stronger r s ∷ rows) (r ∷ with_row rows s))
      go true later = (stronger-holds r s h.0 k, h.1)
      go false later = (h.0, later)

  with_row-held : (rows : List Row) (s : Row) → RowsHold at (with_row rows s) → RowsHold at rows × RowHolds at s
  with_row-held [] s h = (tt, h.0)
  with_row-held (r ∷ rows) s h = go (alike r s) refl h (λ k. with_row-held rows s k)
    where
      go : (b : Bool) → alike r s ≡ b → RowsHold at (cond b (stronger r s ∷ rows) (r ∷ with_row rows s)) → (RowsHold at (with_row rows s) → RowsHold at rows × RowHolds at s) → RowsHold at (r ∷ rows) × RowHolds at s
      go true e k ih = let two = alike-held r.poly r.kind s.poly s.kind e k.0 in ((two.0, k.1), two.1)
      go false e k ih = let more = ih k.1 in ((k.0, more.0), more.1)

  once-hold : (front rows : List Row) → RowsHold at front → RowsHold at rows → RowsHold at (fold with_row front rows)
  once-hold front [] h k = h
  once-hold front (r ∷ rows) h k = once-hold (with_row front r) rows (with_row-hold front r h k.0) k.1

  once-held : (front rows : List Row) → RowsHold at (fold with_row front rows) → RowsHold at front × RowsHold at rows
  once-held front [] h = (h, tt)
  once-held front (r ∷ rows) h =
      let more = once-held (with_row front r) rows h in
      let first = with_row-held front r more.0 in (first.0, (first.1, more.1))

  -- ---- opposite rows

  negated-value : (ts : Terms) → terms_value at (negated_terms ts) ≡ neg_ℤ (terms_value at ts)
  negated-value [] = refl
  negated-value (t ∷ ts) = sums (neg_ℤ t.1 *ℤ mono_value at t.0) (terms_value at (negated_terms ts)) (t.1 *ℤ mono_value at t.0) (terms_value at ts) (neg_ℤ-*ℤ t.1 (mono_value at t.0)) (negated-value ts)
    where
      sums : (x y u v : ℤ) → x ≡ neg_ℤ u → y ≡ neg_ℤ v → x +ℤ y ≡ neg_ℤ (u +ℤ v)
      sums x y u v e f = omega (arith, ints)

  pub record Opposite (r s : Row) : Type 0 where
    pub first : r.kind ≡ AtMost
    pub second : s.kind ≡ AtMost
    pub values : terms_value at s.poly.terms ≡ neg_ℤ (terms_value at r.poly.terms)

  opposite : (r s : Row) → IsTrue (are_opposite r s) → Opposite r s
  opposite r s h =
      let parts = both (is_at_most r.kind && is_at_most s.kind) (pointwise term_eq (negated_terms r.poly.terms) s.poly.terms) h in
      let kinds = both (is_at_most r.kind) (is_at_most s.kind) parts.0 in
      record {
        first = inequality r.kind kinds.0;
        second = inequality s.kind kinds.1;
        values = ap (terms_value at) (sym (terms_same (negated_terms r.poly.terms) s.poly.terms parts.1)) ∙ negated-value r.poly.terms;
      }
    where
      inequality : (k : Kind) → IsTrue (is_at_most k) → k ≡ AtMost
      inequality AtMost e = refl
      inequality Equal e = cc

  as_inequality : (r : Row) → r.kind ≡ AtMost → RowHolds at r → value_of at r.poly ≤ℤ pos 0
  as_inequality r e h = subst (λ k. IsWithin k (value_of at r.poly)) e h

  excluded : (r s : Row) → IsTrue (exclude r s) → RowHolds at r → RowHolds at s → ⊥
  excluded r s h holds other =
      let parts = both (are_opposite r s) (int_lt (pos 0) (r.poly.rest +ℤ s.poly.rest)) h in
      let o = opposite r s parts.0 in
      never (terms_value at r.poly.terms) (terms_value at s.poly.terms) r.poly.rest s.poly.rest o.values parts.1 (as_inequality r o.first holds) (as_inequality s o.second other)
    where
      never : (t u c d : ℤ) → u ≡ neg_ℤ t → int_lt (pos 0) (c +ℤ d) ≡ true → (t +ℤ c) ≤ℤ pos 0 → (u +ℤ d) ≤ℤ pos 0 → ⊥
      never t u c d e f h k = omega (arith, ints)

  pub record Closing (r s : Row) : Type 0 where
    pub first : r.kind ≡ AtMost
    pub second : s.kind ≡ AtMost
    pub values : value_of at s.poly ≡ neg_ℤ (value_of at r.poly)

  closing : (r s : Row) → IsTrue (close r s) → Closing r s
  closing r s h =
      let parts = both (are_opposite r s) (int_eq (r.poly.rest +ℤ s.poly.rest) (pos 0)) h in
      let o = opposite r s parts.0 in
      record {
        first = o.first;
        second = o.second;
        values = turn (terms_value at r.poly.terms) (terms_value at s.poly.terms) r.poly.rest s.poly.rest o.values ((Decides-int_eq (r.poly.rest +ℤ s.poly.rest) (pos 0)).0 parts.1);
      }
    where
      turn : (t u c d : ℤ) → u ≡ neg_ℤ t → c +ℤ d ≡ pos 0 → u +ℤ d ≡ neg_ℤ (t +ℤ c)
      turn t u c d e f = omega (arith, ints)

  agree : (rows : List Row) → RowsHold at rows → IsTrue (can_agree rows)
  agree [] h = refl
  agree (r ∷ rows) h = both_true (not (list_any (exclude r) rows)) (can_agree rows) (go (list_any (exclude r) rows) refl) (agree rows h.1)
    where
      go : (b : Bool) → list_any (exclude r) rows ≡ b → IsTrue (not b)
      go true e = absurd (some_of (exclude r) (RowHolds at) rows e h.1 (λ s ex k. excluded r s ex h.0 k))
      go false e = refl

  -- a number that is its own opposite's bound
  zero_between : (x y : ℤ) → y ≡ neg_ℤ x → x ≤ℤ pos 0 → y ≤ℤ pos 0 → x ≡ pos 0
  zero_between x y e h k = omega (arith, ints)

  zero_of : (x y : ℤ) → y ≡ neg_ℤ x → y ≡ pos 0 → x ≡ pos 0
  zero_of x y e h = omega (arith, ints)

  zero_turned : (x y : ℤ) → y ≡ neg_ℤ x → x ≡ pos 0 → y ≡ pos 0
  zero_turned x y e h = omega (arith, ints)

  zero-holds : (r : Row) → r.kind ≡ AtMost → value_of at r.poly ≡ pos 0 → RowHolds at r
  zero-holds r e h = subst (λ k. IsWithin k (value_of at r.poly)) (sym e) (below (value_of at r.poly) h)
    where
      below : (x : ℤ) → x ≡ pos 0 → x ≤ℤ pos 0
      below x e = omega (arith, ints)

  equation-zero : (r s : Row) → Closing r s → value_of at r.poly ≡ pos 0 → RowHolds at (equation_of r s)
  equation-zero r s c zero = go (starts_negative r.poly.terms)
    where
      go : (b : Bool) → value_of at (cond b s.poly r.poly) ≡ pos 0
      go true = zero_turned (value_of at r.poly) (value_of at s.poly) c.values zero
      go false = zero

  zero-equation : (r s : Row) → Closing r s → RowHolds at (equation_of r s) → value_of at r.poly ≡ pos 0
  zero-equation r s c h = go (starts_negative r.poly.terms) h
    where
      go : (b : Bool) → value_of at (cond b s.poly r.poly) ≡ pos 0 → value_of at r.poly ≡ pos 0
      go true k = zero_of (value_of at r.poly) (value_of at s.poly) c.values k
      go false k = k

  met-hold : (before rows : List Row) → RowsHold at rows → RowsHold at (met_rows before rows)
  met-hold before [] h = tt
  met-hold before (r ∷ rows) h = go (list_any (λ s. close s r) before) (find (close r) rows) refl (met-hold (before ++ r ∷ []) rows h.1)
    where
      go : (b : Bool) (o : Option Row) → find (close r) rows ≡ o → RowsHold at (met_rows (before ++ r ∷ []) rows) → RowsHold at (with_met r b o (met_rows (before ++ r ∷ []) rows))
      go true o e later = later
      go false None e later = (h.0, later)
      go false (Some s) e later =
          let one = found (close r) (RowHolds at) rows s e h.1 in
          let c = closing r s one.0 in
          (equation-zero r s c (zero_between (value_of at r.poly) (value_of at s.poly) c.values (as_inequality r c.first h.0) (as_inequality s c.second one.1)), later)

  -- those that a later one closes are zero
  abbrev Settled : List Row → List Row → Type 0
  Settled before rows = AllByRecursion (λ s. IsTrue (list_any (close s) rows) → value_of at s.poly ≡ pos 0) before

  abbrev HeldAfter : List Row → Row → List Row → Type 0
  HeldAfter before r rows = Settled (before ++ r ∷ []) rows → RowsHold at (met_rows (before ++ r ∷ []) rows) → RowsHold at rows

  met-held : (before rows : List Row) → Settled before rows → RowsHold at (met_rows before rows) → RowsHold at rows
  met-held before [] settled h = tt
  met-held before (r ∷ rows) settled h = go (list_any (λ s. close s r) before) (find (close r) rows) refl refl h (λ next k. met-held (before ++ r ∷ []) rows next k)
    where
      later : (IsTrue (list_any (close r) rows) → value_of at r.poly ≡ pos 0) → Settled (before ++ r ∷ []) rows
      later own =
          each-append (λ s. IsTrue (list_any (close s) rows) → value_of at s.poly ≡ pos 0) before (r ∷ [])
          (everywhere (λ s. IsTrue (list_any (close s) (r ∷ rows)) → value_of at s.poly ≡ pos 0) (λ s. IsTrue (list_any (close s) rows) → value_of at s.poly ≡ pos 0) (λ s k any. k (or_right (close s r) (list_any (close s) rows) any)) before settled)
          (own, tt)

      with_own : HeldAfter before r rows → RowHolds at r → (IsTrue (list_any (close r) rows) → value_of at r.poly ≡ pos 0) → RowsHold at (met_rows (before ++ r ∷ []) rows) → RowsHold at (r ∷ rows)
      with_own ih holds own k = (holds, ih (later own) k)

      first_any : (s : Row) → IsTrue (close s r) → IsTrue (list_any (close s) (r ∷ rows))
      first_any s e = ap (λ b. b || list_any (close s) rows) e

      go : (b : Bool) (o : Option Row) → list_any (λ s. close s r) before ≡ b → find (close r) rows ≡ o → RowsHold at (with_met r b o (met_rows (before ++ r ∷ []) rows)) → HeldAfter before r rows → RowsHold at (r ∷ rows)
      go true o e f k ih =
          some_of (λ s. close s r) (λ s. IsTrue (list_any (close s) (r ∷ rows)) → value_of at s.poly ≡ pos 0) before e settled
          (λ s closes tells.
          let c = closing s r closes in
          let zero = zero_turned (value_of at s.poly) (value_of at r.poly) c.values (tells (first_any s closes)) in
          with_own ih (zero-holds r c.second zero) (λ any. zero) k)
      go false None e f k ih = with_own ih k.0 (λ any. absurd (none_found (close r) rows f any)) k.1
      go false (Some s) e f k ih =
          let c = closing r s (found (close r) (λ s. Unit {0}) rows s f (nothing rows)).0 in
          let zero = zero-equation r s c k.0 in
          with_own ih (zero-holds r c.first zero) (λ any. zero) k.1
        where
          nothing : (xs : List Row) → AllByRecursion (λ s. Unit {0}) xs
          nothing [] = tt
          nothing (x ∷ xs) = (tt, nothing xs)

  -- ---- together

  pub once_met-hold : (rows : List Row) → RowsHold at rows → AreTrueLeft at (opposites_met (Some (each_once rows)))
  once_met-hold rows h = go (can_agree (each_once rows)) refl
    where
      once : RowsHold at (each_once rows)
      once = once-hold [] rows tt h

      go : (b : Bool) → can_agree (each_once rows) ≡ b → AreTrueLeft at (cond b (Some (met_rows [] (each_once rows))) None)
      go true e = met-hold [] (each_once rows) once
      go false e = clash (can_agree (each_once rows)) (agree (each_once rows) once) e
        where
          clash : (b : Bool) → b ≡ true → b ≡ false → ⊥
          clash true e f = cc
          clash false e f = cc

  pub once_met-held : (rows : List Row) → AreTrueLeft at (opposites_met (Some (each_once rows))) → RowsHold at rows
  once_met-held rows h = go (can_agree (each_once rows)) h
    where
      go : (b : Bool) → AreTrueLeft at (cond b (Some (met_rows [] (each_once rows))) None) → RowsHold at rows
      go true k = (once-held [] rows (met-held [] (each_once rows) tt k)).1
      go false k = absurd k
