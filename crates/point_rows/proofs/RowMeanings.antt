-- Rows that are read say of the numbers of the posts what the rows say of a state.
use Rattle.std.proofs.Common.{◌≡◌, ◌⊎◌, inl, inr, ℕ, zero, suc, Bool, true, false, cond, ℤ, pos, ◌+ℤ◌, ◌≤ℤ◌, map, List, [], ◌∷◌, ◌++◌, Some, Result, Ok, Err, refl, ap, subst, ◌∙◌, arith}
use Rattle.std.specs.Prelude.{◌↔◌, IsTrue, int_le, option_and_then, slice_get, unwrap_or}
use Rattle.std.specs.Bool.{Decides}
use Rattle.std.specs.List.{list_any}
use Rattle.std.specs.Ordering.{int_eq}
use Rattle.std.proofs.lemmas.Bool.{false≢true}
use Rattle.std.proofs.lemmas.Bool.Decides.{Decides-int_eq}
use Rattle.std.proofs.lemmas.Int.{ints}
use Rattle.items.specs.Gives.{◌>>=◌}
use Rattle.items.proofs.Each.{each-append, each-flat_map}
use Rattle.items.proofs.Gives.{on_ok}
use Rattle.linear_terms.specs.declared.col.Col.{Col}
use Rattle.linear_terms.specs.declared.col.Col.TheVariants.{At, Aux}
use Rattle.linear_terms.specs.declared.error.TermError.{TermError}
use Rattle.linear_terms.specs.declared.row.Kind.{Kind}
use Rattle.linear_terms.specs.declared.row.Kind.TheVariants.{AtMost, Equal}
use Rattle.linear_terms.specs.declared.row.Row.{Row}
use Rattle.linear_terms.specs.declared.row.Normal.{Normal}
use Rattle.linear_terms.specs.declared.row.Normal.TheVariants.{Constant, Kept}
use Rattle.linear_terms.specs.Expressions.{negation}
use Rattle.linear_terms.specs.Operations.{substituted_polynomial}
use Rattle.linear_terms.specs.Polynomial.{Polynomial, constant_of}
use Rattle.linear_terms.specs.Replacement.{put_in}
use Rattle.linear_terms.specs.Row.{IsWithin, RowHolds, RowsHold, SaysAsMuch, normal_form}
use Rattle.linear_terms.specs.Value.{Valuation, value_of}
use Rattle.linear_terms.proofs.Canonical.{IsCanonical-substituted}
use Rattle.linear_terms.proofs.Normals.{normal_form-SaysAsMuch}
use Rattle.linear_terms.proofs.Values.{substituted-value}
use Rattle.linear_terms.proofs.Worth.{IsWorth-Ok, IsWorth-sum, IsWorth-whole, RowHolds-at_most, RowHolds-negation}
use Rattle.row_products.specs.Products.{same_row}
use Rattle.transition_formula.specs.Loss.{answer_of}
use Rattle.transition_formula.specs.Meaning.{numbers}
use Rattle.point_rows.specs.Reading.{AreTrueOf, contraries_by, contraries_of, contrary_by, given_rows, negative_row, possible_rows, read_row, rows_with_read, stood_row, stood_rows, with_new_row}
use Rattle.point_rows.specs.Laws.{ContrariesDecide, ContrariesExclude, ContrariesHold, GivenRowsHold, SomeRowHolds}

-- ---- numbers

within-decided : (kind : Kind) (x : ℤ) → IsWithin kind x ⊎ (IsWithin kind x → ⊥)
within-decided AtMost x = go (int_le x (pos 0)) refl
  where
    go : (b : Bool) → int_le x (pos 0) ≡ b → (x ≤ℤ pos 0) ⊎ (x ≤ℤ pos 0 → ⊥)
    go true e = inl (omega (arith, ints))
    go false e = inr (λ h. absurd (omega (arith, ints)))
within-decided Equal x = go (int_eq x (pos 0)) (Decides-int_eq x (pos 0))
  where
    go : (b : Bool) → Decides b (x ≡ pos 0) → (x ≡ pos 0) ⊎ (x ≡ pos 0 → ⊥)
    go true decides = inl (decides.0 refl)
    go false decides = inr (λ h. false≢true (decides.1 h))

-- a number that is not 0 is positive or negative
sign-of : (x : ℤ) → (x ≡ pos 0 → ⊥) → (x ≤ℤ pos 0 → ⊥) ⊎ ((x +ℤ pos 1) ≤ℤ pos 0)
sign-of x other = go (int_le (x +ℤ pos 1) (pos 0)) refl
  where
    go : (b : Bool) → int_le (x +ℤ pos 1) (pos 0) ≡ b → (x ≤ℤ pos 0 → ⊥) ⊎ ((x +ℤ pos 1) ≤ℤ pos 0)
    go true e = inr (omega (arith, ints))
    go false e = inl (λ h. other (omega (arith, ints)))

zero-below : (x : ℤ) → x ≡ pos 0 → x ≤ℤ pos 0
zero-below x e = omega (arith, ints)

zero-not_negative : (x : ℤ) → x ≡ pos 0 → (x +ℤ pos 1) ≤ℤ pos 0 → ⊥
zero-not_negative x e h = omega (arith, ints)

-- ---- lists of which one row is true

module _ (at : Valuation) where
  some-left : (xs ys : List Row) → SomeRowHolds at xs → SomeRowHolds at (xs ++ ys)
  some-left [] ys h = absurd h
  some-left (x ∷ xs) ys (inl h) = inl h
  some-left (x ∷ xs) ys (inr h) = inr (some-left xs ys h)

  some-right : (xs ys : List Row) → SomeRowHolds at ys → SomeRowHolds at (xs ++ ys)
  some-right [] ys h = h
  some-right (x ∷ xs) ys h = inr (some-right xs ys h)

  some-either : (xs ys : List Row) → SomeRowHolds at (xs ++ ys) → SomeRowHolds at xs ⊎ SomeRowHolds at ys
  some-either [] ys h = inr h
  some-either (x ∷ xs) ys (inl h) = inl (inl h)
  some-either (x ∷ xs) ys (inr h) = later (some-either xs ys h)
    where
      later : SomeRowHolds at xs ⊎ SomeRowHolds at ys → SomeRowHolds at (x ∷ xs) ⊎ SomeRowHolds at ys
      later (inl k) = inl (inr k)
      later (inr k) = inr k

-- ---- what a normal form says

abbrev Says : Valuation → Normal → Type 0
Says at (Constant holds) = IsTrue holds
Says at (Kept row) = RowHolds at row

says-as_much : (at : Valuation) (row : Row) (form : Normal) → SaysAsMuch at row form → Says at form ↔ RowHolds at row
says-as_much at row (Constant holds) h = h
says-as_much at row (Kept other) h = h

module _ (at : Valuation) (posts : List Polynomial) (state : List ℤ) (same : map (value_of at) posts ≡ state) where
  -- the numbers of the state
  abbrev seen : Valuation
  seen = numbers state (λ n. pos 0)

  value-read : (ps : List Polynomial) (n : ℕ) → value_of at (unwrap_or (slice_get ps n) (constant_of (pos 0))) ≡ unwrap_or (slice_get (map (value_of at) ps) n) (pos 0)
  value-read [] n = refl
  value-read (p ∷ ps) zero = refl
  value-read (p ∷ ps) (suc n) = value-read ps n

  put-value : (c : Col) → value_of at (put_in posts [] c) ≡ seen c
  put-value (At n) = value-read posts n ∙ ap (λ xs. unwrap_or (slice_get xs n) (pos 0)) same
  put-value (Aux n) = refl

  -- what is put in has the value in the state
  substituted-seen : (p q : Polynomial) → substituted_polynomial (put_in posts []) p ≡ Ok q → value_of at q ≡ value_of seen p
  substituted-seen p q e = substituted-value at (put_in posts []) p q e ∙ (λ i. value_of (λ c. put-value c i) p)

  pub read-says : (row : Row) (form : Normal) → read_row posts row ≡ Ok form → Says at form ↔ RowHolds seen row
  read-says row form e =
      on_ok (substituted_polynomial (put_in posts []) row.poly) (λ p. normal_form record { poly = p; kind = row.kind }) form e
      (λ p f g. subst (λ x. Says at form ↔ IsWithin row.kind x) (substituted-seen row.poly p f)
      (says-as_much at record { poly = p; kind = row.kind } form
      (normal_form-SaysAsMuch at record { poly = p; kind = row.kind } form (IsCanonical-substituted (put_in posts []) row.poly p f) g)))

  -- ---- rows that are given

  with_new_row-holds : (rows : List Row) (row : Row) → RowsHold at rows → RowHolds at row → RowsHold at (with_new_row rows row)
  with_new_row-holds rows row each holds = go (list_any (same_row row) rows)
    where
      go : (b : Bool) → RowsHold at (cond b rows (rows ++ row ∷ []))
      go true = each
      go false = each-append (RowHolds at) rows (row ∷ []) each (holds, tt)

  read-given : (own : List Row) (row : Row) (r : Result Normal TermError) → ((form : Normal) → r ≡ Ok form → Says at form ↔ RowHolds seen row) → RowHolds seen row → RowsHold at own
      → (all : List Row) × (rows_with_read own r ≡ Some all) × RowsHold at all
  read-given own row (Ok (Constant true)) says holds each = (own, refl, each)
  read-given own row (Ok (Constant false)) says holds each = absurd (false≢true ((says (Constant false) refl).1 holds))
  read-given own row (Ok (Kept other)) says holds each = (with_new_row own other, refl, with_new_row-holds own other each ((says (Kept other) refl).1 holds))
  read-given own row (Err e) says holds each = (own, refl, each)

  pub given-hold : (own rows : List Row) → RowsHold at own → AreTrueOf rows state → (all : List Row) × (given_rows posts own rows ≡ Some all) × RowsHold at all
  given-hold own [] each true_of = (own, refl, each)
  given-hold own (row ∷ rows) each true_of =
      let read = read-given own row (read_row posts row) (read-says row) true_of.0 each in
      let rest = given-hold read.0 rows read.2 true_of.1 in
      (rest.0, ap (option_and_then (λ made. given_rows posts made rows)) read.1 ∙ rest.1, rest.2)

  -- ---- rows that stand

  stood-holds : (row : Row) (r : Result Normal TermError) → ((form : Normal) → r ≡ Ok form → Says at form ↔ RowHolds seen row) → RowHolds seen row → RowsHold at (stood_row r)
  stood-holds row (Ok (Constant true)) says holds = tt
  stood-holds row (Ok (Constant false)) says holds = absurd (false≢true ((says (Constant false) refl).1 holds))
  stood-holds row (Ok (Kept other)) says holds = ((says (Kept other) refl).1 holds, tt)
  stood-holds row (Err e) says holds = tt

  pub stood-hold : (rows : List Row) → AreTrueOf rows state → RowsHold at (stood_rows posts rows)
  stood-hold rows true_of =
      each-flat_map (RowHolds seen) (RowHolds at) (λ row. stood_row (read_row posts row)) (λ row holds. stood-holds row (read_row posts row) (read-says row) holds) rows true_of

  -- ---- contraries

  possible-some : (form : Normal) → Says at form → SomeRowHolds at (possible_rows form)
  possible-some (Constant true) h = inl (omega (arith, ints))
  possible-some (Constant false) h = absurd (false≢true h)
  possible-some (Kept row) h = inl h

  possible-says : (form : Normal) → SomeRowHolds at (possible_rows form) → Says at form
  possible-says (Constant true) h = refl
  possible-says (Constant false) h = absurd h
  possible-says (Kept row) (inl h) = h
  possible-says (Kept row) (inr h) = absurd h

  -- one of the rows that a contrary can be is true exactly where it says something true of the state
  contrary-says : (made : Result Row TermError) (P : Type 0) → ((row : Row) → made ≡ Ok row → RowHolds seen row ↔ P) → (rows : List Row) → contrary_by posts made ≡ Ok rows → SomeRowHolds at rows ↔ P
  contrary-says made P tells rows e =
      on_ok made (λ row. read_row posts row >>= λ form. Ok (possible_rows form)) rows e (λ row f g.
      on_ok (read_row posts row) (λ form. Ok (possible_rows form)) rows g (λ form h k.
      let same_rows : possible_rows form ≡ rows = cc in
      let says = read-says row form h in
      let told = tells row f in
      subst (λ rs. SomeRowHolds at rs ↔ P) same_rows (λ some. told.0 (says.0 (possible-says form some)), λ p. possible-some form (says.1 (told.1 p)))))

  positive-says : (p : Polynomial) (rows : List Row) → contrary_by posts (negation p) ≡ Ok rows → SomeRowHolds at rows ↔ (value_of seen p ≤ℤ pos 0 → ⊥)
  positive-says p rows e = contrary-says (negation p) (value_of seen p ≤ℤ pos 0 → ⊥) (λ row f. RowHolds-negation seen p row f) rows e

  negative-says : (p : Polynomial) (rows : List Row) → contrary_by posts (negative_row p) ≡ Ok rows → SomeRowHolds at rows ↔ ((value_of seen p +ℤ pos 1) ≤ℤ pos 0)
  negative-says p rows e =
      contrary-says (negative_row p) ((value_of seen p +ℤ pos 1) ≤ℤ pos 0) (λ row f. RowHolds-at_most (IsWorth-sum (IsWorth-Ok seen p) (IsWorth-whole seen (pos 1))) row f) rows e

  -- one of both is true exactly where the polynomial is not 0
  both-say : (x : ℤ) (above below : List Row) → SomeRowHolds at above ↔ (x ≤ℤ pos 0 → ⊥) → SomeRowHolds at below ↔ ((x +ℤ pos 1) ≤ℤ pos 0) → SomeRowHolds at (above ++ below) ↔ (x ≡ pos 0 → ⊥)
  both-say x above below over under = (λ some zero_there. neither (some-either at above below some) zero_there, λ other. one (sign-of x other))
    where
      neither : SomeRowHolds at above ⊎ SomeRowHolds at below → x ≡ pos 0 → ⊥
      neither (inl h) e = over.0 h (zero-below x e)
      neither (inr h) e = zero-not_negative x e (under.0 h)

      one : (x ≤ℤ pos 0 → ⊥) ⊎ ((x +ℤ pos 1) ≤ℤ pos 0) → SomeRowHolds at (above ++ below)
      one (inl h) = some-left at above below (over.1 h)
      one (inr h) = some-right at above below (under.1 h)

  contraries-say : (kind : Kind) (p : Polynomial) (rows : List Row) → contraries_by posts kind p ≡ Ok rows → SomeRowHolds at rows ↔ (IsWithin kind (value_of seen p) → ⊥)
  contraries-say AtMost p rows e = positive-says p rows e
  contraries-say Equal p rows e =
      on_ok (contrary_by posts (negation p)) (λ above. contrary_by posts (negative_row p) >>= λ below. Ok (above ++ below)) rows e (λ above f g.
      on_ok (contrary_by posts (negative_row p)) (λ below. Ok (above ++ below)) rows g (λ below h k.
      let same_rows : above ++ below ≡ rows = cc in
      subst (λ rs. SomeRowHolds at rs ↔ (value_of seen p ≡ pos 0 → ⊥)) same_rows (both-say (value_of seen p) above below (positive-says p above f) (negative-says p below h))))

  answered : (r : Result (List Row) TermError) (rows : List Row) → answer_of r ≡ Some rows → r ≡ Ok rows
  answered (Ok made) rows e = cc
  answered (Err x) rows e = cc

  pub contrary-holds : (row : Row) (rows : List Row) → contraries_of posts row ≡ Some rows → SomeRowHolds at rows ↔ (RowHolds seen row → ⊥)
  contrary-holds row rows e = contraries-say row.kind row.poly rows (answered (contraries_by posts row.kind row.poly) rows e)

  pub contraries-decide : (row : Row) (rows : List Row) → contraries_of posts row ≡ Some rows → AreTrueOf (row ∷ []) state ⊎ SomeRowHolds at rows
  contraries-decide row rows e = go (within-decided row.kind (value_of seen row.poly))
    where
      go : IsWithin row.kind (value_of seen row.poly) ⊎ (IsWithin row.kind (value_of seen row.poly) → ⊥) → AreTrueOf (row ∷ []) state ⊎ SomeRowHolds at rows
      go (inl h) = inl (h, tt)
      go (inr h) = inr ((contrary-holds row rows e).1 h)

-- ---- the laws

pub given_rows-hold : GivenRowsHold
given_rows-hold at posts state same own rows each true_of = given-hold at posts state same own rows each true_of

pub contraries_decide : ContrariesDecide
contraries_decide at posts state same row contraries e = contraries-decide at posts state same row contraries e

pub contraries_hold : ContrariesHold
contraries_hold at posts state same row contraries e false_there = (contrary-holds at posts state same row contraries e).1 (λ h. false_there (h, tt))

pub contraries_exclude : ContrariesExclude
contraries_exclude at posts state same row contraries e true_of some = (contrary-holds at posts state same row contraries e).0 some true_of.0
