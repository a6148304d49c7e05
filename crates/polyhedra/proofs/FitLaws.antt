-- The laws of fitting: what comes of a formula holds of all that the formula holds of, is small,
-- and goes between the same columns.
use Rattle.std.proofs.Common.{◌≡◌, inl, inr, ℕ, zero, suc, ◌+◌, ◌<◌, ◌≤◌, List, [], ◌∷◌, Bool, true, false, Ok, map, length, refl, sym, ap, subst, ◌∙◌, arith, ℤ, pos}
use Rattle.std.specs.Prelude.{IsTrue, Option, None, Some, ◌==◌, ◌&&◌, nat_le, if◌then◌else◌, option_to_list}
use Rattle.std.specs.List.{AllByRecursion, list_all, filter, range_with_len}
use Rattle.std.proofs.lemmas.List.{length-map}
use Rattle.std.proofs.lemmas.List.Elements.{All-from_recursion}
use Rattle.std.proofs.lemmas.List.FromFn.{length-map-range_with_len}
use Rattle.std.proofs.lemmas.Map.Views.{exact_unsigned_eq}
use Rattle.items.proofs.Each.{each-more, each-map, test_from_each}
use Rattle.linear_terms.specs.declared.col.Col.{Col}
use Rattle.linear_terms.specs.declared.col.Col.TheVariants.{At, Aux}
use Rattle.linear_terms.specs.declared.row.Row.{Row}
use Rattle.linear_terms.specs.declared.row.Case.{Case}
use Rattle.linear_terms.specs.Auxiliaries.{is_numbered}
use Rattle.linear_terms.specs.Expressions.{◌⊟◌, whole, column, weighted_sum, put_into}
use Rattle.linear_terms.specs.Polynomial.{Polynomial, IsCanonical, column_of}
use Rattle.linear_terms.specs.Row.{AreCanonical}
use Rattle.linear_terms.specs.Value.{value_of}
use Rattle.linear_terms.proofs.Canonical.{IsCanonical-column}
use Rattle.transition_formula.specs.Meaning.{numbers, HoldsCase, HoldsSome, Holds, Covers}
use Rattle.transition_formula.specs.Rounds.{in_order, solved_answer, Stays}
use Rattle.transition_formula.specs.Transition.{Transition, every_column, every_column_of, is_below, fits, IsTransition, is_fitted, IsSolvable}
use Rattle.transition_formula.proofs.FittedFormulas.{fits-solvable}
use Rattle.transition_formula.proofs.ColumnTests.{both, both_true, more_columns, test_from_columns}
use Rattle.transition_formula.proofs.Fitting.{fitting, from_fitting, below-true, true-below}
use Rattle.farkas_check.specs.declared.stratum.Relation.{Relation}
use Rattle.posing.specs.Posing.{Posing, Done, Noted, Asked, ◌>>=◌, each, Always}
use Rattle.posing.proofs.Paths.{always_bind, always_any, always_weaker}
use Rattle.polyhedra.specs.Bounds.{rows_with_entry_bound, rows_with_exit_bound, bounded_change, before_row, after_row, change_row, put_in_for, for_entries}
use Rattle.polyhedra.specs.Changes.{change, is_modified, is_exact, modified_variables, moving, changes_of, occurring, occurs_in}
use Rattle.polyhedra.specs.Directions.{directions}
use Rattle.polyhedra.specs.Finish.{finish_of_case}
use Rattle.polyhedra.specs.Relations.{relations_of}
use Rattle.polyhedra.specs.Squash.{unmodified_post, after_from, change_after, posts_after, changes_after, entries_of, relation_row, with_relation, with_relations, change_relations, with_differences, with_bounds, squash_rows, squash_case, squashed_case, are_same, squashed_formula, noted_squash, fitted_formula}
use Rattle.polyhedra.specs.Vocabulary.{Vocabulary, IsDirectionOver, IsVocabulary}
use Rattle.polyhedra.specs.Laws.{IsBetween, FittingCovers, IsSmall, FittingFits}
use Rattle.polyhedra.proofs.Coverage.{modified-few}
use Rattle.polyhedra.proofs.DirectionShapes.{directions-over}
use Rattle.polyhedra.proofs.FinishLaws.{FinishedLeft, finished-covers, finished-fits}
use Rattle.polyhedra.proofs.Lists.{each-filter}
use Rattle.polyhedra.proofs.OwnPosts.{is_post, same_post, owns, IsOwned, in_order-few}
use Rattle.polyhedra.proofs.Places.{range-first, any-range}
use Rattle.polyhedra.proofs.Rows.{IsSound, constant-sound, sound-Ok, whole-sound, difference-sound, or_zero-sound, weighted-sound, put_in_for-sound, IsSoundRow, at_most-sound, equation-sound}
use Rattle.polyhedra.proofs.SettleLaws.{KeepsLeft, of_left}
use Rattle.polyhedra.proofs.RowShapes.{bounded-keeps, with_row-keeps, each-keeps}
use Rattle.polyhedra.proofs.SquashLaws.{squash_rows-hold}

-- ---- the posts of the squashed case

none_added : (n : ℕ) → n ≡ n + 0
none_added n = omega arith

one_later : (n j : ℕ) → n + 1 + j ≡ n + suc j
one_later n j = omega arith

-- a number of a range with the auxiliary for the one that comes so many places after the first
record Stands (one : Bool) (a k n j : ℕ) (us : List ℕ) : Type 0 where
  at : ℕ
  low : a ≤ at
  high : at < a + k
  is : after_from one n us at ≡ column_of (Aux (n + j))

-- each auxiliary stands for one of the modified variables
stands : (one : Bool) (test : ℕ → Bool) (a k n j : ℕ) → j < length (filter test (range_with_len a k)) → Stands one a k n j (filter test (range_with_len a k))
stands one test a zero n j lt = absurd (omega arith)
stands one test a (suc k) n j lt = go (test a) j lt (stands one test (a + 1) k)
  where
    rest : List ℕ
    rest = filter test (range_with_len (a + 1) k)

    first : Stands one a (suc k) n 0 (a ∷ rest)
    first = record {
      at = a;
      low = omega arith;
      high = omega arith;
      is = ap (λ b. if b then column_of (Aux n) else after_from one (n + 1) rest a) (itself a) ∙ ap (λ m. column_of (Aux m)) (none_added n);
    }
      where
        itself : (v : ℕ) → (v == v) ≡ true
        itself v = grind arith

    later : (i : ℕ) → Stands one (a + 1) k (n + 1) i rest → Stands one a (suc k) n (suc i) (a ∷ rest)
    later i s = record {
      at = s.at;
      low = let low = s.low in omega arith;
      high = let high = s.high in omega arith;
      is = ap (λ b. if b then column_of (Aux n) else after_from one (n + 1) rest s.at) (other a s.at s.low) ∙ s.is ∙ ap (λ m. column_of (Aux m)) (one_later n i);
    }
      where
        other : (v w : ℕ) → v + 1 ≤ w → (v == w) ≡ false
        other v w le = grind arith

    same : (i : ℕ) → Stands one (a + 1) k n i rest → Stands one a (suc k) n i rest
    same i s = record { at = s.at; low = let low = s.low in omega arith; high = let high = s.high in omega arith; is = s.is }

    go : (b : Bool) (i : ℕ) → i < length (if b then a ∷ rest else rest) → ((n i : ℕ) → i < length rest → Stands one (a + 1) k n i rest) → Stands one a (suc k) n i (if b then a ∷ rest else rest)
    go true zero lt ih = first
    go true (suc i) lt ih = later i (ih (n + 1) i (omega arith))
    go false i lt ih = same i (ih n i lt)

module _ (one : Bool) (f : Transition) (same : one ≡ true → f.from ≡ f.to) where
  abbrev us : List ℕ
  us = modified_variables one f

  abbrev many : ℕ
  many = length us

  -- an entry column, or one of the auxiliaries for modified variables
  abbrev test : Col → Bool
  test = is_below f.from many

  at-passes : (v : ℕ) → v < f.from → IsSound test (column_of (At v))
  at-passes v lt = record { canonical = IsCanonical-column (At v ∷ []); passes = ((below-true v f.from lt, tt), tt) }

  unmodified-sound : (b : Bool) → b ≡ one → (v : ℕ) → v < f.to → IsSound test (unmodified_post b v)
  unmodified-sound true e v lt = at-passes v (omega (arith, same (sym e)))
  unmodified-sound false e v lt = constant-sound test (pos 0)

  after_from-sound : (b : Bool) → b ≡ one → (v : ℕ) → v < f.to → (n : ℕ) (vs : List ℕ) → n + length vs ≤ many → IsSound test (after_from b n vs v)
  after_from-sound b e v lt n [] few = unmodified-sound b e v lt
  after_from-sound b e v lt n (u ∷ vs) few = go (u == v) (after_from-sound b e v lt (n + 1) vs (omega arith))
    where
      go : (c : Bool) → IsSound test (after_from b (n + 1) vs v) → IsSound test (if c then column_of (Aux n) else after_from b (n + 1) vs v)
      go true rest = record { canonical = IsCanonical-column (Aux n ∷ []); passes = ((below-true n many (omega arith), tt), tt) }
      go false rest = rest

  post-sound : (v : ℕ) → v < f.to → IsSound test (after_from one 0 us v)
  post-sound v lt = after_from-sound one refl v lt 0 us (omega arith)

  change-sound : (v : ℕ) → v < f.to → IsSound test (change_after one us v)
  change-sound v lt = go one refl
    where
      go : (b : Bool) → b ≡ one → IsSound test (change_after b us v)
      go true e = or_zero-sound test (Ok (after_from true 0 us v) ⊟ column (At v))
          (difference-sound test (Ok (after_from true 0 us v)) (column (At v)) (sound-Ok test (after_from true 0 us v) (after_from-sound true e v lt 0 us (omega arith)))
          (sound-Ok test (column_of (At v)) (at-passes v (omega (arith, same (sym e))))))
      go false e = after_from-sound false e v lt 0 us (omega arith)

  posts-sound : AllByRecursion (IsSound test) (posts_after one f)
  posts-sound = each-map (λ v. v < f.to) (IsSound test) (after_from one 0 us) post-sound (range_with_len 0 f.to) (range-first f.to)

  -- ---- its rows

  abbrev AreSound : List Row → Type 0
  AreSound rows = AllByRecursion (IsSoundRow test) rows

  terms-sound : AllByRecursion (IsSound test) (map (change_after one us) (moving one f))
  terms-sound =
      each-map (λ v. v < f.to) (IsSound test) (change_after one us) change-sound (moving one f)
      (each-filter (λ v. v < f.to) (is_exact one f.cases) us (each-filter (λ v. v < f.to) (is_modified one f.cases) (range_with_len 0 f.to) (range-first f.to)))

  lower-sound : AllByRecursion (IsSound test) (entries_of (occurring one f))
  lower-sound =
      each-map (λ v. v < f.from) (IsSound test) (λ v. column_of (At v)) at-passes (occurring one f)
      (each-filter (λ v. v < f.from) (occurs_in (changes_of one f)) (range_with_len 0 f.from) (range-first f.from))

  abbrev terms : List Polynomial
  terms = map (change_after one us) (moving one f)

  abbrev lower : List Polynomial
  lower = entries_of (occurring one f)

  relation-sound : (rows : List Row) (r : Relation) → AreSound rows → Always AreSound (with_relation terms lower rows r)
  relation-sound rows r h =
      with_row-keeps (IsSoundRow test) rows (relation_row terms lower r)
      (equation-sound test (weighted_sum r.a terms ⊟ weighted_sum r.b lower ⊟ whole r.c)
      (difference-sound test (weighted_sum r.a terms ⊟ weighted_sum r.b lower) (whole r.c)
      (difference-sound test (weighted_sum r.a terms) (weighted_sum r.b lower) (weighted-sound test r.a terms terms-sound) (weighted-sound test r.b lower lower-sound)) (whole-sound test r.c))) h

  with_relations-sound : (found : Option (List Relation)) → Always AreSound (with_relations terms lower found)
  with_relations-sound None = tt
  with_relations-sound (Some relations) = each-keeps (IsSoundRow test) (λ r. Unit {0}) (with_relation terms lower) [] relations (λ rows r any h. relation-sound rows r h) (each-any relations) tt
    where
      each-any : (rs : List Relation) → AllByRecursion (λ r. Unit {0}) rs
      each-any [] = tt
      each-any (r ∷ rs) = (tt, each-any rs)

  related-sound : Always AreSound (change_relations one f)
  unfolding change_relations
  related-sound = always_bind (λ found. Unit {0}) AreSound (relations_of (changes_of one f) lower) (with_relations terms lower) (always_any (λ found. Unit {0}) (relations_of (changes_of one f) lower) (λ found. tt)) (λ found any. with_relations-sound found)

  module _ (from to : Vocabulary) (is_from : IsVocabulary from) (is_to : IsVocabulary to) (starts : from.columns ≡ f.from) where
    within : (d : Polynomial) → IsDirectionOver from.columns d → IsSound test d
    within d h = record {
      canonical = h.canonical;
      passes = each-more (λ t. AllByRecursion (λ c. IsTrue (is_below from.columns 0 c)) t.0) (λ t. AllByRecursion (λ c. IsTrue (test c)) t.0) (λ t k. each-more (λ c. IsTrue (is_below from.columns 0 c)) (λ c. IsTrue (test c)) column t.0 k) d.terms h.within;
    }
      where
        column : (c : Col) → IsTrue (is_below from.columns 0 c) → IsTrue (test c)
        column (At v) k = below-true v f.from (omega (arith, true-below v from.columns k, starts))
        column (Aux n) k = absurd (let lt = true-below n 0 k in omega arith)

    before-sound : (rows : List Row) (d : Polynomial) → IsDirectionOver from.columns d → AreSound rows → Always AreSound (rows_with_entry_bound f.cases rows d)
    before-sound rows d over h =
        bounded-keeps (IsSoundRow test) f.cases (λ case. Ok d) (before_row d) rows
        (λ most. at_most-sound test (Ok d ⊟ whole most) (difference-sound test (Ok d) (whole most) (sound-Ok test d (within d over)) (whole-sound test most))) h

    after-sound : (rows : List Row) (d : Polynomial) → AreSound rows → Always AreSound (rows_with_exit_bound f.cases (posts_after one f) rows d)
    after-sound rows d h =
        bounded-keeps (IsSoundRow test) f.cases (λ case. put_in_for case.post d) (after_row (posts_after one f) d) rows
        (λ most. at_most-sound test (put_in_for (posts_after one f) d ⊟ whole most) (difference-sound test (put_in_for (posts_after one f) d) (whole most) (put_in_for-sound test (posts_after one f) d posts-sound) (whole-sound test most))) h

    differences-sound : (rows : List Row) → AreSound rows → Always AreSound (with_differences one f from rows)
    differences-sound rows h = go one refl
      where
        changes : true ≡ one → AllByRecursion (IsSound test) (changes_after true f)
        changes e = subst (λ b. AllByRecursion (IsSound test) (changes_after b f)) (sym e) (each-map (λ v. v < f.to) (IsSound test) (change_after one us) change-sound (range_with_len 0 f.to) (range-first f.to))

        go : (b : Bool) → b ≡ one → Always AreSound (with_differences b f from rows)
        go false e = h
        go true e =
            each-keeps (IsSoundRow test) (IsDirectionOver from.columns) (bounded_change f.cases (changes_after true f) None) rows (directions from)
            (λ made d over k. bounded-keeps (IsSoundRow test) f.cases (λ case. put_into (for_entries (change true case)) d) (change_row (changes_after true f) None d) made
            (λ most. at_most-sound test (put_in_for (changes_after true f) d ⊟ whole most) (difference-sound test (put_in_for (changes_after true f) d) (whole most) (put_in_for-sound test (changes_after true f) d (changes e)) (whole-sound test most))) k)
            (directions-over from is_from) h

    rows-sound : Always AreSound (squash_rows one f from to)
    unfolding squash_rows with_bounds
    rows-sound =
        always_bind AreSound AreSound (change_relations one f)
        (with_bounds one f from to) related-sound
        (λ equations h. always_bind AreSound AreSound (each (rows_with_entry_bound f.cases) equations (directions from))
        (λ rows. each (rows_with_exit_bound f.cases (posts_after one f)) rows (directions to) >>= λ both. with_differences one f from both)
        (each-keeps (IsSoundRow test) (IsDirectionOver from.columns) (rows_with_entry_bound f.cases) equations (directions from) (λ made d over k. before-sound made d over k) (directions-over from is_from) h)
        (λ rows k. always_bind AreSound AreSound (each (rows_with_exit_bound f.cases (posts_after one f)) rows (directions to)) (λ both. with_differences one f from both)
        (each-keeps (IsSoundRow test) (IsDirectionOver to.columns) (rows_with_exit_bound f.cases (posts_after one f)) rows (directions to) (λ made d over l. after-sound made d l) (directions-over to is_to) k)
        (λ both l. differences-sound both l)))

  -- ---- the case fits, and each of its auxiliaries is a post by itself

  module _ (rows : List Row) (sound : AreSound rows) where
    abbrev made : Case
    made = squash_case one f rows

    case-fits : IsTrue (fits f.from f.to made)
    case-fits = from_fitting f.from f.to made (record {
      length_is = length-map-range_with_len (after_from one 0 us) 0 f.to;
      rows_are = test_from_each (λ (row : Row). every_column test row.poly) (IsSoundRow test) (λ row h. h.passes) rows sound;
      posts_are = test_from_each (every_column test) (IsSound test) (λ p h. test_from_columns test p h.passes) (posts_after one f) posts-sound;
    })

    is-owned : (c : Col) → IsTrue (test c) → IsTrue (owns [] (posts_after one f) c)
    is-owned (At v) h = refl
    is-owned (Aux n) h =
        let s = stands one (is_modified one f.cases) 0 f.to 0 n (true-below n many h) in
        any-range (is_post n) (after_from one 0 us) 0 f.to s.at s.low s.high
        (subst (λ p. IsTrue (is_post n p)) (sym (s.is ∙ ap (λ m. column_of (Aux m)) (alone n))) (same_post (column_of (Aux n))))
      where
        alone : (n : ℕ) → 0 + n ≡ n
        alone n = omega arith

    case-owned : IsOwned [] made
    case-owned =
        both_true (list_all (λ (row : Row). every_column (owns [] (posts_after one f)) row.poly) rows) (list_all (every_column (owns [] (posts_after one f))) (posts_after one f))
        (test_from_each (λ (row : Row). every_column (owns [] (posts_after one f)) row.poly) (IsSoundRow test) (λ row h. more_columns test (owns [] (posts_after one f)) is-owned row.poly h.passes) rows sound)
        (test_from_each (every_column (owns [] (posts_after one f))) (IsSound test) (λ p h. more_columns test (owns [] (posts_after one f)) is-owned p (test_from_columns test p h.passes)) (posts_after one f) posts-sound)

    case-few : Stays (λ left. left.aux ≤ f.to) (solved_answer (in_order made).left)
    case-few = subst (λ n. Stays (λ left. left.aux ≤ n) (solved_answer (in_order made).left)) (alone _ ∙ length-map-range_with_len (after_from one 0 us) 0 f.to) (in_order-few [] made case-owned)
      where
        alone : (n : ℕ) → 0 + n ≡ n
        alone n = omega arith

    case-canonical : AreCanonical rows
    case-canonical = All-from_recursion (λ (row : Row). IsCanonical row.poly.terms) rows (each-more (IsSoundRow test) (λ (row : Row). IsCanonical row.poly.terms) (λ row h. h.canonical) rows sound)

    numbered_column : (c : Col) → IsTrue (test c) → IsTrue (is_numbered many c)
    numbered_column (At v) h = refl
    numbered_column (Aux n) h = h

    case-numbered : IsTrue (every_column_of (is_numbered many) made)
    case-numbered =
        both_true (list_all (λ (row : Row). every_column (is_numbered many) row.poly) rows) (list_all (every_column (is_numbered many)) (posts_after one f))
        (test_from_each (λ (row : Row). every_column (is_numbered many) row.poly) (IsSoundRow test) (λ row h. more_columns test (is_numbered many) numbered_column row.poly h.passes) rows sound)
        (test_from_each (every_column (is_numbered many)) (IsSound test) (λ p h. more_columns test (is_numbered many) numbered_column p (test_from_columns test p h.passes)) (posts_after one f) posts-sound)

-- ---- properties of all ends

always_all : {A X : Type 0} (P : X → A → Type 0) (p : Posing A) → ((x : X) → Always (P x) p) → Always (λ v. (x : X) → P x v) p
always_all P (Done v) h = h
always_all P (Noted notes p) h = always_all P p h
always_all P (Asked question next) h = λ answer is_true. always_all P (next answer) (λ x. h x answer is_true)

always_both : {A : Type 0} (P Q : A → Type 0) (p : Posing A) → Always P p → Always Q p → Always (λ v. P v × Q v) p
always_both P Q (Done v) h k = (h, k)
always_both P Q (Noted notes p) h k = always_both P Q p h k
always_both P Q (Asked question next) h k = λ answer is_true. always_both P Q (next answer) (h answer is_true) (k answer is_true)

-- ---- the laws

ends-length : (from to : ℕ) (cases : List Case) → IsTransition from to cases → (before after : List ℤ) → HoldsSome cases before after → length after ≡ to
ends-length from to [] e before after h = absurd h
ends-length from to (case ∷ cases) e before after (inl h) =
    let parts = both (fits from to case) (list_all (fits from to) cases) e in
    sym (ap length h.1.posts) ∙ length-map case.post (value_of (numbers before h.0)) ∙ (fitting from to case parts.0).length_is
ends-length from to (case ∷ cases) e before after (inr h) = ends-length from to cases (both (fits from to case) (list_all (fits from to) cases) e).1 before after h

same_columns : (v w : Vocabulary) → are_same v w ≡ true → v.columns ≡ w.columns
same_columns v w e = let parts = both (v.columns == w.columns) _ e in exact_unsigned_eq v.columns w.columns parts.0

module _ (f : Transition) (from to : Vocabulary) (is : IsBetween f from to) where
  abbrev one : Bool
  one = are_same from to

  equal_ends : one ≡ true → f.from ≡ f.to
  equal_ends e = sym is.starts ∙ same_columns from to e ∙ is.ends

  -- the case with its rows
  pub record IsSquash (case : Case) : Type 0 where
    rows : List Row
    shape : case ≡ squash_case one f rows
    sound : AllByRecursion (IsSoundRow (is_below f.from (length (modified_variables one f)))) rows

  abbrev Holding : List ℤ → List ℤ → Case → Type 0
  Holding before after case = IsSquash case × HoldsCase case before after

  pub case-squash : Always IsSquash (squashed_case one f from to)
  unfolding squashed_case
  case-squash =
      always_bind (AllByRecursion (IsSoundRow (is_below f.from (length (modified_variables one f))))) IsSquash (squash_rows one f from to) (λ rows. Done (squash_case one f rows))
      (rows-sound one f equal_ends from to is.from_is is.to_is is.starts) (λ rows sound. record { rows = rows; shape = refl; sound = sound })

  case-holds : (before after : List ℤ) → Holds f before after → Always (λ case. HoldsCase case before after) (squashed_case one f from to)
  unfolding squashed_case
  case-holds before after h =
      always_bind (λ rows. HoldsCase (squash_case one f rows) before after) (λ case. HoldsCase case before after) (squash_rows one f from to) (λ rows. Done (squash_case one f rows))
      (squash_rows-hold one f before after h (ends-length f.from f.to f.cases is.fits before after h.some) (λ e. h.enters ∙ equal_ends e) from to is.from_is is.to_is) (λ rows k. k)

  finish-covers : (case : Case) → IsSquash case → Always (KeepsLeft case) (finish_of_case case)
  finish-covers case s =
      subst (λ (c : Case). Always (KeepsLeft c) (finish_of_case c)) (sym s.shape)
      (finished-covers (squash_case one f s.rows) (case-canonical one f equal_ends s.rows s.sound) (case-numbered one f equal_ends s.rows s.sound))

  squashed-pair : (before after : List ℤ) → Holds f before after → Always (λ g. Holds g before after) (squashed_formula f from to)
  unfolding squashed_formula
  squashed-pair before after h =
      always_bind (Holding before after) (λ g. Holds g before after) (squashed_case one f from to) (λ case. finish_of_case case >>= λ left. Done record { from = f.from; to = f.to; cases = option_to_list left })
      (always_both IsSquash (λ case. HoldsCase case before after) (squashed_case one f from to) case-squash (case-holds before after h))
      (λ case both. always_bind (KeepsLeft case) (λ g. Holds g before after) (finish_of_case case) (λ left. Done record { from = f.from; to = f.to; cases = option_to_list left }) (finish-covers case both.0)
      (λ left keeps. record { enters = h.enters; some = of_left left before after (keeps before after both.1) }))

  -- two states of which it holds
  record Pair : Type 0 where
    before : List ℤ
    after : List ℤ
    holds : Holds f before after

  squashed-covers : Always (λ g. Covers g f) (squashed_formula f from to)
  squashed-covers =
      always_weaker (λ g. (pair : Pair) → Holds g pair.before pair.after) (λ g. Covers g f) (squashed_formula f from to) (λ g all before after h. all (record { before = before; after = after; holds = h }))
      (always_all (λ pair g. Holds g pair.before pair.after) (squashed_formula f from to) (λ (pair : Pair). squashed-pair pair.before pair.after pair.holds))

  at_most_true : (a b : ℕ) → a ≤ b → IsTrue (nat_le a b)
  at_most_true a b le = grind arith

  pub left-small : (left : Option Case) → FinishedLeft f.from f.to f.to left → IsSmall f (record { from = f.from; to = f.to; cases = option_to_list left })
  left-small None h = record { from = refl; to = refl; fits = refl; fitted = refl }
  left-small (Some case) h = record {
    from = refl;
    to = refl;
    fits = both_true (fits f.from f.to case) true h.fit refl;
    fitted = both_true (nat_le (length case.rows) 64 && nat_le case.aux 64) true
        (both_true (nat_le (length case.rows) 64) (nat_le case.aux 64) (at_most_true (length case.rows) 64 h.rows) (at_most_true case.aux 64 (let le = h.aux in let few = is.few_after in omega arith))) refl;
  }

  -- the case can be put in order, and what is left of it fits
  pub squash-solvable : (case : Case) → IsSquash case → IsSolvable case
  squash-solvable case s =
      subst IsSolvable (sym s.shape)
      (fits-solvable f.from f.to (squash_case one f s.rows) (case-fits one f equal_ends s.rows s.sound) (let few = modified-few one f in let most = is.few_after in omega arith))

  pub squash-left : (case : Case) → IsSquash case → Always (FinishedLeft f.from f.to f.to) (finish_of_case case)
  squash-left case s =
      subst (λ (c : Case). Always (FinishedLeft f.from f.to f.to) (finish_of_case c)) (sym s.shape)
      (finished-fits f.from f.to f.to (squash_case one f s.rows) (case-fits one f equal_ends s.rows s.sound) (case-few one f equal_ends s.rows s.sound))

  squashed-small : Always (IsSmall f) (squashed_formula f from to)
  unfolding squashed_formula
  squashed-small =
      always_bind IsSquash (IsSmall f) (squashed_case one f from to) (λ case. finish_of_case case >>= λ left. Done record { from = f.from; to = f.to; cases = option_to_list left }) case-squash
      (λ case s. always_bind (FinishedLeft f.from f.to f.to) (IsSmall f) (finish_of_case case) (λ left. Done record { from = f.from; to = f.to; cases = option_to_list left })
      (squash-left case s) left-small)

pub fitted-covers : FittingCovers
unfolding fitted_formula noted_squash
fitted-covers f from to is = go (is_fitted f.cases)
  where
    go : (b : Bool) → Always (λ g. Covers g f) (if b then Done f else noted_squash f from to)
    go true = λ before after h. h
    go false = squashed-covers f from to is

pub fitted-small : FittingFits
unfolding fitted_formula noted_squash
fitted-small f from to is = go (is_fitted f.cases) refl
  where
    go : (b : Bool) → is_fitted f.cases ≡ b → Always (IsSmall f) (if b then Done f else noted_squash f from to)
    go true e = record { from = refl; to = refl; fits = is.fits; fitted = e }
    go false e = squashed-small f from to is
