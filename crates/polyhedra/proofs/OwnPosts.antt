-- How many auxiliaries are left of a case in order. Where each auxiliary that occurs is a post by
-- itself, or one of some that are spared, that stays so: what is left has no more than there are
-- posts and spared ones.
use Rattle.std.proofs.Common.{◌≡◌, ◌⊎◌, inl, inr, ℕ, zero, suc, ◌+◌, ◌<◌, ◌≤◌, length, map, List, [], ◌∷◌, Bool, true, false, cond, Option, None, Some, Ok, Err, refl, sym, ap, subst, ◌∙◌, arith}
use Rattle.std.specs.Prelude.{IsTrue, ◌&&◌, ◌||◌, ◌==◌, not, Result, slice_get, negsuc}
use Rattle.std.specs.List.{AllByRecursion, list_all, list_any, filter, remove}
use Rattle.std.specs.Ordering.{int_eq}
use Rattle.std.proofs.lemmas.Map.Views.{exact_unsigned_eq}
use Rattle.linear_terms.specs.declared.col.Col.{Col}
use Rattle.linear_terms.specs.declared.col.Col.TheVariants.{At, Aux}
use Rattle.linear_terms.specs.declared.error.TermError.{TermError}
use Rattle.linear_terms.specs.declared.row.Row.{Row}
use Rattle.linear_terms.specs.declared.row.Case.{Case}
use Rattle.linear_terms.specs.Auxiliaries.{is_auxiliary, has_auxiliary, occurs, without, put_for}
use Rattle.linear_terms.specs.Equality.{poly_eq, poly_eq_equiv}
use Rattle.linear_terms.specs.Operations.{multiple_of, substituted_polynomial}
use Rattle.linear_terms.specs.Polynomial.{Terms, Polynomial, column_of, coefficient_in}
use Rattle.linear_terms.proofs.Columns.{EachColumn, multiple_of-each}
use Rattle.transition_formula.specs.Composition.{Operation, filled_posts, posts_by, rows_by}
use Rattle.transition_formula.specs.Loss.{answer_of}
use Rattle.transition_formula.specs.Order.{first_equation, solution, with_solution}
use Rattle.transition_formula.specs.Renumbering.{occurs_in, count_below, renumbered_case}
use Rattle.transition_formula.specs.Rounds.{with_rows, with_solved, round_at, solved_first, round, rounds, in_order, solved_answer, Stays}
use Rattle.transition_formula.specs.Rows.{tidied_rows}
use Rattle.transition_formula.specs.Transition.{every_column, every_column_of}
use Rattle.transition_formula.proofs.CarriedColumns.{tidied-passes}
use Rattle.transition_formula.proofs.ColumnTests.{both, both_true, columns_from_test, test_from_columns, more_columns, Carries, substituted-carries, rows_by-covered, posts_by-length}
use Rattle.transition_formula.proofs.Loops.{met_by, or_left, or_right}
use Rattle.transition_formula.proofs.Rounding.{test_removed, test_got}
use Rattle.transition_formula.proofs.Truths.{polys_same}

-- ---- how many numbers below one pass

below_more : (f g : ℕ → Bool) → ((n : ℕ) → IsTrue (f n) → IsTrue (g n)) → (n : ℕ) → count_below f n ≤ count_below g n
below_more f g more zero = omega arith
below_more f g more (suc n) = go (f n) (g n) (more n) (below_more f g more n)
  where
    go : (a b : Bool) → (IsTrue a → IsTrue b) → count_below f n ≤ count_below g n → cond a (count_below f n + 1) (count_below f n) ≤ cond b (count_below g n + 1) (count_below g n)
    go true true up le = omega arith
    go true false up le = let e = up refl in cc
    go false true up le = omega arith
    go false false up le = le

below_either : (f g : ℕ → Bool) (n : ℕ) → count_below (λ m. f m || g m) n ≤ count_below f n + count_below g n
below_either f g zero = omega arith
below_either f g (suc n) = go (f n) (g n) (below_either f g n)
  where
    go : (a b : Bool) → count_below (λ m. f m || g m) n ≤ count_below f n + count_below g n
        → cond (a || b) (count_below (λ m. f m || g m) n + 1) (count_below (λ m. f m || g m) n) ≤ cond a (count_below f n + 1) (count_below f n) + cond b (count_below g n + 1) (count_below g n)
    go true true le = omega arith
    go true false le = omega arith
    go false true le = omega arith
    go false false le = omega arith

-- none passes, or one does and no other
abbrev Once : (ℕ → Bool) → ℕ → Type 0
Once f n = (count_below f n ≡ 0) ⊎ ((m : ℕ) × ((IsTrue (f m)) × ((m < n) × (count_below f n ≡ 1))))

below_once : (f : ℕ → Bool) → ((m n : ℕ) → IsTrue (f m) → IsTrue (f n) → m ≡ n) → (n : ℕ) → Once f n
below_once f one zero = inl refl
below_once f one (suc n) = go (f n) refl (below_once f one n)
  where
    go : (b : Bool) → f n ≡ b → Once f n → (cond b (count_below f n + 1) (count_below f n) ≡ 0) ⊎ ((m : ℕ) × ((IsTrue (f m)) × ((m < suc n) × (cond b (count_below f n + 1) (count_below f n) ≡ 1))))
    go true e h = elim h [ inl none ↦ inr (n, (e, (omega arith, omega (arith, none)))) | inr (m, (t, (lt, c))) ↦ (let same = one m n t e in absurd (omega arith)) ]
    go false e h = elim h [ inl none ↦ inl none | inr (m, (t, (lt, c))) ↦ inr (m, (t, (omega arith, c))) ]

at_most_once : (f : ℕ → Bool) → ((m n : ℕ) → IsTrue (f m) → IsTrue (f n) → m ≡ n) → (n : ℕ) → count_below f n ≤ 1
at_most_once f one n = elim (below_once f one n) [ inl none ↦ omega (arith, none) | inr (m, (t, (lt, c))) ↦ omega (arith, c) ]

-- each element stands for one number at most
below_any : {X : Type 0} (test : ℕ → X → Bool) → ((x : X) (m n : ℕ) → IsTrue (test m x) → IsTrue (test n x) → m ≡ n) → (xs : List X) (n : ℕ) → count_below (λ m. list_any (test m) xs) n ≤ length xs
below_any test one [] n = none n
  where
    none : (n : ℕ) → count_below (λ m. false) n ≤ 0
    none zero = omega arith
    none (suc n) = none n
below_any test one (x ∷ xs) n =
    let first = at_most_once (λ m. test m x) (one x) n in
    let rest = below_any test one xs n in
    let all = below_either (λ m. test m x) (λ m. list_any (test m) xs) n in
    omega arith

either : {P : Type 0} (a b : Bool) → IsTrue (a || b) → (IsTrue a → P) → (IsTrue b → P) → P
either true b h first second = first h
either false b h first second = second h

pub same_post : (p : Polynomial) → IsTrue (poly_eq p p)
same_post p = poly_eq_equiv.refl p

number_of : Terms → ℕ
number_of [] = 0
number_of (([], c) ∷ ts) = 0
number_of ((At n ∷ m, c) ∷ ts) = 0
number_of ((Aux n ∷ m, c) ∷ ts) = n

-- the column is another than the auxiliary
abbrev apart : (Col → Bool) → ℕ → Col → Bool
apart test n c = test c && not (is_auxiliary n c)

-- ---- the solution of an equation does not have the auxiliary

module _ (test : Col → Bool) (n : ℕ) where
  apart_columns : (m : List Col) → has_auxiliary n m ≡ false → AllByRecursion (λ c. IsTrue (test c)) m → AllByRecursion (λ c. IsTrue (apart test n c)) m
  apart_columns [] none h = tt
  apart_columns (c ∷ m) none h = go (is_auxiliary n c) refl none (λ rest. apart_columns m rest h.1)
    where
      go : (b : Bool) → is_auxiliary n c ≡ b → b || has_auxiliary n m ≡ false → (has_auxiliary n m ≡ false → AllByRecursion (λ d. IsTrue (apart test n d)) m) → AllByRecursion (λ d. IsTrue (apart test n d)) (c ∷ m)
      go true e f rest = cc
      go false e f rest = (both_true (test c) (not (is_auxiliary n c)) h.0 (ap not e), rest f)

  without-apart : (ts : Terms) → EachColumn (λ c. IsTrue (test c)) ts → EachColumn (λ c. IsTrue (apart test n c)) (filter (λ t. not (has_auxiliary n t.0)) ts)
  without-apart [] h = tt
  without-apart (t ∷ ts) h = go (has_auxiliary n t.0) refl (without-apart ts h.1)
    where
      go : (b : Bool) → has_auxiliary n t.0 ≡ b → EachColumn (λ c. IsTrue (apart test n c)) (filter (λ u. not (has_auxiliary n u.0)) ts)
          → EachColumn (λ c. IsTrue (apart test n c)) (cond (not b) (t ∷ filter (λ u. not (has_auxiliary n u.0)) ts) (filter (λ u. not (has_auxiliary n u.0)) ts))
      go true e rest = rest
      go false e rest = (apart_columns t.0 e h.0, rest)

  all-apart : (ts : Terms) → list_any (λ t. has_auxiliary n t.0) ts ≡ false → EachColumn (λ c. IsTrue (test c)) ts → EachColumn (λ c. IsTrue (apart test n c)) ts
  all-apart [] none h = tt
  all-apart (t ∷ ts) none h = go (has_auxiliary n t.0) refl none (λ rest. all-apart ts rest h.1)
    where
      go : (b : Bool) → has_auxiliary n t.0 ≡ b → b || list_any (λ u. has_auxiliary n u.0) ts ≡ false → (list_any (λ u. has_auxiliary n u.0) ts ≡ false → EachColumn (λ c. IsTrue (apart test n c)) ts) → EachColumn (λ c. IsTrue (apart test n c)) (t ∷ ts)
      go true e f rest = cc
      go false e f rest = (apart_columns t.0 e h.0, rest f)

  solution-apart : (p q : Polynomial) → solution p n ≡ Ok q → IsTrue (every_column test p) → IsTrue (every_column (apart test n) q)
  solution-apart p q e h = test_from_columns (apart test n) q (go (int_eq (coefficient_in p.terms (Aux n ∷ [])) (negsuc 0)) e)
    where
      rest : EachColumn (λ c. IsTrue (apart test n c)) (without n p).terms
      rest = without-apart p.terms (columns_from_test test p h)

      go : (b : Bool) → cond b (Ok (without n p)) (multiple_of (without n p) (negsuc 0)) ≡ Ok q → EachColumn (λ c. IsTrue (apart test n c)) q.terms
      go true f = let same : without n p ≡ q = cc in subst (λ r. EachColumn (λ c. IsTrue (apart test n c)) r.terms) same rest
      go false f = multiple_of-each (λ c. IsTrue (apart test n c)) (without n p) (negsuc 0) q f rest

  -- the solution put in leaves other columns and those of the solution
  apart-carries : (sol : Polynomial) (t : Col → Bool) → ((c : Col) → IsTrue (apart test n c) → IsTrue (t c)) → IsTrue (every_column t sol) → Carries (with_solution n sol) test t
  apart-carries sol t more h = record { to = go }
    where
      put : (b : Bool) (m : ℕ) → (m == n) ≡ b → IsTrue (test (Aux m)) → IsTrue (every_column t (cond b sol (column_of (Aux m))))
      put true m e k = h
      put false m e k = test_from_columns t (column_of (Aux m)) ((more (Aux m) (both_true (test (Aux m)) (not (is_auxiliary n (Aux m))) k (ap not e)), tt), tt)

      covers : (c : Col) → IsTrue (test c) → IsTrue (every_column t (put_for n sol c))
      covers (At m) k = test_from_columns t (column_of (At m)) ((more (At m) (both_true (test (At m)) true k refl), tt), tt)
      covers (Aux m) k = put (m == n) m refl k

      go : (p q : Polynomial) → with_solution n sol p ≡ Ok q → IsTrue (every_column test p) → IsTrue (every_column t q)
      go p q f k = split (occurs n p) refl f
        where
          split : (b : Bool) → occurs n p ≡ b → cond b (substituted_polynomial (put_for n sol) p) (Ok p) ≡ Ok q → IsTrue (every_column t q)
          split true e g = (substituted-carries (put_for n sol) test t covers).to p q g k
          split false e g =
              let same : p ≡ q = cc in
              subst (λ r. IsTrue (every_column t r)) same (more_columns (apart test n) t more p (test_from_columns (apart test n) p (all-apart p.terms e (columns_from_test test p k))))

-- ---- auxiliaries that are posts by themselves

abbrev pub is_post : ℕ → Polynomial → Bool
is_post n p = poly_eq (column_of (Aux n)) p

one_post : (p : Polynomial) (m n : ℕ) → IsTrue (is_post m p) → IsTrue (is_post n p) → m ≡ n
unfolding number_of
one_post p m n h k = ap (λ (q : Polynomial). number_of q.terms) (polys_same (column_of (Aux m)) p h ∙ sym (polys_same (column_of (Aux n)) p k))

-- a post that the operation leaves as it is stays a post
kept_post : (f : Operation) (m : ℕ) → f (column_of (Aux m)) ≡ Ok (column_of (Aux m)) → (next : ℕ) (posts : List Polynomial) → IsTrue (list_any (is_post m) posts) → IsTrue (list_any (is_post m) (posts_by f next posts))
kept_post f m stays next [] h = h
kept_post f m stays next (p ∷ posts) h = either (is_post m p) (list_any (is_post m) posts) h first (λ k. later (answer_of (f p)) (kept_post f m stays next posts k) (kept_post f m stays (next + 1) posts k))
  where
    first : IsTrue (is_post m p) → IsTrue (list_any (is_post m) (posts_by f next (p ∷ posts)))
    first k =
        let same = polys_same (column_of (Aux m)) p k in
        let done : answer_of (f p) ≡ Some p = ap (λ q. answer_of (f q)) (sym same) ∙ ap answer_of stays ∙ ap (λ (q : Polynomial). Some q) same in
        subst (λ o. IsTrue (list_any (is_post m) (filled_posts next (o ∷ map (λ q. answer_of (f q)) posts)))) (sym done) (or_left (is_post m p) (list_any (is_post m) (posts_by f next posts)) k)

    later : (o : Option Polynomial) → IsTrue (list_any (is_post m) (posts_by f next posts)) → IsTrue (list_any (is_post m) (posts_by f (next + 1) posts)) → IsTrue (list_any (is_post m) (filled_posts next (o ∷ map (λ q. answer_of (f q)) posts)))
    later None h k = or_right (is_post m (column_of (Aux next))) (list_any (is_post m) (posts_by f (next + 1) posts)) k
    later (Some q) h k = or_right (is_post m q) (list_any (is_post m) (posts_by f next posts)) h

-- what an operation leaves of posts has columns that pass, if the posts themselves do
posts_by-owned : (f : Operation) (s t : Col → Bool) → Carries f s t → (next : ℕ) (posts : List Polynomial) → ((k : ℕ) → IsTrue (list_any (is_post k) (posts_by f next posts)) → IsTrue (t (Aux k)))
    → IsTrue (list_all (every_column s) posts) → IsTrue (list_all (every_column t) (posts_by f next posts))
posts_by-owned f s t carries next [] own h = refl
posts_by-owned f s t carries next (p ∷ posts) own h =
    let parts = both (every_column s p) (list_all (every_column s) posts) h in
    go (f p) refl parts.0 own (λ n more. posts_by-owned f s t carries n posts more parts.1)
  where
    go : (r : Result Polynomial TermError) → f p ≡ r → IsTrue (every_column s p) → ((k : ℕ) → IsTrue (list_any (is_post k) (filled_posts next (answer_of r ∷ map (λ q. answer_of (f q)) posts))) → IsTrue (t (Aux k)))
        → ((n : ℕ) → ((k : ℕ) → IsTrue (list_any (is_post k) (posts_by f n posts)) → IsTrue (t (Aux k))) → IsTrue (list_all (every_column t) (posts_by f n posts)))
        → IsTrue (list_all (every_column t) (filled_posts next (answer_of r ∷ map (λ q. answer_of (f q)) posts)))
    go (Ok q) e k mine rest =
        both_true (every_column t q) (list_all (every_column t) (posts_by f next posts)) (carries.to p q e k)
        (rest next (λ j l. mine j (or_right (is_post j q) (list_any (is_post j) (posts_by f next posts)) l)))
    go (Err d) e k mine rest =
        both_true (every_column t (column_of (Aux next))) (list_all (every_column t) (posts_by f (next + 1) posts))
        (test_from_columns t (column_of (Aux next)) ((mine next (or_left (is_post next (column_of (Aux next))) (list_any (is_post next) (posts_by f (next + 1) posts)) (same_post (column_of (Aux next)))), tt), tt))
        (rest (next + 1) (λ j l. mine j (or_right (is_post j (column_of (Aux next))) (list_any (is_post j) (posts_by f (next + 1) posts)) l)))

module _ (spare : List ℕ) where
  -- the auxiliary is spared, or a post by itself
  abbrev pub owned : List Polynomial → ℕ → Bool
  owned posts n = list_any (λ m. m == n) spare || list_any (is_post n) posts

  abbrev pub owns : List Polynomial → Col → Bool
  owns posts (At n) = true
  owns posts (Aux n) = owned posts n

  -- so is each one that occurs
  abbrev pub IsOwned : Case → Type 0
  IsOwned case = IsTrue (every_column_of (owns case.post) case)

  count_owned : (posts : List Polynomial) (n : ℕ) → count_below (owned posts) n ≤ length spare + length posts
  count_owned posts n =
      let all = below_either (λ m. list_any (λ k. k == m) spare) (λ m. list_any (is_post m) posts) n in
      let spared = below_any (λ m k. k == m) (λ k i j h l. sym (exact_unsigned_eq k i h) ∙ exact_unsigned_eq k j l) spare n in
      let posted = below_any is_post one_post posts n in
      omega arith

  column-owned : (posts : List Polynomial) (n : ℕ) (c : Col) → IsTrue (is_auxiliary n c) → IsTrue (owns posts c) → IsTrue (owned posts n)
  column-owned posts n (At m) h k = cc
  column-owned posts n (Aux m) h k = subst (λ j. IsTrue (owned posts j)) (exact_unsigned_eq m n h) k

  polynomial-owned : (posts : List Polynomial) (n : ℕ) (p : Polynomial) → IsTrue (occurs n p) → IsTrue (every_column (owns posts) p) → IsTrue (owned posts n)
  polynomial-owned posts n p h k =
      met_by (λ t. has_auxiliary n t.0) (λ t. list_all (owns posts) t.0) p.terms h k (λ t e f. met_by (is_auxiliary n) (owns posts) t.0 e f (λ c. column-owned posts n c))

  occurring-owned : (case : Case) → IsOwned case → (n : ℕ) → IsTrue (occurs_in case n) → IsTrue (owned case.post n)
  occurring-owned case h n k =
      let parts = both (list_all (λ row. every_column (owns case.post) row.poly) case.rows) (list_all (every_column (owns case.post)) case.post) h in
      either (list_any (λ row. occurs n row.poly) case.rows) (list_any (occurs n) case.post) k
      (λ in_row. met_by (λ row. occurs n row.poly) (λ row. every_column (owns case.post) row.poly) case.rows in_row parts.0 (λ row. polynomial-owned case.post n row.poly))
      (λ in_post. met_by (occurs n) (every_column (owns case.post)) case.post in_post parts.1 (λ p. polynomial-owned case.post n p))

  renumbered-few : (case : Case) → IsOwned case → (renumbered_case case).aux ≤ length spare + length case.post
  renumbered-few case h = let more = below_more (occurs_in case) (owned case.post) (occurring-owned case h) case.aux in let few = count_owned case.post case.aux in omega arith

  -- ---- a round

  other_post : (sol : Polynomial) (m n : ℕ) → (m == n) ≡ false → with_solution n sol (column_of (Aux m)) ≡ Ok (column_of (Aux m))
  other_post sol m n e = go (m == n) e
    where
      go : (b : Bool) → b ≡ false → cond ((b || false) || false) (substituted_polynomial (put_for n sol) (column_of (Aux m))) (Ok (column_of (Aux m))) ≡ Ok (column_of (Aux m))
      go true f = cc
      go false f = refl

  owned-stays : (posts : List Polynomial) (sol : Polynomial) (n next : ℕ) (c : Col) → IsTrue (apart (owns posts) n c) → IsTrue (owns (posts_by (with_solution n sol) next posts) c)
  owned-stays posts sol n next (At m) h = refl
  owned-stays posts sol n next (Aux m) h =
      let parts = both (owned posts m) (not (m == n)) h in
      either (list_any (λ k. k == m) spare) (list_any (is_post m) posts) parts.0
      (λ k. or_left (list_any (λ k. k == m) spare) (list_any (is_post m) (posts_by (with_solution n sol) next posts)) k)
      (λ k. or_right (list_any (λ k. k == m) spare) (list_any (is_post m) (posts_by (with_solution n sol) next posts)) (kept_post (with_solution n sol) m (other_post sol m n (other (m == n) parts.1)) next posts k))
    where
      other : (b : Bool) → IsTrue (not b) → b ≡ false
      other true k = cc
      other false k = refl

  solved-owned : (case : Case) (p : Polynomial) (n : ℕ) (r : Result Polynomial TermError) → solution p n ≡ r → IsTrue (every_column (owns case.post) p) → IsOwned case → IsOwned (with_solved r n case)
  solved-owned case p n (Err e) s h k = k
  solved-owned case p n (Ok sol) s h k =
      let f = with_solution n sol in
      let t = owns (posts_by f case.aux case.post) in
      let parts = both (list_all (λ row. every_column (owns case.post) row.poly) case.rows) (list_all (every_column (owns case.post)) case.post) k in
      let carries = apart-carries (owns case.post) n sol t (owned-stays case.post sol n case.aux) (more_columns (apart (owns case.post) n) t (owned-stays case.post sol n case.aux) sol (solution-apart (owns case.post) n p sol s h)) in
      both_true (list_all (λ row. every_column t row.poly) (rows_by f case.rows)) (list_all (every_column t) (posts_by f case.aux case.post))
      (rows_by-covered f (owns case.post) t carries case.rows parts.0)
      (posts_by-owned f (owns case.post) t carries case.aux case.post (λ j l. or_right (list_any (λ m. m == j) spare) (list_any (is_post j) (posts_by f case.aux case.post)) l) parts.1)

  solved-posts : (r : Result Polynomial TermError) (n : ℕ) (case : Case) → length (with_solved r n case).post ≡ length case.post
  solved-posts (Err e) n case = refl
  solved-posts (Ok sol) n case = posts_by-length (with_solution n sol) case.aux case.post

  -- ---- the rounds

  module _ (many : ℕ) where
    abbrev Few : Option Case → Type 0
    Few o = Stays (λ left. left.aux ≤ length spare + many) (solved_answer o)

    record IsLeft (case : Case) : Type 0 where
      owned_all : IsOwned case
      posts : length case.post ≡ many

    renumbered-left : (case : Case) → IsLeft case → (renumbered_case case).aux ≤ length spare + many
    renumbered-left case h = subst (λ k. (renumbered_case case).aux ≤ length spare + k) h.posts (renumbered-few case h.owned_all)

    rows-left : (case : Case) (rows : List Row) → IsTrue (list_all (λ row. every_column (owns case.post) row.poly) rows) → IsLeft case → IsLeft (with_rows case rows)
    rows-left case rows h k =
        let parts = both (list_all (λ row. every_column (owns case.post) row.poly) case.rows) (list_all (every_column (owns case.post)) case.post) k.owned_all in
        record { owned_all = both_true (list_all (λ row. every_column (owns case.post) row.poly) rows) (list_all (every_column (owns case.post)) case.post) h parts.1; posts = k.posts }

    rows-of : (case : Case) → IsLeft case → IsTrue (list_all (λ row. every_column (owns case.post) row.poly) case.rows)
    rows-of case k = (both (list_all (λ row. every_column (owns case.post) row.poly) case.rows) (list_all (every_column (owns case.post)) case.post) k.owned_all).0

    rounds-few : (n : ℕ) (case : Case) → IsLeft case → Few (rounds n case).left
    rounds-few zero case h = renumbered-left case h
    rounds-few (suc n) case h = go (tidied_rows case.rows).rows refl (λ next k. rounds-few n next k)
      where
        at : (left : Case) (place m : ℕ) (o : Option Row) → o ≡ slice_get left.rows place → IsLeft left → ((next : Case) → IsLeft next → Few (rounds n next).left) → Few (round_at (rounds n) (with_rows left (remove left.rows place)) m o).left
        at left place m None e k ih = renumbered-left (with_rows left (remove left.rows place)) (rows-left left (remove left.rows place) (test_removed (λ row. every_column (owns left.post) row.poly) left.rows place (rows-of left k)) k)
        at left place m (Some row) e k ih =
            let rest = with_rows left (remove left.rows place) in
            let removed = rows-left left (remove left.rows place) (test_removed (λ row. every_column (owns left.post) row.poly) left.rows place (rows-of left k)) k in
            let one = test_got (λ r. every_column (owns left.post) r.poly) left.rows place row (rows-of left k) e in
            ih (with_solved (solution row.poly m) m rest)
            (record { owned_all = solved-owned rest row.poly m (solution row.poly m) refl one removed.owned_all; posts = solved-posts (solution row.poly m) m rest ∙ removed.posts })

        first : (left : Case) (o : Option (ℕ × ℕ)) → IsLeft left → ((next : Case) → IsLeft next → Few (rounds n next).left) → Few (solved_first (rounds n) left o).left
        first left None k ih = renumbered-left left k
        first left (Some found) k ih = at left found.0 found.1 (slice_get left.rows found.0) refl k ih

        go : (o : Option (List Row)) → (tidied_rows case.rows).rows ≡ o → ((next : Case) → IsLeft next → Few (rounds n next).left) → Few (round (rounds n) case o).left
        go None e ih = tt
        go (Some rows) e ih = first (with_rows case rows) (first_equation rows) (rows-left case rows (tidied-passes (owns case.post) case.rows rows e (rows-of case h)) h) ih

-- what is left of a case whose auxiliaries are posts or spared has no more than there are posts and
-- spared ones
pub in_order-few : (spare : List ℕ) (case : Case) → IsOwned spare case → Stays (λ left. left.aux ≤ length spare + length case.post) (solved_answer (in_order case).left)
in_order-few spare case h = rounds-few spare (length case.post) (length case.rows) case (record { owned_all = h; posts = refl })
