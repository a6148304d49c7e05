-- A case that is put in order has at no time more auxiliaries than it had and one by post: a post
-- that is lost becomes an auxiliary that no row has, so it is never lost again.
use Rattle.std.proofs.Common.{◌≡◌, ◌⊎◌, inl, inr, ℕ, ◌+◌, ◌<◌, ◌≤◌, ◌^◌, Bool, true, false, cond, length, map, List, [], ◌∷◌, Some, Result, Ok, Err, refl, sym, ap, subst, ◌∙◌, arith}
use Rattle.std.specs.Prelude.{IsTrue, ◌==◌, ◌&&◌, ◌||◌, count_by, nat_lt, slice_get}
use Rattle.std.specs.List.{AllByRecursion, list_all, list_any, remove}
use Rattle.std.specs.Option.{is_none}
use Rattle.std.proofs.lemmas.Bool.Decides.{Decides-eqb}
use Rattle.std.proofs.lemmas.List.Sums.{count_by-le-length, sum_by-cons}
use Rattle.items.proofs.Each.{each_from_test}
use Rattle.linear_terms.specs.declared.col.Col.TheVariants.{Aux}
use Rattle.linear_terms.specs.declared.error.TermError.{TermError}
use Rattle.linear_terms.specs.declared.row.Row.{Row}
use Rattle.linear_terms.specs.declared.row.Case.{Case}
use Rattle.linear_terms.specs.Auxiliaries.{has_auxiliary, is_numbered, put_for}
use Rattle.linear_terms.specs.Operations.{substituted_polynomial}
use Rattle.linear_terms.specs.Polynomial.{Polynomial, column_of}
use Rattle.transition_formula.specs.Composition.{by, filled_posts, posts_by}
use Rattle.transition_formula.specs.Loss.{answer_of}
use Rattle.transition_formula.specs.Order.{first_equation, solution, with_solution}
use Rattle.transition_formula.specs.Rounds.{with_rows, with_solved}
use Rattle.transition_formula.specs.Transition.{every_column}
use Rattle.transition_formula.proofs.CarriedColumns.{solution-passes, tidied-passes, with_solution-carries}
use Rattle.transition_formula.proofs.ColumnTests.{both, count_lost, lost, rows_by-covered}
use Rattle.transition_formula.proofs.Fitting.{true-below}
use Rattle.transition_formula.proofs.Numbers.{occurs-below}
use Rattle.transition_formula.proofs.Rounding.{AllNumbered, IsTidied, found_at, test_got, test_removed}
use Rattle.transition_formula.proofs.Solutions.{found-can_solve}

module _ (start : ℕ) where
  -- all its auxiliaries are among the first
  abbrev own : Polynomial → Bool
  own p = every_column (is_numbered start) p

  -- or it is an auxiliary after them
  abbrev IsOwnOrNew : Polynomial → Type 0
  IsOwnOrNew p = IsTrue (own p) ⊎ ((k : ℕ) × (start ≤ k) × (p ≡ column_of (Aux k)))

  -- so many more auxiliaries are enough
  pub record HasRoom (room : ℕ) (case : Case) : Type 0 where
    pub rows_own : IsTrue (list_all (λ row. own row.poly) case.rows)
    pub posts_known : AllByRecursion IsOwnOrNew case.post
    pub started : start ≤ case.aux
    pub enough : case.aux + count_by own case.post ≤ start + room

  -- ---- the posts

  count-own : (p : Polynomial) (ps : List Polynomial) → count_by own (p ∷ ps) ≡ cond (own p) 1 0 + count_by own ps
  count-own p ps = sum_by-cons (λ x. cond (own x) 1 0) p ps

  not-numbered : (k : ℕ) → start ≤ k → nat_lt k start ≡ false
  not-numbered k le = go (nat_lt k start) refl
    where
      go : (b : Bool) → nat_lt k start ≡ b → nat_lt k start ≡ false
      go true e = let lt = true-below k start e in absurd (omega (arith, lt, le))
      go false e = e

  new-not_own : (k : ℕ) → start ≤ k → own (column_of (Aux k)) ≡ false
  new-not_own k le = ap (λ b. (b && true) && true) (not-numbered k le)

  -- an auxiliary after the first is not the one that is put in
  new-stays : (n k : ℕ) (q : Polynomial) → n < start → start ≤ k → with_solution n q (column_of (Aux k)) ≡ Ok (column_of (Aux k))
  new-stays n k q low le = ap (λ b. cond ((b || false) || false) (substituted_polynomial (put_for n q) (column_of (Aux k))) (Ok (column_of (Aux k)))) (apart (k == n) refl)
    where
      apart : (b : Bool) → (k == n) ≡ b → (k == n) ≡ false
      apart true e = let same = (Decides-eqb k n).0 e in absurd (omega (arith, same, low, le))
      apart false e = e

  module _ (n : ℕ) (q : Polynomial) (low : n < start) (q_own : IsTrue (own q)) where
    abbrev op : Polynomial → Result Polynomial TermError
    op = with_solution n q

    record IsKept (next : ℕ) (posts : List Polynomial) : Type 0 where
      known : AllByRecursion IsOwnOrNew (posts_by op next posts)
      fewer : count_by (lost op) posts + count_by own (posts_by op next posts) ≤ count_by own posts

    posts-kept : (next : ℕ) (posts : List Polynomial) → start ≤ next → AllByRecursion IsOwnOrNew posts → IsKept next posts
    posts-kept next [] le h = record { known = tt; fewer = omega arith }
    posts-kept next (p ∷ posts) le (inl mine, h) = go (op p) refl (λ m k. posts-kept m posts k h)
      where
        made_own : (r : Polynomial) → op p ≡ Ok r → IsTrue (own r)
        made_own r e = (with_solution-carries (is_numbered start) n q (is_numbered start) (λ c k. k) q_own).to p r e mine

        go : (r : Result Polynomial TermError) → op p ≡ r → ((m : ℕ) → start ≤ m → IsKept m posts) → IsKept next (p ∷ posts)
        go (Ok r) e ih =
            let rest = ih next le in
            let made : posts_by op next (p ∷ posts) ≡ r ∷ posts_by op next posts = ap (λ s. filled_posts next (answer_of s ∷ map (λ x. answer_of (op x)) posts)) e in
            let losses = count_lost op p posts ∙ ap (λ s. cond (is_none (answer_of s)) 1 0 + count_by (lost op) posts) e in
            let before = count-own p posts ∙ ap (λ b. cond b 1 0 + count_by own posts) mine in
            let after = count-own r (posts_by op next posts) ∙ ap (λ b. cond b 1 0 + count_by own (posts_by op next posts)) (made_own r e) in
            let fewer = rest.fewer in
            record {
              known = subst (AllByRecursion IsOwnOrNew) (sym made) (inl (made_own r e), rest.known);
              fewer = subst (λ made. count_by (lost op) (p ∷ posts) + count_by own made ≤ count_by own (p ∷ posts)) (sym made) (omega (arith, losses, before, after, fewer));
            }
        go (Err x) e ih =
            let rest = ih (next + 1) (omega (arith, le)) in
            let made : posts_by op next (p ∷ posts) ≡ column_of (Aux next) ∷ posts_by op (next + 1) posts = ap (λ s. filled_posts next (answer_of s ∷ map (λ x. answer_of (op x)) posts)) e in
            let losses = count_lost op p posts ∙ ap (λ s. cond (is_none (answer_of s)) 1 0 + count_by (lost op) posts) e in
            let before = count-own p posts ∙ ap (λ b. cond b 1 0 + count_by own posts) mine in
            let after = count-own (column_of (Aux next)) (posts_by op (next + 1) posts) ∙ ap (λ b. cond b 1 0 + count_by own (posts_by op (next + 1) posts)) (new-not_own next le) in
            let fewer = rest.fewer in
            record {
              known = subst (AllByRecursion IsOwnOrNew) (sym made) (inr (next, le, refl), rest.known);
              fewer = subst (λ made. count_by (lost op) (p ∷ posts) + count_by own made ≤ count_by own (p ∷ posts)) (sym made) (omega (arith, losses, before, after, fewer));
            }
    posts-kept next (p ∷ posts) le (inr (k, above, is), h) =
        let rest = posts-kept next posts le h in
        let stays : op p ≡ Ok (column_of (Aux k)) = ap op is ∙ new-stays n k q low above in
        let made : posts_by op next (p ∷ posts) ≡ column_of (Aux k) ∷ posts_by op next posts = ap (λ s. filled_posts next (answer_of s ∷ map (λ x. answer_of (op x)) posts)) stays in
        let losses = count_lost op p posts ∙ ap (λ s. cond (is_none (answer_of s)) 1 0 + count_by (lost op) posts) stays in
        let before = count-own p posts ∙ ap (λ b. cond b 1 0 + count_by own posts) (ap own is ∙ new-not_own k above) in
        let after = count-own (column_of (Aux k)) (posts_by op next posts) ∙ ap (λ b. cond b 1 0 + count_by own (posts_by op next posts)) (new-not_own k above) in
        let fewer = rest.fewer in
        record {
          known = subst (AllByRecursion IsOwnOrNew) (sym made) (inr (k, above, refl), rest.known);
          fewer = subst (λ made. count_by (lost op) (p ∷ posts) + count_by own made ≤ count_by own (p ∷ posts)) (sym made) (omega (arith, losses, before, after, fewer));
        }

    by-room : (room : ℕ) (case : Case) → HasRoom room case → HasRoom room (by op case)
    by-room room case h =
        let kept = posts-kept case.aux case.post h.started h.posts_known in
        let fewer = kept.fewer in
        let enough = h.enough in
        let started = h.started in
        record {
          rows_own = rows_by-covered op (is_numbered start) (is_numbered start) (with_solution-carries (is_numbered start) n q (is_numbered start) (λ c k. k) q_own) case.rows h.rows_own;
          posts_known = kept.known;
          started = omega (arith, started);
          enough = omega (arith, fewer, enough);
        }

  -- ---- the rounds

  pub tidied-room : (room : ℕ) (case made : Case) → IsTidied case made → HasRoom room case → HasRoom room made
  tidied-room room case made t h =
      subst (HasRoom room) (sym t.same) (record {
        rows_own = tidied-passes (is_numbered start) case.rows made.rows (sym t.rows) h.rows_own;
        posts_known = h.posts_known;
        started = h.started;
        enough = h.enough;
      })

  counted-any : {X : Type 0} (test : X → Bool) (xs : List X) → count_by test xs ≡ 1 → IsTrue (list_any test xs)
  counted-any test [] e = absurd (omega (arith, e))
  counted-any test (x ∷ xs) e = go (test x) refl (sym (sum_by-cons (λ y. cond (test y) 1 0) x xs) ∙ e) (λ f. counted-any test xs f)
    where
      go : (b : Bool) → test x ≡ b → cond (test x) 1 0 + count_by test xs ≡ 1 → (count_by test xs ≡ 1 → IsTrue (list_any test xs)) → IsTrue (list_any test (x ∷ xs))
      go true f g ih = ap (λ b. b || list_any test xs) f
      go false f g ih =
          let rest : 0 + count_by test xs ≡ 1 = sym (ap (λ b. cond b 1 0 + count_by test xs) f) ∙ g in
          ap (λ b. b || list_any test xs) f ∙ ih (omega (arith, rest))

  pub solved-room : (room : ℕ) (case : Case) (place n : ℕ) (row : Row) → found_at place n ≡ first_equation case.rows → Some row ≡ slice_get case.rows place → HasRoom room case
      → HasRoom room (with_solved (solution row.poly n) n (with_rows case (remove case.rows place)))
  solved-room room case place n row found is h = go (solution row.poly n) refl
    where
      row_own : IsTrue (own row.poly)
      row_own = test_got (λ (r : Row). own r.poly) case.rows place row h.rows_own is

      low : n < start
      low =
          let can = found-can_solve case.rows place n row found is in
          occurs-below n start row.poly (counted-any (λ t. has_auxiliary n t.0) row.poly.terms can.solvable.once) row_own

      left : HasRoom room (with_rows case (remove case.rows place))
      left = record { rows_own = test_removed (λ (r : Row). own r.poly) case.rows place h.rows_own; posts_known = h.posts_known; started = h.started; enough = h.enough }

      go : (r : Result Polynomial TermError) → solution row.poly n ≡ r → HasRoom room (with_solved r n (with_rows case (remove case.rows place)))
      go (Ok q) e = by-room n q low (solution-passes (is_numbered start) row.poly n q e row_own) room (with_rows case (remove case.rows place)) left
      go (Err x) e = left

-- at the beginning there is one by post
pub first-room : (case : Case) → AllNumbered case → HasRoom case.aux (length case.post) case
first-room case all =
    let parts = both (list_all (λ row. every_column (is_numbered case.aux) row.poly) case.rows) (list_all (every_column (is_numbered case.aux)) case.post) all in
    let most = count_by-le-length (every_column (is_numbered case.aux)) case.post in
    record {
      rows_own = parts.0;
      posts_known = each_from_test (every_column (is_numbered case.aux)) (IsOwnOrNew case.aux) (λ p h. inl h) case.post parts.1;
      started = omega arith;
      enough = omega (arith, most);
    }

-- then the auxiliaries can be numbered
pub room-few : (start room : ℕ) (case : Case) → HasRoom start room case → start + room < 2 ^ 32 → case.aux < 2 ^ 32
room-few start room case h few = let enough = h.enough in omega (arith, enough, few)
