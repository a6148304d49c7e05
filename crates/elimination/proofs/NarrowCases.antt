-- Which questions of rows and goals are narrow, told case by case.
use Rattle.std.proofs.Common.{◌≡◌, ℕ, ◌≤◌, Bool, true, false, cond, List, [], ◌∷◌, ◌++◌, map, length, refl, arith}
use Rattle.std.specs.Prelude.{◌↔◌, All, IsTrue, unsigned_abs, Result, Ok, Err, IfOk}
use Rattle.std.specs.List.{AllByRecursion}
use Rattle.std.specs.Map.{keys_of}
use Rattle.std.specs.Ordering.{eq_by_cmp}
use Rattle.std.proofs.lemmas.Bool.{false≢true}
use Rattle.std.proofs.lemmas.List.Elements.{recursion_from_All, All-from_recursion}
use Rattle.linear_terms.specs.declared.col.Col.{Col}
use Rattle.linear_terms.specs.declared.row.Row.{Row}
use Rattle.linear_terms.specs.Mono.{mono_cmp}
use Rattle.linear_terms.specs.Polynomial.{Polynomial}
use Rattle.farkas_check.specs.declared.answer.Answer.{Answer}
use Rattle.farkas_check.specs.declared.answer.Answer.TheVariants as answer
use Rattle.farkas_check.specs.declared.question.Goal.{Goal}
use Rattle.farkas_check.specs.declared.question.Question.TheVariants.{Infeasible, Sup}
use Rattle.farkas_check.specs.Columns.{columns, monos_of}
use Rattle.farkas_check.specs.Meaning.{IsLimit, IsTight}
use Rattle.farkas_check.specs.Sizes.{row_polys, goal_polys, row_count, HasRationalPoint, GoalHasPoint, IsNarrow, HasNumbersUpTo}
use Rattle.farkas_check.specs.Tested.{goal_columns}
use Rattle.farkas_check.proofs.Spreads.{is_among}
use Rattle.elimination.specs.Answers.{is_no}
use Rattle.elimination.specs.Narrow.{IsSmallCase, IsSmallGoal, IsNarrowGoal}
use Rattle.elimination.proofs.ColumnCounts.{fewer_columns}

-- ---- polynomials

pub numbers_up_to : (most : ℕ) (p : Polynomial) → unsigned_abs p.rest ≤ most → All (λ t. unsigned_abs t.1 ≤ most) p.terms → HasNumbersUpTo most p
numbers_up_to most p h k = record { terms = recursion_from_All (λ t. unsigned_abs t.1 ≤ most) p.terms k; rest = h }

pub terms_up_to : (most : ℕ) (p : Polynomial) → HasNumbersUpTo most p → All (λ t. unsigned_abs t.1 ≤ most) p.terms
terms_up_to most p h = All-from_recursion (λ t. unsigned_abs t.1 ≤ most) p.terms h.terms

pub rest_up_to : (most : ℕ) (p : Polynomial) → HasNumbersUpTo most p → unsigned_abs p.rest ≤ most
rest_up_to most p h = h.rest

pub ruleset sizes = (numbers_up_to, terms_up_to, rest_up_to)

-- ---- rows

pub polys_small : (most : ℕ) (rows : List Row) (more : List Polynomial) → AllByRecursion (λ (row : Row). HasNumbersUpTo most row.poly) rows → AllByRecursion (HasNumbersUpTo most) more → AllByRecursion (HasNumbersUpTo most) (row_polys rows more)
polys_small most [] more h k = k
polys_small most (row ∷ rows) more h k = (h.0, polys_small most rows more h.1 k)

pub rows_small : (most : ℕ) (rows : List Row) (more : List Polynomial) → AllByRecursion (HasNumbersUpTo most) (row_polys rows more) → AllByRecursion (λ (row : Row). HasNumbersUpTo most row.poly) rows × AllByRecursion (HasNumbersUpTo most) more
rows_small most [] more h = (tt, h)
rows_small most (row ∷ rows) more h = let rest = rows_small most rows more h.1 in ((h.0, rest.0), rest.1)

pub small_rows_narrow : (rows : List Row) → IsSmallCase 64 rows [] → IsNarrow (Infeasible rows)
small_rows_narrow rows s = record {
  slim = record { few_columns = (s.few_columns, tt); few_rows = (s.few_rows, tt) };
  few_cases = omega arith;
  small = polys_small 64 rows [] (recursion_from_All (λ (row : Row). HasNumbersUpTo 64 row.poly) rows s.small) tt;
  cases = tt;
}

pub narrow_rows_small : (rows : List Row) → IsNarrow (Infeasible rows) → IsSmallCase 64 rows []
narrow_rows_small rows n = record {
  few_columns = n.slim.few_columns.0;
  few_rows = n.slim.few_rows.0;
  small = All-from_recursion (λ (row : Row). HasNumbersUpTo 64 row.poly) rows (rows_small 64 rows [] n.small).0;
}

-- the rows of a small goal are narrow by themselves: they have no more columns
pub goal_rows_narrow : (goal : Goal) → IsSmallGoal goal → IsNarrow (Infeasible goal.rows)
goal_rows_narrow goal s =
    small_rows_narrow goal.rows (record {
      few_columns = let few : length (columns goal.rows []) ≤ length (columns goal.rows goal.objective.terms) = fewer_columns (monos_of goal.rows []) (monos_of goal.rows goal.objective.terms) (λ m h. more m goal.rows h) in let three : length (columns goal.rows goal.objective.terms) ≤ 3 = s.case.few_columns in omega (arith, few, three);
      few_rows = s.case.few_rows;
      small = s.case.small;
    })
  where
    more : (m : List Col) (rows : List Row) → is_among m (monos_of rows []) ≡ true → is_among m (monos_of rows goal.objective.terms) ≡ true
    more m [] h = absurd (false≢true h)
    more m (row ∷ rows) h = either (keys_of row.poly.terms) h (more m rows)
      where
        either : (ks : List (List Col)) → is_among m (ks ++ monos_of rows []) ≡ true → (is_among m (monos_of rows []) ≡ true → is_among m (monos_of rows goal.objective.terms) ≡ true) → is_among m (ks ++ monos_of rows goal.objective.terms) ≡ true
        either [] k rest = rest k
        either (x ∷ ks) k rest = go (eq_by_cmp mono_cmp m x) k (λ l. either ks l rest)
          where
            go : (b : Bool) → cond b true (is_among m (ks ++ monos_of rows [])) ≡ true → (is_among m (ks ++ monos_of rows []) ≡ true → is_among m (ks ++ monos_of rows goal.objective.terms) ≡ true) → cond b true (is_among m (ks ++ monos_of rows goal.objective.terms)) ≡ true
            go true l r = refl
            go false l r = r l

-- ---- points

pub no_has_point : (rows : List Row) (a : Answer) → (IsLimit a → ⊥) → ((IsLimit a → ⊥) → IsTight (Infeasible rows) a) → is_no a ≡ true → HasRationalPoint rows
no_has_point rows (answer.Yes by) live tight e = absurd (false≢true e)
no_has_point rows (answer.No numbers) live tight e = let p = tight live in record { point = p.point; met = p.met }
no_has_point rows (answer.Bound at certs case point) live tight e = absurd (tight live)
no_has_point rows (answer.Unbounded case point ray) live tight e = absurd (tight live)
no_has_point rows (answer.Basis relations spots free) live tight e = absurd (tight live)
no_has_point rows (answer.Limit l) live tight e = absurd (live tt)

pub point_says_no : (rows : List Row) (a : Answer) → (IsLimit a → ⊥) → ((IsLimit a → ⊥) → IsTight (Infeasible rows) a) → HasRationalPoint rows → is_no a ≡ true
point_says_no rows (answer.Yes by) live tight p = absurd (tight live p.point p.met)
point_says_no rows (answer.No numbers) live tight p = refl
point_says_no rows (answer.Bound at certs case point) live tight p = absurd (tight live)
point_says_no rows (answer.Unbounded case point ray) live tight p = absurd (tight live)
point_says_no rows (answer.Basis relations spots free) live tight p = absurd (tight live)
point_says_no rows (answer.Limit l) live tight p = absurd (live tt)

pub ruleset points = (no_has_point, point_says_no)

-- ---- goals

narrow_goal : (goal : Goal) → IsSmallGoal goal → HasRationalPoint goal.rows → IsNarrowGoal goal
narrow_goal goal s p = record { small = s; point = p }

goals_columns : (goals : List Goal) → AllByRecursion IsNarrowGoal goals → AllByRecursion (λ cs. length cs ≤ 3) (map goal_columns goals)
goals_columns [] h = tt
goals_columns (goal ∷ goals) h = (h.0.small.case.few_columns, goals_columns goals h.1)

goals_rows : (goals : List Goal) → AllByRecursion IsNarrowGoal goals → AllByRecursion (λ rows. row_count rows ≤ 12) (map (λ (goal : Goal). goal.rows) goals)
goals_rows [] h = tt
goals_rows (goal ∷ goals) h = (h.0.small.case.few_rows, goals_rows goals h.1)

goals_small : (goals : List Goal) → AllByRecursion IsNarrowGoal goals → AllByRecursion (HasNumbersUpTo 64) (goal_polys goals)
goals_small [] h = tt
goals_small (goal ∷ goals) h = polys_small 64 goal.rows (goal.objective ∷ goal_polys goals) (recursion_from_All (λ (row : Row). HasNumbersUpTo 64 row.poly) goal.rows h.0.small.case.small) (h.0.small.objective, goals_small goals h.1)

goals_points : (goals : List Goal) → AllByRecursion IsNarrowGoal goals → AllByRecursion GoalHasPoint goals
goals_points [] h = tt
goals_points (goal ∷ goals) h = (h.0.point, goals_points goals h.1)

rows-length : (goals : List Goal) → length (map (λ (goal : Goal). goal.rows) goals) ≡ length goals
rows-length [] = refl
rows-length (goal ∷ goals) = let e : length (map (λ (goal : Goal). goal.rows) goals) ≡ length goals = rows-length goals in omega (arith, e)

pub goals_narrow : (goals : List Goal) → (goals ≡ [] → ⊥) → length goals ≤ 4294967296 → All IsNarrowGoal goals → IsNarrow (Sup goals)
goals_narrow goals some few h = let each : AllByRecursion IsNarrowGoal goals = recursion_from_All IsNarrowGoal goals h in record {
  slim = record { few_columns = goals_columns goals each; few_rows = goals_rows goals each };
  few_cases = let e : length (map (λ (goal : Goal). goal.rows) goals) ≡ length goals = rows-length goals in omega (arith, e, few);
  small = goals_small goals each;
  cases = (some, goals_points goals each);
}

pub narrow_each : (goals : List Goal) → IsNarrow (Sup goals) → All IsNarrowGoal goals
narrow_each goals n = All-from_recursion IsNarrowGoal goals (each goals n.slim.few_columns n.slim.few_rows n.small n.cases.1)
  where
    each : (goals : List Goal) → AllByRecursion (λ cs. length cs ≤ 3) (map goal_columns goals) → AllByRecursion (λ rows. row_count rows ≤ 12) (map (λ (goal : Goal). goal.rows) goals) → AllByRecursion (HasNumbersUpTo 64) (goal_polys goals) → AllByRecursion GoalHasPoint goals → AllByRecursion IsNarrowGoal goals
    each [] a b c d = tt
    each (goal ∷ goals) a b c d =
        let parts = rows_small 64 goal.rows (goal.objective ∷ goal_polys goals) c in
        (record { small = record { case = record { few_columns = a.0; few_rows = b.0; small = All-from_recursion (λ (row : Row). HasNumbersUpTo 64 row.poly) goal.rows parts.0 }; objective = parts.1.0 }; point = d.0 }, each goals a.1 b.1 parts.1.1 d.1)

pub narrow_few : (goals : List Goal) → IsNarrow (Sup goals) → length goals ≤ 4294967296
narrow_few goals n = let e : length (map (λ (goal : Goal). goal.rows) goals) ≡ length goals = rows-length goals in let f : length (map (λ (goal : Goal). goal.rows) goals) ≤ 4294967296 = n.few_cases in omega (arith, e, f)

pub narrow_some : (goals : List Goal) → IsNarrow (Sup goals) → goals ≡ [] → ⊥
narrow_some goals n = n.cases.0

pub narrow_answer : {E : Type 0} (goals : List Goal) (r : Result Bool E) → (goals ≡ [] → ⊥) → length goals ≤ 4294967296 → IfOk r (λ b. IsTrue b ↔ All IsNarrowGoal goals) → IfOk r (λ b. IsTrue b ↔ IsNarrow (Sup goals))
narrow_answer goals (Ok b) some few h = (λ e. goals_narrow goals some few (h.0 e), λ n. h.1 (narrow_each goals n))
narrow_answer goals (Err e) some few h = tt

pub ruleset narrow_cases = (small_rows_narrow, narrow_rows_small, goal_rows_narrow, goals_narrow, narrow_each, narrow_few, narrow_some)
