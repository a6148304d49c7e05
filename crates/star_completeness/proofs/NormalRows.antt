-- The rows of normals in the second case of star: where nothing is noted, each normal of the
-- vocabulary has its row.
use Rattle.std.proofs.Common.{◌≡◌, ℕ, zero, suc, List, [], ◌∷◌, ◌++◌, map, refl, sym, ap, subst, ◌∙◌, arith, ℤ, pos, negsuc, ◌+ℤ◌, ◌-ℤ◌, ◌*ℤ◌, ◌≤ℤ◌, ◌<ℤ◌, Result, Ok, Err}
use Rattle.std.specs.Prelude.{slice_get, Option, None, Some, true, option_to_list}
use Rattle.std.specs.List.{Contains}
use Rattle.std.proofs.lemmas.Int.{ints, by_lt_z}
use Rattle.std.proofs.lemmas.List.Elements.{Contains-append_right}
use Rattle.items.specs.Gives as gives
use Rattle.items.proofs.Each.{each-front, each-back}
use Rattle.items.proofs.Gives.{on_ok}
use Rattle.whole_numbers.specs.Dot.{dot}
use Rattle.whole_numbers.proofs.Ring.{≤ℤ-*ℤ, ring}
use Rattle.linear_terms.specs.declared.col.Col.{Col}
use Rattle.linear_terms.specs.declared.col.Col.TheVariants.{At, Aux}
use Rattle.linear_terms.specs.declared.error.TermError.{TermError}
use Rattle.linear_terms.specs.declared.row.Row.{Row}
use Rattle.linear_terms.specs.declared.row.Case.{Case}
use Rattle.linear_terms.specs.Expressions.{Made, ◌⊟◌, ◌⊠◌, column, whole, linear, or_zero, put_into}
use Rattle.linear_terms.specs.Polynomial.{Polynomial, constant_of, column_of}
use Rattle.linear_terms.specs.Row.{RowHolds, RowsHold}
use Rattle.linear_terms.specs.Value.{Valuation, value_of}
use Rattle.linear_terms.proofs.Worth.{IsWorth, IsWorth-Ok, IsWorth-same, IsWorth-whole, IsWorth-column, IsWorth-product, IsWorth-difference, IsWorth-put_into, RowHolds-at_most, linear-value}
use Rattle.farkas_check.specs.declared.answer.Answer.{Answer}
use Rattle.farkas_check.specs.declared.answer.Answer.TheVariants as answer
use Rattle.farkas_check.specs.declared.question.Goal.{Goal}
use Rattle.farkas_check.specs.declared.question.Question.TheVariants.{Sup}
use Rattle.farkas_check.specs.Meaning.{IsReached, IsTight, IsLimit}
use Rattle.farkas_check.specs.Rational.{RationalPoint, sum_at, Meets}
use Rattle.farkas_check.proofs.Tight.{passing}
use Rattle.transition_formula.specs.Loss.{answer_of}
use Rattle.transition_formula.specs.Transition.{Transition}
use Rattle.transition_formula.proofs.NotedErrors.{Tells, bind-tells}
use Rattle.posing.specs.Posing.{◌>>=◌, each}
use Rattle.polyhedra.specs.Bounds.{for_entries, put_in_for, goals_of, bound_in, bound_by, bound_of, with_row, with_row_for, rows_with_bound, before_row, after_row, so_often, change_row, rows_with_entry_bound, rows_with_exit_bound, bounded_change}
use Rattle.polyhedra.specs.Changes.{poly_at, change, changes_in, modified_variables}
use Rattle.polyhedra.specs.Directions.{directions}
use Rattle.polyhedra.specs.Infeasibility.{limits_of}
use Rattle.polyhedra.specs.Vocabulary.{Vocabulary}
use Rattle.polyhedra.proofs.Places.{mapped}
use Rattle.facet_hull.specs.Changes.{changes_at}
use Rattle.facet_hull.specs.Facets.{hull_cases}
use Rattle.facet_hull.specs.Laws.{IsReachedBy, IsTurnRow}
use Rattle.recurrence.specs.Products.{products}
use Rattle.recurrence.specs.Progressions.{progressions, excess, progression_row, bounded_progression}
use Rattle.recurrence.specs.Star.{count, change_over_turns, posts, moves, term_row, terms_with_row, some_turn, rows_of}
use Rattle.star_completeness.proofs.Losses.{made-unnoted, value-tells, minus-tells, times-tells, at_most-tells, put_into-tells}
use Rattle.star_completeness.proofs.PointValues.{put_into-at}
use Rattle.star_completeness.proofs.Quiet.{AlwaysQuiet, quiet-any, quiet-bind, quiet-each, quiet-found}

-- ---- what rows say

-- numbers that make the rows true are as it says
abbrev pub Say : (Valuation → Type 0) → List Row → Type 0
Say Q rows = (at : Valuation) → RowsHold at rows → Q at

-- further rows unsay nothing
module _ (Q : Valuation → Type 0) where
  said-still : (rows more : List Row) → Say Q rows → Say Q (rows ++ more)
  said-still rows more says at h = says at (each-front (RowHolds at) rows more h)

  with_row-still : (rows : List Row) (made : Result Row TermError) → Say Q rows → AlwaysQuiet (Say Q) (with_row rows made)
  unfolding with_row
  with_row-still rows made says = λ none. said-still rows (option_to_list (answer_of made)) says

  bounded-still : (cases : List Case) (objective : Case → Made) (row : ℤ → Result Row TermError) (rows : List Row) → Say Q rows → AlwaysQuiet (Say Q) (rows_with_bound cases objective row rows)
  unfolding rows_with_bound
  bounded-still cases objective row rows says =
      quiet-bind (λ most. Unit {0}) (Say Q) (bound_of cases objective) (λ most. with_row_for rows row most) (quiet-any (λ most. Unit {0}) (bound_of cases objective) (λ most. tt)) (λ most any. go most)
    where
      go : (most : Option ℤ) → AlwaysQuiet (Say Q) (with_row_for rows row most)
      go None = says
      go (Some most) = with_row-still rows (row most) says

  -- a row that is made says it
  with_row-says : (rows : List Row) (made : Result Row TermError) → Tells made → ((r : Row) → made ≡ Ok r → (at : Valuation) → RowHolds at r → Q at) → AlwaysQuiet (Say Q) (with_row rows made)
  unfolding with_row
  with_row-says rows made tells says = λ none. let found = made-unnoted made tells none in
      subst (λ m. Say Q (rows ++ option_to_list (answer_of m))) (sym found.1) (λ at h. says found.0 found.1 at (each-back (RowHolds at) rows (found.0 ∷ []) h).0)

-- ---- the bound of a normal

-- the change of each modified variable over the turns
abbrev pub turn_change : Transition → Valuation → List ℤ
turn_change body at = map (λ v. value_of at (poly_at (moves body) v)) (modified_variables true body)

-- where there is a turn, the row of the form over the turns is there
abbrev pub HasTurnRow : Transition → List ℤ → Valuation → Type 0
HasTurnRow body form at = pos 1 ≤ℤ at (count body) → IsTurnRow (hull_cases body) (turn_change body at) (at (count body)) form

-- a form of changes as a polynomial over the modified variables
abbrev pub polynomial_of : Transition → List ℤ → Polynomial
polynomial_of body form = linear form (map (λ v. At v) (modified_variables true body))

module _ (body : Transition) (form : List ℤ) where
  abbrev objective : Case → Made
  objective case = put_into (for_entries (change true case)) (polynomial_of body form)

  -- the answered bound is reached, and where there is none each number is
  abbrev IsFound : Option ℤ → Type 0
  IsFound None = (n : ℤ) → IsReachedBy (hull_cases body) form n
  IsFound (Some most) = IsReachedBy (hull_cases body) form most

  objective-at : (case : Case) (point : RationalPoint) (p : Polynomial) → objective case ≡ Ok p → sum_at point p ≡ dot form (changes_at (changes_in true (modified_variables true body) case).terms point)
  objective-at case point p e =
      put_into-at point (for_entries (change true case)) form (map (λ v. At v) (modified_variables true body)) p e
      ∙ ap (dot form) (mapped (λ c. sum_at point (or_zero (for_entries (change true case) c))) (λ v. At v) (modified_variables true body)
      ∙ sym (mapped (sum_at point) (λ v. or_zero (change true case v)) (modified_variables true body)))

  -- what is reached in a goal is reached in the case
  reached-in : (n : ℤ) (point : RationalPoint) (goal : Goal) → Meets point goal.rows → (n *ℤ point.over) ≤ℤ sum_at point goal.objective
      → (cases : List Case) (goals : List Goal) (place : ℕ) → goals_of objective cases ≡ Ok goals → slice_get goals place ≡ Some goal → IsReachedBy (map (changes_in true (modified_variables true body)) cases) form n
  reached-in n point goal met far [] goals place e is = nothing goals place e is
    where
      nothing : (goals : List Goal) (place : ℕ) → ◌≡◌ {A = Result (List Goal) TermError} (Ok []) (Ok goals) → slice_get goals place ≡ Some goal → IsReachedBy [] form n
      nothing [] place f g = cc
      nothing (other ∷ goals) place f g = cc
  reached-in n point goal met far (case ∷ cases) goals place e is =
      on_ok (objective case) (λ p. gives.◌>>=◌ (goals_of objective cases) (λ rest. Ok (record { rows = case.rows; objective = p } ∷ rest))) goals e
      (λ p f g. on_ok (goals_of objective cases) (λ rest. Ok (record { rows = case.rows; objective = p } ∷ rest)) goals g
      (λ rest k l. let same : record { rows = case.rows; objective = p } ∷ rest ≡ goals = cc in
      here p rest f (λ m in_rest. reached-in n point goal met far cases rest m k in_rest) place (ap (λ gs. slice_get gs place) same ∙ is)))
    where
      here : (p : Polynomial) (rest : List Goal) → objective case ≡ Ok p → ((m : ℕ) → slice_get rest m ≡ Some goal → IsReachedBy (map (changes_in true (modified_variables true body)) cases) form n)
          → (place : ℕ) → slice_get (record { rows = case.rows; objective = p } ∷ rest) place ≡ Some goal → IsReachedBy (map (changes_in true (modified_variables true body)) (case ∷ cases)) form n
      here p rest f later zero found =
          let same : record { rows = case.rows; objective = p } ≡ goal = cc in
          record {
            place = 0;
            case = changes_in true (modified_variables true body) case;
            is = refl;
            point = point;
            meets = subst (λ (g : Goal). Meets point g.rows) (sym same) met;
            far = subst (λ z. (n *ℤ point.over) ≤ℤ z) (objective-at case point p f) (subst (λ (g : Goal). (n *ℤ point.over) ≤ℤ sum_at point g.objective) (sym same) far);
          }
      here p rest f later (suc m) found = let r = later m found in
          record { place = suc r.place; case = r.case; is = r.is; point = r.point; meets = r.meets; far = r.far }

  reached : (n : ℤ) (goals : List Goal) → goals_of objective body.cases ≡ Ok goals → IsReached n goals → IsReachedBy (hull_cases body) form n
  reached n goals e r = reached-in n r.point r.goal r.met r.reached body.cases goals r.case e r.is

  goals-tell : (cases : List Case) → Tells (goals_of objective cases)
  goals-tell [] = value-tells []
  goals-tell (case ∷ cases) =
      bind-tells (objective case) (λ p. gives.◌>>=◌ (goals_of objective cases) (λ rest. Ok (record { rows = case.rows; objective = p } ∷ rest)))
      (put_into-tells (for_entries (change true case)) changes (polynomial_of body form))
      (λ p. bind-tells (goals_of objective cases) (λ rest. Ok (record { rows = case.rows; objective = p } ∷ rest)) (goals-tell cases) (λ rest. value-tells (record { rows = case.rows; objective = p } ∷ rest)))
    where
      changes : (c : Col) → Tells (for_entries (change true case) c)
      changes (At v) = minus-tells (Ok (poly_at case.post v)) (column (At v)) (value-tells (poly_at case.post v)) (value-tells (column_of (At v)))
      changes (Aux n) = value-tells (constant_of (pos 0))

  bound-found : AlwaysQuiet IsFound (bound_of body.cases objective)
  unfolding bound_by ◌>>=◌
  bound-found = go (goals_of objective body.cases) refl (goals-tell body.cases)
    where
      told : (goals : List Goal) → goals_of objective body.cases ≡ Ok goals → (a : Answer) → (IsLimit a → ⊥) → IsTight (Sup goals) a → IsFound (bound_in a)
      told goals e (answer.Yes by) bounded tight = absurd tight
      told goals e (answer.No point) bounded tight = absurd tight
      told goals e (answer.Bound most certs case point) bounded tight = reached most goals e tight.reached
      told goals e (answer.Unbounded case point ray) bounded tight = λ n. reached n goals e (tight n)
      told goals e (answer.Basis relations spots free) bounded tight = absurd tight
      told goals e (answer.Limit limit) bounded tight = absurd tight

      no_limit : (a : Answer) → limits_of a ≡ [] → IsLimit a → ⊥
      no_limit (answer.Yes by) none limit = limit
      no_limit (answer.No point) none limit = limit
      no_limit (answer.Bound most certs case point) none limit = limit
      no_limit (answer.Unbounded case point ray) none limit = limit
      no_limit (answer.Basis relations spots free) none limit = limit
      no_limit (answer.Limit limit) none is = cc

      go : (r : Result (List Goal) TermError) → goals_of objective body.cases ≡ r → Tells r → AlwaysQuiet IsFound (bound_by r)
      go (Ok goals) e tells = λ a good none. told goals e a (no_limit a none) ((passing (Sup goals) a good.passes).1 (no_limit a none))
      go (Err fault) e tells = λ none. absurd (unmade (made-unnoted {X = List Goal} (Err fault) tells none))
        where
          unmade : (goals : List Goal) × (◌≡◌ {A = Result (List Goal) TermError} (Err fault) (Ok goals)) → ⊥
          unmade (goals, same) = cc

  -- ---- its row

  -- the changes over the turns alone
  abbrev over_turns : Valuation → Valuation
  over_turns at (At v) = value_of at (poly_at (moves body) v)
  over_turns at (Aux n) = pos 0

  row-worth : (at : Valuation) (most : ℤ)
      → IsWorth at (put_in_for (moves body) (polynomial_of body form) ⊟ so_often (Some (count body)) (whole most)) (dot form (turn_change body at) -ℤ most *ℤ at (count body))
  row-worth at most =
      IsWorth-difference
      (IsWorth-same (linear-value (over_turns at) form (map (λ v. At v) (modified_variables true body)) ∙ ap (dot form) (mapped (over_turns at) (λ v. At v) (modified_variables true body)))
      (IsWorth-put_into at (for_entries (λ v. Ok (poly_at (moves body) v))) (over_turns at) (record { each = reads }) (polynomial_of body form)))
      (IsWorth-product (IsWorth-whole at most) (IsWorth-column at (count body)))
    where
      reads : (c : Col) → IsWorth at (for_entries (λ v. Ok (poly_at (moves body) v)) c) (over_turns at c)
      reads (At v) = IsWorth-Ok at (poly_at (moves body) v)
      reads (Aux n) = IsWorth-whole at (pos 0)

  row-tells : (most : ℤ) → Tells (change_row (moves body) (Some (count body)) (polynomial_of body form) most)
  row-tells most =
      at_most-tells (put_in_for (moves body) (polynomial_of body form) ⊟ whole most ⊠ column (count body))
      (minus-tells (put_in_for (moves body) (polynomial_of body form)) (whole most ⊠ column (count body))
      (put_into-tells (for_entries (λ v. Ok (poly_at (moves body) v))) values (polynomial_of body form))
      (times-tells (whole most) (column (count body)) (value-tells (constant_of most)) (value-tells (column_of (count body)))))
    where
      values : (c : Col) → Tells (for_entries (λ v. Ok (poly_at (moves body) v)) c)
      values (At v) = value-tells (poly_at (moves body) v)
      values (Aux n) = value-tells (constant_of (pos 0))

  -- where each number is reached, one is that does for the row
  turn_row-any : ((n : ℤ) → IsReachedBy (hull_cases body) form n) → (change : List ℤ) (turns : ℤ) → pos 1 ≤ℤ turns → IsTurnRow (hull_cases body) change turns form
  turn_row-any any change turns some =
      by_lt_z (dot form change) (pos 0)
      (λ below. record { at = pos 0; tight = any (pos 0); row = under (dot form change) turns below })
      (λ above. record { at = dot form change; tight = any (dot form change); row = grown (dot form change) turns above (≤ℤ-*ℤ (pos 1) turns (dot form change) above some) })
    where
      under : (x k : ℤ) → x <ℤ pos 0 → x ≤ℤ (pos 0 *ℤ k)
      under x k h = omega (arith, ints)

      turned : (k x : ℤ) → k *ℤ x ≡ x *ℤ k
      turned k x = simp ring (omega (arith, ints))

      grown : (x k : ℤ) → pos 0 ≤ℤ x → (pos 1 *ℤ x) ≤ℤ (k *ℤ x) → x ≤ℤ (x *ℤ k)
      grown x k h l = let same = turned k x in omega (arith, ints)

  pub normal-asked : (rows : List Row) → AlwaysQuiet (Say (HasTurnRow body form)) (bounded_change body.cases (moves body) (Some (count body)) rows (polynomial_of body form))
  unfolding rows_with_bound
  normal-asked rows =
      quiet-bind IsFound (Say (HasTurnRow body form)) (bound_of body.cases objective) (λ most. with_row_for rows (change_row (moves body) (Some (count body)) (polynomial_of body form)) most) bound-found go
    where
      below : (x c : ℤ) → (x -ℤ c) ≤ℤ pos 0 → x ≤ℤ c
      below x c h = omega (arith, ints)

      go : (most : Option ℤ) → IsFound most → AlwaysQuiet (Say (HasTurnRow body form)) (with_row_for rows (change_row (moves body) (Some (count body)) (polynomial_of body form)) most)
      go None found = λ at h some. turn_row-any found (turn_change body at) (at (count body)) some
      go (Some most) found =
          with_row-says (HasTurnRow body form) rows (change_row (moves body) (Some (count body)) (polynomial_of body form) most) (row-tells most)
          (λ r e at h some. record {
            at = most;
            tight = found;
            row = below (dot form (turn_change body at)) (most *ℤ at (count body)) ((RowHolds-at_most (row-worth at most) r e).0 h);
          })

-- ---- all rows

-- there is a turn
abbrev pub HasTurn : Transition → Valuation → Type 0
HasTurn body at = pos 1 ≤ℤ at (count body)

module _ (body : Transition) (voc : Vocabulary) where
  -- what is said before the rows of progressions is said in the end
  progressions-still : (s : _) (Q : Valuation → Type 0) (rows : List Row) → Say Q rows → AlwaysQuiet (Say Q) (each (bounded_progression body.cases (change_over_turns body) (count body)) rows (progressions body voc s))
  progressions-still s Q rows says =
      quiet-each (Say Q) (bounded_progression body.cases (change_over_turns body) (count body))
      (λ made p still. bounded-still Q body.cases (excess p) (progression_row (change_over_turns body) (count body) p) made still) (progressions body voc s) rows says

  change-still : (Q : Valuation → Type 0) (rows : List Row) (d : Polynomial) → Say Q rows → AlwaysQuiet (Say Q) (bounded_change body.cases (moves body) (Some (count body)) rows d)
  change-still Q rows d says = bounded-still Q body.cases (λ case. put_into (for_entries (change true case)) d) (change_row (moves body) (Some (count body)) d) rows says

  pub normal-said : (s : _) (form : List ℤ) → Contains voc.extra (polynomial_of body form) → AlwaysQuiet (Say (HasTurnRow body form)) (rows_of body voc s)
  unfolding rows_of
  normal-said s form asked =
      quiet-bind Any (Say (HasTurnRow body form)) (each (λ rows t. with_row rows (term_row (products body voc) body t)) [] (terms_with_row (products body voc) s)) _
      (quiet-any Any (each (λ rows t. with_row rows (term_row (products body voc) body t)) [] (terms_with_row (products body voc) s)) (λ rows. tt)) (λ equations any1.
      quiet-bind Any (Say (HasTurnRow body form)) (each (rows_with_entry_bound body.cases) (equations ++ some_turn body ∷ []) (directions voc)) _
      (quiet-any Any (each (rows_with_entry_bound body.cases) (equations ++ some_turn body ∷ []) (directions voc)) (λ rows. tt)) (λ before any2.
      quiet-bind Any (Say (HasTurnRow body form)) (each (rows_with_exit_bound body.cases (posts body)) before (directions voc)) _
      (quiet-any Any (each (rows_with_exit_bound body.cases (posts body)) before (directions voc)) (λ rows. tt)) (λ both any3.
      quiet-bind (Say (HasTurnRow body form)) (Say (HasTurnRow body form)) (each (bounded_change body.cases (moves body) (Some (count body))) both (directions voc ++ voc.extra)) _
      (quiet-found (Say (HasTurnRow body form)) (bounded_change body.cases (moves body) (Some (count body))) (polynomial_of body form) (normal-asked body form)
      (λ rows d says. change-still (HasTurnRow body form) rows d says) (directions voc ++ voc.extra) (Contains-append_right (directions voc) voc.extra (polynomial_of body form) asked) both) (λ changes says.
      progressions-still s (HasTurnRow body form) changes says))))
    where
      Any : List Row → Type 0
      Any rows = Unit {0}

  pub turn-said : (s : _) → AlwaysQuiet (Say (HasTurn body)) (rows_of body voc s)
  unfolding rows_of
  turn-said s =
      quiet-bind Any (Say (HasTurn body)) (each (λ rows t. with_row rows (term_row (products body voc) body t)) [] (terms_with_row (products body voc) s)) _
      (quiet-any Any (each (λ rows t. with_row rows (term_row (products body voc) body t)) [] (terms_with_row (products body voc) s)) (λ rows. tt)) (λ equations any.
      quiet-bind (Say (HasTurn body)) (Say (HasTurn body)) (each (rows_with_entry_bound body.cases) (equations ++ some_turn body ∷ []) (directions voc)) _
      (quiet-each (Say (HasTurn body)) (rows_with_entry_bound body.cases) (λ rows d says. bounded-still (HasTurn body) body.cases (λ case. Ok d) (before_row d) rows says) (directions voc) (equations ++ some_turn body ∷ [])
      (λ at h. turned (at (count body)) (each-back (RowHolds at) equations (some_turn body ∷ []) h).0)) (λ before says1.
      quiet-bind (Say (HasTurn body)) (Say (HasTurn body)) (each (rows_with_exit_bound body.cases (posts body)) before (directions voc)) _
      (quiet-each (Say (HasTurn body)) (rows_with_exit_bound body.cases (posts body)) (λ rows d says. bounded-still (HasTurn body) body.cases (λ case. put_in_for case.post d) (after_row (posts body) d) rows says) (directions voc) before says1) (λ both says2.
      quiet-bind (Say (HasTurn body)) (Say (HasTurn body)) (each (bounded_change body.cases (moves body) (Some (count body))) both (directions voc ++ voc.extra)) _
      (quiet-each (Say (HasTurn body)) (bounded_change body.cases (moves body) (Some (count body))) (λ rows d says. change-still (HasTurn body) rows d says) (directions voc ++ voc.extra) both says2) (λ changes says3.
      progressions-still s (HasTurn body) changes says3))))
    where
      Any : List Row → Type 0
      Any rows = Unit {0}

      turned : (x : ℤ) → (negsuc 0 *ℤ (x *ℤ pos 1) +ℤ pos 0 +ℤ pos 1) ≤ℤ pos 0 → pos 1 ≤ℤ x
      turned x h = omega (arith, ints)
