-- A narrow question of rows or goals is calm, is not dead, and has few choices; a slim one has few
-- choices.
use Rattle.std.proofs.Common.{◌≡◌, ℕ, zero, suc, ◌+◌, ◌-◌, ◌*◌, ◌<◌, ◌≤◌, Bool, true, false, cond, List, [], ◌∷◌, map, length, get_or, refl, subst, arith, ⊎_elim}
use Rattle.std.specs.Prelude.{◌^◌, unsigned_abs, slice_get, Some, Result, Ok, Err, IfOk}
use Rattle.std.specs.List.{AllByRecursion}
use Rattle.std.specs.Ordering.{eq_by_cmp}
use Rattle.std.proofs.Math.Nat.{pow-le-pow_left, pow-le-pow_right, one-le-pow, pow-suc}
use Rattle.linear_terms.specs.declared.col.Col.{Col}
use Rattle.linear_terms.specs.declared.row.Kind.{Kind}
use Rattle.linear_terms.specs.declared.row.Kind.TheVariants.{AtMost, Equal}
use Rattle.linear_terms.specs.declared.row.Row.{Row}
use Rattle.linear_terms.specs.Mono.{mono_cmp}
use Rattle.linear_terms.specs.Polynomial.{Terms, Polynomial, coefficient_in}
use Rattle.farkas_check.specs.declared.question.Goal.{Goal}
use Rattle.farkas_check.specs.declared.question.Question.TheVariants.{Infeasible, Sup}
use Rattle.farkas_check.specs.Calm.{IsCalmCase, IsCalmGoal, IsLiveAndCalm, choices}
use Rattle.farkas_check.specs.Columns.{columns}
use Rattle.farkas_check.specs.Frames.{line_of, frame_of, line_count, IsCalmUpTo, choose, choice_count}
use Rattle.farkas_check.specs.Relations.{entry}
use Rattle.farkas_check.specs.Sizes.{row_polys, goal_polys, HasRationalPoint, HasEmptyCase, GoalHasPoint, IsDead, weight, row_count, IsSlim, IsNarrow, HasNumbersUpTo}
use Rattle.farkas_check.specs.Tested.{goal_columns}
use Rattle.farkas_check.specs.declared.answer.Answer.{Answer}
use Rattle.simplex.specs.Answers.{PivotsOf}
use Rattle.simplex.specs.Goals.{PivotsAmong, HasManyChoices}
use Rattle.elimination.specs.Answers.{IsPivots}
use Rattle.elimination.proofs.Frames.{calm_frame}

-- ---- numbers of lines

pub coefficient-small : (most : ℕ) (ts : Terms) (m : List Col) → AllByRecursion (λ t. unsigned_abs t.1 ≤ most) ts → unsigned_abs (coefficient_in ts m) ≤ most
coefficient-small most [] m h = omega arith
coefficient-small most (t ∷ ts) m h = go (eq_by_cmp mono_cmp t.0 m) (coefficient-small most ts m h.1)
  where
    go : (b : Bool) → unsigned_abs (coefficient_in ts m) ≤ most → unsigned_abs (cond b t.1 (coefficient_in ts m)) ≤ most
    go true rest = h.0
    go false rest = rest

line-small : (most : ℕ) (cs : List (List Col)) (p : Polynomial) (j : ℕ) → HasNumbersUpTo most p → unsigned_abs (entry (line_of cs p) j) ≤ most
line-small most [] p zero h = h.rest
line-small most [] p (suc j) h = omega arith
line-small most (c ∷ cs) p zero h = coefficient-small most p.terms c h.terms
line-small most (c ∷ cs) p (suc j) h = line-small most cs p j h

pub lines-small : (most : ℕ) (cs : List (List Col)) (ps : List Polynomial) (l j : ℕ) → AllByRecursion (HasNumbersUpTo most) ps → unsigned_abs (entry (get_or (map (line_of cs) ps) l []) j) ≤ most
lines-small most cs [] l j h = omega arith
lines-small most cs (p ∷ ps) zero j h = line-small most cs p j h.0
lines-small most cs (p ∷ ps) (suc l) j h = lines-small most cs ps l j h.1

pub lines-length : (cs : List (List Col)) (ps : List Polynomial) → length (map (line_of cs) ps) ≡ length ps
lines-length cs [] = refl
lines-length cs (p ∷ ps) = let e : length (map (line_of cs) ps) ≡ length ps = lines-length cs ps in omega (arith, e)

pub polys-length : (rows : List Row) (more : List Polynomial) → length (row_polys rows more) ≡ length rows + length more
polys-length [] more = zero_first (length more)
  where
    zero_first : (n : ℕ) → n ≡ 0 + n
    zero_first n = omega arith
polys-length (row ∷ rows) more = let e : length (row_polys rows more) ≡ length rows + length more = polys-length rows more in omega (arith, e)

pub few_rows : (n : ℕ) (rows : List Row) → row_count rows ≤ n → length rows ≤ n
few_rows n rows h = let g : length rows ≤ row_count rows = counted rows in omega (arith, h, g)
  where
    heavy : (kind : Kind) → 1 ≤ weight kind
    heavy AtMost = omega arith
    heavy Equal = omega arith

    counted : (rows : List Row) → length rows ≤ row_count rows
    counted [] = omega arith
    counted (row ∷ rows) = let g : length rows ≤ row_count rows = counted rows in let h : 1 ≤ weight row.kind = heavy row.kind in omega (arith, g, h)

-- ---- calm

-- as great as the numbers get, for so many lines and columns
power-small : (a u : ℕ) → a ≤ 832 → u ≤ 4 → a ^ u ≤ 1099511627776
power-small a u h k =
    let x : a ^ u ≤ 832 ^ u = pow-le-pow_left h u in
    let y : 832 ^ u ≤ 832 ^ 4 = pow-le-pow_right {n = 832} (omega arith) k in
    omega (arith, x, y)

calm_polys : (cs : List (List Col)) (ps : List Polynomial) → length cs ≤ 3 → length ps ≤ 13 → AllByRecursion (HasNumbersUpTo 64) ps → IsCalmUpTo 1099511627776 (frame_of cs ps)
calm_polys cs ps few_columns few small =
    calm_frame 1099511627776 64 (frame_of cs ps) (omega arith) (omega arith) (λ l j. lines-small 64 cs ps l j small)
    (power-small (line_count (frame_of cs ps) * 64) (length cs + 1) (let e : length (map (line_of cs) ps) ≡ length ps = lines-length cs ps in omega (arith, e, few)) (omega (arith, few_columns)))
    (power-small ((length cs + 1) * 64) (length cs + 1) (omega (arith, few_columns)) (omega (arith, few_columns)))

pub calm_case : (cs : List (List Col)) (rows : List Row) (more : List Polynomial) → length cs ≤ 3 → row_count rows ≤ 12 → length more ≤ 1 → AllByRecursion (HasNumbersUpTo 64) (row_polys rows more) → IsCalmCase cs rows more
calm_case cs rows more few_columns few one small = record {
  few_rows = let h : length rows ≤ 12 = few_rows 12 rows few in omega (arith, h);
  few_columns = omega (arith, few_columns);
  calm = calm_polys cs (row_polys rows more) few_columns (let h : length rows ≤ 12 = few_rows 12 rows few in let e : length (row_polys rows more) ≡ length rows + length more = polys-length rows more in omega (arith, h, e, one)) small;
}

front_of : (rows : List Row) (p : Polynomial) (others : List Polynomial) → AllByRecursion (HasNumbersUpTo 64) (row_polys rows (p ∷ others)) → AllByRecursion (HasNumbersUpTo 64) (row_polys rows (p ∷ [])) × AllByRecursion (HasNumbersUpTo 64) others
front_of [] p others h = ((h.0, tt), h.1)
front_of (row ∷ rows) p others h = let rest = front_of rows p others h.1 in ((h.0, rest.0), rest.1)

calm_goals : (goals : List Goal) → AllByRecursion (λ cs. length cs ≤ 3) (map goal_columns goals) → AllByRecursion (λ rows. row_count rows ≤ 12) (map (λ (goal : Goal). goal.rows) goals) → AllByRecursion (HasNumbersUpTo 64) (goal_polys goals)
    → AllByRecursion IsCalmGoal goals
calm_goals [] few_columns few small = tt
calm_goals (goal ∷ goals) few_columns few small =
    let parts = front_of goal.rows goal.objective (goal_polys goals) small in
    (calm_case (goal_columns goal) goal.rows (goal.objective ∷ []) few_columns.0 few.0 (omega arith) parts.0, calm_goals goals few_columns.1 few.1 parts.1)

-- ---- choices

pub choose-small : (n k : ℕ) → choose n k ≤ 2 ^ n
choose-small zero zero = omega arith
choose-small zero (suc k) = omega arith
choose-small (suc n) zero = one-le-pow (suc n) 2 (omega arith)
choose-small (suc n) (suc k) =
    let a : choose n k ≤ 2 ^ n = choose-small n k in
    let b : choose n (suc k) ≤ 2 ^ n = choose-small n (suc k) in
    let e : 2 ^ suc n ≡ 2 ^ n * 2 = pow-suc 2 n in
    omega (arith, a, b, e)

pub few_choices : (n k : ℕ) → n ≤ 17 → choose n k ≤ 131072
few_choices n k h =
    let a : choose n k ≤ 2 ^ n = choose-small n k in
    let b : 2 ^ n ≤ 2 ^ 17 = pow-le-pow_right {n = 2} (omega arith) h in
    omega (arith, a, b)

few_goal_choices : (goals : List Goal) → AllByRecursion (λ cs. length cs ≤ 3) (map goal_columns goals) → AllByRecursion (λ rows. row_count rows ≤ 12) (map (λ (goal : Goal). goal.rows) goals)
    → AllByRecursion (λ n. n ≤ 131072) (map (λ (goal : Goal). choice_count (length (goal_columns goal)) (length goal.rows + 1)) goals)
few_goal_choices [] few_columns few = tt
few_goal_choices (goal ∷ goals) few_columns few =
    (few_choices (length (goal_columns goal) + 1 + (length goal.rows + 1)) (length goal.rows + 1) (let a : length (goal_columns goal) ≤ 3 = few_columns.0 in let b : length goal.rows ≤ 12 = few_rows 12 goal.rows few.0 in omega (arith, a, b)), few_goal_choices goals few_columns.1 few.1)

pub weaken : (ns : List ℕ) → AllByRecursion (λ n. n ≤ 131072) ns → AllByRecursion (λ n. n ≤ 170141183460469231731687303715884105727) ns
weaken [] h = tt
weaken (n ∷ ns) h = (let a : n ≤ 131072 = h.0 in omega (arith, a), weaken ns h.1)

-- ---- live

has_points : (goals : List Goal) → AllByRecursion GoalHasPoint goals → HasEmptyCase (map (λ (goal : Goal). goal.rows) goals) → ⊥
has_points goals points e = e.empty (at goals e.place points e.is)
  where
    at : (goals : List Goal) (place : ℕ) → AllByRecursion GoalHasPoint goals → slice_get (map (λ (goal : Goal). goal.rows) goals) place ≡ Some e.rows → HasRationalPoint e.rows
    at [] place points is = absurd (let f : slice_get (map (λ (goal : Goal). goal.rows) []) place ≡ Some e.rows = is in cc)
    at (goal ∷ goals) zero points is = let f : Some goal.rows ≡ Some e.rows = is in let same : goal.rows ≡ e.rows = cc in subst HasRationalPoint same points.0
    at (goal ∷ goals) (suc place) points is = at goals place points.1 is

-- ---- narrow questions

pub narrow_rows : (rows : List Row) → IsNarrow (Infeasible rows) → IsLiveAndCalm (Infeasible rows)
narrow_rows rows n = record {
  live = λ h. h;
  calm = record { few_cases = omega arith; cases = calm_case (columns rows []) rows [] n.slim.few_columns.0 n.slim.few_rows.0 (omega arith) n.small };
  few = weaken (choices (Infeasible rows)) (few_choices (length (columns rows []) + 1 + (length rows + 1)) (length rows + 1) (let a : length (columns rows []) ≤ 3 = n.slim.few_columns.0 in let b : length rows ≤ 12 = few_rows 12 rows n.slim.few_rows.0 in omega (arith, a, b)), tt);
}

pub narrow_goals : (goals : List Goal) → IsNarrow (Sup goals) → IsLiveAndCalm (Sup goals)
narrow_goals goals n = record {
  live = λ dead. ⊎_elim (λ none. n.cases.0 none) (λ empty. has_points goals n.cases.1 empty) dead;
  calm = record { few_cases = n.few_cases; cases = calm_goals goals n.slim.few_columns n.slim.few_rows n.small };
  few = weaken (choices (Sup goals)) (few_goal_choices goals n.slim.few_columns n.slim.few_rows);
}

-- ---- slim questions

pub slim_rows : (rows : List Row) (a : Answer) → IsSlim (Infeasible rows) → PivotsOf (2 ^ 127 - 1) rows a → IsPivots a → ⊥
slim_rows rows a s p e =
    let few : choose (length (columns rows []) + 1 + length rows) (length rows) ≤ 131072 = few_choices (length (columns rows []) + 1 + length rows) (length rows) (let a : length (columns rows []) ≤ 3 = s.few_columns.0 in let b : length rows ≤ 12 = few_rows 12 rows s.few_rows.0 in omega (arith, a, b)) in
    let many : 2 ^ 127 - 1 < choose (length (columns rows []) + 1 + length rows) (length rows) = p e in
    omega (arith, few, many)

goal_at : (goals : List Goal) (place : ℕ) (goal : Goal) → slice_get goals place ≡ Some goal → AllByRecursion (λ cs. length cs ≤ 3) (map goal_columns goals) → AllByRecursion (λ rows. row_count rows ≤ 12) (map (λ (goal : Goal). goal.rows) goals)
    → (length (goal_columns goal) ≤ 3) × (row_count goal.rows ≤ 12)
goal_at [] place goal is few_columns few = absurd (let f : slice_get [] place ≡ Some goal = is in cc)
goal_at (own ∷ goals) zero goal is few_columns few = let f : Some own ≡ Some goal = is in let same : own ≡ goal = cc in subst (λ (g : Goal). (length (goal_columns g) ≤ 3) × (row_count g.rows ≤ 12)) same (few_columns.0, few.0)
goal_at (own ∷ goals) (suc place) goal is few_columns few = goal_at goals place goal is few_columns.1 few.1

slim_goals : (goals : List Goal) (a : Answer) → IsSlim (Sup goals) → PivotsAmong (2 ^ 127 - 1) goals a → IsPivots a → IsDead (Sup goals)
slim_goals goals a s p e = ⊎_elim (λ dead. dead) (λ many. absurd (clash many)) (p e)
  where
    clash : HasManyChoices (2 ^ 127 - 1) goals → ⊥
    clash m =
        let sizes = goal_at goals m.place m.goal m.is s.few_columns s.few_rows in
        let few : choice_count (length (goal_columns m.goal)) (length m.goal.rows + 1) ≤ 131072 = few_choices (length (goal_columns m.goal) + 1 + (length m.goal.rows + 1)) (length m.goal.rows + 1) (let a : length (goal_columns m.goal) ≤ 3 = sizes.0 in let b : length m.goal.rows ≤ 12 = few_rows 12 m.goal.rows sizes.1 in omega (arith, a, b)) in
        let many : 2 ^ 127 - 1 < choice_count (length (goal_columns m.goal)) (length m.goal.rows + 1) = m.many in
        omega (arith, few, many)

pub slim_sup : {E : Type 0} (goals : List Goal) (r : Result Answer E) → IfOk r (λ a. PivotsAmong (2 ^ 127 - 1) goals a) → IsSlim (Sup goals) → IfOk r (λ a. IsPivots a → IsDead (Sup goals))
slim_sup goals (Ok a) p s = slim_goals goals a s p
slim_sup goals (Err e) p s = tt

pub ruleset narrow = (narrow_rows, narrow_goals, slim_rows)
