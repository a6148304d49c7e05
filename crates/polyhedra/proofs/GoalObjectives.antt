-- Objectives put into goals whose rows are kept.
use Rattle.std.proofs.Common.{◌≡◌, ℕ, zero, suc, ◌+◌, ◌<◌, ◌≤◌, List, [], ◌∷◌, length, get_or, set, map, Result, Ok, Err, refl, sym, ap, ◌∙◌, arith}
use Rattle.items.specs.Gives.{◌>>=◌}
use Rattle.linear_terms.specs.declared.error.TermError.{TermError}
use Rattle.linear_terms.specs.declared.row.Case.{Case}
use Rattle.linear_terms.specs.Expressions.{Made}
use Rattle.linear_terms.specs.Polynomial.{Polynomial}
use Rattle.farkas_check.specs.declared.question.Goal.{Goal}
use Rattle.polyhedra.specs.Bounds.{goals_of}
use Rattle.polyhedra.specs.Kept.{AreOver, goal_over, with_objectives, objectives_of}

-- ---- the loop that puts them in

abbrev pub put_at : ℕ → Polynomial → List Goal → List Goal
put_at i p [] = []
put_at zero p (goal ∷ goals) = record { rows = goal.rows; objective = p } ∷ goals
put_at (suc i) p (goal ∷ goals) = goal ∷ put_at i p goals

-- objectives put in from a place on
abbrev pub put_from : ℕ → List Polynomial → List Goal → List Goal
put_from i [] goals = goals
put_from i (p ∷ ps) goals = put_from (suc i) ps (put_at i p goals)

shifted : (i : ℕ) (ps : List Polynomial) (goal : Goal) (goals : List Goal) → put_from (suc i) ps (goal ∷ goals) ≡ goal ∷ put_from i ps goals
shifted i [] goal goals = refl
shifted i (p ∷ ps) goal goals = shifted (suc i) ps goal (put_at i p goals)

nowhere : (i : ℕ) (ps : List Polynomial) → put_from i ps [] ≡ []
nowhere i [] = refl
nowhere i (p ∷ ps) = nowhere (suc i) ps

pub put_from-start : (goals : List Goal) (ps : List Polynomial) → put_from 0 ps goals ≡ with_objectives goals ps
put_from-start [] ps = nowhere 0 ps
put_from-start (goal ∷ goals) [] = refl
put_from-start (goal ∷ goals) (p ∷ ps) = shifted 0 ps (record { rows = goal.rows; objective = p }) goals ∙ ap (λ gs. record { rows = goal.rows; objective = p } ∷ gs) (put_from-start goals ps)

past : (i : ℕ) (p : Polynomial) (goals : List Goal) → length goals ≤ i → put_at i p goals ≡ goals
past i p [] h = refl
past zero p (goal ∷ goals) h = absurd (omega arith)
past (suc i) p (goal ∷ goals) h = ap (λ gs. goal ∷ gs) (past i p goals (omega arith))

pub put_from-end : (i : ℕ) (ps : List Polynomial) (goals : List Goal) → length goals ≤ i → put_from i ps goals ≡ goals
put_from-end i [] goals h = refl
put_from-end i (p ∷ ps) goals h = ap (put_from (suc i) ps) (past i p goals h) ∙ put_from-end (suc i) ps goals (omega arith)

set-objective : (goals : List Goal) (i : ℕ) (goal : Goal) (p : Polynomial) → i < length goals → set goals i (record { rows = (get_or goals i goal).rows; objective = p }) ≡ put_at i p goals
set-objective [] i goal p h = absurd (omega arith)
set-objective (first ∷ goals) zero goal p h = refl
set-objective (first ∷ goals) (suc i) goal p h = ap (λ gs. first ∷ gs) (set-objective goals i goal p (omega arith))

-- one more is put in
pub put_from-next : (i : ℕ) (goal : Goal) (p : Polynomial) (ps : List Polynomial) (goals : List Goal) → i < length goals
    → put_from (i + 1) ps (set goals i (record { rows = (get_or goals i goal).rows; objective = p })) ≡ put_from i (p ∷ ps) goals
put_from-next i goal p ps goals h = ap (put_from (i + 1) ps) (set-objective goals i goal p h) ∙ ap (λ n. put_from n ps (put_at i p goals)) (next i)
  where
    next : (i : ℕ) → i + 1 ≡ suc i
    next i = omega arith

-- none is left
pub put_from-none : (i : ℕ) (left old : List Polynomial) (goals : List Goal) → old ≡ left → length left ≡ 0 → put_from (i + 1) left goals ≡ put_from i old goals
put_from-none i [] old goals e h = ap (λ ps. put_from i ps goals) (sym e)
put_from-none i (p ∷ ps) old goals e h = absurd (omega (arith, h))

-- ---- what they make

pub AreOver-first : (cases : List Case) → AreOver cases (map goal_over cases)
AreOver-first [] = refl
AreOver-first (case ∷ cases) = ap (λ rows. case.rows ∷ rows) (AreOver-first cases)

rows-kept : (goals : List Goal) (ps : List Polynomial) → map (λ (goal : Goal). goal.rows) (with_objectives goals ps) ≡ map (λ (goal : Goal). goal.rows) goals
rows-kept [] ps = refl
rows-kept (goal ∷ goals) [] = refl
rows-kept (goal ∷ goals) (p ∷ ps) = ap (λ rows. goal.rows ∷ rows) (rows-kept goals ps)

pub AreOver-next : (cases : List Case) (goals : List Goal) (ps : List Polynomial) → AreOver cases goals → AreOver cases (with_objectives goals ps)
AreOver-next cases goals ps over = rows-kept goals ps ∙ over

-- goals over the rows of cases, with objectives of the cases put in
pub goals_of-kept : (objective : Case → Made) (cases : List Case) (goals : List Goal) → AreOver cases goals
    → (objectives_of objective cases >>= λ ps. Ok (with_objectives goals ps)) ≡ goals_of objective cases
goals_of-kept objective [] [] over = refl
goals_of-kept objective [] (goal ∷ goals) over = cc
goals_of-kept objective (case ∷ cases) [] over = cc
goals_of-kept objective (case ∷ cases) (goal ∷ goals) over =
    let first : goal.rows ≡ case.rows = cc in
    let rest : AreOver cases goals = cc in
    one first (objective case) (objectives_of objective cases) (goals_of objective cases) (goals_of-kept objective cases goals rest)
  where
    one : goal.rows ≡ case.rows → (m : Made) (r : Result (List Polynomial) TermError) (s : Result (List Goal) TermError) → (r >>= λ ps. Ok (with_objectives goals ps)) ≡ s
        → ((m >>= λ p. r >>= λ ps. Ok (p ∷ ps)) >>= λ ps. Ok (with_objectives (goal ∷ goals) ps)) ≡ (m >>= λ p. s >>= λ made. Ok (record { rows = case.rows; objective = p } ∷ made))
    one same (Err e) r s h = refl
    one same (Ok p) (Err e) s h = ap (λ made. made >>= λ gs. Ok (record { rows = case.rows; objective = p } ∷ gs)) h
    one same (Ok p) (Ok ps) s h =
        (λ i. Ok (record { rows = same i; objective = p } ∷ with_objectives goals ps)) ∙ ap (λ made. made >>= λ gs. Ok (record { rows = case.rows; objective = p } ∷ gs)) h
