-- Numbers so short that no sum and no product of an answer's test leaves 128 bits.
use Rattle.std.specs.Prelude.{unsigned_abs, ◌≡◌, ◌≤◌, ℤ, pos, List, length, slice_get, Some, All, ⊤}
use Rattle.linear_terms.specs.declared.row.Row.{Row}
use Rattle.linear_terms.specs.Polynomial.{Polynomial}
use Rattle.farkas_check.specs.Ratios.{Fraction}
use Rattle.farkas_check.specs.declared.answer.Answer.{Answer}
use Rattle.farkas_check.specs.declared.answer.Answer.TheVariants as answer
use Rattle.farkas_check.specs.declared.answer.Cert.{Cert}
use Rattle.farkas_check.specs.declared.question.Goal.{Goal}

-- at most 2 ^ 40 in magnitude
abbrev pub IsShort : ℤ → Type 0
IsShort z = unsigned_abs z ≤ 1099511627776

-- a whole number that is short
pub record IsShortRatio (r : Fraction) : Type 0 where
  pub one : r.den ≡ pos 1
  pub num : IsShort r.num

-- at most 2 ^ 32 - 1 terms with short numbers, and a short constant
pub record IsShortPoly (p : Polynomial) : Type 0 where
  pub few : length p.terms ≤ 4294967295
  pub terms : All (λ t. IsShort t.1) p.terms
  pub rest : IsShort p.rest

-- at most 2 ^ 32 - 1 rows with short polynomials
pub record AreShortRows (rows : List Row) : Type 0 where
  pub few : length rows ≤ 4294967295
  pub polys : All (λ (row : Row). IsShortPoly row.poly) rows

-- a case of short rows with a short objective
pub record IsShortGoal (goal : Goal) : Type 0 where
  pub rows : AreShortRows goal.rows
  pub objective : IsShortPoly goal.objective

-- the rows of the cases that an answer speaks of are short
abbrev pub HaveShortRows : List Goal → Answer → Type 0
HaveShortRows goals (answer.Bound at certs case point) = All (λ (goal : Goal). AreShortRows goal.rows)
    goals
HaveShortRows goals (answer.Unbounded case point ray) = (goal : Goal)
    → slice_get goals case ≡ Some goal → AreShortRows goal.rows
HaveShortRows goals (answer.Yes by) = ⊤
HaveShortRows goals (answer.No point) = ⊤
HaveShortRows goals (answer.Basis relations spots free) = ⊤
HaveShortRows goals (answer.Limit limit) = ⊤

-- a certificate of short numbers
pub record IsShortCert (cert : Cert) : Type 0 where
  pub scale : IsShort cert.scale
  pub sum : IsShort cert.sum
  pub by : All IsShort cert.by

-- the numbers of the rows and of the answer are short
abbrev pub IsShortRowsAnswer : List Row → Answer → Type 0
IsShortRowsAnswer rows (answer.Yes by) = All IsShort by × AreShortRows rows
IsShortRowsAnswer rows (answer.No point) = All IsShortRatio point × AreShortRows rows
IsShortRowsAnswer rows (answer.Bound at certs case point) = ⊥
IsShortRowsAnswer rows (answer.Unbounded case point ray) = ⊥
IsShortRowsAnswer rows (answer.Basis relations spots free) = ⊥
IsShortRowsAnswer rows (answer.Limit limit) = ⊥

-- the numbers of the cases that the answer speaks of, and its own, are short
abbrev pub IsShortGoalsAnswer : List Goal → Answer → Type 0
IsShortGoalsAnswer goals (answer.Bound at certs case point) = IsShort at × All IsShortRatio point
    × All IsShortCert certs × All IsShortGoal goals
IsShortGoalsAnswer goals (answer.Unbounded case point ray) = All IsShortRatio point
    × All IsShortRatio ray
    × ((goal : Goal) → slice_get goals case ≡ Some goal → IsShortGoal goal)
IsShortGoalsAnswer goals (answer.Yes by) = ⊥
IsShortGoalsAnswer goals (answer.No point) = ⊥
IsShortGoalsAnswer goals (answer.Basis relations spots free) = ⊥
IsShortGoalsAnswer goals (answer.Limit limit) = ⊥
