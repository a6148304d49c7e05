-- What calls of an algebra keep.
use Rattle.std.specs.Prelude.{ℕ, ◌≤◌}
use Rattle.path_expr.specs.PathExpr.{PathExpr}

-- what every call of an algebra ensures of what was before it: what its relations held of, they
-- hold of now, and its count of faults did not fall
pub record Keeps {A T : Type 0} (fits : A → PathExpr → T → Type 0) (spans : A → T → ℕ → ℕ → Type 0)
    (ends : A → ℕ → ℕ → ℕ → Type 0)
    (faults : A → ℕ) (before now : A) : Type 0 where
  pub paths : (path : PathExpr) (item : T) → fits before path item → fits now path item
  pub nodes : (item : T) (from to : ℕ) → spans before item from to → spans now item from to
  pub numbers : (number from to : ℕ) → ends before number from to → ends now number from to
  pub later : faults before ≤ faults now
