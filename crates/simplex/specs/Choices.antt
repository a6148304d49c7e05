-- Counts and ranks of choices of columns.
use Rattle.std.specs.Prelude.{ℕ, zero, suc, ◌+◌, Bool, if◌then◌else◌}
use Rattle.farkas_check.specs.Frames.{choose}

-- how many numbers below n pass
abbrev pub count_to : ℕ → (ℕ → Bool) → ℕ
count_to zero p = 0
count_to (suc n) p = count_to n p + (if p n then 1 else 0)

-- the place of a choice of k numbers below n among all such choices
abbrev pub rank : ℕ → ℕ → (ℕ → Bool) → ℕ
rank zero k p = 0
rank (suc n) zero p = 0
rank (suc n) (suc k) p = if p n then rank n k p else choose n k + rank n (suc k) p
