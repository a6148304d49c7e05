-- Frames and their tableaux, as whole numbers at lines and columns.
--
-- A frame's columns from `units` on are unit columns, one for each line.
use Rattle.std.specs.Prelude.{◌≡◌, ◌≢◌, ◌⊎◌, Bool, false, ◌||◌, nat_eq, neg_ℤ, if◌then◌else◌, List, [], ◌∷◌, ℕ, zero, suc, ◌+◌, ◌<◌, ℤ, pos, ◌-ℤ◌, ◌*ℤ◌, ◌<ℤ◌}
use Rattle.farkas_check.specs.Frames.{sum_below}

-- a line that is its own multiple of the frame's lines by its numbers at the unit columns
abbrev pub IsOwnCombination : ℕ → ℕ → ℕ → (ℕ → ℕ → ℤ) → (ℕ → ℤ) → Type 0
IsOwnCombination lines units columns frame w = (j : ℕ) → j < columns
    → w j ≡ sum_below lines (λ l. w (units + l) *ℤ frame l j)

-- A tableau chooses a column for each line. Each line is its own multiple of the frame's lines by
-- its numbers at the unit columns; such a multiple that is 0 at the chosen columns is 0; and what
-- is 0 on all of its lines is 0 on the frame's.
pub record IsWholeTableau (lines units columns : ℕ) (frame numbers : ℕ → ℕ → ℤ)
    (chosen : ℕ → ℕ) : Type 0 where
  pub own : (i : ℕ) → i < lines → pos 0 <ℤ numbers i (chosen i)
  pub others : (i k : ℕ) → i < lines → k < lines → i ≢ k → numbers i (chosen k) ≡ pos 0
  pub combination : (i : ℕ) → i < lines → IsOwnCombination lines units columns frame (numbers i)
  pub determined : (w : ℕ → ℤ) → IsOwnCombination lines units columns frame w
      → ((k : ℕ) → k < lines → w (chosen k) ≡ pos 0) → (j : ℕ) → j < columns → w j ≡ pos 0
  pub solutions : (x : ℕ → ℤ)
      → ((i : ℕ) → i < lines → sum_below columns (λ j. numbers i j *ℤ x j) ≡ pos 0) → (l : ℕ)
      → l < lines → sum_below columns (λ j. frame l j *ℤ x j) ≡ pos 0

-- a line cleared at a column by a line that is positive there, up to a positive factor
pub record IsCleared (old pivot new : ℕ → ℤ) (column : ℕ) : Type 0 where
  pub factor : ℤ
  pub positive : pos 0 <ℤ factor
  pub is : (j : ℕ) → factor *ℤ new j ≡ pivot column *ℤ old j -ℤ old column *ℤ pivot j

-- one line is turned so that it is positive at a column, and all others are cleared there
pub record IsExchange (lines : ℕ) (before after : ℕ → ℕ → ℤ) (line column : ℕ) : Type 0 where
  pub sign : ℤ
  pub upright : (j : ℕ) → after line j ≡ sign *ℤ before line j
  pub back : (j : ℕ) → before line j ≡ sign *ℤ after line j
  pub positive : pos 0 <ℤ after line column
  pub line_without : (i : ℕ) → i < lines → i ≢ line
      → IsCleared (before i) (after line) (after i) column

-- one choice is changed
pub record IsChanged (lines : ℕ) (before after : ℕ → ℕ) (line column : ℕ) : Type 0 where
  pub there : after line ≡ column
  pub elsewhere : (i : ℕ) → i < lines → i ≢ line → after i ≡ before i

-- the first of the numbers at the columns that is not 0 is positive, and there is one
abbrev pub IsLexPositive : (ℕ → ℤ) → List ℕ → Type 0
IsLexPositive w [] = ⊥
IsLexPositive w (c ∷ cs) = (pos 0 <ℤ w c) ⊎ ((w c ≡ pos 0) × IsLexPositive w cs)

-- some line below `lines` chooses the column
abbrev pub is_chosen : ℕ → (ℕ → ℕ) → ℕ → Bool
is_chosen zero chosen j = false
is_chosen (suc n) chosen j = nat_eq (chosen n) j || is_chosen n chosen j

-- a line as the lexicographic order sees it: the constants' column counts with the other sign
abbrev pub lexical_view : ℕ → (ℕ → ℤ) → ℕ → ℤ
lexical_view constants w j = if nat_eq j constants then neg_ℤ (w j) else w j
