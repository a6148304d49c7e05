-- Worked examples of the words for questions.
use Rattle.std.specs.Prelude.{ℕ, ℤ, pos, negsuc, List, [], ◌∷◌, get_or}
use Rattle.linear_terms.specs.declared.col.Col.{Col}
use Rattle.linear_terms.specs.declared.col.Col.TheVariants.{At}
use Rattle.linear_terms.specs.declared.row.Kind.TheVariants.{AtMost}
use Rattle.linear_terms.specs.declared.row.Row.{Row}
use Rattle.linear_terms.specs.Polynomial.{Polynomial}
use Rattle.farkas_check.specs.declared.question.Question.{Question}
use Rattle.farkas_check.specs.declared.question.Question.TheVariants.{Infeasible}
use Rattle.farkas_check.specs.Frames.{Frame}

-- the monomial x0
abbrev pub x0 : List Col
x0 = At 0 ∷ []

-- the monomial x1
abbrev pub x1 : List Col
x1 = At 1 ∷ []

-- the row that says that a polynomial is not positive
abbrev pub at_most : Polynomial → Row
at_most p = record { poly = p; kind = AtMost }

-- x0 + x1 <= 0, -x0 + 1 <= 0 and -x1 + 1 <= 0, which exclude each other
abbrev pub exclusive_rows : List Row
exclusive_rows =
    at_most (record { terms = (x0, pos 1) ∷ (x1, pos 1) ∷ []; rest = pos 0 })
    ∷ at_most (record { terms = (x0, negsuc 0) ∷ []; rest = pos 1 })
    ∷ at_most (record { terms = (x1, negsuc 0) ∷ []; rest = pos 1 }) ∷ []

-- the question whether the exclusive rows are infeasible
abbrev pub exclusive : Question
exclusive = Infeasible exclusive_rows

-- 2 * x0 - 5 <= 0
abbrev pub half_line : List Row
half_line = at_most (record { terms = (x0, pos 2) ∷ []; rest = negsuc 4 }) ∷ []

-- its frame: 2 at x0, -5 at the constants, and 1 at the unit column
abbrev pub half_line_frame : Frame
half_line_frame = record { lines = (pos 2 ∷ negsuc 4 ∷ []) ∷ []; units = 2 }

-- the tableau that chooses x0: over 2, the multiples of x0 in the three columns are 2, -5 and 1
abbrev pub half_line_multiple : ℕ → ℕ → ℤ
half_line_multiple k column = get_or (pos 2 ∷ negsuc 4 ∷ pos 1 ∷ []) column (pos 0)
