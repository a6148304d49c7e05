-- Where the raise of an objective ended, and another objective in its place.
use Rattle.std.specs.Prelude.{◌≡◌, ℕ, ◌+◌, ℤ, pos, List, [], ◌∷◌, ◌++◌, get_or, length, Bool, if◌then◌else◌, IsTrue, Result, Ok}
use Rattle.std.specs.Ordering.{eq_by_cmp}
use Rattle.linear_terms.specs.declared.col.Col.{Col}
use Rattle.linear_terms.specs.declared.row.Row.{Row}
use Rattle.linear_terms.specs.Mono.{mono_cmp}
use Rattle.linear_terms.specs.Polynomial.{Terms, Polynomial}
use Rattle.items.specs.Gives.{◌>>=◌}
use Rattle.farkas_check.specs.Columns.{columns}
use Rattle.whole_numbers.specs.declared.wide.Wide as Step
use Rattle.simplex.specs.Exchange.{line_without}
use Rattle.simplex.specs.Rows.{kinds_of}
use Rattle.simplex.specs.Search.{IsMet, FoundAt}
use Rattle.simplex.specs.Shortness.{AreShortRows}
use Rattle.simplex.specs.Suprema.{with_goal, frame_over}
use Rattle.simplex.specs.declared.search.SearchEnd.{SearchEnd}
use Rattle.simplex.specs.declared.tableau.Tableau.{Tableau}

-- numbers of terms spread over columns: a column of the first term that is left takes its number,
-- and another one 0
abbrev pub spread : Terms → List (List Col) → List ℤ
spread ts [] = []
spread [] (c ∷ cs) = pos 0 ∷ spread [] cs
spread (t ∷ ts) (c ∷ cs) = if eq_by_cmp mono_cmp t.0 c then t.1 ∷ spread ts cs
    else pos 0 ∷ spread (t ∷ ts) cs

-- a line cleared at the columns that lines choose, one after another; the first of them has this
-- place
abbrev pub cleared_line : List (List ℤ) → List ℕ → ℕ → List ℤ → Result (List ℤ) Step.Wide
cleared_line [] chosen place line = Ok line
cleared_line (pivot ∷ pivots) chosen place line = line_without (get_or chosen place 0) pivot line
    >>= λ made. cleared_line pivots chosen (place + 1) made

-- a list without its last element
pub record IsFront (lines front : List (List ℤ)) : Type 0 where
  pub last : List ℤ
  pub is : lines ≡ front ++ last ∷ []

-- a corner of the rows over the columns, in a tableau whose goal is the objective
abbrev pub IsMetFor : List (List Col) → List Row → Polynomial → List Bool → Tableau → Type 0
IsMetFor cs rows p enters t = IsMet (frame_over cs rows p) (length cs) (kinds_of (with_goal rows p))
    enters t

-- the same where any objective is the goal
pub record StandsAt (cs : List (List Col)) (rows : List Row) (enters : List Bool)
    (t : Tableau) : Type 0 where
  pub objective : Polynomial
  pub met : IsMetFor cs rows objective enters t

-- the same over the rows' own columns, and whether the rows are known to be short
pub record IsLeftAt (cs : List (List Col)) (rows : List Row) (short : Bool) (enters : List Bool)
    (t : Tableau) : Type 0 where
  pub own : cs ≡ columns rows []
  pub short_rows : IsTrue short → AreShortRows rows
  pub stands : StandsAt cs rows enters t

-- what a search over the frame of the rows and the objective came to
abbrev pub FoundFor : List (List Col) → List Row → Polynomial → ℕ → List Bool → Tableau → SearchEnd
    → Type 0
FoundFor cs rows p budget enters t found = FoundAt (frame_over cs rows p) (length cs)
    (kinds_of (with_goal rows p)) budget enters t found
