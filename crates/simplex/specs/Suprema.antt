-- What the raise of an objective over the rows of a case comes to.
use Rattle.std.specs.Prelude.{◌≡◌, ◌≢◌, ◌⊎◌, not, take, drop, get_or, Result, Ok, ℕ, ◌+◌, ◌<◌, ℤ, pos, negsuc, ◌*ℤ◌, ◌<ℤ◌, List, [], ◌∷◌, ◌++◌, length, Bool, true}
use Rattle.linear_terms.specs.declared.col.Col.{Col}
use Rattle.linear_terms.specs.declared.row.Kind.{Kind}
use Rattle.linear_terms.specs.declared.row.Kind.TheVariants.{AtMost}
use Rattle.linear_terms.specs.declared.row.Row.{Row}
use Rattle.linear_terms.specs.Polynomial.{Polynomial}
use Rattle.items.specs.Gives.{◌>>=◌}
use Rattle.whole_numbers.specs.Fits.{product_of}
use Rattle.whole_numbers.specs.declared.wide.Wide as Step
use Rattle.farkas_check.specs.Frames.{choose}
use Rattle.farkas_check.specs.Ratios.{Fraction, IsLowest, whole, lowest_terms}
use Rattle.farkas_check.specs.Relations.{entry}
use Rattle.farkas_check.specs.declared.answer.Cert.{Cert}
use Rattle.farkas_check.specs.Columns.{columns}
use Rattle.farkas_check.specs.Tested.{goal_columns}
use Rattle.farkas_check.specs.declared.question.Goal.{Goal}
use Rattle.simplex.specs.Exchange.{numbers_of, choices_of, line_multiple}
use Rattle.simplex.specs.Raise.{Framed, sign_of, enters_at, NoneLeaves, IsBest}
use Rattle.simplex.specs.Rows.{kinds_of, framed_tableau}
use Rattle.simplex.specs.Search.{IsFlat, IsMet, IsRefuted, IsCornerOf}
use Rattle.simplex.specs.declared.supremum.Supremum.{Supremum}
use Rattle.simplex.specs.declared.supremum.Supremum.TheVariants as supremum
use Rattle.simplex.specs.declared.supremum.Top.{Top}
use Rattle.simplex.specs.declared.supremum.Top.TheVariants as top
use Rattle.simplex.specs.declared.tableau.Tableau.{Tableau}

-- the rows, and behind them the objective as a row that takes no part
abbrev pub with_goal : List Row → Polynomial → List Row
with_goal rows p = rows ++ record { poly = p; kind = AtMost } ∷ []

-- the frame of rows over columns has one line more, that of the objective
abbrev pub frame_over : List (List Col) → List Row → Polynomial → Framed
frame_over cs rows p = record {
  units = length cs + 1;
  rows = length rows;
  frame = numbers_of (framed_tableau cs (with_goal rows p));
}

-- a frame, and the kinds of its lines
pub record FramedKinds : Type 0 where
  pub over : Framed
  pub kinds : List Kind

-- the frame of rows and an objective, and the kinds of its lines
abbrev pub case_over : List (List Col) → List Row → Polynomial → FramedKinds
case_over cs rows p = record { over = frame_over cs rows p; kinds = kinds_of (with_goal rows p) }

-- the frame over the rows' own columns, in which a search for a corner of them begins
abbrev pub own_frame : List Row → Polynomial → Framed
own_frame rows p = frame_over (columns rows []) rows p

-- the frame of a goal's rows and its objective over its own columns
abbrev pub goal_frame : Goal → Framed
goal_frame goal = frame_over (goal_columns goal) goal.rows goal.objective

-- the corner makes the rows true, and no column lets the objective grow
pub record IsTopped (over : Framed) (constants : ℕ) (kinds : List Kind) (enters : List Bool)
    (t : Tableau) : Type 0 where
  pub met : IsMet over constants kinds enters t
  pub flat : IsFlat constants t over.rows
  pub best : IsBest enters (negsuc 0) over.rows t

-- the corner makes the rows true, and the objective grows along a column of the question, or along
-- the slack of a row, without end
pub record IsOpened (over : Framed) (constants : ℕ) (kinds : List Kind) (enters : List Bool)
    (column : ℕ) (up : Bool) (t : Tableau) : Type 0 where
  pub met : IsMet over constants kinds enters t
  pub grows : pos 0 <ℤ (sign_of up *ℤ numbers_of t over.rows column)
  pub way : (column < constants)
      ⊎ ((enters_at enters column ≡ true) × (up ≡ true) × NoneLeaves (length t.lines) enters column
      t)

-- what the raise of an objective came to: its top, a column along which it grows without end, or
-- the turns are used up
abbrev pub TopAt : Framed → ℕ → List Kind → ℕ → List Bool → Tableau → Top → Type 0
TopAt over constants kinds budget enters t top.Best = IsTopped over constants kinds enters t
TopAt over constants kinds budget enters t (top.Open column up) =
    IsOpened over constants kinds enters column up t
TopAt over constants kinds budget enters t top.Pivots = budget < choose (over.units + length kinds)
    (length kinds)

-- ---- what is read off

-- the number of a ray at a column of the question: 1 or -1 at the column that grows, at a chosen
-- column minus its line's number there over its own, and else 0
pub record SlopeAt (t : Tableau) (column : ℕ) (up : Bool) (own : ℕ) (r : Fraction) : Type 0 where
  pub lowest : IsLowest r
  pub here : own ≡ column → r ≡ whole (sign_of up)
  pub chosen : own ≢ column → (k : ℕ) → k < length t.lines → choices_of t k ≡ own
      → r.num *ℤ numbers_of t k own ≡ numbers_of t k column *ℤ sign_of (not up) *ℤ r.den
  pub free : own ≢ column → ((k : ℕ) → k < length t.lines → choices_of t k ≢ own) → r.num ≡ pos 0

-- the ray has for each of the first so many columns its number along the column that grows
pub record IsRayOf (t : Tableau) (column : ℕ) (up : Bool) (count : ℕ)
    (ray : List Fraction) : Type 0 where
  pub each : length ray ≡ count
  pub same : (j : ℕ) → j < count → SlopeAt t column up j (get_or ray j (whole (pos 0)))

-- a line's number at the column that grows, negated on the way up, over that at the column it
-- chooses, in lowest terms
abbrev pub chosen_slope : List ℤ → ℕ → Bool → ℕ → Result Fraction Step.Wide
chosen_slope line column up own = product_of (entry line column) (sign_of (not up))
    >>= λ n. Ok (lowest_terms n (entry line own))

-- a line's numbers as a certificate: minus those at the slacks of the rows, over that at its own
abbrev pub certificate_of : ℕ → ℕ → List ℤ → Result Cert Step.Wide
certificate_of constants goal line = line_multiple (take goal (drop (constants + 1) line))
    (negsuc 0) >>= λ by. Ok record {
      scale = entry line (constants + 1 + goal);
      sum = entry line constants;
      by = by;
    }

-- what a case comes to
abbrev pub SupremumAt : Framed → ℕ → List Kind → ℕ → Supremum → Type 0
SupremumAt over constants kinds budget supremum.Empty = (t : Tableau)
    × ((line : ℕ) × IsRefuted over constants kinds t line)
SupremumAt over constants kinds budget supremum.Pivots = budget < choose (over.units + length kinds)
    (length kinds)
SupremumAt over constants kinds budget (supremum.Bound cert point) =
    (t : Tableau)
    × ((enters : List Bool)
    × (IsTopped over constants kinds enters t
    × (certificate_of constants over.rows (get_or t.lines over.rows []) ≡ Ok cert)
    × IsCornerOf t constants constants point))
SupremumAt over constants kinds budget (supremum.Unbounded point ray) =
    (t : Tableau)
    × ((enters : List Bool)
    × ((column : ℕ)
    × ((up : Bool)
    × (IsOpened over constants kinds enters column up t × IsCornerOf t constants constants point
    × IsRayOf t column up constants ray))))

-- what the supremum of a polynomial over rows comes to, in their frame over the columns
abbrev pub IsSupremumOver : List (List Col) → List Row → Polynomial → ℕ → Supremum → Type 0
IsSupremumOver cs rows p budget found = SupremumAt (frame_over cs rows p) (length cs)
    (kinds_of (with_goal rows p)) budget found

-- what the supremum of a goal comes to, in the frame over its own columns
abbrev pub IsSupremumOf : Goal → ℕ → Supremum → Type 0
IsSupremumOf goal budget found = IsSupremumOver (goal_columns goal) goal.rows goal.objective budget
    found
