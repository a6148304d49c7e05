-- Which questions are calm and tame: simplex meets only numbers that 128 bits hold, and ends. These
-- words speak of the question alone.
use Rattle.std.specs.Prelude.{◌≡◌, ◌⊎◌, ℕ, zero, suc, ◌+◌, ◌<◌, ◌≤◌, ◌==◌, ℤ, pos, negsuc, ◌+ℤ◌, ◌*ℤ◌, neg_ℤ, int_div, List, [], ◌∷◌, ◌++◌, map, length, slice_get, Some, Bool, false, if◌then◌else◌}
use Rattle.std.specs.List.{AllByRecursion, list_any}
use Rattle.whole_numbers.specs.Divisors.{gcd_of_all}
use Rattle.linear_terms.specs.declared.col.Col.{Col}
use Rattle.linear_terms.specs.declared.row.Row.{Row}
use Rattle.linear_terms.specs.Polynomial.{Polynomial}
use Rattle.farkas_check.specs.declared.question.Goal.{Goal}
use Rattle.farkas_check.specs.declared.question.Question.{Question}
use Rattle.farkas_check.specs.declared.question.Question.TheVariants.{Infeasible, Sup, Stratum}
use Rattle.farkas_check.specs.declared.stratum.Change.{Change}
use Rattle.farkas_check.specs.Columns.{columns}
use Rattle.farkas_check.specs.Frames.{Frame, line_of, frame_of, IsTableau, IsCalmUpTo, choice_count}
use Rattle.farkas_check.specs.Relations.{stratum_columns, unknown_count, sides, difference, coefficient_at, rest_of, places}
use Rattle.farkas_check.specs.Stratum.{terms_of}
use Rattle.farkas_check.specs.Sizes.{row_polys, case_rows, IsDead, IsNarrow, HasNumbersUpTo}
use Rattle.farkas_check.specs.Tested.{goal_columns}

-- ---- Infeasible and Sup

-- a case of not more than 4,294,967,295 rows and columns, in whose frame no number is greater than
-- 2 ^ 40
pub record IsCalmCase (cs : List (List Col)) (rows : List Row)
    (more : List Polynomial) : Type 0 where
  pub few_rows : length rows ≤ 4294967295
  pub few_columns : length cs ≤ 4294967295
  pub calm : IsCalmUpTo 1099511627776 (frame_of cs (row_polys rows more))

-- the objective is one more line
abbrev pub IsCalmGoal : Goal → Type 0
IsCalmGoal goal = IsCalmCase (goal_columns goal) goal.rows (goal.objective ∷ [])

-- ---- Stratum: spots

-- the columns of a case are the first of its frame, and the constants come right behind them
abbrev pub row_frame : List (List Col) → List Row → Frame
row_frame cs rows = frame_of cs (row_polys rows [])

-- a place is one of the chosen columns
abbrev pub is_among : ℕ → List ℕ → Bool
is_among place chosen = list_any (λ p. p == place) chosen

-- the numbers at chosen columns, which stand in the order of the choice, read at one of them; 0 at
-- each other
abbrev pub at_chosen : List ℕ → (ℕ → ℤ) → ℕ → ℤ
at_chosen [] number place = pos 0
at_chosen (c ∷ chosen) number place = if c == place then number zero
    else at_chosen chosen (λ k. number (suc k)) place

-- numerators of a corner at the columns of a case, over the tableau's denominator: minus the
-- multiples for the constants
abbrev pub corner : ℕ → List ℕ → (ℕ → ℕ → ℤ) → ℕ → ℤ
corner constants chosen multiple place = at_chosen chosen (λ k. neg_ℤ (multiple k constants)) place

-- the same of a ray: one column that is not chosen has 1 or -1
abbrev pub ray : ℤ → ℤ → ℕ → List ℕ → (ℕ → ℕ → ℤ) → ℕ → ℤ
ray over sign column chosen multiple place =
    if place == column then sign *ℤ over
    else at_chosen chosen (λ k. neg_ℤ (multiple k column *ℤ sign)) place

-- the numbers of a spot at the columns of a case: numerators over a denominator, and the place of
-- its case
pub record SpotPoint : Type 0 where
  pub case : ℕ
  pub over : ℤ
  pub numbers : List ℤ

-- a corner of the frame of a case's rows; the constants are not chosen
pub record IsCorner (cs : List (List Col)) (rows : List Row) (over : ℤ)
    (numbers : List ℤ) : Type 0 where
  pub chosen : List ℕ
  pub multiple : ℕ → ℕ → ℤ
  pub tableau : IsTableau (row_frame cs rows) chosen over multiple
  pub constants : is_among (length cs) chosen ≡ false
  pub is : numbers ≡ map (corner (length cs) chosen multiple) (places (length cs))

-- a corner and a ray of one tableau together: the ray belongs to a column that is not chosen, and
-- not to the constants
pub record IsCornerAndRay (cs : List (List Col)) (rows : List Row) (over : ℤ)
    (numbers : List ℤ) : Type 0 where
  pub chosen : List ℕ
  pub multiple : ℕ → ℕ → ℤ
  pub tableau : IsTableau (row_frame cs rows) chosen over multiple
  pub constants : is_among (length cs) chosen ≡ false
  pub column : ℕ
  pub within : column < length cs + 1 + length rows
  pub other : (column == length cs) ≡ false
  pub free : is_among column chosen ≡ false
  pub sign : ℤ
  pub one : (sign ≡ pos 1) ⊎ (sign ≡ negsuc 0)
  pub is : numbers
      ≡ map (λ place. corner (length cs) chosen multiple place +ℤ ray over sign column chosen
      multiple place) (places (length cs))

-- a spot: a corner, or a corner and a ray
pub record IsSpotOf (cs : List (List Col)) (cases : List Change) (spot : SpotPoint) : Type 0 where
  pub case : Change
  pub there : slice_get cases spot.case ≡ Some case
  pub is : IsCorner cs case.rows spot.over spot.numbers
      ⊎ IsCornerAndRay cs case.rows spot.over spot.numbers

-- ---- Stratum: spot frames and their relations

-- the sum of products of numbers in pairs
abbrev pub paired_sum : List ℤ → List ℤ → ℤ
paired_sum [] ys = pos 0
paired_sum (x ∷ xs) [] = pos 0
paired_sum (x ∷ xs) (y ∷ ys) = x *ℤ y +ℤ paired_sum xs ys

-- the value of a polynomial at a spot, times the denominator
abbrev pub value_at : List (List Col) → SpotPoint → Polynomial → ℤ
value_at cs spot p = paired_sum (line_of cs p) (spot.numbers ++ spot.over ∷ [])

-- numbers without their common divisor
abbrev pub without_divisor : List ℤ → List ℤ
without_divisor numbers = map (λ z. int_div z (pos (gcd_of_all numbers))) numbers

-- the line of a spot: the values of the terms there, of minus the lower terms, and -1, times their
-- least common denominator
abbrev pub spot_line : List (List Col) → List Change → List Polynomial → SpotPoint → List ℤ
spot_line cs cases lower spot =
    without_divisor
    (map (value_at cs spot) (terms_of cases spot.case)
    ++ (map (λ p. neg_ℤ (value_at cs spot p)) lower ++ neg_ℤ spot.over ∷ []))

-- the frame of spots: a line for each under the unknowns a, b and c
abbrev pub spot_frame : List (List Col) → List Change → List Polynomial → List SpotPoint → Frame
spot_frame cs cases lower spots = record {
  lines = map (spot_line cs cases lower) spots;
  units = unknown_count cases lower;
}

-- the relation of a column that is not chosen: there it has the least common denominator of that
-- column's multiples, at the chosen columns minus their numerators, and 0 elsewhere
abbrev pub relation_at : ℕ → ℤ → List ℕ → (ℕ → ℕ → ℤ) → ℕ → ℕ → ℤ
relation_at lines over chosen multiple column place =
    int_div (if place == column then over
    else at_chosen chosen (λ k. neg_ℤ (multiple k column)) place)
    (pos (gcd_of_all (over ∷ map (λ k. multiple k column) (places lines))))

-- numbers of a relation that a tableau of a spot frame gives
pub record IsRelationOf (frame : Frame) (numbers : List ℤ) : Type 0 where
  pub chosen : List ℕ
  pub over : ℤ
  pub multiple : ℕ → ℕ → ℤ
  pub tableau : IsTableau frame chosen over multiple
  pub column : ℕ
  pub unknown : column < frame.units
  pub free : is_among column chosen ≡ false
  pub is : numbers ≡ map (relation_at (length frame.lines) over chosen multiple column)
      (places frame.units)

-- ---- Stratum: calm

-- the line of a relation's difference in a case: a.terms - b.lower - c
abbrev pub difference_line : List (List Col) → List Polynomial → List Polynomial → List ℤ → List ℤ
difference_line cs terms lower numbers =
    map (λ c. difference (coefficient_at c) (pos 0) numbers (sides terms lower)) cs
    ++ difference rest_of (pos 1) numbers (sides terms lower) ∷ []

-- the frame of a case's rows, with a relation's difference as one more line
abbrev pub difference_frame : List (List Col) → List Polynomial → List ℤ → Change → Frame
difference_frame cs lower numbers case =
    record {
      lines = map (line_of cs) (row_polys case.rows []) ++ difference_line cs case.terms lower
          numbers ∷ [];
      units = length cs + 1;
    }

-- No number of the terms, or of the frames that the search meets, is greater than 2 ^ 20: the
-- frames of the cases' rows, of at most as many spots as there are unknowns, and of the cases' rows
-- with the difference of a relation that such spots give.
pub record IsCalmStratum (cs : List (List Col)) (cases : List Change)
    (lower : List Polynomial) : Type 0 where
  pub terms : AllByRecursion (λ (case : Change). AllByRecursion (HasNumbersUpTo 1048576) case.terms)
      cases
  pub lower_terms : AllByRecursion (HasNumbersUpTo 1048576) lower
  pub rows : AllByRecursion (λ (case : Change). IsCalmUpTo 1048576 (row_frame cs case.rows)) cases
  pub spots : (spots : List SpotPoint) → length spots ≤ unknown_count cases lower
      → AllByRecursion (IsSpotOf cs cases) spots
      → IsCalmUpTo 1048576 (spot_frame cs cases lower spots)
  pub relations : (spots : List SpotPoint) (numbers : List ℤ)
      → length spots ≤ unknown_count cases lower → AllByRecursion (IsSpotOf cs cases) spots
      → IsRelationOf (spot_frame cs cases lower spots) numbers
      → AllByRecursion
      (λ (case : Change). IsCalmUpTo 1048576 (difference_frame cs lower numbers case)) cases

-- ---- all

-- what calm asks of the cases of each kind of question
abbrev pub HasCalmCases : Question → Type 0
HasCalmCases (Infeasible rows) = IsCalmCase (columns rows []) rows []
HasCalmCases (Sup goals) = AllByRecursion IsCalmGoal goals
HasCalmCases (Stratum asked) = IsCalmStratum (stratum_columns asked.cases asked.lower) asked.cases
    asked.lower

-- A calm question is one in which simplex meets no number that leaves 128 bits.
pub record IsCalm (question : Question) : Type 0 where
  pub few_cases : length (case_rows question) ≤ 4294967296
  pub cases : HasCalmCases question

-- the choices of each case: ways to choose as many columns as lines in the frame of its rows with
-- one more line
abbrev pub choices : Question → List ℕ
choices (Infeasible rows) = choice_count (length (columns rows [])) (length rows + 1) ∷ []
choices (Sup goals) =
    map (λ (goal : Goal). choice_count (length (goal_columns goal)) (length goal.rows + 1)) goals
choices (Stratum asked) =
    map (λ (case : Change). choice_count (length (stratum_columns asked.cases asked.lower))
    (length case.rows + 1)) asked.cases

-- no case has more than 2 ^ 127 - 1 choices
abbrev pub HasFewChoices : Question → Type 0
HasFewChoices question = AllByRecursion (λ n. n ≤ 170141183460469231731687303715884105727)
    (choices question)

-- not dead, calm, and with few choices
pub record IsLiveAndCalm (question : Question) : Type 0 where
  pub live : IsDead question → ⊥
  pub calm : IsCalm question
  pub few : HasFewChoices question

-- A tame question is one that the searching calls always answer: it is narrow, or it is not dead,
-- is calm and has few choices.
abbrev pub IsTame : Question → Type 0
IsTame question = IsNarrow question ⊎ IsLiveAndCalm question
