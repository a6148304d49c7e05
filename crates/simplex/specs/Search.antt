-- The search for a corner of a list of rows, or for multipliers that refute them.
use Rattle.std.specs.Prelude.{◌≡◌, ◌≢◌, ◌⊎◌, ℕ, ◌+◌, ◌<◌, ◌≤◌, ℤ, pos, negsuc, ◌*ℤ◌, ◌≤ℤ◌, ◌<ℤ◌, List, length, get_or, Bool, true, false, Option, None, Some, MatchOption, Result, Ok}
use Rattle.linear_terms.specs.declared.row.Kind.{Kind}
use Rattle.linear_terms.specs.declared.row.Kind.TheVariants.{AtMost, Equal}
use Rattle.farkas_check.specs.Ratios.{Fraction, IsLowest, whole, lowest_terms}
use Rattle.items.specs.Gives.{◌>>=◌}
use Rattle.whole_numbers.specs.Fits.{product_of}
use Rattle.whole_numbers.specs.declared.wide.Wide as Step
use Rattle.farkas_check.specs.Frames.{choose}
use Rattle.simplex.specs.Exchange.{numbers_of, choices_of, IsTableauOf, ArePrimitive}
use Rattle.farkas_check.specs.Relations.{entry}
use Rattle.simplex.specs.Raise.{Framed, enters_at, leaves_at}
use Rattle.simplex.specs.Rows.{kind_at}
use Rattle.simplex.specs.declared.tableau.Tableau.{Tableau}
use Rattle.simplex.specs.declared.search.TurnEnd.{TurnEnd}
use Rattle.simplex.specs.declared.search.TurnEnd.TheVariants as turn_end
use Rattle.simplex.specs.declared.search.SearchEnd.{SearchEnd}
use Rattle.simplex.specs.declared.search.SearchEnd.TheVariants as found

-- the line is 0 at all columns of the question
abbrev pub IsFlat : ℕ → Tableau → ℕ → Type 0
IsFlat constants t i = (j : ℕ) → j < constants → numbers_of t i j ≡ pos 0

-- the line is 0 at all columns of the question, at the constants, and at the unit columns of
-- inequalities
pub record IsFixed (over : Framed) (constants : ℕ) (kinds : List Kind) (t : Tableau)
    (i : ℕ) : Type 0 where
  pub flat : IsFlat constants t i
  pub corner : numbers_of t i constants ≡ pos 0
  pub apart : (m : ℕ) → m < length t.lines → kind_at kinds m ≡ AtMost
      → numbers_of t i (over.units + m) ≡ pos 0

-- what a column is that may enter: the unit column of an inequality
pub record IsUnit (over : Framed) (kinds : List Kind) (count j : ℕ) : Type 0 where
  pub row : ℕ
  pub here : row < count
  pub is : j ≡ over.units + row
  pub kind : kind_at kinds row ≡ AtMost

-- the tableau of a frame, and its sizes; no line chooses the constants, and none has a common
-- divisor
pub record IsSized (over : Framed) (constants : ℕ) (kinds : List Kind) (t : Tableau) : Type 0 where
  pub tableau : IsTableauOf over.units over.frame t
  pub units : over.units ≡ constants + 1
  pub many : length kinds ≡ length t.lines
  pub apart : (i : ℕ) → i < length t.lines → choices_of t i ≢ constants
  pub primitive : ArePrimitive t
  pub inside : over.rows ≤ length t.lines
  pub goals : (l : ℕ) → over.rows ≤ l → l < length t.lines → kind_at kinds l ≡ AtMost

-- the first column of the question at which a line is not 0, or it is 0 at all
abbrev pub IsQuestionColumn : List ℤ → ℕ → Option ℕ → Type 0
IsQuestionColumn line constants found =
    MatchOption found ((j : ℕ) → j < constants → entry line j ≡ pos 0)
    (λ j. (j < constants) × (entry line j ≡ pos 0 → ⊥))

-- equations before the i-th are solved: a column of the question is chosen, or the line is fixed
pub record IsSolving (over : Framed) (constants : ℕ) (kinds : List Kind) (count : ℕ)
    (t : Tableau) : Type 0 where
  pub sized : IsSized over constants kinds t
  pub own : (l : ℕ) → l < length t.lines → (kind_at kinds l ≡ AtMost) ⊎ (count ≤ l)
      → choices_of t l ≡ over.units + l
  pub done : (l : ℕ) → l < count → l < length t.lines → kind_at kinds l ≡ Equal
      → (choices_of t l < constants)
      ⊎ ((choices_of t l ≡ over.units + l) × IsFixed over constants kinds t l)

-- the line refutes the rows: it is 0 at all columns of the question, and its constant is not 0; at
-- the unit columns of inequalities it is 0, or it is not negative there and its constant is
-- positive; no goal has a part in it
pub record IsRefuted (over : Framed) (constants : ℕ) (kinds : List Kind) (t : Tableau)
    (i : ℕ) : Type 0 where
  pub sized : IsSized over constants kinds t
  pub here : i < length t.lines
  pub flat : IsFlat constants t i
  pub some : numbers_of t i constants ≢ pos 0
  pub goals : (l : ℕ) → over.rows ≤ l → l < length t.lines → numbers_of t i (over.units + l) ≡ pos 0
  pub signs : ((m : ℕ) → m < length t.lines → kind_at kinds m ≡ AtMost
      → numbers_of t i (over.units + m) ≡ pos 0)
      ⊎ ((pos 0 <ℤ numbers_of t i constants)
      × ((m : ℕ) → m < length t.lines → kind_at kinds m ≡ AtMost
      → pos 0 ≤ℤ numbers_of t i (over.units + m)))

-- what the equation at a place came to: its line refutes the rows, or the equations up to it are
-- solved
abbrev pub EquationAt : Framed → ℕ → List Kind → ℕ → Tableau → Bool → Type 0
EquationAt over constants kinds i t true = IsRefuted over constants kinds t i
EquationAt over constants kinds i t false = IsSolving over constants kinds (i + 1) t

-- what all equations came to: the line at a place refutes the rows, or with None all of them are
-- solved
abbrev pub EquationsAt : Framed → ℕ → List Kind → Tableau → Option ℕ → Type 0
EquationsAt over constants kinds t None = IsSolving over constants kinds (length kinds) t
EquationsAt over constants kinds t (Some i) = IsRefuted over constants kinds t i

-- where a search stands: which columns may enter, and what the lines keep
pub record IsMarked (over : Framed) (constants : ℕ) (kinds : List Kind) (enters : List Bool)
    (t : Tableau) : Type 0 where
  pub sized : IsSized over constants kinds t
  pub wide : length enters ≡ over.units + length t.lines
  pub fixed : (i l : ℕ) → i < length t.lines → l < length t.lines → choices_of t i ≡ over.units + l
      → kind_at kinds l ≡ Equal → IsFixed over constants kinds t i
  pub entering : (j : ℕ) → enters_at enters j ≡ true → IsUnit over kinds (length t.lines) j
  pub waiting : (l : ℕ) → l < length t.lines → kind_at kinds l ≡ AtMost
      → enters_at enters (over.units + l) ≡ false → choices_of t l ≡ over.units + l

-- inequalities before the i-th are solved as far as columns of the question are left
pub record IsFreeing (over : Framed) (constants : ℕ) (kinds : List Kind) (count : ℕ)
    (enters : List Bool) (t : Tableau) : Type 0 where
  pub marked : IsMarked over constants kinds enters t
  pub flat : (i : ℕ) → i < length t.lines → over.units ≤ choices_of t i → (kind_at kinds i ≡ Equal)
      ⊎ (i < count) → IsFlat constants t i
  pub later : (l : ℕ) → count ≤ l → l < length t.lines → enters_at enters (over.units + l) ≡ false
  pub none : (i : ℕ) → i < length t.lines → leaves_at enters t i ≡ false

-- a corner of the rows whose columns may enter; that of a goal never does
pub record IsPlaced (over : Framed) (constants : ℕ) (kinds : List Kind) (enters : List Bool)
    (t : Tableau) : Type 0 where
  pub marked : IsMarked over constants kinds enters t
  pub out : (l : ℕ) → over.rows ≤ l → l < length t.lines → enters_at enters (over.units + l) ≡ false
  pub flat : (i : ℕ) → i < over.rows → i < length t.lines → over.units ≤ choices_of t i
      → IsFlat constants t i
  pub corner : (i : ℕ) → i < length t.lines → leaves_at enters t i ≡ true
      → numbers_of t i constants ≤ℤ pos 0

-- the rows before the i-th are kept
abbrev pub AreKept : Framed → List Kind → ℕ → List Bool → Type 0
AreKept over kinds count enters = (l : ℕ) → l < count → kind_at kinds l ≡ AtMost
    → enters_at enters (over.units + l) ≡ true

-- a turn kept its row at a corner, and each column that could enter before still can
pub record IsKept (over : Framed) (constants : ℕ) (kinds : List Kind) (i : ℕ)
    (before enters : List Bool) (t : Tableau) : Type 0 where
  pub placed : IsPlaced over constants kinds enters t
  pub own : kind_at kinds i ≡ AtMost → enters_at enters (over.units + i) ≡ true
  pub others : (j : ℕ) → enters_at before j ≡ true → enters_at enters j ≡ true

-- what a turn for a row came to: the row is kept, its line refutes the rows, or the turns are used
-- up
abbrev pub TurnedAt : Framed → ℕ → List Kind → ℕ → ℕ → List Bool → List Bool → Tableau → TurnEnd
    → Type 0
TurnedAt over constants kinds budget i before enters t turn_end.Kept =
    IsKept over constants kinds i before enters t
TurnedAt over constants kinds budget i before enters t turn_end.Refuted =
    IsRefuted over constants kinds t i
TurnedAt over constants kinds budget i before enters t turn_end.Pivots =
    budget < choose (over.units + length kinds) (length kinds)

-- all rows are kept
pub record IsMet (over : Framed) (constants : ℕ) (kinds : List Kind) (enters : List Bool)
    (t : Tableau) : Type 0 where
  pub placed : IsPlaced over constants kinds enters t
  pub kept : AreKept over kinds over.rows enters

-- what a search came to
abbrev pub FoundAt : Framed → ℕ → List Kind → ℕ → List Bool → Tableau → SearchEnd → Type 0
FoundAt over constants kinds budget enters t found.Corner = IsMet over constants kinds enters t
FoundAt over constants kinds budget enters t (found.Refuted i) = IsRefuted over constants kinds t i
FoundAt over constants kinds budget enters t found.Pivots =
    budget < choose (over.units + length kinds) (length kinds)

-- ---- the corner

-- a line that chooses the column, or none does
abbrev pub IsLineChoosing : List ℕ → ℕ → Option ℕ → Type 0
IsLineChoosing chosen column found =
    MatchOption found ((k : ℕ) → k < length chosen → get_or chosen k 0 ≢ column)
    (λ k. (k < length chosen) × (get_or chosen k 0 ≡ column))

-- the number of a chosen column is minus its line's constant over its line's own number, and 0
-- where it is not chosen
pub record CornerAt (t : Tableau) (constants column : ℕ) (r : Fraction) : Type 0 where
  pub positive : pos 0 <ℤ r.den
  pub chosen : (k : ℕ) → k < length t.lines → choices_of t k ≡ column
      → r.num *ℤ numbers_of t k column ≡ numbers_of t k constants *ℤ negsuc 0 *ℤ r.den
  pub free : ((k : ℕ) → k < length t.lines → choices_of t k ≢ column) → r.num ≡ pos 0
  pub lowest : IsLowest r

-- the point has for each of the first so many columns its number at the corner
pub record IsCornerOf (t : Tableau) (constants count : ℕ) (point : List Fraction) : Type 0 where
  pub each : length point ≡ count
  pub same : (j : ℕ) → j < count → CornerAt t constants j (get_or point j (whole (pos 0)))

-- minus a line's constant over its number at the column it chooses, in lowest terms
abbrev pub chosen_number : List ℤ → ℕ → ℕ → Result Fraction Step.Wide
chosen_number line constants column = product_of (entry line constants) (negsuc 0)
    >>= λ n. Ok (lowest_terms n (entry line column))
