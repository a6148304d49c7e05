-- An exchange of a chosen column, in 128 bits.
use Rattle.std.specs.Prelude.{◌≡◌, ℕ, ◌+◌, nat_eq, ℤ, pos, negsuc, List, [], ◌∷◌, ◌++◌, map, get_or, slice_set, length, Option, None, Some, Result, Ok, int_div, int_lt, if◌then◌else◌, ◌<◌, IfOk}
use Rattle.std.specs.Ordering.{int_eq}
use Rattle.items.specs.Gives.{◌>>=◌}
use Rattle.whole_numbers.specs.Fits.{sum_of, product_of}
use Rattle.whole_numbers.specs.Divisors.{gcd_of_all}
use Rattle.whole_numbers.specs.declared.wide.Wide as Step
use Rattle.simplex.specs.Frames.{IsWholeTableau}
use Rattle.simplex.specs.declared.stop.SearchStop.{SearchStop}
use Rattle.simplex.specs.declared.stop.SearchStop.TheVariants.{Wide, Memory}
use Rattle.simplex.specs.declared.tableau.Tableau.{Tableau}

-- what a stop tells: want of memory tells nothing
abbrev pub cause : SearchStop → Option Step.Wide
cause (Wide step) = Some step
cause Memory = None

-- ---- lines

-- the number at a column; 0 past the end
abbrev pub entry : List ℤ → ℕ → ℤ
entry line j = get_or line j (pos 0)

-- p times a number and q times another
abbrev pub sum_of_products : ℤ → ℤ → ℤ → ℤ → Result ℤ Step.Wide
sum_of_products p a q b = product_of p a >>= λ x. product_of q b >>= λ y. sum_of x y

-- p times one line and q times another
abbrev pub sum_of_lines : ℤ → List ℤ → ℤ → List ℤ → Result (List ℤ) Step.Wide
sum_of_lines p [] q bs = Ok []
sum_of_lines p (a ∷ more) q [] = Ok []
sum_of_lines p (a ∷ more) q (b ∷ bs) = sum_of_products p a q b >>= λ z. sum_of_lines p more q bs
    >>= λ made. Ok (z ∷ made)

-- a line times a number, or the first product that leaves 128 bits
abbrev pub line_multiple : List ℤ → ℤ → Result (List ℤ) Step.Wide
line_multiple [] by = Ok []
line_multiple (a ∷ more) by = product_of a by >>= λ z. line_multiple more by
    >>= λ made. Ok (z ∷ made)

-- the numbers divided by their greatest common divisor
abbrev pub reduced_line : List ℤ → List ℤ
reduced_line line = if nat_eq (gcd_of_all line) 0 then line
    else map (λ z. int_div z (pos (gcd_of_all line))) line

-- the line with its signs turned where it is negative at the column
abbrev pub upright_line : ℕ → List ℤ → Result (List ℤ) Step.Wide
upright_line column line = if int_lt (entry line column) (pos 0) then line_multiple line (negsuc 0)
    else Ok line

-- a line cleared at the column by one that is positive there
abbrev pub line_without : ℕ → List ℤ → List ℤ → Result (List ℤ) Step.Wide
line_without column pivot line =
    if int_eq (entry line column) (pos 0) then Ok line
    else (product_of (entry line column) (negsuc 0) >>= λ q. sum_of_lines (entry pivot column) line
    q pivot >>= λ made. Ok (reduced_line made))

-- ---- all lines

-- a line at a place: the pivot's own, or one that is cleared
abbrev pub line_without_at : ℕ → List ℤ → ℕ → ℕ → List ℤ → Result (List ℤ) Step.Wide
line_without_at column pivot place i line = if nat_eq i place then Ok pivot
    else line_without column pivot line

-- the lines from the i-th on
abbrev pub lines_without : ℕ → List ℤ → ℕ → ℕ → List (List ℤ) → Result (List (List ℤ)) Step.Wide
lines_without column pivot place i [] = Ok []
lines_without column pivot place i (line ∷ lines) = line_without_at column pivot place i line
    >>= λ made. lines_without column pivot place (i + 1) lines >>= λ more. Ok (made ∷ more)

-- the column is chosen in the line
abbrev pub exchange : Tableau → ℕ → ℕ → Result Tableau Step.Wide
exchange t line column =
    upright_line column (get_or t.lines line []) >>= λ pivot. lines_without column pivot line 0
    t.lines >>= λ lines. Ok record {
      lines = lines;
      chosen = slice_set t.chosen line column;
    }

-- ---- what is put behind what is made

-- a list with what is made behind it, or the step at which that stopped
abbrev pub behind : {X : Type 0} → List X → Result (List X) Step.Wide → Result (List X) Step.Wide
behind front rest = rest >>= λ made. Ok (front ++ made)

-- ---- the shape of a tableau

-- each line has a number for each column, and each line chooses a column
pub record HasShape (columns : ℕ) (t : Tableau) : Type 0 where
  pub wide : (i : ℕ) → i < length t.lines → length (get_or t.lines i []) ≡ columns
  pub choices : length t.chosen ≡ length t.lines

-- the number of a tableau's line at a column; 0 past the last line or column
abbrev pub numbers_of : Tableau → ℕ → ℕ → ℤ
numbers_of t i j = entry (get_or t.lines i []) j

-- the column that a tableau's line chooses; 0 past the last line
abbrev pub choices_of : Tableau → ℕ → ℕ
choices_of t i = get_or t.chosen i 0

-- a tableau of a frame whose unit columns begin at `units`
pub record IsTableauOf (units : ℕ) (frame : ℕ → ℕ → ℤ) (t : Tableau) : Type 0 where
  pub shape : HasShape (units + length t.lines) t
  pub is : IsWholeTableau (length t.lines) units (units + length t.lines) frame (numbers_of t)
      (choices_of t)
  pub within : (i : ℕ) → i < length t.lines → choices_of t i < units + length t.lines

-- the numbers of a line have no common divisor but 1
abbrev pub ArePrimitive : Tableau → Type 0
ArePrimitive t = (i : ℕ) → i < length t.lines → gcd_of_all (get_or t.lines i []) ≡ 1

-- what is made is a tableau of each frame of which the first one is
abbrev pub KeepsFrames : ℕ → Tableau → Result Tableau SearchStop → Type 0
KeepsFrames columns before after = (units : ℕ) (frame : ℕ → ℕ → ℤ)
    → columns ≡ units + length before.lines → IsTableauOf units frame before
    → IfOk after (λ t. IsTableauOf units frame t)
