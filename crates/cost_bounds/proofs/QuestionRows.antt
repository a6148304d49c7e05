-- The rows of a question, by the parts of which the code makes it.
use Rattle.std.proofs.Common.{◌≡◌, ◌<◌, ℕ, zero, suc, List, [], ◌∷◌, map, length, get_or, Option, Some, None, refl, sym, ap, ◌∙◌, arith}
use Rattle.std.specs.Prelude.{Bool, slice_get, if◌then◌else◌}
use Rattle.std.specs.List.{remove}
use Rattle.std.proofs.lemmas.Option.{slice_get_read}
use Rattle.linear_terms.specs.declared.row.Kind.{Kind}
use Rattle.linear_terms.specs.declared.row.Row.{Row}
use Rattle.posing.specs.Posing.{Done}
use Rattle.farkas_check.specs.declared.question.Question.TheVariants.{Infeasible}
use Rattle.cost_bounds.specs.declared.kept.Kept.{Kept}
use Rattle.cost_bounds.specs.Questions.{bare, cost_rows}
use Rattle.cost_bounds.specs.Small.{trial, is_of, row_trial, entry_trial}
use Rattle.cost_bounds.specs.Steps.{question_of}
use Rattle.cost_bounds.proofs.Lists.{map-remove, length-map}

-- the question of these rows
pub question-is : (bares entries rows known : List Row) (last : Row) → bares ≡ map bare rows → entries ≡ known → question_of bares entries last ≡ Infeasible (cost_rows rows known last)
question-is bares entries rows known last e f = λ i. question_of (e i) (f i) last

-- bare rows without one are those of the rows without it
pub bares-without : (bares made rows : List Row) (place : ℕ) → bares ≡ map bare rows → made ≡ remove bares place → made ≡ map bare (remove rows place)
bares-without bares made rows place e f = f ∙ ap (λ rs. remove rs place) e ∙ sym (map-remove bare rows place)

pub bares-many : (bares rows : List Row) (place : ℕ) → bares ≡ map bare rows → place < length rows → place < length bares
bares-many bares rows place e lt = let many = ap length e ∙ length-map bare rows in omega (arith, many, lt)

-- the element at a place that was read
pub at_place : (rows read : List Row) (place : ℕ) (row : Row) → read ≡ rows → place < length read → row ≡ get_or read place row → slice_get rows place ≡ Some row
at_place rows read place row same lt is = ap (λ xs. slice_get xs place) (sym same) ∙ slice_get_read read (length read) place row refl lt is

-- at a place inside, a row of an entry monomial is tried
pub entry-there : (last : Row) (kept : Kept) (place : ℕ) → place < length kept.entries → trial last kept kept.rows (remove kept.entries place) ≡ entry_trial last kept place (slice_get kept.entries place)
entry-there last kept place lt = go (slice_get kept.entries place) (inside kept.entries place lt)
  where
    inside : (xs : List Row) (i : ℕ) → i < length xs → (x : Row) × (slice_get xs i ≡ Some x)
    inside [] i h = absurd (omega (arith, h))
    inside (x ∷ xs) zero h = (x, refl)
    inside (x ∷ xs) (suc i) h = inside xs i (omega (arith, h))

    go : (o : Option Row) → (x : Row) × (o ≡ Some x) → trial last kept kept.rows (remove kept.entries place) ≡ entry_trial last kept place o
    go None h = let never = h.1 in cc
    go (Some x) h = refl

-- at a place inside, a row is tried if it is of the kind
pub row-there : (kind : Kind) (last : Row) (kept : Kept) (read : List Row) (place : ℕ) (row : Row) (b result : Bool) → read ≡ kept.rows → place < length read → row ≡ get_or read place row
    → result ≡ is_of kind (get_or read place row).kind → result ≡ b
    → (if b then trial last kept (remove kept.rows place) kept.entries else Done kept) ≡ row_trial kind last kept place (slice_get kept.rows place)
row-there kind last kept read place row b result same lt is told seen =
    ap (λ t. if t then trial last kept (remove kept.rows place) kept.entries else Done kept) (sym seen ∙ told)
    ∙ ap (λ o. row_trial kind last kept place o) (sym (at_place kept.rows read place row same lt is ∙ ap (λ r. Some r) is))
