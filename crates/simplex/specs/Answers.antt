-- What an answer owes before its test is made.
use Rattle.std.specs.Prelude.{unsigned_abs, ◌≡◌, ℕ, ◌+◌, ◌-◌, ◌^◌, ◌<◌, ℤ, pos, ◌*ℤ◌, ◌<ℤ◌, List, [], drop, length, Bool, true, Result, Ok, Err, ⊤}
use Rattle.linear_terms.specs.declared.row.Row.{Row}
use Rattle.whole_numbers.specs.declared.wide.Wide as Step
use Rattle.farkas_check.specs.Calm.{IsCalm, IsLiveAndCalm}
use Rattle.farkas_check.specs.Meaning.{IsLimit}
use Rattle.farkas_check.specs.Columns.{columns}
use Rattle.farkas_check.specs.Tested.{outcome, Passes}
use Rattle.farkas_check.specs.declared.answer.Answer.{Answer}
use Rattle.farkas_check.specs.declared.answer.Answer.TheVariants as answer
use Rattle.farkas_check.specs.declared.answer.Limit.TheVariants as limit
use Rattle.farkas_check.specs.declared.question.Question.{Question}
use Rattle.farkas_check.specs.declared.question.Question.TheVariants.{Infeasible}
use Rattle.items.specs.Gives.{◌>>=◌}
use Rattle.linear_terms.specs.declared.row.Kind.{Kind}
use Rattle.simplex.specs.Raise.{Framed}
use Rattle.simplex.specs.Search.{IsRefuted, IsMet, IsCornerOf}
use Rattle.farkas_check.specs.Frames.{choose}
use Rattle.simplex.specs.Exchange.{numbers_of, upright_line}
use Rattle.farkas_check.specs.Relations.{entry}
use Rattle.simplex.specs.Refusal.{IsRefusalIn}
use Rattle.simplex.specs.SearchSteps.{IsFrameStep}
use Rattle.simplex.specs.Rows.{frame_of_rows, kinds_of}
use Rattle.simplex.specs.declared.stop.SearchStop.{SearchStop}
use Rattle.simplex.specs.declared.tableau.Tableau.{Tableau}

-- no part of the test is false, as far as its sums and products are numbers of 128 bits
abbrev pub IsHonest : Question → Answer → Type 0
IsHonest question a = (b : Bool) → outcome question a ≡ Ok b → b ≡ true

-- no part of the test of an answer to whether rows are infeasible is false
abbrev pub IsHonestOf : List Row → Answer → Type 0
IsHonestOf rows a = IsHonest (Infeasible rows) a

-- the turns are used up only where there are more choices of a column for each row
abbrev pub PivotsOf : ℕ → List Row → Answer → Type 0
PivotsOf budget rows a = a ≡ answer.Limit limit.Pivots
    → budget < choose (length (columns rows []) + 1 + length rows) (length rows)

-- a limit that names a step
abbrev pub IsWide : Answer → Type 0
IsWide (answer.Limit (limit.Wide left right times)) = ⊤
IsWide (answer.Limit limit.Pivots) = ⊥
IsWide (answer.Yes by) = ⊥
IsWide (answer.No point) = ⊥
IsWide (answer.Bound at certs case point) = ⊥
IsWide (answer.Unbounded case point ray) = ⊥
IsWide (answer.Basis relations spots free) = ⊥

-- the step that a limit names, if it names one, is such a step
abbrev pub NamesStep : (Step.Wide → Type 0) → Answer → Type 0
NamesStep IsStep (answer.Limit (limit.Wide left right times)) =
    IsStep (record { left = left; right = right; times = times })
NamesStep IsStep (answer.Limit limit.Pivots) = ⊤
NamesStep IsStep (answer.Yes by) = ⊤
NamesStep IsStep (answer.No point) = ⊤
NamesStep IsStep (answer.Bound at certs case point) = ⊤
NamesStep IsStep (answer.Unbounded case point ray) = ⊤
NamesStep IsStep (answer.Basis relations spots free) = ⊤

-- a stop of the search over the frame of the rows
abbrev pub IsRefusalFor : List Row → SearchStop → Type 0
IsRefusalFor rows stop = IsRefusalIn (frame_of_rows (columns rows []) rows) (length rows) stop

-- a line's numbers at the unit columns, from its own with the sign turned where its constant is
-- negative
abbrev pub multipliers_of : ℕ → List ℤ → Result (List ℤ) Step.Wide
multipliers_of constants line = upright_line constants line >>= λ own. Ok (drop (constants + 1) own)

-- a line's numbers at the unit columns, with the sign that makes its constant positive
pub record IsMultipliers (constants : ℕ) (t : Tableau) (line : ℕ) (by : List ℤ) : Type 0 where
  pub each : length by ≡ length t.lines
  pub sign : ℤ
  pub one : unsigned_abs sign ≡ 1
  pub upright : (l : ℕ) → l < length t.lines
      → entry by l ≡ sign *ℤ numbers_of t line (constants + 1 + l)
  pub positive : pos 0 <ℤ (sign *ℤ numbers_of t line constants)

-- what an answer stands on: a line that refutes the rows, or a corner of all rows
abbrev pub AnswerOf : Framed → ℕ → List Kind → ℕ → Answer → Type 0
AnswerOf over constants kinds budget (answer.Yes by) = (t : Tableau)
    × ((line : ℕ) × (IsRefuted over constants kinds t line × IsMultipliers constants t line by))
AnswerOf over constants kinds budget (answer.No point) = (t : Tableau)
    × ((enters : List Bool)
    × (IsMet over constants kinds enters t × IsCornerOf t constants constants point))
AnswerOf over constants kinds budget (answer.Bound at certs case point) = ⊥
AnswerOf over constants kinds budget (answer.Unbounded case point ray) = ⊥
AnswerOf over constants kinds budget (answer.Basis relations spots free) = ⊥
AnswerOf over constants kinds budget (answer.Limit l) = (l ≡ limit.Pivots)
    × (budget < choose (over.units + length kinds) (length kinds))

-- what the search over the frame of the rows found
abbrev pub IsFoundFor : ℕ → List Row → Answer → Type 0
IsFoundFor budget rows a = AnswerOf (frame_of_rows (columns rows []) rows) (length (columns rows []))
    (kinds_of rows) budget a

-- The step is one of the search over the frame of the rows, or of the test of what the search
-- finds.
pub data IsRowsStep (rows : List Row) (step : Step.Wide) : Type 0 where
  rows_search : IsFrameStep (frame_of_rows (columns rows []) rows) (length rows) step
      → IsRowsStep rows step
  rows_test : (a : Answer) → IsFoundFor (2 ^ 127 - 1) rows a
      → outcome (Infeasible rows) a ≡ Err step → IsRowsStep rows step

-- what the call for rows owes of its answer
pub record IsRowsAnswer (rows : List Row) (a : Answer) : Type 0 where
  pub passes : Passes (Infeasible rows) a
  pub pivots : PivotsOf (2 ^ 127 - 1) rows a
  pub wide : IsCalm (Infeasible rows) → IsWide a → ⊥
  pub calm : IsLiveAndCalm (Infeasible rows) → IsLimit a → ⊥
  pub step : NamesStep (IsRowsStep rows) a
