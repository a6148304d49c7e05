-- What the bounds that `cra cost NAME` prints say, in words of executions alone.
use Rattle.std.specs.Prelude.{◌≡◌, ℕ, ℤ, List, ◌++◌, map, Option, Some, slice_get}
use Rattle.std.specs.Io.KnownBytes.{Appends}
use Rattle.linear_terms.specs.declared.row.Case.{Case}
use Rattle.transition_formula.specs.Meaning.{HoldsCase}
use Rattle.farkas_check.specs.declared.answer.Answer.TheVariants.{Yes}
use Rattle.farkas_check.specs.declared.question.Question.TheVariants.{Infeasible}
use Rattle.farkas_check.specs.Tested.{Passes}
use Rattle.syntax_tree.specs.declared.program.Proc.{Proc}
use Rattle.syntax_tree.specs.declared.program.Program.{Program}
use Rattle.execution.specs.Execution.{Returns}
use Rattle.leaf_cases.specs.Summaries.{exit_values}
use Rattle.cost_bounds.specs.declared.cost.Cost.{Cost}
use Rattle.cost_bounds.specs.declared.cost.Cost.TheVariants as cost
use Rattle.cost_bounds.specs.Says.{IsMet}
use Rattle.report.specs.declared.blocks.ProcBlock.{ProcBlock}
use Rattle.commands.specs.Cost.{IsGlobal, costs_text}

-- Some case of the procedure's summary holds of two states, and what is told of it is met by the
-- change of the global between them.
pub record IsBounded (number : ℕ) (blocks : List ProcBlock) (costs : List (List Cost)) (proc : ℕ)
    (before after : List ℤ) : Type 0 where
  pub block : ProcBlock
  pub told : List Cost
  pub place : ℕ
  pub case : Case
  pub made : Cost
  pub is_block : slice_get blocks proc ≡ Some block
  pub is_told : slice_get costs proc ≡ Some told
  pub is_case : slice_get block.formula.cases place ≡ Some case
  pub is_made : slice_get told place ≡ Some made
  pub holds : HoldsCase case before after
  pub met : IsMet number before after made

-- the multipliers of a bound pass the test of the rows that are left of its question
abbrev pub IsShown : Cost → Type 0
IsShown (cost.Exact p) = Unit {0}
IsShown (cost.Bound scale p kept by) = Passes (Infeasible kept) (Yes by)
IsShown (cost.Unbounded point) = Unit {0}
IsShown (cost.Limit l) = Unit {0}

-- The text tells procedures of the program, in order and with their names, and something of each of
-- their cases. Each execution of a procedure that returns is held by some case of its summary, and
-- the global of the name changes as is told of that case; each bound is shown.
pub record AreTrueBounds (program : Program) (name text : List ℕ) : Type 0 where
  pub number : ℕ
  pub global : IsGlobal program name number
  pub blocks : List ProcBlock
  pub costs : List (List Cost)
  pub printed : text ≡ costs_text blocks costs
  pub names : map (λ (b : ProcBlock). b.name) blocks ≡ map (λ (p : Proc). p.name) program.procs
  pub bounded : (proc : ℕ) (p : Proc) → slice_get program.procs proc ≡ Some p
      → (globals args after : List ℤ) (value : ℤ) → Returns program proc globals args after value
      → IsBounded number blocks costs proc (globals ++ args) (exit_values p after value)
  pub shown : (proc place : ℕ) (told : List Cost) (made : Cost) → slice_get costs proc ≡ Some told
      → slice_get told place ≡ Some made → IsShown made

-- a sink took true bounds behind what it had
abbrev pub TellsTrueBounds : Program → List ℕ → Option (List ℕ) → Option (List ℕ) → Type 0
TellsTrueBounds program name before after = (text : List ℕ) × AreTrueBounds program name text
    × Appends before after text
