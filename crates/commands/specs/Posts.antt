-- A global that is found by its name, formulas that have a post for it, and what is told of a
-- report then.
use Rattle.std.specs.Prelude.{◌≡◌, ℕ, ◌<◌, List, length, Option, None, Some, slice_get}
use Rattle.syntax_tree.specs.declared.program.Program.{Program}
use Rattle.cost_bounds.specs.declared.cost.Cost.{Cost}
use Rattle.summary_cache.specs.Accepted.{Accepts}
use Rattle.commands.specs.declared.reply.Reply.{Reply}
use Rattle.commands.specs.Cost.{AreCosts, HasNoGlobal, IsGlobal, costs_reply}
use Rattle.linear_terms.specs.declared.row.Case.{Case}
use Rattle.report.specs.declared.blocks.ProcBlock.{ProcBlock}

-- the global of the name has this number, or there is none
abbrev pub IsFoundAs : Program → List ℕ → Option ℕ → Type 0
IsFoundAs program name (Some number) = IsGlobal program name number
IsFoundAs program name None = HasNoGlobal program name

-- each case has a post of this number
pub record HavePost (number : ℕ) (cases : List Case) : Type 0 where
  pub each : (place : ℕ) (case : Case) → slice_get cases place ≡ Some case
      → number < length case.post

-- each case of each summary has
pub record HavePosts (number : ℕ) (blocks : List ProcBlock) : Type 0 where
  pub each : (proc : ℕ) (block : ProcBlock) → slice_get blocks proc ≡ Some block
      → HavePost number block.formula.cases

-- the text is accepted, and the global of this number has the name
pub record IsNumberIn (text name : List ℕ) (number : ℕ) : Type 0 where
  pub program : Program
  pub accepted : Accepts text program
  pub global : IsGlobal program name number

-- this tells the costs of these procedures
pub record TellsCostsOf (number : ℕ) (blocks : List ProcBlock) (reply : Reply) : Type 0 where
  pub costs : List (List Cost)
  pub are : AreCosts number blocks costs
  pub is : reply ≡ costs_reply blocks costs
