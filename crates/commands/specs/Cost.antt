-- What is answered to `cra cost NAME`: by how much each case of each summary changes a global.
use Rattle.std.specs.Prelude.{◌≡◌, ◌⊎◌, ℕ, ◌≤◌, List, [], ◌∷◌, ◌++◌, length, Option, Some, codes, slice_get}
use Rattle.linear_terms.specs.declared.row.Case.{Case}
use Rattle.farkas_check.specs.declared.answer.Answer.{Answer}
use Rattle.syntax_tree.specs.declared.program.GlobalVar.{GlobalVar}
use Rattle.syntax_tree.specs.declared.program.Program.{Program}
use Rattle.posing.specs.declared.note.Note.{Note}
use Rattle.posing.specs.Follows.{IsGood}
use Rattle.posing.specs.Posing.{Path, Done}
use Rattle.cost_bounds.specs.declared.cost.Cost.{Cost}
use Rattle.cost_bounds.specs.Costs.{case_cost}
use Rattle.cost_bounds.specs.Says.{IsMetByCase, Says}
use Rattle.report.specs.declared.blocks.ProcBlock.{ProcBlock}
use Rattle.report.specs.declared.blocks.Report.{Report}
use Rattle.report.specs.Costs.{proc_costs_text}
use Rattle.finder.specs.Found.{IsFound}
use Rattle.summary_cache.specs.Accepted.{Accepts}
use Rattle.summary_cache.specs.Limits.{most_bytes}
use Rattle.commands.specs.declared.reply.Reply.{Reply}
use Rattle.commands.specs.declared.status.Status.TheVariants as ended
use Rattle.commands.specs.declared.words.Work.TheVariants as work
use Rattle.commands.specs.Stated.{IsAnalysed}
use Rattle.commands.specs.Within.{OrRefused, Within}
use Rattle.commands.specs.Words.{work_of}

-- ---- the global

-- the global of this number has the name
abbrev pub IsGlobal : Program → List ℕ → ℕ → Type 0
IsGlobal program name number = (global : GlobalVar)
    × (slice_get program.globals number ≡ Some global) × (global.name ≡ name)

-- some global of the program has the name
abbrev pub HasGlobal : Program → List ℕ → Type 0
HasGlobal program name = (number : ℕ) × IsGlobal program name number

-- no global of the program has the name
abbrev pub HasNoGlobal : Program → List ℕ → Type 0
HasNoGlobal program name = (number : ℕ) → ¬ IsGlobal program name number

-- ---- what it costs

-- By how much a case changes the global of a number: what the stated computation comes to under
-- answers that the finder may give, each of which passes and is true. The case meets it.
pub record IsCostOf (number : ℕ) (case : Case) (made : Cost) : Type 0 where
  pub notes : List Note
  pub answers : List Answer
  pub stated : Path (IsGood IsFound) (case_cost case number) notes answers (Done made)
  pub met : IsMetByCase case number made
  pub says : Says IsFound case number made

-- as many elements in both lists, and those at the same place belong together
pub record ArePairs {X Y : Type 0} (P : X → Y → Type 0) (xs : List X) (ys : List Y) : Type 0 where
  pub long : length ys ≡ length xs
  pub each : (place : ℕ) (x : X) (y : Y) → slice_get xs place ≡ Some x
      → slice_get ys place ≡ Some y → P x y

-- one for each case
abbrev pub AreCostsOf : ℕ → List Case → List Cost → Type 0
AreCostsOf number cases costs = ArePairs (IsCostOf number) cases costs

-- and for each procedure
abbrev pub AreCosts : ℕ → List ProcBlock → List (List Cost) → Type 0
AreCosts number blocks costs =
    ArePairs (λ (block : ProcBlock) made. AreCostsOf number block.formula.cases made) blocks costs

-- The text is accepted, and the global of this number has the name; these are the costs of the
-- cases of the report of its analysis.
pub record IsCosted (text name : List ℕ) (number : ℕ) (report : Report)
    (costs : List (List Cost)) : Type 0 where
  pub answers : List Answer
  pub analysed : IsAnalysed text answers report
  pub global : IsGlobal analysed.program name number
  pub are : AreCosts number report.procs costs

-- The text is accepted, and has no global of the name.
pub record IsUnknown (text name : List ℕ) : Type 0 where
  pub program : Program
  pub accepted : Accepts text program
  pub none : HasNoGlobal program name

-- ---- the reply

-- the procedures in order
abbrev pub costs_text : List ProcBlock → List (List Cost) → List ℕ
costs_text [] costs = []
costs_text (block ∷ blocks) [] = []
costs_text (block ∷ blocks) (made ∷ costs) = proc_costs_text block made ++ costs_text blocks costs

-- the answer that tells the costs of the procedures
abbrev pub costs_reply : List ProcBlock → List (List Cost) → Reply
costs_reply blocks costs = record { status = ended.CostsTold; text = costs_text blocks costs }

-- the answer where no global has the name
abbrev pub no_global_reply : List ℕ → Reply
no_global_reply name = record {
  status = ended.NoGlobal;
  text = codes "no global " ++ name ++ codes "\n";
}

-- the text is accepted, and this tells the costs, or that there is no such global
abbrev pub TellsCosts : List ℕ → List ℕ → Reply → Type 0
TellsCosts name text reply =
    ((number : ℕ) × (report : Report) × (costs : List (List Cost))
    × IsCosted text name number report costs × (reply ≡ costs_reply report.procs costs))
    ⊎ (IsUnknown text name × (reply ≡ no_global_reply name))

-- an accepted text within the limit is answered with its costs
abbrev pub IsReplyToCost : List ℕ → List ℕ → Reply → Type 0
IsReplyToCost name input reply =
    Within most_bytes input (OrRefused input (TellsCosts name input)) reply

-- The words ask for the costs of all that the source has: a text within the limit that is accepted.
pub record IsToCost (words : List (List ℕ)) (left : Option (List ℕ)) : Type 0 where
  pub name : List ℕ
  pub asked : work_of words ≡ Some (work.Cost name)
  pub input : List ℕ
  pub whole : left ≡ Some input
  pub short : length input ≤ most_bytes
  pub program : Program
  pub accepted : Accepts input program
