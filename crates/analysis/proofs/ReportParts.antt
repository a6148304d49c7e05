-- What a report is made from, where all procedures are found.
--     flows-are, flows-hold      a flow for each procedure, which holds
--     blocks-met                 the summary of each block is met
--     blocks-fit                 and fits its procedure
--     blocks-all                 there is a block for each procedure
use Rattle.std.proofs.Common.{◌≡◌, ℕ, ◌<◌, length, map, arith, ◌∙◌}
use Rattle.std.specs.Prelude.{Some, slice_get}
use Rattle.syntax_tree.specs.declared.program.Proc.{Proc}
use Rattle.syntax_tree.specs.declared.program.Program.{Program}
use Rattle.transition_formula.specs.Transition.{Transition}
use Rattle.vocabularies.specs.Procs.{IsProcOf}
use Rattle.leaf_cases.specs.Conditions.{IsKnown}
use Rattle.leaf_cases.specs.Summaries.{SummaryIsMet}
use Rattle.proc_summary.specs.declared.stop.Flow.{Flow}
use Rattle.context.specs.Claims.{AreFlows, FlowsHold}
use Rattle.report.specs.declared.blocks.ProcBlock.{ProcBlock}
use Rattle.analysis.specs.declared.found.Found.{Found}
use Rattle.analysis.specs.Analysis.{blocks_by}
use Rattle.analysis.specs.Claims.{FitsFound, FoundIsMet, HasAll}
use Rattle.analysis.specs.Found.{flows_in}
use Rattle.analysis.proofs.KnownBlocks.{block-known, flow-known, flows-long}
use Rattle.analysis.proofs.ReportCover.{blocks-cover}

module _ (program : Program) (found : Found) (fits : FitsFound program found) (all : HasAll program found) where
  flow-there : (i : ℕ) → i < length found.flows → (flow : Flow) × (slice_get found.flows i ≡ Some (Some flow))
  flow-there i lt = let long = fits.flows in let at = all i (omega (arith, lt, long)) in (at.flow, at.flow_is)

  known-there : (i : ℕ) → i < length program.procs → (f : Transition) × (slice_get found.known i ≡ Some (Some f))
  known-there i lt = let at = all i lt in (at.formula, at.known)

  pub flows-are : AreFlows program (flows_in found)
  flows-are =
      record {
        each = flows-long found.flows flow-there ∙ fits.flows;
        fit = λ proc p flow is at. fits.fit proc flow (flow-known found.flows flow-there proc flow at) p is;
      }

  pub flows-hold : FoundIsMet program found → FlowsHold program (flows_in found)
  flows-hold met proc flow at = met.flows proc flow (flow-known found.flows flow-there proc flow at)

  pub blocks-met : FoundIsMet program found → (proc : ℕ) (block : ProcBlock) → slice_get (blocks_by program program.procs found.known found.notes) proc ≡ Some block → SummaryIsMet program proc block.formula
  blocks-met met proc block at =
      met.summaries proc block.formula (block-known program program.procs found.known found.notes fits.known.each fits.notes known-there proc block at)

  pub blocks-fit : (proc : ℕ) (p : Proc) (block : ProcBlock) → IsProcOf program proc p → slice_get (blocks_by program program.procs found.known found.notes) proc ≡ Some block → IsKnown program p block.formula
  blocks-fit proc p block is at =
      fits.known.fit proc p block.formula is (block-known program program.procs found.known found.notes fits.known.each fits.notes known-there proc block at)

  pub blocks-all : map (λ (b : ProcBlock). b.name) (blocks_by program program.procs found.known found.notes) ≡ map (λ (p : Proc). p.name) program.procs
  blocks-all = blocks-cover program program.procs found.known found.notes fits.known.each fits.notes known-there
