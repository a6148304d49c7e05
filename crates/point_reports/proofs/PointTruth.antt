-- The report with what holds at points is true.
use Rattle.std.proofs.Common.{◌≡◌, ℕ, false, List, [], Option, None, Some, ap, subst, ◌∙◌}
use Rattle.std.specs.Prelude.{IfOk, IfSome, Result, Ok, Err, map, slice_get}
use Rattle.std.proofs.lemmas.Option.{slice_get_within}
use Rattle.items.proofs.Each.{each-more}
use Rattle.syntax_tree.specs.declared.program.Program.{Program}
use Rattle.syntax_tree.specs.Code.{Statement, Set, Any, Call, Guard, Check, If, Loop, Break, Continue, Return}
use Rattle.syntax_tree.specs.WellFormed.{IsWellFormed, width_of}
use Rattle.flow_graph.specs.FlowGraph.{Arc}
use Rattle.leaf_cases.specs.Summaries.{KnowsCallee}
use Rattle.leaf_cases.proofs.Graphs.{EdgeFits}
use Rattle.proc_summary.specs.Subject.{own_graph}
use Rattle.context.proofs.WaysFit.{arcs-fit}
use Rattle.posing.specs.declared.error.WorkError.{WorkError}
use Rattle.report.specs.declared.blocks.ProcBlock.{ProcBlock}
use Rattle.report.specs.Claims.{ReportCovers}
use Rattle.point_rounds.specs.declared.round.PointRound.{PointRound}
use Rattle.point_rounds.specs.declared.round.PointState.{PointState}
use Rattle.point_rounds.specs.Closed.{StatesHold, TellCalls}
use Rattle.point_search.specs.declared.found.FoundTable.{FoundTable}
use Rattle.analysis.specs.declared.whole.FoundReport.{FoundReport}
use Rattle.analysis.specs.Claims.{FitsFoundReport, FoundReportHolds}
use Rattle.point_reports.specs.Claims.{PointRowsAreMet}
use Rattle.point_reports.specs.declared.whole.PointReport.{PointReport}
use Rattle.point_reports.specs.Parts.{CoversRound, IsKnownAtPoints, IsTrueRound, KeepsReport}

-- a search that finds no table
pub no_table : FoundTable
no_table = record { table = None; is_cut = false }

-- where no rows are told, none have to be true
pub none-met : (program : Program) → PointRowsAreMet program []
none-met program n told at = absurd (cc at)

module _ (program : Program) (made : FoundReport) (formed : IsWellFormed program) (fits : FitsFoundReport program made) where
  -- each procedure that is called is known
  callee-known : (width : ℕ) (act : Statement) → EdgeFits program width act → KnowsCallee made.known act
  callee-known width (Call proc args into) fit = fits.all proc (slice_get_within program.procs proc fit.callee fit.is)
  callee-known width (Set col value) fit = tt
  callee-known width (Any col) fit = tt
  callee-known width (Guard cond) fit = tt
  callee-known width (Check number cond) fit = tt
  callee-known width (If cond on_true on_false) fit = tt
  callee-known width (Loop pre cond body step first) fit = tt
  callee-known width Break fit = tt
  callee-known width Continue fit = tt
  callee-known width Return fit = tt

  pub calls-told : FoundReportHolds program made → TellCalls program made.known
  calls-told holds = record {
    fits = fits.known;
    met = holds.summaries;
    callees = λ proc p is.
        each-more (λ (way : Arc). EdgeFits program (width_of program p) way.act) (λ (way : Arc). KnowsCallee made.known way.act) (λ way fit. callee-known (width_of program p) way.act fit) (own_graph p).arcs (arcs-fit program formed proc p is);
  }

  -- what is known of a round, if there is one
  pub round-known : (states : List PointState) (round : Option PointRound) (holds : FoundReportHolds program made) → StatesHold program states
      → IfSome round (CoversRound program made.known states) → IfSome round (IsTrueRound program) → IfSome round (IsKnownAtPoints program)
  round-known states None holds reached covered rows = tt
  round-known states (Some round) holds reached covered rows = (made.known, states, record { rows = rows; calls = calls-told holds; reached = reached; covered = covered })

-- what keeps the procedures of a report and where its assertions stand covers the program as it does
pub report-covers : (program : Program) (before : FoundReport) (r : Result PointReport WorkError) → IfOk r (KeepsReport before) → ReportCovers program before.report → IfOk r (λ (made : PointReport). ReportCovers program made.report)
report-covers program before (Err e) keeps covers = tt
report-covers program before (Ok made) keeps covers = record {
  blocks = ap (map (λ (b : ProcBlock). b.name)) keeps.procs ∙ covers.blocks;
  verdicts = keeps.ats ∙ covers.verdicts;
  fit = λ proc p block is at. covers.fit proc p block is (subst (λ blocks. slice_get blocks proc ≡ Some block) keeps.procs at);
}
