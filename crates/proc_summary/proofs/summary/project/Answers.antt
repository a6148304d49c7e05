use Rattle.std.proofs.lemmas.Result.{IfOk-weaker}
use Rattle.transition_formula.specs.Meaning.{Covers}
use Rattle.syntax_tree.specs.WellFormed.{width_of}
use Rattle.vocabularies.specs.Ends.{entry_width}
use Rattle.leaf_cases.specs.Summaries.{SummaryIsMet}
use Rattle.proc_summary.specs.Summary.{ends_of, exit_formula, exit_places, projection_of}
use Rattle.proc_summary.proofs.CratesBelow.{some_at}
use Rattle.proc_summary.proofs.ExitSummaries.{summary-met}
use Rattle.proc_summary.proofs.summary.project.Goals as goal

pub exit_summary-requires-clause-exit : goal.exit_summary-requires-clause-exit
exit_summary-requires-clause-exit g c = λ p is. (c.requires.flow p is).exit

pub returns-clause-met : goal.returns-clause-met
returns-clause-met g c = λ holds.
    let program = c.args.program.now in
    let there = some_at program.procs c.args.proc c.requires.procedure in
    let p = there.0 in
    let is = there.1 in
    IfOk-weaker c.exit_summary.result (λ f. Covers f (projection_of (entry_width program p) (exit_places (ends_of program p)) (exit_formula (width_of program p) c.args.flow.now.exit.formula))) (SummaryIsMet program c.args.proc)
    (λ f covers. summary-met program c.args.proc p c.requires.formed is c.args.flow.now f (c.requires.flow p is) holds covers)
    (c.exit_summary.ensures.covers p is)
