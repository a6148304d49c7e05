use Rattle.std.proofs.Common.{refl}
use Rattle.posing.proofs.Steps.{at_end, error_first, in_other_words, value_first}
use Rattle.analysis.proofs.FoundReports.{report-found}
use Rattle.analysis.proofs.whole.report_by_findings.Goals as goal

pub returns-in_err-made-clause-follows : goal.returns-in_err-made-clause-follows
returns-in_err-made-clause-follows g c =
    in_other_words (report-found c.args.program.now c.args.places.now c.args.found) (error_first _ c.in_err-made.ensures.follows refl c.from_residual.ensures.1)

pub returns-clause-follows : goal.returns-clause-follows
returns-clause-follows g c =
    in_other_words (report-found c.args.program.now c.args.places.now c.args.found) (value_first _ c.in_ok-made.ensures.follows refl (at_end refl))

pub returns-clause-met : goal.returns-clause-met
returns-clause-met g c = λ met. c.in_ok-made.ensures.met met

pub returns-clause-covers : goal.returns-clause-covers
returns-clause-covers g c = λ theirs. c.in_ok-made.ensures.covers theirs
