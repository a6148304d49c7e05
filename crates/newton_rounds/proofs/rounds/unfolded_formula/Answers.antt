use Rattle.std.proofs.Common.{refl}
use Rattle.posing.proofs.Steps.{error_first, in_other_words, value_first}
use Rattle.proc_summary.specs.Summary.{ends_of, summary_from}
use Rattle.newton_rounds.proofs.ExitFormulas.{unfolded-by-exit}
use Rattle.newton_rounds.proofs.rounds.unfolded_formula.Goals as goal

pub exit_summary-requires-clause-exit : goal.exit_summary-requires-clause-exit
exit_summary-requires-clause-exit g c = λ p is. c.in_ok-exit.ensures.fits p is

pub returns-in_err-exit-clause-follows : goal.returns-in_err-exit-clause-follows
returns-in_err-exit-clause-follows g c = λ p is.
    in_other_words (unfolded-by-exit c.args.program.now c.args.known.now p)
    (error_first (summary_from (ends_of c.args.program.now p)) (c.in_err-exit.ensures.follows p is) refl c.from_residual.ensures.1)

pub returns-clause-follows : goal.returns-clause-follows
returns-clause-follows g c = λ p is.
    in_other_words (unfolded-by-exit c.args.program.now c.args.known.now p)
    (value_first (summary_from (ends_of c.args.program.now p)) (c.in_ok-exit.ensures.follows p is) refl (c.exit_summary.ensures.follows p is))
