use Rattle.posing.proofs.Steps.{value_first}
use Rattle.syntax_tree.specs.Term.{term_of}
use Rattle.context.specs.Verdicts.{failure_verdict_from, reach_from, verdict_of}
use Rattle.context.proofs.WaysToAssertions.{none-fails}
use Rattle.context.proofs.assertion.verdict_at.Goals as goal

pub returns-clause-follows : goal.returns-clause-follows
unfolding verdict_of
returns-clause-follows g c =
    value_first (failure_verdict_from c.args.place.now (term_of c.args.cond.now)) c.in_ok-f.ensures.follows
    (λ i. reach_from c.args.place.now (c.in_ok-begun.ensures.exact i) (c.in_ok-stand.ensures.exact i)) c.failure_verdict.ensures.follows

pub returns-clause-sound : goal.returns-clause-sound
returns-clause-sound g c = λ e.
    none-fails c.args.place.now (term_of c.args.cond.now) c.args.entry.now c.args.stand.now c.in_ok-begun.begun c.in_ok-stand.stand c.in_ok-f.f
    c.in_ok-begun.ensures.holds c.in_ok-stand.ensures.exact c.in_ok-f.ensures.holds (c.failure_verdict.ensures.sound e)
