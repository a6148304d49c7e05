use Rattle.std.proofs.Common.{refl}
use Rattle.posing.proofs.Steps.{at_end, value_first}
use Rattle.analysis.specs.Parts.{with_plain}
use Rattle.analysis.proofs.parts.with_plain.Goals as goal

pub returns-clause-follows : goal.returns-clause-follows
unfolding with_plain
returns-clause-follows g c = λ p is.
    value_first _ (c.in_ok-own.ensures.follows p is) refl
    (value_first _ (c.in_ok-formula.ensures.follows p is) refl
    (at_end (λ i. record { formulas = c.in_ok-push.ensures.ok i; flows = c.in_ok-push-2.ensures.ok i })))

pub returns-clause-flow : goal.returns-clause-flow
returns-clause-flow g c = record { flow = c.in_ok-own.own; is = c.in_ok-push-2.ensures.ok; fits = λ p is. c.in_ok-own.ensures.fits p is; holds = λ met. c.in_ok-own.ensures.holds met }

pub returns-clause-summary : goal.returns-clause-summary
returns-clause-summary g c =
    record {
      formula = c.in_ok-formula.formula;
      is = c.in_ok-push.ensures.ok;
      fits = λ p is. c.in_ok-formula.ensures.known p is;
      met = λ met. c.in_ok-formula.ensures.met (c.in_ok-own.ensures.holds met);
    }
