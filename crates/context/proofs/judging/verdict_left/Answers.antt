use Rattle.std.proofs.Common.{sym, ap, ◌∙◌}
use Rattle.posing.proofs.Steps.{in_other_words}
use Rattle.context.specs.SecondQuestions.{by_rule}
use Rattle.context.specs.Verdicts.{verdict_at}
use Rattle.context.proofs.judging.verdict_left.Goals as goal

pub returns-then-has_phases-clause-follows : goal.returns-then-has_phases-clause-follows
returns-then-has_phases-clause-follows g c =
    in_other_words (ap (λ phases. by_rule phases (verdict_at c.args.case c.args.case.rows)) (sym c.if-has_phases.true ∙ c.has_phases.ensures)) c.twofold_verdict.ensures.follows

pub returns-clause-follows : goal.returns-clause-follows
returns-clause-follows g c =
    in_other_words (ap (λ phases. by_rule phases (verdict_at c.args.case c.args.case.rows)) (sym c.if-has_phases.false ∙ c.has_phases.ensures)) c.verdict_at.ensures.follows
