use Rattle.std.proofs.Common.{sym, ap, ◌∙◌}
use Rattle.posing.proofs.Steps.{at_end, in_other_words}
use Rattle.forward_graphs.specs.Within.{is_within, most_walk_cases}
use Rattle.forward_graphs.proofs.Between.{large-same, small-same}
use Rattle.forward_graphs.proofs.fitting.fitted_formula_within.Goals as goal

pub returns-then-is_within : goal.returns-then-is_within
returns-then-is_within g c =
    in_other_words
    (small-same c.args.f.now c.args.ends.from.now c.args.ends.to.now (ap (is_within most_walk_cases) (sym c.cases.ensures.cases) ∙ sym c.is_within.ensures ∙ c.if-is_within.true))
    (at_end c.in_ok-copy.ensures.cases)

pub returns : goal.returns
returns g c =
    in_other_words
    (large-same c.args.f.now c.args.ends.from.now c.args.ends.to.now (ap (is_within most_walk_cases) (sym c.cases.ensures.cases) ∙ sym c.is_within.ensures ∙ c.if-is_within.false))
    c.fit.ensures.follows
