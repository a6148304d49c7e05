use Rattle.std.proofs.Common.{◌∙◌}
use Rattle.transition_formula.proofs.Opposites.{each_once-apart}
use Rattle.transition_formula.proofs.tidy.once_and_met.Goals as goal

pub opposites_met-requires-clause-apart : goal.opposites_met-requires-clause-apart
opposites_met-requires-clause-apart c = each_once-apart c.args.rows c.as_slice.result.now (c.as_slice.ensures ∙ c.in_ok-rows.ensures.made)
