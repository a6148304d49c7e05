use Rattle.std.proofs.Common.{◌∙◌}
use Rattle.vocabularies.proofs.Linear.{is_linear-some}
use Rattle.vocabularies.proofs.terms.is_linear.Goals as goal

pub returns-in_default : goal.returns-in_default
returns-in_default c = c.are_single.ensures ∙ is_linear-some c.args.terms.now c.in_default.len_at_least
