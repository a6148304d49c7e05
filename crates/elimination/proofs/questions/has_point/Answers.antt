use Rattle.std.proofs.Common.{sym, ◌∙◌}
use Rattle.elimination.proofs.NarrowCases.{no_has_point, point_says_no}
use Rattle.elimination.proofs.questions.has_point.Goals as goal

pub returns : goal.returns
returns c = (
  λ e. no_has_point c.args.rows.now c.in_ok-answer.answer (c.in_ok-answer.ensures.narrow c.requires) c.in_ok-answer.ensures.tight (sym c.is_no.ensures ∙ e),
  λ p. c.is_no.ensures ∙ point_says_no c.args.rows.now c.in_ok-answer.answer (c.in_ok-answer.ensures.narrow c.requires) c.in_ok-answer.ensures.tight p,
)
