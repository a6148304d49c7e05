use Rattle.std.proofs.Common.{◌∙◌}
use Rattle.elimination.proofs.NullVectors.{answer_other, solution_answer}
use Rattle.elimination.proofs.null_vectors.solution_of.Goals as goal

pub unreachable-requires : goal.unreachable-requires
unreachable-requires c = answer_other c.args.lines.now c.args.rows.now c.in_ok-answer.answer c.requires.lines c.requires.rows c.in_ok-answer.ensures.calm c.in_ok-answer.ensures.tight c.in_default.not-No

pub returns : goal.returns
returns c =
    solution_answer c.args.lines.now c.args.rows.now c.args.rows.now c.as_slice.result.now c.in-No.point c.as_slice-2.result.now c.in_ok-answer.answer c.with_one.result c.requires.lines
    c.requires.rows c.requires.rows (c.as_slice.ensures ∙ c.in_ok-columns.ensures) c.as_slice-2.ensures c.in-No.is c.in_ok-answer.ensures.tight c.with_one.ensures
