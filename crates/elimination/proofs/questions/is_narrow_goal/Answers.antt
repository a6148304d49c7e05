use Rattle.std.proofs.Common.{rules, List, sym, subst}
use Rattle.std.specs.Prelude.{IsTrue}
use Rattle.linear_terms.specs.declared.row.Row.{Row}
use Rattle.farkas_check.specs.Sizes.{IsNarrow}
use Rattle.farkas_check.specs.declared.question.Question.TheVariants as question
use Rattle.elimination.proofs.NarrowCases.{goal_rows_narrow}
use Rattle.elimination.proofs.questions.is_narrow_goal.Goals as goal

pub has_point-requires : goal.has_point-requires
has_point-requires c =
    let small : IsTrue c.in_ok-is_small_goal.field-0 = search rules in
    subst (λ (rows : List Row). IsNarrow (question.Infeasible rows)) (sym c.as_slice.ensures) (goal_rows_narrow c.args.goal.now (c.in_ok-is_small_goal.ensures.0 small))
