use Rattle.std.proofs.Common.{rules, ◌≡◌, List, sym, subst}
use Rattle.linear_terms.specs.declared.row.Row.{Row}
use Rattle.farkas_check.specs.declared.answer.Answer.{Answer}
use Rattle.farkas_check.specs.declared.question.Question.TheVariants as question
use Rattle.finder.specs.Found.{IsFound}
use Rattle.finder.proofs.known.known_answer.Goals as goal

pub invariant_of-result : goal.invariant_of-result
invariant_of-result c =
    let rows : c.in_ok-rows.rows ≡ c.args.rows.now = search rules in
    let answer : c.in_ok-answer.answer ≡ c.args.answer.now = search rules in
    subst (λ (a : Answer). IsFound (question.Infeasible c.in_ok-rows.rows) a) (sym answer) (subst (λ (rs : List Row). IsFound (question.Infeasible rs) c.args.answer.now) (sym rows) c.requires)
