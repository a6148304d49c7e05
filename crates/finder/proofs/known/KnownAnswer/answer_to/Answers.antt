use Rattle.std.proofs.Common.{rules, ◌≡◌, List, sym, subst}
use Rattle.linear_terms.specs.declared.row.Row.{Row}
use Rattle.farkas_check.specs.declared.answer.Answer.{Answer}
use Rattle.farkas_check.specs.declared.question.Question.TheVariants as question
use Rattle.finder.specs.Found.{IsFound}
use Rattle.finder.proofs.known.KnownAnswer.answer_to.Goals as goal

pub returns-in_ok-copy : goal.returns-in_ok-copy
returns-in_ok-copy c =
    let same : c.self.inside.rows ≡ c.args.rows.now = search rules in
    let copy : c.in_ok-copy.copy ≡ c.self.inside.answer = search rules in
    subst (λ (a : Answer). IsFound (question.Infeasible c.args.rows.now) a) (sym copy) (subst (λ (rows : List Row). IsFound (question.Infeasible rows) c.self.inside.answer) same c.self.invariant)
