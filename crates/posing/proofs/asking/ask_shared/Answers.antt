use Rattle.std.proofs.Common.{subst, sym, ◌∙◌}
use Rattle.posing.specs.Follows.{Follows}
use Rattle.posing.specs.Logs.{log_of}
use Rattle.posing.specs.Posing.{answer_to}
use Rattle.posing.proofs.asking.ask_shared.Goals as goal

pub returns : goal.returns
returns g c =
    subst (λ answers. Follows g.O.Oracle.asking c.args.oracle.now c.answer_into-result.new.oracle c.args.log.now (log_of c.args.log.now.notes answers) c.answer_into-result.result (answer_to c.args.question.now))
    (sym c.from_vec.ensures)
    (subst (λ answers. Follows g.O.Oracle.asking c.args.oracle.now c.answer_into-result.new.oracle (log_of c.args.log.now.notes answers) (log_of c.args.log.now.notes c.answer_into-result.new.answers.items) c.answer_into-result.result (answer_to c.args.question.now))
    (c.into_vec-answers.ensures ∙ c.replace.ensures.value)
    (c.answer_into-result.ensures c.args.log.now.notes))
