use Rattle.std.proofs.Common.{◌++◌, ◌∷◌, [], ap, sym, subst, ◌∙◌, refl}
use Rattle.posing.specs.Follows.{Leads, Follows}
use Rattle.posing.specs.Logs.{log_of}
use Rattle.posing.specs.Posing.{Done, answer_to}
use Rattle.posing.proofs.Following.{stops, asked_none, asked_lost, leads_asked}
use Rattle.posing.proofs.asking.answer_into.Goals as goal

pub returns-in_err-reserve : goal.returns-in_err-reserve
returns-in_err-reserve g c = λ notes. stops _ _ _ _ _ _ (ap (log_of notes) c.reserve.ensures.items) c.from_residual.ensures.1

pub returns-in_err-shared : goal.returns-in_err-shared
returns-in_err-shared g c = λ notes. stops _ _ _ _ _ _ (ap (log_of notes) c.in_ok-reserve.ensures.items) c.from_residual-in_err-shared.ensures.1

pub returns-in_default : goal.returns-in_default
returns-in_default g c = λ notes. stops _ _ _ _ _ _ (ap (log_of notes) c.in_ok-reserve.ensures.items) refl

pub returns-in_err-answer : goal.returns-in_err-answer
returns-in_err-answer g c = λ notes.
    let a = c.in_err-answer.ensures in
    subst (λ items. Follows g.O.Oracle.asking c.args.oracle.now c.ask.new.self (log_of notes c.args.answers.now.items) (log_of notes items) c.from_residual-in_err-answer.result (answer_to c.args.question.now))
    (sym c.in_ok-reserve.ensures.items)
    (asked_none g.O.Oracle.asking _ _ _ _ _ (λ answer. Done answer) c.in_err-answer.field-0.0 a.cause a.declined a.kept c.from_residual-in_err-answer.ensures.1)

pub returns-in_err-copy-in-Ok : goal.returns-in_err-copy-in-Ok
returns-in_err-copy-in-Ok g c = λ notes.
    let a = c.in_ok-answer.ensures in
    asked_lost _ _ _ _ _ _ _ _
    (leads_asked g.O.Oracle.asking _ _ (log_of notes c.args.answers.now.items) (log_of notes c.push.new.self.items) c.args.question.now c.in_ok-answer.answer (λ answer. Done answer)
    (record { passes = a.passes; is_true = a.sound; allowed = a.allowed }) a.taken a.cause.ok refl
    (c.in-Ok.ensures.items ∙ ap (λ items. items ++ c.in_ok-answer.answer ∷ []) c.in_ok-reserve.ensures.items))
    c.from_residual-in_err-copy-in-Ok.ensures.1

pub returns : goal.returns
returns g c = λ notes.
    let a = c.in_ok-answer.ensures in
    record {
      comes = subst (λ answer. Leads g.O.Oracle.asking c.args.oracle.now c.ask.new.self (log_of notes c.args.answers.now.items) (log_of notes c.push.new.self.items) (answer_to c.args.question.now) (Done answer))
          (sym c.in_ok-copy-in-Ok.ensures.cases)
          (leads_asked g.O.Oracle.asking _ _ (log_of notes c.args.answers.now.items) (log_of notes c.push.new.self.items) c.args.question.now c.in_ok-answer.answer (λ answer. Done answer)
          (record { passes = a.passes; is_true = a.sound; allowed = a.allowed }) a.taken a.cause.ok refl
          (c.in-Ok.ensures.items ∙ ap (λ items. items ++ c.in_ok-answer.answer ∷ []) c.in_ok-reserve.ensures.items));
    }
