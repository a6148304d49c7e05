use Rattle.std.proofs.Common.{sym, ◌∙◌, subst, ◌≢◌}
use Rattle.std.proofs.lemmas.Bool.{false≢true}
use Rattle.c_lexer.specs.declared.error.LexError.TheVariants.{Memory}
use Rattle.c_lexer.specs.Refusals.{IsRefused}
use Rattle.c_lexer.proofs.OneOutcome.{fault_before, fault_after, fault_in_cut}
use Rattle.c_lexer.proofs.lexing.first_fault.Goals as goal
use Rattle.c_lexer.proofs.lexing.first_fault.Goals.{in-Err, in_default-2, in_default}

pub returns-clause-first : goal.returns-clause-first
returns-clause-first c = λ text valid cut stops some. elim c.match-scanned.branch [
  | in-Err w ↦
      let real : w.in-Err.e ≢ Memory = λ e. some (w.result-is ∙ e) in
      subst (IsRefused text) (sym w.result-is)
      (fault_before text c.args.scanned w.in-Err.e c.args.at w.in-Err.is (cut, stops) valid real (sym (w.is_before.ensures.place real) ∙ w.if-is_before.true))
  | in_default-2 w ↦
      let real : w.in-Err.e ≢ Memory = λ e. false≢true (sym w.if-is_before.false ∙ w.is_before.ensures.memory e) in
      subst (IsRefused text) (sym w.result-is)
      (fault_after text c.args.scanned w.in-Err.e c.args.at w.in-Err.is (cut, stops) valid real (sym (w.is_before.ensures.place real) ∙ w.if-is_before.false))
  | in_default w ↦
      subst (IsRefused text) (sym w.result-is)
      (fault_in_cut text c.args.scanned w.in_default.field-0 c.args.at w.in_default.is (cut, stops) valid)
]
