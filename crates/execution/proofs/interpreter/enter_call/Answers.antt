use Rattle.std.proofs.Common.{ℕ, ◌∙◌, sym, subst}
use Rattle.std.proofs.lemmas.List.{length-map}
use Rattle.syntax_tree.specs.Term.{term_of}
use Rattle.execution.specs.Runnable.{IsCallable}
use Rattle.execution.proofs.Numbers.{numbers-length}
use Rattle.execution.proofs.interpreter.enter_call.Goals as goal

pub put_callee-requires : goal.put_callee-requires
put_callee-requires c =
    subst (λ (n : ℕ). IsCallable c.args.program.now c.args.proc n)
    (sym (numbers-length _ _ _ c.in_ok-values.ensures ∙ length-map c.args.args.now term_of)) c.requires.callee
