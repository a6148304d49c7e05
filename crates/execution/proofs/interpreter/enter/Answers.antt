use Rattle.std.proofs.Common.{◌≡◌, ◌≤◌, suc, ◌+◌, length, arith, ◌∙◌, sym, ap, ◌++◌, ◌∷◌, [], pos, append-nil, length-append}
use Rattle.syntax_tree.specs.Code.{code_of}
use Rattle.execution.specs.Interpreter.{items_of}
use Rattle.execution.specs.Machine.{pending}
use Rattle.execution.proofs.Numbers.{entered, filled-more, same_callee}
use Rattle.execution.proofs.interpreter.enter.Goals as goal

pub loop-own-init : goal.loop-own-init
loop-own-init c =
    let params = c.requires.params in
    let room = c.requires.room in
    let width = c.len-width.ensures in
    let callee = same_callee _ _ _ _ _ c.as_slice.ensures c.index-as_slice-proc.is c.requires.is in
    let columns : length c.index-as_slice-proc.result.columns ≡ length c.requires.callee.columns = ap (λ p. length p.columns) callee in
    (omega arith, 0, sym (append-nil _))

pub loop-own-preserved : goal.loop-own-preserved
loop-own-preserved c =
    let pushed : c.push.new.self ≡ c.loop-own.own ++ pos 0 ∷ [] = c.in_ok-push.ensures.ok in
    let longer = ap length pushed ∙ length-append c.loop-own.own (pos 0 ∷ []) in
    let within : length c.push.new.self ≤ c.len-width.result + 1 = omega (arith, longer, c.loop-own-test.true, c.len.ensures) in
    (within, suc c.loop-own.invariant.1, pushed ∙ filled-more _ _ _ c.loop-own.invariant.2)

pub returns : goal.returns
returns c =
    let callee = same_callee _ _ _ _ _ c.as_slice.ensures c.index-as_slice-proc.is c.requires.is in
    let columns : length c.index-as_slice-proc.result.columns ≡ length c.requires.callee.columns = ap (λ p. length p.columns) callee in
    let width : length c.loop-own.own ≡ length c.requires.callee.columns + 1 =
    omega (arith, columns, c.len-width.ensures, c.loop-own.invariant.0, c.loop-own-test.false, c.len.ensures) in
    let body : c.as_slice-2.result.now ≡ c.requires.callee.body = c.as_slice-2.ensures ∙ ap (λ p. p.body) callee in
    let todo : items_of c.push_code.new.tasks ≡ pending (code_of c.requires.callee.body) [] =
    c.in_ok-push_code.ensures ∙ (λ i. pending (code_of (body i)) (items_of (c.new-tasks.ensures i))) in
    entered c.args.program.now c.args.proc c.args.args c.args.into c.requires.callee _ _ c.loop-own.invariant.1 c.requires.is c.loop-own.invariant.2 width todo
