use Rattle.std.proofs.Common.{◌++◌, List, ℕ, ap, sym, ◌∙◌, append_assoc}
use Rattle.syntax_tree.specs.Code.{Statement, code_of, statement_of}
use Rattle.syntax_tree.proofs.Codes.{statement_of-If, statement_of-Loop}
use Rattle.syntax_tree.specs.declared.stmt.Stmt.{Stmt}
use Rattle.flow_graph.specs.Groups.{called, called_in}
use Rattle.flow_graph.proofs.planning.+calling.Goals as goal

pub push_call-returns-in_ok-push_calls-in-If-2 : goal.push_call-returns-in_ok-push_calls-in-If-2
push_call-returns-in_ok-push_calls-in-If-2 t c =
    let row = c.args.row.now in
    (c.in_ok-push_calls-in-If-2.ensures
    ∙ (λ i. (c.in_ok-push_calls-in-If.ensures ∙ (λ j. row ++ called (code_of (c.as_slice.ensures j)))) i ++ called (code_of (c.as_slice-in-If.ensures i))))
    ∙ append_assoc row (called (code_of c.in-If.yes)) (called (code_of c.in-If.no))
    ∙ ap (λ (s : Statement). row ++ called_in s) (sym (statement_of-If c.in-If.cond c.in-If.yes c.in-If.no))
    ∙ ap (λ (s : Stmt). row ++ called_in (statement_of s)) (sym c.in-If.is)

pub push_call-returns-in_ok-push_calls-in-Loop-3 : goal.push_call-returns-in_ok-push_calls-in-Loop-3
push_call-returns-in_ok-push_calls-in-Loop-3 t c =
    let row = c.args.row.now in
    let a = called (code_of c.in-Loop.pre) in
    let b = called (code_of c.in-Loop.body) in
    let d = called (code_of c.in-Loop.step) in
    (c.in_ok-push_calls-in-Loop-3.ensures
    ∙ (λ i. (c.in_ok-push_calls-in-Loop-2.ensures
    ∙ (λ j. (c.in_ok-push_calls-in-Loop.ensures ∙ (λ k. row ++ called (code_of (c.as_slice-in-Loop.ensures k)))) j ++ called (code_of (c.as_slice-in-Loop-2.ensures j)))) i
    ++ called (code_of (c.as_slice-in-Loop-3.ensures i))))
    ∙ ap (λ (x : List ℕ). x ++ d) (append_assoc row a b) ∙ append_assoc row (a ++ b) d
    ∙ ap (λ (s : Statement). row ++ called_in s) (sym (statement_of-Loop c.in-Loop.pre c.in-Loop.cond c.in-Loop.body c.in-Loop.step c.in-Loop.first))
    ∙ ap (λ (s : Stmt). row ++ called_in (statement_of s)) (sym c.in-Loop.is)
