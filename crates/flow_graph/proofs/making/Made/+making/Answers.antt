use Rattle.std.proofs.Common.{◌≡◌, ℕ, ◌+◌, List, [], ◌∷◌, ◌++◌, ap, append_assoc, arith, false, refl, true}
use Rattle.syntax_tree.specs.Term.{Term}
use Rattle.syntax_tree.specs.Code.{Code, End, Guard, Loop, Statement}
use Rattle.syntax_tree.specs.Nodes.{code_nodes}
use Rattle.flow_graph.specs.declared.making.Targets.{Targets}
use Rattle.flow_graph.specs.FlowGraph.{Arc, arc, code_arcs, inside, skip, statement_arcs, unless}
use Rattle.flow_graph.proofs.Statements.{code_of-drop}
use Rattle.flow_graph.proofs.making.Made.+making.Goals as goal

pub code-statement-requires : goal.code-statement-requires
code-statement-requires t c =
    let next = ap code_nodes (code_of-drop c.args.stmts.now c.loop-stmt.stmt-index c.stmt-item.result c.stmt-item.is c.loop-stmt-test.true) in
    let left = c.loop-stmt.invariant in
    (omega (arith, c.decreases), omega arith)

pub branch-returns : goal.branch-returns
branch-returns t c = record {
  edges = simp (c.in_ok-edge-4.ensures.edges, c.in_ok-edge-3.ensures.edges, c.in_ok-end_no.ensures.edges, c.in_ok-edge-2.ensures.edges, c.in_ok-end_yes.ensures.edges, c.in_ok-edge.ensures.edges, c.in_ok-act.ensures, c.in_ok-act-2.ensures, c.skip.ensures, c.skip-2.ensures, c.in_ok-end_no.ensures.node, c.in_ok-end_yes.ensures.node, append_assoc) refl;
  checks = simp (c.in_ok-edge-4.ensures.checks, c.in_ok-edge-3.ensures.checks, c.in_ok-end_no.ensures.checks, c.in_ok-edge-2.ensures.checks, c.in_ok-end_yes.ensures.checks, c.in_ok-edge.ensures.checks, c.in_ok-end_yes.ensures.node, append_assoc) refl;
  node = omega (arith, c.in_ok-end_no.ensures.node, c.in_ok-end_yes.ensures.node);
}

-- the edges that are put one behind the other are those of the loop
while_edges : (t inner : Targets) (at test after end_body turn end_step steps : ℕ) (pre body step : Code) (cond : Term) (first test_act behind last out : Statement)
    (s0 s1 s2 s3 s4 s5 s6 s7 s8 : List Arc)
    → test ≡ at + 1 + code_nodes pre → turn ≡ test + 1 + code_nodes body + 1 → steps ≡ code_nodes step → after ≡ turn + steps + 1
    → end_body ≡ test + 1 + code_nodes body → end_step ≡ turn + code_nodes step → inner ≡ inside t after turn
    → first ≡ skip → test_act ≡ Guard cond → behind ≡ skip → last ≡ skip → out ≡ unless cond
    → s1 ≡ s0 ++ arc at (at + 1) first ∷ [] → s2 ≡ s1 ++ code_arcs t (at + 1) pre → s3 ≡ s2 ++ arc test (test + 1) test_act ∷ []
    → s4 ≡ s3 ++ code_arcs inner (test + 1) body → s5 ≡ s4 ++ arc end_body turn behind ∷ [] → s6 ≡ s5 ++ code_arcs t turn step
    → s7 ≡ s6 ++ arc end_step (at + 1) last ∷ [] → s8 ≡ s7 ++ arc test after out ∷ []
    → s8 ≡ s0 ++ statement_arcs t at (Loop pre cond body step false)
while_edges t inner at test after end_body turn end_step steps pre body step cond first test_act behind last out s0 s1 s2 s3 s4 s5 s6 s7 s8 n1 n2 n3 n4 n5 n6 is a1 a2 a3 a4 a5 e1 e2 e3 e4 e5 e6 e7 e8 =
    simp (e8, e7, e6, e5, e4, e3, e2, e1, a1, a2, a3, a4, a5, is, n4, n6, n2, n5, n3, n1, append_assoc) refl

do_edges : (t inner : Targets) (at test after end_body turn pres : ℕ) (pre body : Code) (cond : Term) (first behind back out : Statement)
    (s0 s1 s2 s3 s4 s5 s6 : List Arc)
    → turn ≡ at + 1 + code_nodes body + 1 → pres ≡ code_nodes pre → after ≡ turn + pres + 1
    → end_body ≡ at + 1 + code_nodes body → test ≡ turn + code_nodes pre → inner ≡ inside t after turn
    → first ≡ skip → behind ≡ skip → back ≡ Guard cond → out ≡ unless cond
    → s1 ≡ s0 ++ arc at (at + 1) first ∷ [] → s2 ≡ s1 ++ code_arcs inner (at + 1) body → s3 ≡ s2 ++ arc end_body turn behind ∷ []
    → s4 ≡ s3 ++ code_arcs t turn pre → s5 ≡ s4 ++ arc test (at + 1) back ∷ [] → s6 ≡ s5 ++ arc test after out ∷ []
    → s6 ≡ s0 ++ statement_arcs t at (Loop pre cond body End true)
do_edges t inner at test after end_body turn pres pre body cond first behind back out s0 s1 s2 s3 s4 s5 s6 n1 n2 n3 n4 n5 is a1 a2 a3 a4 e1 e2 e3 e4 e5 e6 =
    simp (e6, e5, e4, e3, e2, e1, a1, a2, a3, a4, is, n3, n5, n1, n4, n2, append_assoc) refl

pub while_loop-returns : goal.while_loop-returns
while_loop-returns t c =
    let turn = ap (λ k. c.in_ok-test.test + 1 + k + 1) c.nodes_of.ensures in
    record {
      edges = while_edges _ _ _ _ _ _ _ _ _ _ _ _ _ _ _ _ _ _ _ _ _ _ _ _ _ _ _
          c.in_ok-test.ensures.node turn c.nodes_of-2.ensures refl c.in_ok-end_body.ensures.node c.in_ok-end_step.ensures.node c.inside.ensures
          c.skip.ensures c.in_ok-act.ensures c.skip-2.ensures c.skip-3.ensures c.in_ok-act-2.ensures
          c.in_ok-edge.ensures.edges c.in_ok-test.ensures.edges c.in_ok-edge-2.ensures.edges c.in_ok-end_body.ensures.edges
          c.in_ok-edge-3.ensures.edges c.in_ok-end_step.ensures.edges c.in_ok-edge-4.ensures.edges c.in_ok-edge-5.ensures.edges;
      checks = simp (c.in_ok-edge-5.ensures.checks, c.in_ok-edge-4.ensures.checks, c.in_ok-end_step.ensures.checks, c.in_ok-edge-3.ensures.checks, c.in_ok-end_body.ensures.checks, c.in_ok-edge-2.ensures.checks, c.in_ok-test.ensures.checks, c.in_ok-edge.ensures.checks, c.in_ok-test.ensures.node, c.nodes_of.ensures, append_assoc) refl;
      node = omega (arith, c.in_ok-test.ensures.node, turn, c.nodes_of.ensures, c.nodes_of-2.ensures);
    }

pub do_loop-returns : goal.do_loop-returns
do_loop-returns t c =
    let turn = ap (λ k. c.args.at + 1 + k + 1) c.nodes_of.ensures in
    record {
      edges = do_edges _ _ _ _ _ _ _ _ _ _ _ _ _ _ _ _ _ _ _ _ _ _
          turn c.nodes_of-2.ensures refl c.in_ok-end_body.ensures.node c.in_ok-test.ensures.node c.inside.ensures
          c.skip.ensures c.skip-2.ensures c.in_ok-act.ensures c.in_ok-act-2.ensures
          c.in_ok-edge.ensures.edges c.in_ok-end_body.ensures.edges c.in_ok-edge-2.ensures.edges
          c.in_ok-test.ensures.edges c.in_ok-edge-3.ensures.edges c.in_ok-edge-4.ensures.edges;
      checks = simp (c.in_ok-edge-4.ensures.checks, c.in_ok-edge-3.ensures.checks, c.in_ok-test.ensures.checks, c.in_ok-edge-2.ensures.checks, c.in_ok-end_body.ensures.checks, c.in_ok-edge.ensures.checks, c.nodes_of.ensures, append_assoc) refl;
      node = omega (arith, c.nodes_of.ensures, c.nodes_of-2.ensures);
    }
