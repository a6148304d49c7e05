use Rattle.std.proofs.Common.{◌≡◌, ◌++◌, ◌∷◌, [], false, get_or, sym, ap, ◌∙◌, arith}
use Rattle.flow_graph.specs.Plain.{plain}
use Rattle.point_induction.specs.Points.{is_head}
use Rattle.point_induction.proofs.HeadMarks.{head-mark}
use Rattle.point_ways.proofs.NodeMarks.{ends-head, ends-other, rank-head, rank-most, rank-other}
use Rattle.point_ways.proofs.ends.way_ends.Goals as goal
use Rattle.point_ways.proofs.ends.way_ends.Goals.{then-is_marked+in_ok-push, else-is_marked+in_ok-push-2}

pub overflow_add-arrival : goal.overflow_add-arrival
overflow_add-arrival c =
    let most = rank-most (plain c.args.graph.now) c.loop-node.node in
    let next = c.loop-node.invariant.next in
    let few = c.requires.few in
    let lt = c.loop-node-test.true in omega (arith, most, next, few, lt)

pub loop-node-preserved : goal.loop-node-preserved
loop-node-preserved c =
    let graph = plain c.args.graph.now in
    let node = c.loop-node.node in
    let next = c.loop-node.invariant.next in
    let marked : c.is_marked.result ≡ is_head graph.arcs node =
    c.is_marked.ensures ∙ ap (λ marks. get_or marks node false) c.requires.heads ∙ head-mark graph node c.loop-node-test.true in
    elim c.if-is_marked.branch [
      | then-is_marked+in_ok-push w ↦ rw (w.arrival-is, w.ends-is) (record {
        next = let rank = rank-head graph node (sym marked ∙ w.if-is_marked.true) in omega (arith, next, rank);
        made =
            w.in_ok-push.ensures.ok ∙ ap (λ arrival. c.loop-node.ends ++ arrival ∷ []) next
            ∙ ends-head graph node c.loop-node.ends (sym marked ∙ w.if-is_marked.true) c.loop-node.invariant.made;
      })
      | else-is_marked+in_ok-push-2 w ↦ rw (w.arrival-is, w.ends-is) (record {
        next = let rank = rank-other graph node (sym marked ∙ w.if-is_marked.false) in omega (arith, next, rank);
        made = w.in_ok-push-2.ensures.ok ∙ ends-other graph node c.loop-node.ends (sym marked ∙ w.if-is_marked.false) c.loop-node.invariant.made;
      })
    ]
