use Rattle.std.proofs.Common.{◌+◌, sym, subst, arith, ◌∙◌}
use Rattle.flow_graph.specs.declared.components.Search.{Search}
use Rattle.flow_graph.specs.Search.{State, state_of, Visited}
use Rattle.flow_graph.proofs.Visiting.{IsOpen, opened, after_done, after_join, after_visit, call-next, row-end}
use Rattle.flow_graph.proofs.components.Search.+visit.Goals.{in-New+in_ok-visit-in-New, in-OnPath, in-Done}
use Rattle.flow_graph.proofs.components.Search.+visit.Goals as goal

pub loop-q-init : goal.loop-q-init
loop-q-init t c =
    subst (λ (s : State). IsOpen c.args.calls.now (state_of c.args.self.now) s c.args.p 0) (sym c.in_ok-enter.ensures)
    (opened c.args.calls.now (state_of c.args.self.now) c.args.p c.requires.sound c.requires.new c.requires.there c.requires.reach)

pub index-requires : goal.index-requires
index-requires t c =
    let next = call-next c.loop-q.invariant c.requires.new c.requires.there c.requires.all c.requires.numbers c.as_slice-q-items.ensures c.index-calls-p.is c.loop-q-test.true in
    let there = next.there in omega (arith, there, c.loop-q.self.marks.ok.0)

pub visit-requires : goal.visit-requires
visit-requires t c =
    let next = call-next c.loop-q.invariant c.requires.new c.requires.there c.requires.all c.requires.numbers c.as_slice-q-items.ensures c.index-calls-p.is c.loop-q-test.true in
    let fewer = next.fewer in
    (omega (arith, fewer), (c.loop-q.invariant.sound, (next.marked c.index.result.now c.index.ensures ∙ c.in-New.is, (next.there, (next.all, (c.requires.numbers, next.reach))))))

pub loop-q-preserved : goal.loop-q-preserved
loop-q-preserved t c =
    let next = call-next c.loop-q.invariant c.requires.new c.requires.there c.requires.all c.requires.numbers c.as_slice-q-items.ensures c.index-calls-p.is c.loop-q-test.true in
    let mark = next.marked c.index.result.now c.index.ensures in
    let Open : Search → Type 0 = λ x. IsOpen c.args.calls.now (state_of c.args.self.now) (state_of x) c.args.p (c.loop-q.q-index + 1) in
    elim c.match-index.branch [
      | in-New+in_ok-visit-in-New w ↦ subst Open (sym w.self-is) (after_visit _ _ _ _ _ _ _ c.loop-q.invariant next.is w.in_ok-visit-in-New.ensures)
      | in-OnPath w ↦
          subst Open (sym w.self-is)
          (subst (λ (x : State). IsOpen c.args.calls.now (state_of c.args.self.now) x c.args.p (c.loop-q.q-index + 1)) (sym w.join.ensures.rest)
          (after_join _ _ _ _ _ _ _ _ c.loop-q.invariant next.long next.is (mark ∙ w.in-OnPath.is) w.join.ensures.cut))
      | in-Done w ↦ subst Open (sym w.self-is) (after_done _ _ _ _ _ _ _ c.loop-q.invariant next.is (mark ∙ w.in-Done.is))
    ]

pub returns-then-last_start-at : goal.returns-then-last_start-at
returns-then-last_start-at t c =
    let end = row-end c.len-at.result c.loop-q.invariant c.requires.sound c.requires.new c.requires.there c.requires.all c.as_slice-q-items.ensures c.index-calls-p.is
    (omega (arith, c.loop-q-test.false)) (omega (arith, c.len-at.ensures, c.args.self.now.path.ok.0)) in
    subst (λ (x : State). Visited c.args.calls.now (state_of c.args.self.now) x c.args.p) (sym c.leave.ensures) (end.ended (omega (arith, c.if-last_start-at.true, c.last_start.ensures)))

pub returns-else-last_start-at : goal.returns-else-last_start-at
returns-else-last_start-at t c =
    let end = row-end c.len-at.result c.loop-q.invariant c.requires.sound c.requires.new c.requires.there c.requires.all c.as_slice-q-items.ensures c.index-calls-p.is
    (omega (arith, c.loop-q-test.false)) (omega (arith, c.len-at.ensures, c.args.self.now.path.ok.0)) in
    end.kept (λ last. c.if-last_start-at.false (omega (arith, last, c.last_start.ensures)))
