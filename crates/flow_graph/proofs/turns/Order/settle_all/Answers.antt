use Rattle.std.proofs.Common.{◌+◌, ℕ, List, ◌∷◌, get_or, drop, refl, subst, arith, ◌∙◌}
use Rattle.std.proofs.lemmas.List.{drop_more}
use Rattle.flow_graph.specs.Turns.{stage_of, Going}
use Rattle.flow_graph.proofs.Orders.{going_settled, todo_within, within_all}
use Rattle.flow_graph.proofs.turns.Order.settle_all.Goals as goal

pub settle-requires-clause-within : goal.settle-requires-clause-within
settle-requires-clause-within c = within_all c.args.program.now c.args.plan.now (stage_of c.loop-group.self) _ (get_or c.args.todo.now c.loop-group.group-index 0) c.loop-group.invariant.going

pub settle-requires-clause-there : goal.settle-requires-clause-there
settle-requires-clause-there c =
    let g = get_or c.args.todo.now c.loop-group.group-index 0 in
    let rest = drop (c.loop-group.group-index + 1) c.args.todo.now in
    let going = subst (λ (xs : List ℕ). Going c.args.program.now c.args.plan.now (stage_of c.loop-group.self) xs)
    (drop_more c.args.todo.now c.loop-group.group-index 0 c.loop-group-test.true) c.loop-group.invariant.going in
    todo_within c.args.program.now c.args.plan.now (stage_of c.loop-group.self) (g ∷ rest) g going (0, omega arith, refl)

pub loop-group-preserved : goal.loop-group-preserved
loop-group-preserved c =
    let g = get_or c.args.todo.now c.loop-group.group-index 0 in
    let rest = drop (c.loop-group.group-index + 1) c.args.todo.now in
    let going = subst (λ (xs : List ℕ). Going c.args.program.now c.args.plan.now (stage_of c.loop-group.self) xs)
    (drop_more c.args.todo.now c.loop-group.group-index 0 c.loop-group-test.true) c.loop-group.invariant.going in
    record {
      going = going_settled c.args.program.now c.args.plan.now (stage_of c.loop-group.self) (stage_of c.settle.new.self) g rest going c.in_ok-settle.ensures;
      come = c.in_ok-settle.ensures.come ∙ c.loop-group.invariant.come;
    }
