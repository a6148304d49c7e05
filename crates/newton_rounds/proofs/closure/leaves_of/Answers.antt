use Rattle.std.proofs.Common.{◌<◌, ◌++◌, ◌∷◌, [], ◌∙◌, ◌+◌, drop, length, map, sym, subst}
use Rattle.std.specs.List.{flat_map}
use Rattle.newton_rounds.specs.declared.calls.GroupCall as own
use Rattle.newton_rounds.specs.Between.{IsStretchIn}
use Rattle.newton_rounds.specs.Closure.{group_leaf, losses_in_group_leaf, no_pair, stretches_with}
use Rattle.newton_rounds.specs.Pairs.{PairEnds, losses_in_pair, pair_formula}
use Rattle.newton_rounds.specs.Shapes.{IsStretchBetween, plain_call, stretch_of}
use Rattle.newton_rounds.proofs.ChainFormulas.{read-at}
use Rattle.newton_rounds.proofs.GroupGraphs.{behind-more, call-at, each-read, next-stretch, stretch-at}
use Rattle.newton_rounds.proofs.closure.leaves_of.Goals as goal

pub bounds-members-call : goal.bounds-members-call
bounds-members-call c =
    let long = c.requires.each in
    let calls = call-at (IsStretchIn c.args.graph.members.now) (λ (call : own.GroupCall). (call.caller < length c.args.graph.members.now) × (call.callee < length c.args.graph.members.now))
    (λ call one h. (h.caller, h.callee)) c.args.graph.calls.now c.args.graph.sides.now long c.requires.group.calls in
    let at : (c.index-calls-i.result.caller < length c.args.graph.members.now) × (c.index-calls-i.result.callee < length c.args.graph.members.now) =
    each-read (λ (call : own.GroupCall). (call.caller < length c.args.graph.members.now) × (call.callee < length c.args.graph.members.now)) c.args.graph.calls.now c.loop-i.i c.index-calls-i.result c.loop-i-test.true c.index-calls-i.is calls in
    at.0

pub bounds-members-call-in-loop-i : goal.bounds-members-call-in-loop-i
bounds-members-call-in-loop-i c =
    let long = c.requires.each in
    let calls = call-at (IsStretchIn c.args.graph.members.now) (λ (call : own.GroupCall). (call.caller < length c.args.graph.members.now) × (call.callee < length c.args.graph.members.now))
    (λ call one h. (h.caller, h.callee)) c.args.graph.calls.now c.args.graph.sides.now long c.requires.group.calls in
    let at : (c.index-calls-i.result.caller < length c.args.graph.members.now) × (c.index-calls-i.result.callee < length c.args.graph.members.now) =
    each-read (λ (call : own.GroupCall). (call.caller < length c.args.graph.members.now) × (call.callee < length c.args.graph.members.now)) c.args.graph.calls.now c.loop-i.i c.index-calls-i.result c.loop-i-test.true c.index-calls-i.is calls in
    at.1

pub pair_formula-requires : goal.pair_formula-requires
pair_formula-requires c =
    let members = c.args.graph.members.now in
    let s = stretch_of c.index-calls-i.result c.index-sides-i.result in
    let h = stretch-at (IsStretchIn members) c.args.graph.calls.now c.args.graph.sides.now c.loop-i.i c.index-calls-i.result c.index-sides-i.result c.loop-i-test.true c.requires.each c.index-calls-i.is c.index-sides-i.is c.requires.group.calls in
    let caller = read-at members c.index-calls-i.result.caller c.index-members-call.result no_pair h.caller c.index-members-call.is in
    let callee = read-at members c.index-calls-i.result.callee c.index-members-call-in-loop-i.result no_pair h.callee c.index-members-call-in-loop-i.is in
    subst (λ (both : PairEnds × PairEnds). IsStretchBetween both.0 both.1 s) (λ i. (caller i, callee i)) h.is

pub loop-i-preserved : goal.loop-i-preserved
loop-i-preserved c =
    let members = c.args.graph.members.now in
    let calls = c.args.graph.calls.now in
    let sides = c.args.graph.sides.now in
    let s = stretch_of c.index-calls-i.result c.index-sides-i.result in
    let rest = stretches_with (map plain_call (drop (c.loop-i.i + 1) calls)) (drop (c.loop-i.i + 1) sides) in
    let h = stretch-at (IsStretchIn members) calls sides c.loop-i.i c.index-calls-i.result c.index-sides-i.result c.loop-i-test.true c.requires.each c.index-calls-i.is c.index-sides-i.is c.requires.group.calls in
    let caller = read-at members c.index-calls-i.result.caller c.index-members-call.result no_pair h.caller c.index-members-call.is in
    let callee = read-at members c.index-calls-i.result.callee c.index-members-call-in-loop-i.result no_pair h.callee c.index-members-call-in-loop-i.is in
    let next = next-stretch calls sides c.loop-i.i c.index-calls-i.result c.index-sides-i.result c.loop-i-test.true c.requires.each c.index-calls-i.is c.index-sides-i.is in
    record {
      made =
          behind-more c.loop-i.leaves c.push.new.self (group_leaf members s ∷ []) (map (group_leaf members) rest) _
          (c.in_ok-push.ensures.ok ∙ (λ i. c.loop-i.leaves ++ (c.in_ok-pair_formula.ensures.made ∙ (λ j. pair_formula (sym caller j) (sym callee j) s)) i ∷ []))
          ((λ i. c.loop-i.leaves ++ map (group_leaf members) (sym next i)) ∙ c.loop-i.invariant.made);
      noted =
          behind-more c.loop-i.lost c.pair_formula.new.lost (losses_in_group_leaf members s) (flat_map (losses_in_group_leaf members) rest) _
          (c.in_ok-pair_formula.ensures.noted ∙ (λ i. c.loop-i.lost ++ losses_in_pair (sym caller i) (sym callee i) s))
          ((λ i. c.loop-i.lost ++ flat_map (losses_in_group_leaf members) (sym next i)) ∙ c.loop-i.invariant.noted);
    }
