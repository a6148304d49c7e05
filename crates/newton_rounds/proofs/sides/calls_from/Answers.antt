use Rattle.std.proofs.Common.{◌≡◌, ◌<◌, ◌+◌, ◌++◌, ◌∙◌, map, drop, get_or, length, sym, ap, subst, append_assoc, append-nil}
use Rattle.std.specs.List.{AllByRecursion}
use Rattle.std.proofs.lemmas.List.{drop_all, map-append}
use Rattle.std.proofs.lemmas.List.Elements.{recursion_from_All}
use Rattle.newton_rounds.specs.Closure.{ends_of_members}
use Rattle.newton_rounds.specs.Members.{calls_from, calls_of, members_of}
use Rattle.newton_rounds.specs.Shapes.{IsCallIn, plain_call}
use Rattle.newton_rounds.proofs.CratesBelow.{some_at}
use Rattle.newton_rounds.proofs.GroupCalls.{calls-in, calls-made, each-mapped}
use Rattle.newton_rounds.proofs.ProcedureLoops.{members-next}
use Rattle.newton_rounds.proofs.sides.calls_from.Goals as goal

pub loop-place-preserved : goal.loop-place-preserved
loop-place-preserved c =
    let program = c.args.program.now in
    let procs = c.args.procs.now in
    let place = c.loop-place.place in
    let proc = get_or procs place 0 in
    let there = some_at program.procs proc (c.requires.there place 0 c.loop-place-test.true) in
    let made = map plain_call c.loop-place.calls in
    let rest = calls_from procs (place + 1) (members_of program (drop (place + 1) procs)) in
    let own : map plain_call c.in_ok-calls_of.field-0 ≡ calls_of procs place there.0 =
    c.in_ok-calls_of.ensures ∙ calls-made program proc there.0 there.1 c.in_ok-graph.graph c.in_ok-graph.ensures.exact procs place c.as_slice.result.now c.as_slice.ensures in
    (λ i. map plain_call (c.in_ok-append.ensures.ok i) ++ rest)
    ∙ ap (λ l. l ++ rest) (map-append plain_call c.loop-place.calls c.in_ok-calls_of.field-0)
    ∙ append_assoc made (map plain_call c.in_ok-calls_of.field-0) rest
    ∙ (λ i. made ++ (own i ++ rest))
    ∙ ap (λ ps. made ++ calls_from procs place ps) (sym (members-next program procs place 0 there.0 c.loop-place-test.true there.1))
    ∙ c.loop-place.invariant

pub returns-clause-fit : goal.returns-clause-fit
returns-clause-fit c =
    let program = c.args.program.now in
    let procs = c.args.procs.now in
    let made = map plain_call c.loop-place.calls in
    let all : made ≡ calls_from procs 0 (members_of program procs) =
    sym (append-nil made)
    ∙ (λ i. made ++ calls_from procs c.loop-place.place (members_of program (sym (drop_all c.loop-place.place procs c.loop-place-test.false) i)))
    ∙ c.loop-place.invariant in
    each-mapped (IsCallIn (ends_of_members program procs)) plain_call c.loop-place.calls
    (subst (AllByRecursion (IsCallIn (ends_of_members program procs))) (sym all)
    (calls-in program procs (recursion_from_All (λ proc. proc < length program.procs) procs c.requires.there) c.requires.formed))
