use Rattle.std.proofs.Common.{[], ◌+◌, drop, sym, ap, subst, refl, arith}
use Rattle.posing.specs.Follows.{Leads}
use Rattle.posing.specs.Posing.{each}
use Rattle.posing.proofs.Following.{leads_none}
use Rattle.posing.proofs.Steps.{all_left, at_end, error_first, first_left, in_other_words, value_has}
use Rattle.newton_rounds.specs.Between.{AreCandidates, IsMember}
use Rattle.newton_rounds.specs.Close.{pairs_of, with_candidate}
use Rattle.newton_rounds.proofs.MemberLoops.{candidates-over, next-paired, paired-end, summary-read}
use Rattle.newton_rounds.proofs.GroupGraphs.{each-read}
use Rattle.newton_rounds.proofs.ClosureSummaries.{summaries-length}
use Rattle.newton_rounds.proofs.closing.candidates_of.Goals as goal

pub loop-place-init : goal.loop-place-init
loop-place-init g c =
    let all = pairs_of c.args.members.now c.args.table.now in
    subst (λ made. Leads g.O.Oracle.asking c.args.oracle.now c.args.oracle.now c.args.log.now c.args.log.now (each with_candidate [] all) (each with_candidate made all)) (sym c.new-made.ensures) (leads_none _ _ _ _)

pub bounds-table-place : goal.bounds-table-place
bounds-table-place g c = let long = summaries-length c.args.members.now c.args.table.now c.requires.table in let lt = c.loop-place-test.true in omega (arith, long, lt)

pub with_candidate-requires-clause-member : goal.with_candidate-requires-clause-member
with_candidate-requires-clause-member g c = each-read IsMember c.args.members.now c.loop-place.place c.index-members-place.result c.loop-place-test.true c.index-members-place.is c.requires.members

pub with_candidate-requires-clause-summary : goal.with_candidate-requires-clause-summary
with_candidate-requires-clause-summary g c =
    summary-read c.args.members.now c.args.table.now c.loop-place.place c.index-members-place.result c.index-table-place.result c.loop-place-test.true c.index-members-place.is c.index-table-place.is c.requires.table

pub returns-in_err-made-clause-follows : goal.returns-in_err-made-clause-follows
returns-in_err-made-clause-follows g c =
    let members = c.args.members.now in
    let table = c.args.table.now in
    let place = c.loop-place.place in
    let next = next-paired members table place c.index-members-place.result c.index-table-place.result c.loop-place-test.true (summaries-length members table c.requires.table) c.index-members-place.is c.index-table-place.is in
    all_left c.loop-place.invariant
    (in_other_words (ap (each with_candidate c.loop-place.made) (sym next))
    (error_first (λ made. each with_candidate made (pairs_of (drop (place + 1) members) (drop (place + 1) table))) c.in_err-made.ensures refl c.from_residual.ensures.1))

pub loop-place-preserved : goal.loop-place-preserved
loop-place-preserved g c =
    let members = c.args.members.now in
    let table = c.args.table.now in
    let place = c.loop-place.place in
    let next = next-paired members table place c.index-members-place.result c.index-table-place.result c.loop-place-test.true (summaries-length members table c.requires.table) c.index-members-place.is c.index-table-place.is in
    first_left (λ made. each with_candidate made (pairs_of (drop (place + 1) members) (drop (place + 1) table))) c.loop-place.invariant (ap (each with_candidate c.loop-place.made) next) c.in_ok-made.ensures refl

pub returns-clause-follows : goal.returns-clause-follows
returns-clause-follows g c =
    all_left c.loop-place.invariant (in_other_words (ap (each with_candidate c.loop-place.made) (sym (paired-end c.args.members.now c.args.table.now c.loop-place.place c.loop-place-test.false))) (at_end refl))

pub returns-clause-over : goal.returns-clause-over
returns-clause-over g c =
    value_has (AreCandidates c.args.members.now) (returns-clause-follows g c) (candidates-over c.args.members.now c.args.table.now (summaries-length c.args.members.now c.args.table.now c.requires.table))
