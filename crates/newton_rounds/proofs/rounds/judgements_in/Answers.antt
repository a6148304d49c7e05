use Rattle.std.proofs.Common.{◌≡◌, ◌<◌, ◌+◌, ◌∙◌, List, drop, get_or, length, sym, ap, subst, refl, arith}
use Rattle.std.specs.List.{AllByRecursion}
use Rattle.linear_terms.specs.declared.row.Row.{Row}
use Rattle.posing.specs.Follows.{Leads}
use Rattle.posing.specs.Posing.{each}
use Rattle.posing.proofs.Following.{leads_none}
use Rattle.posing.proofs.Steps.{all_left, at_end, error_first, first_left, in_other_words}
use Rattle.newton_rounds.specs.Between.{AreCandidates, IsRowOver}
use Rattle.newton_rounds.specs.Pairs.{PairEnds}
use Rattle.newton_rounds.specs.Candidates.{members_with, no_judgements, with_round}
use Rattle.newton_rounds.specs.Closure.{ends_of_members, pair_ends}
use Rattle.newton_rounds.specs.Members.{members_of}
use Rattle.newton_rounds.proofs.CratesBelow.{some_at}
use Rattle.newton_rounds.proofs.GroupCalls.{ends-at, ends-many, number-at}
use Rattle.newton_rounds.proofs.RoundRows.{members-end, next-member}
use Rattle.newton_rounds.proofs.ReadyGroups.{procs-there}
use Rattle.newton_rounds.proofs.CandidateSummaries.{candidate-over-at, candidates-length}
use Rattle.newton_rounds.proofs.rounds.judgements_in.Goals as goal

pub loop-place-init : goal.loop-place-init
loop-place-init g c =
    let step = with_round c.args.group.program.now c.args.group.known.now in
    let all = members_with (members_of c.args.group.program.now c.args.group.procs.now) c.args.candidates.now in
    subst (λ made. Leads g.O.Oracle.asking c.args.oracle.now c.args.oracle.now c.args.log.now c.args.log.now (each step no_judgements all) (each step made all)) (sym c.no_judgements-made.ensures) (leads_none _ _ _ _)

pub bounds-group-place : goal.bounds-group-place
bounds-group-place g c =
    let there = procs-there c.args.group c.requires.group in
    let many = ends-many c.args.group.program.now c.args.group.procs.now there in
    let long = candidates-length c.args.group.members.now c.args.candidates.now c.requires.candidates ∙ ap length c.requires.group.members in
    let lt = c.loop-place-test.true in
    omega (arith, many, long, lt)

pub with_round-requires-clause-rows : goal.with_round-requires-clause-rows
with_round-requires-clause-rows g c = λ p is.
    let program = c.args.group.program.now in
    let procs = c.args.group.procs.now in
    let candidates = c.args.candidates.now in
    let place = c.loop-place.place in
    let there = procs-there c.args.group c.requires.group in
    let many = ends-many program procs there in
    let long = candidates-length c.args.group.members.now candidates c.requires.candidates ∙ ap length c.requires.group.members in
    let lt = c.loop-place-test.true in
    let within : place < length procs = omega (arith, many, long, lt) in
    subst (AllByRecursion (IsRowOver (pair_ends program p).pair.columns)) (sym c.as_slice.ensures)
    (subst (λ (m : PairEnds). AllByRecursion (IsRowOver m.pair.columns) c.index-candidates-place.result) (ends-at program procs there place (get_or procs place 0) p (number-at procs place within) is)
    (candidate-over-at (ends_of_members program procs) candidates place c.index-candidates-place.result lt c.index-candidates-place.is
    (subst (λ (ms : List PairEnds). AreCandidates ms candidates) c.requires.group.members c.requires.candidates)))

pub returns-in_err-made : goal.returns-in_err-made
returns-in_err-made g c =
    let program = c.args.group.program.now in
    let procs = c.args.group.procs.now in
    let candidates = c.args.candidates.now in
    let place = c.loop-place.place in
    let there = procs-there c.args.group c.requires.group in
    let many = ends-many program procs there in
    let long = candidates-length c.args.group.members.now candidates c.requires.candidates ∙ ap length c.requires.group.members in
    let lt = c.loop-place-test.true in
    let within : place < length procs = omega (arith, many, long, lt) in
    let step = with_round program c.args.group.known.now in
    let found = some_at program.procs (get_or procs place 0) (c.requires.group.there place 0 within) in
    let p = found.0 in
    let rows = c.index-candidates-place.result in
    let rest = members_with (members_of program (drop (place + 1) procs)) (drop (place + 1) candidates) in
    let next = next-member program procs candidates place 0 p rows within lt found.1 c.index-candidates-place.is in
    all_left c.loop-place.invariant
    (in_other_words (ap (each step c.loop-place.made) (sym next))
    (error_first (λ made. each step made rest) (c.in_err-made.ensures p found.1) (ap (λ (rs : List Row). step c.loop-place.made (p, rs)) c.as_slice.ensures) c.from_residual.ensures.1))

pub loop-place-preserved : goal.loop-place-preserved
loop-place-preserved g c =
    let program = c.args.group.program.now in
    let procs = c.args.group.procs.now in
    let candidates = c.args.candidates.now in
    let place = c.loop-place.place in
    let there = procs-there c.args.group c.requires.group in
    let many = ends-many program procs there in
    let long = candidates-length c.args.group.members.now candidates c.requires.candidates ∙ ap length c.requires.group.members in
    let lt = c.loop-place-test.true in
    let within : place < length procs = omega (arith, many, long, lt) in
    let step = with_round program c.args.group.known.now in
    let found = some_at program.procs (get_or procs place 0) (c.requires.group.there place 0 within) in
    let p = found.0 in
    let rows = c.index-candidates-place.result in
    let rest = members_with (members_of program (drop (place + 1) procs)) (drop (place + 1) candidates) in
    let next = next-member program procs candidates place 0 p rows within lt found.1 c.index-candidates-place.is in
    first_left (λ made. each step made rest) c.loop-place.invariant (ap (each step c.loop-place.made) next) (c.in_ok-made.ensures p found.1)
    (ap (λ (rs : List Row). step c.loop-place.made (p, rs)) c.as_slice.ensures)

pub returns : goal.returns
returns g c =
    let program = c.args.group.program.now in
    let procs = c.args.group.procs.now in
    let candidates = c.args.candidates.now in
    let there = procs-there c.args.group c.requires.group in
    let many = ends-many program procs there in
    let long = candidates-length c.args.group.members.now candidates c.requires.candidates ∙ ap length c.requires.group.members in
    let same : length candidates ≡ length procs = long ∙ many in
    let end = members-end program procs candidates c.loop-place.place c.loop-place-test.false same in
    all_left c.loop-place.invariant (in_other_words (ap (each (with_round program c.args.group.known.now) c.loop-place.made) (sym end)) (at_end refl))
