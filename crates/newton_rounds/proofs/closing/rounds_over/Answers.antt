use Rattle.std.proofs.Common.{[], ◌∙◌, List, sym, ap, subst, refl}
use Rattle.posing.specs.Posing.{◌>>=◌, Done, each}
use Rattle.posing.proofs.Steps.{at_end, value_first}
use Rattle.newton_rounds.specs.Between.{AreCandidates, AreSummaries}
use Rattle.newton_rounds.specs.Candidates.{last_round, summaries_by_round}
use Rattle.newton_rounds.specs.Close.{pairs_of, rounds_over, with_candidate}
use Rattle.newton_rounds.specs.Closure.{ends_of_members}
use Rattle.newton_rounds.specs.Pairs.{PairEnds}
use Rattle.newton_rounds.proofs.ReadyGroups.{members-are, procs-there}
use Rattle.newton_rounds.proofs.RoundFormulas.{summaries_by_round-fit}
use Rattle.newton_rounds.proofs.closing.rounds_over.Goals as goal

pub candidates_of-requires-clause-members : goal.candidates_of-requires-clause-members
candidates_of-requires-clause-members g c = members-are c.args.group c.requires.group

pub summaries_by_round-requires-clause-members : goal.summaries_by_round-requires-clause-members
summaries_by_round-requires-clause-members g c = members-are c.args.group c.requires.group

pub returns-clause-follows : goal.returns-clause-follows
unfolding rounds_over
returns-clause-follows g c =
    let program = c.args.group.program.now in
    let procs = c.args.group.procs.now in
    let known = c.args.group.known.now in
    let members = c.requires.group.members in
    let all = ends_of_members program procs in
    value_first (λ candidates. last_round program procs known candidates >>= λ end. Done (summaries_by_round program.rule all end)) c.in_ok-candidates.ensures.follows
    (ap (λ (ms : List PairEnds). each with_candidate [] (pairs_of ms c.args.table.now)) members)
    (value_first (λ end. Done (summaries_by_round program.rule all end)) c.in_ok-end.ensures.follows refl
    (at_end (c.in_ok-summaries_by_round.ensures ∙ ap (λ (ms : List PairEnds). summaries_by_round program.rule ms c.in_ok-end.end) members)))

pub returns-clause-fits : goal.returns-clause-fits
returns-clause-fits g c =
    let group = c.args.group in
    let ready = c.requires.group in
    let program = group.program.now in
    let procs = group.procs.now in
    let end = c.in_ok-end.end in
    let over = subst (λ (ms : List PairEnds). AreCandidates ms end.candidates) ready.members c.in_ok-end.ensures.over in
    let fits = subst (λ (ms : List PairEnds). AreSummaries ms end.formulas) ready.members c.in_ok-end.ensures.fits in
    subst (AreSummaries group.members.now) (sym c.in_ok-summaries_by_round.ensures)
    (subst (λ (ms : List PairEnds). AreSummaries ms (summaries_by_round program.rule ms end)) (sym ready.members)
    (summaries_by_round-fit program procs group.known.now ready.formed (procs-there group ready) ready.few ready.known program.rule end (over, fits)))
