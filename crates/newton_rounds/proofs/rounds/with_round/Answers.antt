use Rattle.std.proofs.Common.{[], refl}
use Rattle.items.proofs.Each.{each-more}
use Rattle.posing.specs.Posing.{◌>>=◌, Done, each}
use Rattle.posing.proofs.Steps.{at_end, value_first}
use Rattle.newton_rounds.specs.Between.{IsRowOver}
use Rattle.newton_rounds.specs.Candidates.{judgements_and, with_judged, with_round}
use Rattle.newton_rounds.specs.Closure.{pair_ends}
use Rattle.newton_rounds.specs.Shapes.{IsRefutable}
use Rattle.newton_rounds.proofs.CratesBelow.{some_at}
use Rattle.newton_rounds.proofs.RoundRows.{row-refutable}
use Rattle.newton_rounds.proofs.rounds.with_round.Goals as goal

pub judgements_by-requires : goal.judgements_by-requires
judgements_by-requires g c =
    let program = c.args.group.program.now in
    let there = some_at program.procs c.args.proc c.requires.procedure in
    let p = there.0 in
    each-more (IsRowOver (pair_ends program p).pair.columns) (IsRefutable c.in_ok-f.f)
    (λ row over. row-refutable program c.requires.group.formed.globals p c.in_ok-f.f row (c.in_ok-f.ensures.known p there.1) over) c.args.rows.now (c.requires.rows p there.1)

pub returns : goal.returns
unfolding with_round
returns g c = λ p is.
    value_first (λ f. each (with_judged f) [] c.args.rows.now >>= λ judged. Done (judgements_and c.args.made f judged)) (c.in_ok-f.ensures.follows p is) refl
    (value_first (λ judged. Done (judgements_and c.args.made c.in_ok-f.f judged)) c.in_ok-judged.ensures refl (at_end c.in_ok-judgements_and.ensures))
