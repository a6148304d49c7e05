use Rattle.std.proofs.Common.{sym, ap, subst, refl}
use Rattle.posing.proofs.Steps.{in_other_words, value_first}
use Rattle.newton_rounds.specs.Between.{AreChained}
use Rattle.newton_rounds.specs.Closure.{closure_at, closed_member}
use Rattle.newton_rounds.specs.Groups.{stretches_in}
use Rattle.newton_rounds.proofs.ClosureSummaries.{chained-by}
use Rattle.newton_rounds.proofs.closure.closed_member.Goals as goal

pub closure_at-requires : goal.closure_at-requires
closure_at-requires g c =
    let members = c.args.graph.members.now in
    subst (AreChained members c.args.bases.now c.args.place) (sym c.as_slice.ensures)
    (chained-by members (stretches_in c.args.graph) c.requires.graph.group c.args.bases.now c.requires.bases c.args.place c.in_ok-cells.cells c.requires.there c.in_ok-cells.ensures.lead)

pub returns : goal.returns
unfolding closed_member
returns g c =
    let at = closure_at c.args.graph.members.now c.args.bases.now c.args.place in
    value_first at c.in_ok-cells.ensures.follows refl (in_other_words (ap at c.as_slice.ensures) c.closure_at.ensures)
