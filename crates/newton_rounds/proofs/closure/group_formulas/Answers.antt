use Rattle.std.proofs.Common.{◌≡◌, [], ◌-◌, ◌+◌, length, sym, ap, subst, refl, arith}
use Rattle.std.specs.List.{range_with_len}
use Rattle.posing.specs.Follows.{Leads}
use Rattle.posing.specs.Posing.{each}
use Rattle.posing.proofs.Following.{leads_none}
use Rattle.posing.proofs.Steps.{all_left, at_end, error_first, first_left, in_other_words}
use Rattle.newton_rounds.specs.Closure.{with_closed}
use Rattle.newton_rounds.specs.Groups.{stretches_in}
use Rattle.newton_rounds.proofs.ChainFormulas.{range-end, range-first}
use Rattle.newton_rounds.proofs.closure.group_formulas.Goals as goal

pub loop-place-init : goal.loop-place-init
loop-place-init g c =
    let step = with_closed c.args.graph.members.now (stretches_in c.args.graph) c.args.bases.now in
    let n = length c.args.graph.members.now in
    let all : range_with_len 0 n ≡ range_with_len 0 (n - 0) = ap (range_with_len 0) (omega arith) in
    subst (λ made. Leads g.O.Oracle.asking c.args.oracle.now c.args.oracle.now c.args.log.now c.args.log.now (each step [] (range_with_len 0 n)) (each step made (range_with_len 0 (n - 0)))) (sym c.new-made.ensures)
    (subst (λ ns. Leads g.O.Oracle.asking c.args.oracle.now c.args.oracle.now c.args.log.now c.args.log.now (each step [] (range_with_len 0 n)) (each step [] ns)) all (leads_none _ _ _ _))

pub returns-in_err-made : goal.returns-in_err-made
returns-in_err-made g c =
    let step = with_closed c.args.graph.members.now (stretches_in c.args.graph) c.args.bases.now in
    let n = length c.args.graph.members.now in
    let place = c.loop-place.place in
    all_left c.loop-place.invariant
    (in_other_words (ap (each step c.loop-place.made) (sym (range-first place n c.loop-place-test.true)))
    (error_first (λ next. each step next (range_with_len (place + 1) (n - (place + 1)))) c.in_err-made.ensures refl c.from_residual.ensures.1))

pub loop-place-preserved : goal.loop-place-preserved
loop-place-preserved g c =
    let step = with_closed c.args.graph.members.now (stretches_in c.args.graph) c.args.bases.now in
    let n = length c.args.graph.members.now in
    let place = c.loop-place.place in
    first_left (λ next. each step next (range_with_len (place + 1) (n - (place + 1)))) c.loop-place.invariant (ap (each step c.loop-place.made) (range-first place n c.loop-place-test.true)) c.in_ok-made.ensures refl

pub returns : goal.returns
returns g c =
    let step = with_closed c.args.graph.members.now (stretches_in c.args.graph) c.args.bases.now in
    all_left c.loop-place.invariant (in_other_words (ap (each step c.loop-place.made) (sym (range-end c.loop-place.place (length c.args.graph.members.now) c.loop-place-test.false))) (at_end refl))
