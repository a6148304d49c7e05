use Rattle.std.proofs.Common.{◌++◌, ◌+◌, ◌∙◌, Some, ap, subst, take}
use Rattle.path_expr.specs.PathExpr.{Zero, Edge}
use Rattle.path_expr.specs.Elimination.{path_through}
use Rattle.path_expr.specs.Holds.{IsItemOrZero}
use Rattle.path_expr.proofs.RunLemmas.{Runs-then, Runs-as, Makes-exit, Makes-as}
use Rattle.path_expr.proofs.HoldLemmas.{IsItem-kept}
use Rattle.path_expr.proofs.FirstLemmas.{link_within, link_item, joins-more, joins-rest}
use Rattle.path_expr.proofs.beginning.first_cell.Goals as goal

pub bounds-items-number : goal.bounds-items-number
bounds-items-number g c =
    link_within c.args.items.now c.args.numbers.now c.requires.0 c.requires.1 c.loop-number.number-index c.requires.2 c.loop-number-test.true

pub join_link-requires : goal.join_link-requires
join_link-requires g c =
    let from = c.requires.0 in let to = c.requires.1 in
    let so_far = c.loop-number.invariant from to c.requires.2 in
    let link = link_item c.args.items.now c.args.numbers.now from to c.loop-number.number-index c.index-items-number.result c.requires.2 c.loop-number-test.true c.index-items-number.is in
    (path_through Zero (take c.loop-number.number-index c.args.numbers.now), Edge link.0, from, to, so_far.1, IsItem-kept so_far.0.keeps link.2)

pub returns-in_err-joined : goal.returns-in_err-joined
returns-in_err-joined g c = record {
  made = λ from to h.
      let so_far = c.loop-number.invariant from to h in
      let link = link_item c.args.items.now c.args.numbers.now from to c.loop-number.number-index c.index-items-number.result h c.loop-number-test.true c.index-items-number.is in
      let m = c.in_err-joined.ensures.made (path_through Zero (take c.loop-number.number-index c.args.numbers.now)) (Edge link.0) from to so_far.1 (IsItem-kept so_far.0.keeps link.2) in
      let rest = joins-rest c.args.numbers.now (c.loop-number.number-index + 1) in
      Makes-as (ap (λ x. x ++ rest.0) (joins-more c.args.numbers.now c.loop-number.number-index link.0 link.1).0 ∙ rest.1)
      (Makes-exit c.from_residual.result rest.0 c.from_residual.ensures.1 (Runs-then so_far.0 m.run));
}

pub loop-number-preserved : goal.loop-number-preserved
loop-number-preserved g c = λ from to h.
    let so_far = c.loop-number.invariant from to h in
    let link = link_item c.args.items.now c.args.numbers.now from to c.loop-number.number-index c.index-items-number.result h c.loop-number-test.true c.index-items-number.is in
    let m = c.in_ok-joined.ensures.made (path_through Zero (take c.loop-number.number-index c.args.numbers.now)) (Edge link.0) from to so_far.1 (IsItem-kept so_far.0.keeps link.2) in
    let more = joins-more c.args.numbers.now c.loop-number.number-index link.0 link.1 in
    (Runs-as more.0 (Runs-then so_far.0 m.run), subst (λ p. IsItemOrZero g.A.Algebra.fits g.A.Algebra.spans c.join_link.new.algebra p (Some c.in_ok-joined.joined) from to) more.1 m.good)
