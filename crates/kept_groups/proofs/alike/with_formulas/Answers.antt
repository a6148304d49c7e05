use Rattle.std.proofs.Common.{◌∙◌, ap, get_or}
use Rattle.kept_groups.specs.OneGroup.{with_summary_at}
use Rattle.kept_groups.proofs.AlikeSearch.{got, put-next}
use Rattle.kept_groups.proofs.alike.with_formulas.Goals as goal

pub loop-index-preserved : goal.loop-index-preserved
loop-index-preserved c =
    let places = c.args.places.now in
    let formulas = c.args.formulas.now in
    let i = c.loop-index.index in
    let known = c.loop-index.made.items in
    let one = got _ c.get.result formulas i c.get.ensures.lookup.1 c.get.ensures.lookup.3 in
    put-next places formulas i known c.in_ok-made.made.items c.loop-index-test.true (c.in_ok-made.ensures ∙ ap (λ f. with_summary_at (get_or places i 0) f known) one)
    ∙ c.loop-index.invariant
