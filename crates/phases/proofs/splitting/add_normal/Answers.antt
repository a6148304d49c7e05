use Rattle.std.proofs.Common.{◌+◌, drop, List, sym, ap, ◌∙◌}
use Rattle.std.specs.List.{flat_map}
use Rattle.std.specs.Prelude.{option_to_list}
use Rattle.linear_terms.specs.Polynomial.{Polynomial}
use Rattle.phases.specs.Splits.{normal_polynomial}
use Rattle.phases.specs.Words.{with_splits}
use Rattle.phases.proofs.SplitPolynomials.{with_splits-next}
use Rattle.phases.proofs.splitting.add_normal.Goals as goal

pub loop-poly-preserved : goal.loop-poly-preserved
loop-poly-preserved c =
    ap (λ (ms : List Polynomial). with_splits ms (flat_map (λ p. option_to_list (normal_polynomial p)) (drop (c.loop-poly.poly-index + 1) c.args.polys.now)))
    (c.in_ok-add_split.ensures)
    ∙ sym (with_splits-next (λ p. option_to_list (normal_polynomial p)) c.loop-poly.made c.args.polys.now c.loop-poly.poly-index c.poly-item.result c.loop-poly-test.true c.poly-item.is)
    ∙ c.loop-poly.invariant
