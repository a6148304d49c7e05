use Rattle.std.proofs.Common.{◌+◌, drop, List, sym, ap, ◌∙◌}
use Rattle.std.specs.List.{flat_map}
use Rattle.linear_terms.specs.Polynomial.{Polynomial}
use Rattle.phases.specs.Splits.{splits_of}
use Rattle.phases.specs.Words.{with_splits}
use Rattle.phases.proofs.SplitPolynomials.{with_splits-next}
use Rattle.phases.proofs.splitting.add_splits.Goals as goal

pub loop-row-preserved : goal.loop-row-preserved
loop-row-preserved c =
    ap (λ (ms : List Polynomial). with_splits ms (flat_map (splits_of c.args.from) (drop (c.loop-row.row-index + 1) c.args.rows.now)))
    (c.in_ok-add_row.ensures)
    ∙ sym (with_splits-next (splits_of c.args.from) c.loop-row.made c.args.rows.now c.loop-row.row-index c.row-item.result c.loop-row-test.true c.row-item.is)
    ∙ c.loop-row.invariant
