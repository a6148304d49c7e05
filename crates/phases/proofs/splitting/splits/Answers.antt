use Rattle.std.proofs.Common.{◌∙◌}
use Rattle.std.specs.List.{flat_map}
use Rattle.linear_terms.specs.declared.row.Case.{Case}
use Rattle.phases.specs.Splits.{splits_of}
use Rattle.phases.specs.Words.{with_splits}
use Rattle.phases.proofs.SplitPolynomials.{splits-gathered}
use Rattle.phases.proofs.splitting.splits.Goals as goal

pub returns : goal.returns
returns c =
    c.in_ok-add_all.ensures
    ∙ (λ i. with_splits (c.new-made.ensures i) (flat_map (λ (case : Case). flat_map (splits_of (c.from.ensures i)) case.rows) (c.cases.ensures.cases i)))
    ∙ splits-gathered c.args.body.now
