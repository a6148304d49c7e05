use Rattle.std.proofs.Common.{◌+◌, drop, List, sym, ap, ◌∙◌}
use Rattle.std.specs.List.{flat_map}
use Rattle.linear_terms.specs.declared.row.Case.{Case}
use Rattle.linear_terms.specs.Polynomial.{Polynomial}
use Rattle.phases.specs.Splits.{splits_of}
use Rattle.phases.specs.Words.{with_splits}
use Rattle.phases.proofs.SplitPolynomials.{with_splits-next}
use Rattle.phases.proofs.splitting.add_all.Goals as goal

pub loop-case-preserved : goal.loop-case-preserved
loop-case-preserved c =
    ap (λ (ms : List Polynomial). with_splits ms (flat_map (λ (case : Case). flat_map (splits_of c.args.from) case.rows) (drop (c.loop-case.case-index + 1) c.args.cases.now)))
    (c.in_ok-add_splits.ensures ∙ ap (λ rows. with_splits c.loop-case.made (flat_map (splits_of c.args.from) rows)) c.as_slice.ensures)
    ∙ sym (with_splits-next (λ (case : Case). flat_map (splits_of c.args.from) case.rows) c.loop-case.made c.args.cases.now c.loop-case.case-index c.case-item.result c.loop-case-test.true c.case-item.is)
    ∙ c.loop-case.invariant
