use Rattle.std.proofs.Common.{◌<◌, length, sym, subst}
use Rattle.std.specs.Prelude.{All}
use Rattle.linear_terms.specs.declared.row.Case.{Case}
use Rattle.facet_hull.proofs.finding.hull_cases.Goals as goal

pub changes_in-requires : goal.changes_in-requires
changes_in-requires c =
    let long = c.requires.posts c.loop-case.case-index c.case-item.result c.loop-case-test.true in
    subst (λ (case : Case). All (λ v. v < length case.post) c.args.variables.now) (sym c.case-item.is)
    (subst (λ n. All (λ v. v < n) c.args.variables.now) (sym long) c.requires.low)
