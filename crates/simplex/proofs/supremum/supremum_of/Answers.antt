use Rattle.std.proofs.Common.{rules, ◌≡◌, sym, subst}
use Rattle.farkas_check.specs.Columns.{columns, monos_of}
use Rattle.farkas_check.proofs.Walks.{IsOrdered, IsOrdered-columns}
use Rattle.simplex.proofs.supremum.supremum_of.Goals as goal

pub supremum_over-requires : goal.supremum_over-requires
supremum_over-requires c =
    let own : c.as_slice.result.now ≡ columns c.as_slice-rows.result.now c.args.goal.now.objective.terms = search rules in
    subst IsOrdered (sym own) (IsOrdered-columns (monos_of c.as_slice-rows.result.now c.args.goal.now.objective.terms))
