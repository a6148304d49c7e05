use Rattle.std.proofs.Common.{length, refl, ap, ◌∙◌, arith}
use Rattle.posing.proofs.Steps.{value_first, error_first}
use Rattle.polyhedra.specs.Squash.{squash_rows}
use Rattle.polyhedra.proofs.Coverage.{modified-few}
use Rattle.polyhedra.proofs.fitting.squash_rows.Goals as goal

pub change_relations-requires : goal.change_relations-requires
change_relations-requires g c =
    let few = modified-few c.args.fitting.one c.args.fitting.f.now in
    let long = ap length (c.as_slice.ensures ∙ c.requires.modified) in
    let most = c.requires.between.few_after in
    record {
      few = omega arith;
      modified = c.as_slice.ensures ∙ c.requires.modified;
      moving = c.as_slice-2.ensures ∙ c.requires.moving;
      cases = c.requires.cases;
      occurring = c.as_slice-3.ensures ∙ c.requires.occurring;
    }

pub bounds-requires : goal.bounds-requires
bounds-requires g c =
    record { between = c.requires.between; one = c.requires.one; modified = c.as_slice.ensures ∙ c.requires.modified }

pub returns-in_err-equations : goal.returns-in_err-equations
unfolding squash_rows
returns-in_err-equations g c = error_first _ c.in_err-equations.ensures refl c.from_residual.ensures.1

pub returns : goal.returns
unfolding squash_rows
returns g c = value_first _ c.in_ok-equations.ensures refl c.bounds.ensures
