use Rattle.std.proofs.Common.{length, refl, ap, ◌∙◌, arith}
use Rattle.posing.specs.Posing.{each}
use Rattle.posing.proofs.Following.{stops}
use Rattle.posing.proofs.Steps.{value_first, error_first}
use Rattle.polyhedra.specs.Bounds.{rows_with_entry_bound}
use Rattle.polyhedra.specs.Squash.{with_bounds}
use Rattle.polyhedra.proofs.Coverage.{modified-few}
use Rattle.polyhedra.proofs.Same.{same-ends}
use Rattle.polyhedra.proofs.fitting.bounds.Goals as goal

pub exit_bounds-requires : goal.exit_bounds-requires
exit_bounds-requires g c =
    let few = modified-few c.args.fitting.one c.args.fitting.f.now in
    let long = ap length c.requires.modified in
    let most = c.requires.between.few_after in
    record {
      fits = c.requires.between.fits;
      columns = c.requires.between.ends;
      valid = c.requires.between.to_is;
      few = omega arith;
      modified = c.requires.modified;
    }

pub differences-requires : goal.differences-requires
differences-requires g c =
    let few = modified-few c.args.fitting.one c.args.fitting.f.now in
    let long = ap length c.requires.modified in
    let most = c.requires.between.few_after in
    record {
      columns = c.requires.between.starts;
      valid = c.requires.between.from_is;
      ends = same-ends c.args.fitting.one c.args.fitting.f.now c.args.fitting.from.now c.args.fitting.to.now c.requires.between c.requires.one;
      few = omega arith;
      modified = c.requires.modified;
      entry = c.as_slice-entry.ensures ∙ c.in_ok-directions.ensures;
    }

pub returns-in_err-directions : goal.returns-in_err-directions
returns-in_err-directions g c = stops _ _ _ _ _ _ refl c.from_residual.ensures.1

pub returns-in_err-before : goal.returns-in_err-before
unfolding with_bounds
returns-in_err-before g c =
    let entry = c.as_slice-entry.ensures ∙ c.in_ok-directions.ensures in
    error_first _ c.in_err-before.ensures (λ i. each (rows_with_entry_bound (c.cases.ensures.cases i)) c.args.rows (entry i)) c.from_residual-in_err-before.ensures.1

pub returns-in_err-both : goal.returns-in_err-both
unfolding with_bounds
returns-in_err-both g c =
    let entry = c.as_slice-entry.ensures ∙ c.in_ok-directions.ensures in
    value_first _ c.in_ok-before.ensures (λ i. each (rows_with_entry_bound (c.cases.ensures.cases i)) c.args.rows (entry i))
    (error_first _ c.in_err-both.ensures refl c.from_residual-in_err-both.ensures.1)

pub returns : goal.returns
unfolding with_bounds
returns g c =
    let entry = c.as_slice-entry.ensures ∙ c.in_ok-directions.ensures in
    value_first _ c.in_ok-before.ensures (λ i. each (rows_with_entry_bound (c.cases.ensures.cases i)) c.args.rows (entry i))
    (value_first _ c.in_ok-both.ensures refl c.differences.ensures)
