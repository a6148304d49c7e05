-- The rows at both ends of a step are over the posts of its cases.
use Rattle.std.proofs.Common.{◌≡◌, ℕ, ◌+◌, Bool, true, false, List, length, drop, Option, Some, None, refl, sym, ap, subst, ◌∙◌, arith}
use Rattle.std.specs.Prelude.{IsTrue, slice_get, if◌then◌else◌}
use Rattle.std.specs.List.{AllByRecursion}
use Rattle.std.proofs.lemmas.List.{length-drop}
use Rattle.std.proofs.lemmas.Option.{same_Some}
use Rattle.items.proofs.Each.{each_from_test}
use Rattle.linear_terms.specs.declared.row.Case.{Case}
use Rattle.syntax_tree.specs.declared.program.Proc.{Proc}
use Rattle.syntax_tree.specs.declared.program.Program.{Program}
use Rattle.syntax_tree.specs.WellFormed.{IsWellFormed, width_of}
use Rattle.transition_formula.specs.Transition.{fits}
use Rattle.vocabularies.specs.Ends.{entry_width, exit_width, value_width}
use Rattle.leaf_cases.specs.Conditions.{columns_at, columns_in}
use Rattle.proc_summary.proofs.Graphs.{post-length}
use Rattle.point_rows.specs.Reading.{AreOverColumns}
use Rattle.point_steps.specs.declared.target.Target.{Target}
use Rattle.point_steps.specs.declared.target.Target.TheVariants as target
use Rattle.point_steps.specs.Claims.{entry_columns, target_columns}
use Rattle.point_rounds.specs.declared.falling.StepRows.{StepRows}
use Rattle.point_rounds.specs.declared.round.RowPlace.{RowPlace}
use Rattle.point_rounds.specs.declared.round.RowPlace.TheVariants.{AtPoint, AtExit}
use Rattle.point_rounds.specs.declared.round.StepFrom.{StepFrom}
use Rattle.point_rounds.specs.declared.table.PointTable.{PointTable}
use Rattle.point_rounds.specs.Closed.{IsStepOf}
use Rattle.point_rounds.specs.Parts.{IsReadBy}
use Rattle.point_rounds.specs.Rounds.{place_of, rows_at_place}
use Rattle.point_rounds.specs.Table.{IsTable, pair_columns, rows_at, rows_at_exit}
use Rattle.point_rounds.proofs.RowColumns.{over-more, points-over, rows-none}

module _ (program : Program) (formed : IsWellFormed program) (table : PointTable) (shape : IsTable program table) (from : StepFrom) (step : IsStepOf program from) where
  -- ---- the rows at the place

  exits-same : (p : Proc) → pair_columns program p ≡ entry_width program p + exit_width program p
  exits-same p = by p.returns
    where
      by : (b : Bool) → entry_width program p + (if b then length program.globals + 1 else length program.globals) ≡ entry_width program p + (length program.globals + value_width b)
      by true = refl
      by false = omega arith

  entry-over : (callee : ℕ) (o : Option Proc) → slice_get program.procs callee ≡ o → AreOverColumns (entry_columns program o) (rows_at program table callee 0)
  entry-over callee (Some q) is = (shape.at callee q is 0).over
  entry-over callee None is = subst (AreOverColumns 0) (sym (rows-none program table shape callee 0 is)) refl

  target-over : (to : Target) (place : RowPlace) → place_of from.proc to ≡ Some place → AreOverColumns (target_columns program step.p to) (rows_at_place program table place)
  target-over (target.Head node) place e =
      subst (λ at. AreOverColumns (width_of program step.p) (rows_at_place program table at)) (same_Some (AtPoint from.proc node) place e)
      (subst (λ n. AreOverColumns n (rows_at program table from.proc node)) (ap (columns_in program) step.is) (points-over program table formed shape from.proc node))
  target-over (target.Entry callee) place e =
      subst (λ at. AreOverColumns (entry_columns program (slice_get program.procs callee)) (rows_at_place program table at)) (same_Some (AtPoint callee 0) place e)
      (entry-over callee (slice_get program.procs callee) refl)
  target-over target.Exit place e =
      subst (λ at. AreOverColumns (entry_width program step.p + exit_width program step.p) (rows_at_place program table at)) (same_Some (AtExit from.proc) place e)
      (subst (λ n. AreOverColumns n (rows_at_exit table from.proc)) (exits-same step.p) (shape.at_exit from.proc step.p step.is).over)
  target-over (target.Check number) place e = absurd (cc)

  -- ---- the cases

  dropped : {A : Type 0} (n m : ℕ) (xs : List A) → length xs ≡ n + m → length (drop n xs) ≡ m
  dropped n m xs e = let long = length-drop n xs in omega (arith, e, long)

  pub cases-read : (ends : StepRows) → ends.columns ≡ columns_at program from.proc → ends.source.now ≡ rows_at program table from.proc from.node
      → ends.rows.now ≡ rows_at_place program table ends.place → place_of from.proc from.step.target ≡ Some ends.place
      → AllByRecursion (IsReadBy ends) from.step.formula.cases
  cases-read ends columns source rows place =
      each_from_test (fits from.step.formula.from from.step.formula.to) (IsReadBy ends) one from.step.formula.cases step.fits.fits
    where
      wide : ends.columns ≡ width_of program step.p
      wide = columns ∙ ap (columns_in program) step.is

      one : (case : Case) → IsTrue (fits from.step.formula.from from.step.formula.to case) → IsReadBy ends case
      one case h =
          let long : length case.post ≡ ends.columns + target_columns program step.p from.step.target =
          post-length from.step.formula.from from.step.formula.to case h ∙ step.fits.to ∙ ap (λ n. n + target_columns program step.p from.step.target) (sym wide) in
          record {
            long = omega (arith, long);
            source = over-more ends.columns (length case.post) ends.source.now (omega (arith, long))
                (subst (λ rs. AreOverColumns ends.columns rs) (sym source) (subst (λ n. AreOverColumns n (rows_at program table from.proc from.node)) (sym columns) (points-over program table formed shape from.proc from.node)));
            rows = subst (λ n. AreOverColumns n ends.rows.now) (sym (dropped ends.columns (target_columns program step.p from.step.target) case.post long))
                (subst (λ rs. AreOverColumns (target_columns program step.p from.step.target) rs) (sym rows) (target-over from.step.target ends.place place));
          }
