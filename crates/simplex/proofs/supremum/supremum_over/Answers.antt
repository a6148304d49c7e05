use Rattle.std.proofs.Common.{rules, refl, arith, ap, ◌∙◌, ◌≡◌, ◌+◌, length}
use Rattle.simplex.specs.Rows.{framed_tableau, kinds_of}
use Rattle.simplex.specs.Suprema.{with_goal}
use Rattle.simplex.proofs.RowTableaux.{kinds-length}
use Rattle.simplex.proofs.Objectives.{more_rows, solving_goal_at, case_at, refusal_case}
use Rattle.simplex.proofs.supremum.supremum_over.Goals as goal

pub raised_supremum-requires : goal.raised_supremum-requires
raised_supremum-requires c =
    let all : c.in_ok-all.all ≡ with_goal c.args.rows.now c.args.objective.now = search rules in
    let t : c.in_ok-t.t ≡ framed_tableau c.args.columns.now c.in_ok-all.all = search rules in
    let kinds : c.as_slice-3.result.now ≡ kinds_of c.in_ok-all.all = search rules in
    let many : length c.as_slice-3.result.now ≡ length c.args.rows.now + 1 = ap length (kinds ∙ ap kinds_of all) ∙ kinds-length (with_goal c.args.rows.now c.args.objective.now) ∙ more_rows c.args.rows.now c.args.objective.now in (
      refl,
      (
        solving_goal_at c.args.columns.now c.args.rows.now c.in_ok-all.all c.args.objective.now (length c.args.columns.now) (length c.args.rows.now) c.as_slice-3.result.now c.in_ok-t.t all refl refl t kinds,
        (refl, (omega (arith, many), search rules)),
      ),
    )

pub returns-clause-supremum : goal.returns-clause-supremum
returns-clause-supremum c =
    let all : c.in_ok-all.all ≡ with_goal c.args.rows.now c.args.objective.now = search rules in
    let t : c.in_ok-t.t ≡ framed_tableau c.args.columns.now c.in_ok-all.all = search rules in
    let kinds : c.as_slice-3.result.now ≡ kinds_of c.in_ok-all.all = search rules in
    case_at c.args.rows.now c.args.objective.now c.args.columns.now c.in_ok-all.all c.args.budget (length c.args.columns.now) (length c.args.rows.now) c.as_slice-3.result.now c.in_ok-t.t c.raised_supremum.result all refl refl t kinds c.raised_supremum.ensures.supremum

pub returns-clause-refusal : goal.returns-clause-refusal
returns-clause-refusal c =
    let all : c.in_ok-all.all ≡ with_goal c.args.rows.now c.args.objective.now = search rules in
    let t : c.in_ok-t.t ≡ framed_tableau c.args.columns.now c.in_ok-all.all = search rules in
    let kinds : c.as_slice-3.result.now ≡ kinds_of c.in_ok-all.all = search rules in
    refusal_case c.args.rows.now c.args.objective.now c.args.columns.now c.in_ok-all.all (length c.args.columns.now) (length c.args.rows.now) c.as_slice-3.result.now c.in_ok-t.t c.raised_supremum.result all refl refl t kinds c.raised_supremum.ensures.refusal
