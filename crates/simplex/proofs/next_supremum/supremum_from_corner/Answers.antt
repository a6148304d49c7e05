use Rattle.std.proofs.Common.{rules, ◌≡◌, ◌+◌, ℕ, length, ap, sym, subst, arith, ◌∙◌}
use Rattle.std.specs.Prelude.{IfOk, IfErr, IfSome}
use Rattle.simplex.specs.Refusal.{IsRefusalIn}
use Rattle.simplex.specs.Search.{IsMet}
use Rattle.simplex.specs.Suprema.{FramedKinds, with_goal, frame_over, SupremumAt}
use Rattle.simplex.proofs.RowTableaux.{kinds-length}
use Rattle.simplex.proofs.Objectives.{more_rows}
use Rattle.simplex.proofs.OtherGoals.{many}
use Rattle.simplex.proofs.OwnColumns.{left_ends}
use Rattle.simplex.proofs.next_supremum.supremum_from_corner.Goals as goal

pub topped_stage-requires : goal.topped_stage-requires
topped_stage-requires g c =
    let len : c.len.result ≡ length c.args.columns.now = search rules in
    let rows : g.case.over.rows ≡ length c.args.rows.now = ap (λ k. k.over.rows) c.requires.0 in
    let all : length c.args.stage.tableau.lines ≡ length c.args.rows.now + 1 = many c.args.columns.now c.args.rows.now c.args.objective.now c.args.objective.now c.args.stage.enters c.args.stage.tableau c.requires.1 in (
      subst (λ (n : ℕ). IsMet g.case.over n g.case.kinds c.args.stage.enters c.args.stage.tableau) (sym len)
          (subst (λ (k : FramedKinds). IsMet k.over (length c.args.columns.now) k.kinds c.args.stage.enters c.args.stage.tableau) (sym c.requires.0) c.requires.1),
      (sym rows, omega (arith, all)),
    )

pub returns-clause-supremum : goal.returns-clause-supremum
returns-clause-supremum g c =
    let len : c.len.result ≡ length c.args.columns.now = search rules in
    subst (λ (k : FramedKinds). IfOk c.topped_stage.result (λ r. SupremumAt k.over (length c.args.columns.now) k.kinds c.args.budget r.0)) c.requires.0
    (subst (λ (n : ℕ). IfOk c.topped_stage.result (λ r. SupremumAt g.case.over n g.case.kinds c.args.budget r.0)) len c.topped_stage.ensures.supremum)

pub returns-clause-left : goal.returns-clause-left
returns-clause-left g c =
    let len : c.len.result ≡ length c.args.columns.now = search rules in
    left_ends g.case c.args.columns.now c.args.rows.now c.args.objective.now c.topped_stage.result c.requires.0
    (subst (λ (n : ℕ). IfOk c.topped_stage.result (λ r. IfSome r.1 (λ s. IsMet g.case.over n g.case.kinds s.enters s.tableau))) len c.topped_stage.ensures.left)

pub returns-clause-refusal : goal.returns-clause-refusal
returns-clause-refusal g c =
    subst (λ (n : ℕ). IfErr c.topped_stage.result (IsRefusalIn (frame_over c.args.columns.now c.args.rows.now c.args.objective.now) n))
    (kinds-length (with_goal c.args.rows.now c.args.objective.now) ∙ more_rows c.args.rows.now c.args.objective.now)
    (subst (λ (k : FramedKinds). IfErr c.topped_stage.result (IsRefusalIn k.over (length k.kinds))) c.requires.0 c.topped_stage.ensures.refusal)
