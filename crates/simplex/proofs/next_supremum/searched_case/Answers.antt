use Rattle.std.proofs.Common.{rules, refl, arith, ap, subst, ◌∙◌, ◌≡◌, ◌+◌, ℕ, length}
use Rattle.std.specs.Prelude.{IfOk, IfErr}
use Rattle.simplex.specs.Refusal.{IsRefusalIn}
use Rattle.simplex.specs.Rows.{framed_tableau, kinds_of}
use Rattle.simplex.specs.Search.{FoundAt}
use Rattle.simplex.specs.Suprema.{with_goal, frame_over}
use Rattle.simplex.proofs.RowTableaux.{kinds-length}
use Rattle.simplex.proofs.Objectives.{more_rows, solving_goal_at}
use Rattle.simplex.proofs.SameCases.{of_beginning}
use Rattle.simplex.proofs.next_supremum.searched_case.Goals as goal

pub corner_search-requires : goal.corner_search-requires
corner_search-requires c =
    let all : c.in_ok-all.all ≡ with_goal c.args.rows.now c.args.objective.now = search rules in
    let t : c.in_ok-t.t ≡ framed_tableau c.args.columns.now c.in_ok-all.all = search rules in
    let len : c.len.result ≡ length c.args.columns.now = search rules in
    let kinds : c.as_slice-4.result.now ≡ kinds_of c.in_ok-all.all = search rules in
    let many : length c.as_slice-4.result.now ≡ length c.args.rows.now + 1 = ap length (kinds ∙ ap kinds_of all) ∙ kinds-length (with_goal c.args.rows.now c.args.objective.now) ∙ more_rows c.args.rows.now c.args.objective.now in (
      solving_goal_at c.args.columns.now c.args.rows.now c.in_ok-all.all c.args.objective.now c.len.result (length c.args.rows.now) c.as_slice-4.result.now c.in_ok-t.t all len refl t kinds,
      (refl, (omega (arith, many), search rules)),
    )

pub returns-clause-found : goal.returns-clause-found
returns-clause-found c =
    let all : c.in_ok-all.all ≡ with_goal c.args.rows.now c.args.objective.now = search rules in
    let t : c.in_ok-t.t ≡ framed_tableau c.args.columns.now c.in_ok-all.all = search rules in
    let len : c.len.result ≡ length c.args.columns.now = search rules in
    let kinds : c.as_slice-4.result.now ≡ kinds_of c.in_ok-all.all = search rules in
    of_beginning (λ over constants ks. IfOk c.corner_search.result (λ r. FoundAt over constants ks c.args.budget r.0.enters r.0.tableau r.1)) c.args.columns.now c.args.rows.now c.in_ok-all.all c.args.objective.now c.len.result (length c.args.rows.now) c.as_slice-4.result.now c.in_ok-t.t all len refl t kinds c.corner_search.ensures.found

pub returns-clause-refusal : goal.returns-clause-refusal
returns-clause-refusal c =
    let all : c.in_ok-all.all ≡ with_goal c.args.rows.now c.args.objective.now = search rules in
    let t : c.in_ok-t.t ≡ framed_tableau c.args.columns.now c.in_ok-all.all = search rules in
    let len : c.len.result ≡ length c.args.columns.now = search rules in
    let kinds : c.as_slice-4.result.now ≡ kinds_of c.in_ok-all.all = search rules in
    subst (λ (n : ℕ). IfErr c.corner_search.result (IsRefusalIn (frame_over c.args.columns.now c.args.rows.now c.args.objective.now) n))
    (kinds-length (with_goal c.args.rows.now c.args.objective.now) ∙ more_rows c.args.rows.now c.args.objective.now)
    (of_beginning (λ over constants ks. IfErr c.corner_search.result (IsRefusalIn over (length ks))) c.args.columns.now c.args.rows.now c.in_ok-all.all c.args.objective.now c.len.result (length c.args.rows.now) c.as_slice-4.result.now c.in_ok-t.t all len refl t kinds c.corner_search.ensures.refusal)
