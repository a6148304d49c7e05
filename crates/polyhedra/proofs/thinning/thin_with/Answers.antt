use Rattle.std.proofs.Common.{◌≡◌, ℕ, ◌≤◌, List, length, Bool, true, false, Some, refl, sym, ap, subst, ◌∷◌, [], ◌++◌, ◌∙◌, arith}
use Rattle.std.specs.Prelude.{slice_get, if◌then◌else◌}
use Rattle.std.specs.List.{remove, insert}
use Rattle.std.proofs.lemmas.List.Edits.{length-remove}
use Rattle.farkas_check.specs.declared.question.Question.TheVariants.{Infeasible}
use Rattle.linear_terms.specs.declared.row.Row.{Row}
use Rattle.polyhedra.specs.Infeasibility.{assent}
use Rattle.polyhedra.specs.Thin.{without_if, thinning_with}
use Rattle.posing.proofs.Following.{stops}
use Rattle.posing.proofs.Steps.{value_first, error_first, at_end}
use Rattle.polyhedra.proofs.ThinLaws.{put_back}
use Rattle.polyhedra.proofs.thinning.thin_with.Goals as goal

pub with_row_unless-requires : goal.with_row_unless-requires
with_row_unless-requires g c =
    let asked = c.in_ok-question.ensures ∙ ap (λ rs. Infeasible (rs ++ c.args.negation ∷ [])) c.row_and_others-others.ensures.others in
    let same = c.others_of-others.ensures (remove c.args.rows c.args.place) c.args.negation asked in
    let many = length-remove c.args.rows c.args.place c.requires in
    subst (λ (rs : List Row). c.args.place ≤ length rs) (sym same) (omega arith)

pub row_and_others-others-requires : goal.row_and_others-others-requires
row_and_others-others-requires g c = c.requires

pub returns-in_err-question : goal.returns-in_err-question
returns-in_err-question g c = stops _ _ _ _ _ _ refl c.from_residual.ensures.1

pub returns-in_err-drops : goal.returns-in_err-drops
unfolding thinning_with
returns-in_err-drops g c =
    let asked = c.in_ok-question.ensures ∙ ap (λ rs. Infeasible (rs ++ c.args.negation ∷ [])) c.row_and_others-others.ensures.others in
    error_first _ c.in_err-drops.ensures (ap assent asked) c.from_residual-in_err-drops.ensures.1

pub returns-in_err-with_row_unless : goal.returns-in_err-with_row_unless
unfolding thinning_with
returns-in_err-with_row_unless g c =
    let asked = c.in_ok-question.ensures ∙ ap (λ rs. Infeasible (rs ++ c.args.negation ∷ [])) c.row_and_others-others.ensures.others in
    value_first _ c.in_ok-drops.ensures (ap assent asked) (stops _ _ _ _ _ _ refl c.from_residual-in_err-with_row_unless.ensures.1)

restored : (drops : Bool) (rows : List Row) (place : ℕ) (row : Row) → slice_get rows place ≡ Some row → (if drops then remove rows place else insert (remove rows place) place row) ≡ without_if drops place rows
restored true rows place row e = refl
restored false rows place row e = put_back rows place row e

pub returns : goal.returns
unfolding thinning_with
returns g c =
    let asked = c.in_ok-question.ensures ∙ ap (λ rs. Infeasible (rs ++ c.args.negation ∷ [])) c.row_and_others-others.ensures.others in
    let same = c.others_of-others.ensures (remove c.args.rows c.args.place) c.args.negation asked in
    value_first _ c.in_ok-drops.ensures (ap assent asked)
    (at_end (c.in_ok-with_row_unless.ensures ∙ ap (λ (rs : List Row). if c.in_ok-drops.drops then rs else insert rs c.args.place c.row_and_others-others.result.1) same
    ∙ restored c.in_ok-drops.drops c.args.rows c.args.place c.row_and_others-others.result.1 c.row_and_others-others.ensures.row))
