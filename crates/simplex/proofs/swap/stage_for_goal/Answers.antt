use Rattle.std.proofs.Common.{rules, ◌≡◌, ◌<◌, ◌∙◌, ℕ, ◌∷◌, ◌++◌, [], List, Ok, ℤ, length, get_or, sym, ap, subst}
use Rattle.simplex.specs.Endings.{cleared_line, IsMetFor}
use Rattle.simplex.proofs.OtherGoals.{goal_line, choices_within, pivots_wide, met_turned}
use Rattle.simplex.proofs.swap.stage_for_goal.Goals as goal

pub cleared_line-requires-clause-choices : goal.cleared_line-requires-clause-choices
cleared_line-requires-clause-choices c k h =
    let lines : c.as_slice.result.now ≡ c.front_of-lines.result = search rules in
    let chosen : c.as_slice-2.result.now ≡ c.args.stage.tableau.chosen = search rules in
    let own : c.in_ok-own.own ≡ goal_line c.args.columns.now c.args.rows.now c.args.objective.now = search rules in
    subst (λ (cs : List ℕ). get_or cs k 0 < length c.in_ok-own.own) (sym chosen)
    (subst (λ (zs : List ℤ). get_or c.args.stage.tableau.chosen k 0 < length zs) (sym own)
    (choices_within c.args.columns.now c.args.rows.now c.requires.stands.objective c.args.objective.now c.args.stage.enters c.args.stage.tableau c.requires.stands.met c.front_of-lines.result c.front_of-lines.ensures k (subst (λ (ls : List (List ℤ)). k < length ls) lines h)))

pub cleared_line-requires-clause-wide : goal.cleared_line-requires-clause-wide
cleared_line-requires-clause-wide c k h =
    let lines : c.as_slice.result.now ≡ c.front_of-lines.result = search rules in
    let own : c.in_ok-own.own ≡ goal_line c.args.columns.now c.args.rows.now c.args.objective.now = search rules in
    ap (λ (ls : List (List ℤ)). length (get_or ls k [])) lines
    ∙ pivots_wide c.args.columns.now c.args.rows.now c.requires.stands.objective c.args.objective.now c.args.stage.enters c.args.stage.tableau c.requires.stands.met c.front_of-lines.result c.front_of-lines.ensures k (subst (λ (ls : List (List ℤ)). k < length ls) lines h)
    ∙ ap length (sym own)

pub returns-in-Ok-clause-met : goal.returns-in-Ok-clause-met
returns-in-Ok-clause-met c =
    let lines : c.as_slice.result.now ≡ c.front_of-lines.result = search rules in
    let chosen : c.as_slice-2.result.now ≡ c.args.stage.tableau.chosen = search rules in
    let own : c.in_ok-own.own ≡ goal_line c.args.columns.now c.args.rows.now c.args.objective.now = search rules in
    let exact : cleared_line c.as_slice.result.now c.as_slice-2.result.now 0 c.in_ok-own.own ≡ Ok c.in-Ok.line = search rules in
    let pushed : c.push.new.self ≡ c.front_of-lines.result ++ c.in-Ok.line ∷ [] = search rules in
    let same : cleared_line c.front_of-lines.result c.args.stage.tableau.chosen 0 (goal_line c.args.columns.now c.args.rows.now c.args.objective.now) ≡ cleared_line c.as_slice.result.now c.as_slice-2.result.now 0 c.in_ok-own.own =
    ap (λ ls. cleared_line ls c.args.stage.tableau.chosen 0 (goal_line c.args.columns.now c.args.rows.now c.args.objective.now)) (sym lines)
    ∙ ap (λ cs. cleared_line c.as_slice.result.now cs 0 (goal_line c.args.columns.now c.args.rows.now c.args.objective.now)) (sym chosen)
    ∙ ap (λ zs. cleared_line c.as_slice.result.now c.as_slice-2.result.now 0 zs) (sym own) in
    subst (λ (ls : List (List ℤ)). IsMetFor c.args.columns.now c.args.rows.now c.args.objective.now c.args.stage.enters (record { lines = ls; chosen = c.args.stage.tableau.chosen })) (sym pushed)
    (met_turned c.args.columns.now c.args.rows.now c.requires.stands.objective c.args.objective.now c.args.stage.enters c.args.stage.tableau c.front_of-lines.result c.in-Ok.line c.requires.stands.met c.front_of-lines.ensures (same ∙ exact))
