use Rattle.std.proofs.Common.{◌≡◌, ap, ◌∙◌}
use Rattle.farkas_check.specs.declared.question.Question.TheVariants.{Sup}
use Rattle.polyhedra.specs.Kept.{with_objectives}
use Rattle.polyhedra.proofs.bounds.bound_with.Goals as goal

pub returns-clause-follows : goal.returns-clause-follows
returns-clause-follows g c =
    let goals = with_objectives c.args.goals.now c.args.objectives in
    let asked : Sup c.with_objectives.result ≡ Sup goals = ap (λ gs. Sup gs) (c.with_objectives.ensures ∙ ap (λ gs. with_objectives gs c.args.objectives) c.replace-kept.ensures.value) in
    c.ask_bound-bound.ensures goals asked

pub returns-clause-goals : goal.returns-clause-goals
returns-clause-goals g c =
    let goals = with_objectives c.args.goals.now c.args.objectives in
    let asked : Sup c.with_objectives.result ≡ Sup goals = ap (λ gs. Sup gs) (c.with_objectives.ensures ∙ ap (λ gs. with_objectives gs c.args.objectives) c.replace-kept.ensures.value) in
    c.goals_in.ensures goals asked
