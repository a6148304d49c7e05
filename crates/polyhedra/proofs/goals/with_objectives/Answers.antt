use Rattle.std.proofs.Common.{◌≡◌, ◌+◌, ◌<◌, length, sym, ap, ◌∙◌}
use Rattle.std.proofs.Math.Seq.{take-append_seam}
use Rattle.std.proofs.lemmas.List.{set-get_or}
use Rattle.polyhedra.proofs.GoalObjectives.{put_from, put_from-start, put_from-next, put_from-none, put_from-end}
use Rattle.polyhedra.proofs.goals.with_objectives.Goals.{in-Some, in_default}
use Rattle.polyhedra.proofs.goals.with_objectives.Goals as goal

pub loop-goal-init : goal.loop-goal-init
loop-goal-init c =
    ap (λ ps. put_from 0 ps c.deref_mut-goal-items.result.now) c.into_iter-objectives.ensures.into_iter_gives.0
    ∙ ap (put_from 0 c.args.objectives) (c.deref_mut-goal-items.ensures.value ∙ c.into_vec-goals.ensures)
    ∙ put_from-start c.args.goals c.args.objectives

pub loop-goal-preserved : goal.loop-goal-preserved
loop-goal-preserved c =
    let i = c.loop-goal.goal-index in
    let goals = c.loop-goal.goal-items in
    let left = c.next.new.self.rest.items in
    let low : i < length goals = rw c.loop-goal.auto.goal-items c.loop-goal-test.true in
    elim c.match-next.branch [
      | in-Some w ↦
          ap (put_from (i + 1) left) w.goal-items-is
          ∙ put_from-next i c.goal-item.result w.in-Some.objective left goals low
          ∙ ap (λ ps. put_from i ps goals) (sym w.in-Some.ensures.items)
          ∙ c.loop-goal.invariant
      | in_default w ↦
          ap (put_from (i + 1) left) (w.goal-items-is ∙ set-get_or goals i c.goal-item.result)
          ∙ put_from-none i left c.loop-goal.objectives.rest.items goals w.in_default.ensures.items (sym c.next.new.self.rest.ok.0 ∙ w.in_default.ensures.cases.1)
          ∙ c.loop-goal.invariant
    ]

pub returns : goal.returns
returns c =
    let goals = c.loop-goal.goal-items in
    let many : c.into_vec-goals.result.len ≡ length goals = c.into_vec-goals.result.ok.0 ∙ sym (ap length c.deref_mut-goal-items.ensures.value) ∙ sym c.loop-goal.auto.goal-items in
    let stands : c.from_vec.result ≡ goals = c.from_vec.ensures ∙ rw many (take-append_seam goals _) in
    let all = put_from-end c.loop-goal.goal-index c.loop-goal.objectives.rest.items goals (rw c.loop-goal.auto.goal-items c.loop-goal-test.false) in
    stands ∙ sym all ∙ c.loop-goal.invariant
