use Rattle.std.proofs.Common.{rules, ◌≡◌, ℕ, length, sym, subst, ◌∙◌, arith}
use Rattle.std.specs.Prelude.{All}
use Rattle.std.proofs.lemmas.Bool.{false≢true}
use Rattle.std.proofs.lemmas.List.{take_all}
use Rattle.farkas_check.specs.declared.question.Goal.{Goal}
use Rattle.simplex.specs.Goals.{AreBoundsTo, IsFoundAmong, ProgressAt}
use Rattle.simplex.specs.Shortness.{AreShortRows, HaveShortRows}
use Rattle.simplex.proofs.Cases.{bounds_found}
use Rattle.simplex.proofs.ShortCases.{answer-short, bounded-short}
use Rattle.simplex.proofs.goals.searched_goals.Goals as goal
use Rattle.simplex.proofs.goals.searched_goals.Goals.{then-short, else-short}

-- a case more that is bounded, and the rows of all so far are short where its own are
pub loop-place-preserved : goal.loop-place-preserved
loop-place-preserved c = (
  subst (ProgressAt c.args.budget c.args.goals.now c.loop-place.place) c.in-On.is c.in_ok-came.ensures.came,
  λ yes. elim c.if-short.branch [
    | then-short w ↦ bounded-short c.args.goals.now c.loop-place.place c.in_ok-came.came c.in-On.more c.in-On.is (c.in_ok-came.ensures.short (sym w.short-is ∙ yes)) (search rules) (c.loop-place.invariant.1 w.if-short.true)
    | else-short w ↦ absurd (false≢true (sym w.if-short.false ∙ sym w.short-is ∙ yes))
  ],
)

pub returns-clause-found : goal.returns-clause-found
returns-clause-found c =
    let all : c.loop-place.place ≡ length c.args.goals.now = search rules in
    let b : AreBoundsTo c.args.budget c.args.goals.now (length c.args.goals.now) c.loop-place.bounds = subst (λ (n : ℕ). AreBoundsTo c.args.budget c.args.goals.now n c.loop-place.bounds) all c.loop-place.invariant.0 in
    subst (λ a. IsFoundAmong c.args.budget c.args.goals.now a) (sym c.bound_answer.ensures) (bounds_found c.args.budget c.args.goals.now c.loop-place.bounds b)

pub returns-clause-short : goal.returns-clause-short
returns-clause-short c = λ yes.
    let end : c.loop-place.place ≡ length c.args.goals.now = search rules in
    let all : All (λ (g : Goal). AreShortRows g.rows) c.args.goals.now = subst (All (λ (g : Goal). AreShortRows g.rows)) (take_all c.loop-place.place c.args.goals.now (omega (arith, end))) (c.loop-place.invariant.1 yes) in
    subst (HaveShortRows c.args.goals.now) (sym c.bound_answer.ensures) (answer-short c.args.goals.now c.loop-place.bounds all)
