use Rattle.std.proofs.Common.{ap, ◌∙◌, refl}
use Rattle.posing.proofs.Following.{stops}
use Rattle.posing.proofs.Steps.{value_first, error_first, at_end, in_other_words, value_has}
use Rattle.polyhedra.specs.Squash.{squashed_case, squashed_formula}
use Rattle.polyhedra.proofs.FinishLaws.{FinishedLeft}
use Rattle.polyhedra.proofs.FitLaws.{IsSquash, case-squash, squash-solvable, squash-left, left-small}
use Rattle.polyhedra.proofs.Same.{same-decided}
use Rattle.polyhedra.proofs.fitting.squash.Goals as goal

pub squashed_case-requires-clause-one : goal.squashed_case-requires-clause-one
squashed_case-requires-clause-one g c = same-decided c.args.from.now c.args.to.now c.same-one.result c.same-one.ensures

pub returns-in_err-case : goal.returns-in_err-case
unfolding squashed_formula
returns-in_err-case g c =
    let same = same-decided c.args.from.now c.args.to.now c.same-one.result c.same-one.ensures in
    error_first _ c.in_err-case.ensures (ap (λ b. squashed_case b c.args.f.now c.args.from.now c.args.to.now) same) c.from_residual.ensures.1

pub finish-requires : goal.finish-requires
finish-requires g c =
    let same = same-decided c.args.from.now c.args.to.now c.same-one.result c.same-one.ensures in
    let asked = in_other_words (ap (λ b. squashed_case b c.args.f.now c.args.from.now c.args.to.now) same) c.in_ok-case.ensures in
    let shaped = value_has (IsSquash c.args.f.now c.args.from.now c.args.to.now c.requires) asked (case-squash c.args.f.now c.args.from.now c.args.to.now c.requires) in
    squash-solvable c.args.f.now c.args.from.now c.args.to.now c.requires c.in_ok-case.case shaped

pub returns-in_err-left : goal.returns-in_err-left
unfolding squashed_formula
returns-in_err-left g c =
    let same = same-decided c.args.from.now c.args.to.now c.same-one.result c.same-one.ensures in
    value_first _ c.in_ok-case.ensures (ap (λ b. squashed_case b c.args.f.now c.args.from.now c.args.to.now) same)
    (error_first _ c.in_err-left.ensures refl c.from_residual-in_err-left.ensures.1)

pub returns-in_err-cases : goal.returns-in_err-cases
unfolding squashed_formula
returns-in_err-cases g c =
    let same = same-decided c.args.from.now c.args.to.now c.same-one.result c.same-one.ensures in
    value_first _ c.in_ok-case.ensures (ap (λ b. squashed_case b c.args.f.now c.args.from.now c.args.to.now) same)
    (value_first _ c.in_ok-left.ensures refl (stops _ _ _ _ _ _ refl c.from_residual-in_err-cases.ensures.1))

pub from_cases-requires : goal.from_cases-requires
from_cases-requires g c =
    let same = same-decided c.args.from.now c.args.to.now c.same-one.result c.same-one.ensures in
    let asked = in_other_words (ap (λ b. squashed_case b c.args.f.now c.args.from.now c.args.to.now) same) c.in_ok-case.ensures in
    let shaped = value_has (IsSquash c.args.f.now c.args.from.now c.args.to.now c.requires) asked (case-squash c.args.f.now c.args.from.now c.args.to.now c.requires) in
    let left = value_has (FinishedLeft c.args.f.now.from c.args.f.now.to c.args.f.now.to) c.in_ok-left.ensures (squash-left c.args.f.now c.args.from.now c.args.to.now c.requires c.in_ok-case.case shaped) in
    let small = left-small c.args.f.now c.args.from.now c.args.to.now c.requires c.in_ok-left.left left in
    rw (c.from.ensures, c.to.ensures, c.in_ok-cases.ensures) small.fits

pub returns : goal.returns
unfolding squashed_formula
returns g c =
    let same = same-decided c.args.from.now c.args.to.now c.same-one.result c.same-one.ensures in
    value_first _ c.in_ok-case.ensures (ap (λ b. squashed_case b c.args.f.now c.args.from.now c.args.to.now) same)
    (value_first _ c.in_ok-left.ensures refl
    (at_end (c.from_cases.ensures ∙ (λ i. record { from = c.from.ensures i; to = c.to.ensures i; cases = c.in_ok-cases.ensures i }))))
