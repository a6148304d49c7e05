use Rattle.std.proofs.Common.{◌≡◌, ap, subst}
use Rattle.transition_formula.specs.Equating.{equated_formula, losses_in_equating}
use Rattle.transition_formula.specs.Transition.{Transition, IsTransition}
use Rattle.transition_formula.proofs.PostsAsEntries.{equated-fits, equated-least, equated-most}
use Rattle.transition_formula.proofs.Meanings.{nothing-noted}
use Rattle.transition_formula.proofs.NormalRows.{nothing_new}
use Rattle.transition_formula.proofs.equating.equated_formula.Goals as goal

pub invariant_of-result : goal.invariant_of-result
invariant_of-result c =
    let from : c.from-from.result ≡ c.args.f.now.from = c.from-from.ensures in
    let to : c.f.inside.to ≡ c.args.f.now.to = ap (λ (g : Transition). g.to) c.f.view_is in
    let fit : IsTransition c.args.f.now.from c.args.f.now.to c.args.f.now.cases = subst (λ (g : Transition). IsTransition g.from g.to g.cases) c.f.view_is c.f.invariant in
    rw (from, to, c.in_ok-cases.ensures.made) (equated-fits c.args.first c.args.places.now c.args.f.now c.requires.there c.requires.columns fit)

pub returns-clause-at_least : goal.returns-clause-at_least
returns-clause-at_least c before after =
    let from : c.from-from.result ≡ c.args.f.now.from = c.from-from.ensures in
    let to : c.f.inside.to ≡ c.args.f.now.to = ap (λ (g : Transition). g.to) c.f.view_is in
    let made : Transition = record { from = c.from-from.result; to = c.f.inside.to; cases = c.in_ok-cases.cases } in
    let exact : made ≡ equated_formula c.args.first c.args.places.now c.args.f.now = λ i. record { from = from i; to = to i; cases = c.in_ok-cases.ensures.made i } in
    equated-least c.args.first c.args.places.now c.args.f.now made c.requires.columns exact before after

pub returns-clause-at_most : goal.returns-clause-at_most
returns-clause-at_most c before after kept =
    let from : c.from-from.result ≡ c.args.f.now.from = c.from-from.ensures in
    let to : c.f.inside.to ≡ c.args.f.now.to = ap (λ (g : Transition). g.to) c.f.view_is in
    let made : Transition = record { from = c.from-from.result; to = c.f.inside.to; cases = c.in_ok-cases.cases } in
    let exact : made ≡ equated_formula c.args.first c.args.places.now c.args.f.now = λ i. record { from = from i; to = to i; cases = c.in_ok-cases.ensures.made i } in
    let none = nothing_new c.new-lost.result c.equated_cases.new.losses (losses_in_equating c.args.first c.args.places.now c.args.f.now) c.in_ok-cases.ensures.noted (nothing-noted c.new-lost.ensures c.in_ok-append.ensures.ok kept) in
    equated-most c.args.first c.args.places.now c.args.f.now made c.requires.columns exact before after none
