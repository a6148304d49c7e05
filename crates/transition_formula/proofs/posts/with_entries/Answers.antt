use Rattle.std.proofs.Common.{◌≡◌, rules, length}
use Rattle.transition_formula.specs.Posts.{with_entries}
use Rattle.transition_formula.specs.Transition.{Transition, IsTransition}
use Rattle.transition_formula.proofs.SomePosts.{with_entries-fits, with_entries-least, with_entries-most}
use Rattle.transition_formula.proofs.posts.with_entries.Goals as goal

pub invariant_of-result : goal.invariant_of-result
invariant_of-result c =
    let from : c.f.inside.from ≡ c.args.f.now.from = cc in
    let fit : IsTransition c.args.f.now.from c.args.f.now.to c.args.f.now.cases = search (rules, c.f.invariant) in
    rw (from, c.in_ok-cases.ensures) (with_entries-fits c.args.places.now c.args.f.now c.requires.there fit)

pub returns-clause-at_least : goal.returns-clause-at_least
returns-clause-at_least c =
    let from : c.f.inside.from ≡ c.args.f.now.from = cc in
    let made : Transition = record { from = c.f.inside.from; to = length c.args.places.now; cases = c.in_ok-cases.cases } in
    let exact : made ≡ with_entries c.args.places.now c.args.f.now = λ i. record { from = from i; to = length c.args.places.now; cases = c.in_ok-cases.ensures i } in
    with_entries-least c.args.places.now c.args.f.now made exact

pub returns-clause-at_most : goal.returns-clause-at_most
returns-clause-at_most c =
    let from : c.f.inside.from ≡ c.args.f.now.from = cc in
    let made : Transition = record { from = c.f.inside.from; to = length c.args.places.now; cases = c.in_ok-cases.cases } in
    let exact : made ≡ with_entries c.args.places.now c.args.f.now = λ i. record { from = from i; to = length c.args.places.now; cases = c.in_ok-cases.ensures i } in
    with_entries-most c.args.places.now c.args.f.now made exact
