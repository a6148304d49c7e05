use Rattle.std.proofs.Common.{[], ap, subst, ◌∙◌}
use Rattle.transition_formula.specs.Transition.{IsTransition}
use Rattle.transition_formula.specs.Posts.{numbers_at, with_posts}
use Rattle.transition_formula.specs.Composition.{sequence_of}
use Rattle.transition_formula.specs.Meaning.{Holds}
use Rattle.syntax_tree.specs.Term.{term_of}
use Rattle.context.proofs.WaysToAssertions.{failing-from, failing-solvable, falsity-meets, falsity-pairs, shown-few, shown-there, state-length}
use Rattle.context.proofs.assertion.failing.Goals as goal

pub seq-requires-clause-between : goal.seq-requires-clause-between
seq-requires-clause-between c =
    falsity-meets c.args.place.now (term_of c.args.cond.now) c.args.f.now c.in_ok-falsity.falsity c.requires.place c.requires.formula c.requires.few c.in_ok-falsity.ensures.exact

pub seq-requires-clause-few : goal.seq-requires-clause-few
seq-requires-clause-few c =
    falsity-pairs c.args.place.now (term_of c.args.cond.now) c.args.f.now c.in_ok-falsity.falsity c.requires.place c.requires.formula c.requires.few c.in_ok-falsity.ensures.exact c.in_ok-falsity.ensures.few

pub with_posts-requires-clause-there : goal.with_posts-requires-clause-there
with_posts-requires-clause-there c =
    shown-there c.args.place.now (term_of c.args.cond.now) c.args.f.now c.in_ok-falsity.falsity c.requires.place c.requires.formula c.requires.few c.in_ok-falsity.ensures.exact c.in_ok-falsity.ensures.few
    c.in_ok-whole.whole c.in_ok-whole.ensures.exact c.as_slice.result.now c.as_slice.ensures

pub with_posts-requires-clause-few : goal.with_posts-requires-clause-few
with_posts-requires-clause-few c =
    shown-few c.args.place.now (term_of c.args.cond.now) c.args.f.now c.in_ok-falsity.falsity c.requires.place c.requires.formula c.requires.few c.in_ok-falsity.ensures.exact c.in_ok-falsity.ensures.few
    c.in_ok-whole.whole c.in_ok-whole.ensures.exact c.as_slice.result.now c.as_slice.ensures

pub returns-clause-exact : goal.returns-clause-exact
returns-clause-exact c =
    c.in_ok-told.ensures.exact
    ∙ (λ i. with_posts (c.as_slice.ensures i) ((c.in_ok-whole.ensures.exact ∙ ap (sequence_of c.args.f.now) c.in_ok-falsity.ensures.exact) i))

pub returns-clause-solvable : goal.returns-clause-solvable
returns-clause-solvable c =
    let place = c.args.place.now in
    failing-solvable place (term_of c.args.cond.now) c.args.f.now c.in_ok-falsity.falsity c.requires.place c.requires.formula c.requires.few c.in_ok-falsity.ensures.exact c.in_ok-falsity.ensures.few
    c.in_ok-whole.whole c.in_ok-whole.ensures.exact (subst (IsTransition _ _) c.cases.ensures.cases c.cases.ensures.fit) c.in_ok-told.told
    (c.in_ok-told.ensures.exact ∙ ap (λ places. with_posts places c.in_ok-whole.whole) c.as_slice.ensures) (subst (IsTransition _ _) c.cases-2.ensures.cases c.cases-2.ensures.fit)

pub returns-clause-fits : goal.returns-clause-fits
returns-clause-fits c =
    let place = c.args.place.now in
    failing-from place (term_of c.args.cond.now) c.args.f.now c.in_ok-falsity.falsity c.requires.place c.requires.formula c.requires.few c.in_ok-falsity.ensures.exact c.in_ok-falsity.ensures.few
    c.in_ok-whole.whole c.in_ok-whole.ensures.exact (subst (IsTransition _ _) c.cases.ensures.cases c.cases.ensures.fit) c.in_ok-told.told
    (c.in_ok-told.ensures.exact ∙ ap (λ places. with_posts places c.in_ok-whole.whole) c.as_slice.ensures) (subst (IsTransition _ _) c.cases-2.ensures.cases c.cases-2.ensures.fit)

pub returns-clause-holds : goal.returns-clause-holds
returns-clause-holds c = λ final h false.
    let long = state-length c.args.place.now.columns c.args.f.now c.requires.formula final h in
    subst (λ places. Holds c.in_ok-told.told [] (numbers_at places final)) c.as_slice.ensures
    (c.in_ok-told.ensures.at_least [] final (c.in_ok-whole.ensures.at_least [] final final h (c.in_ok-falsity.ensures.at_least final long false)))
