use Rattle.std.proofs.Common.{◌≡◌, ◌⊎◌, ◌++◌, subst, sym, ap, ◌∙◌}
use Rattle.std.specs.Prelude.{◌↔◌}
use Rattle.std.specs.List.{each_same}
use Rattle.transition_formula.specs.Transition.{Transition, IsTransition}
use Rattle.transition_formula.specs.Meaning.{Holds}
use Rattle.transition_formula.proofs.Meanings.{joined_made, joined-says}
use Rattle.transition_formula.proofs.Fitting.{joined-fits}
use Rattle.transition_formula.proofs.compose.join.Goals as goal

pub invariant_of-result : goal.invariant_of-result
invariant_of-result c =
    let made : c.append.new.self ≡ c.a.inside.cases ++ c.b.inside.cases =
    c.in_ok-append.ensures.ok ∙ (λ i. each_same c.a.inside.cases c.in_ok-cases.cases c.in_ok-cases.ensures.cases i ++ each_same c.b.inside.cases c.in_ok-clone.field-0 c.in_ok-clone.ensures.cases i) in
    let from : c.b.inside.from ≡ c.a.inside.from = ap (λ (f : Transition). f.from) c.b.view_is ∙ sym (ap (λ (f : Transition). f.from) c.a.view_is ∙ c.requires.from) in
    let to : c.b.inside.to ≡ c.a.inside.to = ap (λ (f : Transition). f.to) c.b.view_is ∙ sym (ap (λ (f : Transition). f.to) c.a.view_is ∙ c.requires.to) in
    subst (IsTransition c.a.inside.from c.a.inside.to) (sym made)
    (joined-fits c.a.inside.from c.a.inside.to c.a.inside.cases c.b.inside.cases c.a.invariant (subst (λ f. IsTransition f c.a.inside.to c.b.inside.cases) from (subst (λ t. IsTransition c.b.inside.from t c.b.inside.cases) to c.b.invariant)))

pub returns-clause-exact : goal.returns-clause-exact
returns-clause-exact c =
    let made : c.append.new.self ≡ c.a.inside.cases ++ c.b.inside.cases =
    c.in_ok-append.ensures.ok ∙ (λ i. each_same c.a.inside.cases c.in_ok-cases.cases c.in_ok-cases.ensures.cases i ++ each_same c.b.inside.cases c.in_ok-clone.field-0 c.in_ok-clone.ensures.cases i) in
    joined_made c.a.inside.from c.a.inside.to c.append.new.self c.a.inside.cases c.b.inside.cases c.args.a.now c.args.b.now made c.a.view_is (ap (λ (f : Transition). f.cases) c.b.view_is)

pub returns-clause-holds : goal.returns-clause-holds
returns-clause-holds c before after =
    let a = c.args.a.now in
    let b = c.args.b.now in
    let made : c.append.new.self ≡ c.a.inside.cases ++ c.b.inside.cases =
    c.in_ok-append.ensures.ok ∙ (λ i. each_same c.a.inside.cases c.in_ok-cases.cases c.in_ok-cases.ensures.cases i ++ each_same c.b.inside.cases c.in_ok-clone.field-0 c.in_ok-clone.ensures.cases i) in
    let same = joined_made c.a.inside.from c.a.inside.to c.append.new.self c.a.inside.cases c.b.inside.cases a b made c.a.view_is (ap (λ (f : Transition). f.cases) c.b.view_is) in
    subst (λ (f : Transition). Holds f before after ↔ (Holds a before after ⊎ Holds b before after)) (sym same) (joined-says a b before after c.requires.from)
