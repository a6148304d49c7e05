use Rattle.std.proofs.Common.{◌≡◌, take, length, sym, ap, subst, ◌∙◌}
use Rattle.std.specs.Prelude.{◌↔◌}
use Rattle.std.specs.List.{each_same}
use Rattle.transition_formula.specs.Equating.{raised_formula}
use Rattle.transition_formula.specs.Meaning.{Holds}
use Rattle.transition_formula.specs.Transition.{Transition, IsTransition}
use Rattle.transition_formula.proofs.PostsAsEntries.{raised-fits, raised-says}
use Rattle.transition_formula.proofs.equating.raised_formula.Goals as goal

pub invariant_of-result : goal.invariant_of-result
invariant_of-result c =
    let to : c.f.inside.to ≡ c.args.f.now.to = ap (λ (g : Transition). g.to) c.f.view_is in
    let all : c.f.inside.cases ≡ c.args.f.now.cases = ap (λ (g : Transition). g.cases) c.f.view_is in
    let cases = each_same c.f.inside.cases c.in_ok-cases.cases c.in_ok-cases.ensures.cases ∙ all in
    let fit : IsTransition c.args.f.now.from c.args.f.now.to c.args.f.now.cases = subst (λ (g : Transition). IsTransition g.from g.to g.cases) c.f.view_is c.f.invariant in
    subst (λ n. IsTransition c.args.from n c.in_ok-cases.cases) (sym to)
    (subst (IsTransition c.args.from c.args.f.now.to) (sym cases) (raised-fits c.args.f.now.from c.args.from c.args.f.now.to c.args.f.now.cases c.requires fit))

pub returns-clause-holds : goal.returns-clause-holds
returns-clause-holds c before after =
    let f = c.args.f.now in
    let to : c.f.inside.to ≡ f.to = ap (λ (g : Transition). g.to) c.f.view_is in
    let all : c.f.inside.cases ≡ f.cases = ap (λ (g : Transition). g.cases) c.f.view_is in
    let cases = each_same c.f.inside.cases c.in_ok-cases.cases c.in_ok-cases.ensures.cases ∙ all in
    let fit : IsTransition f.from f.to f.cases = subst (λ (g : Transition). IsTransition g.from g.to g.cases) c.f.view_is c.f.invariant in
    let made : Transition = record { from = c.args.from; to = c.f.inside.to; cases = c.in_ok-cases.cases } in
    let exact : made ≡ raised_formula c.args.from f = λ i. record { from = c.args.from; to = to i; cases = cases i } in
    subst (λ (t : Transition). Holds t before after ↔ (Holds f (take f.from before) after × (length before ≡ c.args.from))) (sym exact)
    (raised-says c.args.from f c.requires fit before after)
