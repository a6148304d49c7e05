use Rattle.std.proofs.Common.{◌≡◌, ℤ, List, ◌++◌, take, rules, sym, subst}
use Rattle.transition_formula.specs.Hiding.{hidden, losses_in_hiding}
use Rattle.transition_formula.specs.Meaning.{Holds}
use Rattle.transition_formula.specs.Transition.{Transition, IsTransition}
use Rattle.transition_formula.proofs.HiddenColumns.{hidden-holds, hidden-held, hidden-fits}
use Rattle.transition_formula.proofs.Meanings.{nothing-noted}
use Rattle.transition_formula.proofs.NormalRows.{nothing_new}
use Rattle.transition_formula.proofs.hiding.hidden.Goals as goal

pub invariant_of-result : goal.invariant_of-result
invariant_of-result c =
    let to : c.f.inside.to ≡ c.args.f.now.to = cc in
    let fit : IsTransition c.args.f.now.from c.args.f.now.to c.args.f.now.cases = search (rules, c.f.invariant) in
    rw (to, c.in_ok-cases.ensures.made) (hidden-fits c.args.n c.args.f.now.from c.args.f.now.to c.args.f.now.cases c.requires.fewer fit)

pub returns-clause-at_least : goal.returns-clause-at_least
returns-clause-at_least c before after =
    let to : c.f.inside.to ≡ c.args.f.now.to = cc in
    let fit : IsTransition c.args.f.now.from c.args.f.now.to c.args.f.now.cases = search (rules, c.f.invariant) in
    let made : Transition = record { from = c.args.n; to = c.f.inside.to; cases = c.in_ok-cases.cases } in
    let exact : made ≡ hidden c.args.n c.args.f.now = λ i. record { from = c.args.n; to = to i; cases = c.in_ok-cases.ensures.made i } in
    subst (λ (t : Transition). Holds c.args.f.now before after → Holds t (take c.args.n before) after) (sym exact) (hidden-holds c.args.n c.args.f.now c.requires.fewer fit before after)

pub returns-clause-at_most : goal.returns-clause-at_most
returns-clause-at_most c told after kept =
    let to : c.f.inside.to ≡ c.args.f.now.to = cc in
    let fit : IsTransition c.args.f.now.from c.args.f.now.to c.args.f.now.cases = search (rules, c.f.invariant) in
    let made : Transition = record { from = c.args.n; to = c.f.inside.to; cases = c.in_ok-cases.cases } in
    let exact : made ≡ hidden c.args.n c.args.f.now = λ i. record { from = c.args.n; to = to i; cases = c.in_ok-cases.ensures.made i } in
    let none = nothing_new c.new-lost.result c.hidden_cases.new.losses (losses_in_hiding c.args.n c.args.f.now) c.in_ok-cases.ensures.noted (nothing-noted c.new-lost.ensures c.in_ok-append.ensures.ok kept) in
    subst (λ (t : Transition). Holds t told after → (more : List ℤ) × Holds c.args.f.now (told ++ more) after) (sym exact) (hidden-held c.args.n c.args.f.now c.requires.fewer fit none told after)
