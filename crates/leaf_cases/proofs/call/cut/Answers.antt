use Rattle.std.proofs.Common.{map, take, ap, sym, subst, ◌∙◌}
use Rattle.transition_formula.specs.Transition.{IsTransition}
use Rattle.leaf_cases.specs.Guard.{with_posts}
use Rattle.leaf_cases.proofs.EdgeFits.{cut_fits}
use Rattle.leaf_cases.proofs.call.cut.Goals as goal

pub formula-requires : goal.formula-requires
formula-requires c =
    subst (λ n. IsTransition n c.args.to c.in_ok-made.made) (sym c.from.ensures)
    (cut_fits c.args.to c.args.f.now c.in_ok-made.made c.requires (subst (IsTransition c.args.f.now.from c.args.f.now.to) c.cases.ensures.cases c.cases.ensures.fit)
    (c.in_ok-made.ensures ∙ ap (map (λ case. with_posts (take c.args.to case.post) case)) c.cases.ensures.cases))

pub returns : goal.returns
returns c =
    c.formula.ensures
    ∙ (λ i. record { from = c.from.ensures i; to = c.args.to; cases = (c.in_ok-made.ensures ∙ ap (map (λ case. with_posts (take c.args.to case.post) case)) c.cases.ensures.cases) i })
