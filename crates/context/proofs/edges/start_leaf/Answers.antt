use Rattle.std.proofs.Common.{◌∷◌, [], ◌++◌, map, ap, sym, subst, ◌∙◌}
use Rattle.linear_terms.specs.Polynomial.{constant_of}
use Rattle.syntax_tree.specs.declared.program.GlobalVar.{GlobalVar}
use Rattle.transition_formula.specs.Transition.{IsTransition}
use Rattle.context.proofs.WaysFit.{start-leaf-fits}
use Rattle.context.proofs.edges.start_leaf.Goals as goal

pub from_cases-requires : goal.from_cases-requires
from_cases-requires c =
    subst (λ n. IsTransition 0 n c.push.new.self) (sym c.len-count.ensures)
    (subst (IsTransition 0 _)
    (sym (c.in_ok-push.ensures.ok
    ∙ (λ i. c.new-cases.ensures i ++ record { aux = 0; rows = c.new.ensures i; post = (c.in_ok-post.ensures ∙ ap (map (λ (g : GlobalVar). constant_of g.init)) c.as_slice.ensures) i } ∷ [])))
    (start-leaf-fits c.args.program.now))
