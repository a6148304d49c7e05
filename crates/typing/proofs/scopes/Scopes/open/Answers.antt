use Rattle.std.proofs.Common.{List, [], ◌∷◌, ◌++◌, subst, sym, ap, ◌∙◌}
use Rattle.typing.specs.declared.scopes.Declaration.{Declaration}
use Rattle.typing.specs.InForce.{IsInForce, RestoresAll, scopes_of}
use Rattle.typing.proofs.InForce.{with_scope-again}
use Rattle.typing.proofs.scopes.Scopes.open.Goals as goal

pub invariant_of-self-2 : goal.invariant_of-self-2
invariant_of-self-2 c =
    subst (λ (stack : List (List Declaration)). IsInForce c.self.inside.index.entries (scopes_of stack) × RestoresAll stack)
    (sym (c.in_ok-push.ensures.ok ∙ ap (λ (one : List Declaration). c.self.inside.stack ++ one ∷ []) c.new.ensures))
    (with_scope-again c.self.inside.index.entries c.self.inside.stack c.self.invariant.0 c.self.invariant.1)
