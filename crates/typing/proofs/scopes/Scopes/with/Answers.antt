use Rattle.std.proofs.Common.{ℕ, List, subst, sym, ap, ◌∙◌}
use Rattle.typing.specs.declared.scopes.Declaration.{Declaration}
use Rattle.typing.specs.InForce.{after_declaration, entry_for, IsInForce, RestoresAll, scopes_of}
use Rattle.typing.proofs.InForce.{with_variable-again, with_scope}
use Rattle.typing.proofs.scopes.Scopes.with.Goals as goal

pub invariant_of-result : goal.invariant_of-result
invariant_of-result c =
    let old = c.self.inside.index.entries in
    let rest = c.take_innermost-scope.new.stack in
    let scope = c.take_innermost-scope.result in
    let known = with_scope old c.self.inside.stack rest scope c.take_innermost-scope.ensures c.self.invariant.0 c.self.invariant.1 in
    let made = with_variable-again old c.declare_in.new.index.entries rest scope c.args.name c.args.meaning c.look_up-hidden.result known
    c.look_up-hidden.ensures
    (λ other. c.in_ok-declare_in.ensures other
    ∙ ap (λ (depth : ℕ). after_declaration c.args.name record { depth = depth; meaning = c.args.meaning } c.look_up-hidden.result (entry_for old other) other)
    c.len-depth.ensures) in
    subst (λ (stack : List (List Declaration)). IsInForce c.declare_in.new.index.entries (scopes_of stack) × RestoresAll stack)
    (sym c.in_ok-push_scope.ensures)
    made
