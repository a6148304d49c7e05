use Rattle.typing.proofs.InForce.{has-name, takes-back}
use Rattle.std.proofs.Common.{◌≡◌, subst, map, ◌∷◌, ◌++◌, []}
use Rattle.typing.specs.InForce.{entry_of, IsInForce}
use Rattle.typing.proofs.scopes.restore.Goals as goal

pub loop-declaration-preserved : goal.loop-declaration-preserved
loop-declaration-preserved c outer restores holds =
    let kept = c.loop-declaration.invariant outer restores holds in
    let last : c.loop-declaration.scope ≡ c.pop.new.self ++ c.in-Some.declaration ∷ [] = c.in-Some.ensures in
    takes-back outer c.loop-declaration.index.entries c.put_back.new.index.entries c.loop-declaration.scope c.pop.new.self c.in-Some.declaration last
    (c.put_back.ensures
    (has-name c.loop-declaration.index.entries c.pop.new.self c.in-Some.declaration outer
    (subst (λ one. IsInForce c.loop-declaration.index.entries (map entry_of one ∷ outer)) last kept.1)))
    kept
