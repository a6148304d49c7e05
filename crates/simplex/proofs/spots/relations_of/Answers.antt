use Rattle.std.proofs.Common.{rules, ◌≡◌, ℕ, subst}
use Rattle.simplex.specs.Spots.{AreRelations}
use Rattle.simplex.proofs.Echelons.{relations-reduced}
use Rattle.simplex.proofs.spots.relations_of.Goals as goal

pub returns-clause-reduced : goal.returns-clause-reduced
returns-clause-reduced c =
    let all : c.loop-unknown.unknown ≡ c.args.count = search rules in
    relations-reduced c.args.count c.args.known.now.tableau c.loop-unknown.made (subst (λ (n : ℕ). AreRelations c.args.count c.args.known.now.tableau n c.loop-unknown.made) all c.loop-unknown.invariant)
