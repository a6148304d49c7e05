use Rattle.std.proofs.Common.{◌≡◌, ◌+◌, length, ap, ◌∙◌, arith}
use Rattle.typing.specs.InForce.{is_at}
use Rattle.typing.proofs.InForce.{here-at}
use Rattle.typing.proofs.scopes.Scopes.is_declared_here.Goals as goal

pub returns-in-Some : goal.returns-in-Some
returns-in-Some c =
    let known = c.in-Some.ensures in
    let count : length c.args.self.now ≡ c.in-Some.depth + 1 = omega (arith, c.depth.ensures, known.0, known.1) in
    c.is_at.ensures ∙ ap (λ held. is_at held c.in-Some.depth) c.in_force.ensures ∙ here-at c.args.self.now c.args.name.now c.in-Some.depth count
