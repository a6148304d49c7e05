use Rattle.std.proofs.Common.{sym, ◌∙◌}
use Rattle.typing.proofs.InForce.{meaning-in_force-none, meaning-in_force-some}
use Rattle.typing.proofs.scopes.Scopes.meaning_of.Goals as goal

pub returns-in-Some : goal.returns-in-Some
returns-in-Some c = sym (meaning-in_force-some c.args.self.now c.args.name.now c.in-Some.held (sym c.in_force.ensures ∙ c.in-Some.is))

pub returns-in-None : goal.returns-in-None
returns-in-None c = sym (meaning-in_force-none c.args.self.now c.args.name.now (sym c.in_force.ensures ∙ c.in-None.is))
