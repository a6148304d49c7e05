use Rattle.std.proofs.Common.{length, ◌-◌}
use Rattle.cones.proofs.Making.{made_behind-wide}
use Rattle.cones.proofs.projecting.+clearing.Goals as goal

pub clearing_with-requires-clause-behind : goal.clearing_with-requires-clause-behind
clearing_with-requires-clause-behind t c = made_behind-wide (length c.args.line.now) _ c.args.line.now c.args.basis.now c.in_ok-behind.behind c.in_ok-behind.ensures c.requires.wide
