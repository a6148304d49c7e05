use Rattle.typing.proofs.TextsFit.{answered_fits}
use Rattle.typing.proofs.elaboration.elaborate.Goals as goal

pub returns-clause-well_formed : goal.returns-clause-well_formed
returns-clause-well_formed c = answered_fits c.args.tree.now.items c.args.length c.program_of.result c.program_of.ensures
