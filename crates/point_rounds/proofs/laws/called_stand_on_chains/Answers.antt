use Rattle.point_rounds.proofs.Tops.{called_stand_on_chains, main_stands_on_chain}
use Rattle.point_rounds.proofs.laws.called_stand_on_chains.Goals as goal

pub returns-clause-called : goal.returns-clause-called
returns-clause-called c = called_stand_on_chains

pub returns-clause-main : goal.returns-clause-main
returns-clause-main c = main_stands_on_chain
