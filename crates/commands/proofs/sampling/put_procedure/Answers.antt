use Rattle.commands.proofs.sampling.put_procedure.Goals as goal

pub returns : goal.returns
returns c = c.put_between.ensures
