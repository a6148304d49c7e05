use Rattle.forward_graphs.proofs.Whole.{evaluation-holds, evaluation-fits}
use Rattle.forward_graphs.proofs.law.evaluation_covers_walks.Goals as goal

pub returns : goal.returns
returns c = record { holds = evaluation-holds; fits = evaluation-fits }
