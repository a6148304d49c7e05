use Rattle.elimination.proofs.Uniqueness.{one_reduced_basis}
use Rattle.elimination.proofs.reduction.uniqueness_of_reduced.Goals as goal

pub returns : goal.returns
returns c = one_reduced_basis
