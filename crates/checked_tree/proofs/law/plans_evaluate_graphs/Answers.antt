use Rattle.checked_tree.proofs.GoingOn.{plans-begin, plans-go-on}
use Rattle.checked_tree.proofs.SameByNumber.{plans-evaluate}
use Rattle.checked_tree.proofs.law.plans_evaluate_graphs.Goals as goal

pub returns : goal.returns
returns c = record { same = plans-evaluate; begins = plans-begin; goes_on = plans-go-on }
