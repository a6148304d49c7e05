use Rattle.std.proofs.lemmas.Bool.Decides.{same_from_decides}
use Rattle.alike_groups.specs.Tests.{is_same_formula}
use Rattle.alike_groups.proofs.TestTruth.{formula-decided}
use Rattle.alike_groups.proofs.callees.is_same_formula.Goals as goal

pub returns : goal.returns
returns c =
    same_from_decides c.same.result (is_same_formula c.args.f.now c.args.g.now) c.same.ensures
    (formula-decided c.args.f.now c.args.g.now)
