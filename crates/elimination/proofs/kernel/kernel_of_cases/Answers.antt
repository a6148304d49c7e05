use Rattle.std.proofs.Common.{subst, sym}
use Rattle.elimination.specs.Probes.{IsKernel}
use Rattle.elimination.proofs.Steps.{kernel_of}
use Rattle.elimination.proofs.kernel.kernel_of_cases.Goals as goal

pub returns : goal.returns
returns c =
    subst (IsKernel c.args.columns.now c.args.cases.now c.args.lower.now) (sym c.kernel_with.ensures)
    (kernel_of c.args.columns.now c.args.cases.now c.args.lower.now c.in_ok-stage.stage c.in_ok-duals.duals c.in_ok-stage.ensures c.in_ok-duals.ensures)
