use Rattle.std.proofs.Common.{◌≡◌, subst}
use Rattle.std.specs.Prelude.{IfOk}
use Rattle.point_steps.proofs.Loops.{outs-together}
use Rattle.point_steps.proofs.outs.outs_of.Goals as goal

pub returns : goal.returns
returns c = λ p is.
    subst (λ whole. IfOk c.list_of.result (λ all. all ≡ whole))
    (outs-together c.args.source c.requires p is c.in_ok-heads.heads c.in_ok-calls.calls c.in_ok-exits.exits c.in_ok-checks.checks c.in_ok-heads.ensures c.in_ok-calls.ensures c.in_ok-exits.ensures c.in_ok-checks.ensures) c.list_of.ensures
