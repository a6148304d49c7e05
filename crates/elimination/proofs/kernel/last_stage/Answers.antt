use Rattle.std.proofs.Common.{◌≡◌, ◌-◌, arith}
use Rattle.farkas_check.specs.Relations.{unknown_count}
use Rattle.elimination.proofs.Steps.{stage-begin}
use Rattle.elimination.proofs.kernel.last_stage.Goals as goal

pub loop-taken-init : goal.loop-taken-init
loop-taken-init c =
    let count : c.unknown_count-count.result ≡ unknown_count c.args.cases.now c.args.lower.now = c.unknown_count-count.ensures in
    stage-begin c.args.columns.now c.args.cases.now c.args.lower.now (c.unknown_count-count.result - 0) c.new.result c.new-2.result c.new-3.result (omega (arith, count)) c.new.ensures c.new-2.ensures c.new-3.ensures
