use Rattle.std.proofs.Common.{rules, ◌∙◌}
use Rattle.commands.proofs.Outputs.{taken_more}
use Rattle.commands.proofs.output.write_all.Goals as goal

pub loop-done-preserved : goal.loop-done-preserved
loop-done-preserved g c = record {
  within = search rules;
  told = taken_more _ _ _ _ _ _ c.loop-done.invariant.told c.in_ok-done.ensures.bytes;
  counted = c.in_ok-done.ensures.cause.ok ∙ c.loop-done.invariant.counted;
}
