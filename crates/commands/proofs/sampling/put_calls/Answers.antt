use Rattle.commands.specs.Sample.{call_text}
use Rattle.commands.proofs.SampleTexts.{parts-more}
use Rattle.commands.proofs.sampling.put_calls.Goals as goal

pub loop-number-preserved : goal.loop-number-preserved
loop-number-preserved c =
    parts-more call_text c.loop-number.number c.args.text.now.bytes.items c.loop-number.text.bytes.items c.put_call.new.text.bytes.items c.loop-number.invariant c.in_ok-put_call.ensures
