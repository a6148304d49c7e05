use Rattle.replay.proofs.text.TraceText.put_cause.Goals as goal

pub returns-in-Zero : goal.returns-in-Zero
returns-in-Zero c = rw c.in-Zero.is c.put-in-Zero.ensures
