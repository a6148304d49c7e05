use Rattle.wire.proofs.Newlines as newlines
use Rattle.wire.proofs.laws.newline_is_read_over.Goals as goal

pub returns : goal.returns
returns c = newlines.newline_is_read_over
