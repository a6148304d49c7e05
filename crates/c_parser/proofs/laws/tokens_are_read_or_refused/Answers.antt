use Rattle.c_parser.proofs.Refusals as refusals
use Rattle.c_parser.proofs.laws.tokens_are_read_or_refused.Goals as goal

pub returns : goal.returns
returns c = refusals.tokens_are_read_or_refused
