use Rattle.c_parser.proofs.Refusals as refusals
use Rattle.c_parser.proofs.laws.reading_is_not_refused.Goals as goal

pub returns : goal.returns
returns c = refusals.reading_is_not_refused
