use Rattle.c_parser.proofs.Refusals as refusals
use Rattle.c_parser.proofs.laws.refusal_is_one.Goals as goal

pub returns : goal.returns
returns c = refusals.refusal_is_one
