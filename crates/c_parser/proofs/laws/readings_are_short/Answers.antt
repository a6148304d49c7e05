use Rattle.c_parser.proofs.FewOperators as few
use Rattle.c_parser.proofs.laws.readings_are_short.Goals as goal

pub returns : goal.returns
returns c = few.readings_are_short
