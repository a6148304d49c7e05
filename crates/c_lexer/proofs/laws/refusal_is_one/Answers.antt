use Rattle.c_lexer.proofs.OneOutcome.{refusal_is_one}
use Rattle.c_lexer.proofs.laws.refusal_is_one.Goals as goal

pub returns : goal.returns
returns c = refusal_is_one
