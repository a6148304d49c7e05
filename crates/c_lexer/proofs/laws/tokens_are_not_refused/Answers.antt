use Rattle.c_lexer.proofs.OneOutcome.{tokens_are_not_refused}
use Rattle.c_lexer.proofs.laws.tokens_are_not_refused.Goals as goal

pub returns : goal.returns
returns c = tokens_are_not_refused
