use Rattle.c_lexer.proofs.OneOutcome.{tokens_are_one}
use Rattle.c_lexer.proofs.laws.tokens_are_one.Goals as goal

pub returns : goal.returns
returns c = tokens_are_one
