use Rattle.c_lexer.proofs.Places.{tokens_ascend}
use Rattle.c_lexer.proofs.laws.tokens_ascend.Goals as goal

pub returns : goal.returns
returns c = tokens_ascend
