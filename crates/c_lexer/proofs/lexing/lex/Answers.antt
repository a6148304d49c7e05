use Rattle.c_lexer.proofs.OneOutcome.{tokens_answered, refusal_answered}
use Rattle.c_lexer.proofs.lexing.lex.Goals as goal

pub returns-clause-tokens : goal.returns-clause-tokens
returns-clause-tokens c = tokens_answered c.args.bytes.now c.tokens_of.result (c.tokens_of.ensures.found, c.tokens_of.ensures.refused)

pub returns-clause-refusal : goal.returns-clause-refusal
returns-clause-refusal c = refusal_answered c.args.bytes.now c.tokens_of.result (c.tokens_of.ensures.found, c.tokens_of.ensures.refused)
