use Rattle.std.proofs.Common.{sym, subst}
use Rattle.c_lexer.specs.Tokens.{Tokenizes}
use Rattle.summary_cache.proofs.Refusals.{grammar-refused}
use Rattle.summary_cache.proofs.reading.tree_of.Goals as goal

pub returns : goal.returns
returns c =
    grammar-refused c.args.text.now c.deref.result.now c.in-Err.fault c.parsing.result c.parsing.ensures.memory c.parsing.ensures.told
    (subst (Tokenizes c.args.text.now) (sym c.deref.ensures) c.in_ok-tokens.ensures) c.in-Err.ensures.refused
