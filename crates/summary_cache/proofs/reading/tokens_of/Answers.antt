use Rattle.summary_cache.proofs.Refusals.{cut-refused}
use Rattle.summary_cache.proofs.reading.tokens_of.Goals as goal

pub returns-in-Err : goal.returns-in-Err
returns-in-Err c = cut-refused c.args.text.now c.in-Err.fault c.lexing.result c.lexing.ensures.memory c.lexing.ensures.told c.in-Err.ensures.refused
