use Rattle.c_lexer.proofs.OneOutcome.{scan_in_utf8}
use Rattle.c_lexer.proofs.lexing.tokens_of.Goals as goal

pub returns-in-Ok-clause-refused : goal.returns-in-Ok-clause-refused
returns-in-Ok-clause-refused c = scan_in_utf8 c.args.bytes.now c.scan-scanned.result c.in-Ok.ensures.cases.1 (c.scan-scanned.ensures.cut, c.scan-scanned.ensures.stops)
