use Rattle.c_lexer.proofs.Spaces.{skipped_line_is}
use Rattle.c_lexer.proofs.piece.skipped_line_at.Goals as goal

pub returns-in-Some : goal.returns-in-Some
returns-in-Some c =
    skipped_line_is c.args.fresh c.args.bytes.now c.in-Some.after_mark.now c.skipped_line.result c.if-not-fresh.false c.in-Some.ensures c.skipped_line.ensures
