use Rattle.c_lexer.proofs.piece.piece_at.Goals as goal

pub returns-in-Some-behind-clause-found : goal.returns-in-Some-behind-clause-found
returns-in-Some-behind-clause-found c = c.line_comment.ensures c.args.fresh c.args.bytes.now c.in-Some-behind.ensures
