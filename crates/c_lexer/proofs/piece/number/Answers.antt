use Rattle.std.proofs.Common.{sym}
use Rattle.c_lexer.proofs.Lexemes.{number_at}
use Rattle.c_lexer.proofs.piece.number.Goals as goal

pub returns-in-Some-clause-found : goal.returns-in-Some-clause-found
returns-in-Some-clause-found c = λ fresh. ((number_at _ _ c.number_len-len.ensures.run c.requires).0, sym c.in-Some.ensures)

pub returns-in-None-clause-why : goal.returns-in-None-clause-why
returns-in-None-clause-why c = λ fresh.
    let lexeme = number_at _ _ c.number_len-len.ensures.run c.requires in
    (c.number_len-len.result, lexeme.0, lexeme.1, sym c.in-None.ensures)
