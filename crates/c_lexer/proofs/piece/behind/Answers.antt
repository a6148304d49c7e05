use Rattle.std.proofs.Common.{sym, ap, ◌∙◌, ◌++◌, length}
use Rattle.c_lexer.proofs.Lexemes.{starts_with_true}
use Rattle.c_lexer.proofs.Slices.{take_drop_all}
use Rattle.c_lexer.proofs.piece.behind.Goals as goal

pub returns-then-starts_with : goal.returns-then-starts_with
returns-then-starts_with c =
    starts_with_true c.args.bytes.now c.args.front.now (sym c.if-starts_with.ensures.value)
    ∙ ap (λ rest. c.args.front.now ++ rest) (sym (take_drop_all c.args.bytes.now (length c.args.front.now)))
