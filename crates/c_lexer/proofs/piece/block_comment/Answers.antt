use Rattle.std.proofs.Common.{Bool, subst, sym, ◌+◌}
use Rattle.c_lexer.specs.Found.{Tells}
use Rattle.c_lexer.specs.declared.piece.FoundPiece.TheVariants.{Space}
use Rattle.c_lexer.proofs.Spaces.{block_comment_tells}
use Rattle.c_lexer.proofs.piece.block_comment.Goals as goal

pub returns-in-Some-clause-found : goal.returns-in-Some-clause-found
returns-in-Some-clause-found c = λ fresh bytes begins.
    subst (λ (line : Bool). Tells fresh bytes (Space (c.in-Some.len + 4) line)) (sym c.contains.ensures.value)
    (block_comment_tells fresh c.in-Some.len bytes c.args.body.now begins c.in-Some.ensures.0 c.in-Some.ensures.1)
