use Rattle.std.proofs.Common.{ℕ, ◌+◌, subst, arith, ◌≡◌}
use Rattle.std.specs.Prelude.{false, not}
use Rattle.std.specs.List.{prefix_len}
use Rattle.c_lexer.specs.Bytes.{is_newline}
use Rattle.c_lexer.specs.Found.{Tells}
use Rattle.c_lexer.specs.declared.piece.FoundPiece.TheVariants.{Space}
use Rattle.c_lexer.proofs.Spaces.{line_comment_tells}
use Rattle.c_lexer.proofs.piece.line_comment.Goals as goal

pub returns : goal.returns
returns c = λ fresh bytes begins.
    let same : 2 + prefix_len (λ b. not (is_newline b)) c.args.body.now ≡ c.line_len.result + 2 = omega (arith, c.line_len.ensures.run) in
    subst (λ (len : ℕ). Tells fresh bytes (Space len false)) same (line_comment_tells fresh bytes c.args.body.now begins)
