use Rattle.std.proofs.Common.{ℕ, ◌<◌}
use Rattle.c_lexer.specs.Pieces.{EndsComment}
use Rattle.c_lexer.proofs.piece.comment_len.Given as goal

-- no comment ends before here
abbrev pub invariant-loop-at : goal.invariant-loop-at
invariant-loop-at l = (i : ℕ) → i < l.at → ¬ EndsComment l.behind i
