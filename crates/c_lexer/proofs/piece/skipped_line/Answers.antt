use Rattle.std.proofs.Common.{◌∷◌, ℕ, ◌+◌, subst, sym, ◌∙◌, refl}
use Rattle.std.specs.Prelude.{true, false}
use Rattle.c_lexer.specs.Found.{Tells}
use Rattle.c_lexer.specs.declared.piece.FoundPiece.TheVariants.{Space}
use Rattle.c_lexer.proofs.Slices.{take_drop_all}
use Rattle.c_lexer.proofs.Spaces.{skipped_line_tells}
use Rattle.c_lexer.proofs.piece.skipped_line.Goals as goal

pub returns : goal.returns
returns c =
    subst (λ (len : ℕ). Tells true (35 ∷ c.args.after_mark.now) (Space (c.indent_len-indent.result + 8 + len) false)) (sym c.line_len.ensures.run)
    (skipped_line_tells c.indent_len-indent.result (35 ∷ c.args.after_mark.now) c.args.after_mark.now c.in_ok-after.after.now refl c.indent_len-indent.ensures.run
    (sym (take_drop_all c.args.after_mark.now c.indent_len-indent.result) ∙ c.in_ok-after.ensures))
