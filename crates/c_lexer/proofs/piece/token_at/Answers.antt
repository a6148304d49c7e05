use Rattle.std.proofs.Common.{Bool, sym, ap, subst, ◌∙◌}
use Rattle.std.specs.Prelude.{not}
use Rattle.std.specs.Char.{is_ascii_digit}
use Rattle.c_lexer.specs.Bytes.{is_blank, is_newline, is_word_start}
use Rattle.c_lexer.specs.Found.{Tells}
use Rattle.c_lexer.specs.declared.piece.FoundPiece.TheVariants.{Space}
use Rattle.c_lexer.proofs.Lexemes.{begins_with-first, word_at, mark_lexeme, mark_taken, no_token_begins}
use Rattle.c_lexer.proofs.Spaces.{blank_at}
use Rattle.c_lexer.proofs.piece.token_at.Goals as goal

pub returns-then-is_blank-clause-found : goal.returns-then-is_blank-clause-found
returns-then-is_blank-clause-found c =
    subst (λ (line : Bool). Tells c.args.fresh c.args.bytes.now (Space 1 line)) (begins_with-first is_newline c.args.bytes.now c.requires.some)
    (blank_at c.args.fresh c.args.bytes.now (begins_with-first is_blank c.args.bytes.now c.requires.some ∙ sym c.if-is_blank.ensures))

pub returns-then-is_word_start-clause-found : goal.returns-then-is_word_start-clause-found
returns-then-is_word_start-clause-found c =
    word_at c.args.bytes.now c.word_len.result c.word_len.ensures.run (begins_with-first is_word_start c.args.bytes.now c.requires.some ∙ sym c.if-is_word_start.ensures)

pub returns-then-is_ascii_digit-clause-found : goal.returns-then-is_ascii_digit-clause-found
returns-then-is_ascii_digit-clause-found c = c.number.ensures.found c.args.fresh

pub returns-then-is_ascii_digit-clause-why : goal.returns-then-is_ascii_digit-clause-why
returns-then-is_ascii_digit-clause-why c = c.number.ensures.why c.args.fresh

pub number-requires : goal.number-requires
number-requires c = begins_with-first is_ascii_digit c.args.bytes.now c.requires.some ∙ sym c.if-is_ascii_digit.ensures.value

pub returns-in-Some-clause-found : goal.returns-in-Some-clause-found
returns-in-Some-clause-found c =
    (mark_lexeme c.args.bytes.now c.in-Some.mark c.requires.no_comment (sym c.in-Some.ensures), mark_taken c.args.bytes.now c.in-Some.mark (sym c.in-Some.ensures))

pub returns-in-None-clause-why : goal.returns-in-None-clause-why
returns-in-None-clause-why c = record {
  no_token = λ front later. no_token_begins c.args.bytes.now front later
      (begins_with-first is_word_start c.args.bytes.now c.requires.some ∙ sym c.if-is_word_start.ensures)
      (begins_with-first is_ascii_digit c.args.bytes.now c.requires.some ∙ sym c.if-is_ascii_digit.ensures.value)
      (sym c.in-None.ensures);
  no_blank = ap not (begins_with-first is_blank c.args.bytes.now c.requires.some ∙ sym c.if-is_blank.ensures);
  no_comment = c.requires.no_comment;
  no_line = c.requires.no_line;
}
