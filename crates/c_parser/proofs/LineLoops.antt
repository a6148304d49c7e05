-- One step of each loop of the parser of statements, and which way it goes at a line.
use Rattle.std.proofs.Common.{◌≡◌, ℕ, ◌<◌, true, false, Option, List, [], ◌∷◌, ◌++◌, length, ap, ◌∙◌}
use Rattle.std.specs.Prelude.{not, Ok}
use Rattle.items.specs.Gives.{◌>>=◌, FailsBy}
use Rattle.items.proofs.Gives.{FailsBy-bind}
use Rattle.c_lexer.specs.declared.keyword.Keyword.{Keyword}
use Rattle.c_lexer.specs.declared.mark.Mark.TheVariants as marks
use Rattle.syntax_tree.specs.SourceLine.{SourceLine}
use Rattle.c_parser.specs.declared.error.ParseError.{ParseError}
use Rattle.c_parser.specs.Descent.{begins_with, place_at, tail}
use Rattle.c_parser.specs.Spots.{Spot}
use Rattle.c_parser.specs.Statements.{LineReader, block_by, comma_stands, entries, entry, keyword_at, keyword_or, line_read, lines_left, one_entry, one_variable, stands_open, variable, variables}
use Rattle.c_parser.proofs.Lines.{line_at}
use Rattle.c_parser.proofs.Repeats.{chosen, left_out, repeat-done, repeat-more, repeat-fails}

module _ (most levels : ℕ) (read : List SourceLine × List Spot) where
  pub variables-done : begins_with marks.Comma read.1 ≡ false → variables most levels read ≡ Ok read
  variables-done e = repeat-done lines_left comma_stands (one_variable most levels) read e

  pub variables-more : (next : SourceLine × List Spot) → begins_with marks.Comma read.1 ≡ true → variable most levels (tail read.1) ≡ Ok next
      → length next.1 < length read.1 → variables most levels read ≡ variables most levels (read.0 ++ next.0 ∷ [], next.1)
  variables-more next e made less =
      repeat-more lines_left comma_stands (one_variable most levels) read (read.0 ++ next.0 ∷ [], next.1) e
      (ap (λ came. came >>= λ next. Ok (read.0 ++ next.0 ∷ [], next.1)) made) less

  pub variables-fail : (cause : Option ParseError) → begins_with marks.Comma read.1 ≡ true → FailsBy cause (variable most levels (tail read.1))
      → FailsBy cause (variables most levels read)
  variables-fail cause e fails =
      repeat-fails lines_left comma_stands (one_variable most levels) cause read e
      (FailsBy-bind cause (variable most levels (tail read.1)) (λ next. Ok (read.0 ++ next.0 ∷ [], next.1)) fails)

module _ (most : ℕ) (reader : LineReader) (level : ℕ) (read : List SourceLine × List Spot) where
  pub entries-done : begins_with marks.CloseBrace read.1 ≡ true → entries most reader level read ≡ Ok read
  entries-done e = repeat-done lines_left stands_open (one_entry most reader level) read (ap not e)

  pub entries-more : (next : List SourceLine × List Spot) → begins_with marks.CloseBrace read.1 ≡ false → entry most reader level read.1 ≡ Ok next
      → length next.1 < length read.1 → entries most reader level read ≡ entries most reader level (read.0 ++ next.0, next.1)
  entries-more next e made less =
      repeat-more lines_left stands_open (one_entry most reader level) read (read.0 ++ next.0, next.1) (ap not e)
      (ap (λ came. came >>= λ next. Ok (read.0 ++ next.0, next.1)) made) less

  pub entries-fail : (cause : Option ParseError) → begins_with marks.CloseBrace read.1 ≡ false → FailsBy cause (entry most reader level read.1)
      → FailsBy cause (entries most reader level read)
  entries-fail cause e fails =
      repeat-fails lines_left stands_open (one_entry most reader level) cause read (ap not e)
      (FailsBy-bind cause (entry most reader level read.1) (λ next. Ok (read.0 ++ next.0, next.1)) fails)

module _ (most levels : ℕ) (spots : List Spot) where
  pub line-block : begins_with marks.OpenBrace spots ≡ true → line_read most levels spots ≡ block_by most (line_read most) levels (place_at spots) (tail spots)
  line-block e = line_at most levels spots ∙ chosen (begins_with marks.OpenBrace spots) _ _ e

  pub line-empty : begins_with marks.OpenBrace spots ≡ false → begins_with marks.Semi spots ≡ true → line_read most levels spots ≡ Ok ([], tail spots)
  line-empty e f = line_at most levels spots ∙ left_out (begins_with marks.OpenBrace spots) _ _ e ∙ chosen (begins_with marks.Semi spots) _ _ f

  pub line-other : (k : Option Keyword) → begins_with marks.OpenBrace spots ≡ false → begins_with marks.Semi spots ≡ false → keyword_at spots ≡ k
      → line_read most levels spots ≡ keyword_or most (line_read most) levels k spots
  line-other k e f g =
      line_at most levels spots ∙ left_out (begins_with marks.OpenBrace spots) _ _ e ∙ left_out (begins_with marks.Semi spots) _ _ f
      ∙ ap (λ found. keyword_or most (line_read most) levels found spots) g
