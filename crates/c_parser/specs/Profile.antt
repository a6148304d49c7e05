-- Which tokens of C the grammar leaves out.
use Rattle.std.specs.Prelude.{Bool, true, false, not}
use Rattle.c_lexer.specs.declared.keyword.Keyword.{Keyword}
use Rattle.c_lexer.specs.declared.keyword.Keyword.TheVariants as keywords
use Rattle.c_lexer.specs.declared.kind.TokenKind.{TokenKind}
use Rattle.c_lexer.specs.declared.kind.TokenKind.TheVariants as kind
use Rattle.c_lexer.specs.declared.mark.Mark.{Mark}
use Rattle.c_lexer.specs.declared.mark.Mark.TheVariants as marks

-- a mark of C that the grammar leaves out
abbrev pub mark_is_outside : Mark → Bool
mark_is_outside marks.OpenSquare = true
mark_is_outside marks.CloseSquare = true
mark_is_outside marks.Dot = true
mark_is_outside marks.Arrow = true
mark_is_outside marks.Amp = true
mark_is_outside marks.Bar = true
mark_is_outside marks.Caret = true
mark_is_outside marks.Tilde = true
mark_is_outside marks.ShiftLeft = true
mark_is_outside marks.ShiftRight = true
mark_is_outside marks.Question = true
mark_is_outside marks.Colon = true
mark_is_outside marks.Dots = true
mark_is_outside marks.ShiftLeftAssign = true
mark_is_outside marks.ShiftRightAssign = true
mark_is_outside marks.AmpAssign = true
mark_is_outside marks.CaretAssign = true
mark_is_outside marks.BarAssign = true
mark_is_outside _ = false

-- a keyword that the grammar has
abbrev pub keyword_is_inside : Keyword → Bool
keyword_is_inside keywords.Int = true
keyword_is_inside keywords.Void = true
keyword_is_inside keywords.If = true
keyword_is_inside keywords.Else = true
keyword_is_inside keywords.While = true
keyword_is_inside keywords.Do = true
keyword_is_inside keywords.For = true
keyword_is_inside keywords.Break = true
keyword_is_inside keywords.Continue = true
keyword_is_inside keywords.Return = true
keyword_is_inside keywords.Extern = true
keyword_is_inside _ = false

-- a token of C that the grammar leaves out, which is a keyword or a mark
abbrev pub is_outside : TokenKind → Bool
is_outside (kind.Word name) = false
is_outside (kind.Keyword k) = not (keyword_is_inside k)
is_outside (kind.Number value) = false
is_outside (kind.Mark m) = mark_is_outside m
is_outside kind.End = false
