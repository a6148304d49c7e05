-- The line that tells why a text is refused.
use Rattle.std.specs.Prelude.{ℕ, List, [], ◌++◌, codes, decimal}
use Rattle.c_lexer.specs.declared.error.LexError.{LexError}
use Rattle.c_lexer.specs.declared.error.LexError.TheVariants as lexing
use Rattle.c_parser.specs.declared.error.ParseError.{ParseError}
use Rattle.c_parser.specs.declared.error.ParseError.TheVariants as parsing
use Rattle.typing.specs.declared.error.Limited.{Limited}
use Rattle.typing.specs.declared.error.Limited.TheVariants as limited
use Rattle.typing.specs.declared.error.TypeError.{TypeError}
use Rattle.typing.specs.declared.error.TypeError.TheVariants as typing
use Rattle.summary_cache.specs.declared.refusal.Refusal.{Refusal}
use Rattle.summary_cache.specs.declared.refusal.Refusal.TheVariants.{Lex, Parse, Typing}
use Rattle.summary_cache.specs.Place.{column_at, line_at}

-- a word and a place
pub record Line : Type 0 where
  pub word : List ℕ
  pub at : ℕ

-- what the cut into tokens refuses, and where, in bytes from 0; want of memory has no word
abbrev pub lexing_line : LexError → Line
lexing_line (lexing.Byte at) = record { word = codes "byte"; at = at }
lexing_line (lexing.Comment at) = record { word = codes "comment"; at = at }
lexing_line (lexing.Literal at) = record { word = codes "literal"; at = at }
lexing_line (lexing.TooManyTokens at) = record { word = codes "tokens"; at = at }
lexing_line lexing.Memory = record { word = []; at = 0 }

-- what the grammar refuses, and where, in bytes from 0; want of memory has no word
abbrev pub parsing_line : ParseError → Line
parsing_line (parsing.Syntax at) = record { word = codes "syntax"; at = at }
parsing_line (parsing.Unsupported at) = record { word = codes "unsupported"; at = at }
parsing_line (parsing.Deep at) = record { word = codes "deep"; at = at }
parsing_line parsing.Memory = record { word = []; at = 0 }

-- what there is too much of
abbrev pub limited_word : Limited → List ℕ
limited_word limited.Procedures = codes "many procedures"
limited_word limited.Parameters = codes "many parameters"
limited_word limited.Globals = codes "many globals"
limited_word limited.Slots = codes "many slots"
limited_word limited.Nodes = codes "many nodes"
limited_word limited.Assertions = codes "many assertions"
limited_word limited.Cases = codes "many cases"

-- the fault of a tree, and where it stands, in bytes from 0; want of memory has no word
abbrev pub typing_line : TypeError → Line
typing_line (typing.Unknown at) = record { word = codes "unknown"; at = at }
typing_line (typing.Twice at) = record { word = codes "twice"; at = at }
typing_line (typing.Arity at) = record { word = codes "arity"; at = at }
typing_line (typing.VoidValue at) = record { word = codes "void"; at = at }
typing_line (typing.CallPlace at) = record { word = codes "place"; at = at }
typing_line (typing.Many what at) = record { word = limited_word what; at = at }
typing_line (typing.NoMain at) = record { word = codes "main"; at = at }
typing_line typing.Memory = record { word = []; at = 0 }

-- the word and the place of a refusal, of whichever of these kinds
abbrev pub refusal_line : Refusal → Line
refusal_line (Lex fault) = lexing_line fault
refusal_line (Parse fault) = parsing_line fault
refusal_line (Typing fault) = typing_line fault

-- the word, and the line and column of the place
abbrev pub refusal_text : List ℕ → Line → List ℕ
refusal_text text line =
    codes "refused " ++ line.word ++ codes " at " ++ decimal (line_at text line.at) ++ codes ":"
    ++ decimal (column_at text line.at) ++ codes "\n"
