-- What holds of readings, and of the tokens that the lexer gives.
use Rattle.std.specs.Prelude.{◌≡◌, ℕ, List, length, ◌⊎◌, IsTrue}
use Rattle.c_lexer.specs.declared.token.Token.{Token}
use Rattle.c_lexer.specs.Tokens.{Tokenizes}
use Rattle.syntax_tree.specs.declared.tree.Tree.{Tree}
use Rattle.syntax_tree.specs.SourceOperators.{items_have_fewer}
use Rattle.c_parser.specs.declared.error.ParseError.{ParseError}
use Rattle.c_parser.specs.Reads.{Reads, ReadsWithinLimits}
use Rattle.c_parser.specs.Refusals.{IsRefused}
use Rattle.c_parser.specs.SourceItem.{SourceItem, source_items_of}
use Rattle.c_parser.specs.Spots.{ends_once, spots_of}

-- a list of tokens reads as one tree at most
abbrev pub ReadingIsOne : Type 0
ReadingIsOne = (tokens : List Token) (one other : List SourceItem) → Reads tokens one
    → Reads tokens other → one ≡ other

-- tokens are refused for one reason at most
abbrev pub RefusalIsOne : Type 0
RefusalIsOne = (tokens : List Token) (one other : ParseError) → IsRefused tokens one
    → IsRefused tokens other → one ≡ other

-- tokens that read as a tree within the limits are not refused
abbrev pub ReadingIsNotRefused : Type 0
ReadingIsNotRefused = (tokens : List Token) (items : List SourceItem) (e : ParseError)
    → ReadsWithinLimits tokens items → IsRefused tokens e → ⊥

-- tokens that end once read as a tree within the limits, or are refused
abbrev pub TokensAreReadOrRefused : Type 0
TokensAreReadOrRefused =
    (tokens : List Token) → IsTrue (ends_once (spots_of tokens))
    → ((items : List SourceItem) × ReadsWithinLimits tokens items)
    ⊎ ((e : ParseError) × IsRefused tokens e)

-- the last token of a text is its end, and no other is
abbrev pub LexedEndsOnce : Type 0
LexedEndsOnce = (text : List ℕ) (tokens : List Token) → Tokenizes text tokens
    → IsTrue (ends_once (spots_of tokens))

-- each whole expression of a tree has fewer operators than there are tokens
abbrev pub ReadingsAreShort : Type 0
ReadingsAreShort = (tokens : List Token) (tree : Tree) → Reads tokens (source_items_of tree)
    → IsTrue (items_have_fewer (length tokens) tree.items)
