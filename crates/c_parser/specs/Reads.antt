-- Which tree a list of tokens reads as (C11 6.9), and the limits that the parser keeps.
use Rattle.std.specs.Prelude.{◌≡◌, ◌≤◌, ℕ, List, [], ◌∷◌, ◌++◌, IsTrue}
use Rattle.c_lexer.specs.declared.token.Token.{Token}
use Rattle.c_parser.specs.Limits.{most_levels, most_binary_operators}
use Rattle.c_parser.specs.Declarations.{Declaration, text_spots, text_is_made, text_items, text_levels, text_operators}
use Rattle.c_parser.specs.SourceItem.{SourceItem}
use Rattle.c_parser.specs.Spots.{spots_of, end}

-- these declarations, one behind the other, spell the tokens and stand for the tree
pub record IsReading (tokens : List Token) (items : List SourceItem)
    (text : List Declaration) : Type 0 where
  pub at : ℕ
  pub spells : spots_of tokens ≡ text_spots text ++ end at ∷ []
  pub made : IsTrue (text_is_made text)
  pub stands_for : items ≡ text_items text

-- the tokens read as this tree, by declarations that spell them and stand for it
abbrev pub Reads : List Token → List SourceItem → Type 0
Reads tokens items = (text : List Declaration) × IsReading tokens items text

-- the declarations are within the limits of nesting and of operators
pub record IsWithinLimits (text : List Declaration) : Type 0 where
  pub shallow : text_levels text ≤ most_levels
  pub short : text_operators text ≤ most_binary_operators

-- the tokens read as this tree, by declarations that are within the limits
abbrev pub ReadsWithinLimits : List Token → List SourceItem → Type 0
ReadsWithinLimits tokens items = (text : List Declaration) × IsReading tokens items text
    × IsWithinLimits text
