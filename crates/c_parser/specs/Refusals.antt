-- Why tokens have no tree: the first of them that no text of the grammar has behind those before
-- it.
use Rattle.std.specs.Prelude.{◌≡◌, ℕ, List, [], ◌∷◌, ◌++◌, ◌⊎◌, IsTrue, if◌then◌else◌}
use Rattle.c_lexer.specs.declared.token.Token.{Token}
use Rattle.c_parser.specs.declared.error.ParseError.{ParseError}
use Rattle.c_parser.specs.declared.error.ParseError.TheVariants as error
use Rattle.c_parser.specs.Declarations.{Declaration, text_spots, text_is_made}
use Rattle.c_parser.specs.Profile.{is_outside}
use Rattle.c_parser.specs.Reads.{IsWithinLimits}
use Rattle.c_parser.specs.Spots.{Spot, end, spots_of}

-- the tokens of these declarations, and the end of the text, go on from these
pub record GoesOn (spots : List Spot) (text : List Declaration) : Type 0 where
  pub at : ℕ
  pub rest : List Spot
  pub spells : text_spots text ++ end at ∷ [] ≡ spots ++ rest
  pub made : IsTrue (text_is_made text)

-- some text of the grammar begins with these tokens
abbrev pub Begins : List Spot → Type 0
Begins spots = (text : List Declaration) × GoesOn spots text

-- the same of a text within the limits
abbrev pub BeginsWithin : List Spot → Type 0
BeginsWithin spots = (text : List Declaration) × GoesOn spots text × IsWithinLimits text

-- some text within the limits begins with the tokens before this one, and none with this one too
pub record IsStop (tokens : List Token) (before : List Spot) (spot : Spot)
    (after : List Spot) : Type 0 where
  pub cut : spots_of tokens ≡ before ++ spot ∷ after
  pub begun : BeginsWithin before
  pub stops : BeginsWithin (before ++ spot ∷ []) → ⊥

-- what is told of a token that no text has there
abbrev pub refusal_of : Spot → ParseError
refusal_of spot = if is_outside spot.kind then error.Unsupported spot.at else error.Syntax spot.at

-- A token that some text has there passes a limit.
abbrev pub IsTold : List Spot → Spot → ParseError → Type 0
IsTold before spot e = (Begins (before ++ spot ∷ []) × (e ≡ error.Deep spot.at))
    ⊎ ((Begins (before ++ spot ∷ []) → ⊥) × (e ≡ refusal_of spot))

-- The tokens are refused so.
abbrev pub IsRefused : List Token → ParseError → Type 0
IsRefused tokens e = (before : List Spot) × (spot : Spot) × (after : List Spot)
    × IsStop tokens before spot after × IsTold before spot e
