-- What may come of a text: one list of tokens, or one refusal.
use Rattle.std.specs.Prelude.{◌≡◌, ℕ, ◌+◌, nat_le, Bool, true, ◌&&◌, List, [], ◌∷◌, map, IsTrue}
use Rattle.c_lexer.specs.declared.token.Token.{Token}
use Rattle.c_lexer.specs.declared.error.LexError.{LexError}
use Rattle.c_lexer.specs.Tokens.{Tokenizes}
use Rattle.c_lexer.specs.Refusals.{IsRefused}

-- a text has one list of tokens at most
abbrev pub TokensAreOne : Type 0
TokensAreOne = (text : List ℕ) (one other : List Token) → Tokenizes text one → Tokenizes text other
    → one ≡ other

-- a text that has tokens is not refused
abbrev pub TokensAreNotRefused : Type 0
TokensAreNotRefused = (text : List ℕ) (tokens : List Token) (e : LexError) → Tokenizes text tokens
    → IsRefused text e → ⊥

-- a text is refused for one reason at most
abbrev pub RefusalIsOne : Type 0
RefusalIsOne = (text : List ℕ) (one other : LexError) → IsRefused text one → IsRefused text other
    → one ≡ other

-- each number is at least the first one told, and more than those before it
abbrev pub ascends_from : ℕ → List ℕ → Bool
ascends_from least [] = true
ascends_from least (n ∷ rest) = nat_le least n && ascends_from (n + 1) rest

-- the places of the tokens of a text ascend
abbrev pub TokensAscend : Type 0
TokensAscend = (text : List ℕ) (tokens : List Token) → Tokenizes text tokens
    → IsTrue (ascends_from 0 (map (λ token. token.at) tokens))
