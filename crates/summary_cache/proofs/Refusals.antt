-- What a fault of each stage says of the text.
use Rattle.std.proofs.Common.{◌≡◌, ◌≢◌, ℕ, List, refl, sym, subst}
use Rattle.c_lexer.specs.declared.error.LexError.{LexError}
use Rattle.c_lexer.specs.declared.error.LexError.TheVariants as lexing
use Rattle.c_lexer.specs.declared.token.Token.{Token}
use Rattle.c_lexer.specs.Refusals.{IsRefused}
use Rattle.c_lexer.specs.Tokens.{Tokenizes}
use Rattle.c_parser.specs.declared.error.ParseError.{ParseError}
use Rattle.c_parser.specs.declared.error.ParseError.TheVariants as parsing
use Rattle.c_parser.specs.Refusals as grammar
use Rattle.summary_cache.specs.declared.refusal.Refusal.TheVariants.{Lex, Parse}
use Rattle.summary_cache.specs.declared.refusal.TextError.{TextError}
use Rattle.summary_cache.specs.declared.refusal.TextError.TheVariants.{Refused, Memory}
use Rattle.summary_cache.specs.Accepted.{IsErrorOf}

pub cut-refused : (text : List ℕ) (fault : LexError) (told : TextError) → (fault ≡ lexing.Memory → told ≡ Memory) → (fault ≢ lexing.Memory → told ≡ Refused (Lex fault))
    → (fault ≢ lexing.Memory → IsRefused text fault) → IsErrorOf text told
cut-refused text (lexing.Byte at) told memory other refused = let ne : lexing.Byte at ≢ lexing.Memory = λ e. cc e in subst (IsErrorOf text) (sym (other ne)) (refused ne)
cut-refused text (lexing.Comment at) told memory other refused = let ne : lexing.Comment at ≢ lexing.Memory = λ e. cc e in subst (IsErrorOf text) (sym (other ne)) (refused ne)
cut-refused text (lexing.Literal at) told memory other refused = let ne : lexing.Literal at ≢ lexing.Memory = λ e. cc e in subst (IsErrorOf text) (sym (other ne)) (refused ne)
cut-refused text (lexing.TooManyTokens at) told memory other refused = let ne : lexing.TooManyTokens at ≢ lexing.Memory = λ e. cc e in subst (IsErrorOf text) (sym (other ne)) (refused ne)
cut-refused text lexing.Memory told memory other refused = subst (IsErrorOf text) (sym (memory refl)) tt

pub grammar-refused : (text : List ℕ) (tokens : List Token) (fault : ParseError) (told : TextError) → (fault ≡ parsing.Memory → told ≡ Memory)
    → (fault ≢ parsing.Memory → told ≡ Refused (Parse fault)) → Tokenizes text tokens → (fault ≢ parsing.Memory → grammar.IsRefused tokens fault) → IsErrorOf text told
grammar-refused text tokens (parsing.Syntax at) told memory other tokenizes refused =
    let ne : parsing.Syntax at ≢ parsing.Memory = λ e. cc e in
    subst (IsErrorOf text) (sym (other ne)) (record { tokens = tokens; tokenizes = tokenizes; refused = refused ne })
grammar-refused text tokens (parsing.Unsupported at) told memory other tokenizes refused =
    let ne : parsing.Unsupported at ≢ parsing.Memory = λ e. cc e in
    subst (IsErrorOf text) (sym (other ne)) (record { tokens = tokens; tokenizes = tokenizes; refused = refused ne })
grammar-refused text tokens (parsing.Deep at) told memory other tokenizes refused =
    let ne : parsing.Deep at ≢ parsing.Memory = λ e. cc e in
    subst (IsErrorOf text) (sym (other ne)) (record { tokens = tokens; tokenizes = tokenizes; refused = refused ne })
grammar-refused text tokens parsing.Memory told memory other tokenizes refused = subst (IsErrorOf text) (sym (memory refl)) tt
