-- The program of a text is well formed: its expressions have fewer operators than the text has
-- tokens.
use Rattle.std.proofs.Common.{ℕ, ◌+◌, ◌≤◌, List, ◌∷◌, [], length, ap, ◌∙◌, arith, length-append}
use Rattle.c_lexer.specs.declared.token.Token.{Token}
use Rattle.c_lexer.specs.Limits.{most_tokens}
use Rattle.c_lexer.specs.Tokens.{Tokenizes, end_at, lexemes_from}
use Rattle.c_parser.proofs.FewOperators.{reading-fewer}
use Rattle.typing.proofs.TextsFit.{answer_fits}
use Rattle.summary_cache.specs.Laws.{AcceptedIsWellFormed}
use Rattle.summary_cache.proofs.Complete.{reads-plainly}

few-tokens : (text : List ℕ) (tokens : List Token) → Tokenizes text tokens → length tokens ≤ most_tokens + 1
few-tokens text tokens lexed =
    let same = ap length lexed.cut.told ∙ length-append (lexemes_from 0 lexed.cut.pieces) (end_at (length text) ∷ []) in
    let few = lexed.cut.few in
    omega (arith, same, few)

pub accepted-well_formed : AcceptedIsWellFormed
accepted-well_formed text program a =
    let few = reading-fewer 200001 a.spells.tokens a.tree (reads-plainly _ _ a.spells.reads) (few-tokens text a.spells.tokens a.spells.tokenizes) in
    answer_fits a.tree.items (length text) program few a.elaborates
