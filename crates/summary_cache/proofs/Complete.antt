-- A text is accepted as one program at most, one that is accepted is not refused, and one that is
-- refused has one reason for it.
use Rattle.std.proofs.Common.{◌≡◌, ℕ, List, length, sym, ap, subst, ◌∙◌}
use Rattle.c_lexer.proofs.OneOutcome as cut
use Rattle.c_lexer.proofs.OneOutcome.{tokens_are_not_refused, tokens_are_one}
use Rattle.c_lexer.specs.declared.token.Token.{Token}
use Rattle.c_parser.proofs.Readings.{reading_is_one}
use Rattle.c_parser.proofs.Refusals as grammar
use Rattle.c_parser.specs.Refusals.{IsRefused}
use Rattle.c_parser.specs.declared.error.ParseError.{ParseError}
use Rattle.c_parser.specs.Reads.{Reads, ReadsWithinLimits}
use Rattle.c_parser.specs.SourceItem.{SourceItem, source_items_of}
use Rattle.syntax_tree.specs.declared.program.Program.{Program}
use Rattle.syntax_tree.specs.declared.tree.Tree.{Tree}
use Rattle.typing.specs.Faults.{elaboration_of}
use Rattle.summary_cache.specs.declared.refusal.Refusal.{Refusal}
use Rattle.summary_cache.specs.declared.refusal.Refusal.TheVariants.{Lex, Parse, Typing}
use Rattle.summary_cache.specs.Accepted.{Accepts, IsRefusedBy, IsUnread, Spells}
use Rattle.summary_cache.proofs.SameTrees.{elaborates-alike}

pub reads-plainly : (tokens : List Token) (items : List SourceItem) → ReadsWithinLimits tokens items → Reads tokens items
reads-plainly tokens items (text, reading, limits) = (text, reading)

-- what a text spells has one elaboration
one-elaboration : (text : List ℕ) (one other : Tree) → Spells text one → Spells text other → elaboration_of one.items (length text) ≡ elaboration_of other.items (length text)
one-elaboration text one other s t =
    let tokens = tokens_are_one text s.tokens t.tokens s.tokenizes t.tokenizes in
    let first = reads-plainly t.tokens (source_items_of one) (subst (λ tokens. ReadsWithinLimits tokens (source_items_of one)) tokens s.reads) in
    let items = reading_is_one t.tokens (source_items_of one) (source_items_of other) first (reads-plainly t.tokens (source_items_of other) t.reads) in
    elaborates-alike one.items other.items (length text) items

pub accepted-once : (text : List ℕ) (one other : Program) → Accepts text one → Accepts text other → one ≡ other
accepted-once text one other a b =
    let same = sym a.elaborates ∙ one-elaboration text a.tree b.tree a.spells b.spells ∙ b.elaborates in
    cc

-- what a text spells is not refused by the grammar
spelled-not_unread : (text : List ℕ) (tree : Tree) (fault : ParseError) → Spells text tree → IsUnread text fault → ⊥
spelled-not_unread text tree fault s is =
    let tokens = tokens_are_one text s.tokens is.tokens s.tokenizes is.tokenizes in
    grammar.reading_is_not_refused is.tokens (source_items_of tree) fault (subst (λ tokens. ReadsWithinLimits tokens (source_items_of tree)) tokens s.reads) is.refused

pub not-refused : (text : List ℕ) (program : Program) (refusal : Refusal) → Accepts text program → IsRefusedBy text refusal → ⊥
not-refused text program (Lex fault) a is = tokens_are_not_refused text a.spells.tokens fault a.spells.tokenizes is
not-refused text program (Parse fault) a is = spelled-not_unread text a.tree fault a.spells is
not-refused text program (Typing fault) a is =
    let same = sym a.elaborates ∙ one-elaboration text a.tree is.tree a.spells is.spells ∙ is.least in
    cc

-- each stage refuses a text only where those before it do not, and then for one reason
pub refusal-once : (text : List ℕ) (one other : Refusal) → IsRefusedBy text one → IsRefusedBy text other → one ≡ other
refusal-once text (Lex a) (Lex b) p q = ap Lex (cut.refusal_is_one text a b p q)
refusal-once text (Lex a) (Parse b) p q = absurd (tokens_are_not_refused text q.tokens a q.tokenizes p)
refusal-once text (Lex a) (Typing b) p q = absurd (tokens_are_not_refused text q.spells.tokens a q.spells.tokenizes p)
refusal-once text (Parse a) (Lex b) p q = absurd (tokens_are_not_refused text p.tokens b p.tokenizes q)
refusal-once text (Parse a) (Parse b) p q =
    let tokens = tokens_are_one text p.tokens q.tokens p.tokenizes q.tokenizes in
    ap Parse (grammar.refusal_is_one q.tokens a b (subst (λ tokens. IsRefused tokens a) tokens p.refused) q.refused)
refusal-once text (Parse a) (Typing b) p q = absurd (spelled-not_unread text q.tree a q.spells p)
refusal-once text (Typing a) (Lex b) p q = absurd (tokens_are_not_refused text p.spells.tokens b p.spells.tokenizes q)
refusal-once text (Typing a) (Parse b) p q = absurd (spelled-not_unread text p.tree b p.spells q)
refusal-once text (Typing a) (Typing b) p q =
    let same = sym p.least ∙ one-elaboration text p.tree q.tree p.spells q.spells ∙ q.least in
    let told : a ≡ b = cc in
    ap Typing told
