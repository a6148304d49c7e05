-- Which texts are accepted, as which program, and why the others are refused.
use Rattle.std.specs.Prelude.{◌≡◌, ℕ, List, length, Result, Ok, Err}
use Rattle.c_lexer.specs.declared.token.Token.{Token}
use Rattle.c_lexer.specs.Refusals.{IsRefused}
use Rattle.c_lexer.specs.Tokens.{Tokenizes}
use Rattle.c_parser.specs.declared.error.ParseError.{ParseError}
use Rattle.c_parser.specs.Reads.{ReadsWithinLimits}
use Rattle.c_parser.specs.Refusals as grammar
use Rattle.c_parser.specs.SourceItem.{source_items_of}
use Rattle.syntax_tree.specs.declared.program.Program.{Program}
use Rattle.syntax_tree.specs.declared.tree.Tree.{Tree}
use Rattle.typing.specs.declared.error.TypeError.{TypeError}
use Rattle.typing.specs.Faults.{elaboration_of}
use Rattle.summary_cache.specs.declared.refusal.Refusal.{Refusal}
use Rattle.summary_cache.specs.declared.refusal.Refusal.TheVariants.{Lex, Parse, Typing}
use Rattle.summary_cache.specs.declared.refusal.TextError.{TextError}
use Rattle.summary_cache.specs.declared.refusal.TextError.TheVariants.{Refused, Memory}

-- The text spells a tree: it has tokens, which the grammar reads as the tree, within the limits of
-- nesting.
pub record Spells (text : List ℕ) (tree : Tree) : Type 0 where
  pub tokens : List Token
  pub tokenizes : Tokenizes text tokens
  pub reads : ReadsWithinLimits tokens (source_items_of tree)

-- The text spells a tree, and the tree has this program.
pub record Accepts (text : List ℕ) (program : Program) : Type 0 where
  pub tree : Tree
  pub spells : Spells text tree
  pub elaborates : elaboration_of tree.items (length text) ≡ Ok program

-- The text has tokens, and the grammar refuses these so.
pub record IsUnread (text : List ℕ) (fault : ParseError) : Type 0 where
  pub tokens : List Token
  pub tokenizes : Tokenizes text tokens
  pub refused : grammar.IsRefused tokens fault

-- The text spells a tree, and this is the first fault of the tree.
pub record IsFaulty (text : List ℕ) (fault : TypeError) : Type 0 where
  pub tree : Tree
  pub spells : Spells text tree
  pub least : elaboration_of tree.items (length text) ≡ Err fault

-- Why a text is refused: what the cut into tokens refuses comes first, then what the grammar
-- refuses, then the first fault of the tree.
abbrev pub IsRefusedBy : List ℕ → Refusal → Type 0
IsRefusedBy text (Lex fault) = IsRefused text fault
IsRefusedBy text (Parse fault) = IsUnread text fault
IsRefusedBy text (Typing fault) = IsFaulty text fault

-- what an error of reading says of a text; want of memory says nothing
abbrev pub IsErrorOf : List ℕ → TextError → Type 0
IsErrorOf text (Refused refusal) = IsRefusedBy text refusal
IsErrorOf text Memory = Unit {0}

-- what reading a text comes to
abbrev pub IsOutcome : List ℕ → Result Program TextError → Type 0
IsOutcome text (Ok program) = Accepts text program
IsOutcome text (Err error) = IsErrorOf text error

-- what the cut of a text into tokens comes to: these are its tokens, or an error is true of it
abbrev pub TokensOrRefusal : List ℕ → Result (List Token) TextError → Type 0
TokensOrRefusal text (Ok tokens) = Tokenizes text tokens
TokensOrRefusal text (Err error) = IsErrorOf text error

-- what reading a text as a tree comes to: the text spells the tree, or an error is true of it
abbrev pub TreeOrRefusal : List ℕ → Result Tree TextError → Type 0
TreeOrRefusal text (Ok tree) = Spells text tree
TreeOrRefusal text (Err error) = IsErrorOf text error
