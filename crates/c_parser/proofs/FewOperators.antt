-- Each whole expression of a text has fewer operators than the text has tokens.
use Rattle.std.proofs.Common.{◌≡◌, ℕ, ◌+◌, ◌<◌, ◌≤◌, Bool, true, false, List, [], ◌∷◌, ◌++◌, length, map, None, Some, refl, sym, ap, ◌∙◌, arith, length-append}
use Rattle.std.specs.Prelude.{Option, pos, ◌&&◌}
use Rattle.std.proofs.lemmas.Bool.Decides.{nat_tests}
use Rattle.std.proofs.lemmas.List.{length-map}
use Rattle.c_lexer.specs.declared.keyword.Keyword.TheVariants as keywords
use Rattle.c_lexer.specs.declared.mark.Mark.TheVariants.{OpenRound, CloseRound, OpenBrace, CloseBrace, Comma, Semi}
use Rattle.c_lexer.specs.declared.token.Token.{Token}
use Rattle.syntax_tree.specs.declared.tree.Item.{Item}
use Rattle.syntax_tree.specs.declared.tree.Item.TheVariants as item
use Rattle.syntax_tree.specs.declared.tree.Tree.{Tree}
use Rattle.syntax_tree.specs.SourceExpr as source
use Rattle.syntax_tree.specs.SourceExpr.{SourceExpr}
use Rattle.syntax_tree.specs.SourceLine as line
use Rattle.syntax_tree.specs.SourceLine.{SourceLine, SourceLines, lines_from}
use Rattle.syntax_tree.specs.SourceOperators.{all_source_operators, has_fewer, if_fewer, items_have_fewer, line_has_fewer, lines_have_fewer, source_operators}
use Rattle.c_parser.specs.Declarations.{Declaration, Globals, Prototype, Procedure, Shared, Zero, Positive, Negative, SharedList, LastShared, AlsoShared, shared_item, declaration_items, declaration_spots, parameters_spots, returned_spots, shared_list_items, text_items, text_spots}
use Rattle.c_parser.specs.Expressions.{Operand, Number, Named, Called, Bracketed, Signed, Expression, Single, Joined, Call, Applied, Arguments, NoArguments, Listed, MoreArguments, NoMore, Another, operand_spots, expression_spots, call_spots, argument_spots, more_spots, with_place, operand_tree, tree, call_tree, argument_trees, more_trees}
use Rattle.c_parser.specs.Laws.{ReadingsAreShort}
use Rattle.c_parser.specs.Lines.{Variable, Bare, Initialised, Variables, Last, Also, Local, Declared, Simple, Assigned, Changed, CountedAfter, CountedBefore, Acted, Init, InitLocal, InitSimple, Line, Block, Empty, Plain, If, IfElse, While, DoWhile, For, Break, Continue, Return, Lines, NoLines, ThenLocal, ThenLine, bracketed_spots, cond_or_one, if_expression, if_simple, if_simple_lines, if_tree, init_lines, init_spots, line_lines, line_spots, lines_lines, lines_spots, local_lines, local_spots, simple_line, simple_spots, variable_line, variable_spots, variables_lines, variables_spots}
use Rattle.c_parser.specs.Operators.{op_mark, compound_op, count_op}
use Rattle.c_parser.specs.Reads.{Reads}
use Rattle.c_parser.specs.SourceItem.{SourceItem, Global, Proto, Body, source_item_of, source_items_of}
use Rattle.c_parser.specs.Spots.{end, mark, keyword, word, spot_of}
use Rattle.c_parser.proofs.FirstTokens.{both}

-- ---- expressions

placed-operators : (at : ℕ) (e : SourceExpr) → source_operators (with_place at e) ≡ source_operators e
placed-operators at (source.Lit place value) = refl
placed-operators at (source.Var place name) = refl
placed-operators at (source.Call place name args) = refl
placed-operators at (source.Unary place sign inner) = refl
placed-operators at (source.Binary place op left right) = refl

mutual
  operand-operators : (o : Operand) → source_operators (operand_tree o) < length (operand_spots o)
  operand-operators (Number at value) = omega arith
  operand-operators (Named at name) = omega arith
  operand-operators (Called call) = call-operators call
  operand-operators (Bracketed opened inner closed) =
      let same = placed-operators opened (tree inner) in
      let few = expression-operators inner in
      let long = length-append (expression_spots inner) (mark closed CloseRound ∷ []) in
      omega (arith, same, few, long)
  operand-operators (Signed at sign inner) = let few = operand-operators inner in omega (arith, few)

  expression-operators : (e : Expression) → source_operators (tree e) < length (expression_spots e)
  expression-operators (Single operand) = operand-operators operand
  expression-operators (Joined left at op right) =
      let a = expression-operators left in
      let b = expression-operators right in
      let long = length-append (expression_spots left) (mark at (op_mark op) ∷ expression_spots right) in
      omega (arith, a, b, long)

  call-operators : (call : Call) → source_operators (call_tree call) < length (call_spots call)
  call-operators (Applied at name opened args closed) =
      let few = argument-operators args in
      let long = length-append (argument_spots args) (mark closed CloseRound ∷ []) in
      omega (arith, few, long)

  argument-operators : (args : Arguments) → all_source_operators (argument_trees args) ≤ length (argument_spots args)
  argument-operators NoArguments = omega arith
  argument-operators (Listed first more) =
      let a = expression-operators first in
      let b = more-operators more in
      let long = length-append (expression_spots first) (more_spots more) in
      omega (arith, a, b, long)

  more-operators : (more : MoreArguments) → all_source_operators (more_trees more) ≤ length (more_spots more)
  more-operators NoMore = omega arith
  more-operators (Another comma next more) =
      let a = expression-operators next in
      let b = more-operators more in
      let long = length-append (expression_spots next) (more_spots more) in
      omega (arith, a, b, long)

-- ---- lines

fewer : (n k : ℕ) (e : SourceExpr) → source_operators e < k → k ≤ n → has_fewer n e ≡ true
fewer n k e less within = grind (arith, nat_tests)

tree-fewer : (n : ℕ) (e : Expression) → length (expression_spots e) ≤ n → has_fewer n (tree e) ≡ true
tree-fewer n e within = fewer n (length (expression_spots e)) (tree e) (expression-operators e) within

call-fewer : (n : ℕ) (call : Call) → length (call_spots call) ≤ n → has_fewer n (call_tree call) ≡ true
call-fewer n call within = fewer n (length (call_spots call)) (call_tree call) (call-operators call) within

both_hold : (a b : Bool) → a ≡ true → b ≡ true → a && b ≡ true
both_hold true b e f = f
both_hold false b e f = cc

lines_from-append : (n : ℕ) (some more : List SourceLine) → lines_have_fewer n (lines_from some) ≡ true → lines_have_fewer n (lines_from more) ≡ true
    → lines_have_fewer n (lines_from (some ++ more)) ≡ true
lines_from-append n [] more e f = f
lines_from-append n (first ∷ some) more e f =
    let parts = both (line_has_fewer n first) (lines_have_fewer n (lines_from some)) e in
    both_hold _ _ parts.0 (lines_from-append n some more parts.1 f)

one_line : (n : ℕ) (only : SourceLine) → line_has_fewer n only ≡ true → lines_have_fewer n (lines_from (only ∷ [])) ≡ true
one_line n only e = both_hold _ _ e refl

variable-fewer : (n : ℕ) (variable : Variable) → length (variable_spots variable) ≤ n → line_has_fewer n (variable_line variable) ≡ true
variable-fewer n (Bare at name) within = refl
variable-fewer n (Initialised at name assign value) within = tree-fewer n value (omega (arith, within))

variables-fewer : (n : ℕ) (variables : Variables) → length (variables_spots variables) ≤ n → lines_have_fewer n (lines_from (variables_lines variables)) ≡ true
variables-fewer n (Last variable) within = one_line n (variable_line variable) (variable-fewer n variable within)
variables-fewer n (Also variable comma rest) within =
    let long = length-append (variable_spots variable) (mark comma Comma ∷ variables_spots rest) in
    both_hold _ _ (variable-fewer n variable (omega (arith, within, long))) (variables-fewer n rest (omega (arith, within, long)))

local-fewer : (n : ℕ) (local : Local) → length (local_spots local) ≤ n → lines_have_fewer n (lines_from (local_lines local)) ≡ true
local-fewer n (Declared at variables semi) within =
    let long = length-append (variables_spots variables) (mark semi Semi ∷ []) in
    variables-fewer n variables (omega (arith, within, long))

simple-fewer : (n : ℕ) (simple : Simple) → length (simple_spots simple) ≤ n → line_has_fewer n (simple_line simple) ≡ true
simple-fewer n (Assigned at name assign value) within = tree-fewer n value (omega (arith, within))
simple-fewer n (Changed at name assign compound value) within =
    let few = expression-operators value in
    fewer n (2 + length (expression_spots value)) (source.Binary at (compound_op compound) (source.Var at name) (tree value)) (omega (arith, few)) (omega (arith, within))
simple-fewer n (CountedAfter at name sign count) within = fewer n 2 (source.Binary at (count_op count) (source.Var at name) (source.Lit at (pos 1))) (omega arith) (omega (arith, within))
simple-fewer n (CountedBefore sign count at name) within = fewer n 2 (source.Binary at (count_op count) (source.Var at name) (source.Lit at (pos 1))) (omega arith) (omega (arith, within))
simple-fewer n (Acted call) within = call-fewer n call within

if_simple-fewer : (n : ℕ) (simple : Option Simple) → length (if_simple simple) ≤ n → lines_have_fewer n (lines_from (if_simple_lines simple)) ≡ true
if_simple-fewer n None within = refl
if_simple-fewer n (Some simple) within = one_line n (simple_line simple) (simple-fewer n simple within)

init-fewer : (n : ℕ) (init : Init) → length (init_spots init) ≤ n → lines_have_fewer n (lines_from (init_lines init)) ≡ true
init-fewer n (InitLocal local) within = local-fewer n local within
init-fewer n (InitSimple simple semi) within =
    let long = length-append (if_simple simple) (mark semi Semi ∷ []) in
    if_simple-fewer n simple (omega (arith, within, long))

cond-fewer : (n : ℕ) (cond : Option Expression) (semi : ℕ) → length (if_expression cond) < n → has_fewer n (cond_or_one cond semi) ≡ true
cond-fewer n None semi within = fewer n 1 (source.Lit semi (pos 1)) (omega arith) (omega (arith, within))
cond-fewer n (Some cond) semi within = tree-fewer n cond (omega (arith, within))

returned-fewer : (n : ℕ) (value : Option Expression) → length (if_expression value) ≤ n → if_fewer n (if_tree value) ≡ true
returned-fewer n None within = refl
returned-fewer n (Some value) within = tree-fewer n value within

bracketed-length : (opened : ℕ) (cond : Expression) (closed : ℕ) → length (bracketed_spots opened cond closed) ≡ length (expression_spots cond) + 2
bracketed-length opened cond closed = let long = length-append (expression_spots cond) (mark closed CloseRound ∷ []) in omega (arith, long)

mutual
  line-fewer : (n : ℕ) (l : Line) → length (line_spots l) ≤ n → lines_have_fewer n (lines_from (line_lines l)) ≡ true
  line-fewer n (Block opened lines closed) within =
      let long = length-append (lines_spots lines) (mark closed CloseBrace ∷ []) in
      both_hold _ _ (lines-fewer n lines (omega (arith, within, long))) refl
  line-fewer n (Empty semi) within = refl
  line-fewer n (Plain simple semi) within =
      let long = length-append (simple_spots simple) (mark semi Semi ∷ []) in
      both_hold _ _ (simple-fewer n simple (omega (arith, within, long))) refl
  line-fewer n (If at opened cond closed on_true) within =
      let test = bracketed-length opened cond closed in
      let long = length-append (bracketed_spots opened cond closed) (line_spots on_true) in
      both_hold _ _ (both_hold _ _ (tree-fewer n cond (omega (arith, within, test, long))) (both_hold _ _ (line-fewer n on_true (omega (arith, within, test, long))) refl)) refl
  line-fewer n (IfElse at opened cond closed on_true otherwise on_false) within =
      let test = bracketed-length opened cond closed in
      let front = length-append (bracketed_spots opened cond closed) (line_spots on_true) in
      let long = length-append (bracketed_spots opened cond closed ++ line_spots on_true) (keyword otherwise keywords.Else ∷ line_spots on_false) in
      both_hold _ _ (both_hold _ _ (tree-fewer n cond (omega (arith, within, test, front, long)))
      (both_hold _ _ (line-fewer n on_true (omega (arith, within, test, front, long))) (line-fewer n on_false (omega (arith, within, test, front, long))))) refl
  line-fewer n (While at opened cond closed body) within =
      let test = bracketed-length opened cond closed in
      let long = length-append (bracketed_spots opened cond closed) (line_spots body) in
      both_hold _ _ (both_hold _ _ (tree-fewer n cond (omega (arith, within, test, long))) (line-fewer n body (omega (arith, within, test, long)))) refl
  line-fewer n (DoWhile at body tested opened cond closed semi) within =
      let test = bracketed-length opened cond closed in
      let tail = length-append (bracketed_spots opened cond closed) (mark semi Semi ∷ []) in
      let long = length-append (line_spots body) (keyword tested keywords.While ∷ (bracketed_spots opened cond closed ++ mark semi Semi ∷ [])) in
      both_hold _ _ (both_hold _ _ (tree-fewer n cond (omega (arith, within, test, tail, long))) (line-fewer n body (omega (arith, within, test, tail, long)))) refl
  line-fewer n (For at opened init cond semi step closed body) within =
      let tail = length-append (if_simple step) (mark closed CloseRound ∷ line_spots body) in
      let front = length-append (init_spots init) (if_expression cond) in
      let long = length-append (init_spots init ++ if_expression cond) (mark semi Semi ∷ (if_simple step ++ mark closed CloseRound ∷ line_spots body)) in
      both_hold _ _ (both_hold _ _ (cond-fewer n cond semi (omega (arith, within, tail, front, long)))
      (both_hold _ _ (init-fewer n init (omega (arith, within, tail, front, long)))
      (both_hold _ _ (if_simple-fewer n step (omega (arith, within, tail, front, long))) (line-fewer n body (omega (arith, within, tail, front, long)))))) refl
  line-fewer n (Break at semi) within = refl
  line-fewer n (Continue at semi) within = refl
  line-fewer n (Return at value semi) within =
      let long = length-append (if_expression value) (mark semi Semi ∷ []) in
      both_hold _ _ (returned-fewer n value (omega (arith, within, long))) refl

  lines-fewer : (n : ℕ) (lines : Lines) → length (lines_spots lines) ≤ n → lines_have_fewer n (lines_from (lines_lines lines)) ≡ true
  lines-fewer n NoLines within = refl
  lines-fewer n (ThenLocal local rest) within =
      let long = length-append (local_spots local) (lines_spots rest) in
      lines_from-append n (local_lines local) (lines_lines rest) (local-fewer n local (omega (arith, within, long))) (lines-fewer n rest (omega (arith, within, long)))
  lines-fewer n (ThenLine l rest) within =
      let long = length-append (line_spots l) (lines_spots rest) in
      lines_from-append n (line_lines l) (lines_lines rest) (line-fewer n l (omega (arith, within, long))) (lines-fewer n rest (omega (arith, within, long)))

-- ---- texts

abbrev item_has_fewer : ℕ → SourceItem → Bool
item_has_fewer n (Global name at init) = true
item_has_fewer n (Proto name at returns params) = true
item_has_fewer n (Body name at returns params lines end) = lines_have_fewer n lines

abbrev sources_have_fewer : ℕ → List SourceItem → Bool
sources_have_fewer n [] = true
sources_have_fewer n (first ∷ rest) = item_has_fewer n first && sources_have_fewer n rest

items-sources : (n : ℕ) (items : List Item) → sources_have_fewer n (map source_item_of items) ≡ items_have_fewer n items
items-sources n [] = refl
items-sources n (item.Global name at init ∷ rest) = items-sources n rest
items-sources n (item.Proto name at returns params ∷ rest) = items-sources n rest
items-sources n (item.Body name at returns params lines end ∷ rest) = ap (λ few. lines_have_fewer n (line.source_lines_of lines) && few) (items-sources n rest)

sources-append : (n : ℕ) (some more : List SourceItem) → sources_have_fewer n some ≡ true → sources_have_fewer n more ≡ true → sources_have_fewer n (some ++ more) ≡ true
sources-append n [] more e f = f
sources-append n (first ∷ some) more e f =
    let parts = both (item_has_fewer n first) (sources_have_fewer n some) e in
    both_hold _ _ parts.0 (sources-append n some more parts.1 f)

shared-fewer : (n : ℕ) (shared : Shared) → item_has_fewer n (shared_item shared) ≡ true
shared-fewer n (Zero at name) = refl
shared-fewer n (Positive at name assign digits value) = refl
shared-fewer n (Negative at name assign minus digits value) = refl

globals-fewer : (n : ℕ) (list : SharedList) → sources_have_fewer n (shared_list_items list) ≡ true
globals-fewer n (LastShared shared) = both_hold _ _ (shared-fewer n shared) refl
globals-fewer n (AlsoShared shared comma rest) = both_hold _ _ (shared-fewer n shared) (globals-fewer n rest)

declaration-fewer : (n : ℕ) (declaration : Declaration) → length (declaration_spots declaration) ≤ n → sources_have_fewer n (declaration_items declaration) ≡ true
declaration-fewer n (Globals type shared semi) within = globals-fewer n shared
declaration-fewer n (Prototype outside returned at name opened params closed semi) within = refl
declaration-fewer n (Procedure returned at name opened params closed begins lines ends) within =
    let body = lines_spots lines ++ mark ends CloseBrace ∷ [] in
    let behind = parameters_spots params ++ mark closed CloseRound ∷ mark begins OpenBrace ∷ body in
    let a = length-append (lines_spots lines) (mark ends CloseBrace ∷ []) in
    let b = length-append (parameters_spots params) (mark closed CloseRound ∷ mark begins OpenBrace ∷ body) in
    let c = length-append (returned_spots returned) (word at name ∷ mark opened OpenRound ∷ behind) in
    both_hold _ _ (lines-fewer n lines (omega (arith, within, a, b, c))) refl

text-fewer : (n : ℕ) (text : List Declaration) → length (text_spots text) ≤ n → sources_have_fewer n (text_items text) ≡ true
text-fewer n [] within = refl
text-fewer n (declaration ∷ rest) within =
    let long = length-append (declaration_spots declaration) (text_spots rest) in
    sources-append n (declaration_items declaration) (text_items rest) (declaration-fewer n declaration (omega (arith, within, long))) (text-fewer n rest (omega (arith, within, long)))

-- each whole expression has fewer operators than any number that the tokens do not pass
pub reading-fewer : (n : ℕ) (tokens : List Token) (tree : Tree) → Reads tokens (source_items_of tree) → length tokens ≤ n → items_have_fewer n tree.items ≡ true
reading-fewer n tokens tree (text, reading) within =
    let long : length tokens ≡ length (text_spots text) + 1 =
    sym (length-map tokens spot_of) ∙ ap length reading.spells ∙ length-append (text_spots text) (end reading.at ∷ []) in
    sym (items-sources n tree.items) ∙ ap (sources_have_fewer n) reading.stands_for ∙ text-fewer n text (omega (arith, within, long))

pub readings_are_short : ReadingsAreShort
readings_are_short tokens tree reads = reading-fewer (length tokens) tokens tree reads (omega arith)
