-- The assertions of a text stand in the order of its tokens, so their places ascend.
use Rattle.std.proofs.Common.{◌≡◌, ℕ, ◌+◌, ◌≤◌, Bool, true, false, List, [], ◌∷◌, ◌++◌, length, map, Option, None, Some, refl, sym, ap, subst, ◌∙◌, ◌⊎◌, inl, inr, arith, append_assoc, append-nil}
use Rattle.std.specs.Prelude.{◌&&◌, nat_le}
use Rattle.std.proofs.lemmas.Bool.Decides.{nat_tests}
use Rattle.c_lexer.specs.declared.keyword.Keyword.TheVariants as keywords
use Rattle.c_lexer.specs.declared.mark.Mark.TheVariants.{OpenRound, CloseRound, OpenBrace, CloseBrace, Semi}
use Rattle.c_lexer.specs.declared.token.Token.{Token}
use Rattle.c_lexer.specs.Laws.{ascends_from}
use Rattle.c_lexer.proofs.Places.{tokens_ascend}
use Rattle.c_parser.specs.Declarations.{Declaration, Globals, Prototype, Procedure, Zero, Positive, Negative, SharedList, LastShared, AlsoShared, declaration_items, declaration_spots, parameters_spots, returned_spots, shared_list_items, text_items, text_spots}
use Rattle.c_parser.specs.Expressions.{Call, Applied, call_spots, call_tree}
use Rattle.c_parser.specs.Lines.{Bare, Initialised, Variables, Last, Also, Local, Declared, Simple, Assigned, Changed, CountedAfter, CountedBefore, Acted, Init, InitLocal, InitSimple, Line, Block, Empty, Plain, If, IfElse, While, DoWhile, For, Break, Continue, Return, Lines, NoLines, ThenLocal, ThenLine, bracketed_spots, if_expression, if_simple, if_simple_lines, init_lines, init_spots, line_lines, line_spots, lines_lines, lines_spots, local_lines, local_spots, simple_line, simple_spots, variables_lines}
use Rattle.c_parser.specs.SourceItem.{SourceItem, Global, Proto, Body, source_item_of}
use Rattle.c_parser.specs.Spots.{Spot, end, keyword, mark, spots_of, word}
use Rattle.syntax_tree.specs.declared.program.Program.{Program}
use Rattle.syntax_tree.specs.declared.tree.Item.{Item}
use Rattle.syntax_tree.specs.declared.tree.Item.TheVariants as item
use Rattle.syntax_tree.specs.SourceLine as line
use Rattle.syntax_tree.specs.SourceLine.{SourceLine, lines_from}
use Rattle.typing.specs.Calls.{if_assertion, listed_if}
use Rattle.typing.specs.Elaborated.{checks_in}
use Rattle.typing.specs.Lines.{all_checks_of, checks_of}
use Rattle.typing.specs.Specials.{special_of}
use Rattle.typing.proofs.Outcomes.{answered}
use Rattle.summary_cache.specs.Laws.{AssertionsAscend}

-- these places are those of some of the tokens, in their order
Stand : List ℕ → List Spot → Type 0
Stand [] spots = Unit {0}
Stand (place ∷ places) [] = ⊥
Stand (place ∷ places) (spot ∷ spots) = ((place ≡ spot.at) × Stand places spots) ⊎ Stand (place ∷ places) spots

stand-behind : (places : List ℕ) (front spots : List Spot) → Stand places spots → Stand places (front ++ spots)
unfolding Stand
stand-behind [] front spots stand = tt
stand-behind (place ∷ places) [] spots stand = stand
stand-behind (place ∷ places) (spot ∷ front) spots stand = inr (stand-behind (place ∷ places) front spots stand)

stand-both : (some more : List ℕ) (front spots : List Spot) → Stand some front → Stand more spots → Stand (some ++ more) (front ++ spots)
unfolding Stand
stand-both [] more front spots first second = stand-behind more front spots second
stand-both (place ∷ some) more [] spots first second = absurd first
stand-both (place ∷ some) more (spot ∷ front) spots (inl here) second = inl (here.0, stand-both some more front spots here.1 second)
stand-both (place ∷ some) more (spot ∷ front) spots (inr later) second = inr (stand-both (place ∷ some) more front spots later second)

stand-front : (places : List ℕ) (spots later : List Spot) → Stand places spots → Stand places (spots ++ later)
unfolding Stand
stand-front places spots later stand = subst (λ all. Stand all (spots ++ later)) (append-nil places) (stand-both places [] spots later stand tt)

stand-next : (places : List ℕ) (spot : Spot) (spots : List Spot) → Stand places spots → Stand places (spot ∷ spots)
stand-next places spot spots stand = stand-behind places (spot ∷ []) spots stand

stand-nil : (places : List ℕ) (spots : List Spot) → Stand places spots → Stand (places ++ []) spots
stand-nil places spots stand = subst (λ all. Stand all spots) (sym (append-nil places)) stand

stand-none : (spots : List Spot) → Stand [] spots
unfolding Stand
stand-none spots = tt

-- ---- lines

all_checks-append : (some more : List SourceLine) → all_checks_of (lines_from (some ++ more)) ≡ all_checks_of (lines_from some) ++ all_checks_of (lines_from more)
all_checks-append [] more = refl
all_checks-append (first ∷ some) more =
    ap (λ later. checks_of first ++ later) (all_checks-append some more) ∙ sym (append_assoc (checks_of first) (all_checks_of (lines_from some)) (all_checks_of (lines_from more)))

lines-append : (some more : List SourceLine) (front spots : List Spot) → Stand (all_checks_of (lines_from some)) front → Stand (all_checks_of (lines_from more)) spots
    → Stand (all_checks_of (lines_from (some ++ more))) (front ++ spots)
lines-append some more front spots first second =
    subst (λ all. Stand all (front ++ spots)) (sym (all_checks-append some more))
    (stand-both (all_checks_of (lines_from some)) (all_checks_of (lines_from more)) front spots first second)

call-stands : (call : Call) → Stand (checks_of (line.Act (call_tree call))) (call_spots call)
unfolding Stand
call-stands (Applied at name opened args closed) = by (if_assertion (special_of name))
  where
    by : (b : Bool) → Stand (listed_if b at) (call_spots (Applied at name opened args closed))
    by true = inl (refl, tt)
    by false = tt

variables-stand : (variables : Variables) → all_checks_of (lines_from (variables_lines variables)) ≡ []
variables-stand (Last (Bare at name)) = refl
variables-stand (Last (Initialised at name assign value)) = refl
variables-stand (Also (Bare at name) comma rest) = variables-stand rest
variables-stand (Also (Initialised at name assign value) comma rest) = variables-stand rest

local-stands : (local : Local) (spots : List Spot) → Stand (all_checks_of (lines_from (local_lines local))) spots
local-stands (Declared at variables semi) spots = subst (λ places. Stand places spots) (sym (variables-stand variables)) (stand-none spots)

simple-stands : (simple : Simple) → Stand (checks_of (simple_line simple)) (simple_spots simple)
simple-stands (Assigned at name assign value) = stand-none _
simple-stands (Changed at name assign compound value) = stand-none _
simple-stands (CountedAfter at name sign count) = stand-none _
simple-stands (CountedBefore sign count at name) = stand-none _
simple-stands (Acted call) = call-stands call

if_simple-stands : (simple : Option Simple) → Stand (all_checks_of (lines_from (if_simple_lines simple))) (if_simple simple)
if_simple-stands None = stand-none _
if_simple-stands (Some simple) = stand-nil _ _ (simple-stands simple)

init-stands : (init : Init) → Stand (all_checks_of (lines_from (init_lines init))) (init_spots init)
init-stands (InitLocal local) = local-stands local _
init-stands (InitSimple simple semi) = stand-front _ (if_simple simple) (mark semi Semi ∷ []) (if_simple-stands simple)

mutual
  line-stands : (l : Line) → Stand (all_checks_of (lines_from (line_lines l))) (line_spots l)
  line-stands (Block opened lines closed) =
      stand-nil (all_checks_of (lines_from (lines_lines lines))) _
      (stand-next _ (mark opened OpenBrace) _ (stand-front _ (lines_spots lines) (mark closed CloseBrace ∷ []) (lines-stand lines)))
  line-stands (Empty semi) = stand-none _
  line-stands (Plain simple semi) = stand-nil _ _ (stand-front _ (simple_spots simple) (mark semi Semi ∷ []) (simple-stands simple))
  line-stands (If at opened cond closed on_true) =
      stand-nil (all_checks_of (lines_from (line_lines on_true)) ++ []) _
      (stand-nil (all_checks_of (lines_from (line_lines on_true))) _
      (stand-next _ (keyword at keywords.If) _ (stand-behind _ (bracketed_spots opened cond closed) (line_spots on_true) (line-stands on_true))))
  line-stands (IfElse at opened cond closed on_true otherwise on_false) =
      stand-nil (all_checks_of (lines_from (line_lines on_true)) ++ all_checks_of (lines_from (line_lines on_false))) _
      (stand-next _ (keyword at keywords.If) _
      (stand-both _ _ (bracketed_spots opened cond closed ++ line_spots on_true) (keyword otherwise keywords.Else ∷ line_spots on_false)
      (stand-behind _ (bracketed_spots opened cond closed) (line_spots on_true) (line-stands on_true))
      (stand-next _ (keyword otherwise keywords.Else) _ (line-stands on_false))))
  line-stands (While at opened cond closed body) =
      stand-nil (all_checks_of (lines_from (line_lines body))) _
      (stand-next _ (keyword at keywords.While) _ (stand-behind _ (bracketed_spots opened cond closed) (line_spots body) (line-stands body)))
  line-stands (DoWhile at body tested opened cond closed semi) =
      stand-nil (all_checks_of (lines_from (line_lines body)) ++ []) _
      (stand-nil (all_checks_of (lines_from (line_lines body))) _
      (stand-next _ (keyword at keywords.Do) _ (stand-front _ (line_spots body) _ (line-stands body))))
  line-stands (For at opened init cond semi step closed body) =
      let spots = init_spots init ++ if_expression cond ++ mark semi Semi ∷ (if_simple step ++ mark closed CloseRound ∷ line_spots body) in
      stand-nil ((all_checks_of (lines_from (init_lines init)) ++ all_checks_of (lines_from (if_simple_lines step))) ++ all_checks_of (lines_from (line_lines body))) _
      (stand-next _ (keyword at keywords.For) _ (stand-next _ (mark opened OpenRound) _
      (subst (λ places. Stand places spots) (sym (append_assoc (all_checks_of (lines_from (init_lines init))) (all_checks_of (lines_from (if_simple_lines step))) (all_checks_of (lines_from (line_lines body)))))
      (stand-both _ _ (init_spots init ++ if_expression cond) _
      (stand-front _ (init_spots init) (if_expression cond) (init-stands init))
      (stand-next _ (mark semi Semi) _
      (stand-both _ _ (if_simple step) (mark closed CloseRound ∷ line_spots body) (if_simple-stands step) (stand-next _ (mark closed CloseRound) _ (line-stands body))))))))
  line-stands (Break at semi) = stand-none _
  line-stands (Continue at semi) = stand-none _
  line-stands (Return at value semi) = stand-none _

  lines-stand : (lines : Lines) → Stand (all_checks_of (lines_from (lines_lines lines))) (lines_spots lines)
  lines-stand NoLines = stand-none _
  lines-stand (ThenLocal local rest) = lines-append (local_lines local) (lines_lines rest) (local_spots local) (lines_spots rest) (local-stands local _) (lines-stand rest)
  lines-stand (ThenLine l rest) = lines-append (line_lines l) (lines_lines rest) (line_spots l) (lines_spots rest) (line-stands l) (lines-stand rest)

-- ---- texts

abbrev item_checks : SourceItem → List ℕ
item_checks (Global name at init) = []
item_checks (Proto name at returns params) = []
item_checks (Body name at returns params lines end) = all_checks_of lines

abbrev source_checks : List SourceItem → List ℕ
source_checks [] = []
source_checks (first ∷ rest) = item_checks first ++ source_checks rest

checks-source : (items : List Item) → checks_in items ≡ source_checks (map source_item_of items)
checks-source [] = refl
checks-source (item.Global name at init ∷ rest) = checks-source rest
checks-source (item.Proto name at returns params ∷ rest) = checks-source rest
checks-source (item.Body name at returns params lines end ∷ rest) = ap (λ later. all_checks_of (line.source_lines_of lines) ++ later) (checks-source rest)

source_checks-append : (some more : List SourceItem) → source_checks (some ++ more) ≡ source_checks some ++ source_checks more
source_checks-append [] more = refl
source_checks-append (first ∷ some) more = ap (λ later. item_checks first ++ later) (source_checks-append some more) ∙ sym (append_assoc (item_checks first) (source_checks some) (source_checks more))

globals-stand : (list : SharedList) → source_checks (shared_list_items list) ≡ []
globals-stand (LastShared (Zero at name)) = refl
globals-stand (LastShared (Positive at name assign digits value)) = refl
globals-stand (LastShared (Negative at name assign minus digits value)) = refl
globals-stand (AlsoShared (Zero at name) comma rest) = globals-stand rest
globals-stand (AlsoShared (Positive at name assign digits value) comma rest) = globals-stand rest
globals-stand (AlsoShared (Negative at name assign minus digits value) comma rest) = globals-stand rest

declaration-stands : (declaration : Declaration) → Stand (source_checks (declaration_items declaration)) (declaration_spots declaration)
declaration-stands (Globals type shared semi) =
    let spots = declaration_spots (Globals type shared semi) in
    subst (λ places. Stand places spots) (sym (globals-stand shared)) (stand-none spots)
declaration-stands (Prototype outside returned at name opened params closed semi) = stand-none _
declaration-stands (Procedure returned at name opened params closed begins lines ends) =
    stand-nil (all_checks_of (lines_from (lines_lines lines))) _
    (stand-behind _ (returned_spots returned) _ (stand-next _ (word at name) _ (stand-next _ (mark opened OpenRound) _
    (stand-behind _ (parameters_spots params) _ (stand-next _ (mark closed CloseRound) _ (stand-next _ (mark begins OpenBrace) _
    (stand-front _ (lines_spots lines) (mark ends CloseBrace ∷ []) (lines-stand lines))))))))

text-stands : (text : List Declaration) → Stand (source_checks (text_items text)) (text_spots text)
text-stands [] = stand-none _
text-stands (declaration ∷ rest) =
    subst (λ places. Stand places (text_spots (declaration ∷ rest))) (sym (source_checks-append (declaration_items declaration) (text_items rest)))
    (stand-both (source_checks (declaration_items declaration)) (source_checks (text_items rest)) (declaration_spots declaration) (text_spots rest) (declaration-stands declaration) (text-stands rest))

-- ---- order

parts_of : (a b : Bool) → a && b ≡ true → (a ≡ true) × (b ≡ true)
parts_of true b e = (refl, e)
parts_of false b e = cc

both_hold : (a b : Bool) → a ≡ true → b ≡ true → a && b ≡ true
both_hold a b p q = rw (p, q) refl

lower-least : (low least place : ℕ) → low ≤ least → nat_le least place ≡ true → nat_le low place ≡ true
lower-least low least place h e = grind (arith, nat_tests)

less-least : (low place : ℕ) → nat_le low place ≡ true → low ≤ place + 1
less-least low place e = grind (arith, nat_tests)

ascends-lower : (low least : ℕ) (places : List ℕ) → low ≤ least → ascends_from least places ≡ true → ascends_from low places ≡ true
ascends-lower low least [] h e = refl
ascends-lower low least (place ∷ places) h e = let p = parts_of _ _ e in both_hold _ _ (lower-least low least place h p.0) p.1

places_of : List Spot → List ℕ
places_of spots = map (λ (spot : Spot). spot.at) spots

stands-ascend : (least : ℕ) (places : List ℕ) (spots : List Spot) → Stand places spots → ascends_from least (places_of spots) ≡ true → ascends_from least places ≡ true
unfolding Stand places_of
stands-ascend least [] spots stand e = refl
stands-ascend least (place ∷ places) [] stand e = absurd stand
stands-ascend least (place ∷ places) (spot ∷ spots) (inl here) e =
    let p = parts_of _ _ e in
    both_hold _ _ (subst (λ n. nat_le least n ≡ true) (sym here.0) p.0)
    (stands-ascend (place + 1) places spots here.1 (subst (λ n. ascends_from (n + 1) (map (λ (spot : Spot). spot.at) spots) ≡ true) (sym here.0) p.1))
stands-ascend least (place ∷ places) (spot ∷ spots) (inr later) e =
    let p = parts_of _ _ e in
    ascends-lower least (spot.at + 1) (place ∷ places) (less-least least spot.at p.0) (stands-ascend (spot.at + 1) (place ∷ places) spots later p.1)

places_of-tokens : (tokens : List Token) → map (λ (token : Token). token.at) tokens ≡ places_of (spots_of tokens)
unfolding places_of
places_of-tokens [] = refl
places_of-tokens (token ∷ tokens) = ap (λ later. token.at ∷ later) (places_of-tokens tokens)

pub assertions_ascend : AssertionsAscend
assertions_ascend text program a =
    let reads = a.spells.reads in
    let reading = reads.1 in
    let ordered = sym (ap (ascends_from 0) (places_of-tokens a.spells.tokens)) ∙ tokens_ascend text a.spells.tokens a.spells.tokenizes in
    let stand : Stand (source_checks (text_items reads.0)) (spots_of a.spells.tokens) =
    subst (Stand (source_checks (text_items reads.0))) (sym reading.spells) (stand-front _ (text_spots reads.0) (end reading.at ∷ []) (text-stands reads.0)) in
    let checks : program.checks ≡ source_checks (text_items reads.0) =
    ap (λ (p : Program). p.checks) (answered a.tree.items (length text) program a.elaborates).same
    ∙ checks-source a.tree.items ∙ ap source_checks reading.stands_for in
    subst (λ places. ascends_from 0 places ≡ true) (sym checks) (stands-ascend 0 (source_checks (text_items reads.0)) (spots_of a.spells.tokens) stand ordered)
