-- What a derivation of a statement spells is read as its lines.
use Rattle.std.proofs.Common.{◌≡◌, ℕ, zero, suc, ◌-◌, ◌≤◌, Bool, true, false, List, [], ◌∷◌, ◌++◌, length, refl, sym, ap, ◌∙◌, arith, append-nil, append_assoc, length-append}
use Rattle.std.specs.Prelude.{Option, None, Some, Ok, not, ◌&&◌, Result}
use Rattle.items.specs.Gives.{◌>>=◌}
use Rattle.c_lexer.specs.declared.keyword.Keyword.TheVariants as keywords
use Rattle.c_lexer.specs.declared.mark.Mark.TheVariants as marks
use Rattle.syntax_tree.specs.SourceLine.{SourceLine}
use Rattle.c_parser.specs.Descent.{begins_with, whole, whole_call}
use Rattle.c_parser.specs.Expressions.{Expression, Call, Applied, expression_spots, binds, tree, levels, operators, call_binds, call_levels, call_operators, call_place, call_tree}
use Rattle.c_parser.specs.Lines as grammar
use Rattle.c_parser.specs.Lines.{Variable, Bare, Initialised, Variables, Last, Also, Local, Declared, Simple, Assigned, Changed, CountedAfter, CountedBefore, Acted, Init, InitLocal, InitSimple, Line, Block, Empty, Plain, If, IfElse, While, DoWhile, For, Break, Continue, Return, Lines, NoLines, ThenLocal, ThenLine}
use Rattle.c_parser.specs.Operators.{Compound, PlusEqual, MinusEqual, StarEqual, SlashEqual, PercentEqual, Count, Up, Down, count_mark}
use Rattle.c_parser.specs.Spots.{Spot, mark, keyword, word}
use Rattle.c_parser.specs.Statements.{begins_with_keyword, condition, entries, for_condition, for_step, init, keyword_at, line_read, local, otherwise, return_value, simple, simple_line, variable, variables}
use Rattle.c_parser.proofs.Complete.{EndsAt, call_name, call_reads, call_tail, expression_reads}
use Rattle.c_parser.proofs.FirstTokens.{both, expression-no_semi}
use Rattle.c_parser.proofs.Repeats.{left_out}
use Rattle.c_parser.proofs.LineLoops.{variables-done, variables-more, entries-done, entries-more, line-block, line-empty, line-other}

-- a step that comes to a value, and then the next
pub bind_ok : {A B E : Type 0} {y : Result B E} {r : Result A E} {x : A} (f : A → Result B E) → r ≡ Ok x → f x ≡ y → r >>= f ≡ y
bind_ok f e g = ap (λ came. came >>= f) e ∙ g

semi-ends : (at : ℕ) (later : List Spot) → EndsAt 6 (mark at marks.Semi ∷ later)
semi-ends at later = record { no_call = refl; no_op = λ r less. refl }

round-ends : (at : ℕ) (later : List Spot) → EndsAt 6 (mark at marks.CloseRound ∷ later)
round-ends at later = record { no_call = refl; no_op = λ r less. refl }

comma-ends : (at : ℕ) (later : List Spot) → EndsAt 6 (mark at marks.Comma ∷ later)
comma-ends at later = record { no_call = refl; no_op = λ r less. refl }

pub whole_reads : (e : Expression) (most lv : ℕ) (later : List Spot) → binds 6 e ≡ true → levels e ≤ lv → operators e ≤ most → EndsAt 6 later
    → whole most lv (expression_spots e ++ later) ≡ Ok (tree e, later)
whole_reads e most lv later made deep few ends =
    bind_ok _ (expression_reads e 6 lv (most - operators e) most later (expression_spots e ++ later) refl (omega arith) made deep ends) refl

condition_reads : (opened closed : ℕ) (cond : Expression) (most lv : ℕ) (later : List Spot) → binds 6 cond ≡ true → levels cond ≤ lv → operators cond ≤ most
    → condition most lv (grammar.bracketed_spots opened cond closed ++ later) ≡ Ok (tree cond, later)
condition_reads opened closed cond most lv later made deep few =
    ap (λ s. condition most lv (mark opened marks.OpenRound ∷ s)) (append_assoc (expression_spots cond) (mark closed marks.CloseRound ∷ []) later)
    ∙ bind_ok _ (whole_reads cond most lv (mark closed marks.CloseRound ∷ later) made deep few (round-ends closed later)) refl

pub whole_call_reads : (c : Call) (most lv : ℕ) (later : List Spot) → call_binds c ≡ true → call_levels c ≤ lv → call_operators c ≤ most
    → whole_call most lv (call_place c) (call_name c) (call_tail c ++ later) ≡ Ok (call_tree c, later)
whole_call_reads c most lv later made deep few =
    bind_ok _ (call_reads c lv (most - call_operators c) most later (call_tail c ++ later) refl (omega arith) made deep) refl

-- ---- assignments, counts and calls

abbrev pub SimpleReads : Simple → Type 0
SimpleReads s = (most lv : ℕ) (later : List Spot) → grammar.simple_binds s ≡ true → grammar.simple_levels s ≤ lv → grammar.simple_operators s ≤ most → EndsAt 6 later
    → simple most lv (grammar.simple_spots s ++ later) ≡ Ok (grammar.simple_line s, later)

changed_reads : (at : ℕ) (name : List ℕ) (assign : ℕ) (compound : Compound) (value : Expression) → SimpleReads (Changed at name assign compound value)
changed_reads at name assign PlusEqual value most lv later made deep few ends = bind_ok _ (whole_reads value most lv later made deep few ends) refl
changed_reads at name assign MinusEqual value most lv later made deep few ends = bind_ok _ (whole_reads value most lv later made deep few ends) refl
changed_reads at name assign StarEqual value most lv later made deep few ends = bind_ok _ (whole_reads value most lv later made deep few ends) refl
changed_reads at name assign SlashEqual value most lv later made deep few ends = bind_ok _ (whole_reads value most lv later made deep few ends) refl
changed_reads at name assign PercentEqual value most lv later made deep few ends = bind_ok _ (whole_reads value most lv later made deep few ends) refl

acted_reads : (call : Call) → SimpleReads (Acted call)
acted_reads (Applied at name opened args closed) most lv later made deep few ends =
    bind_ok _ (whole_call_reads (Applied at name opened args closed) most lv later made deep few) refl

pub simple_reads : (s : Simple) → SimpleReads s
simple_reads (Assigned at name assign value) most lv later made deep few ends = bind_ok _ (whole_reads value most lv later made deep few ends) refl
simple_reads (Changed at name assign compound value) most lv later made deep few ends = changed_reads at name assign compound value most lv later made deep few ends
simple_reads (CountedAfter at name sign Up) most lv later made deep few ends = refl
simple_reads (CountedAfter at name sign Down) most lv later made deep few ends = refl
simple_reads (CountedBefore sign Up at name) most lv later made deep few ends = refl
simple_reads (CountedBefore sign Down at name) most lv later made deep few ends = refl
simple_reads (Acted call) most lv later made deep few ends = acted_reads call most lv later made deep few ends

-- the first token of an assignment, a count or a call
pub record BeginsSimple (spots : List Spot) : Type 0 where
  pub no_brace : begins_with marks.OpenBrace spots ≡ false
  pub no_closing_brace : begins_with marks.CloseBrace spots ≡ false
  pub no_semi : begins_with marks.Semi spots ≡ false
  pub no_round : begins_with marks.CloseRound spots ≡ false
  pub no_keyword : keyword_at spots ≡ None
  pub no_int : begins_with_keyword keywords.Int spots ≡ false
  pub no_else : begins_with_keyword keywords.Else spots ≡ false

by_word : (at : ℕ) (name : List ℕ) (later : List Spot) → BeginsSimple (word at name ∷ later)
by_word at name later = record { no_brace = refl; no_closing_brace = refl; no_semi = refl; no_round = refl; no_keyword = refl; no_int = refl; no_else = refl }

by_count : (at : ℕ) (count : Count) (later : List Spot) → BeginsSimple (mark at (count_mark count) ∷ later)
by_count at Up later = record { no_brace = refl; no_closing_brace = refl; no_semi = refl; no_round = refl; no_keyword = refl; no_int = refl; no_else = refl }
by_count at Down later = record { no_brace = refl; no_closing_brace = refl; no_semi = refl; no_round = refl; no_keyword = refl; no_int = refl; no_else = refl }

pub simple-begins : (s : Simple) (later : List Spot) → BeginsSimple (grammar.simple_spots s ++ later)
simple-begins (Assigned at name assign value) later = by_word at name _
simple-begins (Changed at name assign compound value) later = by_word at name _
simple-begins (CountedAfter at name sign count) later = by_word at name _
simple-begins (CountedBefore sign count at name) later = by_count sign count _
simple-begins (Acted (Applied at name opened args closed)) later = by_word at name _

simple_line_reads : (s : Simple) (semi : ℕ) (most lv : ℕ) (later : List Spot) → grammar.simple_binds s ≡ true → grammar.simple_levels s ≤ lv → grammar.simple_operators s ≤ most
    → simple_line most lv (grammar.simple_spots s ++ mark semi marks.Semi ∷ later) ≡ Ok (grammar.simple_line s ∷ [], later)
simple_line_reads s semi most lv later made deep few = bind_ok _ (simple_reads s most lv (mark semi marks.Semi ∷ later) made deep few (semi-ends semi later)) refl

-- ---- locals

pub record EndsVariable (later : List Spot) : Type 0 where
  pub ends : EndsAt 6 later
  pub no_assign : begins_with marks.Assign later ≡ false

variable_reads : (v : Variable) (most lv : ℕ) (later : List Spot) → grammar.variable_binds v ≡ true → grammar.variable_levels v ≤ lv → grammar.variable_operators v ≤ most
    → EndsVariable later → variable most lv (grammar.variable_spots v ++ later) ≡ Ok (grammar.variable_line v, later)
variable_reads (Bare at name) most lv later made deep few ends = left_out (begins_with marks.Assign later) _ _ ends.no_assign
variable_reads (Initialised at name assign value) most lv later made deep few ends = bind_ok _ (whole_reads value most lv later made deep few ends.ends) refl

semi-ends_variable : (at : ℕ) (later : List Spot) → EndsVariable (mark at marks.Semi ∷ later)
semi-ends_variable at later = record { ends = semi-ends at later; no_assign = refl }

comma-ends_variable : (at : ℕ) (later : List Spot) → EndsVariable (mark at marks.Comma ∷ later)
comma-ends_variable at later = record { ends = comma-ends at later; no_assign = refl }

variables_read : (vs : Variables) (most lv comma semi : ℕ) (later : List Spot) (front : List SourceLine) → grammar.variables_bind vs ≡ true → grammar.variables_levels vs ≤ lv
    → grammar.variables_operators vs ≤ most
    → variables most lv (front, mark comma marks.Comma ∷ (grammar.variables_spots vs ++ mark semi marks.Semi ∷ later)) ≡ Ok (front ++ grammar.variables_lines vs, mark semi marks.Semi ∷ later)
variables_read (Last v) most lv comma semi later front made deep few =
    variables-more most lv (front, mark comma marks.Comma ∷ (grammar.variable_spots v ++ mark semi marks.Semi ∷ later)) (grammar.variable_line v, mark semi marks.Semi ∷ later) refl
    (variable_reads v most lv (mark semi marks.Semi ∷ later) made deep few (semi-ends_variable semi later)) (simp length-append (omega arith))
    ∙ variables-done most lv (front ++ grammar.variable_line v ∷ [], mark semi marks.Semi ∷ later) refl
variables_read (Also v next rest) most lv comma semi later front made deep few =
    let parts = both (grammar.variable_binds v) (grammar.variables_bind rest) made in
    let behind : List Spot = mark next marks.Comma ∷ (grammar.variables_spots rest ++ mark semi marks.Semi ∷ later) in
    ap (λ s. variables most lv (front, mark comma marks.Comma ∷ s)) (append_assoc (grammar.variable_spots v) (mark next marks.Comma ∷ grammar.variables_spots rest) (mark semi marks.Semi ∷ later))
    ∙ variables-more most lv (front, mark comma marks.Comma ∷ (grammar.variable_spots v ++ behind)) (grammar.variable_line v, behind) refl
    (variable_reads v most lv behind parts.0 (omega arith) (omega arith) (comma-ends_variable next _)) (simp length-append (omega arith))
    ∙ variables_read rest most lv next semi later (front ++ grammar.variable_line v ∷ []) parts.1 (omega arith) (omega arith)
    ∙ ap (λ list. Ok (list, mark semi marks.Semi ∷ later)) (append_assoc front (grammar.variable_line v ∷ []) (grammar.variables_lines rest))

-- behind `int`
abbrev pub local_tail : Local → List Spot
local_tail (Declared at vs semi) = grammar.variables_spots vs ++ mark semi marks.Semi ∷ []

pub local_reads : (l : Local) (most lv : ℕ) (later : List Spot) → grammar.local_binds l ≡ true → grammar.local_levels l ≤ lv → grammar.local_operators l ≤ most
    → local most lv (local_tail l ++ later) ≡ Ok (grammar.local_lines l, later)
local_reads (Declared at (Last v) semi) most lv later made deep few =
    ap (local most lv) (append_assoc (grammar.variable_spots v) (mark semi marks.Semi ∷ []) later)
    ∙ bind_ok _ (variable_reads v most lv (mark semi marks.Semi ∷ later) made deep few (semi-ends_variable semi later))
    (bind_ok _ (variables-done most lv (grammar.variable_line v ∷ [], mark semi marks.Semi ∷ later) refl) refl)
local_reads (Declared at (Also v comma rest) semi) most lv later made deep few =
    let parts = both (grammar.variable_binds v) (grammar.variables_bind rest) made in
    let cut : (grammar.variables_spots (Also v comma rest) ++ mark semi marks.Semi ∷ []) ++ later
    ≡ grammar.variable_spots v ++ mark comma marks.Comma ∷ (grammar.variables_spots rest ++ mark semi marks.Semi ∷ later) =
    append_assoc (grammar.variables_spots (Also v comma rest)) (mark semi marks.Semi ∷ []) later
    ∙ append_assoc (grammar.variable_spots v) (mark comma marks.Comma ∷ grammar.variables_spots rest) (mark semi marks.Semi ∷ later) in
    ap (local most lv) cut
    ∙ bind_ok _ (variable_reads v most lv _ parts.0 (omega arith) (omega arith) (comma-ends_variable comma _))
    (bind_ok _ (variables_read rest most lv comma semi later (grammar.variable_line v ∷ []) parts.1 (omega arith) (omega arith)) refl)

-- ---- parts of `for` and `return`

init_reads : (i : Init) (most lv : ℕ) (later : List Spot) → grammar.init_binds i ≡ true → grammar.init_levels i ≤ lv → grammar.init_operators i ≤ most
    → init most lv (grammar.init_spots i ++ later) ≡ Ok (grammar.init_lines i, later)
init_reads (InitLocal (Declared at vs semi)) most lv later made deep few = local_reads (Declared at vs semi) most lv later made deep few
init_reads (InitSimple None semi) most lv later made deep few = refl
init_reads (InitSimple (Some s) semi) most lv later made deep few =
    let first = simple-begins s (mark semi marks.Semi ∷ later) in
    ap (init most lv) (append_assoc (grammar.simple_spots s) (mark semi marks.Semi ∷ []) later)
    ∙ left_out (begins_with_keyword keywords.Int (grammar.simple_spots s ++ mark semi marks.Semi ∷ later)) _ _ first.no_int
    ∙ left_out (begins_with marks.Semi (grammar.simple_spots s ++ mark semi marks.Semi ∷ later)) _ _ first.no_semi
    ∙ simple_line_reads s semi most lv later made deep few

cond_reads : (cond : Option Expression) (semi most lv : ℕ) (later : List Spot) → grammar.if_binds cond ≡ true → grammar.if_levels cond ≤ lv → grammar.if_operators cond ≤ most
    → for_condition most lv (grammar.if_expression cond ++ mark semi marks.Semi ∷ later) ≡ Ok (grammar.cond_or_one cond semi, mark semi marks.Semi ∷ later)
cond_reads None semi most lv later made deep few = refl
cond_reads (Some e) semi most lv later made deep few =
    left_out (begins_with marks.Semi (expression_spots e ++ mark semi marks.Semi ∷ later)) _ _ (expression-no_semi e _)
    ∙ whole_reads e most lv (mark semi marks.Semi ∷ later) made deep few (semi-ends semi later)

step_reads : (step : Option Simple) (closed most lv : ℕ) (later : List Spot) → grammar.if_simple_binds step ≡ true → grammar.if_simple_levels step ≤ lv
    → grammar.if_simple_operators step ≤ most
    → for_step most lv (grammar.if_simple step ++ mark closed marks.CloseRound ∷ later) ≡ Ok (grammar.if_simple_lines step, mark closed marks.CloseRound ∷ later)
step_reads None closed most lv later made deep few = refl
step_reads (Some s) closed most lv later made deep few =
    let first = simple-begins s (mark closed marks.CloseRound ∷ later) in
    left_out (begins_with marks.CloseRound (grammar.simple_spots s ++ mark closed marks.CloseRound ∷ later)) _ _ first.no_round
    ∙ bind_ok _ (simple_reads s most lv (mark closed marks.CloseRound ∷ later) made deep few (round-ends closed later)) refl

value_reads : (value : Option Expression) (semi most lv : ℕ) (later : List Spot) → grammar.if_binds value ≡ true → grammar.if_levels value ≤ lv → grammar.if_operators value ≤ most
    → return_value most lv (grammar.if_expression value ++ mark semi marks.Semi ∷ later) ≡ Ok (grammar.if_tree value, mark semi marks.Semi ∷ later)
value_reads None semi most lv later made deep few = refl
value_reads (Some e) semi most lv later made deep few =
    left_out (begins_with marks.Semi (expression_spots e ++ mark semi marks.Semi ∷ later)) _ _ (expression-no_semi e _)
    ∙ bind_ok _ (whole_reads e most lv (mark semi marks.Semi ∷ later) made deep few (semi-ends semi later)) refl

-- ---- the first token of a line

pub record BeginsLine (spots later : List Spot) : Type 0 where
  pub no_closing_brace : begins_with marks.CloseBrace (spots ++ later) ≡ false
  pub no_int : begins_with_keyword keywords.Int (spots ++ later) ≡ false
  pub no_else : begins_with_keyword keywords.Else (spots ++ later) ≡ false
  pub some : 1 ≤ length spots

simple-some : (s : Simple) → 1 ≤ length (grammar.simple_spots s)
simple-some (Assigned at name assign value) = omega arith
simple-some (Changed at name assign compound value) = omega arith
simple-some (CountedAfter at name sign count) = omega arith
simple-some (CountedBefore sign count at name) = omega arith
simple-some (Acted (Applied at name opened args closed)) = omega arith

pub line-begins : (l : Line) (later : List Spot) → BeginsLine (grammar.line_spots l) later
line-begins (Block opened lines closed) later = record { no_closing_brace = refl; no_int = refl; no_else = refl; some = omega arith }
line-begins (Empty semi) later = record { no_closing_brace = refl; no_int = refl; no_else = refl; some = omega arith }
line-begins (Plain s semi) later =
    let first = simple-begins s (mark semi marks.Semi ∷ later) in
    let same = append_assoc (grammar.simple_spots s) (mark semi marks.Semi ∷ []) later in
    record {
      no_closing_brace = ap (begins_with marks.CloseBrace) same ∙ first.no_closing_brace;
      no_int = ap (begins_with_keyword keywords.Int) same ∙ first.no_int;
      no_else = ap (begins_with_keyword keywords.Else) same ∙ first.no_else;
      some = simp length-append (omega (arith, simple-some s));
    }
line-begins (If at opened cond closed on_true) later = record { no_closing_brace = refl; no_int = refl; no_else = refl; some = omega arith }
line-begins (IfElse at opened cond closed on_true otherwise on_false) later = record { no_closing_brace = refl; no_int = refl; no_else = refl; some = omega arith }
line-begins (While at opened cond closed body) later = record { no_closing_brace = refl; no_int = refl; no_else = refl; some = omega arith }
line-begins (DoWhile at body tested opened cond closed semi) later = record { no_closing_brace = refl; no_int = refl; no_else = refl; some = omega arith }
line-begins (For at opened first cond semi step closed body) later = record { no_closing_brace = refl; no_int = refl; no_else = refl; some = omega arith }
line-begins (Break at semi) later = record { no_closing_brace = refl; no_int = refl; no_else = refl; some = omega arith }
line-begins (Continue at semi) later = record { no_closing_brace = refl; no_int = refl; no_else = refl; some = omega arith }
line-begins (Return at value semi) later = record { no_closing_brace = refl; no_int = refl; no_else = refl; some = omega arith }

lines-no_else : (ls : Lines) (closed : ℕ) (later : List Spot) → begins_with_keyword keywords.Else (grammar.lines_spots ls ++ mark closed marks.CloseBrace ∷ later) ≡ false
lines-no_else NoLines closed later = refl
lines-no_else (ThenLocal (Declared at vs semi) rest) closed later = refl
lines-no_else (ThenLine l rest) closed later =
    ap (begins_with_keyword keywords.Else) (append_assoc (grammar.line_spots l) (grammar.lines_spots rest) (mark closed marks.CloseBrace ∷ later))
    ∙ (line-begins l (grammar.lines_spots rest ++ mark closed marks.CloseBrace ∷ later)).no_else

-- ---- lines

abbrev pub LineReads : Line → Type 0
LineReads l = (most lv : ℕ) (later : List Spot) → grammar.line_is_made l ≡ true → grammar.line_levels l ≤ lv → grammar.line_operators l ≤ most
    → (grammar.ends_open l ≡ true → begins_with_keyword keywords.Else later ≡ false)
    → line_read most lv (grammar.line_spots l ++ later) ≡ Ok (grammar.line_lines l, later)

-- in front of a closing brace
abbrev pub EntriesRead : Lines → Type 0
EntriesRead ls = (most lv closed : ℕ) (later : List Spot) (front : List SourceLine) → grammar.lines_are_made ls ≡ true → grammar.lines_levels ls ≤ lv
    → grammar.lines_operators ls ≤ most
    → entries most (line_read most lv) lv (front, grammar.lines_spots ls ++ mark closed marks.CloseBrace ∷ later) ≡ Ok (front ++ grammar.lines_lines ls, mark closed marks.CloseBrace ∷ later)

block_reads : (opened : ℕ) (ls : Lines) (closed : ℕ) → EntriesRead ls → LineReads (Block opened ls closed)
block_reads opened ls closed reads most zero later made deep few free = absurd (omega arith)
block_reads opened ls closed reads most (suc level) later made deep few free =
    ap (λ s. line_read most (suc level) (mark opened marks.OpenBrace ∷ s)) (append_assoc (grammar.lines_spots ls) (mark closed marks.CloseBrace ∷ []) later)
    ∙ line-block most (suc level) (mark opened marks.OpenBrace ∷ (grammar.lines_spots ls ++ mark closed marks.CloseBrace ∷ later)) refl
    ∙ bind_ok _ (bind_ok _ (reads most level closed later [] made (omega arith) few) refl) refl

plain_reads : (s : Simple) (semi : ℕ) → LineReads (Plain s semi)
plain_reads s semi most lv later made deep few free =
    let first = simple-begins s (mark semi marks.Semi ∷ later) in
    ap (line_read most lv) (append_assoc (grammar.simple_spots s) (mark semi marks.Semi ∷ []) later)
    ∙ line-other most lv (grammar.simple_spots s ++ mark semi marks.Semi ∷ later) None first.no_brace first.no_semi first.no_keyword
    ∙ simple_line_reads s semi most lv later made deep few

if_reads : (at opened : ℕ) (cond : Expression) (closed : ℕ) (on_true : Line) → LineReads on_true → LineReads (If at opened cond closed on_true)
if_reads at opened cond closed on_true reads most zero later made deep few free = absurd (omega arith)
if_reads at opened cond closed on_true reads most (suc level) later made deep few free =
    let parts = both (binds 6 cond) (grammar.line_is_made on_true) made in
    let behind : List Spot = grammar.line_spots on_true ++ later in
    ap (λ s. line_read most (suc level) (keyword at keywords.If ∷ s)) (append_assoc (grammar.bracketed_spots opened cond closed) (grammar.line_spots on_true) later)
    ∙ line-other most (suc level) (keyword at keywords.If ∷ (grammar.bracketed_spots opened cond closed ++ behind)) (Some keywords.If) refl refl refl
    ∙ bind_ok _ (condition_reads opened closed cond most level behind parts.0 (omega arith) (omega arith))
    (bind_ok _ (reads most level later parts.1 (omega arith) (omega arith) (λ hangs. free refl))
    (bind_ok _ (left_out (begins_with_keyword keywords.Else later) _ _ (free refl)) refl))

not_true : (b : Bool) → not b ≡ true → b ≡ true → ⊥
not_true true e f = cc
not_true false e f = cc

if_else_reads : (at opened : ℕ) (cond : Expression) (closed : ℕ) (on_true : Line) (otherwise_at : ℕ) (on_false : Line) → LineReads on_true → LineReads on_false
    → LineReads (IfElse at opened cond closed on_true otherwise_at on_false)
if_else_reads at opened cond closed on_true otherwise_at on_false reads reads_other most zero later made deep few free = absurd (omega arith)
if_else_reads at opened cond closed on_true otherwise_at on_false reads reads_other most (suc level) later made deep few free =
    let closes = both (binds 6 cond && grammar.line_is_made on_true && grammar.line_is_made on_false) (not (grammar.ends_open on_true)) made in
    let last = both (binds 6 cond && grammar.line_is_made on_true) (grammar.line_is_made on_false) closes.0 in
    let first = both (binds 6 cond) (grammar.line_is_made on_true) last.0 in
    let after : List Spot = keyword otherwise_at keywords.Else ∷ (grammar.line_spots on_false ++ later) in
    let cut : (grammar.bracketed_spots opened cond closed ++ grammar.line_spots on_true ++ keyword otherwise_at keywords.Else ∷ grammar.line_spots on_false) ++ later
    ≡ grammar.bracketed_spots opened cond closed ++ (grammar.line_spots on_true ++ after) =
    append_assoc (grammar.bracketed_spots opened cond closed ++ grammar.line_spots on_true) (keyword otherwise_at keywords.Else ∷ grammar.line_spots on_false) later
    ∙ append_assoc (grammar.bracketed_spots opened cond closed) (grammar.line_spots on_true) after in
    ap (λ s. line_read most (suc level) (keyword at keywords.If ∷ s)) cut
    ∙ line-other most (suc level) (keyword at keywords.If ∷ (grammar.bracketed_spots opened cond closed ++ (grammar.line_spots on_true ++ after))) (Some keywords.If) refl refl refl
    ∙ bind_ok _ (condition_reads opened closed cond most level (grammar.line_spots on_true ++ after) first.0 (omega arith) (omega arith))
    (bind_ok _ (reads most level after first.1 (omega arith) (omega arith) (λ hangs. absurd (not_true (grammar.ends_open on_true) closes.1 hangs)))
    (bind_ok _ (reads_other most level later last.1 (omega arith) (omega arith) free) refl))

while_reads : (at opened : ℕ) (cond : Expression) (closed : ℕ) (body : Line) → LineReads body → LineReads (While at opened cond closed body)
while_reads at opened cond closed body reads most zero later made deep few free = absurd (omega arith)
while_reads at opened cond closed body reads most (suc level) later made deep few free =
    let parts = both (binds 6 cond) (grammar.line_is_made body) made in
    ap (λ s. line_read most (suc level) (keyword at keywords.While ∷ s)) (append_assoc (grammar.bracketed_spots opened cond closed) (grammar.line_spots body) later)
    ∙ line-other most (suc level) (keyword at keywords.While ∷ (grammar.bracketed_spots opened cond closed ++ (grammar.line_spots body ++ later))) (Some keywords.While) refl refl refl
    ∙ bind_ok _ (condition_reads opened closed cond most level (grammar.line_spots body ++ later) parts.0 (omega arith) (omega arith))
    (bind_ok _ (reads most level later parts.1 (omega arith) (omega arith) free) refl)

do_reads : (at : ℕ) (body : Line) (tested opened : ℕ) (cond : Expression) (closed semi : ℕ) → LineReads body → LineReads (DoWhile at body tested opened cond closed semi)
do_reads at body tested opened cond closed semi reads most zero later made deep few free = absurd (omega arith)
do_reads at body tested opened cond closed semi reads most (suc level) later made deep few free =
    let parts = both (binds 6 cond) (grammar.line_is_made body) made in
    let after : List Spot = mark semi marks.Semi ∷ later in
    let test : List Spot = keyword tested keywords.While ∷ (grammar.bracketed_spots opened cond closed ++ after) in
    let cut : (grammar.line_spots body ++ keyword tested keywords.While ∷ (grammar.bracketed_spots opened cond closed ++ mark semi marks.Semi ∷ [])) ++ later ≡ grammar.line_spots body ++ test =
    append_assoc (grammar.line_spots body) (keyword tested keywords.While ∷ (grammar.bracketed_spots opened cond closed ++ mark semi marks.Semi ∷ [])) later
    ∙ ap (λ s. grammar.line_spots body ++ keyword tested keywords.While ∷ s) (append_assoc (grammar.bracketed_spots opened cond closed) (mark semi marks.Semi ∷ []) later) in
    ap (λ s. line_read most (suc level) (keyword at keywords.Do ∷ s)) cut
    ∙ line-other most (suc level) (keyword at keywords.Do ∷ (grammar.line_spots body ++ test)) (Some keywords.Do) refl refl refl
    ∙ bind_ok _ (reads most level test parts.1 (omega arith) (omega arith) (λ hangs. refl))
    (bind_ok _ (condition_reads opened closed cond most level after parts.0 (omega arith) (omega arith)) refl)

for_reads : (at opened : ℕ) (first : Init) (cond : Option Expression) (semi : ℕ) (step : Option Simple) (closed : ℕ) (body : Line) → LineReads body
    → LineReads (For at opened first cond semi step closed body)
for_reads at opened first cond semi step closed body reads most zero later made deep few free = absurd (omega arith)
for_reads at opened first cond semi step closed body reads most (suc level) later made deep few free =
    let one = both (grammar.init_binds first && grammar.if_binds cond && grammar.if_simple_binds step) (grammar.line_is_made body) made in
    let two = both (grammar.init_binds first && grammar.if_binds cond) (grammar.if_simple_binds step) one.0 in
    let three = both (grammar.init_binds first) (grammar.if_binds cond) two.0 in
    let then_body : List Spot = grammar.line_spots body ++ later in
    let then_step : List Spot = grammar.if_simple step ++ mark closed marks.CloseRound ∷ then_body in
    let then_cond : List Spot = grammar.if_expression cond ++ mark semi marks.Semi ∷ then_step in
    let cut : (grammar.init_spots first ++ grammar.if_expression cond ++ mark semi marks.Semi ∷ (grammar.if_simple step ++ mark closed marks.CloseRound ∷ grammar.line_spots body)) ++ later
    ≡ grammar.init_spots first ++ then_cond =
    append_assoc (grammar.init_spots first ++ grammar.if_expression cond) (mark semi marks.Semi ∷ (grammar.if_simple step ++ mark closed marks.CloseRound ∷ grammar.line_spots body)) later
    ∙ ap (λ s. (grammar.init_spots first ++ grammar.if_expression cond) ++ mark semi marks.Semi ∷ s) (append_assoc (grammar.if_simple step) (mark closed marks.CloseRound ∷ grammar.line_spots body) later)
    ∙ append_assoc (grammar.init_spots first) (grammar.if_expression cond) (mark semi marks.Semi ∷ then_step) in
    ap (λ s. line_read most (suc level) (keyword at keywords.For ∷ mark opened marks.OpenRound ∷ s)) cut
    ∙ line-other most (suc level) (keyword at keywords.For ∷ mark opened marks.OpenRound ∷ (grammar.init_spots first ++ then_cond)) (Some keywords.For) refl refl refl
    ∙ bind_ok _ (init_reads first most level then_cond three.0 (omega arith) (omega arith))
    (bind_ok _ (cond_reads cond semi most level then_step three.1 (omega arith) (omega arith))
    (bind_ok _ (step_reads step closed most level then_body two.1 (omega arith) (omega arith))
    (bind_ok _ (reads most level later one.1 (omega arith) (omega arith) free) refl)))

return_reads : (at : ℕ) (value : Option Expression) (semi : ℕ) → LineReads (Return at value semi)
return_reads at value semi most lv later made deep few free =
    ap (λ s. line_read most lv (keyword at keywords.Return ∷ s)) (append_assoc (grammar.if_expression value) (mark semi marks.Semi ∷ []) later)
    ∙ line-other most lv (keyword at keywords.Return ∷ (grammar.if_expression value ++ mark semi marks.Semi ∷ later)) (Some keywords.Return) refl refl refl
    ∙ bind_ok _ (value_reads value semi most lv later made deep few) refl

no_entries_read : EntriesRead NoLines
no_entries_read most lv closed later front made deep few =
    entries-done most (line_read most lv) lv (front, mark closed marks.CloseBrace ∷ later) refl
    ∙ ap (λ list. Ok (list, mark closed marks.CloseBrace ∷ later)) (sym (append-nil front))

local_entry_reads : (l : Local) (rest : Lines) → EntriesRead rest → EntriesRead (ThenLocal l rest)
local_entry_reads (Declared at vs semi) rest reads most lv closed later front made deep few =
    let parts = both (grammar.local_binds (Declared at vs semi)) (grammar.lines_are_made rest) made in
    let behind : List Spot = grammar.lines_spots rest ++ mark closed marks.CloseBrace ∷ later in
    ap (λ s. entries most (line_read most lv) lv (front, s)) (append_assoc (grammar.local_spots (Declared at vs semi)) (grammar.lines_spots rest) (mark closed marks.CloseBrace ∷ later))
    ∙ entries-more most (line_read most lv) lv (front, grammar.local_spots (Declared at vs semi) ++ behind) (grammar.local_lines (Declared at vs semi), behind) refl
    (local_reads (Declared at vs semi) most lv behind parts.0 (omega arith) (omega arith)) (simp length-append (omega arith))
    ∙ reads most lv closed later (front ++ grammar.local_lines (Declared at vs semi)) parts.1 (omega arith) (omega arith)
    ∙ ap (λ list. Ok (list, mark closed marks.CloseBrace ∷ later)) (append_assoc front (grammar.local_lines (Declared at vs semi)) (grammar.lines_lines rest))

line_entry_reads : (l : Line) (rest : Lines) → LineReads l → EntriesRead rest → EntriesRead (ThenLine l rest)
line_entry_reads l rest reads_line reads most lv closed later front made deep few =
    let parts = both (grammar.line_is_made l) (grammar.lines_are_made rest) made in
    let behind : List Spot = grammar.lines_spots rest ++ mark closed marks.CloseBrace ∷ later in
    let first = line-begins l behind in
    ap (λ s. entries most (line_read most lv) lv (front, s)) (append_assoc (grammar.line_spots l) (grammar.lines_spots rest) (mark closed marks.CloseBrace ∷ later))
    ∙ entries-more most (line_read most lv) lv (front, grammar.line_spots l ++ behind) (grammar.line_lines l, behind) first.no_closing_brace
    (left_out (begins_with_keyword keywords.Int (grammar.line_spots l ++ behind)) _ _ first.no_int
    ∙ reads_line most lv behind parts.0 (omega arith) (omega arith) (λ hangs. lines-no_else rest closed later))
    (simp length-append (omega (arith, first.some)))
    ∙ reads most lv closed later (front ++ grammar.line_lines l) parts.1 (omega arith) (omega arith)
    ∙ ap (λ list. Ok (list, mark closed marks.CloseBrace ∷ later)) (append_assoc front (grammar.line_lines l) (grammar.lines_lines rest))

mutual
  pub line_reads : (l : Line) → LineReads l
  line_reads (Block opened lines closed) = block_reads opened lines closed (entries_read lines)
  line_reads (Empty semi) = λ most lv later made deep few free. line-empty most lv (mark semi marks.Semi ∷ later) refl refl
  line_reads (Plain s semi) = plain_reads s semi
  line_reads (If at opened cond closed on_true) = if_reads at opened cond closed on_true (line_reads on_true)
  line_reads (IfElse at opened cond closed on_true otherwise_at on_false) =
      if_else_reads at opened cond closed on_true otherwise_at on_false (line_reads on_true) (line_reads on_false)
  line_reads (While at opened cond closed body) = while_reads at opened cond closed body (line_reads body)
  line_reads (DoWhile at body tested opened cond closed semi) = do_reads at body tested opened cond closed semi (line_reads body)
  line_reads (For at opened first cond semi step closed body) = for_reads at opened first cond semi step closed body (line_reads body)
  line_reads (Break at semi) = λ most lv later made deep few free.
      line-other most lv (keyword at keywords.Break ∷ mark semi marks.Semi ∷ later) (Some keywords.Break) refl refl refl
  line_reads (Continue at semi) = λ most lv later made deep few free.
      line-other most lv (keyword at keywords.Continue ∷ mark semi marks.Semi ∷ later) (Some keywords.Continue) refl refl refl
  line_reads (Return at value semi) = return_reads at value semi

  pub entries_read : (ls : Lines) → EntriesRead ls
  entries_read NoLines = no_entries_read
  entries_read (ThenLocal l rest) = local_entry_reads l rest (entries_read rest)
  entries_read (ThenLine l rest) = line_entry_reads l rest (line_reads l) (entries_read rest)
