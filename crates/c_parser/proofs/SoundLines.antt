-- What is read as statements is spelled by a derivation that stands for them.
use Rattle.std.proofs.Common.{◌≡◌, ℕ, ◌≤◌, true, List, [], ◌∷◌, ◌++◌, refl, sym, ap, subst, ◌∙◌, arith, append_assoc}
use Rattle.std.specs.Prelude.{pos, Option, None, Some, Ok, Err, if◌then◌else◌, Result}
use denote.Enum.Bare.{same_true}
use Rattle.items.specs.Gives.{◌>>=◌}
use Rattle.c_lexer.specs.contracts.keyword.Keyword.{the_type}
use Rattle.c_lexer.specs.declared.keyword.Keyword.{Keyword}
use Rattle.c_lexer.specs.declared.keyword.Keyword.TheVariants as keywords
use Rattle.c_lexer.specs.declared.kind.TokenKind.{TokenKind}
use Rattle.c_lexer.specs.declared.kind.TokenKind.TheVariants as kind
use Rattle.c_lexer.specs.declared.mark.Mark.{Mark}
use Rattle.c_lexer.specs.declared.mark.Mark.TheVariants as marks
use Rattle.syntax_tree.specs.declared.op.Op.{Op}
use Rattle.syntax_tree.specs.declared.op.Op.TheVariants as op
use Rattle.syntax_tree.specs.SourceExpr as source
use Rattle.syntax_tree.specs.SourceExpr.{SourceExpr}
use Rattle.syntax_tree.specs.SourceLine as line
use Rattle.syntax_tree.specs.SourceLine.{SourceLine, SourceLines, lines_from}
use Rattle.c_parser.specs.declared.error.ParseError.{ParseError}
use Rattle.c_parser.specs.Descent.{begins_with, call, expression, past, place_at, refusal_of, tail, whole, whole_call}
use Rattle.c_parser.specs.Expressions.{Expression, Applied, expression_spots, binds, tree, levels, operators}
use Rattle.c_parser.specs.Lines as grammar
use Rattle.c_parser.specs.Lines.{Variable, Bare, Initialised, Variables, Last, Also, Local, Declared, Simple, Assigned, Changed, CountedAfter, CountedBefore, Acted, Init, InitLocal, InitSimple, Line, Block, Empty, Plain, If, IfElse, While, DoWhile, For, Break, Continue, Return, Lines, NoLines, ThenLocal, ThenLine}
use Rattle.c_parser.specs.Operators.{Compound, PlusEqual, MinusEqual, StarEqual, SlashEqual, PercentEqual, Count, Up, Down, compound_mark, compound_op, count_mark, count_op}
use Rattle.c_parser.specs.Spots.{Spot, mark, keyword, word}
use Rattle.c_parser.specs.Statements.{Word, call_statement, assignment_line, begins_with_keyword, behind_name, comma_stands, compound_at, compound_in, compound_of, compound_or, condition, count_at, count_in, count_of, increment, increment_before, counted_or, compound_assignment, for_condition, for_step, init, initialisation, is_keyword, keyword_at, keyword_in, lines_left, local, one_variable, past_keyword, return_value, simple, simple_by, simple_line, variable, variables, word_at, word_by}
use Rattle.c_parser.proofs.FirstTokens.{both}
use Rattle.c_parser.proofs.Derivations.{is_mark-kind, ok_one, past-mark}
use Rattle.c_parser.proofs.Repeats.{by_choice, repeat-keeps}
use Rattle.c_parser.proofs.Soundness.{call_found, expression_found, operands_found}

-- the steps to a value
pub steps : {A B E : Type 0} (r : Result A E) (f : A → Result B E) (y : B) → r >>= f ≡ Ok y → (x : A) × (r ≡ Ok x) × (f x ≡ Ok y)
steps (Ok x) f y e = (x, refl, e)
steps (Err fault) f y e = cc

pub record WholeFound (most lv : ℕ) (spots : List Spot) (read : SourceExpr × List Spot) : Type 0 where
  pub expression : Expression
  pub spells : spots ≡ expression_spots expression ++ read.1
  pub made : binds 6 expression ≡ true
  pub deep : levels expression ≤ lv
  pub few : operators expression ≤ most
  pub stands_for : read.0 ≡ tree expression

pub whole_found : (most lv : ℕ) (spots : List Spot) (read : SourceExpr × List Spot) → whole most lv spots ≡ Ok read → WholeFound most lv spots read
whole_found most lv spots read e =
    let s = steps (expression lv (record { spots = spots; operators = most })) _ read e in
    let has = expression_found lv 6 (record { spots = spots; operators = most }) s.0 s.1 in
    subst (WholeFound most lv spots) (ok_one _ _ s.2)
    (record { expression = has.expression; spells = has.spells; made = has.made; deep = has.deep; few = omega (arith, has.counts); stands_for = has.stands_for })

-- ---- single tokens

pub begins_at : (m : Mark) (spots : List Spot) → begins_with m spots ≡ true → spots ≡ mark (place_at spots) m ∷ tail spots
begins_at m [] e = cc
begins_at m (spot ∷ spots) e = let same = is_mark-kind m spot.kind e in λ i. record { at = spot.at; kind = same i } ∷ spots

is_keyword-kind : (k : Keyword) (found : TokenKind) → is_keyword k found ≡ true → found ≡ kind.Keyword k
is_keyword-kind k (kind.Keyword found) e = ap kind.Keyword (same_true the_type tt found k e)
is_keyword-kind k (kind.Word name) e = cc
is_keyword-kind k (kind.Mark m) e = cc
is_keyword-kind k (kind.Number value) e = cc
is_keyword-kind k kind.End e = cc

pub begins_at_keyword : (k : Keyword) (spots : List Spot) → begins_with_keyword k spots ≡ true → spots ≡ keyword (place_at spots) k ∷ tail spots
begins_at_keyword k [] e = cc
begins_at_keyword k (spot ∷ spots) e = let same = is_keyword-kind k spot.kind e in λ i. record { at = spot.at; kind = same i } ∷ spots

pub past_keyword-keyword : (k : Keyword) (spots after : List Spot) → past_keyword k spots ≡ Ok after → (at : ℕ) × (spots ≡ keyword at k ∷ after)
past_keyword-keyword k spots after e =
    by_choice (begins_with_keyword k spots) (Ok (tail spots)) (Err (refusal_of spots)) after e
    (λ found came. (place_at spots, begins_at_keyword k spots found ∙ ap (λ rest. keyword (place_at spots) k ∷ rest) (ok_one _ _ came)))
    (λ missing came. absurd (cc))

keyword_in-kind : (found : TokenKind) (k : Keyword) → keyword_in found ≡ Some k → found ≡ kind.Keyword k
keyword_in-kind (kind.Keyword found) k e = let same : found ≡ k = cc in ap kind.Keyword same
keyword_in-kind (kind.Word name) k e = cc
keyword_in-kind (kind.Mark m) k e = cc
keyword_in-kind (kind.Number value) k e = cc
keyword_in-kind kind.End k e = cc

pub keyword_at-keyword : (spots : List Spot) (k : Keyword) → keyword_at spots ≡ Some k → spots ≡ keyword (place_at spots) k ∷ tail spots
keyword_at-keyword [] k e = cc
keyword_at-keyword (spot ∷ spots) k e = let same = keyword_in-kind spot.kind k e in λ i. record { at = spot.at; kind = same i } ∷ spots

word_by-word : (k : TokenKind) (at : ℕ) (rest : List Spot) (refusal : ParseError) (w : Word) → word_by k at rest refusal ≡ Ok w
    → (let first : Spot = record { at = at; kind = k } in first ∷ rest) ≡ word w.at w.name ∷ w.rest
word_by-word (kind.Word name) at rest refusal w e = ap (λ (v : Word). word v.at v.name ∷ v.rest) (ok_one _ _ e)
word_by-word (kind.Keyword k) at rest refusal w e = cc
word_by-word (kind.Mark m) at rest refusal w e = cc
word_by-word (kind.Number value) at rest refusal w e = cc
word_by-word kind.End at rest refusal w e = cc

pub word_at-word : (spots : List Spot) (w : Word) → word_at spots ≡ Ok w → spots ≡ word w.at w.name ∷ w.rest
word_at-word [] w e = cc
word_at-word (spot ∷ spots) w e = word_by-word spot.kind spot.at spots (refusal_of (spot ∷ spots)) w e

compound_of-mark : (m : Mark) (found : Op) → compound_of m ≡ Some found → (c : Compound) × (m ≡ compound_mark c) × (found ≡ compound_op c)
compound_of-mark marks.PlusAssign found e = (PlusEqual, refl, (let same : op.Add ≡ found = cc in sym same))
compound_of-mark marks.MinusAssign found e = (MinusEqual, refl, (let same : op.Sub ≡ found = cc in sym same))
compound_of-mark marks.StarAssign found e = (StarEqual, refl, (let same : op.Mul ≡ found = cc in sym same))
compound_of-mark marks.SlashAssign found e = (SlashEqual, refl, (let same : op.Div ≡ found = cc in sym same))
compound_of-mark marks.PercentAssign found e = (PercentEqual, refl, (let same : op.Rem ≡ found = cc in sym same))
compound_of-mark _ found e = absurd (cc)

compound_in-kind : (k : TokenKind) (found : Op) → compound_in k ≡ Some found → (c : Compound) × (k ≡ kind.Mark (compound_mark c)) × (found ≡ compound_op c)
compound_in-kind (kind.Mark m) found e = let has = compound_of-mark m found e in (has.0, ap kind.Mark has.1, has.2)
compound_in-kind (kind.Word name) found e = absurd (cc)
compound_in-kind (kind.Keyword k) found e = absurd (cc)
compound_in-kind (kind.Number value) found e = absurd (cc)
compound_in-kind kind.End found e = absurd (cc)

compound_at-mark : (spots : List Spot) (found : Op) → compound_at spots ≡ Some found
    → (c : Compound) × (spots ≡ mark (place_at spots) (compound_mark c) ∷ tail spots) × (found ≡ compound_op c)
compound_at-mark [] found e = absurd (cc)
compound_at-mark (spot ∷ spots) found e =
    let has = compound_in-kind spot.kind found e in
    (has.0, (λ i. record { at = spot.at; kind = has.1 i } ∷ spots), has.2)

count_of-mark : (m : Mark) (found : Op) → count_of m ≡ Some found → (c : Count) × (m ≡ count_mark c) × (found ≡ count_op c)
count_of-mark marks.PlusPlus found e = (Up, refl, (let same : op.Add ≡ found = cc in sym same))
count_of-mark marks.MinusMinus found e = (Down, refl, (let same : op.Sub ≡ found = cc in sym same))
count_of-mark _ found e = absurd (cc)

count_in-kind : (k : TokenKind) (found : Op) → count_in k ≡ Some found → (c : Count) × (k ≡ kind.Mark (count_mark c)) × (found ≡ count_op c)
count_in-kind (kind.Mark m) found e = let has = count_of-mark m found e in (has.0, ap kind.Mark has.1, has.2)
count_in-kind (kind.Word name) found e = absurd (cc)
count_in-kind (kind.Keyword k) found e = absurd (cc)
count_in-kind (kind.Number value) found e = absurd (cc)
count_in-kind kind.End found e = absurd (cc)

count_at-mark : (spots : List Spot) (found : Op) → count_at spots ≡ Some found
    → (c : Count) × (spots ≡ mark (place_at spots) (count_mark c) ∷ tail spots) × (found ≡ count_op c)
count_at-mark [] found e = absurd (cc)
count_at-mark (spot ∷ spots) found e =
    let has = count_in-kind spot.kind found e in
    (has.0, (λ i. record { at = spot.at; kind = has.1 i } ∷ spots), has.2)

-- ---- assignments, counts and calls

pub record SimpleFound (most lv : ℕ) (spots : List Spot) (read : SourceLine × List Spot) : Type 0 where
  pub simple : Simple
  pub spells : spots ≡ grammar.simple_spots simple ++ read.1
  pub made : grammar.simple_binds simple ≡ true
  pub deep : grammar.simple_levels simple ≤ lv
  pub few : grammar.simple_operators simple ≤ most
  pub stands_for : read.0 ≡ grammar.simple_line simple

assigned_found : (most lv at : ℕ) (name : List ℕ) (spots : List Spot) (read : SourceLine × List Spot) → begins_with marks.Assign spots ≡ true
    → assignment_line most lv at name spots ≡ Ok read → SimpleFound most lv (word at name ∷ spots) read
assigned_found most lv at name spots read first e =
    let s = steps (whole most lv (tail spots)) _ read e in
    let has = whole_found most lv (tail spots) s.0 s.1 in
    subst (SimpleFound most lv (word at name ∷ spots)) (ok_one _ _ s.2)
    (record {
      simple = Assigned at name (place_at spots) has.expression;
      spells = ap (λ s. word at name ∷ s) (begins_at marks.Assign spots first ∙ ap (λ s. mark (place_at spots) marks.Assign ∷ s) has.spells);
      made = has.made;
      deep = has.deep;
      few = has.few;
      stands_for = ap (line.Assign name at) has.stands_for;
    })

acted_found : (most lv at : ℕ) (name : List ℕ) (spots : List Spot) (read : SourceLine × List Spot) → call_statement most lv at name spots ≡ Ok read
    → SimpleFound most lv (word at name ∷ spots) read
acted_found most lv at name spots read e =
    let s = steps (whole_call most lv at name spots) _ read e in
    let r = steps (call lv at name (record { spots = spots; operators = most })) _ s.0 s.1 in
    let has = call_found lv at name (record { spots = spots; operators = most }) r.0 (λ level less. operands_found level) r.1 in
    let same = ok_one _ _ r.2 in
    subst (SimpleFound most lv (word at name ∷ spots)) (ap (λ (got : SourceExpr × List Spot). (let made : SourceLine × List Spot = (line.Act got.0, got.1) in made)) same ∙ ok_one _ _ s.2)
    (record {
      simple = Acted (Applied at name has.opened has.args has.closed);
      spells = ap (λ s. word at name ∷ s) has.spells;
      made = has.made;
      deep = has.deep;
      few = omega (arith, has.counts);
      stands_for = ap line.Act has.stands_for;
    })

counted_or_found : (most lv at : ℕ) (name : List ℕ) (spots : List Spot) (o : Option Op) (read : SourceLine × List Spot) → count_at spots ≡ o
    → counted_or o most lv at name spots ≡ Ok read → SimpleFound most lv (word at name ∷ spots) read
counted_or_found most lv at name spots None read is e =
    by_choice (begins_with marks.OpenRound spots) (call_statement most lv at name spots) (Err (refusal_of spots)) read e
    (λ opens came. acted_found most lv at name spots read came) (λ other came. absurd (cc))
counted_or_found most lv at name spots (Some found) read is e =
    let first = count_at-mark spots found is in
    subst (SimpleFound most lv (word at name ∷ spots)) (ok_one _ _ e)
    (record {
      simple = CountedAfter at name (place_at spots) first.0;
      spells = ap (λ s. word at name ∷ s) first.1;
      made = refl;
      deep = omega arith;
      few = omega arith;
      stands_for = ap (increment at name) first.2;
    })

compound_or_found : (most lv at : ℕ) (name : List ℕ) (spots : List Spot) (o : Option Op) (read : SourceLine × List Spot) → compound_at spots ≡ o
    → compound_or o most lv at name spots ≡ Ok read → SimpleFound most lv (word at name ∷ spots) read
compound_or_found most lv at name spots None read is e = counted_or_found most lv at name spots (count_at spots) read refl e
compound_or_found most lv at name spots (Some found) read is e =
    let first = compound_at-mark spots found is in
    let s = steps (whole most lv (tail spots)) _ read e in
    let has = whole_found most lv (tail spots) s.0 s.1 in
    subst (SimpleFound most lv (word at name ∷ spots)) (ok_one _ _ s.2)
    (record {
      simple = Changed at name (place_at spots) first.0 has.expression;
      spells = ap (λ s. word at name ∷ s) (first.1 ∙ ap (λ s. mark (place_at spots) (compound_mark first.0) ∷ s) has.spells);
      made = has.made;
      deep = has.deep;
      few = has.few;
      stands_for = λ i. compound_assignment at name (first.2 i) (has.stands_for i);
    })

behind_name_found : (most lv at : ℕ) (name : List ℕ) (spots : List Spot) (read : SourceLine × List Spot) → behind_name most lv at name spots ≡ Ok read
    → SimpleFound most lv (word at name ∷ spots) read
behind_name_found most lv at name spots read e =
    by_choice (begins_with marks.Assign spots) (assignment_line most lv at name spots) (compound_or (compound_at spots) most lv at name spots) read e
    (λ first came. assigned_found most lv at name spots read first came) (λ other came. compound_or_found most lv at name spots (compound_at spots) read refl came)

counted_before_found : (most lv at : ℕ) (m : Mark) (o : Option Op) (rest : List Spot) (refusal : ParseError) (read : SourceLine × List Spot) → count_of m ≡ o
    → increment_before o rest refusal ≡ Ok read → SimpleFound most lv (mark at m ∷ rest) read
counted_before_found most lv at m None rest refusal read is e = absurd (cc)
counted_before_found most lv at m (Some found) rest refusal read is e =
    let first = count_of-mark m found is in
    let s = steps (word_at rest) _ read e in
    subst (SimpleFound most lv (mark at m ∷ rest)) (ok_one _ _ s.2)
    (record {
      simple = CountedBefore at first.0 s.0.at s.0.name;
      spells = λ i. mark at (first.1 i) ∷ word_at-word rest s.0 s.1 i;
      made = refl;
      deep = omega arith;
      few = omega arith;
      stands_for = ap (increment s.0.at s.0.name) first.2;
    })

simple_by_found : (most lv : ℕ) (k : TokenKind) (at : ℕ) (rest : List Spot) (refusal : ParseError) (read : SourceLine × List Spot) → simple_by most lv k at rest refusal ≡ Ok read
    → SimpleFound most lv (record { at = at; kind = k } ∷ rest) read
simple_by_found most lv (kind.Word name) at rest refusal read e = behind_name_found most lv at name rest read e
simple_by_found most lv (kind.Mark m) at rest refusal read e = counted_before_found most lv at m (count_of m) rest refusal read refl e
simple_by_found most lv (kind.Keyword k) at rest refusal read e = absurd (cc)
simple_by_found most lv (kind.Number value) at rest refusal read e = absurd (cc)
simple_by_found most lv kind.End at rest refusal read e = absurd (cc)

pub simple_found : (most lv : ℕ) (spots : List Spot) (read : SourceLine × List Spot) → simple most lv spots ≡ Ok read → SimpleFound most lv spots read
simple_found most lv [] read e = absurd (cc)
simple_found most lv (spot ∷ rest) read e = simple_by_found most lv spot.kind spot.at rest (refusal_of (spot ∷ rest)) read e

pub record LineSimpleFound (most lv : ℕ) (spots : List Spot) (read : List SourceLine × List Spot) : Type 0 where
  pub simple : Simple
  pub semi : ℕ
  pub spells : spots ≡ (grammar.simple_spots simple ++ mark semi marks.Semi ∷ []) ++ read.1
  pub made : grammar.simple_binds simple ≡ true
  pub deep : grammar.simple_levels simple ≤ lv
  pub few : grammar.simple_operators simple ≤ most
  pub stands_for : read.0 ≡ grammar.simple_line simple ∷ []

pub simple_line_found : (most lv : ℕ) (spots : List Spot) (read : List SourceLine × List Spot) → simple_line most lv spots ≡ Ok read → LineSimpleFound most lv spots read
simple_line_found most lv spots read e =
    let s = steps (simple most lv spots) _ read e in
    let has = simple_found most lv spots s.0 s.1 in
    let t = steps (past marks.Semi s.0.1) _ read s.2 in
    let semi = past-mark marks.Semi s.0.1 t.0 t.1 in
    subst (LineSimpleFound most lv spots) (ok_one _ _ t.2)
    (record {
      simple = has.simple;
      semi = semi.0;
      spells = has.spells ∙ ap (λ s. grammar.simple_spots has.simple ++ s) semi.1 ∙ sym (append_assoc (grammar.simple_spots has.simple) (mark semi.0 marks.Semi ∷ []) t.0);
      made = has.made;
      deep = has.deep;
      few = has.few;
      stands_for = ap (λ l. l ∷ []) has.stands_for;
    })

-- ---- locals

pub record VariableFound (most lv : ℕ) (spots : List Spot) (read : SourceLine × List Spot) : Type 0 where
  pub variable : Variable
  pub spells : spots ≡ grammar.variable_spots variable ++ read.1
  pub made : grammar.variable_binds variable ≡ true
  pub deep : grammar.variable_levels variable ≤ lv
  pub few : grammar.variable_operators variable ≤ most
  pub stands_for : read.0 ≡ grammar.variable_line variable

pub variable_found : (most lv : ℕ) (spots : List Spot) (read : SourceLine × List Spot) → variable most lv spots ≡ Ok read → VariableFound most lv spots read
variable_found most lv spots read e =
    let s = steps (word_at spots) _ read e in
    let w = s.0 in
    let first = word_at-word spots w s.1 in
    by_choice (begins_with marks.Assign w.rest) (initialisation most lv w.at w.name w.rest) (Ok (line.Local w.name w.at None, w.rest)) read s.2
    (λ assigns came.
    let t = steps (whole most lv (tail w.rest)) _ read came in
    let has = whole_found most lv (tail w.rest) t.0 t.1 in
    subst (VariableFound most lv spots) (ok_one _ _ t.2)
    (record {
      variable = Initialised w.at w.name (place_at w.rest) has.expression;
      spells = first ∙ ap (λ s. word w.at w.name ∷ s) (begins_at marks.Assign w.rest assigns ∙ ap (λ s. mark (place_at w.rest) marks.Assign ∷ s) has.spells);
      made = has.made;
      deep = has.deep;
      few = has.few;
      stands_for = ap (λ e. line.Local w.name w.at (Some e)) has.stands_for;
    }))
    (λ bare came. subst (VariableFound most lv spots) (ok_one _ _ came)
    (record { variable = Bare w.at w.name; spells = first; made = refl; deep = omega arith; few = omega arith; stands_for = refl }))

add : Variables → ℕ → Variable → Variables
add (Last v) comma w = Also v comma (Last w)
add (Also v next rest) comma w = Also v next (add rest comma w)

add-spots : (vs : Variables) (comma : ℕ) (w : Variable) → grammar.variables_spots (add vs comma w) ≡ grammar.variables_spots vs ++ mark comma marks.Comma ∷ grammar.variable_spots w
unfolding add
add-spots (Last v) comma w = refl
add-spots (Also v next rest) comma w =
    ap (λ s. grammar.variable_spots v ++ mark next marks.Comma ∷ s) (add-spots rest comma w)
    ∙ sym (append_assoc (grammar.variable_spots v) (mark next marks.Comma ∷ grammar.variables_spots rest) (mark comma marks.Comma ∷ grammar.variable_spots w))

add-lines : (vs : Variables) (comma : ℕ) (w : Variable) → grammar.variables_lines (add vs comma w) ≡ grammar.variables_lines vs ++ grammar.variable_line w ∷ []
unfolding add
add-lines (Last v) comma w = refl
add-lines (Also v next rest) comma w = ap (λ l. grammar.variable_line v ∷ l) (add-lines rest comma w)

add-binds : (vs : Variables) (comma : ℕ) (w : Variable) → grammar.variables_bind vs ≡ true → grammar.variable_binds w ≡ true → grammar.variables_bind (add vs comma w) ≡ true
unfolding add
add-binds (Last v) comma w one other = rw (one, other) refl
add-binds (Also v next rest) comma w one other =
    let parts = both (grammar.variable_binds v) (grammar.variables_bind rest) one in
    rw (parts.0, add-binds rest comma w parts.1 other) refl

add-levels : (vs : Variables) (comma : ℕ) (w : Variable) (n : ℕ) → grammar.variables_levels vs ≤ n → grammar.variable_levels w ≤ n → grammar.variables_levels (add vs comma w) ≤ n
unfolding add
add-levels (Last v) comma w n h k = omega arith
add-levels (Also v next rest) comma w n h k = let low = add-levels rest comma w n (omega arith) k in omega (arith, low)

add-operators : (vs : Variables) (comma : ℕ) (w : Variable) (n : ℕ) → grammar.variables_operators vs ≤ n → grammar.variable_operators w ≤ n
    → grammar.variables_operators (add vs comma w) ≤ n
unfolding add
add-operators (Last v) comma w n h k = omega arith
add-operators (Also v next rest) comma w n h k = let low = add-operators rest comma w n (omega arith) k in omega (arith, low)

record VariablesFound (most lv : ℕ) (spots : List Spot) (read : List SourceLine × List Spot) : Type 0 where
  variables : Variables
  spells : spots ≡ grammar.variables_spots variables ++ read.1
  made : grammar.variables_bind variables ≡ true
  deep : grammar.variables_levels variables ≤ lv
  few : grammar.variables_operators variables ≤ most
  stands_for : read.0 ≡ grammar.variables_lines variables

one_more : (most lv : ℕ) (spots : List Spot) (read next : List SourceLine × List Spot) → comma_stands read ≡ true → one_variable most lv read ≡ Ok next
    → VariablesFound most lv spots read → VariablesFound most lv spots next
one_more most lv spots read next test e has =
    let s = steps (variable most lv (tail read.1)) _ next e in
    let other = variable_found most lv (tail read.1) s.0 s.1 in
    let comma = place_at read.1 in
    let cut : spots ≡ grammar.variables_spots (add has.variables comma other.variable) ++ s.0.1 =
    has.spells
    ∙ ap (λ r. grammar.variables_spots has.variables ++ r) (begins_at marks.Comma read.1 test ∙ ap (λ r. mark comma marks.Comma ∷ r) other.spells)
    ∙ sym (append_assoc (grammar.variables_spots has.variables) (mark comma marks.Comma ∷ grammar.variable_spots other.variable) s.0.1)
    ∙ ap (λ r. r ++ s.0.1) (sym (add-spots has.variables comma other.variable)) in
    subst (VariablesFound most lv spots) (ok_one _ _ s.2)
    (record {
      variables = add has.variables comma other.variable;
      spells = cut;
      made = add-binds has.variables comma other.variable has.made other.made;
      deep = add-levels has.variables comma other.variable lv has.deep other.deep;
      few = add-operators has.variables comma other.variable most has.few other.few;
      stands_for = ap (λ l. l ++ s.0.0 ∷ []) has.stands_for ∙ ap (λ l. grammar.variables_lines has.variables ++ l ∷ []) other.stands_for
          ∙ sym (add-lines has.variables comma other.variable);
    })

-- behind `int`
pub record LocalFound (most lv : ℕ) (spots : List Spot) (read : List SourceLine × List Spot) : Type 0 where
  pub variables : Variables
  pub semi : ℕ
  pub spells : spots ≡ (grammar.variables_spots variables ++ mark semi marks.Semi ∷ []) ++ read.1
  pub made : grammar.variables_bind variables ≡ true
  pub deep : grammar.variables_levels variables ≤ lv
  pub few : grammar.variables_operators variables ≤ most
  pub stands_for : read.0 ≡ grammar.variables_lines variables

pub local_found : (most lv : ℕ) (spots : List Spot) (read : List SourceLine × List Spot) → local most lv spots ≡ Ok read → LocalFound most lv spots read
local_found most lv spots read e =
    let s = steps (variable most lv spots) _ read e in
    let first = variable_found most lv spots s.0 s.1 in
    let t = steps (variables most lv (s.0.0 ∷ [], s.0.1)) _ read s.2 in
    let has = repeat-keeps lines_left comma_stands (one_variable most lv) (VariablesFound most lv spots) (λ one next test made kept. one_more most lv spots one next test made kept)
    (s.0.0 ∷ [], s.0.1) t.0
    (record { variables = Last first.variable; spells = first.spells; made = first.made; deep = first.deep; few = first.few; stands_for = ap (λ l. l ∷ []) first.stands_for })
    t.1 in
    let u = steps (past marks.Semi t.0.1) _ read t.2 in
    let semi = past-mark marks.Semi t.0.1 u.0 u.1 in
    subst (LocalFound most lv spots) (ok_one _ _ u.2)
    (record {
      variables = has.variables;
      semi = semi.0;
      spells = has.spells ∙ ap (λ r. grammar.variables_spots has.variables ++ r) semi.1
          ∙ sym (append_assoc (grammar.variables_spots has.variables) (mark semi.0 marks.Semi ∷ []) u.0);
      made = has.made;
      deep = has.deep;
      few = has.few;
      stands_for = has.stands_for;
    })

-- ---- parts of loops and tests

pub record ConditionFound (most lv : ℕ) (spots : List Spot) (read : SourceExpr × List Spot) : Type 0 where
  pub opened : ℕ
  pub expression : Expression
  pub closed : ℕ
  pub spells : spots ≡ grammar.bracketed_spots opened expression closed ++ read.1
  pub made : binds 6 expression ≡ true
  pub deep : levels expression ≤ lv
  pub few : operators expression ≤ most
  pub stands_for : read.0 ≡ tree expression

pub condition_found : (most lv : ℕ) (spots : List Spot) (read : SourceExpr × List Spot) → condition most lv spots ≡ Ok read → ConditionFound most lv spots read
condition_found most lv spots read e =
    let s = steps (past marks.OpenRound spots) _ read e in
    let opened = past-mark marks.OpenRound spots s.0 s.1 in
    let t = steps (whole most lv s.0) _ read s.2 in
    let has = whole_found most lv s.0 t.0 t.1 in
    let u = steps (past marks.CloseRound t.0.1) _ read t.2 in
    let closed = past-mark marks.CloseRound t.0.1 u.0 u.1 in
    subst (ConditionFound most lv spots) (ok_one _ _ u.2)
    (record {
      opened = opened.0;
      expression = has.expression;
      closed = closed.0;
      spells = opened.1 ∙ ap (λ r. mark opened.0 marks.OpenRound ∷ r)
          (has.spells ∙ ap (λ r. expression_spots has.expression ++ r) closed.1 ∙ sym (append_assoc (expression_spots has.expression) (mark closed.0 marks.CloseRound ∷ []) u.0));
      made = has.made;
      deep = has.deep;
      few = has.few;
      stands_for = has.stands_for;
    })

pub record InitFound (most lv : ℕ) (spots : List Spot) (read : List SourceLine × List Spot) : Type 0 where
  pub init : Init
  pub spells : spots ≡ grammar.init_spots init ++ read.1
  pub made : grammar.init_binds init ≡ true
  pub deep : grammar.init_levels init ≤ lv
  pub few : grammar.init_operators init ≤ most
  pub stands_for : read.0 ≡ grammar.init_lines init

pub init_found : (most lv : ℕ) (spots : List Spot) (read : List SourceLine × List Spot) → init most lv spots ≡ Ok read → InitFound most lv spots read
init_found most lv spots read e =
    by_choice (begins_with_keyword keywords.Int spots) (local most lv (tail spots)) (if begins_with marks.Semi spots then Ok ([], tail spots) else simple_line most lv spots) read e
    (λ declares came.
    let has = local_found most lv (tail spots) read came in
    record {
      init = InitLocal (Declared (place_at spots) has.variables has.semi);
      spells = begins_at_keyword keywords.Int spots declares ∙ ap (λ r. keyword (place_at spots) keywords.Int ∷ r) has.spells;
      made = has.made;
      deep = has.deep;
      few = has.few;
      stands_for = has.stands_for;
    })
    (λ other rest. by_choice (begins_with marks.Semi spots) (Ok ([], tail spots)) (simple_line most lv spots) read rest
    (λ ends came. subst (InitFound most lv spots) (ok_one _ _ came)
    (record { init = InitSimple None (place_at spots); spells = begins_at marks.Semi spots ends; made = refl; deep = omega arith; few = omega arith; stands_for = refl }))
    (λ goes came.
    let has = simple_line_found most lv spots read came in
    record { init = InitSimple (Some has.simple) has.semi; spells = has.spells; made = has.made; deep = has.deep; few = has.few; stands_for = has.stands_for }))

pub record CondFound (most lv : ℕ) (spots : List Spot) (read : SourceExpr × List Spot) : Type 0 where
  pub cond : Option Expression
  pub spells : spots ≡ grammar.if_expression cond ++ read.1
  pub made : grammar.if_binds cond ≡ true
  pub deep : grammar.if_levels cond ≤ lv
  pub few : grammar.if_operators cond ≤ most
  pub stands_for : (semi : ℕ) (later : List Spot) → read.1 ≡ mark semi marks.Semi ∷ later → read.0 ≡ grammar.cond_or_one cond semi

pub cond_found : (most lv : ℕ) (spots : List Spot) (read : SourceExpr × List Spot) → for_condition most lv spots ≡ Ok read → CondFound most lv spots read
cond_found most lv spots read e =
    by_choice (begins_with marks.Semi spots) (Ok (source.Lit (place_at spots) (pos 1), spots)) (whole most lv spots) read e
    (λ missing came. subst (CondFound most lv spots) (ok_one _ _ came)
    (record {
      cond = None;
      spells = refl;
      made = refl;
      deep = omega arith;
      few = omega arith;
      stands_for = λ semi later is. ap (λ s. source.Lit (place_at s) (pos 1)) is;
    }))
    (λ told came.
    let has = whole_found most lv spots read came in
    record { cond = Some has.expression; spells = has.spells; made = has.made; deep = has.deep; few = has.few; stands_for = λ semi later is. has.stands_for })

pub record StepFound (most lv : ℕ) (spots : List Spot) (read : List SourceLine × List Spot) : Type 0 where
  pub step : Option Simple
  pub spells : spots ≡ grammar.if_simple step ++ read.1
  pub made : grammar.if_simple_binds step ≡ true
  pub deep : grammar.if_simple_levels step ≤ lv
  pub few : grammar.if_simple_operators step ≤ most
  pub stands_for : read.0 ≡ grammar.if_simple_lines step

pub step_found : (most lv : ℕ) (spots : List Spot) (read : List SourceLine × List Spot) → for_step most lv spots ≡ Ok read → StepFound most lv spots read
step_found most lv spots read e =
    by_choice (begins_with marks.CloseRound spots) (Ok ([], spots)) (simple most lv spots >>= λ read. Ok (read.0 ∷ [], read.1)) read e
    (λ missing came. subst (StepFound most lv spots) (ok_one _ _ came)
    (record { step = None; spells = refl; made = refl; deep = omega arith; few = omega arith; stands_for = refl }))
    (λ told came.
    let s = steps (simple most lv spots) _ read came in
    let has = simple_found most lv spots s.0 s.1 in
    subst (StepFound most lv spots) (ok_one _ _ s.2)
    (record { step = Some has.simple; spells = has.spells; made = has.made; deep = has.deep; few = has.few; stands_for = ap (λ l. l ∷ []) has.stands_for }))

pub record ValueFound (most lv : ℕ) (spots : List Spot) (read : Option SourceExpr × List Spot) : Type 0 where
  pub value : Option Expression
  pub spells : spots ≡ grammar.if_expression value ++ read.1
  pub made : grammar.if_binds value ≡ true
  pub deep : grammar.if_levels value ≤ lv
  pub few : grammar.if_operators value ≤ most
  pub stands_for : read.0 ≡ grammar.if_tree value

pub value_found : (most lv : ℕ) (spots : List Spot) (read : Option SourceExpr × List Spot) → return_value most lv spots ≡ Ok read → ValueFound most lv spots read
value_found most lv spots read e =
    by_choice (begins_with marks.Semi spots) (Ok (None, spots)) (whole most lv spots >>= λ value. Ok (Some value.0, value.1)) read e
    (λ missing came. subst (ValueFound most lv spots) (ok_one _ _ came)
    (record { value = None; spells = refl; made = refl; deep = omega arith; few = omega arith; stands_for = refl }))
    (λ told came.
    let s = steps (whole most lv spots) _ read came in
    let has = whole_found most lv spots s.0 s.1 in
    subst (ValueFound most lv spots) (ok_one _ _ s.2)
    (record { value = Some has.expression; spells = has.spells; made = has.made; deep = has.deep; few = has.few; stands_for = ap Some has.stands_for }))
