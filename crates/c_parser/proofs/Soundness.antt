-- What is read as an expression is spelled by a derivation that stands for it.
use Rattle.std.proofs.Common.{◌≡◌, ℕ, zero, suc, ◌+◌, ◌<◌, ◌≤◌, true, List, [], ◌∷◌, ◌++◌, refl, sym, ap, subst, ◌∙◌, arith, append-nil, append_assoc}
use Rattle.std.specs.Prelude.{Option, None, Some, is_some, Ok, nat_lt, ◌&&◌}
use Rattle.std.proofs.lemmas.Bool.{ltb-true}
use Rattle.std.proofs.lemmas.Bool.Decides.{nat_tests}
use denote.Enum.Bare.{sameb, same_true}
use Rattle.items.specs.Gives.{◌>>=◌}
use Rattle.items.proofs.Gives.{on_ok}
use Rattle.c_lexer.specs.contracts.mark.Mark.{the_type}
use Rattle.c_lexer.specs.declared.kind.TokenKind.{TokenKind}
use Rattle.c_lexer.specs.declared.kind.TokenKind.TheVariants as kind
use Rattle.c_lexer.specs.declared.mark.Mark.{Mark}
use Rattle.c_lexer.specs.declared.mark.Mark.TheVariants as marks
use Rattle.syntax_tree.specs.declared.op.Op.{Op}
use Rattle.syntax_tree.specs.declared.op.Sign.{Sign}
use Rattle.syntax_tree.specs.SourceExpr as source
use Rattle.syntax_tree.specs.SourceExpr.{SourceExpr, exprs_from}
use Rattle.c_parser.specs.declared.error.ParseError.{ParseError}
use Rattle.c_parser.specs.Descent.{Rest, argument, arguments, begins_with, behind, bracketed_expression_by, call_by, deeper, goes_on, has_comma, expression_below, rest_length, rest_length_of_list, link, link_if, links, mark_operand_by, more_arguments, reference_by, op_at, operand, operand_by, operand_in, place_at, refusal_of, sign_of, signed_operand_by, signed_if, spend, tail, with_spots}
use Rattle.c_parser.specs.Expressions as grammar
use Rattle.c_parser.specs.Expressions.{Operand, Number, Named, Called, Bracketed, Signed, Expression, Single, Joined, Call, Applied, Arguments, NoArguments, Listed, MoreArguments, NoMore, Another}
use Rattle.c_parser.specs.Operators.{op_mark, rank, sign_mark}
use Rattle.c_parser.specs.Spots.{Spot, mark, number, word}
use Rattle.c_parser.proofs.Complete.{argument_list, argument_list-trees, call_tail, more_list}
use Rattle.c_parser.proofs.Equations.{joined-none, joined-suc, operand_at}
use Rattle.c_parser.proofs.FirstTokens.{both, expression-place}
use Rattle.c_parser.proofs.Derivations.{behind-mark, begins_with-mark, deeper-level, ok_one, one_less-rest, op_at-mark, sign_of-mark}
use Rattle.c_parser.proofs.Repeats.{by_choice, repeat-keeps}

abbrev state : List Spot → ℕ → Rest
state spots operators = record { spots = spots; operators = operators }

pub record OperandFound (levels : ℕ) (rest : Rest) (read : SourceExpr × Rest) : Type 0 where
  pub operand : Operand
  pub spells : rest.spots ≡ grammar.operand_spots operand ++ read.1.spots
  pub counts : rest.operators ≡ grammar.operand_operators operand + read.1.operators
  pub made : grammar.operand_binds operand ≡ true
  pub deep : grammar.operand_levels operand ≤ levels
  pub stands_for : read.0 ≡ grammar.operand_tree operand

pub record ExpressionFound (n levels : ℕ) (rest : Rest) (read : SourceExpr × Rest) : Type 0 where
  pub expression : Expression
  pub spells : rest.spots ≡ grammar.expression_spots expression ++ read.1.spots
  pub counts : rest.operators ≡ grammar.operators expression + read.1.operators
  pub made : grammar.binds n expression ≡ true
  pub deep : grammar.levels expression ≤ levels
  pub stands_for : read.0 ≡ grammar.tree expression

-- behind the name of a call
pub record CallFound (levels at : ℕ) (name : List ℕ) (rest : Rest) (read : SourceExpr × Rest) : Type 0 where
  pub opened : ℕ
  pub args : Arguments
  pub closed : ℕ
  pub spells : rest.spots ≡ call_tail (Applied at name opened args closed) ++ read.1.spots
  pub counts : rest.operators ≡ grammar.argument_operators args + read.1.operators
  pub made : grammar.arguments_bind args ≡ true
  pub deep : suc (grammar.argument_levels args) ≤ levels
  pub stands_for : read.0 ≡ grammar.call_tree (Applied at name opened args closed)

pub record ArgumentsFound (levels : ℕ) (rest : Rest) (read : List SourceExpr × Rest) : Type 0 where
  pub args : Arguments
  pub spells : rest.spots ≡ grammar.argument_spots args ++ read.1.spots
  pub counts : rest.operators ≡ grammar.argument_operators args + read.1.operators
  pub made : grammar.arguments_bind args ≡ true
  pub deep : grammar.argument_levels args ≤ levels
  pub stands_for : read.0 ≡ argument_list args

abbrev pub OperandsFound : ℕ → Type 0
OperandsFound levels = (rest : Rest) (read : SourceExpr × Rest) → operand levels rest ≡ Ok read → OperandFound levels rest read

-- ---- operators

binds-joined : (left : Expression) (at : ℕ) (op : Op) (right : Expression) (n : ℕ) → rank op < n → grammar.binds (suc (rank op)) left ≡ true
    → grammar.binds (rank op) right ≡ true → grammar.binds n (Joined left at op right) ≡ true
binds-joined left at op right n low one other = let less : nat_lt (rank op) n ≡ true = grind (arith, nat_tests) in rw (less, one, other) refl

binds-suc : (e : Expression) (n : ℕ) → grammar.binds n e ≡ true → grammar.binds (suc n) e ≡ true
binds-suc (Single o) n made = made
binds-suc (Joined left at op right) n made =
    let one = both (nat_lt (rank op) n && grammar.binds (suc (rank op)) left) (grammar.binds (rank op) right) made in
    let two = both (nat_lt (rank op) n) (grammar.binds (suc (rank op)) left) one.0 in
    let low : rank op < n = ltb-true (rank op) n two.0 in
    binds-joined left at op right (suc n) (omega arith) two.1 one.1

-- ---- one argument more at the end

add : MoreArguments → ℕ → Expression → MoreArguments
add NoMore comma e = Another comma e NoMore
add (Another first next more) comma e = Another first next (add more comma e)

add-spots : (more : MoreArguments) (comma : ℕ) (e : Expression) → grammar.more_spots (add more comma e) ≡ grammar.more_spots more ++ mark comma marks.Comma ∷ grammar.expression_spots e
unfolding add
add-spots NoMore comma e = ap (λ s. mark comma marks.Comma ∷ s) (append-nil (grammar.expression_spots e))
add-spots (Another first next more) comma e =
    ap (λ s. mark first marks.Comma ∷ (grammar.expression_spots next ++ s)) (add-spots more comma e)
    ∙ ap (λ s. mark first marks.Comma ∷ s) (sym (append_assoc (grammar.expression_spots next) (grammar.more_spots more) (mark comma marks.Comma ∷ grammar.expression_spots e)))

add-operators : (more : MoreArguments) (comma : ℕ) (e : Expression) → grammar.more_operators (add more comma e) ≡ grammar.more_operators more + grammar.operators e
unfolding add
add-operators NoMore comma e = omega arith
add-operators (Another first next more) comma e = let rest = add-operators more comma e in omega (arith, rest)

add-binds : (more : MoreArguments) (comma : ℕ) (e : Expression) → grammar.more_bind more ≡ true → grammar.binds 6 e ≡ true → grammar.more_bind (add more comma e) ≡ true
unfolding add
add-binds NoMore comma e made last = rw last refl
add-binds (Another first next more) comma e made last =
    let parts = both (grammar.binds 6 next) (grammar.more_bind more) made in
    rw (parts.0, add-binds more comma e parts.1 last) refl

add-levels : (more : MoreArguments) (comma : ℕ) (e : Expression) (n : ℕ) → grammar.more_levels more ≤ n → grammar.levels e ≤ n → grammar.more_levels (add more comma e) ≤ n
unfolding add
add-levels NoMore comma e n h k = omega arith
add-levels (Another first next more) comma e n h k = let rest = add-levels more comma e n (omega arith) k in omega (arith, rest)

add-list : (more : MoreArguments) (comma : ℕ) (e : Expression) → more_list (add more comma e) ≡ more_list more ++ grammar.tree e ∷ []
unfolding add
add-list NoMore comma e = refl
add-list (Another first next more) comma e = ap (λ list. grammar.tree next ∷ list) (add-list more comma e)

record ListedFound (levels : ℕ) (rest : Rest) (read : List SourceExpr × Rest) : Type 0 where
  first : Expression
  more : MoreArguments
  spells : rest.spots ≡ grammar.expression_spots first ++ (grammar.more_spots more ++ read.1.spots)
  counts : rest.operators ≡ grammar.operators first + grammar.more_operators more + read.1.operators
  made_first : grammar.binds 6 first ≡ true
  made_more : grammar.more_bind more ≡ true
  deep_first : grammar.levels first ≤ levels
  deep_more : grammar.more_levels more ≤ levels
  stands_for : read.0 ≡ grammar.tree first ∷ more_list more

module _ (levels : ℕ) (found : OperandsFound levels) where
  -- one link more keeps what is found
  link_found : (r at : ℕ) (rest : Rest) → ((other : Rest) (read : SourceExpr × Rest) → expression_below (operand levels) r other ≡ Ok read → ExpressionFound r levels other read)
      → (op : Op) (left next : SourceExpr × Rest) → op_at r left.1.spots ≡ Some op → link (expression_below (operand levels) r) at op left ≡ Ok next
      → at ≡ place_at rest.spots → ExpressionFound (suc r) levels rest left → ExpressionFound (suc r) levels rest next
  link_found r at rest operands op left next first made from has =
      let mark_found = op_at-mark r left.1.spots op first in
      on_ok (spend left.1) (λ rest. expression_below (operand levels) r rest >>= λ right. Ok (source.Binary at op left.0 right.0, right.1)) next made
      (λ after spent reads. on_ok (expression_below (operand levels) r after) (λ right. Ok (source.Binary at op left.0 right.0, right.1)) next reads
      (λ right came ended.
      let less = one_less-rest left.1.spots left.1.operators after spent in
      let other = operands after right came in
      let whole = Joined has.expression mark_found.0 op other.expression in
      let cut : rest.spots ≡ grammar.expression_spots whole ++ right.1.spots =
      has.spells
      ∙ ap (λ s. grammar.expression_spots has.expression ++ s) (mark_found.1 ∙ ap (λ s. mark mark_found.0 (op_mark op) ∷ s) (less.0 ∙ other.spells))
      ∙ sym (append_assoc (grammar.expression_spots has.expression) (mark mark_found.0 (op_mark op) ∷ grammar.expression_spots other.expression) right.1.spots) in
      let place : at ≡ grammar.place has.expression = from ∙ ap place_at has.spells ∙ expression-place has.expression left.1.spots in
      let low : rank op ≡ r = mark_found.2 in
      let made_left : grammar.binds (suc (rank op)) has.expression ≡ true = ap (λ k. grammar.binds (suc k) has.expression) low ∙ has.made in
      let made_right : grammar.binds (rank op) other.expression ≡ true = ap (λ k. grammar.binds k other.expression) low ∙ other.made in
      subst (ExpressionFound (suc r) levels rest) (ok_one _ _ ended)
      (record {
        expression = whole;
        spells = cut;
        counts = omega (arith, less.1, other.counts, has.counts);
        made = binds-joined has.expression mark_found.0 op other.expression (suc r) (omega arith) made_left made_right;
        deep = omega (arith, has.deep, other.deep);
        stands_for = λ i. source.Binary (place i) op (has.stands_for i) (other.stands_for i);
      })))

  weaker : (r : ℕ) (rest : Rest) (read : SourceExpr × Rest) → ExpressionFound r levels rest read → ExpressionFound (suc r) levels rest read
  weaker r rest read has = record {
    expression = has.expression;
    spells = has.spells;
    counts = has.counts;
    made = binds-suc has.expression r has.made;
    deep = has.deep;
    stands_for = has.stands_for;
  }

  by_op : (r : ℕ) (rest : Rest) → ((other : Rest) (read : SourceExpr × Rest) → expression_below (operand levels) r other ≡ Ok read → ExpressionFound r levels other read)
      → (left next : SourceExpr × Rest) (o : Option Op) → op_at r left.1.spots ≡ o → is_some o ≡ true
      → link_if (expression_below (operand levels) r) (place_at rest.spots) o left ≡ Ok next → ExpressionFound (suc r) levels rest left → ExpressionFound (suc r) levels rest next
  by_op r rest operands left next None is test made has = cc
  by_op r rest operands left next (Some op) is test made has = link_found r (place_at rest.spots) rest operands op left next is made refl has

  joined_found : (n : ℕ) (rest : Rest) (read : SourceExpr × Rest) → expression_below (operand levels) n rest ≡ Ok read → ExpressionFound n levels rest read
  joined_found zero rest read e =
      let has = found rest read (sym (joined-none (operand levels) 0 rest refl) ∙ e) in
      record { expression = Single has.operand; spells = has.spells; counts = has.counts; made = has.made; deep = has.deep; stands_for = has.stands_for }
  joined_found (suc r) rest read e =
      on_ok (expression_below (operand levels) r rest) (links r (expression_below (operand levels) r) (place_at rest.spots)) read (sym (joined-suc (operand levels) r rest) ∙ e)
      (λ first came goes. repeat-keeps rest_length (goes_on r) (λ left. link_if (expression_below (operand levels) r) (place_at rest.spots) (op_at r left.1.spots) left)
      (ExpressionFound (suc r) levels rest)
      (λ left next test made has. by_op r rest (joined_found r) left next (op_at r left.1.spots) refl test made has)
      first read (weaker r rest first (joined_found r rest first came)) goes)

  one_more : (rest : Rest) (read next : List SourceExpr × Rest) → has_comma read ≡ true → argument (expression_below (operand levels) 6) read ≡ Ok next
      → ListedFound levels rest read → ListedFound levels rest next
  one_more rest read next test made has =
      let comma = begins_with-mark marks.Comma read.1.spots test in
      on_ok (expression_below (operand levels) 6 (with_spots read.1 (tail read.1.spots))) (λ arg. Ok (read.0 ++ arg.0 ∷ [], arg.1)) next made
      (λ arg came ended.
      let other = joined_found 6 (with_spots read.1 (tail read.1.spots)) arg came in
      let cut : rest.spots ≡ grammar.expression_spots has.first ++ (grammar.more_spots (add has.more comma.0 other.expression) ++ arg.1.spots) =
      has.spells
      ∙ ap (λ s. grammar.expression_spots has.first ++ (grammar.more_spots has.more ++ s)) (comma.1 ∙ ap (λ s. mark comma.0 marks.Comma ∷ s) other.spells)
      ∙ ap (λ s. grammar.expression_spots has.first ++ s)
      (sym (append_assoc (grammar.more_spots has.more) (mark comma.0 marks.Comma ∷ grammar.expression_spots other.expression) arg.1.spots)
      ∙ ap (λ s. s ++ arg.1.spots) (sym (add-spots has.more comma.0 other.expression))) in
      subst (ListedFound levels rest) (ok_one _ _ ended)
      (record {
        first = has.first;
        more = add has.more comma.0 other.expression;
        spells = cut;
        counts = omega (arith, add-operators has.more comma.0 other.expression, other.counts, has.counts);
        made_first = has.made_first;
        made_more = add-binds has.more comma.0 other.expression has.made_more other.made;
        deep_first = has.deep_first;
        deep_more = add-levels has.more comma.0 other.expression levels has.deep_more other.deep;
        stands_for = ap (λ list. list ++ arg.0 ∷ []) has.stands_for ∙ ap (λ e. grammar.tree has.first ∷ (more_list has.more ++ e ∷ [])) other.stands_for
            ∙ ap (λ list. grammar.tree has.first ∷ list) (sym (add-list has.more comma.0 other.expression));
      }))

  listed_found : (rest : Rest) (read : List SourceExpr × Rest) → ListedFound levels rest read → ArgumentsFound levels rest read
  listed_found rest read has = record {
    args = Listed has.first has.more;
    spells = has.spells ∙ sym (append_assoc (grammar.expression_spots has.first) (grammar.more_spots has.more) read.1.spots);
    counts = omega (arith, has.counts);
    made = rw (has.made_first, has.made_more) refl;
    deep = omega (arith, has.deep_first, has.deep_more);
    stands_for = has.stands_for;
  }

  arguments_found : (rest : Rest) (read : List SourceExpr × Rest) → arguments (expression_below (operand levels) 6) rest ≡ Ok read → ArgumentsFound levels rest read
  arguments_found rest read e =
      by_choice (begins_with marks.CloseRound rest.spots) (Ok ([], rest)) (expression_below (operand levels) 6 rest >>= λ first. more_arguments (expression_below (operand levels) 6) (first.0 ∷ [], first.1)) read e
      (λ closes came. subst (ArgumentsFound levels rest) (ok_one _ _ came)
      (record { args = NoArguments; spells = refl; counts = omega arith; made = refl; deep = omega arith; stands_for = refl }))
      (λ opens came. on_ok (expression_below (operand levels) 6 rest) (λ first. more_arguments (expression_below (operand levels) 6) (first.0 ∷ [], first.1)) read came
      (λ first made goes.
      let has = joined_found 6 rest first made in
      listed_found rest read
      (repeat-keeps rest_length_of_list has_comma (argument (expression_below (operand levels) 6)) (ListedFound levels rest) (one_more rest) (first.0 ∷ [], first.1) read
      (record {
        first = has.expression;
        more = NoMore;
        spells = has.spells;
        counts = omega (arith, has.counts);
        made_first = has.made;
        made_more = refl;
        deep_first = has.deep;
        deep_more = omega arith;
        stands_for = ap (λ e. e ∷ []) has.stands_for;
      }) goes)))

-- ---- calls and operands, from operands with fewer levels

abbrev Deeper : ℕ → Type 0
Deeper levels = (level : ℕ) → levels ≡ suc level → OperandsFound level

pub call_found : (levels at : ℕ) (name : List ℕ) (rest : Rest) (read : SourceExpr × Rest) → Deeper levels → call_by operand levels at name rest ≡ Ok read → CallFound levels at name rest read
call_found levels at name rest read deeper_found e =
    on_ok (deeper levels (place_at rest.spots))
    (λ level. behind marks.OpenRound rest >>= λ inside. arguments (expression_below (operand level) 6) inside >>= λ args. behind marks.CloseRound args.1 >>= λ after. Ok (source.Call at name (exprs_from args.0), after)) read e
    (λ level went e1. on_ok (behind marks.OpenRound rest)
    (λ inside. arguments (expression_below (operand level) 6) inside >>= λ args. behind marks.CloseRound args.1 >>= λ after. Ok (source.Call at name (exprs_from args.0), after)) read e1
    (λ inside opens e2. on_ok (arguments (expression_below (operand level) 6) inside)
    (λ args. behind marks.CloseRound args.1 >>= λ after. Ok (source.Call at name (exprs_from args.0), after)) read e2
    (λ args came e3. on_ok (behind marks.CloseRound args.1) (λ after. Ok (source.Call at name (exprs_from args.0), after)) read e3
    (λ after closes ended.
    let less = deeper-level levels (place_at rest.spots) level went in
    let opened = behind-mark marks.OpenRound rest inside opens in
    let closed = behind-mark marks.CloseRound args.1 after closes in
    let has = arguments_found level (deeper_found level less) inside args came in
    let cut : rest.spots ≡ mark opened.0 marks.OpenRound ∷ ((grammar.argument_spots has.args ++ mark closed.0 marks.CloseRound ∷ []) ++ after.spots) =
    opened.1 ∙ ap (λ s. mark opened.0 marks.OpenRound ∷ s)
    (has.spells ∙ ap (λ s. grammar.argument_spots has.args ++ s) closed.1
    ∙ sym (append_assoc (grammar.argument_spots has.args) (mark closed.0 marks.CloseRound ∷ []) after.spots)) in
    subst (CallFound levels at name rest) (ok_one _ _ ended)
    (record {
      opened = opened.0;
      args = has.args;
      closed = closed.0;
      spells = cut;
      counts = omega (arith, opened.2, closed.2, has.counts);
      made = has.made;
      deep = omega (arith, has.deep, less);
      stands_for = ap (λ list. source.Call at name (exprs_from list)) has.stands_for ∙ ap (source.Call at name) (argument_list-trees has.args);
    })))))

bracketed_found : (levels at : ℕ) (rest : Rest) (read : SourceExpr × Rest) → Deeper levels → bracketed_expression_by operand levels at rest ≡ Ok read
    → OperandFound levels (state (mark at marks.OpenRound ∷ rest.spots) rest.operators) read
bracketed_found levels at rest read deeper_found e =
    on_ok (deeper levels at) (λ level. expression_below (operand level) 6 rest >>= λ inner. behind marks.CloseRound inner.1 >>= λ after. Ok (grammar.with_place at inner.0, after)) read e
    (λ level went e1. on_ok (expression_below (operand level) 6 rest) (λ inner. behind marks.CloseRound inner.1 >>= λ after. Ok (grammar.with_place at inner.0, after)) read e1
    (λ inner came e2. on_ok (behind marks.CloseRound inner.1) (λ after. Ok (grammar.with_place at inner.0, after)) read e2
    (λ after closes ended.
    let less = deeper-level levels at level went in
    let closed = behind-mark marks.CloseRound inner.1 after closes in
    let has = joined_found level (deeper_found level less) 6 rest inner came in
    let cut : mark at marks.OpenRound ∷ rest.spots ≡ mark at marks.OpenRound ∷ ((grammar.expression_spots has.expression ++ mark closed.0 marks.CloseRound ∷ []) ++ after.spots) =
    ap (λ s. mark at marks.OpenRound ∷ s)
    (has.spells ∙ ap (λ s. grammar.expression_spots has.expression ++ s) closed.1
    ∙ sym (append_assoc (grammar.expression_spots has.expression) (mark closed.0 marks.CloseRound ∷ []) after.spots)) in
    subst (OperandFound levels (state (mark at marks.OpenRound ∷ rest.spots) rest.operators)) (ok_one _ _ ended)
    (record {
      operand = Bracketed at has.expression closed.0;
      spells = cut;
      counts = omega (arith, closed.2, has.counts);
      made = has.made;
      deep = omega (arith, has.deep, less);
      stands_for = ap (grammar.with_place at) has.stands_for;
    }))))

signed_found : (levels at : ℕ) (found : Sign) (rest : Rest) (read : SourceExpr × Rest) → Deeper levels → signed_operand_by operand levels at found rest ≡ Ok read
    → OperandFound levels (state (mark at (sign_mark found) ∷ rest.spots) rest.operators) read
signed_found levels at found rest read deeper_found e =
    on_ok (deeper levels at) (λ level. operand level rest >>= λ inner. Ok (source.Unary at found inner.0, inner.1)) read e
    (λ level went e1. on_ok (operand level rest) (λ inner. Ok (source.Unary at found inner.0, inner.1)) read e1
    (λ inner came ended.
    let less = deeper-level levels at level went in
    let has = deeper_found level less rest inner came in
    subst (OperandFound levels (state (mark at (sign_mark found) ∷ rest.spots) rest.operators)) (ok_one _ _ ended)
    (record {
      operand = Signed at found has.operand;
      spells = ap (λ s. mark at (sign_mark found) ∷ s) has.spells;
      counts = has.counts;
      made = has.made;
      deep = omega (arith, has.deep, less);
      stands_for = ap (source.Unary at found) has.stands_for;
    })))

named_found : (levels at : ℕ) (name : List ℕ) (rest : Rest) (read : SourceExpr × Rest) → Deeper levels → reference_by operand levels at name rest ≡ Ok read
    → OperandFound levels (state (word at name ∷ rest.spots) rest.operators) read
named_found levels at name rest read deeper_found e =
    by_choice (begins_with marks.OpenRound rest.spots) (call_by operand levels at name rest) (Ok (source.Var at name, rest)) read e
    (λ opens came.
    let has = call_found levels at name rest read deeper_found came in
    record {
      operand = Called (Applied at name has.opened has.args has.closed);
      spells = ap (λ s. word at name ∷ s) has.spells;
      counts = has.counts;
      made = has.made;
      deep = has.deep;
      stands_for = has.stands_for;
    })
    (λ plain came. subst (OperandFound levels (state (word at name ∷ rest.spots) rest.operators)) (ok_one _ _ came)
    (record { operand = Named at name; spells = refl; counts = omega arith; made = refl; deep = omega arith; stands_for = refl }))

signed_if_found : (levels at : ℕ) (m : Mark) (o : Option Sign) (refusal : ParseError) (rest : Rest) (read : SourceExpr × Rest) → Deeper levels → sign_of m ≡ o
    → signed_if operand levels at o refusal rest ≡ Ok read → OperandFound levels (state (mark at m ∷ rest.spots) rest.operators) read
signed_if_found levels at m None refusal rest read deeper_found is e = absurd (cc)
signed_if_found levels at m (Some found) refusal rest read deeper_found is e =
    subst (λ (shown : Mark). OperandFound levels (state (mark at shown ∷ rest.spots) rest.operators) read) (sym (sign_of-mark m found is)) (signed_found levels at found rest read deeper_found e)

marked_found : (levels at : ℕ) (m : Mark) (refusal : ParseError) (rest : Rest) (read : SourceExpr × Rest) → Deeper levels → mark_operand_by operand levels at m refusal rest ≡ Ok read
    → OperandFound levels (state (mark at m ∷ rest.spots) rest.operators) read
marked_found levels at m refusal rest read deeper_found e =
    by_choice (sameb the_type m marks.OpenRound) (bracketed_expression_by operand levels at rest) (signed_if operand levels at (sign_of m) refusal rest) read e
    (λ opens came. subst (λ (shown : Mark). OperandFound levels (state (mark at shown ∷ rest.spots) rest.operators) read) (sym (same_true the_type tt m marks.OpenRound opens))
    (bracketed_found levels at rest read deeper_found came))
    (λ other came. signed_if_found levels at m (sign_of m) refusal rest read deeper_found refl came)

operand_by_found : (levels : ℕ) (k : TokenKind) (at : ℕ) (refusal : ParseError) (rest : Rest) (read : SourceExpr × Rest) → Deeper levels → operand_by operand levels k at refusal rest ≡ Ok read
    → OperandFound levels (state (record { at = at; kind = k } ∷ rest.spots) rest.operators) read
operand_by_found levels (kind.Number value) at refusal rest read deeper_found e =
    subst (OperandFound levels (state (number at value ∷ rest.spots) rest.operators)) (ok_one _ _ e)
    (record { operand = Number at value; spells = refl; counts = omega arith; made = refl; deep = omega arith; stands_for = refl })
operand_by_found levels (kind.Word name) at refusal rest read deeper_found e = named_found levels at name rest read deeper_found e
operand_by_found levels (kind.Mark m) at refusal rest read deeper_found e = marked_found levels at m refusal rest read deeper_found e
operand_by_found levels (kind.Keyword k) at refusal rest read deeper_found e = absurd (cc)
operand_by_found levels kind.End at refusal rest read deeper_found e = absurd (cc)

operand_in_found : (levels : ℕ) (spots : List Spot) (operators : ℕ) (read : SourceExpr × Rest) → Deeper levels → operand_in operand levels spots operators ≡ Ok read
    → OperandFound levels (state spots operators) read
operand_in_found levels [] operators read deeper_found e = absurd (cc)
operand_in_found levels (spot ∷ spots) operators read deeper_found e =
    operand_by_found levels spot.kind spot.at (refusal_of (spot ∷ spots)) (state spots operators) read deeper_found e

pub operands_found : (levels : ℕ) → OperandsFound levels
operands_found zero rest read e = operand_in_found zero rest.spots rest.operators read (λ level less. absurd (omega arith)) (sym (operand_at zero rest) ∙ e)
operands_found (suc levels) rest read e =
    operand_in_found (suc levels) rest.spots rest.operators read
    (λ level less. let same : levels ≡ level = omega arith in subst OperandsFound same (operands_found levels)) (sym (operand_at (suc levels) rest) ∙ e)

pub expression_found : (levels n : ℕ) (rest : Rest) (read : SourceExpr × Rest) → expression_below (operand levels) n rest ≡ Ok read → ExpressionFound n levels rest read
expression_found levels n rest read e = joined_found levels (operands_found levels) n rest read e
