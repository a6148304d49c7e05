-- What a derivation of an expression spells is read as its tree, whatever stands behind it.
use Rattle.std.proofs.Common.{◌≡◌, ℕ, ℤ, zero, suc, ◌+◌, ◌<◌, ◌≤◌, true, false, List, [], ◌∷◌, ◌++◌, refl, sym, ap, subst, ◌∙◌, arith, append-nil, append_assoc, ⊎_elim, length-append}
use Rattle.std.specs.Prelude.{None, Ok, nat_lt, ◌&&◌}
use Rattle.std.proofs.lemmas.Bool.{cases_lt, ltb-true}
use Rattle.std.proofs.lemmas.Bool.Decides.{nat_tests}
use Rattle.items.specs.Gives.{◌>>=◌}
use Rattle.c_lexer.specs.declared.mark.Mark.TheVariants as marks
use Rattle.syntax_tree.specs.declared.op.Op.{Op}
use Rattle.syntax_tree.specs.declared.op.Sign.{Sign}
use Rattle.syntax_tree.specs.declared.op.Sign.TheVariants.{Plus, Minus, Not}
use Rattle.syntax_tree.specs.SourceExpr as source
use Rattle.syntax_tree.specs.SourceExpr.{SourceExpr, exprs_from}
use Rattle.c_parser.specs.Descent.{Rest, arguments, begins_with, behind, call, expression_below, links, mark_operand_by, more_arguments, op_at, operand, operand_by, place_at, refusal_of, signed_operand_by}
use Rattle.c_parser.specs.Expressions as grammar
use Rattle.c_parser.specs.Expressions.{Operand, Number, Named, Called, Bracketed, Signed, Expression, Single, Joined, Call, Applied, Arguments, NoArguments, Listed, MoreArguments, NoMore, Another}
use Rattle.c_parser.specs.Operators.{op_mark, rank, sign_mark}
use Rattle.c_parser.specs.Spots.{Spot, mark, number, word}
use Rattle.c_parser.proofs.Repeats.{left_out}
use Rattle.c_parser.proofs.Equations.{operand_at, joined-none, joined-suc}
use Rattle.c_parser.proofs.Loops.{links-done, links-more, arguments-done, arguments-more}
use Rattle.c_parser.proofs.FirstTokens.{both, op_at-own, op_at-below, op-opens_nothing, expression-place, expression-opens}

abbrev state : List Spot → ℕ → Rest
state spots operators = record { spots = spots; operators = operators }

-- nothing that stands here goes on with an expression whose operators have ranks below `n`
pub record EndsAt (n : ℕ) (later : List Spot) : Type 0 where
  pub no_call : begins_with marks.OpenRound later ≡ false
  pub no_op : (r : ℕ) → r < n → op_at r later ≡ None

abbrev pub OperandReads : Operand → Type 0
OperandReads o = (levels ops total : ℕ) (later spots : List Spot) → spots ≡ grammar.operand_spots o ++ later → total ≡ grammar.operand_operators o + ops
    → grammar.operand_binds o ≡ true → grammar.operand_levels o ≤ levels → begins_with marks.OpenRound later ≡ false
    → operand levels (state spots total) ≡ Ok (grammar.operand_tree o, state later ops)

abbrev pub ReadsAt : Expression → ℕ → Type 0
ReadsAt e n = (levels ops total : ℕ) (later spots : List Spot) → spots ≡ grammar.expression_spots e ++ later → total ≡ grammar.operators e + ops
    → grammar.binds n e ≡ true → grammar.levels e ≤ levels → EndsAt n later
    → expression_below (operand levels) n (state spots total) ≡ Ok (grammar.tree e, state later ops)

-- the loop over the operators of a rank has come to behind the expression
abbrev pub LinksAt : Expression → ℕ → Type 0
LinksAt e r = (levels ops total : ℕ) (later spots : List Spot) → spots ≡ grammar.expression_spots e ++ later → total ≡ grammar.operators e + ops
    → grammar.binds (suc r) e ≡ true → grammar.levels e ≤ levels → EndsAt r later
    → expression_below (operand levels) (suc r) (state spots total) ≡ links r (expression_below (operand levels) r) (grammar.place e) (grammar.tree e, state later ops)

EndsAt-less : (m n : ℕ) (later : List Spot) → m ≤ n → EndsAt n later → EndsAt m later
EndsAt-less m n later h ends = record { no_call = ends.no_call; no_op = λ r less. ends.no_op r (omega arith) }

-- an expression with operators of lower ranks alone is the first part of the loop
first_part : (e : Expression) (r : ℕ) → ReadsAt e r → (levels ops total : ℕ) (later spots : List Spot) → spots ≡ grammar.expression_spots e ++ later
    → total ≡ grammar.operators e + ops → grammar.binds r e ≡ true → grammar.levels e ≤ levels → EndsAt r later
    → expression_below (operand levels) (suc r) (state spots total) ≡ links r (expression_below (operand levels) r) (grammar.place e) (grammar.tree e, state later ops)
first_part e r reads levels ops total later spots cut count made deep ends =
    joined-suc (operand levels) r (state spots total)
    ∙ ap (λ came. came >>= links r (expression_below (operand levels) r) (place_at spots)) (reads levels ops total later spots cut count made deep ends)
    ∙ ap (λ at. links r (expression_below (operand levels) r) at (grammar.tree e, state later ops)) (ap place_at cut ∙ expression-place e later)

-- where the loop ends behind the expression, the expression is what is read
last_part : (e : Expression) (r : ℕ) → LinksAt e r → ReadsAt e (suc r)
last_part e r comes levels ops total later spots cut count made deep ends =
    comes levels ops total later spots cut count made deep (EndsAt-less r (suc r) later (omega arith) ends)
    ∙ links-done r (expression_below (operand levels) r) (grammar.place e) (grammar.tree e, state later ops) (ends.no_op r (omega arith))

single_reads : (o : Operand) → OperandReads o → (n : ℕ) → ReadsAt (Single o) n
single_reads o reads zero levels ops total later spots cut count made deep ends =
    joined-none (operand levels) 0 (state spots total) refl ∙ reads levels ops total later spots cut count made deep ends.no_call
single_reads o reads (suc r) levels ops total later spots cut count made deep ends =
    last_part (Single o) r (first_part (Single o) r (single_reads o reads r)) levels ops total later spots cut count made deep ends

single_links : (o : Operand) → OperandReads o → (r : ℕ) → LinksAt (Single o) r
single_links o reads r = first_part (Single o) r (single_reads o reads r)

binds-parts : (left : Expression) (at : ℕ) (op : Op) (right : Expression) (n : ℕ) → grammar.binds n (Joined left at op right) ≡ true
    → (nat_lt (rank op) n ≡ true) × (grammar.binds (suc (rank op)) left ≡ true) × (grammar.binds (rank op) right ≡ true)
binds-parts left at op right n made =
    let one = both (nat_lt (rank op) n && grammar.binds (suc (rank op)) left) (grammar.binds (rank op) right) made in
    let two = both (nat_lt (rank op) n) (grammar.binds (suc (rank op)) left) one.0 in
    (two.0, two.1, one.1)

binds-low : (left : Expression) (at : ℕ) (op : Op) (right : Expression) (m n : ℕ) → rank op < n → grammar.binds m (Joined left at op right) ≡ true
    → grammar.binds n (Joined left at op right) ≡ true
binds-low left at op right m n low made =
    let parts = binds-parts left at op right m made in
    let less : nat_lt (rank op) n ≡ true = grind (arith, nat_tests) in
    rw (less, parts.1, parts.2) refl

-- a loop that has come to an operator of its rank goes on behind the right operand
own_links : (left : Expression) (at : ℕ) (op : Op) (right : Expression) → LinksAt left (rank op) → ReadsAt right (rank op) → LinksAt (Joined left at op right) (rank op)
own_links left at op right comes reads levels ops total later spots cut count made deep ends =
    let parts = binds-parts left at op right (suc (rank op)) made in
    let behind : List Spot = mark at (op_mark op) ∷ (grammar.expression_spots right ++ later) in
    comes levels (suc (grammar.operators right + ops)) total behind spots (cut ∙ append_assoc (grammar.expression_spots left) (mark at (op_mark op) ∷ grammar.expression_spots right) later)
    (omega arith) parts.1 (omega arith)
    (record {
      no_call = op-opens_nothing at op (grammar.expression_spots right ++ later);
      no_op = λ r less. op_at-below r at op (grammar.expression_spots right ++ later) less;
    })
    ∙ links-more (rank op) (expression_below (operand levels) (rank op)) (grammar.place left) (grammar.tree left, state behind (suc (grammar.operators right + ops))) op
    (grammar.tree (Joined left at op right), state later ops) (op_at-own at op (grammar.expression_spots right ++ later))
    (ap (λ came. came >>= λ read. Ok (source.Binary (grammar.place left) op (grammar.tree left) read.0, read.1))
    (reads levels ops (grammar.operators right + ops) later (grammar.expression_spots right ++ later) refl refl parts.2 (omega arith) ends))
    (simp length-append (omega arith))

joined_links : (left : Expression) (at : ℕ) (op : Op) (right : Expression) → LinksAt left (rank op) → ReadsAt right (rank op) → (r : ℕ) → LinksAt (Joined left at op right) r
joined_links left at op right comes reads zero levels ops total later spots cut count made deep ends =
    let parts = binds-parts left at op right 1 made in
    let low : rank op < 1 = ltb-true (rank op) 1 parts.0 in
    let same : rank op ≡ 0 = omega arith in
    subst (λ r. LinksAt (Joined left at op right) r) same (own_links left at op right comes reads) levels ops total later spots cut count made deep ends
joined_links left at op right comes reads (suc r) levels ops total later spots cut count made deep ends =
    let parts = binds-parts left at op right (suc (suc r)) made in
    let low : rank op < suc (suc r) = ltb-true (rank op) (suc (suc r)) parts.0 in
    ⊎_elim
    (λ less. first_part (Joined left at op right) (suc r) (last_part (Joined left at op right) r (joined_links left at op right comes reads r))
    levels ops total later spots cut count (binds-low left at op right (suc (suc r)) (suc r) less made) deep ends)
    (λ high. let same : rank op ≡ suc r = omega arith in
    subst (λ r. LinksAt (Joined left at op right) r) same (own_links left at op right comes reads) levels ops total later spots cut count made deep ends)
    (cases_lt (rank op) (suc r))

joined_reads : (left : Expression) (at : ℕ) (op : Op) (right : Expression) → LinksAt left (rank op) → ReadsAt right (rank op) → (n : ℕ) → ReadsAt (Joined left at op right) n
joined_reads left at op right comes reads zero levels ops total later spots cut count made deep ends =
    let parts = binds-parts left at op right 0 made in
    let low : rank op < 0 = ltb-true (rank op) 0 parts.0 in
    absurd (omega arith)
joined_reads left at op right comes reads (suc r) levels ops total later spots cut count made deep ends =
    last_part (Joined left at op right) r (joined_links left at op right comes reads r) levels ops total later spots cut count made deep ends

-- ---- arguments

abbrev pub more_list : MoreArguments → List SourceExpr
more_list NoMore = []
more_list (Another comma next more) = grammar.tree next ∷ more_list more

abbrev pub argument_list : Arguments → List SourceExpr
argument_list NoArguments = []
argument_list (Listed first more) = grammar.tree first ∷ more_list more

more_list-trees : (more : MoreArguments) → exprs_from (more_list more) ≡ grammar.more_trees more
more_list-trees NoMore = refl
more_list-trees (Another comma next more) = ap (source.Then (grammar.tree next)) (more_list-trees more)

pub argument_list-trees : (args : Arguments) → exprs_from (argument_list args) ≡ grammar.argument_trees args
argument_list-trees NoArguments = refl
argument_list-trees (Listed first more) = ap (source.Then (grammar.tree first)) (more_list-trees more)

-- in front of a closing bracket
abbrev pub MoreRead : MoreArguments → Type 0
MoreRead more = (levels ops total closed : ℕ) (later spots : List Spot) (front : List SourceExpr) → spots ≡ grammar.more_spots more ++ mark closed marks.CloseRound ∷ later
    → total ≡ grammar.more_operators more + ops → grammar.more_bind more ≡ true → grammar.more_levels more ≤ levels
    → more_arguments (expression_below (operand levels) 6) (front, state spots total) ≡ Ok (front ++ more_list more, state (mark closed marks.CloseRound ∷ later) ops)

abbrev pub ArgumentsRead : Arguments → Type 0
ArgumentsRead args = (levels ops total closed : ℕ) (later spots : List Spot) → spots ≡ grammar.argument_spots args ++ mark closed marks.CloseRound ∷ later
    → total ≡ grammar.argument_operators args + ops → grammar.arguments_bind args ≡ true → grammar.argument_levels args ≤ levels
    → arguments (expression_below (operand levels) 6) (state spots total) ≡ Ok (argument_list args, state (mark closed marks.CloseRound ∷ later) ops)

more-ends : (more : MoreArguments) (closed : ℕ) (later : List Spot) → EndsAt 6 (grammar.more_spots more ++ mark closed marks.CloseRound ∷ later)
more-ends NoMore closed later = record { no_call = refl; no_op = λ r less. refl }
more-ends (Another comma next more) closed later = record { no_call = refl; no_op = λ r less. refl }

no_more_read : MoreRead NoMore
no_more_read levels ops total closed later spots front cut count made deep =
    arguments-done (expression_below (operand levels) 6) (front, state spots total) (ap (begins_with marks.Comma) cut)
    ∙ (let same : total ≡ ops = omega arith in λ i. Ok (sym (append-nil front) i, state (cut i) (same i)))

another_read : (comma : ℕ) (next : Expression) (more : MoreArguments) → ReadsAt next 6 → MoreRead more → MoreRead (Another comma next more)
another_read comma next more reads go_on levels ops total closed later spots front cut count made deep =
    let parts = both (grammar.binds 6 next) (grammar.more_bind more) made in
    let behind : List Spot = grammar.more_spots more ++ mark closed marks.CloseRound ∷ later in
    let whole : spots ≡ mark comma marks.Comma ∷ (grammar.expression_spots next ++ behind) =
    cut ∙ ap (λ rest. mark comma marks.Comma ∷ rest) (append_assoc (grammar.expression_spots next) (grammar.more_spots more) (mark closed marks.CloseRound ∷ later)) in
    (λ i. more_arguments (expression_below (operand levels) 6) (front, state (whole i) total))
    ∙ arguments-more (expression_below (operand levels) 6) (front, state (mark comma marks.Comma ∷ (grammar.expression_spots next ++ behind)) total)
    (grammar.tree next, state behind (grammar.more_operators more + ops)) refl
    (reads levels (grammar.more_operators more + ops) total behind (grammar.expression_spots next ++ behind) refl (omega arith) parts.0 (omega arith) (more-ends more closed later))
    (simp length-append (omega arith))
    ∙ go_on levels ops (grammar.more_operators more + ops) closed later behind (front ++ grammar.tree next ∷ []) refl refl parts.1 (omega arith)
    ∙ ap (λ list. Ok (list, state (mark closed marks.CloseRound ∷ later) ops)) (append_assoc front (grammar.tree next ∷ []) (more_list more))

no_arguments_read : ArgumentsRead NoArguments
no_arguments_read levels ops total closed later spots cut count made deep =
    let same : total ≡ ops = omega arith in
    λ i. arguments (expression_below (operand levels) 6) (state (cut i) (same i))

listed_read : (first : Expression) (more : MoreArguments) → ReadsAt first 6 → MoreRead more → ArgumentsRead (Listed first more)
listed_read first more reads go_on levels ops total closed later spots cut count made deep =
    let parts = both (grammar.binds 6 first) (grammar.more_bind more) made in
    let behind : List Spot = grammar.more_spots more ++ mark closed marks.CloseRound ∷ later in
    let whole : spots ≡ grammar.expression_spots first ++ behind = cut ∙ append_assoc (grammar.expression_spots first) (grammar.more_spots more) (mark closed marks.CloseRound ∷ later) in
    left_out (begins_with marks.CloseRound spots) _ _ (ap (begins_with marks.CloseRound) whole ∙ expression-opens first behind)
    ∙ ap (λ came. came >>= λ read. more_arguments (expression_below (operand levels) 6) (read.0 ∷ [], read.1))
    (reads levels (grammar.more_operators more + ops) total behind spots whole (omega arith) parts.0 (omega arith) (more-ends more closed later))
    ∙ go_on levels ops (grammar.more_operators more + ops) closed later behind (grammar.tree first ∷ []) refl refl parts.1 (omega arith)

-- ---- calls and operands

abbrev pub call_tail : Call → List Spot
call_tail (Applied at name opened args closed) = mark opened marks.OpenRound ∷ (grammar.argument_spots args ++ mark closed marks.CloseRound ∷ [])

abbrev pub call_name : Call → List ℕ
call_name (Applied at name opened args closed) = name

-- behind the name
abbrev pub CallReads : Call → Type 0
CallReads c = (levels ops total : ℕ) (later spots : List Spot) → spots ≡ call_tail c ++ later → total ≡ grammar.call_operators c + ops
    → grammar.call_binds c ≡ true → grammar.call_levels c ≤ levels
    → call levels (grammar.call_place c) (call_name c) (state spots total) ≡ Ok (grammar.call_tree c, state later ops)

applied_reads : (at : ℕ) (name : List ℕ) (opened : ℕ) (args : Arguments) (closed : ℕ) → ArgumentsRead args → CallReads (Applied at name opened args closed)
applied_reads at name opened args closed reads zero ops total later spots cut count made deep = absurd (omega arith)
applied_reads at name opened args closed reads (suc level) ops total later spots cut count made deep =
    let inside : List Spot = grammar.argument_spots args ++ mark closed marks.CloseRound ∷ later in
    let whole : spots ≡ mark opened marks.OpenRound ∷ inside =
    cut ∙ ap (λ rest. mark opened marks.OpenRound ∷ rest) (append_assoc (grammar.argument_spots args) (mark closed marks.CloseRound ∷ []) later) in
    (λ i. call (suc level) at name (state (whole i) total))
    ∙ ap (λ came. came >>= λ read. behind marks.CloseRound read.1 >>= λ after. Ok (source.Call at name (exprs_from read.0), after))
    (reads level ops total closed later inside refl count made (omega arith))
    ∙ ap (λ trees. Ok (source.Call at name trees, state later ops)) (argument_list-trees args)

-- the first token of an operand decides
begun : (levels total : ℕ) (spots : List Spot) (spot : Spot) (rest : List Spot) → spots ≡ spot ∷ rest
    → operand levels (state spots total) ≡ operand_by operand levels spot.kind spot.at (refusal_of (spot ∷ rest)) (state rest total)
begun levels total spots spot rest cut = ap (λ s. operand levels (state s total)) cut ∙ operand_at levels (state (spot ∷ rest) total)

number_reads : (at : ℕ) (value : ℤ) → OperandReads (Number at value)
number_reads at value levels ops total later spots cut count made deep ends =
    begun levels total spots (number at value) later cut
    ∙ (let same : total ≡ ops = omega arith in λ i. Ok (source.Lit at value, state later (same i)))

named_reads : (at : ℕ) (name : List ℕ) → OperandReads (Named at name)
named_reads at name levels ops total later spots cut count made deep ends =
    begun levels total spots (word at name) later cut
    ∙ left_out (begins_with marks.OpenRound later) _ _ ends
    ∙ (let same : total ≡ ops = omega arith in λ i. Ok (source.Var at name, state later (same i)))

called_reads : (c : Call) → CallReads c → OperandReads (Called c)
called_reads (Applied at name opened args closed) reads levels ops total later spots cut count made deep ends =
    begun levels total spots (word at name) (call_tail (Applied at name opened args closed) ++ later) cut
    ∙ reads levels ops total later (call_tail (Applied at name opened args closed) ++ later) refl count made deep

closing-ends : (closed : ℕ) (later : List Spot) → EndsAt 6 (mark closed marks.CloseRound ∷ later)
closing-ends closed later = record { no_call = refl; no_op = λ r less. refl }

bracketed_reads : (opened : ℕ) (inner : Expression) (closed : ℕ) → ReadsAt inner 6 → OperandReads (Bracketed opened inner closed)
bracketed_reads opened inner closed reads zero ops total later spots cut count made deep ends = absurd (omega arith)
bracketed_reads opened inner closed reads (suc level) ops total later spots cut count made deep ends =
    let inside : List Spot = grammar.expression_spots inner ++ mark closed marks.CloseRound ∷ later in
    let whole : spots ≡ mark opened marks.OpenRound ∷ inside =
    cut ∙ ap (λ rest. mark opened marks.OpenRound ∷ rest) (append_assoc (grammar.expression_spots inner) (mark closed marks.CloseRound ∷ []) later) in
    begun (suc level) total spots (mark opened marks.OpenRound) inside whole
    ∙ ap (λ came. came >>= λ read. behind marks.CloseRound read.1 >>= λ after. Ok (grammar.with_place opened read.0, after))
    (reads level ops total (mark closed marks.CloseRound ∷ later) inside refl count made (omega arith) (closing-ends closed later))

signed_reads : (at : ℕ) (sign : Sign) (inner : Operand) → OperandReads inner → OperandReads (Signed at sign inner)
signed_reads at sign inner reads zero ops total later spots cut count made deep ends = absurd (omega arith)
signed_reads at sign inner reads (suc level) ops total later spots cut count made deep ends =
    begun (suc level) total spots (mark at (sign_mark sign)) (grammar.operand_spots inner ++ later) cut
    ∙ by_sign sign
    ∙ ap (λ came. came >>= λ read. Ok (source.Unary at sign read.0, read.1)) (reads level ops total later (grammar.operand_spots inner ++ later) refl count made (omega arith) ends)
  where
    by_sign : (sign : Sign) → mark_operand_by operand (suc level) at (sign_mark sign) (refusal_of (mark at (sign_mark sign) ∷ (grammar.operand_spots inner ++ later))) (state (grammar.operand_spots inner ++ later) total)
        ≡ signed_operand_by operand (suc level) at sign (state (grammar.operand_spots inner ++ later) total)
    by_sign Plus = refl
    by_sign Minus = refl
    by_sign Not = refl

-- ---- all together

mutual
  pub operand_reads : (o : Operand) → OperandReads o
  operand_reads (Number at value) = number_reads at value
  operand_reads (Named at name) = named_reads at name
  operand_reads (Called call) = called_reads call (call_reads call)
  operand_reads (Bracketed opened inner closed) = bracketed_reads opened inner closed (expression_reads inner 6)
  operand_reads (Signed at sign inner) = signed_reads at sign inner (operand_reads inner)

  pub expression_links : (e : Expression) (r : ℕ) → LinksAt e r
  expression_links (Single operand) r = single_links operand (operand_reads operand) r
  expression_links (Joined left at op right) r = joined_links left at op right (expression_links left (rank op)) (expression_reads right (rank op)) r

  pub expression_reads : (e : Expression) (n : ℕ) → ReadsAt e n
  expression_reads (Single operand) n = single_reads operand (operand_reads operand) n
  expression_reads (Joined left at op right) n = joined_reads left at op right (expression_links left (rank op)) (expression_reads right (rank op)) n

  pub call_reads : (c : Call) → CallReads c
  call_reads (Applied at name opened args closed) = applied_reads at name opened args closed (arguments_read args)

  pub arguments_read : (args : Arguments) → ArgumentsRead args
  arguments_read NoArguments = no_arguments_read
  arguments_read (Listed first more) = listed_read first more (expression_reads first 6) (more_read more)

  pub more_read : (more : MoreArguments) → MoreRead more
  more_read NoMore = no_more_read
  more_read (Another comma next more) = another_read comma next more (expression_reads next 6) (more_read more)
