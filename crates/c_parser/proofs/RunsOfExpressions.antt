-- How runs of the readers of expressions end.
use Rattle.std.proofs.Common.{◌≡◌, ℕ, zero, suc, ◌+◌, ◌<◌, true, false, List, [], ◌∷◌, ◌++◌, length, refl, sym, ap, subst, ◌∙◌, arith, length-append, ◌⊎◌, inl, inr}
use Rattle.std.specs.Prelude.{pos, Option, None, Some, is_some, Result, Ok}
use Rattle.items.specs.Gives.{◌>>=◌}
use Rattle.c_lexer.specs.declared.kind.TokenKind.{TokenKind}
use Rattle.c_lexer.specs.declared.kind.TokenKind.TheVariants as kind
use Rattle.c_lexer.specs.declared.mark.Mark.{Mark}
use Rattle.c_lexer.specs.declared.mark.Mark.TheVariants as marks
use Rattle.syntax_tree.specs.declared.op.Op.{Op}
use Rattle.syntax_tree.specs.declared.op.Sign.{Sign}
use Rattle.syntax_tree.specs.declared.op.Sign.TheVariants.{Plus, Minus, Not}
use Rattle.syntax_tree.specs.SourceExpr as source
use Rattle.syntax_tree.specs.SourceExpr.{SourceExpr, exprs_from}
use Rattle.c_parser.specs.declared.error.ParseError.{ParseError}
use Rattle.c_parser.specs.Descent.{Rest, argument, arguments, begins_with, behind, call_by, deeper, goes_on, has_comma, is_mark, expression_below, rest_length, rest_length_of_list, link_if, links, more_arguments, reference_by, op_at, op_in, operand, operand_in, spend, tail, whole, with_spots}
use Rattle.c_parser.specs.Expressions as grammar
use Rattle.c_parser.specs.Expressions.{Number, Bracketed, Signed, Single, Applied, NoArguments, with_place}
use Rattle.c_parser.specs.Operators.{sign_mark}
use Rattle.c_parser.specs.Spots.{Spot, ends_once, is_end, mark, number}
use Rattle.c_parser.proofs.Complete.{EndsAt, call_reads, expression_reads, operand_reads}
use Rattle.c_parser.proofs.CompleteLines.{bind_ok}
use Rattle.c_parser.proofs.Equations.{joined-none, joined-suc, operand_at}
use Rattle.c_parser.proofs.Derivations.{begins_with-mark, ok_one, one_less-rest, op_at-mark}
use Rattle.c_parser.proofs.Repeats.{chosen, left_out}
use Rattle.c_parser.proofs.Runs.{Finished, Behaves, Run, Shape, bind_err, run-chooses, run-deep, nothing-behaves, run-same, loop-run, loop-short, behaves-map, mark-is, mark-no_end, run-past, limit, limit-sum, run-refuses, behaves-same, run-skips, run-stays, behaves-then, run-then}
use Rattle.c_parser.proofs.Soundness.{expression_found}
use Rattle.c_parser.proofs.SoundLines.{steps}

-- ---- values and what is left behind them

abbrev pub rest_at : List Spot → ℕ → Rest
rest_at spots operators = record { spots = spots; operators = operators }

abbrev pub rest_shape : (A : Type 0) → Shape (A × Rest)
rest_shape A = record { set = λ v x. (v.0, rest_at x v.1.operators); up = λ more v. (v.0, rest_at v.1.spots (limit more v.1.operators)) }

abbrev pub pair_shape : (A : Type 0) → Shape (A × List Spot)
pair_shape A = record { set = λ v x. (v.0, x); up = λ more v. v }

abbrev pub expr_shape : Shape (SourceExpr × Rest)
expr_shape = rest_shape SourceExpr

abbrev pub exprs_shape : Shape (List SourceExpr × Rest)
exprs_shape = rest_shape (List SourceExpr)

abbrev pub value_shape : Shape (SourceExpr × List Spot)
value_shape = pair_shape SourceExpr

-- ---- what ends a phrase

abbrev pub StartsWith : Mark → List Spot → Type 0
StartsWith m later = begins_with m later ≡ true

-- a semicolon or a closing bracket
abbrev pub Stop : List Spot → Type 0
Stop later = ((at : ℕ) × (x : List Spot) × (later ≡ mark at marks.Semi ∷ x)) ⊎ ((at : ℕ) × (x : List Spot) × (later ≡ mark at marks.CloseRound ∷ x))

pub by_stop : (P : List Spot → Type 0) → ((at : ℕ) (x : List Spot) → P (mark at marks.Semi ∷ x)) → ((at : ℕ) (x : List Spot) → P (mark at marks.CloseRound ∷ x)) → (later : List Spot) → Stop later → P later
by_stop P semi round later (inl s) = subst P (sym s.2) (semi s.0 s.1)
by_stop P semi round later (inr s) = subst P (sym s.2) (round s.0 s.1)

pub stop-ends : (n : ℕ) (later : List Spot) → Stop later → EndsAt n later
stop-ends n = by_stop (EndsAt n) (λ at x. record { no_call = refl; no_op = λ r less. refl }) (λ at x. record { no_call = refl; no_op = λ r less. refl })

pub stop-no_op : (r : ℕ) (later : List Spot) → Stop later → is_some (op_at r later) ≡ false
stop-no_op r = by_stop (λ later. is_some (op_at r later) ≡ false) (λ at x. refl) (λ at x. refl)

pub round-stops : (later : List Spot) → StartsWith marks.CloseRound later → Stop later
round-stops later ok = let first = begins_with-mark marks.CloseRound later ok in inr (first.0, tail later, first.1)

pub semi-stops : (later : List Spot) → StartsWith marks.Semi later → Stop later
semi-stops later ok = let first = begins_with-mark marks.Semi later ok in inl (first.0, tail later, first.1)

round_no_comma : (later : List Spot) → StartsWith marks.CloseRound later → begins_with marks.Comma later ≡ false
round_no_comma later ok = ap (begins_with marks.Comma) (begins_with-mark marks.CloseRound later ok).1

-- ---- the shortest expression

abbrev pub nought : Spot
nought = number 0 (pos 0)

expression-short : (levels n operators : ℕ) (later : List Spot) → Stop later
    → expression_below (operand levels) n (rest_at (nought ∷ later) operators) ≡ Ok (source.Lit 0 (pos 0), rest_at later operators)
expression-short levels n operators later ok =
    expression_reads (Single (Number 0 (pos 0))) n levels operators operators later (nought ∷ later) refl (omega arith) refl (omega arith) (stop-ends n later ok)

operand-short : (levels operators : ℕ) (later : List Spot) → Stop later
    → operand levels (rest_at (nought ∷ later) operators) ≡ Ok (source.Lit 0 (pos 0), rest_at later operators)
operand-short levels operators later ok =
    operand_reads (Number 0 (pos 0)) levels operators operators later (nought ∷ later) refl (omega arith) refl (omega arith) (stop-ends 0 later ok).no_call

abbrev pub OperandsBehave : ℕ → Type 0
OperandsBehave lv = (ops : ℕ) → Behaves expr_shape Stop (nought ∷ []) (λ more x. operand (limit more lv) (rest_at x (limit more ops)))

-- ---- operators

link-less : (levels r at : ℕ) (v after : SourceExpr × Rest) (o : Option Op) → op_at r v.1.spots ≡ o → is_some o ≡ true
    → link_if (expression_below (operand levels) r) at o v ≡ Ok after → rest_length after < rest_length v
link-less levels r at v after None is some made = cc
link-less levels r at v after (Some op) is some made =
    let first = op_at-mark r v.1.spots op is in
    let s = steps (spend v.1) (λ rest. expression_below (operand levels) r rest >>= λ right. Ok (source.Binary at op v.0 right.0, right.1)) after made in
    let t = steps (expression_below (operand levels) r s.0) (λ right. Ok (source.Binary at op v.0 right.0, right.1)) after s.2 in
    let other = expression_found levels r s.0 t.0 t.1 in
    let whole : length v.1.spots ≡ suc (length (tail v.1.spots)) = ap length first.1 in
    let behind_op : length (tail v.1.spots) ≡ length s.0.spots = ap length (one_less-rest v.1.spots v.1.operators s.0 s.1).0 in
    let right : length s.0.spots ≡ length (grammar.expression_spots other.expression) + length t.0.1.spots =
    ap length other.spells ∙ length-append (grammar.expression_spots other.expression) t.0.1.spots in
    let same : length t.0.1.spots ≡ length after.1.spots = ap (λ (r : SourceExpr × Rest). length r.1.spots) (ok_one _ _ t.2) in
    omega (arith, whole, behind_op, right, same)

module _ (lv r at : ℕ) (operands : (ops : ℕ) → Behaves expr_shape Stop (nought ∷ []) (λ more x. expression_below (operand (limit more lv)) r (rest_at x (limit more ops)))) where
  abbrev link_step : ℕ → SourceExpr × Rest → Result (SourceExpr × Rest) ParseError
  link_step more read = link_if (expression_below (operand (limit more lv)) r) at (op_at r read.1.spots) read

  abbrev link_run_of : SourceExpr × Rest → ℕ → List Spot → Result (SourceExpr × Rest) ParseError
  link_run_of v more x = link_step more (v.0, rest_at x (limit more v.1.operators))

  abbrev linked : Op → SourceExpr × Rest → SourceExpr × Rest → Result (SourceExpr × Rest) ParseError
  linked op v right = Ok (source.Binary at op v.0 right.0, right.1)

  some_no_end : (s : Spot) (op : Op) → op_in r s.kind ≡ Some op → is_end s.kind ≡ false
  some_no_end s op is = by_kind s.kind is
    where
      by_kind : (k : TokenKind) → op_in r k ≡ Some op → is_end k ≡ false
      by_kind (kind.Mark m) is = refl
      by_kind (kind.Word name) is = refl
      by_kind (kind.Keyword k) is = refl
      by_kind (kind.Number value) is = refl
      by_kind kind.End is = cc

  link-run : (v : SourceExpr × Rest) (s : Spot) (x : List Spot) (o : Option Op) → op_in r s.kind ≡ o → is_some o ≡ true → ends_once (s ∷ x) ≡ true
      → Run expr_shape Stop (link_run_of v) (s ∷ x)
  link-run v s x None is some e = cc
  link-run v s x (Some op) is some e =
      run-deep expr_shape Stop (link_run_of v)
      (λ more less y. expression_below (operand (limit more lv)) r (rest_at y less) >>= λ right. Ok (source.Binary at op v.0 right.0, right.1)) s x (some_no_end s op is) e
      (nought ∷ [])
      (λ later ok. (
        (source.Binary at op v.0 (source.Lit 0 (pos 0)), rest_at [] (fewer v.1.operators)),
        taken 1 v.1.operators (nought ∷ later) ∙ by_one later ok v.1.operators,
      ))
      v.1.operators (λ more y. taken more v.1.operators y)
      (λ less same. behaves-map expr_shape expr_shape Stop (λ more y. expression_below (operand (limit more lv)) r (rest_at y (limit more less)))
      (λ right. (source.Binary at op v.0 right.0, right.1)) _ (λ more y. refl) (λ right y. refl) (λ more right y. refl) (operands less))
    where
      fewer : ℕ → ℕ
      fewer zero = 0
      fewer (suc n) = limit 1 n

      taken : (more n : ℕ) (y : List Spot) → link_step more (v.0, rest_at (s ∷ y) (limit more n)) ≡ deeper (limit more n) s.at >>= λ less. expression_below (operand (limit more lv)) r (rest_at y less) >>= λ right. Ok (source.Binary at op v.0 right.0, right.1)
      taken more n y = ap (λ o. link_if (expression_below (operand (limit more lv)) r) at o (v.0, rest_at (s ∷ y) (limit more n))) is ∙ by_number (limit more n)
        where
          by_number : (m : ℕ) → link_if (expression_below (operand (limit more lv)) r) at (Some op) (v.0, rest_at (s ∷ y) m) ≡ deeper m s.at >>= λ less. expression_below (operand (limit more lv)) r (rest_at y less) >>= λ right. Ok (source.Binary at op v.0 right.0, right.1)
          by_number zero = refl
          by_number (suc m) = refl

      by_one : (later : List Spot) → Stop later → (n : ℕ)
          → (deeper (limit 1 n) s.at >>= λ less. expression_below (operand (limit 1 lv)) r (rest_at (nought ∷ later) less) >>= linked op v)
          ≡ Ok (source.Binary at op v.0 (source.Lit 0 (pos 0)), rest_at later (fewer n))
      by_one later ok zero = bind_ok _ (expression-short (limit 1 lv) r 0 later ok) refl
      by_one later ok (suc n) = bind_ok _ (expression-short (limit 1 lv) r (limit 1 n) later ok) refl

  links-run : (v : SourceExpr × Rest) (x : List Spot) → ends_once x ≡ true
      → Run expr_shape Stop (λ more x. links r (expression_below (operand (limit more lv)) r) at (v.0, rest_at x (limit more v.1.operators))) x
  links-run v x e =
      loop-run expr_shape Stop Stop rest_length (goes_on r) (λ s. is_some (op_in r s.kind)) link_step
      (λ v x. refl) (λ v s x. refl) (λ v later ok. stop-no_op r later ok) (λ later ok. ok)
      (λ more v after test made. link-less (limit more lv) r at v after (op_at r v.1.spots) refl test made)
      (λ v s x is e. link-run v s x (op_in r s.kind) refl is e) v x e

  links-short : (more : ℕ) (v : SourceExpr × Rest) (later : List Spot) → Stop later
      → Finished expr_shape (links r (expression_below (operand (limit more lv)) r) at (v.0, rest_at later v.1.operators)) later
  links-short more v later ok =
      loop-short expr_shape Stop Stop rest_length (goes_on r) (λ s. is_some (op_in r s.kind)) link_step
      (λ v x. refl) (λ v s x. refl) (λ v later ok. stop-no_op r later ok) (λ later ok. ok)
      (λ more v after test made. link-less (limit more lv) r at v after (op_at r v.1.spots) refl test made)
      (λ v s x is e. link-run v s x (op_in r s.kind) refl is e) more v later ok

abbrev pub JoinedBehave : ℕ → ℕ → Type 0
JoinedBehave lv n = (ops : ℕ) → Behaves expr_shape Stop (nought ∷ []) (λ more x. expression_below (operand (limit more lv)) n (rest_at x (limit more ops)))

pub joined-runs : (lv : ℕ) → OperandsBehave lv → (n : ℕ) → JoinedBehave lv n
joined-runs lv operands zero ops =
    behaves-same expr_shape Stop _ (λ more x. operand (limit more lv) (rest_at x (limit more ops))) (λ more x. joined-none (operand (limit more lv)) 0 (rest_at x (limit more ops)) refl) (operands ops)
joined-runs lv operands (suc r) ops = record {
  shortest = λ more later ok. ((source.Lit 0 (pos 0), rest_at [] (limit more ops)), expression-short (limit more lv) (suc r) (limit more ops) later ok);
  runs = λ spots e. by_first (joined-runs lv operands r) spots e;
}
  where
    by_first : JoinedBehave lv r → (spots : List Spot) → ends_once spots ≡ true → Run expr_shape Stop (λ more x. expression_below (operand (limit more lv)) (suc r) (rest_at x (limit more ops))) spots
    by_first lower [] e = cc
    by_first lower (s ∷ x) e =
        run-same expr_shape Stop (λ more x. expression_below (operand (limit more lv)) (suc r) (rest_at x (limit more ops)))
        (λ more x. expression_below (operand (limit more lv)) r (rest_at x (limit more ops)) >>= links r (expression_below (operand (limit more lv)) r) s.at) s x
        (λ more y. joined-suc (operand (limit more lv)) r (rest_at (s ∷ y) (limit more ops)))
        (run-then expr_shape expr_shape Stop Stop (λ more x. expression_below (operand (limit more lv)) r (rest_at x (limit more ops)))
        (λ more v. links r (expression_below (operand (limit more lv)) r) s.at v) _ (λ more x. refl) [] (λ later ok. ok) (links-short lv r s.at lower)
        (s ∷ x) e (links-run lv r s.at lower) ((lower ops).runs (s ∷ x) e))

-- ---- arguments

argument-less : (levels : ℕ) (v after : List SourceExpr × Rest) → has_comma v ≡ true → argument (expression_below (operand levels) 6) v ≡ Ok after → rest_length_of_list after < rest_length_of_list v
argument-less levels v after test made =
    let comma = begins_with-mark marks.Comma v.1.spots test in
    let s = steps (expression_below (operand levels) 6 (with_spots v.1 (tail v.1.spots))) (λ next. Ok (v.0 ++ next.0 ∷ [], next.1)) after made in
    let other = expression_found levels 6 (with_spots v.1 (tail v.1.spots)) s.0 s.1 in
    let whole : length v.1.spots ≡ suc (length (tail v.1.spots)) = ap length comma.1 in
    let right : length (tail v.1.spots) ≡ length (grammar.expression_spots other.expression) + length s.0.1.spots =
    ap length other.spells ∙ length-append (grammar.expression_spots other.expression) s.0.1.spots in
    let same : length s.0.1.spots ≡ length after.1.spots = ap (λ (r : List SourceExpr × Rest). length r.1.spots) (ok_one _ _ s.2) in
    omega (arith, whole, right, same)

module _ (lv : ℕ) (expressions : JoinedBehave lv 6) where
  abbrev argument_step : ℕ → List SourceExpr × Rest → Result (List SourceExpr × Rest) ParseError
  argument_step more read = argument (expression_below (operand (limit more lv)) 6) read

  argument-run : (v : List SourceExpr × Rest) (s : Spot) (x : List Spot) → is_mark marks.Comma s.kind ≡ true → ends_once (s ∷ x) ≡ true
      → Run exprs_shape Stop (λ more x. argument_step more (v.0, rest_at x (limit more v.1.operators))) (s ∷ x)
  argument-run v s x is e =
      run-skips exprs_shape Stop (λ more x. argument_step more (v.0, rest_at x (limit more v.1.operators)))
      (λ more y. expression_below (operand (limit more lv)) 6 (rest_at y (limit more v.1.operators)) >>= λ next. Ok (v.0 ++ next.0 ∷ [], next.1)) s x (mark-no_end marks.Comma s is) (λ more y. refl)
      (behaves-map expr_shape exprs_shape Stop (λ more y. expression_below (operand (limit more lv)) 6 (rest_at y (limit more v.1.operators)))
      (λ next. (v.0 ++ next.0 ∷ [], next.1)) _ (λ more y. refl) (λ next y. refl) (λ more next y. refl) (expressions v.1.operators)) e

  more_arguments-run : (v : List SourceExpr × Rest) (x : List Spot) → ends_once x ≡ true
      → Run exprs_shape (StartsWith marks.CloseRound) (λ more x. more_arguments (expression_below (operand (limit more lv)) 6) (v.0, rest_at x (limit more v.1.operators))) x
  more_arguments-run v x e =
      loop-run exprs_shape (StartsWith marks.CloseRound) Stop rest_length_of_list has_comma (λ s. is_mark marks.Comma s.kind) argument_step
      (λ v x. refl) (λ v s x. refl) (λ v later ok. round_no_comma later ok) round-stops
      (λ more v after test made. argument-less (limit more lv) v after test made) argument-run v x e

  more_arguments-short : (more : ℕ) (v : List SourceExpr × Rest) (later : List Spot) → StartsWith marks.CloseRound later
      → Finished exprs_shape (more_arguments (expression_below (operand (limit more lv)) 6) (v.0, rest_at later v.1.operators)) later
  more_arguments-short more v later ok =
      loop-short exprs_shape (StartsWith marks.CloseRound) Stop rest_length_of_list has_comma (λ s. is_mark marks.Comma s.kind) argument_step
      (λ v x. refl) (λ v s x. refl) (λ v later ok. round_no_comma later ok) round-stops
      (λ more v after test made. argument-less (limit more lv) v after test made) argument-run more v later ok

  arguments-behaves : (ops : ℕ) → Behaves exprs_shape (StartsWith marks.CloseRound) [] (λ more x. arguments (expression_below (operand (limit more lv)) 6) (rest_at x (limit more ops)))
  arguments-behaves ops = record {
    shortest = λ more later ok. (([], rest_at [] (limit more ops)), chosen (begins_with marks.CloseRound later) _ _ ok);
    runs = run-chooses exprs_shape (StartsWith marks.CloseRound) (λ more x. arguments (expression_below (operand (limit more lv)) 6) (rest_at x (limit more ops)))
        (λ more x. Ok ([], rest_at x (limit more ops)))
        (λ more x. expression_below (operand (limit more lv)) 6 (rest_at x (limit more ops)) >>= λ first. more_arguments (expression_below (operand (limit more lv)) 6) (first.0 ∷ [], first.1))
        (λ s. is_mark marks.CloseRound s.kind) (λ more s y. refl)
        (λ s x is e. run-stays exprs_shape (StartsWith marks.CloseRound) (λ more x. Ok ([], rest_at x (limit more ops))) s x ([], rest_at [] ops) (λ more y. refl))
        (λ s x is e. run-then expr_shape exprs_shape Stop (StartsWith marks.CloseRound)
        (λ more x. expression_below (operand (limit more lv)) 6 (rest_at x (limit more ops))) (λ more first. more_arguments (expression_below (operand (limit more lv)) 6) (first.0 ∷ [], first.1)) _ (λ more x. refl)
        [] round-stops (λ more v later ok. more_arguments-short more (v.0 ∷ [], v.1) later ok) (s ∷ x) e
        (λ v x e. more_arguments-run (v.0 ∷ [], v.1) x e) ((expressions ops).runs (s ∷ x) e));
  }

-- ---- calls

abbrev pub Smaller : ℕ → Type 0
Smaller lv = (less : ℕ) → lv ≡ suc less → OperandsBehave less

pub call-run : (F : List Spot → Type 0) (lv : ℕ) → Smaller lv → (ops at : ℕ) (name : List ℕ) (s : Spot) (x : List Spot) → is_mark marks.OpenRound s.kind ≡ true → ends_once (s ∷ x) ≡ true
    → Run expr_shape F (λ more x. call_by operand (limit more lv) at name (rest_at x (limit more ops))) (s ∷ x)
call-run F lv smaller ops at name s x is e =
    let same = mark-is marks.OpenRound s is in
    subst (λ s. Run expr_shape F (λ more x. call_by operand (limit more lv) at name (rest_at x (limit more ops))) (s ∷ x)) (sym same)
    (run-deep expr_shape F (λ more x. call_by operand (limit more lv) at name (rest_at x (limit more ops)))
    (λ more level y. arguments (expression_below (operand level) 6) (rest_at y (limit more ops)) >>= λ args. behind marks.CloseRound args.1 >>= λ after. Ok (source.Call at name (exprs_from args.0), after))
    (mark s.at marks.OpenRound) x refl (ap (λ s. ends_once (s ∷ x)) (sym same) ∙ e) (mark 0 marks.CloseRound ∷ [])
    (λ later ok. (
      (grammar.call_tree (Applied at name s.at NoArguments 0), rest_at [] (limit 1 ops)),
      call_reads (Applied at name s.at NoArguments 0) (limit 1 lv) (limit 1 ops) (limit 1 ops) later (mark s.at marks.OpenRound ∷ mark 0 marks.CloseRound ∷ later) refl (omega arith) refl
          (let sum = limit-sum 1 lv in omega (arith, sum)),
    ))
    lv (λ more y. refl)
    (λ less is. behaves-then exprs_shape expr_shape (StartsWith marks.CloseRound) F
    (λ more y. arguments (expression_below (operand (limit more less)) 6) (rest_at y (limit more ops)))
    (λ more args. behind marks.CloseRound args.1 >>= λ after. Ok (source.Call at name (exprs_from args.0), after)) _ (λ more y. refl)
    (mark 0 marks.CloseRound ∷ []) (λ later ok. refl) (λ more v later ok. ((source.Call at name (exprs_from v.0), v.1), refl))
    (arguments-behaves less (joined-runs less (smaller less is) 6) ops)
    (λ v x e. run-past expr_shape F _ marks.CloseRound (λ closed. (source.Call at name (exprs_from v.0), v.1)) (λ more at y. refl)
    (λ more s y is. bind_err _ (bind_err _ (left_out (is_mark marks.CloseRound s.kind) _ _ is))) x e)))

-- ---- operands

module _ (lv : ℕ) (smaller : Smaller lv) (ops : ℕ) where
  abbrev reading : ℕ → List Spot → Result (SourceExpr × Rest) ParseError
  reading more x = operand (limit more lv) (rest_at x (limit more ops))

  named-behaves : (at : ℕ) (name : List ℕ) → Behaves expr_shape Stop [] (λ more x. reference_by operand (limit more lv) at name (rest_at x (limit more ops)))
  named-behaves at name = record {
    shortest = λ more later ok. ((source.Var at name, rest_at [] (limit more ops)), left_out (begins_with marks.OpenRound later) _ _ (stop-ends 0 later ok).no_call);
    runs = run-chooses expr_shape Stop (λ more x. reference_by operand (limit more lv) at name (rest_at x (limit more ops)))
        (λ more x. call_by operand (limit more lv) at name (rest_at x (limit more ops))) (λ more x. Ok (source.Var at name, rest_at x (limit more ops)))
        (λ s. is_mark marks.OpenRound s.kind) (λ more s y. refl)
        (λ s x is e. call-run Stop lv smaller ops at name s x is e)
        (λ s x is e. run-stays expr_shape Stop (λ more x. Ok (source.Var at name, rest_at x (limit more ops))) s x (source.Var at name, rest_at [] ops) (λ more y. refl));
  }

  bracket-run : (at : ℕ) (x : List Spot) → ends_once (mark at marks.OpenRound ∷ x) ≡ true → Run expr_shape Stop reading (mark at marks.OpenRound ∷ x)
  bracket-run at x e =
      run-deep expr_shape Stop reading
      (λ more level y. expression_below (operand level) 6 (rest_at y (limit more ops)) >>= λ inner. behind marks.CloseRound inner.1 >>= λ after. Ok (with_place at inner.0, after))
      (mark at marks.OpenRound) x refl e (nought ∷ mark 0 marks.CloseRound ∷ [])
      (λ later ok. (
        (grammar.operand_tree (Bracketed at (Single (Number 0 (pos 0))) 0), rest_at [] (limit 1 ops)),
        operand_reads (Bracketed at (Single (Number 0 (pos 0))) 0) (limit 1 lv) (limit 1 ops) (limit 1 ops) later (mark at marks.OpenRound ∷ nought ∷ mark 0 marks.CloseRound ∷ later) refl (omega arith) refl
            (let sum = limit-sum 1 lv in omega (arith, sum)) (stop-ends 0 later ok).no_call,
      ))
      lv (λ more y. operand_at (limit more lv) (rest_at (mark at marks.OpenRound ∷ y) (limit more ops)))
      (λ less is. behaves-then expr_shape expr_shape Stop Stop
      (λ more y. expression_below (operand (limit more less)) 6 (rest_at y (limit more ops))) (λ more inner. behind marks.CloseRound inner.1 >>= λ after. Ok (with_place at inner.0, after)) _ (λ more y. refl)
      (mark 0 marks.CloseRound ∷ []) (λ later ok. inr (0, later, refl)) (λ more v later ok. ((with_place at v.0, v.1), refl))
      (joined-runs less (smaller less is) 6 ops)
      (λ v x e. run-past expr_shape Stop _ marks.CloseRound (λ closed. (with_place at v.0, v.1)) (λ more at y. refl)
      (λ more s y is. bind_err _ (bind_err _ (left_out (is_mark marks.CloseRound s.kind) _ _ is))) x e))

  signed-run : (at : ℕ) (sign : Sign) (x : List Spot) → ends_once (mark at (sign_mark sign) ∷ x) ≡ true
      → ((more : ℕ) (y : List Spot) → reading more (mark at (sign_mark sign) ∷ y) ≡ deeper (limit more lv) at >>= λ level. operand level (rest_at y (limit more ops)) >>= λ inner. Ok (source.Unary at sign inner.0, inner.1))
      → Run expr_shape Stop reading (mark at (sign_mark sign) ∷ x)
  signed-run at sign x e same =
      run-deep expr_shape Stop reading (λ more level y. operand level (rest_at y (limit more ops)) >>= λ inner. Ok (source.Unary at sign inner.0, inner.1))
      (mark at (sign_mark sign)) x refl e (nought ∷ [])
      (λ later ok. (
        (source.Unary at sign (source.Lit 0 (pos 0)), rest_at [] (limit 1 ops)),
        operand_reads (Signed at sign (Number 0 (pos 0))) (limit 1 lv) (limit 1 ops) (limit 1 ops) later (mark at (sign_mark sign) ∷ nought ∷ later) refl (omega arith) refl
            (let sum = limit-sum 1 lv in omega (arith, sum)) (stop-ends 0 later ok).no_call,
      ))
      lv same
      (λ less is. behaves-map expr_shape expr_shape Stop (λ more y. operand (limit more less) (rest_at y (limit more ops)))
      (λ inner. (source.Unary at sign inner.0, inner.1)) _ (λ more y. refl) (λ inner y. refl) (λ more inner y. refl) (smaller less is ops))

  begun : (more : ℕ) (s : Spot) (y : List Spot) → reading more (s ∷ y) ≡ operand_in operand (limit more lv) (s ∷ y) (limit more ops)
  begun more s y = operand_at (limit more lv) (rest_at (s ∷ y) (limit more ops))

  marked-run : (at : ℕ) (m : Mark) (x : List Spot) → ends_once (mark at m ∷ x) ≡ true → Run expr_shape Stop reading (mark at m ∷ x)
  marked-run at marks.OpenRound x e = bracket-run at x e
  marked-run at marks.Plus x e = signed-run at Plus x e (λ more y. begun more (mark at marks.Plus) y)
  marked-run at marks.Minus x e = signed-run at Minus x e (λ more y. begun more (mark at marks.Minus) y)
  marked-run at marks.Bang x e = signed-run at Not x e (λ more y. begun more (mark at marks.Bang) y)
  marked-run at m x e = run-refuses expr_shape Stop reading (mark at m) x (λ more y. begun more (mark at m) y)

  kind-run : (at : ℕ) (k : TokenKind) (x : List Spot) → ends_once (record { at = at; kind = k } ∷ x) ≡ true → Run expr_shape Stop reading (record { at = at; kind = k } ∷ x)
  kind-run at (kind.Number value) x e =
      run-skips expr_shape Stop reading (λ more y. Ok (source.Lit at value, rest_at y (limit more ops))) (record { at = at; kind = kind.Number value }) x refl
      (λ more y. begun more (record { at = at; kind = kind.Number value }) y)
      (nothing-behaves expr_shape Stop (source.Lit at value, rest_at [] ops)) e
  kind-run at (kind.Word name) x e =
      run-skips expr_shape Stop reading (λ more y. reference_by operand (limit more lv) at name (rest_at y (limit more ops))) (record { at = at; kind = kind.Word name }) x refl
      (λ more y. begun more (record { at = at; kind = kind.Word name }) y) (named-behaves at name) e
  kind-run at (kind.Mark m) x e = marked-run at m x e
  kind-run at (kind.Keyword k) x e = run-refuses expr_shape Stop reading (record { at = at; kind = kind.Keyword k }) x (λ more y. begun more (record { at = at; kind = kind.Keyword k }) y)
  kind-run at kind.End x e = run-refuses expr_shape Stop reading (record { at = at; kind = kind.End }) x (λ more y. begun more (record { at = at; kind = kind.End }) y)

  operand_of : Behaves expr_shape Stop (nought ∷ []) reading
  operand_of = record {
    shortest = λ more later ok. ((source.Lit 0 (pos 0), rest_at [] (limit more ops)), operand-short (limit more lv) (limit more ops) later ok);
    runs = λ spots e. by_first spots e;
  }
    where
      by_first : (spots : List Spot) → ends_once spots ≡ true → Run expr_shape Stop reading spots
      by_first [] e = cc
      by_first (s ∷ x) e = kind-run s.at s.kind x e

pub operands-run : (lv : ℕ) → OperandsBehave lv
operands-run zero = operand_of zero (λ less is. absurd (omega (arith, is)))
operands-run (suc lv) = operand_of (suc lv) (λ less is. let same : lv ≡ less = omega (arith, is) in subst OperandsBehave same (operands-run lv))

pub smaller-run : (lv : ℕ) → Smaller lv
smaller-run lv less is = operands-run less

-- ---- whole expressions

pub whole-run : (most lv : ℕ) → Behaves value_shape Stop (nought ∷ []) (λ more x. whole (limit more most) (limit more lv) x)
whole-run most lv =
    behaves-map expr_shape value_shape Stop (λ more x. expression_below (operand (limit more lv)) 6 (rest_at x (limit more most)))
    (λ read. (read.0, read.1.spots)) _ (λ more x. refl) (λ read x. refl) (λ more read x. refl) (joined-runs lv (operands-run lv) 6 most)
