-- How runs of the readers of what lines are made of end.
use Rattle.std.proofs.Common.{◌≡◌, ℕ, suc, ◌+◌, ◌<◌, Bool, true, false, List, [], ◌∷◌, ◌++◌, length, refl, ap, ◌∙◌, arith, length-append, inl, inr}
use Rattle.std.specs.Prelude.{pos, Option, None, Some, Ok, Err, if◌then◌else◌}
use Rattle.items.specs.Gives.{◌>>=◌}
use Rattle.c_lexer.specs.declared.keyword.Keyword.{Keyword}
use Rattle.c_lexer.specs.declared.keyword.Keyword.TheVariants as keywords
use Rattle.c_lexer.specs.declared.kind.TokenKind.{TokenKind}
use Rattle.c_lexer.specs.declared.kind.TokenKind.TheVariants as kind
use Rattle.c_lexer.specs.declared.mark.Mark.{Mark}
use Rattle.c_lexer.specs.declared.mark.Mark.TheVariants as marks
use Rattle.syntax_tree.specs.declared.op.Op.{Op}
use Rattle.syntax_tree.specs.declared.op.Op.TheVariants as op
use Rattle.syntax_tree.specs.SourceExpr as source
use Rattle.syntax_tree.specs.SourceExpr.{SourceExpr}
use Rattle.syntax_tree.specs.SourceLine as line
use Rattle.syntax_tree.specs.SourceLine.{SourceLine, lines_from}
use Rattle.c_parser.specs.Descent.{begins_with, call_by, is_mark, operand, past, place_at, refusal_of, tail, whole, whole_call}
use Rattle.c_parser.specs.Lines as grammar
use Rattle.c_parser.specs.Lines.{Line, Block, Empty, If, While, DoWhile, For, InitSimple, NoLines}
use Rattle.c_parser.specs.Spots.{Spot, ends_once, is_end, mark, keyword, word}
use Rattle.c_parser.specs.Statements.{Word, call_statement, assignment_line, behind_name, begins_with_keyword, comma_stands, compound_at, compound_in, compound_or, condition, count_at, count_in, increment, counted_or, compound_assignment, for_condition, for_step, init, initialisation, is_keyword, lines_left, local, one_variable, past_keyword, return_value, simple, simple_line, variable, variables, word_at}
use Rattle.c_parser.proofs.Derivations.{begins_with-mark, ok_one}
use Rattle.c_parser.proofs.Repeats.{chosen, left_out}
use Rattle.c_parser.proofs.Runs.{Behaves, Run, Shape, bind_err, run-chooses, nothing-behaves, run-same, run-looser, loop-run, loop-short, behaves-map, run-map, mark-no_end, behaves-next, mark-behaves, limit, run-refuses, run-skips, run-stays}
use Rattle.c_parser.proofs.RunsOfExpressions.{StartsWith, Stop, by_stop, call-run, expr_shape, nought, pair_shape, rest_at, round-stops, semi-stops, smaller-run, value_shape, whole-run}
use Rattle.c_parser.proofs.SoundLines.{steps, variable_found}

-- ---- single tokens

abbrev pub spots_shape : Shape (List Spot)
spots_shape = record { set = λ v x. x; up = λ more v. v }

abbrev pub word_shape : Shape Word
word_shape = record { set = λ v x. record { at = v.at; name = v.name; rest = x }; up = λ more v. v }

abbrev pub line_shape : Shape (SourceLine × List Spot)
line_shape = pair_shape SourceLine

abbrev pub lines_shape : Shape (List SourceLine × List Spot)
lines_shape = pair_shape (List SourceLine)

abbrev pub returned_shape : Shape (Option SourceExpr × List Spot)
returned_shape = pair_shape (Option SourceExpr)

-- lines, the place of the brace behind them, and what is left
abbrev pub block_shape : Shape (List SourceLine × ℕ × List Spot)
block_shape = record { set = λ v x. (v.0, v.1, x); up = λ more v. v }

abbrev pub Any : List Spot → Type 0
Any later = Unit {0}

abbrev pub NoElse : List Spot → Type 0
NoElse later = begins_with_keyword keywords.Else later ≡ false

pub past-behaves : (m : Mark) → ((at : ℕ) (y : List Spot) → past m (mark at m ∷ y) ≡ Ok y) → Behaves spots_shape Any (mark 0 m ∷ []) (λ more x. past m x)
past-behaves m found = mark-behaves spots_shape Any (λ more x. past m x) m (λ at. []) (λ more at y. found at y) (λ more s y is. left_out (is_mark m s.kind) _ _ is)

pub keyword-no_end : (k : Keyword) (s : Spot) → is_keyword k s.kind ≡ true → is_end s.kind ≡ false
keyword-no_end k s is = by_kind s.kind is
  where
    by_kind : (found : TokenKind) → is_keyword k found ≡ true → is_end found ≡ false
    by_kind (kind.Keyword found) is = refl
    by_kind (kind.Mark m) is = refl
    by_kind (kind.Word name) is = refl
    by_kind (kind.Number value) is = refl
    by_kind kind.End is = cc

pub past_keyword-behaves : (k : Keyword) → ((y : List Spot) → past_keyword k (keyword 0 k ∷ y) ≡ Ok y) → Behaves spots_shape Any (keyword 0 k ∷ []) (λ more x. past_keyword k x)
past_keyword-behaves k found = record { shortest = λ more later ok. ([], found later); runs = λ spots e. by_first spots e }
  where
    by_test : (s : Spot) (x : List Spot) → ends_once (s ∷ x) ≡ true → (b : Bool) → is_keyword k s.kind ≡ b → Run spots_shape Any (λ more x. past_keyword k x) (s ∷ x)
    by_test s x e true is = run-skips spots_shape Any (λ more x. past_keyword k x) (λ more y. Ok y) s x (keyword-no_end k s is) (λ more y. chosen (is_keyword k s.kind) _ _ is) (nothing-behaves spots_shape Any []) e
    by_test s x e false is = run-refuses spots_shape Any (λ more x. past_keyword k x) s x (λ more y. left_out (is_keyword k s.kind) _ _ is)

    by_first : (spots : List Spot) → ends_once spots ≡ true → Run spots_shape Any (λ more x. past_keyword k x) spots
    by_first [] e = cc
    by_first (s ∷ x) e = by_test s x e (is_keyword k s.kind) refl

word-run : (F : List Spot → Type 0) (at : ℕ) (k : TokenKind) (x : List Spot) → ends_once (record { at = at; kind = k } ∷ x) ≡ true → Run word_shape F (λ more x. word_at x) (record { at = at; kind = k } ∷ x)
word-run F at (kind.Word name) x e =
    run-skips word_shape F (λ more x. word_at x) (λ more y. Ok (record { at = at; name = name; rest = y })) (word at name) x refl (λ more y. refl) (nothing-behaves word_shape F (record { at = at; name = name; rest = [] })) e
word-run F at (kind.Mark m) x e = run-refuses word_shape F (λ more x. word_at x) (record { at = at; kind = kind.Mark m }) x (λ more y. refl)
word-run F at (kind.Keyword k) x e = run-refuses word_shape F (λ more x. word_at x) (record { at = at; kind = kind.Keyword k }) x (λ more y. refl)
word-run F at (kind.Number value) x e = run-refuses word_shape F (λ more x. word_at x) (record { at = at; kind = kind.Number value }) x (λ more y. refl)
word-run F at kind.End x e = run-refuses word_shape F (λ more x. word_at x) (record { at = at; kind = kind.End }) x (λ more y. refl)

pub word-behaves : (F : List Spot → Type 0) → Behaves word_shape F (word 0 [] ∷ []) (λ more x. word_at x)
word-behaves F = record { shortest = λ more later ok. (record { at = 0; name = []; rest = [] }, refl); runs = λ spots e. by_first spots e }
  where
    by_first : (spots : List Spot) → ends_once spots ≡ true → Run word_shape F (λ more x. word_at x) spots
    by_first [] e = cc
    by_first (s ∷ x) e = word-run F s.at s.kind x e

pub stop-no_assign : (later : List Spot) → Stop later → begins_with marks.Assign later ≡ false
stop-no_assign = by_stop (λ later. begins_with marks.Assign later ≡ false) (λ at x. refl) (λ at x. refl)

pub stop-no_comma : (later : List Spot) → Stop later → begins_with marks.Comma later ≡ false
stop-no_comma = by_stop (λ later. begins_with marks.Comma later ≡ false) (λ at x. refl) (λ at x. refl)

compound_no_end : (k : TokenKind) (found : Op) → compound_in k ≡ Some found → is_end k ≡ false
compound_no_end (kind.Mark m) found is = refl
compound_no_end (kind.Word name) found is = refl
compound_no_end (kind.Keyword k) found is = refl
compound_no_end (kind.Number value) found is = refl
compound_no_end kind.End found is = cc

count_no_end : (k : TokenKind) (found : Op) → count_in k ≡ Some found → is_end k ≡ false
count_no_end (kind.Mark m) found is = refl
count_no_end (kind.Word name) found is = refl
count_no_end (kind.Keyword k) found is = refl
count_no_end (kind.Number value) found is = refl
count_no_end kind.End found is = cc

-- ---- assignments, counts and calls

module _ (most lv : ℕ) where
  -- a value behind one token
  value_behind : (g : SourceExpr → SourceLine) → Behaves line_shape Stop (nought ∷ []) (λ more y. whole (limit more most) (limit more lv) y >>= λ value. Ok (g value.0, value.1))
  value_behind g =
      behaves-map value_shape line_shape Stop (λ more y. whole (limit more most) (limit more lv) y) (λ value. (g value.0, value.1)) _
      (λ more y. refl) (λ value y. refl) (λ more value y. refl) (whole-run most lv)

  module _ (at : ℕ) (name : List ℕ) where
    acted-run : (s : Spot) (x : List Spot) → is_mark marks.OpenRound s.kind ≡ true → ends_once (s ∷ x) ≡ true → Run line_shape Stop (λ more x. call_statement (limit more most) (limit more lv) at name x) (s ∷ x)
    acted-run s x is e =
        run-map value_shape line_shape Stop (λ more x. whole_call (limit more most) (limit more lv) at name x) (λ read. (line.Act read.0, read.1)) _
        (λ more y. refl) (λ read y. refl) (λ more read y. refl) (s ∷ x) e
        (run-map expr_shape value_shape Stop (λ more x. call_by operand (limit more lv) at name (rest_at x (limit more most))) (λ read. (read.0, read.1.spots)) _
        (λ more y. refl) (λ read y. refl) (λ more read y. refl) (s ∷ x) e (call-run Stop lv (smaller-run lv) most at name s x is e))

    counted-run : (s : Spot) (x : List Spot) (o : Option Op) → count_in s.kind ≡ o → ends_once (s ∷ x) ≡ true
        → Run line_shape Stop (λ more x. counted_or (count_at x) (limit more most) (limit more lv) at name x) (s ∷ x)
    counted-run s x (Some found) is e =
        run-skips line_shape Stop _ (λ more y. Ok (increment at name found, y)) s x (count_no_end s.kind found is)
        (λ more y. ap (λ o. counted_or o (limit more most) (limit more lv) at name (s ∷ y)) is) (nothing-behaves line_shape Stop (increment at name found, [])) e
    counted-run s x None is e =
        run-same line_shape Stop _ (λ more x. if begins_with marks.OpenRound x then call_statement (limit more most) (limit more lv) at name x else Err (refusal_of x)) s x
        (λ more y. ap (λ o. counted_or o (limit more most) (limit more lv) at name (s ∷ y)) is)
        (run-chooses line_shape Stop _ (λ more x. call_statement (limit more most) (limit more lv) at name x) (λ more x. Err (refusal_of x)) (λ s. is_mark marks.OpenRound s.kind) (λ more s y. refl)
        (λ s x is e. acted-run s x is e) (λ s x is e. run-refuses line_shape Stop (λ more x. Err (refusal_of x)) s x (λ more y. refl)) (s ∷ x) e)

    compound-run : (s : Spot) (x : List Spot) (o : Option Op) → compound_in s.kind ≡ o → ends_once (s ∷ x) ≡ true
        → Run line_shape Stop (λ more x. compound_or (compound_at x) (limit more most) (limit more lv) at name x) (s ∷ x)
    compound-run s x (Some found) is e =
        run-skips line_shape Stop _ (λ more y. whole (limit more most) (limit more lv) y >>= λ value. Ok (compound_assignment at name found value.0, value.1)) s x (compound_no_end s.kind found is)
        (λ more y. ap (λ o. compound_or o (limit more most) (limit more lv) at name (s ∷ y)) is) (value_behind (compound_assignment at name found)) e
    compound-run s x None is e =
        run-same line_shape Stop _ (λ more x. counted_or (count_at x) (limit more most) (limit more lv) at name x) s x
        (λ more y. ap (λ o. compound_or o (limit more most) (limit more lv) at name (s ∷ y)) is) (counted-run s x (count_in s.kind) refl e)

    behind_name-behaves : Behaves line_shape Stop (mark 0 marks.PlusPlus ∷ []) (λ more x. behind_name (limit more most) (limit more lv) at name x)
    behind_name-behaves = record {
      shortest = λ more later ok. ((increment at name op.Add, []), refl);
      runs = run-chooses line_shape Stop _ (λ more x. assignment_line (limit more most) (limit more lv) at name x)
          (λ more x. compound_or (compound_at x) (limit more most) (limit more lv) at name x) (λ s. is_mark marks.Assign s.kind) (λ more s y. refl)
          (λ s x is e. run-skips line_shape Stop _ (λ more y. whole (limit more most) (limit more lv) y >>= λ value. Ok (line.Assign name at value.0, value.1)) s x (mark-no_end marks.Assign s is)
          (λ more y. refl) (value_behind (λ value. line.Assign name at value)) e)
          (λ s x is e. compound-run s x (compound_in s.kind) refl e);
    }

  count_before-run : (at : ℕ) (m : Mark) (found : Op) (x : List Spot) → ends_once (mark at m ∷ x) ≡ true
      → ((more : ℕ) (y : List Spot) → simple (limit more most) (limit more lv) (mark at m ∷ y) ≡ word_at y >>= λ word. Ok (increment word.at word.name found, word.rest))
      → Run line_shape Stop (λ more x. simple (limit more most) (limit more lv) x) (mark at m ∷ x)
  count_before-run at m found x e same =
      run-skips line_shape Stop _ (λ more y. word_at y >>= λ word. Ok (increment word.at word.name found, word.rest)) (mark at m) x refl same
      (behaves-map word_shape line_shape Stop (λ more y. word_at y) (λ word. (increment word.at word.name found, word.rest)) _ (λ more y. refl) (λ word y. refl) (λ more word y. refl) (word-behaves Stop)) e

  simple_mark-run : (at : ℕ) (m : Mark) (x : List Spot) → ends_once (mark at m ∷ x) ≡ true → Run line_shape Stop (λ more x. simple (limit more most) (limit more lv) x) (mark at m ∷ x)
  simple_mark-run at marks.PlusPlus x e = count_before-run at marks.PlusPlus op.Add x e (λ more y. refl)
  simple_mark-run at marks.MinusMinus x e = count_before-run at marks.MinusMinus op.Sub x e (λ more y. refl)
  simple_mark-run at m x e = run-refuses line_shape Stop _ (mark at m) x (λ more y. refl)

  simple-run : (at : ℕ) (k : TokenKind) (x : List Spot) → ends_once (record { at = at; kind = k } ∷ x) ≡ true
      → Run line_shape Stop (λ more x. simple (limit more most) (limit more lv) x) (record { at = at; kind = k } ∷ x)
  simple-run at (kind.Word name) x e =
      run-skips line_shape Stop _ (λ more y. behind_name (limit more most) (limit more lv) at name y) (word at name) x refl (λ more y. refl) (behind_name-behaves at name) e
  simple-run at (kind.Mark m) x e = simple_mark-run at m x e
  simple-run at (kind.Keyword k) x e = run-refuses line_shape Stop _ (record { at = at; kind = kind.Keyword k }) x (λ more y. refl)
  simple-run at (kind.Number value) x e = run-refuses line_shape Stop _ (record { at = at; kind = kind.Number value }) x (λ more y. refl)
  simple-run at kind.End x e = run-refuses line_shape Stop _ (record { at = at; kind = kind.End }) x (λ more y. refl)

  simple-behaves : Behaves line_shape Stop (word 0 [] ∷ mark 0 marks.PlusPlus ∷ []) (λ more x. simple (limit more most) (limit more lv) x)
  simple-behaves = record { shortest = λ more later ok. ((increment 0 [] op.Add, []), refl); runs = λ spots e. by_first spots e }
    where
      by_first : (spots : List Spot) → ends_once spots ≡ true → Run line_shape Stop (λ more x. simple (limit more most) (limit more lv) x) spots
      by_first [] e = cc
      by_first (s ∷ x) e = simple-run s.at s.kind x e

  pub simple_line-behaves : (F : List Spot → Type 0) → Behaves lines_shape F (word 0 [] ∷ mark 0 marks.PlusPlus ∷ mark 0 marks.Semi ∷ []) (λ more x. simple_line (limit more most) (limit more lv) x)
  simple_line-behaves F =
      behaves-next line_shape lines_shape Stop F (λ more x. simple (limit more most) (limit more lv) x)
      (λ more read. past marks.Semi read.1 >>= λ after. Ok (read.0 ∷ [], after)) _ (λ more x. refl) (λ more v. refl)
      {p = word 0 [] ∷ mark 0 marks.PlusPlus ∷ []} {q = mark 0 marks.Semi ∷ []} (λ later ok. inl (0, later, refl)) simple-behaves
      (λ read. mark-behaves lines_shape F _ marks.Semi (λ at. (read.0 ∷ [], [])) (λ more at y. refl) (λ more s y is. bind_err _ (left_out (is_mark marks.Semi s.kind) _ _ is)))

  -- ---- locals

  value_or_none : (w : Word) → Behaves line_shape Stop []
      (λ more x. if begins_with marks.Assign x then initialisation (limit more most) (limit more lv) w.at w.name x else Ok (line.Local w.name w.at None, x))
  value_or_none w = record {
    shortest = λ more later ok. ((line.Local w.name w.at None, []), left_out (begins_with marks.Assign later) _ _ (stop-no_assign later ok));
    runs = run-chooses line_shape Stop _ (λ more x. initialisation (limit more most) (limit more lv) w.at w.name x) (λ more x. Ok (line.Local w.name w.at None, x))
        (λ s. is_mark marks.Assign s.kind) (λ more s y. refl)
        (λ s x is e. run-skips line_shape Stop _ (λ more y. whole (limit more most) (limit more lv) y >>= λ value. Ok (line.Local w.name w.at (Some value.0), value.1)) s x (mark-no_end marks.Assign s is)
        (λ more y. refl) (value_behind (λ value. line.Local w.name w.at (Some value))) e)
        (λ s x is e. run-stays line_shape Stop _ s x (line.Local w.name w.at None, []) (λ more y. refl));
  }

  variable-behaves : Behaves line_shape Stop (word 0 [] ∷ []) (λ more x. variable (limit more most) (limit more lv) x)
  variable-behaves =
      behaves-next word_shape line_shape Any Stop (λ more x. word_at x)
      (λ more w. if begins_with marks.Assign w.rest then initialisation (limit more most) (limit more lv) w.at w.name w.rest else Ok (line.Local w.name w.at None, w.rest))
      _ (λ more x. refl) (λ more v. refl) {p = word 0 [] ∷ []} {q = []} (λ later ok. tt) (word-behaves Any) value_or_none

  variable-less : (more : ℕ) (v after : List SourceLine × List Spot) → comma_stands v ≡ true → one_variable (limit more most) (limit more lv) v ≡ Ok after → lines_left after < lines_left v
  variable-less more v after test made =
      let comma = begins_with-mark marks.Comma v.1 test in
      let s = steps (variable (limit more most) (limit more lv) (tail v.1)) (λ next. Ok (v.0 ++ next.0 ∷ [], next.1)) after made in
      let other = variable_found (limit more most) (limit more lv) (tail v.1) s.0 s.1 in
      let whole : length v.1 ≡ suc (length (tail v.1)) = ap length comma.1 in
      let right : length (tail v.1) ≡ length (grammar.variable_spots other.variable) + length s.0.1 = ap length other.spells ∙ length-append (grammar.variable_spots other.variable) s.0.1 in
      let same : length s.0.1 ≡ length after.1 = ap (λ (r : List SourceLine × List Spot). length r.1) (ok_one _ _ s.2) in
      omega (arith, whole, right, same)

  variable_step : (v : List SourceLine × List Spot) (s : Spot) (x : List Spot) → is_mark marks.Comma s.kind ≡ true → ends_once (s ∷ x) ≡ true
      → Run lines_shape Stop (λ more x. one_variable (limit more most) (limit more lv) (v.0, x)) (s ∷ x)
  variable_step v s x is e =
      run-skips lines_shape Stop _ (λ more y. variable (limit more most) (limit more lv) y >>= λ next. Ok (v.0 ++ next.0 ∷ [], next.1)) s x (mark-no_end marks.Comma s is) (λ more y. refl)
      (behaves-map line_shape lines_shape Stop (λ more y. variable (limit more most) (limit more lv) y) (λ next. (v.0 ++ next.0 ∷ [], next.1)) _
      (λ more y. refl) (λ next y. refl) (λ more next y. refl) variable-behaves) e

  variables-behaves : (front : List SourceLine) → Behaves lines_shape Stop [] (λ more x. variables (limit more most) (limit more lv) (front, x))
  variables-behaves front = record {
    shortest = λ more later ok. loop-short lines_shape Stop Stop lines_left comma_stands (λ s. is_mark marks.Comma s.kind) (λ more read. one_variable (limit more most) (limit more lv) read)
        (λ v x. refl) (λ v s x. refl) (λ v later ok. stop-no_comma later ok) (λ later ok. ok) variable-less variable_step more (front, []) later ok;
    runs = λ spots e. loop-run lines_shape Stop Stop lines_left comma_stands (λ s. is_mark marks.Comma s.kind) (λ more read. one_variable (limit more most) (limit more lv) read)
        (λ v x. refl) (λ v s x. refl) (λ v later ok. stop-no_comma later ok) (λ later ok. ok) variable-less variable_step (front, []) spots e;
  }

  pub local-behaves : (F : List Spot → Type 0) → Behaves lines_shape F (word 0 [] ∷ mark 0 marks.Semi ∷ []) (λ more x. local (limit more most) (limit more lv) x)
  local-behaves F =
      behaves-next line_shape lines_shape Stop F (λ more x. variable (limit more most) (limit more lv) x)
      (λ more first. variables (limit more most) (limit more lv) (first.0 ∷ [], first.1) >>= λ all. past marks.Semi all.1 >>= λ after. Ok (all.0, after))
      _ (λ more x. refl) (λ more v. refl) {p = word 0 [] ∷ []} {q = mark 0 marks.Semi ∷ []} (λ later ok. inl (0, later, refl)) variable-behaves
      (λ first. behaves-next lines_shape lines_shape Stop F (λ more x. variables (limit more most) (limit more lv) (first.0 ∷ [], x))
      (λ more all. past marks.Semi all.1 >>= λ after. Ok (all.0, after)) _ (λ more x. refl) (λ more v. refl) {p = []} {q = mark 0 marks.Semi ∷ []} (λ later ok. inl (0, later, refl)) (variables-behaves (first.0 ∷ []))
      (λ all. mark-behaves lines_shape F _ marks.Semi (λ at. (all.0, [])) (λ more at y. refl) (λ more s y is. bind_err _ (left_out (is_mark marks.Semi s.kind) _ _ is))))

  -- ---- parts of lines

  pub condition-behaves : (F : List Spot → Type 0) → Behaves value_shape F (mark 0 marks.OpenRound ∷ nought ∷ mark 0 marks.CloseRound ∷ []) (λ more x. condition (limit more most) (limit more lv) x)
  condition-behaves F =
      behaves-next spots_shape value_shape Any F (λ more x. past marks.OpenRound x)
      (λ more inside. whole (limit more most) (limit more lv) inside >>= λ cond. past marks.CloseRound cond.1 >>= λ after. Ok (cond.0, after))
      _ (λ more x. refl) (λ more v. refl) {p = mark 0 marks.OpenRound ∷ []} {q = nought ∷ mark 0 marks.CloseRound ∷ []} (λ later ok. tt) (past-behaves marks.OpenRound (λ at y. refl))
      (λ v. behaves-next value_shape value_shape Stop F (λ more x. whole (limit more most) (limit more lv) x)
      (λ more cond. past marks.CloseRound cond.1 >>= λ after. Ok (cond.0, after)) _ (λ more x. refl) (λ more v. refl) {p = nought ∷ []} {q = mark 0 marks.CloseRound ∷ []}
      (λ later ok. inr (0, later, refl)) (whole-run most lv)
      (λ cond. mark-behaves value_shape F _ marks.CloseRound (λ at. (cond.0, [])) (λ more at y. refl) (λ more s y is. bind_err _ (left_out (is_mark marks.CloseRound s.kind) _ _ is))))

  pub init-behaves : (F : List Spot → Type 0) → Behaves lines_shape F (mark 0 marks.Semi ∷ []) (λ more x. init (limit more most) (limit more lv) x)
  init-behaves F = record {
    shortest = λ more later ok. (([], []), refl);
    runs = run-chooses lines_shape F _ (λ more x. local (limit more most) (limit more lv) (tail x))
        (λ more x. if begins_with marks.Semi x then Ok ([], tail x) else simple_line (limit more most) (limit more lv) x) (λ s. is_keyword keywords.Int s.kind) (λ more s y. refl)
        (λ s x is e. run-skips lines_shape F _ (λ more y. local (limit more most) (limit more lv) y) s x (keyword-no_end keywords.Int s is) (λ more y. refl) (local-behaves F) e)
        (λ s x is e. run-chooses lines_shape F _ (λ more x. Ok ([], tail x)) (λ more x. simple_line (limit more most) (limit more lv) x) (λ s. is_mark marks.Semi s.kind) (λ more s y. refl)
        (λ s x is e. run-skips lines_shape F _ (λ more y. Ok ([], y)) s x (mark-no_end marks.Semi s is) (λ more y. refl) (nothing-behaves lines_shape F ([], [])) e)
        (λ s x is e. (simple_line-behaves F).runs (s ∷ x) e) (s ∷ x) e);
  }

  pub for_condition-behaves : Behaves value_shape (StartsWith marks.Semi) [] (λ more x. for_condition (limit more most) (limit more lv) x)
  for_condition-behaves = record {
    shortest = λ more later ok. ((source.Lit (place_at later) (pos 1), []), chosen (begins_with marks.Semi later) _ _ ok);
    runs = run-chooses value_shape (StartsWith marks.Semi) _ (λ more x. Ok (source.Lit (place_at x) (pos 1), x)) (λ more x. whole (limit more most) (limit more lv) x)
        (λ s. is_mark marks.Semi s.kind) (λ more s y. refl)
        (λ s x is e. run-stays value_shape (StartsWith marks.Semi) _ s x (source.Lit s.at (pos 1), []) (λ more y. refl))
        (λ s x is e. run-looser value_shape semi-stops ((whole-run most lv).runs (s ∷ x) e));
  }

  pub for_step-behaves : Behaves lines_shape (StartsWith marks.CloseRound) [] (λ more x. for_step (limit more most) (limit more lv) x)
  for_step-behaves = record {
    shortest = λ more later ok. (([], []), chosen (begins_with marks.CloseRound later) _ _ ok);
    runs = run-chooses lines_shape (StartsWith marks.CloseRound) _ (λ more x. Ok ([], x)) (λ more x. simple (limit more most) (limit more lv) x >>= λ read. Ok (read.0 ∷ [], read.1))
        (λ s. is_mark marks.CloseRound s.kind) (λ more s y. refl)
        (λ s x is e. run-stays lines_shape (StartsWith marks.CloseRound) _ s x ([], []) (λ more y. refl))
        (λ s x is e. run-map line_shape lines_shape (StartsWith marks.CloseRound) (λ more x. simple (limit more most) (limit more lv) x) (λ read. (read.0 ∷ [], read.1)) _
        (λ more y. refl) (λ read y. refl) (λ more read y. refl) (s ∷ x) e (run-looser line_shape round-stops (simple-behaves.runs (s ∷ x) e)));
  }

  pub returned-behaves : Behaves returned_shape (StartsWith marks.Semi) [] (λ more x. return_value (limit more most) (limit more lv) x)
  returned-behaves = record {
    shortest = λ more later ok. ((None, []), chosen (begins_with marks.Semi later) _ _ ok);
    runs = run-chooses returned_shape (StartsWith marks.Semi) _ (λ more x. Ok (None, x)) (λ more x. whole (limit more most) (limit more lv) x >>= λ value. Ok (Some value.0, value.1))
        (λ s. is_mark marks.Semi s.kind) (λ more s y. refl)
        (λ s x is e. run-stays returned_shape (StartsWith marks.Semi) _ s x (None, []) (λ more y. refl))
        (λ s x is e. run-map value_shape returned_shape (StartsWith marks.Semi) (λ more x. whole (limit more most) (limit more lv) x) (λ value. (Some value.0, value.1)) _
        (λ more y. refl) (λ value y. refl) (λ more value y. refl) (s ∷ x) e (run-looser value_shape semi-stops ((whole-run most lv).runs (s ∷ x) e)));
  }
