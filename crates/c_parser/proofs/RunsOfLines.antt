-- How runs of the readers of lines end.
use Rattle.std.proofs.Common.{◌≡◌, ℕ, zero, suc, ◌+◌, ◌<◌, ◌≤◌, true, false, List, [], ◌∷◌, ◌++◌, length, refl, ap, subst, ◌∙◌, arith, length-append}
use Rattle.std.specs.Prelude.{pos, not, None, Some, Result, Ok}
use Rattle.items.specs.Gives.{◌>>=◌}
use Rattle.c_lexer.specs.declared.keyword.Keyword.{Keyword}
use Rattle.c_lexer.specs.declared.keyword.Keyword.TheVariants as keywords
use Rattle.c_lexer.specs.declared.kind.TokenKind.{TokenKind}
use Rattle.c_lexer.specs.declared.kind.TokenKind.TheVariants as kind
use Rattle.c_lexer.specs.declared.mark.Mark.{Mark}
use Rattle.c_lexer.specs.declared.mark.Mark.TheVariants as marks
use Rattle.syntax_tree.specs.SourceExpr.{SourceExpr}
use Rattle.syntax_tree.specs.SourceLine as line
use Rattle.syntax_tree.specs.SourceLine.{SourceLine, lines_from}
use Rattle.c_parser.specs.declared.error.ParseError.{ParseError}
use Rattle.c_parser.specs.Descent.{is_mark, past, place_at, tail}
use Rattle.c_parser.specs.Expressions.{Number, Single}
use Rattle.c_parser.specs.Lines as grammar
use Rattle.c_parser.specs.Lines.{Line, Block, Empty, If, While, DoWhile, For, InitSimple, NoLines}
use Rattle.c_parser.specs.Spots.{Spot, ends_once, mark, keyword}
use Rattle.c_parser.specs.Statements.{begins_with_keyword, block, condition, entries, entry, for_condition, for_step, init, is_keyword, line_read, lines_left, local, one_entry, otherwise, past_keyword, return_value, simple_line, stands_open}
use Rattle.c_parser.proofs.CompleteLines.{line-begins, line_reads}
use Rattle.c_parser.proofs.Derivations.{begins_with-mark, ok_one}
use Rattle.c_parser.proofs.FoundLines.{lines_found}
use Rattle.c_parser.proofs.LineLoops.{line-block, line-empty, line-other}
use Rattle.c_parser.proofs.Repeats.{by_choice, left_out}
use Rattle.c_parser.proofs.Runs.{Behaves, Run, bind_err, run-chooses, run-deep, nothing-behaves, run-same, loop-run, loop-short, behaves-map, run-map, behaves-next, mark-behaves, limit, limit-sum, run-refuses, run-skips, run-stays}
use Rattle.c_parser.proofs.RunsOfExpressions.{StartsWith, nought, value_shape}
use Rattle.c_parser.proofs.RunsOfParts.{Any, NoElse, block_shape, condition-behaves, for_condition-behaves, for_step-behaves, init-behaves, keyword-no_end, lines_shape, local-behaves, past-behaves, past_keyword-behaves, returned-behaves, returned_shape, simple_line-behaves, spots_shape}
use Rattle.c_parser.proofs.SoundLines.{begins_at_keyword, local_found, steps}

abbrev pub LinesBehave : ℕ → ℕ → Type 0
LinesBehave most lv = Behaves lines_shape NoElse (mark 0 marks.Semi ∷ []) (λ more x. line_read (limit more most) (limit more lv) x)

brace_no_else : (later : List Spot) → StartsWith marks.CloseBrace later → NoElse later
brace_no_else later ok = ap (begins_with_keyword keywords.Else) (begins_with-mark marks.CloseBrace later ok).1

entry-less : (most lv : ℕ) (spots : List Spot) (read : List SourceLine × List Spot) → entry most (line_read most lv) lv spots ≡ Ok read → length read.1 < length spots
entry-less most lv spots read e =
    by_choice (begins_with_keyword keywords.Int spots) (local most lv (tail spots)) (line_read most lv spots) read e
    (λ declares came.
    let has = local_found most lv (tail spots) read came in
    let type : length spots ≡ suc (length (tail spots)) = ap length (begins_at_keyword keywords.Int spots declares) in
    let right : length (tail spots) ≡ length (grammar.variables_spots has.variables ++ mark has.semi marks.Semi ∷ []) + length read.1 =
    ap length has.spells ∙ length-append (grammar.variables_spots has.variables ++ mark has.semi marks.Semi ∷ []) read.1 in
    omega (arith, type, right))
    (λ other came.
    let has = lines_found most lv spots read came in
    let some = (line-begins has.line read.1).some in
    let right : length spots ≡ length (grammar.line_spots has.line) + length read.1 = ap length has.spells ∙ length-append (grammar.line_spots has.line) read.1 in
    omega (arith, some, right))

one_entry-less : (most lv : ℕ) (v after : List SourceLine × List Spot) → one_entry most (line_read most lv) lv v ≡ Ok after → lines_left after < lines_left v
one_entry-less most lv v after made =
    let s = steps (entry most (line_read most lv) lv v.1) (λ next. Ok (v.0 ++ next.0, next.1)) after made in
    let less = entry-less most lv v.1 s.0 s.1 in
    let same : length s.0.1 ≡ length after.1 = ap (λ (r : List SourceLine × List Spot). length r.1) (ok_one _ _ s.2) in
    omega (arith, less, same)

-- ---- blocks

module _ (most lv : ℕ) (lines : LinesBehave most lv) where
  entry-run : (s : Spot) (x : List Spot) → ends_once (s ∷ x) ≡ true → Run lines_shape NoElse (λ more x. entry (limit more most) (line_read (limit more most) (limit more lv)) (limit more lv) x) (s ∷ x)
  entry-run s x e =
      run-chooses lines_shape NoElse _ (λ more x. local (limit more most) (limit more lv) (tail x)) (λ more x. line_read (limit more most) (limit more lv) x)
      (λ s. is_keyword keywords.Int s.kind) (λ more s y. refl)
      (λ s x is e. run-skips lines_shape NoElse _ (λ more y. local (limit more most) (limit more lv) y) s x (keyword-no_end keywords.Int s is) (λ more y. refl) (local-behaves most lv NoElse) e)
      (λ s x is e. lines.runs (s ∷ x) e) (s ∷ x) e

  entry_step : (v : List SourceLine × List Spot) (s : Spot) (x : List Spot) → ends_once (s ∷ x) ≡ true
      → Run lines_shape NoElse (λ more x. one_entry (limit more most) (line_read (limit more most) (limit more lv)) (limit more lv) (v.0, x)) (s ∷ x)
  entry_step v s x e =
      run-map lines_shape lines_shape NoElse (λ more x. entry (limit more most) (line_read (limit more most) (limit more lv)) (limit more lv) x)
      (λ next. (v.0 ++ next.0, next.1)) _ (λ more y. refl) (λ next y. refl) (λ more next y. refl) (s ∷ x) e (entry-run s x e)

  entries-behaves : Behaves lines_shape (StartsWith marks.CloseBrace) [] (λ more x. entries (limit more most) (line_read (limit more most) (limit more lv)) (limit more lv) ([], x))
  entries-behaves = record {
    shortest = λ more later ok. loop-short lines_shape (StartsWith marks.CloseBrace) NoElse lines_left stands_open (λ s. not (is_mark marks.CloseBrace s.kind))
        (λ more read. one_entry (limit more most) (line_read (limit more most) (limit more lv)) (limit more lv) read)
        (λ v x. refl) (λ v s x. refl) (λ v later ok. ap not ok) brace_no_else (λ more v after test made. one_entry-less (limit more most) (limit more lv) v after made)
        (λ v s x is e. entry_step v s x e) more ([], []) later ok;
    runs = λ spots e. loop-run lines_shape (StartsWith marks.CloseBrace) NoElse lines_left stands_open (λ s. not (is_mark marks.CloseBrace s.kind))
        (λ more read. one_entry (limit more most) (line_read (limit more most) (limit more lv)) (limit more lv) read)
        (λ v x. refl) (λ v s x. refl) (λ v later ok. ap not ok) brace_no_else (λ more v after test made. one_entry-less (limit more most) (limit more lv) v after made)
        (λ v s x is e. entry_step v s x e) ([], []) spots e;
  }

  pub block-behaves : (F : List Spot → Type 0) → Behaves block_shape F (mark 0 marks.CloseBrace ∷ []) (λ more x. block (limit more most) (line_read (limit more most) (limit more lv)) (limit more lv) x)
  block-behaves F =
      behaves-next lines_shape block_shape (StartsWith marks.CloseBrace) F
      (λ more x. entries (limit more most) (line_read (limit more most) (limit more lv)) (limit more lv) ([], x))
      (λ more read. past marks.CloseBrace read.1 >>= λ after. Ok (read.0, place_at read.1, after)) _ (λ more x. refl) (λ more v. refl) {p = []} {q = mark 0 marks.CloseBrace ∷ []}
      (λ later ok. refl) entries-behaves
      (λ read. mark-behaves block_shape F _ marks.CloseBrace (λ at. (read.0, at, [])) (λ more at y. refl) (λ more s y is. bind_err _ (left_out (is_mark marks.CloseBrace s.kind) _ _ is)))

  otherwise-behaves : Behaves lines_shape NoElse [] (λ more x. otherwise (line_read (limit more most) (limit more lv)) x)
  otherwise-behaves = record {
    shortest = λ more later ok. (([], []), left_out (begins_with_keyword keywords.Else later) _ _ ok);
    runs = run-chooses lines_shape NoElse _ (λ more x. line_read (limit more most) (limit more lv) (tail x)) (λ more x. Ok ([], x)) (λ s. is_keyword keywords.Else s.kind) (λ more s y. refl)
        (λ s x is e. run-skips lines_shape NoElse _ (λ more y. line_read (limit more most) (limit more lv) y) s x (keyword-no_end keywords.Else s is) (λ more y. refl) lines e)
        (λ s x is e. run-stays lines_shape NoElse _ s x ([], []) (λ more y. refl));
  }

  -- ---- what stands behind the keyword of a line

  abbrev line_of : ℕ → List Spot → Result (List SourceLine × List Spot) ParseError
  line_of more x = line_read (limit more most) (limit more lv) x

  if-behaves : Behaves lines_shape NoElse (mark 0 marks.OpenRound ∷ nought ∷ mark 0 marks.CloseRound ∷ mark 0 marks.Semi ∷ [])
      (λ more x. condition (limit more most) (limit more lv) x >>= λ cond. line_read (limit more most) (limit more lv) cond.1 >>= λ on_true.
      otherwise (line_read (limit more most) (limit more lv)) on_true.1 >>= λ on_false. Ok (line.If cond.0 (lines_from on_true.0) (lines_from on_false.0) ∷ [], on_false.1))
  if-behaves =
      behaves-next value_shape lines_shape Any NoElse (λ more x. condition (limit more most) (limit more lv) x)
      (λ more cond. line_read (limit more most) (limit more lv) cond.1 >>= λ on_true.
      otherwise (line_read (limit more most) (limit more lv)) on_true.1 >>= λ on_false. Ok (line.If cond.0 (lines_from on_true.0) (lines_from on_false.0) ∷ [], on_false.1))
      _ (λ more x. refl) (λ more v. refl) {p = mark 0 marks.OpenRound ∷ nought ∷ mark 0 marks.CloseRound ∷ []} {q = mark 0 marks.Semi ∷ []} (λ later ok. tt) (condition-behaves most lv Any)
      (λ cond. behaves-next lines_shape lines_shape NoElse NoElse line_of
      (λ more on_true. otherwise (line_read (limit more most) (limit more lv)) on_true.1 >>= λ on_false. Ok (line.If cond.0 (lines_from on_true.0) (lines_from on_false.0) ∷ [], on_false.1))
      _ (λ more x. refl) (λ more v. refl) {p = mark 0 marks.Semi ∷ []} {q = []} (λ later ok. ok) lines
      (λ on_true. behaves-map lines_shape lines_shape NoElse (λ more x. otherwise (line_read (limit more most) (limit more lv)) x)
      (λ on_false. (line.If cond.0 (lines_from on_true.0) (lines_from on_false.0) ∷ [], on_false.1)) _ (λ more y. refl) (λ v y. refl) (λ more v y. refl) otherwise-behaves))

  while-behaves : Behaves lines_shape NoElse (mark 0 marks.OpenRound ∷ nought ∷ mark 0 marks.CloseRound ∷ mark 0 marks.Semi ∷ [])
      (λ more x. condition (limit more most) (limit more lv) x >>= λ cond. line_read (limit more most) (limit more lv) cond.1 >>= λ body.
      Ok (line.Loop line.End cond.0 line.End (lines_from body.0) false ∷ [], body.1))
  while-behaves =
      behaves-next value_shape lines_shape Any NoElse (λ more x. condition (limit more most) (limit more lv) x)
      (λ more cond. line_read (limit more most) (limit more lv) cond.1 >>= λ body. Ok (line.Loop line.End cond.0 line.End (lines_from body.0) false ∷ [], body.1))
      _ (λ more x. refl) (λ more v. refl) {p = mark 0 marks.OpenRound ∷ nought ∷ mark 0 marks.CloseRound ∷ []} {q = mark 0 marks.Semi ∷ []} (λ later ok. tt) (condition-behaves most lv Any)
      (λ cond. behaves-map lines_shape lines_shape NoElse line_of (λ body. (line.Loop line.End cond.0 line.End (lines_from body.0) false ∷ [], body.1)) _
      (λ more y. refl) (λ v y. refl) (λ more v y. refl) lines)

  do-behaves : Behaves lines_shape NoElse (mark 0 marks.Semi ∷ keyword 0 keywords.While ∷ mark 0 marks.OpenRound ∷ nought ∷ mark 0 marks.CloseRound ∷ mark 0 marks.Semi ∷ [])
      (λ more x. line_read (limit more most) (limit more lv) x >>= λ body. past_keyword keywords.While body.1 >>= λ test.
      condition (limit more most) (limit more lv) test >>= λ cond. past marks.Semi cond.1 >>= λ after. Ok (line.Loop line.End cond.0 line.End (lines_from body.0) true ∷ [], after))
  do-behaves =
      behaves-next lines_shape lines_shape NoElse NoElse line_of
      (λ more body. past_keyword keywords.While body.1 >>= λ test.
      condition (limit more most) (limit more lv) test >>= λ cond. past marks.Semi cond.1 >>= λ after. Ok (line.Loop line.End cond.0 line.End (lines_from body.0) true ∷ [], after))
      _ (λ more x. refl) (λ more v. refl) {p = mark 0 marks.Semi ∷ []} {q = keyword 0 keywords.While ∷ mark 0 marks.OpenRound ∷ nought ∷ mark 0 marks.CloseRound ∷ mark 0 marks.Semi ∷ []}
      (λ later ok. refl) lines
      (λ body. behaves-next spots_shape lines_shape Any NoElse (λ more x. past_keyword keywords.While x)
      (λ more test. condition (limit more most) (limit more lv) test >>= λ cond. past marks.Semi cond.1 >>= λ after. Ok (line.Loop line.End cond.0 line.End (lines_from body.0) true ∷ [], after))
      _ (λ more x. refl) (λ more v. refl) {p = keyword 0 keywords.While ∷ []} {q = mark 0 marks.OpenRound ∷ nought ∷ mark 0 marks.CloseRound ∷ mark 0 marks.Semi ∷ []}
      (λ later ok. tt) (past_keyword-behaves keywords.While (λ y. refl))
      (λ test. behaves-next value_shape lines_shape Any NoElse (λ more x. condition (limit more most) (limit more lv) x)
      (λ more cond. past marks.Semi cond.1 >>= λ after. Ok (line.Loop line.End cond.0 line.End (lines_from body.0) true ∷ [], after))
      _ (λ more x. refl) (λ more v. refl) {p = mark 0 marks.OpenRound ∷ nought ∷ mark 0 marks.CloseRound ∷ []} {q = mark 0 marks.Semi ∷ []} (λ later ok. tt) (condition-behaves most lv Any)
      (λ cond. mark-behaves lines_shape NoElse _ marks.Semi (λ at. (line.Loop line.End cond.0 line.End (lines_from body.0) true ∷ [], [])) (λ more at y. refl)
      (λ more s y is. bind_err _ (left_out (is_mark marks.Semi s.kind) _ _ is)))))

  abbrev for_body : List SourceLine × List Spot → SourceExpr × List Spot → List SourceLine × List Spot → ℕ → List Spot → Result (List SourceLine × List Spot) ParseError
  for_body first cond step more then_body =
      line_read (limit more most) (limit more lv) then_body >>= λ body. Ok (line.Loop (lines_from first.0) cond.0 (lines_from step.0) (lines_from body.0) false ∷ [], body.1)

  abbrev for_behind_step : List SourceLine × List Spot → SourceExpr × List Spot → ℕ → List SourceLine × List Spot → Result (List SourceLine × List Spot) ParseError
  for_behind_step first cond more step = past marks.CloseRound step.1 >>= for_body first cond step more

  abbrev for_behind_semi : List SourceLine × List Spot → SourceExpr × List Spot → ℕ → List Spot → Result (List SourceLine × List Spot) ParseError
  for_behind_semi first cond more then_step = for_step (limit more most) (limit more lv) then_step >>= for_behind_step first cond more

  abbrev for_behind_condition : List SourceLine × List Spot → ℕ → SourceExpr × List Spot → Result (List SourceLine × List Spot) ParseError
  for_behind_condition first more cond = past marks.Semi cond.1 >>= for_behind_semi first cond more

  abbrev for_behind_init : ℕ → List SourceLine × List Spot → Result (List SourceLine × List Spot) ParseError
  for_behind_init more first = for_condition (limit more most) (limit more lv) first.1 >>= for_behind_condition first more

  for-behaves : Behaves lines_shape NoElse (mark 0 marks.OpenRound ∷ mark 0 marks.Semi ∷ mark 0 marks.Semi ∷ mark 0 marks.CloseRound ∷ mark 0 marks.Semi ∷ [])
      (λ more x. past marks.OpenRound x >>= λ inside. init (limit more most) (limit more lv) inside >>= λ first.
      for_condition (limit more most) (limit more lv) first.1 >>= λ cond. past marks.Semi cond.1 >>= λ then_step. for_step (limit more most) (limit more lv) then_step >>= λ step.
      past marks.CloseRound step.1 >>= λ then_body. line_read (limit more most) (limit more lv) then_body >>= λ body.
      Ok (line.Loop (lines_from first.0) cond.0 (lines_from step.0) (lines_from body.0) false ∷ [], body.1))
  for-behaves =
      behaves-next spots_shape lines_shape Any NoElse (λ more x. past marks.OpenRound x) (λ more inside. init (limit more most) (limit more lv) inside >>= for_behind_init more) _ (λ more x. refl) (λ more v. refl)
      {p = mark 0 marks.OpenRound ∷ []} {q = mark 0 marks.Semi ∷ mark 0 marks.Semi ∷ mark 0 marks.CloseRound ∷ mark 0 marks.Semi ∷ []}
      (λ later ok. tt) (past-behaves marks.OpenRound (λ at y. refl))
      (λ inside. behaves-next lines_shape lines_shape Any NoElse (λ more x. init (limit more most) (limit more lv) x) for_behind_init _ (λ more x. refl) (λ more v. refl)
      {p = mark 0 marks.Semi ∷ []} {q = mark 0 marks.Semi ∷ mark 0 marks.CloseRound ∷ mark 0 marks.Semi ∷ []} (λ later ok. tt) (init-behaves most lv Any)
      (λ first. behaves-next value_shape lines_shape (StartsWith marks.Semi) NoElse (λ more x. for_condition (limit more most) (limit more lv) x) (for_behind_condition first) _ (λ more x. refl) (λ more v. refl)
      {p = []} {q = mark 0 marks.Semi ∷ mark 0 marks.CloseRound ∷ mark 0 marks.Semi ∷ []} (λ later ok. refl) (for_condition-behaves most lv)
      (λ cond. behaves-next spots_shape lines_shape Any NoElse (λ more x. past marks.Semi x) (for_behind_semi first cond) _ (λ more x. refl) (λ more v. refl)
      {p = mark 0 marks.Semi ∷ []} {q = mark 0 marks.CloseRound ∷ mark 0 marks.Semi ∷ []} (λ later ok. tt) (past-behaves marks.Semi (λ at y. refl))
      (λ then_step. behaves-next lines_shape lines_shape (StartsWith marks.CloseRound) NoElse (λ more x. for_step (limit more most) (limit more lv) x) (for_behind_step first cond) _ (λ more x. refl) (λ more v. refl)
      {p = []} {q = mark 0 marks.CloseRound ∷ mark 0 marks.Semi ∷ []} (λ later ok. refl) (for_step-behaves most lv)
      (λ step. behaves-next spots_shape lines_shape Any NoElse (λ more x. past marks.CloseRound x) (for_body first cond step) _ (λ more x. refl) (λ more v. refl)
      {p = mark 0 marks.CloseRound ∷ []} {q = mark 0 marks.Semi ∷ []} (λ later ok. tt) (past-behaves marks.CloseRound (λ at y. refl))
      (λ then_body. behaves-map lines_shape lines_shape NoElse line_of (λ body. (line.Loop (lines_from first.0) cond.0 (lines_from step.0) (lines_from body.0) false ∷ [], body.1)) _
      (λ more y. refl) (λ v y. refl) (λ more v y. refl) lines))))))

-- ---- lines

abbrev pub SmallerLines : ℕ → ℕ → Type 0
SmallerLines most lv = (less : ℕ) → lv ≡ suc less → LinesBehave most less

module _ (most lv : ℕ) (smaller : SmallerLines most lv) where
  abbrev reading : ℕ → List Spot → Result (List SourceLine × List Spot) ParseError
  reading more x = line_read (limit more most) (limit more lv) x

  -- a line that needs one level more can be read
  one_level : (l : Line) (later : List Spot) → NoElse later → grammar.line_is_made l ≡ true → grammar.line_levels l ≤ 1 → grammar.line_operators l ≤ 0
      → line_read (limit 1 most) (limit 1 lv) (grammar.line_spots l ++ later) ≡ Ok (grammar.line_lines l, later)
  one_level l later ok made deep few =
      let sum = limit-sum 1 lv in
      line_reads l (limit 1 most) (limit 1 lv) later made (omega (arith, sum, deep)) (omega (arith, few)) (λ hangs. ok)

  block-run : (at : ℕ) (x : List Spot) → ends_once (mark at marks.OpenBrace ∷ x) ≡ true → Run lines_shape NoElse reading (mark at marks.OpenBrace ∷ x)
  block-run at x e =
      run-deep lines_shape NoElse reading
      (λ more level y. block (limit more most) (line_read (limit more most) level) level y >>= λ read. Ok (line.Block (lines_from read.0) ∷ [], read.2))
      (mark at marks.OpenBrace) x refl e (mark 0 marks.CloseBrace ∷ [])
      (λ later ok. ((line.Block (lines_from []) ∷ [], []), one_level (Block at NoLines 0) later ok refl (omega arith) (omega arith)))
      lv (λ more y. line-block (limit more most) (limit more lv) (mark at marks.OpenBrace ∷ y) refl)
      (λ less is. behaves-map block_shape lines_shape NoElse (λ more y. block (limit more most) (line_read (limit more most) (limit more less)) (limit more less) y)
      (λ read. (line.Block (lines_from read.0) ∷ [], read.2)) _ (λ more y. refl) (λ v y. refl) (λ more v y. refl) (block-behaves most less (smaller less is) NoElse))

  other-run : (s : Spot) (x : List Spot) → ends_once (s ∷ x) ≡ true
      → ((more : ℕ) (y : List Spot) → reading more (s ∷ y) ≡ simple_line (limit more most) (limit more lv) (s ∷ y)) → Run lines_shape NoElse reading (s ∷ x)
  other-run s x e same =
      run-same lines_shape NoElse reading (λ more x. simple_line (limit more most) (limit more lv) x) s x same ((simple_line-behaves most lv NoElse).runs (s ∷ x) e)

  marked-run : (at : ℕ) (m : Mark) (x : List Spot) → ends_once (mark at m ∷ x) ≡ true → Run lines_shape NoElse reading (mark at m ∷ x)
  marked-run at marks.OpenBrace x e = block-run at x e
  marked-run at marks.Semi x e =
      run-skips lines_shape NoElse reading (λ more y. Ok ([], y)) (mark at marks.Semi) x refl
      (λ more y. line-empty (limit more most) (limit more lv) (mark at marks.Semi ∷ y) refl refl) (nothing-behaves lines_shape NoElse ([], [])) e
  marked-run at m x e = other-run (mark at m) x e (λ more y. line-other (limit more most) (limit more lv) (mark at m ∷ y) None refl refl refl)

  -- a lone keyword and its semicolon
  single-run : (at : ℕ) (k : Keyword) (made : SourceLine) (x : List Spot) → ends_once (keyword at k ∷ x) ≡ true
      → ((more : ℕ) (y : List Spot) → reading more (keyword at k ∷ y) ≡ past marks.Semi y >>= λ after. Ok (made ∷ [], after)) → Run lines_shape NoElse reading (keyword at k ∷ x)
  single-run at k made x e same =
      run-skips lines_shape NoElse reading (λ more y. past marks.Semi y >>= λ after. Ok (made ∷ [], after)) (keyword at k) x refl same
      (mark-behaves lines_shape NoElse _ marks.Semi (λ at. (made ∷ [], [])) (λ more at y. refl) (λ more s y is. bind_err _ (left_out (is_mark marks.Semi s.kind) _ _ is))) e

  keyword-run : (at : ℕ) (k : Keyword) (x : List Spot) → ends_once (keyword at k ∷ x) ≡ true → Run lines_shape NoElse reading (keyword at k ∷ x)
  keyword-run at keywords.If x e =
      run-deep lines_shape NoElse reading _ (keyword at keywords.If) x refl e (mark 0 marks.OpenRound ∷ nought ∷ mark 0 marks.CloseRound ∷ mark 0 marks.Semi ∷ [])
      (λ later ok. ((grammar.line_lines (If at 0 (Single (Number 0 (pos 0))) 0 (Empty 0)), []), one_level (If at 0 (Single (Number 0 (pos 0))) 0 (Empty 0)) later ok refl (omega arith) (omega arith)))
      lv (λ more y. line-other (limit more most) (limit more lv) (keyword at keywords.If ∷ y) (Some keywords.If) refl refl refl)
      (λ less is. if-behaves most less (smaller less is))
  keyword-run at keywords.While x e =
      run-deep lines_shape NoElse reading _ (keyword at keywords.While) x refl e (mark 0 marks.OpenRound ∷ nought ∷ mark 0 marks.CloseRound ∷ mark 0 marks.Semi ∷ [])
      (λ later ok. ((grammar.line_lines (While at 0 (Single (Number 0 (pos 0))) 0 (Empty 0)), []), one_level (While at 0 (Single (Number 0 (pos 0))) 0 (Empty 0)) later ok refl (omega arith) (omega arith)))
      lv (λ more y. line-other (limit more most) (limit more lv) (keyword at keywords.While ∷ y) (Some keywords.While) refl refl refl)
      (λ less is. while-behaves most less (smaller less is))
  keyword-run at keywords.Do x e =
      run-deep lines_shape NoElse reading _ (keyword at keywords.Do) x refl e
      (mark 0 marks.Semi ∷ keyword 0 keywords.While ∷ mark 0 marks.OpenRound ∷ nought ∷ mark 0 marks.CloseRound ∷ mark 0 marks.Semi ∷ [])
      (λ later ok. ((grammar.line_lines (DoWhile at (Empty 0) 0 0 (Single (Number 0 (pos 0))) 0 0), []), one_level (DoWhile at (Empty 0) 0 0 (Single (Number 0 (pos 0))) 0 0) later ok refl (omega arith) (omega arith)))
      lv (λ more y. line-other (limit more most) (limit more lv) (keyword at keywords.Do ∷ y) (Some keywords.Do) refl refl refl)
      (λ less is. do-behaves most less (smaller less is))
  keyword-run at keywords.For x e =
      run-deep lines_shape NoElse reading _ (keyword at keywords.For) x refl e
      (mark 0 marks.OpenRound ∷ mark 0 marks.Semi ∷ mark 0 marks.Semi ∷ mark 0 marks.CloseRound ∷ mark 0 marks.Semi ∷ [])
      (λ later ok. ((grammar.line_lines (For at 0 (InitSimple None 0) None 0 None 0 (Empty 0)), []), one_level (For at 0 (InitSimple None 0) None 0 None 0 (Empty 0)) later ok refl (omega arith) (omega arith)))
      lv (λ more y. line-other (limit more most) (limit more lv) (keyword at keywords.For ∷ y) (Some keywords.For) refl refl refl)
      (λ less is. for-behaves most less (smaller less is))
  keyword-run at keywords.Break x e =
      single-run at keywords.Break (line.Break at) x e (λ more y. line-other (limit more most) (limit more lv) (keyword at keywords.Break ∷ y) (Some keywords.Break) refl refl refl)
  keyword-run at keywords.Continue x e =
      single-run at keywords.Continue (line.Continue at) x e (λ more y. line-other (limit more most) (limit more lv) (keyword at keywords.Continue ∷ y) (Some keywords.Continue) refl refl refl)
  keyword-run at keywords.Return x e =
      run-skips lines_shape NoElse reading
      (λ more y. return_value (limit more most) (limit more lv) y >>= λ value. past marks.Semi value.1 >>= λ after. Ok (line.Return at value.0 ∷ [], after)) (keyword at keywords.Return) x refl
      (λ more y. line-other (limit more most) (limit more lv) (keyword at keywords.Return ∷ y) (Some keywords.Return) refl refl refl)
      (behaves-next returned_shape lines_shape (StartsWith marks.Semi) NoElse (λ more y. return_value (limit more most) (limit more lv) y)
      (λ more value. past marks.Semi value.1 >>= λ after. Ok (line.Return at value.0 ∷ [], after)) _ (λ more x. refl) (λ more v. refl) {p = []} {q = mark 0 marks.Semi ∷ []}
      (λ later ok. refl) (returned-behaves most lv)
      (λ value. mark-behaves lines_shape NoElse _ marks.Semi (λ semi. (line.Return at value.0 ∷ [], [])) (λ more at y. refl)
      (λ more s y is. bind_err _ (left_out (is_mark marks.Semi s.kind) _ _ is)))) e
  keyword-run at k x e =
      run-refuses lines_shape NoElse reading (keyword at k) x (λ more y. line-other (limit more most) (limit more lv) (keyword at k ∷ y) (Some k) refl refl refl)

  kind-run : (at : ℕ) (k : TokenKind) (x : List Spot) → ends_once (record { at = at; kind = k } ∷ x) ≡ true → Run lines_shape NoElse reading (record { at = at; kind = k } ∷ x)
  kind-run at (kind.Mark m) x e = marked-run at m x e
  kind-run at (kind.Keyword k) x e = keyword-run at k x e
  kind-run at (kind.Word name) x e =
      other-run (record { at = at; kind = kind.Word name }) x e (λ more y. line-other (limit more most) (limit more lv) (record { at = at; kind = kind.Word name } ∷ y) None refl refl refl)
  kind-run at (kind.Number value) x e =
      other-run (record { at = at; kind = kind.Number value }) x e (λ more y. line-other (limit more most) (limit more lv) (record { at = at; kind = kind.Number value } ∷ y) None refl refl refl)
  kind-run at kind.End x e =
      other-run (record { at = at; kind = kind.End }) x e (λ more y. line-other (limit more most) (limit more lv) (record { at = at; kind = kind.End } ∷ y) None refl refl refl)

  lines_of : LinesBehave most lv
  lines_of = record {
    shortest = λ more later ok. (([], []), line-empty (limit more most) (limit more lv) (mark 0 marks.Semi ∷ later) refl refl);
    runs = λ spots e. by_first spots e;
  }
    where
      by_first : (spots : List Spot) → ends_once spots ≡ true → Run lines_shape NoElse reading spots
      by_first [] e = cc
      by_first (s ∷ x) e = kind-run s.at s.kind x e

pub lines-run : (most lv : ℕ) → LinesBehave most lv
lines-run most zero = lines_of most zero (λ less is. absurd (omega (arith, is)))
lines-run most (suc lv) = lines_of most (suc lv) (λ less is. let same : lv ≡ less = omega (arith, is) in subst (LinesBehave most) same (lines-run most lv))
