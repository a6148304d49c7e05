-- What is read as a line is spelled by a derivation that stands for it.
use Rattle.std.proofs.Common.{◌≡◌, ℕ, zero, suc, ◌≤◌, Bool, true, false, List, [], ◌∷◌, ◌++◌, refl, sym, ap, subst, ◌∙◌, arith, append-nil, append_assoc}
use Rattle.std.specs.Prelude.{Option, None, Some, Ok, not, ◌&&◌, if◌then◌else◌, max}
use Rattle.c_lexer.specs.declared.keyword.Keyword.{Keyword}
use Rattle.c_lexer.specs.declared.keyword.Keyword.TheVariants as keywords
use Rattle.c_lexer.specs.declared.mark.Mark.TheVariants as marks
use Rattle.syntax_tree.specs.SourceLine as line
use Rattle.syntax_tree.specs.SourceLine.{SourceLine, SourceLines, lines_from}
use Rattle.c_parser.specs.declared.error.ParseError.{ParseError}
use Rattle.c_parser.specs.Descent.{begins_with, deeper, past, place_at, refusal_of, tail}
use Rattle.c_parser.specs.Lines as grammar
use Rattle.c_parser.specs.Lines.{Local, Declared, Simple, Init, Line, Block, Empty, Plain, If, IfElse, While, DoWhile, For, Break, Continue, Return, Lines, NoLines, ThenLocal, ThenLine}
use Rattle.c_parser.specs.Spots.{Spot, mark, keyword}
use Rattle.c_parser.specs.Statements.{begins_with_keyword, block, block_by, condition, do_by, entries, entry, for_by, for_condition, for_step, if_by, init, keyword_at, keyword_by, keyword_or, line_in, line_read, lines_left, local, one_entry, otherwise, past_keyword, return_by, return_value, single_by, stands_open, while_by}
use Rattle.c_parser.proofs.FirstTokens.{both}
use Rattle.c_parser.proofs.Derivations.{deeper-level, ok_one, past-mark}
use Rattle.c_parser.proofs.Lines.{line_at}
use Rattle.c_parser.proofs.Repeats.{by_choice, repeat-keeps}
use Rattle.c_parser.proofs.SoundLines.{begins_at, begins_at_keyword, cond_found, condition_found, init_found, keyword_at-keyword, local_found, past_keyword-keyword, simple_line_found, step_found, steps, value_found}

pub record LineFound (most lv : ℕ) (spots : List Spot) (read : List SourceLine × List Spot) : Type 0 where
  pub line : Line
  pub spells : spots ≡ grammar.line_spots line ++ read.1
  pub made : grammar.line_is_made line ≡ true
  pub deep : grammar.line_levels line ≤ lv
  pub few : grammar.line_operators line ≤ most
  pub stands_for : read.0 ≡ grammar.line_lines line
  -- an `else` that could go on with the line is read with it
  pub closed : grammar.ends_open line ≡ true → begins_with_keyword keywords.Else read.1 ≡ false

pub record LinesFound (most lv : ℕ) (spots : List Spot) (read : List SourceLine × List Spot) : Type 0 where
  pub lines : Lines
  pub spells : spots ≡ grammar.lines_spots lines ++ read.1
  pub made : grammar.lines_are_made lines ≡ true
  pub deep : grammar.lines_levels lines ≤ lv
  pub few : grammar.lines_operators lines ≤ most
  pub stands_for : read.0 ≡ grammar.lines_lines lines

abbrev pub AllFound : ℕ → ℕ → Type 0
AllFound most lv = (spots : List Spot) (read : List SourceLine × List Spot) → line_read most lv spots ≡ Ok read → LineFound most lv spots read

-- ---- lists of lines

join : Lines → Lines → Lines
join NoLines more = more
join (ThenLocal l rest) more = ThenLocal l (join rest more)
join (ThenLine l rest) more = ThenLine l (join rest more)

join-spots : (ls more : Lines) → grammar.lines_spots (join ls more) ≡ grammar.lines_spots ls ++ grammar.lines_spots more
unfolding join
join-spots NoLines more = refl
join-spots (ThenLocal l rest) more = ap (λ s. grammar.local_spots l ++ s) (join-spots rest more) ∙ sym (append_assoc (grammar.local_spots l) (grammar.lines_spots rest) (grammar.lines_spots more))
join-spots (ThenLine l rest) more = ap (λ s. grammar.line_spots l ++ s) (join-spots rest more) ∙ sym (append_assoc (grammar.line_spots l) (grammar.lines_spots rest) (grammar.lines_spots more))

join-lines : (ls more : Lines) → grammar.lines_lines (join ls more) ≡ grammar.lines_lines ls ++ grammar.lines_lines more
unfolding join
join-lines NoLines more = refl
join-lines (ThenLocal l rest) more = ap (λ s. grammar.local_lines l ++ s) (join-lines rest more) ∙ sym (append_assoc (grammar.local_lines l) (grammar.lines_lines rest) (grammar.lines_lines more))
join-lines (ThenLine l rest) more = ap (λ s. grammar.line_lines l ++ s) (join-lines rest more) ∙ sym (append_assoc (grammar.line_lines l) (grammar.lines_lines rest) (grammar.lines_lines more))

join-made : (ls more : Lines) → grammar.lines_are_made ls ≡ true → grammar.lines_are_made more ≡ true → grammar.lines_are_made (join ls more) ≡ true
unfolding join
join-made NoLines more one other = other
join-made (ThenLocal l rest) more one other =
    let parts = both (grammar.local_binds l) (grammar.lines_are_made rest) one in
    rw (parts.0, join-made rest more parts.1 other) refl
join-made (ThenLine l rest) more one other =
    let parts = both (grammar.line_is_made l) (grammar.lines_are_made rest) one in
    rw (parts.0, join-made rest more parts.1 other) refl

join-levels : (ls more : Lines) (n : ℕ) → grammar.lines_levels ls ≤ n → grammar.lines_levels more ≤ n → grammar.lines_levels (join ls more) ≤ n
unfolding join
join-levels NoLines more n h k = k
join-levels (ThenLocal l rest) more n h k = let low = join-levels rest more n (omega arith) k in omega (arith, low)
join-levels (ThenLine l rest) more n h k = let low = join-levels rest more n (omega arith) k in omega (arith, low)

join-operators : (ls more : Lines) (n : ℕ) → grammar.lines_operators ls ≤ n → grammar.lines_operators more ≤ n → grammar.lines_operators (join ls more) ≤ n
unfolding join
join-operators NoLines more n h k = k
join-operators (ThenLocal l rest) more n h k = let low = join-operators rest more n (omega arith) k in omega (arith, low)
join-operators (ThenLine l rest) more n h k = let low = join-operators rest more n (omega arith) k in omega (arith, low)

true-and : (b : Bool) → b ≡ true → b && true ≡ true
true-and b e = rw e refl

module _ (most lv : ℕ) (found : AllFound most lv) where
  entry_found : (spots : List Spot) (read : List SourceLine × List Spot) → entry most (line_read most lv) lv spots ≡ Ok read → LinesFound most lv spots read
  entry_found spots read e =
      by_choice (begins_with_keyword keywords.Int spots) (local most lv (tail spots)) (line_read most lv spots) read e
      (λ declares came.
      let has = local_found most lv (tail spots) read came in
      let here = Declared (place_at spots) has.variables has.semi in
      record {
        lines = ThenLocal here NoLines;
        spells = begins_at_keyword keywords.Int spots declares ∙ ap (λ r. keyword (place_at spots) keywords.Int ∷ r) has.spells
            ∙ ap (λ r. r ++ read.1) (sym (append-nil (grammar.local_spots here)));
        made = true-and (grammar.local_binds here) has.made;
        deep = omega (arith, has.deep);
        few = omega (arith, has.few);
        stands_for = has.stands_for ∙ sym (append-nil (grammar.local_lines here));
      })
      (λ other came.
      let has = found spots read came in
      record {
        lines = ThenLine has.line NoLines;
        spells = has.spells ∙ ap (λ r. r ++ read.1) (sym (append-nil (grammar.line_spots has.line)));
        made = true-and (grammar.line_is_made has.line) has.made;
        deep = omega (arith, has.deep);
        few = omega (arith, has.few);
        stands_for = has.stands_for ∙ sym (append-nil (grammar.line_lines has.line));
      })

  one_more : (spots : List Spot) (read next : List SourceLine × List Spot) → stands_open read ≡ true → one_entry most (line_read most lv) lv read ≡ Ok next
      → LinesFound most lv spots read → LinesFound most lv spots next
  one_more spots read next test e has =
      let s = steps (entry most (line_read most lv) lv read.1) _ next e in
      let other = entry_found read.1 s.0 s.1 in
      subst (LinesFound most lv spots) (ok_one _ _ s.2)
      (record {
        lines = join has.lines other.lines;
        spells = has.spells ∙ ap (λ r. grammar.lines_spots has.lines ++ r) other.spells ∙ sym (append_assoc (grammar.lines_spots has.lines) (grammar.lines_spots other.lines) s.0.1)
            ∙ ap (λ r. r ++ s.0.1) (sym (join-spots has.lines other.lines));
        made = join-made has.lines other.lines has.made other.made;
        deep = join-levels has.lines other.lines lv has.deep other.deep;
        few = join-operators has.lines other.lines most has.few other.few;
        stands_for = (λ i. has.stands_for i ++ other.stands_for i) ∙ sym (join-lines has.lines other.lines);
      })

  entries_found : (spots : List Spot) (read : List SourceLine × List Spot) → entries most (line_read most lv) lv ([], spots) ≡ Ok read → LinesFound most lv spots read
  entries_found spots read e =
      repeat-keeps lines_left stands_open (one_entry most (line_read most lv) lv) (LinesFound most lv spots) (one_more spots) ([], spots) read
      (record { lines = NoLines; spells = refl; made = refl; deep = omega arith; few = omega arith; stands_for = refl }) e

pub record BlockFound (most lv : ℕ) (spots : List Spot) (read : List SourceLine × ℕ × List Spot) : Type 0 where
  pub lines : Lines
  pub spells : spots ≡ (grammar.lines_spots lines ++ mark read.1 marks.CloseBrace ∷ []) ++ read.2
  pub made : grammar.lines_are_made lines ≡ true
  pub deep : grammar.lines_levels lines ≤ lv
  pub few : grammar.lines_operators lines ≤ most
  pub stands_for : read.0 ≡ grammar.lines_lines lines

pub block_found : (most lv : ℕ) → AllFound most lv → (spots : List Spot) (read : List SourceLine × ℕ × List Spot) → block most (line_read most lv) lv spots ≡ Ok read
    → BlockFound most lv spots read
block_found most lv found spots read e =
    let s = steps (entries most (line_read most lv) lv ([], spots)) _ read e in
    let has = entries_found most lv found spots s.0 s.1 in
    let t = steps (past marks.CloseBrace s.0.1) _ read s.2 in
    let closed = past-mark marks.CloseBrace s.0.1 t.0 t.1 in
    let here : mark closed.0 marks.CloseBrace ∷ t.0 ≡ mark (place_at s.0.1) marks.CloseBrace ∷ t.0 = ap (λ r. mark (place_at r) marks.CloseBrace ∷ t.0) (sym closed.1) in
    subst (BlockFound most lv spots) (ok_one _ _ t.2)
    (record {
      lines = has.lines;
      spells = has.spells ∙ ap (λ r. grammar.lines_spots has.lines ++ r) (closed.1 ∙ here)
          ∙ sym (append_assoc (grammar.lines_spots has.lines) (mark (place_at s.0.1) marks.CloseBrace ∷ []) t.0);
      made = has.made;
      deep = has.deep;
      few = has.few;
      stands_for = has.stands_for;
    })

-- ---- lines, from lines with fewer levels

abbrev Deeper : ℕ → ℕ → Type 0
Deeper most levels = (level : ℕ) → levels ≡ suc level → AllFound most level

not_both : (b : Bool) → (b ≡ true → ⊥) → not b ≡ true
not_both true h = absurd (h refl)
not_both false h = refl

is_not : (b : Bool) → b ≡ true → b ≡ false → ⊥
is_not b e f = cc

block_by_found : (most lv at : ℕ) (rest : List Spot) (read : List SourceLine × List Spot) → Deeper most lv → block_by most (line_read most) lv at rest ≡ Ok read
    → LineFound most lv (mark at marks.OpenBrace ∷ rest) read
block_by_found most lv at rest read deeper_found e =
    let s = steps (deeper lv at) _ read e in
    let less = deeper-level lv at s.0 s.1 in
    let t = steps (block most (line_read most s.0) s.0 rest) _ read s.2 in
    let has = block_found most s.0 (deeper_found s.0 less) rest t.0 t.1 in
    subst (LineFound most lv (mark at marks.OpenBrace ∷ rest)) (ok_one _ _ t.2)
    (record {
      line = Block at has.lines t.0.1;
      spells = ap (λ r. mark at marks.OpenBrace ∷ r) has.spells;
      made = has.made;
      deep = omega (arith, has.deep, less);
      few = has.few;
      stands_for = ap (λ l. line.Block (lines_from l) ∷ []) has.stands_for;
      closed = λ hangs. cc;
    })

if_found : (most lv at : ℕ) (rest : List Spot) (read : List SourceLine × List Spot) → Deeper most lv → if_by most (line_read most) lv at rest ≡ Ok read
    → LineFound most lv (keyword at keywords.If ∷ rest) read
if_found most lv at rest read deeper_found e =
    let s = steps (deeper lv at) _ read e in
    let less = deeper-level lv at s.0 s.1 in
    let t = steps (condition most s.0 rest) _ read s.2 in
    let cond = condition_found most s.0 rest t.0 t.1 in
    let u = steps (line_read most s.0 t.0.1) _ read t.2 in
    let one = deeper_found s.0 less t.0.1 u.0 u.1 in
    let v = steps (otherwise (line_read most s.0) u.0.1) _ read u.2 in
    let front = grammar.bracketed_spots cond.opened cond.expression cond.closed in
    let first : rest ≡ front ++ (grammar.line_spots one.line ++ u.0.1) = cond.spells ∙ ap (λ r. front ++ r) one.spells in
    by_choice (begins_with_keyword keywords.Else u.0.1) (line_read most s.0 (tail u.0.1)) (Ok ([], u.0.1)) v.0 v.1
    (λ elses came.
    let other = deeper_found s.0 less (tail u.0.1) v.0 came in
    let closes = not_both (grammar.ends_open one.line) (λ hangs. is_not (begins_with_keyword keywords.Else u.0.1) elses (one.closed hangs)) in
    let after : u.0.1 ≡ (keyword (place_at u.0.1) keywords.Else ∷ grammar.line_spots other.line) ++ v.0.1 =
    begins_at_keyword keywords.Else u.0.1 elses ∙ ap (λ r. keyword (place_at u.0.1) keywords.Else ∷ r) other.spells in
    subst (LineFound most lv (keyword at keywords.If ∷ rest)) (ok_one _ _ v.2)
    (record {
      line = IfElse at cond.opened cond.expression cond.closed one.line (place_at u.0.1) other.line;
      spells = ap (λ r. keyword at keywords.If ∷ r)
          (first ∙ ap (λ r. front ++ (grammar.line_spots one.line ++ r)) after
          ∙ sym (append_assoc front (grammar.line_spots one.line) ((keyword (place_at u.0.1) keywords.Else ∷ grammar.line_spots other.line) ++ v.0.1))
          ∙ sym (append_assoc (front ++ grammar.line_spots one.line) (keyword (place_at u.0.1) keywords.Else ∷ grammar.line_spots other.line) v.0.1));
      made = rw (cond.made, one.made, other.made, closes) refl;
      deep = omega (arith, cond.deep, one.deep, other.deep, less);
      few = omega (arith, cond.few, one.few, other.few);
      stands_for = λ i. line.If (cond.stands_for i) (lines_from (one.stands_for i)) (lines_from (other.stands_for i)) ∷ [];
      closed = other.closed;
    }))
    (λ ends came.
    let same = ok_one _ _ came in
    subst (LineFound most lv (keyword at keywords.If ∷ rest))
    (ap (λ (got : List SourceLine × List Spot). (let made : List SourceLine × List Spot = (line.If t.0.0 (lines_from u.0.0) (lines_from got.0) ∷ [], got.1) in made)) same ∙ ok_one _ _ v.2)
    (record {
      line = If at cond.opened cond.expression cond.closed one.line;
      spells = ap (λ r. keyword at keywords.If ∷ r) (first ∙ sym (append_assoc front (grammar.line_spots one.line) u.0.1));
      made = rw (cond.made, one.made) refl;
      deep = omega (arith, cond.deep, one.deep, less);
      few = omega (arith, cond.few, one.few);
      stands_for = λ i. line.If (cond.stands_for i) (lines_from (one.stands_for i)) line.End ∷ [];
      closed = λ hangs. ends;
    }))

while_found : (most lv at : ℕ) (rest : List Spot) (read : List SourceLine × List Spot) → Deeper most lv → while_by most (line_read most) lv at rest ≡ Ok read
    → LineFound most lv (keyword at keywords.While ∷ rest) read
while_found most lv at rest read deeper_found e =
    let s = steps (deeper lv at) _ read e in
    let less = deeper-level lv at s.0 s.1 in
    let t = steps (condition most s.0 rest) _ read s.2 in
    let cond = condition_found most s.0 rest t.0 t.1 in
    let u = steps (line_read most s.0 t.0.1) _ read t.2 in
    let body = deeper_found s.0 less t.0.1 u.0 u.1 in
    let front = grammar.bracketed_spots cond.opened cond.expression cond.closed in
    subst (LineFound most lv (keyword at keywords.While ∷ rest)) (ok_one _ _ u.2)
    (record {
      line = While at cond.opened cond.expression cond.closed body.line;
      spells = ap (λ r. keyword at keywords.While ∷ r) (cond.spells ∙ ap (λ r. front ++ r) body.spells ∙ sym (append_assoc front (grammar.line_spots body.line) u.0.1));
      made = rw (cond.made, body.made) refl;
      deep = omega (arith, cond.deep, body.deep, less);
      few = omega (arith, cond.few, body.few);
      stands_for = λ i. line.Loop line.End (cond.stands_for i) line.End (lines_from (body.stands_for i)) false ∷ [];
      closed = body.closed;
    })

do_found : (most lv at : ℕ) (rest : List Spot) (read : List SourceLine × List Spot) → Deeper most lv → do_by most (line_read most) lv at rest ≡ Ok read
    → LineFound most lv (keyword at keywords.Do ∷ rest) read
do_found most lv at rest read deeper_found e =
    let s = steps (deeper lv at) _ read e in
    let less = deeper-level lv at s.0 s.1 in
    let t = steps (line_read most s.0 rest) _ read s.2 in
    let body = deeper_found s.0 less rest t.0 t.1 in
    let u = steps (past_keyword keywords.While t.0.1) _ read t.2 in
    let tested = past_keyword-keyword keywords.While t.0.1 u.0 u.1 in
    let v = steps (condition most s.0 u.0) _ read u.2 in
    let cond = condition_found most s.0 u.0 v.0 v.1 in
    let w = steps (past marks.Semi v.0.1) _ read v.2 in
    let semi = past-mark marks.Semi v.0.1 w.0 w.1 in
    let front = grammar.bracketed_spots cond.opened cond.expression cond.closed in
    subst (LineFound most lv (keyword at keywords.Do ∷ rest)) (ok_one _ _ w.2)
    (record {
      line = DoWhile at body.line tested.0 cond.opened cond.expression cond.closed semi.0;
      spells = ap (λ r. keyword at keywords.Do ∷ r)
          (body.spells ∙ ap (λ r. grammar.line_spots body.line ++ r)
          (tested.1 ∙ ap (λ r. keyword tested.0 keywords.While ∷ r) (cond.spells ∙ ap (λ r. front ++ r) semi.1 ∙ sym (append_assoc front (mark semi.0 marks.Semi ∷ []) w.0)))
          ∙ sym (append_assoc (grammar.line_spots body.line) (keyword tested.0 keywords.While ∷ (front ++ mark semi.0 marks.Semi ∷ [])) w.0));
      made = rw (cond.made, body.made) refl;
      deep = omega (arith, cond.deep, body.deep, less);
      few = omega (arith, cond.few, body.few);
      stands_for = λ i. line.Loop line.End (cond.stands_for i) line.End (lines_from (body.stands_for i)) true ∷ [];
      closed = λ hangs. cc;
    })

four_below : (a b c d n : ℕ) → a ≤ n → b ≤ n → c ≤ n → d ≤ n → max (max a b) (max c d) ≤ n
four_below a b c d n h k l m = omega arith

four_under : (a b c d n lv : ℕ) → lv ≡ suc n → a ≤ n → b ≤ n → c ≤ n → d ≤ n → suc (max (max a b) (max c d)) ≤ lv
four_under a b c d n lv e h k l m = let low = four_below a b c d n h k l m in omega (arith, low)

for_found : (most lv at : ℕ) (rest : List Spot) (read : List SourceLine × List Spot) → Deeper most lv → for_by most (line_read most) lv at rest ≡ Ok read
    → LineFound most lv (keyword at keywords.For ∷ rest) read
for_found most lv at rest read deeper_found e =
    let s = steps (deeper lv at) _ read e in
    let less = deeper-level lv at s.0 s.1 in
    let o = steps (past marks.OpenRound rest) _ read s.2 in
    let opened = past-mark marks.OpenRound rest o.0 o.1 in
    let t = steps (init most s.0 o.0) _ read o.2 in
    let first = init_found most s.0 o.0 t.0 t.1 in
    let u = steps (for_condition most s.0 t.0.1) _ read t.2 in
    let cond = cond_found most s.0 t.0.1 u.0 u.1 in
    let v = steps (past marks.Semi u.0.1) _ read u.2 in
    let semi = past-mark marks.Semi u.0.1 v.0 v.1 in
    let w = steps (for_step most s.0 v.0) _ read v.2 in
    let step = step_found most s.0 v.0 w.0 w.1 in
    let x = steps (past marks.CloseRound w.0.1) _ read w.2 in
    let closed = past-mark marks.CloseRound w.0.1 x.0 x.1 in
    let y = steps (line_read most s.0 x.0) _ read x.2 in
    let body = deeper_found s.0 less x.0 y.0 y.1 in
    let condition_is = cond.stands_for semi.0 v.0 semi.1 in
    let last : v.0 ≡ (grammar.if_simple step.step ++ mark closed.0 marks.CloseRound ∷ grammar.line_spots body.line) ++ y.0.1 =
    step.spells ∙ ap (λ r. grammar.if_simple step.step ++ r) (closed.1 ∙ ap (λ r. mark closed.0 marks.CloseRound ∷ r) body.spells)
    ∙ sym (append_assoc (grammar.if_simple step.step) (mark closed.0 marks.CloseRound ∷ grammar.line_spots body.line) y.0.1) in
    let tail_spots = mark semi.0 marks.Semi ∷ (grammar.if_simple step.step ++ mark closed.0 marks.CloseRound ∷ grammar.line_spots body.line) in
    let inner : o.0 ≡ (grammar.init_spots first.init ++ grammar.if_expression cond.cond ++ tail_spots) ++ y.0.1 =
    first.spells ∙ ap (λ r. grammar.init_spots first.init ++ r) (cond.spells ∙ ap (λ r. grammar.if_expression cond.cond ++ r) (semi.1 ∙ ap (λ r. mark semi.0 marks.Semi ∷ r) last))
    ∙ sym (append_assoc (grammar.init_spots first.init) (grammar.if_expression cond.cond) (tail_spots ++ y.0.1))
    ∙ sym (append_assoc (grammar.init_spots first.init ++ grammar.if_expression cond.cond) tail_spots y.0.1) in
    subst (LineFound most lv (keyword at keywords.For ∷ rest)) (ok_one _ _ y.2)
    (record {
      line = For at opened.0 first.init cond.cond semi.0 step.step closed.0 body.line;
      spells = ap (λ r. keyword at keywords.For ∷ r) (opened.1 ∙ ap (λ r. mark opened.0 marks.OpenRound ∷ r) inner);
      made = rw (first.made, cond.made, step.made, body.made) refl;
      deep = four_under _ _ _ _ s.0 lv less first.deep cond.deep step.deep body.deep;
      few = four_below _ _ _ _ most first.few cond.few step.few body.few;
      stands_for = λ i. line.Loop (lines_from (first.stands_for i)) (condition_is i) (lines_from (step.stands_for i)) (lines_from (body.stands_for i)) false ∷ [];
      closed = body.closed;
    })

return_found : (most lv at : ℕ) (rest : List Spot) (read : List SourceLine × List Spot) → return_by most lv at rest ≡ Ok read
    → LineFound most lv (keyword at keywords.Return ∷ rest) read
return_found most lv at rest read e =
    let s = steps (return_value most lv rest) _ read e in
    let has = value_found most lv rest s.0 s.1 in
    let t = steps (past marks.Semi s.0.1) _ read s.2 in
    let semi = past-mark marks.Semi s.0.1 t.0 t.1 in
    subst (LineFound most lv (keyword at keywords.Return ∷ rest)) (ok_one _ _ t.2)
    (record {
      line = Return at has.value semi.0;
      spells = ap (λ r. keyword at keywords.Return ∷ r)
          (has.spells ∙ ap (λ r. grammar.if_expression has.value ++ r) semi.1 ∙ sym (append_assoc (grammar.if_expression has.value) (mark semi.0 marks.Semi ∷ []) t.0));
      made = has.made;
      deep = has.deep;
      few = has.few;
      stands_for = ap (λ v. line.Return at v ∷ []) has.stands_for;
      closed = λ hangs. cc;
    })

break_found : (most lv at : ℕ) (rest : List Spot) (read : List SourceLine × List Spot) → single_by (line.Break at) rest ≡ Ok read
    → LineFound most lv (keyword at keywords.Break ∷ rest) read
break_found most lv at rest read e =
    let t = steps (past marks.Semi rest) _ read e in
    let semi = past-mark marks.Semi rest t.0 t.1 in
    subst (LineFound most lv (keyword at keywords.Break ∷ rest)) (ok_one _ _ t.2)
    (record { line = Break at semi.0; spells = ap (λ r. keyword at keywords.Break ∷ r) semi.1; made = refl; deep = omega arith; few = omega arith; stands_for = refl; closed = λ hangs. cc })

continue_found : (most lv at : ℕ) (rest : List Spot) (read : List SourceLine × List Spot) → single_by (line.Continue at) rest ≡ Ok read
    → LineFound most lv (keyword at keywords.Continue ∷ rest) read
continue_found most lv at rest read e =
    let t = steps (past marks.Semi rest) _ read e in
    let semi = past-mark marks.Semi rest t.0 t.1 in
    subst (LineFound most lv (keyword at keywords.Continue ∷ rest)) (ok_one _ _ t.2)
    (record { line = Continue at semi.0; spells = ap (λ r. keyword at keywords.Continue ∷ r) semi.1; made = refl; deep = omega arith; few = omega arith; stands_for = refl; closed = λ hangs. cc })

keyword_found : (most lv at : ℕ) (k : Keyword) (rest : List Spot) (refusal : ParseError) (read : List SourceLine × List Spot) → Deeper most lv
    → keyword_by most (line_read most) lv k at rest refusal ≡ Ok read → LineFound most lv (keyword at k ∷ rest) read
keyword_found most lv at keywords.If rest refusal read deeper_found e = if_found most lv at rest read deeper_found e
keyword_found most lv at keywords.While rest refusal read deeper_found e = while_found most lv at rest read deeper_found e
keyword_found most lv at keywords.Do rest refusal read deeper_found e = do_found most lv at rest read deeper_found e
keyword_found most lv at keywords.For rest refusal read deeper_found e = for_found most lv at rest read deeper_found e
keyword_found most lv at keywords.Break rest refusal read deeper_found e = break_found most lv at rest read e
keyword_found most lv at keywords.Continue rest refusal read deeper_found e = continue_found most lv at rest read e
keyword_found most lv at keywords.Return rest refusal read deeper_found e = return_found most lv at rest read e
keyword_found most lv at _ rest refusal read deeper_found e = absurd (cc)

keyword_or_found : (most lv : ℕ) (o : Option Keyword) (spots : List Spot) (read : List SourceLine × List Spot) → Deeper most lv → keyword_at spots ≡ o
    → keyword_or most (line_read most) lv o spots ≡ Ok read → LineFound most lv spots read
keyword_or_found most lv None spots read deeper_found is e =
    let has = simple_line_found most lv spots read e in
    record { line = Plain has.simple has.semi; spells = has.spells; made = has.made; deep = has.deep; few = has.few; stands_for = has.stands_for; closed = λ hangs. cc }
keyword_or_found most lv (Some k) spots read deeper_found is e =
    subst (λ s. LineFound most lv s read) (sym (keyword_at-keyword spots k is)) (keyword_found most lv (place_at spots) k (tail spots) (refusal_of spots) read deeper_found e)

line_in_found : (most lv : ℕ) (spots : List Spot) (read : List SourceLine × List Spot) → Deeper most lv → line_in most (line_read most) lv spots ≡ Ok read
    → LineFound most lv spots read
line_in_found most lv spots read deeper_found e =
    by_choice (begins_with marks.OpenBrace spots) (block_by most (line_read most) lv (place_at spots) (tail spots))
    (if begins_with marks.Semi spots then Ok ([], tail spots) else keyword_or most (line_read most) lv (keyword_at spots) spots) read e
    (λ opens came. subst (λ s. LineFound most lv s read) (sym (begins_at marks.OpenBrace spots opens)) (block_by_found most lv (place_at spots) (tail spots) read deeper_found came))
    (λ other rest. by_choice (begins_with marks.Semi spots) (Ok ([], tail spots)) (keyword_or most (line_read most) lv (keyword_at spots) spots) read rest
    (λ ends came. subst (LineFound most lv spots) (ok_one _ _ came)
    (record { line = Empty (place_at spots); spells = begins_at marks.Semi spots ends; made = refl; deep = omega arith; few = omega arith; stands_for = refl; closed = λ hangs. cc }))
    (λ goes came. keyword_or_found most lv (keyword_at spots) spots read deeper_found refl came))

pub lines_found : (most lv : ℕ) → AllFound most lv
lines_found most zero spots read e = line_in_found most zero spots read (λ level less. absurd (omega arith)) (sym (line_at most zero spots) ∙ e)
lines_found most (suc lv) spots read e =
    line_in_found most (suc lv) spots read (λ level less. let same : lv ≡ level = omega arith in subst (AllFound most) same (lines_found most lv)) (sym (line_at most (suc lv) spots) ∙ e)
