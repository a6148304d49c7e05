-- How runs of the readers of declarations end.
use Rattle.std.proofs.Common.{◌≡◌, ℕ, ℤ, zero, suc, ◌+◌, ◌<◌, Bool, true, false, List, [], ◌∷◌, ◌++◌, length, refl, ap, ◌∙◌, arith, length-append, inl}
use Rattle.std.specs.Prelude.{pos, negsuc, neg_ℤ, not, ◌&&◌, None, Some, Result, Ok, Err, if◌then◌else◌}
use Rattle.items.specs.Gives.{◌>>=◌}
use Rattle.c_lexer.specs.declared.keyword.Keyword.{Keyword}
use Rattle.c_lexer.specs.declared.keyword.Keyword.TheVariants as keywords
use Rattle.c_lexer.specs.declared.kind.TokenKind.{TokenKind}
use Rattle.c_lexer.specs.declared.kind.TokenKind.TheVariants as kind
use Rattle.c_lexer.specs.declared.mark.Mark.TheVariants as marks
use Rattle.syntax_tree.specs.SourceLine.{lines_from}
use Rattle.c_parser.specs.declared.error.ParseError.{ParseError}
use Rattle.c_parser.specs.Declarations as grammar
use Rattle.c_parser.specs.Descent.{begins_with, is_mark, past, refusal_of, tail}
use Rattle.c_parser.specs.Lines.{NoLines}
use Rattle.c_parser.specs.SourceItem.{SourceItem, Global, Proto, Body, Parameter}
use Rattle.c_parser.specs.Spots.{Spot, ends_once, is_end, mark, keyword, number, word}
use Rattle.c_parser.specs.Statements.{Word, begins_with_keyword, block, is_keyword, line_read, past_keyword, word_at}
use Rattle.c_parser.specs.Texts.{Head, Signature, Slots, at_end, behind_name, behind_signature, behind_type, behind_word, body, body_or, comma_stands, constant, declaration, globals, goes_on, initial, items_left, may_have_body, more_slots, name_at, negative_at, next_shared, no_slots, number_at, one_declaration, one_shared, one_slot, procedure, global_item, shared_list, signature, signature_of, slot, slot_list, slots_go_on, slots_left, text, typed_declaration}
use Rattle.c_parser.proofs.CompleteLines.{bind_ok, entries_read}
use Rattle.c_parser.proofs.CompleteTexts.{declaration-begins}
use Rattle.c_parser.proofs.Derivations.{begins_with-mark, ok_one}
use Rattle.c_parser.proofs.Repeats.{left_out}
use Rattle.c_parser.proofs.Runs.{Behaves, Run, Shape, bind_err, run-chooses, run-deep, nothing-behaves, run-looser, loop-run, loop-short, behaves-map, run-map, mark-no_end, behaves-next, mark-behaves, limit, run-refuses, run-skips, run-stays}
use Rattle.c_parser.proofs.RunsOfExpressions.{StartsWith, Stop, by_stop, pair_shape, round-stops}
use Rattle.c_parser.proofs.RunsOfLines.{block-behaves, lines-run}
use Rattle.c_parser.proofs.RunsOfParts.{Any, block_shape, keyword-no_end, past-behaves, past_keyword-behaves, spots_shape, stop-no_assign, stop-no_comma, word-behaves, word_shape}
use Rattle.c_parser.proofs.SoundLines.{steps, word_at-word}
use Rattle.c_parser.proofs.SoundTexts.{declaration_found, shared_found, slot_found}

abbrev pub number_shape : Shape (ℤ × List Spot)
number_shape = pair_shape ℤ

abbrev pub item_shape : Shape (SourceItem × List Spot)
item_shape = pair_shape SourceItem

abbrev pub items_shape : Shape (List SourceItem × List Spot)
items_shape = pair_shape (List SourceItem)

-- ---- globals

number_kind-run : (F : List Spot → Type 0) (at : ℕ) (k : TokenKind) (x : List Spot) → ends_once (record { at = at; kind = k } ∷ x) ≡ true
    → Run number_shape F (λ more x. number_at x) (record { at = at; kind = k } ∷ x)
number_kind-run F at (kind.Number value) x e = run-skips number_shape F (λ more x. number_at x) (λ more y. Ok (value, y)) (number at value) x refl (λ more y. refl) (nothing-behaves number_shape F (value, [])) e
number_kind-run F at (kind.Mark m) x e = run-refuses number_shape F (λ more x. number_at x) (record { at = at; kind = kind.Mark m }) x (λ more y. refl)
number_kind-run F at (kind.Keyword k) x e = run-refuses number_shape F (λ more x. number_at x) (record { at = at; kind = kind.Keyword k }) x (λ more y. refl)
number_kind-run F at (kind.Word name) x e = run-refuses number_shape F (λ more x. number_at x) (record { at = at; kind = kind.Word name }) x (λ more y. refl)
number_kind-run F at kind.End x e = run-refuses number_shape F (λ more x. number_at x) (record { at = at; kind = kind.End }) x (λ more y. refl)

negative_kind-run : (F : List Spot → Type 0) (at : ℕ) (k : TokenKind) (x : List Spot) → ends_once (record { at = at; kind = k } ∷ x) ≡ true
    → Run number_shape F (λ more x. negative_at x) (record { at = at; kind = k } ∷ x)
negative_kind-run F at (kind.Number (pos n)) x e =
    run-skips number_shape F (λ more x. negative_at x) (λ more y. Ok (neg_ℤ (pos n), y)) (number at (pos n)) x refl (λ more y. refl) (nothing-behaves number_shape F (neg_ℤ (pos n), [])) e
negative_kind-run F at (kind.Number (negsuc n)) x e = run-refuses number_shape F (λ more x. negative_at x) (number at (negsuc n)) x (λ more y. refl)
negative_kind-run F at (kind.Mark m) x e = run-refuses number_shape F (λ more x. negative_at x) (record { at = at; kind = kind.Mark m }) x (λ more y. refl)
negative_kind-run F at (kind.Keyword k) x e = run-refuses number_shape F (λ more x. negative_at x) (record { at = at; kind = kind.Keyword k }) x (λ more y. refl)
negative_kind-run F at (kind.Word name) x e = run-refuses number_shape F (λ more x. negative_at x) (record { at = at; kind = kind.Word name }) x (λ more y. refl)
negative_kind-run F at kind.End x e = run-refuses number_shape F (λ more x. negative_at x) (record { at = at; kind = kind.End }) x (λ more y. refl)

negative-behaves : (F : List Spot → Type 0) → Behaves number_shape F (number 0 (pos 0) ∷ []) (λ more x. negative_at x)
negative-behaves F = record { shortest = λ more later ok. ((neg_ℤ (pos 0), []), refl); runs = λ spots e. by_first spots e }
  where
    by_first : (spots : List Spot) → ends_once spots ≡ true → Run number_shape F (λ more x. negative_at x) spots
    by_first [] e = cc
    by_first (s ∷ x) e = negative_kind-run F s.at s.kind x e

constant-behaves : (F : List Spot → Type 0) → Behaves number_shape F (number 0 (pos 0) ∷ []) (λ more x. constant x)
constant-behaves F = record {
  shortest = λ more later ok. ((pos 0, []), refl);
  runs = run-chooses number_shape F _ (λ more x. negative_at (tail x)) (λ more x. number_at x) (λ s. is_mark marks.Minus s.kind) (λ more s y. refl)
      (λ s x is e. run-skips number_shape F _ (λ more y. negative_at y) s x (mark-no_end marks.Minus s is) (λ more y. refl) (negative-behaves F) e)
      (λ s x is e. number_kind-run F s.at s.kind x e);
}

initial-behaves : Behaves number_shape Stop [] (λ more x. initial x)
initial-behaves = record {
  shortest = λ more later ok. ((pos 0, []), left_out (begins_with marks.Assign later) _ _ (stop-no_assign later ok));
  runs = run-chooses number_shape Stop _ (λ more x. constant (tail x)) (λ more x. Ok (pos 0, x)) (λ s. is_mark marks.Assign s.kind) (λ more s y. refl)
      (λ s x is e. run-skips number_shape Stop _ (λ more y. constant y) s x (mark-no_end marks.Assign s is) (λ more y. refl) (constant-behaves Stop) e)
      (λ s x is e. run-stays number_shape Stop _ s x (pos 0, []) (λ more y. refl));
}

abbrev pub word_with : Word → List Spot → Word
word_with w x = record { at = w.at; name = w.name; rest = x }

shared-behaves : (w : Word) → Behaves item_shape Stop [] (λ more x. global_item (word_with w x))
shared-behaves w = behaves-map number_shape item_shape Stop (λ more x. initial x) (λ read. (Global w.name w.at read.0, read.1)) _ (λ more y. refl) (λ v y. refl) (λ more v y. refl) initial-behaves

next_shared-behaves : Behaves item_shape Stop (word 0 [] ∷ []) (λ more x. next_shared x)
next_shared-behaves =
    behaves-next word_shape item_shape Any Stop (λ more x. word_at x) (λ more w. global_item w) _ (λ more x. refl) (λ more v. refl) {p = word 0 [] ∷ []} {q = []} (λ later ok. tt) (word-behaves Any) shared-behaves

one_shared-less : (v after : List SourceItem × List Spot) → comma_stands v ≡ true → one_shared v ≡ Ok after → items_left after < items_left v
one_shared-less v after test made =
    let comma = begins_with-mark marks.Comma v.1 test in
    let s = steps (next_shared (tail v.1)) (λ next. Ok (v.0 ++ next.0 ∷ [], next.1)) after made in
    let t = steps (word_at (tail v.1)) global_item s.0 s.1 in
    let other = shared_found t.0 s.0 t.2 in
    let whole : length v.1 ≡ suc (length (tail v.1)) = ap length comma.1 in
    let named : length (tail v.1) ≡ length (word t.0.at t.0.name ∷ t.0.rest) = ap length (word_at-word (tail v.1) t.0 t.1) in
    let right : length (word t.0.at t.0.name ∷ t.0.rest) ≡ length (grammar.shared_spots other.shared) + length s.0.1 = ap length other.spells ∙ length-append (grammar.shared_spots other.shared) s.0.1 in
    let same : length s.0.1 ≡ length after.1 = ap (λ (r : List SourceItem × List Spot). length r.1) (ok_one _ _ s.2) in
    omega (arith, whole, named, right, same)

shared_step : (v : List SourceItem × List Spot) (s : Spot) (x : List Spot) → is_mark marks.Comma s.kind ≡ true → ends_once (s ∷ x) ≡ true
    → Run items_shape Stop (λ more x. one_shared (v.0, x)) (s ∷ x)
shared_step v s x is e =
    run-skips items_shape Stop _ (λ more y. next_shared y >>= λ next. Ok (v.0 ++ next.0 ∷ [], next.1)) s x (mark-no_end marks.Comma s is) (λ more y. refl)
    (behaves-map item_shape items_shape Stop (λ more y. next_shared y) (λ next. (v.0 ++ next.0 ∷ [], next.1)) _ (λ more y. refl) (λ v y. refl) (λ more v y. refl) next_shared-behaves) e

shared_list-behaves : (front : List SourceItem) → Behaves items_shape Stop [] (λ more x. shared_list (front, x))
shared_list-behaves front = record {
  shortest = λ more later ok. loop-short items_shape Stop Stop items_left comma_stands (λ s. is_mark marks.Comma s.kind) (λ more read. one_shared read)
      (λ v x. refl) (λ v s x. refl) (λ v later ok. stop-no_comma later ok) (λ later ok. ok) (λ more v after test made. one_shared-less v after test made) shared_step more (front, []) later ok;
  runs = λ spots e. loop-run items_shape Stop Stop items_left comma_stands (λ s. is_mark marks.Comma s.kind) (λ more read. one_shared read)
      (λ v x. refl) (λ v s x. refl) (λ v later ok. stop-no_comma later ok) (λ later ok. ok) (λ more v after test made. one_shared-less v after test made) shared_step (front, []) spots e;
}

globals-behaves : (F : List Spot → Type 0) (w : Word) → Behaves items_shape F (mark 0 marks.Semi ∷ []) (λ more x. globals (word_with w x))
globals-behaves F w =
    behaves-next item_shape items_shape Stop F (λ more x. global_item (word_with w x))
    (λ more first. shared_list (first.0 ∷ [], first.1) >>= λ all. past marks.Semi all.1 >>= λ after. Ok (all.0, after))
    _ (λ more x. refl) (λ more v. refl) {p = []} {q = mark 0 marks.Semi ∷ []} (λ later ok. inl (0, later, refl)) (shared-behaves w)
    (λ first. behaves-next items_shape items_shape Stop F (λ more x. shared_list (first.0 ∷ [], x))
    (λ more all. past marks.Semi all.1 >>= λ after. Ok (all.0, after)) _ (λ more x. refl) (λ more v. refl) {p = []} {q = mark 0 marks.Semi ∷ []} (λ later ok. inl (0, later, refl)) (shared_list-behaves (first.0 ∷ []))
    (λ all. mark-behaves items_shape F _ marks.Semi (λ at. (all.0, [])) (λ more at y. refl) (λ more s y is. bind_err _ (left_out (is_mark marks.Semi s.kind) _ _ is))))

-- ---- parameters

abbrev pub slots_shape : Shape Slots
slots_shape = record { set = λ v x. record { count = v.count; named = v.named; rest = x }; up = λ more v. v }

abbrev pub signature_shape : Shape Signature
signature_shape = record { set = λ v x. record { told = v.told; count = v.count; named = v.named; rest = x }; up = λ more v. v }

abbrev pub slot_made : ℕ → List Parameter → List Spot → Slots
slot_made count named rest = record { count = count + 1; named = named ++ name_at rest; rest = behind_name (name_at rest) rest }

name-run : (count : ℕ) (named : List Parameter) (at : ℕ) (k : TokenKind) (x : List Spot) → ends_once (record { at = at; kind = k } ∷ x) ≡ true
    → Run slots_shape Stop (λ more x. Ok (slot_made count named x)) (record { at = at; kind = k } ∷ x)
name-run count named at (kind.Word name) x e =
    run-skips slots_shape Stop _ (λ more y. Ok (record { count = count + 1; named = named ++ record { name = name; at = at } ∷ []; rest = y })) (word at name) x refl (λ more y. refl)
    (nothing-behaves slots_shape Stop (record { count = count + 1; named = named ++ record { name = name; at = at } ∷ []; rest = [] })) e
name-run count named at (kind.Mark m) x e = run-stays slots_shape Stop _ (record { at = at; kind = kind.Mark m }) x (record { count = count + 1; named = named ++ []; rest = [] }) (λ more y. refl)
name-run count named at (kind.Keyword k) x e = run-stays slots_shape Stop _ (record { at = at; kind = kind.Keyword k }) x (record { count = count + 1; named = named ++ []; rest = [] }) (λ more y. refl)
name-run count named at (kind.Number value) x e = run-stays slots_shape Stop _ (record { at = at; kind = kind.Number value }) x (record { count = count + 1; named = named ++ []; rest = [] }) (λ more y. refl)
name-run count named at kind.End x e = run-stays slots_shape Stop _ (record { at = at; kind = kind.End }) x (record { count = count + 1; named = named ++ []; rest = [] }) (λ more y. refl)

name-behaves : (count : ℕ) (named : List Parameter) → Behaves slots_shape Stop [] (λ more x. Ok (slot_made count named x))
name-behaves count named = record {
  shortest = λ more later ok. (
    record { count = count + 1; named = named ++ []; rest = [] },
    by_stop (λ later. (let r : Result Slots ParseError = Ok (slot_made count named later) in r) ≡ Ok (record { count = count + 1; named = named ++ []; rest = later })) (λ at x. refl) (λ at x. refl) later ok,
  );
  runs = λ spots e. by_first spots e;
}
  where
    by_first : (spots : List Spot) → ends_once spots ≡ true → Run slots_shape Stop (λ more x. Ok (slot_made count named x)) spots
    by_first [] e = cc
    by_first (s ∷ x) e = name-run count named s.at s.kind x e

slot-behaves : (v : Slots) → Behaves slots_shape Stop (keyword 0 keywords.Int ∷ []) (λ more x. slot v x)
slot-behaves v =
    behaves-next spots_shape slots_shape Any Stop (λ more x. past_keyword keywords.Int x) (λ more rest. Ok (slot_made v.count v.named rest)) _ (λ more x. refl) (λ more v. refl) {p = keyword 0 keywords.Int ∷ []} {q = []}
    (λ later ok. tt) (past_keyword-behaves keywords.Int (λ y. refl)) (λ rest. name-behaves v.count v.named)

one_slot-less : (v after : Slots) → slots_go_on v ≡ true → one_slot v ≡ Ok after → slots_left after < slots_left v
one_slot-less v after test made =
    let comma = begins_with-mark marks.Comma v.rest test in
    let other = slot_found v (tail v.rest) after made in
    let whole : length v.rest ≡ suc (length (tail v.rest)) = ap length comma.1 in
    let right : length (tail v.rest) ≡ length (grammar.slot_spots other.slot) + length after.rest = ap length other.spells ∙ length-append (grammar.slot_spots other.slot) after.rest in
    omega (arith, whole, right)

slot_step : (v : Slots) (s : Spot) (x : List Spot) → is_mark marks.Comma s.kind ≡ true → ends_once (s ∷ x) ≡ true
    → Run slots_shape Stop (λ more x. one_slot (record { count = v.count; named = v.named; rest = x })) (s ∷ x)
slot_step v s x is e = run-skips slots_shape Stop _ (λ more y. slot v y) s x (mark-no_end marks.Comma s is) (λ more y. refl) (slot-behaves v) e

more_slots-behaves : (v : Slots) → Behaves slots_shape Stop [] (λ more x. more_slots (record { count = v.count; named = v.named; rest = x }))
more_slots-behaves v = record {
  shortest = λ more later ok. loop-short slots_shape Stop Stop slots_left slots_go_on (λ s. is_mark marks.Comma s.kind) (λ more read. one_slot read)
      (λ v x. refl) (λ v s x. refl) (λ v later ok. stop-no_comma later ok) (λ later ok. ok) (λ more v after test made. one_slot-less v after test made) slot_step more v later ok;
  runs = λ spots e. loop-run slots_shape Stop Stop slots_left slots_go_on (λ s. is_mark marks.Comma s.kind) (λ more read. one_slot read)
      (λ v x. refl) (λ v s x. refl) (λ v later ok. stop-no_comma later ok) (λ later ok. ok) (λ more v after test made. one_slot-less v after test made) slot_step v spots e;
}

slot_list-behaves : Behaves slots_shape Stop (keyword 0 keywords.Int ∷ []) (λ more x. slot_list x)
slot_list-behaves =
    behaves-next slots_shape slots_shape Stop Stop (λ more x. slot (no_slots []) x) (λ more slots. more_slots slots) _ (λ more x. refl) (λ more v. refl) {p = keyword 0 keywords.Int ∷ []} {q = []}
    (λ later ok. ok) (slot-behaves (no_slots [])) more_slots-behaves

abbrev pub signature_none : List Spot → Signature
signature_none x = record { told = None; count = 0; named = []; rest = x }

abbrev pub signature_void : List Spot → Signature
signature_void x = record { told = Some 0; count = 0; named = []; rest = x }

round_no_keyword : (k : Keyword) (later : List Spot) → StartsWith marks.CloseRound later → begins_with_keyword k later ≡ false
round_no_keyword k later ok = ap (begins_with_keyword k) (begins_with-mark marks.CloseRound later ok).1

signature-behaves : Behaves signature_shape (StartsWith marks.CloseRound) [] (λ more x. signature x)
signature-behaves = record {
  shortest = λ more later ok. (
    signature_none [],
    left_out (begins_with_keyword keywords.Void later) _ _ (round_no_keyword keywords.Void later ok) ∙ left_out (begins_with_keyword keywords.Int later) _ _ (round_no_keyword keywords.Int later ok),
  );
  runs = run-chooses signature_shape (StartsWith marks.CloseRound) _ (λ more x. Ok (signature_void (tail x)))
      (λ more x. if begins_with_keyword keywords.Int x then (slot_list x >>= λ slots. Ok (signature_of slots)) else Ok (signature_none x)) (λ s. is_keyword keywords.Void s.kind) (λ more s y. refl)
      (λ s x is e. run-skips signature_shape (StartsWith marks.CloseRound) _ (λ more y. Ok (signature_void y)) s x (keyword-no_end keywords.Void s is) (λ more y. refl) (nothing-behaves signature_shape (StartsWith marks.CloseRound) (signature_void [])) e)
      (λ s x is e. run-chooses signature_shape (StartsWith marks.CloseRound) _ (λ more x. slot_list x >>= λ slots. Ok (signature_of slots)) (λ more x. Ok (signature_none x)) (λ s. is_keyword keywords.Int s.kind) (λ more s y. refl)
      (λ s x is e. run-map slots_shape signature_shape (StartsWith marks.CloseRound) (λ more x. slot_list x) signature_of _ (λ more y. refl) (λ v y. refl) (λ more v y. refl) (s ∷ x) e
      (run-looser slots_shape round-stops (slot_list-behaves.runs (s ∷ x) e)))
      (λ s x is e. run-stays signature_shape (StartsWith marks.CloseRound) _ s x (signature_none []) (λ more y. refl)) (s ∷ x) e);
}

-- ---- procedures

module _ (F : List Spot → Type 0) (most lv : ℕ) where
  body-run : (head : Head) (params : List Parameter) (s : Spot) (x : List Spot) → is_mark marks.OpenBrace s.kind ≡ true → ends_once (s ∷ x) ≡ true
      → Run items_shape F (λ more x. body (limit more most) (limit more lv) head params x) (s ∷ x)
  body-run head params s x is e =
      run-deep items_shape F (λ more x. body (limit more most) (limit more lv) head params x)
      (λ more level y. block (limit more most) (line_read (limit more most) level) level y >>= λ read. Ok (Body head.name head.at head.returns params (lines_from read.0) read.1 ∷ [], read.2))
      s x (mark-no_end marks.OpenBrace s is) e (mark 0 marks.CloseBrace ∷ [])
      (λ later ok. ((Body head.name head.at head.returns params (lines_from []) 0 ∷ [], []), one_level later lv)) lv (λ more y. refl)
      (λ less same. behaves-map block_shape items_shape F (λ more y. block (limit more most) (line_read (limit more most) (limit more less)) (limit more less) y)
      (λ read. (Body head.name head.at head.returns params (lines_from read.0) read.1 ∷ [], read.2)) _ (λ more y. refl) (λ v y. refl) (λ more v y. refl)
      (block-behaves most less (lines-run most less) F))
    where
      at_level : (later : List Spot) (level : ℕ)
          → block (limit 1 most) (line_read (limit 1 most) level) level (mark 0 marks.CloseBrace ∷ later) ≡ Ok ([], 0, later)
      at_level later level = bind_ok _ (entries_read NoLines (limit 1 most) level 0 later [] refl (omega arith) (omega arith)) refl

      one_level : (later : List Spot) (lv : ℕ)
          → body (limit 1 most) (limit 1 lv) head params (s ∷ mark 0 marks.CloseBrace ∷ later) ≡ Ok (Body head.name head.at head.returns params (lines_from []) 0 ∷ [], later)
      one_level later zero = bind_ok _ (at_level later 0) refl
      one_level later (suc n) = bind_ok _ (at_level later (limit 1 n)) refl

  body_or-run : (head : Head) (read : Signature) (s : Spot) (x : List Spot) → ends_once (s ∷ x) ≡ true → (made : Bool) → may_have_body head read ≡ made
      → Run items_shape F (λ more x. body_or (limit more most) (limit more lv) head read x) (s ∷ x)
  body_or-run head read s x e true may =
      run-chooses items_shape F _ (λ more x. body (limit more most) (limit more lv) head read.named x) (λ more x. Err (refusal_of x)) (λ s. is_mark marks.OpenBrace s.kind)
      (λ more s y. ap (λ b. if b then body (limit more most) (limit more lv) head read.named (s ∷ y) else Err (refusal_of (s ∷ y))) (with_true (is_mark marks.OpenBrace s.kind) (may_have_body head read) may))
      (λ s x is e. body-run head read.named s x is e) (λ s x is e. run-refuses items_shape F (λ more x. Err (refusal_of x)) s x (λ more y. refl)) (s ∷ x) e
    where
      with_true : (a b : Bool) → b ≡ true → a && b ≡ a
      with_true true b is = is
      with_true false b is = refl
  body_or-run head read s x e false may =
      run-refuses items_shape F _ s x (λ more y. ap (λ b. if b then body (limit more most) (limit more lv) head read.named (s ∷ y) else Err (refusal_of (s ∷ y))) (with_false (is_mark marks.OpenBrace s.kind) (may_have_body head read) may))
    where
      with_false : (a b : Bool) → b ≡ false → a && b ≡ false
      with_false true b is = is
      with_false false b is = refl

  behind_signature-behaves : (head : Head) (read : Signature) → Behaves items_shape F (mark 0 marks.Semi ∷ []) (λ more x. behind_signature (limit more most) (limit more lv) head read x)
  behind_signature-behaves head read = record {
    shortest = λ more later ok. ((Proto head.name head.at head.returns read.told ∷ [], []), refl);
    runs = run-chooses items_shape F _ (λ more x. Ok (Proto head.name head.at head.returns read.told ∷ [], tail x)) (λ more x. body_or (limit more most) (limit more lv) head read x)
        (λ s. is_mark marks.Semi s.kind) (λ more s y. refl)
        (λ s x is e. run-skips items_shape F _ (λ more y. Ok (Proto head.name head.at head.returns read.told ∷ [], y)) s x (mark-no_end marks.Semi s is) (λ more y. refl)
        (nothing-behaves items_shape F (Proto head.name head.at head.returns read.told ∷ [], [])) e)
        (λ s x is e. body_or-run head read s x e (may_have_body head read) refl);
  }

  procedure-behaves : (head : Head) → Behaves items_shape F (mark 0 marks.CloseRound ∷ mark 0 marks.Semi ∷ []) (λ more x. procedure (limit more most) (limit more lv) head x)
  procedure-behaves head =
      behaves-next signature_shape items_shape (StartsWith marks.CloseRound) F (λ more x. signature x)
      (λ more read. past marks.CloseRound read.rest >>= λ after. behind_signature (limit more most) (limit more lv) head read after) _ (λ more x. refl) (λ more v. refl)
      {p = []} {q = mark 0 marks.CloseRound ∷ mark 0 marks.Semi ∷ []} (λ later ok. refl) signature-behaves
      (λ read. behaves-next spots_shape items_shape Any F (λ more x. past marks.CloseRound x) (λ more after. behind_signature (limit more most) (limit more lv) head read after)
      _ (λ more x. refl) (λ more v. refl) {p = mark 0 marks.CloseRound ∷ []} {q = mark 0 marks.Semi ∷ []} (λ later ok. tt) (past-behaves marks.CloseRound (λ at y. refl))
      (λ after. behind_signature-behaves head read))

  -- ---- the text

  globals_or-run : (outside returns : Bool) (w : Word) (s : Spot) (x : List Spot) → ends_once (s ∷ x) ≡ true
      → Run items_shape F (λ more x. if returns && not outside then globals (word_with w x) else Err (refusal_of x)) (s ∷ x)
  globals_or-run false true w s x e = (globals-behaves F w).runs (s ∷ x) e
  globals_or-run true true w s x e = run-refuses items_shape F (λ more x. Err (refusal_of x)) s x (λ more y. refl)
  globals_or-run outside false w s x e = run-refuses items_shape F (λ more x. Err (refusal_of x)) s x (λ more y. refl)

  behind_word-behaves : (outside returns : Bool) (w : Word)
      → Behaves items_shape F (mark 0 marks.OpenRound ∷ mark 0 marks.CloseRound ∷ mark 0 marks.Semi ∷ []) (λ more x. behind_word (limit more most) (limit more lv) outside returns (word_with w x))
  behind_word-behaves outside returns w =
      let head : Head = record { outside = outside; returns = returns; at = w.at; name = w.name } in
      record {
        shortest = λ more later ok. ((Proto w.name w.at returns None ∷ [], []), refl);
        runs = run-chooses items_shape F _ (λ more x. procedure (limit more most) (limit more lv) head (tail x)) (λ more x. if returns && not outside then globals (word_with w x) else Err (refusal_of x))
            (λ s. is_mark marks.OpenRound s.kind) (λ more s y. refl)
            (λ s x is e. run-skips items_shape F _ (λ more y. procedure (limit more most) (limit more lv) head y) s x (mark-no_end marks.OpenRound s is) (λ more y. refl) (procedure-behaves head) e)
            (λ s x is e. globals_or-run outside returns w s x e);
      }

  behind_type-behaves : (outside returns : Bool)
      → Behaves items_shape F (word 0 [] ∷ mark 0 marks.OpenRound ∷ mark 0 marks.CloseRound ∷ mark 0 marks.Semi ∷ []) (λ more x. behind_type (limit more most) (limit more lv) outside returns x)
  behind_type-behaves outside returns =
      behaves-next word_shape items_shape Any F (λ more x. word_at x) (λ more w. behind_word (limit more most) (limit more lv) outside returns w) _ (λ more x. refl) (λ more v. refl)
      {p = word 0 [] ∷ []} {q = mark 0 marks.OpenRound ∷ mark 0 marks.CloseRound ∷ mark 0 marks.Semi ∷ []} (λ later ok. tt) (word-behaves Any) (λ w. behind_word-behaves outside returns w)

  typed-behaves : (outside : Bool)
      → Behaves items_shape F (keyword 0 keywords.Int ∷ word 0 [] ∷ mark 0 marks.OpenRound ∷ mark 0 marks.CloseRound ∷ mark 0 marks.Semi ∷ []) (λ more x. typed_declaration (limit more most) (limit more lv) outside x)
  typed-behaves outside = record {
    shortest = λ more later ok. ((Proto [] 0 true None ∷ [], []), refl);
    runs = run-chooses items_shape F _ (λ more x. behind_type (limit more most) (limit more lv) outside true (tail x))
        (λ more x. if begins_with_keyword keywords.Void x then behind_type (limit more most) (limit more lv) outside false (tail x) else Err (refusal_of x)) (λ s. is_keyword keywords.Int s.kind) (λ more s y. refl)
        (λ s x is e. run-skips items_shape F _ (λ more y. behind_type (limit more most) (limit more lv) outside true y) s x (keyword-no_end keywords.Int s is) (λ more y. refl) (behind_type-behaves outside true) e)
        (λ s x is e. run-chooses items_shape F _ (λ more x. behind_type (limit more most) (limit more lv) outside false (tail x)) (λ more x. Err (refusal_of x)) (λ s. is_keyword keywords.Void s.kind) (λ more s y. refl)
        (λ s x is e. run-skips items_shape F _ (λ more y. behind_type (limit more most) (limit more lv) outside false y) s x (keyword-no_end keywords.Void s is) (λ more y. refl) (behind_type-behaves outside false) e)
        (λ s x is e. run-refuses items_shape F (λ more x. Err (refusal_of x)) s x (λ more y. refl)) (s ∷ x) e);
  }

  declaration-run : (s : Spot) (x : List Spot) → ends_once (s ∷ x) ≡ true → Run items_shape F (λ more x. declaration (limit more most) (limit more lv) x) (s ∷ x)
  declaration-run s x e =
      run-chooses items_shape F _ (λ more x. typed_declaration (limit more most) (limit more lv) true (tail x)) (λ more x. typed_declaration (limit more most) (limit more lv) false x) (λ s. is_keyword keywords.Extern s.kind) (λ more s y. refl)
      (λ s x is e. run-skips items_shape F _ (λ more y. typed_declaration (limit more most) (limit more lv) true y) s x (keyword-no_end keywords.Extern s is) (λ more y. refl) (typed-behaves true) e)
      (λ s x is e. (typed-behaves false).runs (s ∷ x) e) (s ∷ x) e

abbrev pub AtEnd : List Spot → Type 0
AtEnd later = at_end later ≡ true

one_declaration-less : (most lv : ℕ) (v after : List SourceItem × List Spot) → one_declaration most lv v ≡ Ok after → items_left after < items_left v
one_declaration-less most lv v after made =
    let s = steps (declaration most lv v.1) (λ next. Ok (v.0 ++ next.0, next.1)) after made in
    let other = declaration_found most lv v.1 s.0 s.1 in
    let some = (declaration-begins other.declaration s.0.1).some in
    let right : length v.1 ≡ length (grammar.declaration_spots other.declaration) + length s.0.1 = ap length other.spells ∙ length-append (grammar.declaration_spots other.declaration) s.0.1 in
    let same : length s.0.1 ≡ length after.1 = ap (λ (r : List SourceItem × List Spot). length r.1) (ok_one _ _ s.2) in
    omega (arith, some, right, same)

pub text-run : (most lv : ℕ) (spots : List Spot) → ends_once spots ≡ true → Run items_shape AtEnd (λ more x. text (limit more most) (limit more lv) ([], x)) spots
text-run most lv spots e =
    loop-run items_shape AtEnd AtEnd items_left goes_on (λ s. not (is_end s.kind)) (λ more read. one_declaration (limit more most) (limit more lv) read)
    (λ v x. refl) (λ v s x. refl) (λ v later ok. ap not ok) (λ later ok. ok) (λ more v after test made. one_declaration-less (limit more most) (limit more lv) v after made)
    (λ v s x is e. run-map items_shape items_shape AtEnd (λ more x. declaration (limit more most) (limit more lv) x) (λ next. (v.0 ++ next.0, next.1)) _
    (λ more y. refl) (λ next y. refl) (λ more next y. refl) (s ∷ x) e (declaration-run AtEnd most lv s x e)) ([], []) spots e
