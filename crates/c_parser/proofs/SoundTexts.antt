-- What is read as the declarations of a text is spelled by derivations that stand for them.
use Rattle.std.proofs.Common.{◌≡◌, ℕ, ℤ, suc, ◌+◌, ◌≤◌, Bool, true, false, List, [], ◌∷◌, ◌++◌, length, refl, sym, ap, subst, ◌∙◌, arith, append-nil, append_assoc, ◌⊎◌, inl, inr, ⊎_elim}
use Rattle.std.specs.Prelude.{pos, negsuc, nat_eq, Option, None, Some, is_some, Ok, Err, not, ◌&&◌, if◌then◌else◌}
use Rattle.std.proofs.lemmas.Bool.{eqb-true}
use Rattle.items.specs.Gives.{◌>>=◌}
use Rattle.c_lexer.specs.declared.keyword.Keyword.TheVariants as keywords
use Rattle.c_lexer.specs.declared.kind.TokenKind.{TokenKind}
use Rattle.c_lexer.specs.declared.kind.TokenKind.TheVariants as kind
use Rattle.c_lexer.specs.declared.mark.Mark.TheVariants as marks
use Rattle.syntax_tree.specs.SourceLine.{lines_from}
use Rattle.c_parser.specs.declared.error.ParseError.{ParseError}
use Rattle.c_parser.specs.Declarations as grammar
use Rattle.c_parser.specs.Declarations.{Shared, Zero, Positive, Negative, SharedList, LastShared, AlsoShared, Returned, Number, Nothing, Slot, Unnamed, Named, LastSlot, AlsoSlot, Parameters, NotTold, NoParameters, Listed, Declaration, Globals, Prototype, Procedure}
use Rattle.c_parser.specs.Descent.{begins_with, deeper, past, place_at, refusal_of, tail}
use Rattle.c_parser.specs.Lines.{Lines, lines_spots, lines_are_made, lines_levels, lines_operators, lines_lines}
use Rattle.c_parser.specs.SourceItem.{SourceItem, Global, Parameter, Proto, Body}
use Rattle.c_parser.specs.Spots.{Spot, mark, keyword, word, number}
use Rattle.c_parser.specs.Statements.{Word, begins_with_keyword, block, line_read, past_keyword, word_at}
use Rattle.c_parser.specs.Texts.{Head, Signature, Slots, behind_name, behind_type, body, body_or, comma_stands, constant, declaration, globals, goes_on, initial, items_left, may_have_body, more_slots, name_at, negative_at, next_shared, no_slots, number_at, number_by, one_declaration, one_shared, one_slot, opposite, procedure, global_item, shared_list, signature, signature_of, slot, slot_list, slots_go_on, slots_left, text, typed_declaration}
use Rattle.c_parser.proofs.CompleteTexts.{count_parameters, head_of}
use Rattle.c_parser.proofs.FirstTokens.{both}
use Rattle.c_parser.proofs.Derivations.{deeper-level, ok_one, past-mark}
use Rattle.c_parser.proofs.FoundLines.{block_found, lines_found}
use Rattle.c_parser.proofs.Repeats.{by_choice, repeat-keeps}
use Rattle.c_parser.proofs.SoundLines.{begins_at, begins_at_keyword, past_keyword-keyword, steps, word_at-word}

-- ---- globals

number_by-number : (k : TokenKind) (at : ℕ) (rest : List Spot) (refusal : ParseError) (read : ℤ × List Spot) → number_by k rest refusal ≡ Ok read
    → (let first : Spot = record { at = at; kind = k } in first ∷ rest) ≡ number at read.0 ∷ read.1
number_by-number (kind.Number value) at rest refusal read e = ap (λ (r : ℤ × List Spot). number at r.0 ∷ r.1) (ok_one _ _ e)
number_by-number (kind.Word name) at rest refusal read e = cc
number_by-number (kind.Keyword k) at rest refusal read e = cc
number_by-number (kind.Mark m) at rest refusal read e = cc
number_by-number kind.End at rest refusal read e = cc

number_at-number : (spots : List Spot) (read : ℤ × List Spot) → number_at spots ≡ Ok read → spots ≡ number (place_at spots) read.0 ∷ read.1
number_at-number [] read e = cc
number_at-number (spot ∷ rest) read e = number_by-number spot.kind spot.at rest (refusal_of (spot ∷ rest)) read e

pub record SharedFound (at : ℕ) (name : List ℕ) (rest : List Spot) (read : SourceItem × List Spot) : Type 0 where
  pub shared : Shared
  pub spells : word at name ∷ rest ≡ grammar.shared_spots shared ++ read.1
  pub stands_for : read.0 ≡ grammar.shared_item shared

negative_found : (at : ℕ) (name : List ℕ) (rest : List Spot) (assign minus digits : ℕ) (z : ℤ) (after : List Spot) (refusal : ParseError) (read : ℤ × List Spot)
    → opposite z after refusal ≡ Ok read → rest ≡ mark assign marks.Assign ∷ mark minus marks.Minus ∷ number digits z ∷ after
    → SharedFound at name rest (Global name at read.0, read.1)
negative_found at name rest assign minus digits (pos n) after refusal read e cut =
    let same = ok_one _ _ e in
    record {
      shared = Negative at name assign minus digits n;
      spells = ap (λ s. word at name ∷ s) cut ∙ ap (λ (r : ℤ × List Spot). word at name ∷ mark assign marks.Assign ∷ mark minus marks.Minus ∷ number digits (pos n) ∷ r.1) same;
      stands_for = ap (λ (r : ℤ × List Spot). Global name at r.0) (sym same);
    }
negative_found at name rest assign minus digits (negsuc n) after refusal read e cut = absurd (cc)

pub shared_found : (w : Word) (read : SourceItem × List Spot) → global_item w ≡ Ok read → SharedFound w.at w.name w.rest read
shared_found w read e =
    let s = steps (initial w.rest) _ read e in
    subst (SharedFound w.at w.name w.rest) (ok_one _ _ s.2)
    (by_choice (begins_with marks.Assign w.rest) (constant (tail w.rest)) (Ok (pos 0, w.rest)) s.0 s.1
    (λ assigns came.
    let assign = begins_at marks.Assign w.rest assigns in
    by_choice (begins_with marks.Minus (tail w.rest)) (negative_at (tail (tail w.rest))) (number_at (tail w.rest)) s.0 came
    (λ minus told.
    let signed = begins_at marks.Minus (tail w.rest) minus in
    let t = steps (number_at (tail (tail w.rest))) _ s.0 told in
    let digits = number_at-number (tail (tail w.rest)) t.0 t.1 in
    negative_found w.at w.name w.rest (place_at w.rest) (place_at (tail w.rest)) (place_at (tail (tail w.rest))) t.0.0 t.0.1 (refusal_of (tail (tail w.rest))) s.0 t.2
    (assign ∙ ap (λ r. mark (place_at w.rest) marks.Assign ∷ r) (signed ∙ ap (λ r. mark (place_at (tail w.rest)) marks.Minus ∷ r) digits)))
    (λ plain told.
    let digits = number_at-number (tail w.rest) s.0 told in
    record {
      shared = Positive w.at w.name (place_at w.rest) (place_at (tail w.rest)) s.0.0;
      spells = ap (λ r. word w.at w.name ∷ r) (assign ∙ ap (λ r. mark (place_at w.rest) marks.Assign ∷ r) digits);
      stands_for = refl;
    }))
    (λ bare came.
    let same = ok_one _ _ came in
    record {
      shared = Zero w.at w.name;
      spells = ap (λ (r : ℤ × List Spot). word w.at w.name ∷ r.1) same;
      stands_for = ap (λ (r : ℤ × List Spot). Global w.name w.at r.0) (sym same);
    }))

add : SharedList → ℕ → Shared → SharedList
add (LastShared g) comma more = AlsoShared g comma (LastShared more)
add (AlsoShared g next rest) comma more = AlsoShared g next (add rest comma more)

add-spots : (gs : SharedList) (comma : ℕ) (more : Shared) → grammar.shared_list_spots (add gs comma more) ≡ grammar.shared_list_spots gs ++ mark comma marks.Comma ∷ grammar.shared_spots more
unfolding add
add-spots (LastShared g) comma more = refl
add-spots (AlsoShared g next rest) comma more =
    ap (λ s. grammar.shared_spots g ++ mark next marks.Comma ∷ s) (add-spots rest comma more)
    ∙ sym (append_assoc (grammar.shared_spots g) (mark next marks.Comma ∷ grammar.shared_list_spots rest) (mark comma marks.Comma ∷ grammar.shared_spots more))

add-items : (gs : SharedList) (comma : ℕ) (more : Shared) → grammar.shared_list_items (add gs comma more) ≡ grammar.shared_list_items gs ++ grammar.shared_item more ∷ []
unfolding add
add-items (LastShared g) comma more = refl
add-items (AlsoShared g next rest) comma more = ap (λ l. grammar.shared_item g ∷ l) (add-items rest comma more)

record SharedListFound (spots : List Spot) (read : List SourceItem × List Spot) : Type 0 where
  list : SharedList
  spells : spots ≡ grammar.shared_list_spots list ++ read.1
  stands_for : read.0 ≡ grammar.shared_list_items list

one_more : (spots : List Spot) (read next : List SourceItem × List Spot) → comma_stands read ≡ true → one_shared read ≡ Ok next → SharedListFound spots read → SharedListFound spots next
one_more spots read next test e has =
    let s = steps (next_shared (tail read.1)) _ next e in
    let t = steps (word_at (tail read.1)) _ s.0 s.1 in
    let other = shared_found t.0 s.0 t.2 in
    let first = word_at-word (tail read.1) t.0 t.1 in
    let comma = place_at read.1 in
    subst (SharedListFound spots) (ok_one _ _ s.2)
    (record {
      list = add has.list comma other.shared;
      spells = has.spells
          ∙ ap (λ r. grammar.shared_list_spots has.list ++ r) (begins_at marks.Comma read.1 test ∙ ap (λ r. mark comma marks.Comma ∷ r) (first ∙ other.spells))
          ∙ sym (append_assoc (grammar.shared_list_spots has.list) (mark comma marks.Comma ∷ grammar.shared_spots other.shared) s.0.1)
          ∙ ap (λ r. r ++ s.0.1) (sym (add-spots has.list comma other.shared));
      stands_for = (λ i. has.stands_for i ++ other.stands_for i ∷ []) ∙ sym (add-items has.list comma other.shared);
    })

record GlobalsFound (at : ℕ) (name : List ℕ) (rest : List Spot) (read : List SourceItem × List Spot) : Type 0 where
  list : SharedList
  semi : ℕ
  spells : word at name ∷ rest ≡ (grammar.shared_list_spots list ++ mark semi marks.Semi ∷ []) ++ read.1
  stands_for : read.0 ≡ grammar.shared_list_items list

globals_found : (w : Word) (read : List SourceItem × List Spot) → globals w ≡ Ok read → GlobalsFound w.at w.name w.rest read
globals_found w read e =
    let s = steps (global_item w) _ read e in
    let first = shared_found w s.0 s.1 in
    let t = steps (shared_list (s.0.0 ∷ [], s.0.1)) _ read s.2 in
    let has = repeat-keeps items_left comma_stands one_shared (SharedListFound (word w.at w.name ∷ w.rest)) (one_more (word w.at w.name ∷ w.rest)) (s.0.0 ∷ [], s.0.1) t.0
    (record { list = LastShared first.shared; spells = first.spells; stands_for = ap (λ i. i ∷ []) first.stands_for }) t.1 in
    let u = steps (past marks.Semi t.0.1) _ read t.2 in
    let semi = past-mark marks.Semi t.0.1 u.0 u.1 in
    subst (GlobalsFound w.at w.name w.rest) (ok_one _ _ u.2)
    (record {
      list = has.list;
      semi = semi.0;
      spells = has.spells ∙ ap (λ r. grammar.shared_list_spots has.list ++ r) semi.1 ∙ sym (append_assoc (grammar.shared_list_spots has.list) (mark semi.0 marks.Semi ∷ []) u.0);
      stands_for = has.stands_for;
    })

-- ---- parameters

pub record SlotFound (count : ℕ) (named : List Parameter) (spots : List Spot) (next : Slots) : Type 0 where
  pub slot : Slot
  pub spells : spots ≡ grammar.slot_spots slot ++ next.rest
  pub counts : next.count ≡ count + 1
  pub stands_for : next.named ≡ named ++ grammar.slot_parameters slot

abbrev slot_made : ℕ → List Parameter → List Spot → Slots
slot_made count named rest = record { count = count + 1; named = named ++ name_at rest; rest = behind_name (name_at rest) rest }

slot_by_kind : (k : TokenKind) (at type count : ℕ) (named : List Parameter) (rest : List Spot)
    → SlotFound count named (keyword type keywords.Int ∷ record { at = at; kind = k } ∷ rest) (slot_made count named (record { at = at; kind = k } ∷ rest))
slot_by_kind (kind.Word name) at type count named rest = record { slot = Named type at name; spells = refl; counts = refl; stands_for = refl }
slot_by_kind (kind.Keyword k) at type count named rest = record { slot = Unnamed type; spells = refl; counts = refl; stands_for = refl }
slot_by_kind (kind.Mark m) at type count named rest = record { slot = Unnamed type; spells = refl; counts = refl; stands_for = refl }
slot_by_kind (kind.Number value) at type count named rest = record { slot = Unnamed type; spells = refl; counts = refl; stands_for = refl }
slot_by_kind kind.End at type count named rest = record { slot = Unnamed type; spells = refl; counts = refl; stands_for = refl }

slot_behind : (type count : ℕ) (named : List Parameter) (rest : List Spot) → SlotFound count named (keyword type keywords.Int ∷ rest) (slot_made count named rest)
slot_behind type count named [] = record { slot = Unnamed type; spells = refl; counts = refl; stands_for = refl }
slot_behind type count named (spot ∷ rest) = slot_by_kind spot.kind spot.at type count named rest

pub slot_found : (slots : Slots) (spots : List Spot) (next : Slots) → slot slots spots ≡ Ok next → SlotFound slots.count slots.named spots next
slot_found slots spots next e =
    let s = steps (past_keyword keywords.Int spots) _ next e in
    let type = past_keyword-keyword keywords.Int spots s.0 s.1 in
    subst (SlotFound slots.count slots.named spots) (ok_one _ _ s.2)
    (subst (λ r. SlotFound slots.count slots.named r (slot_made slots.count slots.named s.0)) (sym type.1) (slot_behind type.0 slots.count slots.named s.0))

add_slot : grammar.Slots → ℕ → Slot → grammar.Slots
add_slot (LastSlot s) comma more = AlsoSlot s comma (LastSlot more)
add_slot (AlsoSlot s next rest) comma more = AlsoSlot s next (add_slot rest comma more)

add_slot-spots : (ss : grammar.Slots) (comma : ℕ) (more : Slot) → grammar.slots_spots (add_slot ss comma more) ≡ grammar.slots_spots ss ++ mark comma marks.Comma ∷ grammar.slot_spots more
unfolding add_slot
add_slot-spots (LastSlot s) comma more = refl
add_slot-spots (AlsoSlot s next rest) comma more =
    ap (λ r. grammar.slot_spots s ++ mark next marks.Comma ∷ r) (add_slot-spots rest comma more)
    ∙ sym (append_assoc (grammar.slot_spots s) (mark next marks.Comma ∷ grammar.slots_spots rest) (mark comma marks.Comma ∷ grammar.slot_spots more))

add_slot-count : (ss : grammar.Slots) (comma : ℕ) (more : Slot) → grammar.count_slots (add_slot ss comma more) ≡ grammar.count_slots ss + 1
unfolding add_slot
add_slot-count (LastSlot s) comma more = refl
add_slot-count (AlsoSlot s next rest) comma more = let less = add_slot-count rest comma more in omega (arith, less)

add_slot-parameters : (ss : grammar.Slots) (comma : ℕ) (more : Slot) → grammar.slots_parameters (add_slot ss comma more) ≡ grammar.slots_parameters ss ++ grammar.slot_parameters more
unfolding add_slot
add_slot-parameters (LastSlot s) comma more = refl
add_slot-parameters (AlsoSlot s next rest) comma more =
    ap (λ r. grammar.slot_parameters s ++ r) (add_slot-parameters rest comma more)
    ∙ sym (append_assoc (grammar.slot_parameters s) (grammar.slots_parameters rest) (grammar.slot_parameters more))

record SlotsFound (spots : List Spot) (read : Slots) : Type 0 where
  slots : grammar.Slots
  spells : spots ≡ grammar.slots_spots slots ++ read.rest
  counts : read.count ≡ grammar.count_slots slots
  stands_for : read.named ≡ grammar.slots_parameters slots

one_slot_more : (spots : List Spot) (read next : Slots) → slots_go_on read ≡ true → one_slot read ≡ Ok next → SlotsFound spots read → SlotsFound spots next
one_slot_more spots read next test e has =
    let other = slot_found read (tail read.rest) next e in
    let comma = place_at read.rest in
    let fewer = add_slot-count has.slots comma other.slot in
    record {
      slots = add_slot has.slots comma other.slot;
      spells = has.spells
          ∙ ap (λ r. grammar.slots_spots has.slots ++ r) (begins_at marks.Comma read.rest test ∙ ap (λ r. mark comma marks.Comma ∷ r) other.spells)
          ∙ sym (append_assoc (grammar.slots_spots has.slots) (mark comma marks.Comma ∷ grammar.slot_spots other.slot) next.rest)
          ∙ ap (λ r. r ++ next.rest) (sym (add_slot-spots has.slots comma other.slot));
      counts = other.counts ∙ ap (λ n. n + 1) has.counts ∙ sym fewer;
      stands_for = other.stands_for ∙ ap (λ l. l ++ grammar.slot_parameters other.slot) has.stands_for ∙ sym (add_slot-parameters has.slots comma other.slot);
    }

slot_list_found : (spots : List Spot) (read : Slots) → slot_list spots ≡ Ok read → SlotsFound spots read
slot_list_found spots read e =
    let s = steps (slot (no_slots spots) spots) more_slots read e in
    let first = slot_found (no_slots spots) spots s.0 s.1 in
    repeat-keeps slots_left slots_go_on one_slot (SlotsFound spots) (one_slot_more spots) s.0 read
    (record { slots = LastSlot first.slot; spells = first.spells; counts = first.counts; stands_for = first.stands_for }) s.2

record SignatureFound (spots : List Spot) (read : Signature) : Type 0 where
  params : Parameters
  spells : spots ≡ grammar.parameters_spots params ++ read.rest
  tells : read.told ≡ grammar.told_parameters params
  counts : read.count ≡ count_parameters params
  stands_for : read.named ≡ grammar.named_parameters params

signature_found : (spots : List Spot) (read : Signature) → signature spots ≡ Ok read → SignatureFound spots read
signature_found spots read e =
    by_choice (begins_with_keyword keywords.Void spots) (Ok (record { told = Some 0; count = 0; named = []; rest = tail spots }))
    (if begins_with_keyword keywords.Int spots then (slot_list spots >>= λ slots. Ok (signature_of slots)) else Ok (record { told = None; count = 0; named = []; rest = spots })) read e
    (λ void came. subst (SignatureFound spots) (ok_one _ _ came)
    (record { params = NoParameters (place_at spots); spells = begins_at_keyword keywords.Void spots void; tells = refl; counts = refl; stands_for = refl }))
    (λ other came. by_choice (begins_with_keyword keywords.Int spots) (slot_list spots >>= λ slots. Ok (signature_of slots))
    (Ok (record { told = None; count = 0; named = []; rest = spots })) read came
    (λ int told.
    let s = steps (slot_list spots) _ read told in
    let has = slot_list_found spots s.0 s.1 in
    subst (SignatureFound spots) (ok_one _ _ s.2)
    (record { params = Listed has.slots; spells = has.spells; tells = ap Some has.counts; counts = has.counts; stands_for = has.stands_for }))
    (λ empty told. subst (SignatureFound spots) (ok_one _ _ told)
    (record { params = NotTold; spells = refl; tells = refl; counts = refl; stands_for = refl })))

parameters-below : (ss : grammar.Slots) → length (grammar.slots_parameters ss) ≤ grammar.count_slots ss
parameters-below (LastSlot (Unnamed type)) = omega arith
parameters-below (LastSlot (Named type at name)) = omega arith
parameters-below (AlsoSlot (Unnamed type) comma rest) = let low = parameters-below rest in omega (arith, low)
parameters-below (AlsoSlot (Named type at name) comma rest) = let low = parameters-below rest in omega (arith, low)

count-named : (ss : grammar.Slots) → length (grammar.slots_parameters ss) ≡ grammar.count_slots ss → grammar.are_named ss ≡ true
count-named (LastSlot (Unnamed type)) e = absurd (omega arith)
count-named (LastSlot (Named type at name)) e = refl
count-named (AlsoSlot (Unnamed type) comma rest) e = let low = parameters-below rest in absurd (omega (arith, low, e))
count-named (AlsoSlot (Named type at name) comma rest) e = count-named rest (omega (arith, e))

parameters-named : (params : Parameters) → nat_eq (length (grammar.named_parameters params)) (count_parameters params) ≡ true → grammar.parameters_are_named params ≡ true
parameters-named NotTold e = refl
parameters-named (NoParameters void) e = refl
parameters-named (Listed ss) e = count-named ss (eqb-true _ _ e)

-- ---- procedures

record ProtoFound (head : Head) (spots : List Spot) (read : List SourceItem × List Spot) : Type 0 where
  params : Parameters
  closed : ℕ
  semi : ℕ
  spells : spots ≡ (grammar.parameters_spots params ++ mark closed marks.CloseRound ∷ mark semi marks.Semi ∷ []) ++ read.1
  stands_for : read.0 ≡ Proto head.name head.at head.returns (grammar.told_parameters params) ∷ []

record BodyFound (most lv : ℕ) (head : Head) (spots : List Spot) (read : List SourceItem × List Spot) : Type 0 where
  params : Parameters
  closed : ℕ
  begins : ℕ
  lines : Lines
  ends : ℕ
  inside : head.outside ≡ false
  spells : spots ≡ (grammar.parameters_spots params ++ mark closed marks.CloseRound ∷ mark begins marks.OpenBrace ∷ (lines_spots lines ++ mark ends marks.CloseBrace ∷ [])) ++ read.1
  named : grammar.parameters_are_named params ≡ true
  made : lines_are_made lines ≡ true
  deep : suc (lines_levels lines) ≤ lv
  few : lines_operators lines ≤ most
  stands_for : read.0 ≡ Body head.name head.at head.returns (grammar.named_parameters params) (lines_from (lines_lines lines)) ends ∷ []

not_true-false : (b : Bool) → not b ≡ true → b ≡ false
not_true-false true e = cc
not_true-false false e = refl

body_found : (most lv : ℕ) (head : Head) (has : Signature) (spots after : List Spot) (closed : ℕ) (read : List SourceItem × List Spot) → SignatureFound spots has
    → has.rest ≡ mark closed marks.CloseRound ∷ after → begins_with marks.OpenBrace after ≡ true → may_have_body head has ≡ true
    → body most lv head has.named after ≡ Ok read → BodyFound most lv head spots read
body_found most lv head has spots after closed read sig closes opens may e =
    let allowed = both (not head.outside) (nat_eq (length has.named) has.count) may in
    let begins = begins_at marks.OpenBrace after opens in
    let s = steps (deeper lv (place_at after)) _ read e in
    let less = deeper-level lv (place_at after) s.0 s.1 in
    let t = steps (block most (line_read most s.0) s.0 (tail after)) _ read s.2 in
    let inner = block_found most s.0 (lines_found most s.0) (tail after) t.0 t.1 in
    let tokens = lines_spots inner.lines ++ mark t.0.1 marks.CloseBrace ∷ [] in
    let brace = mark (place_at after) marks.OpenBrace in
    subst (BodyFound most lv head spots) (ok_one _ _ t.2)
    (record {
      params = sig.params;
      closed = closed;
      begins = place_at after;
      lines = inner.lines;
      ends = t.0.1;
      inside = not_true-false head.outside allowed.0;
      spells = sig.spells ∙ ap (λ r. grammar.parameters_spots sig.params ++ r) (closes ∙ ap (λ r. mark closed marks.CloseRound ∷ r) (begins ∙ ap (λ r. brace ∷ r) inner.spells))
          ∙ sym (append_assoc (grammar.parameters_spots sig.params) (mark closed marks.CloseRound ∷ brace ∷ tokens) t.0.2);
      named = parameters-named sig.params ((λ i. nat_eq (length (sym sig.stands_for i)) (sym sig.counts i)) ∙ allowed.1);
      made = inner.made;
      deep = omega (arith, inner.deep, less);
      few = inner.few;
      stands_for = λ i. Body head.name head.at head.returns (sig.stands_for i) (lines_from (inner.stands_for i)) t.0.1 ∷ [];
    })

procedure_found : (most lv : ℕ) (head : Head) (spots : List Spot) (read : List SourceItem × List Spot) → procedure most lv head spots ≡ Ok read
    → ProtoFound head spots read ⊎ BodyFound most lv head spots read
procedure_found most lv head spots read e =
    let s = steps (signature spots) _ read e in
    let sig = signature_found spots s.0 s.1 in
    let t = steps (past marks.CloseRound s.0.rest) _ read s.2 in
    let closed = past-mark marks.CloseRound s.0.rest t.0 t.1 in
    by_choice (begins_with marks.Semi t.0) (Ok (Proto head.name head.at head.returns s.0.told ∷ [], tail t.0)) (body_or most lv head s.0 t.0) read t.2
    (λ ends came. inl (subst (ProtoFound head spots) (ok_one _ _ came)
    (record {
      params = sig.params;
      closed = closed.0;
      semi = place_at t.0;
      spells = sig.spells ∙ ap (λ r. grammar.parameters_spots sig.params ++ r) (closed.1 ∙ ap (λ r. mark closed.0 marks.CloseRound ∷ r) (begins_at marks.Semi t.0 ends))
          ∙ sym (append_assoc (grammar.parameters_spots sig.params) (mark closed.0 marks.CloseRound ∷ mark (place_at t.0) marks.Semi ∷ []) (tail t.0));
      stands_for = ap (λ told. Proto head.name head.at head.returns told ∷ []) sig.tells;
    })))
    (λ goes came. by_choice (begins_with marks.OpenBrace t.0 && may_have_body head s.0) (body most lv head s.0.named t.0) (Err (refusal_of t.0)) read came
    (λ may told.
    let parts = both (begins_with marks.OpenBrace t.0) (may_have_body head s.0) may in
    inr (body_found most lv head s.0 spots t.0 closed.0 read sig closed.1 parts.0 parts.1 told))
    (λ never told. absurd (cc)))

-- ---- the text

pub record DeclarationFound (most lv : ℕ) (spots : List Spot) (read : List SourceItem × List Spot) : Type 0 where
  pub declaration : Declaration
  pub spells : spots ≡ grammar.declaration_spots declaration ++ read.1
  pub made : grammar.declaration_is_made declaration ≡ true
  pub deep : grammar.declaration_levels declaration ≤ lv
  pub few : grammar.declaration_operators declaration ≤ most
  pub stands_for : read.0 ≡ grammar.declaration_items declaration

proto_declared : (most lv : ℕ) (outside : Option ℕ) (returned : Returned) (at : ℕ) (name : List ℕ) (opened : ℕ) (spots : List Spot) (read : List SourceItem × List Spot)
    → ProtoFound (head_of (is_some outside) (grammar.returns returned) at name) spots read
    → DeclarationFound most lv (grammar.outside_spots outside ++ (grammar.returned_spots returned ++ word at name ∷ mark opened marks.OpenRound ∷ spots)) read
proto_declared most lv outside returned at name opened spots read has =
    let tokens = word at name ∷ mark opened marks.OpenRound ∷ (grammar.parameters_spots has.params ++ mark has.closed marks.CloseRound ∷ mark has.semi marks.Semi ∷ []) in
    record {
      declaration = Prototype outside returned at name opened has.params has.closed has.semi;
      spells = ap (λ r. grammar.outside_spots outside ++ (grammar.returned_spots returned ++ word at name ∷ mark opened marks.OpenRound ∷ r)) has.spells
          ∙ sym (append_assoc (grammar.outside_spots outside) (grammar.returned_spots returned) (tokens ++ read.1))
          ∙ sym (append_assoc (grammar.outside_spots outside ++ grammar.returned_spots returned) tokens read.1);
      made = refl;
      deep = omega arith;
      few = omega arith;
      stands_for = has.stands_for;
    }

body_declared : (most lv : ℕ) (outside : Option ℕ) (returned : Returned) (at : ℕ) (name : List ℕ) (opened : ℕ) (spots : List Spot) (read : List SourceItem × List Spot)
    → BodyFound most lv (head_of (is_some outside) (grammar.returns returned) at name) spots read
    → DeclarationFound most lv (grammar.outside_spots outside ++ (grammar.returned_spots returned ++ word at name ∷ mark opened marks.OpenRound ∷ spots)) read
body_declared most lv (Some place) returned at name opened spots read has = let never : true ≡ false = has.inside in absurd (cc)
body_declared most lv None returned at name opened spots read has =
    let tokens = word at name ∷ mark opened marks.OpenRound
    ∷ (grammar.parameters_spots has.params ++ mark has.closed marks.CloseRound ∷ mark has.begins marks.OpenBrace ∷ (lines_spots has.lines ++ mark has.ends marks.CloseBrace ∷ [])) in
    record {
      declaration = Procedure returned at name opened has.params has.closed has.begins has.lines has.ends;
      spells = ap (λ r. grammar.returned_spots returned ++ word at name ∷ mark opened marks.OpenRound ∷ r) has.spells
          ∙ sym (append_assoc (grammar.returned_spots returned) tokens read.1);
      made = rw (has.named, has.made) refl;
      deep = has.deep;
      few = has.few;
      stands_for = has.stands_for;
    }

globals_declared : (most lv : ℕ) (outside : Option ℕ) (returned : Returned) (at : ℕ) (name : List ℕ) (rest : List Spot) (read : List SourceItem × List Spot)
    → grammar.returns returned && not (is_some outside) ≡ true → GlobalsFound at name rest read
    → DeclarationFound most lv (grammar.outside_spots outside ++ (grammar.returned_spots returned ++ word at name ∷ rest)) read
globals_declared most lv None (Number type) at name rest read may has = record {
  declaration = Globals type has.list has.semi;
  spells = ap (λ r. keyword type keywords.Int ∷ r) has.spells;
  made = refl;
  deep = omega arith;
  few = omega arith;
  stands_for = has.stands_for;
}
globals_declared most lv None (Nothing type) at name rest read may has = absurd (cc)
globals_declared most lv (Some place) (Number type) at name rest read may has = absurd (cc)
globals_declared most lv (Some place) (Nothing type) at name rest read may has = absurd (cc)

behind_type_found : (most lv : ℕ) (outside : Option ℕ) (returned : Returned) (spots : List Spot) (read : List SourceItem × List Spot)
    → behind_type most lv (is_some outside) (grammar.returns returned) spots ≡ Ok read
    → DeclarationFound most lv (grammar.outside_spots outside ++ (grammar.returned_spots returned ++ spots)) read
behind_type_found most lv outside returned spots read e =
    let s = steps (word_at spots) _ read e in
    let w = s.0 in
    let first = word_at-word spots w s.1 in
    let head = head_of (is_some outside) (grammar.returns returned) w.at w.name in
    subst (λ r. DeclarationFound most lv (grammar.outside_spots outside ++ (grammar.returned_spots returned ++ r)) read) (sym first)
    (by_choice (begins_with marks.OpenRound w.rest) (procedure most lv head (tail w.rest))
    (if grammar.returns returned && not (is_some outside) then globals w else Err (refusal_of w.rest)) read s.2
    (λ opens came.
    subst (λ r. DeclarationFound most lv (grammar.outside_spots outside ++ (grammar.returned_spots returned ++ word w.at w.name ∷ r)) read) (sym (begins_at marks.OpenRound w.rest opens))
    (⊎_elim (λ has. proto_declared most lv outside returned w.at w.name (place_at w.rest) (tail w.rest) read has)
    (λ has. body_declared most lv outside returned w.at w.name (place_at w.rest) (tail w.rest) read has)
    (procedure_found most lv head (tail w.rest) read came)))
    (λ other came. by_choice (grammar.returns returned && not (is_some outside)) (globals w) (Err (refusal_of w.rest)) read came
    (λ may told. globals_declared most lv outside returned w.at w.name w.rest read may (globals_found w read told)) (λ never told. absurd (cc))))

typed_found : (most lv : ℕ) (outside : Option ℕ) (spots : List Spot) (read : List SourceItem × List Spot) → typed_declaration most lv (is_some outside) spots ≡ Ok read
    → DeclarationFound most lv (grammar.outside_spots outside ++ spots) read
typed_found most lv outside spots read e =
    by_choice (begins_with_keyword keywords.Int spots) (behind_type most lv (is_some outside) true (tail spots))
    (if begins_with_keyword keywords.Void spots then behind_type most lv (is_some outside) false (tail spots) else Err (refusal_of spots)) read e
    (λ int came. subst (λ r. DeclarationFound most lv (grammar.outside_spots outside ++ r) read) (sym (begins_at_keyword keywords.Int spots int))
    (behind_type_found most lv outside (Number (place_at spots)) (tail spots) read came))
    (λ other came. by_choice (begins_with_keyword keywords.Void spots) (behind_type most lv (is_some outside) false (tail spots)) (Err (refusal_of spots)) read came
    (λ void told. subst (λ r. DeclarationFound most lv (grammar.outside_spots outside ++ r) read) (sym (begins_at_keyword keywords.Void spots void))
    (behind_type_found most lv outside (Nothing (place_at spots)) (tail spots) read told)) (λ never told. absurd (cc)))

pub declaration_found : (most lv : ℕ) (spots : List Spot) (read : List SourceItem × List Spot) → declaration most lv spots ≡ Ok read → DeclarationFound most lv spots read
declaration_found most lv spots read e =
    by_choice (begins_with_keyword keywords.Extern spots) (typed_declaration most lv true (tail spots)) (typed_declaration most lv false spots) read e
    (λ outside came. subst (λ r. DeclarationFound most lv r read) (sym (begins_at_keyword keywords.Extern spots outside)) (typed_found most lv (Some (place_at spots)) (tail spots) read came))
    (λ inside came. typed_found most lv None spots read came)

pub record TextFound (most lv : ℕ) (spots : List Spot) (read : List SourceItem × List Spot) : Type 0 where
  pub text : List Declaration
  pub spells : spots ≡ grammar.text_spots text ++ read.1
  pub made : grammar.text_is_made text ≡ true
  pub deep : grammar.text_levels text ≤ lv
  pub few : grammar.text_operators text ≤ most
  pub stands_for : read.0 ≡ grammar.text_items text

text-spots : (ds : List Declaration) (d : Declaration) → grammar.text_spots (ds ++ d ∷ []) ≡ grammar.text_spots ds ++ grammar.declaration_spots d
text-spots [] d = append-nil (grammar.declaration_spots d)
text-spots (first ∷ ds) d = ap (λ s. grammar.declaration_spots first ++ s) (text-spots ds d) ∙ sym (append_assoc (grammar.declaration_spots first) (grammar.text_spots ds) (grammar.declaration_spots d))

text-items : (ds : List Declaration) (d : Declaration) → grammar.text_items (ds ++ d ∷ []) ≡ grammar.text_items ds ++ grammar.declaration_items d
text-items [] d = append-nil (grammar.declaration_items d)
text-items (first ∷ ds) d = ap (λ s. grammar.declaration_items first ++ s) (text-items ds d) ∙ sym (append_assoc (grammar.declaration_items first) (grammar.text_items ds) (grammar.declaration_items d))

text-made : (ds : List Declaration) (d : Declaration) → grammar.text_is_made ds ≡ true → grammar.declaration_is_made d ≡ true → grammar.text_is_made (ds ++ d ∷ []) ≡ true
text-made [] d one other = rw other refl
text-made (first ∷ ds) d one other =
    let parts = both (grammar.declaration_is_made first) (grammar.text_is_made ds) one in
    rw (parts.0, text-made ds d parts.1 other) refl

text-levels : (ds : List Declaration) (d : Declaration) (n : ℕ) → grammar.text_levels ds ≤ n → grammar.declaration_levels d ≤ n → grammar.text_levels (ds ++ d ∷ []) ≤ n
text-levels [] d n h k = omega arith
text-levels (first ∷ ds) d n h k = let low = text-levels ds d n (omega arith) k in omega (arith, low)

text-operators : (ds : List Declaration) (d : Declaration) (n : ℕ) → grammar.text_operators ds ≤ n → grammar.declaration_operators d ≤ n → grammar.text_operators (ds ++ d ∷ []) ≤ n
text-operators [] d n h k = omega arith
text-operators (first ∷ ds) d n h k = let low = text-operators ds d n (omega arith) k in omega (arith, low)

one_declaration_more : (most lv : ℕ) (spots : List Spot) (read next : List SourceItem × List Spot) → goes_on read ≡ true → one_declaration most lv read ≡ Ok next
    → TextFound most lv spots read → TextFound most lv spots next
one_declaration_more most lv spots read next test e has =
    let s = steps (declaration most lv read.1) _ next e in
    let other = declaration_found most lv read.1 s.0 s.1 in
    subst (TextFound most lv spots) (ok_one _ _ s.2)
    (record {
      text = has.text ++ other.declaration ∷ [];
      spells = has.spells ∙ ap (λ r. grammar.text_spots has.text ++ r) other.spells
          ∙ sym (append_assoc (grammar.text_spots has.text) (grammar.declaration_spots other.declaration) s.0.1)
          ∙ ap (λ r. r ++ s.0.1) (sym (text-spots has.text other.declaration));
      made = text-made has.text other.declaration has.made other.made;
      deep = text-levels has.text other.declaration lv has.deep other.deep;
      few = text-operators has.text other.declaration most has.few other.few;
      stands_for = (λ i. has.stands_for i ++ other.stands_for i) ∙ sym (text-items has.text other.declaration);
    })

pub text_found : (most lv : ℕ) (spots : List Spot) (read : List SourceItem × List Spot) → text most lv ([], spots) ≡ Ok read → TextFound most lv spots read
text_found most lv spots read e =
    repeat-keeps items_left goes_on (one_declaration most lv) (TextFound most lv spots) (one_declaration_more most lv spots) ([], spots) read
    (record { text = []; spells = refl; made = refl; deep = omega arith; few = omega arith; stands_for = refl }) e
