-- What the declarations of a text spell is read as their tree.
use Rattle.std.proofs.Common.{◌≡◌, ℕ, zero, suc, ◌+◌, ◌≤◌, Bool, true, false, List, [], ◌∷◌, ◌++◌, length, refl, sym, ap, ◌∙◌, arith, append-nil, append_assoc, length-append}
use Rattle.std.specs.Prelude.{pos, nat_eq, Option, None, Some, Ok, Result}
use Rattle.std.proofs.lemmas.Bool.Decides.{nat_tests}
use Rattle.c_lexer.specs.declared.keyword.Keyword.TheVariants as keywords
use Rattle.c_lexer.specs.declared.mark.Mark.TheVariants as marks
use Rattle.syntax_tree.specs.SourceLine.{lines_from}
use Rattle.c_parser.specs.declared.error.ParseError.{ParseError}
use Rattle.c_parser.specs.Declarations as grammar
use Rattle.c_parser.specs.Declarations.{Shared, Zero, Positive, Negative, SharedList, LastShared, AlsoShared, Returned, Number, Nothing, Slot, Unnamed, Named, LastSlot, AlsoSlot, Parameters, NotTold, NoParameters, Listed, Declaration, Globals, Prototype, Procedure}
use Rattle.c_parser.specs.Descent.{begins_with}
use Rattle.c_parser.specs.Lines.{Lines, lines_spots, lines_are_made, lines_levels, lines_operators, lines_lines}
use Rattle.c_parser.specs.SourceItem.{SourceItem, Parameter, Proto, Body}
use Rattle.c_parser.specs.Spots.{Spot, mark, keyword, word, number, end}
use Rattle.c_parser.specs.Statements.{Word, begins_with_keyword}
use Rattle.c_parser.specs.Texts.{Head, Signature, Slots, at_end, behind_name, behind_signature, behind_type, body, declaration, more_slots, name_at, next_shared, procedure, global_item, shared_list, signature, slot, slot_list, text, typed_declaration}
use Rattle.c_parser.proofs.CompleteLines.{bind_ok, entries_read}
use Rattle.c_parser.proofs.FirstTokens.{both}
use Rattle.c_parser.proofs.Repeats.{chosen, left_out}
use Rattle.c_parser.proofs.TextLoops.{shared-done, shared-more, slots-done, slots-more, text-done, text-more}

-- ---- globals

abbrev pub shared_word : Shared → List Spot → Word
shared_word (Zero at name) later = record { at = at; name = name; rest = later }
shared_word (Positive at name assign digits value) later = record { at = at; name = name; rest = mark assign marks.Assign ∷ number digits value ∷ later }
shared_word (Negative at name assign minus digits value) later =
    record { at = at; name = name; rest = mark assign marks.Assign ∷ mark minus marks.Minus ∷ number digits (pos value) ∷ later }

shared_reads : (g : Shared) (later : List Spot) → begins_with marks.Assign later ≡ false → global_item (shared_word g later) ≡ Ok (grammar.shared_item g, later)
shared_reads (Zero at name) later ends = bind_ok _ (left_out (begins_with marks.Assign later) _ _ ends) refl
shared_reads (Positive at name assign digits value) later ends = refl
shared_reads (Negative at name assign minus digits value) later ends = refl

next_shared_reads : (g : Shared) (later : List Spot) → begins_with marks.Assign later ≡ false → next_shared (grammar.shared_spots g ++ later) ≡ Ok (grammar.shared_item g, later)
next_shared_reads (Zero at name) later ends = shared_reads (Zero at name) later ends
next_shared_reads (Positive at name assign digits value) later ends = refl
next_shared_reads (Negative at name assign minus digits value) later ends = refl

shared_list_reads : (gs : SharedList) (comma semi : ℕ) (later : List Spot) (front : List SourceItem)
    → shared_list (front, mark comma marks.Comma ∷ (grammar.shared_list_spots gs ++ mark semi marks.Semi ∷ later)) ≡ Ok (front ++ grammar.shared_list_items gs, mark semi marks.Semi ∷ later)
shared_list_reads (LastShared g) comma semi later front =
    shared-more (front, mark comma marks.Comma ∷ (grammar.shared_spots g ++ mark semi marks.Semi ∷ later)) (grammar.shared_item g, mark semi marks.Semi ∷ later) refl
    (next_shared_reads g (mark semi marks.Semi ∷ later) refl) (simp length-append (omega arith))
    ∙ shared-done (front ++ grammar.shared_item g ∷ [], mark semi marks.Semi ∷ later) refl
shared_list_reads (AlsoShared g next rest) comma semi later front =
    let behind : List Spot = mark next marks.Comma ∷ (grammar.shared_list_spots rest ++ mark semi marks.Semi ∷ later) in
    ap (λ s. shared_list (front, mark comma marks.Comma ∷ s)) (append_assoc (grammar.shared_spots g) (mark next marks.Comma ∷ grammar.shared_list_spots rest) (mark semi marks.Semi ∷ later))
    ∙ shared-more (front, mark comma marks.Comma ∷ (grammar.shared_spots g ++ behind)) (grammar.shared_item g, behind) refl
    (next_shared_reads g behind refl) (simp length-append (omega arith))
    ∙ shared_list_reads rest next semi later (front ++ grammar.shared_item g ∷ [])
    ∙ ap (λ list. Ok (list, mark semi marks.Semi ∷ later)) (append_assoc front (grammar.shared_item g ∷ []) (grammar.shared_list_items rest))

-- the first of them, and what is left behind it
globals_read : (gs : SharedList) (semi most lv : ℕ) (later : List Spot)
    → behind_type most lv false true (grammar.shared_list_spots gs ++ mark semi marks.Semi ∷ later) ≡ Ok (grammar.shared_list_items gs, later)
globals_read (LastShared (Zero at name)) semi most lv later =
    bind_ok _ (shared-done (grammar.shared_item (Zero at name) ∷ [], mark semi marks.Semi ∷ later) refl) refl
globals_read (LastShared (Positive at name assign digits value)) semi most lv later =
    bind_ok _ (shared-done (grammar.shared_item (Positive at name assign digits value) ∷ [], mark semi marks.Semi ∷ later) refl) refl
globals_read (LastShared (Negative at name assign minus digits value)) semi most lv later =
    bind_ok _ (shared-done (grammar.shared_item (Negative at name assign minus digits value) ∷ [], mark semi marks.Semi ∷ later) refl) refl
globals_read (AlsoShared (Zero at name) comma rest) semi most lv later =
    bind_ok _ (shared_list_reads rest comma semi later (grammar.shared_item (Zero at name) ∷ [])) refl
globals_read (AlsoShared (Positive at name assign digits value) comma rest) semi most lv later =
    bind_ok _ (shared_list_reads rest comma semi later (grammar.shared_item (Positive at name assign digits value) ∷ [])) refl
globals_read (AlsoShared (Negative at name assign minus digits value) comma rest) semi most lv later =
    bind_ok _ (shared_list_reads rest comma semi later (grammar.shared_item (Negative at name assign minus digits value) ∷ [])) refl

-- ---- parameters

abbrev pub slots_of : ℕ → List Parameter → List Spot → Slots
slots_of count named rest = record { count = count; named = named; rest = rest }

slot_reads : (s : Slot) (count : ℕ) (named : List Parameter) (before later : List Spot) → name_at later ≡ []
    → slot (slots_of count named before) (grammar.slot_spots s ++ later) ≡ Ok (slots_of (count + 1) (named ++ grammar.slot_parameters s) later)
slot_reads (Unnamed type) count named before later ends =
    ap (λ found. Ok (slots_of (count + 1) (named ++ found) (behind_name found later))) ends
slot_reads (Named type at name) count named before later ends = refl

more_slots_read : (ss : grammar.Slots) (comma closed count : ℕ) (later : List Spot) (named : List Parameter)
    → more_slots (slots_of count named (mark comma marks.Comma ∷ (grammar.slots_spots ss ++ mark closed marks.CloseRound ∷ later)))
    ≡ Ok (slots_of (count + grammar.count_slots ss) (named ++ grammar.slots_parameters ss) (mark closed marks.CloseRound ∷ later))
more_slots_read (LastSlot s) comma closed count later named =
    slots-more (slots_of count named (mark comma marks.Comma ∷ (grammar.slot_spots s ++ mark closed marks.CloseRound ∷ later)))
    (slots_of (count + 1) (named ++ grammar.slot_parameters s) (mark closed marks.CloseRound ∷ later)) refl
    (slot_reads s count named [] (mark closed marks.CloseRound ∷ later) refl) (simp length-append (omega arith))
    ∙ slots-done (slots_of (count + 1) (named ++ grammar.slot_parameters s) (mark closed marks.CloseRound ∷ later)) refl
more_slots_read (AlsoSlot s next rest) comma closed count later named =
    let behind : List Spot = mark next marks.Comma ∷ (grammar.slots_spots rest ++ mark closed marks.CloseRound ∷ later) in
    let same : count + 1 + grammar.count_slots rest ≡ count + suc (grammar.count_slots rest) = omega arith in
    ap (λ s. more_slots (slots_of count named (mark comma marks.Comma ∷ s))) (append_assoc (grammar.slot_spots s) (mark next marks.Comma ∷ grammar.slots_spots rest) (mark closed marks.CloseRound ∷ later))
    ∙ slots-more (slots_of count named (mark comma marks.Comma ∷ (grammar.slot_spots s ++ behind))) (slots_of (count + 1) (named ++ grammar.slot_parameters s) behind) refl
    (slot_reads s count named [] behind refl) (simp length-append (omega arith))
    ∙ more_slots_read rest next closed (count + 1) later (named ++ grammar.slot_parameters s)
    ∙ (λ i. Ok (slots_of (same i) (append_assoc named (grammar.slot_parameters s) (grammar.slots_parameters rest) i) (mark closed marks.CloseRound ∷ later)))

slot_list_reads : (ss : grammar.Slots) (closed : ℕ) (later : List Spot)
    → slot_list (grammar.slots_spots ss ++ mark closed marks.CloseRound ∷ later) ≡ Ok (slots_of (grammar.count_slots ss) (grammar.slots_parameters ss) (mark closed marks.CloseRound ∷ later))
slot_list_reads (LastSlot s) closed later =
    bind_ok _ (slot_reads s 0 [] [] (mark closed marks.CloseRound ∷ later) refl) (slots-done (slots_of 1 (grammar.slot_parameters s) (mark closed marks.CloseRound ∷ later)) refl)
slot_list_reads (AlsoSlot s comma rest) closed later =
    let same : 1 + grammar.count_slots rest ≡ suc (grammar.count_slots rest) = omega arith in
    ap slot_list (append_assoc (grammar.slot_spots s) (mark comma marks.Comma ∷ grammar.slots_spots rest) (mark closed marks.CloseRound ∷ later))
    ∙ bind_ok _ (slot_reads s 0 [] [] (mark comma marks.Comma ∷ (grammar.slots_spots rest ++ mark closed marks.CloseRound ∷ later)) refl)
    (more_slots_read rest comma closed 1 later (grammar.slot_parameters s)
    ∙ (λ i. Ok (slots_of (same i) (grammar.slot_parameters s ++ grammar.slots_parameters rest) (mark closed marks.CloseRound ∷ later))))

abbrev pub count_parameters : Parameters → ℕ
count_parameters (Listed slots) = grammar.count_slots slots
count_parameters _ = 0

abbrev pub signature_is : Parameters → List Spot → Signature
signature_is params rest = record { told = grammar.told_parameters params; count = count_parameters params; named = grammar.named_parameters params; rest = rest }

slots-first : (ss : grammar.Slots) (later : List Spot) → (begins_with_keyword keywords.Void (grammar.slots_spots ss ++ later) ≡ false) × (begins_with_keyword keywords.Int (grammar.slots_spots ss ++ later) ≡ true)
slots-first (LastSlot (Unnamed type)) later = (refl, refl)
slots-first (LastSlot (Named type at name)) later = (refl, refl)
slots-first (AlsoSlot (Unnamed type) comma rest) later = (refl, refl)
slots-first (AlsoSlot (Named type at name) comma rest) later = (refl, refl)

signature_reads : (params : Parameters) (closed : ℕ) (later : List Spot)
    → signature (grammar.parameters_spots params ++ mark closed marks.CloseRound ∷ later) ≡ Ok (signature_is params (mark closed marks.CloseRound ∷ later))
signature_reads NotTold closed later = refl
signature_reads (NoParameters void) closed later = refl
signature_reads (Listed ss) closed later =
    let first = slots-first ss (mark closed marks.CloseRound ∷ later) in
    left_out (begins_with_keyword keywords.Void (grammar.slots_spots ss ++ mark closed marks.CloseRound ∷ later)) _ _ first.0
    ∙ chosen (begins_with_keyword keywords.Int (grammar.slots_spots ss ++ mark closed marks.CloseRound ∷ later)) _ _ first.1
    ∙ bind_ok _ (slot_list_reads ss closed later) refl

named-count : (ss : grammar.Slots) → grammar.are_named ss ≡ true → length (grammar.slots_parameters ss) ≡ grammar.count_slots ss
named-count (LastSlot (Unnamed type)) e = cc
named-count (LastSlot (Named type at name)) e = omega arith
named-count (AlsoSlot (Unnamed type) comma rest) e = cc
named-count (AlsoSlot (Named type at name) comma rest) e = let more = named-count rest e in omega (arith, more)

nat_eq-same : (m n : ℕ) → m ≡ n → nat_eq m n ≡ true
nat_eq-same m n e = grind (arith, nat_tests)

parameters-count : (params : Parameters) → grammar.parameters_are_named params ≡ true → nat_eq (length (grammar.named_parameters params)) (count_parameters params) ≡ true
parameters-count NotTold e = refl
parameters-count (NoParameters void) e = refl
parameters-count (Listed ss) e = nat_eq-same _ _ (named-count ss e)

-- ---- procedures

abbrev pub head_of : Bool → Bool → ℕ → List ℕ → Head
head_of outside returns at name = record { outside = outside; returns = returns; at = at; name = name }

body_reads : (begins : ℕ) (ls : Lines) (ends most lv : ℕ) (outside returns : Bool) (at : ℕ) (name : List ℕ) (params : List Parameter) (later : List Spot) → lines_are_made ls ≡ true
    → suc (lines_levels ls) ≤ lv → lines_operators ls ≤ most
    → body most lv (head_of outside returns at name) params (mark begins marks.OpenBrace ∷ (lines_spots ls ++ mark ends marks.CloseBrace ∷ later))
    ≡ Ok (Body name at returns params (lines_from (lines_lines ls)) ends ∷ [], later)
body_reads begins ls ends most zero outside returns at name params later made deep few = absurd (omega arith)
body_reads begins ls ends most (suc level) outside returns at name params later made deep few =
    bind_ok _ (bind_ok _ (entries_read ls most level ends later [] made (omega arith) few) refl) refl

procedure_reads : (outside returns : Bool) (at : ℕ) (name : List ℕ) (params : Parameters) (closed most lv : ℕ) (after : List Spot) (came : Result (List SourceItem × List Spot) ParseError)
    → behind_signature most lv (head_of outside returns at name) (signature_is params (mark closed marks.CloseRound ∷ after)) after ≡ came
    → procedure most lv (head_of outside returns at name) (grammar.parameters_spots params ++ mark closed marks.CloseRound ∷ after) ≡ came
procedure_reads outside returns at name params closed most lv after came e = bind_ok _ (signature_reads params closed after) e

-- ---- the text

-- behind the type, a name and its bracket
named_reads : (most lv : ℕ) (outside : Bool) (returned : Returned) (at : ℕ) (name : List ℕ) (opened : ℕ) (rest : List Spot)
    → typed_declaration most lv outside (grammar.returned_spots returned ++ word at name ∷ mark opened marks.OpenRound ∷ rest) ≡ procedure most lv (head_of outside (grammar.returns returned) at name) rest
named_reads most lv outside (Number type) at name opened rest = refl
named_reads most lv outside (Nothing type) at name opened rest = refl

outside_reads : (most lv : ℕ) (outside : Option ℕ) (returned : Returned) (rest : List Spot) → (came : Result (List SourceItem × List Spot) ParseError)
    → ((flag : Bool) → typed_declaration most lv flag (grammar.returned_spots returned ++ rest) ≡ came)
    → declaration most lv (grammar.outside_spots outside ++ (grammar.returned_spots returned ++ rest)) ≡ came
outside_reads most lv None (Number type) rest came e = e false
outside_reads most lv None (Nothing type) rest came e = e false
outside_reads most lv (Some at) returned rest came e = e true

abbrev pub DeclarationReads : Declaration → Type 0
DeclarationReads d = (most lv : ℕ) (later : List Spot) → grammar.declaration_is_made d ≡ true → grammar.declaration_levels d ≤ lv → grammar.declaration_operators d ≤ most
    → declaration most lv (grammar.declaration_spots d ++ later) ≡ Ok (grammar.declaration_items d, later)

globals_declared : (type : ℕ) (gs : SharedList) (semi : ℕ) → DeclarationReads (Globals type gs semi)
globals_declared type gs semi most lv later made deep few =
    ap (λ s. declaration most lv (keyword type keywords.Int ∷ s)) (append_assoc (grammar.shared_list_spots gs) (mark semi marks.Semi ∷ []) later)
    ∙ globals_read gs semi most lv later

prototype_declared : (outside : Option ℕ) (returned : Returned) (at : ℕ) (name : List ℕ) (opened : ℕ) (params : Parameters) (closed semi : ℕ)
    → DeclarationReads (Prototype outside returned at name opened params closed semi)
prototype_declared outside returned at name opened params closed semi most lv later made deep few =
    let after : List Spot = mark semi marks.Semi ∷ later in
    let inside : List Spot = grammar.parameters_spots params ++ mark closed marks.CloseRound ∷ after in
    let tokens = word at name ∷ mark opened marks.OpenRound ∷ (grammar.parameters_spots params ++ mark closed marks.CloseRound ∷ mark semi marks.Semi ∷ []) in
    let cut : grammar.declaration_spots (Prototype outside returned at name opened params closed semi) ++ later
    ≡ grammar.outside_spots outside ++ (grammar.returned_spots returned ++ word at name ∷ mark opened marks.OpenRound ∷ inside) =
    append_assoc (grammar.outside_spots outside ++ grammar.returned_spots returned) tokens later
    ∙ append_assoc (grammar.outside_spots outside) (grammar.returned_spots returned) (tokens ++ later)
    ∙ ap (λ s. grammar.outside_spots outside ++ (grammar.returned_spots returned ++ word at name ∷ mark opened marks.OpenRound ∷ s))
    (append_assoc (grammar.parameters_spots params) (mark closed marks.CloseRound ∷ mark semi marks.Semi ∷ []) later) in
    ap (declaration most lv) cut
    ∙ outside_reads most lv outside returned (word at name ∷ mark opened marks.OpenRound ∷ inside) (Ok (Proto name at (grammar.returns returned) (grammar.told_parameters params) ∷ [], later))
    (λ flag. named_reads most lv flag returned at name opened inside ∙ procedure_reads flag (grammar.returns returned) at name params closed most lv after _ refl)

procedure_declared : (returned : Returned) (at : ℕ) (name : List ℕ) (opened : ℕ) (params : Parameters) (closed begins : ℕ) (ls : Lines) (ends : ℕ)
    → DeclarationReads (Procedure returned at name opened params closed begins ls ends)
procedure_declared returned at name opened params closed begins ls ends most lv later made deep few =
    let parts = both (grammar.parameters_are_named params) (lines_are_made ls) made in
    let after : List Spot = mark begins marks.OpenBrace ∷ (lines_spots ls ++ mark ends marks.CloseBrace ∷ later) in
    let inside : List Spot = grammar.parameters_spots params ++ mark closed marks.CloseRound ∷ after in
    let tokens = word at name ∷ mark opened marks.OpenRound
    ∷ (grammar.parameters_spots params ++ mark closed marks.CloseRound ∷ mark begins marks.OpenBrace ∷ (lines_spots ls ++ mark ends marks.CloseBrace ∷ [])) in
    let cut : grammar.declaration_spots (Procedure returned at name opened params closed begins ls ends) ++ later
    ≡ grammar.returned_spots returned ++ word at name ∷ mark opened marks.OpenRound ∷ inside =
    append_assoc (grammar.returned_spots returned) tokens later
    ∙ ap (λ s. grammar.returned_spots returned ++ word at name ∷ mark opened marks.OpenRound ∷ s)
    (append_assoc (grammar.parameters_spots params) (mark closed marks.CloseRound ∷ mark begins marks.OpenBrace ∷ (lines_spots ls ++ mark ends marks.CloseBrace ∷ [])) later
    ∙ ap (λ s. grammar.parameters_spots params ++ mark closed marks.CloseRound ∷ mark begins marks.OpenBrace ∷ s) (append_assoc (lines_spots ls) (mark ends marks.CloseBrace ∷ []) later)) in
    ap (declaration most lv) cut
    ∙ no_extern returned (word at name ∷ mark opened marks.OpenRound ∷ inside)
    ∙ named_reads most lv false returned at name opened inside
    ∙ procedure_reads false (grammar.returns returned) at name params closed most lv after _
    (chosen (nat_eq (length (grammar.named_parameters params)) (count_parameters params)) _ _ (parameters-count params parts.0)
    ∙ body_reads begins ls ends most lv false (grammar.returns returned) at name (grammar.named_parameters params) later parts.1 deep few)
  where
    no_extern : (r : Returned) (rest : List Spot) → declaration most lv (grammar.returned_spots r ++ rest) ≡ typed_declaration most lv false (grammar.returned_spots r ++ rest)
    no_extern (Number type) rest = refl
    no_extern (Nothing type) rest = refl

pub declaration_reads : (d : Declaration) → DeclarationReads d
declaration_reads (Globals type gs semi) = globals_declared type gs semi
declaration_reads (Prototype outside returned at name opened params closed semi) = prototype_declared outside returned at name opened params closed semi
declaration_reads (Procedure returned at name opened params closed begins ls ends) = procedure_declared returned at name opened params closed begins ls ends

pub record BeginsDeclaration (spots later : List Spot) : Type 0 where
  pub no_end : at_end (spots ++ later) ≡ false
  pub some : 1 ≤ length spots

pub declaration-begins : (d : Declaration) (later : List Spot) → BeginsDeclaration (grammar.declaration_spots d) later
declaration-begins (Globals type gs semi) later = record { no_end = refl; some = omega arith }
declaration-begins (Prototype None (Number type) at name opened params closed semi) later = record { no_end = refl; some = omega arith }
declaration-begins (Prototype None (Nothing type) at name opened params closed semi) later = record { no_end = refl; some = omega arith }
declaration-begins (Prototype (Some place) returned at name opened params closed semi) later = record { no_end = refl; some = omega arith }
declaration-begins (Procedure (Number type) at name opened params closed begins ls ends) later = record { no_end = refl; some = omega arith }
declaration-begins (Procedure (Nothing type) at name opened params closed begins ls ends) later = record { no_end = refl; some = omega arith }

pub text_reads : (ds : List Declaration) (most lv at : ℕ) (front : List SourceItem) → grammar.text_is_made ds ≡ true → grammar.text_levels ds ≤ lv → grammar.text_operators ds ≤ most
    → text most lv (front, grammar.text_spots ds ++ end at ∷ []) ≡ Ok (front ++ grammar.text_items ds, end at ∷ [])
text_reads [] most lv at front made deep few =
    text-done most lv (front, end at ∷ []) refl ∙ ap (λ list. Ok (list, end at ∷ [])) (sym (append-nil front))
text_reads (d ∷ rest) most lv at front made deep few =
    let parts = both (grammar.declaration_is_made d) (grammar.text_is_made rest) made in
    let behind : List Spot = grammar.text_spots rest ++ end at ∷ [] in
    let first = declaration-begins d behind in
    ap (λ s. text most lv (front, s)) (append_assoc (grammar.declaration_spots d) (grammar.text_spots rest) (end at ∷ []))
    ∙ text-more most lv (front, grammar.declaration_spots d ++ behind) (grammar.declaration_items d, behind) first.no_end
    (declaration_reads d most lv behind parts.0 (omega arith) (omega arith)) (simp length-append (omega (arith, first.some)))
    ∙ text_reads rest most lv at (front ++ grammar.declaration_items d) parts.1 (omega arith) (omega arith)
    ∙ ap (λ list. Ok (list, end at ∷ [])) (append_assoc front (grammar.declaration_items d) (grammar.text_items rest))
