-- The grammar of a text (C11 6.7 and 6.9), as derivations that hold the place of each of their
-- tokens.
use Rattle.std.specs.Prelude.{ℕ, ℤ, pos, neg_ℤ, suc, max, Bool, true, false, ◌&&◌, Option, None, Some, List, [], ◌∷◌, ◌++◌}
use Rattle.c_lexer.specs.declared.keyword.Keyword.TheVariants.{Int, Void, Extern}
use Rattle.c_lexer.specs.declared.mark.Mark.TheVariants.{OpenRound, CloseRound, OpenBrace, CloseBrace, Comma, Semi, Assign, Minus}
use Rattle.syntax_tree.specs.SourceLine.{lines_from}
use Rattle.c_parser.specs.Lines.{Lines, lines_spots, lines_are_made, lines_lines, lines_levels, lines_operators}
use Rattle.c_parser.specs.SourceItem.{SourceItem, Global, Proto, Body, Parameter}
use Rattle.c_parser.specs.Spots.{Spot, mark, keyword, word, number}

-- a global, with its number or without
pub data Shared : Type 0 where
  Zero : (at : ℕ) (name : List ℕ) → Shared
  Positive : (at : ℕ) (name : List ℕ) (assign digits : ℕ) (value : ℤ) → Shared
  Negative : (at : ℕ) (name : List ℕ) (assign minus digits value : ℕ) → Shared

-- one global or more, with commas between them, in the order of the text (C11 6.7)
pub data SharedList : Type 0 where
  LastShared : (shared : Shared) → SharedList
  AlsoShared : (shared : Shared) (comma : ℕ) (rest : SharedList) → SharedList

-- what a procedure returns
pub data Returned : Type 0 where
  Number : (at : ℕ) → Returned
  Nothing : (at : ℕ) → Returned

-- `int`, and a name or none (C11 6.7.6.3)
pub data Slot : Type 0 where
  Unnamed : (type : ℕ) → Slot
  Named : (type at : ℕ) (name : List ℕ) → Slot

-- one parameter or more, with commas between them, in the order of the text (C11 6.7.6.3)
pub data Slots : Type 0 where
  LastSlot : (slot : Slot) → Slots
  AlsoSlot : (slot : Slot) (comma : ℕ) (rest : Slots) → Slots

-- what stands in the brackets behind a procedure's name
pub data Parameters : Type 0 where
  NotTold : Parameters
  NoParameters : (void : ℕ) → Parameters
  Listed : (slots : Slots) → Parameters

-- a list of globals, a prototype, or a procedure with its body (C11 6.9)
pub data Declaration : Type 0 where
  Globals : (type : ℕ) (shared : SharedList) (semi : ℕ) → Declaration
  Prototype : (outside : Option ℕ) (returned : Returned) (at : ℕ) (name : List ℕ) (opened : ℕ)
      (params : Parameters) (closed semi : ℕ) → Declaration
  Procedure : (returned : Returned) (at : ℕ) (name : List ℕ) (opened : ℕ) (params : Parameters)
      (closed begins : ℕ) (lines : Lines) (ends : ℕ) → Declaration

-- ---- the tokens that are spelled

-- the tokens of a global: its name, and where a number is told `=` and that with its minus
abbrev pub shared_spots : Shared → List Spot
shared_spots (Zero at name) = word at name ∷ []
shared_spots (Positive at name assign digits value) = word at name ∷ mark assign Assign
    ∷ number digits value ∷ []
shared_spots (Negative at name assign minus digits value) =
    word at name ∷ mark assign Assign ∷ mark minus Minus ∷ number digits (pos value) ∷ []

-- the tokens of globals, with the commas between them
abbrev pub shared_list_spots : SharedList → List Spot
shared_list_spots (LastShared shared) = shared_spots shared
shared_list_spots (AlsoShared shared comma rest) = shared_spots shared ++ mark comma Comma
    ∷ shared_list_spots rest

-- the token for what a procedure returns: `int` or `void`
abbrev pub returned_spots : Returned → List Spot
returned_spots (Number at) = keyword at Int ∷ []
returned_spots (Nothing at) = keyword at Void ∷ []

-- the tokens of a parameter: `int`, and its name where it has one
abbrev pub slot_spots : Slot → List Spot
slot_spots (Unnamed type) = keyword type Int ∷ []
slot_spots (Named type at name) = keyword type Int ∷ word at name ∷ []

-- the tokens of parameters, with the commas between them
abbrev pub slots_spots : Slots → List Spot
slots_spots (LastSlot slot) = slot_spots slot
slots_spots (AlsoSlot slot comma rest) = slot_spots slot ++ mark comma Comma ∷ slots_spots rest

-- the tokens between the brackets behind a procedure's name: [] where nothing stands there
abbrev pub parameters_spots : Parameters → List Spot
parameters_spots NotTold = []
parameters_spots (NoParameters void) = keyword void Void ∷ []
parameters_spots (Listed slots) = slots_spots slots

-- the `extern` in front of a prototype: [] where there is none
abbrev pub outside_spots : Option ℕ → List Spot
outside_spots None = []
outside_spots (Some at) = keyword at Extern ∷ []

-- the tokens of a declaration, up to its semicolon or its closing brace
abbrev pub declaration_spots : Declaration → List Spot
declaration_spots (Globals type shared semi) =
    keyword type Int ∷ (shared_list_spots shared ++ mark semi Semi ∷ [])
declaration_spots (Prototype outside returned at name opened params closed semi) =
    outside_spots outside ++ returned_spots returned
    ++ word at name ∷ mark opened OpenRound
    ∷ (parameters_spots params ++ mark closed CloseRound ∷ mark semi Semi ∷ [])
declaration_spots (Procedure returned at name opened params closed begins lines ends) =
    returned_spots returned ++ word at name ∷ mark opened OpenRound
    ∷ (parameters_spots params ++ mark closed CloseRound ∷ mark begins OpenBrace
    ∷ (lines_spots lines ++ mark ends CloseBrace ∷ []))

-- the tokens of declarations, one behind the other, without the end of the text
abbrev pub text_spots : List Declaration → List Spot
text_spots [] = []
text_spots (declaration ∷ rest) = declaration_spots declaration ++ text_spots rest

-- ---- what the grammar asks beside the tokens

-- whether the parameter has a name
abbrev pub is_named : Slot → Bool
is_named (Unnamed type) = false
is_named (Named type at name) = true

-- whether each of the parameters has a name
abbrev pub are_named : Slots → Bool
are_named (LastSlot slot) = is_named slot
are_named (AlsoSlot slot comma rest) = is_named slot && are_named rest

-- the parameters of a procedure with its body have names
abbrev pub parameters_are_named : Parameters → Bool
parameters_are_named (Listed slots) = are_named slots
parameters_are_named _ = true

-- whether a procedure's parameters have names and its lines are as the grammar asks: true for
-- globals and prototypes
abbrev pub declaration_is_made : Declaration → Bool
declaration_is_made (Procedure returned at name opened params closed begins lines ends) =
    parameters_are_named params && lines_are_made lines
declaration_is_made _ = true

-- whether each of the declarations is as the grammar asks
abbrev pub text_is_made : List Declaration → Bool
text_is_made [] = true
text_is_made (declaration ∷ rest) = declaration_is_made declaration && text_is_made rest

-- ---- the tree

-- the item of a global, at the place of its name, with 0 where no number is told
abbrev pub shared_item : Shared → SourceItem
shared_item (Zero at name) = Global name at (pos 0)
shared_item (Positive at name assign digits value) = Global name at value
shared_item (Negative at name assign minus digits value) = Global name at (neg_ℤ (pos value))

-- the items of globals, one for each, in the order of the text
abbrev pub shared_list_items : SharedList → List SourceItem
shared_list_items (LastShared shared) = shared_item shared ∷ []
shared_list_items (AlsoShared shared comma rest) = shared_item shared ∷ shared_list_items rest

-- whether a procedure returns a number
abbrev pub returns : Returned → Bool
returns (Number at) = true
returns (Nothing at) = false

-- how many parameters there are, those without names among them
abbrev pub count_slots : Slots → ℕ
count_slots (LastSlot slot) = 1
count_slots (AlsoSlot slot comma rest) = suc (count_slots rest)

-- how many parameters a prototype tells; empty brackets tell nothing
abbrev pub told_parameters : Parameters → Option ℕ
told_parameters NotTold = None
told_parameters (NoParameters void) = Some 0
told_parameters (Listed slots) = Some (count_slots slots)

-- the parameter with its name: [] where it has none
abbrev pub slot_parameters : Slot → List Parameter
slot_parameters (Unnamed type) = []
slot_parameters (Named type at name) = record { name = name; at = at } ∷ []

-- those of the parameters that have names, in the order of the text
abbrev pub slots_parameters : Slots → List Parameter
slots_parameters (LastSlot slot) = slot_parameters slot
slots_parameters (AlsoSlot slot comma rest) = slot_parameters slot ++ slots_parameters rest

-- the parameters between the brackets that have names, in the order of the text: [] where nothing
-- or `void` stands there
abbrev pub named_parameters : Parameters → List Parameter
named_parameters (Listed slots) = slots_parameters slots
named_parameters _ = []

-- the items of a declaration: one for each global, or one for a prototype or a procedure
abbrev pub declaration_items : Declaration → List SourceItem
declaration_items (Globals type shared semi) = shared_list_items shared
declaration_items (Prototype outside returned at name opened params closed semi) =
    Proto name at (returns returned) (told_parameters params) ∷ []
declaration_items (Procedure returned at name opened params closed begins lines ends) =
    Body name at (returns returned) (named_parameters params) (lines_from (lines_lines lines)) ends
    ∷ []

-- the items of declarations, in the order of the text
abbrev pub text_items : List Declaration → List SourceItem
text_items [] = []
text_items (declaration ∷ rest) = declaration_items declaration ++ text_items rest

-- ---- limits

-- a procedure's block is a level
abbrev pub declaration_levels : Declaration → ℕ
declaration_levels (Procedure returned at name opened params closed begins lines ends) =
    suc (lines_levels lines)
declaration_levels _ = 0

-- how deep the most nested of the declarations is nested: 0 for none
abbrev pub text_levels : List Declaration → ℕ
text_levels [] = 0
text_levels (declaration ∷ rest) = max (declaration_levels declaration) (text_levels rest)

-- the most operators with two operands in one whole expression of a procedure's body: 0 for globals
-- and prototypes
abbrev pub declaration_operators : Declaration → ℕ
declaration_operators (Procedure returned at name opened params closed begins lines ends) =
    lines_operators lines
declaration_operators _ = 0

-- the most operators with two operands in one whole expression of the declarations: 0 for none
abbrev pub text_operators : List Declaration → ℕ
text_operators [] = 0
text_operators (declaration ∷ rest) = max (declaration_operators declaration) (text_operators rest)
