-- Scopes, and what a name means in them (C11 6.2.1).
use Rattle.std.specs.Prelude.{ℕ, Bool, false, Option, None, Some, is_some, unwrap_or, List, [], ◌∷◌, ◌++◌, if◌then◌else◌}
use Rattle.std.specs.Str.{bytes_eq}
use Rattle.typing.specs.declared.callee.Callee.{Callee}
use Rattle.typing.specs.declared.callee.Callee.TheVariants as callee
use Rattle.typing.specs.declared.meaning.Meaning.{Meaning}
use Rattle.typing.specs.declared.meaning.Meaning.TheVariants.{Variable, Procedure}
use Rattle.typing.specs.declared.special.Special.{Special}
use Rattle.typing.specs.Specials.{special_of, is_special}

-- a declared name and what it means
abbrev pub Entry : Type 0
Entry = List ℕ × Meaning

-- the declarations of one scope, in the order of the text
abbrev pub Scope : Type 0
Scope = List Entry

-- the first declaration of a name in one scope
abbrev pub meaning_in : Scope → List ℕ → Option Meaning
meaning_in [] name = None
meaning_in (entry ∷ rest) name = if bytes_eq entry.0 name then Some entry.1
    else meaning_in rest name

-- the meaning in a scope, and the one in the scopes around it where the scope has none
abbrev pub or_outer : Option Meaning → Option Meaning → Option Meaning
or_outer None outer = outer
or_outer (Some meaning) outer = Some meaning

-- A name means its declaration in the innermost scope that has one. The scopes are given innermost
-- first.
abbrev pub meaning_of : List Scope → List ℕ → Option Meaning
meaning_of [] name = None
meaning_of (scope ∷ outer) name = or_outer (meaning_in scope name) (meaning_of outer name)

-- the innermost scope has the name
abbrev pub is_declared_here : List Scope → List ℕ → Bool
is_declared_here [] name = false
is_declared_here (scope ∷ outer) name = is_some (meaning_in scope name)

-- one more declaration in the innermost scope
abbrev pub with_declaration : List ℕ → Meaning → List Scope → List Scope
with_declaration name meaning [] = ((name, meaning) ∷ []) ∷ []
with_declaration name meaning (scope ∷ outer) = (scope ++ (name, meaning) ∷ []) ∷ outer

-- without the innermost scope
abbrev pub outer_of : List Scope → List Scope
outer_of [] = []
outer_of (scope ∷ outer) = outer

-- the column of a variable; None where a name means a procedure or nothing
abbrev pub if_variable : Option Meaning → Option ℕ
if_variable (Some (Variable col)) = Some col
if_variable (Some (Procedure signature)) = None
if_variable None = None

-- the column of the variable that a name means; a special name means none
unfoldable pub variable_of : List Scope → List ℕ → Option ℕ
variable_of scopes name = if is_special name then None else if_variable (meaning_of scopes name)

-- the same, and 0 where it means none: a text in which that happens has no program
abbrev pub column_of : List Scope → List ℕ → ℕ
column_of scopes name = unwrap_or (variable_of scopes name) 0

-- the callee where a name means a procedure of the text; nobody where it means a variable or
-- nothing
abbrev pub if_procedure : Option Meaning → Callee
if_procedure (Some (Procedure signature)) = callee.Own signature
if_procedure (Some (Variable col)) = callee.Nobody
if_procedure None = callee.Nobody

-- the special callee of a name that is special, and the other callee where it is none
abbrev pub if_special : Option Special → Callee → Callee
if_special (Some special) other = callee.Special special
if_special None other = other

-- what the name of a call means: special names come first
unfoldable pub callee_of : List Scope → List ℕ → Callee
callee_of scopes name = if_special (special_of name) (if_procedure (meaning_of scopes name))
