-- The declaration in force for each name, and what each declaration hides: how the scopes are kept.
use Rattle.std.specs.Prelude.{◌≡◌, ◌⊎◌, ℕ, ◌==◌, Bool, false, Option, None, Some, List, [], ◌∷◌, ◌++◌, map, reverse, length, if◌then◌else◌}
use Rattle.std.specs.Str.{bytes_eq}
use Rattle.std.specs.Map.{lookup}
use Rattle.typing.specs.declared.meaning.Meaning.{Meaning}
use Rattle.typing.specs.declared.scopes.Held.{Held}
use Rattle.typing.specs.declared.scopes.Declaration.{Declaration}
use Rattle.typing.specs.Scopes.{Entry, Scope, meaning_in}

-- the declaration in a scope with so many around it, and the one in force outside where the scope
-- has none
abbrev pub or_held : ℕ → Option Meaning → Option Held → Option Held
or_held depth None outer = outer
or_held depth (Some meaning) outer = Some record { depth = depth; meaning = meaning }

-- the declaration of a name in the innermost scope that has one, and how many scopes stand around
-- that
abbrev pub in_force : List Scope → List ℕ → Option Held
in_force [] name = None
in_force (scope ∷ outer) name = or_held (length outer) (meaning_in scope name) (in_force outer name)

-- the declaration that is held, if there is an entry and it holds one
abbrev pub flat : Option (Option Held) → Option Held
flat None = None
flat (Some held) = held

-- what a map holds for a name
abbrev pub entry_for : List (List ℕ × Option Held) → List ℕ → Option Held
entry_for entries name = flat (lookup (bytes_eq name) entries)

-- the map holds the declaration in force for each name
abbrev pub IsInForce : List (List ℕ × Option Held) → List Scope → Type 0
IsInForce entries scopes = (name : List ℕ) → entry_for entries name ≡ in_force scopes name

-- a declaration as the scopes show it
abbrev pub entry_of : Declaration → Entry
entry_of declaration = (declaration.name, declaration.meaning)

-- the scopes, innermost first
abbrev pub scopes_of : List (List Declaration) → List Scope
scopes_of stack = reverse (map (map entry_of) stack)

-- each element of a list has to do with those before it
abbrev pub AllAfter : {A : Type 0} → (List A → A → Type 0) → List A → Type 0
AllAfter {A} P xs = (older : List A) (x : A) (newer : List A) → xs ≡ older ++ x ∷ newer → P older x

-- each declaration of a scope hides what was in force behind those before it
abbrev pub Restores : List Declaration → List Scope → Type 0
Restores scope outer =
    AllAfter (λ older declaration. declaration.hidden ≡ in_force (map entry_of older ∷ outer)
    declaration.name) scope

-- the same of each scope
abbrev pub RestoresAll : List (List Declaration) → Type 0
RestoresAll stack = AllAfter (λ outer scope. Restores scope (scopes_of outer)) stack

-- the innermost scope and the stack without it; an empty one where there is none
abbrev pub IsInnermost : List (List Declaration) → List (List Declaration) → List Declaration
    → Type 0
IsInnermost stack rest scope = (stack ≡ rest ++ scope ∷ [])
    ⊎ ((stack ≡ []) × (rest ≡ []) × (scope ≡ []))

-- the declaration stands in a scope with so many around it
abbrev pub is_at : Option Held → ℕ → Bool
is_at None depth = false
is_at (Some held) depth = held.depth == depth

-- what is in force for another name behind a declaration that hides something: the first of a scope
-- counts
abbrev pub after_declaration : List ℕ → Held → Option Held → Option Held → List ℕ → Option Held
after_declaration name held hidden other_held other =
    if is_at hidden held.depth then other_held
    else (if bytes_eq name other then Some held else other_held)
