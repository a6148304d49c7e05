-- What a line depends on (the fields of `Env`), and how it changes from line to line.
use Rattle.std.specs.Prelude.{ℕ, ◌+◌, List, [], ◌∷◌}
use Rattle.typing.specs.declared.env.Env.{Env}
use Rattle.typing.specs.declared.env.LoopPlace.{LoopPlace}
use Rattle.typing.specs.declared.env.LoopPlace.TheVariants.{Outside, InBody, InStep}
use Rattle.typing.specs.declared.meaning.Meaning.TheVariants.{Variable}
use Rattle.typing.specs.Scopes.{with_declaration, outer_of}

-- so many more columns are taken
unfoldable pub with_columns_taken : ℕ → Env → Env
with_columns_taken columns env = record env { next = env.next + columns }

-- a variable is declared, and takes the next column
unfoldable pub with_variable : List ℕ → Env → Env
with_variable name env =
    record env { scopes = with_declaration name (Variable env.next) env.scopes; next = env.next + 1 }

-- so many more assertions stand above
unfoldable pub with_assertions : ℕ → Env → Env
with_assertions assertions env = record env { number = env.number + assertions }

-- in a scope of its own, which has no declaration yet
unfoldable pub with_scope : Env → Env
with_scope env = record env { scopes = [] ∷ env.scopes }

-- behind the innermost scope, whose declarations are gone
unfoldable pub without_scope : Env → Env
without_scope env = record env { scopes = outer_of env.scopes }

-- at another place with respect to loops: outside, in a body or in a step
unfoldable pub with_place : LoopPlace → Env → Env
with_place place env = record env { place = place }

-- the place of a loop's body; inside a step nothing leaves, the loops there included
abbrev pub body_place : LoopPlace → LoopPlace
body_place Outside = InBody
body_place InBody = InBody
body_place InStep = InStep
