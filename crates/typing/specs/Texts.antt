-- The scope of a text, and what each of its procedures begins with.
use Rattle.std.specs.Prelude.{ℕ, ◌+◌, Bool, List, [], ◌∷◌, ◌++◌, length, map}
use Rattle.syntax_tree.specs.Limits.{most_slots}
use Rattle.syntax_tree.specs.declared.line.Line.{Line}
use Rattle.syntax_tree.specs.declared.program.Column.{Column}
use Rattle.syntax_tree.specs.declared.tree.Item.{Item}
use Rattle.syntax_tree.specs.declared.tree.Item.TheVariants.{Global, Proto, Body}
use Rattle.syntax_tree.specs.declared.tree.Param.{Param}
use Rattle.syntax_tree.specs.SourceLine.{source_lines_of}
use Rattle.typing.specs.declared.env.Env.{Env}
use Rattle.typing.specs.declared.env.LoopPlace.TheVariants.{Outside}
use Rattle.typing.specs.declared.meaning.Meaning.{Meaning}
use Rattle.typing.specs.declared.meaning.Meaning.TheVariants.{Variable, Procedure}
use Rattle.typing.specs.Env.{with_variable}
use Rattle.typing.specs.Lines.{all_columns_of, named_column}
use Rattle.typing.specs.Scopes.{Scope}

-- what the name of a procedure means: its number, how many parameters it has, and whether it
-- returns a value
abbrev pub procedure : ℕ → Bool → List Param → Meaning
procedure number returns params = Procedure (record {
  number = number;
  params = length params;
  returns = returns;
})

-- The declarations of a text, behind so many globals and procedures. A prototype declares nothing.
abbrev pub declarations : ℕ → ℕ → List Item → Scope
declarations globals procs [] = []
declarations globals procs (Global name at init ∷ rest) =
    (name, Variable globals) ∷ declarations (globals + 1) procs rest
declarations globals procs (Proto name at returns params ∷ rest) = declarations globals procs rest
declarations globals procs (Body name at returns params lines end ∷ rest) =
    (name, procedure procs returns params) ∷ declarations globals (procs + 1) rest

-- the procedures alone
abbrev pub bodies : ℕ → List Item → Scope
bodies procs [] = []
bodies procs (Global name at init ∷ rest) = bodies procs rest
bodies procs (Proto name at returns params ∷ rest) = bodies procs rest
bodies procs (Body name at returns params lines end ∷ rest) =
    (name, procedure procs returns params) ∷ bodies (procs + 1) rest

-- the innermost of some scopes
abbrev pub top : List Scope → Scope
top [] = []
top (scope ∷ outer) = scope

-- how many globals a text declares
abbrev pub count_globals : List Item → ℕ
count_globals [] = 0
count_globals (Global name at init ∷ rest) = 1 + count_globals rest
count_globals (Proto name at returns params ∷ rest) = count_globals rest
count_globals (Body name at returns params lines end ∷ rest) = count_globals rest

-- how many procedures with a body a text has
abbrev pub count_bodies : List Item → ℕ
count_bodies [] = 0
count_bodies (Global name at init ∷ rest) = count_bodies rest
count_bodies (Proto name at returns params ∷ rest) = count_bodies rest
count_bodies (Body name at returns params lines end ∷ rest) = 1 + count_bodies rest

-- the column of a parameter, which has its name
abbrev pub param_column : Param → Column
param_column param = named_column param.name

-- the columns of a procedure behind the globals: its parameters, then its locals and temporaries
abbrev pub body_columns : List Param → List Line → List Column
body_columns params lines = map param_column params ++ all_columns_of (source_lines_of lines)

-- behind the declarations of parameters, which take the next columns in their order
abbrev pub with_params : Env → List Param → Env
with_params env [] = env
with_params env (param ∷ rest) = with_params (with_variable param.name env) rest

-- The beginning of a procedure with so many columns, in a text with this scope and so many globals,
-- behind so many assertions. The returned value has the last column.
unfoldable pub beginning : Scope → ℕ → ℕ → Bool → ℕ → Env
beginning text globals number returns columns = record {
  scopes = [] ∷ text ∷ [];
  next = globals;
  number = number;
  place = Outside;
  returns = returns;
  ret = globals + columns;
  full = globals + most_slots;
}

-- the same with its parameters; they and its outermost block are one scope (C11 6.2.1)
abbrev pub body_env : Scope → ℕ → ℕ → Bool → List Param → List Line → Env
body_env text globals number returns params lines =
    with_params (beginning text globals number returns (length (body_columns params lines))) params
