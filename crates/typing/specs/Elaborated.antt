-- The core program of a text, meant where the text has no fault.
use Rattle.std.specs.Prelude.{ℕ, ◌+◌, Bool, Option, None, Some, unwrap_or, List, [], ◌∷◌, ◌++◌, length, if◌then◌else◌}
use Rattle.syntax_tree.specs.declared.line.Line.{Line}
use Rattle.syntax_tree.specs.declared.program.GlobalVar.{GlobalVar}
use Rattle.syntax_tree.specs.declared.program.Proc.{Proc}
use Rattle.syntax_tree.specs.declared.program.Program.{Program}
use Rattle.syntax_tree.specs.declared.tree.Item.{Item}
use Rattle.syntax_tree.specs.declared.tree.Item.TheVariants.{Global, Proto, Body}
use Rattle.syntax_tree.specs.declared.tree.Param.{Param}
use Rattle.syntax_tree.specs.SourceLine.{source_lines_of}
use Rattle.typing.specs.Lines.{all_checks_of, all_statements_of}
use Rattle.typing.specs.Scopes.{Scope}
use Rattle.typing.specs.Specials.{is_main}
use Rattle.typing.specs.Texts.{body_columns, body_env, count_globals, declarations}

-- the globals with their names and first values, in the order of the text
abbrev pub globals_of : List Item → List GlobalVar
globals_of [] = []
globals_of (Global name at init ∷ rest) = record { name = name; init = init } ∷ globals_of rest
globals_of (Proto name at returns params ∷ rest) = globals_of rest
globals_of (Body name at returns params lines end ∷ rest) = globals_of rest

-- the places of the assertions, in the order of the text
abbrev pub checks_in : List Item → List ℕ
checks_in [] = []
checks_in (Global name at init ∷ rest) = checks_in rest
checks_in (Proto name at returns params ∷ rest) = checks_in rest
checks_in (Body name at returns params lines end ∷ rest) = all_checks_of (source_lines_of lines)
    ++ checks_in rest

-- a procedure, in a text with this scope and so many globals, behind so many assertions
abbrev pub proc_of : Scope → ℕ → ℕ → List ℕ → Bool → List Param → List Line → Proc
proc_of text globals number name returns params lines = record {
  name = name;
  returns = returns;
  params = length params;
  columns = body_columns params lines;
  body = all_statements_of (body_env text globals number returns params lines)
      (source_lines_of lines);
}

-- the procedures, in the order of the text
abbrev pub procs_of : Scope → ℕ → ℕ → List Item → List Proc
procs_of text globals number [] = []
procs_of text globals number (Global name at init ∷ rest) = procs_of text globals number rest
procs_of text globals number (Proto name at returns params ∷ rest) =
    procs_of text globals number rest
procs_of text globals number (Body name at returns params lines end ∷ rest) =
    proc_of text globals number name returns params lines
    ∷ procs_of text globals (number + length (all_checks_of (source_lines_of lines))) rest

-- the number of the first procedure `main`, behind so many procedures
abbrev pub main_from : ℕ → List Item → Option ℕ
main_from procs [] = None
main_from procs (Global name at init ∷ rest) = main_from procs rest
main_from procs (Proto name at returns params ∷ rest) = main_from procs rest
main_from procs (Body name at returns params lines end ∷ rest) =
    if is_main name then Some procs else main_from (procs + 1) rest

-- the core program that a text stands for; its `main` is 0 where the text has none
abbrev pub elaborated_program : List Item → Program
elaborated_program items = record {
  globals = globals_of items;
  procs = procs_of (declarations 0 0 items) (count_globals items) 0 items;
  main = unwrap_or (main_from 0 items) 0;
  checks = checks_in items;
  -- iterations are summed up by differences and by progressions
  rule = 2;
}
