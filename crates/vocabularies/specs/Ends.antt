-- The vocabularies of a program: for the states of a procedure, for the entry and the end of its
-- summary, for pairs of entry and exit, and for where the program starts.
use Rattle.std.specs.Prelude.{ℕ, ◌+◌, List, [], ◌∷◌, ◌++◌, length, Bool, true, false}
use Rattle.std.specs.List.{filter, range_with_len}
use Rattle.linear_terms.specs.Polynomial.{Polynomial}
use Rattle.transition_formula.specs.Transition.{every_column, is_below}
use Rattle.polyhedra.specs.Vocabulary.{Vocabulary}
use Rattle.syntax_tree.specs.declared.program.Column.{Column}
use Rattle.syntax_tree.specs.declared.program.Proc.{Proc}
use Rattle.syntax_tree.specs.declared.program.Program.{Program}
use Rattle.syntax_tree.specs.WellFormed.{width_of, has_name}
use Rattle.vocabularies.specs.Harvest.{harvest_of}

-- ---- columns

-- at the entry of a procedure: the globals and its parameters
abbrev pub entry_width : Program → Proc → ℕ
entry_width program p = length program.globals + p.params

-- the number of columns for a returned value, 1 where there is one and else 0
abbrev pub value_width : Bool → ℕ
value_width true = 1
value_width false = 0

-- where it has returned: the globals, and its value if it gives one
abbrev pub exit_width : Program → Proc → ℕ
exit_width program p = length program.globals + value_width p.returns

-- these numbers, with one before them where it counts
abbrev pub named_if : Bool → ℕ → List ℕ → List ℕ
named_if true number numbers = number ∷ numbers
named_if false number numbers = numbers

-- the numbers, from one on, of the columns that have a name
abbrev pub named_columns_from : ℕ → List Column → List ℕ
named_columns_from number [] = []
named_columns_from number (column ∷ columns) =
    named_if (has_name column) number (named_columns_from (number + 1) columns)

-- the globals, the parameters, the named locals, and the value that is returned
abbrev pub named_columns_of : Program → Proc → List ℕ
named_columns_of program p =
    range_with_len 0 (length program.globals)
    ++ (named_columns_from (length program.globals) p.columns ++ (length program.globals + length p.columns)
    ∷ [])

-- ---- terms

-- those over the first so many columns alone
abbrev pub terms_below : ℕ → List Polynomial → List Polynomial
terms_below columns terms = filter (every_column (is_below columns 0)) terms

-- ---- vocabularies

-- all columns of these are named
abbrev pub plain_vocabulary : Program → ℕ → List Polynomial → Vocabulary
plain_vocabulary program columns terms =
    record {
      columns = columns;
      named = range_with_len 0 columns;
      harvested = terms;
      rule = program.rule;
      extra = [];
    }

-- of the states of a procedure
unfoldable pub full_of : Program → Proc → Vocabulary
full_of program p =
    record {
      columns = width_of program p;
      named = named_columns_of program p;
      harvested = harvest_of p.body;
      rule = program.rule;
      extra = [];
    }

-- of its entry
unfoldable pub entry_of : Program → Proc → Vocabulary
entry_of program p =
    plain_vocabulary program (entry_width program p)
    (terms_below (entry_width program p) (harvest_of p.body))

-- of an entry and then an exit
unfoldable pub pair_of : Program → Proc → Vocabulary
pair_of program p =
    plain_vocabulary program (entry_width program p + exit_width program p)
    (terms_below (entry_width program p) (harvest_of p.body))

-- of its exit
unfoldable pub exit_of : Program → Proc → Vocabulary
exit_of program p =
    plain_vocabulary program (exit_width program p)
    (terms_below (length program.globals) (harvest_of p.body))

-- of where a program starts, before its globals are set
unfoldable pub start_of : Program → Vocabulary
start_of program = plain_vocabulary program 0 []
