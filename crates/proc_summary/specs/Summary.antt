-- The summary of a procedure: what its exit's formula says of the globals and parameters at the
-- entry, and of the globals and the returned value at the exit.
use Rattle.std.specs.Prelude.{ℕ, ◌-◌, Bool, true, false, List, [], ◌∷◌, ◌++◌, Option, None, Some, length}
use Rattle.std.specs.List.{range_with_len}
use Rattle.syntax_tree.specs.declared.program.Proc.{Proc}
use Rattle.syntax_tree.specs.declared.program.Program.{Program}
use Rattle.transition_formula.specs.Hiding.{hidden, losses_in_hiding}
use Rattle.transition_formula.specs.Posts.{with_posts}
use Rattle.transition_formula.specs.Transition.{Transition}
use Rattle.posing.specs.Logs.{loss_notes}
use Rattle.posing.specs.Posing.{Posing, Noted}
use Rattle.polyhedra.specs.Vocabulary.{Vocabulary}
use Rattle.checked_tree.specs.Evaluation.{settled_and_fitted}
use Rattle.vocabularies.specs.Ends.{full_of, entry_of, exit_of}

-- the ends of a procedure: how many of its columns are globals, whether it returns a value, and the
-- vocabularies of its states, of its entry and of its exit
pub record Ends : Type 0 where
  pub globals : ℕ
  pub returns : Bool
  pub full : Vocabulary
  pub entry : Vocabulary
  pub exit : Vocabulary

-- the ends of a procedure of a program
abbrev pub ends_of : Program → Proc → Ends
ends_of program p =
    record {
      globals = length program.globals;
      returns = p.returns;
      full = full_of program p;
      entry = entry_of program p;
      exit = exit_of program p;
    }

-- the last column has the value, where there is one
abbrev pub value_place : Bool → ℕ → List ℕ
value_place true columns = (columns - 1) ∷ []
value_place false columns = []

-- the columns that are told at the exit: the globals, and the returned value if there is one
abbrev pub exit_places : Ends → List ℕ
exit_places ends = range_with_len 0 ends.globals ++ value_place ends.returns ends.full.columns

-- a formula over so many columns; an exit that no way leads to has no case
abbrev pub exit_formula : ℕ → Option Transition → Transition
exit_formula columns None = record { from = columns; to = columns; cases = [] }
exit_formula columns (Some f) = f

-- the entry's other columns become auxiliaries, and the posts at some of the exit's columns alone
-- stay
abbrev pub projection_of : ℕ → List ℕ → Transition → Transition
projection_of entry places f = with_posts places (hidden entry f)

-- it is settled and fitted
unfoldable pub summary_from : Ends → Option Transition → Posing Transition
summary_from ends exit =
    let f : Transition = exit_formula ends.full.columns exit in
    Noted (loss_notes (losses_in_hiding ends.entry.columns f))
    (settled_and_fitted (projection_of ends.entry.columns (exit_places ends) f) ends.entry ends.exit)
