-- What begins with what holds at the exit of a procedure.
--     base-by-exit          the base of a procedure
--     unfolded-by-exit      its formula as of one that is not recursive
use Rattle.std.proofs.Common.{◌≡◌, List}
use Rattle.std.specs.Prelude.{Option}
use Rattle.syntax_tree.specs.declared.program.Proc.{Proc}
use Rattle.syntax_tree.specs.declared.program.Program.{Program}
use Rattle.transition_formula.specs.Transition.{Transition}
use Rattle.posing.specs.Logs.{loss_notes}
use Rattle.posing.specs.Posing.{Posing, Done, Noted, ◌>>=◌}
use Rattle.posing.proofs.Paths.{bind-assoc}
use Rattle.proc_summary.specs.Flow.{cells_from, columns_of, formula_at}
use Rattle.proc_summary.specs.Subject.{subject_of}
use Rattle.proc_summary.specs.Summary.{ends_of, summary_from}
use Rattle.newton_rounds.specs.Candidates.{unfolded_formula}
use Rattle.newton_rounds.specs.Closure.{base_of, exit_from, pair_ends}
use Rattle.newton_rounds.specs.Pairs.{PairEnds, base_from, losses_in_base}

abbrev pub noted_base : PairEnds → Option Transition → Posing Transition
noted_base ends exit = Noted (loss_notes (losses_in_base ends exit)) (Done (base_from ends exit))

module _ (program : Program) (known : List (Option Transition)) (p : Proc) where
  pub base-by-exit : exit_from (subject_of program p known) >>= noted_base (pair_ends program p) ≡ base_of program known p
  unfolding exit_from base_of ◌>>=◌
  base-by-exit =
      bind-assoc (cells_from (subject_of program p known) 0) (λ cells. Done (formula_at (columns_of (subject_of program p known)) cells (subject_of program p known).exit))
      (noted_base (pair_ends program p))

  pub unfolded-by-exit : exit_from (subject_of program p known) >>= summary_from (ends_of program p) ≡ unfolded_formula program known p
  unfolding exit_from unfolded_formula ◌>>=◌
  unfolded-by-exit =
      bind-assoc (cells_from (subject_of program p known) 0) (λ cells. Done (formula_at (columns_of (subject_of program p known)) cells (subject_of program p known).exit))
      (summary_from (ends_of program p))
