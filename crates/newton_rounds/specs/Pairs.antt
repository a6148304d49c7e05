-- Pairs of entry and exit: a formula from the entry and exit of a procedure to those of a procedure
-- that it calls, for each call of the group; and one for the activations that make no such call.
use Rattle.std.specs.Prelude.{ℕ, ◌+◌, List, [], ◌∷◌, ◌++◌, Option, length, map, take, drop}
use Rattle.std.specs.List.{range_with_len}
use Rattle.linear_terms.specs.declared.col.Col.TheVariants.{At, Aux}
use Rattle.linear_terms.specs.declared.row.Case.{Case}
use Rattle.linear_terms.specs.Polynomial.{Polynomial, column_of}
use Rattle.syntax_tree.specs.Term.{Term}
use Rattle.transition_formula.specs.Equating.{equated_formula, losses_in_equating, raised_formula}
use Rattle.transition_formula.specs.declared.loss.Loss.{Loss}
use Rattle.transition_formula.specs.Composition.{sequence_of, losses_in_sequence}
use Rattle.transition_formula.specs.Hiding.{hidden, losses_in_hiding}
use Rattle.transition_formula.specs.Posts.{with_posts}
use Rattle.transition_formula.specs.Transition.{Transition}
use Rattle.polyhedra.specs.Vocabulary.{Vocabulary}
use Rattle.leaf_cases.specs.Edges.{arguments_of, posts_with_value}
use Rattle.leaf_cases.specs.Guard.{columns_of}
use Rattle.leaf_cases.specs.Guard as cases
use Rattle.leaf_cases.specs.Steps.{operand}
use Rattle.proc_summary.specs.Summary.{Ends, exit_formula, exit_places}
use Rattle.newton_rounds.specs.Members.{GroupCall}

-- the ends of a member, and the vocabulary of its pairs: the columns of its entry, then those of
-- its exit
pub record PairEnds : Type 0 where
  pub ends : Ends
  pub pair : Vocabulary

-- ---- the activations without a call of the group

-- the exit's formula over the pair's columns: the entry's other columns become auxiliaries
abbrev pub entry_told : PairEnds → Option Transition → Transition
entry_told member f =
    raised_formula member.pair.columns
    (hidden member.ends.entry.columns (exit_formula member.ends.full.columns f))

-- the base of a member by what holds at its exit: a row for each column of the exit says that it is
-- the post there, and no post is left
abbrev pub base_from : PairEnds → Option Transition → Transition
base_from member exit =
    with_posts []
    (equated_formula member.ends.entry.columns (exit_places member.ends) (entry_told member exit))

-- what is lost in making a base: in hiding the other columns, and then in the rows of the exit
abbrev pub losses_in_base : PairEnds → Option Transition → List Loss
losses_in_base member exit =
    losses_in_hiding member.ends.entry.columns (exit_formula member.ends.full.columns exit)
    ++ losses_in_equating member.ends.entry.columns (exit_places member.ends) (entry_told member exit)

-- ---- a call of the group

-- so many columns from a number on
abbrev pub columns_from : ℕ → ℕ → List Polynomial
columns_from first count = map (λ n. column_of (At n)) (range_with_len first count)

-- a case of the arguments, made the callee's entry: its globals and parameters stand behind the
-- columns of the caller
abbrev pub entered_case : ℕ → ℕ → Case → Case
entered_case columns globals case =
    cases.with_posts (columns_of columns ++ (columns_of globals ++ case.post)) case

-- from the caller's columns to the same with the callee's entry behind them, by the cases of the
-- arguments
abbrev pub call_entry : ℕ → ℕ → List Term → Transition
call_entry columns globals args =
    record {
      from = columns;
      to = columns + (globals + length args);
      cases = map (entered_case columns globals) (arguments_of args).cases;
    }

-- the callee's exit, in new auxiliaries
abbrev pub exit_columns : ℕ → List Polynomial
exit_columns count = map (λ n. column_of (Aux n)) (range_with_len 0 count)

-- the caller's columns where the call has returned with these values: first the globals, then what
-- is returned
abbrev pub posts_after_return : ℕ → ℕ → Option ℕ → List Polynomial → List Polynomial
posts_after_return columns globals into values =
    posts_with_value into (operand globals record { aux = 0; rows = []; post = values })
    (take globals values ++ drop globals (columns_of columns))

-- new auxiliaries for the callee's exit are put into the caller's columns; the callee's entry is
-- carried along, and its exit stands behind it
abbrev pub call_exit : ℕ → ℕ → Option ℕ → ℕ → ℕ → Transition
call_exit columns globals into entry exit =
    record {
      from = columns + entry;
      to = columns + entry + exit;
      cases =
          record {
            aux = exit;
            rows = [];
            post =
                posts_after_return columns globals into (exit_columns exit)
                ++ (columns_from columns entry ++ exit_columns exit);
          } ∷ [];
    }

-- a case between the caller's columns, with so many columns behind them that stay as they are
abbrev pub carrying_case : ℕ → ℕ → Case → Case
carrying_case columns more case = cases.with_posts (case.post ++ columns_from columns more) case

-- a formula between the caller's columns, with so many behind them that stay as they are
abbrev pub carrying : ℕ → ℕ → Transition → Transition
carrying columns more f =
    record {
      from = columns + more;
      to = columns + more;
      cases = map (carrying_case columns more) f.cases;
    }

-- a call of the group, what holds from the caller's entry to where it begins, and what holds from
-- where it ends to the caller's exit
pub record Stretch : Type 0 where
  pub call : GroupCall
  pub before : Option Transition
  pub after : Option Transition

-- the stations of a call: the beginning; the callee's entry; its exit; the caller's exit
pub record Stations : Type 0 where
  pub first : Transition
  pub second : Transition
  pub third : Transition
  pub fourth : Transition

-- how many columns a call carries behind those of the caller: the callee's entry, which is the
-- globals and the arguments, and its exit
abbrev pub callee_width : Ends → Ends → List Term → ℕ
callee_width caller callee args = caller.globals + length args + callee.exit.columns

-- the formulas that lead to the stations of a call, each from the columns at which the one before
-- it ends
abbrev pub stations_of : PairEnds → PairEnds → Stretch → Stations
stations_of caller callee s =
    record {
      first = entry_told caller s.before;
      second = call_entry caller.ends.full.columns caller.ends.globals s.call.args;
      third =
          call_exit caller.ends.full.columns caller.ends.globals s.call.into
          (caller.ends.globals + length s.call.args)
          callee.ends.exit.columns;
      fourth =
          carrying caller.ends.full.columns (callee_width caller.ends callee.ends s.call.args)
          (exit_formula caller.ends.full.columns s.after);
    }

-- from the caller's entry through all stations of a call, in their order
abbrev pub along : Stations → Transition
along s = sequence_of (sequence_of (sequence_of s.first s.second) s.third) s.fourth

-- what is lost in putting the stations together, from the first on
abbrev pub losses_along : Stations → List Loss
losses_along s =
    losses_in_sequence s.first s.second
    ++ (losses_in_sequence (sequence_of s.first s.second) s.third
    ++ losses_in_sequence (sequence_of (sequence_of s.first s.second) s.third) s.fourth)

-- the formula of a call, from the caller's pair to the callee's
abbrev pub pair_formula : PairEnds → PairEnds → Stretch → Transition
pair_formula caller callee s =
    with_posts (range_with_len caller.ends.full.columns
    (callee_width caller.ends callee.ends s.call.args))
    (equated_formula caller.ends.entry.columns (exit_places caller.ends)
    (along (stations_of caller callee s)))

-- what is lost in making the formula of a call: before it, in its arguments, along its stations,
-- and in the rows of the caller's exit
abbrev pub losses_in_pair : PairEnds → PairEnds → Stretch → List Loss
losses_in_pair caller callee s =
    losses_in_hiding caller.ends.entry.columns (exit_formula caller.ends.full.columns s.before)
    ++ ((arguments_of s.call.args).lost
    ++ (losses_along (stations_of caller callee s)
    ++ losses_in_equating caller.ends.entry.columns (exit_places caller.ends)
    (along (stations_of caller callee s))))
