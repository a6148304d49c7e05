use Rattle.std.proofs.Common.{◌-◌, length}
use Rattle.std.specs.Prelude.{IsTrue}
use Rattle.linear_terms.specs.Auxiliaries.{is_numbered}
use Rattle.transition_formula.specs.Transition.{every_column_of}
use Rattle.transition_formula.specs.Rounds.{rounds, in_order}
use Rattle.transition_formula.proofs.FewAuxiliaries.{HasRoom}
use Rattle.transition_formula.proofs.Rounding.{Leaves}
use Rattle.transition_formula.proofs.solving.in_order.Given as goal

abbrev pub invariant-loop-round : goal.invariant-loop-round
invariant-loop-round l =
    record {
      same : Leaves l.losses (rounds (length l.case.rows - l._round) l.left) l.initial.losses (in_order l.case);
      numbered : IsTrue (every_column_of (is_numbered l.left.aux) l.left);
      room : HasRoom l.case.aux (length l.case.post) l.left;
    }
