use Rattle.std.proofs.Common.{◌≡◌}
use Rattle.std.specs.Vec.Iter.{into_iter_items}
use Rattle.posing.specs.Follows.{Leads}
use Rattle.point_rounds.specs.Rounds.{all_refuted}
use Rattle.point_rounds.proofs.falling.all_refuted.Given as goal

abbrev pub invariant-loop-row : goal.invariant-loop-row
invariant-loop-row g l =
    record {
      leads : Leads g.O.Oracle.asking l.initial.oracle l.oracle l.initial.log l.log (all_refuted l.initial.given l.fn.rows) (all_refuted l.initial.given (into_iter_items l.row-iterator));
      same : l.given ≡ l.initial.given;
    }
