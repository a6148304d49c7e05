use Rattle.std.proofs.Common.{◌≡◌, drop}
use Rattle.posing.specs.Follows.{Leads}
use Rattle.posing.specs.Posing.{each}
use Rattle.point_rounds.specs.Rounds.{with_numbers_from, with_row}
use Rattle.point_rounds.proofs.falling.with_each_row.Given as goal

abbrev pub invariant-loop-number : goal.invariant-loop-number
invariant-loop-number g l =
    record {
      leads : Leads g.O.Oracle.asking l.initial.oracle l.oracle l.initial.log l.log (each (with_row l.ends.place l.fn.given l.posts) l.fn.fell (with_numbers_from 0 l.rows))
          (each (with_row l.ends.place l.fn.given l.posts) l.all (drop l.number (with_numbers_from 0 l.rows)));
      same : l.given ≡ l.fn.given;
    }
