use Rattle.std.proofs.Common.{length}
use Rattle.transition_formula.specs.Transition.{is_below}
use Rattle.point_rows.proofs.ContraryColumns.{negation-covered}
use Rattle.point_rows.proofs.contrary.positive.Goals as goal

pub read_row-requires : goal.read_row-requires
read_row-requires c = negation-covered (is_below (length c.args.posts.now) 0) c.args.poly.now c.in_ok-row.row c.in_ok-row.ensures.exact c.requires
