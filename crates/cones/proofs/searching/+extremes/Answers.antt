use Rattle.std.proofs.Common.{rules, ◌-◌, length}
use Rattle.cones.proofs.Making.{made_given-wide}
use Rattle.cones.proofs.Widths.{wide_behind}
use Rattle.cones.proofs.searching.+extremes.Goals as goal

pub extremes-requires : goal.extremes-requires
extremes-requires t c = (
  search rules,
  (
    wide_behind c.args.count (length c.args.rest.now - 1) c.args.rest.now c.requires.rest,
    made_given-wide c.args.count _ c.args.basis.now _ _ _ _ c.in_ok-left-in-len2-up.ensures c.in-Given.is c.as_slice-in-Given.ensures c.requires.basis,
  ),
)
