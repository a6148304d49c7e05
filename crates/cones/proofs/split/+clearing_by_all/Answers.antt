use Rattle.std.proofs.Common.{◌≡◌, ◌-◌, List, Ok, ℤ, length, rules, subst}
use Rattle.cones.specs.InBits as in_bits
use Rattle.cones.proofs.Making.{made_remainder-wide}
use Rattle.cones.proofs.Widths.{wide_behind}
use Rattle.cones.proofs.split.+clearing_by_all.Goals as goal

pub clearing_by_all-requires : goal.clearing_by_all-requires
clearing_by_all-requires t c =
    let came = subst (λ (vs : List (List ℤ)). in_bits.clearing c.as_slice.result.now vs ≡ Ok c.in_ok-made.made) c.as_slice-2.ensures c.in_ok-made.ensures in (
      search rules,
      (
        wide_behind c.args.count (length c.args.lines.now - 1) c.args.lines.now c.requires.lines,
        made_remainder-wide c.args.count _ c.args.basis _ c.in_ok-made.made came c.remainder-left.ensures c.requires.basis,
      ),
    )
