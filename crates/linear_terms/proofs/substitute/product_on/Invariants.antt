use Rattle.std.proofs.Common.{◌≡◌, drop}
use Rattle.linear_terms.specs.Operations.{product_on}
use Rattle.linear_terms.specs.Replacement.{put_in}
use Rattle.linear_terms.proofs.substitute.product_on.Given as goal

abbrev pub invariant-loop-col : goal.invariant-loop-col
invariant-loop-col l =
    product_on (put_in l.at l.aux) l.product (drop l.col-index l.col-items) ≡ product_on (put_in l.at l.aux) l.first l.columns
