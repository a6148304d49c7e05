use Rattle.std.proofs.Common.{◌≡◌, drop}
use Rattle.linear_terms.specs.Operations.{product_on}
use Rattle.linear_terms.specs.Auxiliaries.{put_for}
use Rattle.linear_terms.proofs.auxiliaries.product_on.Given as goal

abbrev pub invariant-loop-col : goal.invariant-loop-col
invariant-loop-col l =
    product_on (put_for l.aux l.by) l.product (drop l.col-index l.columns) ≡ product_on (put_for l.aux l.by) l.fn.first l.columns
