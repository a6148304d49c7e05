use Rattle.std.proofs.Common.{refl, ◌∙◌}
use Rattle.elimination.proofs.Magnitudes.{read_sum, sum_fits}
use Rattle.elimination.proofs.vectors.Vector.dot.Goals as goal

pub overflow_add-result-2 : goal.overflow_add-result-2
overflow_add-result-2 c = sum_fits c.product.result c.product-2.result c.product-3.result c.product.ensures.small c.product-2.ensures.small c.product-3.ensures.small

pub returns : goal.returns
returns c =
    read_sum c.product.result c.product-2.result c.product-3.result c.product.ensures.small c.product-2.ensures.small c.product-3.ensures.small
    ∙ rw (c.product.ensures.value, c.product-2.ensures.value, c.product-3.ensures.value) refl
