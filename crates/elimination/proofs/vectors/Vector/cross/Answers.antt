use Rattle.std.proofs.Common.{refl}
use Rattle.elimination.proofs.Magnitudes.{cross_up_to, read_difference}
use Rattle.elimination.proofs.vectors.Vector.cross.Goals as goal

pub returns-clause-value : goal.returns-clause-value
returns-clause-value c =
    rw (
      read_difference c.product.result c.product-2.result c.product.ensures.small c.product-2.ensures.small,
      read_difference c.product-3.result c.product-4.result c.product-3.ensures.small c.product-4.ensures.small,
      read_difference c.product-5.result c.product-6.result c.product-5.ensures.small c.product-6.ensures.small,
      c.product.ensures.value,
      c.product-2.ensures.value,
      c.product-3.ensures.value,
      c.product-4.ensures.value,
      c.product-5.ensures.value,
      c.product-6.ensures.value,
    ) refl

pub returns-clause-small : goal.returns-clause-small
returns-clause-small c =
    rw (
      read_difference c.product.result c.product-2.result c.product.ensures.small c.product-2.ensures.small,
      read_difference c.product-3.result c.product-4.result c.product-3.ensures.small c.product-4.ensures.small,
      read_difference c.product-5.result c.product-6.result c.product-5.ensures.small c.product-6.ensures.small,
      c.product.ensures.value,
      c.product-2.ensures.value,
      c.product-3.ensures.value,
      c.product-4.ensures.value,
      c.product-5.ensures.value,
      c.product-6.ensures.value,
    )
    (cross_up_to c.args.self.now c.args.other.now c.requires.own c.requires.other)
