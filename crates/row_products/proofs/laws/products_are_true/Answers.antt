use Rattle.row_products.proofs.Truth.{products-keep_points, products-true}
use Rattle.row_products.proofs.laws.products_are_true.Goals as goal

pub returns-clause-truth : goal.returns-clause-truth
returns-clause-truth c = products-true

pub returns-clause-points : goal.returns-clause-points
returns-clause-points c = products-keep_points
