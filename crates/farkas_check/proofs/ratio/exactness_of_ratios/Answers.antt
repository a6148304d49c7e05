use Rattle.farkas_check.proofs.RatioLaws.{sums_exact, products_exact, values_exact}
use Rattle.farkas_check.proofs.ratio.exactness_of_ratios.Goals as goal

pub returns-clause-sums : goal.returns-clause-sums
returns-clause-sums c = sums_exact

pub returns-clause-products : goal.returns-clause-products
returns-clause-products c = products_exact

pub returns-clause-values : goal.returns-clause-values
returns-clause-values c = values_exact
