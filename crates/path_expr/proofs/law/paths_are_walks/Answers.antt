use Rattle.path_expr.proofs.WayWalks.{language_is_walks, zero_is_no_walk}
use Rattle.path_expr.proofs.law.paths_are_walks.Goals as goal

pub returns : goal.returns
returns c = record { language = language_is_walks; zero = zero_is_no_walk }
