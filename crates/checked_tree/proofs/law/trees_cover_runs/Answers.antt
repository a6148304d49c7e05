use Rattle.checked_tree.proofs.Trees.{trees-hold, trees-fit, runs-are-related}
use Rattle.checked_tree.proofs.law.trees_cover_runs.Goals as goal

pub returns : goal.returns
returns c = record { holds = trees-hold; fits = trees-fit; related = runs-are-related }
