use Rattle.cones.proofs.Searches.{extremes-inside, extremes-spanned}
use Rattle.cones.proofs.Pushing.{extremes-above}
use Rattle.cones.proofs.laws.extremes_see_the_cone.Goals as goal

pub returns-clause-above : goal.returns-clause-above
returns-clause-above c = extremes-above

pub returns-clause-inside : goal.returns-clause-inside
returns-clause-inside c = extremes-inside

pub returns-clause-spanned : goal.returns-clause-spanned
returns-clause-spanned c = extremes-spanned
