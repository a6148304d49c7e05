use Rattle.facet_hull.proofs.Bits.{normals-made}
use Rattle.facet_hull.proofs.NormalDirections.{normals-directions}
use Rattle.facet_hull.proofs.Outcomes.{knows_all_changes}
use Rattle.facet_hull.proofs.laws.outcomes_know_changes.Goals as goal

pub returns-clause-known : goal.returns-clause-known
returns-clause-known c = knows_all_changes

pub returns-clause-directions : goal.returns-clause-directions
returns-clause-directions c = normals-directions

pub returns-clause-steps : goal.returns-clause-steps
returns-clause-steps c = normals-made
