use Rattle.cones.proofs.Flats.{extremes-above_flat}
use Rattle.cones.proofs.laws.flats_and_extremes_see_the_cone.Goals as goal

pub returns : goal.returns
returns c = extremes-above_flat
