use Rattle.point_ways.proofs.AheadNodes.{nodes_ahead_are_led_to}
use Rattle.point_ways.proofs.laws.nodes_ahead_are_led_to.Goals as goal

pub returns : goal.returns
returns c = nodes_ahead_are_led_to
