use Rattle.execution.proofs.Stops.{chosen_stops, stops_have_no_step}
use Rattle.execution.proofs.laws.chosen_execution_stops.Goals as goal

pub returns-clause-causes : goal.returns-clause-causes
returns-clause-causes c = chosen_stops

pub returns-clause-no_step : goal.returns-clause-no_step
returns-clause-no_step c = stops_have_no_step
