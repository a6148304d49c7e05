use Rattle.elimination.proofs.AroundSpots.{inner_small, around_answer}
use Rattle.farkas_check.specs.Stratum.{rows_of}
use Rattle.elimination.proofs.around.spots_around.Goals as goal

pub spots_to-requires : goal.spots_to-requires
spots_to-requires c = inner_small c.args.columns.now (rows_of c.args.cases.now c.args.case) c.args.inner.now c.requires.few c.requires.inner

pub returns : goal.returns
returns c = around_answer c.args.columns.now c.args.cases.now c.args.case c.args.inner.now c.spots_to.result c.requires.few c.requires.order c.requires.here c.requires.rows c.requires.inner c.spots_to.ensures
