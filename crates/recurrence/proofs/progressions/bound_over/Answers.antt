use Rattle.polyhedra.specs.Bounds.{goals_of}
use Rattle.recurrence.specs.Progressions.{excess}
use Rattle.recurrence.specs.Words.{plain_progression}
use Rattle.recurrence.proofs.progressions.bound_over.Goals as goal

pub returns : goal.returns
returns g c =
    let p = plain_progression c.args.progression in
    c.bound_by.ensures (goals_of (excess p) c.args.turns.cases.now) c.goals_over-goals.ensures
