use Rattle.facet_hull.proofs.Linear.{linear-cut}
use Rattle.facet_hull.proofs.finding.+linear.Goals as goal

pub returns-in-Ok : goal.returns-in-Ok
returns-in-Ok t c =
    linear-cut c.args.numbers.now c.args.variables.now c.in_ok-rest.rest c.in-Ok.poly c.in-len1-up.len_at_least c.in-len1-up-variables.len_at_least c.requires c.in_ok-rest.ensures c.in-Ok.ensures
