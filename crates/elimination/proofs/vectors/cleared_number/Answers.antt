use Rattle.elimination.proofs.Magnitudes.{read_cleared, cleared_fits}
use Rattle.elimination.proofs.vectors.cleared_number.Goals as goal

pub returns-clause-value : goal.returns-clause-value
returns-clause-value c =
    rw (c.num.ensures, c.den.ensures.den, c.den-2.ensures.den)
    (read_cleared c.args.number.now.num c.args.first.now.den c.args.second.now.den c.requires.number.num c.requires.first.den c.requires.second.den)

pub returns-clause-small : goal.returns-clause-small
returns-clause-small c =
    rw (c.num.ensures, c.den.ensures.den, c.den-2.ensures.den, read_cleared c.args.number.now.num c.args.first.now.den c.args.second.now.den c.requires.number.num c.requires.first.den c.requires.second.den)
    (cleared_fits c.args.number.now.num c.args.first.now.den c.args.second.now.den c.requires.number.num c.requires.first.den c.requires.second.den)
