use Rattle.std.proofs.Common.{rules}
use Rattle.simplex.proofs.Cases.{empty_found, pivots_found, ray_found, scale_above, bound_added}
use Rattle.simplex.proofs.goals.progress_of.Goals as goal

pub with_bound-requires : goal.with_bound-requires
with_bound-requires c = scale_above c.args.budget c.args.goals.now c.args.place c.args.found c.in-Bound.cert c.in-Bound.point c.requires.supremum c.in-Bound.is

pub returns-in-Empty-clause-came : goal.returns-in-Empty-clause-came
returns-in-Empty-clause-came c = empty_found c.args.budget c.args.goals.now c.args.place c.args.found c.requires.supremum c.in-Empty.is

pub returns-in-Pivots-clause-came : goal.returns-in-Pivots-clause-came
returns-in-Pivots-clause-came c = pivots_found c.args.budget c.args.goals.now c.args.place c.args.found c.requires.supremum c.in-Pivots.is

pub returns-in_ok-more-in-Bound-clause-came : goal.returns-in_ok-more-in-Bound-clause-came
returns-in_ok-more-in-Bound-clause-came c =
    bound_added c.args.budget c.args.goals.now c.args.place c.args.case c.args.bounds c.in_ok-more-in-Bound.more c.args.found c.in-Bound.cert c.in-Bound.point c.requires.so_far c.requires.supremum c.in-Bound.is c.requires.number (search rules)

pub returns-in-Unbounded-clause-came : goal.returns-in-Unbounded-clause-came
returns-in-Unbounded-clause-came c = ray_found c.args.budget c.args.goals.now c.args.place c.args.case c.args.found c.in-Unbounded.point c.in-Unbounded.ray c.requires.supremum c.in-Unbounded.is c.requires.number
