use Rattle.std.proofs.Common.{sym, subst}
use Rattle.transition_formula.specs.Transition.{IsSolvable}
use Rattle.point_verdicts.specs.Parts.{only_case}
use Rattle.point_verdicts.proofs.FailingCases.{failing-solvable}
use Rattle.point_verdicts.proofs.failures.failing_left.Goals as goal

pub solve-requires-clause-numbered : goal.solve-requires-clause-numbered
solve-requires-clause-numbered c =
    (subst IsSolvable (sym c.in_ok-failing.ensures.exact)
    (failing-solvable c.args.arriving.now.to (only_case c.args.arriving.now) c.args.bad.now c.requires.arriving.fits c.requires.arriving.few c.requires.bad)).numbered

pub solve-requires-clause-few : goal.solve-requires-clause-few
solve-requires-clause-few c =
    (subst IsSolvable (sym c.in_ok-failing.ensures.exact)
    (failing-solvable c.args.arriving.now.to (only_case c.args.arriving.now) c.args.bad.now c.requires.arriving.fits c.requires.arriving.few c.requires.bad)).few
