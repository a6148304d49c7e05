use Rattle.simplex.specs.SmallBasis.{HasSmallTies}
use Rattle.simplex.specs.Ties.{AreTies}
use Rattle.simplex.proofs.strata.verdict_of.Given as goal

abbrev pub invariant-loop-place : goal.invariant-loop-place
invariant-loop-place l = AreTies l.strata.columns.now l.strata.lower.now l.numbers l.strata.cases.now l.place l.ties × HasSmallTies l.strata l.ties
