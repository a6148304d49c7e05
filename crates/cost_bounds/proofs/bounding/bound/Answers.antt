use Rattle.std.specs.Prelude.{Result, Ok, Err, IfOk}
use Rattle.posing.specs.declared.error.WorkError.{WorkError}
use Rattle.cost_bounds.specs.declared.cost.Cost.{Cost}
use Rattle.cost_bounds.specs.Says.{IsMetByCase, Says}
use Rattle.posing.specs.Follows.{IsGood}
use Rattle.posing.proofs.UnderAnswers.{under-result}
use Rattle.cost_bounds.proofs.Soundness.{IsSound, case_cost-sound}
use Rattle.cost_bounds.proofs.bounding.bound.Goals as goal

weaker : (P Q : Cost → Type 0) → ((made : Cost) → P made → Q made) → (r : Result Cost WorkError) → IfOk r P → IfOk r Q
weaker P Q more (Ok made) h = more made h
weaker P Q more (Err error) h = tt

pub returns-clause-met : goal.returns-clause-met
returns-clause-met g c =
    weaker (IsSound g.O.Oracle.asking.allows c.args.case.now c.args.global c.requires) (IsMetByCase c.args.case.now c.args.global) (λ made h. h.met) c.cost_of.result
    (under-result (IsGood g.O.Oracle.asking.allows) (λ question answer good. good) (IsSound g.O.Oracle.asking.allows c.args.case.now c.args.global c.requires) c.cost_of.result c.cost_of.ensures
    (case_cost-sound g.O.Oracle.asking.allows c.args.case.now c.args.global c.requires))

pub returns-clause-says : goal.returns-clause-says
returns-clause-says g c =
    weaker (IsSound g.O.Oracle.asking.allows c.args.case.now c.args.global c.requires) (Says g.O.Oracle.asking.allows c.args.case.now c.args.global) (λ made h. h.says) c.cost_of.result
    (under-result (IsGood g.O.Oracle.asking.allows) (λ question answer good. good) (IsSound g.O.Oracle.asking.allows c.args.case.now c.args.global c.requires) c.cost_of.result c.cost_of.ensures
    (case_cost-sound g.O.Oracle.asking.allows c.args.case.now c.args.global c.requires))
