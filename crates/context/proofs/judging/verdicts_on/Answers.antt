use Rattle.std.proofs.Common.{◌≡◌, ◌+◌, ◌++◌, ◌∷◌, [], take, sym, subst}
use Rattle.std.proofs.lemmas.List.{take_all}
use Rattle.posing.specs.Follows.{Leads}
use Rattle.posing.specs.Posing.{each}
use Rattle.transition_formula.specs.Transition.{IsSolvable}
use Rattle.context.specs.Judging.{AreVerdictsOn}
use Rattle.context.specs.Verdicts.{with_verdict}
use Rattle.posing.proofs.Following.{leads_none}
use Rattle.posing.proofs.Steps.{each_next, each_fails}
use Rattle.context.proofs.CaseVerdicts.{one-more, take-one}
use Rattle.context.proofs.judging.verdicts_on.Goals as goal

pub loop-case-init : goal.loop-case-init
loop-case-init g c =
    record {
      leads =
          subst (λ made. Leads g.O.Oracle.asking c.args.oracle.now c.args.oracle.now c.args.log.now c.args.log.now (each (with_verdict c.args.rule) [] c.args.cases.now) (each (with_verdict c.args.rule) made c.args.cases.now))
          (sym c.new-made.ensures) (leads_none _ _ _ _);
      known = subst (AreVerdictsOn []) (sym c.new-made.ensures) tt;
    }

pub with_verdict-requires : goal.with_verdict-requires
with_verdict-requires g c = subst IsSolvable (sym c.case-item.is) (c.requires c.loop-case.case-index c.case-item.result c.loop-case-test.true)

pub returns-in_err-made-clause-follows : goal.returns-in_err-made-clause-follows
returns-in_err-made-clause-follows g c = each_fails (with_verdict c.args.rule) _ _ c.loop-case.invariant.leads c.loop-case-test.true c.case-item.is c.in_err-made.ensures.follows c.from_residual.ensures.1

pub loop-case-preserved : goal.loop-case-preserved
loop-case-preserved g c =
    let added = c.in_ok-made.ensures.known in
    let cases = c.args.cases.now in
    let i = c.loop-case.case-index in
    let one : take (i + 1) cases ≡ take i cases ++ c.case-item.result ∷ [] = take-one cases i c.case-item.result c.loop-case-test.true c.case-item.is in
    record {
      leads = each_next (with_verdict c.args.rule) _ _ c.loop-case.invariant.leads c.loop-case-test.true c.case-item.is c.in_ok-made.ensures.follows;
      known =
          subst (AreVerdictsOn (take (i + 1) cases)) (sym added.is)
          (subst (λ front. AreVerdictsOn front (c.loop-case.made ++ added.verdict ∷ [])) (sym one)
          (one-more (take i cases) c.loop-case.made c.case-item.result added.verdict c.loop-case.invariant.known added.known));
    }

pub returns-clause-known : goal.returns-clause-known
returns-clause-known g c = subst (λ front. AreVerdictsOn front c.loop-case.made) (take_all c.loop-case.case-index c.args.cases.now c.loop-case-test.false) c.loop-case.invariant.known
