use Rattle.std.proofs.Common.{sym, subst, arith}
use Rattle.std.proofs.lemmas.List.{take_all}
use Rattle.std.proofs.lemmas.List.Elements.{All-more, All-same, recursion_from_All}
use Rattle.transition_formula.specs.Transition.{Transition}
use Rattle.polyhedra.specs.Laws.{HaveCanonicalRows}
use Rattle.forward_graphs.proofs.walking.see_leaves.Goals as goal

pub loop-leaf-preserved : goal.loop-leaf-preserved
loop-leaf-preserved c =
    All-more (λ (f : Transition). HaveCanonicalRows f.cases) c.args.leaves.now c.loop-leaf.leaf-index c.leaf-item.result (omega arith) c.loop-leaf.invariant
    (subst (λ (f : Transition). HaveCanonicalRows f.cases) c.leaf-item.is (subst HaveCanonicalRows c.cases.ensures.cases c.see_cases.ensures))

pub returns : goal.returns
returns c =
    recursion_from_All (λ (f : Transition). HaveCanonicalRows f.cases) c.args.leaves.now
    (All-same (λ (f : Transition). HaveCanonicalRows f.cases) c.args.leaves.now _ (sym (take_all c.loop-leaf.leaf-index c.args.leaves.now (omega arith))) c.loop-leaf.invariant)
