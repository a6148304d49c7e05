use Rattle.std.proofs.Common.{rules, All, List, subst, sym, ℤ}
use Rattle.elimination.specs.declared.probes.Probe.{Probe}
use Rattle.elimination.specs.BasisParts.{IsSmallDual}
use Rattle.elimination.proofs.BasisFacts.{duals-small, count-few, parts-pass}
use Rattle.elimination.proofs.basis.basis_with.Goals as goal

pub free_lists-requires-clause-duals : goal.free_lists-requires-clause-duals
free_lists-requires-clause-duals c =
    subst (λ (ps : List Probe). All (IsSmallDual ps) c.as_slice-duals.result.now) (sym c.as_slice-probes.ensures)
    (subst (λ (ds : List (List ℤ)). All (IsSmallDual c.args.kernel.now.probes) ds) (sym c.as_slice-duals.ensures) (duals-small c.args.columns.now c.args.asked.now.cases c.args.asked.now.lower c.args.kernel.now c.requires.kernel))

pub returns-clause-passes : goal.returns-clause-passes
returns-clause-passes c =
    parts-pass c.args.columns.now c.args.asked.now.cases c.args.asked.now.lower c.args.kernel.now c.args.inners.now c.in_ok-relations.relations c.in_ok-spots.spots c.in_ok-free.free c.requires.asked c.requires.kernel
    (count-few c.unknown_count.result c.cases.result.now c.args.asked.now.cases c.lower.result.now c.args.asked.now.lower c.unknown_count.ensures.count c.unknown_count.ensures.few c.cases.ensures.cases c.lower.ensures) (search rules) (search rules) (search rules)
