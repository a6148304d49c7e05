use Rattle.std.proofs.Common.{length, List, ℤ}
use Rattle.std.proofs.lemmas.Result.{IfOk-weaker}
use Rattle.elimination.specs.Probes.{IsNullVector, IsDual}
use Rattle.elimination.specs.Stages.{AreLines, unit_line}
use Rattle.elimination.proofs.OwnRelations.{units-same, units_wide, units_small, units_regular, dual}
use Rattle.elimination.proofs.kernel.dual.Goals as goal

module _ (c : goal.After-as_slice) where
  lines-are : AreLines (length c.args.stage.now.free) (unit_line c.args.columns.now c.args.cases.now c.args.lower.now c.args.stage.now.probes c.args.stage.now.free c.args.own) c.as_slice.result.now
  lines-are = units-same c.args.columns.now c.args.cases.now c.args.lower.now c.args.stage.now.probes c.as_slice-probes.result.now c.args.stage.now.free c.as_slice-free.result.now c.args.own c.in_ok-lines.lines c.as_slice.result.now c.as_slice-probes.ensures c.as_slice-free.ensures c.as_slice.ensures c.in_ok-lines.ensures

pub null_vector-requires-clause-wide : goal.null_vector-requires-clause-wide
null_vector-requires-clause-wide c = units_wide c.args.columns.now c.args.cases.now c.args.lower.now c.args.stage.now.probes c.args.stage.now.free c.args.own c.requires.stage.each c.as_slice.result.now (lines-are c)

pub null_vector-requires-clause-small : goal.null_vector-requires-clause-small
null_vector-requires-clause-small c = units_small c.args.columns.now c.args.cases.now c.args.lower.now c.args.stage.now.probes c.args.stage.now.free c.args.own c.requires.stage.each c.as_slice.result.now (lines-are c) c.requires.small

pub null_vector-requires-clause-regular : goal.null_vector-requires-clause-regular
null_vector-requires-clause-regular c = units_regular c.args.columns.now c.args.cases.now c.args.lower.now c.args.stage.now.probes c.args.stage.now.free c.args.own c.requires.stage.each c.as_slice.result.now (lines-are c) c.requires.stage.regular

pub returns : goal.returns
returns c =
    let lines = units-same c.args.columns.now c.args.cases.now c.args.lower.now c.args.stage.now.probes c.as_slice-probes.result.now c.args.stage.now.free c.as_slice-free.result.now c.args.own c.in_ok-lines.lines c.as_slice.result.now c.as_slice-probes.ensures c.as_slice-free.ensures c.as_slice.ensures c.in_ok-lines.ensures in
    IfOk-weaker c.null_vector.result (λ (v : List ℤ). IsNullVector c.as_slice.result.now v) (λ (v : List ℤ). IsDual c.args.columns.now c.args.cases.now c.args.lower.now c.args.stage.now.probes c.args.stage.now.free c.args.own v)
    (λ v n. dual c.args.columns.now c.args.cases.now c.args.lower.now c.args.stage.now.probes c.args.stage.now.free c.args.own c.requires.stage.each c.as_slice.result.now lines v n) c.null_vector.ensures
