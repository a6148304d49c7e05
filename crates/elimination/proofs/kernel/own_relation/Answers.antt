use Rattle.std.proofs.Common.{◌++◌, ◌∷◌, [], length, List, ℤ}
use Rattle.std.proofs.lemmas.Result.{IfOk-weaker}
use Rattle.elimination.specs.Probes.{IsNullVector}
use Rattle.elimination.specs.Stages.{AreLines, probe_line, IsOwnRelation}
use Rattle.elimination.proofs.OwnRelations.{lines-same, lines_wide, lines_small, lines_regular, own_relation}
use Rattle.elimination.proofs.kernel.own_relation.Goals as goal

module _ (c : goal.After-as_slice-2) where
  lines-are : AreLines (length c.args.stage.now.probes) (probe_line c.args.columns.now c.args.cases.now c.args.lower.now c.args.stage.now.probes (c.args.stage.now.free ++ c.args.unknown ∷ [])) c.as_slice-2.result.now
  lines-are = lines-same c.args.columns.now c.args.cases.now c.args.lower.now c.args.stage.now.probes c.as_slice.result.now (c.args.stage.now.free ++ c.args.unknown ∷ []) c.args.chosen.now c.in_ok-lines.lines c.as_slice-2.result.now c.as_slice.ensures c.requires.chosen c.as_slice-2.ensures c.in_ok-lines.ensures

pub null_vector-requires-clause-wide : goal.null_vector-requires-clause-wide
null_vector-requires-clause-wide c = lines_wide c.args.columns.now c.args.cases.now c.args.lower.now c.args.stage.now.probes c.args.stage.now.free c.args.unknown c.requires.stage.each c.as_slice-2.result.now (lines-are c)

pub null_vector-requires-clause-small : goal.null_vector-requires-clause-small
null_vector-requires-clause-small c = lines_small c.args.columns.now c.args.cases.now c.args.lower.now c.args.stage.now.probes c.args.stage.now.free c.args.unknown c.requires.stage.each c.as_slice-2.result.now (lines-are c) c.requires.small

pub null_vector-requires-clause-regular : goal.null_vector-requires-clause-regular
null_vector-requires-clause-regular c = lines_regular c.args.columns.now c.args.cases.now c.args.lower.now c.args.stage.now.probes c.args.stage.now.free c.args.unknown c.requires.stage.each c.as_slice-2.result.now (lines-are c) c.requires.stage.regular

pub returns : goal.returns
returns c =
    let lines = lines-same c.args.columns.now c.args.cases.now c.args.lower.now c.args.stage.now.probes c.as_slice.result.now (c.args.stage.now.free ++ c.args.unknown ∷ []) c.args.chosen.now c.in_ok-lines.lines c.as_slice-2.result.now c.as_slice.ensures c.requires.chosen c.as_slice-2.ensures c.in_ok-lines.ensures in
    IfOk-weaker c.null_vector.result (λ (v : List ℤ). IsNullVector c.as_slice-2.result.now v) (λ (v : List ℤ). IsOwnRelation c.args.columns.now c.args.cases.now c.args.lower.now c.args.stage.now.probes c.args.stage.now.free c.args.unknown v)
    (λ v n. own_relation c.args.columns.now c.args.cases.now c.args.lower.now c.args.stage.now.probes c.args.stage.now.free c.args.unknown c.requires.stage.each c.as_slice-2.result.now lines v n) c.null_vector.ensures
