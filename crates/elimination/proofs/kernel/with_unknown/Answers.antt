use Rattle.std.proofs.Common.{◌≡◌, ◌++◌, ◌∷◌, [], List, ℕ, ℤ, ap, refl, ◌∙◌}
use Rattle.std.proofs.lemmas.Result.{IfOk-weaker}
use Rattle.farkas_check.specs.Relations.{entry, unknown_count}
use Rattle.elimination.specs.declared.kernel.ProbeStage.{ProbeStage}
use Rattle.elimination.specs.Stages.{IsStage, spread}
use Rattle.elimination.proofs.Steps.{relation-kept, probe-kept}
use Rattle.elimination.proofs.kernel.with_unknown.Goals as goal

pub returns-in-None : goal.returns-in-None
returns-in-None c =
    let chosen : c.in_ok-chosen.chosen ≡ c.args.stage.free ++ c.args.unknown ∷ [] = c.in_ok-chosen.ensures ∙ ap (λ (us : List ℕ). us ++ c.args.unknown ∷ []) c.as_slice.ensures in
    let line : List ℤ = spread c.as_slice-in-None.result.now (entry c.as_slice-in-None-2.result.now) (unknown_count c.args.cases.now c.args.lower.now) in
    IfOk-weaker c.with_numbers.result (λ (next : ProbeStage). next ≡ record { relations = line ∷ c.args.stage.relations; free = c.args.stage.free; probes = c.args.stage.probes }) (λ (next : ProbeStage). IsStage c.args.columns.now c.args.cases.now c.args.lower.now c.args.unknown next)
    (λ next e. relation-kept c.args.columns.now c.args.cases.now c.args.lower.now c.args.unknown c.args.stage c.requires.here c.requires.stage c.in_ok-numbers.numbers c.in_ok-numbers.ensures next
    c.as_slice-3.result.now c.as_slice-in-None.result.now c.as_slice-4.result.now c.as_slice-in-None-2.result.now (unknown_count c.args.cases.now c.args.lower.now) line
    (c.as_slice-3.ensures ∙ chosen) c.as_slice-4.ensures (c.as_slice-in-None.ensures ∙ chosen) c.as_slice-in-None-2.ensures refl c.in-None.ensures refl e) c.with_numbers.ensures

pub returns : goal.returns
returns c =
    let chosen : c.in_ok-chosen.chosen ≡ c.args.stage.free ++ c.args.unknown ∷ [] = c.in_ok-chosen.ensures ∙ ap (λ (us : List ℕ). us ++ c.args.unknown ∷ []) c.as_slice.ensures in
    IfOk-weaker c.with_probe.result (λ (next : ProbeStage). next ≡ record { relations = c.args.stage.relations; free = c.args.unknown ∷ c.args.stage.free; probes = c.in-Some.probe ∷ c.args.stage.probes }) (λ (next : ProbeStage). IsStage c.args.columns.now c.args.cases.now c.args.lower.now c.args.unknown next)
    (λ next e. probe-kept c.args.columns.now c.args.cases.now c.args.lower.now c.args.unknown c.args.stage c.requires.here c.requires.stage c.in_ok-numbers.numbers c.in_ok-numbers.ensures next
    c.requires.small c.in-Some.probe c.as_slice-3.result.now c.as_slice-4.result.now (c.as_slice-3.ensures ∙ chosen) c.as_slice-4.ensures c.in-Some.ensures e) c.with_probe.ensures
