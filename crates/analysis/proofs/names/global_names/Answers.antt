use Rattle.std.proofs.Common.{[], ◌∷◌, map, refl}
use Rattle.syntax_tree.specs.declared.program.GlobalVar.{GlobalVar}
use Rattle.analysis.proofs.ListLoops.{loop-next}
use Rattle.analysis.proofs.names.global_names.Goals as goal

pub loop-global-preserved : goal.loop-global-preserved
loop-global-preserved c =
    loop-next (map (λ (g : GlobalVar). g.name)) (λ (g : GlobalVar). g.name ∷ []) (λ g globals. refl) c.as_slice-global-items.result.now c.loop-global.global-index c.global-item.result c.loop-global.names c.push_name.new.names _
    c.loop-global-test.true c.global-item.is c.loop-global.invariant c.in_ok-push_name.ensures
