use Rattle.std.proofs.Common.{◌≡◌, ◌++◌, map, drop}
use Rattle.syntax_tree.specs.declared.program.GlobalVar.{GlobalVar}
use Rattle.analysis.proofs.names.global_names.Given as goal

abbrev pub invariant-loop-global : goal.invariant-loop-global
invariant-loop-global l = l.names ++ map (λ (g : GlobalVar). g.name) (drop l.global-index l.global-items) ≡ map (λ (g : GlobalVar). g.name) l.global-items
