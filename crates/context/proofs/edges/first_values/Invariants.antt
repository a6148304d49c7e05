use Rattle.std.proofs.Common.{◌≡◌, ◌++◌, map, drop}
use Rattle.linear_terms.specs.Polynomial.{constant_of}
use Rattle.syntax_tree.specs.declared.program.GlobalVar.{GlobalVar}
use Rattle.context.proofs.edges.first_values.Given as goal

abbrev pub invariant-loop-global : goal.invariant-loop-global
invariant-loop-global l = l.post ++ map (λ (g : GlobalVar). constant_of g.init) (drop l.global-index l.globals) ≡ map (λ (g : GlobalVar). constant_of g.init) l.globals
