use Rattle.std.proofs.Common.{◌≡◌, ◌++◌, map, take}
use Rattle.syntax_tree.specs.Term.{term_of}
use Rattle.leaf_cases.specs.Edges.{arguments_of}
use Rattle.leaf_cases.proofs.call.arguments.Given as goal

abbrev pub invariant-loop-e : goal.invariant-loop-e
invariant-loop-e l =
    record {
      made : l.made ≡ (arguments_of (map term_of (take l.e-index l.args))).cases;
      noted : l.losses ≡ l.initial.losses ++ (arguments_of (map term_of (take l.e-index l.args))).lost;
    }
