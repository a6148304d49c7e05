use Rattle.std.proofs.Common.{◌≡◌, ◌+◌, ◌++◌, drop}
use Rattle.std.specs.List.{filter_map, flat_map}
use Rattle.linear_terms.specs.declared.row.Kind.TheVariants.{Equal}
use Rattle.transition_formula.specs.Composition.{row_of}
use Rattle.transition_formula.specs.Loss.{losses_of}
use Rattle.transition_formula.specs.Equating.{differences}
use Rattle.transition_formula.proofs.equating.add_equations.Given as goal

abbrev pub invariant-loop-post : goal.invariant-loop-post
invariant-loop-post l =
    record {
      number : l.number ≡ l.first + l.post-index;
      made : l.rows ++ filter_map (row_of Equal) (differences l.number (drop l.post-index l.posts)) ≡ l.initial.rows ++ filter_map (row_of Equal) (differences l.first l.posts);
      noted : l.losses ++ flat_map losses_of (differences l.number (drop l.post-index l.posts)) ≡ l.initial.losses ++ flat_map losses_of (differences l.first l.posts);
    }
