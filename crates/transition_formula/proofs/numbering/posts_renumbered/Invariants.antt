use Rattle.std.proofs.Common.{◌≡◌, ◌++◌, map, drop}
use Rattle.std.specs.Prelude.{slice_index}
use Rattle.linear_terms.specs.Auxiliaries.{renumbered_polynomial}
use Rattle.transition_formula.proofs.numbering.posts_renumbered.Given as goal

abbrev pub invariant-loop-post : goal.invariant-loop-post
invariant-loop-post l = l.made ++ map (renumbered_polynomial (slice_index l.numbers)) (drop l.post-index l.posts) ≡ map (renumbered_polynomial (slice_index l.numbers)) l.posts
