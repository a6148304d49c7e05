use Rattle.std.proofs.Common.{◌≡◌, ◌+◌, ◌++◌, take, drop}
use Rattle.std.specs.Prelude.{count_by}
use Rattle.std.specs.List.{flat_map}
use Rattle.std.specs.Option.{is_none}
use Rattle.transition_formula.specs.Loss.{answer_of, losses_of}
use Rattle.transition_formula.specs.Composition.{posts_by}
use Rattle.transition_formula.specs.Order.{with_solution}
use Rattle.transition_formula.proofs.solution.Solution.posts.Given as goal

abbrev pub invariant-loop-post : goal.invariant-loop-post
invariant-loop-post l =
    record {
      made : l.made ++ posts_by (with_solution l.self.aux l.self.by) l.aux (drop l.post-index l.posts) ≡ posts_by (with_solution l.self.aux l.self.by) l.count l.posts;
      count : l.aux ≡ l.count + count_by (λ p. is_none (answer_of (with_solution l.self.aux l.self.by p))) (take l.post-index l.posts);
      noted : l.losses ++ flat_map (λ p. losses_of (with_solution l.self.aux l.self.by p)) (drop l.post-index l.posts) ≡ l.initial.losses ++ flat_map (λ p. losses_of (with_solution l.self.aux l.self.by p)) l.posts;
    }
