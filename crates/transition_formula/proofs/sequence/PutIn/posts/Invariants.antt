use Rattle.std.proofs.Common.{◌≡◌, ◌+◌, ◌++◌, take, drop}
use Rattle.std.specs.Prelude.{count_by}
use Rattle.std.specs.List.{flat_map}
use Rattle.std.specs.Option.{is_none}
use Rattle.linear_terms.specs.Operations.{substituted_polynomial}
use Rattle.linear_terms.specs.Replacement.{put_in}
use Rattle.transition_formula.specs.Loss.{answer_of, losses_of}
use Rattle.transition_formula.specs.Composition.{posts_by}
use Rattle.transition_formula.proofs.sequence.PutIn.posts.Given as goal

abbrev pub invariant-loop-post : goal.invariant-loop-post
invariant-loop-post l =
    record {
      made : l.made ++ posts_by (substituted_polynomial (put_in l.self.at.now l.self.aux.now)) l.aux (drop l.post-index l.posts) ≡ l.initial.made ++ posts_by (substituted_polynomial (put_in l.self.at.now l.self.aux.now)) l.initial.aux l.posts;
      count : l.aux ≡ l.initial.aux + count_by (λ p. is_none (answer_of (substituted_polynomial (put_in l.self.at.now l.self.aux.now) p))) (take l.post-index l.posts);
      noted : l.losses ++ flat_map (λ p. losses_of (substituted_polynomial (put_in l.self.at.now l.self.aux.now) p)) (drop l.post-index l.posts) ≡ l.initial.losses ++ flat_map (λ p. losses_of (substituted_polynomial (put_in l.self.at.now l.self.aux.now) p)) l.posts;
    }
