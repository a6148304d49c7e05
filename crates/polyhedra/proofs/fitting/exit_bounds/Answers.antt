use Rattle.std.proofs.Common.{◌≡◌, map, length, All, refl, sym, ap, subst, ◌∙◌}
use Rattle.std.specs.List.{range_with_len}
use Rattle.std.proofs.lemmas.List.FromFn.{length-map-range_with_len}
use Rattle.posing.specs.Posing.{each}
use Rattle.posing.proofs.Following.{stops}
use Rattle.posing.proofs.Steps.{in_other_words}
use Rattle.polyhedra.specs.Bounds.{IsCovered, IsCoveredByPosts, rows_with_exit_bound}
use Rattle.polyhedra.specs.Directions.{directions}
use Rattle.polyhedra.specs.Squash.{after_from, posts_after}
use Rattle.polyhedra.proofs.Coverage.{directions-covered, directions-covered_by_posts}
use Rattle.polyhedra.proofs.fitting.exit_bounds.Goals as goal

pub posts_after-requires : goal.posts_after-requires
posts_after-requires g c = c.requires.few

pub returns-in_err-posts : goal.returns-in_err-posts
returns-in_err-posts g c = stops _ _ _ _ _ _ refl c.from_residual.ensures.1

pub returns-in_err-exit : goal.returns-in_err-exit
returns-in_err-exit g c = stops _ _ _ _ _ _ refl c.from_residual-in_err-exit.ensures.1

pub bounds_after-requires-clause-posts : goal.bounds_after-requires-clause-posts
bounds_after-requires-clause-posts g c =
    let f = c.args.fitting.f.now in
    subst (All (IsCoveredByPosts c.cases.result.now)) (sym (c.as_slice-2.ensures ∙ c.in_ok-exit.ensures))
    (subst (λ cs. All (IsCoveredByPosts cs) (directions c.args.fitting.to.now)) (sym c.cases.ensures.cases)
    (directions-covered_by_posts c.args.fitting.to.now c.requires.valid f.to c.requires.columns f.from f.cases c.requires.fits))

pub bounds_after-requires-clause-rows : goal.bounds_after-requires-clause-rows
bounds_after-requires-clause-rows g c =
    let f = c.args.fitting.f.now in
    let long : length c.as_slice.result.now ≡ c.to.result = ap length (c.as_slice.ensures ∙ c.in_ok-posts.ensures) ∙ length-map-range_with_len (after_from c.args.fitting.one 0 c.args.modified.now) 0 c.to.result in
    subst (All (IsCovered (length c.as_slice.result.now))) (sym (c.as_slice-2.ensures ∙ c.in_ok-exit.ensures))
    (directions-covered c.args.fitting.to.now c.requires.valid f.to c.requires.columns (length c.as_slice.result.now) (long ∙ c.to.ensures))

pub returns : goal.returns
returns g c =
    let f = c.args.fitting.f.now in
    let exit = c.as_slice-2.ensures ∙ c.in_ok-exit.ensures in
    let posts : c.as_slice.result.now ≡ posts_after c.args.fitting.one f = c.as_slice.ensures ∙ c.in_ok-posts.ensures ∙ (λ i. map (after_from c.args.fitting.one 0 (c.requires.modified i)) (range_with_len 0 (c.to.ensures i))) in
    in_other_words (λ i. each (rows_with_exit_bound (c.cases.ensures.cases i) (posts i)) c.args.rows (exit i)) c.bounds_after.ensures
