use Rattle.std.proofs.Common.{◌≡◌, ◌≤◌, length, subst, sym}
use Rattle.std.specs.Prelude.{IfOk, IsTrue}
use Rattle.linear_terms.specs.declared.row.Case.{Case}
use Rattle.transition_formula.specs.Transition.{fits}
use Rattle.point_verdicts.specs.Parts.{formula_of_case}
use Rattle.point_verdicts.proofs.FailingCases.{arriving-made}
use Rattle.point_verdicts.proofs.arrivals.arriving_formula.Goals as goal

pub posts_behind-posts-requires : goal.posts_behind-posts-requires
posts_behind-posts-requires c = subst (λ posts. c.args.columns ≤ length posts) (sym c.as_slice.ensures) c.requires.long

pub formula_of_case-requires : goal.formula_of_case-requires
formula_of_case-requires c =
    subst (λ case. IsTrue (fits 0 c.args.columns case))
    (sym (arriving-made c.args.columns c.args.given c.args.case.now c.as_slice.result.now c.posts_behind-posts.result.now c.in_ok-post.post c.as_slice.ensures c.posts_behind-posts.ensures c.in_ok-post.ensures)) c.requires.fits

pub returns : goal.returns
returns c =
    subst (λ (case : Case). IfOk c.formula_of_case.result (λ f. f ≡ formula_of_case 0 c.args.columns case))
    (arriving-made c.args.columns c.args.given c.args.case.now c.as_slice.result.now c.posts_behind-posts.result.now c.in_ok-post.post c.as_slice.ensures c.posts_behind-posts.ensures c.in_ok-post.ensures) c.formula_of_case.ensures
