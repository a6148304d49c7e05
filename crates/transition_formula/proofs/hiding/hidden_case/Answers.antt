use Rattle.std.proofs.Common.{◌∙◌, rules}
use Rattle.transition_formula.proofs.HiddenColumns.{ReadsHidden, hidden_rows_covered, hidden_posts_covered, hidden_made, hidden_noted}
use Rattle.transition_formula.proofs.hiding.hidden_case.Goals as goal

pub rows-requires : goal.rows-requires
rows-requires c =
    hidden_rows_covered c.args.n c.args.from c.args.case.now c.as_slice.result.now c.as_slice-2.result.now c.as_slice-3.result.now c.requires.fewer c.requires.covered (c.as_slice.ensures ∙ c.in_ok-at.ensures) (c.as_slice-2.ensures ∙ c.in_ok-aux.ensures) c.as_slice-3.ensures

pub posts-requires-clause-covered : goal.posts-requires-clause-covered
posts-requires-clause-covered c =
    hidden_posts_covered c.args.n c.args.from c.args.case.now c.as_slice.result.now c.as_slice-2.result.now c.as_slice-4.result.now c.requires.fewer c.requires.covered (c.as_slice.ensures ∙ c.in_ok-at.ensures) (c.as_slice-2.ensures ∙ c.in_ok-aux.ensures) c.as_slice-4.ensures

pub returns-clause-exact : goal.returns-clause-exact
returns-clause-exact c =
    let reads : ReadsHidden c.args.n c.args.from c.args.case.now c.as_slice.result.now c.as_slice-2.result.now c.as_slice-3.result.now c.as_slice-4.result.now =
    record { same_at = c.as_slice.ensures ∙ c.in_ok-at.ensures; same_aux = c.as_slice-2.ensures ∙ c.in_ok-aux.ensures; same_rows = c.as_slice-3.ensures; same_posts = c.as_slice-4.ensures } in
    hidden_made c.args.n c.args.from c.args.case.now c.as_slice.result.now c.as_slice-2.result.now c.as_slice-3.result.now c.as_slice-4.result.now reads c.rows.new.made c.posts.new.made c.in_ok-count.count
    (search (rules, c.in_ok-rows.ensures.made)) (search (rules, c.in_ok-count.ensures.made)) c.in_ok-count.ensures.count

pub returns-clause-noted : goal.returns-clause-noted
returns-clause-noted c =
    let reads : ReadsHidden c.args.n c.args.from c.args.case.now c.as_slice.result.now c.as_slice-2.result.now c.as_slice-3.result.now c.as_slice-4.result.now =
    record { same_at = c.as_slice.ensures ∙ c.in_ok-at.ensures; same_aux = c.as_slice-2.ensures ∙ c.in_ok-aux.ensures; same_rows = c.as_slice-3.ensures; same_posts = c.as_slice-4.ensures } in
    hidden_noted c.args.n c.args.from c.args.case.now c.as_slice.result.now c.as_slice-2.result.now c.as_slice-3.result.now c.as_slice-4.result.now reads c.args.losses.now c.rows.new.losses c.posts.new.losses
    c.in_ok-rows.ensures.noted c.in_ok-count.ensures.noted
