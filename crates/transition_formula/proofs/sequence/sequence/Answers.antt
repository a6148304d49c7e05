use Rattle.std.proofs.Common.{◌∙◌, rules}
use Rattle.std.specs.List.{each_same}
use Rattle.transition_formula.proofs.Sequences.{Reads, rows_covered, posts_covered, sequence_made, sequence_noted}
use Rattle.transition_formula.proofs.sequence.sequence.Goals as goal

pub rows-requires : goal.rows-requires
rows-requires c =
    rows_covered c.args.first.now c.args.second.now c.as_slice.result.now c.as_slice-2.result.now c.as_slice-3.result.now c.requires.covered c.as_slice.ensures (c.as_slice-2.ensures ∙ c.in_ok-aux.ensures) c.as_slice-3.ensures

pub posts-requires-clause-covered : goal.posts-requires-clause-covered
posts-requires-clause-covered c =
    posts_covered c.args.first.now c.args.second.now c.as_slice.result.now c.as_slice-2.result.now c.as_slice-4.result.now c.requires.covered c.as_slice.ensures (c.as_slice-2.ensures ∙ c.in_ok-aux.ensures) c.as_slice-4.ensures

pub returns-clause-exact : goal.returns-clause-exact
returns-clause-exact c =
    let first = c.args.first.now in
    let second = c.args.second.now in
    let reads : Reads first second c.as_slice.result.now c.as_slice-2.result.now c.in_ok-rows.rows c.as_slice-3.result.now c.as_slice-4.result.now =
    record { same_at = c.as_slice.ensures; same_aux = c.as_slice-2.ensures ∙ c.in_ok-aux.ensures; same_start = each_same first.rows c.in_ok-rows.rows c.in_ok-rows.ensures.cases; same_rows = c.as_slice-3.ensures; same_posts = c.as_slice-4.ensures } in
    sequence_made first second c.as_slice.result.now c.as_slice-2.result.now c.in_ok-rows.rows c.as_slice-3.result.now c.as_slice-4.result.now reads c.rows.new.made c.posts.new.made c.in_ok-count.count
    c.in_ok-rows-2.ensures.made (search (rules, c.in_ok-count.ensures.made)) c.in_ok-count.ensures.count

pub returns-clause-noted : goal.returns-clause-noted
returns-clause-noted c =
    let first = c.args.first.now in
    let second = c.args.second.now in
    let reads : Reads first second c.as_slice.result.now c.as_slice-2.result.now c.in_ok-rows.rows c.as_slice-3.result.now c.as_slice-4.result.now =
    record { same_at = c.as_slice.ensures; same_aux = c.as_slice-2.ensures ∙ c.in_ok-aux.ensures; same_start = each_same first.rows c.in_ok-rows.rows c.in_ok-rows.ensures.cases; same_rows = c.as_slice-3.ensures; same_posts = c.as_slice-4.ensures } in
    sequence_noted first second c.as_slice.result.now c.as_slice-2.result.now c.in_ok-rows.rows c.as_slice-3.result.now c.as_slice-4.result.now reads c.args.losses.now c.rows.new.losses c.posts.new.losses
    c.in_ok-rows-2.ensures.noted c.in_ok-count.ensures.noted
