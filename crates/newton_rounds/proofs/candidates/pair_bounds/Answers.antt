use Rattle.std.proofs.Common.{◌≡◌, ◌∙◌, List, length, sym, ap, subst}
use Rattle.std.specs.Prelude.{All}
use Rattle.linear_terms.specs.Polynomial.{Polynomial}
use Rattle.posing.specs.Posing.{each}
use Rattle.polyhedra.specs.Bounds.{IsCovered, IsCoveredByPosts, rows_with_exit_bound}
use Rattle.polyhedra.specs.Directions.{directions}
use Rattle.polyhedra.specs.Vocabulary.{Vocabulary}
use Rattle.leaf_cases.specs.Guard.{columns_of}
use Rattle.posing.proofs.Steps.{in_other_words}
use Rattle.newton_rounds.specs.Pairs.{PairEnds, columns_from}
use Rattle.newton_rounds.proofs.candidates.pair_bounds.Goals as goal

pub bounds_after-requires-clause-posts : goal.bounds_after-requires-clause-posts
bounds_after-requires-clause-posts g c =
    let voc = ap (λ (p : PairEnds). p.pair) c.member.view_is in
    subst (All (IsCoveredByPosts c.args.cases.now)) (sym (c.as_slice-2.ensures ∙ c.in_ok-asked.ensures ∙ ap directions voc)) c.requires.posts

pub bounds_after-requires-clause-rows : goal.bounds_after-requires-clause-rows
bounds_after-requires-clause-rows g c =
    let m = c.args.member.now in
    let voc : c.member.inside.pair ≡ m.pair = ap (λ (p : PairEnds). p.pair) c.member.view_is in
    let asked : c.as_slice-2.result.now ≡ directions m.pair = c.as_slice-2.ensures ∙ c.in_ok-asked.ensures ∙ ap directions voc in
    let after : c.as_slice.result.now ≡ columns_of m.pair.columns = c.as_slice.ensures ∙ c.in_ok-after.ensures ∙ ap (columns_from 0) (c.columns.ensures.columns ∙ ap (λ (v : Vocabulary). v.columns) voc) in
    subst (λ (t : List Polynomial × List Polynomial). All (IsCovered (length t.0)) t.1) (λ i. (sym after i, sym asked i)) c.requires.rows

pub returns : goal.returns
returns g c =
    let m = c.args.member.now in
    let voc : c.member.inside.pair ≡ m.pair = ap (λ (p : PairEnds). p.pair) c.member.view_is in
    let asked : c.as_slice-2.result.now ≡ directions m.pair = c.as_slice-2.ensures ∙ c.in_ok-asked.ensures ∙ ap directions voc in
    let after : c.as_slice.result.now ≡ columns_of m.pair.columns = c.as_slice.ensures ∙ c.in_ok-after.ensures ∙ ap (columns_from 0) (c.columns.ensures.columns ∙ ap (λ (v : Vocabulary). v.columns) voc) in
    in_other_words (λ i. each (rows_with_exit_bound c.args.cases.now (after i)) (c.new.ensures i) (asked i)) c.bounds_after.ensures
