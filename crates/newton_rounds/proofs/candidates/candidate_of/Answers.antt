use Rattle.std.proofs.Common.{[], ◌∙◌, List, length, sym, ap, subst}
use Rattle.std.specs.Prelude.{All, ◌==◌}
use Rattle.std.specs.List.{AllByRecursion}
use Rattle.std.proofs.lemmas.Bool.{false≢true}
use Rattle.linear_terms.specs.declared.row.Case.{Case}
use Rattle.posing.specs.Posing.{each}
use Rattle.polyhedra.specs.Bounds.{IsCoveredByPosts, rows_with_exit_bound}
use Rattle.polyhedra.specs.Directions.{directions}
use Rattle.leaf_cases.specs.Guard.{columns_of}
use Rattle.posing.proofs.Steps.{in_other_words}
use Rattle.polyhedra.proofs.Results.{result_has}
use Rattle.newton_rounds.specs.Candidates.{candidate_of}
use Rattle.newton_rounds.specs.Between.{IsRowOver}
use Rattle.newton_rounds.proofs.CandidateSummaries.{after-covered, candidate-over, candidate-some, posts-covered}
use Rattle.newton_rounds.proofs.candidates.candidate_of.Goals as goal

pub pair_bounds-requires-clause-posts : goal.pair_bounds-requires-clause-posts
pair_bounds-requires-clause-posts g c =
    let m = c.args.member.now in
    let f = c.args.f.now in
    subst (λ (cases : List Case). All (IsCoveredByPosts cases) (directions m.pair)) (sym (c.as_slice.ensures ∙ c.in_ok-cases.ensures)) (posts-covered m c.requires.member f c.requires.summary)

pub pair_bounds-requires-clause-rows : goal.pair_bounds-requires-clause-rows
pair_bounds-requires-clause-rows g c = after-covered c.args.member.now c.requires.member

pub returns-clause-follows : goal.returns-clause-follows
unfolding candidate_of
returns-clause-follows g c =
    let m = c.args.member.now in
    let f = c.args.f.now in
    in_other_words
    (ap (λ (cases : List Case). each (rows_with_exit_bound cases (columns_of m.pair.columns)) [] (directions m.pair)) (c.as_slice.ensures ∙ c.in_ok-cases.ensures)
    ∙ sym (candidate-some m f.from f.cases (λ none. false≢true (sym c.if-is_empty.false ∙ c.is_empty.ensures ∙ ap (λ (xs : List Case). length xs == 0) (c.cases.ensures.cases ∙ none))))) c.pair_bounds.ensures

pub returns-clause-over : goal.returns-clause-over
returns-clause-over g c = result_has (AllByRecursion (IsRowOver c.args.member.now.pair.columns)) c.pair_bounds.result (returns-clause-follows g c) (candidate-over c.args.member.now c.args.f.now)
