use Rattle.std.proofs.Common.{◌≡◌, ◌<◌, length, map, sym, ap, subst, ◌∙◌, true}
use Rattle.std.specs.Prelude.{All, IfOk, IsTrue}
use Rattle.linear_terms.specs.declared.row.Case.{Case}
use Rattle.farkas_check.specs.Relations.{have_equally_many}
use Rattle.posing.specs.Logs.{loss_notes}
use Rattle.polyhedra.specs.Changes.{changes_in, modified_variables}
use Rattle.polyhedra.proofs.Coverage.{posts-long}
use Rattle.facet_hull.specs.Facets.{outcome, IsOfHull, Rise}
use Rattle.facet_hull.proofs.Outcomes.{modified-below, modified-rises, cases-equally_many}
use Rattle.facet_hull.proofs.finding.facets.Goals as goal

pub hull_cases-requires-clause-posts : goal.hull_cases-requires-clause-posts
hull_cases-requires-clause-posts c =
    let f = c.args.body.now in
    subst (λ n. All (λ (case : Case). length case.post ≡ n) c.cases.result.now) (sym c.to.ensures) (posts-long f.from f.to c.cases.result.now c.cases.ensures.fit)

pub hull_cases-requires-clause-low : goal.hull_cases-requires-clause-low
hull_cases-requires-clause-low c =
    let body = c.args.body.now in
    subst (λ vs. All (λ v. v < c.to.result) vs) (sym (c.as_slice-modified.ensures ∙ c.in_ok-movement.ensures.modified))
    (subst (λ n. All (λ v. v < n) (modified_variables true body)) (sym c.to.ensures) (modified-below body))

pub outcome-requires-clause-rise : goal.outcome-requires-clause-rise
outcome-requires-clause-rise c = subst Rise (sym (c.as_slice-modified.ensures ∙ c.in_ok-movement.ensures.modified)) (modified-rises c.args.body.now)

pub outcome-requires-clause-counts : goal.outcome-requires-clause-counts
outcome-requires-clause-counts c = subst (λ cs. IsTrue (have_equally_many cs)) (sym c.in_ok-cases.ensures) (cases-equally_many c.as_slice-modified.result.now c.cases.result.now)

pub returns-clause-value : goal.returns-clause-value
returns-clause-value c =
    let variables = c.as_slice-modified.ensures ∙ c.in_ok-movement.ensures.modified in
    let lost = ap loss_notes c.as_slice.ensures ∙ c.in_ok-movement.ensures.lost in
    let cases = c.in_ok-cases.ensures ∙ (λ i. map (changes_in true (variables i)) (c.cases.ensures.cases i)) in
    subst (λ found. IfOk c.outcome.result (λ made. made ≡ found)) (λ i. outcome (variables i) (lost i) (cases i)) c.outcome.ensures.value

pub returns-clause-hull : goal.returns-clause-hull
returns-clause-hull c =
    let variables = c.as_slice-modified.ensures ∙ c.in_ok-movement.ensures.modified in
    let cases = c.in_ok-cases.ensures ∙ (λ i. map (changes_in true (variables i)) (c.cases.ensures.cases i)) in
    subst (λ found. found) (λ i. IfOk c.outcome.result (λ made. IsOfHull (variables i) (cases i) made)) c.outcome.ensures.hull
