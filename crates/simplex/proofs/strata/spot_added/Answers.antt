use Rattle.std.proofs.Common.{rules, ◌≡◌, ◌∙◌, List, refl, ap, sym, subst, length}
use Rattle.linear_terms.specs.Polynomial.{Polynomial}
use Rattle.farkas_check.specs.Stratum.{terms_of}
use Rattle.std.proofs.lemmas.Option.{slice_get_read}
use Rattle.std.specs.Prelude.{slice_get, IfErr}
use Rattle.simplex.specs.CalmStrata.{IsStray, IsCalmSpot}
use Rattle.simplex.specs.Spots.{HasMoreLine, IsNewPoint}
use Rattle.simplex.proofs.CalmSearches.{new_spot_calm}
use Rattle.simplex.proofs.CalmSteps.{far_error}
use Rattle.simplex.proofs.Courses.{known-spot, terms_found}
use Rattle.simplex.proofs.SpotPoints.{in_cases}
use Rattle.simplex.proofs.StrataStops.{known_spots}
use Rattle.simplex.proofs.strata.spot_added.Goals as goal

pub returns-clause-course : goal.returns-clause-course
returns-clause-course c =
    let line : HasMoreLine c.args.strata.now.columns.now c.args.at c.index-strata-place.result.terms c.args.strata.now.lower.now c.args.known.spots c.in_ok-spots.spots = search rules in
    known-spot c.args.strata.now c.args.known (record { next = c.args.known.next; start = c.args.known.start; relations = c.args.known.relations; spots = c.in_ok-spots.spots }) (record { case = c.in_ok-case.case; at = c.args.at }) c.index-strata-place.result c.args.place
    c.requires.known c.in_ok-spots.ensures.spots c.in_ok-case.ensures.number
    (slice_get_read c.args.strata.now.cases.now (length c.args.strata.now.cases.now) c.args.place c.index-strata-place.result refl (in_cases c.args.strata.now.cases.now c.args.place c.requires.point.case c.requires.point.is) c.index-strata-place.is)
    c.requires.point line c.in_ok-spots.ensures.more refl refl refl

pub with_spot-requires-clause-apart : goal.with_spot-requires-clause-apart
with_spot-requires-clause-apart c =
    let own : c.as_slice-terms.result.now ≡ c.index-strata-place.result.terms = search rules in
    let there : terms_of c.args.strata.now.cases.now c.args.place ≡ c.index-strata-place.result.terms = terms_found c.args.strata.now.cases.now c.args.place c.index-strata-place.result
    (slice_get_read c.args.strata.now.cases.now (length c.args.strata.now.cases.now) c.args.place c.index-strata-place.result refl (in_cases c.args.strata.now.cases.now c.args.place c.requires.point.case c.requires.point.is) c.index-strata-place.is) in
    subst (λ (ts : List Polynomial). IsNewPoint c.args.strata.now.columns.now c.args.at ts c.args.strata.now.lower.now c.args.strata.now.count c.args.known.spots.lines) (there ∙ sym own) c.requires.apart

pub with_spot-requires-clause-calm : goal.with_spot-requires-clause-calm
with_spot-requires-clause-calm c =
    let own : c.as_slice-terms.result.now ≡ c.index-strata-place.result.terms = search rules in
    let there : terms_of c.args.strata.now.cases.now c.args.place ≡ c.index-strata-place.result.terms = terms_found c.args.strata.now.cases.now c.args.place c.index-strata-place.result
    (slice_get_read c.args.strata.now.cases.now (length c.args.strata.now.cases.now) c.args.place c.index-strata-place.result refl (in_cases c.args.strata.now.cases.now c.args.place c.requires.point.case c.requires.point.is) c.index-strata-place.is) in
    subst (λ (ts : List Polynomial). IsCalmSpot c.args.strata.now ts c.args.at c.args.known.spots.lines) (there ∙ sym own)
    (new_spot_calm c.args.strata.now c.args.known c.args.known.next c.args.place c.args.at c.requires.asked c.requires.count c.requires.asked.few_columns c.requires.known c.requires.next c.requires.free c.requires.point)

pub returns-in_err-case-clause-refusal : goal.returns-in_err-case-clause-refusal
returns-in_err-case-clause-refusal c =
    let known : IfErr c.case_number.result (IsStray c.args.strata.now) =
    far_error c.args.strata.now c.args.place c.case_number.result c.case_number.ensures.far (in_cases c.args.strata.now.cases.now c.args.place c.requires.point.case c.requires.point.is) in search rules

pub with_spot-requires-clause-of : goal.with_spot-requires-clause-of
with_spot-requires-clause-of c = known_spots c.args.strata.now c.args.known c.requires.asked c.requires.count c.requires.known

pub with_spot-requires-clause-point : goal.with_spot-requires-clause-point
with_spot-requires-clause-point c = record { case = c.requires.point.case; is = ap (slice_get c.args.strata.now.cases.now) c.in_ok-case.ensures.number ∙ c.requires.point.is; point = c.requires.point.point }

pub with_spot-requires-clause-terms : goal.with_spot-requires-clause-terms
with_spot-requires-clause-terms c =
    let own : c.as_slice-terms.result.now ≡ c.index-strata-place.result.terms = search rules in
    let there : terms_of c.args.strata.now.cases.now c.args.place ≡ c.index-strata-place.result.terms = terms_found c.args.strata.now.cases.now c.args.place c.index-strata-place.result
    (slice_get_read c.args.strata.now.cases.now (length c.args.strata.now.cases.now) c.args.place c.index-strata-place.result refl (in_cases c.args.strata.now.cases.now c.args.place c.requires.point.case c.requires.point.is) c.index-strata-place.is) in
    own ∙ sym there ∙ ap (terms_of c.args.strata.now.cases.now) (sym c.in_ok-case.ensures.number)
