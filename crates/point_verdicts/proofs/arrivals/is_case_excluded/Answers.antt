use Rattle.std.proofs.Common.{ap, length, refl, subst, sym, ◌∙◌, arith}
use Rattle.std.specs.Prelude.{false, if◌then◌else◌}
use Rattle.std.proofs.lemmas.Bool.{le-leb, lt-leb}
use Rattle.posing.specs.Posing.{Done}
use Rattle.posing.proofs.Steps.{at_end, in_other_words}
use Rattle.point_rows.specs.Reading.{AreOverColumns, given_rows}
use Rattle.point_verdicts.specs.Exclusions.{arrival_excluded, case_excluded, most_step_auxiliaries}
use Rattle.point_verdicts.proofs.FailingCases.{arriving-fits, source-over}
use Rattle.point_verdicts.proofs.arrivals.is_case_excluded.Goals as goal

pub returns-then-case-gt-MOST_AUXILIARIES : goal.returns-then-case-gt-MOST_AUXILIARIES
unfolding case_excluded
returns-then-case-gt-MOST_AUXILIARIES g c =
    let case = c.args.case.now in
    let falsity = c.args.falsity.now in
    let many = c.if-case-gt-MOST_AUXILIARIES.true in
    in_other_words
    (ap (λ few. if few then arrival_excluded falsity.from falsity.cases case (given_rows case.post case.rows c.args.source.now) else Done false) (sym (lt-leb case.aux most_step_auxiliaries (omega (arith, many)))))
    (at_end refl)

pub given_rows-requires : goal.given_rows-requires
given_rows-requires g c =
    subst (λ posts. AreOverColumns (length posts) c.args.source.now) (sym c.as_slice-posts.ensures) (source-over c.args.falsity.now.from c.args.case.now c.requires.case c.args.source.now c.requires.source)

pub returns-in-None : goal.returns-in-None
unfolding case_excluded
returns-in-None g c =
    let case = c.args.case.now in
    let falsity = c.args.falsity.now in
    let few = c.if-case-gt-MOST_AUXILIARIES.false in
    let is = sym c.in-None.is ∙ c.in_ok-given_rows.ensures ∙ (λ i. given_rows (c.as_slice-posts.ensures i) (c.as_slice.ensures i) c.args.source.now) in
    in_other_words
    (ap (arrival_excluded falsity.from falsity.cases case) is
    ∙ ap (λ few. if few then arrival_excluded falsity.from falsity.cases case (given_rows case.post case.rows c.args.source.now) else Done false) (sym (le-leb case.aux most_step_auxiliaries (omega (arith, few)))))
    (at_end refl)

pub is_arrival_excluded-requires-clause-fits : goal.is_arrival_excluded-requires-clause-fits
is_arrival_excluded-requires-clause-fits g c =
    let is = sym (c.in_ok-given_rows.ensures ∙ (λ i. given_rows (c.as_slice-posts.ensures i) (c.as_slice.ensures i) c.args.source.now)) ∙ c.in-Some.is in
    arriving-fits c.args.falsity.now.from c.args.case.now c.requires.case c.args.source.now c.in-Some.given c.requires.source is

pub is_arrival_excluded-requires-clause-few : goal.is_arrival_excluded-requires-clause-few
is_arrival_excluded-requires-clause-few g c = let few = c.if-case-gt-MOST_AUXILIARIES.false in omega (arith, few)

pub returns-in-Some : goal.returns-in-Some
unfolding case_excluded
returns-in-Some g c =
    let case = c.args.case.now in
    let falsity = c.args.falsity.now in
    let few = c.if-case-gt-MOST_AUXILIARIES.false in
    let is = sym c.in-Some.is ∙ c.in_ok-given_rows.ensures ∙ (λ i. given_rows (c.as_slice-posts.ensures i) (c.as_slice.ensures i) c.args.source.now) in
    in_other_words
    (ap (arrival_excluded falsity.from falsity.cases case) is
    ∙ ap (λ few. if few then arrival_excluded falsity.from falsity.cases case (given_rows case.post case.rows c.args.source.now) else Done false) (sym (le-leb case.aux most_step_auxiliaries (omega (arith, few)))))
    c.is_arrival_excluded.ensures
