use Rattle.std.proofs.Common.{rules, refl, ◌≡◌, List, ℤ, sym, subst}
use Rattle.std.specs.Prelude.{IfErr}
use Rattle.simplex.specs.CalmStrata.{IsRefusalOf, IsCalmRelation}
use Rattle.simplex.specs.Spots.{IsRelationOf}
use Rattle.simplex.proofs.CalmSearches.{known_calm, relation_calm}
use Rattle.simplex.specs.StrataSteps.{IsCandidate}
use Rattle.simplex.proofs.CalmSteps.{under_error}
use Rattle.simplex.proofs.StrataStops.{known_stop, candidate_of}
use Rattle.simplex.proofs.strata.tested_unknown.Goals as goal

pub returns-in_err-numbers-clause-refusal : goal.returns-in_err-numbers-clause-refusal
returns-in_err-numbers-clause-refusal c =
    let known : IfErr c.relation_of.result (IsRefusalOf c.args.strata.now) =
    under_error c.args.strata.now c.args.strata.now.count c.args.known.spots.lines c.relation_of.result c.relation_of.ensures.refusal (λ calm. known_calm c.args.strata.now c.args.known c.requires.asked c.requires.count c.requires.known calm)
    (known_stop c.args.strata.now c.args.known c.relation_of.result c.requires.asked c.requires.count c.requires.known c.relation_of.ensures.step) in search rules

pub verdict_of-requires-clause-calm : goal.verdict_of-requires-clause-calm
verdict_of-requires-clause-calm c =
    let own : c.as_slice-line.result.now ≡ c.in_ok-numbers.numbers = search rules in
    subst (λ (ns : List ℤ). IsCalmRelation c.args.strata.now ns) (sym own) (relation_calm c.args.strata.now c.args.known c.args.known.next c.in_ok-numbers.numbers c.requires.asked c.requires.count c.requires.known c.requires.next c.requires.free c.in_ok-numbers.ensures.relation)

pub verdict_of-requires-clause-candidate : goal.verdict_of-requires-clause-candidate
verdict_of-requires-clause-candidate c =
    let own : c.as_slice-line.result.now ≡ c.in_ok-numbers.numbers = search rules in
    subst (λ (ns : List ℤ). IsCandidate c.args.strata.now.columns.now c.args.strata.now.cases.now c.args.strata.now.lower.now ns) (sym own) (candidate_of c.args.strata.now c.args.known c.args.known.next c.in_ok-numbers.numbers c.requires.asked c.requires.count c.requires.known c.in_ok-numbers.ensures.relation)

pub course_after-requires-clause-relation : goal.course_after-requires-clause-relation
course_after-requires-clause-relation c =
    let own : c.as_slice-line.result.now ≡ c.in_ok-numbers.numbers = search rules in
    subst (λ (ns : List ℤ). IsRelationOf c.args.strata.now.count c.args.known.spots.tableau c.args.known.next ns) (sym own) c.in_ok-numbers.ensures.relation

pub relation_of-requires : goal.relation_of-requires
relation_of-requires c = (refl, (c.requires.known.spots, (c.requires.next, c.requires.free)))
