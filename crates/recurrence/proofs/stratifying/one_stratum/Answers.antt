use Rattle.std.proofs.Common.{map, true, refl, sym, ap, subst, ◌∙◌}
use Rattle.std.specs.Prelude.{IsTrue}
use Rattle.std.specs.List.{filter}
use Rattle.std.specs.Option.{option_map}
use Rattle.farkas_check.specs.Relations.{have_equally_many}
use Rattle.posing.proofs.Following.{stops}
use Rattle.posing.proofs.Steps.{value_first, error_first, at_end}
use Rattle.polyhedra.specs.Relations.{relations_of}
use Rattle.polyhedra.proofs.Coverage.{equally_many}
use Rattle.recurrence.specs.Strata.{term_of, has_terms, stratum}
use Rattle.recurrence.specs.Words.{Rise}
use Rattle.recurrence.proofs.RisingNumbers.{moving-rises}
use Rattle.recurrence.proofs.stratifying.one_stratum.Goals as goal

pub question_of-question-requires : goal.question_of-question-requires
question_of-question-requires g c = subst (λ cs. IsTrue (have_equally_many cs)) (sym (c.in_ok-cases.ensures ∙ c.requires.cases)) (equally_many true c.args.body.formula.now)

pub terms_of-requires : goal.terms_of-requires
terms_of-requires g c = subst Rise (sym (c.as_slice.ensures ∙ c.requires.moving)) (moving-rises c.args.body.formula.now)

pub returns-in_err-cases : goal.returns-in_err-cases
returns-in_err-cases g c = stops _ _ _ _ _ _ refl c.from_residual.ensures.1

pub returns-in_err-starts : goal.returns-in_err-starts
returns-in_err-starts g c = stops _ _ _ _ _ _ refl c.from_residual-in_err-starts.ensures.1

pub returns-in_err-found : goal.returns-in_err-found
unfolding stratum
returns-in_err-found g c =
    let asked = ap (λ s. relations_of s.cases s.lower) c.question_of-question.ensures ∙ (λ i. relations_of ((c.in_ok-cases.ensures ∙ c.requires.cases) i) (c.in_ok-starts.ensures i)) in
    error_first _ c.in_err-found.ensures asked c.from_residual-in_err-found.ensures.1

pub returns-in_err-terms : goal.returns-in_err-terms
unfolding stratum
returns-in_err-terms g c =
    let asked = ap (λ s. relations_of s.cases s.lower) c.question_of-question.ensures ∙ (λ i. relations_of ((c.in_ok-cases.ensures ∙ c.requires.cases) i) (c.in_ok-starts.ensures i)) in
    value_first _ c.in_ok-found.ensures asked (stops _ _ _ _ _ _ refl c.from_residual-in_err-terms.ensures.1)

pub returns : goal.returns
unfolding stratum
returns g c =
    let asked = ap (λ s. relations_of s.cases s.lower) c.question_of-question.ensures ∙ (λ i. relations_of ((c.in_ok-cases.ensures ∙ c.requires.cases) i) (c.in_ok-starts.ensures i)) in
    value_first _ c.in_ok-found.ensures asked
    (at_end (c.in_ok-terms.ensures ∙ (λ i. option_map (λ rs. map (term_of ((c.as_slice.ensures ∙ c.requires.moving) i) c.args.lower.now) (filter has_terms rs)) c.in_ok-found.found)))
