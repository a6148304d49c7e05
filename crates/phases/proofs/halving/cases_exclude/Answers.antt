use Rattle.std.proofs.Common.{◌≡◌, ℕ, ◌+◌, ◌<◌, List, ◌∷◌, length, get_or, drop, Bool, false, refl, ap, ◌∙◌, sym, subst}
use Rattle.std.specs.Prelude.{if◌then◌else◌}
use Rattle.std.proofs.lemmas.Option.{slice_get_read}
use Rattle.items.proofs.Each.{each-get}
use Rattle.std.proofs.lemmas.List.{drop_more}
use Rattle.linear_terms.specs.declared.row.Case.{Case}
use Rattle.linear_terms.specs.Polynomial.{Polynomial}
use Rattle.posing.specs.Follows.{Leads}
use Rattle.posing.specs.Posing.{Posing, Done, ◌>>=◌}
use Rattle.posing.proofs.Following.{leads_none}
use Rattle.posing.proofs.Steps.{first_left, all_left, error_first, in_other_words, at_end}
use Rattle.phases.specs.Words.{IsExcludable}
use Rattle.phases.specs.Phases.{case_excludes, cases_exclude}
use Rattle.phases.proofs.halving.cases_exclude.Goals as goal

-- what is left after one case
abbrev after : Polynomial → List Case → ℕ → Bool → Posing Bool
after q cases i excluded = if excluded then cases_exclude q (drop (i + 1) cases) else Done false

one_more : (q : Polynomial) (cases : List Case) (i : ℕ) (case : Case) → i < length cases → case ≡ get_or cases i case → cases_exclude q (drop i cases) ≡ case_excludes q case >>= after q cases i
one_more q cases i case lt is = ap (cases_exclude q) (drop_more cases i case lt ∙ ap (λ r. r ∷ drop (i + 1) cases) (sym is))

pub case_excludes-requires : goal.case_excludes-requires
case_excludes-requires g c =
    each-get (IsExcludable c.args.poly.now) c.args.cases.now c.loop-case.case-index c.case-item.result c.requires
    (slice_get_read c.args.cases.now (length c.args.cases.now) c.loop-case.case-index c.case-item.result refl c.loop-case-test.true c.case-item.is)

pub loop-case-init : goal.loop-case-init
loop-case-init g c = leads_none _ _ _ _

pub returns-in_err-case_excludes : goal.returns-in_err-case_excludes
returns-in_err-case_excludes g c =
    all_left c.loop-case.invariant
    (in_other_words (sym (one_more c.args.poly.now c.args.cases.now c.loop-case.case-index c.case-item.result c.loop-case-test.true c.case-item.is))
    (error_first (after c.args.poly.now c.args.cases.now c.loop-case.case-index) c.in_err-case_excludes.ensures refl c.from_residual.ensures.1))

pub returns-then-not-branch : goal.returns-then-not-branch
returns-then-not-branch g c =
    all_left
    (first_left (after c.args.poly.now c.args.cases.now c.loop-case.case-index) c.loop-case.invariant
    (one_more c.args.poly.now c.args.cases.now c.loop-case.case-index c.case-item.result c.loop-case-test.true c.case-item.is) c.in_ok-case_excludes.ensures refl)
    (in_other_words (sym (ap (after c.args.poly.now c.args.cases.now c.loop-case.case-index) c.if-not-branch.true)) (at_end refl))

pub loop-case-preserved : goal.loop-case-preserved
loop-case-preserved g c =
    subst (λ r. Leads g.O.Oracle.asking c.args.oracle.now c.case_excludes.new.oracle c.args.log.now c.case_excludes.new.log (cases_exclude c.args.poly.now c.args.cases.now) r)
    (ap (after c.args.poly.now c.args.cases.now c.loop-case.case-index) c.if-not-branch.false)
    (first_left (after c.args.poly.now c.args.cases.now c.loop-case.case-index) c.loop-case.invariant
    (one_more c.args.poly.now c.args.cases.now c.loop-case.case-index c.case-item.result c.loop-case-test.true c.case-item.is) c.in_ok-case_excludes.ensures refl)
