use Rattle.std.proofs.Common.{◌≡◌, ℕ, ◌+◌, ◌<◌, List, ◌∷◌, length, get_or, drop, true, false, Option, Some, None, refl, ap, ◌∙◌, sym, subst}
use Rattle.std.specs.Option.{is_some}
use Rattle.std.proofs.lemmas.List.{drop_more}
use Rattle.linear_terms.specs.Polynomial.{Polynomial}
use Rattle.transition_formula.specs.Transition.{Transition}
use Rattle.posing.specs.Follows.{Leads}
use Rattle.posing.specs.Posing.{Posing, Done, ◌>>=◌}
use Rattle.posing.proofs.Following.{leads_none}
use Rattle.posing.proofs.Steps.{first_left, all_left, error_first, in_other_words, at_end}
use Rattle.phases.specs.declared.halving.Halves.{Halves}
use Rattle.phases.specs.Phases.{first_halves, halves_at, or_next}
use Rattle.phases.proofs.halving.first_halves.Goals as goal

-- what is left after one split
abbrev after : Transition → List Polynomial → ℕ → Option Halves → Posing (Option Halves)
after body ps i found = or_next found (first_halves body (drop (i + 1) ps))

one_more : (body : Transition) (ps : List Polynomial) (i : ℕ) (p : Polynomial) → i < length ps → p ≡ get_or ps i p → first_halves body (drop i ps) ≡ halves_at body p >>= after body ps i
one_more body ps i p lt is = ap (first_halves body) (drop_more ps i p lt ∙ ap (λ r. r ∷ drop (i + 1) ps) (sym is))

found-ends : (found : Option Halves) (rest : Posing (Option Halves)) → is_some found ≡ true → Done found ≡ or_next found rest
found-ends None rest e = cc
found-ends (Some h) rest e = refl

none-goes_on : (found : Option Halves) (rest : Posing (Option Halves)) → is_some found ≡ false → or_next found rest ≡ rest
none-goes_on None rest e = refl
none-goes_on (Some h) rest e = cc

pub loop-poly-init : goal.loop-poly-init
loop-poly-init g c = leads_none _ _ _ _

pub returns-in_err-found : goal.returns-in_err-found
returns-in_err-found g c =
    all_left c.loop-poly.invariant
    (in_other_words (sym (one_more c.args.body.now c.args.tried.now c.loop-poly.poly-index c.poly-item.result c.loop-poly-test.true c.poly-item.is))
    (error_first (after c.args.body.now c.args.tried.now c.loop-poly.poly-index) c.in_err-found.ensures refl c.from_residual.ensures.1))

pub returns-then-is_some : goal.returns-then-is_some
returns-then-is_some g c =
    all_left
    (first_left (after c.args.body.now c.args.tried.now c.loop-poly.poly-index) c.loop-poly.invariant
    (one_more c.args.body.now c.args.tried.now c.loop-poly.poly-index c.poly-item.result c.loop-poly-test.true c.poly-item.is) c.in_ok-found.ensures refl)
    (in_other_words (found-ends c.in_ok-found.found (first_halves c.args.body.now (drop (c.loop-poly.poly-index + 1) c.args.tried.now)) (sym c.is_some.ensures ∙ c.if-is_some.true)) (at_end refl))

pub loop-poly-preserved : goal.loop-poly-preserved
loop-poly-preserved g c =
    subst (λ r. Leads g.O.Oracle.asking c.args.oracle.now c.halves_at.new.oracle c.args.log.now c.halves_at.new.log (first_halves c.args.body.now c.args.tried.now) r)
    (none-goes_on c.in_ok-found.found (first_halves c.args.body.now (drop (c.loop-poly.poly-index + 1) c.args.tried.now)) (sym c.is_some.ensures ∙ c.if-is_some.false))
    (first_left (after c.args.body.now c.args.tried.now c.loop-poly.poly-index) c.loop-poly.invariant
    (one_more c.args.body.now c.args.tried.now c.loop-poly.poly-index c.poly-item.result c.loop-poly-test.true c.poly-item.is) c.in_ok-found.ensures refl)
