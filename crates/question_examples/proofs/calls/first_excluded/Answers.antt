use Rattle.std.proofs.Common.{◌≡◌, ℕ, ◌+◌, ◌<◌, List, ◌∷◌, length, get_or, drop, Bool, Option, Some, refl, ap, ◌∙◌, sym, subst}
use Rattle.std.specs.Prelude.{if◌then◌else◌}
use Rattle.std.proofs.lemmas.List.{drop_more}
use Rattle.linear_terms.specs.declared.row.Row.{Row}
use Rattle.posing.specs.Follows.{Leads}
use Rattle.posing.specs.Posing.{Posing, Done, ◌>>=◌}
use Rattle.posing.proofs.Following.{leads_none}
use Rattle.posing.proofs.Steps.{first_left, all_left, error_first, in_other_words, at_end}
use Rattle.question_examples.specs.Calls.{exclusion, first_excluded}
use Rattle.question_examples.proofs.calls.first_excluded.Goals as goal

-- what is left after the answer for one list
abbrev after : ℕ → List (List Row) → Bool → Posing (Option ℕ)
after place lists excluded = if excluded then Done (Some place) else first_excluded (place + 1) (drop (place + 1) lists)

one_more : (lists : List (List Row)) (place : ℕ) (rows : List Row) → place < length lists → rows ≡ get_or lists place rows → first_excluded place (drop place lists) ≡ exclusion rows >>= after place lists
one_more lists place rows lt is = ap (first_excluded place) (drop_more lists place rows lt ∙ ap (λ r. r ∷ drop (place + 1) lists) (sym is))

pub loop-place-init : goal.loop-place-init
loop-place-init g c = leads_none _ _ _ _

pub returns-in_err-exclusion : goal.returns-in_err-exclusion
returns-in_err-exclusion g c =
    all_left c.loop-place.invariant
    (in_other_words (sym (one_more c.args.lists.now c.loop-place.place c.index-lists-place.result c.loop-place-test.true c.index-lists-place.is))
    (error_first (after c.loop-place.place c.args.lists.now) c.in_err-exclusion.ensures refl c.from_residual.ensures.1))

pub returns-then-branch : goal.returns-then-branch
returns-then-branch g c =
    all_left
    (first_left (after c.loop-place.place c.args.lists.now) c.loop-place.invariant
    (one_more c.args.lists.now c.loop-place.place c.index-lists-place.result c.loop-place-test.true c.index-lists-place.is) c.in_ok-exclusion.ensures refl)
    (in_other_words (sym (ap (after c.loop-place.place c.args.lists.now) c.if-branch.true)) (at_end refl))

pub loop-place-preserved : goal.loop-place-preserved
loop-place-preserved g c =
    subst (λ r. Leads g.O.Oracle.asking c.args.oracle.now c.exclusion.new.oracle c.args.log.now c.exclusion.new.log (first_excluded 0 c.args.lists.now) r)
    (ap (after c.loop-place.place c.args.lists.now) c.if-branch.false)
    (first_left (after c.loop-place.place c.args.lists.now) c.loop-place.invariant
    (one_more c.args.lists.now c.loop-place.place c.index-lists-place.result c.loop-place-test.true c.index-lists-place.is) c.in_ok-exclusion.ensures refl)
