use Rattle.std.proofs.Common.{◌≡◌, ℕ, List, ◌≤◌, ◌<◌, get_or, length, Some, refl, sym, ap, ◌∙◌, arith}
use Rattle.std.specs.Prelude.{slice_get}
use Rattle.std.proofs.lemmas.Option.{slice_get_read, slice_get_past}
use Rattle.linear_terms.specs.Expressions.{negation}
use Rattle.linear_terms.specs.declared.row.Row.{Row}
use Rattle.polyhedra.specs.Thin.{thinning_at, thinned_found, thinning_of}
use Rattle.posing.proofs.Steps.{at_end, in_other_words}
use Rattle.polyhedra.proofs.thinning.thin_at.Goals as goal

at_place : (rows read : List Row) (place : ℕ) (row : Row) → read ≡ rows → place < length read → row ≡ get_or read place row → slice_get rows place ≡ Some row
at_place rows read place row same lt is = ap (λ xs. slice_get xs place) (sym same) ∙ slice_get_read read (length read) place row refl lt is

pub returns-then-place-len : goal.returns-then-place-len
unfolding thinning_at
returns-then-place-len g c =
    let past : length c.args.rows ≤ c.args.place = omega arith in
    in_other_words (ap (λ o. thinned_found o c.args.place c.args.rows) (sym (slice_get_past c.args.rows c.args.place past))) (at_end refl)

pub returns-in-Equal : goal.returns-in-Equal
unfolding thinning_at
returns-in-Equal g c =
    let len = ap length c.deref.ensures in
    let row = c.index-deref-place.result in
    let there = at_place c.args.rows c.deref.result.now c.args.place row c.deref.ensures (omega arith) c.index-deref-place.is in
    in_other_words (ap (λ k. thinning_of k row.poly c.args.place c.args.rows) (sym c.in-Equal.is) ∙ ap (λ o. thinned_found o c.args.place c.args.rows) (sym there)) (at_end refl)

pub returns-in-AtMost : goal.returns-in-AtMost
unfolding thinning_at
returns-in-AtMost g c =
    let len = ap length c.deref.ensures in
    let row = c.index-deref-place.result in
    let there = at_place c.args.rows c.deref.result.now c.args.place row c.deref.ensures (omega arith) c.index-deref-place.is in
    in_other_words (ap (λ k. thinning_of k row.poly c.args.place c.args.rows) (sym c.in-AtMost.is) ∙ ap (λ o. thinned_found o c.args.place c.args.rows) (sym there))
    (c.thin_by.ensures (negation row.poly) c.negation-negation.ensures.exact)
