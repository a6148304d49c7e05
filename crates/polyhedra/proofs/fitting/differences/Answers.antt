use Rattle.std.proofs.Common.{◌≡◌, List, Bool, true, false, None, map, length, All, refl, sym, ap, subst, ◌∙◌}
use Rattle.std.specs.List.{range_with_len}
use Rattle.std.proofs.lemmas.List.FromFn.{length-map-range_with_len}
use Rattle.linear_terms.specs.declared.row.Row.{Row}
use Rattle.transition_formula.specs.Transition.{Transition}
use Rattle.posing.specs.Posing.{Done, each}
use Rattle.posing.proofs.Following.{stops}
use Rattle.posing.proofs.Steps.{at_end, in_other_words}
use Rattle.polyhedra.specs.Bounds.{IsCovered, bounded_change}
use Rattle.polyhedra.specs.Changes.{modified_variables}
use Rattle.polyhedra.specs.Squash.{change_after, changes_after, with_differences}
use Rattle.polyhedra.specs.Vocabulary.{Vocabulary}
use Rattle.polyhedra.proofs.Coverage.{directions-covered}
use Rattle.polyhedra.proofs.fitting.differences.Goals as goal

none_asked : (b : Bool) (f : Transition) (voc : Vocabulary) (rows : List Row) → b ≡ false → Done rows ≡ with_differences b f voc rows
none_asked true f voc rows e = cc
none_asked false f voc rows e = refl

is_one : (b : Bool) → b ≡ true → b ≡ true
is_one b e = e

pub returns-then-not-fitting : goal.returns-then-not-fitting
returns-then-not-fitting g c = in_other_words (none_asked c.args.fitting.one c.args.fitting.f.now c.args.fitting.from.now c.args.rows c.if-not-fitting.true) (at_end refl)

pub returns-in_err-moves : goal.returns-in_err-moves
returns-in_err-moves g c = stops _ _ _ _ _ _ refl c.from_residual.ensures.1

pub bounds_on_changes-requires-clause-columns : goal.bounds_on_changes-requires-clause-columns
bounds_on_changes-requires-clause-columns g c =
    let e = is_one c.args.fitting.one c.if-not-fitting.false in
    let f = c.args.fitting.f.now in
    subst (All (IsCovered f.to)) (sym c.requires.entry)
    (directions-covered c.args.fitting.from.now c.requires.valid f.from c.requires.columns f.to (sym (c.requires.ends e)))

pub bounds_on_changes-requires-clause-rows : goal.bounds_on_changes-requires-clause-rows
bounds_on_changes-requires-clause-rows g c =
    let e = is_one c.args.fitting.one c.if-not-fitting.false in
    let long = ap length (c.as_slice.ensures ∙ c.in_ok-moves.ensures) ∙ length-map-range_with_len (change_after true c.args.modified.now) 0 c.to.result in
    subst (All (IsCovered (length c.as_slice.result.now))) (sym c.requires.entry)
    (directions-covered c.args.fitting.from.now c.requires.valid c.args.fitting.f.now.from c.requires.columns (length c.as_slice.result.now) (long ∙ c.to.ensures ∙ sym (c.requires.ends e)))

pub returns : goal.returns
returns g c =
    let f = c.args.fitting.f.now in
    let e = is_one c.args.fitting.one c.if-not-fitting.false in
    let same = c.requires.modified ∙ ap (λ b. modified_variables b f) e in
    let moves : c.as_slice.result.now ≡ changes_after true f = c.as_slice.ensures ∙ c.in_ok-moves.ensures ∙ (λ i. map (change_after true (same i)) (range_with_len 0 (c.to.ensures i))) in
    in_other_words
    ((λ i. each (bounded_change f.cases (moves i) None) c.args.rows (c.requires.entry i)) ∙ ap (λ b. with_differences b f c.args.fitting.from.now c.args.rows) (sym e))
    c.bounds_on_changes.ensures
