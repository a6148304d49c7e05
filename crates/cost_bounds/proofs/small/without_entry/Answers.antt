use Rattle.std.proofs.Common.{◌≤◌, ◌<◌, length, refl, sym, ap, arith}
use Rattle.std.proofs.lemmas.Option.{slice_get_past}
use Rattle.posing.proofs.Steps.{at_end, in_other_words}
use Rattle.cost_bounds.specs.Small.{entry_trial, without_entry}
use Rattle.cost_bounds.proofs.QuestionRows.{entry-there}
use Rattle.cost_bounds.proofs.small.without_entry.Goals as goal

pub returns-then-place-len : goal.returns-then-place-len
unfolding without_entry
returns-then-place-len g c =
    let past : length c.args.kept.entries ≤ c.args.place = omega arith in
    in_other_words (ap (λ o. entry_trial c.args.last.now c.args.kept c.args.place o) (sym (slice_get_past c.args.kept.entries c.args.place past))) (at_end refl)

pub returns : goal.returns
unfolding without_entry
returns g c =
    let there : c.args.place < length c.args.kept.entries = omega arith in
    in_other_words (entry-there c.args.last.now c.args.kept c.args.place there) c.trial_without_entry.ensures
