-- What is left of answers that are handed out.
use Rattle.std.proofs.Common.{◌≡◌, ℕ, ◌+◌, ◌-◌, ◌<◌, ◌≤◌, List, [], ◌∷◌, length, drop, map, ap, ◌∙◌}
use Rattle.std.specs.Prelude.{Option, None, Some}
use Rattle.std.proofs.lemmas.List.{drop_more, length-drop, length-map}
use Rattle.std.proofs.Math.ListN.{drop_of_length-le}
use Rattle.farkas_check.specs.declared.answer.Answer.{Answer}
use Rattle.farkas_check.specs.declared.answer.Answer.TheVariants.{Limit}
use Rattle.farkas_check.specs.declared.answer.Limit.TheVariants.{Pivots}
use Rattle.wire.specs.Replays.{answer_at, count_of, answers_left, next_of}

pub left_from-next : (answers : List Answer) (places : Option (List ℕ)) (taken : ℕ) → taken < count_of answers places
    → answers_left answers places taken ≡ next_of answers places taken ∷ answers_left answers places (taken + 1)
left_from-next answers None taken lt = drop_more answers taken (Limit Pivots) lt
left_from-next answers (Some places) taken lt = ap (map (answer_at answers)) (drop_more places taken 0 lt)

pub left_from-past : (answers : List Answer) (places : Option (List ℕ)) (taken : ℕ) → count_of answers places ≤ taken → answers_left answers places taken ≡ []
left_from-past answers None taken le = drop_of_length-le answers le
left_from-past answers (Some places) taken le = ap (map (answer_at answers)) (drop_of_length-le places le)

pub length-left_from : (answers : List Answer) (places : Option (List ℕ)) (taken : ℕ) → length (answers_left answers places taken) ≡ count_of answers places - taken
length-left_from answers None taken = length-drop taken answers
length-left_from answers (Some places) taken = length-map (drop taken places) (answer_at answers) ∙ length-drop taken places

pub ruleset replays = (left_from-next, left_from-past, length-left_from)
