use Rattle.std.proofs.Common.{rules, ◌≡◌, ◌∙◌, ap}
use Rattle.std.specs.Int.{w128}
use Rattle.std.proofs.lemmas.Int.{to_z-of_z}
use Rattle.farkas_check.specs.Ratios.{lowest_terms}
use Rattle.elimination.specs.Moves.{moved_number}
use Rattle.elimination.proofs.around.moved_ratio.Goals as goal

pub returns : goal.returns
returns c =
    let made : c.lowest.result ≡ lowest_terms c.moved_number.result c.four_times.result = rw (to_z-of_z w128 c.moved_number.result (search rules), to_z-of_z w128 c.four_times.result (search rules)) at c.lowest.ensures in
    made ∙ ap (λ z. lowest_terms z c.four_times.result) c.moved_number.ensures ∙ ap (λ z. lowest_terms (moved_number c.args.place c.args.j c.args.number.now) z) c.four_times.ensures
