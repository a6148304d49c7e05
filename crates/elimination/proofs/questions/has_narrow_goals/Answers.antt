use Rattle.std.proofs.Common.{rules, ◌≡◌, ◌≤◌, [], length}
use Rattle.elimination.proofs.NarrowCases.{narrow_answer}
use Rattle.elimination.proofs.questions.has_narrow_goals.Goals as goal

pub returns : goal.returns
returns c =
    let some : c.args.goals.now ≡ [] → ⊥ = search rules in
    let few : length c.args.goals.now ≤ 4294967296 = search rules in
    narrow_answer c.args.goals.now c.are_narrow.result some few c.are_narrow.ensures
