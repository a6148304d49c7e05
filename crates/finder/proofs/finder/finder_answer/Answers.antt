use Rattle.finder.proofs.CalmQuestions.{found_elsewhere}
use Rattle.finder.proofs.finder.finder_answer.Goals as goal

pub returns-in_default : goal.returns-in_default
returns-in_default c =
    let e = c.in_ok-found.ensures in
    found_elsewhere c.args.question.now c.in_ok-found.found c.in_default.not-Stratum (record { passes = e.passes; tight = e.tight; live = e.calm; calm = e.wide; pivots = e.pivots })
