use Rattle.std.proofs.Common.{rules, refl}
use Rattle.simplex.proofs.Courses.{known-again}
use Rattle.simplex.proofs.strata.end_of.Goals as goal

pub returns-clause-course : goal.returns-clause-course
returns-clause-course c =
    known-again c.args.strata.now c.args.known (record { next = 0; start = c.len-start.result; relations = c.new.result; spots = c.args.known.spots }) c.requires.known (c.in_ok-is_settled.ensures.more (search rules)) refl (search rules) refl (search rules)
