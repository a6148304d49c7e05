use Rattle.std.proofs.Common.{rules}
use Rattle.simplex.specs.Strata.{IsApartAt}
use Rattle.simplex.proofs.Courses.{apart_line, apart_point}
use Rattle.simplex.proofs.strata.course_after.Goals as goal

pub spot_added-requires-clause-point : goal.spot_added-requires-clause-point
spot_added-requires-clause-point c =
    let apart : IsApartAt c.args.strata.now c.args.numbers.now c.in-Apart.place c.in-Apart.at = search rules in
    apart_point c.args.strata.now c.args.numbers.now c.in-Apart.place c.in-Apart.at apart

pub spot_added-requires-clause-apart : goal.spot_added-requires-clause-apart
spot_added-requires-clause-apart c =
    let apart : IsApartAt c.args.strata.now c.args.numbers.now c.in-Apart.place c.in-Apart.at = search rules in
    apart_line c.args.strata.now c.args.known c.args.numbers.now c.in-Apart.place c.in-Apart.at c.requires.known c.requires.next c.requires.free c.requires.numbers c.requires.relation apart
