use Rattle.std.proofs.Common.{rules, ◌≡◌, ◌<◌, length}
use Rattle.simplex.specs.Exchange.{choices_of}
use Rattle.simplex.proofs.Courses.{known-same, unchosen}
use Rattle.simplex.proofs.strata.course_of.Goals as goal

pub returns-in-Some-clause-course : goal.returns-in-Some-clause-course
returns-in-Some-clause-course c =
    let here : c.in-Some._line < length c.args.known.spots.tableau.lines = search rules in
    let own : choices_of c.args.known.spots.tableau c.in-Some._line ≡ c.args.known.next = search rules in
    known-same c.args.strata.now c.args.known c.with_next.result c.in-Some._line c.requires.known (search rules) here own c.with_next.ensures.next c.with_next.ensures.start c.with_next.ensures.spots c.with_next.ensures.relations

pub tested_unknown-requires-clause-free : goal.tested_unknown-requires-clause-free
tested_unknown-requires-clause-free c = unchosen c.args.strata.now.count c.args.known.spots c.args.known.next c.line_choosing.result c.requires.known.spots (search rules) c.in-None.is
