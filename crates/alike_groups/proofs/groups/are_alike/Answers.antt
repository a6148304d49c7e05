use Rattle.std.proofs.lemmas.Bool.Decides.{Decides-at}
use Rattle.alike_groups.specs.Groups.{test_of}
use Rattle.alike_groups.specs.Tests.{are_alike_groups}
use Rattle.alike_groups.proofs.TestTruth.{groups-decided}
use Rattle.alike_groups.proofs.groups.are_alike.Goals as goal

pub returns : goal.returns
returns c =
    let group = c.args.group.now in
    let other = c.args.other.now in
    Decides-at c.are_alike_groups.result
    (are_alike_groups (test_of group other) group.program.now other.program.now group.procs.now other.procs.now group.known.now other.known.now)
    c.are_alike_groups.ensures
    (groups-decided group.program.now other.program.now group.procs.now other.procs.now group.known.now other.known.now)
