-- What the calls say of two groups.
use Rattle.std.specs.Prelude.{ℕ, Bool}
use Rattle.newton_rounds.specs.Alike.{AreAlikeGroups}
use Rattle.alike_groups.specs.declared.group.KnownGroup.{KnownGroup}
use Rattle.alike_groups.specs.Tests.{is_alike_callee}

-- nothing in their summaries tells them apart
abbrev pub AreAlike : KnownGroup → KnownGroup → Type 0
AreAlike group other =
    AreAlikeGroups group.program.now other.program.now group.procs.now other.procs.now
    group.known.now other.known.now

-- the test of procedures that members of both call
abbrev pub test_of : KnownGroup → KnownGroup → ℕ → ℕ → Bool
test_of group other =
    is_alike_callee group.procs.now other.procs.now group.known.now other.known.now
