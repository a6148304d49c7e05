use Rattle.std.proofs.Common.{◌≡◌, drop, length}
use Rattle.newton_rounds.specs.Members.{with_table}
use Rattle.newton_rounds.proofs.tables.with_table.Given as goal

abbrev pub invariant-loop-place : goal.invariant-loop-place
invariant-loop-place l =
    record {
      long : length l.all.items ≡ length l.known;
      made : with_table (drop l.place l.procs) (drop l.place l.table) l.all.items ≡ with_table l.procs l.table l.known;
    }
