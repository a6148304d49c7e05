-- How many groups were summed up and how many there are, and how many verdicts.
use Rattle.std.specs.Prelude.{ℕ, ◌-◌, length}
use Rattle.report.specs.declared.blocks.Report.{Report}
use Rattle.report.specs.Text.{proved_count}
use Rattle.summary_cache.specs.declared.working.Counts.{Counts}

-- how many groups were summed up and how many there are, and how many verdicts of a report are
-- proved and are not
abbrev pub counts_of : (work groups : ℕ) → Report → Counts
counts_of work groups report =
    record {
      work = work;
      groups = groups;
      proved = proved_count report.judged;
      unproved = length report.judged - proved_count report.judged;
    }
