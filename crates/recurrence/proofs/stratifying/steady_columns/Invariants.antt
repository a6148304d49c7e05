use Rattle.std.proofs.Common.{◌≡◌, ◌++◌, drop}
use Rattle.std.specs.List.{filter}
use Rattle.std.specs.Prelude.{not}
use Rattle.recurrence.specs.Words.{is_among}
use Rattle.recurrence.proofs.stratifying.steady_columns.Given as goal

abbrev pub invariant-loop-v : goal.invariant-loop-v
invariant-loop-v l = l.columns ++ filter (λ v. not (is_among l.modified v)) (drop l.v-index l.occurring) ≡ filter (λ v. not (is_among l.modified v)) l.occurring
