use Rattle.std.proofs.Common.{◌≡◌, None, Some, map}
use Rattle.std.specs.Prelude.{if◌then◌else◌}
use Rattle.std.specs.List.{range_with_len}
use Rattle.linear_terms.specs.declared.col.Col.TheVariants.{At}
use Rattle.linear_terms.specs.Polynomial.{column_of}
use Rattle.recurrence.specs.Words.{is_among}
use Rattle.recurrence.proofs.solving.stays.Given as goal

abbrev pub invariant-loop-v : goal.invariant-loop-v
invariant-loop-v l = l.known ≡ map (λ v. if is_among l.modified v then None else Some (column_of (At v))) (range_with_len 0 l.v)
