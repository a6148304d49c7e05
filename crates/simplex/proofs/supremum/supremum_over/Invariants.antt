use Rattle.std.proofs.Common.{◌+◌}
use Rattle.simplex.specs.Exchange.{numbers_of}
use Rattle.simplex.proofs.supremum.supremum_over.Given as goal

abbrev pub ghost-raised_supremum : goal.ghost-raised_supremum
ghost-raised_supremum a = record {
  over = record { units = a.constants + 1; rows = a.count; frame = numbers_of a.t };
  kinds = a.kinds.now;
}
