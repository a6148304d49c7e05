use Rattle.std.proofs.Common.{◌+◌}
use Rattle.simplex.specs.Exchange.{numbers_of}
use Rattle.simplex.proofs.next_supremum.searched_case.Given as goal

abbrev pub ghost-corner_search : goal.ghost-corner_search
ghost-corner_search a = record { units = a.constants + 1; rows = a.count; frame = numbers_of a.t }
