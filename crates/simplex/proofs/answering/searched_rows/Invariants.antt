use Rattle.std.proofs.Common.{◌+◌}
use Rattle.simplex.specs.Exchange.{numbers_of}
use Rattle.simplex.proofs.answering.searched_rows.Given as goal

abbrev pub ghost-search_answer : goal.ghost-search_answer
ghost-search_answer a = record { units = a.constants + 1; rows = a.count; frame = numbers_of a.t }
