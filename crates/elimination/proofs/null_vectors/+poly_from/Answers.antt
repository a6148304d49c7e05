use Rattle.std.proofs.Common.{rules, ◌+◌, ◌-◌, length, take, drop}
use Rattle.elimination.proofs.NullEquations.{small_tail, small_front, made-rest, made-behind}
use Rattle.elimination.proofs.null_vectors.+poly_from.Goals as goal

pub with_column-requires-clause-rest : goal.with_column-requires-clause-rest
with_column-requires-clause-rest t c =
    made-rest (c.args.place + 1) (take (length c.args.numbers.now - 1) (drop 1 c.args.numbers.now)) c.in_ok-behind-in-len1-up.behind c.in_ok-behind-in-len1-up.ensures
    (small_front (length c.args.numbers.now - 1) (drop 1 c.args.numbers.now) (small_tail c.args.numbers.now c.requires.small))

pub with_column-requires-clause-behind : goal.with_column-requires-clause-behind
with_column-requires-clause-behind t c = search (rules, made-behind, c.in_ok-behind-in-len1-up.ensures)
