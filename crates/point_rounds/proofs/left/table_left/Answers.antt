use Rattle.std.proofs.Common.{◌≡◌, sym, subst, arith}
use Rattle.point_rounds.specs.Rounds.{table_left}
use Rattle.point_rounds.specs.Table.{IsTable}
use Rattle.point_rounds.proofs.TablesLeft.{table-left}
use Rattle.point_rounds.proofs.left.table_left.Goals as goal

pub points_left-requires-clause-few : goal.points_left-requires-clause-few
points_left-requires-clause-few c = let all = c.requires.table.procs in let few = c.requires.source.formed.procedures in omega (arith, all, few)

pub exits_left-requires : goal.exits_left-requires
exits_left-requires c = let all = c.requires.table.exits in let few = c.requires.source.formed.procedures in omega (arith, all, few)

pub returns-clause-shape : goal.returns-clause-shape
returns-clause-shape c =
    let program = c.args.source.program.now in
    let fell = c.args.fallen.now in
    let same : record { points = c.in_ok-points.points; exits = c.in_ok-exits.exits } ≡ table_left program fell c.args.table = λ i. record { points = c.in_ok-points.ensures i; exits = c.in_ok-exits.ensures i } in
    subst (IsTable program) (sym same) (table-left fell program c.args.table c.requires.table)
