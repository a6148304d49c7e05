use Rattle.std.proofs.Common.{◌≡◌, Ok, arith}
use Rattle.std.specs.Int.{w128}
use Rattle.std.proofs.lemmas.Int.{ints, to_z-of_z}
use Rattle.linear_terms.specs.Operations.{multiple_of}
use Rattle.elimination.proofs.NullEquations.{column_answer}
use Rattle.elimination.proofs.null_vectors.with_column.Goals as goal

pub returns : goal.returns
returns c =
    let made : multiple_of c.in_ok-column.column c.args.number.now ≡ Ok c.in_ok-term.term = rw (to_z-of_z w128 c.args.number.now (omega (arith, ints, c.requires.small))) at c.in_ok-term.ensures.exact in
    column_answer c.args.place c.args.number.now c.args.behind.now c.in_ok-column.column c.in_ok-term.term c.add.result c.in_ok-column.ensures made c.requires.small c.requires.rest c.requires.behind c.add.ensures.exact
