use Rattle.elimination.proofs.Magnitudes.{clearing}
use Rattle.elimination.proofs.vectors.cleared_row.Goals as goal

pub returns : goal.returns
returns c =
    clearing c.args.row.now c.number_in-x.result c.number_in-y.result c.number_in-z.result c.cleared_number.result c.cleared_number-2.result c.cleared_number-3.result
    c.requires.few c.number_in-x.ensures c.number_in-y.ensures c.number_in-z.ensures c.cleared_number.ensures.value c.cleared_number-2.ensures.value c.cleared_number-3.ensures.value
    c.cleared_number.ensures.small c.cleared_number-2.ensures.small c.cleared_number-3.ensures.small c.cleared_number-2.ensures.first c.cleared_number.ensures.first c.cleared_number.ensures.second
