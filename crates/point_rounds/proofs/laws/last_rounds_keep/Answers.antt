use Rattle.point_rows.proofs.RowMeanings.{contraries_decide, given_rows-hold}
use Rattle.point_rounds.proofs.RoundsKept.{last_round-kept}
use Rattle.point_rounds.proofs.laws.last_rounds_keep.Goals as goal

pub returns : goal.returns
returns c = λ program known states table formed shape. last_round-kept contraries_decide given_rows-hold program known states formed table shape
