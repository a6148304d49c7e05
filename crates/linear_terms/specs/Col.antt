-- The order of columns: entry columns before auxiliaries, each by number.
use Rattle.std.specs.declared.cmp.Ordering.{Ordering}
use Rattle.std.specs.declared.cmp.Ordering.TheVariants.{Less, Greater}
use Rattle.std.specs.Ordering.{nat_cmp}
use Rattle.linear_terms.specs.declared.col.Col.{Col}
use Rattle.linear_terms.specs.declared.col.Col.TheVariants.{At, Aux}

-- the order of two columns, entry columns before auxiliaries and the smaller number first
abbrev pub col_cmp : Col → Col → Ordering
col_cmp (At a) (At b) = nat_cmp a b
col_cmp (At a) (Aux b) = Less
col_cmp (Aux a) (At b) = Greater
col_cmp (Aux a) (Aux b) = nat_cmp a b
