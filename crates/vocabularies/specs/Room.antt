-- Terms that are kept as long as there is room for them.
use Rattle.std.specs.Prelude.{List, length, fold, nat_lt, if◌then◌else◌}
use Rattle.linear_terms.specs.Equality.{poly_eq}
use Rattle.linear_terms.specs.Polynomial.{Polynomial}
use Rattle.polyhedra.specs.Directions.{with_new}
use Rattle.vocabularies.specs.Harvest.{most_terms}

-- a term more, where it is new and there is room
abbrev pub with_term : List Polynomial → Polynomial → List Polynomial
with_term terms p = if nat_lt (length terms) most_terms then with_new poly_eq terms p else terms

-- these and then each of others
unfoldable pub with_terms : List Polynomial → List Polynomial → List Polynomial
with_terms terms more = fold with_term terms more
