use Rattle.test_formulas.proofs.NamedColumns.{two-named}
use Rattle.test_formulas.proofs.vocabularies.two_of_three.Goals as goal

pub from_parts-requires : goal.from_parts-requires
from_parts-requires c = two-named c.in_ok-named.named c.new.result c.new-2.result c.in_ok-named.ensures c.new.ensures c.new-2.ensures
