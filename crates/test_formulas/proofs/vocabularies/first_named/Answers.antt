use Rattle.recurrence.proofs.NamedVariables.{so-many-named}
use Rattle.test_formulas.proofs.vocabularies.first_named.Goals as goal

pub from_parts-requires : goal.from_parts-requires
from_parts-requires c =
    so-many-named c.args.columns c.args.count c.args.rule c.in_ok-named.named c.new.result c.new-2.result c.if-count-columns.false c.in_ok-named.ensures c.new.ensures c.new-2.ensures
