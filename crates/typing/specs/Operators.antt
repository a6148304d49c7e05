-- How many operators the expressions of a text may have.
use Rattle.std.specs.Prelude.{◌+◌, Bool, List}
use Rattle.syntax_tree.specs.declared.tree.Item.{Item}
use Rattle.syntax_tree.specs.Limits.{most_operators}
use Rattle.syntax_tree.specs.SourceOperators.{items_have_fewer}

-- each whole expression of a text has at most so many operators as one of the core may have
abbrev pub items_have_few : List Item → Bool
items_have_few items = items_have_fewer (most_operators + 1) items
