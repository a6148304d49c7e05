-- Declarations of a text as plain data. The cases are those of `Item`.
use Rattle.std.specs.Prelude.{ℕ, ℤ, Bool, Option, List, map}
use Rattle.syntax_tree.specs.declared.tree.Item.{Item}
use Rattle.syntax_tree.specs.declared.tree.Item.TheVariants as item
use Rattle.syntax_tree.specs.declared.tree.Param.{Param}
use Rattle.syntax_tree.specs.declared.tree.Tree.{Tree}
use Rattle.syntax_tree.specs.SourceLine.{SourceLines, source_lines_of}

-- a parameter and the place of its name
pub record Parameter : Type 0 where
  pub name : List ℕ
  pub at : ℕ

-- a declaration of a text, with the place of its name: a global, a prototype, or a procedure with
-- the place of its closing brace
pub data SourceItem : Type 0 where
  Global : (name : List ℕ) (at : ℕ) (init : ℤ) → SourceItem
  Proto : (name : List ℕ) (at : ℕ) (returns : Bool) (params : Option ℕ) → SourceItem
  Body : (name : List ℕ) (at : ℕ) (returns : Bool) (params : List Parameter) (lines : SourceLines)
      (end : ℕ) → SourceItem

-- the plain form of a parameter
abbrev pub parameter_of : Param → Parameter
parameter_of param = record { name = param.name; at = param.at }

-- the plain form of a declaration
abbrev pub source_item_of : Item → SourceItem
source_item_of (item.Global name at init) = Global name at init
source_item_of (item.Proto name at returns params) = Proto name at returns params
source_item_of (item.Body name at returns params lines end) =
    Body name at returns (map parameter_of params) (source_lines_of lines) end

-- the plain form of a tree
abbrev pub source_items_of : Tree → List SourceItem
source_items_of tree = map source_item_of tree.items
