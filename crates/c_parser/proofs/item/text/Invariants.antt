use Rattle.std.proofs.Common.{◌≡◌, [], length, map}
use Rattle.c_parser.specs.SourceItem.{source_item_of}
use Rattle.c_parser.specs.Spots.{spots_of}
use Rattle.c_parser.specs.Texts.{text}
use Rattle.c_parser.specs.Limits.{most_binary_operators}
use Rattle.c_parser.proofs.item.text.Given as goal

-- what is still to be read comes to what the function is to give
abbrev pub invariant-text : goal.invariant-text
invariant-text l =
    text most_binary_operators l.levels (map source_item_of l.items, spots_of l.after) ≡ text most_binary_operators l.levels ([], spots_of l.fn.tokens)

abbrev pub decreases-text : goal.decreases-text
decreases-text l = length l.after
