use Rattle.std.proofs.Common.{◌≡◌, ◌≤◌, length, map}
use Rattle.c_parser.specs.SourceItem.{source_item_of}
use Rattle.c_parser.specs.Spots.{spots_of}
use Rattle.c_parser.specs.Texts.{shared_list}
use Rattle.c_parser.proofs.item.shared_list.Given as goal

-- what is still to be read comes to what the function is to give
abbrev pub invariant-more : goal.invariant-more
invariant-more l = record {
  stated : shared_list (map source_item_of l.items, spots_of l.after) ≡ shared_list (map source_item_of l.fn.first, spots_of l.fn.tokens);
  within : length l.after ≤ length l.fn.tokens;
}

abbrev pub decreases-more : goal.decreases-more
decreases-more l = length l.after
