use Rattle.std.proofs.Common.{◌≡◌, ◌≤◌, length, map}
use Rattle.c_parser.specs.SourceItem.{parameter_of}
use Rattle.c_parser.specs.Spots.{spots_of}
use Rattle.c_parser.specs.Texts.{more_slots}
use Rattle.c_parser.proofs.item.more_slots.Given as goal

-- what is still to be read comes to what the function is to give
abbrev pub invariant-more : goal.invariant-more
invariant-more l = record {
  stated : more_slots (record { count = l.slots.count; named = map parameter_of l.slots.named; rest = spots_of l.slots.rest.now })
      ≡ more_slots (record { count = l.fn.first.count; named = map parameter_of l.fn.first.named; rest = spots_of l.fn.first.rest.now });
  within : length l.slots.rest.now ≤ length l.fn.first.rest.now;
}

abbrev pub decreases-more : goal.decreases-more
decreases-more l = length l.slots.rest.now
