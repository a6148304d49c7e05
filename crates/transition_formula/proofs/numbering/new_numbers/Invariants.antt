use Rattle.std.proofs.Common.{◌≡◌, map}
use Rattle.std.specs.List.{range_with_len}
use Rattle.transition_formula.specs.Renumbering.{new_number}
use Rattle.transition_formula.proofs.numbering.new_numbers.Given as goal

abbrev pub invariant-loop-number : goal.invariant-loop-number
invariant-loop-number l =
    record {
      made : l.numbers ≡ map (new_number l.case) (range_with_len 0 l.number);
      count : l.count ≡ new_number l.case l.number;
    }
