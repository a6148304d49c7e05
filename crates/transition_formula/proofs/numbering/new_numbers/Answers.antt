use Rattle.std.proofs.Common.{◌≡◌, ◌+◌, cond, map, sym, ap, ◌∙◌, arith}
use Rattle.std.specs.List.{range_with_len}
use Rattle.transition_formula.specs.Renumbering.{occurs_in, new_number}
use Rattle.transition_formula.proofs.Numbers.{count_below-most, count_below-next}
use Rattle.transition_formula.proofs.Ranges.{counted_more}
use Rattle.transition_formula.proofs.numbering.new_numbers.Goals as goal

pub count_with-count-requires : goal.count_with-count-requires
count_with-count-requires c = omega (arith, count_below-most (occurs_in c.args.case.now) c.loop-number.number, c.loop-number.invariant.count)

pub loop-number-preserved : goal.loop-number-preserved
loop-number-preserved c =
    let case = c.args.case.now in
    let n = c.loop-number.number in
    record {
      made = counted_more (new_number case) 0 n n c.loop-number.numbers c.push.new.self c.loop-number.count (omega arith) c.loop-number.invariant.made c.loop-number.invariant.count c.in_ok-push.ensures.ok;
      count =
          c.count_with-count.ensures
          ∙ (λ i. cond (c.occurs_in.ensures i) (c.loop-number.invariant.count i + 1) (c.loop-number.invariant.count i))
          ∙ sym (count_below-next (occurs_in case) n);
    }

pub returns : goal.returns
returns c =
    let case = c.args.case.now in
    let n = c.loop-number.number in
    let end : n ≡ case.aux = omega arith in
    counted_more (new_number case) 0 n n c.loop-number.numbers c.push-2.new.self c.loop-number.count (omega arith) c.loop-number.invariant.made c.loop-number.invariant.count c.in_ok-push-2.ensures.ok
    ∙ ap (λ k. map (new_number case) (range_with_len 0 (k + 1))) end
