use Rattle.std.proofs.Common.{◌≡◌, Ok, sym, ap, ◌∙◌, arith, rules, ◌+◌, drop, to_z, of_z}
use Rattle.std.specs.Int.{w128}
use Rattle.linear_terms.specs.TermError.{times}
use Rattle.linear_terms.specs.Operations.{times_each}
use Rattle.linear_terms.proofs.Steps.{with_front, times_each-next}
use Rattle.linear_terms.proofs.scaling.scaled_terms.Goals as goal

pub loop-mono-preserved : goal.loop-mono-preserved
loop-mono-preserved c =
    let by = to_z w128 (of_z w128 c.args.by) in
    let number = to_z w128 (of_z w128 c.in_ok-number.number) in
    let told : times c.loop-mono-item.result.1 by ≡ Ok number = search rules in
    let next = times_each-next by c.args.terms.now c.loop-mono.made c.loop-mono.mono-index c.loop-mono-item.result number (omega arith) c.loop-mono-item.is told in
    ap (λ made. with_front made (times_each (drop (c.loop-mono.mono-index + 1) c.args.terms.now) by)) c.in_ok-push_kept.ensures ∙ sym next ∙ c.loop-mono.invariant
