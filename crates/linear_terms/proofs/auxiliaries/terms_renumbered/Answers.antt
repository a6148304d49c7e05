use Rattle.linear_terms.proofs.Numbering.{has_item}
use Rattle.linear_terms.proofs.auxiliaries.terms_renumbered.Goals as goal

pub with_numbers-requires-clause-order : goal.with_numbers-requires-clause-order
with_numbers-requires-clause-order c m n h k lt =
    let item = c.loop-mono-item.result in
    c.requires.order m n (has_item c.args.terms.now c.loop-mono.mono-index m item item c.loop-mono-test.true c.loop-mono-item.is h) (has_item c.args.terms.now c.loop-mono.mono-index n item item c.loop-mono-test.true c.loop-mono-item.is k) lt
