use Rattle.std.proofs.Common.{arith, to_z, of_z}
use Rattle.std.specs.Int.{w128}
use Rattle.std.proofs.lemmas.Int.{ints}
use Rattle.linear_terms.proofs.Lookups.{no_zero-insert, no_zero-remove}
use Rattle.linear_terms.proofs.total.Total.store.Goals as goal

pub invariant_of-self : goal.invariant_of-self
invariant_of-self c = record {
  in_print_order = c.remove.ensures.ordered;
  no_zero = rw c.remove.ensures.entries (no_zero-remove c.args.term.0 c.self.inside.terms.entries c.self.invariant.no_zero);
}

pub invariant_of-self-in_ok-insert : goal.invariant_of-self-in_ok-insert
invariant_of-self-in_ok-insert c = record {
  in_print_order = c.insert.ensures.ordered;
  no_zero = rw c.in_ok-insert.ensures.entries (no_zero-insert c.args.term.0 (to_z w128 (of_z w128 c.args.term.1)) c.self.inside.terms.entries (λ e. omega (arith, ints, e, c.if-term-eq0.false)) c.self.invariant.no_zero);
}
