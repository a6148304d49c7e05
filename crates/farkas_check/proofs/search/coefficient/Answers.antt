use Rattle.std.proofs.Common.{◌≡◌, true, rules}
use Rattle.std.specs.Ordering.{eq_by_cmp}
use Rattle.linear_terms.specs.Mono.{mono_cmp}
use Rattle.farkas_check.proofs.OrderedTerms.{coefficient_own}
use Rattle.farkas_check.proofs.search.coefficient.Goals as goal

pub returns-then-eq : goal.returns-then-eq
returns-then-eq c =
    let tie : eq_by_cmp mono_cmp c.index-terms-place.result.0 c.args.mono.now ≡ true = search rules in
    let own = coefficient_own c.args.terms.now c.args.mono.now c.first_behind-place.result c.index-terms-place.result c.requires c.first_behind-place.ensures c.if-place-eq0.false c.index-terms-place.is tie in
    search (rules, own)
