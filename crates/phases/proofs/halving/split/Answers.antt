use Rattle.std.proofs.Common.{subst, sym, ◌∙◌}
use Rattle.std.specs.List.{AllByRecursion}
use Rattle.phases.specs.Words.{IsOverEntries}
use Rattle.phases.proofs.SplitHalves.{splits-over}
use Rattle.phases.proofs.halving.split.Goals as goal

pub first_halves-requires-clause-tried : goal.first_halves-requires-clause-tried
first_halves-requires-clause-tried g c = subst (AllByRecursion (IsOverEntries c.args.body.now.from)) (sym (c.as_slice.ensures ∙ c.in_ok-tried.ensures)) (splits-over c.args.body.now)
