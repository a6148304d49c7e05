use Rattle.std.proofs.Common.{◌≡◌, drop}
use Rattle.std.specs.List.{flat_map}
use Rattle.linear_terms.specs.declared.row.Case.{Case}
use Rattle.phases.specs.Splits.{splits_of}
use Rattle.phases.specs.Words.{with_splits}
use Rattle.phases.proofs.splitting.add_all.Given as goal

abbrev pub invariant-loop-case : goal.invariant-loop-case
invariant-loop-case l = with_splits l.made (flat_map (λ (case : Case). flat_map (splits_of l.from) case.rows) (drop l.case-index l.cases)) ≡ with_splits l.initial.made (flat_map (λ (case : Case). flat_map (splits_of l.from) case.rows) l.cases)
