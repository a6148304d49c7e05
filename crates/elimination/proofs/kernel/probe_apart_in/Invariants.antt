use Rattle.std.proofs.Common.{◌≡◌, ℕ, ◌<◌, length, pos}
use Rattle.elimination.specs.Stages.{chosen_value}
use Rattle.elimination.proofs.kernel.probe_apart_in.Given as goal

abbrev pub invariant-loop-place : goal.invariant-loop-place
invariant-loop-place l =
    (k : ℕ) → k < l.place → chosen_value l.columns l.cases l.lower l.chosen l.numbers (record { case = l.case; place = k }) (length l.chosen) ≡ pos 0
