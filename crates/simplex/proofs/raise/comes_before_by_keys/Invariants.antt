use Rattle.std.proofs.Common.{◌≡◌, drop}
use Rattle.simplex.specs.Raise.{comes_before}
use Rattle.simplex.proofs.raise.comes_before_by_keys.Given as goal

abbrev pub invariant-loop-c : goal.invariant-loop-c
invariant-loop-c l = comes_before l.constants l.column l.line l.other (drop l.c-index l.keys) ≡ comes_before l.constants l.column l.line l.other l.keys
