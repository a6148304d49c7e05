use Rattle.std.proofs.Common.{◌≡◌, ◌++◌, map, drop}
use Rattle.typing.specs.Texts.{param_column}
use Rattle.typing.proofs.columns.body_columns.Given as goal

abbrev pub invariant-loop-param : goal.invariant-loop-param
invariant-loop-param l = l.columns ++ map param_column (drop l.param-index l.params) ≡ map param_column l.params
