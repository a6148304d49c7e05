use Rattle.std.proofs.Common.{◌≡◌, ◌++◌, codes, drop, map}
use Rattle.report.proofs.names.with_exit_names.Given as goal

abbrev pub invariant-loop-name : goal.invariant-loop-name
invariant-loop-name l =
    l.all ++ map (λ name. name ++ codes "'") (drop l.name-index l.after) ≡ l.fn.names ++ map (λ name. name ++ codes "'") l.after
