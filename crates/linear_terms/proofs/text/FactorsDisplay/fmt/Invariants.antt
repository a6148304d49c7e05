use Rattle.std.proofs.Common.{◌++◌, codes, take}
use Rattle.std.specs.List.{flat_map}
use Rattle.std.specs.Fmt.{HasWritten, IsPlainFormatter}
use Rattle.linear_terms.specs.Texts.{plain_name}
use Rattle.linear_terms.proofs.text.FactorsDisplay.fmt.Given as goal

-- the columns so far, each behind its mark
abbrev pub invariant-loop-col : goal.invariant-loop-col
invariant-loop-col g l =
    IsPlainFormatter l.initial.f → HasWritten g.W.Write.write_str_gives l.initial.f (flat_map (λ d. codes "*" ++ plain_name d) (take l.col-index l.col-items)) l.f
