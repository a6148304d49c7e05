use Rattle.std.proofs.Common.{take, false}
use Rattle.std.specs.List.{flat_map}
use Rattle.std.specs.Fmt.{HasWritten, IsPlainFormatter}
use Rattle.linear_terms.specs.Texts.{plain_name, term_text}
use Rattle.linear_terms.proofs.text.TermsDisplay.fmt.Given as goal

-- the terms so far
abbrev pub invariant-loop-mono : goal.invariant-loop-mono
invariant-loop-mono g l =
    IsPlainFormatter l.initial.f → HasWritten g.W.Write.write_str_gives l.initial.f (flat_map (term_text plain_name false) (take l.mono-index l.mono-items)) l.f
