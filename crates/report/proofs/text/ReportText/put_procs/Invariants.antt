use Rattle.std.proofs.Common.{◌≡◌, ◌++◌, drop}
use Rattle.std.specs.List.{flat_map}
use Rattle.report.specs.Text.{proc_text}
use Rattle.report.proofs.text.ReportText.put_procs.Given as goal

abbrev pub invariant-loop-block : goal.invariant-loop-block
invariant-loop-block l =
    l.self ++ flat_map (proc_text l.blocks) (drop l.block-index l.blocks)
    ≡ l.fn.self ++ flat_map (proc_text l.blocks) l.blocks
