use Rattle.std.proofs.Common.{◌≡◌, ◌++◌, drop}
use Rattle.report.specs.Text.{exit_name, post_lines}
use Rattle.report.proofs.text.ReportText.put_exits.Given as goal

abbrev pub invariant-loop-i : goal.invariant-loop-i
invariant-loop-i l =
    l.self ++ post_lines l.names (exit_name l.after) l.i (drop l.i l.posts)
    ≡ l.fn.self ++ post_lines l.names (exit_name l.after) 0 l.posts
