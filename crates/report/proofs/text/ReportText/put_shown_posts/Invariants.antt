use Rattle.std.proofs.Common.{◌≡◌, ◌++◌, [], drop}
use Rattle.report.specs.Text.{post_lines, shown_name_at}
use Rattle.report.proofs.text.ReportText.put_shown_posts.Given as goal

abbrev pub invariant-loop-i : goal.invariant-loop-i
invariant-loop-i l =
    l.self ++ post_lines [] (shown_name_at l.named l.shown) l.i (drop l.i l.posts)
    ≡ l.fn.self ++ post_lines [] (shown_name_at l.named l.shown) 0 l.posts
