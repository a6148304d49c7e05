use Rattle.std.proofs.Common.{◌≡◌, ◌++◌, map, drop}
use Rattle.transition_formula.specs.Posts.{case_with_entries}
use Rattle.transition_formula.proofs.posts.cases_with_entries.Given as goal

-- those so far, and then the rest
abbrev pub invariant-loop-case : goal.invariant-loop-case
invariant-loop-case l = l.cases ++ map (case_with_entries l.places) (drop l.case-index l.case-items) ≡ map (case_with_entries l.places) l.f.cases
