use Rattle.std.proofs.Common.{◌≡◌, ℕ, ◌+◌, ◌-◌, ◌≤◌, ℤ, List, Some, true, false, length}
use Rattle.std.specs.Prelude.{slice_get}
use Rattle.linear_terms.specs.declared.col.Col.{Col}
use Rattle.farkas_check.specs.Walk.{is_after}
use Rattle.farkas_check.proofs.search.first_behind.Given as goal

abbrev pub invariant-loop-low : goal.invariant-loop-low
invariant-loop-low l =
    record {
      order : l.low ≤ l.high;
      within : l.high ≤ length l.terms;
      behind : (t : List Col × ℤ) → slice_get l.terms l.high ≡ Some t → is_after l.last t.0 ≡ true;
      before : (p : ℕ) (t : List Col × ℤ) → l.low ≡ p + 1 → slice_get l.terms p ≡ Some t → is_after l.last t.0 ≡ false;
    }

abbrev pub decreases-loop-low : goal.decreases-loop-low
decreases-loop-low l = l.high - l.low
