-- Small numbers, and errors that are want of memory alone.
use Rattle.std.specs.Prelude.{ℕ, ℤ, ◌+◌, ◌*◌, ◌^◌, ◌<◌, ◌≤◌, List, [], get_or, unsigned_abs, ⊤}
use Rattle.farkas_check.specs.Relations.{entry}
use Rattle.simplex.specs.declared.stop.SearchStop.{SearchStop}
use Rattle.simplex.specs.declared.stop.SearchStop.TheVariants.{Wide, Memory}
use Rattle.simplex.specs.declared.tableau.Tableau.{Tableau}

-- sizes whose two products together are below 2 ^ 127
abbrev pub HasSquares : ℕ → Type 0
HasSquares n = n * n + n * n < 2 ^ 127

-- each number of a line is at most n in size
abbrev pub IsSmallLine : ℕ → List ℤ → Type 0
IsSmallLine n line = (j : ℕ) → unsigned_abs (entry line j) ≤ n

-- each number of each line is at most n in size
abbrev pub HasSmallLines : ℕ → Tableau → Type 0
HasSmallLines n t = (i j : ℕ) → unsigned_abs (entry (get_or t.lines i []) j) ≤ n

-- the stop is want of memory
abbrev pub IsMemory : SearchStop → Type 0
IsMemory (Wide step) = ⊥
IsMemory Memory = ⊤
