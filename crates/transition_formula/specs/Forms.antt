-- What a row in normal form, which may be lost, says and leaves.
use Rattle.std.specs.Prelude.{Option, None, Some, Bool, false, not}
use Rattle.linear_terms.specs.declared.row.Row.{Row}
use Rattle.linear_terms.specs.declared.row.Normal.{Normal}
use Rattle.linear_terms.specs.declared.row.Normal.TheVariants.{Constant, Kept}

-- no numbers make it true
abbrev pub never_holds : Option Normal → Bool
never_holds None = false
never_holds (Some (Constant holds)) = not holds
never_holds (Some (Kept row)) = false

-- the row that is left; none where it says nothing
abbrev pub kept_row : Option Normal → Option Row
kept_row None = None
kept_row (Some (Constant holds)) = None
kept_row (Some (Kept row)) = Some row
