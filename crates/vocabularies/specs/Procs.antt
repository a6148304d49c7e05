-- The procedures of a program by their numbers.
use Rattle.std.specs.Prelude.{◌≡◌, ℕ, Some}
use Rattle.std.specs.List.{slice_get}
use Rattle.syntax_tree.specs.declared.program.Proc.{Proc}
use Rattle.syntax_tree.specs.declared.program.Program.{Program}

-- the procedure of that number
abbrev pub IsProcOf : Program → ℕ → Proc → Type 0
IsProcOf program number p = slice_get program.procs number ≡ Some p
