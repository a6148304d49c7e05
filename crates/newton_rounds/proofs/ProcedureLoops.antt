-- Loops over the procedures of a group.
use Rattle.std.proofs.Common.{◌≡◌, ℕ, ◌+◌, ◌<◌, List, ◌∷◌, ◌++◌, length, drop, get_or, ap, ◌∙◌}
use Rattle.std.specs.Prelude.{Some, option_to_list}
use Rattle.std.specs.List.{slice_get}
use Rattle.std.proofs.lemmas.List.{drop_more}
use Rattle.syntax_tree.specs.declared.program.Proc.{Proc}
use Rattle.syntax_tree.specs.declared.program.Program.{Program}
use Rattle.newton_rounds.specs.Members.{members_of}

-- a procedure of the group, and then the others
pub members-next : (program : Program) (procs : List ℕ) (i d : ℕ) (p : Proc) → i < length procs → slice_get program.procs (get_or procs i d) ≡ Some p
    → members_of program (drop i procs) ≡ p ∷ members_of program (drop (i + 1) procs)
members-next program procs i d p lt there =
    ap (members_of program) (drop_more procs i d lt) ∙ (λ j. option_to_list (there j) ++ members_of program (drop (i + 1) procs))
