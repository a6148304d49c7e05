-- The summaries of a recursive group.
use Rattle.std.specs.Prelude.{ℕ, Bool, true, false, List, [], ◌∷◌, ◌++◌, Option}
use Rattle.linear_terms.specs.declared.row.Row.{Row}
use Rattle.syntax_tree.specs.declared.program.Program.{Program}
use Rattle.transition_formula.specs.Transition.{Transition}
use Rattle.posing.specs.Posing.{Posing, Done, ◌>>=◌, each}
use Rattle.newton_rounds.specs.Pairs.{PairEnds}
use Rattle.newton_rounds.specs.Closure.{bases_of, closure_of, ends_of_members}
use Rattle.newton_rounds.specs.Candidates.{candidate_of, last_round, summaries_by_round}

-- the candidate of each member, by its formula
unfoldable pub with_candidate : List (List Row) → PairEnds × Transition → Posing (List (List Row))
with_candidate made member = candidate_of member.0 member.1 >>= λ rows. Done (made ++ rows ∷ [])

-- the members' ends with their formulas, as far as both lists go
abbrev pub pairs_of : List PairEnds → List Transition → List (PairEnds × Transition)
pairs_of [] table = []
pairs_of (member ∷ members) [] = []
pairs_of (member ∷ members) (f ∷ table) = (member, f) ∷ pairs_of members table

-- where calls of the group may follow one another: two closures, the candidates of the second, and
-- what the last round on these leaves
unfoldable pub closure_by_rounds : Program → List ℕ → List (Option Transition) → List Transition
    → Posing (List Transition)
closure_by_rounds program procs known bases =
    closure_of program procs known bases [] >>= λ first.
    closure_of program procs known bases first >>= λ second.
    each with_candidate [] (pairs_of (ends_of_members program procs) second) >>= λ candidates.
    last_round program procs known candidates >>= λ end.
    Done (summaries_by_round program.rule (ends_of_members program procs) end)

-- what the last round on the candidates of a table leaves
unfoldable pub rounds_over : Program → List ℕ → List (Option Transition) → List Transition
    → Posing (List Transition)
rounds_over program procs known table =
    each with_candidate [] (pairs_of (ends_of_members program procs) table) >>= λ candidates.
    last_round program procs known candidates >>= λ end.
    Done (summaries_by_round program.rule (ends_of_members program procs) end)

-- what the last round on the candidates of a table's closure leaves
unfoldable pub rounds_after : Program → List ℕ → List (Option Transition) → List Transition
    → List Transition → Posing (List Transition)
rounds_after program procs known bases table =
    closure_of program procs known bases table >>= λ second. rounds_over program procs known second

-- the closure of the empty table where the group is linear
abbrev pub closure_from : Bool → Program → List ℕ → List (Option Transition) → List Transition
    → Posing (List Transition)
closure_from true program procs known bases = closure_of program procs known bases []
closure_from false program procs known bases = closure_by_rounds program procs known bases

-- the summaries of a group in the order of its procedures, by whether it is linear
unfoldable pub group_closure : Bool → Program → List ℕ → List (Option Transition)
    → Posing (List Transition)
group_closure linear program procs known =
    bases_of program procs known >>= λ bases. closure_from linear program procs known bases
