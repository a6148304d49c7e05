-- The summaries of a group are met.
use Rattle.std.proofs.Common.{◌<◌, Bool, true, false, List, [], length, refl}
use Rattle.std.specs.List.{AllZip}
use Rattle.std.specs.Prelude.{IsTrue}
use Rattle.std.proofs.lemmas.List.Elements.{recursion_from_All}
use Rattle.transition_formula.specs.Transition.{Transition}
use Rattle.posing.specs.Posing.{AlwaysPassing, IsPassing}
use Rattle.newton_rounds.specs.Claims.{AreMetMembers}
use Rattle.newton_rounds.specs.Close.{closure_from, group_closure}
use Rattle.newton_rounds.specs.Closure.{bases_of, closure_of}
use Rattle.newton_rounds.specs.Laws.{SummariesAreMet}
use Rattle.newton_rounds.specs.Members.{IsLinear, members_of, with_table}
use Rattle.newton_rounds.proofs.BasesMet.{IsBase}
use Rattle.newton_rounds.proofs.LinearMet.{bases-met, closure-met}
use Rattle.posing.proofs.UnderAnswers.{passing-always, under-bind}
use Rattle.newton_rounds.proofs.RoundsMet.{closed_by_rounds-met}

pub summaries-met : SummariesAreMet
unfolding group_closure
summaries-met program procs known linear formed within few are met knows tells =
    under-bind IsPassing (AllZip (IsBase program (with_table procs [] known)) (members_of program procs)) (AreMetMembers program procs) (bases_of program procs known) (λ bases. closure_from linear program procs known bases)
    (passing-always (AllZip (IsBase program (with_table procs [] known)) (members_of program procs)) (bases_of program procs known) (bases-met program procs known formed (recursion_from_All (λ proc. proc < length program.procs) procs within) few are))
    (λ bases fine. go linear tells bases fine)
  where
    go : (b : Bool) → (IsTrue b → IsLinear program procs) → (bases : List Transition) → AllZip (IsBase program (with_table procs [] known)) (members_of program procs) bases
        → AlwaysPassing (AreMetMembers program procs) (closure_from b program procs known bases)
    go true apart bases fine = passing-always (AreMetMembers program procs) (closure_of program procs known bases []) (closure-met program procs known formed (recursion_from_All (λ proc. proc < length program.procs) procs within) few are met knows (apart refl) bases fine)
    go false apart bases fine = closed_by_rounds-met program procs known formed (recursion_from_All (λ proc. proc < length program.procs) procs within) are met knows bases
