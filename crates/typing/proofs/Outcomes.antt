-- What elaboration comes to, and the relation between a text and its program.
use Rattle.std.proofs.Common.{◌≡◌, ℕ, Option, None, Some, List, [], ◌∷◌, refl, sym, ap, ◌∙◌}
use Rattle.std.specs.Prelude.{Ok, Err}
use Rattle.syntax_tree.specs.declared.program.Program.{Program}
use Rattle.syntax_tree.specs.declared.tree.Item.{Item}
use Rattle.typing.specs.declared.error.TypeError.{TypeError}
use Rattle.typing.specs.Elaborated.{elaborated_program}
use Rattle.typing.specs.Elaborates.{Elaborates}
use Rattle.typing.specs.Faults.{elaboration_of, faults_of, least_of, lesser, unless_fault}

-- of a fault and some more, one is the least
some_least : (fault : TypeError) (rest : List TypeError) → (least : TypeError) × (least_of (Some fault) rest ≡ Some least)
some_least fault [] = (fault, refl)
some_least fault (next ∷ rest) = some_least (lesser (Some fault) next) rest

-- an answer says that there was no fault
faultless : (faults : List TypeError) (program answer : Program) → unless_fault (least_of None faults) program ≡ Ok answer → (faults ≡ []) × (answer ≡ program)
faultless [] program answer h = (refl, cc)
faultless (fault ∷ rest) program answer h =
    let least = some_least fault rest in
    let wrong : Err least.0 ≡ Ok answer = ap (λ (l : Option TypeError). unless_fault l program) (sym least.1) ∙ h in
    cc

pub answered : (items : List Item) (length_of_text : ℕ) (program : Program) → elaboration_of items length_of_text ≡ Ok program → Elaborates items length_of_text program
unfolding elaboration_of
answered items length_of_text program h =
    let both = faultless (faults_of items length_of_text) (elaborated_program items) program h in
    record { faultless = both.0; same = both.1 }

pub answers : (items : List Item) (length_of_text : ℕ) (program : Program) → Elaborates items length_of_text program → elaboration_of items length_of_text ≡ Ok program
unfolding elaboration_of
answers items length_of_text program e =
    ap (λ (faults : List TypeError). unless_fault (least_of None faults) (elaborated_program items)) e.faultless ∙ ap (λ (p : Program). Ok p) (sym e.same)
