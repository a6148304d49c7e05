-- A text has a program: it has no fault, and the program is the one that it stands for.
use Rattle.std.specs.Prelude.{◌≡◌, ℕ, List, [], Ok}
use Rattle.syntax_tree.specs.declared.program.Program.{Program}
use Rattle.syntax_tree.specs.declared.tree.Item.{Item}
use Rattle.typing.specs.Elaborated.{elaborated_program}
use Rattle.typing.specs.Faults.{elaboration_of, faults_of}

-- the text has no fault, and stands for this program
pub record Elaborates (items : List Item) (length_of_text : ℕ) (program : Program) : Type 0 where
  pub faultless : faults_of items length_of_text ≡ []
  pub same : program ≡ elaborated_program items

-- one program at most, and one exactly where there is no fault
pub record ElaborationIsUnique : Type 0 where
  pub one : (items : List Item) (length_of_text : ℕ) (program other : Program)
      → Elaborates items length_of_text program → Elaborates items length_of_text other
      → program ≡ other
  pub some : (items : List Item) (length_of_text : ℕ)
      → faults_of items length_of_text ≡ []
      → (program : Program) × Elaborates items length_of_text program

-- what elaboration comes to is the program exactly where the text has that program
pub record ElaborationAnswers : Type 0 where
  pub answered : (items : List Item) (length_of_text : ℕ) (program : Program)
      → elaboration_of items length_of_text ≡ Ok program → Elaborates items length_of_text program
  pub answers : (items : List Item) (length_of_text : ℕ) (program : Program)
      → Elaborates items length_of_text program → elaboration_of items length_of_text ≡ Ok program
