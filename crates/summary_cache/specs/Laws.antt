-- What holds of the program of a text.
use Rattle.std.specs.Prelude.{◌≡◌, ℕ, List, IsTrue}
use Rattle.c_lexer.specs.Laws.{ascends_from}
use Rattle.syntax_tree.specs.declared.program.Program.{Program}
use Rattle.syntax_tree.specs.WellFormed.{IsWellFormed}
use Rattle.summary_cache.specs.declared.refusal.Refusal.{Refusal}
use Rattle.summary_cache.specs.Accepted.{Accepts, IsRefusedBy}
use Rattle.summary_cache.specs.Rules.{with_rule}

-- a text is accepted as one program at most
abbrev pub AcceptedOnce : Type 0
AcceptedOnce = (text : List ℕ) (one other : Program) → Accepts text one → Accepts text other
    → one ≡ other

-- a text that is accepted is not refused
abbrev pub AcceptedIsNotRefused : Type 0
AcceptedIsNotRefused = (text : List ℕ) (program : Program) (refusal : Refusal)
    → Accepts text program → IsRefusedBy text refusal → ⊥

-- a text is refused for one reason at most
abbrev pub RefusalIsOne : Type 0
RefusalIsOne = (text : List ℕ) (one other : Refusal) → IsRefusedBy text one → IsRefusedBy text other
    → one ≡ other

-- the program of a text is well formed
abbrev pub AcceptedIsWellFormed : Type 0
AcceptedIsWellFormed = (text : List ℕ) (program : Program) → Accepts text program
    → IsWellFormed program

-- the assertions of a program are numbered in the order of their places
abbrev pub AssertionsAscend : Type 0
AssertionsAscend = (text : List ℕ) (program : Program) → Accepts text program
    → IsTrue (ascends_from 0 program.checks)

-- the program of a text has rule 2, so under this rule it is analysed as it is
abbrev pub AcceptedHasRuleTwo : Type 0
AcceptedHasRuleTwo = (text : List ℕ) (program : Program) → Accepts text program
    → with_rule 2 program ≡ program
