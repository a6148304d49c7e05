-- Laws of columns without names, and of lists that grow.
use Rattle.std.proofs.Common.{◌≡◌, ℕ, ◌+◌, List, [], ◌∷◌, ◌++◌, sym, ap, ◌∙◌, append_assoc}
use Rattle.std.specs.Prelude.{None}
use Rattle.std.proofs.lemmas.List.{replicate-append-replicate}
use Rattle.syntax_tree.specs.declared.program.Column.{Column}
use Rattle.typing.specs.Lines.{nameless}
use Rattle.typing.proofs.Steps.{appended}

pub nameless-sum : (a b : ℕ) → nameless (a + b) ≡ nameless a ++ nameless b
nameless-sum a b = sym (replicate-append-replicate a b _)

pub nameless-more : (a : ℕ) → nameless (a + 1) ≡ nameless a ++ record { name = None } ∷ []
nameless-more a = nameless-sum a 1

pub grown : (before all : List Column) (a b : ℕ) → before ++ nameless (a + b) ≡ all → (before ++ nameless a) ++ nameless b ≡ all
grown before all a b h = append_assoc before (nameless a) (nameless b) ∙ ap (λ c. before ++ c) (sym (nameless-sum a b)) ∙ h

pub ruleset columns = (nameless-sum, nameless-more, appended)
