-- Two parts of a text, one behind the other.
use Rattle.std.proofs.Common.{◌≡◌, ℕ, List, ◌++◌, Result, Ok, Err, ap, ◌∙◌, append_assoc}
use Rattle.std.specs.Prelude.{OnOk}

pub two-parts : {A E : Type 0} (result : Result A E) (old mid new a b : List ℕ) → mid ≡ old ++ a → OnOk result (new ≡ mid ++ b) → OnOk result (new ≡ old ++ (a ++ b))
two-parts (Ok x) old mid new a b p q = q ∙ ap (λ t. t ++ b) p ∙ append_assoc old a b
two-parts (Err e) old mid new a b p q = q
