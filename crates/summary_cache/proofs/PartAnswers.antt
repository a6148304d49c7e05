-- The answers of parts, one part after another.
use Rattle.std.proofs.Common.{◌≡◌, List, [], ◌∷◌, ◌++◌, sym, ap, ◌∙◌}
use Rattle.std.proofs.lemmas.List.{append-nil, append_assoc}
use Rattle.kept_groups.specs.declared.kept.KeptPart.{KeptPart}
use Rattle.kept_groups.specs.Kept.{answers_in}

pub answers-more : (parts : List KeptPart) (part : KeptPart) → answers_in (parts ++ part ∷ []) ≡ answers_in parts ++ part.answers
answers-more [] part = append-nil part.answers
answers-more (first ∷ parts) part = ap (λ rest. first.answers ++ rest) (answers-more parts part) ∙ sym (append_assoc first.answers (answers_in parts) part.answers)
