-- The directions in which a vocabulary asks for bounds.
use Rattle.std.specs.Prelude.{ℕ, List, [], ◌∷◌, ◌++◌, map, fold, Bool, not, ◌==◌, Ok, if◌then◌else◌}
use Rattle.std.specs.List.{list_any, filter, filter_map, flat_map}
use Rattle.linear_terms.specs.declared.col.Col.TheVariants.{At}
use Rattle.linear_terms.specs.Equality.{poly_eq}
use Rattle.linear_terms.specs.Expressions.{Made, ◌⊟◌, column, negative_of}
use Rattle.linear_terms.specs.Polynomial.{Polynomial}
use Rattle.transition_formula.specs.Loss.{answer_of}
use Rattle.polyhedra.specs.Vocabulary.{Vocabulary}

-- ---- each element where it first stands

-- the elements made, with one more behind them unless the same is there
abbrev pub with_new : {A : Type 0} → (A → A → Bool) → List A → A → List A
with_new same made x = if list_any (same x) made then made else made ++ x ∷ []

-- the elements without those that have the same before them, in order
abbrev pub distinct : {A : Type 0} → (A → A → Bool) → List A → List A
distinct same xs = fold (with_new same) [] xs

-- ---- directions

-- an expression, and then its negative
abbrev pub both_signs : Made → List Made
both_signs a = a ∷ negative_of a ∷ []

-- a column less each of the others
abbrev pub less_others : List ℕ → ℕ → List Made
less_others named u = map (λ v. column (At u) ⊟ column (At v)) (filter (λ v. not (u == v)) named)

-- each named column with both signs, each difference of two, and each harvested term with both
-- signs
abbrev pub candidates : Vocabulary → List Made
candidates voc =
    flat_map (λ v. both_signs (column (At v))) voc.named ++ flat_map (less_others voc.named)
    voc.named
    ++ flat_map (λ h. both_signs (Ok h)) voc.harvested

-- those that can be made, each once
unfoldable pub directions : Vocabulary → List Polynomial
directions voc = distinct poly_eq (filter_map answer_of (candidates voc))
