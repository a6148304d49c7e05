-- A vocabulary without terms.
use Rattle.std.proofs.Common.{◌≡◌, ℕ, List, [], ◌∷◌, arith, rules, subst, sym}
use Rattle.std.specs.List.Sorted.{IsStrictlySortedBy}
use Rattle.linear_terms.specs.Polynomial.{Polynomial}
use Rattle.polyhedra.specs.Vocabulary.{IsVocabulary}

plain-named : IsVocabulary (record { columns = 3; named = 0 ∷ 2 ∷ []; harvested = []; rule = 1; extra = [] })
unfolding IsStrictlySortedBy
plain-named = record { ascending = search rules; named = (omega arith, (omega arith, tt)); few = omega arith; harvested = tt; extra = tt }

pub two-named : (named : List ℕ) (harvested extra : List Polynomial) → named ≡ 0 ∷ 2 ∷ [] → harvested ≡ [] → extra ≡ []
    → IsVocabulary (record { columns = 3; named = named; harvested = harvested; rule = 1; extra = extra })
two-named named harvested extra n h e =
    subst (λ xs. IsVocabulary (record { columns = 3; named = xs; harvested = harvested; rule = 1; extra = extra })) (sym n)
    (subst (λ xs. IsVocabulary (record { columns = 3; named = 0 ∷ 2 ∷ []; harvested = xs; rule = 1; extra = extra })) (sym h)
    (subst (λ xs. IsVocabulary (record { columns = 3; named = 0 ∷ 2 ∷ []; harvested = []; rule = 1; extra = xs })) (sym e) plain-named))
