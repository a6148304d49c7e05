-- A vocabulary whose first columns are named.
use Rattle.std.proofs.Common.{◌≡◌, ℕ, zero, suc, ◌+◌, ◌<◌, ◌≤◌, List, [], arith, subst, sym}
use Rattle.std.specs.Cmp.{nat_cmp_is}
use Rattle.std.specs.List.{AllByRecursion, range_with_len}
use Rattle.std.specs.List.Sorted.{IsStrictlySortedBy}
use Rattle.std.specs.Ordering.{nat_cmp}
use Rattle.std.specs.declared.cmp.Ordering.TheVariants.{Less}
use Rattle.linear_terms.specs.Polynomial.{Polynomial}
use Rattle.polyhedra.specs.Vocabulary.{IsVocabulary}

all-less : (b a n : ℕ) → b < a → AllByRecursion (λ w. nat_cmp b w ≡ Less) (range_with_len a n)
all-less b a zero h = tt
all-less b a (suc n) h = (sym (nat_cmp_is b a Less h), all-less b (a + 1) n (omega arith))

range-ascends : (a n : ℕ) → IsStrictlySortedBy nat_cmp (range_with_len a n)
unfolding IsStrictlySortedBy
range-ascends a zero = tt
range-ascends a (suc n) = (all-less a (a + 1) n (omega arith), range-ascends (a + 1) n)

range-below : (b a n : ℕ) → a + n ≤ b → AllByRecursion (λ v. v < b) (range_with_len a n)
range-below b a zero h = tt
range-below b a (suc n) h = (omega arith, range-below b (a + 1) n (omega arith))

pub so-many-named : (columns count rule : ℕ) (named : List ℕ) (harvested extra : List Polynomial) → count ≤ columns → named ≡ range_with_len 0 count → harvested ≡ [] → extra ≡ []
    → IsVocabulary (record { columns = columns; named = named; harvested = harvested; rule = rule; extra = extra })
so-many-named columns count rule named harvested extra few n h e =
    subst (λ xs. IsVocabulary (record { columns = columns; named = xs; harvested = harvested; rule = rule; extra = extra })) (sym n)
    (subst (λ xs. IsVocabulary (record { columns = columns; named = range_with_len 0 count; harvested = xs; rule = rule; extra = extra })) (sym h)
    (subst (λ xs. IsVocabulary (record { columns = columns; named = range_with_len 0 count; harvested = []; rule = rule; extra = xs })) (sym e)
    (record { ascending = range-ascends 0 count; named = range-below columns 0 count (omega (arith, few)); few = omega arith; harvested = tt; extra = tt })))
