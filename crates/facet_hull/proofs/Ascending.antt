-- A set of vectors ascends, so none stands in it twice.
use Rattle.std.proofs.Common.{◌≡◌, ◌≢◌, refl, ap, subst, ◌∙◌, List, [], ◌∷◌, ◌++◌, ℤ}
use Rattle.std.specs.Cmp.{IsTotalOrder, int_cmp_total}
use Rattle.std.specs.Cmp.Lexicographic.{slice_cmp, lists_total}
use Rattle.std.specs.List.{AllByRecursion}
use Rattle.std.specs.List.Sorted.{IsStrictlySortedBy}
use Rattle.std.specs.Ordering.{int_cmp, match_ordering, ordering_reverse}
use Rattle.std.specs.declared.cmp.Ordering.{Ordering}
use Rattle.std.specs.declared.cmp.Ordering.TheVariants.{Less, Equal, Greater}
use Rattle.items.proofs.Each.{each-more}
use Rattle.facet_hull.proofs.Exact.{with_vector, as_set, each_inserted}

-- ---- the order of vectors

abbrev vector_cmp : List ℤ → List ℤ → Ordering
vector_cmp = slice_cmp int_cmp

vectors_total : IsTotalOrder vector_cmp
vectors_total = lists_total int_cmp_total

not_less_itself : (v : List ℤ) → vector_cmp v v ≡ Less → ⊥
not_less_itself v e = clash (vector_cmp v v) e (vectors_total.antisymm v v)
  where
    clash : (o : Ordering) → o ≡ Less → o ≡ ordering_reverse o → ⊥
    clash Less e f = cc
    clash Equal e f = cc
    clash Greater e f = cc

-- ---- a vector put in

inserted-ascends : (vs : List (List ℤ)) (v : List ℤ) → IsStrictlySortedBy vector_cmp vs → IsStrictlySortedBy vector_cmp (with_vector vs v)
unfolding IsStrictlySortedBy
inserted-ascends [] v h = (tt, tt)
inserted-ascends (w ∷ vs) v h = go (vector_cmp v w) refl (inserted-ascends vs v h.1)
  where
    go : (o : Ordering) → vector_cmp v w ≡ o → IsStrictlySortedBy vector_cmp (with_vector vs v) → IsStrictlySortedBy vector_cmp (match_ordering o (v ∷ w ∷ vs) (w ∷ vs) (w ∷ with_vector vs v))
    go Less e more = ((e, each-more (λ u. vector_cmp w u ≡ Less) (λ u. vector_cmp v u ≡ Less) (λ u k. vectors_total.trans v w u e k) vs h.0), h)
    go Equal e more = h
    go Greater e more = (each_inserted (λ u. vector_cmp w u ≡ Less) vs v h.0 (vectors_total.antisymm w v ∙ ap ordering_reverse e), more)

set_from-ascends : (made vs : List (List ℤ)) → IsStrictlySortedBy vector_cmp made → IsStrictlySortedBy vector_cmp (as_set made vs)
set_from-ascends made [] h = h
set_from-ascends made (v ∷ vs) h = set_from-ascends (with_vector made v) vs (inserted-ascends made v h)

pub set-ascends : (vs : List (List ℤ)) → IsStrictlySortedBy (slice_cmp int_cmp) (as_set [] vs)
unfolding IsStrictlySortedBy
set-ascends vs = set_from-ascends [] vs tt

-- ---- what stands at other places

-- all others are other vectors
pub record AreOthers (front : List (List ℤ)) (v : List ℤ) (back : List (List ℤ)) : Type 0 where
  pub before : AllByRecursion (λ u. u ≢ v) front
  pub behind : AllByRecursion (λ u. u ≢ v) back

pub ascending-others : (front : List (List ℤ)) (v : List ℤ) (back : List (List ℤ)) → IsStrictlySortedBy (slice_cmp int_cmp) (front ++ v ∷ back) → AreOthers front v back
unfolding IsStrictlySortedBy
ascending-others [] v back h = record {
  before = tt;
  behind = each-more (λ u. vector_cmp v u ≡ Less) (λ u. u ≢ v) (λ u k e. not_less_itself v (subst (λ w. vector_cmp v w ≡ Less) e k)) back h.0;
}
ascending-others (w ∷ front) v back h = longer (ascending-others front v back h.1)
  where
    at_last : (us : List (List ℤ)) → AllByRecursion (λ u. vector_cmp w u ≡ Less) (us ++ v ∷ back) → vector_cmp w v ≡ Less
    at_last [] k = k.0
    at_last (u ∷ us) k = at_last us k.1

    longer : AreOthers front v back → AreOthers (w ∷ front) v back
    longer r = record {
      before = ((λ e. not_less_itself v (subst (λ u. vector_cmp u v ≡ Less) e (at_last front h.0))), r.before);
      behind = r.behind;
    }
