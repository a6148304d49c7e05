-- The directions that are made so far, and the set of their keys.
use Rattle.std.proofs.Common.{◌≡◌, ℕ, ◌+◌, ◌<◌, ℤ, List, [], ◌∷◌, ◌++◌, length, drop, get_or, Bool, true, false, cond, fold, refl, sym, ap, ◌∙◌}
use Rattle.std.specs.Prelude.{◌&&◌, ◌||◌, not}
use Rattle.std.specs.BTreeSet as tree
use Rattle.std.specs.BTreeSet.{BTreeSet}
use Rattle.std.specs.Cmp.{IsTotalOrder, eq_by_cmp_equiv, int_cmp_total, on_total, then_total}
use Rattle.std.specs.Cmp.Lexicographic.{slice_cmp, lists_total}
use Rattle.std.specs.List.{list_any, filter_map, flat_map}
use Rattle.std.specs.Ordering.{eq_by_cmp, int_cmp, int_eq, is_eq, ordering_then}
use Rattle.std.specs.declared.cmp.Ordering.{Ordering}
use Rattle.std.specs.declared.cmp.Ordering.TheVariants as order
use Rattle.std.proofs.lemmas.Grind.{fold-append}
use Rattle.std.proofs.lemmas.List.{drop_more}
use Rattle.std.proofs.lemmas.List.Folds.{list_any-append}
use Rattle.std.proofs.lemmas.List.Elements.{filter_map-append}
use Rattle.linear_terms.specs.declared.col.Col.{Col}
use Rattle.linear_terms.specs.Equality.{poly_eq}
use Rattle.linear_terms.specs.Expressions.{Made}
use Rattle.linear_terms.specs.MonoOrder.{mono_cmp_total}
use Rattle.linear_terms.specs.Polynomial.{Polynomial}
use Rattle.transition_formula.specs.Loss.{answer_of}
use Rattle.transition_formula.specs.Places.{term_cmp}
use Rattle.transition_formula.proofs.AtPlaces.{terms-tie}
use Rattle.polyhedra.specs.Directions.{with_new}
use Rattle.polyhedra.specs.Keys.{Key, key_of, key_cmp, TellsMade, with_each}

key_total : IsTotalOrder key_cmp
key_total =
    then_total (on_total (λ (k : Key). k.0) (lists_total (then_total (on_total (λ (t : List Col × ℤ). t.0) mono_cmp_total) (on_total (λ (t : List Col × ℤ). t.1) int_cmp_total))))
    (on_total (λ (k : Key). k.1) int_cmp_total)

abbrev same_key : Key → Key → Bool
same_key k l = eq_by_cmp key_cmp k l

turned_key : (k l : Key) → same_key k l ≡ same_key l k
turned_key k l = (eq_by_cmp_equiv key_total).symm k l

is_eq-then : (a b : Ordering) → is_eq (ordering_then a b) ≡ is_eq a && is_eq b
is_eq-then order.Less b = refl
is_eq-then order.Equal b = refl
is_eq-then order.Greater b = refl

equal-key : (p q : Polynomial) → poly_eq p q ≡ same_key (key_of p) (key_of q)
equal-key p q = (λ i. terms-tie p.terms q.terms i && int_eq p.rest q.rest) ∙ sym (is_eq-then (slice_cmp term_cmp p.terms q.terms) (int_cmp p.rest q.rest))

any-key : (d : Polynomial) (made : List Polynomial) → list_any (poly_eq d) made ≡ list_any (λ p. same_key (key_of d) (key_of p)) made
any-key d [] = refl
any-key d (p ∷ made) = λ i. equal-key d p i || any-key d made i

or_last : (a b : Bool) → a || (b || false) ≡ cond b true a
or_last true true = refl
or_last true false = refl
or_last false true = refl
or_last false false = refl

module _ (known : BTreeSet Key) (made : List Polynomial) (d : Polynomial) (tells : TellsMade known made) where
  told : (key : Key) → key ≡ key_of d → tree.contains key_cmp known key ≡ list_any (poly_eq d) made
  told key is = ap (tree.contains key_cmp known) is ∙ tells (key_of d) ∙ sym (any-key d made)

  -- one that is new stands behind the others
  pub is_new : (key : Key) → key ≡ key_of d → not (tree.contains key_cmp known key) ≡ true → made ++ d ∷ [] ≡ with_new poly_eq made d
  is_new key is new = go (list_any (poly_eq d) made) (ap not (sym (told key is)) ∙ new)
    where
      go : (b : Bool) → not b ≡ true → made ++ d ∷ [] ≡ cond b made (made ++ d ∷ [])
      go true e = cc
      go false e = refl

  -- one that is there is not added again
  pub is_there : (key : Key) → key ≡ key_of d → not (tree.contains key_cmp known key) ≡ false → made ≡ with_new poly_eq made d
  is_there key is there = go (list_any (poly_eq d) made) (ap not (sym (told key is)) ∙ there)
    where
      go : (b : Bool) → not b ≡ false → made ≡ cond b made (made ++ d ∷ [])
      go true e = refl
      go false e = cc

  pub tells-new : (more : BTreeSet Key) (key : Key) → key ≡ key_of d → ((q : Key) → tree.contains key_cmp more q ≡ cond (same_key key q) true (tree.contains key_cmp known q)) → TellsMade more (made ++ d ∷ [])
  tells-new more key is updates q =
      updates q
      ∙ (λ i. cond (same_key (is i) q) true (tells q i))
      ∙ ap (λ b. cond b true (list_any (λ p. same_key q (key_of p)) made)) (turned_key (key_of d) q)
      ∙ sym (or_last (list_any (λ p. same_key q (key_of p)) made) (same_key q (key_of d)))
      ∙ sym (list_any-append (λ p. same_key q (key_of p)) made (d ∷ []))

-- ---- candidates one after another

pub with_each-append : (made : List Polynomial) (xs ys : List Made) → with_each made (xs ++ ys) ≡ with_each (with_each made xs) ys
with_each-append made xs ys = ap (λ ds. fold (with_new poly_eq) made ds) (filter_map-append answer_of xs ys) ∙ fold-append (with_new poly_eq) made (filter_map answer_of xs) (filter_map answer_of ys)

-- what an element gives, and then what those behind it give
pub with_each-next : {X : Type 0} (f : X → List Made) (made : List Polynomial) (xs : List X) (i : ℕ) (x : X) → i < length xs → with_each made (flat_map f (drop i xs)) ≡ with_each (with_each made (f (get_or xs i x))) (flat_map f (drop (i + 1) xs))
with_each-next f made xs i x lt = ap (λ ys. with_each made (flat_map f ys)) (drop_more xs i x lt) ∙ with_each-append made (f (get_or xs i x)) (flat_map f (drop (i + 1) xs))
