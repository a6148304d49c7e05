-- Whether two vocabularies are equal, as a test.
use Rattle.std.proofs.Common.{◌≡◌, ℕ, List, [], ◌∷◌, Bool, true, false, refl, sym, ap, ◌∙◌, arith}
use Rattle.std.specs.Prelude.{IsTrue, ◌==◌, ◌↔◌}
use Rattle.std.specs.Cmp.Lexicographic.{pointwise}
use Rattle.std.proofs.lemmas.Map.Views.{exact_unsigned_eq}
use Rattle.linear_terms.specs.Equality.{poly_eq, poly_eq_equiv}
use Rattle.transition_formula.proofs.ColumnTests.{both, both_true}
use Rattle.transition_formula.proofs.Truths.{polys_same}
use Rattle.transition_formula.specs.Transition.{Transition}
use Rattle.polyhedra.specs.Laws.{IsBetween}
use Rattle.polyhedra.specs.Squash.{are_same}
use Rattle.polyhedra.specs.Vocabulary.{Vocabulary}

exact : {A : Type 0} (test : A → A → Bool) → ((x y : A) → IsTrue (test x y) → x ≡ y) → (xs ys : List A) → IsTrue (pointwise test xs ys) → xs ≡ ys
exact test tells [] [] e = refl
exact test tells [] (y ∷ ys) e = cc
exact test tells (x ∷ xs) [] e = cc
exact test tells (x ∷ xs) (y ∷ ys) e =
    let parts = both (test x y) (pointwise test xs ys) e in
    let rest = exact test tells xs ys parts.1 in
    λ i. tells x y parts.0 i ∷ rest i

itself : {A : Type 0} (test : A → A → Bool) → ((x : A) → IsTrue (test x x)) → (xs : List A) → IsTrue (pointwise test xs xs)
itself test tells [] = refl
itself test tells (x ∷ xs) = both_true (test x x) (pointwise test xs xs) (tells x) (itself test tells xs)

number_itself : (n : ℕ) → IsTrue (n == n)
number_itself n = grind arith

are_same-exact : (v w : Vocabulary) → IsTrue (are_same v w) → v ≡ w
are_same-exact v w e =
    let first = both (v.columns == w.columns) _ e in
    let second = both (v.rule == w.rule) _ first.1 in
    let third = both (pointwise (λ m n. m == n) v.named w.named) _ second.1 in
    let fourth = both (pointwise poly_eq v.harvested w.harvested) (pointwise poly_eq v.extra w.extra) third.1 in
    let columns = exact_unsigned_eq v.columns w.columns first.0 in
    let rule = exact_unsigned_eq v.rule w.rule second.0 in
    let named = exact (λ m n. m == n) exact_unsigned_eq v.named w.named third.0 in
    let harvested = exact poly_eq polys_same v.harvested w.harvested fourth.0 in
    let extra = exact poly_eq polys_same v.extra w.extra fourth.1 in
    λ i. record { columns = columns i; named = named i; harvested = harvested i; rule = rule i; extra = extra i }

are_same-itself : (v : Vocabulary) → IsTrue (are_same v v)
are_same-itself v =
    both_true (v.columns == v.columns) _ (number_itself v.columns)
    (both_true (v.rule == v.rule) _ (number_itself v.rule)
    (both_true (pointwise (λ m n. m == n) v.named v.named) _ (itself (λ m n. m == n) number_itself v.named)
    (both_true (pointwise poly_eq v.harvested v.harvested) (pointwise poly_eq v.extra v.extra) (itself poly_eq poly_eq_equiv.refl v.harvested) (itself poly_eq poly_eq_equiv.refl v.extra))))

pub same-decided : (v w : Vocabulary) (b : Bool) → (IsTrue b ↔ (v ≡ w)) → b ≡ are_same v w
same-decided v w b h = go b (are_same v w) refl h.0 (λ e. h.1 e)
  where
    go : (b c : Bool) → are_same v w ≡ c → (IsTrue b → v ≡ w) → (v ≡ w → IsTrue b) → b ≡ c
    go true true e to of = refl
    go false false e to of = refl
    go true false e to of = let same = to refl in sym (sym e ∙ ap (are_same v) (sym same) ∙ are_same-itself v)
    go false true e to of = of (are_same-exact v w e)

-- both ends then have equally many columns
pub same-ends : (one : Bool) (f : Transition) (from to : Vocabulary) → IsBetween f from to → one ≡ are_same from to → one ≡ true → f.from ≡ f.to
same-ends one f from to between is e = sym between.starts ∙ ap (λ (v : Vocabulary). v.columns) (are_same-exact from to (sym is ∙ e)) ∙ between.ends
