-- What is known of the formulas of paths, when one more is made.
use Rattle.std.proofs.Common.{◌≡◌, Bool, true, false, cond, [], ◌∷◌, ◌++◌, refl, sym, ap, subst, inl, inr, ◌⊎◌, eqb-true, eq-eqb}
use Rattle.std.specs.List.{AllByRecursion}
use Rattle.std.proofs.lemmas.Bool.{cond_both, and_parts, and_from}
use Rattle.path_expr.specs.PathExpr.{PathExpr, Zero, One, Edge, Seq, Join, Star}
use Rattle.transition_formula.specs.Transition.{Transition}
use Rattle.checked_tree.specs.Graph.{nothing, same_path}
use Rattle.checked_tree.specs.Evaluation.{Made, latest, formula_at, with_entry, paths_of}
use Rattle.checked_tree.specs.Ready.{IsAmong}
use Rattle.checked_tree.proofs.Stands.{among-last}

pub same_path-refl : (p : PathExpr) → same_path p p ≡ true
same_path-refl Zero = refl
same_path-refl One = refl
same_path-refl (Edge n) = eq-eqb n n refl
same_path-refl (Seq a b) = and_from (same_path a a) (same_path b b) (same_path-refl a) (same_path-refl b)
same_path-refl (Join a b) = and_from (same_path a a) (same_path b b) (same_path-refl a) (same_path-refl b)
same_path-refl (Star a) = same_path-refl a

pub same_path-true : (p q : PathExpr) → same_path p q ≡ true → p ≡ q
same_path-true Zero Zero e = refl
same_path-true One One e = refl
same_path-true (Edge m) (Edge n) e = ap (λ k. Edge k) (eqb-true m n e)
same_path-true (Seq a b) (Seq c d) e =
    let parts = and_parts (same_path a c) (same_path b d) e in
    let first = same_path-true a c parts.0 in
    let second = same_path-true b d parts.1 in
    λ i. Seq (first i) (second i)
same_path-true (Join a b) (Join c d) e =
    let parts = and_parts (same_path a c) (same_path b d) e in
    let first = same_path-true a c parts.0 in
    let second = same_path-true b d parts.1 in
    λ i. Join (first i) (second i)
same_path-true (Star a) (Star b) e = ap (λ p. Star p) (same_path-true a b e)
same_path-true p q e = cc

pub paths-entry : (made : Made) (p : PathExpr) (f : Transition) → paths_of (with_entry made p f) ≡ paths_of made ++ p ∷ []
paths-entry [] p f = refl
paths-entry (entry ∷ made) p f = ap (λ ps. entry.0 ∷ ps) (paths-entry made p f)

latest-entry : (made : Made) (p q : PathExpr) (f found : Transition) → latest q found (with_entry made p f) ≡ cond (same_path p q) f (latest q found made)
latest-entry [] p q f found = refl
latest-entry (entry ∷ made) p q f found = latest-entry made p q f (cond (same_path entry.0 q) entry.1 found)

-- what all formulas have, and the one that holds of nothing
pub latest-has : (P : Transition → Type 0) (made : Made) (p : PathExpr) (found : Transition) → P found → AllByRecursion (λ entry. P entry.1) made → P (latest p found made)
latest-has P [] p found h all = h
latest-has P (entry ∷ made) p found h all =
    latest-has P made p (cond (same_path entry.0 p) entry.1 found) (cond_both (same_path entry.0 p) entry.1 found P (λ e. all.0) (λ e. h)) all.1

-- what is known of each path with its formula is so of one path more
pub known-more : (P : PathExpr → Transition → Type 0) (made : Made) (q : PathExpr) (f : Transition) →
    ((p : PathExpr) → IsAmong p (paths_of made) → (p ≡ q → ⊥) → P p (formula_at made p)) → P q f →
    (p : PathExpr) → IsAmong p (paths_of (with_entry made q f)) → P p (formula_at (with_entry made q f) p)
known-more P made q f before now p among =
    subst (P p) (sym (latest-entry made q p f nothing)) (by_test (same_path q p) refl)
  where
    either : IsAmong p (paths_of made) ⊎ (p ≡ q)
    either = among-last p q (paths_of made) (subst (IsAmong p) (paths-entry made q f) among)

    by_test : (b : Bool) → same_path q p ≡ b → P p (cond b f (formula_at made p))
    by_test true e = subst (λ x. P x f) (same_path-true q p e) now
    by_test false e = by_place either
      where
        other : p ≡ q → ⊥
        other same = let is : same_path q p ≡ true = subst (λ x. same_path q x ≡ true) (sym same) (same_path-refl q) in cc

        by_place : IsAmong p (paths_of made) ⊎ (p ≡ q) → P p (formula_at made p)
        by_place (inl h) = before p h other
        by_place (inr same) = absurd (other same)
