-- Lists whose elements belong to those of another list at the same place.
--     so-far-none, so-far-next, so-far-all      they are made one by one
use Rattle.std.proofs.Common.{◌≡◌, ℕ, ◌+◌, ◌⊎◌, inl, inr, List, [], ◌∷◌, ◌++◌, length, refl, sym, subst, ◌∙◌, arith}
use Rattle.std.specs.Prelude.{Option, Some, slice_get}
use Rattle.std.proofs.lemmas.List.{length-append}
use Rattle.analysis.proofs.Puts.{push-get}
use Rattle.commands.specs.Cost.{ArePairs}

-- so many elements are made, and each belongs to that at its place
pub record AreSoFar {X Y : Type 0} (P : X → Y → Type 0) (xs : List X) (n : ℕ) (ys : List Y) : Type 0 where
  pub long : length ys ≡ n
  pub each : (place : ℕ) (x : X) (y : Y) → slice_get xs place ≡ Some x → slice_get ys place ≡ Some y → P x y

module _ {X Y : Type 0} (P : X → Y → Type 0) (xs : List X) where
  pub so-far-none : AreSoFar P xs 0 []
  so-far-none = record { long = refl; each = λ place x y at none. absurd (cc none) }

  some-one : {x z : X} {o : Option X} → o ≡ Some x → o ≡ Some z → x ≡ z
  some-one e f = cc

  pub so-far-next : (n : ℕ) (ys : List Y) (x : X) (y : Y) (next : List Y) → AreSoFar P xs n ys → slice_get xs n ≡ Some x → P x y → next ≡ ys ++ y ∷ []
      → AreSoFar P xs (n + 1) next
  so-far-next n ys x y next far at belongs is = subst (AreSoFar P xs (n + 1)) (sym is) (record { long = long; each = each })
    where
      long : length (ys ++ y ∷ []) ≡ n + 1
      long = let more = length-append ys (y ∷ []) in let before = far.long in omega (arith, more, before)

      each : (place : ℕ) (z : X) (w : Y) → slice_get xs place ≡ Some z → slice_get (ys ++ y ∷ []) place ≡ Some w → P z w
      each place z w here there = go (push-get ys y place w there)
        where
          go : (slice_get ys place ≡ Some w) ⊎ ((place ≡ length ys) × (y ≡ w)) → P z w
          go (inl old) = far.each place z w here old
          go (inr last) =
              let same : z ≡ x = some-one here (subst (λ k. slice_get xs k ≡ Some x) (sym (last.0 ∙ far.long)) at) in
              subst (λ z. P z w) (sym same) (subst (P x) last.1 belongs)

  pub so-far-all : (n : ℕ) (ys : List Y) → AreSoFar P xs n ys → n ≡ length xs → ArePairs P xs ys
  so-far-all n ys far end = record { long = far.long ∙ end; each = far.each }
