-- Two lists whose elements at the same places belong together.
--     zipped-at      what belongs to an element
--     zipped-length  both are as long
--     zipped-map     what is made of both
--     zipped-each    computations over both, step by step
--     zipped-both    what holds of each element of the one exactly where it holds of the other's
use Rattle.std.proofs.Common.{◌≡◌, ◌↔◌, ℕ, zero, suc, List, [], ◌∷◌, length, map, Option, Some, refl, ap, subst}
use Rattle.std.specs.Prelude.{slice_get}
use Rattle.std.specs.List.{AllByRecursion, AllZip}
use Rattle.posing.specs.Posing.{Posing, ◌>>=◌, each}

pub some-one : {X : Type 0} {o : Option X} {x y : X} → o ≡ Some x → o ≡ Some y → x ≡ y
some-one e f = cc

pub zipped-at : {A C : Type 0} (R : A → C → Type 0) (xs : List A) (ys : List C) → AllZip R xs ys → (k : ℕ) (x : A) → slice_get xs k ≡ Some x → (y : C) × (slice_get ys k ≡ Some y) × R x y
zipped-at R [] ys h k x e = absurd (none k e)
  where
    none : (n : ℕ) → slice_get [] n ≡ Some x → ⊥
    none zero e = cc
    none (suc n) e = cc
zipped-at R (a ∷ xs) [] h k x e = absurd h
zipped-at R (a ∷ xs) (y ∷ ys) h zero x e = let same : a ≡ x = cc in (y, refl, subst (λ b. R b y) same h.0)
zipped-at R (a ∷ xs) (y ∷ ys) h (suc k) x e = zipped-at R xs ys h.1 k x e

module _ {A C : Type 0} (R : A → C → Type 0) where
  pub zipped-length : (xs : List A) (ys : List C) → AllZip R xs ys → length xs ≡ length ys
  zipped-length [] [] h = refl
  zipped-length [] (y ∷ ys) h = absurd h
  zipped-length (x ∷ xs) [] h = absurd h
  zipped-length (x ∷ xs) (y ∷ ys) h = ap suc (zipped-length xs ys h.1)

  pub zipped-map : {B : Type 0} (f : A → B) (g : C → B) → ((x : A) (y : C) → R x y → f x ≡ g y) → (xs : List A) (ys : List C) → AllZip R xs ys → map f xs ≡ map g ys
  zipped-map f g same [] [] h = refl
  zipped-map f g same [] (y ∷ ys) h = absurd h
  zipped-map f g same (x ∷ xs) [] h = absurd h
  zipped-map f g same (x ∷ xs) (y ∷ ys) h = λ i. same x y h.0 i ∷ zipped-map f g same xs ys h.1 i

  pub zipped-each : {B : Type 0} (f : B → A → Posing B) (g : B → C → Posing B) → ((made : B) (x : A) (y : C) → R x y → f made x ≡ g made y)
      → (made : B) (xs : List A) (ys : List C) → AllZip R xs ys → each f made xs ≡ each g made ys
  zipped-each f g same made [] [] h = refl
  zipped-each f g same made [] (y ∷ ys) h = absurd h
  zipped-each f g same made (x ∷ xs) [] h = absurd h
  zipped-each f g same made (x ∷ xs) (y ∷ ys) h = λ i. same made x y h.0 i >>= λ next. zipped-each f g same next xs ys h.1 i

  pub zipped-both : (P : A → Type 0) (Q : C → Type 0) → ((x : A) (y : C) → R x y → P x ↔ Q y) → (xs : List A) (ys : List C) → AllZip R xs ys → AllByRecursion P xs ↔ AllByRecursion Q ys
  zipped-both P Q both [] [] h = (λ all. tt, λ all. tt)
  zipped-both P Q both [] (y ∷ ys) h = absurd h
  zipped-both P Q both (x ∷ xs) [] h = absurd h
  zipped-both P Q both (x ∷ xs) (y ∷ ys) h =
      let one = both x y h.0 in
      let rest = zipped-both P Q both xs ys h.1 in
      (λ all. (one.0 all.0, rest.0 all.1), λ all. (one.1 all.0, rest.1 all.1))
