-- Where no fault stands in a list put together from others, none stands in these.
use Rattle.std.proofs.Common.{◌≡◌, Bool, true, false, List, [], ◌∷◌, ◌++◌, refl, subst}
use Rattle.typing.specs.declared.error.TypeError.{TypeError}
use Rattle.typing.specs.CallFaults.{when}

is_empty : List TypeError → Bool
is_empty [] = true
is_empty (fault ∷ rest) = false

abbrev IsYes : Bool → Type 0
IsYes true = Unit {0}
IsYes false = ⊥

pub cons_is_not_nil : (fault : TypeError) (rest : List TypeError) → fault ∷ rest ≡ [] → ⊥
unfolding is_empty
cons_is_not_nil fault rest e = subst (λ (xs : List TypeError). IsYes (is_empty xs) → ⊥) e (λ h. h) tt

pub first_nil : (xs ys : List TypeError) → xs ++ ys ≡ [] → xs ≡ []
first_nil [] ys e = refl
first_nil (fault ∷ xs) ys e = absurd (cons_is_not_nil fault (xs ++ ys) e)

pub second_nil : (xs ys : List TypeError) → xs ++ ys ≡ [] → ys ≡ []
second_nil [] ys e = e
second_nil (fault ∷ xs) ys e = absurd (cons_is_not_nil fault (xs ++ ys) e)

-- a test that told no fault did not hold
pub not_when : (b : Bool) (fault : TypeError) → when b fault ≡ [] → b ≡ false
not_when true fault e = absurd (cons_is_not_nil fault [] e)
not_when false fault e = refl
