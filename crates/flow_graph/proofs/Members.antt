-- Elements of a list, by recursion.
use Rattle.std.proofs.Common.{◌≡◌, ℕ, zero, suc, List, [], ◌∷◌, ◌⊎◌, inl, inr, arith}
use Rattle.std.specs.List.{Contains}

abbrev pub In : List ℕ → ℕ → Type 0
In [] x = ⊥
In (y ∷ ys) x = (y ≡ x) ⊎ In ys x

pub in_of : (xs : List ℕ) (x : ℕ) → Contains xs x → In xs x
in_of [] x (k, within, is) = absurd (omega arith)
in_of (y ∷ ys) x (zero, within, is) = inl is
in_of (y ∷ ys) x (suc k, within, is) = inr (in_of ys x (k, omega arith, is))

later : (y : ℕ) (ys : List ℕ) (x : ℕ) → Contains ys x → Contains (y ∷ ys) x
later y ys x (k, within, is) = (suc k, omega arith, is)

pub contains_of : (xs : List ℕ) (x : ℕ) → In xs x → Contains xs x
contains_of [] x none = absurd none
contains_of (y ∷ ys) x (inl same) = (0, omega arith, same)
contains_of (y ∷ ys) x (inr there) = later y ys x (contains_of ys x there)
