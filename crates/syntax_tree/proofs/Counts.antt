-- Numbers that are cut off at a bound, and sums and products of them.
use Rattle.std.proofs.Common.{◌≡◌, ℕ, zero, suc, ◌+◌, ◌*◌, ◌<◌, ◌≤◌, List, ◌∷◌, refl, sym, ap, ◌∙◌, arith, ⊎_elim}
use Rattle.std.specs.Prelude.{min, nat_le}
use Rattle.std.proofs.lemmas.Bool.{cases_lt}
use Rattle.std.proofs.Math.Nat.{mul_assoc}
use Rattle.std.proofs.lemmas.Bool.Decides.{nat_tests}
use Rattle.syntax_tree.specs.declared.cases.Cases.{Cases}
use Rattle.syntax_tree.specs.declared.op.Op.{Op}
use Rattle.syntax_tree.specs.declared.op.Op.TheVariants.{Add, Sub, Mul, Div, Rem, Lt, Le, Gt, Ge, Eq, Ne, And, Or}
use Rattle.syntax_tree.specs.declared.op.Sign.{Sign}
use Rattle.syntax_tree.specs.declared.op.Sign.TheVariants.{Plus, Minus, Not}
use Rattle.syntax_tree.specs.Cases.{at_most, cases_of, joint_cases, of_number, of_test, operator_cases, sign_cases}
use Rattle.syntax_tree.specs.Term.{Term}
use Rattle.syntax_tree.proofs.Terms.{terms}

le-mul : (m x y : ℕ) → m ≤ x → 1 ≤ y → m ≤ x * y
le-mul m x zero h k = absurd (omega arith)
le-mul m x (suc y) h k = omega arith

min-mul-large : (a b m : ℕ) → m ≤ a → min (min a m * min b m) m ≡ min (a * b) m
min-mul-large a zero m h = let none : min 0 m ≡ 0 = omega arith in rw none (omega arith)
min-mul-large a (suc b) m h = ⊎_elim (λ none. omega arith) (λ some. at_bound some) (cases_lt m 1)
  where
    at_bound : 1 ≤ m → min (min a m * min (suc b) m) m ≡ min (a * suc b) m
    at_bound some =
        let low : m ≤ min a m * min (suc b) m = le-mul m (min a m) (min (suc b) m) (omega arith) (omega arith) in
        let high : m ≤ a * suc b = le-mul m a (suc b) h (omega arith) in
        omega arith

pub min-mul : (a b m : ℕ) → min (min a m * min b m) m ≡ min (a * b) m
min-mul a b m = ⊎_elim (λ h. ⊎_elim (λ k. small h k) (λ k. large_right k) (cases_lt b m)) (λ h. min-mul-large a b m h) (cases_lt a m)
  where
    small : a < m → b < m → min (min a m * min b m) m ≡ min (a * b) m
    small h k = let e : min a m ≡ a = omega arith in let f : min b m ≡ b = omega arith in rw (e, f) refl

    large_right : m ≤ b → min (min a m * min b m) m ≡ min (a * b) m
    large_right k = let e = min-mul-large b a m k in omega (arith, e)

-- equal up to the bound, and kept so by sums and products
abbrev Same : ℕ → ℕ → ℕ → Type 0
Same m x y = min x m ≡ min y m

same-cut : (m x : ℕ) → Same m (min x m) x
same-cut m x = omega arith

same-add : (m x y v w : ℕ) → Same m x v → Same m y w → Same m (x + y) (v + w)
same-add m x y v w p q = omega arith

same-mul : (m x y v w : ℕ) → Same m x v → Same m y w → Same m (x * y) (v * w)
same-mul m x y v w p q =
    sym (min-mul x y m) ∙ ap (λ n. min (n * min y m) m) p ∙ ap (λ n. min (min v m * n) m) q ∙ min-mul v w m

same-number : (m x y : ℕ) → Same m x y → at_most m (of_number x) ≡ at_most m (of_number y)
same-number m x y p =
    let double : Same m (2 * x) (2 * y) = omega arith in
    λ i. record { value = p i; truth = double i; falsity = p i }

same-test : (m t f u g : ℕ) → Same m t u → Same m f g → at_most m (of_test t f) ≡ at_most m (of_test u g)
same-test m t f u g p q =
    let both = same-add m t f u g p q in
    λ i. record { value = both i; truth = p i; falsity = q i }

pub at_most-sign : (m : ℕ) (sign : Sign) (c : Cases) → at_most m (sign_cases sign (at_most m c)) ≡ at_most m (sign_cases sign c)
at_most-sign m Plus c = same-number m _ _ (same-cut m c.value)
at_most-sign m Minus c = same-number m _ _ (same-cut m c.value)
at_most-sign m Not c = same-test m _ _ _ _ (same-cut m c.falsity) (same-cut m c.truth)

pub at_most-operator : (m : ℕ) (op : Op) (a b : Cases) → at_most m (operator_cases op (at_most m a) (at_most m b)) ≡ at_most m (operator_cases op a b)
at_most-operator m op a b = by_operator op
  where
    cut-mul : (x y : ℕ) → Same m (min x m * min y m) (x * y)
    cut-mul x y = same-mul m _ _ x y (same-cut m x) (same-cut m y)

    both : Same m (min a.value m * min b.value m) (a.value * b.value)
    both = cut-mul a.value b.value

    twice : Same m (2 * (min a.value m * min b.value m)) (2 * (a.value * b.value))
    twice = same-mul m 2 (min a.value m * min b.value m) 2 (a.value * b.value) refl both

    four : Same m (4 * (min a.value m * min b.value m)) (4 * (a.value * b.value))
    four = same-mul m 4 (min a.value m * min b.value m) 4 (a.value * b.value) refl both

    by_operator : (op : Op) → at_most m (operator_cases op (at_most m a) (at_most m b)) ≡ at_most m (operator_cases op a b)
    by_operator Add = same-number m _ _ both
    by_operator Sub = same-number m _ _ both
    by_operator Mul = same-number m _ _ both
    by_operator Div = same-number m _ _ four
    by_operator Rem = same-number m _ _ four
    by_operator Lt = same-test m _ _ _ _ both both
    by_operator Le = same-test m _ _ _ _ both both
    by_operator Gt = same-test m _ _ _ _ both both
    by_operator Ge = same-test m _ _ _ _ both both
    by_operator Eq = same-test m _ _ _ _ both twice
    by_operator Ne = same-test m _ _ _ _ twice both
    by_operator And = same-test m _ _ _ _ (cut-mul a.truth b.truth)
        (same-add m _ _ _ _ (same-cut m a.falsity) (cut-mul a.truth b.falsity))
    by_operator Or = same-test m _ _ _ _ (same-add m _ _ _ _ (same-cut m a.truth) (cut-mul a.falsity b.truth))
        (cut-mul a.falsity b.falsity)

-- a number that is cut off past a bound is tested against it as the number itself
pub nat_le-min : (x m : ℕ) → nat_le (min x (m + 1)) m ≡ nat_le x m
nat_le-min x m = grind (arith, nat_tests)

pub ruleset counts = (terms, at_most-sign, at_most-operator)

-- the cases of several values, of which the first is already among those counted
pub joint_cases-next : (e : Term) (rest : List Term) (t v r m : ℕ) → v ≡ min (cases_of e).value m → r ≡ min (t * v) m
    → min (r * joint_cases rest) m ≡ min (t * joint_cases (e ∷ rest)) m
joint_cases-next e rest t v r m p q =
    let cut : Same m v (cases_of e).value = omega arith in
    let one : Same m r (t * v) = omega arith in
    same-mul m r (joint_cases rest) (t * (cases_of e).value) (joint_cases rest) (one ∙ same-mul m t v t (cases_of e).value refl cut) refl
    ∙ ap (λ n. min n m) (mul_assoc t (cases_of e).value (joint_cases rest))

pub ruleset bounds = (nat_le-min)
