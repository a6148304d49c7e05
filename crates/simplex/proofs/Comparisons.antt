-- A comparison of lines with small numbers stays within 128 bits.
use Rattle.std.proofs.Common.{◌≡◌, refl, ℕ, ◌*◌, ◌≤◌, Bool, true, false, cond, List, [], ◌∷◌, arith, Ok, Err, sym, subst, ℤ, ◌*ℤ◌}
use Rattle.std.specs.Prelude.{Result, IfErr, nat_eq, unsigned_abs}
use Rattle.std.specs.Ordering.{int_cmp, match_ordering}
use Rattle.std.specs.declared.cmp.Ordering.{Ordering}
use Rattle.std.specs.declared.cmp.Ordering.TheVariants.{Less, Equal, Greater}
use Rattle.items.specs.Gives.{◌>>=◌}
use Rattle.whole_numbers.specs.Fits.{product_of}
use Rattle.whole_numbers.specs.declared.wide.Wide as Step
use Rattle.farkas_check.specs.Relations.{entry}
use Rattle.simplex.specs.Calm.{HasSquares}
use Rattle.simplex.specs.Raise.{order_at, comes_before}
use Rattle.simplex.proofs.Small.{AreSmall, HasValue, bind_value, product-small, product_of-fits}

product-fits : (n : ℕ) (a b : ℤ) → HasSquares n → unsigned_abs a ≤ n → unsigned_abs b ≤ n → product_of a b ≡ Ok (a *ℤ b)
product-fits n a b room h k = product_of-fits a b (let x : unsigned_abs (a *ℤ b) ≤ n * n = product-small n n a b h k in omega arith)

abbrev order_ok : Bool → ℤ → ℤ → Result Ordering Step.Wide
order_ok backward x y = Ok (cond backward (int_cmp y x) (int_cmp x y))

order_at-fits : (n : ℕ) (backward : Bool) (a p b q : ℤ) → HasSquares n → unsigned_abs a ≤ n → unsigned_abs p ≤ n → unsigned_abs b ≤ n → unsigned_abs q ≤ n → HasValue (order_at backward a p b q)
order_at-fits n backward a p b q room ha hp hb hq =
    bind_value (product_of a p) (λ x. product_of b q >>= λ y. order_ok backward x y) (a *ℤ p, product-fits n a p room ha hp)
    (λ x e. bind_value (product_of b q) (λ y. order_ok backward x y) (b *ℤ q, product-fits n b q room hb hq) (λ y f. (cond backward (int_cmp y x) (int_cmp x y), refl)))

pub comes_before-fits : (n constants column : ℕ) (line other : List ℤ) (keys : List ℕ) → HasSquares n → AreSmall n line → AreSmall n other → HasValue (comes_before constants column line other keys)
comes_before-fits n constants column line other [] room h k = (false, refl)
comes_before-fits n constants column line other (c ∷ keys) room h k =
    bind_value (order_at (nat_eq c constants) (entry line c) (entry other column) (entry other c) (entry line column))
    (λ order. match_ordering order (Ok true) (comes_before constants column line other keys) (Ok false))
    (order_at-fits n (nat_eq c constants) (entry line c) (entry other column) (entry other c) (entry line column) room (h c) (k column) (k c) (h column))
    (λ order e. go order (comes_before-fits n constants column line other keys room h k))
  where
    go : (order : Ordering) → HasValue (comes_before constants column line other keys) → HasValue (match_ordering order (Ok true) (comes_before constants column line other keys) (Ok false))
    go Less v = (true, refl)
    go Equal v = v
    go Greater v = (false, refl)

abbrev bool_err : Step.Wide → Result Bool Step.Wide
bool_err w = Err w

never : (r : Result Bool Step.Wide) → HasValue r → IfErr r (λ _. ⊥)
never (Ok b) v = tt
never (Err w) v = clash v.0 v.1
  where
    clash : (b : Bool) → (bool_err w) ≡ Ok b → ⊥
    clash b e = cc

pub comparison-calm : (constants column : ℕ) (line other : List ℤ) (keys : List ℕ) (r : Result Bool Step.Wide) → r ≡ comes_before constants column line other keys → (n : ℕ) → HasSquares n → AreSmall n line → AreSmall n other → IfErr r (λ _. ⊥)
comparison-calm constants column line other keys r e n room h k = subst (λ (q : Result Bool Step.Wide). IfErr q (λ _. ⊥)) (sym e) (never (comes_before constants column line other keys) (comes_before-fits n constants column line other keys room h k))
