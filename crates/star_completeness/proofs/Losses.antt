-- What is not noted is made: an expression that cannot be made is a loss, never want of memory.
use Rattle.std.proofs.Common.{◌≡◌, List, [], ◌∷◌, Result, Ok, Err, refl}
use Rattle.items.specs.Gives.{◌>>=◌}
use Rattle.linear_terms.specs.declared.col.Col.{Col}
use Rattle.linear_terms.specs.declared.error.TermError.{TermError}
use Rattle.linear_terms.specs.declared.error.TermError.TheVariants.{Wide, Degree, Memory}
use Rattle.linear_terms.specs.Expressions.{Made, ◌⊠◌, ◌⊟◌, at_most, or_zero, when_made, when_all_made, put_into}
use Rattle.linear_terms.specs.Operations.{difference_of_polys, product_of_polys, substituted_polynomial}
use Rattle.linear_terms.specs.Polynomial.{Terms, Polynomial}
use Rattle.transition_formula.specs.Loss.{losses_of}
use Rattle.transition_formula.proofs.NotedErrors.{Tells, bind-tells, difference_of_polys-tells, product_of_polys-tells, substituted-tells}
use Rattle.posing.specs.Logs.{loss_notes}

-- where no loss is noted it is made
pub made-unnoted : {X : Type 0} (r : Result X TermError) → Tells r → loss_notes (losses_of r) ≡ [] → (x : X) × (r ≡ Ok x)
made-unnoted (Ok x) tells none = (x, refl)
made-unnoted (Err (Wide left right times)) tells none = cc
made-unnoted (Err Degree) tells none = cc
made-unnoted (Err Memory) tells none = absurd (tells refl)

-- ---- expressions

pub value-tells : {X : Type 0} (x : X) → Tells (Ok x)
value-tells x e = cc

pub minus-tells : (a b : Made) → Tells a → Tells b → Tells (a ⊟ b)
minus-tells a b h k = bind-tells a (λ p. b >>= λ q. difference_of_polys p q) h (λ p. bind-tells b (λ q. difference_of_polys p q) k (difference_of_polys-tells p))

pub times-tells : (a b : Made) → Tells a → Tells b → Tells (a ⊠ b)
times-tells a b h k = bind-tells a (λ p. b >>= λ q. product_of_polys p q) h (λ p. bind-tells b (λ q. product_of_polys p q) k (product_of_polys-tells p))

pub at_most-tells : (a : Made) → Tells a → Tells (at_most a)
at_most-tells a h = bind-tells a _ h (λ p. value-tells _)

module _ (values : Col → Made) (tells : (c : Col) → Tells (values c)) where
  when-tells : (m : List Col) (next : Made) → Tells next → Tells (when_made values m next)
  when-tells [] next h = h
  when-tells (c ∷ m) next h = bind-tells (values c) (λ p. when_made values m next) (tells c) (λ p. when-tells m next h)

  when_all-tells : (ts : Terms) (next : Made) → Tells next → Tells (when_all_made values ts next)
  when_all-tells [] next h = h
  when_all-tells (t ∷ ts) next h = when-tells t.0 (when_all_made values ts next) (when_all-tells ts next h)

  pub put_into-tells : (p : Polynomial) → Tells (put_into values p)
  put_into-tells p = when_all-tells p.terms (substituted_polynomial (λ c. or_zero (values c)) p) (substituted-tells (λ c. or_zero (values c)) p)
