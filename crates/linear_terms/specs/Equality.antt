-- The test of equality of polynomials, with the laws that `Eq` asks for.
use Rattle.std.specs.Prelude.{ℤ, List, Bool, ◌&&◌}
use Rattle.std.specs.Ordering.{eq_by_cmp, int_eq}
use Rattle.std.specs.Cmp.{IsEquivalence, eq_by_cmp_equiv, int_eq_equiv}
use Rattle.std.specs.Cmp.Lexicographic.{pointwise, lists_equiv}
use Rattle.std.proofs.lemmas.Cmp.{on_equiv, and_equiv}
use Rattle.linear_terms.specs.declared.col.Col.{Col}
use Rattle.linear_terms.specs.Mono.{mono_cmp}
use Rattle.linear_terms.specs.MonoOrder.{mono_cmp_total}
use Rattle.linear_terms.specs.Polynomial.{Polynomial}

-- the same monomial and the same coefficient
abbrev pub term_eq : List Col × ℤ → List Col × ℤ → Bool
term_eq t u = eq_by_cmp mono_cmp t.0 u.0 && int_eq t.1 u.1

-- the same terms and the same constant
abbrev pub poly_eq : Polynomial → Polynomial → Bool
poly_eq p q = pointwise term_eq p.terms q.terms && int_eq p.rest q.rest

-- equality of polynomials is an equivalence
pub poly_eq_equiv : IsEquivalence poly_eq
poly_eq_equiv =
    and_equiv
    (on_equiv (λ (p : Polynomial). p.terms)
    (lists_equiv (and_equiv (on_equiv (λ (t : List Col × ℤ). t.0) (eq_by_cmp_equiv mono_cmp_total))
    (on_equiv (λ (t : List Col × ℤ). t.1) int_eq_equiv))))
    (on_equiv (λ (p : Polynomial). p.rest) int_eq_equiv)
