-- Polynomials put in for the columns of a direction.
use Rattle.std.proofs.Common.{◌≡◌, List, [], ◌∷◌, Ok, refl, ◌∙◌}
use Rattle.linear_terms.specs.declared.col.Col.{Col}
use Rattle.linear_terms.specs.declared.col.Col.TheVariants.{At, Aux}
use Rattle.linear_terms.specs.Expressions.{Made, or_zero, when_made, when_all_made}
use Rattle.linear_terms.specs.Operations.{substituted_polynomial}
use Rattle.linear_terms.specs.Polynomial.{Terms, Polynomial}
use Rattle.linear_terms.specs.Replacement.{put_in}
use Rattle.polyhedra.specs.Changes.{poly_at}
use Rattle.polyhedra.specs.Bounds.{for_entries, put_in_for}

module _ (polys : List Polynomial) where
  abbrev values : Col → Made
  values c = for_entries (λ v. Ok (poly_at polys v)) c

  all-made : (m : List Col) (next : Made) → when_made values m next ≡ next
  all-made [] next = refl
  all-made (At v ∷ m) next = all-made m next
  all-made (Aux n ∷ m) next = all-made m next

  all-terms-made : (ts : Terms) (next : Made) → when_all_made values ts next ≡ next
  all-terms-made [] next = refl
  all-terms-made (t ∷ ts) next = all-made t.0 (when_all_made values ts next) ∙ all-terms-made ts next

  same_column : (c : Col) → or_zero (values c) ≡ put_in polys [] c
  same_column (At v) = refl
  same_column (Aux n) = refl

  -- where each can be made it is a substitution
  pub put_in_for-substituted : (d : Polynomial) → put_in_for polys d ≡ substituted_polynomial (put_in polys []) d
  put_in_for-substituted d = all-terms-made d.terms (substituted_polynomial (λ c. or_zero (values c)) d) ∙ (λ i. substituted_polynomial (λ c. same_column c i) d)
