-- Polynomials that operations make of others: their monomials stand in print order, and their
-- columns pass a test that those of their operands pass. So do rows made of them.
use Rattle.std.proofs.Common.{◌≡◌, ℕ, zero, suc, List, [], ◌∷◌, Bool, Ok, Err, refl, sym, subst, ◌∙◌, ℤ, pos, negsuc}
use Rattle.std.specs.Prelude.{IsTrue, slice_get, unwrap_or}
use Rattle.std.specs.List.{AllByRecursion}
use Rattle.items.specs.Gives.{◌>>=◌}
use Rattle.items.proofs.Gives.{on_ok}
use Rattle.items.proofs.Each.{each-any}
use Rattle.linear_terms.specs.declared.col.Col.{Col}
use Rattle.linear_terms.specs.declared.col.Col.TheVariants.{At, Aux}
use Rattle.linear_terms.specs.declared.row.Kind.TheVariants.{AtMost, Equal}
use Rattle.linear_terms.specs.declared.row.Row.{Row}
use Rattle.linear_terms.specs.Expressions.{Made, ◌⊟◌, whole, weighted_sum, sum_from, or_zero, at_most, equation}
use Rattle.linear_terms.specs.Operations.{multiple_of, sum_of_polys, product_of_polys, substituted_polynomial}
use Rattle.linear_terms.specs.Polynomial.{Polynomial, IsCanonical, constant_of}
use Rattle.linear_terms.specs.Replacement.{put_in}
use Rattle.linear_terms.proofs.Canonical.{IsCanonical-nil, IsCanonical-sum_of_polys, IsCanonical-substituted}
use Rattle.linear_terms.proofs.Columns.{EachColumn, sum_of_polys-each, multiple_of-each, product_of_polys-each, substituted-each}
use Rattle.transition_formula.specs.Transition.{every_column}
use Rattle.transition_formula.proofs.ColumnTests.{test_from_columns}
use Rattle.polyhedra.specs.Bounds.{put_in_for}
use Rattle.polyhedra.proofs.PutIn.{put_in_for-substituted}
use Rattle.polyhedra.proofs.RowShapes.{HasIfMade}

module _ (test : Col → Bool) where
  abbrev pub Passes : Polynomial → Type 0
  Passes p = EachColumn (λ c. IsTrue (test c)) p.terms

  -- in print order, with columns that pass
  pub record IsSound (p : Polynomial) : Type 0 where
    pub canonical : IsCanonical p.terms
    pub passes : Passes p

  pub record IsSoundIfMade (made : Made) : Type 0 where
    pub as_made : (p : Polynomial) → made ≡ Ok p → IsSound p

  pub constant-sound : (n : ℤ) → IsSound (constant_of n)
  constant-sound n = record { canonical = IsCanonical-nil; passes = tt }

  pub sound-Ok : (p : Polynomial) → IsSound p → IsSoundIfMade (Ok p)
  sound-Ok p h = record { as_made = λ q e. let same : p ≡ q = cc in subst IsSound same h }

  pub whole-sound : (n : ℤ) → IsSoundIfMade (whole n)
  whole-sound n = sound-Ok (constant_of n) (constant-sound n)

  sum-sound : (p q r : Polynomial) → sum_of_polys p q ≡ Ok r → IsSound p → Passes q → IsSound r
  sum-sound p q r e h k = record { canonical = IsCanonical-sum_of_polys p q r e h.canonical; passes = sum_of_polys-each (λ c. IsTrue (test c)) p q r e h.passes k }

  pub difference-sound : (a b : Made) → IsSoundIfMade a → IsSoundIfMade b → IsSoundIfMade (a ⊟ b)
  difference-sound a b of_a of_b = record {
    as_made = λ r e.
        on_ok a (λ p. b >>= λ q. multiple_of q (negsuc 0) >>= λ turned. sum_of_polys p turned) r e (λ p f g.
        on_ok b (λ q. multiple_of q (negsuc 0) >>= λ turned. sum_of_polys p turned) r g (λ q h l.
        on_ok (multiple_of q (negsuc 0)) (λ turned. sum_of_polys p turned) r l (λ t m n.
        sum-sound p t r n (of_a.as_made p f) (multiple_of-each (λ c. IsTrue (test c)) q (negsuc 0) t m (of_b.as_made q h).passes))));
  }

  pub or_zero-sound : (m : Made) → IsSoundIfMade m → IsSound (or_zero m)
  or_zero-sound (Ok p) h = h.as_made p refl
  or_zero-sound (Err e) h = constant-sound (pos 0)

  sum_from-sound : (total : Polynomial) (ns : List ℤ) (ps : List Polynomial) → IsSound total → AllByRecursion IsSound ps → IsSoundIfMade (sum_from total ns ps)
  sum_from-sound total [] ps h k = sound-Ok total h
  sum_from-sound total (n ∷ ns) [] h k = sound-Ok total h
  sum_from-sound total (n ∷ ns) (p ∷ ps) h k = record {
    as_made = λ r e.
        on_ok (product_of_polys (constant_of n) p >>= λ q. sum_of_polys total q) (λ next. sum_from next ns ps) r e (λ next f g.
        on_ok (product_of_polys (constant_of n) p) (λ q. sum_of_polys total q) next f (λ q l m.
        (sum_from-sound next ns ps (sum-sound total q next m h (product_of_polys-each (λ c. IsTrue (test c)) (constant_of n) p q l tt k.0.passes)) k.1).as_made r g));
  }

  pub weighted-sound : (ns : List ℤ) (ps : List Polynomial) → AllByRecursion IsSound ps → IsSoundIfMade (weighted_sum ns ps)
  weighted-sound ns ps h = sum_from-sound (constant_of (pos 0)) ns ps (constant-sound (pos 0)) h

  found-passes : (polys : List Polynomial) (v : ℕ) → AllByRecursion IsSound polys → Passes (unwrap_or (slice_get polys v) (constant_of (pos 0)))
  found-passes [] v h = tt
  found-passes (p ∷ polys) zero h = h.0.passes
  found-passes (p ∷ polys) (suc v) h = found-passes polys v h.1

  pub put_in_for-sound : (polys : List Polynomial) (d : Polynomial) → AllByRecursion IsSound polys → IsSoundIfMade (put_in_for polys d)
  put_in_for-sound polys d h = record {
    as_made = λ p e.
        let done : substituted_polynomial (put_in polys []) d ≡ Ok p = sym (put_in_for-substituted polys d) ∙ e in
        record {
          canonical = IsCanonical-substituted (put_in polys []) d p done;
          passes = substituted-each (λ c. Unit {0}) (λ c. IsTrue (test c)) (put_in polys []) (λ c any. put c) d p done (each-any (λ t. AllByRecursion (λ c. Unit {0}) t.0) (λ t. each-any (λ c. Unit {0}) (λ c. tt) t.0) d.terms);
        };
  }
    where
      put : (c : Col) → Passes (put_in polys [] c)
      put (At v) = found-passes polys v h
      put (Aux n) = tt

  -- ---- rows

  pub record IsSoundRow (row : Row) : Type 0 where
    pub canonical : IsCanonical row.poly.terms
    pub passes : IsTrue (every_column test row.poly)

  sound-row : (p : Polynomial) → IsSound p → (row : Row) → row.poly ≡ p → IsSoundRow row
  sound-row p h row e =
      record {
        canonical = subst (λ q. IsCanonical q.terms) (sym e) h.canonical;
        passes = subst (λ q. IsTrue (every_column test q)) (sym e) (test_from_columns test p h.passes);
      }

  pub at_most-sound : (a : Made) → IsSoundIfMade a → HasIfMade IsSoundRow (at_most a)
  at_most-sound a h row e =
      on_ok a (λ p. Ok record { poly = p; kind = AtMost }) row e (λ p f g. let same : p ≡ row.poly = cc in sound-row p (h.as_made p f) row (sym same))

  pub equation-sound : (a : Made) → IsSoundIfMade a → HasIfMade IsSoundRow (equation a)
  equation-sound a h row e =
      on_ok a (λ p. Ok record { poly = p; kind = Equal }) row e (λ p f g. let same : p ≡ row.poly = cc in sound-row p (h.as_made p f) row (sym same))
