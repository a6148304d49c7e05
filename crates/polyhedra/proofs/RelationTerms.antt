-- The relations of a true answer: the terms are the lower terms and a constant.
use Rattle.std.proofs.Common.{◌≡◌, List, [], ◌∷◌, ◌++◌, length, Bool, true, false, map, refl, sym, ◌∙◌, arith, ℤ, pos, ◌+ℤ◌, ◌-ℤ◌, ◌*ℤ◌}
use Rattle.std.specs.Prelude.{Option, None, Some, neg_ℤ, ◌==◌, ◌&&◌}
use Rattle.std.specs.List.{AllByRecursion, filter}
use Rattle.std.proofs.lemmas.Int.{ints}
use Rattle.whole_numbers.proofs.Ring.{ring}
use Rattle.items.proofs.Each.{each-more, each-both}
use Rattle.linear_terms.specs.Polynomial.{Polynomial}
use Rattle.linear_terms.specs.Row.{RowsHold}
use Rattle.linear_terms.specs.Value.{Valuation, value_of}
use Rattle.whole_numbers.specs.Dot.{dot}
use Rattle.farkas_check.specs.declared.answer.Answer.{Answer}
use Rattle.farkas_check.specs.declared.answer.Answer.TheVariants as answer
use Rattle.farkas_check.specs.declared.question.Question.TheVariants.{Stratum}
use Rattle.farkas_check.specs.declared.stratum.Change.{Change}
use Rattle.farkas_check.specs.declared.stratum.Relation.{Relation}
use Rattle.farkas_check.specs.Meaning.{IsTrueAnswer}
use Rattle.farkas_check.specs.Relations.{Term, Lower, One, numbers_of, term_count, difference}
use Rattle.farkas_check.specs.Stratum.{has_unknowns, IsZeroUnder}
use Rattle.posing.specs.Posing.{◌>>=◌, Always}
use Rattle.polyhedra.specs.Relations.{relations_in, relations_of}
use Rattle.polyhedra.proofs.Lists.{same_number, each-filter, filter-passes}

-- the terms are the lower terms and the constant, wherever the case's rows hold under whole numbers
abbrev pub IsTrueIn : List Polynomial → Relation → Change → Type 0
IsTrueIn lower r case = (at : Valuation) → RowsHold at case.rows → dot r.a (map (value_of at) case.terms) ≡ dot r.b (map (value_of at) lower) +ℤ r.c

abbrev pub IsTrueRelation : List Change → List Polynomial → Relation → Type 0
IsTrueRelation cases lower r = AllByRecursion (IsTrueIn lower r) cases

abbrev pub AreTrueRelations : List Change → List Polynomial → Option (List Relation) → Type 0
AreTrueRelations cases lower None = Unit {0}
AreTrueRelations cases lower (Some relations) = AllByRecursion (IsTrueRelation cases lower) relations

-- ---- the difference of numbers for terms, lower terms and 1

difference-constant : (value : Polynomial → ℤ) (c : ℤ) → difference value (pos 1) (c ∷ []) (One ∷ []) ≡ pos 0 -ℤ c
difference-constant value c = minus c
  where
    minus : (x : ℤ) → x *ℤ neg_ℤ (pos 1) +ℤ pos 0 ≡ pos 0 -ℤ x
    minus x = omega (arith, ints)

difference-lower : (value : Polynomial → ℤ) (b : List ℤ) (c : ℤ) (lower : List Polynomial) → length b ≡ length lower
    → difference value (pos 1) (b ++ (c ∷ [])) (map Lower lower ++ (One ∷ [])) ≡ pos 0 -ℤ (dot b (map value lower) +ℤ c)
difference-lower value [] c [] e = difference-constant value c ∙ plus_none c
  where
    plus_none : (x : ℤ) → pos 0 -ℤ x ≡ pos 0 -ℤ (pos 0 +ℤ x)
    plus_none x = omega (arith, ints)
difference-lower value [] c (p ∷ lower) e = absurd (omega (arith, e))
difference-lower value (n ∷ b) c [] e = absurd (omega (arith, e))
difference-lower value (n ∷ b) c (p ∷ lower) e = one n (value p) _ (dot b (map value lower)) c (difference-lower value b c lower (omega (arith, e)))
  where
    turned : (n x : ℤ) → n *ℤ neg_ℤ x ≡ pos 0 -ℤ n *ℤ x
    turned n x = simp ring (omega (arith, ints))

    one : (n x s t c : ℤ) → s ≡ pos 0 -ℤ (t +ℤ c) → n *ℤ neg_ℤ x +ℤ s ≡ pos 0 -ℤ (n *ℤ x +ℤ t +ℤ c)
    one n x s t c e = let split = turned n x in omega (arith, ints)

difference-terms : (value : Polynomial → ℤ) (a b : List ℤ) (c : ℤ) (terms lower : List Polynomial) → length a ≡ length terms → length b ≡ length lower
    → difference value (pos 1) (a ++ (b ++ (c ∷ []))) (map Term terms ++ (map Lower lower ++ (One ∷ []))) ≡ dot a (map value terms) -ℤ (dot b (map value lower) +ℤ c)
difference-terms value [] b c [] lower e f = difference-lower value b c lower f
difference-terms value [] b c (p ∷ terms) lower e f = absurd (omega (arith, e))
difference-terms value (n ∷ a) b c [] lower e f = absurd (omega (arith, e))
difference-terms value (n ∷ a) b c (p ∷ terms) lower e f = one (n *ℤ value p) _ (dot a (map value terms)) _ (difference-terms value a b c terms lower (omega (arith, e)) f)
  where
    one : (x s t u : ℤ) → s ≡ t -ℤ u → x +ℤ s ≡ x +ℤ t -ℤ u
    one x s t u e = omega (arith, ints)

-- ---- relations

both_of : (x y : Bool) → (x && y) ≡ true → (x ≡ true) × (y ≡ true)
both_of true true e = (refl, refl)
both_of true false e = cc
both_of false y e = cc

-- each case has as many terms as the first
module _ (cases : List Change) (lower : List Polynomial) (count : AllByRecursion (λ (c : Change). length c.terms ≡ term_count cases) cases) where
  relation-true : (r : Relation) → has_unknowns cases lower r ≡ true → AllByRecursion (IsZeroUnder lower (numbers_of r)) cases → IsTrueRelation cases lower r
  relation-true r e zeros =
      each-more (λ (c : Change). (length c.terms ≡ term_count cases) × IsZeroUnder lower (numbers_of r) c) (IsTrueIn lower r) one cases
      (each-both (λ (c : Change). length c.terms ≡ term_count cases) (IsZeroUnder lower (numbers_of r)) cases count zeros)
    where
      equal : (x y z : ℤ) → z ≡ pos 0 → z ≡ x -ℤ y → x ≡ y
      equal x y z f g = omega (arith, ints)

      lengths : (length r.a ≡ term_count cases) × (length r.b ≡ length lower)
      lengths = let parts = both_of (length r.a == term_count cases) (length r.b == length lower) e in
          (same_number (length r.a) (term_count cases) parts.0, same_number (length r.b) (length lower) parts.1)

      one : (c : Change) → (length c.terms ≡ term_count cases) × IsZeroUnder lower (numbers_of r) c → IsTrueIn lower r c
      one c (long, is_zero_there) at rows = equal _ _ _ (is_zero_there at rows) (difference-terms (value_of at) r.a r.b r.c c.terms lower (lengths.0 ∙ sym long) lengths.1)

  -- whatever the answer, as long as it is true
  pub relations-true : Always (AreTrueRelations cases lower) (relations_of cases lower)
  unfolding relations_of ◌>>=◌
  relations-true = told
    where
      told : (a : Answer) → IsTrueAnswer (Stratum record { cases = cases; lower = lower }) a → AreTrueRelations cases lower (relations_in cases lower a)
      told (answer.Yes by) is_true = tt
      told (answer.No point) is_true = tt
      told (answer.Bound at certs case point) is_true = tt
      told (answer.Unbounded case point ray) is_true = tt
      told (answer.Basis relations spots free) is_true =
          each-more (λ r. (has_unknowns cases lower r ≡ true) × AllByRecursion (IsZeroUnder lower (numbers_of r)) cases) (IsTrueRelation cases lower) (λ r both. relation-true r both.0 both.1) (filter (has_unknowns cases lower) relations)
          (each-both (λ r. has_unknowns cases lower r ≡ true) (λ r. AllByRecursion (IsZeroUnder lower (numbers_of r)) cases) (filter (has_unknowns cases lower) relations)
          (filter-passes (has_unknowns cases lower) relations)
          (each-filter (λ r. AllByRecursion (IsZeroUnder lower (numbers_of r)) cases) (has_unknowns cases lower) relations is_true))
      told (answer.Limit limit) is_true = tt
