-- What is asked of the ends of formulas.
use Rattle.std.specs.Prelude.{◌≡◌, ◌<◌, ◌≤◌, ℕ, pos, List, [], ◌∷◌, length, IsTrue}
use Rattle.std.specs.List.{AllByRecursion}
use Rattle.std.specs.List.Sorted.{IsStrictlySortedBy}
use Rattle.std.specs.Ordering.{nat_cmp}
use Rattle.linear_terms.specs.declared.col.Col.TheVariants.{At}
use Rattle.linear_terms.specs.Polynomial.{Polynomial, IsCanonical}
use Rattle.transition_formula.specs.Transition.{is_below}

-- the columns of an end, those that are named, linear terms that a text compares, the rule of the
-- program, and further directions
pub record Vocabulary : Type 0 where
  pub columns : ℕ
  pub named : List ℕ
  pub harvested : List Polynomial
  pub rule : ℕ
  pub extra : List Polynomial

-- a linear polynomial over entry columns, without a constant
pub record IsDirection (d : Polynomial) : Type 0 where
  pub single : AllByRecursion (λ t. (v : ℕ) × (t.0 ≡ At v ∷ [])) d.terms
  pub plain : d.rest ≡ pos 0

-- a direction over the first so many columns, in canonical form
pub record IsDirectionOver (columns : ℕ) (d : Polynomial) : Type 0 where
  pub straight : IsDirection d
  pub canonical : IsCanonical d.terms
  pub within : AllByRecursion (λ t. AllByRecursion (λ c. IsTrue (is_below columns 0 c)) t.0) d.terms

-- the named columns ascend and are columns; there are at most 32 harvested terms, and they and the
-- further directions are directions
pub record IsVocabulary (voc : Vocabulary) : Type 0 where
  pub ascending : IsStrictlySortedBy nat_cmp voc.named
  pub named : AllByRecursion (λ v. v < voc.columns) voc.named
  pub few : length voc.harvested ≤ 32
  pub harvested : AllByRecursion (IsDirectionOver voc.columns) voc.harvested
  pub extra : AllByRecursion (IsDirectionOver voc.columns) voc.extra
