-- A relation, made of its numbers, and how many it has.
use Rattle.std.specs.Prelude.{◌≡◌, ℕ, ℤ, List, length}
use Rattle.farkas_check.specs.Relations.{numbers_of}
use Rattle.farkas_check.specs.declared.stratum.Relation.{Relation}
use Rattle.farkas_check.specs.declared.stratum.Tie.{Tie}

-- The relation of numbers: first those of the terms, then those of the lower terms, and last that
-- of 1.
pub record IsRelationWith (terms lower : ℕ) (numbers : List ℤ) (ties : List Tie)
    (relation : Relation) : Type 0 where
  pub a : length relation.a ≡ terms
  pub b : length relation.b ≡ lower
  pub is : numbers_of relation ≡ numbers
  pub tied : relation.ties ≡ ties

-- a relation with a number for each term and each lower term
pub record HasCounts (terms lower : ℕ) (relation : Relation) : Type 0 where
  pub a : length relation.a ≡ terms
  pub b : length relation.b ≡ lower
