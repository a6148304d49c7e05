-- A set of the directions that are made so far, by their terms and constants.
use Rattle.std.specs.Prelude.{◌≡◌, ℤ, List, fold}
use Rattle.std.specs.BTreeSet as tree
use Rattle.std.specs.BTreeSet.{BTreeSet}
use Rattle.std.specs.Cmp.Lexicographic.{slice_cmp}
use Rattle.std.specs.List.{list_any, filter_map}
use Rattle.std.specs.Ordering.{int_cmp, ordering_then, eq_by_cmp}
use Rattle.std.specs.declared.cmp.Ordering.{Ordering}
use Rattle.linear_terms.specs.Equality.{poly_eq}
use Rattle.linear_terms.specs.Expressions.{Made}
use Rattle.linear_terms.specs.Polynomial.{Terms, Polynomial}
use Rattle.transition_formula.specs.Loss.{answer_of}
use Rattle.transition_formula.specs.Places.{term_cmp}
use Rattle.polyhedra.specs.Directions.{with_new}

-- the terms of a direction, and its constant
abbrev pub Key : Type 0
Key = Terms × ℤ

-- the key of a direction
abbrev pub key_of : Polynomial → Key
key_of p = (p.terms, p.rest)

-- an order of keys
abbrev pub key_cmp : Key → Key → Ordering
key_cmp k l = ordering_then (slice_cmp term_cmp k.0 l.0) (int_cmp k.1 l.1)

-- the set has the keys of those made
abbrev pub TellsMade : BTreeSet Key → List Polynomial → Type 0
TellsMade known made = (key : Key) → tree.contains key_cmp known key
    ≡ list_any (λ p. eq_by_cmp key_cmp key (key_of p)) made

-- those made, and then each candidate that can be made and is new
abbrev pub with_each : List Polynomial → List Made → List Polynomial
with_each made candidates = fold (with_new poly_eq) made (filter_map answer_of candidates)
