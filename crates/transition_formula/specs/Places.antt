-- Where rows stand that are one but for the constant of an inequality: a map from what they have in
-- common.
use Rattle.std.specs.Prelude.{◌≡◌, ◌+◌, ℕ, ℤ, List, [], ◌∷◌, map, Option, None, Some, Bool, if◌then◌else◌}
use Rattle.std.specs.BTreeMap as tree
use Rattle.std.specs.BTreeMap.{BTreeMap}
use Rattle.std.specs.Cmp.Lexicographic.{slice_cmp}
use Rattle.std.specs.Option.{option_map, option_cmp}
use Rattle.std.specs.Ordering.{int_cmp, ordering_then, eq_by_cmp}
use Rattle.std.specs.declared.cmp.Ordering.{Ordering}
use Rattle.linear_terms.specs.declared.col.Col.{Col}
use Rattle.linear_terms.specs.declared.row.Kind.{Kind}
use Rattle.linear_terms.specs.declared.row.Kind.TheVariants.{AtMost, Equal}
use Rattle.linear_terms.specs.declared.row.Row.{Row}
use Rattle.linear_terms.specs.Mono.{mono_cmp}
use Rattle.linear_terms.specs.Polynomial.{Terms, Polynomial}

-- the terms, and of an equation its constant too
abbrev pub RowKey : Type 0
RowKey = Option ℤ × Terms

-- the key of a row of the kind with the polynomial
abbrev pub key_by : Kind → Polynomial → RowKey
key_by AtMost p = (None, p.terms)
key_by Equal p = (Some p.rest, p.terms)

-- the key of a row, which it shares with those that are alike
abbrev pub key_of : Row → RowKey
key_of row = key_by row.kind row.poly

-- an order of terms, by the monomial and then by the coefficient
abbrev pub term_cmp : List Col × ℤ → List Col × ℤ → Ordering
term_cmp t u = ordering_then (mono_cmp t.0 u.0) (int_cmp t.1 u.1)

-- an order of keys, by the constant, if there is one, and then by the terms from the first on
abbrev pub key_cmp : RowKey → RowKey → Ordering
key_cmp k l = ordering_then (option_cmp int_cmp k.0 l.0) (slice_cmp term_cmp k.1 l.1)

-- the place of the first that passes
abbrev pub first_place : {X : Type 0} → (X → Bool) → List X → Option ℕ
first_place test [] = None
first_place test (x ∷ xs) = if test x then Some 0 else option_map (λ n. n + 1) (first_place test xs)

-- no key stands twice
abbrev pub EachApart : List RowKey → Type 0
EachApart [] = Unit {0}
EachApart (key ∷ keys) = (first_place (eq_by_cmp key_cmp key) keys ≡ None) × EachApart keys

-- the map has for each key the place of the first row with it
abbrev pub TellsPlaces : BTreeMap RowKey ℕ → List Row → Type 0
TellsPlaces places rows = (key : RowKey)
    → tree.get key_cmp places key ≡ first_place (eq_by_cmp key_cmp key) (map key_of rows)
