-- One column of a polynomial: where it occurs; what is put in for an auxiliary, and new numbers for
-- all of them.
use Rattle.std.specs.Prelude.{◌<◌, ℕ, List, map, Bool, true, false, ◌==◌, nat_lt, not, IsTrue, if◌then◌else◌}
use Rattle.std.specs.List.{list_any, filter}
use Rattle.linear_terms.specs.declared.col.Col.{Col}
use Rattle.linear_terms.specs.declared.col.Col.TheVariants.{At, Aux}
use Rattle.linear_terms.specs.Polynomial.{Polynomial, column_of}

-- the column is the auxiliary n
abbrev pub is_auxiliary : ℕ → Col → Bool
is_auxiliary n (At m) = false
is_auxiliary n (Aux m) = m == n

-- the auxiliary n is one of the columns
abbrev pub has_auxiliary : ℕ → List Col → Bool
has_auxiliary n m = list_any (is_auxiliary n) m

-- the auxiliary n occurs in the polynomial
abbrev pub occurs : ℕ → Polynomial → Bool
occurs n p = list_any (λ t. has_auxiliary n t.0) p.terms

-- the column is the entry column n
abbrev pub is_entry : ℕ → Col → Bool
is_entry n (At m) = m == n
is_entry n (Aux m) = false

-- the entry column n occurs in the polynomial
abbrev pub has_entry : ℕ → Polynomial → Bool
has_entry n p = list_any (λ t. list_any (is_entry n) t.0) p.terms

-- the polynomial without the terms in which the auxiliary n occurs
abbrev pub without : ℕ → Polynomial → Polynomial
without n p = record { terms = filter (λ t. not (has_auxiliary n t.0)) p.terms; rest = p.rest }

-- the auxiliary n stands for a polynomial, each other column for itself
abbrev pub put_for : ℕ → Polynomial → Col → Polynomial
put_for n by (At m) = column_of (At m)
put_for n by (Aux m) = if m == n then by else column_of (Aux m)

-- the column with a new number where it is an auxiliary
abbrev pub renumbered_column : (ℕ → ℕ) → Col → Col
renumbered_column number (At m) = At m
renumbered_column number (Aux m) = Aux (number m)

-- the polynomial with new numbers for its auxiliaries, each term at its place
abbrev pub renumbered_polynomial : (ℕ → ℕ) → Polynomial → Polynomial
renumbered_polynomial number p = record {
  terms = map (λ t. (map (renumbered_column number) t.0, t.1)) p.terms;
  rest = p.rest;
}

-- the column is no auxiliary, or one with a number below `end`
abbrev pub is_numbered : ℕ → Col → Bool
is_numbered end (At m) = true
is_numbered end (Aux m) = nat_lt m end

-- of two auxiliaries that occur the smaller one keeps the smaller number
abbrev pub KeepsOrder : (ℕ → ℕ) → (ℕ → Bool) → Type 0
KeepsOrder number occurring = (m n : ℕ) → IsTrue (occurring m) → IsTrue (occurring n) → m < n
    → number m < number n
