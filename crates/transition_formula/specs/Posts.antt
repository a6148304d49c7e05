-- A formula that tells some of the numbers afterwards alone, or some of the numbers before.
use Rattle.std.specs.Prelude.{ℕ, ℤ, pos, List, length, map, slice_get, unwrap_or}
use Rattle.linear_terms.specs.declared.col.Col.TheVariants.{At}
use Rattle.linear_terms.specs.declared.row.Case.{Case}
use Rattle.linear_terms.specs.Polynomial.{Polynomial, column_of, constant_of}
use Rattle.transition_formula.specs.Transition.{Transition}

-- the posts at these places
abbrev pub posts_at : List ℕ → List Polynomial → List Polynomial
posts_at places posts = map (λ place. unwrap_or (slice_get posts place) (constant_of (pos 0)))
    places

-- the numbers at these places
abbrev pub numbers_at : List ℕ → List ℤ → List ℤ
numbers_at places after = map (λ place. unwrap_or (slice_get after place) (pos 0)) places

-- the case with the posts at these places, in this order
abbrev pub case_with_posts : List ℕ → Case → Case
case_with_posts places case = record {
  aux = case.aux;
  rows = case.rows;
  post = posts_at places case.post;
}

-- the formula with these of its posts, in this order
abbrev pub with_posts : List ℕ → Transition → Transition
with_posts places f = record {
  from = f.from;
  to = length places;
  cases = map (case_with_posts places) f.cases;
}

-- ---- entry columns as posts

-- the entry columns of these numbers, in this order
abbrev pub entries_at : List ℕ → List Polynomial
entries_at places = map (λ place. column_of (At place)) places

-- the case with the entry columns of these numbers as its posts, in this order
abbrev pub case_with_entries : List ℕ → Case → Case
case_with_entries places case = record {
  aux = case.aux;
  rows = case.rows;
  post = entries_at places;
}

-- the formula with these of its entry columns as its posts, in this order
abbrev pub with_entries : List ℕ → Transition → Transition
with_entries places f = record {
  from = f.from;
  to = length places;
  cases = map (case_with_entries places) f.cases;
}
