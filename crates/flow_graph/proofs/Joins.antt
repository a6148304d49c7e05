-- What is left of the starts while those behind a place are taken away from the end.
use Rattle.std.proofs.Common.{inl, inr, ◌≡◌, ℕ, ◌-◌, ◌<◌, ◌≤◌, List, [], ◌∷◌, ◌++◌, length, get_or, take, sym, ap, subst, arith, ◌∙◌, Option, Some, None}
use Rattle.std.specs.Option.{option_to_list}
use Rattle.std.proofs.lemmas.List.{append-nil}
use Rattle.std.proofs.lemmas.Bool.{cases_lt}
use Rattle.std.proofs.lemmas.Grind.{common_steps}
use Rattle.std.proofs.lemmas.List.{get_or_default}
use Rattle.std.specs.List.{Contains}
use Rattle.flow_graph.specs.Search.{IsAscending, IsCut}

pub record IsPopped (old new : List ℕ) (place : ℕ) : Type 0 where
  pub from : (start : ℕ) → Contains new start → Contains old start
  pub rest : (start : ℕ) → Contains old start → start ≤ place → Contains new start
  pub ascending : IsAscending new

abbrev pub init : List ℕ → List ℕ
init xs = take (length xs - 1) xs

init_length : (xs : List ℕ) → length (init xs) ≡ length xs - 1
init_length xs = grind (arith, common_steps)

init_at : (xs : List ℕ) (i d : ℕ) → i < length xs - 1 → get_or (init xs) i d ≡ get_or xs i d
init_at xs i d l = grind (arith, common_steps)

-- what is in the front of a list, and what in all of it but the last
pub from_init : (xs : List ℕ) (x : ℕ) → Contains (init xs) x → Contains xs x
from_init xs x c = let l : c.0 < length xs - 1 = omega (arith, c.1, init_length xs) in
    (c.0, omega (arith, l), sym (init_at xs c.0 x l) ∙ c.2)

pub into_init : (xs : List ℕ) (x : ℕ) → Contains xs x → (get_or xs (length xs - 1) 0 ≡ x → ⊥) → Contains (init xs) x
into_init xs x c ne = elim (cases_lt c.0 (length xs - 1)) [
  | inl l ↦ (c.0, omega (arith, l, init_length xs), init_at xs c.0 x l ∙ c.2)
  | inr ge ↦ let e : length xs - 1 ≡ c.0 = omega (arith, ge, c.1) in
      absurd (ne (ap (λ (k : ℕ). get_or xs k 0) e ∙ get_or_default xs c.0 0 x c.1 ∙ c.2))
]

pub init_ascending : (xs : List ℕ) → IsAscending xs → IsAscending (init xs)
init_ascending xs a i j l h = let k : j < length xs - 1 = omega (arith, h, init_length xs) in
    rw (init_at xs i 0 (omega (arith, l, k)), init_at xs j 0 k) (a i j l (omega (arith, k)))

pub popped_self : (xs : List ℕ) (place : ℕ) → IsAscending xs → IsPopped xs xs place
popped_self xs place a = record { from = λ x c. c; rest = λ x c l. c; ascending = a }

pub popped_more : (xs ys : List ℕ) (place : ℕ) → IsPopped xs ys place → place < get_or ys (length ys - 1) 0 → IsPopped xs (init ys) place
popped_more xs ys place p l = record {
  from = λ x c. p.from x (from_init ys x c);
  rest = λ x c u. into_init ys x (p.rest x c u) (λ e. omega (arith, e, l, u));
  ascending = init_ascending ys p.ascending;
}

-- all but the last of an ascending list are less than the last
pub init_less : (xs : List ℕ) (x : ℕ) → IsAscending xs → Contains (init xs) x → x < get_or xs (length xs - 1) 0
init_less xs x a c =
    let l : c.0 < length xs - 1 = omega (arith, c.1, init_length xs) in
    let b = a c.0 (length xs - 1) l (omega (arith, l)) in
    let e : get_or xs c.0 0 ≡ x = get_or_default xs c.0 0 x (omega (arith, l)) ∙ sym (init_at xs c.0 x l) ∙ c.2 in
    omega (arith, b, e)

-- all of an ascending list are at most the last
pub at_most_last : (xs : List ℕ) (x : ℕ) → IsAscending xs → Contains xs x → x ≤ get_or xs (length xs - 1) 0
at_most_last xs x a c = elim (cases_lt c.0 (length xs - 1)) [
  | inl l ↦ let b = a c.0 (length xs - 1) l (omega (arith, c.1)) in omega (arith, b, get_or_default xs c.0 0 x c.1, c.2)
  | inr ge ↦ let e : length xs - 1 ≡ c.0 = omega (arith, ge, c.1) in
      omega (arith, ap (λ (k : ℕ). get_or xs k 0) e, get_or_default xs c.0 0 x c.1, c.2)
]

pub popped_all : (xs ys : List ℕ) (place : ℕ) → IsPopped xs ys place → get_or ys (length ys - 1) 0 ≤ place → IsCut xs ys place
popped_all xs ys place p l = record {
  from = p.from;
  rest = p.rest;
  low = λ x c. let m = at_most_last ys x p.ascending c in omega (arith, m, l);
  ascending = p.ascending;
}

init_push : (zs : List ℕ) (x : ℕ) → init (zs ++ x ∷ []) ≡ zs
init_push zs x = grind (arith, common_steps)

pub popped_step : (xs ys zs : List ℕ) (last : Option ℕ) (place : ℕ) → IsPopped xs ys place → ys ≡ zs ++ option_to_list last
    → place < get_or ys (length ys - 1) 0 → IsPopped xs zs place
popped_step xs ys zs None place p e l = subst (λ (v : List ℕ). IsPopped xs v place) (e ∙ append-nil zs) p
popped_step xs ys zs (Some x) place p e l = subst (λ (v : List ℕ). IsPopped xs v place) (ap init e ∙ init_push zs x) (popped_more xs ys place p l)
