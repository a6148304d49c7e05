-- One turn of a body, and a run of turns.
use Rattle.std.proofs.Common.{◌≡◌, inl, inr, ℕ, zero, suc, ◌+◌, ◌<◌, ◌≤◌, List, [], ◌∷◌, Bool, true, false, Ok, Err, map, refl, sym, ap, subst, ◌∙◌, arith, ℤ, pos, ◌+ℤ◌, ◌-ℤ◌}
use Rattle.std.specs.Prelude.{not, slice_get, unwrap_or, ◌&&◌}
use Rattle.std.specs.List.{AllByRecursion}
use Rattle.std.specs.Ordering.{int_eq}
use Rattle.std.specs.Result.{is_ok}
use Rattle.std.specs.Cmp.Lexicographic.{pointwise}
use Rattle.std.proofs.lemmas.Int.{ints}
use Rattle.linear_terms.specs.declared.col.Col.TheVariants.{At}
use Rattle.linear_terms.specs.declared.row.Case.{Case}
use Rattle.linear_terms.specs.Equality.{term_eq}
use Rattle.linear_terms.specs.Polynomial.{Terms, Polynomial, constant_of}
use Rattle.linear_terms.specs.Value.{Valuation, terms_value, value_of}
use Rattle.linear_terms.proofs.Values.{int_eq-zero}
use Rattle.transition_formula.specs.Meaning.{numbers, HoldsAt, HoldsCase, HoldsSome, Holds}
use Rattle.transition_formula.specs.Transition.{Transition}
use Rattle.linear_terms.specs.Expressions.{Made, or_zero}
use Rattle.polyhedra.specs.Changes.{poly_at, change, is_zero, is_modified}
use Rattle.polyhedra.proofs.Lists.{none-passes}
use Rattle.linear_terms.proofs.Worth.{IsWorth, IsWorth-Ok, IsWorth-same, IsWorth-column, IsWorth-difference}

-- the number of a variable in a state
abbrev pub number_in : List ℤ → ℕ → ℤ
number_in state v = unwrap_or (slice_get state v) (pos 0)

-- the entry columns have the numbers of a state
pub record Reads (at : Valuation) (state : List ℤ) : Type 0 where
  pub each : (v : ℕ) → at (At v) ≡ number_in state v

pub reads-numbers : (state : List ℤ) (aux : ℕ → ℤ) → Reads (numbers state aux) state
reads-numbers state aux = record { each = λ v. refl }

post-number : (at : Valuation) (post : List Polynomial) (v : ℕ) → value_of at (unwrap_or (slice_get post v) (constant_of (pos 0))) ≡ number_in (map (value_of at) post) v
post-number at [] v = refl
post-number at (p ∷ post) zero = refl
post-number at (p ∷ post) (suc v) = post-number at post v

-- what a turn makes of a number: where both ends have one vocabulary the difference, else the
-- number afterwards
abbrev pub moved_by : Bool → ℤ → ℤ → ℤ
moved_by true before after = after -ℤ before
moved_by false before after = after

-- ---- a turn by one of the cases

module _ (case : Case) (before after : List ℤ) (aux : ℕ → ℤ) (holds : HoldsAt (numbers before aux) case after) where
  here : Valuation
  here = numbers before aux

  pub post-worth : (v : ℕ) → IsWorth (numbers before aux) (Ok (poly_at case.post v)) (number_in after v)
  post-worth v = IsWorth-same (post-number (numbers before aux) case.post v ∙ ap (λ s. number_in s v) holds.posts) (IsWorth-Ok (numbers before aux) (poly_at case.post v))

  -- the change of a variable is worth what the turn makes of its number
  pub change-worth : (one : Bool) (v : ℕ) → IsWorth (numbers before aux) (change one case v) (moved_by one (number_in before v) (number_in after v))
  change-worth true v = IsWorth-difference (post-worth v) (IsWorth-column (numbers before aux) (At v))
  change-worth false v = post-worth v

  -- a change that can be made has its value
  pub change-value : (one : Bool) (v : ℕ) → is_ok (change one case v) ≡ true → value_of (numbers before aux) (or_zero (change one case v)) ≡ moved_by one (number_in before v) (number_in after v)
  change-value one v e = go (change one case v) refl e
    where
      go : (m : Made) → change one case v ≡ m → is_ok m ≡ true → value_of (numbers before aux) (or_zero m) ≡ moved_by one (number_in before v) (number_in after v)
      go (Ok p) f g = (change-worth one v).as_made p f
      go (Err e) f g = cc

  -- a change that is zero
  pub change-none : (one : Bool) (v : ℕ) → is_zero (change one case v) ≡ true → moved_by one (number_in before v) (number_in after v) ≡ pos 0
  change-none one v e = go (change one case v) refl e
    where
      rest : (ts : Terms) (r : ℤ) → (pointwise term_eq ts [] && int_eq r (pos 0)) ≡ true → terms_value (numbers before aux) ts +ℤ r ≡ pos 0
      rest [] r h = ap (λ z. pos 0 +ℤ z) (int_eq-zero r h)
      rest (t ∷ ts) r h = cc

      go : (m : Made) → change one case v ≡ m → is_zero m ≡ true → moved_by one (number_in before v) (number_in after v) ≡ pos 0
      go (Ok p) f g = sym ((change-worth one v).as_made p f) ∙ rest p.terms p.rest g
      go (Err e) f g = cc

-- ---- a turn by some case

-- what holds wherever one of the cases does, by what is known of all of them
pub by_some : (cases : List Case) (before after : List ℤ) (R : Type 0)
    → ((case : Case) → ((Q : Case → Type 0) → AllByRecursion Q cases → Q case) → HoldsCase case before after → R) → HoldsSome cases before after → R
by_some [] before after R tells h = absurd h
by_some (case ∷ cases) before after R tells (inl one) = tells case (λ Q all. all.0) one
by_some (case ∷ cases) before after R tells (inr more) = by_some cases before after R (λ c known. tells c (λ Q all. known Q all.1)) more

-- a variable that is not modified is not moved
pub unmodified-unmoved : (one : Bool) (cases : List Case) (before after : List ℤ) (v : ℕ) → is_modified one cases v ≡ false → HoldsSome cases before after → moved_by one (number_in before v) (number_in after v) ≡ pos 0
unmodified-unmoved one cases before after v e h =
    by_some cases before after (moved_by one (number_in before v) (number_in after v) ≡ pos 0)
    (λ case known (aux, holds). change-none case before after aux holds one v (is (is_zero (change one case v)) (known (λ c. not (is_zero (change one c v)) ≡ false) (none-passes (λ c. not (is_zero (change one c v))) cases e)))) h
  where
    is : (b : Bool) → not b ≡ false → b ≡ true
    is true f = refl
    is false f = cc

-- ---- a run

-- states, each of the first of which the body links to the next
pub record IsRunOf (body : Transition) (steps : ℕ) (states : ℕ → List ℤ) : Type 0 where
  pub links : (i : ℕ) → i < steps → Holds body (states i) (states (i + 1))

-- a variable that is not modified stays
pub unmodified-along : (body : Transition) (steps : ℕ) (states : ℕ → List ℤ) → IsRunOf body steps states → (v : ℕ) → is_modified true body.cases v ≡ false
    → (i : ℕ) → i ≤ steps → number_in (states i) v ≡ number_in (states 0) v
unmodified-along body steps states run v e zero within = refl
unmodified-along body steps states run v e (suc i) within =
    subst (λ n. number_in (states n) v ≡ number_in (states i) v) (next i)
    (equal (number_in (states (i + 1)) v) (number_in (states i) v) (unmodified-unmoved true body.cases (states i) (states (i + 1)) v e (run.links i (omega arith)).some))
    ∙ unmodified-along body steps states run v e i (omega arith)
  where
    next : (i : ℕ) → i + 1 ≡ suc i
    next i = omega arith

    equal : (x y : ℤ) → x -ℤ y ≡ pos 0 → x ≡ y
    equal x y e = omega (arith, ints)
