-- Two cases of one state hold together where each holds.
use Rattle.std.proofs.Common.{◌≡◌, ◌⊎◌, inl, inr, ℕ, ◌+◌, ◌-◌, ◌<◌, cond, ℤ, map, List, [], ◌∷◌, ◌++◌, refl, sym, ap, ◌∙◌, arith}
use Rattle.std.specs.Prelude.{IsTrue, nat_lt}
use Rattle.std.specs.List.{AllByRecursion, flat_map}
use Rattle.std.proofs.lemmas.List.{map-append}
use Rattle.items.proofs.Each.{each-append, each-front, each-back}
use Rattle.linear_terms.specs.declared.col.Col.{Col}
use Rattle.linear_terms.specs.declared.col.Col.TheVariants.{At, Aux}
use Rattle.linear_terms.specs.declared.row.Case.{Case}
use Rattle.linear_terms.specs.Auxiliaries.{renumbered_polynomial, renumbered_column}
use Rattle.linear_terms.specs.Row.{RowHolds}
use Rattle.linear_terms.specs.Value.{value_of}
use Rattle.transition_formula.specs.Meaning.{numbers, HoldsAt, HoldsCase, HoldsSome}
use Rattle.transition_formula.specs.Renumbering.{renumbered_row}
use Rattle.transition_formula.specs.Transition.{is_below}
use Rattle.transition_formula.proofs.Fitting.{below-true, true-below}
use Rattle.transition_formula.proofs.Meanings.{not-below, some-either, some-left, some-right}
use Rattle.transition_formula.proofs.RenumberedCases.{moved-rows, posts-moved, rows-moved}
use Rattle.transition_formula.proofs.Values.{rows-agree, posts-agree}
use Rattle.syntax_tree.specs.Value.{State}
use Rattle.leaf_cases.specs.Listed.{beside}
use Rattle.leaf_cases.specs.Listed as listed
use Rattle.leaf_cases.proofs.CaseColumns.{Sits}

-- ---- numbers for more auxiliaries

-- those of the first so many, and then others
abbrev pub extended : ℕ → (ℕ → ℤ) → (ℕ → ℤ) → ℕ → ℤ
extended end old more n = cond (nat_lt n end) (old n) (more (n - end))

extended-old : (end : ℕ) (old more : ℕ → ℤ) (n : ℕ) → n < end → old n ≡ extended end old more n
extended-old end old more n lt = sym (ap (λ b. cond b (old n) (more (n - end))) (below-true n end lt))

pub extended-more : (end : ℕ) (old more : ℕ → ℤ) (n : ℕ) → extended end old more (end + n) ≡ more n
extended-more end old more n =
    let back : end + n - end ≡ n = omega arith in
    ap (λ b. cond b (old (end + n)) (more (end + n - end))) (not-below (end + n) end (omega arith)) ∙ ap more back

agrees : (columns end : ℕ) (s : State) (old more : ℕ → ℤ) (c : Col) → IsTrue (is_below columns end c) → numbers s old c ≡ numbers s (extended end old more) c
agrees columns end s old more (At n) h = refl
agrees columns end s old more (Aux n) h = extended-old end old more n (true-below n end h)

-- a case holds with numbers for auxiliaries that it does not have, too
pub extended-holds : (columns most : ℕ) (case : Case) → Sits columns most case → (s z : List ℤ) (old more : ℕ → ℤ) → HoldsAt (numbers s old) case z → HoldsAt (numbers s (extended case.aux old more)) case z
extended-holds columns most case sits s z old more h =
    let v = numbers s old in
    let w = numbers s (extended case.aux old more) in
    let agree = agrees columns case.aux s old more in
    record {
      rows = rows-agree v w (is_below columns case.aux) agree case.rows sits.rows_are h.rows;
      posts = sym (posts-agree v w (is_below columns case.aux) agree case.post sits.posts_are) ∙ h.posts;
    }

-- ---- two cases

-- two lists of values, one behind the other
pub record Both (P Q : State → List ℤ → Type 0) (s z : List ℤ) : Type 0 where
  pub first : List ℤ
  pub second : List ℤ
  pub left : P s first
  pub right : Q s second
  pub joined : z ≡ first ++ second

module _ (columns most : ℕ) (a b : Case) (sits : Sits columns most a) (s x y : List ℤ) where
  pub beside-holds : HoldsCase a s x → HoldsCase b s y → HoldsCase (beside a b) s (x ++ y)
  beside-holds h k =
      let aux = extended a.aux h.0 k.0 in
      let w = numbers s aux in
      let left = extended-holds columns most a sits s x h.0 k.0 h.1 in
      let told = tells h.0 k.0 in (
        aux,
        record {
          rows = each-append (RowHolds w) a.rows (map (renumbered_row (λ n. a.aux + n)) b.rows) left.rows (rows-moved (λ n. a.aux + n) (numbers s k.0) w told b.rows k.1.rows);
          posts =
              map-append (value_of w) a.post (map (renumbered_polynomial (λ n. a.aux + n)) b.post)
              ∙ (λ i. left.posts i ++ (posts-moved (λ n. a.aux + n) (numbers s k.0) w told b.post ∙ k.1.posts) i);
        },
      )
    where
      tells : (old more : ℕ → ℤ) (c : Col) → numbers s (extended a.aux old more) (renumbered_column (λ n. a.aux + n) c) ≡ numbers s more c
      tells old more (At n) = refl
      tells old more (Aux n) = extended-more a.aux old more n

tells-later : (from : ℕ) (s : State) (aux : ℕ → ℤ) (c : Col) → numbers s aux (renumbered_column (λ n. from + n) c) ≡ numbers s (λ n. aux (from + n)) c
tells-later from s aux (At n) = refl
tells-later from s aux (Aux n) = refl

pub beside-held : (a b : Case) (s z : List ℤ) → HoldsCase (beside a b) s z → Both (HoldsCase a) (HoldsCase b) s z
beside-held a b s z (aux, h) =
    let w = numbers s aux in
    let at = numbers s (λ n. aux (a.aux + n)) in
    let told = tells-later a.aux s aux in
    record {
      first = map (value_of w) a.post;
      second = map (value_of at) b.post;
      left = (aux, record { rows = each-front (RowHolds w) a.rows (map (renumbered_row (λ n. a.aux + n)) b.rows) h.rows; posts = refl });
      right = (
        λ n. aux (a.aux + n),
        record { rows = moved-rows (λ n. a.aux + n) at w told b.rows (each-back (RowHolds w) a.rows (map (renumbered_row (λ n. a.aux + n)) b.rows) h.rows); posts = refl },
      );
      joined =
          sym h.posts
          ∙ map-append (value_of w) a.post (map (renumbered_polynomial (λ n. a.aux + n)) b.post)
          ∙ ap (λ l. map (value_of w) a.post ++ l) (posts-moved (λ n. a.aux + n) at w told b.post);
    }

-- ---- two lists

each-beside : (columns most : ℕ) (a : Case) → Sits columns most a → (seconds : List Case) (s x y : List ℤ) → HoldsCase a s x → HoldsSome seconds s y → HoldsSome (map (beside a) seconds) s (x ++ y)
each-beside columns most a sits [] s x y h k = absurd k
each-beside columns most a sits (b ∷ seconds) s x y h (inl k) = inl (beside-holds columns most a b sits s x y h k)
each-beside columns most a sits (b ∷ seconds) s x y h (inr k) = inr (each-beside columns most a sits seconds s x y h k)

pub both-hold : (columns most : ℕ) (firsts seconds : List Case) → AllByRecursion (Sits columns most) firsts → (s x y : List ℤ) → HoldsSome firsts s x → HoldsSome seconds s y → HoldsSome (listed.both firsts seconds) s (x ++ y)
unfolding listed.both
both-hold columns most [] seconds sits s x y h k = absurd h
both-hold columns most (a ∷ firsts) seconds sits s x y (inl h) k = some-left (map (beside a) seconds) (flat_map (λ a. map (beside a) seconds) firsts) s (x ++ y) (each-beside columns most a sits.0 seconds s x y h k)
both-hold columns most (a ∷ firsts) seconds sits s x y (inr h) k = some-right (map (beside a) seconds) (flat_map (λ a. map (beside a) seconds) firsts) s (x ++ y) (both-hold columns most firsts seconds sits.1 s x y h k)

one-beside : (a : Case) (seconds : List Case) (s z : List ℤ) → HoldsSome (map (beside a) seconds) s z → Both (HoldsCase a) (HoldsSome seconds) s z
one-beside a [] s z h = absurd h
one-beside a (b ∷ seconds) s z (inl h) = let k = beside-held a b s z h in record { first = k.first; second = k.second; left = k.left; right = inl k.right; joined = k.joined }
one-beside a (b ∷ seconds) s z (inr h) = let k = one-beside a seconds s z h in record { first = k.first; second = k.second; left = k.left; right = inr k.right; joined = k.joined }

pub both-held : (firsts seconds : List Case) (s z : List ℤ) → HoldsSome (listed.both firsts seconds) s z → Both (HoldsSome firsts) (HoldsSome seconds) s z
unfolding listed.both
both-held [] seconds s z h = absurd h
both-held (a ∷ firsts) seconds s z h = go (some-either (map (beside a) seconds) (flat_map (λ a. map (beside a) seconds) firsts) s z h) (both-held firsts seconds s z)
  where
    go : HoldsSome (map (beside a) seconds) s z ⊎ HoldsSome (flat_map (λ a. map (beside a) seconds) firsts) s z → (HoldsSome (flat_map (λ a. map (beside a) seconds) firsts) s z → Both (HoldsSome firsts) (HoldsSome seconds) s z) → Both (HoldsSome (a ∷ firsts)) (HoldsSome seconds) s z
    go (inl k) ih = let one = one-beside a seconds s z k in record { first = one.first; second = one.second; left = inl one.left; right = one.right; joined = one.joined }
    go (inr k) ih = let one = ih k in record { first = one.first; second = one.second; left = inr one.left; right = one.right; joined = one.joined }
