-- What compositions say of states.
use Rattle.std.proofs.Common.{◌≡◌, ◌⊎◌, inl, inr, ℕ, zero, suc, ◌+◌, ◌-◌, ◌<◌, ◌≤◌, Bool, true, false, cond, ℤ, pos, length, map, get_or, List, [], ◌∷◌, ◌++◌, refl, sym, ap, subst, ◌∙◌, arith, length-append}
use Rattle.std.specs.Prelude.{◌↔◌, IsTrue, nat_lt, slice_get, unwrap_or}
use Rattle.std.specs.List.{AllByRecursion, list_all, flat_map, range_with_len}
use Rattle.std.proofs.lemmas.List.{length-map}
use Rattle.std.proofs.lemmas.List.FromFn.{fill_by_all, get_or-map-range_with_len}
use Rattle.std.proofs.lemmas.Option.{unwrap_or-slice_get}
use Rattle.linear_terms.specs.declared.col.Col.{Col}
use Rattle.linear_terms.specs.declared.col.Col.TheVariants.{At, Aux}
use Rattle.linear_terms.specs.declared.row.Case.{Case}
use Rattle.linear_terms.specs.Polynomial.{Polynomial, column_of, constant_of}
use Rattle.linear_terms.specs.Replacement.{put_in}
use Rattle.linear_terms.specs.Row.{RowHolds}
use Rattle.linear_terms.specs.Value.{Valuation, value_of}
use Rattle.linear_terms.proofs.Columns.{each-append}
use Rattle.linear_terms.proofs.Values.{substituted-value}
use Rattle.transition_formula.specs.Loss.{losses_of}
use Rattle.transition_formula.specs.Transition.{Transition, is_below, fits, IsTransition}
use Rattle.transition_formula.specs.Meaning.{numbers, HoldsCase, HoldsSome, Holds}
use Rattle.transition_formula.specs.Composition.{identity_of, union_of, losses_by, rows_by, after_case, sequence_of_cases, sequence_of, losses_in_sequence}
use Rattle.transition_formula.proofs.ColumnTests.{both}
use Rattle.transition_formula.proofs.Fitting.{Fitting, fitting, below-true, true-below}
use Rattle.transition_formula.proofs.Sequences.{later}
use Rattle.transition_formula.proofs.NotedErrors.{substituted-tells}
use Rattle.transition_formula.proofs.Values.{Keeps, lost_values, column-value, value-agrees, rows-agree, posts-agree, none-of, rows_by-hold, rows_by-held, posts_by-values, posts_by-kept}

-- ---- choice

pub some-left : (xs ys : List Case) (before after : List ℤ) → HoldsSome xs before after → HoldsSome (xs ++ ys) before after
some-left [] ys before after h = absurd h
some-left (x ∷ xs) ys before after (inl h) = inl h
some-left (x ∷ xs) ys before after (inr h) = inr (some-left xs ys before after h)

pub some-right : (xs ys : List Case) (before after : List ℤ) → HoldsSome ys before after → HoldsSome (xs ++ ys) before after
some-right [] ys before after h = h
some-right (x ∷ xs) ys before after h = inr (some-right xs ys before after h)

pub some-either : (xs ys : List Case) (before after : List ℤ) → HoldsSome (xs ++ ys) before after → HoldsSome xs before after ⊎ HoldsSome ys before after
some-either [] ys before after h = inr h
some-either (x ∷ xs) ys before after (inl h) = inl (inl h)
some-either (x ∷ xs) ys before after (inr h) = go (some-either xs ys before after h)
  where
    go : HoldsSome xs before after ⊎ HoldsSome ys before after → HoldsSome (x ∷ xs) before after ⊎ HoldsSome ys before after
    go (inl k) = inl (inr k)
    go (inr k) = inr k

pub joined-left : (a b : Transition) (before after : List ℤ) → Holds a before after → Holds (union_of a b) before after
joined-left a b before after h = record { enters = h.enters; some = some-left a.cases b.cases before after h.some }

pub joined-right : (a b : Transition) (before after : List ℤ) → a.from ≡ b.from → Holds b before after → Holds (union_of a b) before after
joined-right a b before after e h = record { enters = h.enters ∙ sym e; some = some-right a.cases b.cases before after h.some }

pub joined-either : (a b : Transition) (before after : List ℤ) → a.from ≡ b.from → Holds (union_of a b) before after → Holds a before after ⊎ Holds b before after
joined-either a b before after e h = go (some-either a.cases b.cases before after h.some)
  where
    go : HoldsSome a.cases before after ⊎ HoldsSome b.cases before after → Holds a before after ⊎ Holds b before after
    go (inl k) = inl (record { enters = h.enters; some = k })
    go (inr k) = inr (record { enters = h.enters ∙ e; some = k })

-- ---- identity

mapped-columns : (at : Valuation) (col : ℕ → Col) (a n : ℕ) → map (value_of at) (map (λ k. column_of (col k)) (range_with_len a n)) ≡ map (λ k. at (col k)) (range_with_len a n)
mapped-columns at col a zero = refl
mapped-columns at col a (suc n) = λ i. column-value at (col a) i ∷ mapped-columns at col (a + 1) n i

read-all : (before : List ℤ) (aux : ℕ → ℤ) (n : ℕ) → length before ≡ n → before ≡ map (λ k. numbers before aux (At k)) (range_with_len 0 n)
read-all before aux n long = fill_by_all (λ k. numbers before aux (At k)) before n (pos 0) long (λ k lt. sym (unwrap_or-slice_get before k (pos 0)))

pub identity-holds : (n : ℕ) (before after : List ℤ) → before ≡ after → length before ≡ n → Holds (identity_of n) before after
identity-holds n before after same long =
    record {
      enters = long;
      some = inl (λ k. pos 0, record { rows = tt; posts = mapped-columns (numbers before (λ k. pos 0)) (λ k. At k) 0 n ∙ sym (read-all before (λ k. pos 0) n long) ∙ same });
    }

pub identity-held : (n : ℕ) (before after : List ℤ) → Holds (identity_of n) before after → (before ≡ after) × (length before ≡ n)
identity-held n before after h = go h.some
  where
    go : HoldsSome (identity_of n).cases before after → (before ≡ after) × (length before ≡ n)
    go (inl k) = (read-all before k.0 n h.enters ∙ sym (mapped-columns (numbers before k.0) (λ k. At k) 0 n) ∙ k.1.posts, h.enters)
    go (inr k) = absurd k

-- ---- one case after another

got : (f : Polynomial → ℤ) (d : Polynomial) (xs : List Polynomial) (n : ℕ) → f d ≡ pos 0 → unwrap_or (slice_get (map f xs) n) (pos 0) ≡ f (unwrap_or (slice_get xs n) d)
got f d [] n e = sym e
got f d (x ∷ xs) zero e = refl
got f d (x ∷ xs) (suc n) e = got f d xs n e

-- the numbers of the second case's columns, as those of what is put in for them
module _ (from between to : ℕ) (first second : Case) (f : Fitting from between first) (s : Fitting between to second) (w : Valuation) (middle : List ℤ) (aux2 : ℕ → ℤ)
    (reads : map (value_of w) first.post ≡ middle) (counts : (n : ℕ) → n < second.aux → w (Aux (first.aux + n)) ≡ aux2 n) where
  seen : (c : Col) → IsTrue (is_below between second.aux c) → value_of w (put_in first.post (later first second) c) ≡ numbers middle aux2 c
  seen (At n) h = sym (got (value_of w) (constant_of (pos 0)) first.post n refl) ∙ ap (λ l. unwrap_or (slice_get l n) (pos 0)) reads
  seen (Aux n) h =
      let lt = true-below n second.aux h in
      ap (value_of w) (unwrap_or-slice_get (later first second) n (constant_of (pos 0)) ∙ get_or-map-range_with_len (λ k. column_of (Aux k)) first.aux second.aux n (first.aux + n) (constant_of (pos 0)) lt refl)
      ∙ column-value w (Aux (first.aux + n))
      ∙ counts n lt

  pub after-keeps : Keeps (after_case first second) (is_below between second.aux) (numbers middle aux2) w
  after-keeps =
      record {
        tells = substituted-tells (put_in first.post (later first second));
        value = λ p q e h. substituted-value w (put_in first.post (later first second)) p q e ∙ value-agrees (λ c. value_of w (put_in first.post (later first second) c)) (numbers middle aux2) (is_below between second.aux) seen p h;
      }

-- numbers for the auxiliaries of both, and of the posts that are lost
abbrev pub both_aux : ℕ → ℕ → (ℕ → ℤ) → (ℕ → ℤ) → List ℤ → ℕ → ℤ
both_aux a b aux1 aux2 values n = cond (nat_lt n a) (aux1 n) (cond (nat_lt n (a + b)) (aux2 (n - a)) (get_or values (n - (a + b)) (pos 0)))

pub not-below : (n a : ℕ) → a ≤ n → nat_lt n a ≡ false
not-below n a le = go (nat_lt n a) refl
  where
    go : (b : Bool) → nat_lt n a ≡ b → b ≡ false
    go true e = let lt = true-below n a e in absurd (omega arith)
    go false e = refl

pub first_aux : (a b : ℕ) (aux1 aux2 : ℕ → ℤ) (values : List ℤ) (n : ℕ) → n < a → aux1 n ≡ both_aux a b aux1 aux2 values n
first_aux a b aux1 aux2 values n lt = sym (ap (λ z. cond z (aux1 n) (cond (nat_lt n (a + b)) (aux2 (n - a)) (get_or values (n - (a + b)) (pos 0)))) (below-true n a lt))

pub second_aux : (a b : ℕ) (aux1 aux2 : ℕ → ℤ) (values : List ℤ) (n : ℕ) → n < b → both_aux a b aux1 aux2 values (a + n) ≡ aux2 n
second_aux a b aux1 aux2 values n lt =
    let back : a + n - a ≡ n = omega arith in
    ap (λ z. cond z (aux1 (a + n)) (cond (nat_lt (a + n) (a + b)) (aux2 (a + n - a)) (get_or values (a + n - (a + b)) (pos 0)))) (not-below (a + n) a (omega arith))
    ∙ ap (λ z. cond z (aux2 (a + n - a)) (get_or values (a + n - (a + b)) (pos 0))) (below-true (a + n) (a + b) (omega arith))
    ∙ ap aux2 back

pub lost_aux : (a b : ℕ) (aux1 aux2 : ℕ → ℤ) (values : List ℤ) (k : ℕ) → both_aux a b aux1 aux2 values (a + b + k) ≡ get_or values k (pos 0)
lost_aux a b aux1 aux2 values k =
    let back : a + b + k - (a + b) ≡ k = omega arith in
    ap (λ z. cond z (aux1 (a + b + k)) (cond (nat_lt (a + b + k) (a + b)) (aux2 (a + b + k - a)) (get_or values (a + b + k - (a + b)) (pos 0)))) (not-below (a + b + k) a (omega arith))
    ∙ ap (λ z. cond z (aux2 (a + b + k - a)) (get_or values (a + b + k - (a + b)) (pos 0))) (not-below (a + b + k) (a + b) (omega arith))
    ∙ ap (λ n. get_or values n (pos 0)) back

pub cases-hold : (from between to : ℕ) (first second : Case) → Fitting from between first → Fitting between to second → (before middle after : List ℤ) → HoldsCase first before middle → HoldsCase second middle after → HoldsCase (sequence_of_cases first second) before after
cases-hold from between to first second f s before middle after h k =
    let op = after_case first second in
    let v2 = numbers middle k.0 in
    let values = lost_values op v2 second.post in
    let aux = both_aux first.aux second.aux h.0 k.0 values in
    let w = numbers before aux in
    let agree : (c : Col) → IsTrue (is_below from first.aux c) → numbers before h.0 c ≡ w c = agrees from first.aux second.aux before h.0 k.0 values in
    let reads : map (value_of w) first.post ≡ middle = sym (posts-agree (numbers before h.0) w (is_below from first.aux) agree first.post f.posts_are) ∙ h.1.posts in
    let keeps = after-keeps from between to first second f s w middle k.0 reads (λ n lt. second_aux first.aux second.aux h.0 k.0 values n lt) in (
      aux,
      record {
        rows =
            each-append (RowHolds w) first.rows (rows_by op second.rows) (rows-agree (numbers before h.0) w (is_below from first.aux) agree first.rows f.rows_are h.1.rows)
            (rows_by-hold op (is_below between second.aux) v2 w keeps second.rows s.rows_are k.1.rows);
        posts = posts_by-values op (is_below between second.aux) v2 w keeps (first.aux + second.aux) second.post s.posts_are (λ j lt. lost_aux first.aux second.aux h.0 k.0 values j) ∙ k.1.posts;
      },
    )
  where
    agrees : (from a b : ℕ) (before : List ℤ) (aux1 aux2 : ℕ → ℤ) (values : List ℤ) (c : Col) → IsTrue (is_below from a c) → numbers before aux1 c ≡ numbers before (both_aux a b aux1 aux2 values) c
    agrees from a b before aux1 aux2 values (At n) e = refl
    agrees from a b before aux1 aux2 values (Aux n) e = first_aux a b aux1 aux2 values n (true-below n a e)

front-of : {A : Type 0} (P : A → Type 0) (xs ys : List A) → AllByRecursion P (xs ++ ys) → AllByRecursion P xs
front-of P [] ys h = tt
front-of P (x ∷ xs) ys h = (h.0, front-of P xs ys h.1)

back-of : {A : Type 0} (P : A → Type 0) (xs ys : List A) → AllByRecursion P (xs ++ ys) → AllByRecursion P ys
back-of P [] ys h = h
back-of P (x ∷ xs) ys h = back-of P xs ys h.1

pub cases-held : (from between to : ℕ) (first second : Case) → Fitting from between first → Fitting between to second → (before after : List ℤ) → losses_by (after_case first second) second ≡ [] → HoldsCase (sequence_of_cases first second) before after
    → (middle : List ℤ) × (HoldsCase first before middle × HoldsCase second middle after)
cases-held from between to first second f s before after none h =
    let op = after_case first second in
    let w = numbers before h.0 in
    let middle = map (value_of w) first.post in
    let aux2 : ℕ → ℤ = λ n. h.0 (first.aux + n) in
    let keeps = after-keeps from between to first second f s w middle aux2 refl (λ n lt. refl) in
    let losses = none-of (flat_map (λ row. losses_of (op row.poly)) second.rows) (flat_map (λ p. losses_of (op p)) second.post) none in (
      middle,
      (
        (h.0, record { rows = front-of (RowHolds w) first.rows (rows_by op second.rows) h.1.rows; posts = refl }),
        (
          aux2,
          record {
            rows = rows_by-held op (is_below between second.aux) (numbers middle aux2) w keeps second.rows s.rows_are losses.0 (back-of (RowHolds w) first.rows (rows_by op second.rows) h.1.rows);
            posts = sym (posts_by-kept op (is_below between second.aux) (numbers middle aux2) w keeps (first.aux + second.aux) second.post s.posts_are losses.1) ∙ h.1.posts;
          },
        ),
      ),
    )

-- ---- one formula after another

module _ (from between to : ℕ) where
  with_each-holds : (first : Case) (seconds : List Case) → IsTrue (fits from between first) → IsTransition between to seconds → (before middle after : List ℤ) → HoldsCase first before middle → HoldsSome seconds middle after
      → HoldsSome (map (sequence_of_cases first) seconds) before after
  with_each-holds first [] e g before middle after h k = absurd k
  with_each-holds first (second ∷ seconds) e g before middle after h (inl k) =
      let parts = both (fits between to second) (list_all (fits between to) seconds) g in
      inl (cases-hold from between to first second (fitting from between first e) (fitting between to second parts.0) before middle after h k)
  with_each-holds first (second ∷ seconds) e g before middle after h (inr k) =
      let parts = both (fits between to second) (list_all (fits between to) seconds) g in inr (with_each-holds first seconds e parts.1 before middle after h k)

  pub all-hold : (firsts seconds : List Case) → IsTransition from between firsts → IsTransition between to seconds → (before middle after : List ℤ) → HoldsSome firsts before middle → HoldsSome seconds middle after
      → HoldsSome (flat_map (λ first. map (sequence_of_cases first) seconds) firsts) before after
  all-hold [] seconds e g before middle after h k = absurd h
  all-hold (first ∷ firsts) seconds e g before middle after (inl h) k =
      let parts = both (fits from between first) (list_all (fits from between) firsts) e in
      some-left (map (sequence_of_cases first) seconds) (flat_map (λ f. map (sequence_of_cases f) seconds) firsts) before after (with_each-holds first seconds parts.0 g before middle after h k)
  all-hold (first ∷ firsts) seconds e g before middle after (inr h) k =
      let parts = both (fits from between first) (list_all (fits from between) firsts) e in
      some-right (map (sequence_of_cases first) seconds) (flat_map (λ f. map (sequence_of_cases f) seconds) firsts) before after (all-hold firsts seconds parts.1 g before middle after h k)

  with_each-held : (first : Case) (seconds : List Case) → IsTrue (fits from between first) → IsTransition between to seconds → (before after : List ℤ) → flat_map (λ second. losses_by (after_case first second) second) seconds ≡ []
      → HoldsSome (map (sequence_of_cases first) seconds) before after → (middle : List ℤ) × (HoldsCase first before middle × HoldsSome seconds middle after)
  with_each-held first [] e g before after none h = absurd h
  with_each-held first (second ∷ seconds) e g before after none (inl h) =
      let parts = both (fits between to second) (list_all (fits between to) seconds) g in
      let losses = none-of (losses_by (after_case first second) second) (flat_map (λ s. losses_by (after_case first s) s) seconds) none in
      let held = cases-held from between to first second (fitting from between first e) (fitting between to second parts.0) before after losses.0 h in
      (held.0, (held.1.0, inl held.1.1))
  with_each-held first (second ∷ seconds) e g before after none (inr h) =
      let parts = both (fits between to second) (list_all (fits between to) seconds) g in
      let losses = none-of (losses_by (after_case first second) second) (flat_map (λ s. losses_by (after_case first s) s) seconds) none in
      let held = with_each-held first seconds e parts.1 before after losses.1 h in
      (held.0, (held.1.0, inr held.1.1))

  pub all-held : (firsts seconds : List Case) → IsTransition from between firsts → IsTransition between to seconds → (before after : List ℤ) → flat_map (λ first. flat_map (λ second. losses_by (after_case first second) second) seconds) firsts ≡ []
      → HoldsSome (flat_map (λ first. map (sequence_of_cases first) seconds) firsts) before after → (middle : List ℤ) × (HoldsSome firsts before middle × HoldsSome seconds middle after)
  all-held [] seconds e g before after none h = absurd h
  all-held (first ∷ firsts) seconds e g before after none h =
      let parts = both (fits from between first) (list_all (fits from between) firsts) e in
      let losses = none-of (flat_map (λ second. losses_by (after_case first second) second) seconds) (flat_map (λ f. flat_map (λ second. losses_by (after_case f second) second) seconds) firsts) none in
      go parts.0 losses.0 (some-either (map (sequence_of_cases first) seconds) (flat_map (λ f. map (sequence_of_cases f) seconds) firsts) before after h) (λ k. all-held firsts seconds parts.1 g before after losses.1 k)
    where
      go : IsTrue (fits from between first) → flat_map (λ second. losses_by (after_case first second) second) seconds ≡ []
          → HoldsSome (map (sequence_of_cases first) seconds) before after ⊎ HoldsSome (flat_map (λ f. map (sequence_of_cases f) seconds) firsts) before after
          → (HoldsSome (flat_map (λ f. map (sequence_of_cases f) seconds) firsts) before after → (middle : List ℤ) × (HoldsSome firsts before middle × HoldsSome seconds middle after))
          → (middle : List ℤ) × (HoldsSome (first ∷ firsts) before middle × HoldsSome seconds middle after)
      go fit lost (inl k) ih = let held = with_each-held first seconds fit g before after lost k in (held.0, (inl held.1.0, held.1.1))
      go fit lost (inr k) ih = let held = ih k in (held.0, (inr held.1.0, held.1.1))

-- ---- for the code

pub sequence-holds : (a b : Transition) → a.to ≡ b.from → IsTransition a.from a.to a.cases → IsTransition b.from b.to b.cases → (before middle after : List ℤ) → Holds a before middle → Holds b middle after → Holds (sequence_of a b) before after
sequence-holds a b e f g before middle after h k =
    record { enters = h.enters; some = all-hold a.from b.from b.to a.cases b.cases (subst (λ t. IsTransition a.from t a.cases) e f) g before middle after h.some k.some }

left-length : (from to : ℕ) (cases : List Case) → IsTransition from to cases → (before after : List ℤ) → HoldsSome cases before after → length after ≡ to
left-length from to [] e before after h = absurd h
left-length from to (case ∷ cases) e before after (inl h) =
    let parts = both (fits from to case) (list_all (fits from to) cases) e in
    let f = fitting from to case parts.0 in
    sym (ap length h.1.posts) ∙ length-map case.post (value_of (numbers before h.0)) ∙ f.length_is
left-length from to (case ∷ cases) e before after (inr h) = left-length from to cases (both (fits from to case) (list_all (fits from to) cases) e).1 before after h

pub sequence-held : (a b : Transition) → a.to ≡ b.from → IsTransition a.from a.to a.cases → IsTransition b.from b.to b.cases → losses_in_sequence a b ≡ [] → (before after : List ℤ) → Holds (sequence_of a b) before after
    → (middle : List ℤ) × (Holds a before middle × Holds b middle after)
sequence-held a b e f g none before after h =
    let fits_between = subst (λ t. IsTransition a.from t a.cases) e f in
    let held = all-held a.from b.from b.to a.cases b.cases fits_between g before after none h.some in
    (held.0, (record { enters = h.enters; some = held.1.0 }, record { enters = left-length a.from b.from a.cases fits_between before held.0 held.1.0; some = held.1.1 }))

pub nothing-more : {X : Type 0} (xs ys : List X) → xs ++ ys ≡ xs → ys ≡ []
nothing-more xs [] e = refl
nothing-more xs (y ∷ ys) e = let long = ap length e in absurd (omega (arith, long, length-append xs (y ∷ ys)))

-- nothing was put behind a list that is as it was
pub nothing-noted : {X : Type 0} {xs first more new : List X} → first ≡ [] → new ≡ xs ++ more → new ≡ xs → more ≡ first
nothing-noted {X} {xs} {first} {more} e f g = nothing-more xs more (sym f ∙ g) ∙ sym e

abbrev pub transition : ℕ → ℕ → List Case → Transition
transition from to cases = record { from = from; to = to; cases = cases }

pub joined_made : (from to : ℕ) (cases xs ys : List Case) (a b : Transition) → cases ≡ xs ++ ys → transition from to xs ≡ a → ys ≡ b.cases → transition from to cases ≡ union_of a b
joined_made from to cases xs ys a b made e f = (λ i. transition from to (made i)) ∙ (λ i. record { from = (e i).from; to = (e i).to; cases = (e i).cases ++ f i })

pub joined-says : (a b : Transition) (before after : List ℤ) → a.from ≡ b.from → Holds (union_of a b) before after ↔ (Holds a before after ⊎ Holds b before after)
joined-says a b before after e = (joined-either a b before after e, λ h. go h)
  where
    go : Holds a before after ⊎ Holds b before after → Holds (union_of a b) before after
    go (inl k) = joined-left a b before after k
    go (inr k) = joined-right a b before after e k
