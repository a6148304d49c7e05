-- Sharing: what one answer more does to the distinct ones and to the order of their use.
use Rattle.std.proofs.Common.{◌≡◌, ◌+◌, ◌<◌, ◌≤◌, ℕ, suc, zero, Bool, true, false, List, [], ◌∷◌, ◌++◌, length, refl, sym, ◌∙◌, ap, subst, arith, true≢false, length-append, add-one}
use Rattle.std.specs.Prelude.{◌≢◌, ◌==◌, ◌||◌, map, if◌then◌else◌}
use Rattle.std.specs.List.{AllByRecursion, IsDistinct, list_any, position_or_len}
use Rattle.std.proofs.lemmas.Bool.Decides.{Decides-eqb, not_from_Decides}
use Rattle.farkas_check.specs.declared.answer.Answer.{Answer}
use Rattle.farkas_check.specs.contracts.answer.AnswerPartialEq.TheImpl as answers
use Rattle.farkas_check.proofs.Equal.{answer_decides}
use Rattle.wire.specs.Replays.{answer_at}
use Rattle.wire.specs.Sharing.{AreDifferent, IsOrderOfUse, IsShared, count_used_with}

abbrev answer_eq : Answer → Answer → Bool
answer_eq = answers.eq-value.it

-- ---- distinct answers

AreDifferent-others : (d : Answer) (ds : List Answer) → AllByRecursion (λ e. answer_eq d e ≡ false) ds → AllByRecursion (λ e. d ≢ e) ds
AreDifferent-others d [] h = tt
AreDifferent-others d (e ∷ ds) h = (not_from_Decides (answer_eq d e) (answer_decides d e) h.0, AreDifferent-others d ds h.1)

AreDifferent-distinct : (ds : List Answer) → IsDistinct answer_eq ds → AreDifferent ds
unfolding IsDistinct
AreDifferent-distinct [] h = tt
AreDifferent-distinct (d ∷ ds) h = (AreDifferent-others d ds h.0, AreDifferent-distinct ds h.1)

-- ---- the place of an answer

one_more : (n : ℕ) → 1 + n ≡ suc n
one_more n = omega arith

place_found : (x : Answer) (ds : List Answer) → list_any (answer_eq x) ds ≡ true → (position_or_len (answer_eq x) ds < length ds) × (answer_at ds (position_or_len (answer_eq x) ds) ≡ x)
place_found x [] found = absurd (true≢false (sym found))
place_found x (d ∷ ds) found = go (answer_eq x d) refl (λ e. place_found x ds (subst (λ b. b || list_any (answer_eq x) ds ≡ true) e found))
  where
    go : (b : Bool) → answer_eq x d ≡ b
        → (answer_eq x d ≡ false → (position_or_len (answer_eq x) ds < length ds) × (answer_at ds (position_or_len (answer_eq x) ds) ≡ x))
        → (position_or_len (answer_eq x) (d ∷ ds) < length (d ∷ ds)) × (answer_at (d ∷ ds) (position_or_len (answer_eq x) (d ∷ ds)) ≡ x)
    go true e next = rw (e) (omega arith, sym ((answer_decides x d).0 e))
    go false e next = rw (e, one_more (position_or_len (answer_eq x) ds)) (let rest = next e in (omega (arith, rest.0), rest.1))

place_missing : (x : Answer) (ds : List Answer) → list_any (answer_eq x) ds ≡ false → position_or_len (answer_eq x) ds ≡ length ds
place_missing x [] missing = refl
place_missing x (d ∷ ds) missing = go (answer_eq x d) refl (λ e. place_missing x ds (subst (λ b. b || list_any (answer_eq x) ds ≡ false) e missing))
  where
    go : (b : Bool) → answer_eq x d ≡ b → (answer_eq x d ≡ false → position_or_len (answer_eq x) ds ≡ length ds) → position_or_len (answer_eq x) (d ∷ ds) ≡ length (d ∷ ds)
    go true e next = absurd (true≢false (subst (λ b. b || list_any (answer_eq x) ds ≡ false) e missing))
    go false e next = rw (e, one_more (position_or_len (answer_eq x) ds)) (ap suc (next e))

answer_at-append : (ds more : List Answer) (place : ℕ) → place < length ds → answer_at (ds ++ more) place ≡ answer_at ds place
answer_at-append [] more place below = absurd (omega arith)
answer_at-append (d ∷ ds) more zero below = refl
answer_at-append (d ∷ ds) more (suc place) below = answer_at-append ds more place (omega arith)

answer_at-last : (ds : List Answer) (x : Answer) → answer_at (ds ++ x ∷ []) (length ds) ≡ x
answer_at-last [] x = refl
answer_at-last (d ∷ ds) x = answer_at-last ds x

answers_at-append : (ds more : List Answer) (order : List ℕ) → AllByRecursion (λ place. place < length ds) order → map (answer_at (ds ++ more)) order ≡ map (answer_at ds) order
answers_at-append ds more [] below = refl
answers_at-append ds more (place ∷ order) below =
    let first = answer_at-append ds more place below.0 in
    let others = answers_at-append ds more order below.1 in
    λ i. first i ∷ others i

answers_at-more : (ds : List Answer) (order : List ℕ) (place : ℕ) → map (answer_at ds) (order ++ place ∷ []) ≡ map (answer_at ds) order ++ answer_at ds place ∷ []
answers_at-more ds [] place = refl
answers_at-more ds (p ∷ order) place = ap (λ rest. answer_at ds p ∷ rest) (answers_at-more ds order place)

places-more : (count below : ℕ) (order : List ℕ) (place : ℕ) → count ≤ below → AllByRecursion (λ p. p < count) order → place < below → AllByRecursion (λ p. p < below) (order ++ place ∷ [])
places-more count below [] place le h last = (last, tt)
places-more count below (p ∷ order) place le h last = let first : p < count = h.0 in (omega (arith, first, le), places-more count below order place le h.1 last)

-- ---- one more

IsOrderOfUse-more : (used count place : ℕ) (places : List ℕ) → IsOrderOfUse used count places → place ≤ count → IsOrderOfUse used (count_used_with count place) (places ++ place ∷ [])
IsOrderOfUse-more used count place [] h below = (subst (λ n. place ≤ n) (sym h) below, ap (λ n. count_used_with n place) h)
IsOrderOfUse-more used count place (p ∷ ps) h below = (h.0, IsOrderOfUse-more (count_used_with used p) count place ps h.1 below)

used_with-before : (count place : ℕ) → place < count → count_used_with count place ≡ count
used_with-before count place below = go (place == count) refl
  where
    go : (b : Bool) → (place == count) ≡ b → count_used_with count place ≡ count
    go true e = let same = (Decides-eqb place count).0 e in absurd (omega (arith, same, below))
    go false e = rw (e) refl

used_with-next : (count : ℕ) → count_used_with count count ≡ suc count
used_with-next count = rw ((Decides-eqb count count).1 refl) refl

-- an answer that was used before
used_before : (xs ds : List Answer) (order : List ℕ) (x : Answer) (place : ℕ) → IsShared xs ds order → place < length ds → answer_at ds place ≡ x
    → AreDifferent ds → IsShared (xs ++ x ∷ []) ds (order ++ place ∷ [])
used_before xs ds order x place shared below at different = record {
  answers_are = answers_at-more ds order place ∙ (λ i. shared.answers_are i ++ at i ∷ []);
  places_are = places-more (length ds) (length ds) order place (omega arith) shared.places_are below;
  different = different;
  first_uses = subst (λ n. IsOrderOfUse 0 n (order ++ place ∷ [])) (used_with-before (length ds) place below)
      (IsOrderOfUse-more 0 (length ds) place order shared.first_uses (omega (arith, below)));
}

-- an answer that is new
used_next : (xs ds : List Answer) (order : List ℕ) (x : Answer) → IsShared xs ds order → AreDifferent (ds ++ x ∷ [])
    → IsShared (xs ++ x ∷ []) (ds ++ x ∷ []) (order ++ length ds ∷ [])
used_next xs ds order x shared different =
    let longer : length (ds ++ x ∷ []) ≡ suc (length ds) = length-append ds (x ∷ []) ∙ add-one (length ds) in record {
      answers_are = answers_at-more (ds ++ x ∷ []) order (length ds)
          ∙ (λ i. (answers_at-append ds (x ∷ []) order shared.places_are ∙ shared.answers_are) i ++ answer_at-last ds x i ∷ []);
      places_are = places-more (length ds) (length (ds ++ x ∷ [])) order (length ds) (omega (arith, longer)) shared.places_are (omega (arith, longer));
      different = different;
      first_uses = subst (λ n. IsOrderOfUse 0 n (order ++ length ds ∷ [])) (used_with-next (length ds) ∙ sym longer)
          (IsOrderOfUse-more 0 (length ds) (length ds) order shared.first_uses (omega arith));
    }

-- one answer more, after it was inserted into the set
pub IsShared-more : (xs ds : List Answer) (order : List ℕ) (x : Answer) (new : List Answer) (place : ℕ)
    → IsShared xs ds order → new ≡ (if list_any (answer_eq x) ds then ds else ds ++ x ∷ []) → place ≡ position_or_len (answer_eq x) ds
    → IsDistinct answer_eq new → IsShared (xs ++ x ∷ []) new (order ++ place ∷ [])
IsShared-more xs ds order x new place shared new_is place_is distinct = go (list_any (answer_eq x) ds) refl
  where
    go : (b : Bool) → list_any (answer_eq x) ds ≡ b → IsShared (xs ++ x ∷ []) new (order ++ place ∷ [])
    go true e =
        let same : new ≡ ds = subst (λ b. new ≡ (if b then ds else ds ++ x ∷ [])) e new_is in
        let found = place_found x ds e in
        subst (λ n. IsShared (xs ++ x ∷ []) n (order ++ place ∷ [])) (sym same)
        (used_before xs ds order x place shared (subst (λ p. p < length ds) (sym place_is) found.0) (subst (λ p. answer_at ds p ≡ x) (sym place_is) found.1)
        (AreDifferent-distinct ds (subst (IsDistinct answer_eq) same distinct)))
    go false e =
        let longer : new ≡ ds ++ x ∷ [] = subst (λ b. new ≡ (if b then ds else ds ++ x ∷ [])) e new_is in
        let last : place ≡ length ds = place_is ∙ place_missing x ds e in
        let shared_next = used_next xs ds order x shared (AreDifferent-distinct (ds ++ x ∷ []) (subst (IsDistinct answer_eq) longer distinct)) in
        subst (λ p. IsShared (xs ++ x ∷ []) new (order ++ p ∷ [])) (sym last) (subst (λ n. IsShared (xs ++ x ∷ []) n (order ++ length ds ∷ [])) (sym longer) shared_next)
