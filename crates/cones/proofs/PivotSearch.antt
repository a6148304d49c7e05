-- Pivots that are looked for are private lines, where there are any.
use Rattle.std.proofs.Common.{◌≡◌, ◌≢◌, Bool, true, false, cond, ⊎_elim, List, [], ◌∷◌, ◌++◌, refl, sym, ap, subst, ◌∙◌, ℤ, pos}
use Rattle.std.specs.Prelude.{Option, Some, not, ◌&&◌}
use Rattle.std.specs.List.{AllByRecursion, cons_option, find}
use Rattle.std.specs.Ordering.{int_eq}
use Rattle.std.proofs.lemmas.Bool.{and_parts, and_from, false≢true}
use Rattle.std.proofs.lemmas.Bool.Decides.{Decides-int_eq}
use Rattle.items.proofs.Each.{each-append, each_from_test, test_from_each}
use Rattle.whole_numbers.specs.Dot.{dot}
use Rattle.cones.specs.Split.{units, flat, is_zero_on, is_pivot, pivots_behind, pivots, ArePrivate, IsAmong}
use Rattle.cones.specs.Laws.{HasPivots, FlatAndRestSplit}
use Rattle.cones.proofs.Splitting.{units-pivots, units-split}

-- ---- tests

abbrev pub IsZeroOn : List (List ℤ) → List ℤ → Type 0
IsZeroOn vs line = AllByRecursion (λ v. dot line v ≡ pos 0) vs

zero_on-test : (line : List ℤ) (vs : List (List ℤ)) → IsZeroOn vs line → is_zero_on line vs ≡ true
zero_on-test line vs h = test_from_each (λ v. int_eq (dot line v) (pos 0)) (λ v. dot line v ≡ pos 0) (λ v e. (Decides-int_eq (dot line v) (pos 0)).1 e) vs h

test-zero_on : (line : List ℤ) (vs : List (List ℤ)) → is_zero_on line vs ≡ true → IsZeroOn vs line
test-zero_on line vs h = each_from_test (λ v. int_eq (dot line v) (pos 0)) (λ v. dot line v ≡ pos 0) (λ v e. (Decides-int_eq (dot line v) (pos 0)).0 e) vs h

some-test : (z : ℤ) → z ≢ pos 0 → not (int_eq z (pos 0)) ≡ true
some-test z some = go (int_eq z (pos 0)) refl
  where
    go : (b : Bool) → int_eq z (pos 0) ≡ b → not (int_eq z (pos 0)) ≡ true
    go true e = absurd (some ((Decides-int_eq z (pos 0)).0 e))
    go false e = ap not e

test-some : (z : ℤ) → not (int_eq z (pos 0)) ≡ true → z ≢ pos 0
test-some z h e = false≢true (sym (ap not ((Decides-int_eq z (pos 0)).1 e)) ∙ h)

-- a line that sees a vector and is 0 on the others
pub record IsPivot (v : List ℤ) (before behind : List (List ℤ)) (line : List ℤ) : Type 0 where
  pub seen : dot line v ≢ pos 0
  pub before_zero : IsZeroOn before line
  pub behind_zero : IsZeroOn behind line

pub pivot-test : (v : List ℤ) (before behind : List (List ℤ)) (line : List ℤ) → IsPivot v before behind line → is_pivot v before behind line ≡ true
pivot-test v before behind line p =
    and_from (not (int_eq (dot line v) (pos 0)) && is_zero_on line before) (is_zero_on line behind)
    (and_from (not (int_eq (dot line v) (pos 0))) (is_zero_on line before) (some-test (dot line v) p.seen) (zero_on-test line before p.before_zero))
    (zero_on-test line behind p.behind_zero)

test-pivot : (v : List ℤ) (before behind : List (List ℤ)) (line : List ℤ) → is_pivot v before behind line ≡ true → IsPivot v before behind line
test-pivot v before behind line h =
    let parts = and_parts (not (int_eq (dot line v) (pos 0)) && is_zero_on line before) (is_zero_on line behind) h in
    let front = and_parts (not (int_eq (dot line v) (pos 0))) (is_zero_on line before) parts.0 in
    record {
      seen = test-some (dot line v) front.0;
      before_zero = test-zero_on line before front.1;
      behind_zero = test-zero_on line behind parts.1;
    }

-- ---- the first that passes

record IsFirst (test : List ℤ → Bool) (lines : List (List ℤ)) : Type 0 where
  line : List ℤ
  found : find test lines ≡ Some line
  passes : test line ≡ true

first_among : (test : List ℤ → Bool) (lines : List (List ℤ)) (q : List ℤ) → IsAmong lines q → test q ≡ true → IsFirst test lines
first_among test [] q m h = absurd m
first_among test (l ∷ lines) q m h =
    go (test l) refl (λ k. first_among test lines q k h)
  where
    go : (b : Bool) → test l ≡ b → (IsAmong lines q → IsFirst test lines) → IsFirst test (l ∷ lines)
    go true e again = record { line = l; found = ap (λ b. cond b (Some l) (find test lines)) e; passes = e }
    go false e again = later (⊎_elim (λ (same : q ≡ l). absurd (false≢true (sym e ∙ ap test (sym same) ∙ h))) again m)
      where
        later : IsFirst test lines → IsFirst test (l ∷ lines)
        later f = record { line = f.line; found = ap (λ b. cond b (Some l) (find test lines)) e ∙ f.found; passes = f.passes }

-- ---- pivots are private

record ArePivots (before vs ps : List (List ℤ)) : Type 0 where
  private : ArePrivate ps vs
  away : AllByRecursion (IsZeroOn before) ps

zero_at_last : (before : List (List ℤ)) (v : List ℤ) (line : List ℤ) → IsZeroOn (before ++ v ∷ []) line → dot line v ≡ pos 0
zero_at_last [] v line h = h.0
zero_at_last (u ∷ before) v line h = zero_at_last before v line h.1

zero_at_front : (before : List (List ℤ)) (v : List ℤ) (line : List ℤ) → IsZeroOn (before ++ v ∷ []) line → IsZeroOn before line
zero_at_front [] v line h = tt
zero_at_front (u ∷ before) v line h = (h.0, zero_at_front before v line h.1)

each-last : (before : List (List ℤ)) (v : List ℤ) (ps : List (List ℤ)) → AllByRecursion (IsZeroOn (before ++ v ∷ [])) ps → AllByRecursion (λ p. dot p v ≡ pos 0) ps
each-last before v [] h = tt
each-last before v (p ∷ ps) h = (zero_at_last before v p h.0, each-last before v ps h.1)

each-front_of : (before : List (List ℤ)) (v : List ℤ) (ps : List (List ℤ)) → AllByRecursion (IsZeroOn (before ++ v ∷ [])) ps → AllByRecursion (IsZeroOn before) ps
each-front_of before v [] h = tt
each-front_of before v (p ∷ ps) h = (zero_at_front before v p h.0, each-front_of before v ps h.1)

each-longer : (before : List (List ℤ)) (v : List ℤ) (qs : List (List ℤ)) → AllByRecursion (IsZeroOn before) qs → AllByRecursion (λ q. dot q v ≡ pos 0) qs → AllByRecursion (IsZeroOn (before ++ v ∷ [])) qs
each-longer before v [] h k = tt
each-longer before v (q ∷ qs) h k = (each-append (λ u. dot q u ≡ pos 0) before (v ∷ []) h.0 (k.0, tt), each-longer before v qs h.1 k.1)

with_pivot : (lines before : List (List ℤ)) (v : List ℤ) (vs : List (List ℤ)) → IsFirst (is_pivot v before vs) lines → ArePivots (before ++ v ∷ []) vs (pivots_behind lines (before ++ v ∷ []) vs)
    → ArePivots before (v ∷ vs) (pivots_behind lines before (v ∷ vs))
with_pivot lines before v vs first more =
    subst (λ (found : Option (List ℤ)). ArePivots before (v ∷ vs) (cons_option found (pivots_behind lines (before ++ v ∷ []) vs))) (sym first.found) (together (test-pivot v before vs first.line first.passes))
  where
    together : IsPivot v before vs first.line → ArePivots before (v ∷ vs) (first.line ∷ pivots_behind lines (before ++ v ∷ []) vs)
    together p = record {
      private = (p.seen, p.behind_zero, each-last before v (pivots_behind lines (before ++ v ∷ []) vs) more.away, more.private);
      away = (p.before_zero, each-front_of before v (pivots_behind lines (before ++ v ∷ []) vs) more.away);
    }

pivots-private : (lines qs before vs : List (List ℤ)) → ArePrivate qs vs → AllByRecursion (IsAmong lines) qs → AllByRecursion (IsZeroOn before) qs → ArePivots before vs (pivots_behind lines before vs)
pivots-private lines [] before [] p among away = record { private = tt; away = tt }
pivots-private lines [] before (v ∷ vs) p among away = absurd p
pivots-private lines (q ∷ qs) before [] p among away = absurd p
pivots-private lines (q ∷ qs) before (v ∷ vs) p among away =
    with_pivot lines before v vs
    (first_among (is_pivot v before vs) lines q among.0 (pivot-test v before vs q (record { seen = p.0; before_zero = away.0; behind_zero = p.1 })))
    (pivots-private lines qs (before ++ v ∷ []) vs p.3 among.1 (each-longer before v qs away.1 p.2))

each-nothing : (qs : List (List ℤ)) → AllByRecursion (IsZeroOn []) qs
each-nothing [] = tt
each-nothing (q ∷ qs) = (tt, each-nothing qs)

pub flat_and_rest-split : FlatAndRestSplit
flat_and_rest-split lines count = units-split lines (pivots (units count) (flat lines count)) count (own (units-pivots lines count))
  where
    own : HasPivots (units count) (flat lines count) → ArePrivate (pivots (units count) (flat lines count)) (flat lines count)
    own h = (pivots-private (units count) h.pivots [] (flat lines count) h.private h.some (each-nothing h.pivots)).private
