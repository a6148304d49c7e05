-- Columns that are listed in their places: the next one, and the number of a point at one.
use Rattle.std.proofs.Common.{◌≡◌, ◌⊎◌, inl, inr, ℕ, zero, suc, ◌+◌, ◌-◌, ◌<◌, ◌≤◌, length, true, List, [], ◌∷◌, drop, get_or, set, Option, Some, None, pos, refl, sym, ap, subst, ◌∙◌, arith}
use Rattle.std.specs.Prelude.{slice_get}
use Rattle.std.specs.Ordering.{ordering_reverse, eq_by_cmp, is_eq}
use Rattle.std.specs.declared.cmp.Ordering.{Ordering}
use Rattle.std.specs.declared.cmp.Ordering.TheVariants.{Less, Equal, Greater}
use Rattle.std.proofs.lemmas.Option.{slice_get_within, slice_get_read}
use Rattle.linear_terms.specs.declared.col.Col.{Col}
use Rattle.linear_terms.specs.Mono.{mono_cmp}
use Rattle.linear_terms.specs.MonoOrder.{mono_cmp_total}
use Rattle.linear_terms.proofs.Order.{mono_tie}
use Rattle.farkas_check.specs.declared.source.ColumnSource.{ColumnSource}
use Rattle.farkas_check.specs.declared.source.ColumnSource.TheVariants.{OfCase, OfStratum}
use Rattle.farkas_check.specs.Columns.{monos_of}
use Rattle.farkas_check.specs.Points.{ratio_at}
use Rattle.farkas_check.specs.Ratios.{Fraction, whole}
use Rattle.farkas_check.specs.Relations.{case_monos, source_columns}
use Rattle.farkas_check.specs.Walk.{columns_after, IsNext, IsBlank, IsListing, IsRightBefore}
use Rattle.farkas_check.proofs.Walks.{IsBefore, IsOrdered, IsOrdered-columns, reversed, first_of, after_first, all_before, ties_itself, columns_after-None}

-- ---- order

IsOrdered-source : (source : ColumnSource) → IsOrdered (source_columns source)
IsOrdered-source (OfCase rows terms) = IsOrdered-columns (monos_of rows.now terms.now)
IsOrdered-source (OfStratum cases lower) = IsOrdered-columns (case_monos cases.now lower.now)

before_each : (c m : List Col) (cs : List (List Col)) (place : ℕ) → IsBefore c cs → slice_get cs place ≡ Some m → mono_cmp c m ≡ Less
before_each c m [] place b e = cc
before_each c m (d ∷ cs) zero b e = let same : d ≡ m = cc in subst (λ x. mono_cmp c x ≡ Less) same b.0
before_each c m (d ∷ cs) (suc place) b e = before_each c m cs place b.1 e

first_there : (cs : List (List Col)) (m : List Col) → slice_get cs 0 ≡ Some m → first_of cs ≡ Some m
first_there [] m e = cc
first_there (c ∷ cs) m e = e

pub mono_itself : (m : List Col) → mono_cmp m m ≡ Equal
mono_itself m = go (mono_cmp m m) (mono_cmp_total.antisymm m m)
  where
    go : (o : Ordering) → o ≡ ordering_reverse o → o ≡ Equal
    go Less e = cc
    go Equal e = refl
    go Greater e = cc

-- ---- the next column

second_there : (cs : List (List Col)) (last m : List Col) (place : ℕ) → IsOrdered cs → slice_get cs place ≡ Some last → slice_get cs (place + 1) ≡ Some m → first_of (columns_after (Some last) cs) ≡ Some m
second_there [] last m place o e f = cc
second_there (c ∷ cs) last m zero o e f =
    let same : c ≡ last = cc in
    subst (λ x. first_of (columns_after (Some x) (c ∷ cs)) ≡ Some m) same
    (rw (ties_itself c) (rw (all_before c cs o.0) (first_there cs m f)))
second_there (c ∷ cs) last m (suc place) o e f =
    let there : slice_get cs (place + 1) ≡ Some m = (let same : suc place + 1 ≡ suc (place + 1) = omega arith in ap (λ p. slice_get (c ∷ cs) p) (sym same) ∙ f) in
    let less : mono_cmp c last ≡ Less = before_each c last cs place o.0 e in
    rw (reversed c last Less less) (second_there cs last m place o.1 e there)

none_left : (cs : List (List Col)) → length cs ≤ 0 → cs ≡ []
none_left [] le = refl
none_left (c ∷ cs) le = absurd (omega (arith, le))

-- no column stands behind the last one
last_there : (cs : List (List Col)) (last : List Col) (place : ℕ) → IsOrdered cs → slice_get cs place ≡ Some last → length cs ≤ place + 1 → columns_after (Some last) cs ≡ []
last_there [] last place o e le = refl
last_there (c ∷ cs) last zero o e le =
    let same : c ≡ last = cc in
    let none : cs ≡ [] = none_left cs (omega (arith, le)) in
    subst (λ x. columns_after (Some x) (c ∷ cs) ≡ []) same (rw (ties_itself c) (ap (columns_after (Some c)) none))
last_there (c ∷ cs) last (suc place) o e le =
    let less : mono_cmp c last ≡ Less = before_each c last cs place o.0 e in
    rw (reversed c last Less less) (last_there cs last place o.1 e (omega (arith, le)))

next_listed : (listed : List (Option (List Col))) (cs : List (List Col)) (last next : Option (List Col)) (place : ℕ) → IsOrdered cs → IsListing listed cs → IsRightBefore listed last place → slice_get listed place ≡ Some next → IsNext next last cs
next_listed listed cs None None place o l b e = columns_after-None cs ∙ none_left cs (subst (λ p. length cs ≤ p) b (l.whole place e))
next_listed listed cs None (Some m) place o l b e = after_first None m cs o (ap first_of (columns_after-None cs) ∙ first_there cs m (subst (λ p. slice_get cs p ≡ Some m) b (l.each place m e)))
next_listed listed cs (Some last) None place o l b e = last_there cs last b.0 o (l.each b.0 last b.1.1) (let le = l.whole place e in omega (arith, le, b.1.0))
next_listed listed cs (Some last) (Some m) place o l b e = after_first (Some last) m cs o (second_there cs last m b.0 o (l.each b.0 last b.1.1) (subst (λ p. slice_get cs p ≡ Some m) b.1.0 (l.each place m e)))

behind_next : (listed : List (Option (List Col))) (source : ColumnSource) (last next : Option (List Col)) (place : ℕ) → IsListing listed (source_columns source) → IsRightBefore listed last place → slice_get listed place ≡ Some next → IsNext next last (source_columns source)
behind_next listed source last next place l b e = next_listed listed (source_columns source) last next place (IsOrdered-source source) l b e

pub behind_read : (listed : List (Option (List Col))) (source : ColumnSource) (last next : Option (List Col)) (place : ℕ) → IsListing listed (source_columns source) → IsRightBefore listed last place → place < length listed → next ≡ get_or listed place next → IsNext next last (source_columns source)
behind_read listed source last next place l b lt is = behind_next listed source last next place l b (slice_get_read listed (length listed) place next refl lt is)

pub before_first : (listed : List (Option (List Col))) (place : ℕ) → place ≡ 0 → IsRightBefore listed None place
before_first listed place e = e

pub before_next : (listed : List (Option (List Col))) (last : List Col) (place : ℕ) → 0 < place → slice_get listed (place - 1) ≡ Some (Some last) → IsRightBefore listed (Some last) place
before_next listed last place some e = (place - 1, (omega (arith, some), e))

-- ---- what is listed

-- what is listed are columns, and no place before the given one is left out
pub record IsListedTo (place : ℕ) (listed : List (Option (List Col))) (cs : List (List Col)) : Type 0 where
  pub each : (at : ℕ) (m : List Col) → slice_get listed at ≡ Some (Some m) → slice_get cs at ≡ Some m
  pub full : (at : ℕ) → slice_get listed at ≡ Some None → place ≤ at

pub blank_lists : (listed : List (Option (List Col))) (cs : List (List Col)) → IsBlank listed → IsListedTo 0 listed cs
blank_lists listed cs blank = record { each = λ at m e. absurd (blank.none at m e); full = λ at e. omega arith }

none_dropped : (cs : List (List Col)) (place : ℕ) → drop place cs ≡ [] → length cs ≤ place
none_dropped [] place e = omega arith
none_dropped (c ∷ cs) zero e = cc
none_dropped (c ∷ cs) (suc place) e = let le = none_dropped cs place e in omega (arith, le)

-- there are no more columns
pub all_listed : (place : ℕ) (listed : List (Option (List Col))) (cs : List (List Col)) (last next : Option (List Col)) → IsListedTo place listed cs → columns_after last cs ≡ drop place cs → IsNext next last cs → next ≡ None → IsListing listed cs
all_listed place listed cs last None l left n e =
    let le : length cs ≤ place = none_dropped cs place (sym left ∙ n) in
    record { each = l.each; whole = λ at f. (let g : place ≤ at = l.full at f in omega (arith, le, g)) }
all_listed place listed cs last (Some m) l left n e = cc

-- there are no more places
pub full_listed : (place : ℕ) (listed : List (Option (List Col))) (cs : List (List Col)) → IsListedTo place listed cs → length listed ≤ place → IsListing listed cs
full_listed place listed cs l le = record {
  each = l.each;
  whole = λ at f. (let g : place ≤ at = l.full at f in let within : at < length listed = slice_get_within listed at None f in absurd (omega (arith, le, g, within)));
}

first_left : (cs rest : List (List Col)) (m : List Col) (place : ℕ) → drop place cs ≡ m ∷ rest → slice_get cs place ≡ Some m
first_left [] rest m zero e = cc
first_left [] rest m (suc place) e = cc
first_left (c ∷ cs) rest m zero e = let same : c ≡ m = cc in ap (λ x. Some x) same
first_left (c ∷ cs) rest m (suc place) e = first_left cs rest m place e

pub rest_left : (cs rest : List (List Col)) (m : List Col) (place : ℕ) → drop place cs ≡ m ∷ rest → drop (place + 1) cs ≡ rest
rest_left [] rest m zero e = cc
rest_left [] rest m (suc place) e = cc
rest_left (c ∷ cs) rest m zero e = cc
rest_left (c ∷ cs) rest m (suc place) e = let same : suc place + 1 ≡ suc (place + 1) = omega arith in ap (λ p. drop p (c ∷ cs)) same ∙ rest_left cs rest m place e

get_set : {A : Type 0} (xs : List A) (place at : ℕ) (x y : A) → slice_get (set xs place x) at ≡ Some y → ((at ≡ place) × (x ≡ y)) ⊎ (slice_get xs at ≡ Some y)
get_set [] place at x y e = cc
get_set (z ∷ xs) zero zero x y e = inl (refl, cc)
get_set (z ∷ xs) zero (suc at) x y e = inr e
get_set (z ∷ xs) (suc place) zero x y e = inr e
get_set (z ∷ xs) (suc place) (suc at) x y e = go (get_set xs place at x y e)
  where
    go : ((at ≡ place) × (x ≡ y)) ⊎ (slice_get xs at ≡ Some y) → ((suc at ≡ suc place) × (x ≡ y)) ⊎ (slice_get xs at ≡ Some y)
    go (inl (p, q)) = inl (ap (λ n. suc n) p, q)
    go (inr f) = inr f

other_place : (place at : ℕ) → place ≤ at → (at ≡ place → ⊥) → place + 1 ≤ at
other_place zero zero le other = absurd (other refl)
other_place zero (suc at) le other = omega arith
other_place (suc place) zero le other = absurd (omega (arith, le))
other_place (suc place) (suc at) le other = (let more : place + 1 ≤ at = other_place place at (omega (arith, le)) (λ e. other (ap (λ n. suc n) e)) in omega (arith, more))

set_there : {A : Type 0} (xs : List A) (place : ℕ) (x y : A) → slice_get (set xs place x) place ≡ Some y → x ≡ y
set_there [] place x y e = cc
set_there (z ∷ xs) zero x y e = cc
set_there (z ∷ xs) (suc place) x y e = set_there xs place x y e

-- one more column in its place
pub list_more : (listed : List (Option (List Col))) (cs : List (List Col)) (last next : Option (List Col)) (place : ℕ) → (next ≡ None → ⊥) → IsNext next last cs → columns_after last cs ≡ drop place cs → IsListedTo place listed cs
    → IsListedTo (place + 1) (set listed place next) cs × (columns_after next cs ≡ drop (place + 1) cs)
list_more listed cs last None place some n e l = absurd (some refl)
list_more listed cs last (Some m) place some n e l =
    (record { each = λ at y f. go at y (get_set listed place at (Some m) (Some y) f); full = λ at f. past at f (get_set listed place at (Some m) None f) }, sym (rest_left cs (columns_after (Some m) cs) m place (sym e ∙ n)))
  where
    go : (at : ℕ) (y : List Col) → ((at ≡ place) × (Some m ≡ Some y)) ⊎ (slice_get listed at ≡ Some (Some y)) → slice_get cs at ≡ Some y
    go at y (inl (p, q)) = ap (slice_get cs) p ∙ first_left cs (columns_after (Some m) cs) m place (sym e ∙ n) ∙ q
    go at y (inr f) = l.each at y f

    itself : (at : ℕ) → slice_get (set listed place (Some m)) at ≡ Some None → at ≡ place → ⊥
    itself at f p = let same : Some m ≡ None = set_there listed place (Some m) None (ap (λ n. slice_get (set listed place (Some m)) n) (sym p) ∙ f) in cc

    past : (at : ℕ) → slice_get (set listed place (Some m)) at ≡ Some None → ((at ≡ place) × (Some m ≡ None)) ⊎ (slice_get listed at ≡ Some None) → place + 1 ≤ at
    past at f (inl (p, q)) = cc
    past at f (inr g) = other_place place at (l.full at g) (itself at f)

-- ---- the number of a point

number_there : (cs : List (List Col)) (point : List Fraction) (m : List Col) (place : ℕ) → IsOrdered cs → slice_get cs place ≡ Some m → get_or point place (whole (pos 0)) ≡ ratio_at cs point m
number_there [] point m place o e = cc
number_there (c ∷ cs) [] m place o e = refl
number_there (c ∷ cs) (r ∷ rs) m zero o e =
    let same : c ≡ m = cc in
    subst (λ x. r ≡ ratio_at (c ∷ cs) (r ∷ rs) x) same (rw (mono_itself c) refl)
number_there (c ∷ cs) (r ∷ rs) m (suc place) o e = rw (before_each c m cs place o.0 e) (number_there cs rs m place o.1 e)

pub number_at_column : (source : ColumnSource) (point : List Fraction) (m : List Col) (place : ℕ) → slice_get (source_columns source) place ≡ Some m → get_or point place (whole (pos 0)) ≡ ratio_at (source_columns source) point m
number_at_column source point m place e = number_there (source_columns source) point m place (IsOrdered-source source) e

pub listed_there : (listed : List (Option (List Col))) (cs : List (List Col)) (m : List Col) (place : ℕ) → IsListing listed cs → slice_get listed place ≡ Some (Some m) → slice_get cs place ≡ Some m
listed_there listed cs m place l e = l.each place m e

pub same_listed : (listed : List (Option (List Col))) (place : ℕ) (own m : List Col) → slice_get listed place ≡ Some (Some own) → eq_by_cmp mono_cmp own m ≡ true → slice_get listed place ≡ Some (Some m)
same_listed listed place own m e h = go (mono_cmp own m) refl h
  where
    go : (o : Ordering) → mono_cmp own m ≡ o → is_eq o ≡ true → slice_get listed place ≡ Some (Some m)
    go Less f g = cc
    go Equal f g = e ∙ ap (λ x. Some (Some x)) (mono_tie own m f)
    go Greater f g = cc

pub ruleset listing = (behind_read, before_first, before_next, number_at_column, listed_there, same_listed)
