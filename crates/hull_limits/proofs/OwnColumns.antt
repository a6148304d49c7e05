-- Vectors at the own columns of a case, and polynomials over all columns of a question.
use Rattle.std.proofs.Common.{◌≡◌, ℕ, zero, suc, ◌+◌, ◌<◌, Bool, true, false, cond, ⊎_elim, Ordering, Less, refl, sym, ap, subst, ◌∙◌, arith, List, [], ◌∷◌, ◌++◌, map, length, get_or, ℤ, pos, ◌+ℤ◌, ◌*ℤ◌}
use Rattle.std.specs.List.{AllByRecursion}
use Rattle.std.specs.Map.{keys_of}
use Rattle.std.specs.Ordering.{eq_by_cmp, is_eq}
use Rattle.std.proofs.lemmas.Bool.{cases_eq, false≢true}
use Rattle.std.proofs.lemmas.Int.{ints}
use Rattle.std.proofs.Math.IntN.{zero-*ℤ}
use Rattle.items.proofs.Each.{each-map}
use Rattle.whole_numbers.specs.Dot.{dot}
use Rattle.linear_terms.specs.declared.col.Col.{Col}
use Rattle.linear_terms.specs.Mono.{mono_cmp}
use Rattle.linear_terms.specs.Polynomial.{Terms, Polynomial, coefficient_in}
use Rattle.farkas_check.specs.Frames.{line_of, sum_below}
use Rattle.farkas_check.specs.Relations.{entry}
use Rattle.farkas_check.proofs.Spreads.{AreAmong, is_among, is_among-right, itself, same_mono}
use Rattle.farkas_check.proofs.Walks.{IsBefore, IsOrdered}
use Rattle.cones.specs.Split.{zeros}
use Rattle.cones.proofs.Numbers.{times_zero}
use Rattle.simplex.proofs.Certificates.{sum_below-first}
use Rattle.simplex.proofs.WiderCases.{Part, done, keep, besides, not_eq}
use Rattle.simplex.proofs.WiderColumns.{before-among, before-trans}
use Rattle.hull_limits.proofs.Owners.{only, only-else, only-there, sum_over}

-- ---- own columns among others

-- it is none of the columns
abbrev pub IsNone : List (List Col) → List Col → Type 0
IsNone all m = is_among m all ≡ false

-- own columns among others, in the same order; each of the others is none of those of the case
abbrev pub IsPart : List (List Col) → List (List Col) → List (List Col) → Type 0
IsPart all = Part (IsNone all)

among-step : (m d : List Col) (ds : List (List Col)) → is_among m (d ∷ ds) ≡ true → eq_by_cmp mono_cmp m d ≡ false → is_among m ds ≡ true
among-step m d ds h e = sym (ap (λ (o : Bool). cond o true (is_among m ds)) e) ∙ h

-- what is before all of others is none of them
before-none : (c : List Col) (ds : List (List Col)) → IsBefore c ds → IsNone ds c
before-none c [] b = refl
before-none c (d ∷ ds) b = ap (λ (o : Ordering). cond (is_eq o) true (is_among c ds)) b.0 ∙ before-none c ds b.1

-- columns that rise are a part of others that do, where each of them is there
pub part-of : (all ds cs : List (List Col)) → IsOrdered ds → IsOrdered cs → AreAmong ds cs → ((m : List Col) → is_among m all ≡ true → is_among m cs ≡ true → is_among m ds ≡ true) → IsPart all ds cs
part-of all [] [] o p a f = done
part-of all (d ∷ ds) [] o p a f = absurd (false≢true a.0)
part-of all [] (c ∷ cs) o p a f = besides c [] cs tt (none (is_among c all) refl) (part-of all [] cs tt p.1 tt (λ m h k. f m h (is_among-right m (c ∷ []) cs k)))
  where
    none : (q : Bool) → is_among c all ≡ q → is_among c all ≡ false
    none false e = e
    none true e = absurd (false≢true (f c e (ap (λ (o : Bool). cond o true (is_among c cs)) (itself c))))
part-of all (d ∷ ds) (c ∷ cs) o p a f = go (eq_by_cmp mono_cmp d c) refl (part-of all ds cs o.1 p.1) (part-of all (d ∷ ds) cs o p.1)
  where
    go : (q : Bool) → eq_by_cmp mono_cmp d c ≡ q → (AreAmong ds cs → ((m : List Col) → is_among m all ≡ true → is_among m cs ≡ true → is_among m ds ≡ true) → IsPart all ds cs)
        → (AreAmong (d ∷ ds) cs → ((m : List Col) → is_among m all ≡ true → is_among m cs ≡ true → is_among m (d ∷ ds) ≡ true) → IsPart all (d ∷ ds) cs) → IsPart all (d ∷ ds) (c ∷ cs)
    go true e first later = subst (λ (x : List Col). IsPart all (d ∷ ds) (x ∷ cs)) (same_mono d c e) (keep d ds cs (first (shrunk ds o.0 a.1) left))
      where
        -- what is behind d is behind c
        shrunk : (es : List (List Col)) → IsBefore d es → AreAmong es (c ∷ cs) → AreAmong es cs
        shrunk [] b h = tt
        shrunk (x ∷ es) b h = (among-step x c cs h.0 (subst (λ (y : List Col). eq_by_cmp mono_cmp x y ≡ false) (same_mono d c e) (not_eq d x b.0)), shrunk es b.1 h.1)

        left : (m : List Col) → is_among m all ≡ true → is_among m cs ≡ true → is_among m ds ≡ true
        left m h k = among-step m d ds (f m h (is_among-right m (c ∷ []) cs k)) (subst (λ (y : List Col). eq_by_cmp mono_cmp m y ≡ false) (sym (same_mono d c e)) (not_eq c m (before-among c m cs p.0 k)))
    go false e first later = besides c (d ∷ ds) cs all_before (apart (is_among c all) refl) (later (among-step d c cs a.0 e, shrunk ds all_before.1 a.1) (λ m h k. f m h (is_among-right m (c ∷ []) cs k)))
      where
        all_before : IsBefore c (d ∷ ds)
        all_before = let less : mono_cmp c d ≡ Less = before-among c d cs p.0 (among-step d c cs a.0 e) in (less, before-trans c d ds less o.0)

        shrunk : (es : List (List Col)) → IsBefore c es → AreAmong es (c ∷ cs) → AreAmong es cs
        shrunk [] b h = tt
        shrunk (x ∷ es) b h = (among-step x c cs h.0 (not_eq c x b.0), shrunk es b.1 h.1)

        apart : (q : Bool) → is_among c all ≡ q → is_among c all ≡ false
        apart false h = h
        apart true h = absurd (false≢true (sym (before-none c (d ∷ ds) all_before) ∙ f c h (ap (λ (q : Bool). cond q true (is_among c cs)) (itself c))))

-- ---- lines that read a vector

-- the line that reads the number at a place
abbrev pub reader : ℕ → List ℤ
reader i = zeros i ++ pos 1 ∷ []

pub reader-entry : (i : ℕ) (v : List ℤ) → dot (reader i) v ≡ entry v i
reader-entry zero [] = refl
reader-entry zero (z ∷ v) = one z
  where
    one : (z : ℤ) → pos 1 *ℤ z +ℤ pos 0 ≡ z
    one z = omega (arith, ints)
reader-entry (suc i) [] = refl
reader-entry (suc i) (z ∷ v) = step (pos 0 *ℤ z) (dot (reader i) v) (entry v i) (zero-*ℤ z) (reader-entry i v)
  where
    step : (a b c : ℤ) → a ≡ pos 0 → b ≡ c → a +ℤ b ≡ c
    step a b c e f = omega (arith, ints)

-- a line that begins behind so many zeros
first-entry : (i : ℕ) (x : ℤ) (rest v : List ℤ) → dot (zeros i ++ x ∷ rest) v ≡ x *ℤ entry v i +ℤ dot (zeros (suc i) ++ rest) v
first-entry zero x rest [] = sym (none (x *ℤ pos 0) (times_zero x))
  where
    none : (a : ℤ) → a ≡ pos 0 → a +ℤ pos 0 ≡ pos 0
    none a e = omega (arith, ints)
first-entry zero x rest (z ∷ v) = ap (λ y. x *ℤ z +ℤ y) (sym (behind (pos 0 *ℤ z) (dot rest v) (zero-*ℤ z)))
  where
    behind : (a b : ℤ) → a ≡ pos 0 → a +ℤ b ≡ b
    behind a b e = omega (arith, ints)
first-entry (suc i) x rest [] = sym (none (x *ℤ pos 0) (times_zero x))
  where
    none : (a : ℤ) → a ≡ pos 0 → a +ℤ pos 0 ≡ pos 0
    none a e = omega (arith, ints)
first-entry (suc i) x rest (z ∷ v) = step (pos 0 *ℤ z) (dot (zeros i ++ x ∷ rest) v) (x *ℤ entry v i) (dot (zeros (suc i) ++ rest) v) (first-entry i x rest v)
  where
    step : (a b c d : ℤ) → b ≡ c +ℤ d → a +ℤ b ≡ c +ℤ (a +ℤ d)
    step a b c d e = omega (arith, ints)

-- for each column the line that reads it, which is none where the case does not have it, and behind
-- them the one that reads the denominator
abbrev pub readers : (all ds cs : List (List Col)) → IsPart all ds cs → ℕ → List (List ℤ)
readers all _ _ done i = reader i ∷ []
readers all _ _ (keep c ds cs p) i = reader i ∷ readers all ds cs p (suc i)
readers all _ _ (besides c ds cs b n p) i = [] ∷ readers all ds cs p i

pub readers-length : (all ds cs : List (List Col)) (p : IsPart all ds cs) (i : ℕ) → length (readers all ds cs p i) ≡ length cs + 1
readers-length all _ _ done i = refl
readers-length all _ _ (keep c ds cs p) i = omega (arith, readers-length all ds cs p (suc i))
readers-length all _ _ (besides c ds cs b n p) i = omega (arith, readers-length all ds cs p i)

-- numbers times what lines have on a vector
abbrev pub read_sum : List ℤ → List (List ℤ) → List ℤ → ℤ
read_sum [] rs v = pos 0
read_sum (x ∷ xs) [] v = pos 0
read_sum (x ∷ xs) (r ∷ rs) v = x *ℤ dot r v +ℤ read_sum xs rs v

pub sums-read : (xs : List ℤ) (rs : List (List ℤ)) (v : List ℤ) (n : ℕ) → length xs ≡ n → length rs ≡ n → sum_below n (λ c. entry xs c *ℤ dot (get_or rs c []) v) ≡ read_sum xs rs v
sums-read [] rs v zero e g = refl
sums-read [] rs v (suc n) e g = absurd (omega (arith, e))
sums-read (x ∷ xs) [] v zero e g = refl
sums-read (x ∷ xs) [] v (suc n) e g = absurd (omega (arith, g))
sums-read (x ∷ xs) (r ∷ rs) v zero e g = absurd (omega (arith, e))
sums-read (x ∷ xs) (r ∷ rs) v (suc n) e g =
    sum_below-first n (λ c. entry (x ∷ xs) c *ℤ dot (get_or (r ∷ rs) c []) v) ∙ ap (λ z. x *ℤ dot r v +ℤ z) (sums-read xs rs v n (omega (arith, e)) (omega (arith, g)))

-- a polynomial over all columns has on what is read what it has over its own on the vector
pub line-read : (all ds cs : List (List Col)) (part : IsPart all ds cs) (p : Polynomial) (i : ℕ) (v : List ℤ) → read_sum (line_of cs p) (readers all ds cs part i) v ≡ dot (zeros i ++ line_of ds p) v
line-read all _ _ done p i v = ap (λ z. p.rest *ℤ z +ℤ pos 0) (reader-entry i v) ∙ sym (first-entry i p.rest [] v ∙ ap (λ z. p.rest *ℤ entry v i +ℤ z) (nothing (suc i) v))
  where
    nothing : (i : ℕ) (v : List ℤ) → dot (zeros i ++ []) v ≡ pos 0
    nothing zero v = refl
    nothing (suc i) [] = refl
    nothing (suc i) (z ∷ v) = both (pos 0 *ℤ z) (dot (zeros i ++ []) v) (zero-*ℤ z) (nothing i v)
      where
        both : (a b : ℤ) → a ≡ pos 0 → b ≡ pos 0 → a +ℤ b ≡ pos 0
        both a b e f = omega (arith, ints)
line-read all _ _ (keep c ds cs part) p i v =
    ap (λ z. coefficient_in p.terms c *ℤ z +ℤ read_sum (line_of cs p) (readers all ds cs part (suc i)) v) (reader-entry i v)
    ∙ ap (λ z. coefficient_in p.terms c *ℤ entry v i +ℤ z) (line-read all ds cs part p (suc i) v)
    ∙ sym (first-entry i (coefficient_in p.terms c) (line_of ds p) v)
line-read all _ _ (besides c ds cs b n part) p i v = behind (coefficient_in p.terms c *ℤ pos 0) (read_sum (line_of cs p) (readers all ds cs part i) v) (times_zero (coefficient_in p.terms c)) ∙ line-read all ds cs part p i v
  where
    behind : (a b : ℤ) → a ≡ pos 0 → a +ℤ b ≡ b
    behind a b e = omega (arith, ints)

-- ---- the places of own columns, and the columns that the case lacks

-- where an own column stands among all, and behind them the constants
abbrev pub place_of : (all ds cs : List (List Col)) → IsPart all ds cs → ℕ → ℕ
place_of all _ _ done i = 0
place_of all _ _ (keep c ds cs p) zero = 0
place_of all _ _ (keep c ds cs p) (suc i) = suc (place_of all ds cs p i)
place_of all _ _ (besides c ds cs b n p) i = suc (place_of all ds cs p i)

pub place-within : (all ds cs : List (List Col)) (p : IsPart all ds cs) (i : ℕ) → place_of all ds cs p i < length cs + 1
place-within all _ _ done i = omega arith
place-within all _ _ (keep c ds cs p) zero = omega arith
place-within all _ _ (keep c ds cs p) (suc i) = omega (arith, place-within all ds cs p i)
place-within all _ _ (besides c ds cs b n p) i = omega (arith, place-within all ds cs p i)

pub place-last : (all ds cs : List (List Col)) (p : IsPart all ds cs) → place_of all ds cs p (length ds) ≡ length cs
place-last all _ _ done = refl
place-last all _ _ (keep c ds cs p) = ap suc (place-last all ds cs p)
place-last all _ _ (besides c ds cs b n p) = ap suc (place-last all ds cs p)

pub place-reads : (all ds cs : List (List Col)) (p : IsPart all ds cs) (j i : ℕ) → i < length ds + 1 → get_or (readers all ds cs p j) (place_of all ds cs p i) [] ≡ reader (j + i)
place-reads all _ _ done j i h = let e : j ≡ j + i = omega (arith, h) in ap reader e
place-reads all _ _ (keep c ds cs p) j zero h = let e : j ≡ j + 0 = omega arith in ap reader e
place-reads all _ _ (keep c ds cs p) j (suc i) h = let e : suc j + i ≡ j + suc i = omega arith in place-reads all ds cs p (suc j) i (omega (arith, h)) ∙ ap reader e
place-reads all _ _ (besides c ds cs b n p) j i h = place-reads all ds cs p j i h

-- a polynomial has there what it has at the own column
pub place-line : (all ds cs : List (List Col)) (p : IsPart all ds cs) (q : Polynomial) (i : ℕ) → i < length ds + 1 → entry (line_of cs q) (place_of all ds cs p i) ≡ entry (line_of ds q) i
place-line all _ _ done q zero l = refl
place-line all _ _ done q (suc i) l = absurd (omega (arith, l))
place-line all _ _ (keep c ds cs p) q zero l = refl
place-line all _ _ (keep c ds cs p) q (suc i) l = place-line all ds cs p q i (omega (arith, l))
place-line all _ _ (besides c ds cs b n p) q i l = place-line all ds cs p q i l

-- nothing is read of a vector that has no number from a place on
reads-nothing : (all ds cs : List (List Col)) (p : IsPart all ds cs) (j c : ℕ) (v : List ℤ) → ((k : ℕ) → entry v (j + k) ≡ pos 0) → dot (get_or (readers all ds cs p j) c []) v ≡ pos 0
reads-nothing all _ _ done j zero v h = reader-entry j v ∙ (let e : j ≡ j + 0 = omega arith in ap (entry v) e) ∙ h 0
reads-nothing all _ _ done j (suc c) v h = refl
reads-nothing all _ _ (keep d ds cs p) j zero v h = reader-entry j v ∙ (let e : j ≡ j + 0 = omega arith in ap (entry v) e) ∙ h 0
reads-nothing all _ _ (keep d ds cs p) j (suc c) v h = reads-nothing all ds cs p (suc j) c v (λ k. (let e : suc j + k ≡ j + suc k = omega arith in ap (entry v) e) ∙ h (suc k))
reads-nothing all _ _ (besides d ds cs b n p) j zero v h = refl
reads-nothing all _ _ (besides d ds cs b n p) j (suc c) v h = reads-nothing all ds cs p j c v h

-- the number at a column is at its place among those one further on too
pub only-next : (col c : ℕ) (z : ℤ) → only (suc col) z (suc c) ≡ only col z c
only-next col c z =
    ⊎_elim (λ e. ap (only (suc col) z) (ap suc e) ∙ only-there (suc col) z ∙ sym (ap (only col z) e ∙ only-there col z))
    (λ n. only-else (suc col) (suc c) z (λ e. n (omega (arith, e))) ∙ sym (only-else col c z n)) (cases_eq c col)

pub only-first : (c : ℕ) (z : ℤ) → only 0 z (suc c) ≡ pos 0
only-first c z = only-else 0 (suc c) z (λ e. absurd (omega (arith, e)))

pub only-before : (col : ℕ) (z : ℤ) → only (suc col) z 0 ≡ pos 0
only-before col z = only-else (suc col) 0 z (λ e. absurd (omega (arith, e)))

same-place : (j : ℕ) (v : List ℤ) → entry v j ≡ entry v (j + 0)
same-place j v = let e : j ≡ j + 0 = omega arith in ap (entry v) e

next-place : (j k : ℕ) (v : List ℤ) → entry v (suc j + k) ≡ entry v (j + suc k)
next-place j k v = let e : suc j + k ≡ j + suc k = omega arith in ap (entry v) e

-- a unit is read at the place of its own column alone
pub unit-reads : (all ds cs : List (List Col)) (p : IsPart all ds cs) (j i c : ℕ) (v : List ℤ) → i < length ds + 1 → ((k : ℕ) → entry v (j + k) ≡ only i (pos 1) k) → dot (get_or (readers all ds cs p j) c []) v ≡ only (place_of all ds cs p i) (pos 1) c
unit-reads all _ _ done j zero zero v l h = reader-entry j v ∙ same-place j v ∙ h 0
unit-reads all _ _ done j zero (suc c) v l h = sym (only-first c (pos 1))
unit-reads all _ _ done j (suc i) c v l h = absurd (omega (arith, l))
unit-reads all _ _ (keep d ds cs p) j zero zero v l h = reader-entry j v ∙ same-place j v ∙ h 0
unit-reads all _ _ (keep d ds cs p) j (suc i) zero v l h = reader-entry j v ∙ same-place j v ∙ h 0 ∙ only-before i (pos 1) ∙ sym (only-before (place_of all ds cs p i) (pos 1))
unit-reads all _ _ (keep d ds cs p) j zero (suc c) v l h = reads-nothing all ds cs p (suc j) c v (λ k. next-place j k v ∙ h (suc k) ∙ only-first k (pos 1)) ∙ sym (only-first c (pos 1))
unit-reads all _ _ (keep d ds cs p) j (suc i) (suc c) v l h = unit-reads all ds cs p (suc j) i c v (omega (arith, l)) (λ k. next-place j k v ∙ h (suc k) ∙ only-next i k (pos 1)) ∙ sym (only-next (place_of all ds cs p i) c (pos 1))
unit-reads all _ _ (besides d ds cs b n p) j i zero v l h = sym (only-before (place_of all ds cs p i) (pos 1))
unit-reads all _ _ (besides d ds cs b n p) j i (suc c) v l h = unit-reads all ds cs p j i c v l h ∙ sym (only-next (place_of all ds cs p i) c (pos 1))

-- the columns that are not own ones
abbrev pub lacking : (all ds cs : List (List Col)) → IsPart all ds cs → List ℕ
lacking all _ _ done = []
lacking all _ _ (keep c ds cs p) = map (λ k. suc k) (lacking all ds cs p)
lacking all _ _ (besides c ds cs b n p) = 0 ∷ map (λ k. suc k) (lacking all ds cs p)

pub lacking-within : (all ds cs : List (List Col)) (p : IsPart all ds cs) → AllByRecursion (λ c. c < length cs + 1) (lacking all ds cs p)
lacking-within all _ _ done = tt
lacking-within all _ _ (keep c ds cs p) = each-map (λ k. k < length cs + 1) (λ k. k < length (c ∷ cs) + 1) (λ k. suc k) (λ k h. omega (arith, h)) (lacking all ds cs p) (lacking-within all ds cs p)
lacking-within all _ _ (besides c ds cs b n p) = (omega arith, each-map (λ k. k < length cs + 1) (λ k. k < length (c ∷ cs) + 1) (λ k. suc k) (λ k h. omega (arith, h)) (lacking all ds cs p) (lacking-within all ds cs p))

nothing-outside : (ts : Terms) (all : List (List Col)) (m : List Col) → AreAmong (keys_of ts) all → IsNone all m → coefficient_in ts m ≡ pos 0
nothing-outside [] all m a h = refl
nothing-outside (t ∷ ts) all m a h = go (eq_by_cmp mono_cmp t.0 m) refl (nothing-outside ts all m a.1 h)
  where
    go : (q : Bool) → eq_by_cmp mono_cmp t.0 m ≡ q → coefficient_in ts m ≡ pos 0 → cond q t.1 (coefficient_in ts m) ≡ pos 0
    go true e ih = absurd (false≢true (sym h ∙ ap (λ (x : List Col). is_among x all) (sym (same_mono t.0 m e)) ∙ a.0))
    go false e ih = ih

-- a polynomial of the case has nothing at a column that the case lacks
pub lacking-nothing : (all ds cs : List (List Col)) (p : IsPart all ds cs) (q : Polynomial) → AreAmong (keys_of q.terms) all → AllByRecursion (λ c. entry (line_of cs q) c ≡ pos 0) (lacking all ds cs p)
lacking-nothing all _ _ done q a = tt
lacking-nothing all _ _ (keep c ds cs p) q a = each-map (λ k. entry (line_of cs q) k ≡ pos 0) (λ k. entry (line_of (c ∷ cs) q) k ≡ pos 0) (λ k. suc k) (λ k h. h) (lacking all ds cs p) (lacking-nothing all ds cs p q a)
lacking-nothing all _ _ (besides c ds cs b n p) q a =
    (nothing-outside q.terms all c a n, each-map (λ k. entry (line_of cs q) k ≡ pos 0) (λ k. entry (line_of (c ∷ cs) q) k ≡ pos 0) (λ k. suc k) (λ k h. h) (lacking all ds cs p) (lacking-nothing all ds cs p q a))

pub over-map : (h : ℕ → ℕ) (cs : List ℕ) (g : ℕ → ℤ) → sum_over (map h cs) g ≡ sum_over cs (λ k. g (h k))
over-map h [] g = refl
over-map h (c ∷ cs) g = ap (λ z. g (h c) +ℤ z) (over-map h cs g)

first-below : (n : ℕ) (f : ℕ → ℤ) → sum_below (suc n + 1) f ≡ f 0 +ℤ sum_below (n + 1) (λ l. f (suc l))
first-below n f = (let e : suc n + 1 ≡ suc (n + 1) = omega arith in ap (λ m. sum_below m f) e) ∙ sum_below-first (n + 1) f

-- a column is an own one or one that the case lacks
pub parted-columns : (all ds cs : List (List Col)) (p : IsPart all ds cs) (g : ℕ → ℤ) → sum_below (length ds + 1) (λ i. g (place_of all ds cs p i)) +ℤ sum_over (lacking all ds cs p) g ≡ sum_below (length cs + 1) g
parted-columns all _ _ done g = right (pos 0 +ℤ g 0)
  where
    right : (z : ℤ) → z +ℤ pos 0 ≡ z
    right z = omega (arith, ints)
parted-columns all _ _ (keep c ds cs p) g =
    (λ i. (first-below (length ds) (λ i. g (place_of all (c ∷ ds) (c ∷ cs) (keep c ds cs p) i))) i +ℤ over-map (λ k. suc k) (lacking all ds cs p) g i)
    ∙ group (g 0) (sum_below (length ds + 1) (λ i. g (suc (place_of all ds cs p i)))) (sum_over (lacking all ds cs p) (λ k. g (suc k)))
    ∙ ap (λ z. g 0 +ℤ z) (parted-columns all ds cs p (λ k. g (suc k)))
    ∙ sym (first-below (length cs) g)
  where
    group : (a b c : ℤ) → a +ℤ b +ℤ c ≡ a +ℤ (b +ℤ c)
    group a b c = omega (arith, ints)
parted-columns all _ _ (besides c ds cs b n p) g =
    ap (λ z. sum_below (length ds + 1) (λ i. g (suc (place_of all ds cs p i))) +ℤ (g 0 +ℤ z)) (over-map (λ k. suc k) (lacking all ds cs p) g)
    ∙ group (sum_below (length ds + 1) (λ i. g (suc (place_of all ds cs p i)))) (g 0) (sum_over (lacking all ds cs p) (λ k. g (suc k)))
    ∙ ap (λ z. g 0 +ℤ z) (parted-columns all ds cs p (λ k. g (suc k)))
    ∙ sym (first-below (length cs) g)
  where
    group : (a b c : ℤ) → a +ℤ (b +ℤ c) ≡ b +ℤ (a +ℤ c)
    group a b c = omega (arith, ints)
