-- The lines of spots are independent: no sum of multiples is 0 at all unknowns but that of zeros.
-- So each line of their tableau chooses an unknown.
use Rattle.std.proofs.Common.{◌≡◌, ◌≢◌, ◌⊎◌, inl, inr, ℕ, zero, suc, ◌+◌, ◌-◌, ◌<◌, ◌≤◌, List, [], ◌∷◌, ◌++◌, length, get_or, refl, sym, ap, subst, ◌∙◌, arith, ⊎_elim, ℤ, pos, negsuc, ◌+ℤ◌, ◌*ℤ◌, ◌<ℤ◌}
use Rattle.std.proofs.lemmas.Int.{ints}
use Rattle.std.proofs.lemmas.Bool.{cases_eq, cases_lt}
use Rattle.std.proofs.Math.IntN.{*ℤ_comm, zero-*ℤ}
use Rattle.whole_numbers.proofs.Ring.{ring, *ℤ_assoc}
use Rattle.farkas_check.specs.Frames.{sum_below}
use Rattle.farkas_check.specs.Relations.{entry}
use Rattle.simplex.specs.Exchange.{numbers_of, choices_of}
use Rattle.simplex.specs.Spots.{IsRelationOf, IsSpotTableau, AreIndependent, inner_product, spots_framed}
use Rattle.simplex.specs.declared.tableau.Tableau.{Tableau}
use Rattle.simplex.proofs.Corners.{none, single, plus, swapped, factored}
use Rattle.simplex.proofs.Exchanges.{times_zero, zero_factor}
use Rattle.simplex.proofs.RowTableaux.{at_front, after_front, long}
use Rattle.simplex.proofs.SpotFrames.{framed-number}
use Rattle.simplex.proofs.RowCorners.{find_choice}
use Rattle.simplex.proofs.Sums.{sum_below-same}

pub independent_none : (count : ℕ) (lines : List (List ℤ)) → lines ≡ [] → AreIndependent count lines
independent_none count lines e = record { all_zero = λ w h l g. absurd (let f : length lines ≡ 0 = ap length e in omega (arith, f, g)) }

-- ---- one more line

-- a line on which a relation of all others is not 0
more_zero : (count : ℕ) (lines : List (List ℤ)) (line ns : List ℤ) → AreIndependent count lines → ((l : ℕ) → l < length lines → inner_product count ns (get_or lines l []) ≡ pos 0) → inner_product count ns line ≢ pos 0
    → (w : ℕ → ℤ) → ((j : ℕ) → j < count → sum_below (length (lines ++ line ∷ [])) (λ l. w l *ℤ entry (get_or (lines ++ line ∷ []) l []) j) ≡ pos 0) → (l : ℕ) → l < length (lines ++ line ∷ []) → w l ≡ pos 0
more_zero count lines line ns before level apart w h = each
  where
    m : ℕ
    m = length lines

    longer : length (lines ++ line ∷ []) ≡ suc (length lines)
    longer = long lines (line ∷ []) ∙ (let e : length lines + 1 ≡ suc (length lines) = omega arith in e)

    own : (j : ℕ) → entry (get_or (lines ++ line ∷ []) (length lines) []) j ≡ entry line j
    own j = (let e : length lines ≡ length lines + 0 = omega arith in ap (λ (n : ℕ). entry (get_or (lines ++ line ∷ []) n []) j) e) ∙ ap (λ (ns : List ℤ). entry ns j) (after_front lines (line ∷ []) [] 0)

    front : (j l : ℕ) → l < length lines → w l *ℤ entry (get_or (lines ++ line ∷ []) l []) j ≡ w l *ℤ entry (get_or lines l []) j
    front j l g = ap (λ (ns : List ℤ). w l *ℤ entry ns j) (at_front lines (line ∷ []) [] l g)

    -- the sum at an unknown, the last line apart
    split : (j : ℕ) → j < count → sum_below (length lines) (λ l. w l *ℤ entry (get_or lines l []) j) +ℤ w (length lines) *ℤ entry line j ≡ pos 0
    split j g =
        ap (λ z. z +ℤ w m *ℤ entry line j) (sym (sum_below-same m (λ l. w l *ℤ entry (get_or (lines ++ line ∷ []) l []) j) (λ l. w l *ℤ entry (get_or lines l []) j) (front j)))
        ∙ ap (λ z. sum_below m (λ l. w l *ℤ entry (get_or (lines ++ line ∷ []) l []) j) +ℤ w m *ℤ z) (sym (own j))
        ∙ ap (λ (n : ℕ). sum_below n (λ l. w l *ℤ entry (get_or (lines ++ line ∷ []) l []) j)) (sym longer)
        ∙ h j g

    slide : (a b c : ℤ) → a *ℤ (b *ℤ c) ≡ b *ℤ (a *ℤ c)
    slide a b c = simp ring (omega (arith, ints))

    -- the relation's numbers times these sums
    at : (j : ℕ) → j < count → sum_below (length lines) (λ l. w l *ℤ (entry ns j *ℤ entry (get_or lines l []) j)) +ℤ w (length lines) *ℤ (entry ns j *ℤ entry line j) ≡ pos 0
    at j g =
        ap (λ z. z +ℤ w m *ℤ (entry ns j *ℤ entry line j)) (sum_below-same m (λ l. w l *ℤ (entry ns j *ℤ entry (get_or lines l []) j)) (λ l. entry ns j *ℤ (w l *ℤ entry (get_or lines l []) j)) (λ l k. slide (w l) (entry ns j) (entry (get_or lines l []) j)) ∙ sym (factored m (entry ns j) (λ l. w l *ℤ entry (get_or lines l []) j)))
        ∙ ap (λ z. entry ns j *ℤ sum_below m (λ l. w l *ℤ entry (get_or lines l []) j) +ℤ z) (slide (w m) (entry ns j) (entry line j))
        ∙ together (entry ns j) (sum_below m (λ l. w l *ℤ entry (get_or lines l []) j)) (w m *ℤ entry line j)
        ∙ ap (λ z. entry ns j *ℤ z) (split j g) ∙ times_zero (entry ns j)
      where
        together : (a b c : ℤ) → a *ℤ b +ℤ a *ℤ c ≡ a *ℤ (b +ℤ c)
        together a b c = simp ring (omega (arith, ints))

    last_product : w (length lines) *ℤ inner_product count ns line ≡ pos 0
    last_product =
        factored count (w m) (λ j. entry ns j *ℤ entry line j)
        ∙ left (sum_below count (λ j. w m *ℤ (entry ns j *ℤ entry line j)))
        ∙ ap (λ z. z +ℤ sum_below count (λ j. w m *ℤ (entry ns j *ℤ entry line j))) (sym rest)
        ∙ sym (plus count (λ j. sum_below m (λ l. w l *ℤ (entry ns j *ℤ entry (get_or lines l []) j))) (λ j. w m *ℤ (entry ns j *ℤ entry line j)))
        ∙ none count (λ j. sum_below m (λ l. w l *ℤ (entry ns j *ℤ entry (get_or lines l []) j)) +ℤ w m *ℤ (entry ns j *ℤ entry line j)) at
      where
        left : (z : ℤ) → z ≡ pos 0 +ℤ z
        left z = omega (arith, ints)

        rest : sum_below count (λ j. sum_below (length lines) (λ l. w l *ℤ (entry ns j *ℤ entry (get_or lines l []) j))) ≡ pos 0
        rest =
            swapped count m (λ j l. w l *ℤ (entry ns j *ℤ entry (get_or lines l []) j))
            ∙ none m (λ l. sum_below count (λ j. w l *ℤ (entry ns j *ℤ entry (get_or lines l []) j)))
            (λ l k. sym (factored count (w l) (λ j. entry ns j *ℤ entry (get_or lines l []) j)) ∙ ap (λ z. w l *ℤ z) (level l k) ∙ times_zero (w l))

    last : w (length lines) ≡ pos 0
    last = zero_factor (w m) (inner_product count ns line) last_product apart

    others : (l : ℕ) → l < length lines → w l ≡ pos 0
    others = before.all_zero w (λ j g. no_last (sum_below m (λ l. w l *ℤ entry (get_or lines l []) j)) (w m) (entry line j) last (split j g))
      where
        no_last : (s a b : ℤ) → a ≡ pos 0 → s +ℤ a *ℤ b ≡ pos 0 → s ≡ pos 0
        no_last s a b e f = plain s (a *ℤ b) (ap (λ z. z *ℤ b) e ∙ zero-*ℤ b) f
          where
            plain : (s p : ℤ) → p ≡ pos 0 → s +ℤ p ≡ pos 0 → s ≡ pos 0
            plain s p g k = omega (arith, ints, g, k)

    each : (l : ℕ) → l < length (lines ++ line ∷ []) → w l ≡ pos 0
    each l g = ⊎_elim (λ (k : l < length lines). others l k) (λ (k : length lines ≤ l). let e : l ≡ length lines = omega (arith, longer, g, k) in ap w e ∙ last) (cases_lt l (length lines))

pub independent_more : (count : ℕ) (lines : List (List ℤ)) (line ns : List ℤ) → AreIndependent count lines → ((l : ℕ) → l < length lines → inner_product count ns (get_or lines l []) ≡ pos 0) → inner_product count ns line ≢ pos 0 → AreIndependent count (lines ++ line ∷ [])
independent_more count lines line ns before level apart = record { all_zero = more_zero count lines line ns before level apart }

-- ---- a relation of the tableau is 0 on each line

-- a sum with two parts that are not 0
double : (n : ℕ) (f : ℕ → ℤ) (a b : ℕ) → a < n → b < n → a ≢ b → ((j : ℕ) → j < n → j ≢ a → j ≢ b → f j ≡ pos 0) → sum_below n f ≡ f a +ℤ f b
double zero f a b h k apart e = absurd (omega (arith, h))
double (suc n) f a b h k apart e = ⊎_elim
    (λ (same : a ≡ n). ap (λ z. z +ℤ f n) (single n f b (omega (arith, k, same, apart)) (λ j g other. e j (omega (arith, g)) (λ is. absurd (omega (arith, is, same, g))) other)) ∙ swap (f b) (f n) ∙ ap (λ z. z +ℤ f b) (ap f (sym same)))
    (λ first. ⊎_elim
    (λ (same : b ≡ n). ap (λ z. z +ℤ f n) (single n f a (omega (arith, h, first)) (λ j g other. e j (omega (arith, g)) other (λ is. absurd (omega (arith, is, same, g))))) ∙ ap (λ z. f a +ℤ z) (ap f (sym same)))
    (λ second. ap (λ z. sum_below n f +ℤ z) (e n (omega arith) (λ is. first (sym is)) (λ is. second (sym is))) ∙ right (sum_below n f) ∙ double n f a b (omega (arith, h, first)) (omega (arith, k, second)) apart (λ j g. e j (omega (arith, g))))
    (cases_eq b n)) (cases_eq a n)
  where
    swap : (x y : ℤ) → x +ℤ y ≡ y +ℤ x
    swap x y = omega (arith, ints)

    right : (z : ℤ) → z +ℤ pos 0 ≡ z
    right z = omega (arith, ints)

past : (ns : List ℤ) (j : ℕ) → length ns ≤ j → entry ns j ≡ pos 0
past [] j h = refl
past (n ∷ ns) zero h = absurd (omega (arith, h))
past (n ∷ ns) (suc j) h = past ns j (omega (arith, h))

-- a sum whose parts from a place on are 0
pub shortened : (n k : ℕ) (f : ℕ → ℤ) → ((j : ℕ) → n ≤ j → f j ≡ pos 0) → sum_below (n + k) f ≡ sum_below n f
shortened n zero f e = (let g : n + 0 ≡ n = omega arith in ap (λ (m : ℕ). sum_below m f) g)
shortened n (suc k) f e =
    (let g : n + suc k ≡ suc (n + k) = omega arith in ap (λ (m : ℕ). sum_below m f) g)
    ∙ ap (λ z. sum_below (n + k) f +ℤ z) (e (n + k) (omega arith)) ∙ right (sum_below (n + k) f) ∙ shortened n k f e
  where
    right : (z : ℤ) → z +ℤ pos 0 ≡ z
    right z = omega (arith, ints)

pub relation_level : (count : ℕ) (lines : List (List ℤ)) (t : Tableau) (unknown : ℕ) (ns : List ℤ) → IsSpotTableau count lines t → ((i : ℕ) → i < length t.lines → choices_of t i < count) → unknown < count → ((k : ℕ) → k < length t.lines → choices_of t k ≢ unknown) → IsRelationOf count t unknown ns
    → (l : ℕ) → l < length lines → inner_product count ns (get_or lines l []) ≡ pos 0
relation_level count lines t unknown ns s chosen here apart r l g =
    sum_below-same count (λ j. entry ns j *ℤ entry (get_or lines l []) j) (λ j. numbers_of (spots_framed count lines) l j *ℤ entry ns j) (λ j h. *ℤ_comm (entry ns j) (entry (get_or lines l []) j) ∙ ap (λ z. z *ℤ entry ns j) (sym (framed-number count lines l j g h)))
    ∙ sym (shortened count (length t.lines) (λ j. numbers_of (spots_framed count lines) l j *ℤ entry ns j) (λ j h. beyond (numbers_of (spots_framed count lines) l j) j h))
    ∙ s.tableau.is.solutions (entry ns) on_line l (subst (λ (n : ℕ). l < n) (sym s.many) g)
  where
    beyond : (z : ℤ) (j : ℕ) → count ≤ j → z *ℤ entry ns j ≡ pos 0
    beyond z j h = ap (λ x. z *ℤ x) (past ns j (subst (λ (n : ℕ). n ≤ j) (sym r.each) h)) ∙ times_zero z

    on_line : (i : ℕ) → i < length t.lines → sum_below (count + length t.lines) (λ j. numbers_of t i j *ℤ entry ns j) ≡ pos 0
    on_line i h =
        double (count + length t.lines) (λ j. numbers_of t i j *ℤ entry ns j) unknown (choices_of t i) (omega (arith, here)) (let k : choices_of t i < count = chosen i h in omega (arith, k)) (λ same. apart i h (sym same)) elsewhere
        ∙ ap (λ z. numbers_of t i unknown *ℤ entry ns unknown +ℤ z) (*ℤ_comm (numbers_of t i (choices_of t i)) (entry ns (choices_of t i)) ∙ r.chosen i h (chosen i h) (apart i h))
        ∙ level (numbers_of t i unknown) (entry ns unknown)
      where
        level : (a b : ℤ) → a *ℤ b +ℤ a *ℤ negsuc 0 *ℤ b ≡ pos 0
        level a b = ap (λ z. a *ℤ b +ℤ z *ℤ b) (turned a) ∙ cancelled a b
          where
            turned : (z : ℤ) → z *ℤ negsuc 0 ≡ negsuc 0 *ℤ z
            turned z = omega (arith, ints)

            minus : (z : ℤ) → z +ℤ negsuc 0 *ℤ z ≡ pos 0
            minus z = omega (arith, ints)

            cancelled : (a b : ℤ) → a *ℤ b +ℤ negsuc 0 *ℤ a *ℤ b ≡ pos 0
            cancelled a b = ap (λ z. a *ℤ b +ℤ z) (*ℤ_assoc (negsuc 0) a b) ∙ minus (a *ℤ b)

        elsewhere : (j : ℕ) → j < count + length t.lines → j ≢ unknown → j ≢ choices_of t i → numbers_of t i j *ℤ entry ns j ≡ pos 0
        elsewhere j k first second = ⊎_elim (λ (q : j < count). inside q (find_choice (length t.lines) (choices_of t) j)) (λ (q : count ≤ j). beyond (numbers_of t i j) j q) (cases_lt j count)
          where
            inside : j < count → ((k : ℕ) × ((k < length t.lines) × (choices_of t k ≡ j))) ⊎ ((k : ℕ) → k < length t.lines → choices_of t k ≢ j) → numbers_of t i j *ℤ entry ns j ≡ pos 0
            inside q (inl c) =
                ap (λ z. z *ℤ entry ns j) (ap (numbers_of t i) (sym c.1.1) ∙ s.tableau.is.others i c.0 h c.1.0 (λ same. second (sym c.1.1 ∙ ap (choices_of t) (sym same)))) ∙ zero-*ℤ (entry ns j)
            inside q (inr free) = ap (λ z. numbers_of t i j *ℤ z) (r.free j q first free) ∙ times_zero (numbers_of t i j)

-- ---- each line chooses an unknown

-- a line of the tableau is not 0 at all unknowns
pub some_unknown : (count : ℕ) (lines : List (List ℤ)) (t : Tableau) (line : ℕ) → IsSpotTableau count lines t → AreIndependent count lines → line < length lines → ((j : ℕ) → j < count → numbers_of t line j ≡ pos 0) → ⊥
some_unknown count lines t line s independent here zeros = ⊎_elim
    (λ (h : choices_of t line < count). clash (numbers_of t line (choices_of t line)) (s.tableau.is.own line inside) (zeros (choices_of t line) h))
    (λ (h : count ≤ choices_of t line). clash (numbers_of t line (choices_of t line)) (s.tableau.is.own line inside) (at_unit (choices_of t line) h (s.tableau.within line inside))) (cases_lt (choices_of t line) count)
  where
    inside : line < length t.lines
    inside = subst (λ (n : ℕ). line < n) (sym s.many) here

    clash : (z : ℤ) → pos 0 <ℤ z → z ≡ pos 0 → ⊥
    clash z h e = omega (arith, ints, h, e)

    units : (l : ℕ) → l < length lines → numbers_of t line (count + l) ≡ pos 0
    units = independent.all_zero (λ l. numbers_of t line (count + l)) sums
      where
        sums : (j : ℕ) → j < count → sum_below (length lines) (λ l. numbers_of t line (count + l) *ℤ entry (get_or lines l []) j) ≡ pos 0
        sums j h =
            sum_below-same (length lines) (λ l. numbers_of t line (count + l) *ℤ entry (get_or lines l []) j) (λ l. numbers_of t line (count + l) *ℤ numbers_of (spots_framed count lines) l j) (λ l g. ap (λ z. numbers_of t line (count + l) *ℤ z) (sym (framed-number count lines l j g h)))
            ∙ ap (λ (n : ℕ). sum_below n (λ l. numbers_of t line (count + l) *ℤ numbers_of (spots_framed count lines) l j)) (sym s.many)
            ∙ sym (s.tableau.is.combination line inside j (omega (arith, h))) ∙ zeros j h

    at_unit : (c : ℕ) → count ≤ c → c < count + length t.lines → numbers_of t line c ≡ pos 0
    at_unit c h g =
        let e : c ≡ count + (c - count) = omega (arith, h) in
        let k : c - count < length lines = subst (λ (n : ℕ). c - count < n) s.many (omega (arith, h, g)) in
        ap (numbers_of t line) e ∙ units (c - count) k
