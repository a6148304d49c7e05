-- The frame of a case's rows with a relation's difference is as small as that with minus the
-- difference: the tableaux of one are those of the other with the sign of one unit column turned.
use Rattle.std.proofs.Common.{◌≡◌, ◌≢◌, ℕ, zero, suc, ◌+◌, ◌*◌, ◌<◌, ◌≤◌, Bool, true, false, cond, List, [], ◌∷◌, ◌++◌, map, length, get_or, refl, sym, ap, subst, ◌∙◌, arith, ⊎_elim, ℤ, pos, ◌*ℤ◌}
use Rattle.std.specs.Prelude.{nat_eq, nat_lt, unsigned_abs}
use Rattle.std.specs.List.{AllByRecursion}
use Rattle.std.proofs.lemmas.Int.{ints, unsigned_abs-mul}
use Rattle.std.proofs.lemmas.Bool.{cases_eq, cases_lt, eq-eqb, ne_eqb, lt-ltb, ltb-true}
use Rattle.std.proofs.Math.Nat.{one-mul}
use Rattle.whole_numbers.specs.Divisors.{gcd_of, gcd_of_all}
use Rattle.std.proofs.Math.IntN.{*ℤ_comm}
use Rattle.whole_numbers.proofs.Ring.{ring, one-*ℤ, *ℤ_assoc, *ℤ_left_comm}
use Rattle.linear_terms.specs.declared.col.Col.{Col}
use Rattle.linear_terms.specs.declared.row.Row.{Row}
use Rattle.linear_terms.specs.Polynomial.{Polynomial}
use Rattle.farkas_check.specs.Calm.{difference_line, difference_frame}
use Rattle.farkas_check.specs.Frames.{Frame, number_in, line_of, frame_of, width, line_count, sum_below, IsTableau, AreUpTo, IsCalmUpTo}
use Rattle.farkas_check.specs.Relations.{entry, places, sides, difference, coefficient_at, rest_of}
use Rattle.farkas_check.specs.Sizes.{row_polys}
use Rattle.farkas_check.specs.declared.stratum.Change.{Change}
use Rattle.simplex.specs.Differences.{IsDifferenceOf}
use Rattle.simplex.specs.Raise.{sign_of}
use Rattle.simplex.specs.Refusal.{IsSmallFrame}
use Rattle.simplex.specs.Suprema.{with_goal, frame_over}
use Rattle.simplex.proofs.Calmness.{small_frame}
use Rattle.simplex.proofs.Corners.{factored}
use Rattle.simplex.proofs.RowTableaux.{at_front, after_front, long}
use Rattle.simplex.proofs.Objectives.{more_rows}
use Rattle.simplex.proofs.Sums.{sum_below-same}

-- ---- sizes

-- numbers of the same sizes have the same divisor
same_divisor : (f g : ℕ → ℤ) (xs : List ℕ) → ((x : ℕ) → unsigned_abs (f x) ≡ unsigned_abs (g x)) → gcd_of_all (map f xs) ≡ gcd_of_all (map g xs)
same_divisor f g [] same = refl
same_divisor f g (x ∷ xs) same = ap (λ (n : ℕ). gcd_of n (gcd_of_all (map f xs))) (same x) ∙ ap (λ (n : ℕ). gcd_of (unsigned_abs (g x)) n) (same_divisor f g xs same)

same_sizes : (b : ℕ) (f g : ℕ → ℤ) (xs : List ℕ) → ((x : ℕ) → unsigned_abs (f x) ≡ unsigned_abs (g x)) → AllByRecursion (λ z. unsigned_abs z ≤ b) (map f xs) → AllByRecursion (λ z. unsigned_abs z ≤ b) (map g xs)
same_sizes b f g [] same h = tt
same_sizes b f g (x ∷ xs) same h = (subst (λ (n : ℕ). n ≤ b) (same x) h.0, same_sizes b f g xs same h.1)

same_up_to : (n : ℕ) (o : ℤ) (f g : ℕ → ℤ) (xs : List ℕ) → ((x : ℕ) → unsigned_abs (f x) ≡ unsigned_abs (g x)) → AreUpTo n (o ∷ map f xs) → AreUpTo n (o ∷ map g xs)
same_up_to n o f g xs same h =
    subst (λ (d : ℕ). (unsigned_abs o ≤ n * d) × AllByRecursion (λ z. unsigned_abs z ≤ n * d) (map g xs)) (ap (λ (d : ℕ). gcd_of (unsigned_abs o) d) (same_divisor f g xs same))
    (h.0, same_sizes (n * gcd_of_all (o ∷ map f xs)) f g xs same h.1)

-- ---- signs

-- a sign
record IsSign (s : ℤ) : Type 0 where
  pub square : s *ℤ s ≡ pos 1
  pub size : unsigned_abs s ≡ 1

-- one frame is the other with the signs of some lines and of some columns turned
record AreTurns (f g : Frame) : Type 0 where
  pub lines : ℕ → ℤ
  pub columns : ℕ → ℤ
  pub line_sign : (l : ℕ) → IsSign (lines l)
  pub column_sign : (j : ℕ) → IsSign (columns j)
  pub many : line_count g ≡ line_count f
  pub wide : width g ≡ width f
  pub is : (l j : ℕ) → l < line_count f → j < width f → number_in g l j ≡ lines l *ℤ columns j *ℤ number_in f l j

abbrev turned_multiple : (f g : Frame) → AreTurns f g → List ℕ → (ℕ → ℕ → ℤ) → ℕ → ℕ → ℤ
turned_multiple f g t chosen multiple k j = t.columns j *ℤ (t.columns (get_or chosen k 0) *ℤ multiple k j)

turned_size : (f g : Frame) (t : AreTurns f g) (chosen : List ℕ) (multiple : ℕ → ℕ → ℤ) (k j : ℕ) → unsigned_abs (turned_multiple f g t chosen multiple k j) ≡ unsigned_abs (multiple k j)
turned_size f g t chosen multiple k j =
    unsigned_abs-mul (t.columns j) (t.columns (get_or chosen k 0) *ℤ multiple k j)
    ∙ ap (λ (n : ℕ). n * unsigned_abs (t.columns (get_or chosen k 0) *ℤ multiple k j)) (t.column_sign j).size
    ∙ one-mul (unsigned_abs (t.columns (get_or chosen k 0) *ℤ multiple k j))
    ∙ unsigned_abs-mul (t.columns (get_or chosen k 0)) (multiple k j)
    ∙ ap (λ (n : ℕ). n * unsigned_abs (multiple k j)) (t.column_sign (get_or chosen k 0)).size
    ∙ one-mul (unsigned_abs (multiple k j))

at_choice : (P : ℕ → Type 0) (xs : List ℕ) (k : ℕ) → AllByRecursion P xs → k < length xs → P (get_or xs k 0)
at_choice P [] k h e = absurd (omega (arith, e))
at_choice P (x ∷ xs) zero h e = h.0
at_choice P (x ∷ xs) (suc k) h e = at_choice P xs k h.1 (omega (arith, e))

-- two signs twice
both_gone : (r c z : ℤ) → r *ℤ r ≡ pos 1 → c *ℤ c ≡ pos 1 → r *ℤ (c *ℤ (r *ℤ (c *ℤ z))) ≡ z
both_gone r c z p q =
    ap (λ x. r *ℤ x) (*ℤ_left_comm c r (c *ℤ z) ∙ ap (λ x. r *ℤ x) (sym (*ℤ_assoc c c z) ∙ ap (λ x. x *ℤ z) q ∙ one-*ℤ z))
    ∙ sym (*ℤ_assoc r r z) ∙ ap (λ x. x *ℤ z) p ∙ one-*ℤ z

-- a tableau of one frame is one of the other
turned_tableau : (f g : Frame) (t : AreTurns f g) (chosen : List ℕ) (over : ℤ) (multiple : ℕ → ℕ → ℤ) → IsTableau g chosen over multiple → IsTableau f chosen over (turned_multiple f g t chosen multiple)
turned_tableau f g t chosen over multiple s = record {
  each = s.each ∙ t.many;
  within = subst (λ (n : ℕ). AllByRecursion (λ column. column < n) chosen) t.wide s.within;
  positive = s.positive;
  writes = λ l j h k. writes l j h k;
}
  where
    r : ℕ → ℤ
    r = t.lines

    c : ℕ → ℤ
    c = t.columns

    there : (k : ℕ) → k < line_count f → get_or chosen k 0 < width f
    there k h = subst (λ (n : ℕ). get_or chosen k 0 < n) t.wide (at_choice (λ column. column < width g) chosen k s.within (subst (λ (n : ℕ). k < n) (sym (s.each ∙ t.many)) h))

    written : (l j : ℕ) → l < line_count f → j < width f → over *ℤ number_in g l j ≡ sum_below (line_count g) (λ k. multiple k j *ℤ number_in g l (get_or chosen k 0))
    written l j h k = s.writes l j (subst (λ (n : ℕ). l < n) (sym t.many) h) (subst (λ (n : ℕ). j < n) (sym t.wide) k)

    slide : (a b m x : ℤ) (d : ℤ) → a *ℤ (b *ℤ (m *ℤ (a *ℤ d *ℤ x))) ≡ a *ℤ (a *ℤ (b *ℤ (d *ℤ m) *ℤ x))
    slide a b m x d = simp ring (omega (arith, ints))

    square_gone : (a x : ℤ) → a *ℤ a ≡ pos 1 → a *ℤ (a *ℤ x) ≡ x
    square_gone a x p = sym (*ℤ_assoc a a x) ∙ ap (λ y. y *ℤ x) p ∙ one-*ℤ x

    part_is : (l j k : ℕ) → l < line_count f → k < line_count f → r l *ℤ (c j *ℤ (multiple k j *ℤ number_in g l (get_or chosen k 0))) ≡ turned_multiple f g t chosen multiple k j *ℤ number_in f l (get_or chosen k 0)
    part_is l j k h i =
        ap (λ z. r l *ℤ (c j *ℤ (multiple k j *ℤ z))) (t.is l (get_or chosen k 0) h (there k i))
        ∙ slide (r l) (c j) (multiple k j) (number_in f l (get_or chosen k 0)) (c (get_or chosen k 0))
        ∙ square_gone (r l) (turned_multiple f g t chosen multiple k j *ℤ number_in f l (get_or chosen k 0)) (t.line_sign l).square

    first_slide : (a b o x : ℤ) → a *ℤ (b *ℤ (o *ℤ (a *ℤ b *ℤ x))) ≡ a *ℤ (b *ℤ (a *ℤ (b *ℤ (o *ℤ x))))
    first_slide a b o x = simp ring (omega (arith, ints))

    writes : (l j : ℕ) → l < line_count f → j < width f → over *ℤ number_in f l j ≡ sum_below (line_count f) (λ k. turned_multiple f g t chosen multiple k j *ℤ number_in f l (get_or chosen k 0))
    writes l j h k =
        sym (both_gone (r l) (c j) (over *ℤ number_in f l j) (t.line_sign l).square (t.column_sign j).square)
        ∙ sym (first_slide (r l) (c j) over (number_in f l j))
        ∙ ap (λ z. r l *ℤ (c j *ℤ (over *ℤ z))) (sym (t.is l j h k))
        ∙ ap (λ z. r l *ℤ (c j *ℤ z)) (written l j h k ∙ ap (λ (n : ℕ). sum_below n (λ i. multiple i j *ℤ number_in g l (get_or chosen i 0))) t.many)
        ∙ ap (λ z. r l *ℤ z) (factored (line_count f) (c j) (λ i. multiple i j *ℤ number_in g l (get_or chosen i 0)))
        ∙ factored (line_count f) (r l) (λ i. c j *ℤ (multiple i j *ℤ number_in g l (get_or chosen i 0)))
        ∙ sum_below-same (line_count f) (λ i. r l *ℤ (c j *ℤ (multiple i j *ℤ number_in g l (get_or chosen i 0)))) (λ i. turned_multiple f g t chosen multiple i j *ℤ number_in f l (get_or chosen i 0)) (λ i g. part_is l j i h g)

turned_calm : (n : ℕ) (f g : Frame) → AreTurns f g → IsCalmUpTo n f → IsCalmUpTo n g
turned_calm n f g t calm = record {
  lines = λ chosen over multiple s k h.
      same_up_to n over (turned_multiple f g t chosen multiple k) (multiple k) (places (width g)) (λ j. turned_size f g t chosen multiple k j)
      (subst (λ (w : ℕ). AreUpTo n (over ∷ map (turned_multiple f g t chosen multiple k) (places w))) (sym t.wide) (calm.lines chosen over (turned_multiple f g t chosen multiple) (turned_tableau f g t chosen over multiple s) k (subst (λ (m : ℕ). k < m) t.many h)));
  columns = λ chosen over multiple s j h.
      same_up_to n over (λ k. turned_multiple f g t chosen multiple k j) (λ k. multiple k j) (places (line_count g)) (λ k. turned_size f g t chosen multiple k j)
      (subst (λ (m : ℕ). AreUpTo n (over ∷ map (λ k. turned_multiple f g t chosen multiple k j) (places m))) (sym t.many) (calm.columns chosen over (turned_multiple f g t chosen multiple) (turned_tableau f g t chosen over multiple s) j (subst (λ (w : ℕ). j < w) t.wide h)));
}

-- ---- the frame of the difference

sign_is : (up : Bool) → IsSign (sign_of up)
sign_is true = record { square = refl; size = refl }
sign_is false = record { square = refl; size = refl }

one_is : IsSign (pos 1)
one_is = record { square = refl; size = refl }

at_one_place : (s : ℤ) (b : Bool) → IsSign s → IsSign (cond b s (pos 1))
at_one_place s true h = h
at_one_place s false h = one_is

pub row_lines-goal : (cs : List (List Col)) (rows : List Row) (p : Polynomial) → map (line_of cs) (row_polys (with_goal rows p) []) ≡ map (line_of cs) (row_polys rows []) ++ line_of cs p ∷ []
row_lines-goal cs [] p = refl
row_lines-goal cs (row ∷ rows) p = ap (λ (ls : List (List ℤ)). line_of cs row.poly ∷ ls) (row_lines-goal cs rows p)

pub row_lines-length : (cs : List (List Col)) (rows : List Row) → length (map (line_of cs) (row_polys rows [])) ≡ length rows
row_lines-length cs [] = refl
row_lines-length cs (row ∷ rows) = ap (λ (n : ℕ). suc n) (row_lines-length cs rows)

-- the last line of one frame is that of the other times the sign
last_line : (cs : List (List Col)) (terms lower : List Polynomial) (numbers : List ℤ) (up : Bool) (p : Polynomial) (j : ℕ) → IsDifferenceOf terms lower numbers up p → entry (line_of cs p) j ≡ sign_of up *ℤ entry (difference_line cs terms lower numbers) j
last_line cs terms lower numbers up p j d = at cs j
  where
    nothing : (b : Bool) → pos 0 ≡ sign_of b *ℤ pos 0
    nothing true = refl
    nothing false = refl

    past : (z : ℤ) (j : ℕ) → entry (p.rest ∷ []) (suc j) ≡ sign_of up *ℤ entry (z ∷ []) (suc j)
    past z j = nothing up

    at : (cs : List (List Col)) (j : ℕ) → entry (line_of cs p) j ≡ sign_of up *ℤ entry (map (λ c. difference (coefficient_at c) (pos 0) numbers (sides terms lower)) cs ++ difference rest_of (pos 1) numbers (sides terms lower) ∷ []) j
    at [] zero = d.rest
    at [] (suc j) = past (difference rest_of (pos 1) numbers (sides terms lower)) j
    at (c ∷ cs) zero = d.coefficient c
    at (c ∷ cs) (suc j) = at cs j

-- the frame with the difference, and that with the polynomial that is it or minus it
difference_turns : (cs : List (List Col)) (lower : List Polynomial) (numbers : List ℤ) (case : Change) (up : Bool) (p : Polynomial) → IsDifferenceOf case.terms lower numbers up p → AreTurns (difference_frame cs lower numbers case) (frame_of cs (row_polys (with_goal case.rows p) []))
difference_turns cs lower numbers case up p d = record {
  lines = lines;
  columns = columns;
  line_sign = λ l. at_one_place s (nat_eq l m) (sign_is up);
  column_sign = λ j. at_one_place s (nat_eq j (units + m)) (sign_is up);
  many = same_many;
  wide = ap (λ (n : ℕ). length cs + 1 + n) same_many;
  is = λ l j h k. is l j (subst (λ (n : ℕ). l < n) first_many h);
}
  where
    s : ℤ
    s = sign_of up

    m : ℕ
    m = length case.rows

    units : ℕ
    units = length cs + 1

    lines : ℕ → ℤ
    lines l = cond (nat_eq l m) s (pos 1)

    columns : ℕ → ℤ
    columns j = cond (nat_eq j (units + m)) s (pos 1)

    own : List (List ℤ)
    own = map (line_of cs) (row_polys case.rows [])

    first : List (List ℤ)
    first = own ++ difference_line cs case.terms lower numbers ∷ []

    second : List (List ℤ)
    second = own ++ line_of cs p ∷ []

    own_many : length own ≡ m
    own_many = row_lines-length cs case.rows

    first_many : length first ≡ m + 1
    first_many = long own (difference_line cs case.terms lower numbers ∷ []) ∙ ap (λ (n : ℕ). n + 1) own_many

    second_many : length second ≡ m + 1
    second_many = long own (line_of cs p ∷ []) ∙ ap (λ (n : ℕ). n + 1) own_many

    same_many : line_count (frame_of cs (row_polys (with_goal case.rows p) [])) ≡ line_count (difference_frame cs lower numbers case)
    same_many = ap length (row_lines-goal cs case.rows p) ∙ second_many ∙ sym first_many

    -- the lines before the last are the same
    before : (l j : ℕ) → l < m → entry (get_or second l []) j ≡ entry (get_or first l []) j
    before l j h = ap (λ (zs : List ℤ). entry zs j) (at_front own (line_of cs p ∷ []) [] l (subst (λ (n : ℕ). l < n) (sym own_many) h) ∙ sym (at_front own (difference_line cs case.terms lower numbers ∷ []) [] l (subst (λ (n : ℕ). l < n) (sym own_many) h)))

    last : (j : ℕ) → entry (get_or second m []) j ≡ s *ℤ entry (get_or first m []) j
    last j =
        ap (λ (zs : List ℤ). entry zs j) (ap (λ (n : ℕ). get_or second n []) (sym (own_many_zero)) ∙ after_front own (line_of cs p ∷ []) [] 0)
        ∙ last_line cs case.terms lower numbers up p j d
        ∙ ap (λ (zs : List ℤ). s *ℤ entry zs j) (sym (ap (λ (n : ℕ). get_or first n []) (sym own_many_zero) ∙ after_front own (difference_line cs case.terms lower numbers ∷ []) [] 0))
      where
        own_many_zero : length own + 0 ≡ m
        own_many_zero = let e : length (map (line_of cs) (row_polys case.rows [])) ≡ length case.rows = own_many in omega (arith, e)

    is : (l j : ℕ) → l < m + 1 → number_in (frame_of cs (row_polys (with_goal case.rows p) [])) l j ≡ lines l *ℤ columns j *ℤ number_in (difference_frame cs lower numbers case) l j
    is l j h =
        ap (λ (ls : List (List ℤ)). cond (nat_lt j units) (entry (get_or ls l []) j) (cond (nat_eq j (units + l)) (pos 1) (pos 0))) (row_lines-goal cs case.rows p)
        ∙ ⊎_elim (λ (a : j < units). front a) (λ (b : units ≤ j). behind b) (cases_lt j units)
      where
        front : j < units → cond (nat_lt j units) (entry (get_or second l []) j) (cond (nat_eq j (units + l)) (pos 1) (pos 0)) ≡ lines l *ℤ columns j *ℤ cond (nat_lt j units) (entry (get_or first l []) j) (cond (nat_eq j (units + l)) (pos 1) (pos 0))
        front a =
            ap (λ (b : Bool). cond b (entry (get_or second l []) j) (cond (nat_eq j (units + l)) (pos 1) (pos 0))) (lt-ltb j units a)
            ∙ ⊎_elim (λ (e : l ≡ m). at_last e) (λ other. at_other other) (cases_eq l m)
            ∙ sym (ap (λ (b : Bool). lines l *ℤ columns j *ℤ cond b (entry (get_or first l []) j) (cond (nat_eq j (units + l)) (pos 1) (pos 0))) (lt-ltb j units a))
          where
            no_unit : columns j ≡ pos 1
            no_unit = ap (λ (b : Bool). cond b s (pos 1)) (ne_eqb j (units + m) (λ e. absurd (omega (arith, a, e))))

            at_last : l ≡ m → entry (get_or second l []) j ≡ lines l *ℤ columns j *ℤ entry (get_or first l []) j
            at_last e =
                ap (λ (n : ℕ). entry (get_or second n []) j) e ∙ last j ∙ sym (ap (λ (n : ℕ). s *ℤ entry (get_or first n []) j) e)
                ∙ ap (λ z. z *ℤ entry (get_or first l []) j) (sym (ap (λ z. lines l *ℤ z) no_unit ∙ ap (λ (b : Bool). cond b s (pos 1) *ℤ pos 1) (eq-eqb l m e) ∙ times_one s))
              where
                times_one : (z : ℤ) → z *ℤ pos 1 ≡ z
                times_one z = *ℤ_comm z (pos 1) ∙ one-*ℤ z

            at_other : l ≢ m → entry (get_or second l []) j ≡ lines l *ℤ columns j *ℤ entry (get_or first l []) j
            at_other other =
                before l j (omega (arith, h, other))
                ∙ sym (one-*ℤ (entry (get_or first l []) j))
                ∙ ap (λ z. z *ℤ entry (get_or first l []) j) (sym (ap (λ z. lines l *ℤ z) no_unit ∙ ap (λ (b : Bool). cond b s (pos 1) *ℤ pos 1) (ne_eqb l m other)))

        not_before : (a b : ℕ) → b ≤ a → (q : Bool) → nat_lt a b ≡ q → q ≡ false
        not_before a b e true f = absurd (let g : a < b = ltb-true a b f in omega (arith, e, g))
        not_before a b e false f = refl

        behind : units ≤ j → cond (nat_lt j units) (entry (get_or second l []) j) (cond (nat_eq j (units + l)) (pos 1) (pos 0)) ≡ lines l *ℤ columns j *ℤ cond (nat_lt j units) (entry (get_or first l []) j) (cond (nat_eq j (units + l)) (pos 1) (pos 0))
        behind b =
            ap (λ (q : Bool). cond q (entry (get_or second l []) j) (cond (nat_eq j (units + l)) (pos 1) (pos 0))) past
            ∙ ⊎_elim (λ (e : j ≡ units + l). at_unit e) (λ other. elsewhere other) (cases_eq j (units + l))
            ∙ sym (ap (λ (q : Bool). lines l *ℤ columns j *ℤ cond q (entry (get_or first l []) j) (cond (nat_eq j (units + l)) (pos 1) (pos 0))) past)
          where
            past : nat_lt j units ≡ false
            past = not_before j units b (nat_lt j units) refl

            at_unit : j ≡ units + l → cond (nat_eq j (units + l)) (pos 1) (pos 0) ≡ lines l *ℤ columns j *ℤ cond (nat_eq j (units + l)) (pos 1) (pos 0)
            at_unit e = ap (λ (q : Bool). cond q (pos 1) (pos 0)) (eq-eqb j (units + l) e) ∙ ⊎_elim (λ (f : l ≡ m). own_unit f) (λ other. other_unit other) (cases_eq l m) ∙ sym (ap (λ (q : Bool). lines l *ℤ columns j *ℤ cond q (pos 1) (pos 0)) (eq-eqb j (units + l) e))
              where
                own_unit : l ≡ m → pos 1 ≡ lines l *ℤ columns j *ℤ pos 1
                own_unit f = sym (ap (λ (q : Bool). cond q s (pos 1) *ℤ columns j *ℤ pos 1) (eq-eqb l m f) ∙ ap (λ (q : Bool). s *ℤ cond q s (pos 1) *ℤ pos 1) (eq-eqb j (units + m) (omega (arith, e, f))) ∙ ap (λ z. z *ℤ pos 1) (sign_is up).square)

                other_unit : l ≢ m → pos 1 ≡ lines l *ℤ columns j *ℤ pos 1
                other_unit other = sym (ap (λ (q : Bool). cond q s (pos 1) *ℤ columns j *ℤ pos 1) (ne_eqb l m other) ∙ ap (λ (q : Bool). pos 1 *ℤ cond q s (pos 1) *ℤ pos 1) (ne_eqb j (units + m) (λ f. other (omega (arith, e, f)))))

            elsewhere : j ≢ units + l → cond (nat_eq j (units + l)) (pos 1) (pos 0) ≡ lines l *ℤ columns j *ℤ cond (nat_eq j (units + l)) (pos 1) (pos 0)
            elsewhere other = ap (λ (q : Bool). cond q (pos 1) (pos 0)) (ne_eqb j (units + l) other) ∙ sym (times_zero (lines l *ℤ columns j)) ∙ sym (ap (λ (q : Bool). lines l *ℤ columns j *ℤ cond q (pos 1) (pos 0)) (ne_eqb j (units + l) other))
              where
                times_zero : (z : ℤ) → z *ℤ pos 0 ≡ pos 0
                times_zero z = omega (arith, ints)

-- the frame of the rows with the polynomial is calm
pub difference_calm : (n : ℕ) (cs : List (List Col)) (lower : List Polynomial) (numbers : List ℤ) (case : Change) (up : Bool) (p : Polynomial) → IsDifferenceOf case.terms lower numbers up p → IsCalmUpTo n (difference_frame cs lower numbers case) → IsCalmUpTo n (frame_of cs (row_polys (with_goal case.rows p) []))
difference_calm n cs lower numbers case up p d calm = turned_calm n (difference_frame cs lower numbers case) (frame_of cs (row_polys (with_goal case.rows p) [])) (difference_turns cs lower numbers case up p d) calm

-- no tableau of it has a great number
pub difference_small : (n : ℕ) (cs : List (List Col)) (lower : List Polynomial) (numbers : List ℤ) (case : Change) (up : Bool) (p : Polynomial) → IsDifferenceOf case.terms lower numbers up p → IsCalmUpTo n (difference_frame cs lower numbers case) → IsSmallFrame n (frame_over cs case.rows p) (length case.rows + 1)
difference_small n cs lower numbers case up p d calm = subst (λ (count : ℕ). IsSmallFrame n (frame_over cs case.rows p) count) (more_rows case.rows p) (small_frame n cs (with_goal case.rows p) (difference_calm n cs lower numbers case up p d calm))
