-- A corner of rows over one column more at which all rows have 0, and what a supremum comes to.
use Rattle.std.proofs.Common.{◌≡◌, ◌⊎◌, inl, inr, ℕ, zero, suc, ◌+◌, ◌<◌, ◌≤◌, Bool, true, false, List, [], ◌∷◌, length, get_or, take, drop, refl, sym, ap, subst, ◌∙◌, arith, ⊎_elim, Ok, ℤ, pos, negsuc, ◌*ℤ◌, ◌≤ℤ◌, ◌<ℤ◌}
use Rattle.std.specs.Prelude.{not, Result}
use Rattle.std.proofs.lemmas.Int.{ints}
use Rattle.std.proofs.lemmas.Bool.{cases_eq, false≢true}
use Rattle.std.proofs.Math.IntN.{*ℤ_comm, zero-*ℤ}
use Rattle.whole_numbers.proofs.Ring.{*ℤ-positive, *ℤ_left_comm}
use Rattle.linear_terms.specs.declared.row.Kind.{Kind}
use Rattle.linear_terms.specs.declared.row.Kind.TheVariants.{AtMost}
use Rattle.items.specs.Gives.{◌>>=◌}
use Rattle.whole_numbers.specs.declared.wide.Wide as Step
use Rattle.farkas_check.specs.Frames.{choose}
use Rattle.farkas_check.specs.Ratios.{Fraction, whole}
use Rattle.farkas_check.specs.Relations.{entry}
use Rattle.farkas_check.specs.declared.answer.Cert.{Cert}
use Rattle.farkas_check.proofs.Lowest.{IsLowest-whole}
use Rattle.simplex.specs.Exchange.{numbers_of, choices_of, line_multiple, IsTableauOf}
use Rattle.simplex.specs.Raise.{Framed, sign_of, enters_at, leaves_at}
use Rattle.simplex.specs.Rows.{kind_at}
use Rattle.simplex.specs.Search.{IsFlat, IsFixed, IsUnit, IsMet, IsRefuted, CornerAt, IsCornerOf}
use Rattle.simplex.specs.Suprema.{IsTopped, IsOpened, SlopeAt, IsRayOf, certificate_of, SupremumAt}
use Rattle.simplex.specs.declared.supremum.Supremum.TheVariants as supremum
use Rattle.simplex.specs.declared.tableau.Tableau.{Tableau}
use Rattle.simplex.proofs.Corners.{single}
use Rattle.simplex.proofs.Skips.{put, skip, put-length, put-here, put-skip, skip-above, skip-apart, skip-same, skip-less, less-skip, skip-unit, skipped}
use Rattle.simplex.proofs.Wider.{HasMore, more_at, wider, now-many, line_now, numbers_now, more_now, choices_now, tableau_now, primitive_now}

-- ---- lists

drop-put : {X : Type 0} (k n : ℕ) (x : X) (xs : List X) → k ≤ n → k ≤ length xs → drop (suc n) (put k x xs) ≡ drop n xs
drop-put zero n x xs h g = refl
drop-put (suc k) zero x xs h g = absurd (omega (arith, h))
drop-put (suc k) (suc n) x [] h g = absurd (omega (arith, g))
drop-put (suc k) (suc n) x (y ∷ ys) h g = drop-put k n x ys (omega (arith, h)) (omega (arith, g))

certificate-put : (k constants goal : ℕ) (z : ℤ) (line : List ℤ) → k ≤ constants → k ≤ length line → certificate_of (constants + 1) goal (put k z line) ≡ certificate_of constants goal line
certificate-put k constants goal z line h g = λ i. parts (numbers i) (own i) (constant i)
  where
    certificate_with : List ℤ → ℤ → ℤ → Result Cert Step.Wide
    certificate_with by scale sum = line_multiple by (negsuc 0) >>= λ by. Ok record { scale = scale; sum = sum; by = by }

    parts : List ℤ → ℤ → ℤ → Result Cert Step.Wide
    parts zs scale sum = certificate_with (take goal zs) scale sum

    numbers : drop (constants + 1 + 1) (put k z line) ≡ drop (constants + 1) line
    numbers = (let e : constants + 1 + 1 ≡ suc (constants + 1) = omega arith in ap (λ (n : ℕ). drop n (put k z line)) e) ∙ drop-put k (constants + 1) z line (omega (arith, h)) g

    own : entry (put k z line) (constants + 1 + 1 + goal) ≡ entry line (constants + 1 + goal)
    own = ap (entry (put k z line)) (sym (let e : skip k (constants + 1 + goal) ≡ constants + 1 + 1 + goal = skip-unit k (constants + 1) goal (omega (arith, h)) in e)) ∙ put-skip k z line (constants + 1 + goal) (pos 0) g

    constant : entry (put k z line) (constants + 1) ≡ entry line constants
    constant = ap (entry (put k z line)) (sym (skip-above k constants h)) ∙ put-skip k z line constants (pos 0) g

more_ways : (n k : ℕ) → choose n k ≤ choose (suc n) k
more_ways zero zero = omega arith
more_ways (suc n) zero = omega arith
more_ways n (suc k) = omega arith

-- each place moves from another, or is that of the new column
moved_from : (k j : ℕ) → (j ≡ k) ⊎ ((i : ℕ) × ((i < j + k) × (j ≡ skip k i)))
moved_from k j = skipped (j + k) k j (omega arith) (omega arith)

-- ---- the frame of a case whose rows have 0 at the new column

pub record IsWider (k constants : ℕ) (kinds : List Kind) (over : Framed) (other : ℕ → ℕ → ℤ) : Type 0 where
  pub inside : k ≤ constants
  pub units : over.units ≡ constants + 1
  pub many : length kinds ≡ over.rows + 1
  pub more : HasMore k over.units (over.rows + 1) over.frame other
  pub nothing : (l : ℕ) → l < over.rows → other l k ≡ pos 0

module _ (k constants : ℕ) (kinds : List Kind) (over : Framed) (other : ℕ → ℕ → ℤ) (w : IsWider k constants kinds over other) where
  abbrev pub next : Framed
  next = record { units = over.units + 1; rows = over.rows; frame = other }

  column : ℕ → ℤ
  column l = other l k

  at_constants : skip k constants ≡ constants + 1
  at_constants = skip-above k constants w.inside

  before_units : k ≤ over.units
  before_units = w.more.inside

  at_unit : (m : ℕ) → skip k (over.units + m) ≡ over.units + 1 + m
  at_unit m = skip-unit k over.units m before_units

  -- a line that has no part in the goal is 0 at the new column
  no_part : (v : ℕ → ℤ) → v (over.units + over.rows) ≡ pos 0 → more_at over.units (over.rows + 1) (λ l. other l k) v ≡ pos 0
  no_part v e =
      single (over.rows + 1) (λ l. v (over.units + l) *ℤ other l k) over.rows (omega arith) (λ l h apart. ap (λ z. v (over.units + l) *ℤ z) (w.nothing l (omega (arith, h, apart))) ∙ *ℤ_comm (v (over.units + l)) (pos 0) ∙ zero-*ℤ (v (over.units + l)))
      ∙ ap (λ z. z *ℤ other over.rows k) e ∙ zero-*ℤ (other over.rows k)

  goal_part : (v : ℕ → ℤ) → more_at over.units (over.rows + 1) (λ l. other l k) v ≡ v (over.units + over.rows) *ℤ other over.rows k
  goal_part v = single (over.rows + 1) (λ l. v (over.units + l) *ℤ other l k) over.rows (omega arith) (λ l h apart. ap (λ z. v (over.units + l) *ℤ z) (w.nothing l (omega (arith, h, apart))) ∙ *ℤ_comm (v (over.units + l)) (pos 0) ∙ zero-*ℤ (v (over.units + l)))

  module _ (t : Tableau) (s : IsTableauOf over.units over.frame t) (many : length t.lines ≡ over.rows + 1) where
    more : HasMore k over.units (length t.lines) over.frame other
    more = subst (λ (n : ℕ). HasMore k over.units n over.frame other) (sym many) w.more

    abbrev pub now : Tableau
    now = wider k over.units (λ l. other l k) t

    lines-many : length (now).lines ≡ length t.lines
    lines-many = now-many k over.units over.frame other t more s

    in_t : (i : ℕ) → i < length (now).lines → i < length t.lines
    in_t i h = subst (λ (n : ℕ). i < n) lines-many h

    numbers : (i j : ℕ) → i < length t.lines → numbers_of now i (skip k j) ≡ numbers_of t i j
    numbers = numbers_now k over.units over.frame other t more s

    at_new : (i : ℕ) → i < length t.lines → numbers_of now i k ≡ more_at over.units (over.rows + 1) (λ l. other l k) (numbers_of t i)
    at_new i h = more_now k over.units over.frame other t more s i h ∙ ap (λ (n : ℕ). more_at over.units n (λ l. other l k) (numbers_of t i)) many

    choices : (i : ℕ) → i < length t.lines → choices_of now i ≡ skip k (choices_of t i)
    choices = choices_now k over.units over.frame other t more s

    unit_number : (i m : ℕ) → i < length t.lines → numbers_of now i (over.units + 1 + m) ≡ numbers_of t i (over.units + m)
    unit_number i m h = ap (numbers_of now i) (sym (at_unit m)) ∙ numbers i (over.units + m) h

    constant_number : (i : ℕ) → i < length t.lines → numbers_of now i (constants + 1) ≡ numbers_of t i constants
    constant_number i h = ap (numbers_of now i) (sym at_constants) ∙ numbers i constants h

    flat_line : (i : ℕ) → i < length t.lines → numbers_of now i k ≡ pos 0 → IsFlat constants t i → IsFlat (constants + 1) now i
    flat_line i h z f j m = ⊎_elim (λ (e : j ≡ k). ap (numbers_of now i) e ∙ z) (λ found. ap (numbers_of now i) found.1.1 ∙ numbers i found.0 h ∙ f found.0 found.1.0) (skipped constants k j w.inside m)

    -- a choice of a unit column is one of it before
    unit_choice : (i l : ℕ) → i < length t.lines → choices_of now i ≡ over.units + 1 + l → choices_of t i ≡ over.units + l
    unit_choice i l h e = skip-same k (choices_of t i) (over.units + l) (sym (choices i h) ∙ e ∙ sym (at_unit l))

    fixed_line : (i : ℕ) → i < length t.lines → kind_at kinds over.rows ≡ AtMost → IsFixed over constants kinds t i → IsFixed next (constants + 1) kinds now i
    fixed_line i h goal f = record {
      flat = flat_line i h (at_new i h ∙ no_part (numbers_of t i) (f.apart over.rows (omega (arith, many)) goal)) f.flat;
      corner = constant_number i h ∙ f.corner;
      apart = λ m g e. unit_number i m h ∙ f.apart m (in_t m g) e;
    }

    corner_at : (j : ℕ) (r : Fraction) → CornerAt t constants j r → CornerAt now (constants + 1) (skip k j) r
    corner_at j r c = record {
      positive = c.positive;
      chosen = λ i h e. ap (λ z. r.num *ℤ z) (numbers i j (in_t i h)) ∙ c.chosen i (in_t i h) (skip-same k (choices_of t i) j (sym (choices i (in_t i h)) ∙ e)) ∙ ap (λ z. z *ℤ negsuc 0 *ℤ r.den) (sym (constant_number i (in_t i h)));
      free = λ none. c.free (λ i h e. none i (subst (λ (n : ℕ). i < n) (sym lines-many) h) (choices i h ∙ ap (skip k) e));
      lowest = c.lowest;
    }

    unchosen : (i : ℕ) → i < length (now).lines → choices_of now i ≡ k → ⊥
    unchosen i h e = skip-apart k (choices_of t i) (sym (choices i (in_t i h)) ∙ e)

    nothing_at : CornerAt now (constants + 1) k (whole (pos 0))
    nothing_at = record { positive = omega (arith, ints); chosen = λ i h e. absurd (unchosen i h e); free = λ none. refl; lowest = IsLowest-whole (pos 0) }

    -- what holds of the new element and of the moved ones
    each_place : (P : ℕ → Fraction → Type 0) (x : Fraction) (point : List Fraction) → length point ≡ constants → P k x → ((j : ℕ) → j < constants → P (skip k j) (get_or point j (whole (pos 0)))) → (j : ℕ) → j < constants + 1 → P j (get_or (put k x point) j (whole (pos 0)))
    each_place P x point each here others j h = ⊎_elim new (λ found. old found.0 found.1.0 found.1.1) (skipped constants k j w.inside h)
      where
        short : k ≤ length point
        short = subst (λ (n : ℕ). k ≤ n) (sym each) w.inside

        new : j ≡ k → P j (get_or (put k x point) j (whole (pos 0)))
        new e = subst (λ (i : ℕ). P i (get_or (put k x point) i (whole (pos 0)))) (sym e) (subst (λ (r : Fraction). P k r) (sym (put-here k x point (whole (pos 0)) short)) here)

        old : (i : ℕ) → i < constants → j ≡ skip k i → P j (get_or (put k x point) j (whole (pos 0)))
        old i g e = subst (λ (i : ℕ). P i (get_or (put k x point) i (whole (pos 0)))) (sym e) (subst (λ (r : Fraction). P (skip k i) r) (sym (put-skip k x point i (whole (pos 0)) short)) (others i g))

    pub corner_now : (point : List Fraction) → IsCornerOf t constants constants point → IsCornerOf now (constants + 1) (constants + 1) (put k (whole (pos 0)) point)
    corner_now point c = record {
      each = put-length k (whole (pos 0)) point ∙ ap (λ (n : ℕ). n + 1) c.each;
      same = each_place (CornerAt now (constants + 1)) (whole (pos 0)) point c.each nothing_at (λ j h. corner_at j (get_or point j (whole (pos 0))) (c.same j h));
    }

    slope_at : (grows : ℕ) (up : Bool) (j : ℕ) (r : Fraction) → SlopeAt t grows up j r → SlopeAt now (skip k grows) up (skip k j) r
    slope_at grows up j r c = record {
      lowest = c.lowest;
      here = λ e. c.here (skip-same k j grows e);
      chosen = λ apart i h e. ap (λ z. r.num *ℤ z) (numbers i j (in_t i h)) ∙ c.chosen (λ f. apart (ap (skip k) f)) i (in_t i h) (skip-same k (choices_of t i) j (sym (choices i (in_t i h)) ∙ e)) ∙ ap (λ z. z *ℤ sign_of (not up) *ℤ r.den) (sym (numbers i grows (in_t i h)));
      free = λ apart none. c.free (λ f. apart (ap (skip k) f)) (λ i h e. none i (subst (λ (n : ℕ). i < n) (sym lines-many) h) (choices i h ∙ ap (skip k) e));
    }

    level_at : (grows : ℕ) (up : Bool) → SlopeAt now (skip k grows) up k (whole (pos 0))
    level_at grows up = record { lowest = IsLowest-whole (pos 0); here = λ e. absurd (skip-apart k grows (sym e)); chosen = λ apart i h e. absurd (unchosen i h e); free = λ apart none. refl }

    pub ray_now : (grows : ℕ) (up : Bool) (ray : List Fraction) → IsRayOf t grows up constants ray → IsRayOf now (skip k grows) up (constants + 1) (put k (whole (pos 0)) ray)
    ray_now grows up ray c = record {
      each = put-length k (whole (pos 0)) ray ∙ ap (λ (n : ℕ). n + 1) c.each;
      same = each_place (SlopeAt now (skip k grows) up) (whole (pos 0)) ray c.each (level_at grows up) (λ j h. slope_at grows up j (get_or ray j (whole (pos 0))) (c.same j h));
    }

    pub refuted_now : (i : ℕ) → IsRefuted over constants kinds t i → IsRefuted next (constants + 1) kinds now i
    refuted_now i r = record {
      sized = record {
        tableau = tableau_now k over.units over.frame other t more s;
        units = ap (λ (n : ℕ). n + 1) w.units;
        many = r.sized.many ∙ sym lines-many;
        apart = λ i h e. r.sized.apart i (in_t i h) (skip-same k (choices_of t i) constants (sym (choices i (in_t i h)) ∙ e ∙ sym at_constants));
        primitive = primitive_now k over.units over.frame other t more s r.sized.primitive;
        inside = subst (λ (n : ℕ). over.rows ≤ n) (sym lines-many) r.sized.inside;
        goals = λ l h g. r.sized.goals l h (in_t l g);
      };
      here = subst (λ (n : ℕ). i < n) (sym lines-many) r.here;
      flat = flat_line i r.here (at_new i r.here ∙ no_part (numbers_of t i) (r.goals over.rows (omega arith) (omega (arith, many)))) r.flat;
      some = λ e. r.some (sym (constant_number i r.here) ∙ e);
      goals = λ l h g. unit_number i l r.here ∙ r.goals l h (in_t l g);
      signs = ⊎_elim (λ f. inl (λ m h e. unit_number i m r.here ∙ f m (in_t m h) e))
          (λ f. inr (subst (λ (z : ℤ). pos 0 <ℤ z) (sym (constant_number i r.here)) f.0, λ m h e. subst (λ (z : ℤ). pos 0 ≤ℤ z) (sym (unit_number i m r.here)) (f.1 m (in_t m h) e))) r.signs;
    }

    module _ (enters : List Bool) (met : IsMet over constants kinds enters t) where
      abbrev pub enters_now : List Bool
      enters_now = put k false enters

      short : k ≤ length enters
      short = let e : length enters ≡ over.units + length t.lines = met.placed.marked.wide in let f : k ≤ over.units = before_units in omega (arith, e, f)

      enters_moved : (j : ℕ) → enters_at enters_now (skip k j) ≡ enters_at enters j
      enters_moved j = put-skip k false enters j false short

      enters_new : enters_at enters_now k ≡ false
      enters_new = put-here k false enters false short

      enters_unit : (l : ℕ) → enters_at enters_now (over.units + 1 + l) ≡ enters_at enters (over.units + l)
      enters_unit l = ap (enters_at enters_now) (sym (at_unit l)) ∙ enters_moved (over.units + l)

      goal_in : over.rows < length t.lines
      goal_in = omega (arith, many)

      goal_kind : kind_at kinds over.rows ≡ AtMost
      goal_kind = met.placed.marked.sized.goals over.rows (omega arith) goal_in

      goal_own : choices_of t over.rows ≡ over.units + over.rows
      goal_own = met.placed.marked.waiting over.rows goal_in goal_kind (met.placed.out over.rows (omega arith) goal_in)

      -- the rows' lines are 0 at the new column
      row_new : (i : ℕ) → i < over.rows → i < length t.lines → numbers_of now i k ≡ pos 0
      row_new i h g = at_new i g ∙ no_part (numbers_of t i) (ap (numbers_of t i) (sym goal_own) ∙ s.is.others i over.rows g goal_in (λ e. absurd (omega (arith, h, e))))

      goal_new : numbers_of now over.rows k ≡ numbers_of t over.rows (over.units + over.rows) *ℤ other over.rows k
      goal_new = at_new over.rows goal_in ∙ goal_part (numbers_of t over.rows)

      leaves_same : (i : ℕ) → i < length t.lines → leaves_at enters_now now i ≡ leaves_at enters t i
      leaves_same i h = ap (enters_at enters_now) (choices i h) ∙ enters_moved (choices_of t i)

      late_choice : (i : ℕ) → i < length t.lines → over.units + 1 ≤ choices_of now i → over.units ≤ choices_of t i
      late_choice i h g = let e : choices_of now i ≡ skip k (choices_of t i) = choices i h in let f : skip k (choices_of t i) < choices_of t i + 1 + 1 = skip-less (choices_of t i + 1) k (choices_of t i) (omega arith) in omega (arith, e, f, g)

      pub met_now : IsMet next (constants + 1) kinds enters_now now
      met_now = record {
        placed = record {
          marked = record {
            sized = record {
              tableau = tableau_now k over.units over.frame other t more s;
              units = ap (λ (n : ℕ). n + 1) w.units;
              many = met.placed.marked.sized.many ∙ sym lines-many;
              apart = λ i h e. met.placed.marked.sized.apart i (in_t i h) (skip-same k (choices_of t i) constants (sym (choices i (in_t i h)) ∙ e ∙ sym at_constants));
              primitive = primitive_now k over.units over.frame other t more s met.placed.marked.sized.primitive;
              inside = subst (λ (n : ℕ). over.rows ≤ n) (sym lines-many) met.placed.marked.sized.inside;
              goals = λ l h g. met.placed.marked.sized.goals l h (in_t l g);
            };
            wide = put-length k false enters ∙ (let e : length enters ≡ over.units + length t.lines = met.placed.marked.wide in let f : length (now).lines ≡ length t.lines = lines-many in omega (arith, e, f));
            fixed = λ i l h g c e. fixed_line i (in_t i h) goal_kind (met.placed.marked.fixed i l (in_t i h) (in_t l g) (unit_choice i l (in_t i h) c) e);
            entering = λ j e. ⊎_elim (λ (new : j ≡ k). absurd (false≢true (sym (ap (enters_at enters_now) new ∙ enters_new) ∙ e))) (λ found. entered j found.0 found.1.1 e) (moved_from k j);
            waiting = λ l h e f. choices l (in_t l h) ∙ ap (skip k) (met.placed.marked.waiting l (in_t l h) e (sym (enters_unit l) ∙ f)) ∙ at_unit l;
          };
          out = λ l h g. enters_unit l ∙ met.placed.out l h (in_t l g);
          flat = λ i h g c. flat_line i (in_t i g) (row_new i h (in_t i g)) (met.placed.flat i h (in_t i g) (late_choice i (in_t i g) c));
          corner = λ i h e. subst (λ (z : ℤ). z ≤ℤ pos 0) (sym (constant_number i (in_t i h))) (met.placed.corner i (in_t i h) (sym (leaves_same i (in_t i h)) ∙ e));
        };
        kept = λ l h e. enters_unit l ∙ met.kept l h e;
      }
        where
          entered : (j i : ℕ) → j ≡ skip k i → enters_at enters_now j ≡ true → IsUnit next kinds (length (now).lines) j
          entered j i e f = let u = met.placed.marked.entering i (sym (enters_moved i) ∙ ap (enters_at enters_now) (sym e) ∙ f) in record {
            row = u.row;
            here = subst (λ (n : ℕ). u.row < n) (sym lines-many) u.here;
            is = e ∙ ap (skip k) u.is ∙ at_unit u.row;
            kind = u.kind;
          }

      pub topped_now : other over.rows k ≡ pos 0 → IsTopped over constants kinds enters t → IsTopped next (constants + 1) kinds enters_now now
      topped_now e p = record {
        met = met_now;
        flat = flat_line over.rows goal_in (goal_new ∙ ap (λ z. numbers_of t over.rows (over.units + over.rows) *ℤ z) e ∙ *ℤ_comm (numbers_of t over.rows (over.units + over.rows)) (pos 0) ∙ zero-*ℤ (numbers_of t over.rows (over.units + over.rows))) p.flat;
        best = λ j h f. ⊎_elim (λ (new : j ≡ k). absurd (false≢true (sym (ap (enters_at enters_now) new ∙ enters_new) ∙ f))) (λ found. best j found.0 found.1.1 h f) (moved_from k j);
      }
        where
          best : (j i : ℕ) → j ≡ skip k i → j < length enters_now → enters_at enters_now j ≡ true → pos 0 ≤ℤ (negsuc 0 *ℤ numbers_of now over.rows j)
          best j i e h f =
              subst (λ (z : ℤ). pos 0 ≤ℤ (negsuc 0 *ℤ z)) (sym (ap (numbers_of now over.rows) e ∙ numbers over.rows i goal_in))
              (p.best i (less-skip (length enters) k i short (subst (λ (n : ℕ). skip k i < n) (put-length k false enters) (subst (λ (m : ℕ). m < length enters_now) e h))) (sym (enters_moved i) ∙ ap (enters_at enters_now) (sym e) ∙ f))

      pub opened_now : (grows : ℕ) (up : Bool) → IsOpened over constants kinds enters grows up t → IsOpened next (constants + 1) kinds enters_now (skip k grows) up now
      opened_now grows up p = record {
        met = met_now;
        grows = subst (λ (z : ℤ). pos 0 <ℤ (sign_of up *ℤ z)) (sym (numbers over.rows grows goal_in)) p.grows;
        way = ⊎_elim (λ (h : grows < constants). inl (skip-less constants k grows h)) (λ f. inr (enters_moved grows ∙ f.0, f.1, λ i h e. subst (λ (z : ℤ). z ≤ℤ pos 0) (sym (numbers i grows (in_t i h))) (f.2 i (in_t i h) (sym (leaves_same i (in_t i h)) ∙ e)))) p.way;
      }

      -- the goal grows along the new column
      pub opened_here : (up : Bool) → pos 0 <ℤ (sign_of up *ℤ other over.rows k) → IsOpened next (constants + 1) kinds enters_now k up now
      opened_here up h = record {
        met = met_now;
        grows = subst (λ (z : ℤ). pos 0 <ℤ z) (sym (ap (λ z. sign_of up *ℤ z) goal_new ∙ *ℤ_left_comm (sign_of up) (numbers_of t over.rows (over.units + over.rows)) (other over.rows k)))
            (*ℤ-positive (numbers_of t over.rows (over.units + over.rows)) (sign_of up *ℤ other over.rows k) (subst (λ (j : ℕ). pos 0 <ℤ numbers_of t over.rows j) goal_own (s.is.own over.rows goal_in)) h);
        way = inl (let e : k ≤ constants = w.inside in omega (arith, e));
      }

      pub ray_here : (up : Bool) (zeros : List Fraction) → length zeros ≡ constants → ((j : ℕ) → j < constants → get_or zeros j (whole (pos 0)) ≡ whole (pos 0)) → IsRayOf now k up (constants + 1) (put k (whole (sign_of up)) zeros)
      ray_here up zeros each all = record {
        each = put-length k (whole (sign_of up)) zeros ∙ ap (λ (n : ℕ). n + 1) each;
        same = each_place (SlopeAt now k up) (whole (sign_of up)) zeros each
            (record { lowest = IsLowest-whole (sign_of up); here = λ e. refl; chosen = λ apart. absurd (apart refl); free = λ apart. absurd (apart refl) })
            (λ j h. subst (λ (r : Fraction). SlopeAt now k up (skip k j) r) (sym (all j h)) (level j h));
      }
        where
          level : (j : ℕ) → j < constants → SlopeAt now k up (skip k j) (whole (pos 0))
          level j h = record {
            lowest = IsLowest-whole (pos 0);
            here = λ e. absurd (skip-apart k j e);
            chosen = λ apart i g e. zero-*ℤ (numbers_of now i (skip k j)) ∙ sym (flat_at i (in_t i g) e);
            free = λ apart none. refl;
          }
            where
              flat_at : (i : ℕ) → i < length t.lines → choices_of now i ≡ skip k j → numbers_of now i k *ℤ sign_of (not up) *ℤ pos 1 ≡ pos 0
              flat_at i g e = ap (λ z. z *ℤ sign_of (not up) *ℤ pos 1) (row_new i row g) ∙ ap (λ z. z *ℤ pos 1) (zero-*ℤ (sign_of (not up)))
                where
                  same : choices_of t i ≡ j
                  same = skip-same k (choices_of t i) j (sym (choices i g) ∙ e)

                  row : i < over.rows
                  row = ⊎_elim (λ (at : i ≡ over.rows). let f : over.units + over.rows ≡ j = sym (ap (choices_of t) at ∙ goal_own) ∙ same in let u : over.units ≡ constants + 1 = w.units in absurd (omega (arith, f, u, h))) (λ apart. omega (arith, g, many, apart)) (cases_eq i over.rows)

  -- ---- what is found

  all : (t : Tableau) → length kinds ≡ length t.lines → length t.lines ≡ over.rows + 1
  all t e = sym e ∙ w.many

  pub empty_put : (budget : ℕ) → SupremumAt over constants kinds budget supremum.Empty → SupremumAt next (constants + 1) kinds budget supremum.Empty
  empty_put budget found = let r = found.1.1 in (now found.0 r.sized.tableau (all found.0 r.sized.many), (found.1.0, refuted_now found.0 r.sized.tableau (all found.0 r.sized.many) found.1.0 r))

  pub pivots_put : (budget : ℕ) → SupremumAt over constants kinds budget supremum.Pivots → SupremumAt next (constants + 1) kinds budget supremum.Pivots
  pivots_put budget found =
      let h : choose (over.units + length kinds) (length kinds) ≤ choose (suc (over.units + length kinds)) (length kinds) = more_ways (over.units + length kinds) (length kinds) in
      let e : suc (over.units + length kinds) ≡ over.units + 1 + length kinds = omega arith in
      subst (λ (n : ℕ). budget < choose n (length kinds)) e (omega (arith, found, h))

  pub bound_put : (budget : ℕ) (cert : Cert) (point : List Fraction) → other over.rows k ≡ pos 0 → SupremumAt over constants kinds budget (supremum.Bound cert point) → SupremumAt next (constants + 1) kinds budget (supremum.Bound cert (put k (whole (pos 0)) point))
  bound_put budget cert point e found = (now t s many, (put k false enters, (topped_now t s many enters p.met e p, certificate, corner_now t s many point found.1.1.2)))
    where
      t : Tableau
      t = found.0

      enters : List Bool
      enters = found.1.0

      p : IsTopped over constants kinds found.1.0 found.0
      p = found.1.1.0

      s : IsTableauOf over.units over.frame found.0
      s = p.met.placed.marked.sized.tableau

      many : length (found.0).lines ≡ over.rows + 1
      many = all found.0 p.met.placed.marked.sized.many

      here : over.rows < length (found.0).lines
      here = omega (arith, many)

      certificate : certificate_of (constants + 1) over.rows (get_or (now t s many).lines over.rows []) ≡ Ok cert
      certificate =
          ap (certificate_of (constants + 1) over.rows) (line_now k over.units over.frame other t (more t s many) s over.rows here)
          ∙ certificate-put k constants over.rows (more_at over.units (length (found.0).lines) (λ l. other l k) (numbers_of found.0 over.rows)) (get_or (found.0).lines over.rows []) w.inside (short_line) ∙ found.1.1.1
        where
          short_line : k ≤ length (get_or (found.0).lines over.rows [])
          short_line = let f : length (get_or (found.0).lines over.rows []) ≡ over.units + length (found.0).lines = s.shape.wide over.rows here in let g : k ≤ over.units = before_units in omega (arith, f, g)

  pub unbounded_put : (budget : ℕ) (point ray : List Fraction) → SupremumAt over constants kinds budget (supremum.Unbounded point ray) → SupremumAt next (constants + 1) kinds budget (supremum.Unbounded (put k (whole (pos 0)) point) (put k (whole (pos 0)) ray))
  unbounded_put budget point ray found = (now t s many, (put k false enters, (skip k grows, (up, (opened_now t s many enters p.met grows up p, corner_now t s many point found.1.1.1.1.1, ray_now t s many grows up ray found.1.1.1.1.2)))))
    where
      t : Tableau
      t = found.0

      enters : List Bool
      enters = found.1.0

      grows : ℕ
      grows = found.1.1.0

      up : Bool
      up = found.1.1.1.0

      p : IsOpened over constants kinds found.1.0 found.1.1.0 found.1.1.1.0 found.0
      p = found.1.1.1.1.0

      s : IsTableauOf over.units over.frame found.0
      s = p.met.placed.marked.sized.tableau

      many : length (found.0).lines ≡ over.rows + 1
      many = all found.0 p.met.placed.marked.sized.many
