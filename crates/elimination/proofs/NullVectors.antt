-- The numerators of a solution over the least common denominator are the null vector.
use Rattle.std.proofs.Common.{◌≡◌, ℕ, zero, suc, ◌+◌, ◌<◌, ◌≤◌, Bool, true, cond, List, [], ◌∷◌, ◌++◌, length, map, get_or, refl, sym, ap, subst, ◌∙◌, arith, ⊎_elim, Result, Ok, Err, ℤ, pos, ◌*ℤ◌, ◌<ℤ◌}
use Rattle.std.specs.Prelude.{◌^◌, unsigned_abs, IfOk}
use Rattle.std.specs.List.{AllByRecursion}
use Rattle.std.proofs.lemmas.Int.{ints}
use Rattle.std.proofs.lemmas.Bool.{cases_eq, eq-eqb, ne_eqb, false≢true}
use Rattle.std.proofs.lemmas.List.{length-append}
use Rattle.std.proofs.Math.ListN.{get_or-append}
use Rattle.std.proofs.Math.Seq.{get_or-append_seam}
use Rattle.std.proofs.Math.IntN.{*ℤ_comm}
use Rattle.items.proofs.Each.{each-more}
use Rattle.items.proofs.Gives.{on_ok}
use Rattle.whole_numbers.specs.declared.wide.Wide as Step
use Rattle.whole_numbers.proofs.Ring.{ring, *ℤ_cancel, one-*ℤ}
use Rattle.linear_terms.specs.declared.col.Col.{Col}
use Rattle.linear_terms.specs.declared.col.Col.TheVariants.{At}
use Rattle.linear_terms.specs.declared.row.Row.{Row}
use Rattle.farkas_check.specs.declared.answer.Answer.{Answer}
use Rattle.farkas_check.specs.declared.answer.Answer.TheVariants as answer
use Rattle.farkas_check.specs.declared.question.Question.TheVariants.{Infeasible}
use Rattle.farkas_check.specs.Calm.{IsLiveAndCalm}
use Rattle.farkas_check.specs.Columns.{columns}
use Rattle.farkas_check.specs.Frames.{sum_below}
use Rattle.farkas_check.specs.Meaning.{IsLimit, IsTight, HasPoint}
use Rattle.farkas_check.specs.Points.{ratio_at}
use Rattle.farkas_check.specs.Ratios.{Fraction, IsLowest, whole}
use Rattle.farkas_check.specs.Relations.{entry}
use Rattle.simplex.specs.Spots.{common_denominator, numerators_over}
use Rattle.simplex.proofs.Denominators.{IsFactor, AreLowest, AreNumerators, denominator-least, denominator-positive, numerators_of, numerators-primitive}
use Rattle.simplex.proofs.Exchanges.{factor_positive, times_zero, zero_factor}
use Rattle.simplex.proofs.Numerators.{IsRatioBelow, common-fits, over-fits}
use Rattle.simplex.proofs.Small.{HasValue, bind_value}
use Rattle.simplex.proofs.Sums.{sum_below-same}
use Rattle.simplex.proofs.Widths.{IsShare, shared, factor_small}
use Rattle.elimination.specs.Answers.{is_no}
use Rattle.elimination.specs.Equations.{AreRegularLines, IsSolution, equation_of, values_to, least_numerators}
use Rattle.elimination.specs.Probes.{number_at, IsNullVector}
use Rattle.elimination.proofs.NarrowCases.{point_says_no}
use Rattle.elimination.proofs.NullEquations.{numerator_at, each_at, each_from}
use Rattle.elimination.proofs.NullQuestions.{equations_calm, equations_point, point_null}
use Rattle.elimination.proofs.NullSystems.{IsSmallNull, sum_of_multiples, null_proportional, small_null}

-- ---- the values that are read

pub values-length : (cs : List (List Col)) (point : List Fraction) (n : ℕ) → length (values_to cs point n) ≡ n
values-length cs point zero = refl
values-length cs point (suc n) =
    let a : length (values_to cs point n ++ ratio_at cs point (At n ∷ []) ∷ []) ≡ length (values_to cs point n) + 1 = length-append (values_to cs point n) (ratio_at cs point (At n ∷ []) ∷ []) in
    let b : length (values_to cs point n) ≡ n = values-length cs point n in
    omega (arith, a, b)

pub value-at : (cs : List (List Col)) (point : List Fraction) (n j : ℕ) (d : Fraction) → j < n → get_or (values_to cs point n) j d ≡ ratio_at cs point (At j ∷ [])
value-at cs point zero j d h = absurd (omega (arith, h))
value-at cs point (suc n) j d h =
    ⊎_elim (λ (e : j ≡ n). ap (λ (i : ℕ). get_or (values_to cs point n ++ ratio_at cs point (At n ∷ []) ∷ []) i d) (e ∙ sym (values-length cs point n)) ∙ get_or-append_seam (values_to cs point n) (ratio_at cs point (At n ∷ [])) [] d ∙ ap (λ (i : ℕ). ratio_at cs point (At i ∷ [])) (sym e))
    (λ other. get_or-append (values_to cs point n) (ratio_at cs point (At n ∷ []) ∷ []) d j (let e : length (values_to cs point n) ≡ n = values-length cs point n in omega (arith, h, other, e)) ∙ value-at cs point n j d (omega (arith, h, other))) (cases_eq j n)

pub solution_read : (lines : List (List ℤ)) (point : List Fraction) → AreRegularLines lines → HasPoint (map equation_of lines) point
    → IsSolution lines (values_to (columns (map equation_of lines) []) point (length lines) ++ whole (pos 1) ∷ [])
solution_read lines point r p = record {
  numerator = numerator_at p.point (length lines);
  over = p.point.over;
  positive = p.point.positive;
  each = let a : length (front ++ whole (pos 1) ∷ []) ≡ length front + 1 = length-append front (whole (pos 1) ∷ []) in let b : length front ≡ length lines = front_length in omega (arith, a, b);
  same = λ j h. ⊎_elim (λ (e : j ≡ length lines). at_end j e) (λ other. before j (let a : length (front ++ whole (pos 1) ∷ []) ≡ length front + 1 = length-append front (whole (pos 1) ∷ []) in let b : length front ≡ length lines = front_length in omega (arith, h, other, a, b))) (cases_eq j (length lines));
  last = last;
  last_too = ap (λ (b : Bool). cond b p.point.over (p.point.numerator (At (length lines) ∷ []))) (eq-eqb (length lines) (length lines) refl);
  solves = (point_null lines p.point r.wide p.met).each;
}
  where
    cs : List (List Col)
    cs = columns (map equation_of lines) []

    front : List Fraction
    front = values_to (columns (map equation_of lines) []) point (length lines)

    front_length : length front ≡ length lines
    front_length = values-length (columns (map equation_of lines) []) point (length lines)

    last : get_or (front ++ whole (pos 1) ∷ []) (length lines) (whole (pos 0)) ≡ whole (pos 1)
    last = ap (λ (i : ℕ). get_or (front ++ whole (pos 1) ∷ []) i (whole (pos 0))) (sym front_length) ∙ get_or-append_seam front (whole (pos 1)) [] (whole (pos 0))

    at_end : (j : ℕ) → j ≡ length lines → (get_or (front ++ whole (pos 1) ∷ []) j (whole (pos 0))).num *ℤ p.point.over ≡ numerator_at p.point (length lines) j *ℤ (get_or (front ++ whole (pos 1) ∷ []) j (whole (pos 0))).den
    at_end j e =
        ap (λ (r : Fraction). r.num *ℤ p.point.over) value ∙ *ℤ_comm (pos 1) p.point.over
        ∙ ap (λ (b : Bool). cond b p.point.over (p.point.numerator (At j ∷ [])) *ℤ pos 1) (sym (eq-eqb j (length lines) e)) ∙ ap (λ (r : Fraction). numerator_at p.point (length lines) j *ℤ r.den) (sym value)
      where
        value : get_or (front ++ whole (pos 1) ∷ []) j (whole (pos 0)) ≡ whole (pos 1)
        value = ap (λ (i : ℕ). get_or (front ++ whole (pos 1) ∷ []) i (whole (pos 0))) e ∙ last

    before : (j : ℕ) → j < length lines → (get_or (front ++ whole (pos 1) ∷ []) j (whole (pos 0))).num *ℤ p.point.over ≡ numerator_at p.point (length lines) j *ℤ (get_or (front ++ whole (pos 1) ∷ []) j (whole (pos 0))).den
    before j h =
        ap (λ (r : Fraction). r.num *ℤ p.point.over) value ∙ p.listed.same (At j ∷ [])
        ∙ ap (λ (b : Bool). cond b p.point.over (p.point.numerator (At j ∷ [])) *ℤ (ratio_at (columns (map equation_of lines) []) point (At j ∷ [])).den) (sym (ne_eqb j (length lines) (λ e. omega (arith, h, e)))) ∙ ap (λ (r : Fraction). numerator_at p.point (length lines) j *ℤ r.den) (sym value)
      where
        value : get_or (front ++ whole (pos 1) ∷ []) j (whole (pos 0)) ≡ ratio_at (columns (map equation_of lines) []) point (At j ∷ [])
        value = get_or-append front (whole (pos 1) ∷ []) (whole (pos 0)) j (let e : length front ≡ length lines = front_length in omega (arith, h, e)) ∙ value-at (columns (map equation_of lines) []) point (length lines) j (whole (pos 0)) h

-- ---- the answer

pub answer_no : (lines : List (List ℤ)) (rows : List Row) (a : Answer) → AreRegularLines lines → rows ≡ map equation_of lines → (IsLiveAndCalm (Infeasible rows) → IsLimit a → ⊥) → ((IsLimit a → ⊥) → IsTight (Infeasible rows) a) → is_no a ≡ true
answer_no lines rows a r e calm tight =
    point_says_no (map equation_of lines) a (subst (λ (rs : List Row). IsLiveAndCalm (Infeasible rs) → IsLimit a → ⊥) e calm (equations_calm lines r))
    (subst (λ (rs : List Row). (IsLimit a → ⊥) → IsTight (Infeasible rs) a) e tight) (equations_point lines r)

pub answer_other : (lines : List (List ℤ)) (rows : List Row) (a : Answer) → AreRegularLines lines → rows ≡ map equation_of lines → (IsLiveAndCalm (Infeasible rows) → IsLimit a → ⊥) → ((IsLimit a → ⊥) → IsTight (Infeasible rows) a) → ((point : List Fraction) → a ≡ answer.No point → ⊥) → ⊥
answer_other lines rows a r e calm tight other = go a (answer_no lines rows a r e calm tight) other
  where
    go : (a : Answer) → is_no a ≡ true → ((point : List Fraction) → a ≡ answer.No point → ⊥) → ⊥
    go (answer.Yes by) f other = absurd (false≢true f)
    go (answer.No point) f other = other point refl
    go (answer.Bound at certs case point) f other = absurd (false≢true f)
    go (answer.Unbounded case point ray) f other = absurd (false≢true f)
    go (answer.Basis relations spots free) f other = absurd (false≢true f)
    go (answer.Limit limit) f other = absurd (false≢true f)

pub solution_answer : {E : Type 0} (lines : List (List ℤ)) (rows others : List Row) (cs : List (List Col)) (point at : List Fraction) (a : Answer) (made : Result (List Fraction) E) → AreRegularLines lines → rows ≡ map equation_of lines → others ≡ map equation_of lines
    → cs ≡ columns rows [] → at ≡ point → a ≡ answer.No point → ((IsLimit a → ⊥) → IsTight (Infeasible others) a)
    → IfOk made (λ values. values ≡ values_to cs at (length lines) ++ whole (pos 1) ∷ []) → IfOk made (IsSolution lines)
solution_answer lines rows others cs point at a (Ok values) r e g f same is tight h =
    subst (IsSolution lines) (sym (h ∙ ap (λ (xs : List (List Col)). values_to xs at (length lines) ++ whole (pos 1) ∷ []) (f ∙ ap (λ (rs : List Row). columns rs []) e)))
    (solution_read lines at r (subst (HasPoint (map equation_of lines)) (sym same) (subst (λ (rs : List Row). HasPoint rs point) g (subst (λ (b : Answer). (IsLimit b → ⊥) → IsTight (Infeasible others) b) is tight (λ limit. limit)))))
solution_answer lines rows others cs point at a (Err error) r e g f same is tight h = tt

-- ---- numerators by their places

pub numerators-length : (m : ℤ) (rs : List Fraction) (ns : List ℤ) → AreNumerators m rs ns → length ns ≡ length rs
numerators-length m [] ns h = ap length h
numerators-length m (r ∷ rs) [] h = absurd h
numerators-length m (r ∷ rs) (n ∷ ns) h = let e : length ns ≡ length rs = numerators-length m rs ns h.1 in omega (arith, e)

pub numerator-is : (m : ℤ) (rs : List Fraction) (ns : List ℤ) (j : ℕ) → AreNumerators m rs ns → j < length rs → entry ns j *ℤ (get_or rs j (whole (pos 0))).den ≡ (get_or rs j (whole (pos 0))).num *ℤ m
numerator-is m [] ns j h g = absurd (omega (arith, g))
numerator-is m (r ∷ rs) [] j h g = absurd h
numerator-is m (r ∷ rs) (n ∷ ns) zero h g = h.0
numerator-is m (r ∷ rs) (n ∷ ns) (suc j) h g = numerator-is m rs ns j h.1 (omega (arith, g))

-- ---- small ratios

pub slide : (a b c : ℤ) → a *ℤ b *ℤ c ≡ a *ℤ c *ℤ b
slide a b c = simp ring (omega (arith, ints))

not_zero : (z : ℤ) → pos 0 <ℤ z → z ≡ pos 0 → ⊥
not_zero z h e = omega (arith, ints, h, e)

module _ (lines : List (List ℤ)) (values : List Fraction) (r : AreRegularLines lines) (s : IsSolution lines values) (lowest : AreLowest values) where
  small : (x : ℕ → ℤ) × IsSmallNull (28 ^ 6) (length lines) (number_at lines) x
  small = small_null (length lines) (number_at lines) r.few r.regular (λ i j h g. each_at (λ z. unsigned_abs z ≤ 4) (get_or lines i []) j (pos 0) (each_at (AllByRecursion (λ z. unsigned_abs z ≤ 4)) lines i [] r.small h) (let e : length (get_or lines i []) ≡ length lines + 1 = each_at (λ (line : List ℤ). length line ≡ length lines + 1) lines i [] r.wide h in omega (arith, e, g)))

  -- the last of the small numbers, and the ratio at a place
  abbrev bottom : ℤ
  bottom = small.0 (length lines)

  abbrev ratio : ℕ → Fraction
  ratio j = get_or values j (whole (pos 0))

  lowest_at : (j : ℕ) → j < length values → IsLowest (ratio j)
  lowest_at j h = each_at (λ (v : Fraction). IsLowest v) values j (whole (pos 0)) lowest h

  -- the ratios stand for the small numbers
  stands : (j : ℕ) → j < length values → (ratio j).num *ℤ bottom ≡ small.0 j *ℤ (ratio j).den
  stands j h =
      *ℤ_cancel ((ratio j).num *ℤ bottom) (small.0 j *ℤ (ratio j).den) s.over s.positive
      (slide (ratio j).num bottom s.over ∙ ap (λ z. z *ℤ bottom) (s.same j h) ∙ slide (s.numerator j) (ratio j).den bottom
      ∙ ap (λ z. z *ℤ (ratio j).den) (sym proportional) ∙ slide (small.0 j) s.over (ratio j).den)
    where
      proportional : small.0 j *ℤ s.over ≡ s.numerator j *ℤ bottom
      proportional = ap (λ z. small.0 j *ℤ z) (sym s.last_too) ∙ null_proportional (length lines) (number_at lines) small.0 s.numerator r.regular small.1.null (record { each = s.solves }) j (let e : length values ≡ length lines + 1 = s.each in omega (arith, h, e))

  below : AllByRecursion (IsRatioBelow (28 ^ 6) bottom) values
  below = each_from (IsRatioBelow (28 ^ 6) bottom) values (whole (pos 0)) (λ j h. record {
    number = small.0 j;
    is = record { stands = record { same = stands j h; positive = (lowest_at j h).positive }; lowest = lowest_at j h };
    small = small.1.small j;
  })

  pub numerators_made : HasValue (least_numerators values)
  numerators_made = bind_value (common_denominator values) (λ common. numerators_over common values)
      (common-fits (28 ^ 6) bottom values small.1.positive (let h : unsigned_abs bottom ≤ 28 ^ 6 = small.1.small (length lines) in omega (arith, h)) below)
      (λ m e. over-fits (28 ^ 6) bottom m values small.1.positive e below (omega arith))

  module _ (m : ℤ) (ns : List ℤ) (e : common_denominator values ≡ Ok m) (f : numerators_over m values ≡ Ok ns) where
    are : AreNumerators m values ns
    are = numerators_of values m ns lowest e f

    above : pos 0 <ℤ m
    above = denominator-positive values m lowest e

    many : length ns ≡ length lines + 1
    many = numerators-length m values ns are ∙ s.each

    inside : (j : ℕ) → j < length lines + 1 → j < length values
    inside j h = let g : length values ≡ length lines + 1 = s.each in omega (arith, h, g)

    -- over the point's denominator
    level : (j : ℕ) → j < length lines + 1 → s.over *ℤ entry ns j ≡ m *ℤ s.numerator j
    level j h =
        *ℤ_cancel (s.over *ℤ entry ns j) (m *ℤ s.numerator j) (ratio j).den (lowest_at j (inside j h)).positive
        (turn s.over (entry ns j) (ratio j).den ∙ ap (λ z. z *ℤ s.over) (numerator-is m values ns j are (inside j h)) ∙ slide (ratio j).num m s.over
        ∙ ap (λ z. z *ℤ m) (s.same j (inside j h)) ∙ back (s.numerator j) (ratio j).den m)
      where
        turn : (a b c : ℤ) → a *ℤ b *ℤ c ≡ b *ℤ c *ℤ a
        turn a b c = simp ring (omega (arith, ints))

        back : (a b c : ℤ) → a *ℤ b *ℤ c ≡ c *ℤ a *ℤ b
        back a b c = simp ring (omega (arith, ints))

    solves : (i : ℕ) → i < length lines → sum_below (length lines + 1) (λ j. number_at lines i j *ℤ entry ns j) ≡ pos 0
    solves i h =
        zero_factor (sum_below (length lines + 1) (λ j. number_at lines i j *ℤ entry ns j)) s.over
        (*ℤ_comm (sum_below (length lines + 1) (λ j. number_at lines i j *ℤ entry ns j)) s.over
        ∙ sym (sum_of_multiples (length lines + 1) s.over (number_at lines i) (entry ns))
        ∙ sum_below-same (length lines + 1) (λ j. number_at lines i j *ℤ (s.over *ℤ entry ns j)) (λ j. number_at lines i j *ℤ (m *ℤ s.numerator j)) (λ j g. ap (λ z. number_at lines i j *ℤ z) (level j g))
        ∙ sum_of_multiples (length lines + 1) m (number_at lines i) s.numerator ∙ ap (λ z. m *ℤ z) (s.solves i h) ∙ times_zero m)
        (not_zero s.over s.positive)

    last : entry ns (length lines) ≡ m
    last =
        sym (plain (entry ns (length lines))) ∙ ap (λ (v : Fraction). entry ns (length lines) *ℤ v.den) (sym s.last) ∙ numerator-is m values ns (length lines) are (inside (length lines) (omega arith))
        ∙ ap (λ (v : Fraction). v.num *ℤ m) s.last ∙ one-*ℤ m
      where
        plain : (z : ℤ) → z *ℤ pos 1 ≡ z
        plain z = omega (arith, ints)

    -- the denominator divides that of the small numbers
    least : IsFactor m bottom
    least = (denominator-least (pos 1) values m (omega (arith, ints)) lowest e).least bottom small.1.positive (record { times = bottom; is = one-*ℤ bottom })
        (each-more (IsRatioBelow (28 ^ 6) bottom) (λ (v : Fraction). IsFactor v.den bottom) factor values below)
      where
        factor : (v : Fraction) → IsRatioBelow (28 ^ 6) bottom v → IsFactor v.den bottom
        factor v h = let share : IsShare v h.number bottom = shared v h.number bottom small.1.positive h.is in record { times = share.times; is = share.den }

    number_small : (j : ℕ) → j < length ns → unsigned_abs (entry ns j) ≤ 28 ^ 6
    number_small j h = let a : unsigned_abs (entry ns j) ≤ unsigned_abs (small.0 j) = factor_small (entry ns j) least.times (small.0 j) times_above share in let b : unsigned_abs (small.0 j) ≤ 28 ^ 6 = small.1.small j in omega (arith, a, b)
      where
        within : j < length lines + 1
        within = let g : length ns ≡ length lines + 1 = many in omega (arith, h, g)

        times_above : pos 0 <ℤ least.times
        times_above = factor_positive m least.times above (subst (λ z. pos 0 <ℤ z) (sym least.is) small.1.positive)

        -- both times the ratio's denominator
        same_ratio : entry ns j *ℤ bottom ≡ small.0 j *ℤ m
        same_ratio = *ℤ_cancel (entry ns j *ℤ bottom) (small.0 j *ℤ m) (ratio j).den (lowest_at j (inside j within)).positive
            (slide (entry ns j) bottom (ratio j).den ∙ ap (λ z. z *ℤ bottom) (numerator-is m values ns j are (inside j within))
            ∙ slide (ratio j).num m bottom ∙ ap (λ z. z *ℤ m) (stands j (inside j within)) ∙ slide (small.0 j) (ratio j).den m)

        regroup : (a b c : ℤ) → a *ℤ b *ℤ c ≡ a *ℤ (c *ℤ b)
        regroup a b c = simp ring (omega (arith, ints))

        share : entry ns j *ℤ least.times ≡ small.0 j
        share = *ℤ_cancel (entry ns j *ℤ least.times) (small.0 j) m above (regroup (entry ns j) least.times m ∙ ap (λ z. entry ns j *ℤ z) least.is ∙ same_ratio)

    null_vector : IsNullVector lines ns
    null_vector = record {
      each = many;
      solves = solves;
      positive = subst (λ z. pos 0 <ℤ z) (sym last) above;
      primitive = numerators-primitive values m ns (length lines) lowest e f (let g : length ns ≡ length lines + 1 = many in omega (arith, g)) last;
      small = each_from (λ z. unsigned_abs z ≤ 28 ^ 6) ns (pos 0) number_small;
    }

pub null_vector_is : (lines : List (List ℤ)) (values : List Fraction) (ns : List ℤ) → AreRegularLines lines → IsSolution lines values → AreLowest values → least_numerators values ≡ Ok ns → IsNullVector lines ns
null_vector_is lines values ns r s lowest e =
    on_ok (common_denominator values) (λ common. numerators_over common values) ns e (λ m f g. null_vector lines values r s lowest m ns f g)

abbrev numbers_ok : List ℤ → Result (List ℤ) Step.Wide
numbers_ok ns = Ok ns

pub never_wide : (lines : List (List ℤ)) (values : List Fraction) (step : Step.Wide) → AreRegularLines lines → IsSolution lines values → AreLowest values → least_numerators values ≡ Err step → ⊥
never_wide lines values step r s lowest e = let made = numerators_made lines values r s lowest in clash made.0 (sym made.1 ∙ e)
  where
    clash : (ns : List ℤ) → numbers_ok ns ≡ Err step → ⊥
    clash ns f = cc
