-- The relation that is read off a tableau of spots' lines is one of a tableau of their frame in the
-- words of calm questions.
use Rattle.std.proofs.Common.{◌≡◌, ◌≢◌, ℕ, zero, suc, ◌*◌, ◌<◌, ◌≤◌, Bool, false, cond, List, [], ◌∷◌, map, length, get_or, refl, sym, ap, subst, ◌∙◌, arith, ⊎_elim, ℤ, pos, negsuc, ◌*ℤ◌, ◌<ℤ◌}
use Rattle.std.specs.Prelude.{nat_eq, unsigned_abs, int_div, neg_ℤ}
use Rattle.std.specs.Int.{◌∣◌}
use Rattle.std.specs.List.{AllByRecursion}
use Rattle.std.proofs.lemmas.Int.{ints, unsigned_abs-mul}
use Rattle.std.proofs.lemmas.Bool.{cases_eq, cases_lt, eq-eqb, ne_eqb}
use Rattle.std.proofs.lemmas.Nat.Gcd.{dvd-zero}
use Rattle.std.proofs.Math.IntN.{*ℤ_comm, zero-*ℤ}
use Rattle.whole_numbers.specs.Divisors.{gcd_of_all}
use Rattle.whole_numbers.proofs.CommonDivisors.{DividesEach}
use Rattle.whole_numbers.proofs.Ring.{ring}
use Rattle.farkas_check.specs.Calm.{is_among, at_chosen, relation_at}
use Rattle.farkas_check.specs.Calm.{IsRelationOf as IsFrameRelation}
use Rattle.farkas_check.specs.Frames.{AreUpTo, IsCalmUpTo}
use Rattle.farkas_check.specs.Relations.{entry, places}
use Rattle.simplex.specs.Exchange.{numbers_of, choices_of}
use Rattle.simplex.specs.Spots.{frame_of_lines, IsSpotTableau, ChoosesUnknowns, IsRelationOf, IsUnchosen, spots_framed, spots_frame}
use Rattle.simplex.specs.declared.tableau.Tableau.{Tableau}
use Rattle.simplex.proofs.Calmness.{whole_over, share_of, multiple_of, is_tableau, at_place, smaller}
use Rattle.simplex.proofs.CalmSpots.{spot_numbers}
use Rattle.simplex.proofs.Corners.{share-over}
use Rattle.simplex.proofs.Eliminations.{choose_apart}
use Rattle.simplex.proofs.LeastShares.{past_zero, HasShare, primitive_share, divides_each, divides_at, divides_factor, factor_divides, divisor_is, number_listed, listed-length, listed}
use Rattle.simplex.proofs.RowCorners.{over-positive, find_choice}
use Rattle.simplex.proofs.Tame.{all_entries}
use Rattle.simplex.proofs.Widths.{quotient_is}

-- ---- numbers at chosen columns

pub at_chosen-none : (chosen : List ℕ) (number : ℕ → ℤ) (place : ℕ) → ((k : ℕ) → k < length chosen → get_or chosen k 0 ≢ place) → at_chosen chosen number place ≡ pos 0
at_chosen-none [] number place none = refl
at_chosen-none (c ∷ chosen) number place none =
    ap (λ (b : Bool). cond b (number zero) (at_chosen chosen (λ k. number (suc k)) place)) (ne_eqb c place (none 0 (omega arith)))
    ∙ at_chosen-none chosen (λ k. number (suc k)) place (λ k h. none (suc k) (omega (arith, h)))

pub at_chosen-one : (chosen : List ℕ) (number : ℕ → ℤ) (place k : ℕ) → k < length chosen → get_or chosen k 0 ≡ place → ((i : ℕ) → i < length chosen → i ≢ k → get_or chosen i 0 ≢ place) → at_chosen chosen number place ≡ number k
at_chosen-one [] number place k h is others = absurd (omega (arith, h))
at_chosen-one (c ∷ chosen) number place zero h is others = ap (λ (b : Bool). cond b (number zero) (at_chosen chosen (λ k. number (suc k)) place)) (eq-eqb c place is)
at_chosen-one (c ∷ chosen) number place (suc k) h is others =
    ap (λ (b : Bool). cond b (number zero) (at_chosen chosen (λ k. number (suc k)) place)) (ne_eqb c place (others 0 (omega arith) (λ e. absurd (omega (arith, e)))))
    ∙ at_chosen-one chosen (λ k. number (suc k)) place k (omega (arith, h)) is (λ i g other. others (suc i) (omega (arith, g)) (λ e. other (omega (arith, e))))

pub among-none : (chosen : List ℕ) (place : ℕ) → ((k : ℕ) → k < length chosen → get_or chosen k 0 ≢ place) → is_among place chosen ≡ false
among-none [] place none = refl
among-none (c ∷ chosen) place none = rw (ne_eqb c place (none 0 (omega arith))) (among-none chosen place (λ k h. none (suc k) (omega (arith, h))))

-- ---- the relation

module _ (count : ℕ) (lines : List (List ℤ)) (t : Tableau) (u : ℕ) (numbers : List ℤ) (s : IsSpotTableau count lines t) (chosen : ChoosesUnknowns count (length lines) t) (here : u < count) (free : IsUnchosen t u) (r : IsRelationOf count t u numbers) where
  -- the numbers of the relation times the tableau's denominator, over its own number at the unknown
  abbrev w : ℕ → ℤ
  w j = cond (nat_eq j u) (whole_over t) (at_chosen t.chosen (λ k. neg_ℤ (multiple_of t k u)) j)

  many : length t.chosen ≡ length t.lines
  many = s.tableau.shape.choices

  below : (k : ℕ) → k < length t.lines → choices_of t k < count
  below k h = chosen k (subst (λ (n : ℕ). k < n) s.many h)

  others : (k : ℕ) → k < length t.lines → (i : ℕ) → i < length t.chosen → i ≢ k → choices_of t i ≢ choices_of t k
  others k h i g other = choose_apart (spots_frame count lines) t i k s.tableau (subst (λ (n : ℕ). i < n) many g) h other

  above : pos 0 <ℤ whole_over t
  above = over-positive (length t.lines) (λ k. numbers_of t k (choices_of t k)) (λ k h. s.tableau.is.own k h)

  at_unknown : w u ≡ whole_over t
  at_unknown = ap (λ (b : Bool). cond b (whole_over t) (at_chosen t.chosen (λ k. neg_ℤ (multiple_of t k u)) u)) (eq-eqb u u refl)

  at_choice : (k : ℕ) → k < length t.lines → w (choices_of t k) ≡ neg_ℤ (multiple_of t k u)
  at_choice k h =
      ap (λ (b : Bool). cond b (whole_over t) (at_chosen t.chosen (λ k. neg_ℤ (multiple_of t k u)) (choices_of t k))) (ne_eqb (choices_of t k) u (free.none k h))
      ∙ at_chosen-one t.chosen (λ k. neg_ℤ (multiple_of t k u)) (choices_of t k) k (subst (λ (n : ℕ). k < n) (sym many) h) refl (others k h)

  elsewhere : (j : ℕ) → j ≢ u → ((k : ℕ) → k < length t.lines → choices_of t k ≢ j) → w j ≡ pos 0
  elsewhere j apart none =
      ap (λ (b : Bool). cond b (whole_over t) (at_chosen t.chosen (λ k. neg_ℤ (multiple_of t k u)) j)) (ne_eqb j u apart)
      ∙ at_chosen-none t.chosen (λ k. neg_ℤ (multiple_of t k u)) j (λ k h. none k (subst (λ (n : ℕ). k < n) many h))

  zero_there : (j : ℕ) → j ≢ u → ((k : ℕ) → k < length t.lines → choices_of t k ≢ j) → entry numbers j ≡ pos 0
  zero_there j apart none = ⊎_elim (λ (h : j < count). r.free j h apart none) (λ (h : count ≤ j). past_zero numbers j (subst (λ (n : ℕ). n ≤ j) (sym r.each) h)) (cases_lt j count)

  level : (n own part k u : ℤ) → n *ℤ own ≡ k *ℤ negsuc 0 *ℤ u → n *ℤ (own *ℤ part) ≡ neg_ℤ (k *ℤ part) *ℤ u
  level n own part k u e = first n own part ∙ ap (λ z. z *ℤ part) e ∙ last k part u
    where
      first : (n own part : ℤ) → n *ℤ (own *ℤ part) ≡ n *ℤ own *ℤ part
      first n own part = simp ring (omega (arith, ints))

      turned : (z : ℤ) → z *ℤ negsuc 0 ≡ neg_ℤ z
      turned z = omega (arith, ints)

      last : (k part u : ℤ) → k *ℤ negsuc 0 *ℤ u *ℤ part ≡ neg_ℤ (k *ℤ part) *ℤ u
      last k part u = ap (λ z. z *ℤ u *ℤ part) (turned k) ∙ simp ring (omega (arith, ints))

  same : (j : ℕ) → entry numbers j *ℤ whole_over t ≡ w j *ℤ entry numbers u
  same j = ⊎_elim (λ (e : j ≡ u). own e) (λ apart. ⊎_elim (λ found. choice apart found.0 found.1.0 found.1.1) (λ none. nowhere apart none) (find_choice (length t.lines) (choices_of t) j)) (cases_eq j u)
    where
      own : j ≡ u → entry numbers j *ℤ whole_over t ≡ w j *ℤ entry numbers u
      own e = ap (λ (i : ℕ). entry numbers i *ℤ whole_over t) e ∙ *ℤ_comm (entry numbers u) (whole_over t) ∙ ap (λ z. z *ℤ entry numbers u) (sym (ap w e ∙ at_unknown))

      choice : j ≢ u → (k : ℕ) → k < length t.lines → choices_of t k ≡ j → entry numbers j *ℤ whole_over t ≡ w j *ℤ entry numbers u
      choice apart k h is =
          ap (λ (i : ℕ). entry numbers i *ℤ whole_over t) (sym is)
          ∙ ap (λ z. entry numbers (choices_of t k) *ℤ z) (sym (share-over (length t.lines) (λ i. numbers_of t i (choices_of t i)) k h))
          ∙ level (entry numbers (choices_of t k)) (numbers_of t k (choices_of t k)) (share_of t k) (numbers_of t k u) (entry numbers u) (r.chosen k h (below k h) (free.none k h))
          ∙ ap (λ z. z *ℤ entry numbers u) (sym (ap w (sym is) ∙ at_choice k h))

      nowhere : j ≢ u → ((k : ℕ) → k < length t.lines → choices_of t k ≢ j) → entry numbers j *ℤ whole_over t ≡ w j *ℤ entry numbers u
      nowhere apart none = ap (λ z. z *ℤ whole_over t) (zero_there j apart none) ∙ zero-*ℤ (whole_over t) ∙ sym (ap (λ z. z *ℤ entry numbers u) (elsewhere j apart none) ∙ zero-*ℤ (entry numbers u))

  part : HasShare numbers w (whole_over t) (entry numbers u)
  part = primitive_share numbers w (whole_over t) (entry numbers u) r.primitive above r.positive same

  abbrev parts : List ℤ
  parts = whole_over t ∷ map (λ k. multiple_of t k u) (places (length lines))

  size_turned : (z : ℤ) → unsigned_abs (neg_ℤ z) ≡ unsigned_abs z
  size_turned z = omega (arith, ints)

  divides_w : (j : ℕ) → part.by ∣ unsigned_abs (w j)
  divides_w j = subst (λ z. part.by ∣ unsigned_abs z) (sym (part.each j)) (factor_divides part.by (entry numbers j))

  by_divides : DividesEach part.by parts
  by_divides = (
    subst (λ z. part.by ∣ unsigned_abs z) at_unknown (divides_w u),
    divides_each part.by (map (λ k. multiple_of t k u) (places (length lines))) (λ k h. one k (subst (λ (n : ℕ). k < n) (listed-length (λ k. multiple_of t k u) (length lines)) h)),
  )
    where
      one : (k : ℕ) → k < length lines → part.by ∣ unsigned_abs (entry (map (λ k. multiple_of t k u) (places (length lines))) k)
      one k h = subst (λ z. part.by ∣ unsigned_abs z) (sym (number_listed (λ k. multiple_of t k u) (length lines) k h))
          (subst (λ (n : ℕ). part.by ∣ n) (ap unsigned_abs (at_choice k (subst (λ (n : ℕ). k < n) (sym s.many) h)) ∙ size_turned (multiple_of t k u)) (divides_w (choices_of t k)))

  all_divide : (d : ℕ) → DividesEach d parts → d ∣ part.by
  all_divide d e = divides_factor d part.by numbers part.above r.primitive (λ j. subst (λ z. d ∣ unsigned_abs z) (part.each j) (at j))
    where
      at : (j : ℕ) → d ∣ unsigned_abs (w j)
      at j = ⊎_elim (λ (f : j ≡ u). subst (λ z. d ∣ unsigned_abs z) (sym (ap w f ∙ at_unknown)) e.0)
          (λ apart. ⊎_elim (λ found. choice found.0 found.1.0 found.1.1) (λ none. subst (λ z. d ∣ unsigned_abs z) (sym (elsewhere j apart none)) (dvd-zero d)) (find_choice (length t.lines) (choices_of t) j)) (cases_eq j u)
        where
          choice : (k : ℕ) → k < length t.lines → choices_of t k ≡ j → d ∣ unsigned_abs (w j)
          choice k h is =
              subst (λ (n : ℕ). d ∣ n) (sym (ap unsigned_abs (ap w (sym is) ∙ at_choice k h) ∙ size_turned (multiple_of t k u)))
              (subst (λ z. d ∣ unsigned_abs z) (number_listed (λ k. multiple_of t k u) (length lines) k (subst (λ (n : ℕ). k < n) s.many h))
              (divides_at d (map (λ k. multiple_of t k u) (places (length lines))) k (subst (λ (n : ℕ). k < n) (s.many ∙ sym (listed-length (λ k. multiple_of t k u) (length lines))) h) e.1))

  divisor : gcd_of_all parts ≡ part.by
  divisor = divisor_is part.by parts by_divides all_divide

  number_is : (j : ℕ) → entry numbers j ≡ int_div (w j) (pos (gcd_of_all parts))
  number_is j = sym (ap (λ (n : ℕ). int_div (w j) (pos n)) divisor ∙ quotient_is (w j) (pos part.by) (entry numbers j) (let h : 0 < part.by = part.above in omega (arith, ints, h)) (part.each j))

  pub relation_framed : IsFrameRelation (frame_of_lines count lines) numbers
  relation_framed = record {
    chosen = t.chosen;
    over = whole_over t;
    multiple = multiple_of t;
    tableau = is_tableau (frame_of_lines count lines) (numbers_of (spots_framed count lines)) t (spot_numbers count lines) s.many s.tableau;
    column = u;
    unknown = here;
    free = among-none t.chosen u (λ k h. free.none k (subst (λ (n : ℕ). k < n) many h));
    is = listed (relation_at (length lines) (whole_over t) t.chosen (multiple_of t) u) count numbers r.each (λ j h. number_is j);
  }

  -- each of its numbers is small
  number_small : IsCalmUpTo 1048576 (frame_of_lines count lines) → (j : ℕ) → unsigned_abs (entry numbers j) ≤ 1048576
  number_small calm j = smaller (unsigned_abs (entry numbers j)) part.by part.by 1048576 part.above (subst (λ (n : ℕ). n ≤ 1048576 * part.by) (ap unsigned_abs (part.each j) ∙ unsigned_abs-mul (entry numbers j) (pos part.by)) (subst (λ (g : ℕ). unsigned_abs (w j) ≤ 1048576 * g) divisor (size j))) (omega arith)
    where
      up_to : AreUpTo 1048576 parts
      up_to = calm.columns t.chosen (whole_over t) (multiple_of t) (is_tableau (frame_of_lines count lines) (numbers_of (spots_framed count lines)) t (spot_numbers count lines) s.many s.tableau) u (omega (arith, here))

      size : (j : ℕ) → unsigned_abs (w j) ≤ 1048576 * gcd_of_all parts
      size j = ⊎_elim (λ (f : j ≡ u). subst (λ z. unsigned_abs z ≤ 1048576 * gcd_of_all parts) (sym (ap w f ∙ at_unknown)) up_to.0)
          (λ apart. ⊎_elim (λ found. choice found.0 found.1.0 found.1.1) (λ none. subst (λ z. unsigned_abs z ≤ 1048576 * gcd_of_all parts) (sym (elsewhere j apart none)) (omega arith)) (find_choice (length t.lines) (choices_of t) j)) (cases_eq j u)
        where
          choice : (k : ℕ) → k < length t.lines → choices_of t k ≡ j → unsigned_abs (w j) ≤ 1048576 * gcd_of_all parts
          choice k h is =
              subst (λ (n : ℕ). n ≤ 1048576 * gcd_of_all parts) (sym (ap unsigned_abs (ap w (sym is) ∙ at_choice k h) ∙ size_turned (multiple_of t k u)))
              (at_place (λ z. unsigned_abs z ≤ 1048576 * gcd_of_all parts) (λ k. multiple_of t k u) (length lines) k up_to.1 (subst (λ (n : ℕ). k < n) s.many h))

  pub relation_small : IsCalmUpTo 1048576 (frame_of_lines count lines) → AllByRecursion (λ z. unsigned_abs z ≤ 1048576) numbers
  relation_small calm = all_entries (λ z. unsigned_abs z ≤ 1048576) numbers (λ j h. number_small calm j)
