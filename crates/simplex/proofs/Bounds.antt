-- Lines of tableaux that choose few columns outside the units are small.
use Rattle.std.proofs.Common.{◌≡◌, ◌≢◌, ℕ, zero, suc, ◌+◌, ◌*◌, ◌-◌, ◌<◌, ◌≤◌, Bool, true, false, cond, refl, sym, ap, subst, ◌∙◌, arith, ⊎_elim, inl, inr, ℤ, pos, negsuc, ◌-ℤ◌, ◌*ℤ◌, ◌≤ℤ◌, ◌<ℤ◌}
use Rattle.std.specs.Prelude.{unsigned_abs, nat_eq, nat_lt, ◌⊎◌}
use Rattle.std.proofs.lemmas.Int.{ints, by_lt_z, unsigned_abs-mul}
use Rattle.std.proofs.lemmas.Bool.{cases_eq, cases_lt, eq-eqb, ne_eqb, lt-ltb, ltb-true, false≢true}
use Rattle.std.proofs.Math.Nat.{mul-le-mul}
use Rattle.std.proofs.Math.IntN.{zero-*ℤ}
use Rattle.whole_numbers.proofs.Ring.{ring, one-*ℤ}
use Rattle.simplex.specs.Choices.{count_to}
use Rattle.simplex.specs.Frames.{IsOwnCombination, IsWholeTableau, IsExchange}
use Rattle.simplex.proofs.Sums.{weighted_multiple}
use Rattle.simplex.proofs.Exchanges.{times_zero, product, difference, IsCombination-difference, exchanged_is, zero_difference}
use Rattle.simplex.proofs.Corners.{none, single}
use Rattle.simplex.proofs.Ranks.{count_to-none}
use Rattle.simplex.proofs.ColumnChoices.{count_to-more}

-- a combination of the frame's lines that stands for a line, with numbers up to a size
pub record HasSmall (size lines units columns : ℕ) (frame : ℕ → ℕ → ℤ) (chosen : ℕ → ℕ) (i : ℕ) : Type 0 where
  pub line : ℕ → ℤ
  pub combination : IsOwnCombination lines units columns frame line
  pub own : pos 0 <ℤ line (chosen i)
  pub others : (k : ℕ) → k < lines → k ≢ i → line (chosen k) ≡ pos 0
  pub small : (j : ℕ) → j < columns → unsigned_abs (line j) ≤ size

-- ---- signs

record HasSign (a : ℤ) : Type 0 where
  sign : ℤ
  square : (z : ℤ) → sign *ℤ (sign *ℤ z) ≡ z
  one : (z : ℤ) → unsigned_abs (sign *ℤ z) ≡ unsigned_abs z
  positive : pos 0 <ℤ (sign *ℤ a)

sign_of : (a : ℤ) → (a ≡ pos 0 → ⊥) → HasSign a
sign_of a n =
    by_lt_z (pos 0) a (λ p. record { sign = pos 1; square = λ z. ap (λ y. pos 1 *ℤ y) (one-*ℤ z) ∙ one-*ℤ z; one = λ z. ap unsigned_abs (one-*ℤ z); positive = subst (λ (z : ℤ). pos 0 <ℤ z) (sym (one-*ℤ a)) p })
    (λ p. record { sign = negsuc 0; square = λ z. twice z; one = λ z. upright_line z; positive = below a n p })
  where
    twice : (z : ℤ) → negsuc 0 *ℤ (negsuc 0 *ℤ z) ≡ z
    twice z = omega (arith, ints)

    upright_line : (z : ℤ) → unsigned_abs (negsuc 0 *ℤ z) ≡ unsigned_abs z
    upright_line z = omega (arith, ints)

    below : (a : ℤ) → (a ≡ pos 0 → ⊥) → a ≤ℤ pos 0 → pos 0 <ℤ (negsuc 0 *ℤ a)
    below (pos zero) n p = absurd (n refl)
    below (pos (suc k)) n p = absurd (omega (arith, ints))
    below (negsuc k) n p = omega (arith, ints)

IsCombination-times : (lines units columns : ℕ) (frame : ℕ → ℕ → ℤ) (p : ℤ) (w : ℕ → ℤ) → IsOwnCombination lines units columns frame w → IsOwnCombination lines units columns frame (λ j. p *ℤ w j)
IsCombination-times lines units columns frame p w e j h = ap (λ z. p *ℤ z) (e j h) ∙ sym (weighted_multiple lines (λ l. w (units + l)) (λ l. p *ℤ w (units + l)) (λ l. frame l j) p (λ l k. refl))

difference-small : (n : ℕ) (p a q b : ℤ) → unsigned_abs p ≤ n → unsigned_abs a ≤ n → unsigned_abs q ≤ n → unsigned_abs b ≤ n → unsigned_abs (p *ℤ a -ℤ q *ℤ b) ≤ n * n + n * n
difference-small n p a q b hp ha hq hb =
    let x : unsigned_abs (p *ℤ a) ≤ n * n = rw (unsigned_abs-mul p a) (mul-le-mul hp ha) in
    let y : unsigned_abs (q *ℤ b) ≤ n * n = rw (unsigned_abs-mul q b) (mul-le-mul hq hb) in
    let z : unsigned_abs (p *ℤ a -ℤ q *ℤ b) ≤ unsigned_abs (p *ℤ a) + unsigned_abs (q *ℤ b) = less (p *ℤ a) (q *ℤ b) in omega arith
  where
    less : (a b : ℤ) → unsigned_abs (a -ℤ b) ≤ unsigned_abs a + unsigned_abs b
    less a b = omega (arith, ints)

-- one more column outside the units: from the lines of a choice to those of one in which a line
-- chooses another column
small_step : (n lines units columns : ℕ) (frame numbers : ℕ → ℕ → ℤ) (chosen other : ℕ → ℕ) (r : ℕ) → IsWholeTableau lines units columns frame numbers chosen → ((k : ℕ) → k < lines → chosen k < columns) → ((k : ℕ) → k < lines → other k < columns)
    → r < lines → ((k : ℕ) → k < lines → k ≢ r → other k ≡ chosen k) → ((i : ℕ) → i < lines → HasSmall n lines units columns frame other i) → (i : ℕ) → i < lines → HasSmall (n * n + n * n) lines units columns frame chosen i
small_step n lines units columns frame numbers chosen other r t ranges ranges_too here same known i h =
    ⊎_elim (λ (e : i ≡ r). subst (λ k. HasSmall (n * n + n * n) lines units columns frame chosen k) (sym e) at_r) (λ apart. elsewhere apart) (cases_eq i r)
  where
    pivot : HasSmall n lines units columns frame other r
    pivot = known r here

    zero_at : (k : ℕ) → k < lines → k ≢ r → (known r here).line (chosen k) ≡ pos 0
    zero_at k kh apart = ap (known r here).line (sym (same k kh apart)) ∙ (known r here).others k kh apart

    not_zero : (known r here).line (chosen r) ≡ pos 0 → ⊥
    not_zero z = clash ((known r here).line (other r)) (known r here).own (t.determined (known r here).line (known r here).combination all (other r) (ranges_too r here))
      where
        all : (k : ℕ) → k < lines → (known r here).line (chosen k) ≡ pos 0
        all k kh = ⊎_elim (λ (e : k ≡ r). ap (λ l. (known r here).line (chosen l)) e ∙ z) (λ apart. zero_at k kh apart) (cases_eq k r)

        clash : (z : ℤ) → pos 0 <ℤ z → z ≡ pos 0 → ⊥
        clash z p e = omega (arith, ints)

    with_sign : HasSign ((known r here).line (chosen r))
    with_sign = sign_of ((known r here).line (chosen r)) not_zero

    square : (m n : ℕ) → m ≤ n → m ≤ n * n + n * n
    square m zero k = k
    square m (suc n) k = let g : suc n * 1 ≤ suc n * suc n = mul-le-mul (omega arith) (omega arith) in omega arith

    at_r : HasSmall (n * n + n * n) lines units columns frame chosen r
    at_r = record {
      line = λ j. with_sign.sign *ℤ (known r here).line j;
      combination = IsCombination-times lines units columns frame with_sign.sign (known r here).line (known r here).combination;
      own = with_sign.positive;
      others = λ k kh apart. ap (λ z. with_sign.sign *ℤ z) (zero_at k kh apart) ∙ times_zero with_sign.sign;
      small = λ j jh. square (unsigned_abs (with_sign.sign *ℤ (known r here).line j)) n (let e : unsigned_abs (with_sign.sign *ℤ (known r here).line j) ≡ unsigned_abs ((known r here).line j) = with_sign.one ((known r here).line j) in let g : unsigned_abs ((known r here).line j) ≤ n = (known r here).small j jh in omega arith);
    }

    elsewhere : i ≢ r → HasSmall (n * n + n * n) lines units columns frame chosen i
    elsewhere apart = record {
      line = difference p (known i h).line q (known r here).line;
      combination = IsCombination-difference lines units columns frame p q (known i h).line (known r here).line (known i h).combination (known r here).combination;
      own = subst (λ (z : ℤ). pos 0 <ℤ z) (sym at_own) (product p ((known i h).line (other i)) with_sign.positive (known i h).own);
      others = λ k kh k_apart. ⊎_elim (λ (e : k ≡ r). ap (difference p (known i h).line q (known r here).line) (ap chosen e) ∙ cancels) (λ far. zero_difference p q ((known i h).line (chosen k)) ((known r here).line (chosen k)) (ap (known i h).line (sym (same k kh far)) ∙ (known i h).others k kh k_apart) (zero_at k kh far)) (cases_eq k r);
      small = λ j jh. difference-small n p ((known i h).line j) q ((known r here).line j) size_p ((known i h).small j jh) size_q ((known r here).small j jh);
    }
      where
        a : ℤ
        a = (known r here).line (chosen r)

        p : ℤ
        p = with_sign.sign *ℤ (known r here).line (chosen r)

        q : ℤ
        q = with_sign.sign *ℤ (known i h).line (chosen r)

        size_p : unsigned_abs (with_sign.sign *ℤ (known r here).line (chosen r)) ≤ n
        size_p = let e : unsigned_abs (with_sign.sign *ℤ (known r here).line (chosen r)) ≡ unsigned_abs ((known r here).line (chosen r)) = with_sign.one ((known r here).line (chosen r)) in let g : unsigned_abs ((known r here).line (chosen r)) ≤ n = (known r here).small (chosen r) (ranges r here) in omega arith

        size_q : unsigned_abs (with_sign.sign *ℤ (known i h).line (chosen r)) ≤ n
        size_q = let e : unsigned_abs (with_sign.sign *ℤ (known i h).line (chosen r)) ≡ unsigned_abs ((known i h).line (chosen r)) = with_sign.one ((known i h).line (chosen r)) in let g : unsigned_abs ((known i h).line (chosen r)) ≤ n = (known i h).small (chosen r) (ranges r here) in omega arith

        at_own : difference p (known i h).line q (known r here).line (chosen i) ≡ p *ℤ (known i h).line (other i)
        at_own = ap (λ z. p *ℤ (known i h).line (chosen i) -ℤ q *ℤ z) (zero_at i h apart) ∙ rw (times_zero q) (plain (p *ℤ (known i h).line (chosen i))) ∙ ap (λ c. p *ℤ (known i h).line c) (sym (same i h apart))
          where
            plain : (z : ℤ) → z -ℤ pos 0 ≡ z
            plain z = omega (arith, ints)

        cancels : difference p (known i h).line q (known r here).line (chosen r) ≡ pos 0
        cancels = level with_sign.sign ((known r here).line (chosen r)) ((known i h).line (chosen r))
          where
            level : (s a b : ℤ) → s *ℤ a *ℤ b -ℤ s *ℤ b *ℤ a ≡ pos 0
            level s a b = simp ring (omega (arith, ints))

-- ---- by induction on the number of columns outside the units

-- a frame: unit columns, and numbers up to a size
pub record IsFrame (size lines units columns : ℕ) (frame : ℕ → ℕ → ℤ) : Type 0 where
  pub unit : (l : ℕ) → l < lines → frame l (units + l) ≡ pos 1
  pub nothing : (l k : ℕ) → l < lines → k < lines → l ≢ k → frame l (units + k) ≡ pos 0
  pub small : (l j : ℕ) → l < lines → j < columns → unsigned_abs (frame l j) ≤ size

-- 2 n^2 again and again
abbrev pub grown : ℕ → ℕ → ℕ
grown n zero = n
grown n (suc k) = grown n k * grown n k + grown n k * grown n k

abbrev outside : ℕ → (ℕ → ℕ) → ℕ → Bool
outside units chosen i = nat_lt (chosen i) units

-- some number passes where the count is not 0
found : (n k : ℕ) (p : ℕ → Bool) → count_to n p ≡ suc k → (r : ℕ) × ((r < n) × (p r ≡ true))
found zero k p e = absurd (omega arith)
found (suc n) k p e = go (p n) refl (found n k p)
  where
    go : (b : Bool) → p n ≡ b → (count_to n p ≡ suc k → (r : ℕ) × ((r < n) × (p r ≡ true))) → (r : ℕ) × ((r < suc n) × (p r ≡ true))
    go true f rest = (n, (omega arith, f))
    go false f rest = let c : count_to n p + 0 ≡ suc k = rw f at e in let l = rest (omega arith) in (l.0, (omega (arith, l.1.0), l.1.1))

-- some number is not 0, or all are
searched : (n : ℕ) (w : ℕ → ℤ) → ((l : ℕ) × ((l < n) × (w l ≡ pos 0 → ⊥))) ⊎ ((l : ℕ) → l < n → w l ≡ pos 0)
searched zero w = inr (λ l h. absurd (omega arith))
searched (suc n) w =
    by_lt_z (w n) (pos 0) (λ p. inl (n, (omega arith, λ e. absurd (omega (arith, ints, e)))))
    (λ q. by_lt_z (pos 0) (w n) (λ p. inl (n, (omega arith, λ e. absurd (omega (arith, ints, e)))))
    (λ p. last (omega (arith, ints)) (searched n w)))
  where
    last : w n ≡ pos 0 → ((l : ℕ) × ((l < n) × (w l ≡ pos 0 → ⊥))) ⊎ ((l : ℕ) → l < n → w l ≡ pos 0) → ((l : ℕ) × ((l < suc n) × (w l ≡ pos 0 → ⊥))) ⊎ ((l : ℕ) → l < suc n → w l ≡ pos 0)
    last e known = ⊎_elim (λ some. inl (some.0, (omega (arith, some.1.0), some.1.1))) (λ all. inr (λ l h. ⊎_elim (λ (same : l ≡ n). ap w same ∙ e) (λ other. all l (omega arith)) (cases_eq l n))) known

-- an exchange without any division
abbrev plain_exchange : ℤ → ℕ → ℕ → (ℕ → ℕ → ℤ) → ℕ → ℕ → ℤ
plain_exchange sign r v numbers i j = cond (nat_eq i r) (sign *ℤ numbers r j) ((sign *ℤ numbers r v) *ℤ numbers i j -ℤ numbers i v *ℤ (sign *ℤ numbers r j))

abbrev changed : ℕ → ℕ → (ℕ → ℕ) → ℕ → ℕ
changed r v chosen i = cond (nat_eq i r) v (chosen i)

plain_is : (lines r v : ℕ) (numbers : ℕ → ℕ → ℤ) (s : HasSign (numbers r v)) → IsExchange lines numbers (plain_exchange s.sign r v numbers) r v
plain_is lines r v numbers s = record {
  sign = s.sign;
  upright = λ j. at_r j;
  back = λ j. sym (s.square (numbers r j)) ∙ ap (λ z. s.sign *ℤ z) (sym (at_r j));
  positive = subst (λ (z : ℤ). pos 0 <ℤ z) (sym (at_r v)) s.positive;
  line_without = λ i h other. record { factor = pos 1; positive = omega (arith, ints); is = λ j. one-*ℤ (plain_exchange s.sign r v numbers i j) ∙ at_other i j other ∙ ap (λ z. z *ℤ numbers i j -ℤ numbers i v *ℤ (s.sign *ℤ numbers r j)) (sym (at_r v)) ∙ ap (λ z. plain_exchange s.sign r v numbers r v *ℤ numbers i j -ℤ numbers i v *ℤ z) (sym (at_r j)) };
}
  where
    at_r : (j : ℕ) → plain_exchange s.sign r v numbers r j ≡ s.sign *ℤ numbers r j
    at_r j = rw (eq-eqb r r refl) refl

    at_other : (i j : ℕ) → i ≢ r → plain_exchange s.sign r v numbers i j ≡ (s.sign *ℤ numbers r v) *ℤ numbers i j -ℤ numbers i v *ℤ (s.sign *ℤ numbers r j)
    at_other i j other = rw (ne_eqb i r other) refl

-- no column outside the units: the frame's own lines
small_units : (size lines units columns : ℕ) (frame numbers : ℕ → ℕ → ℤ) (chosen : ℕ → ℕ) → IsFrame size lines units columns frame → IsWholeTableau lines units columns frame numbers chosen → units + lines ≡ columns → ((k : ℕ) → k < lines → chosen k < columns)
    → ((k : ℕ) → k < lines → units ≤ chosen k) → (i : ℕ) → i < lines → HasSmall size lines units columns frame chosen i
small_units size lines units columns frame numbers chosen f t wide ranges all_units i h = record {
  line = frame (row i);
  combination = λ j jh. sym (single lines (λ l. frame (row i) (units + l) *ℤ frame l j) (row i) (row_within i h) (λ l lh other. ap (λ z. z *ℤ frame l j) (f.nothing (row i) l (row_within i h) lh (λ e. other (sym e))) ∙ zero-*ℤ (frame l j)) ∙ ap (λ z. z *ℤ frame (row i) j) (f.unit (row i) (row_within i h)) ∙ one-*ℤ (frame (row i) j));
  own = subst (λ (c : ℕ). pos 0 <ℤ frame (row i) c) (sym (is_unit i h)) (subst (λ (z : ℤ). pos 0 <ℤ z) (sym (f.unit (row i) (row_within i h))) (omega (arith, ints)));
  others = λ k kh apart. ap (frame (row i)) (is_unit k kh) ∙ f.nothing (row i) (row k) (row_within i h) (row_within k kh) (λ e. differ k kh apart e);
  small = λ j jh. f.small (row i) j (row_within i h) jh;
}
  where
    row : ℕ → ℕ
    row k = chosen k - units

    is_unit : (k : ℕ) → k < lines → chosen k ≡ units + (chosen k - units)
    is_unit k kh = let a : units ≤ chosen k = all_units k kh in omega arith

    row_within : (k : ℕ) → k < lines → chosen k - units < lines
    row_within k kh = let a : units ≤ chosen k = all_units k kh in let b : chosen k < columns = ranges k kh in omega arith

    differ : (k : ℕ) → k < lines → k ≢ i → chosen i - units ≡ chosen k - units → ⊥
    differ k kh apart e = clash (numbers k (chosen k)) (t.own k kh) (ap (numbers k) (is_unit k kh ∙ ap (λ n. units + n) (sym e) ∙ sym (is_unit i h)) ∙ t.others k i kh h apart)
      where
        clash : (z : ℤ) → pos 0 <ℤ z → z ≡ pos 0 → ⊥
        clash z p e = omega (arith, ints)

pub few_small : (k size lines units columns : ℕ) (frame numbers : ℕ → ℕ → ℤ) (chosen : ℕ → ℕ) → IsFrame size lines units columns frame → units + lines ≡ columns → IsWholeTableau lines units columns frame numbers chosen → ((i : ℕ) → i < lines → chosen i < columns)
    → count_to lines (outside units chosen) ≡ k → (i : ℕ) → i < lines → HasSmall (grown size k) lines units columns frame chosen i
few_small zero size lines units columns frame numbers chosen f wide t ranges c =
    small_units size lines units columns frame numbers chosen f t wide ranges (λ k kh. not_below (chosen k) units (count_to-none lines (outside units chosen) c k kh))
  where
    not_below : (a b : ℕ) → nat_lt a b ≡ false → b ≤ a
    not_below a b e = ⊎_elim (λ (h : a < b). absurd (false≢true (sym e ∙ lt-ltb a b h))) (λ h. h) (cases_lt a b)
few_small (suc k) size lines units columns frame numbers chosen f wide t ranges c =
    go (found lines k (outside units chosen) c) (few_small k size lines units columns frame)
  where
    go : (r : ℕ) × ((r < lines) × (outside units chosen r ≡ true))
        → ((numbers : ℕ → ℕ → ℤ) (chosen : ℕ → ℕ) → IsFrame size lines units columns frame → units + lines ≡ columns → IsWholeTableau lines units columns frame numbers chosen → ((i : ℕ) → i < lines → chosen i < columns) → count_to lines (outside units chosen) ≡ k → (i : ℕ) → i < lines → HasSmall (grown size k) lines units columns frame chosen i)
        → (i : ℕ) → i < lines → HasSmall (grown size (suc k)) lines units columns frame chosen i
    go pick rest = ⊎_elim (λ some. with_unit some.0 some.1.0 some.1.1) (λ all. absurd (clash (numbers r (chosen r)) (t.own r here) (t.combination r here (chosen r) (ranges r here) ∙ none lines (λ l. numbers r (units + l) *ℤ frame l (chosen r)) (λ l lh. ap (λ z. z *ℤ frame l (chosen r)) (all l lh) ∙ zero-*ℤ (frame l (chosen r)))))) (searched lines (λ l. numbers pick.0 (units + l)))
      where
        r : ℕ
        r = pick.0

        here : pick.0 < lines
        here = pick.1.0

        clash : (z : ℤ) → pos 0 <ℤ z → z ≡ pos 0 → ⊥
        clash z p e = omega (arith, ints)

        with_unit : (l : ℕ) → l < lines → (numbers pick.0 (units + l) ≡ pos 0 → ⊥) → (i : ℕ) → i < lines → HasSmall (grown size (suc k)) lines units columns frame chosen i
        with_unit l lh n =
            small_step (grown size k) lines units columns frame numbers chosen (changed pick.0 (units + l) chosen) pick.0 t ranges ranges_too here (λ i ih other. elsewhere i other)
            (rest (plain_exchange (sign_of (numbers pick.0 (units + l)) n).sign pick.0 (units + l) numbers) (changed pick.0 (units + l) chosen) f wide
            (exchanged_is lines units columns frame numbers (plain_exchange (sign_of (numbers pick.0 (units + l)) n).sign pick.0 (units + l) numbers) chosen (changed pick.0 (units + l) chosen) pick.0 (units + l) t
            (plain_is lines pick.0 (units + l) numbers (sign_of (numbers pick.0 (units + l)) n)) (record { there = at_r; elsewhere = λ i ih other. elsewhere i other }) wide here (omega arith) ranges)
            ranges_too fewer)
          where
            at_r : changed pick.0 (units + l) chosen pick.0 ≡ units + l
            at_r = rw (eq-eqb pick.0 pick.0 refl) refl

            elsewhere : (i : ℕ) → i ≢ pick.0 → changed pick.0 (units + l) chosen i ≡ chosen i
            elsewhere i other = rw (ne_eqb i pick.0 other) refl

            ranges_too : (i : ℕ) → i < lines → changed pick.0 (units + l) chosen i < columns
            ranges_too i ih = ⊎_elim (λ (e : i ≡ pick.0). subst (λ (n : ℕ). n < columns) (sym (ap (changed pick.0 (units + l) chosen) e ∙ at_r)) (omega arith)) (λ other. subst (λ (n : ℕ). n < columns) (sym (elsewhere i other)) (ranges i ih)) (cases_eq i pick.0)

            unit_out : nat_lt (changed pick.0 (units + l) chosen pick.0) units ≡ false
            unit_out = ap (λ n. nat_lt n units) at_r ∙ not_less
              where
                not_less : nat_lt (units + l) units ≡ false
                not_less = tell (nat_lt (units + l) units) refl
                  where
                    tell : (b : Bool) → nat_lt (units + l) units ≡ b → nat_lt (units + l) units ≡ false
                    tell true e = absurd (let h : units + l < units = ltb-true (units + l) units e in omega arith)
                    tell false e = e

            fewer : count_to lines (outside units (changed pick.0 (units + l) chosen)) ≡ k
            fewer =
                let more : count_to lines (outside units chosen) ≡ count_to lines (outside units (changed pick.0 (units + l) chosen)) + 1 =
                count_to-more lines (outside units (changed pick.0 (units + l) chosen)) (outside units chosen) pick.0 here unit_out pick.1.1 (λ j other. ap (λ n. nat_lt n units) (sym (elsewhere j other))) in omega arith
