-- Sums over the columns of their own rows: at each other column the sum of the multiples and the
-- multiple of the objective are 0.
use Rattle.std.proofs.Common.{◌≡◌, ◌⊎◌, inl, inr, Bool, true, false, cond, ℤ, pos, List, [], ◌∷◌, Result, Ok, Err, refl, sym, ap, subst, ◌∙◌}
use Rattle.std.specs.Prelude.{◌&&◌}
use Rattle.std.specs.List.{AllByRecursion}
use Rattle.std.specs.Map.{keys_of}
use Rattle.std.specs.Ordering.{int_eq, eq_by_cmp, is_eq, match_ordering}
use Rattle.std.specs.declared.cmp.Ordering.{Ordering}
use Rattle.std.specs.declared.cmp.Ordering.TheVariants.{Less, Equal, Greater}
use Rattle.std.proofs.lemmas.Bool.Decides.{Decides-int_eq}
use Rattle.items.specs.Gives.{◌>>=◌}
use Rattle.items.proofs.Each.{each-any, each-append, each-front, each-back}
use Rattle.items.proofs.Gives.{on_ok}
use Rattle.whole_numbers.specs.Fits.{sum_of, product_of}
use Rattle.whole_numbers.specs.declared.wide.Wide.{Wide}
use Rattle.linear_terms.specs.declared.col.Col.{Col}
use Rattle.linear_terms.specs.declared.row.Row.{Row}
use Rattle.linear_terms.specs.Mono.{mono_cmp}
use Rattle.linear_terms.specs.Polynomial.{Terms, coefficient_in}
use Rattle.linear_terms.proofs.Order.{mono_tie}
use Rattle.farkas_check.specs.declared.answer.Cert.{Cert}
use Rattle.farkas_check.specs.declared.question.Goal.{Goal}
use Rattle.farkas_check.specs.Columns.{with_mono, in_print_order, monos_of, columns}
use Rattle.farkas_check.specs.Multiples.{is_zero, sum_from, number_at, sums_at, constant_sum, scaled_less}
use Rattle.farkas_check.specs.Relations.{Side, with_sides, coefficient_at, rest_of, difference_numbers, difference_form}
use Rattle.farkas_check.specs.Steps.{sums_cancel, are_scaled, with_constants, are_multiples, with_half_constants}
use Rattle.farkas_check.specs.Stratum.{tested_multiple}
use Rattle.farkas_check.specs.Tested.{goal_columns, tested_sum}
use Rattle.farkas_check.specs.Walk.{multiplied_rows}
use Rattle.farkas_check.proofs.Farkas.{both_true}
use Rattle.farkas_check.proofs.Halves.{summed_half-is}
use Rattle.farkas_check.proofs.Sums.{ok_of, summed-is, zero_product, zero_times, plus_zero}

-- ---- what holds of each monomial, in print order or not

each-with_mono : (P : List Col → Type 0) (m : List Col) (ns : List (List Col)) → P m → AllByRecursion P ns → AllByRecursion P (with_mono m ns)
each-with_mono P m [] p h = (p, tt)
each-with_mono P m (n ∷ ns) p h = go (mono_cmp m n) (each-with_mono P m ns p h.1)
  where
    go : (o : Ordering) → AllByRecursion P (with_mono m ns) → AllByRecursion P (match_ordering o (m ∷ n ∷ ns) (n ∷ ns) (n ∷ with_mono m ns))
    go Less ih = (p, h)
    go Equal ih = h
    go Greater ih = (h.0, ih)

each_of-with_mono : (P : List Col → Type 0) (m : List Col) (ns : List (List Col)) → AllByRecursion P (with_mono m ns) → P m × AllByRecursion P ns
each_of-with_mono P m [] h = (h.0, tt)
each_of-with_mono P m (n ∷ ns) h = go (mono_cmp m n) refl (λ later. each_of-with_mono P m ns later) h
  where
    go : (o : Ordering) → mono_cmp m n ≡ o → (AllByRecursion P (with_mono m ns) → P m × AllByRecursion P ns)
        → AllByRecursion P (match_ordering o (m ∷ n ∷ ns) (n ∷ ns) (n ∷ with_mono m ns)) → P m × AllByRecursion P (n ∷ ns)
    go Less e ih each = (each.0, each.1)
    go Equal e ih each = (subst P (sym (mono_tie m n e)) each.0, each)
    go Greater e ih each = let rest = ih each.1 in (rest.0, (each.0, rest.1))

each-in_print_order : (P : List Col → Type 0) (ms : List (List Col)) → AllByRecursion P ms → AllByRecursion P (in_print_order ms)
each-in_print_order P [] h = tt
each-in_print_order P (m ∷ ms) h = each-with_mono P m (in_print_order ms) h.0 (each-in_print_order P ms h.1)

each_of-in_print_order : (P : List Col → Type 0) (ms : List (List Col)) → AllByRecursion P (in_print_order ms) → AllByRecursion P ms
each_of-in_print_order P [] h = tt
each_of-in_print_order P (m ∷ ms) h = let parts = each_of-with_mono P m (in_print_order ms) h in (parts.0, each_of-in_print_order P ms parts.1)

each_of-terms : (P : List Col → Type 0) (rows : List Row) (terms : Terms) → AllByRecursion P (monos_of rows terms) → AllByRecursion P (keys_of terms)
each_of-terms P [] terms h = h
each_of-terms P (row ∷ rows) terms h = each_of-terms P rows terms (each-back P (keys_of row.poly.terms) (monos_of rows terms) h)

each_of-multiplied : (P : List Col → Type 0) (rows : List Row) (by : List ℤ) (terms : Terms) → AllByRecursion P (monos_of rows terms) → AllByRecursion P (monos_of (multiplied_rows rows by) terms)
each_of-multiplied P [] by terms h = h
each_of-multiplied P (row ∷ rows) [] terms h = each_of-terms P (row ∷ rows) terms h
each_of-multiplied P (row ∷ rows) (m ∷ by) terms h =
    go (is_zero m) (each_of-multiplied P rows by terms (each-back P (keys_of row.poly.terms) (monos_of rows terms) h))
  where
    go : (zero : Bool) → AllByRecursion P (monos_of (multiplied_rows rows by) terms) → AllByRecursion P (monos_of (cond zero (multiplied_rows rows by) (row ∷ multiplied_rows rows by)) terms)
    go true others = others
    go false others =
        each-append P (keys_of row.poly.terms) (monos_of (multiplied_rows rows by) terms)
        (each-front P (keys_of row.poly.terms) (monos_of rows terms) h) others

-- ---- a column that none of them has

there_or_other : (P : List Col → Type 0) (c : List Col) (ms : List (List Col)) → AllByRecursion P ms → P c ⊎ AllByRecursion (λ m. eq_by_cmp mono_cmp m c ≡ false) ms
there_or_other P c [] h = inr tt
there_or_other P c (m ∷ ms) h = go (mono_cmp m c) refl (there_or_other P c ms h.1)
  where
    later : eq_by_cmp mono_cmp m c ≡ false → P c ⊎ AllByRecursion (λ m. eq_by_cmp mono_cmp m c ≡ false) ms → P c ⊎ AllByRecursion (λ m. eq_by_cmp mono_cmp m c ≡ false) (m ∷ ms)
    later e (inl p) = inl p
    later e (inr others) = inr (e, others)

    go : (o : Ordering) → mono_cmp m c ≡ o → P c ⊎ AllByRecursion (λ m. eq_by_cmp mono_cmp m c ≡ false) ms → P c ⊎ AllByRecursion (λ m. eq_by_cmp mono_cmp m c ≡ false) (m ∷ ms)
    go Less e ih = later (ap is_eq e) ih
    go Equal e ih = inl (subst P (mono_tie m c e) h.0)
    go Greater e ih = later (ap is_eq e) ih

no_coefficient : (c : List Col) (ts : Terms) → AllByRecursion (λ m. eq_by_cmp mono_cmp m c ≡ false) (keys_of ts) → coefficient_in ts c ≡ pos 0
no_coefficient c [] h = refl
no_coefficient c (t ∷ ts) h = ap (λ b. cond b t.1 (coefficient_in ts c)) h.0 ∙ no_coefficient c ts h.1

nothing_added : (c : List Col) (row : Row) (rows : List Row) (m : ℤ) (by : List ℤ) → product_of (number_at c row) m ≡ Ok (pos 0)
    → sum_from (number_at c) (pos 0) (row ∷ rows) (m ∷ by) ≡ sum_from (number_at c) (pos 0) rows by
nothing_added c row rows m by e =
    ap (λ r. r >>= λ part. sum_of (pos 0) part >>= λ next. sum_from (number_at c) next rows by) e
    ∙ ap (λ r. r >>= λ next. sum_from (number_at c) next rows by) (plus_zero (pos 0) refl)

no_sum : (c : List Col) (rows : List Row) (by : List ℤ) (terms : Terms) → AllByRecursion (λ m. eq_by_cmp mono_cmp m c ≡ false) (monos_of (multiplied_rows rows by) terms) → sum_from (number_at c) (pos 0) rows by ≡ Ok (pos 0)
no_sum c [] by terms h = refl
no_sum c (row ∷ rows) [] terms h = refl
no_sum c (row ∷ rows) (m ∷ by) terms h = go (is_zero m) refl h (λ others. no_sum c rows by terms others)
  where
    go : (zero : Bool) → is_zero m ≡ zero → AllByRecursion (λ m. eq_by_cmp mono_cmp m c ≡ false) (monos_of (cond zero (multiplied_rows rows by) (row ∷ multiplied_rows rows by)) terms)
        → (AllByRecursion (λ m. eq_by_cmp mono_cmp m c ≡ false) (monos_of (multiplied_rows rows by) terms) → sum_from (number_at c) (pos 0) rows by ≡ Ok (pos 0))
        → sum_from (number_at c) (pos 0) (row ∷ rows) (m ∷ by) ≡ Ok (pos 0)
    go true e each ih =
        nothing_added c row rows m by (ap (product_of (number_at c row)) ((Decides-int_eq m (pos 0)).0 e) ∙ zero_product (number_at c row)) ∙ ih each
    go false e each ih =
        let none : number_at c row ≡ pos 0 = no_coefficient c row.poly.terms (each-front (λ m. eq_by_cmp mono_cmp m c ≡ false) (keys_of row.poly.terms) (monos_of (multiplied_rows rows by) terms) each) in
        nothing_added c row rows m by (ap (λ n. product_of n m) none ∙ zero_times m)
        ∙ ih (each-back (λ m. eq_by_cmp mono_cmp m c ≡ false) (keys_of row.poly.terms) (monos_of (multiplied_rows rows by) terms) each)

-- ---- one column after another

module _ (rows : List Row) (terms : Terms) (by : List ℤ) (scale : ℤ) where
  -- whether the sum is the multiple at a column
  abbrev scaled_there : List Col → Result Bool Wide
  scaled_there c = sum_from (number_at c) (pos 0) rows by >>= λ left. product_of scale (coefficient_in terms c) >>= λ right. ok_of (int_eq left right)

  abbrev IsMade : List Col → Type 0
  IsMade c = (same : Bool) × (scaled_there c ≡ Ok same)

  abbrev IsSame : List Col → Type 0
  IsSame c = scaled_there c ≡ Ok true

  are_scaled-next : (before : Bool) (c : List Col) (cs : List (List Col)) → are_scaled before rows terms by scale (c ∷ cs) ≡ (scaled_there c >>= λ same. are_scaled (before && same) rows terms by scale cs)
  are_scaled-next before c cs = first (sum_from (number_at c) (pos 0) rows by)
    where
      second : (left : ℤ) (r : Result ℤ Wide) → (r >>= λ right. are_scaled (before && int_eq left right) rows terms by scale cs)
          ≡ ((r >>= λ right. ok_of (int_eq left right)) >>= λ same. are_scaled (before && same) rows terms by scale cs)
      second left (Ok right) = refl
      second left (Err w) = refl

      first : (r : Result ℤ Wide) → (r >>= λ left. product_of scale (coefficient_in terms c) >>= λ right. are_scaled (before && int_eq left right) rows terms by scale cs)
          ≡ ((r >>= λ left. product_of scale (coefficient_in terms c) >>= λ right. ok_of (int_eq left right)) >>= λ same. are_scaled (before && same) rows terms by scale cs)
      first (Ok left) = second left (product_of scale (coefficient_in terms c))
      first (Err w) = refl

  all_made : (cs : List (List Col)) (before b : Bool) → are_scaled before rows terms by scale cs ≡ Ok b → AllByRecursion IsMade cs
  all_made [] before b e = tt
  all_made (c ∷ cs) before b e =
      on_ok (scaled_there c) (λ same. are_scaled (before && same) rows terms by scale cs) b (sym (are_scaled-next before c cs) ∙ e)
      (λ same f g. ((same, f), all_made cs (before && same) b g))

  all_same : (cs : List (List Col)) (before : Bool) → are_scaled before rows terms by scale cs ≡ Ok true → (before ≡ true) × AllByRecursion IsSame cs
  all_same [] before e = ((cc), tt)
  all_same (c ∷ cs) before e =
      on_ok (scaled_there c) (λ same. are_scaled (before && same) rows terms by scale cs) true (sym (are_scaled-next before c cs) ∙ e)
      (λ same f g. (let rest = all_same cs (before && same) g in let both = both_true before same rest.0 in (both.0, (f ∙ ap ok_of both.1, rest.1))))

  some_value : (cs : List (List Col)) (before : Bool) → AllByRecursion IsMade cs → (b : Bool) × (are_scaled before rows terms by scale cs ≡ Ok b)
  some_value [] before h = (before, refl)
  some_value (c ∷ cs) before h =
      let rest = some_value cs (before && h.0.0) h.1 in
      (rest.0, are_scaled-next before c cs ∙ ap (λ r. r >>= λ same. are_scaled (before && same) rows terms by scale cs) h.0.1 ∙ rest.1)

  same_value : (cs : List (List Col)) → AllByRecursion IsSame cs → are_scaled true rows terms by scale cs ≡ Ok true
  same_value [] h = refl
  same_value (c ∷ cs) h = are_scaled-next true c cs ∙ ap (λ r. r >>= λ same. are_scaled same rows terms by scale cs) h.0 ∙ same_value cs h.1

  -- what holds at the columns of the rows whose multipliers are not 0 holds at each column
  each_column : (P : List Col → Type 0) → ((c : List Col) → IsSame c → P c) → AllByRecursion P (columns (multiplied_rows rows by) terms) → (c : List Col) → P c
  each_column P none each c = go (there_or_other P c (monos_of (multiplied_rows rows by) terms) (each_of-in_print_order P (monos_of (multiplied_rows rows by) terms) each))
    where
      go : P c ⊎ AllByRecursion (λ m. eq_by_cmp mono_cmp m c ≡ false) (monos_of (multiplied_rows rows by) terms) → P c
      go (inl p) = p
      go (inr others) =
          none c (
          ap (λ r. r >>= λ left. product_of scale (coefficient_in terms c) >>= λ right. ok_of (int_eq left right)) (no_sum c rows by terms others)
          ∙ ap (λ z. product_of scale z >>= λ right. ok_of (int_eq (pos 0) right)) (no_coefficient c terms (each_of-terms (λ m. eq_by_cmp mono_cmp m c ≡ false) (multiplied_rows rows by) terms others))
          ∙ ap (λ r. r >>= λ right. ok_of (int_eq (pos 0) right)) (zero_product scale)
          )

  -- over the columns of all rows comes the same
  over_all : (same : Bool) → are_scaled true rows terms by scale (columns (multiplied_rows rows by) terms) ≡ Ok same → are_scaled true rows terms by scale (columns rows terms) ≡ Ok same
  over_all true e =
      let own = (all_same (columns (multiplied_rows rows by) terms) true e).1 in
      same_value (columns rows terms) (each-any IsSame (each_column IsSame (λ c s. s) own) (columns rows terms))
  over_all false e =
      let own = all_made (columns (multiplied_rows rows by) terms) true false e in
      let made = some_value (columns rows terms) true (each-any IsMade (each_column IsMade (λ c s. (true, s)) own) (columns rows terms)) in
      go made.0 made.1
    where
      go : (b : Bool) → are_scaled true rows terms by scale (columns rows terms) ≡ Ok b → are_scaled true rows terms by scale (columns rows terms) ≡ Ok false
      go false f = f
      go true f =
          let each = each_of-in_print_order IsSame (monos_of rows terms) (all_same (columns rows terms) true f).1 in
          let own = same_value (columns (multiplied_rows rows by) terms) (each-in_print_order IsSame (monos_of (multiplied_rows rows by) terms) (each_of-multiplied IsSame rows by terms each)) in
          let clash : ok_of false ≡ ok_of true = sym e ∙ own in
          cc

  -- the sums are made there
  sums_made : (cs : List (List Col)) (before b : Bool) → are_scaled before rows terms by scale cs ≡ Ok b → (lefts : List ℤ) × (sums_at rows by cs ≡ Ok lefts)
  sums_made [] before b e = ([], refl)
  sums_made (c ∷ cs) before b e =
      on_ok (sum_from (number_at c) (pos 0) rows by) (λ left. product_of scale (coefficient_in terms c) >>= λ right. are_scaled (before && int_eq left right) rows terms by scale cs) b e
      (λ left f g. on_ok (product_of scale (coefficient_in terms c)) (λ right. are_scaled (before && int_eq left right) rows terms by scale cs) b g
      (λ right h k. (let rest = sums_made cs (before && int_eq left right) b k in (left ∷ rest.0, rw (f, rest.1) refl))))

-- the sum is the multiple where it is over the columns of its own rows, and the constants agree
pub with_constants-is : (goal : Goal) (cert : Cert) (same : Bool) → are_scaled true goal.rows goal.objective.terms cert.by cert.scale (columns (multiplied_rows goal.rows cert.by) goal.objective.terms) ≡ Ok same → with_constants goal cert same ≡ tested_sum goal cert
with_constants-is goal cert same e =
    let all = over_all goal.rows goal.objective.terms cert.by cert.scale same e in
    let sums = sums_made goal.rows goal.objective.terms cert.by cert.scale (goal_columns goal) true same all in
    sym (
    ap (λ r. sums_cancel true r >>= λ cancel. constant_sum goal.rows cert.by >>= λ left. are_scaled true goal.rows goal.objective.terms cert.by cert.scale (goal_columns goal) >>= λ known. scaled_less cert.scale goal.objective.rest cert.sum >>= λ right. ok_of (known && int_eq left right)) sums.1
    ∙ ap (λ r. constant_sum goal.rows cert.by >>= λ left. r >>= λ known. scaled_less cert.scale goal.objective.rest cert.sum >>= λ right. ok_of (known && int_eq left right)) all
    )
    ∙ summed-is goal cert

-- ---- ties

module _ (times : ℤ → Result ℤ Wide) (rows : List Row) (by ns : List ℤ) (ss : List Side) where
  record AreMade (cs : List (List Col)) : Type 0 where
    sums : (lefts : List ℤ) × (sums_at rows by cs ≡ Ok lefts)
    numbers : (owns : List ℤ) × (difference_numbers ns ss cs ≡ Ok owns)

  -- where the sums are compared, they are made, and so are the numbers of the difference
  both_made : (cs : List (List Col)) (before b : Bool) → are_multiples times before rows by ns ss cs ≡ Ok b → AreMade cs
  both_made [] before b e = record { sums = ([], refl); numbers = ([], refl) }
  both_made (c ∷ cs) before b e =
      on_ok (sum_from (number_at c) (pos 0) rows by) (λ left. with_sides (coefficient_at c) false (pos 0) ns ss >>= λ own. times own >>= λ right. are_multiples times (before && int_eq left right) rows by ns ss cs) b e
      (λ left f g. on_ok (with_sides (coefficient_at c) false (pos 0) ns ss) (λ own. times own >>= λ right. are_multiples times (before && int_eq left right) rows by ns ss cs) b g
      (λ own h k. on_ok (times own) (λ right. are_multiples times (before && int_eq left right) rows by ns ss cs) b k
      (λ right l m. (let rest = both_made cs (before && int_eq left right) b m in record {
        sums = (left ∷ rest.sums.0, rw (f, rest.sums.1) refl);
        numbers = (own ∷ rest.numbers.0, rw (h, rest.numbers.1) refl);
      }))))

pub with_half_constants-is : (times : ℤ → Result ℤ Wide) (cs : List (List Col)) (rows : List Row) (ns : List ℤ) (ss : List Side) (by : List ℤ) (same : Bool) → are_multiples times true rows by ns ss cs ≡ Ok same
    → with_half_constants times rows by ns ss same ≡ tested_multiple times cs rows (difference_form ns ss cs) by
with_half_constants-is times cs rows ns ss by same e =
    let made = both_made times rows by ns ss cs true same e in
    sym (
    ap (λ r. sums_cancel true r >>= λ sums. constant_sum rows by >>= λ left. sums_cancel true (difference_numbers ns ss cs) >>= λ numbers. with_sides rest_of true (pos 0) ns ss >>= λ own. are_multiples times true rows by ns ss cs >>= λ known. times own >>= λ right. ok_of (known && int_eq left right)) made.sums.1
    ∙ ap (λ r. constant_sum rows by >>= λ left. sums_cancel true r >>= λ numbers. with_sides rest_of true (pos 0) ns ss >>= λ own. are_multiples times true rows by ns ss cs >>= λ known. times own >>= λ right. ok_of (known && int_eq left right)) made.numbers.1
    ∙ ap (λ r. constant_sum rows by >>= λ left. with_sides rest_of true (pos 0) ns ss >>= λ own. r >>= λ known. times own >>= λ right. ok_of (known && int_eq left right)) e
    )
    ∙ summed_half-is times cs rows ns ss by
