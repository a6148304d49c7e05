-- The rows' own columns among those of a question, and what a supremum over them comes to there.
use Rattle.std.proofs.Common.{◌≡◌, ℕ, zero, suc, ◌+◌, Bool, true, false, cond, List, [], ◌∷◌, ◌++◌, length, get_or, refl, sym, ap, subst, ◌∙◌, arith, pos, ◌*ℤ◌, ◌<ℤ◌}
use Rattle.std.specs.List.{AllByRecursion}
use Rattle.std.specs.Map.{keys_of}
use Rattle.std.specs.Ordering.{eq_by_cmp, is_eq, match_ordering}
use Rattle.std.specs.declared.cmp.Ordering.{Ordering}
use Rattle.std.specs.declared.cmp.Ordering.TheVariants.{Less, Equal as Tie, Greater}
use Rattle.std.proofs.lemmas.Bool.{false≢true}
use Rattle.std.proofs.lemmas.List.{append_assoc, length-map}
use Rattle.linear_terms.specs.declared.col.Col.{Col}
use Rattle.linear_terms.specs.declared.row.Row.{Row}
use Rattle.linear_terms.specs.Mono.{mono_cmp}
use Rattle.linear_terms.specs.Polynomial.{Terms, Polynomial, coefficient_in}
use Rattle.farkas_check.specs.Columns.{with_mono, in_print_order, monos_of, columns}
use Rattle.farkas_check.specs.Ratios.{Fraction, whole}
use Rattle.farkas_check.specs.Tested.{goal_columns}
use Rattle.farkas_check.specs.declared.question.Goal.{Goal}
use Rattle.farkas_check.proofs.Spreads.{itself, same_mono, is_among, is_among-right, AreAmong, RowsAmong, rows_among, terms_among}
use Rattle.farkas_check.proofs.Walks.{IsBefore, IsOrdered, IsOrdered-columns}
use Rattle.linear_terms.specs.MonoOrder.{mono_cmp_total}
use Rattle.simplex.specs.Raise.{sign_of}
use Rattle.simplex.specs.Refusal.{IsSmallFrame}
use Rattle.simplex.specs.Suprema.{with_goal, frame_over, own_frame, goal_frame, IsSupremumOver}
use Rattle.simplex.specs.Wider.{widened_numbers, unit_ray, widened_supremum, AreColumnsOf}
use Rattle.simplex.specs.declared.supremum.Supremum.{Supremum}
use Rattle.simplex.specs.declared.supremum.Supremum.TheVariants as supremum
use Rattle.simplex.proofs.RowTableaux.{long}
use Rattle.simplex.proofs.WiderCases.{HasNothing, HasCorner, Part, done, keep, besides, not_eq, widened-besides, widened-keep, corner_put, open_put, ray_step, put_all, small_wider, found_wider, empty_wider, pivots_wider}

-- ---- monomials before others

pub before-among : (c m : List Col) (cs : List (List Col)) → IsBefore c cs → is_among m cs ≡ true → mono_cmp c m ≡ Less
before-among c m [] b h = absurd (false≢true h)
before-among c m (d ∷ cs) b h = go (eq_by_cmp mono_cmp m d) refl h (λ k. before-among c m cs b.1 k)
  where
    go : (o : Bool) → eq_by_cmp mono_cmp m d ≡ o → cond o true (is_among m cs) ≡ true → (is_among m cs ≡ true → mono_cmp c m ≡ Less) → mono_cmp c m ≡ Less
    go true e k ih = subst (λ x. mono_cmp c x ≡ Less) (sym (same_mono m d e)) b.0
    go false e k ih = ih k

pub before-trans : (c d : List Col) (ds : List (List Col)) → mono_cmp c d ≡ Less → IsBefore d ds → IsBefore c ds
before-trans c d [] h b = tt
before-trans c d (x ∷ ds) h b = (mono_cmp_total.trans c d x h b.0, before-trans c d ds h b.1)

-- what is before all of others is none of them
before-apart : (c : List Col) (ds : List (List Col)) → IsBefore c ds → is_among c ds ≡ false
before-apart c [] b = refl
before-apart c (d ∷ ds) b = ap (λ (o : Ordering). cond (is_eq o) true (is_among c ds)) b.0 ∙ before-apart c ds b.1

pub among-step : (m d : List Col) (ds : List (List Col)) → is_among m (d ∷ ds) ≡ true → eq_by_cmp mono_cmp m d ≡ false → is_among m ds ≡ true
among-step m d ds h e = sym (ap (λ (o : Bool). cond o true (is_among m ds)) e) ∙ h

pub among-rest : (m d : List Col) (ds : List (List Col)) → is_among m ds ≡ true → is_among m (d ∷ ds) ≡ true
among-rest m d ds h = is_among-right m (d ∷ []) ds h

-- ---- own columns are a part

part_of : (New : List Col → Type 0) (all ds cs : List (List Col)) → IsOrdered ds → IsOrdered cs → AreAmong ds cs → ((m : List Col) → is_among m all ≡ true → is_among m cs ≡ true → is_among m ds ≡ true) → ((m : List Col) → is_among m all ≡ false → New m) → Part New ds cs
part_of New all [] [] o p a f g = done
part_of New all (d ∷ ds) [] o p a f g = absurd (false≢true a.0)
part_of New all [] (c ∷ cs) o p a f g = besides c [] cs tt (g c (none (is_among c all) refl)) (part_of New all [] cs tt p.1 tt (λ m h k. f m h (among-rest m c cs k)) g)
  where
    none : (q : Bool) → is_among c all ≡ q → is_among c all ≡ false
    none false e = e
    none true e = absurd (false≢true (f c e (ap (λ (o : Bool). cond o true (is_among c cs)) (itself c))))
part_of New all (d ∷ ds) (c ∷ cs) o p a f g = go (eq_by_cmp mono_cmp d c) refl (part_of New all ds cs o.1 p.1) (part_of New all (d ∷ ds) cs o p.1)
  where
    go : (q : Bool) → eq_by_cmp mono_cmp d c ≡ q
        → (AreAmong ds cs → ((m : List Col) → is_among m all ≡ true → is_among m cs ≡ true → is_among m ds ≡ true) → ((m : List Col) → is_among m all ≡ false → New m) → Part New ds cs)
        → (AreAmong (d ∷ ds) cs → ((m : List Col) → is_among m all ≡ true → is_among m cs ≡ true → is_among m (d ∷ ds) ≡ true) → ((m : List Col) → is_among m all ≡ false → New m) → Part New (d ∷ ds) cs)
        → Part New (d ∷ ds) (c ∷ cs)
    go true e first later = subst (λ (x : List Col). Part New (d ∷ ds) (x ∷ cs)) (same_mono d c e) (keep d ds cs (first (shrunk ds o.0 a.1) left g))
      where
        -- what is behind d is behind c
        shrunk : (es : List (List Col)) → IsBefore d es → AreAmong es (c ∷ cs) → AreAmong es cs
        shrunk [] b h = tt
        shrunk (x ∷ es) b h = (among-step x c cs h.0 (subst (λ (y : List Col). eq_by_cmp mono_cmp x y ≡ false) (same_mono d c e) (not_eq d x b.0)), shrunk es b.1 h.1)

        left : (m : List Col) → is_among m all ≡ true → is_among m cs ≡ true → is_among m ds ≡ true
        left m h k = among-step m d ds (f m h (among-rest m c cs k)) (subst (λ (y : List Col). eq_by_cmp mono_cmp m y ≡ false) (sym (same_mono d c e)) (not_eq c m (before-among c m cs p.0 k)))
    go false e first later = besides c (d ∷ ds) cs all_before (g c (apart (is_among c all) refl)) (later (among-step d c cs a.0 e, shrunk ds all_before.1 a.1) (λ m h k. f m h (among-rest m c cs k)) g)
      where
        all_before : IsBefore c (d ∷ ds)
        all_before = let less : mono_cmp c d ≡ Less = before-among c d cs p.0 (among-step d c cs a.0 e) in (less, before-trans c d ds less o.0)

        shrunk : (es : List (List Col)) → IsBefore c es → AreAmong es (c ∷ cs) → AreAmong es cs
        shrunk [] b h = tt
        shrunk (x ∷ es) b h = (among-step x c cs h.0 (not_eq c x b.0), shrunk es b.1 h.1)

        apart : (q : Bool) → is_among c all ≡ q → is_among c all ≡ false
        apart false h = h
        apart true h = absurd (false≢true (sym (before-apart c (d ∷ ds) all_before) ∙ f c h (ap (λ (q : Bool). cond q true (is_among c cs)) (itself c))))

-- ---- the monomials that rows do not have

nothing-outside : (ts : Terms) (all : List (List Col)) (m : List Col) → AreAmong (keys_of ts) all → is_among m all ≡ false → coefficient_in ts m ≡ pos 0
nothing-outside [] all m a h = refl
nothing-outside (t ∷ ts) all m a h = go (eq_by_cmp mono_cmp t.0 m) refl (nothing-outside ts all m a.1 h)
  where
    go : (q : Bool) → eq_by_cmp mono_cmp t.0 m ≡ q → coefficient_in ts m ≡ pos 0 → cond q t.1 (coefficient_in ts m) ≡ pos 0
    go true e ih = absurd (false≢true (sym h ∙ ap (λ (x : List Col). is_among x all) (sym (same_mono t.0 m e)) ∙ a.0))
    go false e ih = ih

rows-outside : (rows : List Row) (all : List (List Col)) (m : List Col) → RowsAmong rows all → is_among m all ≡ false → HasNothing rows m
rows-outside [] all m a h = tt
rows-outside (row ∷ rows) all m a h = (nothing-outside row.poly.terms all m a.0 h, rows-outside rows all m a.1 h)

with_goal-among : (rows : List Row) (p : Polynomial) (all : List (List Col)) → RowsAmong rows all → AreAmong (keys_of p.terms) all → RowsAmong (with_goal rows p) all
with_goal-among [] p all a b = (b, tt)
with_goal-among (row ∷ rows) p all a b = (a.0, with_goal-among rows p all a.1 b)

-- each of the rows' own columns is a column of the question
with_mono-among : (m : List Col) (ns cs : List (List Col)) → is_among m cs ≡ true → AreAmong ns cs → AreAmong (with_mono m ns) cs
with_mono-among m [] cs h a = (h, tt)
with_mono-among m (n ∷ ns) cs h a = go (mono_cmp m n) (with_mono-among m ns cs h a.1)
  where
    go : (o : Ordering) → AreAmong (with_mono m ns) cs → AreAmong (match_ordering o (m ∷ n ∷ ns) (n ∷ ns) (n ∷ with_mono m ns)) cs
    go Less ih = (h, a)
    go Tie ih = a
    go Greater ih = (a.0, ih)

pub in_order-among : (ms cs : List (List Col)) → AreAmong ms cs → AreAmong (in_print_order ms) cs
in_order-among [] cs a = tt
in_order-among (m ∷ ms) cs a = with_mono-among m (in_print_order ms) cs a.0 (in_order-among ms cs a.1)

both-among : (ms ns cs : List (List Col)) → AreAmong ms cs → AreAmong ns cs → AreAmong (ms ++ ns) cs
both-among [] ns cs a b = b
both-among (m ∷ ms) ns cs a b = (a.0, both-among ms ns cs a.1 b)

monos-among : (rows : List Row) (cs : List (List Col)) → RowsAmong rows cs → AreAmong (monos_of rows []) cs
monos-among [] cs a = tt
monos-among (row ∷ rows) cs a = both-among (keys_of row.poly.terms) (monos_of rows []) cs a.0 (monos-among rows cs a.1)

own_part : (rows : List Row) (p : Polynomial) (cs : List (List Col)) → AreColumnsOf cs rows p → Part (HasNothing rows) (columns rows []) cs
own_part rows p cs a =
    part_of (HasNothing rows) (columns rows []) (columns rows []) cs (IsOrdered-columns (monos_of rows [])) a.ordered (in_order-among (monos_of rows []) cs (monos-among rows cs a.own)) (λ m h k. h)
    (λ m h. rows-outside rows (columns rows []) m (rows_among rows []) h)

-- ---- what is found

pub small_over_own : (n : ℕ) (rows : List Row) (p : Polynomial) (cs : List (List Col)) → AreColumnsOf cs rows p → IsSmallFrame n (frame_over cs rows p) (length rows + 1) → IsSmallFrame n (own_frame rows p) (length rows + 1)
small_over_own n rows p cs a small = small_wider (HasNothing rows) rows p n (columns rows []) cs (own_part rows p cs a) small

pub columns_of_case : (rows : List Row) (p : Polynomial) → AreColumnsOf (columns rows p.terms) rows p
columns_of_case rows p = record { ordered = IsOrdered-columns (monos_of rows p.terms); own = rows_among rows p.terms; objective = terms_among rows p.terms }

pub small_goal : (n : ℕ) (goal : Goal) → IsSmallFrame n (goal_frame goal) (length goal.rows + 1) → IsSmallFrame n (own_frame goal.rows goal.objective) (length goal.rows + 1)
small_goal n goal small = small_over_own n goal.rows goal.objective (goal_columns goal) (columns_of_case goal.rows goal.objective) small

pub empty_over : (rows : List Row) (p : Polynomial) (budget : ℕ) (cs : List (List Col)) → AreColumnsOf cs rows p → IsSupremumOver (columns rows []) rows p budget supremum.Empty → IsSupremumOver cs rows p budget supremum.Empty
empty_over rows p budget cs a h = empty_wider rows p budget (columns rows []) cs (own_part rows p cs a) h

pub pivots_over : (rows : List Row) (p : Polynomial) (budget : ℕ) (cs : List (List Col)) → AreColumnsOf cs rows p → IsSupremumOver (columns rows []) rows p budget supremum.Pivots → IsSupremumOver cs rows p budget supremum.Pivots
pivots_over rows p budget cs a h = pivots_wider rows p budget (columns rows []) cs (own_part rows p cs a) h

pub found_over : (rows : List Row) (p : Polynomial) (budget : ℕ) (cs : List (List Col)) (found : Supremum) → AreColumnsOf cs rows p → AreAmong (keys_of p.terms) (columns rows []) → IsSupremumOver (columns rows []) rows p budget found → IsSupremumOver cs rows p budget (widened_supremum (columns rows []) cs found)
found_over rows p budget cs found a b h =
    found_wider rows p budget (columns rows []) cs found
    (part_of (HasNothing (with_goal rows p)) (columns rows []) (columns rows []) cs (IsOrdered-columns (monos_of rows [])) a.ordered (in_order-among (monos_of rows []) cs (monos-among rows cs a.own)) (λ m h k. h)
    (λ m h. rows-outside (with_goal rows p) (columns rows []) m (with_goal-among rows p (columns rows []) (rows_among rows []) b) h)) h

-- ---- an objective that grows along a monomial that no row has

abbrev ray_at : List Col → Bool → List Col → Fraction
ray_at mono up c = cond (eq_by_cmp mono_cmp mono c) (whole (sign_of up)) (whole (pos 0))

-- none of the columns is the monomial
abbrev IsNone : List Col → List (List Col) → Type 0
IsNone mono cs = AllByRecursion (λ (c : List Col). eq_by_cmp mono_cmp mono c ≡ false) cs

zeros-at : (mono : List Col) (up : Bool) (cs : List (List Col)) (j : ℕ) → IsNone mono cs → get_or (unit_ray mono up cs) j (whole (pos 0)) ≡ whole (pos 0)
zeros-at mono up [] j n = refl
zeros-at mono up (c ∷ cs) zero n = ap (λ (q : Bool). cond q (whole (sign_of up)) (whole (pos 0))) n.0
zeros-at mono up (c ∷ cs) (suc j) n = zeros-at mono up cs j n.1

none-append : (mono : List Col) (cs ds : List (List Col)) → IsNone mono cs → IsNone mono ds → IsNone mono (cs ++ ds)
none-append mono [] ds a b = b
none-append mono (c ∷ cs) ds a b = (a.0, none-append mono cs ds a.1 b)

ray-append : (mono : List Col) (up : Bool) (cs ds : List (List Col)) → unit_ray mono up (cs ++ ds) ≡ unit_ray mono up cs ++ unit_ray mono up ds
ray-append mono up [] ds = refl
ray-append mono up (c ∷ cs) ds = ap (λ zs. ray_at mono up c ∷ zs) (ray-append mono up cs ds)

ray-long : (mono : List Col) (up : Bool) (cs : List (List Col)) → length (unit_ray mono up cs) ≡ length cs
ray-long mono up cs = length-map cs (λ (c : List Col). ray_at mono up c)

before-none : (c : List Col) (cs : List (List Col)) → IsBefore c cs → IsNone c cs
before-none c [] b = tt
before-none c (d ∷ cs) b = (ap is_eq b.0, before-none c cs b.1)

apart-none : (mono : List Col) (ds : List (List Col)) → is_among mono ds ≡ false → IsNone mono ds
apart-none mono [] h = tt
apart-none mono (d ∷ ds) h = go (eq_by_cmp mono_cmp mono d) refl h (apart-none mono ds)
  where
    go : (q : Bool) → eq_by_cmp mono_cmp mono d ≡ q → cond q true (is_among mono ds) ≡ false → (is_among mono ds ≡ false → IsNone mono ds) → IsNone mono (d ∷ ds)
    go true e k ih = absurd (false≢true (sym k))
    go false e k ih = (e, ih k)

-- 0 everywhere, over more columns
zeros-wider : (New : List Col → Type 0) (mono : List Col) (up : Bool) (ds cs : List (List Col)) → Part New ds cs → IsNone mono cs → widened_numbers ds cs (unit_ray mono up ds) ≡ unit_ray mono up cs
zeros-wider New mono up _ _ done n = refl
zeros-wider New mono up _ _ (keep c ds cs q) n = widened-keep c ds cs (ray_at mono up c) (unit_ray mono up ds) ∙ ap (λ zs. ray_at mono up c ∷ zs) (zeros-wider New mono up ds cs q n.1)
zeros-wider New mono up _ _ (besides c ds cs b m q) n =
    widened-besides c ds cs (unit_ray mono up ds) b
    ∙ ap (λ zs. whole (pos 0) ∷ zs) (zeros-wider New mono up ds cs q n.1)
    ∙ ap (λ (o : Bool). cond o (whole (sign_of up)) (whole (pos 0)) ∷ unit_ray mono up cs) (sym n.0)

module _ (rows : List Row) (p : Polynomial) (budget : ℕ) (mono : List Col) (up : Bool) (grows : pos 0 <ℤ (sign_of up *ℤ coefficient_in p.terms mono)) where
  abbrev Ends : List (List Col) → List Fraction → List Fraction → Type 0
  Ends cs xs us = IsSupremumOver cs rows p budget (supremum.Unbounded xs us)

  longer : (xs : List Fraction) (front : List (List Col)) (x : Fraction) (c : List Col) → length xs ≡ length front → length (xs ++ x ∷ []) ≡ length (front ++ c ∷ [])
  longer xs front x c e = let a = long xs (x ∷ []) in let b = long front (c ∷ []) in omega (arith, a, b, e)

  -- the front with one more
  more_front : (front ds : List (List Col)) (c : List Col) (xs ys : List Fraction) (x : Fraction) → HasCorner (front ++ c ∷ ds) rows p (xs ++ x ∷ ys) → HasCorner ((front ++ c ∷ []) ++ ds) rows p ((xs ++ x ∷ []) ++ ys)
  more_front front ds c xs ys x h =
      subst (λ (zs : List Fraction). HasCorner ((front ++ c ∷ []) ++ ds) rows p zs) (sym (append_assoc xs (x ∷ []) ys))
      (subst (λ (es : List (List Col)). HasCorner es rows p (xs ++ x ∷ ys)) (sym (append_assoc front (c ∷ []) ds)) h)

  less_front : (front cs : List (List Col)) (c : List Col) (xs ys us : List Fraction) (x : Fraction) → Ends ((front ++ c ∷ []) ++ cs) ((xs ++ x ∷ []) ++ ys) (unit_ray mono up ((front ++ c ∷ []) ++ cs)) → Ends (front ++ c ∷ cs) (xs ++ x ∷ ys) (unit_ray mono up (front ++ c ∷ cs))
  less_front front cs c xs ys us x h =
      subst (λ (zs : List Fraction). Ends (front ++ c ∷ cs) zs (unit_ray mono up (front ++ c ∷ cs))) (append_assoc xs (x ∷ []) ys)
      (subst (λ (es : List (List Col)). Ends es ((xs ++ x ∷ []) ++ ys) (unit_ray mono up es)) (append_assoc front (c ∷ []) cs) h)

  -- at the monomial's own column the ray opens, and then the other columns are put in
  opened : (front ds cs : List (List Col)) (c : List Col) (xs ys : List Fraction) → mono ≡ c → IsBefore c ds → IsBefore c cs → HasNothing rows c → Part (HasNothing rows) ds cs → length xs ≡ length front → length ys ≡ length ds → IsNone mono front → IsNone mono ds → HasCorner (front ++ ds) rows p (xs ++ ys)
      → Ends (front ++ c ∷ cs) (xs ++ whole (pos 0) ∷ widened_numbers ds cs ys) (unit_ray mono up (front ++ c ∷ cs))
  opened front ds cs c xs ys same b later n q e f at_front at_own h =
      subst (λ (us : List Fraction). Ends (front ++ c ∷ cs) (xs ++ whole (pos 0) ∷ widened_numbers ds cs ys) us) rays
      (subst (λ (us : List Fraction). Ends (front ++ c ∷ cs) (xs ++ whole (pos 0) ∷ widened_numbers ds cs ys) us) (append_assoc (unit_ray mono up front) (whole (sign_of up) ∷ []) (widened_numbers ds cs (unit_ray mono up ds)))
      (subst (λ (zs : List Fraction). Ends (front ++ c ∷ cs) zs ((unit_ray mono up front ++ whole (sign_of up) ∷ []) ++ widened_numbers ds cs (unit_ray mono up ds))) (append_assoc xs (whole (pos 0) ∷ []) (widened_numbers ds cs ys))
      (subst (λ (es : List (List Col)). Ends es ((xs ++ whole (pos 0) ∷ []) ++ widened_numbers ds cs ys) ((unit_ray mono up front ++ whole (sign_of up) ∷ []) ++ widened_numbers ds cs (unit_ray mono up ds))) (append_assoc front (c ∷ []) cs)
      (put_all (HasNothing rows) Ends (λ front later c xs ys us vs n e f k. ray_step rows p budget front later c xs ys us vs n e f k)
      (front ++ c ∷ []) ds cs (xs ++ whole (pos 0) ∷ []) ys (unit_ray mono up front ++ whole (sign_of up) ∷ []) (unit_ray mono up ds) q (longer xs front (whole (pos 0)) c e) (longer (unit_ray mono up front) front (whole (sign_of up)) c (ray-long mono up front)) f (ray-long mono up ds) begins))))
    where
      begins : Ends ((front ++ c ∷ []) ++ ds) ((xs ++ whole (pos 0) ∷ []) ++ ys) ((unit_ray mono up front ++ whole (sign_of up) ∷ []) ++ unit_ray mono up ds)
      begins =
          subst (λ (es : List (List Col)). Ends es ((xs ++ whole (pos 0) ∷ []) ++ ys) ((unit_ray mono up front ++ whole (sign_of up) ∷ []) ++ unit_ray mono up ds)) (sym (append_assoc front (c ∷ []) ds))
          (subst (λ (zs : List Fraction). Ends (front ++ c ∷ ds) zs ((unit_ray mono up front ++ whole (sign_of up) ∷ []) ++ unit_ray mono up ds)) (sym (append_assoc xs (whole (pos 0) ∷ []) ys))
          (subst (λ (us : List Fraction). Ends (front ++ c ∷ ds) (xs ++ whole (pos 0) ∷ ys) us) (sym (append_assoc (unit_ray mono up front) (whole (sign_of up) ∷ []) (unit_ray mono up ds)))
          (open_put rows p budget front ds c up xs ys (unit_ray mono up front) (unit_ray mono up ds) n e (ray-long mono up front) (ap length (sym (ray-append mono up front ds)) ∙ ray-long mono up (front ++ ds))
          (λ j k. ap (λ zs. get_or zs j (whole (pos 0))) (sym (ray-append mono up front ds)) ∙ zeros-at mono up (front ++ ds) j (none-append mono front ds at_front at_own))
          (subst (λ (m : List Col). pos 0 <ℤ (sign_of up *ℤ coefficient_in p.terms m)) same grows) h)))

      rays : unit_ray mono up front ++ whole (sign_of up) ∷ widened_numbers ds cs (unit_ray mono up ds) ≡ unit_ray mono up (front ++ c ∷ cs)
      rays =
          ap (λ zs. unit_ray mono up front ++ whole (sign_of up) ∷ zs) (zeros-wider (HasNothing rows) mono up ds cs q (subst (λ (m : List Col). IsNone m cs) (sym same) (before-none c cs later)))
          ∙ ap (λ (o : Bool). unit_ray mono up front ++ cond o (whole (sign_of up)) (whole (pos 0)) ∷ unit_ray mono up cs) (sym (ap (λ (m : List Col). eq_by_cmp mono_cmp mono m) (sym same) ∙ itself mono))
          ∙ sym (ray-append mono up front (c ∷ cs))

  opening : (front ds cs : List (List Col)) (xs ys : List Fraction) → Part (HasNothing rows) ds cs → IsOrdered cs → is_among mono cs ≡ true → length xs ≡ length front → length ys ≡ length ds → IsNone mono front → IsNone mono ds → HasCorner (front ++ ds) rows p (xs ++ ys)
      → Ends (front ++ cs) (xs ++ widened_numbers ds cs ys) (unit_ray mono up (front ++ cs))
  opening front _ _ xs ys done o m e f at_front at_own h = absurd (false≢true m)
  opening front _ _ xs [] (keep c ds cs q) o m e f at_front at_own h = absurd (omega (arith, f))
  opening front _ _ xs (y ∷ ys) (keep c ds cs q) o m e f at_front at_own h =
      subst (λ (zs : List Fraction). Ends (front ++ c ∷ cs) (xs ++ zs) (unit_ray mono up (front ++ c ∷ cs))) (sym (widened-keep c ds cs y ys))
      (less_front front cs c xs (widened_numbers ds cs ys) [] y
      (opening (front ++ c ∷ []) ds cs (xs ++ y ∷ []) ys q o.1 (among-step mono c cs m at_own.0) (longer xs front y c e) (omega (arith, f)) (none-append mono front (c ∷ []) at_front (at_own.0, tt)) at_own.1 (more_front front ds c xs ys y h)))
  opening front _ _ xs ys (besides c ds cs b n q) o m e f at_front at_own h =
      subst (λ (zs : List Fraction). Ends (front ++ c ∷ cs) (xs ++ zs) (unit_ray mono up (front ++ c ∷ cs))) (sym (widened-besides c ds cs ys b))
      (go (eq_by_cmp mono_cmp mono c) refl
      (λ k. opening (front ++ c ∷ []) ds cs (xs ++ whole (pos 0) ∷ []) ys q o.1 (among-step mono c cs m k) (longer xs front (whole (pos 0)) c e) f (none-append mono front (c ∷ []) at_front (k, tt)) at_own
      (more_front front ds c xs ys (whole (pos 0)) (corner_put rows p front ds c xs ys n e h))))
    where
      go : (t : Bool) → eq_by_cmp mono_cmp mono c ≡ t
          → (eq_by_cmp mono_cmp mono c ≡ false → Ends ((front ++ c ∷ []) ++ cs) ((xs ++ whole (pos 0) ∷ []) ++ widened_numbers ds cs ys) (unit_ray mono up ((front ++ c ∷ []) ++ cs)))
          → Ends (front ++ c ∷ cs) (xs ++ whole (pos 0) ∷ widened_numbers ds cs ys) (unit_ray mono up (front ++ c ∷ cs))
      go true k later = opened front ds cs c xs ys (same_mono mono c k) b o.0 n q e f at_front at_own h
      go false k later = less_front front cs c xs (widened_numbers ds cs ys) [] (whole (pos 0)) (later k)

  pub opened_over : (cs : List (List Col)) (point : List Fraction) → AreColumnsOf cs rows p → is_among mono cs ≡ true → is_among mono (columns rows []) ≡ false → HasCorner (columns rows []) rows p point
      → IsSupremumOver cs rows p budget (supremum.Unbounded (widened_numbers (columns rows []) cs point) (unit_ray mono up cs))
  opened_over cs point a m none h = opening [] (columns rows []) cs [] point (own_part rows p cs a) a.ordered m refl h.corner.each tt (apart-none mono (columns rows []) none) h
