-- Turns: a raise keeps what a search keeps, and each of its ends.
use Rattle.std.proofs.Common.{◌≡◌, ◌≢◌, ◌⊎◌, inl, inr, ℕ, ◌+◌, ◌<◌, ◌≤◌, Bool, true, false, List, ◌∷◌, length, refl, sym, ap, subst, ◌∙◌, arith, ⊎_elim, Ok, ℤ, pos, negsuc, ◌-ℤ◌, ◌*ℤ◌, ◌≤ℤ◌, ◌<ℤ◌}
use Rattle.std.specs.Prelude.{slice_set, neg_ℤ, cond}
use Rattle.std.proofs.lemmas.Int.{ints, by_lt_z}
use Rattle.std.proofs.lemmas.Bool.{cases_eq, cases_lt, eq-eqb, false≢true}
use Rattle.std.proofs.lemmas.List.{length-set}
use Rattle.std.proofs.Math.IntN.{*ℤ_comm, zero-*ℤ}
use Rattle.whole_numbers.proofs.Ring.{ring, ≤ℤ-*ℤ, *ℤ-≤ℤ, one-*ℤ}
use Rattle.linear_terms.specs.declared.row.Kind.{Kind}
use Rattle.linear_terms.specs.declared.row.Kind.TheVariants.{AtMost, Equal}
use Rattle.simplex.specs.declared.tableau.Tableau.{Tableau}
use Rattle.simplex.specs.Exchange.{numbers_of, choices_of, exchange}
use Rattle.simplex.specs.Frames.{IsCleared, lexical_view, IsLexPositive}
use Rattle.simplex.specs.History.{Raises, IsUnmet}
use Rattle.simplex.specs.Raise.{Framed, enters_at, leaves_at, keys_of, Begins, IsBest, IsOpen}
use Rattle.simplex.specs.Rows.{kind_at}
use Rattle.simplex.specs.Search.{IsFlat, IsFixed, IsUnit, IsFreeing, IsPlaced, IsKept, IsMet, IsRefuted, AreKept}
use Rattle.simplex.specs.Suprema.{IsTopped, IsOpened}
use Rattle.simplex.proofs.Beginnings.{Begins-at}
use Rattle.simplex.proofs.Eliminations.{Step, step, fixed-kept, set_same, set_other, not_before, choose_apart}
use Rattle.simplex.proofs.Zeros.{stays_zero_under}

-- ---- the beginning

pub placed : (over : Framed) (constants : ℕ) (kinds : List Kind) (enters : List Bool) (t : Tableau) → IsFreeing over constants kinds over.rows enters t → IsPlaced over constants kinds enters t
placed over constants kinds enters t f = record {
  marked = f.marked;
  out = λ l h k. f.later l h k;
  flat = λ i r h c. f.flat i h c (inr r);
  corner = λ i h e. absurd (false≢true (sym (f.none i h) ∙ e));
}

pub begins : (over : Framed) (constants : ℕ) (kinds : List Kind) (enters : List Bool) (t : Tableau) (i : ℕ) → IsPlaced over constants kinds enters t → i < length kinds → kind_at kinds i ≡ AtMost → enters_at enters (constants + 1 + i) ≡ false → Begins over enters constants (keys_of enters constants t) i t
begins over constants kinds enters t i p here kind waits =
    Begins-at over enters constants i t p.marked.sized.tableau p.marked.wide inside
    (ap (enters_at enters) (p.marked.waiting i inside kind waits_here) ∙ waits_here)
    (subst (λ (n : ℕ). constants < n) (sym p.marked.wide) (omega (arith, units_are)))
    (not_before over kinds (length t.lines) enters constants p.marked.entering (omega (arith, units_are))) p.corner
  where
    units_are : over.units ≡ constants + 1
    units_are = p.marked.sized.units

    inside : i < length t.lines
    inside = subst (λ (n : ℕ). i < n) p.marked.sized.many here

    waits_here : enters_at enters (over.units + i) ≡ false
    waits_here = ap (λ (u : ℕ). enters_at enters (u + i)) p.marked.sized.units ∙ waits

-- ---- a raise

differs : {P : Type 0} (k : Kind) → k ≡ AtMost → k ≡ Equal → P
differs AtMost e f = cc
differs Equal e f = cc

-- the unit column of an equation never enters
equation_out : (over : Framed) (kinds : List Kind) (count : ℕ) (enters : List Bool) (l : ℕ) → ((j : ℕ) → enters_at enters j ≡ true → IsUnit over kinds count j) → kind_at kinds l ≡ Equal → enters_at enters (over.units + l) ≡ false
equation_out over kinds count enters l entering k = go (enters_at enters (over.units + l)) refl
  where
    go : (b : Bool) → enters_at enters (over.units + l) ≡ b → enters_at enters (over.units + l) ≡ false
    go true e = let u = entering (over.units + l) e in let is : over.units + l ≡ over.units + u.row = u.is in let same : l ≡ u.row = omega (arith, is) in differs (kind_at kinds l) (ap (kind_at kinds) same ∙ u.kind) k
    go false e = e

-- a corner by the first key
first_key : (constants : ℕ) (w : ℕ → ℤ) (keys : List ℕ) → IsLexPositive (lexical_view constants w) (constants ∷ keys) → w constants ≤ℤ pos 0
first_key constants w keys (inl p) = let q : pos 0 <ℤ neg_ℤ (w constants) = subst (λ (b : Bool). pos 0 <ℤ cond b (neg_ℤ (w constants)) (w constants)) (eq-eqb constants constants refl) p in omega (arith, ints, q)
first_key constants w keys (inr p) = let q : neg_ℤ (w constants) ≡ pos 0 = subst (λ (b : Bool). cond b (neg_ℤ (w constants)) (w constants) ≡ pos 0) (eq-eqb constants constants refl) p.0 in omega (arith, ints, q)

pub raised-placed : (over : Framed) (constants : ℕ) (kinds : List Kind) (enters : List Bool) (goal : ℕ) (sign : ℤ) (t now : Tableau) (turns : ℕ) → IsPlaced over constants kinds enters t → Raises over enters constants (keys_of enters constants t) goal sign t now turns → IsPlaced over constants kinds enters now
raised-placed over constants kinds enters goal sign t now turns p r = record {
  marked = record {
    sized = record { tableau = r.tableau; units = p.marked.sized.units; many = p.marked.sized.many ∙ sym r.many; apart = apart; primitive = r.primitive p.marked.sized.primitive; inside = subst (λ (n : ℕ). over.rows ≤ n) (sym r.many) p.marked.sized.inside; goals = λ l h k. p.marked.sized.goals l h (in_t l k) };
    wide = p.marked.wide ∙ ap (λ (n : ℕ). over.units + n) (sym r.many);
    fixed = fixed;
    entering = λ j e. subst (λ (n : ℕ). IsUnit over kinds n j) (sym r.many) (p.marked.entering j e);
    waiting = λ l h k e. stays l (in_t l h) (ap (enters_at enters) (p.marked.waiting l (in_t l h) k e) ∙ e) ∙ p.marked.waiting l (in_t l h) k e;
  };
  out = λ l h k. p.out l h (in_t l k);
  flat = flat;
  corner = λ i h e. first_key constants (numbers_of now i) _ (r.raising.ahead i (in_t i h) (sym (r.same i (in_t i h)) ∙ e));
}
  where
    in_t : (l : ℕ) → l < length now.lines → l < length t.lines
    in_t l h = subst (λ (n : ℕ). l < n) r.many h

    stays : (l : ℕ) → l < length t.lines → leaves_at enters t l ≡ false → choices_of now l ≡ choices_of t l
    stays l h e = r.raising.stays l h e

    -- a column that may enter is a unit column
    above : (j : ℕ) → enters_at enters j ≡ true → over.units ≤ j
    above j e = let u = p.marked.entering j e in let is : j ≡ over.units + u.row = u.is in omega arith

    apart : (i : ℕ) → i < length now.lines → choices_of now i ≢ constants
    apart i h same = go (leaves_at enters t i) refl
      where
        go : (b : Bool) → leaves_at enters t i ≡ b → ⊥
        go true e = let a : over.units ≤ choices_of now i = above (choices_of now i) (r.same i (in_t i h) ∙ e) in let u : over.units ≡ constants + 1 = p.marked.sized.units in omega (arith, a, u, same)
        go false e = p.marked.sized.apart i (in_t i h) (sym (stays i (in_t i h) e) ∙ same)

    fixed : (i l : ℕ) → i < length now.lines → l < length now.lines → choices_of now i ≡ over.units + l → kind_at kinds l ≡ Equal → IsFixed over constants kinds now i
    fixed i l h g c k = with_fixed (p.marked.fixed i l (in_t i h) (in_t l g) (sym (stays i (in_t i h) out) ∙ c) k)
      where
        out : leaves_at enters t i ≡ false
        out = sym (r.same i (in_t i h)) ∙ ap (enters_at enters) c ∙ equation_out over kinds (length t.lines) enters l p.marked.entering k

        with_fixed : IsFixed over constants kinds t i → IsFixed over constants kinds now i
        with_fixed f = record {
          flat = λ j m. keep j (f.flat j m);
          corner = keep constants f.corner;
          apart = λ m n e. keep (over.units + m) (f.apart m (in_t m n) e);
        }
          where
            zero_in : (e : ℕ) → enters_at enters e ≡ true → numbers_of t i e ≡ pos 0
            zero_in e may = let u = p.marked.entering e may in ap (numbers_of t i) u.is ∙ f.apart u.row u.here u.kind

            keep : (j : ℕ) → numbers_of t i j ≡ pos 0 → numbers_of now i j ≡ pos 0
            keep j z = r.level i (in_t i h) out zero_in j z

    -- a line that may leave is that of a row
    row_of : (k : ℕ) → k < length t.lines → leaves_at enters t k ≡ true → k < over.rows
    row_of k h e = ⊎_elim (λ (a : k < over.rows). a) (λ (b : over.rows ≤ k). absurd (false≢true (sym (ap (enters_at enters) (p.marked.waiting k h (p.marked.sized.goals k b h) (p.out k b h)) ∙ p.out k b h) ∙ e))) (cases_lt k over.rows)

    flat : (i : ℕ) → i < over.rows → i < length now.lines → over.units ≤ choices_of now i → IsFlat constants now i
    flat i row h c j m = r.zeros j (λ k kh e. p.flat k (row_of k kh e) kh (above (choices_of t k) e) j m) i (in_t i h) (p.flat i row (in_t i h) (unit (leaves_at enters t i) refl) j m)
      where
        unit : (b : Bool) → leaves_at enters t i ≡ b → over.units ≤ choices_of t i
        unit true e = above (choices_of t i) e
        unit false e = subst (λ (n : ℕ). over.units ≤ n) (stays i (in_t i h) e) c

-- the goal's row still waits after its raise
pub still_waits : (over : Framed) (constants : ℕ) (kinds : List Kind) (enters : List Bool) (t : Tableau) (i : ℕ) → IsPlaced over constants kinds enters t → i < length t.lines → kind_at kinds i ≡ AtMost → enters_at enters (over.units + i) ≡ false → choices_of t i ≡ over.units + i
still_waits over constants kinds enters t i p h k e = p.marked.waiting i h k e

-- ---- a row that is met

kept_here : (over : Framed) (constants : ℕ) (kinds : List Kind) (enters : List Bool) (t : Tableau) (i : ℕ) → IsPlaced over constants kinds enters t → i < over.rows → i < length t.lines → kind_at kinds i ≡ AtMost → enters_at enters (over.units + i) ≡ false → numbers_of t i constants ≤ℤ pos 0 → IsKept over constants kinds i enters (slice_set enters (over.units + i) true) t
kept_here over constants kinds enters t i p row here kind waits met = record {
  placed = record {
    marked = record {
      sized = p.marked.sized;
      wide = length-set enters (over.units + i) true ∙ p.marked.wide;
      fixed = p.marked.fixed;
      entering = λ j h. ⊎_elim (λ (same : j ≡ over.units + i). record { row = i; here = here; is = same; kind = kind }) (λ other. p.marked.entering j (sym (set_other enters (over.units + i) j other) ∙ h)) (cases_eq j (over.units + i));
      waiting = λ l h k f. p.marked.waiting l h k (sym (set_other enters (over.units + i) (over.units + l) (λ same. not_own l f (omega (arith, same)))) ∙ f);
    };
    out = λ l h k. set_other enters (over.units + i) (over.units + l) (λ same. absurd (omega (arith, same, row, h))) ∙ p.out l h k;
    flat = p.flat;
    corner = λ l h e. ⊎_elim (λ (same : l ≡ i). subst (λ (k : ℕ). numbers_of t k constants ≤ℤ pos 0) (sym same) met)
        (λ other. p.corner l h (sym (set_other enters (over.units + i) (choices_of t l) (λ is. choose_apart over t l i p.marked.sized.tableau h here other (is ∙ sym own))) ∙ e)) (cases_eq l i);
  };
  own = λ k. set_same enters (over.units + i) long;
  others = λ j e. ⊎_elim (λ (same : j ≡ over.units + i). ap (enters_at (slice_set enters (over.units + i) true)) same ∙ set_same enters (over.units + i) long) (λ other. set_other enters (over.units + i) j other ∙ e) (cases_eq j (over.units + i));
}
  where
    own : choices_of t i ≡ over.units + i
    own = p.marked.waiting i here kind waits

    long : over.units + i < length enters
    long = subst (λ (n : ℕ). over.units + i < n) (sym p.marked.wide) (omega (arith, here))

    not_own : (l : ℕ) → enters_at (slice_set enters (over.units + i) true) (over.units + l) ≡ false → l ≡ i → ⊥
    not_own l f same = false≢true (sym f ∙ ap (λ (m : ℕ). enters_at (slice_set enters (over.units + i) true) (over.units + m)) same ∙ set_same enters (over.units + i) long)

-- ---- a row whose slack grows without end

-- an exchange of the goal's line at a column at which it grows without end: the corner is one of
-- the rows that are kept
not_above : (factor new p old q b : ℤ) → pos 0 <ℤ factor → factor *ℤ new ≡ p *ℤ old -ℤ q *ℤ b → pos 0 <ℤ p → old ≤ℤ pos 0 → q ≤ℤ pos 0 → b ≤ℤ pos 0 → new ≤ℤ pos 0
not_above factor new p old q b f e p_positive o n m =
    *ℤ-≤ℤ new (pos 0) factor f
    (chain (new *ℤ factor) (p *ℤ old) (q *ℤ b) (pos 0 *ℤ factor) (*ℤ_comm new factor ∙ e) (below (p *ℤ old) (old *ℤ p) (pos 0 *ℤ p) (*ℤ_comm p old) (zero-*ℤ p) (≤ℤ-*ℤ old (pos 0) p (weak p p_positive) o)) (product_of_two q b n m) (zero-*ℤ factor))
  where
    weak : (z : ℤ) → pos 0 <ℤ z → pos 0 ≤ℤ z
    weak z h = omega (arith, ints)

    below : (x y z : ℤ) → x ≡ y → z ≡ pos 0 → y ≤ℤ z → x ≤ℤ pos 0
    below x y z g h k = omega (arith, ints)

    chain : (x u v z : ℤ) → x ≡ u -ℤ v → u ≤ℤ pos 0 → pos 0 ≤ℤ v → z ≡ pos 0 → x ≤ℤ z
    chain x u v z g h k l = omega (arith, ints)

    -- two numbers that are not positive
    product_of_two : (x y : ℤ) → x ≤ℤ pos 0 → y ≤ℤ pos 0 → pos 0 ≤ℤ (x *ℤ y)
    product_of_two x y g h = last (neg_ℤ x *ℤ neg_ℤ y) (x *ℤ y) (pos 0 *ℤ neg_ℤ y) (both x y) (zero-*ℤ (neg_ℤ y)) (≤ℤ-*ℤ (pos 0) (neg_ℤ x) (neg_ℤ y) (omega (arith, ints, h)) (omega (arith, ints, g)))
      where
        both : (x y : ℤ) → neg_ℤ x *ℤ neg_ℤ y ≡ x *ℤ y
        both x y = simp ring (omega (arith, ints))

        last : (u v z : ℤ) → u ≡ v → z ≡ pos 0 → z ≤ℤ u → pos 0 ≤ℤ v
        last u v z a b c = omega (arith, ints)

-- where the sign turns a negative number, it turns a positive one too
turned_down : (sign a b c d : ℤ) → a <ℤ pos 0 → pos 0 <ℤ b → b ≡ sign *ℤ a → pos 0 <ℤ c → d ≡ sign *ℤ c → d ≤ℤ pos 0
turned_down sign a b c d n p e q f =
    by_lt_z (pos 0) sign
    (λ s. absurd (clash b (a *ℤ sign) (pos 0 *ℤ sign) p (e ∙ *ℤ_comm sign a) (zero-*ℤ sign) (≤ℤ-*ℤ a (pos 0) sign (weak sign s) (omega (arith, ints, n)))))
    (λ s. last d (sign *ℤ c) (pos 0 *ℤ c) f (zero-*ℤ c) (≤ℤ-*ℤ sign (pos 0) c (weak c q) s))
  where
    weak : (z : ℤ) → pos 0 <ℤ z → pos 0 ≤ℤ z
    weak z h = omega (arith, ints)

    clash : (x y z : ℤ) → pos 0 <ℤ x → x ≡ y → z ≡ pos 0 → y ≤ℤ z → ⊥
    clash x y z g h k l = omega (arith, ints)

    last : (x y z : ℤ) → x ≡ y → z ≡ pos 0 → y ≤ℤ z → x ≤ℤ pos 0
    last x y z g h k = omega (arith, ints)

kept_open : (over : Framed) (constants : ℕ) (kinds : List Kind) (enters : List Bool) (t next : Tableau) (i column : ℕ) → IsPlaced over constants kinds enters t → i < over.rows → i < length t.lines → kind_at kinds i ≡ AtMost → enters_at enters (over.units + i) ≡ false
    → pos 0 <ℤ numbers_of t i constants → IsOpen enters (pos 1) i column t → exchange t i column ≡ Ok next → IsKept over constants kinds i enters (slice_set enters (over.units + i) true) next
kept_open over constants kinds enters t next i column p row here kind waits unmet o e =
    with_step (step over constants kinds t next i column p.marked.sized here (subst (λ (n : ℕ). column < n) p.marked.wide o.0.within) (λ same. let is : column ≡ over.units + unit.row = unit.is in let u : over.units ≡ constants + 1 = p.marked.sized.units in absurd (omega (arith, same, is, u))) (λ z. not_zero (numbers_of t i column) down z) e)
  where
    down : numbers_of t i column <ℤ pos 0
    down = subst (λ (z : ℤ). z <ℤ pos 0) (one-*ℤ (numbers_of t i column)) o.0.better

    not_zero : (z : ℤ) → z <ℤ pos 0 → z ≡ pos 0 → ⊥
    not_zero z n q = omega (arith, ints)

    own : choices_of t i ≡ over.units + i
    own = p.marked.waiting i here kind waits

    long : over.units + i < length enters
    long = subst (λ (n : ℕ). over.units + i < n) (sym p.marked.wide) (omega (arith, here))

    unit : IsUnit over kinds (length t.lines) column
    unit = p.marked.entering column o.0.may

    with_step : Step over constants kinds t next i column → IsKept over constants kinds i enters (slice_set enters (over.units + i) true) next
    with_step x = record {
      placed = record {
        marked = record {
          sized = x.sized;
          wide = length-set enters (over.units + i) true ∙ p.marked.wide ∙ ap (λ (n : ℕ). over.units + n) (sym x.is.many);
          fixed = fixed;
          entering = λ j h. subst (λ (n : ℕ). IsUnit over kinds n j) (sym x.is.many) (⊎_elim (λ (same : j ≡ over.units + i). record { row = i; here = here; is = same; kind = kind }) (λ other. p.marked.entering j (sym (set_other enters (over.units + i) j other) ∙ h)) (cases_eq j (over.units + i)));
          waiting = λ l h k f. x.is.choices.elsewhere l (in_t l h) (not_own l f) ∙ p.marked.waiting l (in_t l h) k (sym (set_other enters (over.units + i) (over.units + l) (λ same. not_own l f (omega (arith, same)))) ∙ f);
        };
        out = λ l h k. set_other enters (over.units + i) (over.units + l) (λ same. absurd (omega (arith, same, row, h))) ∙ p.out l h (in_t l k);
        flat = flat;
        corner = corner;
      };
      own = λ k. set_same enters (over.units + i) long;
      others = λ j e. ⊎_elim (λ (same : j ≡ over.units + i). ap (enters_at (slice_set enters (over.units + i) true)) same ∙ set_same enters (over.units + i) long) (λ other. set_other enters (over.units + i) j other ∙ e) (cases_eq j (over.units + i));
    }
      where
        in_t : (l : ℕ) → l < length next.lines → l < length t.lines
        in_t l h = subst (λ (n : ℕ). l < n) x.is.many h

        not_own : (l : ℕ) → enters_at (slice_set enters (over.units + i) true) (over.units + l) ≡ false → l ≡ i → ⊥
        not_own l f same = false≢true (sym f ∙ ap (λ (m : ℕ). enters_at (slice_set enters (over.units + i) true) (over.units + m)) same ∙ set_same enters (over.units + i) long)

        fixed : (l m : ℕ) → l < length next.lines → m < length next.lines → choices_of next l ≡ over.units + m → kind_at kinds m ≡ Equal → IsFixed over constants kinds next l
        fixed l m h g c k = with_fixed (p.marked.fixed l m (in_t l h) (in_t m g) (sym (x.is.choices.elsewhere l (in_t l h) other) ∙ c) k)
          where
            other : l ≢ i
            other same = differs (kind_at kinds m) (ap (kind_at kinds) row_is ∙ unit.kind) k
              where
                row_is : m ≡ unit.row
                row_is = let a : over.units + m ≡ column = sym c ∙ ap (choices_of next) same ∙ x.is.choices.there in let b : column ≡ over.units + unit.row = unit.is in omega (arith, a, b)

            with_fixed : IsFixed over constants kinds t l → IsFixed over constants kinds next l
            with_fixed f = fixed-kept over constants kinds t next i column l x.is (in_t l h) other (ap (numbers_of t l) unit.is ∙ f.apart unit.row unit.here unit.kind) f

        flat : (l : ℕ) → l < over.rows → l < length next.lines → over.units ≤ choices_of next l → IsFlat constants next l
        flat l r h c j m = stays_zero_under (length t.lines) (numbers_of t) (numbers_of next) i column l j x.is.numbers (in_t l h) (goal_flat j m) (before (cases_eq l i))
          where
            goal_flat : IsFlat constants t i
            goal_flat = p.flat i row here (omega (arith, own))

            before : (l ≡ i) ⊎ (l ≢ i) → numbers_of t l j ≡ pos 0
            before (inl same) = ap (λ (k : ℕ). numbers_of t k j) same ∙ goal_flat j m
            before (inr other) = p.flat l r (in_t l h) (subst (λ (n : ℕ). over.units ≤ n) (x.is.choices.elsewhere l (in_t l h) other) c) j m

        constant_down : numbers_of next i constants ≤ℤ pos 0
        constant_down = turned_down x.is.numbers.sign (numbers_of t i column) (numbers_of next i column) (numbers_of t i constants) (numbers_of next i constants) down x.is.numbers.positive (x.is.numbers.upright column) unmet (x.is.numbers.upright constants)

        corner : (l : ℕ) → l < length next.lines → leaves_at (slice_set enters (over.units + i) true) next l ≡ true → numbers_of next l constants ≤ℤ pos 0
        corner l h may = ⊎_elim (λ (same : l ≡ i). subst (λ (k : ℕ). numbers_of next k constants ≤ℤ pos 0) (sym same) constant_down) elsewhere (cases_eq l i)
          where
            elsewhere : l ≢ i → numbers_of next l constants ≤ℤ pos 0
            elsewhere other = with_cleared (x.is.numbers.line_without l (in_t l h) other)
              where
                slack : leaves_at enters t l ≡ true
                slack = sym (set_other enters (over.units + i) (choices_of t l) (λ is. choose_apart over t l i p.marked.sized.tableau (in_t l h) here other (is ∙ sym own))) ∙ ap (enters_at (slice_set enters (over.units + i) true)) (sym (x.is.choices.elsewhere l (in_t l h) other)) ∙ may

                with_cleared : IsCleared (numbers_of t l) (numbers_of next i) (numbers_of next l) column → numbers_of next l constants ≤ℤ pos 0
                with_cleared s = not_above s.factor (numbers_of next l constants) (numbers_of next i column) (numbers_of t l constants) (numbers_of t l column) (numbers_of next i constants) s.positive (s.is constants) x.is.numbers.positive (p.corner l (in_t l h) slack) (o.1 l (in_t l h) slack) constant_down

-- ---- with the columns as the code counts them

in_units : (over : Framed) (constants : ℕ) (kinds : List Kind) (i : ℕ) (enters : List Bool) (t : Tableau) → over.units ≡ constants + 1 → IsKept over constants kinds i enters (slice_set enters (over.units + i) true) t → IsKept over constants kinds i enters (slice_set enters (constants + 1 + i) true) t
in_units over constants kinds i enters t u k = subst (λ (n : ℕ). IsKept over constants kinds i enters (slice_set enters (n + i) true) t) u k

waits_there : (over : Framed) (constants i : ℕ) (enters : List Bool) → over.units ≡ constants + 1 → enters_at enters (constants + 1 + i) ≡ false → enters_at enters (over.units + i) ≡ false
waits_there over constants i enters u e = ap (λ (n : ℕ). enters_at enters (n + i)) u ∙ e

pub kept-met : (over : Framed) (constants : ℕ) (kinds : List Kind) (enters : List Bool) (sign : ℤ) (t now : Tableau) (i turns : ℕ) → IsPlaced over constants kinds enters t → Raises over enters constants (keys_of enters constants t) i sign t now turns → i < over.rows → i < length kinds → kind_at kinds i ≡ AtMost → enters_at enters (constants + 1 + i) ≡ false
    → numbers_of now i constants ≤ℤ pos 0 → IsKept over constants kinds i enters (slice_set enters (constants + 1 + i) true) now
kept-met over constants kinds enters sign t now i turns p r row here kind waits met =
    in_units over constants kinds i enters now p.marked.sized.units
    (kept_here over constants kinds enters now i (raised-placed over constants kinds enters i sign t now turns p r) row (subst (λ (n : ℕ). i < n) (p.marked.sized.many ∙ sym r.many) here) kind (waits_there over constants i enters p.marked.sized.units waits) met)

pub kept-open : (over : Framed) (constants : ℕ) (kinds : List Kind) (enters : List Bool) (t now next : Tableau) (i column turns : ℕ) → IsPlaced over constants kinds enters t → Raises over enters constants (keys_of enters constants t) i (pos 1) t now turns → i < over.rows → i < length kinds → kind_at kinds i ≡ AtMost → enters_at enters (constants + 1 + i) ≡ false
    → IsUnmet true constants i now → IsOpen enters (pos 1) i column now → exchange now i column ≡ Ok next → IsKept over constants kinds i enters (slice_set enters (constants + 1 + i) true) next
kept-open over constants kinds enters t now next i column turns p r row here kind waits unmet o e =
    in_units over constants kinds i enters next p.marked.sized.units
    (kept_open over constants kinds enters now next i column (raised-placed over constants kinds enters i (pos 1) t now turns p r) row (subst (λ (n : ℕ). i < n) (p.marked.sized.many ∙ sym r.many) here) kind (waits_there over constants i enters p.marked.sized.units waits) (unmet refl) o e)

-- ---- a row that can't be met

pub refuted-best : (over : Framed) (constants : ℕ) (kinds : List Kind) (enters : List Bool) (t now : Tableau) (i turns : ℕ) → IsPlaced over constants kinds enters t → Raises over enters constants (keys_of enters constants t) i (pos 1) t now turns → i < over.rows → i < length kinds → kind_at kinds i ≡ AtMost → enters_at enters (constants + 1 + i) ≡ false
    → IsUnmet true constants i now → IsBest enters (pos 1) i now → IsRefuted over constants kinds now i
refuted-best over constants kinds enters t now i turns begin r row here kind waits unmet best = with_placed (raised-placed over constants kinds enters i (pos 1) t now turns begin r)
  where
    with_placed : IsPlaced over constants kinds enters now → IsRefuted over constants kinds now i
    with_placed p = record {
      sized = p.marked.sized;
      here = inside;
      flat = p.flat i row inside (omega (arith, own));
      some = not_zero (numbers_of now i constants) (unmet refl);
      goals = λ l h k. goals l h k;
      signs = inr (unmet refl, signs);
    }
      where
        not_zero : (z : ℤ) → pos 0 <ℤ z → z ≡ pos 0 → ⊥
        not_zero z n q = omega (arith, ints)

        inside : i < length now.lines
        inside = subst (λ (n : ℕ). i < n) p.marked.sized.many here

        own : choices_of now i ≡ over.units + i
        own = p.marked.waiting i inside kind (waits_there over constants i enters p.marked.sized.units waits)

        goals : (l : ℕ) → over.rows ≤ l → l < length now.lines → numbers_of now i (over.units + l) ≡ pos 0
        goals l h k = ap (numbers_of now i) (sym (p.marked.waiting l k (p.marked.sized.goals l h k) (p.out l h k))) ∙ p.marked.sized.tableau.is.others i l inside k (λ same. absurd (omega (arith, h, row, same)))

        signs : (m : ℕ) → m < length now.lines → kind_at kinds m ≡ AtMost → pos 0 ≤ℤ numbers_of now i (over.units + m)
        signs m h k = go (enters_at enters (over.units + m)) refl
          where
            positive : (z : ℤ) → pos 0 <ℤ z → pos 0 ≤ℤ z
            positive z q = omega (arith, ints)

            zero_too : (z : ℤ) → z ≡ pos 0 → pos 0 ≤ℤ z
            zero_too z q = omega (arith, ints)

            go : (b : Bool) → enters_at enters (over.units + m) ≡ b → pos 0 ≤ℤ numbers_of now i (over.units + m)
            go true e = subst (λ (z : ℤ). pos 0 ≤ℤ z) (one-*ℤ (numbers_of now i (over.units + m))) (best (over.units + m) (subst (λ (n : ℕ). over.units + m < n) (sym p.marked.wide) (omega (arith, h))) e)
            go false e = let chosen : choices_of now m ≡ over.units + m = p.marked.waiting m h k e in
                ⊎_elim (λ (same : i ≡ m). positive (numbers_of now i (over.units + m)) (subst (λ (j : ℕ). pos 0 <ℤ numbers_of now i j) (ap (choices_of now) same ∙ chosen) (p.marked.sized.tableau.is.own i inside)))
                (λ other. zero_too (numbers_of now i (over.units + m)) (ap (numbers_of now i) (sym chosen) ∙ p.marked.sized.tableau.is.others i m inside h other)) (cases_eq i m)

-- ---- all rows

pub kept-already : (over : Framed) (constants : ℕ) (kinds : List Kind) (enters : List Bool) (t : Tableau) (i : ℕ) → IsPlaced over constants kinds enters t → (kind_at kinds i ≡ AtMost → enters_at enters (constants + 1 + i) ≡ true) → IsKept over constants kinds i enters enters t
kept-already over constants kinds enters t i p e = record { placed = p; own = λ k. ap (λ (u : ℕ). enters_at enters (u + i)) p.marked.sized.units ∙ e k; others = λ j may. may }

pub all-kept : (over : Framed) (constants : ℕ) (kinds : List Kind) (before enters : List Bool) (t : Tableau) (i : ℕ) → AreKept over kinds i before → IsKept over constants kinds i before enters t → AreKept over kinds (i + 1) enters
all-kept over constants kinds before enters t i a k l h kind = ⊎_elim (λ (same : l ≡ i). ap (λ (m : ℕ). enters_at enters (over.units + m)) same ∙ k.own (sym (ap (kind_at kinds) same) ∙ kind)) (λ other. k.others (over.units + l) (a l (omega (arith, h, other)) kind)) (cases_eq l i)

-- ---- the raise of a goal

-- a goal's line that is 0 at all columns of the question stays so
pub flat_raised : (over : Framed) (constants : ℕ) (kinds : List Kind) (enters : List Bool) (goal : ℕ) (sign : ℤ) (t now : Tableau) (turns : ℕ) → IsPlaced over constants kinds enters t → Raises over enters constants (keys_of enters constants t) goal sign t now turns → goal < length t.lines → IsFlat constants t goal → IsFlat constants now goal
flat_raised over constants kinds enters goal sign t now turns p r here f j m = r.zeros j (λ k kh e. p.flat k (row_of k kh e) kh (above (choices_of t k) e) j m) goal here (f j m)
  where
    above : (j : ℕ) → enters_at enters j ≡ true → over.units ≤ j
    above j e = let u = p.marked.entering j e in let is : j ≡ over.units + u.row = u.is in omega arith

    row_of : (k : ℕ) → k < length t.lines → leaves_at enters t k ≡ true → k < over.rows
    row_of k h e = ⊎_elim (λ (a : k < over.rows). a) (λ (b : over.rows ≤ k). absurd (false≢true (sym (ap (enters_at enters) (p.marked.waiting k h (p.marked.sized.goals k b h) (p.out k b h)) ∙ p.out k b h) ∙ e))) (cases_lt k over.rows)

pub met_raised : (over : Framed) (constants : ℕ) (kinds : List Kind) (enters : List Bool) (goal : ℕ) (sign : ℤ) (t now : Tableau) (turns : ℕ) → IsMet over constants kinds enters t → Raises over enters constants (keys_of enters constants t) goal sign t now turns → IsMet over constants kinds enters now
met_raised over constants kinds enters goal sign t now turns k r = record { placed = raised-placed over constants kinds enters goal sign t now turns k.placed r; kept = k.kept }

-- how the raise of an objective's slack downwards ended
pub topped : (over : Framed) (constants : ℕ) (kinds : List Kind) (enters : List Bool) (budget : ℕ) (t now : Tableau) (turns : ℕ) → IsMet over constants kinds enters t → Raises over enters constants (keys_of enters constants t) over.rows (negsuc 0) t now turns → over.rows < length t.lines → IsFlat constants t over.rows → IsBest enters (negsuc 0) over.rows now → IsTopped over constants kinds enters now
topped over constants kinds enters budget t now turns k r here f b = record {
  met = met_raised over constants kinds enters over.rows (negsuc 0) t now turns k r;
  flat = flat_raised over constants kinds enters over.rows (negsuc 0) t now turns k.placed r here f;
  best = b;
}

pub opened : (over : Framed) (constants : ℕ) (kinds : List Kind) (enters : List Bool) (t now : Tableau) (column turns : ℕ) → IsMet over constants kinds enters t → Raises over enters constants (keys_of enters constants t) over.rows (negsuc 0) t now turns → IsOpen enters (negsuc 0) over.rows column now → IsOpened over constants kinds enters column true now
opened over constants kinds enters t now column turns k r o = record {
  met = met_raised over constants kinds enters over.rows (negsuc 0) t now turns k r;
  grows = up (numbers_of now over.rows column) o.0.better;
  way = inr (o.0.may, refl, o.1);
}
  where
    up : (z : ℤ) → (negsuc 0 *ℤ z) <ℤ pos 0 → pos 0 <ℤ (pos 1 *ℤ z)
    up z h = omega (arith, ints, h)

pub begins_goal : (over : Framed) (constants : ℕ) (kinds : List Kind) (enters : List Bool) (t : Tableau) → IsPlaced over constants kinds enters t → over.rows < length t.lines → Begins over enters constants (keys_of enters constants t) over.rows t
begins_goal over constants kinds enters t p here =
    begins over constants kinds enters t over.rows p (subst (λ (n : ℕ). over.rows < n) (sym p.marked.sized.many) here) (p.marked.sized.goals over.rows (omega arith) here)
    (ap (λ (u : ℕ). enters_at enters (u + over.rows)) (sym p.marked.sized.units) ∙ p.out over.rows (omega arith) here)
