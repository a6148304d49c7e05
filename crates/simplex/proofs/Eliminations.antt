-- Gauss: a step for an equation, and a step for an inequality.
use Rattle.std.proofs.Common.{◌≡◌, ◌≢◌, ◌⊎◌, inl, inr, ℕ, ◌+◌, ◌<◌, ◌≤◌, Bool, true, false, List, [], length, get_or, refl, sym, ap, subst, ◌∙◌, arith, ⊎_elim, Ok, ℤ, pos, ◌<ℤ◌}
use Rattle.std.specs.Prelude.{slice_set}
use Rattle.std.proofs.lemmas.Int.{ints}
use Rattle.std.proofs.lemmas.Bool.{cases_eq, false≢true}
use Rattle.std.proofs.lemmas.List.{get_or-set_same, get_or-set_other, length-set}
use Rattle.linear_terms.specs.declared.row.Kind.{Kind}
use Rattle.linear_terms.specs.declared.row.Kind.TheVariants.{AtMost, Equal}
use Rattle.simplex.specs.declared.tableau.Tableau.{Tableau}
use Rattle.simplex.specs.Exchange.{numbers_of, choices_of, exchange, IsTableauOf}
use Rattle.simplex.specs.Raise.{Framed, enters_at, leaves_at}
use Rattle.simplex.specs.Rows.{kind_at}
use Rattle.simplex.specs.Search.{IsFlat, IsFixed, IsUnit, IsSized, IsSolving, IsMarked, IsFreeing, IsRefuted}
use Rattle.simplex.proofs.Lines.{upright-length}
use Rattle.simplex.proofs.Numbers.{ExchangeAt, exchange-is, exchange-keeps}
use Rattle.simplex.proofs.Divisors.{exchange-primitive}
use Rattle.simplex.proofs.Zeros.{stays_zero_at}

-- ---- one exchange

pub record Step (over : Framed) (constants : ℕ) (kinds : List Kind) (before after : Tableau) (line column : ℕ) : Type 0 where
  pub sized : IsSized over constants kinds after
  pub is : ExchangeAt before after line column

pub step : (over : Framed) (constants : ℕ) (kinds : List Kind) (before after : Tableau) (line column : ℕ) → IsSized over constants kinds before → line < length before.lines → column < over.units + length before.lines → column ≢ constants → (numbers_of before line column ≡ pos 0 → ⊥) → exchange before line column ≡ Ok after → Step over constants kinds before after line column
step over constants kinds before after line column s here in_range other n e = with_is (exchange-is (over.units + length before.lines) before after line column s.tableau.shape here n (λ made m. upright-length column (get_or before.lines line []) made m ∙ s.tableau.shape.wide line here) e)
  where
    with_is : ExchangeAt before after line column → Step over constants kinds before after line column
    with_is x = record {
      sized = record { tableau = exchange-keeps over.units over.frame before after line column s.tableau here in_range n e; units = s.units; many = s.many ∙ sym x.many; apart = apart; primitive = exchange-primitive over.units over.frame before after line column s.tableau here in_range n s.primitive e; inside = subst (λ (n : ℕ). over.rows ≤ n) (sym x.many) s.inside; goals = λ l h k. s.goals l h (subst (λ (n : ℕ). l < n) x.many k) };
      is = x;
    }
      where
        apart : (i : ℕ) → i < length after.lines → choices_of after i ≢ constants
        apart i h same = ⊎_elim (λ (at : i ≡ line). other (sym (ap (choices_of after) at ∙ x.choices.there) ∙ same)) (λ elsewhere. s.apart i (subst (λ (n : ℕ). i < n) x.many h) (sym (x.choices.elsewhere i (subst (λ (n : ℕ). i < n) x.many h) elsewhere) ∙ same)) (cases_eq i line)

-- a fixed line stays fixed
pub fixed-kept : (over : Framed) (constants : ℕ) (kinds : List Kind) (before after : Tableau) (line column i : ℕ) → ExchangeAt before after line column → i < length before.lines → i ≢ line → numbers_of before i column ≡ pos 0 → IsFixed over constants kinds before i → IsFixed over constants kinds after i
fixed-kept over constants kinds before after line column i x h other zero f = record {
  flat = λ j g. keep j (f.flat j g);
  corner = keep constants f.corner;
  apart = λ m g k. keep (over.units + m) (f.apart m (subst (λ (n : ℕ). m < n) x.many g) k);
}
  where
    keep : (j : ℕ) → numbers_of before i j ≡ pos 0 → numbers_of after i j ≡ pos 0
    keep j z = stays_zero_at (length before.lines) (numbers_of before) (numbers_of after) line column i j x.numbers h other zero z

-- kinds differ
differs : {P : Type 0} (k : Kind) → k ≡ AtMost → k ≡ Equal → P
differs AtMost e f = cc
differs Equal e f = cc

-- ---- equations

pub solved-more : (over : Framed) (constants : ℕ) (kinds : List Kind) (i column : ℕ) (t next : Tableau) → IsSolving over constants kinds i t → i < length kinds → kind_at kinds i ≡ Equal → column < constants → (numbers_of t i column ≡ pos 0 → ⊥) → exchange t i column ≡ Ok next → IsSolving over constants kinds (i + 1) next
solved-more over constants kinds i column t next s here kind in_question n e =
    with_step (step over constants kinds t next i column s.sized inside in_range (λ same. absurd (omega (arith, same, in_question))) n e)
  where
    inside : i < length t.lines
    inside = subst (λ (n : ℕ). i < n) s.sized.many here

    in_range : column < over.units + length t.lines
    in_range = let u : over.units ≡ constants + 1 = s.sized.units in omega arith

    with_step : Step over constants kinds t next i column → IsSolving over constants kinds (i + 1) next
    with_step x = record { sized = x.sized; own = own; done = done }
      where
        own : (l : ℕ) → l < length next.lines → (kind_at kinds l ≡ AtMost) ⊎ (i + 1 ≤ l) → choices_of next l ≡ over.units + l
        own l h k = x.is.choices.elsewhere l g (apart k) ∙ s.own l g (earlier k)
          where
            g : l < length t.lines
            g = subst (λ (n : ℕ). l < n) x.is.many h

            apart : (kind_at kinds l ≡ AtMost) ⊎ (i + 1 ≤ l) → l ≢ i
            apart (inl a) same = differs (kind_at kinds l) a (ap (kind_at kinds) same ∙ kind)
            apart (inr a) same = absurd (omega arith)

            earlier : (kind_at kinds l ≡ AtMost) ⊎ (i + 1 ≤ l) → (kind_at kinds l ≡ AtMost) ⊎ (i ≤ l)
            earlier (inl a) = inl a
            earlier (inr a) = inr (omega arith)

        done : (l : ℕ) → l < i + 1 → l < length next.lines → kind_at kinds l ≡ Equal → (choices_of next l < constants) ⊎ ((choices_of next l ≡ over.units + l) × IsFixed over constants kinds next l)
        done l h g k = ⊎_elim (λ (same : l ≡ i). inl (subst (λ (c : ℕ). c < constants) (sym (ap (choices_of next) same ∙ x.is.choices.there)) in_question)) (λ other. elsewhere other (s.done l (omega arith) (subst (λ (n : ℕ). l < n) x.is.many g) k)) (cases_eq l i)
          where
            in_t : l < length t.lines
            in_t = subst (λ (n : ℕ). l < n) x.is.many g

            elsewhere : l ≢ i → (choices_of t l < constants) ⊎ ((choices_of t l ≡ over.units + l) × IsFixed over constants kinds t l) → (choices_of next l < constants) ⊎ ((choices_of next l ≡ over.units + l) × IsFixed over constants kinds next l)
            elsewhere other (inl c) = inl (subst (λ (c : ℕ). c < constants) (sym (x.is.choices.elsewhere l in_t other)) c)
            elsewhere other (inr f) = inr (x.is.choices.elsewhere l in_t other ∙ f.0, fixed-kept over constants kinds t next i column l x.is in_t other (f.1.flat column in_question) f.1)

-- ---- which columns may enter

pub set_same : (enters : List Bool) (c : ℕ) → c < length enters → enters_at (slice_set enters c true) c ≡ true
set_same enters c h = get_or-set_same enters c true false h

pub set_other : (enters : List Bool) (c j : ℕ) → j ≢ c → enters_at (slice_set enters c true) j ≡ enters_at enters j
set_other enters c j other = get_or-set_other enters c j true false other

-- a column that may enter is no column of the question, nor the constants
pub not_before : (over : Framed) (kinds : List Kind) (count : ℕ) (enters : List Bool) (j : ℕ) → ((j : ℕ) → enters_at enters j ≡ true → IsUnit over kinds count j) → j < over.units → enters_at enters j ≡ false
not_before over kinds count enters j entering h = go (enters_at enters j) refl
  where
    go : (b : Bool) → enters_at enters j ≡ b → enters_at enters j ≡ false
    go true e = let u = entering j e in let is : j ≡ over.units + u.row = u.is in absurd (omega arith)
    go false e = e

-- two lines choose two columns
pub choose_apart : (over : Framed) (t : Tableau) (i k : ℕ) → IsTableauOf over.units over.frame t → i < length t.lines → k < length t.lines → i ≢ k → choices_of t i ≢ choices_of t k
choose_apart over t i k s h g other same = clash (numbers_of t i (choices_of t i)) (s.is.own i h) (ap (numbers_of t i) same ∙ s.is.others i k h g other)
  where
    clash : (z : ℤ) → pos 0 <ℤ z → z ≡ pos 0 → ⊥
    clash z p e = omega (arith, ints)

-- ---- inequalities

pub freed-more : (over : Framed) (constants : ℕ) (kinds : List Kind) (i column : ℕ) (enters : List Bool) (t next : Tableau) → IsFreeing over constants kinds i enters t → i < length kinds → kind_at kinds i ≡ AtMost → column < constants → (numbers_of t i column ≡ pos 0 → ⊥) → exchange t i column ≡ Ok next → IsFreeing over constants kinds (i + 1) (slice_set enters (constants + 1 + i) true) next
freed-more over constants kinds i column enters t next s here kind in_question n e =
    subst (λ (u : ℕ). IsFreeing over constants kinds (i + 1) (slice_set enters (u + i) true) next) s.marked.sized.units
    (with_step (step over constants kinds t next i column s.marked.sized inside in_range (λ same. absurd (omega (arith, same, in_question))) n e))
  where
    units_are : over.units ≡ constants + 1
    units_are = s.marked.sized.units

    inside : i < length t.lines
    inside = subst (λ (n : ℕ). i < n) s.marked.sized.many here

    in_range : column < over.units + length t.lines
    in_range = let u : over.units ≡ constants + 1 = s.marked.sized.units in omega arith

    long : over.units + i < length enters
    long = subst (λ (n : ℕ). over.units + i < n) (sym s.marked.wide) (let h : i < length t.lines = subst (λ (n : ℕ). i < n) s.marked.sized.many here in omega arith)

    own : choices_of t i ≡ over.units + i
    own = s.marked.waiting i inside kind (s.later i (omega arith) inside)

    with_step : Step over constants kinds t next i column → IsFreeing over constants kinds (i + 1) (slice_set enters (over.units + i) true) next
    with_step x = record { marked = marked; flat = flat; later = later; none = none }
      where
        es : List Bool
        es = slice_set enters (over.units + i) true

        in_t : (l : ℕ) → l < length next.lines → l < length t.lines
        in_t l h = subst (λ (n : ℕ). l < n) x.is.many h

        -- a line that chooses a unit column is another one
        apart : (l : ℕ) → over.units ≤ choices_of next l → l ≢ i
        apart l h same = let c : choices_of next l ≡ column = ap (choices_of next) same ∙ x.is.choices.there in let u : over.units ≡ constants + 1 = units_are in absurd (omega arith)

        marked : IsMarked over constants kinds (slice_set enters (over.units + i) true) next
        marked = record {
          sized = x.sized;
          wide = length-set enters (over.units + i) true ∙ s.marked.wide ∙ ap (λ (n : ℕ). over.units + n) (sym x.is.many);
          fixed = fixed;
          entering = λ j h. subst (λ (n : ℕ). IsUnit over kinds n j) (sym x.is.many) (⊎_elim (λ (same : j ≡ over.units + i). record { row = i; here = inside; is = same; kind = kind }) (λ other. s.marked.entering j (sym (set_other enters (over.units + i) j other) ∙ h)) (cases_eq j (over.units + i)));
          waiting = waiting;
        }
          where
            fixed : (l m : ℕ) → l < length next.lines → m < length next.lines → choices_of next l ≡ over.units + m → kind_at kinds m ≡ Equal → IsFixed over constants kinds next l
            fixed l m h g c k = with_fixed (s.marked.fixed l m (in_t l h) (in_t m g) (sym (x.is.choices.elsewhere l (in_t l h) other) ∙ c) k)
              where
                other : l ≢ i
                other = apart l (omega (arith, c))

                with_fixed : IsFixed over constants kinds t l → IsFixed over constants kinds next l
                with_fixed f = fixed-kept over constants kinds t next i column l x.is (in_t l h) other (f.flat column in_question) f

            waiting : (l : ℕ) → l < length next.lines → kind_at kinds l ≡ AtMost → enters_at (slice_set enters (over.units + i) true) (over.units + l) ≡ false → choices_of next l ≡ over.units + l
            waiting l h k f = x.is.choices.elsewhere l (in_t l h) other ∙ s.marked.waiting l (in_t l h) k (sym (set_other enters (over.units + i) (over.units + l) (λ same. other (omega (arith, same)))) ∙ f)
              where
                other : l ≢ i
                other same = false≢true (sym f ∙ ap (λ (m : ℕ). enters_at (slice_set enters (over.units + i) true) (over.units + m)) same ∙ set_same enters (over.units + i) long)

        flat : (l : ℕ) → l < length next.lines → over.units ≤ choices_of next l → (kind_at kinds l ≡ Equal) ⊎ (l < i + 1) → IsFlat constants next l
        flat l h c k j g = stays_zero_at (length t.lines) (numbers_of t) (numbers_of next) i column l j x.is.numbers (in_t l h) (apart l c) (before column in_question) (before j g)
          where
            earlier : (kind_at kinds l ≡ Equal) ⊎ (l < i + 1) → (kind_at kinds l ≡ Equal) ⊎ (l < i)
            earlier (inl a) = inl a
            earlier (inr a) = inr (let o : l ≢ i = apart l c in omega (arith, a, o))

            before : IsFlat constants t l
            before = s.flat l (in_t l h) (subst (λ (m : ℕ). over.units ≤ m) (x.is.choices.elsewhere l (in_t l h) (apart l c)) c) (earlier k)

        later : (l : ℕ) → i + 1 ≤ l → l < length next.lines → enters_at (slice_set enters (over.units + i) true) (over.units + l) ≡ false
        later l h g = set_other enters (over.units + i) (over.units + l) (λ same. absurd (omega (arith, same, h))) ∙ s.later l (omega arith) (in_t l g)

        none : (l : ℕ) → l < length next.lines → leaves_at (slice_set enters (over.units + i) true) next l ≡ false
        none l h = ⊎_elim here_is elsewhere (cases_eq l i)
          where
            here_is : l ≡ i → leaves_at (slice_set enters (over.units + i) true) next l ≡ false
            here_is same =
                ap (enters_at (slice_set enters (over.units + i) true)) (ap (choices_of next) same ∙ x.is.choices.there)
                ∙ set_other enters (over.units + i) column (λ is. absurd (omega (arith, is, units_are)))
                ∙ not_before over kinds (length t.lines) enters column s.marked.entering (omega (arith, units_are))

            elsewhere : l ≢ i → leaves_at (slice_set enters (over.units + i) true) next l ≡ false
            elsewhere other =
                ap (enters_at (slice_set enters (over.units + i) true)) (x.is.choices.elsewhere l (in_t l h) other)
                ∙ set_other enters (over.units + i) (choices_of t l) (λ is. choose_apart over t l i s.marked.sized.tableau (in_t l h) inside other (is ∙ sym own))
                ∙ s.none l (in_t l h)

-- ---- an equation that refutes the rows

pub refuted-equation : (over : Framed) (constants : ℕ) (kinds : List Kind) (i : ℕ) (t : Tableau) → IsSolving over constants kinds i t → i < length kinds → kind_at kinds i ≡ Equal → IsFlat constants t i → (numbers_of t i constants ≡ pos 0 → ⊥) → IsRefuted over constants kinds t i
refuted-equation over constants kinds i t s here kind flat some = record {
  sized = s.sized;
  here = inside;
  flat = flat;
  some = some;
  goals = λ l h k. own_zero l k (s.sized.goals l h k);
  signs = inl (λ m h k. own_zero m h k);
}
  where
    inside : i < length t.lines
    inside = subst (λ (n : ℕ). i < n) s.sized.many here

    clash : (k : Kind) → k ≡ Equal → k ≡ AtMost → ⊥
    clash k e f = cc

    own_zero : (l : ℕ) → l < length t.lines → kind_at kinds l ≡ AtMost → numbers_of t i (over.units + l) ≡ pos 0
    own_zero l h k = ap (numbers_of t i) (sym (s.own l h (inl k))) ∙ s.sized.tableau.is.others i l inside h (λ same. clash (kind_at kinds l) (ap (kind_at kinds) (sym same) ∙ kind) k)
