-- Products of known columns along a run: their differences are true forward differences of their
-- numbers at its states.
use Rattle.std.proofs.Common.{◌≡◌, ℕ, zero, suc, ◌+◌, ◌<◌, ◌⊎◌, inl, inr, List, [], ◌∷◌, true, false, Ok, refl, sym, ap, ◌∙◌, arith, ℤ, pos, ◌+ℤ◌, ◌-ℤ◌, ◌*ℤ◌}
use Rattle.std.specs.Prelude.{Option, None, Some, IsTrue}
use Rattle.std.specs.List.{AllByRecursion, list_all}
use Rattle.std.specs.Option.{is_some}
use Rattle.std.proofs.lemmas.Int.{ints}
use Rattle.items.proofs.Gives.{on_ok}
use Rattle.items.proofs.Each.{each_from_test}
use Rattle.linear_terms.specs.declared.col.Col.{Col}
use Rattle.linear_terms.specs.declared.col.Col.TheVariants.{At, Aux}
use Rattle.linear_terms.specs.Expressions.{Made, ◌⊞◌, column}
use Rattle.linear_terms.specs.Polynomial.{Terms, Polynomial, mono_of}
use Rattle.linear_terms.specs.Replacement.{put_in}
use Rattle.linear_terms.specs.Value.{Valuation, mono_value, terms_value, value_of}
use Rattle.linear_terms.proofs.Columns.{EachColumn}
use Rattle.linear_terms.proofs.Values.{substituted-value}
use Rattle.linear_terms.proofs.Worth.{IsWorth, IsWorth-Ok, IsWorth-same, IsWorth-column, IsWorth-sum, IsWorth-difference, column_of-value}
use Rattle.transition_formula.specs.Meaning.{numbers}
use Rattle.transition_formula.specs.Transition.{Transition}
use Rattle.polyhedra.specs.Changes.{is_modified}
use Rattle.polyhedra.proofs.Turns.{number_in, Reads, reads-numbers, unmodified-unmoved, IsRunOf}
use Rattle.recurrence.specs.Products.{knowledge_of, is_known, unmodified_columns, with_change, columns_after_turn, growth, grown, sequence_of}
use Rattle.recurrence.specs.Words.{HasKnown, IsClosed}
use Rattle.recurrence.proofs.SolvedColumns.{change-keeps, closed-next, set-known, unchanged-closed, unchanged-known, turned-known}

module _ (known : List (Option Polynomial)) (closed : IsClosed known) where
  -- the numbers of columns after a turn
  after_turn : Valuation → Valuation
  after_turn at c = value_of at (put_in (columns_after_turn known) [] c)

  -- known columns have the same numbers
  abbrev pub Agree : Valuation → Valuation → Type 0
  Agree at bt = (c : Col) → IsTrue (is_known known c) → at c ≡ bt c

  -- a number that depends on those of known columns alone
  abbrev pub Respects : (Valuation → ℤ) → Type 0
  Respects f = (at bt : Valuation) → Agree at bt → f at ≡ f bt

  mono-agrees : (m : List Col) (at bt : Valuation) → Agree at bt → AllByRecursion (λ c. IsTrue (is_known known c)) m → mono_value at m ≡ mono_value bt m
  mono-agrees [] at bt same h = refl
  mono-agrees (c ∷ m) at bt same h = λ i. same c h.0 i *ℤ mono-agrees m at bt same h.1 i

  terms-agree : (ts : Terms) (at bt : Valuation) → Agree at bt → EachColumn (λ c. IsTrue (is_known known c)) ts → terms_value at ts ≡ terms_value bt ts
  terms-agree [] at bt same h = refl
  terms-agree (t ∷ ts) at bt same h = λ i. t.1 *ℤ mono-agrees t.0 at bt same h.0 i +ℤ terms-agree ts at bt same h.1 i

  known-respects : (p : Polynomial) → HasKnown known p → Respects (λ at. value_of at p)
  known-respects p h at bt same = ap (λ x. x +ℤ p.rest) (terms-agree p.terms at bt same h)

  turn-agrees : (at bt : Valuation) → Agree at bt → Agree (after_turn at) (after_turn bt)
  unfolding after_turn
  turn-agrees at bt same c h = go (knowledge_of known c) refl h
    where
      go : (o : Option Polynomial) → knowledge_of known c ≡ o → IsTrue (is_some o) → value_of at (put_in (columns_after_turn known) [] c) ≡ value_of bt (put_in (columns_after_turn known) [] c)
      go None e k = cc
      go (Some p) e k = let here = turned-known known c p e in ap (value_of at) here ∙ known-respects p (closed c p e) at bt same ∙ sym (ap (value_of bt) here)

  -- by how much a turn changes a number, so many times over
  changed : ℕ → (Valuation → ℤ) → Valuation → ℤ
  changed zero f at = f at
  changed (suc m) f at = changed m f (after_turn at) -ℤ changed m f at

  changed-respects : (m : ℕ) (f : Valuation → ℤ) → Respects f → Respects (changed m f)
  unfolding changed
  changed-respects zero f h at bt same = h at bt same
  changed-respects (suc m) f h at bt same = λ i. changed-respects m f h (after_turn at) (after_turn bt) (turn-agrees at bt same) i -ℤ changed-respects m f h at bt same i

  -- of a polynomial this is what its growth is worth
  growth-worth : (p : Polynomial) (at : Valuation) → IsWorth at (growth (columns_after_turn known) p) (value_of (after_turn at) p -ℤ value_of at p)
  unfolding after_turn
  growth-worth p at = IsWorth-difference (record { as_made = λ q e. substituted-value at (put_in (columns_after_turn known) []) p q e }) (IsWorth-Ok at p)

  -- everywhere
  abbrev pub IsWorthAll : Made → (Valuation → ℤ) → Type 0
  IsWorthAll made f = (at : Valuation) → IsWorth at made (f at)

  next-worth : (made : Made) (m : ℕ) (f : Valuation → ℤ) → IsWorthAll made (changed m f) → IsWorthAll (grown (columns_after_turn known) made) (changed (suc m) f)
  unfolding changed
  next-worth made m f worth at = record {
    as_made = λ q e. on_ok made (growth (columns_after_turn known)) q e (λ p g h.
        (growth-worth p at).as_made q h ∙ (λ i. (worth (after_turn at)).as_made p g i -ℤ (worth at).as_made p g i));
  }

  module _ (m : List Col) where
    number : Valuation → ℤ
    number at = value_of at (mono_of m)

    first-worth : IsWorthAll (growth (columns_after_turn known) (mono_of m)) (changed 1 number)
    unfolding changed number
    first-worth at = growth-worth (mono_of m) at

    second-worth : IsWorthAll (grown (columns_after_turn known) (growth (columns_after_turn known) (mono_of m))) (changed 2 number)
    second-worth = next-worth (growth (columns_after_turn known) (mono_of m)) 1 number first-worth

    third-worth : IsWorthAll (grown (columns_after_turn known) (grown (columns_after_turn known) (growth (columns_after_turn known) (mono_of m)))) (changed 3 number)
    third-worth = next-worth (grown (columns_after_turn known) (growth (columns_after_turn known) (mono_of m))) 2 number second-worth

    fourth-worth : IsWorthAll (grown (columns_after_turn known) (grown (columns_after_turn known) (grown (columns_after_turn known) (growth (columns_after_turn known) (mono_of m))))) (changed 4 number)
    fourth-worth = next-worth (grown (columns_after_turn known) (grown (columns_after_turn known) (growth (columns_after_turn known) (mono_of m)))) 3 number third-worth

-- ---- along a run

module _ (body : Transition) (steps : ℕ) (states : ℕ → List ℤ) (run : IsRunOf body steps states) where
  -- what is known of a column is its number after the turn
  pub record AreNext (known : List (Option Polynomial)) : Type 0 where
    pub closed : IsClosed known
    pub next : (v : ℕ) (p : Polynomial) → knowledge_of known (At v) ≡ Some p → (i : ℕ) → i < steps → (at : Valuation) → Reads at (states i) → value_of at p ≡ number_in (states (i + 1)) v

  module _ (known : List (Option Polynomial)) (are : AreNext known) (m : List Col) (has : IsTrue (list_all (is_known known) m)) where
    here : ℕ → Valuation
    here i = numbers (states i) (λ n. pos 0)

    pub product_ladder : ℕ → ℕ → ℤ
    product_ladder l i = changed known are.closed l (number known are.closed m) (here i)

    respects : (l : ℕ) → Respects known are.closed (changed known are.closed l (number known are.closed m))
    unfolding number
    respects l = changed-respects known are.closed l (λ at. value_of at (mono_of m)) (known-respects known are.closed (mono_of m) (each_from_test (is_known known) (λ c. IsTrue (is_known known c)) (λ c k. k) m has, tt))

    -- a valuation that reads a state agrees with that state
    reading-agrees : (i : ℕ) (at : Valuation) → Reads at (states i) → Agree known are.closed at (here i)
    unfolding here
    reading-agrees i at reads (At v) h = reads.each v
    reading-agrees i at reads (Aux n) h = cc

    -- the next state is what the turn makes of the state, as far as that is known
    turn-leads : (i : ℕ) → i < steps → Agree known are.closed (here (i + 1)) (after_turn known are.closed (here i))
    unfolding here after_turn
    turn-leads i within (Aux n) h = cc
    turn-leads i within (At v) h = go (knowledge_of known (At v)) refl h
      where
        go : (o : Option Polynomial) → knowledge_of known (At v) ≡ o → IsTrue (is_some o) → number_in (states (i + 1)) v ≡ value_of (numbers (states i) (λ n. pos 0)) (put_in (columns_after_turn known) [] (At v))
        go None e k = cc
        go (Some p) e k = sym (ap (value_of (numbers (states i) (λ n. pos 0))) (turned-known known (At v) p e) ∙ are.next v p e i within (numbers (states i) (λ n. pos 0)) (reads-numbers (states i) (λ n. pos 0)))

    pub product-grows : (l i : ℕ) → i < steps → product_ladder l (i + 1) -ℤ product_ladder l i ≡ product_ladder (suc l) i
    unfolding product_ladder changed
    product-grows l i within = ap (λ x. x -ℤ product_ladder l i) (respects l (here (i + 1)) (after_turn known are.closed (here i)) (turn-leads i within))

    pub product-start : (i : ℕ) (at : Valuation) → Reads at (states i) → value_of at (mono_of m) ≡ product_ladder 0 i
    unfolding product_ladder changed number
    product-start i at reads = respects 0 at (here i) (reading-agrees i at reads)

    same-worth : (l i : ℕ) (made : Made) → IsWorthAll known are.closed made (changed known are.closed l (number known are.closed m)) → (at : Valuation) → Reads at (states i) → IsWorth at made (product_ladder l i)
    unfolding product_ladder
    same-worth l i made worth at reads = IsWorth-same (respects l at (here i) (reading-agrees i at reads)) (worth at)

    pub product-first : (i : ℕ) (at : Valuation) → Reads at (states i) → IsWorth at (sequence_of (columns_after_turn known) m).first (product_ladder 1 i)
    product-first i = same-worth 1 i (growth (columns_after_turn known) (mono_of m)) (first-worth known are.closed m)

    pub product-second : (i : ℕ) (at : Valuation) → Reads at (states i) → IsWorth at (sequence_of (columns_after_turn known) m).second (product_ladder 2 i)
    product-second i = same-worth 2 i (sequence_of (columns_after_turn known) m).second (second-worth known are.closed m)

    pub product-third : (i : ℕ) (at : Valuation) → Reads at (states i) → IsWorth at (sequence_of (columns_after_turn known) m).third (product_ladder 3 i)
    product-third i = same-worth 3 i (sequence_of (columns_after_turn known) m).third (third-worth known are.closed m)

    pub product-fourth : (i : ℕ) (at : Valuation) → Reads at (states i) → IsWorth at (sequence_of (columns_after_turn known) m).fourth (product_ladder 4 i)
    product-fourth i = same-worth 4 i (sequence_of (columns_after_turn known) m).fourth (fourth-worth known are.closed m)

  -- ---- which columns are known

  unmoved : (v i : ℕ) → is_modified true body.cases v ≡ false → i < steps → number_in (states i) v ≡ number_in (states (i + 1)) v
  unmoved v i e within = equal (number_in (states (i + 1)) v) (number_in (states i) v) (unmodified-unmoved true body.cases (states i) (states (i + 1)) v e (run.links i within).some)
    where
      equal : (x y : ℤ) → x -ℤ y ≡ pos 0 → y ≡ x
      equal x y e = omega (arith, ints)

  pub unchanged-next : (ms : List (List Col)) → AreNext (unmodified_columns body ms)
  unchanged-next ms = record {
    closed = unchanged-closed body ms;
    next = λ v p e i within at reads.
        let stays = unchanged-known body ms v p e in
        sym (ap (value_of at) stays.1) ∙ column_of-value at (At v) ∙ reads.each v ∙ unmoved v i stays.0 within;
  }

  -- the change of a column at each state
  pub record IsChange (v : ℕ) (made : Made) : Type 0 where
    pub each : (i : ℕ) → i < steps → (at : Valuation) → Reads at (states i) → IsWorth at made (number_in (states (i + 1)) v -ℤ number_in (states i) v)

  pub change-next : (known : List (Option Polynomial)) (v : ℕ) (made : Made) → AreNext known → IsChange v made → AreNext (with_change known v made)
  change-next known v made are is =
      change-keeps AreNext known v made are (λ change next e opened all f. record {
        closed = closed-next known v change next are.closed opened all f;
        next = λ w p g i within at reads. go w p i within at reads change next e f (set-known known v next w p g);
      })
    where
      together : (x y : ℤ) → x +ℤ (y -ℤ x) ≡ y
      together x y = omega (arith, ints)

      go : (w : ℕ) (p : Polynomial) (i : ℕ) → i < steps → (at : Valuation) → Reads at (states i) → (change next : Polynomial) → made ≡ Ok change → column (At v) ⊞ Ok change ≡ Ok next
          → ((v ≡ w) × (next ≡ p)) ⊎ (knowledge_of known (At w) ≡ Some p) → value_of at p ≡ number_in (states (i + 1)) w
      go w p i within at reads change next e f (inl same) =
          sym (ap (value_of at) same.1)
          ∙ (IsWorth-sum (IsWorth-same (reads.each v) (IsWorth-column at (At v))) (IsWorth-same ((is.each i within at reads).as_made change e) (IsWorth-Ok at change))).as_made next f
          ∙ together (number_in (states i) v) (number_in (states (i + 1)) v) ∙ ap (number_in (states (i + 1))) same.0
      go w p i within at reads change next e f (inr other) = are.next w p other i within at reads
