-- A run of exchanges whose goal grows: no choice of columns comes twice, so there are at most as
-- many exchanges as choices.
use Rattle.std.proofs.Common.{◌≡◌, ◌≢◌, ℕ, suc, ◌+◌, ◌<◌, ◌≤◌, Bool, true, false, cond, List, [], ◌∷◌, length, refl, sym, ap, subst, ◌∙◌, arith, ℤ, pos, ◌+ℤ◌, ◌-ℤ◌, ◌*ℤ◌, ◌<ℤ◌}
use Rattle.std.specs.Prelude.{nat_eq, neg_ℤ}
use Rattle.std.specs.List.{AllByRecursion, IsDistinct, list_any}
use Rattle.std.proofs.lemmas.Int.{ints}
use Rattle.std.proofs.lemmas.Bool.{false≢true, eqb-true}
use Rattle.std.proofs.lemmas.Map.Steps.{length-le_from_distinct_below}
use Rattle.whole_numbers.proofs.Ring.{ring}
use Rattle.simplex.specs.Choices.{count_to, rank}
use Rattle.farkas_check.specs.Frames.{choose}
use Rattle.simplex.specs.Frames.{IsWholeTableau, is_chosen, lexical_view, IsLexPositive}
use Rattle.simplex.specs.History.{lead, with_sign, HasRun}
use Rattle.simplex.proofs.Exchanges.{product, times_zero}
use Rattle.simplex.proofs.Growth.{lex_sum, lex_multiple, not_lex_zero}
use Rattle.simplex.proofs.ColumnChoices.{count_to-chosen, same_line}
use Rattle.simplex.proofs.Ranks.{rank-below, rank-same}

-- ---- what the lexicographic order sees of sums

pub seen-sum : (constants : ℕ) (u v w : ℕ → ℤ) (a b factor : ℤ) (j : ℕ) → factor *ℤ w j ≡ a *ℤ u j +ℤ b *ℤ v j → factor *ℤ lexical_view constants w j ≡ a *ℤ lexical_view constants u j +ℤ b *ℤ lexical_view constants v j
seen-sum constants u v w a b factor j e = go (nat_eq j constants)
  where
    flip : (x y z : ℤ) → factor *ℤ z ≡ a *ℤ x +ℤ b *ℤ y → factor *ℤ neg_ℤ z ≡ a *ℤ neg_ℤ x +ℤ b *ℤ neg_ℤ y
    flip x y z f = out z ∙ ap neg_ℤ f ∙ back x y
      where
        out : (z : ℤ) → factor *ℤ neg_ℤ z ≡ neg_ℤ (factor *ℤ z)
        out z = simp ring (omega (arith, ints))

        back : (x y : ℤ) → neg_ℤ (a *ℤ x +ℤ b *ℤ y) ≡ a *ℤ neg_ℤ x +ℤ b *ℤ neg_ℤ y
        back x y = simp ring (omega (arith, ints))

    go : (t : Bool) → factor *ℤ cond t (neg_ℤ (w j)) (w j) ≡ a *ℤ cond t (neg_ℤ (u j)) (u j) +ℤ b *ℤ cond t (neg_ℤ (v j)) (v j)
    go true = flip (u j) (v j) (w j) e
    go false = e

pub seen-multiple : (constants : ℕ) (v w : ℕ → ℤ) (b factor : ℤ) (j : ℕ) → factor *ℤ w j ≡ b *ℤ v j → factor *ℤ lexical_view constants w j ≡ b *ℤ lexical_view constants v j
seen-multiple constants v w b factor j e = go (nat_eq j constants)
  where
    flip : (x z : ℤ) → factor *ℤ z ≡ b *ℤ x → factor *ℤ neg_ℤ z ≡ b *ℤ neg_ℤ x
    flip x z f = out factor z ∙ ap neg_ℤ f ∙ sym (out b x)
      where
        out : (c z : ℤ) → c *ℤ neg_ℤ z ≡ neg_ℤ (c *ℤ z)
        out c z = simp ring (omega (arith, ints))

    go : (t : Bool) → factor *ℤ cond t (neg_ℤ (w j)) (w j) ≡ b *ℤ cond t (neg_ℤ (v j)) (v j)
    go true = flip (v j) (w j) e
    go false = e

pub seen-zero : (constants : ℕ) (w : ℕ → ℤ) (j : ℕ) → w j ≡ pos 0 → lexical_view constants w j ≡ pos 0
seen-zero constants w j e = go (nat_eq j constants)
  where
    go : (t : Bool) → cond t (neg_ℤ (w j)) (w j) ≡ pos 0
    go true = rw e refl
    go false = e

pub all_below : (n : ℕ) (cs : List ℕ) (P : ℕ → Type 0) → AllByRecursion (λ c. c < n) cs → ((j : ℕ) → j < n → P j) → AllByRecursion P cs
all_below n [] P h f = tt
all_below n (c ∷ cs) P h f = (f c h.0, all_below n cs P h.1 f)

-- ---- a run

-- the goal's line before a step and after it
pub record Grows (constants goal : ℕ) (sign : ℤ) (keys : List ℕ) (before after : ℕ → ℕ → ℤ) (old new : ℕ → ℕ) : Type 0 where
  pub pivot : ℕ → ℤ
  pub factor : ℤ
  pub keeps : ℤ
  pub adds : ℤ
  pub factor_positive : pos 0 <ℤ factor
  pub keeps_positive : pos 0 <ℤ keeps
  pub adds_positive : pos 0 <ℤ adds
  pub line : (j : ℕ) → factor *ℤ with_sign sign (after goal) j ≡ keeps *ℤ with_sign sign (before goal) j +ℤ adds *ℤ pivot j
  pub number : factor *ℤ after goal (new goal) ≡ keeps *ℤ before goal (old goal)
  pub same : new goal ≡ old goal
  pub ahead : IsLexPositive (lexical_view constants pivot) keys

distinct_choices : (lines units columns : ℕ) (frame numbers : ℕ → ℕ → ℤ) (chosen : ℕ → ℕ) → IsWholeTableau lines units columns frame numbers chosen → (i k : ℕ) → i < lines → k < lines → i ≢ k → chosen i ≢ chosen k
distinct_choices lines units columns frame numbers chosen t i k h g apart e = clash (numbers i (chosen i)) (t.own i h) (ap (numbers i) e ∙ t.others i k h g apart)
  where
    clash : (z : ℤ) → pos 0 <ℤ z → z ≡ pos 0 → ⊥
    clash z p e = omega (arith, ints)

-- the goal is ahead after the step of where it was ahead before, and of where it was
ahead_of : (constants goal : ℕ) (sign : ℤ) (keys : List ℕ) (before after then : ℕ → ℕ → ℤ) (old new choice : ℕ → ℕ) (s : Grows constants goal sign keys before after old new) (j : ℕ)
    → s.factor *ℤ lead (with_sign sign (after goal)) (after goal (new goal)) (with_sign sign (then goal)) (then goal (choice goal)) j
    ≡ s.keeps *ℤ lead (with_sign sign (before goal)) (before goal (old goal)) (with_sign sign (then goal)) (then goal (choice goal)) j +ℤ (then goal (choice goal) *ℤ s.adds) *ℤ s.pivot j
ahead_of constants goal sign keys before after then old new choice s j =
    plain s.factor (then goal (choice goal)) (with_sign sign (after goal) j) (after goal (new goal)) (with_sign sign (then goal) j) s.keeps (with_sign sign (before goal) j) (before goal (old goal)) s.adds (s.pivot j) (s.line j) s.number
  where
    plain : (f e a d t p b c q r : ℤ) → f *ℤ a ≡ p *ℤ b +ℤ q *ℤ r → f *ℤ d ≡ p *ℤ c → f *ℤ (e *ℤ a -ℤ d *ℤ t) ≡ p *ℤ (e *ℤ b -ℤ c *ℤ t) +ℤ e *ℤ q *ℤ r
    plain f e a d t p b c q r g h = apart f e a d t ∙ rw (g, h) (together e t p b c q r)
      where
        apart : (f e a d t : ℤ) → f *ℤ (e *ℤ a -ℤ d *ℤ t) ≡ e *ℤ (f *ℤ a) -ℤ f *ℤ d *ℤ t
        apart f e a d t = simp ring (omega (arith, ints))

        together : (e t p b c q r : ℤ) → e *ℤ (p *ℤ b +ℤ q *ℤ r) -ℤ p *ℤ c *ℤ t ≡ p *ℤ (e *ℤ b -ℤ c *ℤ t) +ℤ e *ℤ q *ℤ r
        together e t p b c q r = simp ring (omega (arith, ints))

none_equal : (q : ℕ) (xs : List ℕ) → list_any (nat_eq q) xs ≡ false → AllByRecursion (λ y. nat_eq q y ≡ false) xs
none_equal q [] e = tt
none_equal q (x ∷ xs) e = go (nat_eq q x) refl (none_equal q xs)
  where
    go : (b : Bool) → nat_eq q x ≡ b → (list_any (nat_eq q) xs ≡ false → AllByRecursion (λ y. nat_eq q y ≡ false) xs) → (nat_eq q x ≡ false) × AllByRecursion (λ y. nat_eq q y ≡ false) xs
    go true f rest = absurd (false≢true (sym e ∙ rw f refl))
    go false f rest = (f, rest (rw f at e))

first_distinct : (q : ℕ) (xs : List ℕ) → list_any (nat_eq q) xs ≡ false → IsDistinct nat_eq xs → IsDistinct nat_eq (q ∷ xs)
unfolding IsDistinct
first_distinct q xs e d = (none_equal q xs e, d)

nothing_before : (n : ℕ) → IsDistinct nat_eq []
unfolding IsDistinct
nothing_before n = tt

-- a run that begins
pub HasRun-begins : (lines units columns constants goal : ℕ) (sign : ℤ) (frame : ℕ → ℕ → ℤ) (keys : List ℕ) (numbers : ℕ → ℕ → ℤ) (chosen : ℕ → ℕ) → HasRun lines units columns constants goal sign frame keys numbers chosen 0
HasRun-begins lines units columns constants goal sign frame keys numbers chosen = record {
  ranks = [];
  many = refl;
  distinct = nothing_before 0;
  below = λ q e. absurd (false≢true e);
  older = λ then choice t same r e. absurd (false≢true e);
}

either_way : {P : Type 0} (q r : ℕ) (xs : List ℕ) → list_any (nat_eq q) (r ∷ xs) ≡ true → (q ≡ r → P) → (list_any (nat_eq q) xs ≡ true → P) → P
either_way {P} q r xs e here later = go (nat_eq q r) refl
  where
    go : (b : Bool) → nat_eq q r ≡ b → P
    go true f = here (eqb-true q r f)
    go false f = later (rw f at e)

-- the choice that is there now is none of those before
own_fresh : (lines units columns constants goal : ℕ) (sign : ℤ) (frame : ℕ → ℕ → ℤ) (keys : List ℕ) (numbers : ℕ → ℕ → ℤ) (chosen : ℕ → ℕ) (turns : ℕ)
    → IsWholeTableau lines units columns frame numbers chosen → ((k : ℕ) → k < lines → chosen k < columns) → AllByRecursion (λ c. c < columns) keys
    → (run : HasRun lines units columns constants goal sign frame keys numbers chosen turns) → list_any (nat_eq (rank columns lines (is_chosen lines chosen))) run.ranks ≡ false
own_fresh lines units columns constants goal sign frame keys numbers chosen turns t ranges within run = fresh (list_any (nat_eq (rank columns lines (is_chosen lines chosen))) run.ranks) refl
  where
    level : (a b : ℤ) → a *ℤ b -ℤ a *ℤ b ≡ pos 0
    level a b = none (a *ℤ b)
      where
        none : (z : ℤ) → z -ℤ z ≡ pos 0
        none z = omega (arith, ints)

    fresh : (b : Bool) → list_any (nat_eq (rank columns lines (is_chosen lines chosen))) run.ranks ≡ b → list_any (nat_eq (rank columns lines (is_chosen lines chosen))) run.ranks ≡ false
    fresh true e =
        absurd
        (not_lex_zero keys (lexical_view constants (lead (with_sign sign (numbers goal)) (numbers goal (chosen goal)) (with_sign sign (numbers goal)) (numbers goal (chosen goal))))
        (all_below columns keys (λ j. lexical_view constants (lead (with_sign sign (numbers goal)) (numbers goal (chosen goal)) (with_sign sign (numbers goal)) (numbers goal (chosen goal))) j ≡ pos 0) within
        (λ j h. seen-zero constants (lead (with_sign sign (numbers goal)) (numbers goal (chosen goal)) (with_sign sign (numbers goal)) (numbers goal (chosen goal))) j (level (numbers goal (chosen goal)) (with_sign sign (numbers goal) j))))
        (run.older numbers chosen t refl ranges e))
    fresh false e = e

-- one step more
pub HasRun-more : (lines units columns constants goal : ℕ) (sign : ℤ) (frame : ℕ → ℕ → ℤ) (keys : List ℕ) (before after : ℕ → ℕ → ℤ) (old new : ℕ → ℕ) (turns : ℕ)
    → IsWholeTableau lines units columns frame before old → ((k : ℕ) → k < lines → old k < columns) → goal < lines → AllByRecursion (λ c. c < columns) keys
    → Grows constants goal sign keys before after old new → HasRun lines units columns constants goal sign frame keys before old turns
    → HasRun lines units columns constants goal sign frame keys after new (turns + 1)
HasRun-more lines units columns constants goal sign frame keys before after old new turns t ranges here within s run = record {
  ranks = rank columns lines (is_chosen lines old) ∷ run.ranks;
  many = ap suc run.many ∙ omega arith;
  distinct = first_distinct (rank columns lines (is_chosen lines old)) run.ranks (own_fresh lines units columns constants goal sign frame keys before old turns t ranges within run) run.distinct;
  below = λ q e. either_way q (rank columns lines (is_chosen lines old)) run.ranks e (λ same. subst (λ (n : ℕ). n < choose columns lines) (sym same) (rank-below columns lines (is_chosen lines old) counted)) (run.below q);
  older = λ then choice u same r e. either_way (rank columns lines (is_chosen lines choice)) (rank columns lines (is_chosen lines old)) run.ranks e
      (λ one. behind_here then choice u (same ∙ s.same) r one)
      (λ other. behind_older then choice u (run.older then choice u (same ∙ s.same) r other));
}
  where
    counted : count_to columns (is_chosen lines old) ≡ lines
    counted = count_to-chosen columns lines old ranges (distinct_choices lines units columns frame before old t)

    behind_older : (then : ℕ → ℕ → ℤ) (choice : ℕ → ℕ) → IsWholeTableau lines units columns frame then choice
        → IsLexPositive (lexical_view constants (lead (with_sign sign (before goal)) (before goal (old goal)) (with_sign sign (then goal)) (then goal (choice goal)))) keys
        → IsLexPositive (lexical_view constants (lead (with_sign sign (after goal)) (after goal (new goal)) (with_sign sign (then goal)) (then goal (choice goal)))) keys
    behind_older then choice u h =
        let now = lead (with_sign sign (before goal)) (before goal (old goal)) (with_sign sign (then goal)) (then goal (choice goal)) in
        let next = lead (with_sign sign (after goal)) (after goal (new goal)) (with_sign sign (then goal)) (then goal (choice goal)) in
        lex_sum keys (lexical_view constants now) (lexical_view constants s.pivot) (lexical_view constants next) s.keeps (then goal (choice goal) *ℤ s.adds) s.factor
        s.keeps_positive (product (then goal (choice goal)) s.adds (u.own goal here) s.adds_positive) s.factor_positive
        (all_below columns keys (λ j. s.factor *ℤ lexical_view constants next j ≡ s.keeps *ℤ lexical_view constants now j +ℤ (then goal (choice goal) *ℤ s.adds) *ℤ lexical_view constants s.pivot j) within
        (λ j k. seen-sum constants now s.pivot next s.keeps (then goal (choice goal) *ℤ s.adds) s.factor j (ahead_of constants goal sign keys before after then old new choice s j)))
        h s.ahead

    behind_here : (then : ℕ → ℕ → ℤ) (choice : ℕ → ℕ) → IsWholeTableau lines units columns frame then choice → choice goal ≡ old goal → ((k : ℕ) → k < lines → choice k < columns)
        → rank columns lines (is_chosen lines choice) ≡ rank columns lines (is_chosen lines old)
        → IsLexPositive (lexical_view constants (lead (with_sign sign (after goal)) (after goal (new goal)) (with_sign sign (then goal)) (then goal (choice goal)))) keys
    behind_here then choice u same r e =
        let next = lead (with_sign sign (after goal)) (after goal (new goal)) (with_sign sign (then goal)) (then goal (choice goal)) in
        lex_multiple keys (lexical_view constants s.pivot) (lexical_view constants next) (then goal (choice goal) *ℤ s.adds) s.factor
        (product (then goal (choice goal)) s.adds (u.own goal here) s.adds_positive) s.factor_positive
        (all_below columns keys (λ j. s.factor *ℤ lexical_view constants next j ≡ (then goal (choice goal) *ℤ s.adds) *ℤ lexical_view constants s.pivot j) within
        (λ j k. seen-multiple constants s.pivot next (then goal (choice goal) *ℤ s.adds) s.factor j
        (ahead_of constants goal sign keys before after then old new choice s j
        ∙ drop_left s.keeps (lead (with_sign sign (before goal)) (before goal (old goal)) (with_sign sign (then goal)) (then goal (choice goal)) j) ((then goal (choice goal) *ℤ s.adds) *ℤ s.pivot j)
        (scaled (then goal (choice goal)) (before goal (old goal)) (before goal j) (then goal j)
        (same_line lines units columns frame before then old choice goal t u here (sym same)
        (rank-same columns lines (is_chosen lines old) (is_chosen lines choice) counted (count_to-chosen columns lines choice r (distinct_choices lines units columns frame then choice u)) (sym e)) ranges j k)))))
        s.ahead
      where
        drop_left : (p x y : ℤ) → x ≡ pos 0 → p *ℤ x +ℤ y ≡ y
        drop_left p x y e = rw (e, times_zero p) (omega (arith, ints))

        scaled : (e d x y : ℤ) → e *ℤ x -ℤ d *ℤ y ≡ pos 0 → e *ℤ (sign *ℤ x) -ℤ d *ℤ (sign *ℤ y) ≡ pos 0
        scaled e d x y f = out e d x y ∙ ap (λ z. sign *ℤ z) f ∙ times_zero sign
          where
            out : (e d x y : ℤ) → e *ℤ (sign *ℤ x) -ℤ d *ℤ (sign *ℤ y) ≡ sign *ℤ (e *ℤ x -ℤ d *ℤ y)
            out e d x y = simp ring (omega (arith, ints))

-- a run has fewer steps than there are choices
pub HasRun-short : (lines units columns constants goal : ℕ) (sign : ℤ) (frame : ℕ → ℕ → ℤ) (keys : List ℕ) (numbers : ℕ → ℕ → ℤ) (chosen : ℕ → ℕ) (turns : ℕ)
    → IsWholeTableau lines units columns frame numbers chosen → ((k : ℕ) → k < lines → chosen k < columns) → AllByRecursion (λ c. c < columns) keys
    → HasRun lines units columns constants goal sign frame keys numbers chosen turns → turns < choose columns lines
HasRun-short lines units columns constants goal sign frame keys numbers chosen turns t ranges within run =
    let own = rank columns lines (is_chosen lines chosen) in
    let counted : count_to columns (is_chosen lines chosen) ≡ lines = count_to-chosen columns lines chosen ranges (distinct_choices lines units columns frame numbers chosen t) in
    let h : length (own ∷ run.ranks) ≤ choose columns lines =
    length-le_from_distinct_below (own ∷ run.ranks) (choose columns lines)
    (first_distinct own run.ranks (own_fresh lines units columns constants goal sign frame keys numbers chosen turns t ranges within run) run.distinct)
    (λ q e. either_way q own run.ranks e (λ same. subst (λ (n : ℕ). n < choose columns lines) (sym same) (rank-below columns lines (is_chosen lines chosen) counted)) (run.below q)) in
    let e : length run.ranks ≡ turns = run.many in omega arith
