-- A step of a raise: lines of slacks stay lexicographically positive, no two leave at once, and the
-- goal grows.
use Rattle.std.proofs.Common.{◌≡◌, ◌≢◌, ℕ, ◌<◌, Bool, true, false, List, refl, sym, ap, subst, ◌∙◌, arith, ⊎_elim, ℤ, pos, ◌+ℤ◌, ◌-ℤ◌, ◌*ℤ◌, ◌<ℤ◌}
use Rattle.std.specs.Prelude.{neg_ℤ}
use Rattle.std.specs.List.{AllByRecursion}
use Rattle.std.proofs.lemmas.Int.{ints, by_lt_z}
use Rattle.std.proofs.lemmas.Bool.{cases_eq, false≢true}
use Rattle.std.proofs.Math.IntN.{*ℤ_comm}
use Rattle.whole_numbers.proofs.Ring.{ring, one-*ℤ, neg_ℤ-*ℤ}
use Rattle.simplex.specs.Frames.{IsWholeTableau, IsCleared, IsExchange, IsChanged, lexical_view, IsLexPositive}
use Rattle.simplex.proofs.Exchanges.{product, times_zero, factor_positive, difference, IsCombination-difference}
use Rattle.simplex.proofs.Growth.{lex_sum, lex_multiple}
use Rattle.simplex.specs.History.{IsRaising}
use Rattle.simplex.proofs.Runs.{seen-sum, seen-multiple, Grows, all_below}

-- among the lines of slacks that are positive at the column, the line has the least numbers at the
-- keys, over its number there
pub record Leaves (lines constants : ℕ) (slack : ℕ → Bool) (keys : List ℕ) (numbers : ℕ → ℕ → ℤ) (line column : ℕ) : Type 0 where
  pub here : line < lines
  pub is_slack : slack line ≡ true
  pub positive : pos 0 <ℤ numbers line column
  pub least : (i : ℕ) → i < lines → slack i ≡ true → i ≢ line → pos 0 <ℤ numbers i column
      → IsLexPositive (lexical_view constants (difference (numbers line column) (numbers i) (numbers i column) (numbers line))) keys

-- two lines of slacks do not agree at all keys
pub no_tie : (lines units columns constants : ℕ) (frame : ℕ → ℕ → ℤ) (slack : ℕ → Bool) (first : ℕ → ℕ) (keys : List ℕ) (numbers : ℕ → ℕ → ℤ) (chosen : ℕ → ℕ) (start : ℕ → ℕ → ℤ) (p q : ℤ) (i line : ℕ)
    → IsRaising lines units columns constants frame slack first keys numbers chosen → IsWholeTableau lines units columns frame start first
    → ((w : ℕ → ℤ) → AllByRecursion (λ j. lexical_view constants w j ≡ pos 0) keys → (k : ℕ) → k < lines → slack k ≡ true → w (first k) ≡ pos 0)
    → i < lines → line < lines → slack i ≡ true → slack line ≡ true → i ≢ line → chosen i < columns → pos 0 <ℤ p
    → AllByRecursion (λ j. lexical_view constants (difference p (numbers i) q (numbers line)) j ≡ pos 0) keys → ⊥
no_tie lines units columns constants frame slack first keys numbers chosen start p q i line r s covers h g is_slack is_slack_too apart within positive tie =
    clash (p *ℤ numbers i (chosen i)) (q *ℤ numbers line (chosen i)) (product p (numbers i (chosen i)) positive (r.tableau.own i h))
    (ap (λ z. q *ℤ z) (r.tableau.others line i g h (λ e. apart (sym e))) ∙ times_zero q)
    (s.determined (difference p (numbers i) q (numbers line)) (IsCombination-difference lines units columns frame p q (numbers i) (numbers line) (r.tableau.combination i h) (r.tableau.combination line g)) zero (chosen i) within)
  where
    clash : (x y : ℤ) → pos 0 <ℤ x → y ≡ pos 0 → x -ℤ y ≡ pos 0 → ⊥
    clash x y p e f = omega (arith, ints)

    zero : (k : ℕ) → k < lines → difference p (numbers i) q (numbers line) (first k) ≡ pos 0
    zero k kh = go (slack k) refl
      where
        other : (i : ℕ) → slack i ≡ true → slack k ≡ false → i ≢ k
        other i a b e = false≢true (sym b ∙ ap slack (sym e) ∙ a)

        none : (x y : ℤ) → x ≡ pos 0 → y ≡ pos 0 → p *ℤ x -ℤ q *ℤ y ≡ pos 0
        none x y e f = rw (e, f, times_zero p, times_zero q) refl

        go : (b : Bool) → slack k ≡ b → difference p (numbers i) q (numbers line) (first k) ≡ pos 0
        go true e = covers (difference p (numbers i) q (numbers line)) tie k kh e
        go false e =
            ap (difference p (numbers i) q (numbers line)) (sym (r.stays k kh e))
            ∙ none (numbers i (chosen k)) (numbers line (chosen k)) (r.tableau.others i k h kh (other i is_slack e)) (r.tableau.others line k g kh (other line is_slack_too e))

-- ---- a step

-- the leaving line is not turned
not_turned : (x y sign : ℤ) → pos 0 <ℤ x → pos 0 <ℤ y → y ≡ sign *ℤ x → pos 0 <ℤ sign
not_turned x y sign p q e = factor_positive x sign p (subst (λ (z : ℤ). pos 0 <ℤ z) (e ∙ *ℤ_comm sign x) q)

pub ahead_after : (lines units columns constants : ℕ) (frame : ℕ → ℕ → ℤ) (slack : ℕ → Bool) (first : ℕ → ℕ) (keys : List ℕ) (before after : ℕ → ℕ → ℤ) (old : ℕ → ℕ) (line column : ℕ)
    → IsRaising lines units columns constants frame slack first keys before old → AllByRecursion (λ c. c < columns) keys → Leaves lines constants slack keys before line column → IsExchange lines before after line column
    → (i : ℕ) → i < lines → slack i ≡ true → IsLexPositive (lexical_view constants (after i)) keys
ahead_after lines units columns constants frame slack first keys before after old line column r within l x i h is_slack =
    ⊎_elim (λ (e : i ≡ line). subst (λ k. IsLexPositive (lexical_view constants (after k)) keys) (sym e) at_line) (λ other. elsewhere other (x.line_without i h other)) (cases_eq i line)
  where
    sign_positive : pos 0 <ℤ x.sign
    sign_positive = not_turned (before line column) (after line column) x.sign l.positive x.positive (x.upright column)

    at_line : IsLexPositive (lexical_view constants (after line)) keys
    at_line =
        lex_multiple keys (lexical_view constants (before line)) (lexical_view constants (after line)) x.sign (pos 1) sign_positive (omega (arith, ints))
        (all_below columns keys (λ j. pos 1 *ℤ lexical_view constants (after line) j ≡ x.sign *ℤ lexical_view constants (before line) j) within
        (λ j k. seen-multiple constants (before line) (after line) x.sign (pos 1) j (one-*ℤ (after line j) ∙ x.upright j)))
        (r.ahead line l.here l.is_slack)

    elsewhere : i ≢ line → IsCleared (before i) (after line) (after i) column → IsLexPositive (lexical_view constants (after i)) keys
    elsewhere other s =
        by_lt_z (pos 0) (before i column) (λ p. at_positive p)
        (λ p. by_lt_z (before i column) (pos 0) (λ q. at_negative q) (λ q. at_zero (omega (arith, ints))))
      where
        at_positive : pos 0 <ℤ before i column → IsLexPositive (lexical_view constants (after i)) keys
        at_positive p =
            lex_multiple keys (lexical_view constants (difference (before line column) (before i) (before i column) (before line))) (lexical_view constants (after i)) x.sign s.factor sign_positive s.positive
            (all_below columns keys (λ j. s.factor *ℤ lexical_view constants (after i) j ≡ x.sign *ℤ lexical_view constants (difference (before line column) (before i) (before i column) (before line)) j) within
            (λ j k. seen-multiple constants (difference (before line column) (before i) (before i column) (before line)) (after i) x.sign s.factor j
            (s.is j ∙ rw (x.upright column, x.upright j) (together x.sign (before line column) (before i j) (before i column) (before line j)))))
            (l.least i h is_slack other p)
          where
            together : (s p a q b : ℤ) → s *ℤ p *ℤ a -ℤ q *ℤ (s *ℤ b) ≡ s *ℤ (p *ℤ a -ℤ q *ℤ b)
            together s p a q b = simp ring (omega (arith, ints))

        at_negative : before i column <ℤ pos 0 → IsLexPositive (lexical_view constants (after i)) keys
        at_negative q =
            lex_sum keys (lexical_view constants (before i)) (lexical_view constants (after line)) (lexical_view constants (after i)) (after line column) (neg_ℤ (before i column)) s.factor x.positive (omega (arith, ints)) s.positive
            (all_below columns keys (λ j. s.factor *ℤ lexical_view constants (after i) j ≡ after line column *ℤ lexical_view constants (before i) j +ℤ neg_ℤ (before i column) *ℤ lexical_view constants (after line) j) within
            (λ j k. seen-sum constants (before i) (after line) (after i) (after line column) (neg_ℤ (before i column)) s.factor j
            (s.is j ∙ ap (λ z. after line column *ℤ before i j +ℤ z) (sym (neg_ℤ-*ℤ (before i column) (after line j))))))
            (r.ahead i h is_slack) at_line

        at_zero : before i column ≡ pos 0 → IsLexPositive (lexical_view constants (after i)) keys
        at_zero e =
            lex_multiple keys (lexical_view constants (before i)) (lexical_view constants (after i)) (after line column) s.factor x.positive s.positive
            (all_below columns keys (λ j. s.factor *ℤ lexical_view constants (after i) j ≡ after line column *ℤ lexical_view constants (before i) j) within
            (λ j k. seen-multiple constants (before i) (after i) (after line column) s.factor j
            (s.is j ∙ rw e (alone (after line column *ℤ before i j) (after line j)))))
            (r.ahead i h is_slack)
          where
            alone : (z b : ℤ) → z -ℤ pos 0 *ℤ b ≡ z
            alone z b = omega (arith, ints)

-- the goal grows where its number at the entering column has the other sign
pub grows : (lines units columns constants goal : ℕ) (sign : ℤ) (frame : ℕ → ℕ → ℤ) (slack : ℕ → Bool) (first : ℕ → ℕ) (keys : List ℕ) (before after : ℕ → ℕ → ℤ) (old new : ℕ → ℕ) (line column : ℕ)
    → IsRaising lines units columns constants frame slack first keys before old → AllByRecursion (λ c. c < columns) keys → Leaves lines constants slack keys before line column
    → IsExchange lines before after line column → IsChanged lines old new line column
    → goal < lines → slack goal ≡ false → (sign *ℤ before goal column) <ℤ pos 0 → Grows constants goal sign keys before after old new
grows lines units columns constants goal sign frame slack first keys before after old new line column r within l x c here not_slack better = record {
  pivot = after line;
  factor = (x.line_without goal here apart).factor;
  keeps = after line column;
  adds = neg_ℤ (sign *ℤ before goal column);
  factor_positive = (x.line_without goal here apart).positive;
  keeps_positive = x.positive;
  adds_positive = omega (arith, ints);
  line = λ j. through (x.line_without goal here apart).factor (after goal j) (after line column) (before goal j) (before goal column) (after line j) ((x.line_without goal here apart).is j);
  number = ap (λ j. (x.line_without goal here apart).factor *ℤ after goal j) (c.elsewhere goal here apart) ∙ (x.line_without goal here apart).is (old goal)
      ∙ rw (x.upright (old goal), r.tableau.others line goal l.here here (λ e. apart (sym e)), times_zero x.sign, times_zero (before goal column)) (alone (after line column *ℤ before goal (old goal)));
  same = c.elsewhere goal here apart;
  ahead = ahead_after lines units columns constants frame slack first keys before after old line column r within l x line l.here l.is_slack;
}
  where
    apart : goal ≢ line
    apart e = false≢true (sym not_slack ∙ ap slack e ∙ l.is_slack)

    alone : (z : ℤ) → z -ℤ pos 0 ≡ z
    alone z = omega (arith, ints)

    through : (f a p b q t : ℤ) → f *ℤ a ≡ p *ℤ b -ℤ q *ℤ t → f *ℤ (sign *ℤ a) ≡ p *ℤ (sign *ℤ b) +ℤ neg_ℤ (sign *ℤ q) *ℤ t
    through f a p b q t e = out f a ∙ ap (λ z. sign *ℤ z) e ∙ back p b q t
      where
        out : (f a : ℤ) → f *ℤ (sign *ℤ a) ≡ sign *ℤ (f *ℤ a)
        out f a = simp ring (omega (arith, ints))

        back : (p b q t : ℤ) → sign *ℤ (p *ℤ b -ℤ q *ℤ t) ≡ p *ℤ (sign *ℤ b) +ℤ neg_ℤ (sign *ℤ q) *ℤ t
        back p b q t = simp ring (omega (arith, ints))
