use Rattle.std.proofs.Common.{◌≡◌, ℕ, zero, suc, ◌+◌, List, [], ◌∷◌, ◌++◌, ap, sym, ◌∙◌, arith}
use Rattle.std.specs.List.{range_with_len}
use Rattle.test_formulas.proofs.vocabularies.numbers_below.Goals as goal

range-last : (a n : ℕ) → range_with_len a (n + 1) ≡ range_with_len a n ++ (a + n) ∷ []
range-last a zero = ap (λ n. n ∷ []) (omega arith)
range-last a (suc n) =
    let same : a + 1 + n ≡ a + suc n = omega arith in
    let longer : suc n + 1 ≡ suc (n + 1) = omega arith in
    ap (range_with_len a) longer ∙ ap (λ l. a ∷ l) (range-last (a + 1) n ∙ ap (λ m. range_with_len (a + 1) n ++ m ∷ []) same)

alone : (n : ℕ) → 0 + n ≡ n
alone n = omega arith

next : (n : ℕ) (made more : List ℕ) → made ≡ range_with_len 0 n → more ≡ made ++ n ∷ [] → more ≡ range_with_len 0 (n + 1)
next n made more is pushed = pushed ∙ (λ i. is i ++ sym (alone n) i ∷ []) ∙ sym (range-last 0 n)

pub loop-n-preserved : goal.loop-n-preserved
loop-n-preserved c = next c.loop-n.n c.loop-n.numbers c.push.new.self c.loop-n.invariant c.in_ok-push.ensures.ok
