-- Lists that are built from the front.
use Rattle.std.proofs.Common.{◌≡◌, ℕ, zero, suc, ◌+◌, false, [], ◌∷◌, ◌++◌, refl, ap, ◌∙◌, arith}
use Rattle.flow_graph.specs.Numbers.{no_bits, numbers_from}

numbers_more : (k n : ℕ) → numbers_from k (suc n) ≡ numbers_from k n ++ (k + n) ∷ []
numbers_more k zero = let same : k ≡ k + 0 = omega arith in ap (λ m. m ∷ []) same
numbers_more k (suc n) =
    let same : suc k + n ≡ k + suc n = omega arith in
    ap (λ ms. k ∷ ms) (numbers_more (suc k) n ∙ ap (λ m. numbers_from (suc k) n ++ m ∷ []) same)

pub numbers-push : (n : ℕ) → numbers_from 0 (n + 1) ≡ numbers_from 0 n ++ n ∷ []
numbers-push n =
    let next : n + 1 ≡ suc n = omega arith in let same : 0 + n ≡ n = omega arith in
    ap (numbers_from 0) next ∙ numbers_more 0 n ∙ ap (λ m. numbers_from 0 n ++ m ∷ []) same

bits_more : (n : ℕ) → no_bits (suc n) ≡ no_bits n ++ false ∷ []
bits_more zero = refl
bits_more (suc n) = ap (λ row. false ∷ row) (bits_more n)

pub no_bits-push : (n : ℕ) → no_bits (n + 1) ≡ no_bits n ++ false ∷ []
no_bits-push n = let next : n + 1 ≡ suc n = omega arith in ap no_bits next ∙ bits_more n

pub ruleset pushes = (numbers-push, no_bits-push)
