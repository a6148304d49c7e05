-- One place more is eliminated.
use Rattle.std.proofs.Common.{◌≡◌, ℕ, zero, suc, ◌+◌, ◌-◌, ◌<◌, ◌≤◌, List, [], ◌++◌, Option, refl, sym, ◌∙◌, ap, subst, inl, inr, ◌⊎◌, arith, add-one, append_assoc}
use Rattle.std.proofs.lemmas.List.{append-nil}
use Rattle.std.proofs.lemmas.Bool.{cases_lt}
use Rattle.path_expr.specs.declared.link.Link.{Link}
use Rattle.path_expr.specs.PathExpr.{PathExpr, star_of}
use Rattle.path_expr.specs.Algebra.{Keeps}
use Rattle.path_expr.specs.Holds.{IsItemOrOne, node_at}
use Rattle.path_expr.specs.Elimination.{after_elimination, table_after}
use Rattle.path_expr.specs.Operations.{place_operations, eliminations}
use Rattle.path_expr.proofs.HoldLemmas.{IsItemOrOne-kept}
use Rattle.path_expr.proofs.SweepLemmas.{eliminated-past}

pub table_after-more : (nodes : ℕ) (links : List Link) (source count n : ℕ) → n ≡ nodes - suc count → (a b : ℕ) →
    after_elimination n (table_after nodes links source count) a b ≡ table_after nodes links source (count + 1) a b
table_after-more nodes links source count n e a b =
    ap (λ x. after_elimination x (table_after nodes links source count) a b) e
    ∙ ap (λ x. table_after nodes links source x a b) (sym (add-one count))

-- a cell at a place that was eliminated before
pub table_after-kept : (nodes : ℕ) (links : List Link) (source count m : ℕ) → nodes ≤ m + suc count →
    table_after nodes links source count m m ≡ table_after nodes links source (count + 1) m m
table_after-kept nodes links source count m le =
    sym (eliminated-past (table_after nodes links source count) (nodes - suc count) m m (omega arith))
    ∙ table_after-more nodes links source count (nodes - suc count) refl m m

pub eliminations-more : (nodes : ℕ) (links : List Link) (source count n : ℕ) → n ≡ nodes - suc count →
    eliminations nodes links source count ++ place_operations (table_after nodes links source count) n ≡ eliminations nodes links source (count + 1)
eliminations-more nodes links source count n e =
    ap (λ x. eliminations nodes links source count ++ place_operations (table_after nodes links source count) x) e
    ∙ ap (eliminations nodes links source) (sym (add-one count))

pub eliminations-rest : (nodes : ℕ) (links : List Link) (source count total : ℕ) → count ≤ total →
    (rest : List PathExpr) × (eliminations nodes links source count ++ rest ≡ eliminations nodes links source total)
eliminations-rest nodes links source count zero h = ([], append-nil (eliminations nodes links source count) ∙ ap (eliminations nodes links source) (let e : count ≡ 0 = omega arith in e))
eliminations-rest nodes links source count (suc total) h = at (cases_lt total count) (λ le. eliminations-rest nodes links source count total le)
  where
    last : List PathExpr
    last = place_operations (table_after nodes links source total) (nodes - suc total)

    at : (total < count) ⊎ (count ≤ total) → (count ≤ total → (rest : List PathExpr) × (eliminations nodes links source count ++ rest ≡ eliminations nodes links source total)) →
        (rest : List PathExpr) × (eliminations nodes links source count ++ rest ≡ eliminations nodes links source total ++ last)
    at (inl lt) before = ([], append-nil (eliminations nodes links source count) ∙ ap (eliminations nodes links source) (let e : count ≡ suc total = omega arith in e))
    at (inr le) before = let r = before le in
        (r.0 ++ last, sym (append_assoc (eliminations nodes links source count) r.0 last) ∙ ap (λ x. x ++ last) r.1)

-- the turns at the places that were eliminated, when one more is
module _ {A T : Type 0} {fits : A → PathExpr → T → Type 0} {spans : A → T → ℕ → ℕ → Type 0} {ends : A → ℕ → ℕ → ℕ → Type 0} {faults : A → ℕ} {a b : A} where
  pub turns-more : (nodes : ℕ) (links : List Link) (source count n : ℕ) (old new : ℕ → Option T) → (n + count) + 1 ≡ nodes → Keeps fits spans ends faults a b →
      ((m : ℕ) → nodes ≤ m + count → m < nodes → IsItemOrOne fits spans a (star_of (table_after nodes links source count m m)) (old m) (node_at source m)) →
      ((m : ℕ) → (m ≡ n → ⊥) → new m ≡ old m) →
      IsItemOrOne fits spans b (star_of (table_after nodes links source count n n)) (new n) (node_at source n) → (m : ℕ) → nodes ≤ m + (count + 1) → m < nodes →
      IsItemOrOne fits spans b (star_of (table_after nodes links source (count + 1) m m)) (new m) (node_at source m)
  turns-more nodes links source count n old new is keeps before others turn m above below =
      subst (λ p. IsItemOrOne fits spans b (star_of p) (new m) (node_at source m)) (table_after-kept nodes links source count m (omega arith)) (at (cases_lt n m))
    where
      path : PathExpr
      path = star_of (table_after nodes links source count m m)

      at : (n < m) ⊎ (m ≤ n) → IsItemOrOne fits spans b path (new m) (node_at source m)
      at (inl after) = subst (λ o. IsItemOrOne fits spans b path o (node_at source m)) (sym (others m (omega arith)))
          (IsItemOrOne-kept keeps path (old m) (node_at source m) (before m (omega arith) below))
      at (inr upto) = subst (λ k. IsItemOrOne fits spans b (star_of (table_after nodes links source count k k)) (new k) (node_at source k)) (let same : n ≡ m = omega arith in same) turn
