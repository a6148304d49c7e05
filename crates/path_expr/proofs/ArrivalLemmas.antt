-- The ways to a place, one more place at a time.
use Rattle.std.proofs.Common.{◌≡◌, ℕ, zero, suc, ◌+◌, Bool, List, [], ◌∷◌, ◌++◌, length, Option, None, refl, sym, ◌∙◌, ap, subst, arith, append_assoc, add-zero, add-one, ◌<◌, ◌≤◌, inl, inr, ◌⊎◌}
use Rattle.std.proofs.lemmas.List.{append-nil}
use Rattle.path_expr.specs.PathExpr.{PathExpr, Zero, seq_of, join_of, star_of}
use Rattle.std.proofs.lemmas.Bool.{cases_lt}
use Rattle.path_expr.specs.Elimination.{Table, arrivals, ways, way_at}
use Rattle.path_expr.proofs.WayWalks.{length-ways}
use Rattle.path_expr.specs.Operations.{seq_operation, join_operation, arrival_operations, arrivals_operations, way_operations}
use Rattle.std.specs.Prelude.{Ok}
use Rattle.path_expr.specs.Runs.{Runs, Makes}
use Rattle.path_expr.specs.Holds.{IsItemOrZero, HoldsAll, node_at}
use Rattle.path_expr.specs.Table.{cell}
use Rattle.path_expr.specs.declared.table.Table.{Table as Cells}
use Rattle.path_expr.proofs.RunLemmas.{Runs-none, Runs-as}
use Rattle.path_expr.proofs.HoldLemmas.{seq_of-Zero, join_of-Zero, seq_operation-Zero, join_operation-Zero, HoldsAll-none}

pub arrival_operations-is : (f : Table) (n : ℕ) (w : PathExpr) (p : ℕ) (b : PathExpr) →
    (seq_operation w (f p n) ++ seq_operation (seq_of w (f p n)) (star_of (f n n))) ++ join_operation b (seq_of (seq_of w (f p n)) (star_of (f n n)))
    ≡ arrival_operations f n w p b
unfolding arrival_operations
arrival_operations-is f n w p b = append_assoc (seq_operation w (f p n)) (seq_operation (seq_of w (f p n)) (star_of (f n n))) (join_operation b (seq_of (seq_of w (f p n)) (star_of (f n n))))

-- where no way comes through place p
pub arrival_operations-through : (f : Table) (n : ℕ) (w : PathExpr) (p : ℕ) (b : PathExpr) → seq_of (seq_of w (f p n)) (star_of (f n n)) ≡ Zero →
    seq_operation w (f p n) ++ seq_operation (seq_of w (f p n)) (star_of (f n n)) ≡ arrival_operations f n w p b
arrival_operations-through f n w p b e =
    sym (append-nil (seq_operation w (f p n) ++ seq_operation (seq_of w (f p n)) (star_of (f n n))))
    ∙ (ap (λ x. (seq_operation w (f p n) ++ seq_operation (seq_of w (f p n)) (star_of (f n n))) ++ x) (sym (ap (join_operation b) e ∙ join_operation-Zero b))
    ∙ arrival_operations-is f n w p b)

pub arrival-none : (f : Table) (n : ℕ) (w : PathExpr) (p : ℕ) (b : PathExpr) → f p n ≡ Zero → seq_of (seq_of w (f p n)) (star_of (f n n)) ≡ Zero
arrival-none f n w p b e = ap (λ x. seq_of (seq_of w x) (star_of (f n n))) e ∙ ap (λ x. seq_of x (star_of (f n n))) (seq_of-Zero w)

pub arrival_operations-none : (f : Table) (n : ℕ) (w : PathExpr) (p : ℕ) (b : PathExpr) → f p n ≡ Zero → [] ≡ arrival_operations f n w p b
arrival_operations-none f n w p b e =
    sym (ap (λ x. seq_operation w x ++ seq_operation (seq_of w x) (star_of (f n n))) e
    ∙ (ap (λ x. x ++ seq_operation (seq_of w Zero) (star_of (f n n))) (seq_operation-Zero w)
    ∙ ap (λ x. seq_operation x (star_of (f n n))) (seq_of-Zero w)))
    ∙ arrival_operations-through f n w p b (arrival-none f n w p b e)

arrivals-append : (f : Table) (n : ℕ) (xs : List PathExpr) (y : PathExpr) (p : ℕ) (b : PathExpr) →
    arrivals f n (xs ++ y ∷ []) p b ≡ join_of (arrivals f n xs p b) (seq_of (seq_of y (f (p + length xs) n)) (star_of (f n n)))
arrivals-append f n [] y p b = ap (λ k. join_of b (seq_of (seq_of y (f k n)) (star_of (f n n)))) (sym (add-zero p))
arrivals-append f n (x ∷ xs) y p b =
    arrivals-append f n xs y (p + 1) (join_of b (seq_of (seq_of x (f p n)) (star_of (f n n))))
    ∙ ap (λ k. join_of (arrivals f n xs (p + 1) (join_of b (seq_of (seq_of x (f p n)) (star_of (f n n))))) (seq_of (seq_of y (f k n)) (star_of (f n n))))
    (let e : (p + 1) + length xs ≡ p + suc (length xs) = omega arith in e)

pub arrivals-more : (f : Table) (n p : ℕ) →
    join_of (arrivals f n (ways f p) 0 Zero) (seq_of (seq_of (way_at f p) (f p n)) (star_of (f n n))) ≡ arrivals f n (ways f (p + 1)) 0 Zero
arrivals-more f n p =
    ap (λ k. join_of (arrivals f n (ways f p) 0 Zero) (seq_of (seq_of (way_at f p) (f k n)) (star_of (f n n)))) (let e : p ≡ 0 + length (ways f p) = omega (arith, length-ways f p) in e)
    ∙ (sym (arrivals-append f n (ways f p) (way_at f p) 0 Zero)
    ∙ ap (λ k. arrivals f n (ways f k) 0 Zero) (sym (add-one p)))

arrivals_operations-append : (f : Table) (n : ℕ) (xs : List PathExpr) (y : PathExpr) (p : ℕ) (b : PathExpr) →
    arrivals_operations f n (xs ++ y ∷ []) p b ≡ arrivals_operations f n xs p b ++ arrival_operations f n y (p + length xs) (arrivals f n xs p b)
arrivals_operations-append f n [] y p b =
    append-nil (arrival_operations f n y p b) ∙ ap (λ k. arrival_operations f n y k b) (sym (add-zero p))
arrivals_operations-append f n (x ∷ xs) y p b =
    let next = join_of b (seq_of (seq_of x (f p n)) (star_of (f n n))) in
    ap (λ z. arrival_operations f n x p b ++ z) (arrivals_operations-append f n xs y (p + 1) (join_of b (seq_of (seq_of x (f p n)) (star_of (f n n)))))
    ∙ (sym (append_assoc (arrival_operations f n x p b) (arrivals_operations f n xs (p + 1) (join_of b (seq_of (seq_of x (f p n)) (star_of (f n n)))))
    (arrival_operations f n y ((p + 1) + length xs) (arrivals f n xs (p + 1) (join_of b (seq_of (seq_of x (f p n)) (star_of (f n n)))))))
    ∙ ap (λ k. (arrival_operations f n x p b ++ arrivals_operations f n xs (p + 1) (join_of b (seq_of (seq_of x (f p n)) (star_of (f n n)))))
    ++ arrival_operations f n y k (arrivals f n xs (p + 1) (join_of b (seq_of (seq_of x (f p n)) (star_of (f n n))))))
    (let e : (p + 1) + length xs ≡ p + suc (length xs) = omega arith in e))

pub arrivals_operations-more : (f : Table) (n p : ℕ) →
    arrivals_operations f n (ways f p) 0 Zero ++ arrival_operations f n (way_at f p) p (arrivals f n (ways f p) 0 Zero) ≡ arrivals_operations f n (ways f (p + 1)) 0 Zero
arrivals_operations-more f n p =
    ap (λ k. arrivals_operations f n (ways f p) 0 Zero ++ arrival_operations f n (way_at f p) k (arrivals f n (ways f p) 0 Zero)) (let e : p ≡ 0 + length (ways f p) = omega (arith, length-ways f p) in e)
    ∙ (sym (arrivals_operations-append f n (ways f p) (way_at f p) 0 Zero)
    ∙ ap (λ k. arrivals_operations f n (ways f k) 0 Zero) (sym (add-one p)))

pub arrivals_operations-rest : (f : Table) (n p total : ℕ) → p ≤ total →
    (rest : List PathExpr) × (arrivals_operations f n (ways f p) 0 Zero ++ rest ≡ arrivals_operations f n (ways f total) 0 Zero)
arrivals_operations-rest f n p zero h = ([], append-nil (arrivals_operations f n (ways f p) 0 Zero) ∙ ap (λ k. arrivals_operations f n (ways f k) 0 Zero) (let e : p ≡ 0 = omega arith in e))
arrivals_operations-rest f n p (suc total) h = at (cases_lt total p) (λ le. arrivals_operations-rest f n p total le)
  where
    last : List PathExpr
    last = arrival_operations f n (way_at f total) total (arrivals f n (ways f total) 0 Zero)

    at : (total < p) ⊎ (p ≤ total) → (p ≤ total → (rest : List PathExpr) × (arrivals_operations f n (ways f p) 0 Zero ++ rest ≡ arrivals_operations f n (ways f total) 0 Zero)) →
        (rest : List PathExpr) × (arrivals_operations f n (ways f p) 0 Zero ++ rest ≡ arrivals_operations f n (ways f (suc total)) 0 Zero)
    at (inl lt) before = ([], append-nil (arrivals_operations f n (ways f p) 0 Zero) ∙ ap (λ k. arrivals_operations f n (ways f k) 0 Zero) (let e : p ≡ suc total = omega arith in e))
    at (inr le) before = let r = before le in (
      r.0 ++ last,
      sym (append_assoc (arrivals_operations f n (ways f p) 0 Zero) r.0 last)
          ∙ (ap (λ x. x ++ last) r.1 ∙ (arrivals_operations-more f n total ∙ ap (λ k. arrivals_operations f n (ways f k) 0 Zero) (add-one total))),
    )

pub way_operations-later : (f : Table) (n : ℕ) → 0 < n → arrivals_operations f n (ways f n) 0 Zero ≡ way_operations f n
way_operations-later f zero h = absurd (omega arith)
way_operations-later f (suc n) h = refl

pub way_at-later : (f : Table) (n : ℕ) → 0 < n → arrivals f n (ways f n) 0 Zero ≡ way_at f n
way_at-later f zero h = absurd (omega arith)
way_at-later f (suc n) h = refl

-- places from which no cell leads to place n
arrivals-skip : (f : Table) (n from p : ℕ) → from ≤ p → ((k : ℕ) → from ≤ k → k < p → f k n ≡ Zero) →
    (arrivals f n (ways f from) 0 Zero ≡ arrivals f n (ways f p) 0 Zero)
    × (arrivals_operations f n (ways f from) 0 Zero ≡ arrivals_operations f n (ways f p) 0 Zero)
arrivals-skip f n from zero le none = let e : from ≡ 0 = omega arith in
    (ap (λ k. arrivals f n (ways f k) 0 Zero) e, ap (λ k. arrivals_operations f n (ways f k) 0 Zero) e)
arrivals-skip f n from (suc p) le none = at (cases_lt p from) (λ ge. arrivals-skip f n from p ge (λ k x y. none k x (omega arith)))
  where
    total : PathExpr
    total = arrivals f n (ways f p) 0 Zero

    at : (p < from) ⊎ (from ≤ p) →
        (from ≤ p → (arrivals f n (ways f from) 0 Zero ≡ arrivals f n (ways f p) 0 Zero)
        × (arrivals_operations f n (ways f from) 0 Zero ≡ arrivals_operations f n (ways f p) 0 Zero)) →
        (arrivals f n (ways f from) 0 Zero ≡ arrivals f n (ways f (suc p)) 0 Zero)
        × (arrivals_operations f n (ways f from) 0 Zero ≡ arrivals_operations f n (ways f (suc p)) 0 Zero)
    at (inl lt) before = let e : from ≡ suc p = omega arith in
        (ap (λ k. arrivals f n (ways f k) 0 Zero) e, ap (λ k. arrivals_operations f n (ways f k) 0 Zero) e)
    at (inr ge) before = let r = before ge in let e = none p ge (omega arith) in (
      r.0 ∙ (sym (join_of-Zero total) ∙ (ap (join_of total) (sym (arrival-none f n (way_at f p) p total e))
          ∙ (arrivals-more f n p ∙ ap (λ k. arrivals f n (ways f k) 0 Zero) (add-one p)))),
      r.1 ∙ (sym (append-nil (arrivals_operations f n (ways f p) 0 Zero))
          ∙ (ap (λ x. arrivals_operations f n (ways f p) 0 Zero ++ x) (arrival_operations-none f n (way_at f p) p total e)
          ∙ (arrivals_operations-more f n p ∙ ap (λ k. arrivals_operations f n (ways f k) 0 Zero) (add-one p)))),
    )

-- the ways go on at the next cell that holds something
module _ {A T F : Type 0} {fits : A → PathExpr → T → Type 0} {spans : A → T → ℕ → ℕ → Type 0} {ends : A → ℕ → ℕ → ℕ → Type 0}
    {is_memory : F → Bool} {faults : A → ℕ} {made : A → List PathExpr → Type 0} {stopped : A → PathExpr → Type 0} {source : ℕ} {start a b : A} {table : Cells T} where
  pub arrivals-at : (f : Table) (n from p : ℕ) (total : Option T) → HoldsAll fits spans source start f table → from ≤ p →
      ((k : ℕ) → from ≤ k → k < p → cell table k n ≡ None) →
      Runs fits spans ends is_memory faults made stopped a b (arrivals_operations f n (ways f from) 0 Zero) None
      × IsItemOrZero fits spans b (arrivals f n (ways f from) 0 Zero) total (node_at source 0) (node_at source n) →
      Runs fits spans ends is_memory faults made stopped a b (arrivals_operations f n (ways f p) 0 Zero) None
      × IsItemOrZero fits spans b (arrivals f n (ways f p) 0 Zero) total (node_at source 0) (node_at source n)
  arrivals-at f n from p total h le none so_far =
      let r = arrivals-skip f n from p le (λ k x y. HoldsAll-none h k n (none k x y)) in (
        Runs-as r.1 so_far.0,
        subst (λ x. IsItemOrZero fits spans b x total (node_at source 0) (node_at source n)) r.0 so_far.1,
      )

-- no cell leads from place p to place n
module _ {A T F : Type 0} {fits : A → PathExpr → T → Type 0} {spans : A → T → ℕ → ℕ → Type 0} {ends : A → ℕ → ℕ → ℕ → Type 0}
    {is_memory : F → Bool} {faults : A → ℕ} {made : A → List PathExpr → Type 0} {stopped : A → PathExpr → Type 0} where
  pub arrive-none : {a : A} (f : Table) (n : ℕ) (w : PathExpr) (p : ℕ) (b : PathExpr) (o : Option T) {from to : ℕ} → f p n ≡ Zero → IsItemOrZero fits spans a b o from to →
      Makes fits spans ends is_memory faults made stopped a a (arrival_operations f n w p b) (Ok o)
      (λ x. IsItemOrZero fits spans a (join_of b (seq_of (seq_of w (f p n)) (star_of (f n n)))) x from to)
  arrive-none {a} f n w p b o {from} {to} e h = record {
    run = Runs-as (arrival_operations-none f n w p b e) (Runs-none a);
    good = subst (λ x. IsItemOrZero fits spans a x o from to) (sym (ap (join_of b) (arrival-none f n w p b e) ∙ join_of-Zero b)) h;
  }
