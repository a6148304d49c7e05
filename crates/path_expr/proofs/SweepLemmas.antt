-- Tables in the midst of an elimination.
use Rattle.std.proofs.Common.{◌≡◌, ℕ, zero, suc, ◌+◌, ◌<◌, ◌≤◌, Bool, true, false, cond, ◌&&◌, eqb, ltb, List, [], ◌++◌, Option, None, refl, sym, ◌∙◌, ap, subst, inl, inr, ◌⊎◌, arith, add-one, eqb-true, eq-eqb, append_assoc}
use Rattle.std.proofs.lemmas.Bool.{cases_Bool, cases_order, cases_eq, cases_lt, lt-ltb, le-ltb, ltb-true, ne_eqb, cond-true, cond-false, and_parts, and_left}
use Rattle.std.proofs.lemmas.List.{append-nil}
use Rattle.path_expr.specs.PathExpr.{PathExpr, Zero, seq_of, join_of, star_of}
use Rattle.path_expr.specs.Operations.{star_operation, seq_operation, join_operation, below, cell_operations, row_operations, place_operations}
use Rattle.path_expr.specs.Elimination.{after_elimination}
use Rattle.path_expr.specs.Elimination.{Table as Cells}
use Rattle.path_expr.specs.Sweeps.{with_cell, row_written, rows_written, step_operations, swept, rows_swept}
use Rattle.path_expr.specs.Runs.{Runs}
use Rattle.path_expr.specs.Holds.{IsItemOrZero, HoldsAll, node_at}
use Rattle.path_expr.specs.Table.{cell}
use Rattle.path_expr.specs.declared.table.Table.{Table}
use Rattle.path_expr.proofs.RunLemmas.{Runs-then, Runs-as}
use Rattle.path_expr.proofs.HoldLemmas.{join_of-Zero, seq_of-Zero, seq_operation-Zero, join_operation-Zero, HoldsAll-none}

module _ {A T : Type 0} {fits : A → PathExpr → T → Type 0} {spans : A → T → ℕ → ℕ → Type 0} where
  -- the same path expressions, otherwise written
  pub HoldsAll-as : {a : A} {source : ℕ} {f g : Cells} {table : Table T} → ((i j : ℕ) → f i j ≡ g i j) →
      HoldsAll fits spans source a f table → HoldsAll fits spans source a g table
  HoldsAll-as {a} {source} {f} {g} {table} same h = record {
    at = λ i j.
        subst (λ p. IsItemOrZero fits spans a p (cell table i j) (node_at source i) (node_at source j)) (same i j) (h.at i j);
  }

  -- a write to one cell
  pub HoldsAll-written : {a : A} {source : ℕ} {f : Cells} {table : Table T} (new : Table T) (i j : ℕ) (p : PathExpr) (o : Option T) →
      HoldsAll fits spans source a f table → IsItemOrZero fits spans a p o (node_at source i) (node_at source j) →
      ((k l : ℕ) → cell new k l ≡ cond (eqb k i && eqb l j) o (cell table k l)) →
      HoldsAll fits spans source a (with_cell f i j p) new
  HoldsAll-written {a} {source} {f} {table} new i j p o h is w = record { at = λ k l. at k l (cases_Bool (eqb k i && eqb l j)) }
    where
      at : (k l : ℕ) → ((eqb k i && eqb l j) ≡ true) ⊎ ((eqb k i && eqb l j) ≡ false) →
          IsItemOrZero fits spans a (cond (eqb k i && eqb l j) p (f k l)) (cell new k l) (node_at source k) (node_at source l)
      at k l (inl e) =
          let parts = and_parts (eqb k i) (eqb l j) e in
          let ki : k ≡ i = eqb-true k i parts.0 in let lj : l ≡ j = eqb-true l j parts.1 in
          subst (λ q. IsItemOrZero fits spans a q (cell new k l) (node_at source k) (node_at source l)) (sym (cond-true (eqb k i && eqb l j) p (f k l) e))
          (subst (λ q. IsItemOrZero fits spans a p q (node_at source k) (node_at source l)) (sym (w k l ∙ cond-true (eqb k i && eqb l j) o (cell table k l) e))
          (subst (λ m. IsItemOrZero fits spans a p o (node_at source m) (node_at source l)) (sym ki)
          (subst (λ m. IsItemOrZero fits spans a p o (node_at source i) (node_at source m)) (sym lj) is)))
      at k l (inr e) =
          subst (λ q. IsItemOrZero fits spans a q (cell new k l) (node_at source k) (node_at source l)) (sym (cond-false (eqb k i && eqb l j) p (f k l) e))
          (subst (λ q. IsItemOrZero fits spans a (f k l) q (node_at source k) (node_at source l)) (sym (w k l ∙ cond-false (eqb k i && eqb l j) o (cell table k l) e))
          (h.at k l))

-- what is taken away and then written is written
pub cond-twice : {X : Type 0} (b : Bool) (x y z : X) → cond b x (cond b y z) ≡ cond b x z
cond-twice true x y z = refl
cond-twice false x y z = refl

-- a cell that is written as it was
pub written-same : (f : Cells) (i j : ℕ) (p : PathExpr) → p ≡ f i j → (a b : ℕ) → f a b ≡ with_cell f i j p a b
written-same f i j p e a b = at (cases_Bool (eqb a i && eqb b j))
  where
    at : ((eqb a i && eqb b j) ≡ true) ⊎ ((eqb a i && eqb b j) ≡ false) → f a b ≡ cond (eqb a i && eqb b j) p (f a b)
    at (inl t) = let parts = and_parts (eqb a i) (eqb b j) t in
        ap (λ k. f k b) (eqb-true a i parts.0) ∙ (ap (f i) (eqb-true b j parts.1) ∙ (sym e ∙ sym (cond-true (eqb a i && eqb b j) p (f a b) t)))
    at (inr t) = sym (cond-false (eqb a i && eqb b j) p (f a b) t)

pub step-Zero : (f : Cells) (way : PathExpr) (n i j : ℕ) → f n j ≡ Zero → join_of (f i j) (seq_of way (f n j)) ≡ f i j
step-Zero f way n i j e = ap (λ x. join_of (f i j) (seq_of way x)) e ∙ (ap (join_of (f i j)) (seq_of-Zero way) ∙ join_of-Zero (f i j))

pub step_operations-Zero : (f : Cells) (way : PathExpr) (n i j : ℕ) → f n j ≡ Zero → [] ≡ step_operations f way n i j
step_operations-Zero f way n i j e = sym (
    ap (λ x. seq_operation way x ++ join_operation (f i j) (seq_of way x)) e
    ∙ (ap (λ x. x ++ join_operation (f i j) (seq_of way Zero)) (seq_operation-Zero way)
    ∙ (ap (join_operation (f i j)) (seq_of-Zero way) ∙ join_operation-Zero (f i j))))

-- one column more
pub sweep-cond : (P : ℕ → PathExpr) (x : PathExpr) (ai : Bool) (b j : ℕ) →
    cond (ai && eqb b j) (P j) (cond (ai && ltb b j) (P b) x) ≡ cond (ai && ltb b (j + 1)) (P b) x
sweep-cond P x false b j = refl
sweep-cond P x true b j = at (cases_order b j)
  where
    at : (b ≡ j) ⊎ ((b < j) ⊎ (j < b)) → cond (eqb b j) (P j) (cond (ltb b j) (P b) x) ≡ cond (ltb b (j + 1)) (P b) x
    at (inl e) = cond-true (eqb b j) (P j) _ (eq-eqb b j e) ∙ (ap P (sym e) ∙ sym (cond-true (ltb b (j + 1)) (P b) x (lt-ltb b (j + 1) (omega arith))))
    at (inr (inl lt)) = cond-false (eqb b j) (P j) _ (ne_eqb b j (omega arith)) ∙ (cond-true (ltb b j) (P b) x (lt-ltb b j lt) ∙ sym (cond-true (ltb b (j + 1)) (P b) x (lt-ltb b (j + 1) (omega arith))))
    at (inr (inr gt)) = cond-false (eqb b j) (P j) _ (ne_eqb b j (omega arith)) ∙ (cond-false (ltb b j) (P b) x (le-ltb b j (omega arith)) ∙ sym (cond-false (ltb b (j + 1)) (P b) x (le-ltb b (j + 1) (omega arith))))

pub swept-here : (f : Cells) (way : PathExpr) (n i j : ℕ) → swept f way n i j i j ≡ f i j
swept-here f way n i j = cond-false (eqb i i && ltb j j) _ (f i j) (ap (λ x. eqb i i && x) (le-ltb j j (omega arith)) ∙ and-false (eqb i i))
  where
    and-false : (b : Bool) → (b && false) ≡ false
    and-false true = refl
    and-false false = refl

pub swept-other : (f : Cells) (way : PathExpr) (n i j a b : ℕ) → (a ≡ i → ⊥) → swept f way n i j a b ≡ f a b
swept-other f way n i j a b ne = cond-false (eqb a i && ltb b j) _ (f a b) (and_left (eqb a i) (ltb b j) (ne_eqb a i ne))

pub swept-none : (f : Cells) (way : PathExpr) (n i a b : ℕ) → f a b ≡ swept f way n i 0 a b
swept-none f way n i a b = sym (cond-false (eqb a i && ltb b 0) _ (f a b) (ap (λ x. eqb a i && x) (le-ltb b 0 (omega arith)) ∙ and-false (eqb a i)))
  where
    and-false : (b : Bool) → (b && false) ≡ false
    and-false true = refl
    and-false false = refl

pub swept-more : (f : Cells) (way : PathExpr) (n i j : ℕ) → (n ≡ i → ⊥) → (a b : ℕ) →
    with_cell (swept f way n i j) i j (join_of (swept f way n i j i j) (seq_of way (swept f way n i j n j))) a b ≡ swept f way n i (j + 1) a b
swept-more f way n i j ne a b =
    ap (λ x. cond (eqb a i && eqb b j) (join_of x (seq_of way (swept f way n i j n j))) (swept f way n i j a b)) (swept-here f way n i j)
    ∙ (ap (λ x. cond (eqb a i && eqb b j) (join_of (f i j) (seq_of way x)) (swept f way n i j a b)) (swept-other f way n i j n j ne)
    ∙ sweep-cond (λ k. join_of (f i k) (seq_of way (f n k))) (f a b) (eqb a i) b j)

-- columns that are written as they were
pub row_written-skip : (f : Cells) (i from j : ℕ) (row : ℕ → PathExpr) → from ≤ j → ((k : ℕ) → from ≤ k → k < j → row k ≡ f i k) → (a b : ℕ) →
    row_written f i from row a b ≡ row_written f i j row a b
row_written-skip f i from j row le same a b = at (cases_eq a i)
  where
    columns : (a ≡ i) → (b < from) ⊎ (from ≤ b) → (b < j) ⊎ (j ≤ b) → cond (ltb b from) (row b) (f a b) ≡ cond (ltb b j) (row b) (f a b)
    columns e (inl x) y = cond-true (ltb b from) (row b) (f a b) (lt-ltb b from x) ∙ sym (cond-true (ltb b j) (row b) (f a b) (lt-ltb b j (omega arith)))
    columns e (inr x) (inl y) = cond-false (ltb b from) (row b) (f a b) (le-ltb b from x)
        ∙ (ap (λ k. f k b) e ∙ (sym (same b x y) ∙ sym (cond-true (ltb b j) (row b) (f a b) (lt-ltb b j y))))
    columns e (inr x) (inr y) = cond-false (ltb b from) (row b) (f a b) (le-ltb b from x) ∙ sym (cond-false (ltb b j) (row b) (f a b) (le-ltb b j y))

    at : (a ≡ i) ⊎ (a ≡ i → ⊥) → cond (eqb a i && ltb b from) (row b) (f a b) ≡ cond (eqb a i && ltb b j) (row b) (f a b)
    at (inl e) = ap (λ x. cond (x && ltb b from) (row b) (f a b)) (eq-eqb a i e)
        ∙ (columns e (cases_lt b from) (cases_lt b j) ∙ sym (ap (λ x. cond (x && ltb b j) (row b) (f a b)) (eq-eqb a i e)))
    at (inr ne) = ap (λ x. cond (x && ltb b from) (row b) (f a b)) (ne_eqb a i ne) ∙ sym (ap (λ x. cond (x && ltb b j) (row b) (f a b)) (ne_eqb a i ne))

-- rows that are written as they were
pub rows_written-skip : (f : Cells) (from i : ℕ) (other : Cells) → from ≤ i → ((k b : ℕ) → from ≤ k → k < i → other k b ≡ f k b) → (a b : ℕ) →
    rows_written f from other a b ≡ rows_written f i other a b
rows_written-skip f from i other le same a b = at (cases_lt a from) (cases_lt a i)
  where
    at : (a < from) ⊎ (from ≤ a) → (a < i) ⊎ (i ≤ a) → cond (ltb a from) (other a b) (f a b) ≡ cond (ltb a i) (other a b) (f a b)
    at (inl x) y = cond-true (ltb a from) (other a b) (f a b) (lt-ltb a from x) ∙ sym (cond-true (ltb a i) (other a b) (f a b) (lt-ltb a i (omega arith)))
    at (inr x) (inl y) = cond-false (ltb a from) (other a b) (f a b) (le-ltb a from x)
        ∙ (sym (same a b x y) ∙ sym (cond-true (ltb a i) (other a b) (f a b) (lt-ltb a i y)))
    at (inr x) (inr y) = cond-false (ltb a from) (other a b) (f a b) (le-ltb a from x) ∙ sym (cond-false (ltb a i) (other a b) (f a b) (le-ltb a i y))

-- places at which there is nothing to do
pub below-skip : (ops : ℕ → List PathExpr) (from j : ℕ) → from ≤ j → ((k : ℕ) → from ≤ k → k < j → [] ≡ ops k) → below ops from ≡ below ops j
below-skip ops from zero le none = ap (below ops) (let e : from ≡ 0 = omega arith in e)
below-skip ops from (suc j) le none = at (cases_lt j from) (λ ge. below-skip ops from j ge (λ k x y. none k x (omega arith)))
  where
    at : (j < from) ⊎ (from ≤ j) → (from ≤ j → below ops from ≡ below ops j) → below ops from ≡ below ops j ++ ops j
    at (inl lt) before = ap (below ops) (let e : from ≡ suc j = omega arith in e)
    at (inr ge) before = before ge ∙ (sym (append-nil (below ops j)) ∙ ap (λ x. below ops j ++ x) (none j ge (omega arith)))

pub step_operations-swept : (f : Cells) (way : PathExpr) (n i j : ℕ) → (n ≡ i → ⊥) → step_operations (swept f way n i j) way n i j ≡ step_operations f way n i j
step_operations-swept f way n i j ne =
    ap (λ x. seq_operation way x ++ join_operation (swept f way n i j i j) (seq_of way x)) (swept-other f way n i j n j ne)
    ∙ ap (λ x. seq_operation way (f n j) ++ join_operation x (seq_of way (f n j))) (swept-here f way n i j)

pub below-more : (ops : ℕ → List PathExpr) (j : ℕ) → below ops j ++ ops j ≡ below ops (j + 1)
below-more ops j = ap (below ops) (sym (add-one j))

-- what comes behind the operations up to j
pub below-rest : (ops : ℕ → List PathExpr) (j n : ℕ) → j < n → (rest : List PathExpr) × ((below ops j ++ ops j) ++ rest ≡ below ops n)
below-rest ops j zero h = absurd (omega arith)
below-rest ops j (suc n) h = at (cases_lt j n) (λ lt. below-rest ops j n lt)
  where
    at : (j < n) ⊎ (n ≤ j) → ((j < n) → (rest : List PathExpr) × ((below ops j ++ ops j) ++ rest ≡ below ops n)) →
        (rest : List PathExpr) × ((below ops j ++ ops j) ++ rest ≡ below ops n ++ ops n)
    at (inl lt) before = let r = before lt in (r.0 ++ ops n, sym (append_assoc (below ops j ++ ops j) r.0 (ops n)) ∙ ap (λ x. x ++ ops n) r.1)
    at (inr le) before = let e : j ≡ n = omega arith in ([], append-nil (below ops j ++ ops j) ∙ ap (λ k. below ops k ++ ops k) e)

-- the same operations below n
pub below-as : (f h : ℕ → List PathExpr) (n : ℕ) → ((j : ℕ) → j < n → f j ≡ h j) → below f n ≡ below h n
below-as f h zero same = refl
below-as f h (suc n) same = ap (λ x. x ++ f n) (below-as f h n (λ j lt. same j (omega arith))) ∙ ap (λ x. below h n ++ x) (same n (omega arith))

-- the operations of a row, by those of its cells
pub row_operations-is : (f : Cells) (n i : ℕ) →
    seq_operation (f i n) (star_of (f n n)) ++ below (step_operations f (seq_of (f i n) (star_of (f n n))) n i) n ≡ row_operations f n i
unfolding row_operations cell_operations
row_operations-is f n i = refl

steps-Zero : (f : Cells) (n i : ℕ) (m : ℕ) → [] ≡ below (step_operations f Zero n i) m
steps-Zero f n i zero = refl
steps-Zero f n i (suc m) = steps-Zero f n i m ∙ (sym (append-nil (below (step_operations f Zero n i) m))
    ∙ ap (λ x. below (step_operations f Zero n i) m ++ x) (sym (join_operation-Zero (f i m))))

-- a row from which no path leads to the place
pub row_operations-Zero : (f : Cells) (n i : ℕ) → f i n ≡ Zero → [] ≡ row_operations f n i
row_operations-Zero f n i e = steps-Zero f n i n
    ∙ (ap (λ x. seq_operation x (star_of (f n n)) ++ below (step_operations f (seq_of x (star_of (f n n))) n i) n) (sym e)
    ∙ row_operations-is f n i)

pub swept-Zero : (f : Cells) (n i : ℕ) → f i n ≡ Zero → (a b : ℕ) → f a b ≡ swept f (seq_of (f i n) (star_of (f n n))) n i n a b
swept-Zero f n i e a b = at (cases_Bool (eqb a i && ltb b n))
  where
    at : ((eqb a i && ltb b n) ≡ true) ⊎ ((eqb a i && ltb b n) ≡ false) →
        f a b ≡ cond (eqb a i && ltb b n) (join_of (f i b) (seq_of (seq_of (f i n) (star_of (f n n))) (f n b))) (f a b)
    at (inl t) = let parts = and_parts (eqb a i) (ltb b n) t in
        ap (λ k. f k b) (eqb-true a i parts.0)
        ∙ (sym (join_of-Zero (f i b)) ∙ (ap (λ x. join_of (f i b) (seq_of (seq_of x (star_of (f n n))) (f n b))) (sym e)
        ∙ sym (cond-true (eqb a i && ltb b n) _ (f a b) t)))
    at (inr t) = sym (cond-false (eqb a i && ltb b n) _ (f a b) t)

pub rows_swept-later : (f : Cells) (n i a b : ℕ) → i ≤ a → rows_swept f n i a b ≡ f a b
rows_swept-later f n i a b le = cond-false (ltb a i) (after_elimination n f a b) (f a b) (le-ltb a i le)

pub rows_swept-none : (f : Cells) (n a b : ℕ) → f a b ≡ rows_swept f n 0 a b
rows_swept-none f n a b = sym (rows_swept-later f n 0 a b (omega arith))

eliminated-row : (f : Cells) (n i b : ℕ) → i < n → after_elimination n f i b ≡ cond (ltb b n) (join_of (f i b) (seq_of (seq_of (f i n) (star_of (f n n))) (f n b))) (f i b)
unfolding after_elimination
eliminated-row f n i b lt = ap (λ x. cond (x && ltb b n) (join_of (f i b) (seq_of (seq_of (f i n) (star_of (f n n))) (f n b))) (f i b)) (lt-ltb i n lt)

pub eliminated-past : (f : Cells) (n a b : ℕ) → n ≤ a → after_elimination n f a b ≡ f a b
unfolding after_elimination
eliminated-past f n a b le = ap (λ x. cond (x && ltb b n) (join_of (f a b) (seq_of (seq_of (f a n) (star_of (f n n))) (f n b))) (f a b)) (le-ltb a n le)

pub rows_swept-all : (f : Cells) (n a b : ℕ) → rows_swept f n n a b ≡ after_elimination n f a b
rows_swept-all f n a b = at (cases_lt a n)
  where
    at : (a < n) ⊎ (n ≤ a) → cond (ltb a n) (after_elimination n f a b) (f a b) ≡ after_elimination n f a b
    at (inl lt) = cond-true (ltb a n) (after_elimination n f a b) (f a b) (lt-ltb a n lt)
    at (inr le) = cond-false (ltb a n) (after_elimination n f a b) (f a b) (le-ltb a n le) ∙ sym (eliminated-past f n a b le)

-- two tables that agree on rows i and n
module _ (f g : Cells) (n i : ℕ) (on_i : (b : ℕ) → g i b ≡ f i b) (on_n : (b : ℕ) → g n b ≡ f n b) where
  way-as : seq_of (g i n) (star_of (g n n)) ≡ seq_of (f i n) (star_of (f n n))
  way-as = ap (λ x. seq_of x (star_of (g n n))) (on_i n) ∙ ap (λ x. seq_of (f i n) (star_of x)) (on_n n)

  step_operations-as : (w : PathExpr) (j : ℕ) → step_operations g w n i j ≡ step_operations f w n i j
  step_operations-as w j =
      ap (λ x. seq_operation w x ++ join_operation (g i j) (seq_of w x)) (on_n j)
      ∙ ap (λ x. seq_operation w (f n j) ++ join_operation x (seq_of w (f n j))) (on_i j)

  pub row_operations-as : row_operations g n i ≡ row_operations f n i
  row_operations-as = sym (row_operations-is g n i)
      ∙ (ap (λ x. seq_operation (g i n) (star_of (g n n)) ++ below (step_operations g x n i) n) way-as
      ∙ (ap (λ x. seq_operation x (star_of (g n n)) ++ below (step_operations g (seq_of (f i n) (star_of (f n n))) n i) n) (on_i n)
      ∙ (ap (λ x. seq_operation (f i n) (star_of x) ++ below (step_operations g (seq_of (f i n) (star_of (f n n))) n i) n) (on_n n)
      ∙ (ap (λ x. seq_operation (f i n) (star_of (f n n)) ++ x)
      (below-as (step_operations g (seq_of (f i n) (star_of (f n n))) n i) (step_operations f (seq_of (f i n) (star_of (f n n))) n i) n (λ j lt. step_operations-as (seq_of (f i n) (star_of (f n n))) j))
      ∙ row_operations-is f n i))))

  pub swept-as : (b : ℕ) → b < n → join_of (g i b) (seq_of (seq_of (g i n) (star_of (g n n))) (g n b)) ≡ join_of (f i b) (seq_of (seq_of (f i n) (star_of (f n n))) (f n b))
  swept-as b lt = ap (λ x. join_of (g i b) (seq_of x (g n b))) way-as
      ∙ (ap (λ x. join_of x (seq_of (seq_of (f i n) (star_of (f n n))) (g n b))) (on_i b)
      ∙ ap (λ x. join_of (f i b) (seq_of (seq_of (f i n) (star_of (f n n))) x)) (on_n b))

pub row_operations-rows : (f : Cells) (n i : ℕ) → i < n → row_operations (rows_swept f n i) n i ≡ row_operations f n i
row_operations-rows f n i lt = row_operations-as f (rows_swept f n i) n i
    (λ b. rows_swept-later f n i i b (omega arith)) (λ b. rows_swept-later f n i n b (omega arith))

pub rows_swept-more : (f : Cells) (n i : ℕ) → i < n → (a b : ℕ) →
    swept (rows_swept f n i) (seq_of (rows_swept f n i i n) (star_of (rows_swept f n i n n))) n i n a b ≡ rows_swept f n (i + 1) a b
rows_swept-more f n i lt a b = at (cases_order a i)
  where
    g : Cells
    g = rows_swept f n i

    way : PathExpr
    way = seq_of (g i n) (star_of (g n n))

    here : (ltb b n ≡ true) ⊎ (ltb b n ≡ false) → cond (ltb b n) (join_of (g i b) (seq_of way (g n b))) (g i b) ≡ cond (ltb b n) (join_of (f i b) (seq_of (seq_of (f i n) (star_of (f n n))) (f n b))) (f i b)
    here (inl t) = ap (λ x. cond x (join_of (g i b) (seq_of way (g n b))) (g i b)) t
        ∙ (swept-as f g n i (λ c. rows_swept-later f n i i c (omega arith)) (λ c. rows_swept-later f n i n c (omega arith)) b (ltb-true b n t)
        ∙ ap (λ x. cond x (join_of (f i b) (seq_of (seq_of (f i n) (star_of (f n n))) (f n b))) (f i b)) (sym t))
    here (inr t) = ap (λ x. cond x (join_of (g i b) (seq_of way (g n b))) (g i b)) t
        ∙ (rows_swept-later f n i i b (omega arith)
        ∙ ap (λ x. cond x (join_of (f i b) (seq_of (seq_of (f i n) (star_of (f n n))) (f n b))) (f i b)) (sym t))

    at : (a ≡ i) ⊎ ((a < i) ⊎ (i < a)) → cond (eqb a i && ltb b n) (join_of (g i b) (seq_of way (g n b))) (g a b) ≡ cond (ltb a (i + 1)) (after_elimination n f a b) (f a b)
    at (inl e) = ap (λ x. cond (x && ltb b n) (join_of (g i b) (seq_of way (g n b))) (g a b)) (eq-eqb a i e)
        ∙ (ap (λ x. cond (ltb b n) (join_of (g i b) (seq_of way (g n b))) (g x b)) e
        ∙ (here (cases_Bool (ltb b n))
        ∙ (sym (eliminated-row f n i b lt)
        ∙ (ap (λ x. after_elimination n f x b) (sym e)
        ∙ sym (cond-true (ltb a (i + 1)) (after_elimination n f a b) (f a b) (lt-ltb a (i + 1) (omega arith)))))))
    at (inr (inl less)) = cond-false (eqb a i && ltb b n) _ (g a b) (and_left (eqb a i) (ltb b n) (ne_eqb a i (omega arith)))
        ∙ (cond-true (ltb a i) (after_elimination n f a b) (f a b) (lt-ltb a i less)
        ∙ sym (cond-true (ltb a (i + 1)) (after_elimination n f a b) (f a b) (lt-ltb a (i + 1) (omega arith))))
    at (inr (inr more)) = cond-false (eqb a i && ltb b n) _ (g a b) (and_left (eqb a i) (ltb b n) (ne_eqb a i (omega arith)))
        ∙ (cond-false (ltb a i) (after_elimination n f a b) (f a b) (le-ltb a i (omega arith))
        ∙ sym (cond-false (ltb a (i + 1)) (after_elimination n f a b) (f a b) (le-ltb a (i + 1) (omega arith))))

pub place_operations-is : (f : Cells) (n : ℕ) → star_operation (f n n) ++ below (row_operations f n) n ≡ place_operations f n
unfolding place_operations
place_operations-is f n = refl

-- a row from which no path leads to the place is as it was
eliminated-Zero : (f : Cells) (n i b : ℕ) → i < n → f i n ≡ Zero → after_elimination n f i b ≡ f i b
eliminated-Zero f n i b lt e = eliminated-row f n i b lt
    ∙ (ap (λ x. cond (ltb b n) (join_of (f i b) (seq_of (seq_of x (star_of (f n n))) (f n b))) (f i b)) e
    ∙ (ap (λ x. cond (ltb b n) x (f i b)) (join_of-Zero (f i b)) ∙ either (ltb b n)))
  where
    either : (t : Bool) → cond t (f i b) (f i b) ≡ f i b
    either true = refl
    either false = refl

-- an elimination goes on at the next cell that holds something
module _ {A T F : Type 0} {fits : A → PathExpr → T → Type 0} {spans : A → T → ℕ → ℕ → Type 0} {ends : A → ℕ → ℕ → ℕ → Type 0}
    {is_memory : F → Bool} {faults : A → ℕ} {made : A → List PathExpr → Type 0} {stopped : A → PathExpr → Type 0} {source : ℕ} {a b : A} where
  pub cells-at : {table : Table T} (f : Cells) (w : PathExpr) (n i from j : ℕ) → i < n → from ≤ j → ((k : ℕ) → from ≤ k → k < j → cell table n k ≡ None) →
      Runs fits spans ends is_memory faults made stopped a b (below (step_operations f w n i) from) None × HoldsAll fits spans source b (swept f w n i from) table →
      Runs fits spans ends is_memory faults made stopped a b (below (step_operations f w n i) j) None × HoldsAll fits spans source b (swept f w n i j) table
  cells-at {table} f w n i from j lt le none so_far = (
    Runs-as (below-skip (step_operations f w n i) from j le (λ k x y. step_operations-Zero f w n i k (zero_at k x y))) so_far.0,
    HoldsAll-as (row_written-skip f i from j (λ k. join_of (f i k) (seq_of w (f n k))) le (λ k x y. step-Zero f w n i k (zero_at k x y))) so_far.1,
  )
    where
      zero_at : (k : ℕ) → from ≤ k → k < j → f n k ≡ Zero
      zero_at k x y = sym (swept-other f w n i from n k (omega arith)) ∙ HoldsAll-none so_far.1 n k (none k x y)

  pub cells-more : {c : A} {new : Table T} (f : Cells) (w : PathExpr) (n i j : ℕ) → i < n →
      Runs fits spans ends is_memory faults made stopped a b (below (step_operations f w n i) j) None →
      Runs fits spans ends is_memory faults made stopped b c (step_operations (swept f w n i j) w n i j) None →
      HoldsAll fits spans source c (with_cell (swept f w n i j) i j (join_of (swept f w n i j i j) (seq_of w (swept f w n i j n j)))) new →
      Runs fits spans ends is_memory faults made stopped a c (below (step_operations f w n i) (j + 1)) None × HoldsAll fits spans source c (swept f w n i (j + 1)) new
  cells-more f w n i j lt run here h = (
    Runs-as (below-more (step_operations f w n i) j) (Runs-then run (Runs-as (step_operations-swept f w n i j (omega arith)) here)),
    HoldsAll-as (swept-more f w n i j (omega arith)) h,
  )

  pub rows-at : {table : Table T} (f : Cells) (n from i : ℕ) → from ≤ i → i ≤ n → ((k : ℕ) → from ≤ k → k < i → cell table k n ≡ None) →
      Runs fits spans ends is_memory faults made stopped a b (star_operation (f n n) ++ below (row_operations f n) from) None × HoldsAll fits spans source b (rows_swept f n from) table →
      Runs fits spans ends is_memory faults made stopped a b (star_operation (f n n) ++ below (row_operations f n) i) None × HoldsAll fits spans source b (rows_swept f n i) table
  rows-at {table} f n from i le within none so_far = (
    Runs-as (ap (λ x. star_operation (f n n) ++ x) (below-skip (row_operations f n) from i le (λ k x y. row_operations-Zero f n k (zero_at k x y)))) so_far.0,
    HoldsAll-as (rows_written-skip f from i (after_elimination n f) le (λ k c x y. eliminated-Zero f n k c (omega arith) (zero_at k x y))) so_far.1,
  )
    where
      zero_at : (k : ℕ) → from ≤ k → k < i → f k n ≡ Zero
      zero_at k x y = sym (rows_swept-later f n from k n x) ∙ HoldsAll-none so_far.1 k n (none k x y)

  pub rows-more : {c : A} {new : Table T} (f : Cells) (n i : ℕ) → i < n →
      Runs fits spans ends is_memory faults made stopped a b (star_operation (f n n) ++ below (row_operations f n) i) None →
      Runs fits spans ends is_memory faults made stopped b c (row_operations (rows_swept f n i) n i) None →
      HoldsAll fits spans source c (swept (rows_swept f n i) (seq_of (rows_swept f n i i n) (star_of (rows_swept f n i n n))) n i n) new →
      Runs fits spans ends is_memory faults made stopped a c (star_operation (f n n) ++ below (row_operations f n) (i + 1)) None × HoldsAll fits spans source c (rows_swept f n (i + 1)) new
  rows-more f n i lt run here h = (
    Runs-as (append_assoc (star_operation (f n n)) (below (row_operations f n) i) (row_operations f n i) ∙ ap (λ x. star_operation (f n n) ++ x) (below-more (row_operations f n) i))
        (Runs-then run (Runs-as (row_operations-rows f n i lt) here)),
    HoldsAll-as (rows_swept-more f n i lt) h,
  )

-- what comes behind the operations of row i
pub rows-rest : (f : Cells) (n i : ℕ) → i < n → (rest : List PathExpr) ×
    (((star_operation (f n n) ++ below (row_operations f n) i) ++ row_operations f n i) ++ rest ≡ place_operations f n)
rows-rest f n i lt = let r = below-rest (row_operations f n) i n lt in (
  r.0,
  append_assoc (star_operation (f n n) ++ below (row_operations f n) i) (row_operations f n i) r.0
      ∙ (append_assoc (star_operation (f n n)) (below (row_operations f n) i) (row_operations f n i ++ r.0)
      ∙ (ap (λ x. star_operation (f n n) ++ x) (sym (append_assoc (below (row_operations f n) i) (row_operations f n i) r.0) ∙ r.1)
      ∙ place_operations-is f n)),
)
