-- What is known of items stays known, and what the operations make of them.
use Rattle.std.proofs.Common.{◌≡◌, ℕ, Bool, true, cond, ◌&&◌, List, [], ◌∷◌, ◌++◌, length, Option, None, Some, refl, sym, ◌∙◌, ap, subst, inl, inr, ◌⊎◌}
use Rattle.std.specs.List.{slice_get}
use Rattle.path_expr.specs.PathExpr.{PathExpr, Zero, One, Edge, Seq, Join, Star, seq_of, join_of, star_of}
use Rattle.path_expr.specs.Operations.{is_item, seq_operation, join_operation, star_operation}
use Rattle.path_expr.specs.Algebra.{Keeps}
use Rattle.path_expr.specs.Holds.{IsItem, IsItemOrZero, IsItemOrOne, IsWay, AreWays, AreEdges, HoldsAll, node_at}
use Rattle.path_expr.specs.declared.link.Link.{Link}
use Rattle.std.specs.Prelude.{Result, Ok}
use Rattle.path_expr.specs.Runs.{Makes}
use Rattle.path_expr.specs.declared.cell.ReachError.{ReachError}
use Rattle.path_expr.proofs.RunLemmas.{Runs-none, Runs-as, Makes-as}
use Rattle.path_expr.proofs.TableLemmas.{slice_get-push}
use Rattle.path_expr.specs.Table.{cell}
use Rattle.path_expr.specs.declared.table.Table.{Table}
use Rattle.path_expr.specs.declared.cell.Cell.{Cell}
use Rattle.path_expr.specs.declared.cell.Cell.TheVariants as known

pub seq_of-items : (p q : PathExpr) → is_item p ≡ true → is_item q ≡ true → Seq p q ≡ seq_of p q
seq_of-items Zero q h r = cc
seq_of-items One q h r = cc
seq_of-items p Zero h r = cc
seq_of-items p One h r = cc
seq_of-items p q h r = refl

pub seq_operation-items : (p q : PathExpr) → is_item p ≡ true → is_item q ≡ true → Seq p q ∷ [] ≡ seq_operation p q
seq_operation-items p q h r = sym (ap (λ b. cond (b && is_item q) (Seq p q ∷ []) []) h ∙ ap (λ b. cond b (Seq p q ∷ []) []) r)

pub join_of-items : (p q : PathExpr) → is_item p ≡ true → is_item q ≡ true → Join p q ≡ join_of p q
join_of-items Zero q h r = cc
join_of-items p Zero h r = cc
join_of-items p q h r = refl

pub join_operation-items : (p q : PathExpr) → is_item p ≡ true → is_item q ≡ true → Join p q ∷ [] ≡ join_operation p q
join_operation-items p q h r = sym (ap (λ b. cond (b && is_item q) (Join p q ∷ []) []) h ∙ ap (λ b. cond b (Join p q ∷ []) []) r)

pub star_of-item : (p : PathExpr) → is_item p ≡ true → Star p ≡ star_of p
star_of-item Zero h = cc
star_of-item One h = cc
star_of-item p h = refl

pub star_operation-item : (p : PathExpr) → is_item p ≡ true → Star p ∷ [] ≡ star_operation p
star_operation-item p h = sym (ap (λ b. cond b (Star p ∷ []) []) h)

pub seq_of-One : (p : PathExpr) → is_item p ≡ true → p ≡ seq_of p One
seq_of-One Zero h = cc
seq_of-One One h = cc
seq_of-One p h = refl

pub seq_of-Zero : (p : PathExpr) → seq_of p Zero ≡ Zero
seq_of-Zero Zero = refl
seq_of-Zero One = refl
seq_of-Zero p = refl

pub join_of-Zero : (p : PathExpr) → join_of p Zero ≡ p
join_of-Zero Zero = refl
join_of-Zero p = refl

pub seq_operation-Zero : (p : PathExpr) → seq_operation p Zero ≡ []
seq_operation-Zero Zero = refl
seq_operation-Zero One = refl
seq_operation-Zero p = refl

pub seq_operation-One : (p : PathExpr) → seq_operation p One ≡ []
seq_operation-One Zero = refl
seq_operation-One One = refl
seq_operation-One p = refl

pub join_operation-Zero : (p : PathExpr) → join_operation p Zero ≡ []
join_operation-Zero Zero = refl
join_operation-Zero One = refl
join_operation-Zero p = refl

module _ {A T : Type 0} {fits : A → PathExpr → T → Type 0} {spans : A → T → ℕ → ℕ → Type 0} {ends : A → ℕ → ℕ → ℕ → Type 0} {faults : A → ℕ}
    {a b : A} (keeps : Keeps fits spans ends faults a b) where
  pub IsItem-kept : {p : PathExpr} {x : T} {i j : ℕ} → IsItem fits spans a p x i j → IsItem fits spans b p x i j
  IsItem-kept {p} {x} {i} {j} h = record { shape = h.shape; fitting = keeps.paths p x h.fitting; spanning = keeps.nodes x i j h.spanning }

  pub IsItemOrZero-kept : (p : PathExpr) (o : Option T) (i j : ℕ) → IsItemOrZero fits spans a p o i j → IsItemOrZero fits spans b p o i j
  IsItemOrZero-kept p None i j h = h
  IsItemOrZero-kept p (Some x) i j h = IsItem-kept h

  pub IsItemOrOne-kept : (p : PathExpr) (o : Option T) (i : ℕ) → IsItemOrOne fits spans a p o i → IsItemOrOne fits spans b p o i
  IsItemOrOne-kept p None i h = h
  IsItemOrOne-kept p (Some x) i h = IsItem-kept h

  pub IsWay-kept : (p : PathExpr) (c : Cell T) (i j : ℕ) → IsWay fits spans a p c i j → IsWay fits spans b p c i j
  IsWay-kept p known.Zero i j h = h
  IsWay-kept p known.One i j h = h
  IsWay-kept p (known.Item x) i j h = IsItem-kept h

  pub HoldsAll-kept : {source : ℕ} {cells : ℕ → ℕ → PathExpr} {table : Table T} → HoldsAll fits spans source a cells table → HoldsAll fits spans source b cells table
  HoldsAll-kept {source} {cells} {table} h = record {
    at = λ i j. IsItemOrZero-kept (cells i j) (cell table i j) (node_at source i) (node_at source j) (h.at i j);
  }

-- what a table tells of a cell that holds an item, and of one that does not
module _ {A T : Type 0} {fits : A → PathExpr → T → Type 0} {spans : A → T → ℕ → ℕ → Type 0} {source : ℕ} {a : A} {cells : ℕ → ℕ → PathExpr} {table : Table T}
    (h : HoldsAll fits spans source a cells table) where
  pub HoldsAll-item : (i j : ℕ) (x : T) → cell table i j ≡ Some x → IsItem fits spans a (cells i j) x (node_at source i) (node_at source j)
  HoldsAll-item i j x e = subst (λ o. IsItemOrZero fits spans a (cells i j) o (node_at source i) (node_at source j)) e (h.at i j)

  pub HoldsAll-none : (i j : ℕ) → cell table i j ≡ None → cells i j ≡ Zero
  HoldsAll-none i j e = subst (λ o. IsItemOrZero fits spans a (cells i j) o (node_at source i) (node_at source j)) e (h.at i j)

  pub HoldsAll-taken : (i j : ℕ) (o : Option T) → o ≡ cell table i j → IsItemOrZero fits spans a (cells i j) o (node_at source i) (node_at source j)
  HoldsAll-taken i j o e = subst (λ x. IsItemOrZero fits spans a (cells i j) x (node_at source i) (node_at source j)) (sym e) (h.at i j)

-- ways that were found stay ways, and one more is found
pub AreWays-kept : {A T : Type 0} {fits : A → PathExpr → T → Type 0} {spans : A → T → ℕ → ℕ → Type 0} {ends : A → ℕ → ℕ → ℕ → Type 0} {faults : A → ℕ} {a b : A}
    {source : ℕ} {way_at : ℕ → PathExpr} {found : List (Cell T)} →
    Keeps fits spans ends faults a b → AreWays fits spans source a way_at found → AreWays fits spans source b way_at found
AreWays-kept {A} {T} {fits} {spans} {ends} {faults} {a} {b} {source} {way_at} keeps h = record {
  at = λ k way e. IsWay-kept keeps (way_at k) way (node_at source 0) (node_at source k) (h.at k way e);
}

pub AreWays-push : {A T : Type 0} {fits : A → PathExpr → T → Type 0} {spans : A → T → ℕ → ℕ → Type 0} {a : A}
    {source : ℕ} {way_at : ℕ → PathExpr} {found : List (Cell T)} (n : ℕ) (way : Cell T) → length found ≡ n →
    AreWays fits spans source a way_at found → IsWay fits spans a (way_at n) way (node_at source 0) (node_at source n) →
    AreWays fits spans source a way_at (found ++ way ∷ [])
AreWays-push {A} {T} {fits} {spans} {a} {source} {way_at} {found} n way len h is = record { at = λ k w e. at k w (slice_get-push found way k w e) }
  where
    at : (k : ℕ) (w : Cell T) → (slice_get found k ≡ Some w) ⊎ ((k ≡ length found) × (way ≡ w)) → IsWay fits spans a (way_at k) w (node_at source 0) (node_at source k)
    at k w (inl e) = h.at k w e
    at k w (inr p) =
        subst (λ c. IsWay fits spans a (way_at k) c (node_at source 0) (node_at source k)) p.1
        (subst (λ m. IsWay fits spans a (way_at m) way (node_at source 0) (node_at source m)) (sym (p.0 ∙ len)) is)

-- items of edges stay so, and one more is made
pub AreEdges-push : {A T : Type 0} {fits : A → PathExpr → T → Type 0} {spans : A → T → ℕ → ℕ → Type 0} {ends : A → ℕ → ℕ → ℕ → Type 0} {faults : A → ℕ} {a b : A}
    {links : List Link} {items : List T} (n : ℕ) (item : T) → length items ≡ n → Keeps fits spans ends faults a b → AreEdges fits spans a links items →
    ((link : Link) → slice_get links n ≡ Some link → IsItem fits spans b (Edge n) item link.from link.to) →
    AreEdges fits spans b links (items ++ item ∷ [])
AreEdges-push {A} {T} {fits} {spans} {ends} {faults} {a} {b} {links} {items} n item len keeps h is = record { at = λ k l x e f. at k l x e (slice_get-push items item k x f) }
  where
    at : (k : ℕ) (l : Link) (x : T) → slice_get links k ≡ Some l → (slice_get items k ≡ Some x) ⊎ ((k ≡ length items) × (item ≡ x)) → IsItem fits spans b (Edge k) x l.from l.to
    at k l x e (inl f) = IsItem-kept keeps (h.at k l x e f)
    at k l x e (inr p) =
        subst (λ y. IsItem fits spans b (Edge k) y l.from l.to) p.1
        (subst (λ m. IsItem fits spans b (Edge m) item l.from l.to) (sym (p.0 ∙ len))
        (is l (subst (λ m. slice_get links m ≡ Some l) (p.0 ∙ len) e)))

pub AreEdges-kept : {A T : Type 0} {fits : A → PathExpr → T → Type 0} {spans : A → T → ℕ → ℕ → Type 0} {ends : A → ℕ → ℕ → ℕ → Type 0} {faults : A → ℕ} {a b : A}
    {links : List Link} {items : List T} → Keeps fits spans ends faults a b → AreEdges fits spans a links items → AreEdges fits spans b links items
AreEdges-kept keeps h = record { at = λ k l x e f. IsItem-kept keeps (h.at k l x e f) }

-- operations of which one operand is Zero or One
module _ {A T F : Type 0} {fits : A → PathExpr → T → Type 0} {spans : A → T → ℕ → ℕ → Type 0} {ends : A → ℕ → ℕ → ℕ → Type 0}
    {is_memory : F → Bool} {faults : A → ℕ} {made : A → List PathExpr → Type 0} {stopped : A → PathExpr → Type 0} where
  pub Makes-One : {a b : A} {r : Result T (ReachError F)} {from to : ℕ} (p q : PathExpr) → q ≡ One → is_item p ≡ true →
      Makes fits spans ends is_memory faults made stopped a b [] r (λ x. IsItem fits spans b p x from to) →
      Makes fits spans ends is_memory faults made stopped a b (seq_operation p q) r (λ x. IsItem fits spans b (seq_of p q) x from to)
  Makes-One {a} {b} {r} {from} {to} p q e shape m =
      subst (λ s. Makes fits spans ends is_memory faults made stopped a b (seq_operation p s) r (λ x. IsItem fits spans b (seq_of p s) x from to)) (sym e)
      (Makes-as (sym (seq_operation-One p))
      (subst (λ s. Makes fits spans ends is_memory faults made stopped a b [] r (λ x. IsItem fits spans b s x from to)) (seq_of-One p shape) m))

  pub Makes-Zero : {a : A} {from to : ℕ} (p q : PathExpr) (o : Option T) → q ≡ Zero → IsItemOrZero fits spans a p o from to →
      Makes fits spans ends is_memory faults made stopped a a (join_operation p q) (Ok o) (λ x. IsItemOrZero fits spans a (join_of p q) x from to)
  Makes-Zero {a} {from} {to} p q o e h = record {
    run = Runs-as (sym (ap (join_operation p) e ∙ join_operation-Zero p)) (Runs-none a);
    good = subst (λ x. IsItemOrZero fits spans a x o from to) (sym (ap (join_of p) e ∙ join_of-Zero p)) h;
  }

  pub Makes-some : {a b : A} {ops : List PathExpr} {p : PathExpr} {x : T} {from to : ℕ} →
      Makes fits spans ends is_memory faults made stopped a b ops (Ok x) (λ i. IsItem fits spans b p i from to) →
      Makes fits spans ends is_memory faults made stopped a b ops (Ok (Some x)) (λ o. IsItemOrZero fits spans b p o from to)
  Makes-some m = record { run = m.run; good = m.good }

  -- a way that is One adds no operation
  pub Makes-through : {a b : A} {x : T} {from at to : ℕ} (w p q : PathExpr) → (w ≡ One) × (from ≡ at) →
      Makes fits spans ends is_memory faults made stopped a b (seq_operation p q) (Ok x) (λ i. IsItem fits spans b (seq_of p q) i at to) →
      Makes fits spans ends is_memory faults made stopped a b (seq_operation w p ++ seq_operation (seq_of w p) q) (Ok (Some x)) (λ o. IsItemOrZero fits spans b (seq_of (seq_of w p) q) o from to)
  Makes-through {a} {b} {x} {from} {at} {to} w p q one m =
      subst (λ v. Makes fits spans ends is_memory faults made stopped a b (seq_operation v p ++ seq_operation (seq_of v p) q) (Ok (Some x)) (λ o. IsItemOrZero fits spans b (seq_of (seq_of v p) q) o from to)) (sym one.0)
      (record { run = m.run; good = subst (λ k. IsItem fits spans b (seq_of p q) x k to) (sym one.1) m.good })
