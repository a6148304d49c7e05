-- The items that are left at each node of a code.
use Rattle.std.proofs.Common.{◌≡◌, ℕ, suc, ◌+◌, true, false, Some, List, [], ◌∷◌, sym, subst, ◌∙◌, arith}
use Rattle.std.specs.Prelude.{slice_get}
use Rattle.syntax_tree.specs.Code.{Statement, Set, Any, Call, Guard, Check, If, Loop, Break, Continue, Return, Code, End, Then}
use Rattle.syntax_tree.specs.Nodes.{code_nodes, statement_nodes}
use Rattle.execution.specs.Machine.{Item, Do, Head, Test, Tail, pending}
pub use Rattle.flow_graph.specs.Pending.{At, all_items, items_at, items_in, parts}
use Rattle.flow_graph.proofs.Each.{EachFrom, from_get, from_has}

abbrev pub Holds : Type 1
Holds = ℕ → List Item → Type 0

-- What holds of each node of a code that begins at node `c`, and of the items that are left there:
-- `rest` at its end.
abbrev mutual
  pub Placed : Holds → ℕ → Code → List Item → Type 0
  Placed P c End rest = P c rest
  Placed P c (Then statement code) rest =
      P c (Do statement ∷ pending code rest) × PlacedIn P c statement (pending code rest)
      × Placed P (c + statement_nodes statement) code rest

  pub PlacedIn : Holds → ℕ → Statement → List Item → Type 0
  PlacedIn P c (Set col value) rest = Unit {0}
  PlacedIn P c (Any col) rest = Unit {0}
  PlacedIn P c (Call proc args into) rest = Unit {0}
  PlacedIn P c (Guard cond) rest = Unit {0}
  PlacedIn P c (Check number cond) rest = Unit {0}
  PlacedIn P c (If cond on_true on_false) rest =
      Placed P (c + 1) on_true rest × Placed P (c + 1 + code_nodes on_true + 1) on_false rest
  PlacedIn P c (Loop pre cond body step false) rest =
      Placed P (c + 1) pre (Test (parts pre cond body step false) ∷ rest)
      × Placed P (c + 1 + code_nodes pre + 1) body (Tail (parts pre cond body step false) ∷ rest)
      × Placed P (c + 1 + code_nodes pre + 1 + code_nodes body + 1) step (Head (parts pre cond body step false) ∷ rest)
  PlacedIn P c (Loop pre cond body step true) rest =
      Placed P (c + 1) body (Tail (parts pre cond body step true) ∷ rest)
      × Placed P (c + 1 + code_nodes body + 1) pre (Test (parts pre cond body step true) ∷ rest)
  PlacedIn P c Break rest = Unit {0}
  PlacedIn P c Continue rest = Unit {0}
  PlacedIn P c Return rest = Unit {0}

-- the beginning and the end
pub start : (P : Holds) (c : ℕ) (code : Code) (rest : List Item) → Placed P c code rest → P c (pending code rest)
start P c End rest placed = placed
start P c (Then statement code) rest placed = placed.0

pub finish : (P : Holds) (c : ℕ) (code : Code) (rest : List Item) → Placed P c code rest → P (c + code_nodes code) rest
finish P c End rest placed = let same : c ≡ c + 0 = omega arith in subst (λ n. P n rest) same placed
finish P c (Then statement code) rest placed =
    let same : c + statement_nodes statement + code_nodes code ≡ c + (statement_nodes statement + code_nodes code) = omega arith in
    subst (λ n. P n rest) same (finish P (c + statement_nodes statement) code rest placed.2)

module _ (P : Holds) where
  moved : (n m : ℕ) (xs : List (List Item)) → n ≡ m → EachFrom P n xs → EachFrom P m xs
  moved n m xs same each = subst (λ k. EachFrom P k xs) same each

  -- ---- from the list

  mutual
    pub opened : (c : ℕ) (code : Code) (rest : List Item) (after : List (List Item)) → EachFrom P c (items_at code rest after)
        → Placed P c code rest × EachFrom P (c + code_nodes code + 1) after
    opened c End rest after each = let next : suc c ≡ c + 0 + 1 = omega arith in (each.0, moved (suc c) (c + 0 + 1) after next each.1)
    opened c (Then statement code) rest after each =
        let inner = opened_in c statement (pending code rest) (items_at code rest after) each.1 in
        let later = opened (c + statement_nodes statement) code rest after inner.1 in
        let next : c + statement_nodes statement + code_nodes code + 1 ≡ c + (statement_nodes statement + code_nodes code) + 1 = omega arith in
        ((each.0, inner.0, later.0), moved (c + statement_nodes statement + code_nodes code + 1) (c + (statement_nodes statement + code_nodes code) + 1) after next later.1)

    pub opened_in : (c : ℕ) (statement : Statement) (rest : List Item) (after : List (List Item)) → EachFrom P (suc c) (items_in statement rest after)
        → PlacedIn P c statement rest × EachFrom P (c + statement_nodes statement) after
    opened_in c (Set col value) rest after each = (tt, moved (suc c) (c + 1) after (omega arith) each)
    opened_in c (Any col) rest after each = (tt, moved (suc c) (c + 1) after (omega arith) each)
    opened_in c (Call proc args into) rest after each = (tt, moved (suc c) (c + 1) after (omega arith) each)
    opened_in c (Guard cond) rest after each = (tt, moved (suc c) (c + 1) after (omega arith) each)
    opened_in c (Check number cond) rest after each = (tt, moved (suc c) (c + 1) after (omega arith) each)
    opened_in c (If cond on_true on_false) rest after each =
        let one = opened (c + 1) on_true rest (items_at on_false rest after) (moved (suc c) (c + 1) _ (omega arith) each) in
        let two = opened (c + 1 + code_nodes on_true + 1) on_false rest after one.1 in
        ((one.0, two.0), moved (c + 1 + code_nodes on_true + 1 + code_nodes on_false + 1) (c + (3 + code_nodes on_true + code_nodes on_false)) after (omega arith) two.1)
    opened_in c (Loop pre cond body step false) rest after each =
        let one = opened (c + 1) pre _ _ (moved (suc c) (c + 1) _ (omega arith) each) in
        let two = opened (c + 1 + code_nodes pre + 1) body _ _ one.1 in
        let three = opened (c + 1 + code_nodes pre + 1 + code_nodes body + 1) step _ after two.1 in
        ((one.0, two.0, three.0), moved (c + 1 + code_nodes pre + 1 + code_nodes body + 1 + code_nodes step + 1) (c + (4 + code_nodes pre + code_nodes body + code_nodes step)) after (omega arith) three.1)
    opened_in c (Loop pre cond body step true) rest after each =
        let one = opened (c + 1) body _ _ (moved (suc c) (c + 1) _ (omega arith) each) in
        let two = opened (c + 1 + code_nodes body + 1) pre _ after one.1 in
        ((one.0, two.0), moved (c + 1 + code_nodes body + 1 + code_nodes pre + 1) (c + (3 + code_nodes pre + code_nodes body)) after (omega arith) two.1)
    opened_in c Break rest after each = (tt, moved (suc c) (c + 1) after (omega arith) each)
    opened_in c Continue rest after each = (tt, moved (suc c) (c + 1) after (omega arith) each)
    opened_in c Return rest after each = (tt, moved (suc c) (c + 1) after (omega arith) each)

  -- ---- to the list

  mutual
    pub closed : (c : ℕ) (code : Code) (rest : List Item) (after : List (List Item))
        → Placed P c code rest → EachFrom P (c + code_nodes code + 1) after → EachFrom P c (items_at code rest after)
    closed c End rest after placed each = let next : c + 0 + 1 ≡ suc c = omega arith in (placed, moved (c + 0 + 1) (suc c) after next each)
    closed c (Then statement code) rest after placed each =
        let next : c + (statement_nodes statement + code_nodes code) + 1 ≡ c + statement_nodes statement + code_nodes code + 1 = omega arith in
        let later = closed (c + statement_nodes statement) code rest after placed.2 (moved _ _ after next each) in
        (placed.0, closed_in c statement (pending code rest) (items_at code rest after) placed.1 later)

    pub closed_in : (c : ℕ) (statement : Statement) (rest : List Item) (after : List (List Item))
        → PlacedIn P c statement rest → EachFrom P (c + statement_nodes statement) after → EachFrom P (suc c) (items_in statement rest after)
    closed_in c (Set col value) rest after placed each = moved (c + 1) (suc c) after (omega arith) each
    closed_in c (Any col) rest after placed each = moved (c + 1) (suc c) after (omega arith) each
    closed_in c (Call proc args into) rest after placed each = moved (c + 1) (suc c) after (omega arith) each
    closed_in c (Guard cond) rest after placed each = moved (c + 1) (suc c) after (omega arith) each
    closed_in c (Check number cond) rest after placed each = moved (c + 1) (suc c) after (omega arith) each
    closed_in c (If cond on_true on_false) rest after placed each =
        let two = closed (c + 1 + code_nodes on_true + 1) on_false rest after placed.1
        (moved (c + (3 + code_nodes on_true + code_nodes on_false)) (c + 1 + code_nodes on_true + 1 + code_nodes on_false + 1) after (omega arith) each) in
        moved (c + 1) (suc c) _ (omega arith) (closed (c + 1) on_true rest (items_at on_false rest after) placed.0 two)
    closed_in c (Loop pre cond body step false) rest after placed each =
        let three = closed (c + 1 + code_nodes pre + 1 + code_nodes body + 1) step (Head (parts pre cond body step false) ∷ rest) after placed.2
        (moved (c + (4 + code_nodes pre + code_nodes body + code_nodes step)) (c + 1 + code_nodes pre + 1 + code_nodes body + 1 + code_nodes step + 1) after (omega arith) each) in
        let two = closed (c + 1 + code_nodes pre + 1) body (Tail (parts pre cond body step false) ∷ rest) _ placed.1 three in
        moved (c + 1) (suc c) _ (omega arith) (closed (c + 1) pre (Test (parts pre cond body step false) ∷ rest) _ placed.0 two)
    closed_in c (Loop pre cond body step true) rest after placed each =
        let two = closed (c + 1 + code_nodes body + 1) pre (Test (parts pre cond body step true) ∷ rest) after placed.1
        (moved (c + (3 + code_nodes pre + code_nodes body)) (c + 1 + code_nodes body + 1 + code_nodes pre + 1) after (omega arith) each) in
        moved (c + 1) (suc c) _ (omega arith) (closed (c + 1) body (Tail (parts pre cond body step true) ∷ rest) _ placed.0 two)
    closed_in c Break rest after placed each = moved (c + 1) (suc c) after (omega arith) each
    closed_in c Continue rest after placed each = moved (c + 1) (suc c) after (omega arith) each
    closed_in c Return rest after placed each = moved (c + 1) (suc c) after (omega arith) each

-- ---- all nodes of a body

pub at_one : (body : Code) (node : ℕ) (one other : List Item) → At body node one → At body node other → one ≡ other
at_one body node one other a b = let same : Some one ≡ Some other = sym a ∙ b in cc

all_there : (xs : List (List Item)) (k m : ℕ) (x : List Item) → 0 + k ≡ m → slice_get xs k ≡ Some x → slice_get xs m ≡ Some x
all_there xs k m x place e = let same : k ≡ m = omega arith in subst (λ n. slice_get xs n ≡ Some x) same e

pub body_placed : (body : Code) → Placed (At body) 0 body [] × At body (code_nodes body + 1) []
body_placed body =
    let each = opened (At body) 0 body [] ([] ∷ []) (from_has (At body) 0 (all_items body) (all_there (all_items body))) in
    let same : 0 + code_nodes body + 1 ≡ code_nodes body + 1 = omega arith in
    (each.0, subst (λ n. At body n []) same each.1.0)

-- what is placed in a body holds at each of its nodes
pub body_each : (P : Holds) (body : Code) → Placed P 0 body [] → P (code_nodes body + 1) [] → (node : ℕ) (items : List Item) → At body node items → P node items
body_each P body placed exit node items at =
    let same : code_nodes body + 1 ≡ 0 + code_nodes body + 1 = omega arith in
    from_get P 0 (all_items body) node node items (omega arith) (closed P 0 body [] ([] ∷ []) placed (subst (λ n. P n []) same exit, tt)) at
