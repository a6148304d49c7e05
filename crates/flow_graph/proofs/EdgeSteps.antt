-- Each edge of a graph leads from the items at its beginning as a step of them does.
use Rattle.std.proofs.Common.{◌≡◌, ℕ, ◌+◌, true, false, Some, List, [], ◌∷◌, ◌++◌, ◌⊎◌, inl, inr, refl, subst, arith}
use Rattle.std.specs.Prelude.{slice_get}
use Rattle.syntax_tree.specs.Code.{Statement, Set, Any, Call, Guard, Check, If, Loop, Break, Continue, Return, Code, End, Then}
use Rattle.syntax_tree.specs.Nodes.{code_nodes, statement_nodes}
use Rattle.execution.specs.Machine.{Item, Do, Head, Test, Tail, after_loop, pending, to_tail}
use Rattle.flow_graph.specs.declared.making.Targets.{Targets}
use Rattle.flow_graph.specs.FlowGraph.{Arc, CheckPlace, arc, checks_at, code_arcs, code_checks_at, exit_of, flow_of, inside, outermost, skip, statement_arcs, unless}
use Rattle.flow_graph.proofs.Each.{Each, Has, each_both}
use Rattle.flow_graph.proofs.Moves.{move, moves_of, next_turn}
use Rattle.flow_graph.proofs.Places.{At, Holds, Placed, PlacedIn, body_placed, finish, parts, start}

-- what is left where `break`, `continue` and `return` lead
abbrev pub Means : Holds → Targets → List Item → Type 0
Means P t rest = P t.break_to (after_loop rest) × P t.continue_to (next_turn (to_tail rest)) × P t.exit []

pub means_pending : (P : Holds) (t : Targets) (code : Code) (rest : List Item) → Means P t rest → Means P t (pending code rest)
means_pending P t End rest means = means
means_pending P t (Then statement code) rest means = means_pending P t code rest means

-- the act is an edge at these items, or both ends have the same items
abbrev pub Taken : List Item → Statement → List Item → Type 0
Taken items act to = Has (moves_of items) (move act to) ⊎ ((act ≡ skip) × (to ≡ items))

pub record Explained (P : Holds) (way : Arc) : Type 0 where
  pub items : List Item
  pub to : List Item
  pub there : P way.from items
  pub comes : P way.to to
  pub taken : Taken items way.act to

-- an assertion's node has the assertion as its first item
abbrev pub Checked : Holds → CheckPlace → Type 0
Checked P check = (rest : List Item) × P check.node (Do (Check check.number check.cond) ∷ rest)

module _ (P : Holds) where
  first_move : (from to : ℕ) (act : Statement) (items next : List Item) → P from items → P to next → slice_get (moves_of items) 0 ≡ Some (move act next) → Explained P (arc from to act)
  first_move from to act items next there comes is = record { items = items; to = next; there = there; comes = comes; taken = inl (0, is) }

  second_move : (from to : ℕ) (act : Statement) (items next : List Item) → P from items → P to next → slice_get (moves_of items) 1 ≡ Some (move act next) → Explained P (arc from to act)
  second_move from to act items next there comes is = record { items = items; to = next; there = there; comes = comes; taken = inl (1, is) }

  pub no_move : (from to : ℕ) (items : List Item) → P from items → P to items → Explained P (arc from to skip)
  no_move from to items there comes = record { items = items; to = items; there = there; comes = comes; taken = inr (refl, refl) }

  end_at : (n m : ℕ) (rest : List Item) → n ≡ m → P n rest → P m rest
  end_at n m rest same at = subst (λ k. P k rest) same at

  mutual
    pub code_explained : (t : Targets) (c : ℕ) (code : Code) (rest : List Item) → Means P t rest → Placed P c code rest → Each (Explained P) (code_arcs t c code)
    code_explained t c End rest means placed = tt
    code_explained t c (Then statement code) rest means placed =
        each_both (Explained P) (statement_arcs t c statement) (code_arcs t (c + statement_nodes statement) code)
        (statement_explained t c statement (pending code rest) (means_pending P t code rest means) placed.0 placed.1 (start P (c + statement_nodes statement) code rest placed.2))
        (code_explained t (c + statement_nodes statement) code rest means placed.2)

    statement_explained : (t : Targets) (c : ℕ) (statement : Statement) (rest : List Item) → Means P t rest
        → P c (Do statement ∷ rest) → PlacedIn P c statement rest → P (c + statement_nodes statement) rest → Each (Explained P) (statement_arcs t c statement)
    statement_explained t c (Set col value) rest means at placed end = (first_move c (c + 1) _ _ _ at end refl, tt)
    statement_explained t c (Any col) rest means at placed end = (first_move c (c + 1) _ _ _ at end refl, tt)
    statement_explained t c (Call proc args into) rest means at placed end = (first_move c (c + 1) _ _ _ at end refl, tt)
    statement_explained t c (Guard cond) rest means at placed end = (first_move c (c + 1) _ _ _ at end refl, tt)
    statement_explained t c (Check number cond) rest means at placed end = (first_move c (c + 1) _ _ _ at end refl, tt)
    statement_explained t c (If cond on_true on_false) rest means at placed end =
        let end_true : ℕ = c + 1 + code_nodes on_true in
        let end_false : ℕ = end_true + 1 + code_nodes on_false in
        let last : P (end_false + 1) rest = end_at (c + (3 + code_nodes on_true + code_nodes on_false)) (end_false + 1) rest (omega arith) end in
        each_both (Explained P)
        (arc c (c + 1) (Guard cond) ∷ code_arcs t (c + 1) on_true ++ arc c (end_true + 1) (unless cond) ∷ code_arcs t (end_true + 1) on_false)
        (arc end_true (end_false + 1) skip ∷ arc end_false (end_false + 1) skip ∷ [])
        (each_both (Explained P) (arc c (c + 1) (Guard cond) ∷ code_arcs t (c + 1) on_true) (arc c (end_true + 1) (unless cond) ∷ code_arcs t (end_true + 1) on_false)
        (first_move c (c + 1) _ _ (pending on_true rest) at (start P (c + 1) on_true rest placed.0) refl, code_explained t (c + 1) on_true rest means placed.0)
        (second_move c (end_true + 1) _ _ (pending on_false rest) at (start P (end_true + 1) on_false rest placed.1) refl, code_explained t (end_true + 1) on_false rest means placed.1)) (
          no_move end_true (end_false + 1) rest (finish P (c + 1) on_true rest placed.0) last,
          (no_move end_false (end_false + 1) rest (finish P (end_true + 1) on_false rest placed.1) last, tt),
        )
    statement_explained t c (Loop pre cond body step false) rest means at placed end =
        let loop = parts pre cond body step false in
        let test : ℕ = c + 1 + code_nodes pre in
        let end_body : ℕ = test + 1 + code_nodes body in
        let end_step : ℕ = end_body + 1 + code_nodes step in
        let inner = inside t (end_step + 1) (end_body + 1) in
        let last : P (end_step + 1) rest = end_at (c + (4 + code_nodes pre + code_nodes body + code_nodes step)) (end_step + 1) rest (omega arith) end in
        let head = start P (c + 1) pre (Test loop ∷ rest) placed.0 in
        let tested = finish P (c + 1) pre (Test loop ∷ rest) placed.0 in
        let turn = start P (end_body + 1) step (Head loop ∷ rest) placed.2 in
        each_both (Explained P)
        (arc c (c + 1) skip ∷ code_arcs t (c + 1) pre ++ arc test (test + 1) (Guard cond) ∷ code_arcs inner (test + 1) body
        ++ arc end_body (end_body + 1) skip ∷ code_arcs t (end_body + 1) step)
        (arc end_step (c + 1) skip ∷ arc test (end_step + 1) (unless cond) ∷ [])
        (each_both (Explained P)
        (arc c (c + 1) skip ∷ code_arcs t (c + 1) pre ++ arc test (test + 1) (Guard cond) ∷ code_arcs inner (test + 1) body)
        (arc end_body (end_body + 1) skip ∷ code_arcs t (end_body + 1) step)
        (each_both (Explained P) (arc c (c + 1) skip ∷ code_arcs t (c + 1) pre) (arc test (test + 1) (Guard cond) ∷ code_arcs inner (test + 1) body)
        (first_move c (c + 1) _ _ (pending pre (Test loop ∷ rest)) at head refl, code_explained t (c + 1) pre (Test loop ∷ rest) means placed.0) (
          first_move test (test + 1) _ (Test loop ∷ rest) (pending body (Tail loop ∷ rest)) tested (start P (test + 1) body (Tail loop ∷ rest) placed.1) refl,
          code_explained inner (test + 1) body (Tail loop ∷ rest) (last, turn, means.2) placed.1,
        )) (
          first_move end_body (end_body + 1) _ (Tail loop ∷ rest) (pending step (Head loop ∷ rest)) (finish P (test + 1) body (Tail loop ∷ rest) placed.1) turn refl,
          code_explained t (end_body + 1) step (Head loop ∷ rest) means placed.2,
        )) (
          first_move end_step (c + 1) _ (Head loop ∷ rest) (pending pre (Test loop ∷ rest)) (finish P (end_body + 1) step (Head loop ∷ rest) placed.2) head refl,
          (second_move test (end_step + 1) _ (Test loop ∷ rest) rest tested last refl, tt),
        )
    statement_explained t c (Loop pre cond body step true) rest means at placed end =
        let loop = parts pre cond body step true in
        let end_body : ℕ = c + 1 + code_nodes body in
        let test : ℕ = end_body + 1 + code_nodes pre in
        let inner = inside t (test + 1) (end_body + 1) in
        let last : P (test + 1) rest = end_at (c + (3 + code_nodes pre + code_nodes body)) (test + 1) rest (omega arith) end in
        let head = start P (c + 1) body (Tail loop ∷ rest) placed.0 in
        let tested = finish P (end_body + 1) pre (Test loop ∷ rest) placed.1 in
        let turn = start P (end_body + 1) pre (Test loop ∷ rest) placed.1 in
        each_both (Explained P)
        (arc c (c + 1) skip ∷ code_arcs inner (c + 1) body ++ arc end_body (end_body + 1) skip ∷ code_arcs t (end_body + 1) pre)
        (arc test (c + 1) (Guard cond) ∷ arc test (test + 1) (unless cond) ∷ [])
        (each_both (Explained P) (arc c (c + 1) skip ∷ code_arcs inner (c + 1) body) (arc end_body (end_body + 1) skip ∷ code_arcs t (end_body + 1) pre)
        (first_move c (c + 1) _ _ (pending body (Tail loop ∷ rest)) at head refl, code_explained inner (c + 1) body (Tail loop ∷ rest) (last, turn, means.2) placed.0) (
          first_move end_body (end_body + 1) _ (Tail loop ∷ rest) (pending pre (Test loop ∷ rest)) (finish P (c + 1) body (Tail loop ∷ rest) placed.0) turn refl,
          code_explained t (end_body + 1) pre (Test loop ∷ rest) means placed.1,
        )) (
          first_move test (c + 1) _ (Test loop ∷ rest) (pending body (Tail loop ∷ rest)) tested head refl,
          (second_move test (test + 1) _ (Test loop ∷ rest) rest tested last refl, tt),
        )
    statement_explained t c Break rest means at placed end = (first_move c t.break_to _ _ _ at means.0 refl, tt)
    statement_explained t c Continue rest means at placed end = (first_move c t.continue_to _ _ _ at means.1 refl, tt)
    statement_explained t c Return rest means at placed end = (first_move c t.exit _ _ _ at means.2 refl, tt)

  mutual
    pub code_checked : (c : ℕ) (code : Code) (rest : List Item) → Placed P c code rest → Each (Checked P) (code_checks_at c code)
    code_checked c End rest placed = tt
    code_checked c (Then statement code) rest placed =
        each_both (Checked P) (checks_at c statement) (code_checks_at (c + statement_nodes statement) code)
        (statement_checked c statement (pending code rest) placed.0 placed.1) (code_checked (c + statement_nodes statement) code rest placed.2)

    statement_checked : (c : ℕ) (statement : Statement) (rest : List Item) → P c (Do statement ∷ rest) → PlacedIn P c statement rest → Each (Checked P) (checks_at c statement)
    statement_checked c (Set col value) rest at placed = tt
    statement_checked c (Any col) rest at placed = tt
    statement_checked c (Call proc args into) rest at placed = tt
    statement_checked c (Guard cond) rest at placed = tt
    statement_checked c (Check number cond) rest at placed = ((rest, at), tt)
    statement_checked c (If cond on_true on_false) rest at placed =
        each_both (Checked P) (code_checks_at (c + 1) on_true) (code_checks_at (c + 1 + code_nodes on_true + 1) on_false)
        (code_checked (c + 1) on_true rest placed.0) (code_checked (c + 1 + code_nodes on_true + 1) on_false rest placed.1)
    statement_checked c (Loop pre cond body step false) rest at placed =
        let body_at : ℕ = c + 1 + code_nodes pre + 1 in
        each_both (Checked P) (code_checks_at (c + 1) pre ++ code_checks_at body_at body) (code_checks_at (body_at + code_nodes body + 1) step)
        (each_both (Checked P) (code_checks_at (c + 1) pre) (code_checks_at body_at body)
        (code_checked (c + 1) pre _ placed.0) (code_checked body_at body _ placed.1))
        (code_checked (body_at + code_nodes body + 1) step _ placed.2)
    statement_checked c (Loop pre cond body step true) rest at placed =
        each_both (Checked P) (code_checks_at (c + 1) body) (code_checks_at (c + 1 + code_nodes body + 1) pre)
        (code_checked (c + 1) body _ placed.0) (code_checked (c + 1 + code_nodes body + 1) pre _ placed.1)
    statement_checked c Break rest at placed = tt
    statement_checked c Continue rest at placed = tt
    statement_checked c Return rest at placed = tt

pub body_means : (body : Code) → Means (At body) (outermost body) []
body_means body = let exit = (body_placed body).1 in (exit, exit, exit)

pub body_explained : (body : Code) → Each (Explained (At body)) (flow_of body).arcs
body_explained body =
    let there = body_placed body in
    let same : 0 + code_nodes body ≡ code_nodes body = omega arith in
    each_both (Explained (At body)) (code_arcs (outermost body) 0 body) (arc (code_nodes body) (exit_of body) skip ∷ [])
    (code_explained (At body) (outermost body) 0 body [] (body_means body) there.0)
    (no_move (At body) (code_nodes body) (exit_of body) [] (subst (λ n. At body n []) same (finish (At body) 0 body [] there.0)) there.1, tt)

pub body_checked : (body : Code) → Each (Checked (At body)) (flow_of body).checks
body_checked body = code_checked (At body) 0 body [] (body_placed body).0
