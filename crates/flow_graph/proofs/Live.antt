-- Each step of the items at a node has its edge there, or behind edges that do nothing.
use Rattle.std.proofs.Common.{◌≡◌, ℕ, ◌+◌, true, false, Some, List, [], ◌∷◌, ◌++◌, refl, subst, arith}
use Rattle.std.specs.Prelude.{slice_get}
use Rattle.syntax_tree.specs.Code.{Statement, Set, Any, Call, Guard, Check, If, Loop, Break, Continue, Return, Code, End, Then}
use Rattle.syntax_tree.specs.Nodes.{code_nodes, statement_nodes}
use Rattle.syntax_tree.specs.Value.{State}
use Rattle.execution.specs.Machine.{Item, Do, Head, Test, Tail, pending}
use Rattle.flow_graph.specs.declared.making.Targets.{Targets}
use Rattle.flow_graph.specs.FlowGraph.{Arc, CheckPlace, arc, checks_at, code_arcs, code_checks_at, exit_of, flow_of, inside, outermost, skip, statement_arcs, unless}
use Rattle.flow_graph.specs.Walks.{CallMeaning, Stride, Walks}
use Rattle.flow_graph.proofs.Each.{Each, Has, each_has, each_left, each_right}
use Rattle.flow_graph.proofs.Moves.{Move, moves_of, skip_passes}
use Rattle.flow_graph.proofs.Places.{At, Holds, Placed, PlacedIn, body_each, body_placed, parts, start}
use Rattle.flow_graph.proofs.EdgeSteps.{Means, body_means, means_pending}

-- edges that do nothing lead from one node to another
abbrev pub Skips : List Arc → ℕ → List ℕ → ℕ → Type 0
Skips arcs node [] last = node ≡ last
Skips arcs node (k ∷ path) last = (next : ℕ) × (slice_get arcs k ≡ Some (arc node next skip)) × Skips arcs next path last

pub skips_walk : (calls : CallMeaning) (globals : ℕ) (arcs : List Arc) (node : ℕ) (path : List ℕ) (last : ℕ) (state : State) → Skips arcs node path last
    → (strides : List Stride) × Walks calls globals arcs node state strides last state
skips_walk calls globals arcs node [] last state there = ([], (there, refl))
skips_walk calls globals arcs node (k ∷ path) last state (next, is, later) =
    let onward = skips_walk calls globals arcs next path last state later in
    (record { edge = k; state = state } ∷ onward.0, (arc node next skip, is, refl, (skip_passes state, refl), onward.1))

-- an edge does this and leads on
abbrev pub Leads : Holds → List Arc → ℕ → Move → Type 0
Leads P arcs node taken = (to : ℕ) × Has arcs (arc node to taken.act) × P to taken.to

-- the exit, and the nodes of assertions, are where they should be
abbrev pub Marked : List CheckPlace → ℕ → ℕ → List Item → Type 0
Marked checks exit node [] = node ≡ exit
Marked checks exit node (Do (Check number cond) ∷ rest) = Has checks (record { node = node; number = number; cond = cond })
Marked checks exit node _ = Unit {0}

pub record Live (P : Holds) (arcs : List Arc) (checks : List CheckPlace) (exit node : ℕ) (items : List Item) : Type 0 where
  pub at : ℕ
  pub path : List ℕ
  pub skips : Skips arcs node path at
  pub leads : Each (Leads P arcs at) (moves_of items)
  pub marked : Marked checks exit at items

module _ (P : Holds) (arcs : List Arc) (checks : List CheckPlace) (exit : ℕ) where
  abbrev pub Lives : Holds
  Lives = Live P arcs checks exit

  at_once : (node : ℕ) (items : List Item) → Each (Leads P arcs node) (moves_of items) → Marked checks exit node items → Lives node items
  at_once node items leads marked = record { at = node; path = []; skips = refl; leads = leads; marked = marked }

  pub hop : (node next : ℕ) (items : List Item) → Has arcs (arc node next skip) → Lives next items → Lives node items
  hop node next items (k, is) live =
      record { at = live.at; path = k ∷ live.path; skips = (next, is, live.skips); leads = live.leads; marked = live.marked }

  lives_at : (n m : ℕ) (items : List Item) → n ≡ m → Lives n items → Lives m items
  lives_at n m items same live = subst (λ k. Lives k items) same live

  holds_at : (n m : ℕ) (items : List Item) → n ≡ m → P n items → P m items
  holds_at n m items same there = subst (λ k. P k items) same there

  mutual
    pub code_lives : (t : Targets) (c : ℕ) (code : Code) (rest : List Item) → Means P t rest → Placed P c code rest
        → Each (Has arcs) (code_arcs t c code) → Each (Has checks) (code_checks_at c code)
        → Lives (c + code_nodes code) rest → Placed Lives c code rest
    code_lives t c End rest means placed ways stops end = lives_at (c + 0) c rest (omega arith) end
    code_lives t c (Then statement code) rest means placed ways stops end =
        let next : ℕ = c + statement_nodes statement in
        let later = code_lives t next code rest means placed.2
        (each_right (Has arcs) (statement_arcs t c statement) (code_arcs t next code) ways)
        (each_right (Has checks) (checks_at c statement) (code_checks_at next code) stops)
        (lives_at (c + (statement_nodes statement + code_nodes code)) (next + code_nodes code) rest (omega arith) end) in
        let now = statement_lives t c statement (pending code rest) (means_pending P t code rest means) placed.1
        (start P next code rest placed.2)
        (each_left (Has arcs) (statement_arcs t c statement) (code_arcs t next code) ways)
        (each_left (Has checks) (checks_at c statement) (code_checks_at next code) stops)
        (start Lives next code rest later) in
        (now.0, now.1, later)

    statement_lives : (t : Targets) (c : ℕ) (statement : Statement) (rest : List Item) → Means P t rest
        → PlacedIn P c statement rest → P (c + statement_nodes statement) rest
        → Each (Has arcs) (statement_arcs t c statement) → Each (Has checks) (checks_at c statement)
        → Lives (c + statement_nodes statement) rest → Lives c (Do statement ∷ rest) × PlacedIn Lives c statement rest
    statement_lives t c (Set col value) rest means placed end ways stops live = (at_once c _ ((c + 1, ways.0, end), tt) tt, tt)
    statement_lives t c (Any col) rest means placed end ways stops live = (at_once c _ ((c + 1, ways.0, end), tt) tt, tt)
    statement_lives t c (Call proc args into) rest means placed end ways stops live = (at_once c _ ((c + 1, ways.0, end), tt) tt, tt)
    statement_lives t c (Guard cond) rest means placed end ways stops live = (at_once c _ ((c + 1, ways.0, end), tt) tt, tt)
    statement_lives t c (Check number cond) rest means placed end ways stops live = (at_once c _ ((c + 1, ways.0, end), tt) stops.0, tt)
    statement_lives t c (If cond on_true on_false) rest means placed end ways stops live =
        let end_true : ℕ = c + 1 + code_nodes on_true in
        let end_false : ℕ = end_true + 1 + code_nodes on_false in
        let last = lives_at (c + (3 + code_nodes on_true + code_nodes on_false)) (end_false + 1) rest (omega arith) live in
        let one : List Arc = arc c (c + 1) (Guard cond) ∷ code_arcs t (c + 1) on_true in
        let two : List Arc = arc c (end_true + 1) (unless cond) ∷ code_arcs t (end_true + 1) on_false in
        let three : List Arc = arc end_true (end_false + 1) skip ∷ arc end_false (end_false + 1) skip ∷ [] in
        let both = each_left (Has arcs) (one ++ two) three ways in
        let ones = each_left (Has arcs) one two both in
        let twos = each_right (Has arcs) one two both in
        let threes = each_right (Has arcs) (one ++ two) three ways in
        let one_stops = each_left (Has checks) (code_checks_at (c + 1) on_true) (code_checks_at (end_true + 1) on_false) stops in
        let two_stops = each_right (Has checks) (code_checks_at (c + 1) on_true) (code_checks_at (end_true + 1) on_false) stops in (
          at_once c _ ((c + 1, ones.0, start P (c + 1) on_true rest placed.0), ((end_true + 1, twos.0, start P (end_true + 1) on_false rest placed.1), tt)) tt,
          (
            code_lives t (c + 1) on_true rest means placed.0 ones.1 one_stops (hop end_true (end_false + 1) rest threes.0 last),
            code_lives t (end_true + 1) on_false rest means placed.1 twos.1 two_stops (hop end_false (end_false + 1) rest threes.1.0 last),
          ),
        )
    statement_lives t c (Loop pre cond body step false) rest means placed end ways stops live =
        let loop = parts pre cond body step false in
        let test : ℕ = c + 1 + code_nodes pre in
        let end_body : ℕ = test + 1 + code_nodes body in
        let end_step : ℕ = end_body + 1 + code_nodes step in
        let inner = inside t (end_step + 1) (end_body + 1) in
        let last : P (end_step + 1) rest = holds_at (c + (4 + code_nodes pre + code_nodes body + code_nodes step)) (end_step + 1) rest (omega arith) end in
        let head = start P (c + 1) pre (Test loop ∷ rest) placed.0 in
        let turn = start P (end_body + 1) step (Head loop ∷ rest) placed.2 in
        let one : List Arc = arc c (c + 1) skip ∷ code_arcs t (c + 1) pre in
        let two : List Arc = arc test (test + 1) (Guard cond) ∷ code_arcs inner (test + 1) body in
        let three : List Arc = arc end_body (end_body + 1) skip ∷ code_arcs t (end_body + 1) step in
        let four : List Arc = arc end_step (c + 1) skip ∷ arc test (end_step + 1) (unless cond) ∷ [] in
        let first_three = each_left (Has arcs) (one ++ two ++ three) four ways in
        let fours = each_right (Has arcs) (one ++ two ++ three) four ways in
        let first_two = each_left (Has arcs) (one ++ two) three first_three in
        let threes = each_right (Has arcs) (one ++ two) three first_three in
        let ones = each_left (Has arcs) one two first_two in
        let twos = each_right (Has arcs) one two first_two in
        let pre_at = code_checks_at (c + 1) pre in
        let body_at = code_checks_at (test + 1) body in
        let step_at = code_checks_at (end_body + 1) step in
        let both_stops = each_left (Has checks) (pre_at ++ body_at) step_at stops in (
          at_once c _ ((c + 1, ones.0, head), tt) tt,
          (
            code_lives t (c + 1) pre (Test loop ∷ rest) means placed.0 ones.1 (each_left (Has checks) pre_at body_at both_stops)
                (at_once test (Test loop ∷ rest) ((test + 1, twos.0, start P (test + 1) body (Tail loop ∷ rest) placed.1), ((end_step + 1, fours.1.0, last), tt)) tt),
            code_lives inner (test + 1) body (Tail loop ∷ rest) (last, turn, means.2) placed.1 twos.1 (each_right (Has checks) pre_at body_at both_stops)
                (at_once end_body (Tail loop ∷ rest) ((end_body + 1, threes.0, turn), tt) tt),
            code_lives t (end_body + 1) step (Head loop ∷ rest) means placed.2 threes.1 (each_right (Has checks) (pre_at ++ body_at) step_at stops)
                (at_once end_step (Head loop ∷ rest) ((c + 1, fours.0, head), tt) tt),
          ),
        )
    statement_lives t c (Loop pre cond body step true) rest means placed end ways stops live =
        let loop = parts pre cond body step true in
        let end_body : ℕ = c + 1 + code_nodes body in
        let test : ℕ = end_body + 1 + code_nodes pre in
        let inner = inside t (test + 1) (end_body + 1) in
        let last : P (test + 1) rest = holds_at (c + (3 + code_nodes pre + code_nodes body)) (test + 1) rest (omega arith) end in
        let head = start P (c + 1) body (Tail loop ∷ rest) placed.0 in
        let turn = start P (end_body + 1) pre (Test loop ∷ rest) placed.1 in
        let one : List Arc = arc c (c + 1) skip ∷ code_arcs inner (c + 1) body in
        let two : List Arc = arc end_body (end_body + 1) skip ∷ code_arcs t (end_body + 1) pre in
        let three : List Arc = arc test (c + 1) (Guard cond) ∷ arc test (test + 1) (unless cond) ∷ [] in
        let both = each_left (Has arcs) (one ++ two) three ways in
        let ones = each_left (Has arcs) one two both in
        let twos = each_right (Has arcs) one two both in
        let threes = each_right (Has arcs) (one ++ two) three ways in
        let body_at = code_checks_at (c + 1) body in
        let pre_at = code_checks_at (end_body + 1) pre in (
          at_once c _ ((c + 1, ones.0, head), tt) tt,
          (
            code_lives inner (c + 1) body (Tail loop ∷ rest) (last, turn, means.2) placed.0 ones.1 (each_left (Has checks) body_at pre_at stops)
                (at_once end_body (Tail loop ∷ rest) ((end_body + 1, twos.0, turn), tt) tt),
            code_lives t (end_body + 1) pre (Test loop ∷ rest) means placed.1 twos.1 (each_right (Has checks) body_at pre_at stops)
                (at_once test (Test loop ∷ rest) ((c + 1, threes.0, head), ((test + 1, threes.1.0, last), tt)) tt),
          ),
        )
    statement_lives t c Break rest means placed end ways stops live = (at_once c _ ((t.break_to, ways.0, means.0), tt) tt, tt)
    statement_lives t c Continue rest means placed end ways stops live = (at_once c _ ((t.continue_to, ways.0, means.1), tt) tt, tt)
    statement_lives t c Return rest means placed end ways stops live = (at_once c _ ((t.exit, ways.0, means.2), tt) tt, tt)

-- at the nodes of a body
abbrev pub LivesIn : Code → Holds
LivesIn body = Live (At body) (flow_of body).arcs (flow_of body).checks (exit_of body)

pub body_lives : (body : Code) (node : ℕ) (items : List Item) → At body node items → LivesIn body node items
body_lives body node items at =
    let arcs = (flow_of body).arcs in
    let checks = (flow_of body).checks in
    let exit = exit_of body in
    let ways = each_has (Has arcs) arcs (λ k way e. (k, e)) in
    let stops = each_has (Has checks) checks (λ k stop e. (k, e)) in
    let last : List Arc = arc (code_nodes body) exit skip ∷ [] in
    let out = each_right (Has arcs) (code_arcs (outermost body) 0 body) last ways in
    let inner = each_left (Has arcs) (code_arcs (outermost body) 0 body) last ways in
    let there : LivesIn body exit [] = record { at = exit; path = []; skips = refl; leads = tt; marked = refl } in
    let same : code_nodes body ≡ 0 + code_nodes body = omega arith in
    let end = subst (λ n. LivesIn body n []) same (hop (At body) arcs checks exit (code_nodes body) exit [] out.0 there) in
    let placed = code_lives (At body) arcs checks exit (outermost body) 0 body [] (body_means body) (body_placed body).0 inner stops end in
    body_each (LivesIn body) body placed there node items at
