-- What the edges of a procedure's graph call is what its body calls.
use Rattle.std.proofs.Common.{ℕ, ◌+◌, List, [], ◌∷◌, ◌++◌, refl, arith}
use Rattle.std.specs.Prelude.{true, false}
use Rattle.std.specs.List.{AllByRecursion, Contains}
use Rattle.std.proofs.lemmas.List.Elements.{Contains-append_left, Contains-append_right}
use Rattle.items.proofs.Each.{each-append, each-more}
use Rattle.syntax_tree.specs.Code.{Statement, Set, Any, Call, Guard, Check, If, Loop, Break, Continue, Return, Code, End, Then}
use Rattle.syntax_tree.specs.Nodes.{code_nodes, statement_nodes}
use Rattle.flow_graph.specs.FlowGraph.{Arc, arc, code_arcs, exit_of, flow_of, inside, outermost, skip, statement_arcs, unless}
use Rattle.flow_graph.specs.Groups.{called, called_in}

-- a call of one of these, or no call
abbrev pub IsCallOf : List ℕ → Statement → Type 0
IsCallOf called (Call proc args into) = Contains called proc
IsCallOf called _ = Unit {0}

of-left : (xs ys : List ℕ) (statement : Statement) → IsCallOf xs statement → IsCallOf (xs ++ ys) statement
of-left xs ys (Call proc args into) h = Contains-append_left xs ys proc h
of-left xs ys (Set col value) h = tt
of-left xs ys (Any col) h = tt
of-left xs ys (Guard cond) h = tt
of-left xs ys (Check number cond) h = tt
of-left xs ys (If cond on_true on_false) h = tt
of-left xs ys (Loop pre cond body step first) h = tt
of-left xs ys Break h = tt
of-left xs ys Continue h = tt
of-left xs ys Return h = tt

of-right : (xs ys : List ℕ) (statement : Statement) → IsCallOf ys statement → IsCallOf (xs ++ ys) statement
of-right xs ys (Call proc args into) h = Contains-append_right xs ys proc h
of-right xs ys (Set col value) h = tt
of-right xs ys (Any col) h = tt
of-right xs ys (Guard cond) h = tt
of-right xs ys (Check number cond) h = tt
of-right xs ys (If cond on_true on_false) h = tt
of-right xs ys (Loop pre cond body step first) h = tt
of-right xs ys Break h = tt
of-right xs ys Continue h = tt
of-right xs ys Return h = tt

abbrev Calls : List ℕ → List Arc → Type 0
Calls called ways = AllByRecursion (λ way. IsCallOf called way.act) ways

left : (xs ys : List ℕ) (ways : List Arc) → Calls xs ways → Calls (xs ++ ys) ways
left xs ys ways h = each-more (λ way. IsCallOf xs way.act) (λ way. IsCallOf (xs ++ ys) way.act) (λ way k. of-left xs ys way.act k) ways h

right : (xs ys : List ℕ) (ways : List Arc) → Calls ys ways → Calls (xs ++ ys) ways
right xs ys ways h = each-more (λ way. IsCallOf ys way.act) (λ way. IsCallOf (xs ++ ys) way.act) (λ way k. of-right xs ys way.act k) ways h

both : (called : List ℕ) (first second : List Arc) → Calls called first → Calls called second → Calls called (first ++ second)
both called first second h k = each-append (λ way. IsCallOf called way.act) first second h k

mutual
  statement-calls : (t : _) (c : ℕ) (statement : Statement) → Calls (called_in statement) (statement_arcs t c statement)
  statement-calls t c (Set col value) = (tt, tt)
  statement-calls t c (Any col) = (tt, tt)
  statement-calls t c (Call proc args into) = ((0, omega arith, refl), tt)
  statement-calls t c (Guard cond) = (tt, tt)
  statement-calls t c (Check number cond) = (tt, tt)
  statement-calls t c (If cond on_true on_false) =
      let end_true : ℕ = c + 1 + code_nodes on_true in
      let end_false : ℕ = end_true + 1 + code_nodes on_false in
      let first : List Arc = arc c (c + 1) (Guard cond) ∷ code_arcs t (c + 1) on_true in
      let second : List Arc = arc c (end_true + 1) (unless cond) ∷ code_arcs t (end_true + 1) on_false in
      let third : List Arc = arc end_true (end_false + 1) skip ∷ arc end_false (end_false + 1) skip ∷ [] in
      let all : List ℕ = called on_true ++ called on_false in
      both all (first ++ second) third
      (both all first second
      (left (called on_true) (called on_false) first (tt, code-calls t (c + 1) on_true))
      (right (called on_true) (called on_false) second (tt, code-calls t (end_true + 1) on_false)))
      (tt, (tt, tt))
  statement-calls t c (Loop pre cond body step false) =
      let test : ℕ = c + 1 + code_nodes pre in
      let end_body : ℕ = test + 1 + code_nodes body in
      let end_step : ℕ = end_body + 1 + code_nodes step in
      let first : List Arc = arc c (c + 1) skip ∷ code_arcs t (c + 1) pre in
      let second : List Arc = arc test (test + 1) (Guard cond) ∷ code_arcs (inside t (end_step + 1) (end_body + 1)) (test + 1) body in
      let third : List Arc = arc end_body (end_body + 1) skip ∷ code_arcs t (end_body + 1) step in
      let last : List Arc = arc end_step (c + 1) skip ∷ arc test (end_step + 1) (unless cond) ∷ [] in
      let front : List ℕ = called pre ++ called body in
      let all : List ℕ = front ++ called step in
      both all ((first ++ second) ++ third) last
      (both all (first ++ second) third
      (left front (called step) (first ++ second)
      (both front first second
      (left (called pre) (called body) first (tt, code-calls t (c + 1) pre))
      (right (called pre) (called body) second (tt, code-calls (inside t (end_step + 1) (end_body + 1)) (test + 1) body))))
      (right front (called step) third (tt, code-calls t (end_body + 1) step)))
      (tt, (tt, tt))
  statement-calls t c (Loop pre cond body step true) =
      let end_body : ℕ = c + 1 + code_nodes body in
      let test : ℕ = end_body + 1 + code_nodes pre in
      let first : List Arc = arc c (c + 1) skip ∷ code_arcs (inside t (test + 1) (end_body + 1)) (c + 1) body in
      let second : List Arc = arc end_body (end_body + 1) skip ∷ code_arcs t (end_body + 1) pre in
      let last : List Arc = arc test (c + 1) (Guard cond) ∷ arc test (test + 1) (unless cond) ∷ [] in
      let front : List ℕ = called pre ++ called body in
      let all : List ℕ = front ++ called step in
      both all (first ++ second) last
      (left front (called step) (first ++ second)
      (both front first second
      (right (called pre) (called body) first (tt, code-calls (inside t (test + 1) (end_body + 1)) (c + 1) body))
      (left (called pre) (called body) second (tt, code-calls t (end_body + 1) pre))))
      (tt, (tt, tt))
  statement-calls t c Break = (tt, tt)
  statement-calls t c Continue = (tt, tt)
  statement-calls t c Return = (tt, tt)

  code-calls : (t : _) (c : ℕ) (code : Code) → Calls (called code) (code_arcs t c code)
  code-calls t c End = tt
  code-calls t c (Then statement rest) =
      both (called_in statement ++ called rest) (statement_arcs t c statement) (code_arcs t (c + statement_nodes statement) rest)
      (left (called_in statement) (called rest) (statement_arcs t c statement) (statement-calls t c statement))
      (right (called_in statement) (called rest) (code_arcs t (c + statement_nodes statement) rest) (code-calls t (c + statement_nodes statement) rest))

pub graph-calls : (body : Code) → AllByRecursion (λ way. IsCallOf (called body) way.act) (flow_of body).arcs
graph-calls body = both (called body) (code_arcs (outermost body) 0 body) (arc (code_nodes body) (exit_of body) skip ∷ []) (code-calls (outermost body) 0 body) (tt, tt)
