-- Where the calls of a procedure stand among the ways of its program.
use Rattle.std.proofs.Common.{◌≡◌, ℕ, zero, suc, ◌+◌, map, List, [], ◌∷◌, ◌++◌, Option, Some, refl, sym, ap, subst, ◌∙◌, arith}
use Rattle.std.specs.Prelude.{slice_get}
use Rattle.syntax_tree.specs.declared.program.Proc.{Proc}
use Rattle.syntax_tree.specs.declared.program.Program.{Program}
use Rattle.syntax_tree.specs.Code.{Statement, Set, Any, Call, Guard, Check, If, Loop, Break, Continue, Return}
use Rattle.syntax_tree.specs.Term.{Term}
use Rattle.flow_graph.specs.FlowGraph.{Arc}
use Rattle.proc_summary.specs.declared.stop.Flow.{Flow}
use Rattle.proc_summary.specs.declared.stop.NodeFormula.{NodeFormula}
use Rattle.proc_summary.specs.Subject.{call_node, call_nodes, own_graph}
use Rattle.context.specs.declared.stand.Widths.{Widths}
use Rattle.context.specs.Entries.{Calling, Way, call_way, call_ways, calling_by, callings_in, ways_from, widths_of}

-- ---- places in lists

abbrev pub Found : {X : Type 0} → List X → X → Type 0
Found xs x = (n : ℕ) × (slice_get xs n ≡ Some x)

pub found-front : {X : Type 0} (xs ys : List X) (x : X) → Found xs x → Found (xs ++ ys) x
found-front [] ys x (n, e) = absurd (cc)
found-front (y ∷ xs) ys x (zero, e) = (0, e)
found-front (y ∷ xs) ys x (suc n, e) = let more = found-front xs ys x (n, e) in (suc more.0, more.1)

pub found-behind : {X : Type 0} (xs ys : List X) (x : X) → Found ys x → Found (xs ++ ys) x
found-behind [] ys x h = h
found-behind (y ∷ xs) ys x h = let more = found-behind xs ys x h in (suc more.0, more.1)

-- what an element at a place of a mapped list was made from
pub found-mapped : {X Y : Type 0} (f : X → Y) (xs : List X) (n : ℕ) (y : Y) → slice_get (map f xs) n ≡ Some y → (x : X) × (slice_get xs n ≡ Some x) × (f x ≡ y)
found-mapped f [] n y e = absurd (cc)
found-mapped f (x ∷ xs) zero y e = let same : f x ≡ y = cc in (x, refl, same)
found-mapped f (x ∷ xs) (suc n) y e = found-mapped f xs n y e

-- ---- the calls among the edges of a procedure

-- the call with this number among them leads from this node
pub record CallPlace (arcs : List Arc) (callee : ℕ) (args : List Term) (from : ℕ) : Type 0 where
  pub place : ℕ
  pub calling_is : slice_get (callings_in arcs) place ≡ Some (record { callee = callee; args = args })
  pub node_is : slice_get (call_nodes arcs) place ≡ Some from

further : (first : Statement) (node : ℕ) (arcs : List Arc) (callings : List Calling) (nodes : List ℕ) (j : ℕ) (calling : Calling) (from : ℕ) → slice_get callings j ≡ Some calling → slice_get nodes j ≡ Some from
    → (k : ℕ) × (slice_get (calling_by first ++ callings) k ≡ Some calling) × (slice_get (call_node node first ++ nodes) k ≡ Some from)
further (Set col value) node arcs callings nodes j calling from e f = (j, e, f)
further (Any col) node arcs callings nodes j calling from e f = (j, e, f)
further (Call proc args into) node arcs callings nodes j calling from e f = (suc j, e, f)
further (Guard cond) node arcs callings nodes j calling from e f = (j, e, f)
further (Check number cond) node arcs callings nodes j calling from e f = (j, e, f)
further (If cond a b) node arcs callings nodes j calling from e f = (j, e, f)
further (Loop pre cond body step first) node arcs callings nodes j calling from e f = (j, e, f)
further Break node arcs callings nodes j calling from e f = (j, e, f)
further Continue node arcs callings nodes j calling from e f = (j, e, f)
further Return node arcs callings nodes j calling from e f = (j, e, f)

pub call-place : (arcs : List Arc) (k : ℕ) (way : Arc) (callee : ℕ) (args : List Term) (into : Option ℕ) → slice_get arcs k ≡ Some way → way.act ≡ Call callee args into → CallPlace arcs callee args way.from
call-place [] k way callee args into is act = absurd (cc)
call-place (first ∷ arcs) zero way callee args into is act =
    let same : first ≡ way = cc in
    let does : first.act ≡ Call callee args into = ap (λ (a : Arc). a.act) same ∙ act in
    record {
      place = 0;
      calling_is = ap (λ s. slice_get (calling_by s ++ callings_in arcs) 0) does;
      node_is = λ i. slice_get (call_node (Arc.from (same i)) (does i) ++ call_nodes arcs) 0;
    }
call-place (first ∷ arcs) (suc k) way callee args into is act =
    let there = call-place arcs k way callee args into is act in
    let one = further first.act first.from arcs (callings_in arcs) (call_nodes arcs) there.place (record { callee = callee; args = args }) way.from there.calling_is there.node_is in
    record { place = one.0; calling_is = one.1; node_is = one.2 }

-- ---- its ways

pub way-found : (main number : ℕ) (w : Widths) (callings : List Calling) (stops : List NodeFormula) (j : ℕ) (calling : Calling) (stop : NodeFormula) → slice_get callings j ≡ Some calling → slice_get stops j ≡ Some stop
    → slice_get (call_ways main number w callings stops) j ≡ Some (call_way main number w calling stop)
way-found main number w [] stops j calling stop e f = absurd (cc)
way-found main number w (c ∷ callings) [] j calling stop e f = absurd (cc)
way-found main number w (c ∷ callings) (s ∷ stops) zero calling stop e f =
    let one : c ≡ calling = cc in
    let other : s ≡ stop = cc in λ i. Some (call_way main number w (one i) (other i))
way-found main number w (c ∷ callings) (s ∷ stops) (suc j) calling stop e f = way-found main number w callings stops j calling stop e f

module _ (program : Program) where
  abbrev own_ways : ℕ → Proc → Flow → List Way
  own_ways number p flow = call_ways program.main number (widths_of program p) (callings_in (own_graph p).arcs) flow.calls

  pub ways-found : (number : ℕ) (procs : List Proc) (flows : List Flow) (k : ℕ) (p : Proc) (flow : Flow) (way : Way) → slice_get procs k ≡ Some p → slice_get flows k ≡ Some flow
      → Found (own_ways (number + k) p flow) way → Found (ways_from program number procs flows) way
  ways-found number [] flows k p flow way e f found = absurd (cc)
  ways-found number (q ∷ procs) [] k p flow way e f found = absurd (cc)
  ways-found number (q ∷ procs) (g ∷ flows) zero p flow way e f found =
      let one : q ≡ p = cc in
      let other : g ≡ flow = cc in
      let here : number + 0 ≡ number = omega arith in
      found-front (own_ways number q g) (ways_from program (number + 1) procs flows) way
      (subst (λ ways. Found ways way) (λ i. own_ways (here i) (sym one i) (sym other i)) found)
  ways-found number (q ∷ procs) (g ∷ flows) (suc k) p flow way e f found =
      let next : number + suc k ≡ number + 1 + k = omega arith in
      found-behind (own_ways number q g) (ways_from program (number + 1) procs flows) way
      (ways-found (number + 1) procs flows k p flow way e f (subst (λ n. Found (own_ways n p flow) way) next found))
