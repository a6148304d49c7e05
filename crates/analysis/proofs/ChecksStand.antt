-- Where assertions stand, and the graphs of procedures.
--     proc-next, graph-next, procs-end      a loop over procedures
--     graph-within, graph-is                the graph of a procedure
--     check-is                              the assertion of a number stands there
--     check-none                            one that stands nowhere never fails
use Rattle.std.proofs.Common.{◌≡◌, ℕ, zero, suc, ◌+◌, ◌<◌, ◌≤◌, Bool, true, false, cond, List, [], ◌∷◌, ◌++◌, length, map, drop, get_or, refl, sym, ap, subst, ◌∙◌, append_assoc, append-nil, arith}
use Rattle.std.specs.Prelude.{◌==◌, None, Some, slice_get}
use Rattle.std.specs.List.{AllByRecursion, find}
use Rattle.std.specs.Option.{option_map}
use Rattle.std.proofs.lemmas.Bool.{false≢true}
use Rattle.std.proofs.lemmas.Bool.Decides.{Decides-eqb}
use Rattle.std.proofs.lemmas.List.{drop_all, drop_more, length-map}
use Rattle.std.proofs.lemmas.Option.{get_or_from_slice_get, same_Some, slice_get-map, slice_get_read, slice_get_within}
use Rattle.items.proofs.Each.{each-append, each-back, each-front}
use Rattle.syntax_tree.specs.declared.program.Proc.{Proc}
use Rattle.syntax_tree.specs.declared.program.Program.{Program}
use Rattle.syntax_tree.specs.Code.{Check}
use Rattle.syntax_tree.specs.Value.{State}
use Rattle.vocabularies.specs.Procs.{IsProcOf}
use Rattle.execution.specs.Machine.{Do, Frame, Item}
use Rattle.execution.specs.Execution.{Fails}
use Rattle.flow_graph.specs.declared.parts.Graph.{Graph}
use Rattle.flow_graph.specs.FlowGraph.{CheckPlace, FlowGraph, body_of, flow_of, graph_of}
use Rattle.flow_graph.specs.Plain.{plain}
use Rattle.flow_graph.specs.Stack.{Beginning, StandsOver}
use Rattle.flow_graph.specs.Walks.{Stands, WalksTo}
use Rattle.flow_graph.proofs.StackChain.{failures_are_in_chains}
use Rattle.flow_graph.proofs.Theorems.{checks_are_walks}
use Rattle.proc_summary.specs.Subject.{own_graph}
use Rattle.context.specs.Claims.{start_of_main}
use Rattle.analysis.specs.declared.standing.CheckAt.{CheckAt}
use Rattle.analysis.specs.declared.standing.Standing.{Standing}
use Rattle.analysis.specs.Claims.{IsCheckOf, IsStanding}
use Rattle.analysis.specs.Judging.{check_with, checks_from, checks_of}

-- ---- loops

-- those of one more procedure
pub proc-next : (program : Program) (i : ℕ) (p : Proc) (made next whole : List CheckAt) → i < length program.procs → IsProcOf program i p
    → made ++ checks_of i (drop i program.procs) ≡ whole → next ≡ made ++ checks_from i 0 (graph_of program i).checks → next ++ checks_of (i + 1) (drop (i + 1) program.procs) ≡ whole
proc-next program i p made next whole lt is so_far more =
    let rest = checks_of (i + 1) (drop (i + 1) program.procs) in
    let split : drop i program.procs ≡ p ∷ drop (i + 1) program.procs = drop_more program.procs i p lt ∙ ap (λ x. x ∷ drop (i + 1) program.procs) (get_or_from_slice_get program.procs i p p is) in
    ap (λ l. l ++ rest) more ∙ append_assoc made (checks_from i 0 (graph_of program i).checks) rest
    ∙ (λ j. made ++ (checks_from i 0 (flow_of (body_of (is j))).checks ++ rest))
    ∙ ap (λ l. made ++ checks_of i l) (sym split) ∙ so_far

-- the graph of one more procedure
pub graph-next : (program : Program) (i : ℕ) (p : Proc) (made next : List Graph) (whole : List FlowGraph) → i < length program.procs → IsProcOf program i p
    → map plain made ++ map own_graph (drop i program.procs) ≡ whole → map plain next ≡ map plain made ++ graph_of program i ∷ [] → map plain next ++ map own_graph (drop (i + 1) program.procs) ≡ whole
graph-next program i p made next whole lt is so_far more =
    let rest = map own_graph (drop (i + 1) program.procs) in
    let split : drop i program.procs ≡ p ∷ drop (i + 1) program.procs = drop_more program.procs i p lt ∙ ap (λ x. x ∷ drop (i + 1) program.procs) (get_or_from_slice_get program.procs i p p is) in
    ap (λ l. l ++ rest) more ∙ append_assoc (map plain made) (graph_of program i ∷ []) rest
    ∙ (λ j. map plain made ++ flow_of (body_of (is j)) ∷ rest)
    ∙ ap (λ l. map plain made ++ map own_graph l) (sym split) ∙ so_far

-- those of all
pub procs-end : (program : Program) (i : ℕ) (standing : Standing) → length program.procs ≤ i → map plain standing.graphs ++ map own_graph (drop i program.procs) ≡ map own_graph program.procs
    → standing.checks ++ checks_of i (drop i program.procs) ≡ checks_of 0 program.procs → IsStanding program standing
procs-end program i standing end graphs checks =
    let none = drop_all i program.procs end in
    record {
      graphs = sym (append-nil (map plain standing.graphs)) ∙ ap (λ l. map plain standing.graphs ++ map own_graph l) (sym none) ∙ graphs;
      checks = sym (append-nil standing.checks) ∙ ap (λ l. standing.checks ++ checks_of i l) (sym none) ∙ checks;
    }

-- ---- the graph of a procedure

module _ (program : Program) (graphs : List Graph) (same : map plain graphs ≡ map own_graph program.procs) (proc : ℕ) (p : Proc) (is : IsProcOf program proc p) where
  pub graph-within : proc < length graphs
  graph-within =
      let below = slice_get_within program.procs proc p is in
      let long = ap length same in
      let made = length-map graphs plain in
      let own = length-map program.procs own_graph in
      omega (arith, below, long, made, own)

  pub graph-is : (graph : Graph) → graph ≡ get_or graphs proc graph → plain graph ≡ graph_of program proc
  graph-is graph read =
      let at : slice_get graphs proc ≡ Some graph = slice_get_read graphs (length graphs) proc graph refl graph-within read in
      let made = slice_get-map plain graphs proc ∙ ap (option_map plain) at in
      let own = slice_get-map own_graph program.procs proc ∙ ap (option_map own_graph) is in
      same_Some (plain graph) (own_graph p) (sym made ∙ ap (λ l. slice_get l proc) same ∙ own)
      ∙ sym (ap (λ o. flow_of (body_of o)) is)

-- ---- the assertion of a number

-- what holds of all, and of the one that is found
find-some : {X : Type 0} (P : X → Type 0) (test : X → Bool) (xs : List X) (x : X) → AllByRecursion P xs → find test xs ≡ Some x → P x × (test x ≡ true)
find-some P test [] x all e = absurd (cc e)
find-some {X = X} P test (y ∷ xs) x all e = go (test y) refl e (find-some P test xs x all.1)
  where
    go : (b : Bool) → test y ≡ b → cond b (Some y) (find test xs) ≡ Some x → (find test xs ≡ Some x → P x × (test x ≡ true)) → P x × (test x ≡ true)
    go true is here more = let same : y ≡ x = cc here in (subst P same all.0, ap test (sym same) ∙ is)
    go false is later more = more later

find-none : {X : Type 0} (test : X → Bool) (xs : List X) → find test xs ≡ None → AllByRecursion (λ x. test x ≡ false) xs
find-none test [] e = tt
find-none test (y ∷ xs) e = go (test y) refl e (find-none test xs)
  where
    go : (b : Bool) → test y ≡ b → cond b (Some y) (find test xs) ≡ None → (find test xs ≡ None → AllByRecursion (λ x. test x ≡ false) xs) → AllByRecursion (λ x. test x ≡ false) (y ∷ xs)
    go true is here more = absurd (cc here)
    go false is later more = (is, more later)

module _ (program : Program) where
  -- those of a procedure stand there
  of-proc : (proc : ℕ) (p : Proc) → IsProcOf program proc p → (check : ℕ) (checks : List CheckPlace)
      → ((k : ℕ) (at : CheckPlace) → slice_get checks k ≡ Some at → slice_get (own_graph p).checks (check + k) ≡ Some at) → AllByRecursion (IsCheckOf program) (checks_from proc check checks)
  of-proc proc p is check [] there = tt
  of-proc proc p is check (at ∷ checks) there = (
    record { p = p; is = is; at = at; at_is = subst (λ n. slice_get (own_graph p).checks n ≡ Some at) (omega arith) (there 0 at refl); number = refl },
    of-proc proc p is (check + 1) checks (λ k other e. subst (λ n. slice_get (own_graph p).checks n ≡ Some other) (omega arith) (there (suc k) other e)),
  )

  of-procs : (proc : ℕ) (procs : List Proc) → ((k : ℕ) (p : Proc) → slice_get procs k ≡ Some p → slice_get program.procs (proc + k) ≡ Some p) → AllByRecursion (IsCheckOf program) (checks_of proc procs)
  of-procs proc [] there = tt
  of-procs proc (p ∷ procs) there =
      let is : IsProcOf program proc p = subst (λ n. IsProcOf program n p) (omega arith) (there 0 p refl) in
      each-append (IsCheckOf program) (checks_from proc 0 (own_graph p).checks) (checks_of (proc + 1) procs)
      (of-proc proc p is 0 (own_graph p).checks (λ k at e. subst (λ n. slice_get (own_graph p).checks n ≡ Some at) (omega arith) e))
      (of-procs (proc + 1) procs (λ k q e. subst (λ n. IsProcOf program n q) (omega arith) (there (suc k) q e)))

  pub check-is : (number : ℕ) (c : CheckAt) → check_with number (checks_of 0 program.procs) ≡ Some c → IsCheckOf program c × (c.number ≡ number)
  check-is number c e =
      let parts = find-some (IsCheckOf program) (λ (c : CheckAt). c.number == number) (checks_of 0 program.procs) c (of-procs 0 program.procs (λ k p e. subst (λ n. IsProcOf program n p) (omega arith) e)) e in
      (parts.0, (Decides-eqb c.number number).0 parts.1)

-- what holds of the numbers of all
told-in : (R : ℕ → Type 0) (proc check : ℕ) (checks : List CheckPlace) → AllByRecursion (λ (c : CheckAt). R c.number) (checks_from proc check checks)
    → (k : ℕ) (at : CheckPlace) → slice_get checks k ≡ Some at → R at.number
told-in R proc check [] all k at e = absurd (cc e)
told-in R proc check (c ∷ checks) all zero at e = let same : c ≡ at = cc e in subst (λ (x : CheckPlace). R x.number) same all.0
told-in R proc check (c ∷ checks) all (suc k) at e = told-in R proc (check + 1) checks all.1 k at e

told-of : (R : ℕ → Type 0) (proc : ℕ) (procs : List Proc) → AllByRecursion (λ (c : CheckAt). R c.number) (checks_of proc procs)
    → (j : ℕ) (p : Proc) → slice_get procs j ≡ Some p → (k : ℕ) (at : CheckPlace) → slice_get (own_graph p).checks k ≡ Some at → R at.number
told-of R proc [] all j p is k at e = absurd (cc is)
told-of R proc (q ∷ procs) all zero p is k at e =
    let same : p ≡ q = cc is in
    told-in R proc 0 (own_graph q).checks (each-front (λ (c : CheckAt). R c.number) (checks_from proc 0 (own_graph q).checks) (checks_of (proc + 1) procs) all) k at
    (subst (λ (o : Proc). slice_get (own_graph o).checks k ≡ Some at) same e)
told-of R proc (q ∷ procs) all (suc j) p is k at e =
    told-of R (proc + 1) procs (each-back (λ (c : CheckAt). R c.number) (checks_from proc 0 (own_graph q).checks) (checks_of (proc + 1) procs) all) j p is k at e

stands-top : (program : Program) (bottom top : Beginning) (globals : State) (items : List Item) (frame : Frame) (below : List Frame) → StandsOver program bottom top globals items frame below → Stands program top.proc top.globals top.args items (globals ++ frame.own)
stands-top program bottom top globals items frame [] h = h.2
stands-top program bottom top globals items frame (caller ∷ below) h = h.1

pub check-none : (program : Program) (number : ℕ) → check_with number (checks_of 0 program.procs) ≡ None → Fails program number → ⊥
check-none program number e fails =
    let found = failures_are_in_chains program number fails in
    let chain = found.chain in
    let top : Beginning = chain.top in
    let final : State = found.config.globals ++ chain.frame.own in
    let stands = stands-top program (start_of_main program) top found.config.globals chain.frame.items chain.frame chain.below chain.stands in
    let here_at : Stands program top.proc top.globals top.args (Do (Check number found.cond) ∷ found.rest) final = subst (λ items. Stands program top.proc top.globals top.args items final) found.next stands in
    let walk = (checks_are_walks program top.proc top.globals top.args number found.cond final).0 (found.rest, here_at) in
    let place : CheckPlace = walk.0 in
    let w : WalksTo program top.proc top.globals top.args place.node final = walk.5 in
    let is_place : slice_get (own_graph w.callee).checks walk.1 ≡ Some place = subst (λ o. slice_get (flow_of (body_of o)).checks walk.1 ≡ Some place) w.is walk.2 in
    let other : (place.number == number) ≡ false =
    told-of (λ n. (n == number) ≡ false) 0 program.procs (find-none (λ (c : CheckAt). c.number == number) (checks_of 0 program.procs) e) top.proc w.callee w.is walk.1 place is_place in
    absurd (false≢true (sym other ∙ (Decides-eqb place.number number).1 walk.3))
