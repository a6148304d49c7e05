-- The calls of a group lead from a member to a member, with arguments that can be made.
use Rattle.std.proofs.Common.{◌≡◌, ℕ, zero, suc, ◌+◌, ◌<◌, Bool, true, false, List, [], ◌∷◌, ◌++◌, length, get_or, map, refl, sym, ap, subst, ◌∙◌, arith}
use Rattle.std.specs.Prelude.{All, IsTrue, Option, None, Some, option_to_list, ◌==◌, if◌then◌else◌}
use Rattle.std.specs.List.{AllByRecursion, flat_map, slice_get}
use Rattle.std.specs.Option.{option_map, unwrap_or}
use Rattle.std.proofs.lemmas.Bool.Decides.{Decides-eqb}
use Rattle.std.proofs.lemmas.List.{length-map}
use Rattle.std.proofs.lemmas.List.Elements.{All-from_recursion, recursion_from_All}
use Rattle.std.proofs.lemmas.Option.{get_or_from_slice_get, slice_get-map, slice_get_within}
use Rattle.items.proofs.Each.{each-append, each-flat_map}
use Rattle.syntax_tree.specs.declared.program.Proc.{Proc}
use Rattle.syntax_tree.specs.declared.program.Program.{Program}
use Rattle.syntax_tree.specs.Code.{Statement, Set, Any, Call, Guard, Check, If, Loop, Break, Continue, Return}
use Rattle.syntax_tree.specs.WellFormed.{IsWellFormed, all_columns_below, width_of}
use Rattle.flow_graph.specs.declared.parts.Edge.{Edge}
use Rattle.flow_graph.specs.declared.parts.Graph.{Graph}
use Rattle.flow_graph.specs.FlowGraph.{Arc, FlowGraph, body_of, flow_of, graph_of}
use Rattle.flow_graph.specs.Plain.{arc_of, plain}
use Rattle.vocabularies.specs.Ends.{entry_of}
use Rattle.vocabularies.specs.Procs.{IsProcOf}
use Rattle.proc_summary.specs.Subject.{own_graph}
use Rattle.newton_rounds.specs.Closure.{ends_at, ends_of_members, no_pair, pair_ends}
use Rattle.newton_rounds.specs.Members.{GroupCall, call_by, call_to, calls_from, calls_of, members_of, place_of}
use Rattle.newton_rounds.specs.Pairs.{PairEnds}
use Rattle.newton_rounds.specs.declared.calls.GroupCall as own
use Rattle.newton_rounds.specs.Shapes.{IsCallIn, plain_call}
use Rattle.newton_rounds.proofs.CratesBelow.{EdgeFits, act-fits, full-columns, proc-fit, some_at}

-- what is so at each place is so of each element
pub each-got : {A : Type 0} (P : A → Type 0) (xs : List A) → ((k : ℕ) (x : A) → slice_get xs k ≡ Some x → P x) → AllByRecursion P xs
each-got P [] at = tt
each-got P (x ∷ xs) at = (at 0 x refl, each-got P xs (λ k y e. at (suc k) y e))

-- ---- places

pub number-at : (ns : List ℕ) (i : ℕ) → i < length ns → slice_get ns i ≡ Some (get_or ns i 0)
number-at ns i lt = let at = some_at ns i lt in subst (λ n. slice_get ns i ≡ Some n) (sym (get_or_from_slice_get ns i at.0 0 at.1)) at.1

-- the number stands there
pub placed-at : (n : ℕ) (ms : List ℕ) (k : ℕ) → place_of n ms ≡ Some k → slice_get ms k ≡ Some n
placed-at n [] k e = absurd (cc e)
placed-at n (m ∷ ms) k e = go (n == m) refl (place_of n ms) (λ j f. placed-at n ms j f) e
  where
    go : (same : Bool) → (n == m) ≡ same → (o : Option ℕ) → ((j : ℕ) → o ≡ Some j → slice_get ms j ≡ Some n) → (if same then Some 0 else option_map (λ place. place + 1) o) ≡ Some k → slice_get (m ∷ ms) k ≡ Some n
    go true t o at e = let none : 0 ≡ k = cc in subst (λ j. slice_get (m ∷ ms) j ≡ Some n) none (ap Some (sym ((Decides-eqb n m).0 t)))
    go false t None at e = absurd (cc e)
    go false t (Some j) at e =
        let next : j + 1 ≡ k = cc in let more : suc j ≡ j + 1 = omega arith in
        subst (λ i. slice_get (m ∷ ms) i ≡ Some n) next (subst (λ i. slice_get (m ∷ ms) i ≡ Some n) more (at j refl))

placed-within : (n : ℕ) (ms : List ℕ) (k : ℕ) → place_of n ms ≡ Some k → k < length ms
placed-within n ms k e = slice_get_within ms k n (placed-at n ms k e)

entry-columns : (program : Program) (p : Proc) → (pair_ends program p).ends.entry.columns ≡ length program.globals + p.params
unfolding entry_of
entry-columns program p = refl

-- ---- the calls of one member

module _ (procs : List ℕ) (caller : ℕ) where
  call-from : (way : Arc) (s : Statement) → AllByRecursion (λ (call : GroupCall). call.caller ≡ caller) (call_by procs caller way s)
  call-from way (Call proc args into) = go (place_of proc procs)
    where
      go : (o : Option ℕ) → AllByRecursion (λ (call : GroupCall). call.caller ≡ caller) (call_to caller way args into o)
      go None = tt
      go (Some callee) = (refl, tt)
  call-from way (Set col value) = tt
  call-from way (Any col) = tt
  call-from way (Guard cond) = tt
  call-from way (Check number cond) = tt
  call-from way (If cond a b) = tt
  call-from way (Loop pre cond body step first) = tt
  call-from way Break = tt
  call-from way Continue = tt
  call-from way Return = tt

  pub calls-from : (p : Proc) → AllByRecursion (λ (call : GroupCall). call.caller ≡ caller) (calls_of procs caller p)
  calls-from p =
      each-flat_map (λ (way : Arc). Unit {0}) (λ (call : GroupCall). call.caller ≡ caller) (λ (way : Arc). call_by procs caller way way.act) (λ way h. call-from way way.act) (own_graph p).arcs
      (each-got (λ (way : Arc). Unit {0}) (own_graph p).arcs (λ k way e. tt))

  -- it ends where its edge ends
  call-ends : (nodes : ℕ) (way : Arc) (s : Statement) → way.to < nodes → AllByRecursion (λ (call : GroupCall). call.to < nodes) (call_by procs caller way s)
  call-ends nodes way (Call proc args into) lt = go (place_of proc procs)
    where
      go : (o : Option ℕ) → AllByRecursion (λ (call : GroupCall). call.to < nodes) (call_to caller way args into o)
      go None = tt
      go (Some callee) = (lt, tt)
  call-ends nodes way (Set col value) lt = tt
  call-ends nodes way (Any col) lt = tt
  call-ends nodes way (Guard cond) lt = tt
  call-ends nodes way (Check number cond) lt = tt
  call-ends nodes way (If cond a b) lt = tt
  call-ends nodes way (Loop pre cond body step first) lt = tt
  call-ends nodes way Break lt = tt
  call-ends nodes way Continue lt = tt
  call-ends nodes way Return lt = tt

  pub calls-end : (nodes : ℕ) (edges : List Edge) → AllByRecursion (λ (edge : Edge). (edge.from < nodes) × (edge.to < nodes)) edges
      → AllByRecursion (λ (call : GroupCall). call.to < nodes) (flat_map (λ (way : Arc). call_by procs caller way way.act) (map arc_of edges))
  calls-end nodes [] h = tt
  calls-end nodes (edge ∷ edges) h =
      each-append (λ (call : GroupCall). call.to < nodes) (call_by procs caller (arc_of edge) (arc_of edge).act) (flat_map (λ (way : Arc). call_by procs caller way way.act) (map arc_of edges))
      (call-ends nodes (arc_of edge) (arc_of edge).act h.0.1) (calls-end nodes edges h.1)

-- ---- members at their places

module _ (program : Program) where
  abbrev pub AreThere : List ℕ → Type 0
  AreThere procs = AllByRecursion (λ proc. proc < length program.procs) procs

  pub members-many : (procs : List ℕ) → AreThere procs → length (members_of program procs) ≡ length procs
  members-many [] h = refl
  members-many (proc ∷ procs) h =
      let there = some_at program.procs proc h.0 in
      (λ i. length (option_to_list (there.1 i) ++ members_of program procs)) ∙ ap suc (members-many procs h.1)

  pub member-at : (procs : List ℕ) (i proc : ℕ) (p : Proc) → AreThere procs → slice_get procs i ≡ Some proc → IsProcOf program proc p → slice_get (members_of program procs) i ≡ Some p
  member-at [] i proc p h e is = absurd (cc e)
  member-at (q ∷ procs) zero proc p h e is =
      let same : q ≡ proc = cc in λ j. slice_get (option_to_list ((ap (slice_get program.procs) same ∙ is) j) ++ members_of program procs) 0
  member-at (q ∷ procs) (suc i) proc p h e is =
      let there = some_at program.procs q h.0 in
      (λ j. slice_get (option_to_list (there.1 j) ++ members_of program procs) (suc i)) ∙ member-at procs i proc p h.1 e is

  module _ (procs : List ℕ) (there : AreThere procs) where
    abbrev members : List PairEnds
    members = ends_of_members program procs

    pub ends-many : length members ≡ length procs
    ends-many = length-map (members_of program procs) (pair_ends program) ∙ members-many procs there

    pub ends-at : (i proc : ℕ) (p : Proc) → slice_get procs i ≡ Some proc → IsProcOf program proc p → ends_at members i ≡ pair_ends program p
    ends-at i proc p e is =
        ap (λ o. unwrap_or o no_pair) (slice_get-map (pair_ends program) (members_of program procs) i ∙ ap (option_map (pair_ends program)) (member-at procs i proc p there e is))

    pub columns-at : (i proc : ℕ) (p : Proc) → slice_get procs i ≡ Some proc → IsProcOf program proc p → (ends_at members i).ends.full.columns ≡ width_of program p
    columns-at i proc p e is = ap (λ (m : PairEnds). m.ends.full.columns) (ends-at i proc p e is) ∙ full-columns program p

    -- ---- the calls of all members

    module _ (formed : IsWellFormed program) (caller proc : ℕ) (p : Proc) (at : slice_get procs caller ≡ Some proc) (is : IsProcOf program proc p) where
      act-in : (way : Arc) (s : Statement) → EdgeFits program (width_of program p) s → AllByRecursion (IsCallIn members) (call_by procs caller way s)
      act-in way (Call q args into) fit = go (place_of q procs) refl
        where
          go : (o : Option ℕ) → place_of q procs ≡ o → AllByRecursion (IsCallIn members) (call_to caller way args into o)
          go None e = tt
          go (Some callee) e = (
            record {
              caller = subst (λ n. caller < n) (sym ends-many) (slice_get_within procs caller proc at);
              callee = subst (λ n. callee < n) (sym ends-many) (placed-within q procs callee e);
              enters =
                  let first = ap (λ (m : PairEnds). m.ends.entry.columns) (ends-at callee q fit.callee (placed-at q procs callee e) fit.is) ∙ entry-columns program fit.callee in
                  let globals = ap (λ (m : PairEnds). m.ends.globals) (ends-at caller proc p at is) in
                  let params = fit.params in
                  omega (arith, first, globals, params);
              is = record {
                few = let params = fit.params in let few = (proc-fit program q fit.callee formed fit.is).params in omega (arith, params, few);
                below = subst (λ n. IsTrue (all_columns_below n args)) (sym (columns-at caller proc p at is)) fit.below;
                operators = fit.operators;
              };
            },
            tt,
          )
      act-in way (Set col value) fit = tt
      act-in way (Any col) fit = tt
      act-in way (Guard cond) fit = tt
      act-in way (Check number cond) fit = tt
      act-in way (If cond a b) fit = tt
      act-in way (Loop pre cond body step first) fit = tt
      act-in way Break fit = tt
      act-in way Continue fit = tt
      act-in way Return fit = tt

      edges-fit : AllByRecursion (λ (way : Arc). EdgeFits program (width_of program p) way.act) (own_graph p).arcs
      edges-fit =
          each-got (λ (way : Arc). EdgeFits program (width_of program p) way.act) (own_graph p).arcs
          (λ k way e. act-fits program proc p way.act formed is record {
            place = k;
            way = way;
            is = subst (λ (o : Option Proc). slice_get (flow_of (body_of o)).arcs k ≡ Some way) (sym is) e;
            does = refl;
          })

      own-calls-in : AllByRecursion (IsCallIn members) (calls_of procs caller p)
      own-calls-in =
          each-flat_map (λ (way : Arc). EdgeFits program (width_of program p) way.act) (IsCallIn members) (λ (way : Arc). call_by procs caller way way.act)
          (λ way fit. act-in way way.act fit) (own_graph p).arcs edges-fit

    calls-in_from : (formed : IsWellFormed program) (rest : List ℕ) (at : ℕ) → AreThere rest → ((j proc : ℕ) → slice_get rest j ≡ Some proc → slice_get procs (at + j) ≡ Some proc)
        → AllByRecursion (IsCallIn members) (calls_from procs at (members_of program rest))
    calls-in_from formed [] at h within = tt
    calls-in_from formed (proc ∷ rest) at h within =
        let p = some_at program.procs proc h.0 in
        let here : slice_get procs at ≡ Some proc = subst (λ n. slice_get procs n ≡ Some proc) (omega arith) (within 0 proc refl) in
        subst (λ (o : Option Proc). AllByRecursion (IsCallIn members) (calls_from procs at (option_to_list o ++ members_of program rest))) (sym p.1)
        (each-append (IsCallIn members) (calls_of procs at p.0) (calls_from procs (at + 1) (members_of program rest)) (own-calls-in formed at proc p.0 here p.1)
        (calls-in_from formed rest (at + 1) h.1 (λ j q e. subst (λ n. slice_get procs n ≡ Some q) (omega arith) (within (suc j) q e))))

    pub calls-in : IsWellFormed program → AllByRecursion (IsCallIn members) (calls_from procs 0 (members_of program procs))
    calls-in formed = calls-in_from formed procs 0 there (λ j proc e. subst (λ n. slice_get procs n ≡ Some proc) (omega arith) e)

-- what is so of each mapped element is so of each
pub each-mapped : {A B : Type 0} (P : B → Type 0) (f : A → B) (xs : List A) → AllByRecursion P (map f xs) → AllByRecursion (λ x. P (f x)) xs
each-mapped P f [] h = tt
each-mapped P f (x ∷ xs) h = (h.0, each-mapped P f xs h.1)

-- the calls of a procedure by the graph that is made
module _ (program : Program) (proc : ℕ) (p : Proc) (is : IsProcOf program proc p) (g : Graph) (same : plain g ≡ graph_of program proc) where
  as-own : plain g ≡ own_graph p
  as-own = same ∙ ap (λ (o : Option Proc). flow_of (body_of o)) is

  pub calls-made : (procs : List ℕ) (caller : ℕ) (edges : List Edge) → edges ≡ g.edges → flat_map (λ (way : Arc). call_by procs caller way way.act) (map arc_of edges) ≡ calls_of procs caller p
  calls-made procs caller edges list =
      ap (λ (es : List Edge). flat_map (λ (way : Arc). call_by procs caller way way.act) (map arc_of es)) list
      ∙ ap (λ (f : FlowGraph). flat_map (λ (way : Arc). call_by procs caller way way.act) f.arcs) as-own

  pub call-nodes : (procs : List ℕ) (caller : ℕ) (edges : List Edge) (calls : List own.GroupCall) → edges ≡ g.edges → All (λ (edge : Edge). (edge.from < g.nodes) × (edge.to < g.nodes)) g.edges
      → map plain_call calls ≡ flat_map (λ (way : Arc). call_by procs caller way way.act) (map arc_of edges) → All (λ (call : own.GroupCall). call.to < (own_graph p).nodes) calls
  call-nodes procs caller edges calls list within made =
      All-from_recursion (λ (call : own.GroupCall). call.to < (own_graph p).nodes) calls
      (each-mapped (λ (call : GroupCall). call.to < (own_graph p).nodes) plain_call calls
      (subst (AllByRecursion (λ (call : GroupCall). call.to < (own_graph p).nodes)) (sym made)
      (calls-end procs caller (own_graph p).nodes edges
      (subst (AllByRecursion (λ (edge : Edge). (edge.from < (own_graph p).nodes) × (edge.to < (own_graph p).nodes))) (sym list)
      (subst (λ n. AllByRecursion (λ (edge : Edge). (edge.from < n) × (edge.to < n)) g.edges) (ap (λ (f : FlowGraph). f.nodes) as-own)
      (recursion_from_All (λ (edge : Edge). (edge.from < g.nodes) × (edge.to < g.nodes)) g.edges within))))))
