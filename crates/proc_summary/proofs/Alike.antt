-- Alike procedures have one subject, the same ends and the same pairs of entry and exit.
use Rattle.std.proofs.Common.{◌≡◌, ℕ, ◌+◌, List, [], ◌∷◌, ◌++◌, length, map, take, true, false, Option, refl, sym, ap, ◌∙◌, arith}
use Rattle.std.specs.Prelude.{◌==◌, ◌&&◌, ◌||◌, nat_lt, not, replicate}
use Rattle.std.specs.List.{filter, flat_map, range_with_len}
use Rattle.std.proofs.lemmas.List.{length-map, map-append}
use Rattle.linear_terms.specs.Equality.{poly_eq}
use Rattle.polyhedra.specs.Directions.{distinct}
use Rattle.syntax_tree.specs.declared.program.Column.{Column}
use Rattle.syntax_tree.specs.declared.program.Proc.{Proc}
use Rattle.syntax_tree.specs.declared.program.Program.{Program}
use Rattle.syntax_tree.specs.Code.{Statement, Guard, Code, code_of}
use Rattle.syntax_tree.specs.Nodes.{code_nodes, statement_nodes}
use Rattle.syntax_tree.specs.WellFormed.{has_name, width_of}
use Rattle.flow_graph.specs.FlowGraph.{Arc, CheckPlace, arc, checks_at, code_arcs, code_checks_at, exit_of, inside, outermost, skip, statement_arcs, unless}
use Rattle.point_induction.specs.Points.{is_head}
use Rattle.leaf_cases.specs.Edges.{known_call, leaf_of, losses_in_known_call, losses_in_leaf}
use Rattle.transition_formula.specs.Transition.{Transition}
use Rattle.vocabularies.specs.Harvest.{compared_terms, compared_by, compared_in, harvest_of, most_terms}
use Rattle.vocabularies.specs.Ends.{entry_of, full_of, named_columns_from, named_if, pair_of, terms_below, value_width}
use Rattle.vocabularies.specs.Ends as ends
use Rattle.proc_summary.specs.Alike.{AlikeProcsAreOne, AreAlike, AreAlikeProcs, AreAlikeStatements, AreKnownAlike, alike_anys, alike_breaks, alike_calls, alike_checks, alike_continues, alike_ends, alike_guards, alike_ifs, alike_loops, alike_more, alike_returns, alike_sets}
use Rattle.proc_summary.specs.Subject.{call_node, call_nodes, check_nodes, link_of, own_graph}
use Rattle.proc_summary.specs.Summary.{ends_of}

-- ---- procedures that are called, alike in a wider sense

module _ (same wider : ℕ → ℕ → Type 0) (widens : (proc other : ℕ) → same proc other → wider proc other) where
  mutual
    statement-wider : (s o : Statement) → AreAlikeStatements same s o → AreAlikeStatements wider s o
    statement-wider _ _ (alike_sets col value) = alike_sets col value
    statement-wider _ _ (alike_anys col) = alike_anys col
    statement-wider _ _ (alike_calls proc other args into h) = alike_calls proc other args into (widens proc other h)
    statement-wider _ _ (alike_guards cond) = alike_guards cond
    statement-wider _ _ (alike_checks number other cond) = alike_checks number other cond
    statement-wider _ _ (alike_ifs cond a b c d h k) = alike_ifs cond a b c d (code-wider a c h) (code-wider b d k)
    statement-wider _ _ (alike_loops pre pre' cond body step body' step' first h k l) =
        alike_loops pre pre' cond body step body' step' first (code-wider pre pre' h) (code-wider body body' k) (code-wider step step' l)
    statement-wider _ _ alike_breaks = alike_breaks
    statement-wider _ _ alike_continues = alike_continues
    statement-wider _ _ alike_returns = alike_returns

    code-wider : (a b : Code) → AreAlike same a b → AreAlike wider a b
    code-wider _ _ alike_ends = alike_ends
    code-wider _ _ (alike_more s o rest others h k) = alike_more s o rest others (statement-wider s o h) (code-wider rest others k)

  pub procs-wider : (program other : Program) (p q : Proc) → AreAlikeProcs same program other p q → AreAlikeProcs wider program other p q
  procs-wider program other p q h = record {
    globals = h.globals;
    rule = h.rule;
    params = h.params;
    returns = h.returns;
    named = h.named;
    body = code-wider (code_of p.body) (code_of q.body) h.body;
  }

-- ---- edges that lead between the same nodes and do what is alike

pub record IsAlikeArc (same : ℕ → ℕ → Type 0) (a b : Arc) : Type 0 where
  pub from : a.from ≡ b.from
  pub to : a.to ≡ b.to
  pub act : AreAlikeStatements same a.act b.act

pub data AreAlikeArcs (same : ℕ → ℕ → Type 0) : List Arc → List Arc → Type 0 where
  no_arcs : AreAlikeArcs same [] []
  more_arcs : (a b : Arc) (xs bs : List Arc) → IsAlikeArc same a b → AreAlikeArcs same xs bs → AreAlikeArcs same (a ∷ xs) (b ∷ bs)

module _ (same : ℕ → ℕ → Type 0) where
  arcs-append : (xs bs cs ds : List Arc) → AreAlikeArcs same xs bs → AreAlikeArcs same cs ds → AreAlikeArcs same (xs ++ cs) (bs ++ ds)
  arcs-append _ _ cs ds no_arcs k = k
  arcs-append _ _ cs ds (more_arcs a b xs bs one h) k = more_arcs a b (xs ++ cs) (bs ++ ds) one (arcs-append xs bs cs ds h k)

  one-more : (c d e f : ℕ) (s o : Statement) (xs bs : List Arc) → c ≡ d → e ≡ f → AreAlikeStatements same s o → AreAlikeArcs same xs bs
      → AreAlikeArcs same (arc c e s ∷ xs) (arc d f o ∷ bs)
  one-more c d e f s o xs bs from to act rest = more_arcs (arc c e s) (arc d f o) xs bs (record { from = from; to = to; act = act }) rest

  mutual
    statement-nodes : (s o : Statement) → AreAlikeStatements same s o → statement_nodes s ≡ statement_nodes o
    statement-nodes _ _ (alike_sets col value) = refl
    statement-nodes _ _ (alike_anys col) = refl
    statement-nodes _ _ (alike_calls proc other args into h) = refl
    statement-nodes _ _ (alike_guards cond) = refl
    statement-nodes _ _ (alike_checks number other cond) = refl
    statement-nodes _ _ (alike_ifs cond a b c d h k) = let one = code-nodes a c h in let two = code-nodes b d k in omega (arith, one, two)
    statement-nodes _ _ (alike_loops pre pre' cond body step body' step' true h k l) =
        let one = code-nodes pre pre' h in let two = code-nodes body body' k in omega (arith, one, two)
    statement-nodes _ _ (alike_loops pre pre' cond body step body' step' false h k l) =
        let one = code-nodes pre pre' h in let two = code-nodes body body' k in let three = code-nodes step step' l in omega (arith, one, two, three)
    statement-nodes _ _ alike_breaks = refl
    statement-nodes _ _ alike_continues = refl
    statement-nodes _ _ alike_returns = refl

    code-nodes : (a b : Code) → AreAlike same a b → code_nodes a ≡ code_nodes b
    code-nodes _ _ alike_ends = refl
    code-nodes _ _ (alike_more s o rest others h k) = let one = statement-nodes s o h in let two = code-nodes rest others k in omega (arith, one, two)

  within : (t u : _) (a b c d : ℕ) → t ≡ u → a ≡ b → c ≡ d → inside t a c ≡ inside u b d
  within t u a b c d e f g = λ i. inside (e i) (f i) (g i)

  mutual
    statement-arcs : (t u : _) (c d : ℕ) (s o : Statement) → t ≡ u → c ≡ d → AreAlikeStatements same s o
        → AreAlikeArcs same (statement_arcs t c s) (statement_arcs u d o)
    statement-arcs t u c d _ _ e f (alike_sets col value) = one-more c d (c + 1) (d + 1) _ _ [] [] f (omega (arith, f)) (alike_sets col value) no_arcs
    statement-arcs t u c d _ _ e f (alike_anys col) = one-more c d (c + 1) (d + 1) _ _ [] [] f (omega (arith, f)) (alike_anys col) no_arcs
    statement-arcs t u c d _ _ e f (alike_calls proc other args into h) = one-more c d (c + 1) (d + 1) _ _ [] [] f (omega (arith, f)) (alike_calls proc other args into h) no_arcs
    statement-arcs t u c d _ _ e f (alike_guards cond) = one-more c d (c + 1) (d + 1) _ _ [] [] f (omega (arith, f)) (alike_guards cond) no_arcs
    statement-arcs t u c d _ _ e f (alike_checks number other cond) = one-more c d (c + 1) (d + 1) _ _ [] [] f (omega (arith, f)) (alike_guards cond) no_arcs
    statement-arcs t u c d _ _ e f (alike_ifs cond on_true on_false true_code false_code h k) =
        let m = code-nodes on_true true_code h in
        let n = code-nodes on_false false_code k in
        let a : ℕ = c + 1 + code_nodes on_true in
        let b : ℕ = d + 1 + code_nodes true_code in
        let ab : a ≡ b = omega (arith, f, m) in
        let x : ℕ = a + 1 + code_nodes on_false in
        let y : ℕ = b + 1 + code_nodes false_code in
        let xy : x ≡ y = omega (arith, ab, n) in
        let first : List Arc = arc c (c + 1) (Guard cond) ∷ code_arcs t (c + 1) on_true in
        let first' : List Arc = arc d (d + 1) (Guard cond) ∷ code_arcs u (d + 1) true_code in
        let second : List Arc = arc c (a + 1) (unless cond) ∷ code_arcs t (a + 1) on_false in
        let second' : List Arc = arc d (b + 1) (unless cond) ∷ code_arcs u (b + 1) false_code in
        let last : List Arc = arc a (x + 1) skip ∷ arc x (x + 1) skip ∷ [] in
        let last' : List Arc = arc b (y + 1) skip ∷ arc y (y + 1) skip ∷ [] in
        arcs-append (first ++ second) (first' ++ second') last last'
        (arcs-append first first' second second'
        (one-more c d (c + 1) (d + 1) _ _ _ _ f (omega (arith, f)) (alike_guards cond) (code-arcs t u (c + 1) (d + 1) on_true true_code e (omega (arith, f)) h))
        (one-more c d (a + 1) (b + 1) _ _ _ _ f (omega (arith, ab)) (alike_guards _) (code-arcs t u (a + 1) (b + 1) on_false false_code e (omega (arith, ab)) k)))
        (one-more a b (x + 1) (y + 1) _ _ _ _ ab (omega (arith, xy)) (alike_guards _) (one-more x y (x + 1) (y + 1) _ _ [] [] xy (omega (arith, xy)) (alike_guards _) no_arcs))
    statement-arcs t u c d _ _ e f (alike_loops pre pre' cond body step body' step' false h k l) =
        let m = code-nodes pre pre' h in
        let n = code-nodes body body' k in
        let o = code-nodes step step' l in
        let a : ℕ = c + 1 + code_nodes pre in
        let b : ℕ = d + 1 + code_nodes pre' in
        let ab : a ≡ b = omega (arith, f, m) in
        let x : ℕ = a + 1 + code_nodes body in
        let y : ℕ = b + 1 + code_nodes body' in
        let xy : x ≡ y = omega (arith, ab, n) in
        let v : ℕ = x + 1 + code_nodes step in
        let w : ℕ = y + 1 + code_nodes step' in
        let vw : v ≡ w = omega (arith, xy, o) in
        let inner = inside t (v + 1) (x + 1) in
        let inner' = inside u (w + 1) (y + 1) in
        let first : List Arc = arc c (c + 1) skip ∷ code_arcs t (c + 1) pre in
        let first' : List Arc = arc d (d + 1) skip ∷ code_arcs u (d + 1) pre' in
        let second : List Arc = arc a (a + 1) (Guard cond) ∷ code_arcs inner (a + 1) body in
        let second' : List Arc = arc b (b + 1) (Guard cond) ∷ code_arcs inner' (b + 1) body' in
        let third : List Arc = arc x (x + 1) skip ∷ code_arcs t (x + 1) step in
        let third' : List Arc = arc y (y + 1) skip ∷ code_arcs u (y + 1) step' in
        let last : List Arc = arc v (c + 1) skip ∷ arc a (v + 1) (unless cond) ∷ [] in
        let last' : List Arc = arc w (d + 1) skip ∷ arc b (w + 1) (unless cond) ∷ [] in
        arcs-append ((first ++ second) ++ third) ((first' ++ second') ++ third') last last'
        (arcs-append (first ++ second) (first' ++ second') third third'
        (arcs-append first first' second second'
        (one-more c d (c + 1) (d + 1) _ _ _ _ f (omega (arith, f)) (alike_guards _) (code-arcs t u (c + 1) (d + 1) pre pre' e (omega (arith, f)) h))
        (one-more a b (a + 1) (b + 1) _ _ _ _ ab (omega (arith, ab)) (alike_guards cond) (code-arcs inner inner' (a + 1) (b + 1) body body' (within t u (v + 1) (w + 1) (x + 1) (y + 1) e (omega (arith, vw)) (omega (arith, xy))) (omega (arith, ab)) k)))
        (one-more x y (x + 1) (y + 1) _ _ _ _ xy (omega (arith, xy)) (alike_guards _) (code-arcs t u (x + 1) (y + 1) step step' e (omega (arith, xy)) l)))
        (one-more v w (c + 1) (d + 1) _ _ _ _ vw (omega (arith, f)) (alike_guards _) (one-more a b (v + 1) (w + 1) _ _ [] [] ab (omega (arith, vw)) (alike_guards _) no_arcs))
    statement-arcs t u c d _ _ e f (alike_loops pre pre' cond body step body' step' true h k l) =
        let m = code-nodes pre pre' h in
        let n = code-nodes body body' k in
        let x : ℕ = c + 1 + code_nodes body in
        let y : ℕ = d + 1 + code_nodes body' in
        let xy : x ≡ y = omega (arith, f, n) in
        let a : ℕ = x + 1 + code_nodes pre in
        let b : ℕ = y + 1 + code_nodes pre' in
        let ab : a ≡ b = omega (arith, xy, m) in
        let inner = inside t (a + 1) (x + 1) in
        let inner' = inside u (b + 1) (y + 1) in
        let first : List Arc = arc c (c + 1) skip ∷ code_arcs inner (c + 1) body in
        let first' : List Arc = arc d (d + 1) skip ∷ code_arcs inner' (d + 1) body' in
        let second : List Arc = arc x (x + 1) skip ∷ code_arcs t (x + 1) pre in
        let second' : List Arc = arc y (y + 1) skip ∷ code_arcs u (y + 1) pre' in
        let last : List Arc = arc a (c + 1) (Guard cond) ∷ arc a (a + 1) (unless cond) ∷ [] in
        let last' : List Arc = arc b (d + 1) (Guard cond) ∷ arc b (b + 1) (unless cond) ∷ [] in
        arcs-append (first ++ second) (first' ++ second') last last'
        (arcs-append first first' second second'
        (one-more c d (c + 1) (d + 1) _ _ _ _ f (omega (arith, f)) (alike_guards _) (code-arcs inner inner' (c + 1) (d + 1) body body' (within t u (a + 1) (b + 1) (x + 1) (y + 1) e (omega (arith, ab)) (omega (arith, xy))) (omega (arith, f)) k))
        (one-more x y (x + 1) (y + 1) _ _ _ _ xy (omega (arith, xy)) (alike_guards _) (code-arcs t u (x + 1) (y + 1) pre pre' e (omega (arith, xy)) h)))
        (one-more a b (c + 1) (d + 1) _ _ _ _ ab (omega (arith, f)) (alike_guards cond) (one-more a b (a + 1) (b + 1) _ _ [] [] ab (omega (arith, ab)) (alike_guards _) no_arcs))
    statement-arcs t u c d _ _ e f alike_breaks = one-more c d t.break_to u.break_to _ _ [] [] f (λ i. (e i).break_to) (alike_guards _) no_arcs
    statement-arcs t u c d _ _ e f alike_continues = one-more c d t.continue_to u.continue_to _ _ [] [] f (λ i. (e i).continue_to) (alike_guards _) no_arcs
    statement-arcs t u c d _ _ e f alike_returns = one-more c d t.exit u.exit _ _ [] [] f (λ i. (e i).exit) (alike_guards _) no_arcs

    code-arcs : (t u : _) (c d : ℕ) (a b : Code) → t ≡ u → c ≡ d → AreAlike same a b → AreAlikeArcs same (code_arcs t c a) (code_arcs u d b)
    code-arcs t u c d _ _ e f alike_ends = no_arcs
    code-arcs t u c d _ _ e f (alike_more s o rest others h k) =
        let n = statement-nodes s o h in
        arcs-append (statement_arcs t c s) (statement_arcs u d o) (code_arcs t (c + statement_nodes s) rest) (code_arcs u (d + statement_nodes o) others)
        (statement-arcs t u c d s o e f h) (code-arcs t u (c + statement_nodes s) (d + statement_nodes o) rest others e (omega (arith, f, n)) k)

  -- ---- where assertions stand

  nodes-append : (xs bs cs ds : List CheckPlace) → check_nodes xs ≡ check_nodes bs → check_nodes cs ≡ check_nodes ds → check_nodes (xs ++ cs) ≡ check_nodes (bs ++ ds)
  nodes-append xs bs cs ds e f =
      map-append (λ (check : CheckPlace). check.node) xs cs ∙ (λ i. e i ++ f i) ∙ sym (map-append (λ (check : CheckPlace). check.node) bs ds)

  mutual
    statement-checks : (c d : ℕ) (s o : Statement) → c ≡ d → AreAlikeStatements same s o → check_nodes (checks_at c s) ≡ check_nodes (checks_at d o)
    statement-checks c d _ _ f (alike_sets col value) = refl
    statement-checks c d _ _ f (alike_anys col) = refl
    statement-checks c d _ _ f (alike_calls proc other args into h) = refl
    statement-checks c d _ _ f (alike_guards cond) = refl
    statement-checks c d _ _ f (alike_checks number other cond) = ap (λ n. n ∷ []) f
    statement-checks c d _ _ f (alike_ifs cond on_true on_false true_code false_code h k) =
        let m = code-nodes on_true true_code h in
        nodes-append (code_checks_at (c + 1) on_true) (code_checks_at (d + 1) true_code) (code_checks_at (c + 1 + code_nodes on_true + 1) on_false) (code_checks_at (d + 1 + code_nodes true_code + 1) false_code)
        (code-checks (c + 1) (d + 1) on_true true_code (omega (arith, f)) h)
        (code-checks (c + 1 + code_nodes on_true + 1) (d + 1 + code_nodes true_code + 1) on_false false_code (omega (arith, f, m)) k)
    statement-checks c d _ _ f (alike_loops pre pre' cond body step body' step' false h k l) =
        let m = code-nodes pre pre' h in
        let n = code-nodes body body' k in
        let x : ℕ = c + 1 + code_nodes pre + 1 in
        let y : ℕ = d + 1 + code_nodes pre' + 1 in
        let xy : x ≡ y = omega (arith, f, m) in
        nodes-append (code_checks_at (c + 1) pre ++ code_checks_at x body) (code_checks_at (d + 1) pre' ++ code_checks_at y body') (code_checks_at (x + code_nodes body + 1) step) (code_checks_at (y + code_nodes body' + 1) step')
        (nodes-append (code_checks_at (c + 1) pre) (code_checks_at (d + 1) pre') (code_checks_at x body) (code_checks_at y body')
        (code-checks (c + 1) (d + 1) pre pre' (omega (arith, f)) h)
        (code-checks x y body body' xy k))
        (code-checks (x + code_nodes body + 1) (y + code_nodes body' + 1) step step' (omega (arith, xy, n)) l)
    statement-checks c d _ _ f (alike_loops pre pre' cond body step body' step' true h k l) =
        let n = code-nodes body body' k in
        nodes-append (code_checks_at (c + 1) body) (code_checks_at (d + 1) body') (code_checks_at (c + 1 + code_nodes body + 1) pre) (code_checks_at (d + 1 + code_nodes body' + 1) pre')
        (code-checks (c + 1) (d + 1) body body' (omega (arith, f)) k)
        (code-checks (c + 1 + code_nodes body + 1) (d + 1 + code_nodes body' + 1) pre pre' (omega (arith, f, n)) h)
    statement-checks c d _ _ f alike_breaks = refl
    statement-checks c d _ _ f alike_continues = refl
    statement-checks c d _ _ f alike_returns = refl

    code-checks : (c d : ℕ) (a b : Code) → c ≡ d → AreAlike same a b → check_nodes (code_checks_at c a) ≡ check_nodes (code_checks_at d b)
    code-checks c d _ _ f alike_ends = refl
    code-checks c d _ _ f (alike_more s o rest others h k) =
        let n = statement-nodes s o h in
        nodes-append (checks_at c s) (checks_at d o) (code_checks_at (c + statement_nodes s) rest) (code_checks_at (d + statement_nodes o) others)
        (statement-checks c d s o f h) (code-checks (c + statement_nodes s) (d + statement_nodes o) rest others (omega (arith, f, n)) k)

  -- ---- what they compare

  mutual
    statement-compares : (s o : Statement) → AreAlikeStatements same s o → compared_by s ≡ compared_by o
    statement-compares _ _ (alike_sets col value) = refl
    statement-compares _ _ (alike_anys col) = refl
    statement-compares _ _ (alike_calls proc other args into h) = refl
    statement-compares _ _ (alike_guards cond) = refl
    statement-compares _ _ (alike_checks number other cond) = refl
    statement-compares _ _ (alike_ifs cond a b c d h k) = λ i. compared_terms cond ++ (code-compares a c h i ++ code-compares b d k i)
    statement-compares _ _ (alike_loops pre pre' cond body step body' step' first h k l) =
        λ i. code-compares pre pre' h i ++ (compared_terms cond ++ (code-compares body body' k i ++ code-compares step step' l i))
    statement-compares _ _ alike_breaks = refl
    statement-compares _ _ alike_continues = refl
    statement-compares _ _ alike_returns = refl

    code-compares : (a b : Code) → AreAlike same a b → compared_in a ≡ compared_in b
    code-compares _ _ alike_ends = refl
    code-compares _ _ (alike_more s o rest others h k) = λ i. statement-compares s o h i ++ code-compares rest others k i

  -- ---- links, and the nodes that calls lead from

  pub links-alike : (xs bs : List Arc) → AreAlikeArcs same xs bs → map link_of xs ≡ map link_of bs
  links-alike _ _ no_arcs = refl
  links-alike _ _ (more_arcs a b xs bs one h) = λ i. record { from = one.from i; to = one.to i } ∷ links-alike xs bs h i

  call-alike : (c d : ℕ) (s o : Statement) → c ≡ d → AreAlikeStatements same s o → call_node c s ≡ call_node d o
  call-alike c d _ _ f (alike_sets col value) = refl
  call-alike c d _ _ f (alike_anys col) = refl
  call-alike c d _ _ f (alike_calls proc other args into h) = ap (λ n. n ∷ []) f
  call-alike c d _ _ f (alike_guards cond) = refl
  call-alike c d _ _ f (alike_checks number other cond) = refl
  call-alike c d _ _ f (alike_ifs cond a b e g h k) = refl
  call-alike c d _ _ f (alike_loops pre pre' cond body step body' step' first h k l) = refl
  call-alike c d _ _ f alike_breaks = refl
  call-alike c d _ _ f alike_continues = refl
  call-alike c d _ _ f alike_returns = refl

  calls-alike : (xs bs : List Arc) → AreAlikeArcs same xs bs → call_nodes xs ≡ call_nodes bs
  calls-alike _ _ no_arcs = refl
  calls-alike _ _ (more_arcs a b xs bs one h) = λ i. call-alike a.from b.from a.act b.act one.from one.act i ++ calls-alike xs bs h i

  head-alike : (xs bs : List Arc) → AreAlikeArcs same xs bs → (node : ℕ) → is_head xs node ≡ is_head bs node
  head-alike _ _ no_arcs node = refl
  head-alike _ _ (more_arcs a b xs bs one h) node = λ i. ((one.to i == node) && not (nat_lt (one.from i) (one.to i))) || head-alike xs bs h node i

-- ---- formulas of edges

module _ (columns globals : ℕ) (known others : List (Option Transition)) where
  leaf-alike : (s o : Statement) → AreAlikeStatements (AreKnownAlike known others) s o → leaf_of columns globals known s ≡ leaf_of columns globals others o
  leaf-alike _ _ (alike_sets col value) = refl
  leaf-alike _ _ (alike_anys col) = refl
  leaf-alike _ _ (alike_calls proc other args into h) = ap (known_call columns globals args into) h
  leaf-alike _ _ (alike_guards cond) = refl
  leaf-alike _ _ (alike_checks number other cond) = refl
  leaf-alike _ _ (alike_ifs cond a b e g h k) = refl
  leaf-alike _ _ (alike_loops pre pre' cond body step body' step' first h k l) = refl
  leaf-alike _ _ alike_breaks = refl
  leaf-alike _ _ alike_continues = refl
  leaf-alike _ _ alike_returns = refl

  lost-alike : (s o : Statement) → AreAlikeStatements (AreKnownAlike known others) s o → losses_in_leaf columns globals known s ≡ losses_in_leaf columns globals others o
  lost-alike _ _ (alike_sets col value) = refl
  lost-alike _ _ (alike_anys col) = refl
  lost-alike _ _ (alike_calls proc other args into h) = ap (losses_in_known_call columns globals args into) h
  lost-alike _ _ (alike_guards cond) = refl
  lost-alike _ _ (alike_checks number other cond) = refl
  lost-alike _ _ (alike_ifs cond a b e g h k) = refl
  lost-alike _ _ (alike_loops pre pre' cond body step body' step' first h k l) = refl
  lost-alike _ _ alike_breaks = refl
  lost-alike _ _ alike_continues = refl
  lost-alike _ _ alike_returns = refl

  leaves-alike : (xs bs : List Arc) → AreAlikeArcs (AreKnownAlike known others) xs bs
      → map (λ (way : Arc). leaf_of columns globals known way.act) xs ≡ map (λ (way : Arc). leaf_of columns globals others way.act) bs
  leaves-alike _ _ no_arcs = refl
  leaves-alike _ _ (more_arcs a b xs bs one h) = λ i. leaf-alike a.act b.act one.act i ∷ leaves-alike xs bs h i

  losses-alike : (xs bs : List Arc) → AreAlikeArcs (AreKnownAlike known others) xs bs
      → flat_map (λ (way : Arc). losses_in_leaf columns globals known way.act) xs ≡ flat_map (λ (way : Arc). losses_in_leaf columns globals others way.act) bs
  losses-alike _ _ no_arcs = refl
  losses-alike _ _ (more_arcs a b xs bs one h) = λ i. lost-alike a.act b.act one.act i ++ losses-alike xs bs h i

-- ---- vocabularies

named-alike : (n m : ℕ) (xs ys : List Column) → n ≡ m → map has_name xs ≡ map has_name ys → named_columns_from n xs ≡ named_columns_from m ys
named-alike n m [] [] e h = refl
named-alike n m [] (y ∷ ys) e h = absurd (cc h)
named-alike n m (x ∷ xs) [] e h = absurd (cc h)
named-alike n m (x ∷ xs) (y ∷ ys) e h =
    let first : has_name x ≡ has_name y = cc in
    let rest : map has_name xs ≡ map has_name ys = cc in
    λ i. named_if (first i) (e i) (named-alike (n + 1) (m + 1) xs ys (omega (arith, e)) rest i)

module _ (same : ℕ → ℕ → Type 0) (program other : Program) (p q : Proc) (h : AreAlikeProcs same program other p q) where
  own-alike : length p.columns ≡ length q.columns
  own-alike = sym (length-map p.columns has_name) ∙ ap length h.named ∙ length-map q.columns has_name

  width-alike : width_of program p ≡ width_of other q
  width-alike = λ i. h.globals i + own-alike i + 1

  harvest-alike : harvest_of p.body ≡ harvest_of q.body
  unfolding harvest_of
  harvest-alike = ap (λ all. take most_terms (distinct poly_eq all)) (code-compares same (code_of p.body) (code_of q.body) h.body)

  full-alike : full_of program p ≡ full_of other q
  unfolding full_of
  full-alike = λ i. record {
    columns = width-alike i;
    named = range_with_len 0 (h.globals i) ++ (named-alike (length program.globals) (length other.globals) p.columns q.columns h.globals h.named i ++ (h.globals i + own-alike i) ∷ []);
    harvested = harvest-alike i;
    rule = h.rule i;
    extra = [];
  }

  entry-alike : entry_of program p ≡ entry_of other q
  unfolding entry_of
  entry-alike = λ i. record {
    columns = h.globals i + h.params i;
    named = range_with_len 0 (h.globals i + h.params i);
    harvested = terms_below (h.globals i + h.params i) (harvest-alike i);
    rule = h.rule i;
    extra = [];
  }

  exit-alike : ends.exit_of program p ≡ ends.exit_of other q
  unfolding ends.exit_of
  exit-alike = λ i. record {
    columns = h.globals i + value_width (h.returns i);
    named = range_with_len 0 (h.globals i + value_width (h.returns i));
    harvested = terms_below (h.globals i) (harvest-alike i);
    rule = h.rule i;
    extra = [];
  }

  -- of pairs of entry and exit
  pub pair-alike : pair_of program p ≡ pair_of other q
  unfolding pair_of
  pair-alike = λ i. record {
    columns = h.globals i + h.params i + (h.globals i + value_width (h.returns i));
    named = range_with_len 0 (h.globals i + h.params i + (h.globals i + value_width (h.returns i)));
    harvested = terms_below (h.globals i + h.params i) (harvest-alike i);
    rule = h.rule i;
    extra = [];
  }

  pub ends-alike : ends_of program p ≡ ends_of other q
  ends-alike = λ i. record { globals = h.globals i; returns = h.returns i; full = full-alike i; entry = entry-alike i; exit = exit-alike i }

  pub arcs-alike : AreAlikeArcs same (own_graph p).arcs (own_graph q).arcs
  arcs-alike =
      let n = code-nodes same (code_of p.body) (code_of q.body) h.body in
      let e : exit_of (code_of p.body) ≡ exit_of (code_of q.body) = omega (arith, n) in
      arcs-append same (code_arcs (outermost (code_of p.body)) 0 (code_of p.body)) (code_arcs (outermost (code_of q.body)) 0 (code_of q.body)) _ _
      (code-arcs same (outermost (code_of p.body)) (outermost (code_of q.body)) 0 0 (code_of p.body) (code_of q.body) (λ i. record { break_to = e i; continue_to = e i; exit = e i }) refl h.body)
      (one-more same _ _ _ _ _ _ [] [] n e (alike_guards _) no_arcs)

pub alike_procs_are_one : AlikeProcsAreOne
alike_procs_are_one program other p q known others h =
    let same = AreKnownAlike known others in
    let n = code-nodes same (code_of p.body) (code_of q.body) h.body in
    let e : exit_of (code_of p.body) ≡ exit_of (code_of q.body) = omega (arith, n) in
    let f : (own_graph p).nodes ≡ (own_graph q).nodes = omega (arith, n) in
    let arcs = arcs-alike same program other p q h in
    let wide = width-alike same program other p q h in (
      (λ i. record {
        links = links-alike same (own_graph p).arcs (own_graph q).arcs arcs i;
        leaves = ((λ j. map (λ (way : Arc). leaf_of (wide j) (h.globals j) known way.act) (own_graph p).arcs) ∙ leaves-alike (width_of other q) (length other.globals) known others (own_graph p).arcs (own_graph q).arcs arcs) i;
        lost = ((λ j. flat_map (λ (way : Arc). losses_in_leaf (wide j) (h.globals j) known way.act) (own_graph p).arcs) ∙ losses-alike (width_of other q) (length other.globals) known others (own_graph p).arcs (own_graph q).arcs arcs) i;
        nodes = replicate (f i) (full-alike same program other p q h i);
        exit = e i;
        checks = code-checks same 0 0 (code_of p.body) (code_of q.body) refl h.body i;
        calls = calls-alike same (own_graph p).arcs (own_graph q).arcs arcs i;
        points = 0 ∷ filter (λ node. head-alike same (own_graph p).arcs (own_graph q).arcs arcs node i) (range_with_len 0 (f i));
      }),
      ends-alike same program other p q h,
    )
