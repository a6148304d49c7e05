-- The points of a graph are nodes of it, and each has a place among them; so have the formulas of a
-- flow that stand at points.
use Rattle.std.proofs.Common.{◌≡◌, ℕ, zero, suc, ◌+◌, ◌<◌, ◌≤◌, Bool, true, false, cond, List, [], ◌∷◌, map, Some, refl, sym, ap, subst, ◌∙◌, arith, ◌==◌, ◌&&◌, ◌||◌}
use Rattle.std.specs.Prelude.{nat_lt, not, slice_get}
use Rattle.std.specs.List.{AllByRecursion, filter, list_any, range_with_len}
use Rattle.std.proofs.lemmas.Bool.{eqb-true}
use Rattle.items.proofs.Each.{each-both, each-more}
use Rattle.syntax_tree.specs.declared.program.Proc.{Proc}
use Rattle.syntax_tree.specs.declared.program.Program.{Program}
use Rattle.syntax_tree.specs.Code.{code_of}
use Rattle.syntax_tree.specs.WellFormed.{width_of}
use Rattle.flow_graph.proofs.Within.{arcs_within}
use Rattle.point_induction.specs.Points.{heads_of, is_head, is_point, leads_back_to, points_of}
use Rattle.proc_summary.specs.declared.stop.NodeFormula.{NodeFormula}
use Rattle.proc_summary.specs.Claims.{FitsStop, nodes_of}
use Rattle.proc_summary.specs.Subject.{own_graph}
use Rattle.point_steps.proofs.HeadPlaces.{head-place}
use Rattle.point_states.specs.Additions.{IsPointStop}

-- ---- points are nodes that are points

or-right : (a b : Bool) → b ≡ true → (a || b) ≡ true
or-right true b e = refl
or-right false b e = e

module _ (test : ℕ → Bool) (most : ℕ) where
  filtered : (first count : ℕ) → first + count ≤ most → AllByRecursion (λ node. (node < most) × (test node ≡ true)) (filter test (range_with_len first count))
  filtered first zero le = tt
  filtered first (suc n) le = go (test first) refl (filtered (first + 1) n (omega (arith, le)))
    where
      go : (b : Bool) → test first ≡ b → AllByRecursion (λ node. (node < most) × (test node ≡ true)) (filter test (range_with_len (first + 1) n))
          → AllByRecursion (λ node. (node < most) × (test node ≡ true)) (cond b (first ∷ filter test (range_with_len (first + 1) n)) (filter test (range_with_len (first + 1) n)))
      go true e h = ((omega (arith, le), e), h)
      go false e h = h

points-pass : (p : Proc) → AllByRecursion (λ node. (node < (own_graph p).nodes) × (is_point (own_graph p).arcs node ≡ true)) (points_of (own_graph p))
points-pass p =
    let arcs = (own_graph p).arcs in (
      (omega arith, refl),
      each-more (λ node. (node < (own_graph p).nodes) × (is_head arcs node ≡ true)) (λ node. (node < (own_graph p).nodes) × (is_point arcs node ≡ true)) (λ node h. (h.0, or-right (node == 0) (is_head arcs node) h.1)) (heads_of (own_graph p))
          (filtered (is_head arcs) (own_graph p).nodes 0 (own_graph p).nodes (omega arith)),
    )

each-of_map : {A B : Type 0} (P : B → Type 0) (f : A → B) (xs : List A) → AllByRecursion P (map f xs) → AllByRecursion (λ x. P (f x)) xs
each-of_map P f [] h = tt
each-of_map P f (x ∷ xs) h = (h.0, each-of_map P f xs h.1)

pub stops-are : (program : Program) (p : Proc) (stops : List NodeFormula) → nodes_of stops ≡ points_of (own_graph p) → AllByRecursion (FitsStop (width_of program p)) stops → AllByRecursion (IsPointStop program p) stops
stops-are program p stops same fit =
    let node = λ (stop : NodeFormula). stop.node in
    let pass = λ (n : ℕ). (n < (own_graph p).nodes) × (is_point (own_graph p).arcs n ≡ true) in
    each-more (λ (stop : NodeFormula). pass stop.node × FitsStop (width_of program p) stop) (IsPointStop program p) (λ stop h. record { node = h.0.0; point = h.0.1; fits = h.1 }) stops
    (each-both (λ (stop : NodeFormula). pass stop.node) (FitsStop (width_of program p)) stops (each-of_map pass node stops (subst (AllByRecursion pass) (sym same) (points-pass p))) fit)

-- ---- each point has a place

record Found {A : Type 0} (test : A → Bool) (xs : List A) : Type 0 where
  place : ℕ
  element : A
  is : slice_get xs place ≡ Some element
  passes : test element ≡ true

any-found : {A : Type 0} (test : A → Bool) (xs : List A) → list_any test xs ≡ true → Found test xs
any-found test [] e = absurd (cc)
any-found test (x ∷ xs) e = go (test x) refl e (any-found test xs)
  where
    go : (b : Bool) → test x ≡ b → (b || list_any test xs) ≡ true → (list_any test xs ≡ true → Found test xs) → Found test (x ∷ xs)
    go true here all later = record { place = 0; element = x; is = refl; passes = here }
    go false here all later = let h = later all in record { place = suc h.place; element = h.element; is = h.is; passes = h.passes }

and-left : (a b : Bool) → (a && b) ≡ true → a ≡ true
and-left true b e = refl
and-left false b e = cc

head-within : (p : Proc) (node : ℕ) → is_head (own_graph p).arcs node ≡ true → node < (own_graph p).nodes
head-within p node e =
    let found = any-found (leads_back_to node) (own_graph p).arcs e in
    let way = found.element in
    let ends : way.to ≡ node = eqb-true way.to node (and-left (way.to == node) (not (nat_lt way.from way.to)) found.passes) in
    let within = (arcs_within (code_of p.body) found.place way found.is).1 in
    subst (λ n. n < (own_graph p).nodes) ends within

pub point-place : (p : Proc) (node : ℕ) → is_point (own_graph p).arcs node ≡ true → (k : ℕ) × (slice_get (points_of (own_graph p)) k ≡ Some node)
point-place p node e = go (node == 0) refl e
  where
    go : (b : Bool) → (node == 0) ≡ b → (b || is_head (own_graph p).arcs node) ≡ true → (k : ℕ) × (slice_get (points_of (own_graph p)) k ≡ Some node)
    go true first all = (0, ap (λ n. Some n) (sym (eqb-true node 0 first)))
    go false later all = let there = head-place (own_graph p) node all (head-within p node all) in (suc there.0, there.1)

-- the formula that stands at the place of a node
pub record StopOf (stops : List NodeFormula) (place node : ℕ) : Type 0 where
  pub stop : NodeFormula
  pub is : slice_get stops place ≡ Some stop
  pub node_is : stop.node ≡ node

stop-in : (stops : List NodeFormula) (place node : ℕ) → slice_get (nodes_of stops) place ≡ Some node → StopOf stops place node
stop-in [] place node e = absurd (cc)
stop-in (stop ∷ stops) zero node e = record { stop = stop; is = refl; node_is = cc }
stop-in (stop ∷ stops) (suc k) node e = let there = stop-in stops k node e in record { stop = there.stop; is = there.is; node_is = there.node_is }

pub stop-at : (stops : List NodeFormula) (nodes : List ℕ) (place node : ℕ) → nodes_of stops ≡ nodes → slice_get nodes place ≡ Some node → StopOf stops place node
stop-at stops nodes place node same e = stop-in stops place node (ap (λ ns. slice_get ns place) same ∙ e)
