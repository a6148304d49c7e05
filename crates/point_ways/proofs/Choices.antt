-- Lists of which some elements are chosen: the place of one that is chosen, and the same choice among edges as among arcs.
use Rattle.std.proofs.Common.{◌≡◌, ℕ, zero, suc, ◌+◌, ◌<◌, cond, List, [], ◌∷◌, ◌++◌, map, length, take, drop, get_or, Some, refl, sym, ap, ◌∙◌, append_assoc}
use Rattle.std.specs.Prelude.{Bool, true, false, slice_get}
use Rattle.std.specs.List.{AllByRecursion, filter, flat_map}
use Rattle.std.proofs.lemmas.List.{append-nil, drop_more}
use Rattle.flow_graph.specs.declared.parts.Edge.{Edge}
use Rattle.flow_graph.specs.FlowGraph.{Arc}
use Rattle.flow_graph.specs.Plain.{arc_of}

-- one that passes stands behind those before it that pass
pub filter-place : {A : Type 0} (test : A → Bool) (xs : List A) (k : ℕ) (x : A) → slice_get xs k ≡ Some x → test x ≡ true
    → slice_get (filter test xs) (length (filter test (take k xs))) ≡ Some x
filter-place test [] k x is passes = absurd (cc)
filter-place test (y ∷ xs) zero x is passes =
    let same : y ≡ x = cc in
    ap (λ b. slice_get (cond b (y ∷ filter test xs) (filter test xs)) 0) (ap test same ∙ passes) ∙ ap Some same
filter-place test (y ∷ xs) (suc k) x is passes = by_test (test y) (filter-place test xs k x is passes)
  where
    by_test : (b : Bool) → slice_get (filter test xs) (length (filter test (take k xs))) ≡ Some x
        → slice_get (cond b (y ∷ filter test xs) (filter test xs)) (length (cond b (y ∷ filter test (take k xs)) (filter test (take k xs)))) ≡ Some x
    by_test true rest = rest
    by_test false rest = rest

-- ---- edges and arcs

pub filter-arcs : (test : Edge → Bool) (other : Arc → Bool) → ((edge : Edge) → test edge ≡ other (arc_of edge)) → (edges : List Edge)
    → map arc_of (filter test edges) ≡ filter other (map arc_of edges)
filter-arcs test other same [] = refl
filter-arcs test other same (edge ∷ edges) =
    by_test (test edge) ∙ (λ i. cond (same edge i) (arc_of edge ∷ filter-arcs test other same edges i) (filter-arcs test other same edges i))
  where
    by_test : (b : Bool) → map arc_of (cond b (edge ∷ filter test edges) (filter test edges)) ≡ cond b (arc_of edge ∷ map arc_of (filter test edges)) (map arc_of (filter test edges))
    by_test true = refl
    by_test false = refl

pub map-arcs_each : {X : Type 0} (F : Edge → X) (G : Arc → X) (edges : List Edge) → AllByRecursion (λ edge. F edge ≡ G (arc_of edge)) edges → map F edges ≡ map G (map arc_of edges)
map-arcs_each F G [] same = refl
map-arcs_each F G (edge ∷ edges) same = λ i. same.0 i ∷ map-arcs_each F G edges same.1 i

-- ---- a loop over edges of which some are chosen

-- what is made of one edge and of the edges behind it
pub map-chosen : {X : Type 0} (F : Edge → X) (test : Edge → Bool) (edge : Edge) (edges : List Edge)
    → map F (filter test (edge ∷ edges)) ≡ map F (filter test (edge ∷ [])) ++ map F (filter test edges)
map-chosen F test edge edges = by_test (test edge)
  where
    by_test : (b : Bool) → map F (cond b (edge ∷ filter test edges) (filter test edges)) ≡ map F (cond b (edge ∷ []) []) ++ map F (filter test edges)
    by_test true = refl
    by_test false = refl

pub flat_map-chosen : {X : Type 0} (F : Edge → List X) (test : Edge → Bool) (edge : Edge) (edges : List Edge)
    → flat_map F (filter test (edge ∷ edges)) ≡ flat_map F (filter test (edge ∷ [])) ++ flat_map F (filter test edges)
flat_map-chosen F test edge edges = by_test (test edge)
  where
    by_test : (b : Bool) → flat_map F (cond b (edge ∷ filter test edges) (filter test edges)) ≡ flat_map F (cond b (edge ∷ []) []) ++ flat_map F (filter test edges)
    by_test true = ap (λ xs. xs ++ flat_map F (filter test edges)) (sym (append-nil (F edge)))
    by_test false = refl

at-edge : (edges : List Edge) (i : ℕ) (edge : Edge) → i < length edges → edge ≡ get_or edges i edge → drop i edges ≡ edge ∷ drop (i + 1) edges
at-edge edges i edge lt is = drop_more edges i edge lt ∙ ap (λ (e : Edge). e ∷ drop (i + 1) edges) (sym is)

-- the elements made so far and those of the edges behind are all, also with one edge more
pub map-next : {X : Type 0} (F : Edge → X) (test : Edge → Bool) (edges : List Edge) (i : ℕ) (edge : Edge) (made next whole : List X) → i < length edges → edge ≡ get_or edges i edge
    → made ++ map F (filter test (drop i edges)) ≡ whole → next ≡ made ++ map F (filter test (edge ∷ [])) → next ++ map F (filter test (drop (i + 1) edges)) ≡ whole
map-next F test edges i edge made next whole lt is before pushed =
    ap (λ xs. xs ++ map F (filter test (drop (i + 1) edges))) pushed ∙ append_assoc made (map F (filter test (edge ∷ []))) (map F (filter test (drop (i + 1) edges)))
    ∙ ap (λ xs. made ++ xs) (sym (map-chosen F test edge (drop (i + 1) edges)) ∙ ap (λ xs. map F (filter test xs)) (sym (at-edge edges i edge lt is))) ∙ before

pub flat_map-next : {X : Type 0} (F : Edge → List X) (test : Edge → Bool) (edges : List Edge) (i : ℕ) (edge : Edge) (made next whole : List X) → i < length edges → edge ≡ get_or edges i edge
    → made ++ flat_map F (filter test (drop i edges)) ≡ whole → next ≡ made ++ flat_map F (filter test (edge ∷ [])) → next ++ flat_map F (filter test (drop (i + 1) edges)) ≡ whole
flat_map-next F test edges i edge made next whole lt is before pushed =
    ap (λ xs. xs ++ flat_map F (filter test (drop (i + 1) edges))) pushed
    ∙ append_assoc made (flat_map F (filter test (edge ∷ []))) (flat_map F (filter test (drop (i + 1) edges)))
    ∙ ap (λ xs. made ++ xs) (sym (flat_map-chosen F test edge (drop (i + 1) edges)) ∙ ap (λ xs. flat_map F (filter test xs)) (sym (at-edge edges i edge lt is))) ∙ before

-- one edge that is chosen, and one that is not
pub map-pushed : {X : Type 0} (F : Edge → X) (test : Edge → Bool) (edge : Edge) → test edge ≡ true → map F (filter test (edge ∷ [])) ≡ F edge ∷ []
map-pushed F test edge e = ap (λ b. map F (cond b (edge ∷ []) [])) e

pub map-skipped : {X : Type 0} (F : Edge → X) (test : Edge → Bool) (edge : Edge) → test edge ≡ false → map F (filter test (edge ∷ [])) ≡ []
map-skipped F test edge e = ap (λ b. map F (cond b (edge ∷ []) [])) e
