-- A group without a call that follows another.
use Rattle.std.proofs.Common.{◌≡◌, ℕ, zero, suc, ◌<◌, Bool, true, false, not, if◌then◌else◌, List, [], ◌∷◌, map, refl, sym, ap, subst, ◌∙◌, ◌↔◌, arith}
use Rattle.std.specs.Prelude.{All, IsTrue}
use Rattle.std.specs.List.{AllByRecursion, Contains, list_all}
use Rattle.std.proofs.lemmas.Bool.{false≢true, and_parts, and_from}
use Rattle.std.proofs.lemmas.List.Elements.{All-from_recursion, recursion_from_All}
use Rattle.path_expr.specs.declared.link.Link.{Link}
use Rattle.path_expr.specs.Walks.{IsGraph, IsWalk}
use Rattle.flow_graph.specs.declared.parts.Edge.{Edge}
use Rattle.flow_graph.specs.FlowGraph.{Arc}
use Rattle.flow_graph.specs.Plain.{arc_of}
use Rattle.proc_summary.specs.Subject.{link_of}
use Rattle.newton_rounds.specs.Members.{AreApart, calls_in, is_call_to}
use Rattle.newton_rounds.specs.Reached.{TellsReached, is_marked}

-- ---- elements

pub element_of_map : {X : Type 0} (f : Arc → X) (ways : List Arc) (way : Arc) → Contains ways way → Contains (map f ways) (f way)
element_of_map f [] way c = absurd (let lt = c.1 in omega (arith, lt))
element_of_map f (w ∷ ways) way (zero, lt, e) = (zero, omega arith, ap f e)
element_of_map f (w ∷ ways) way (suc k, lt, e) =
    let more = element_of_map f ways way (k, omega (arith, lt), e) in
    (suc more.0, (let less = more.1 in omega (arith, less)), more.2)

pub from_element_of_map : {X : Type 0} (f : Arc → X) (ways : List Arc) (n : X) → Contains (map f ways) n → (way : Arc) × (Contains ways way × (f way ≡ n))
from_element_of_map f [] n c = absurd (let lt = c.1 in omega (arith, lt))
from_element_of_map f (w ∷ ways) n (zero, lt, e) = (w, ((zero, omega arith, refl), e))
from_element_of_map f (w ∷ ways) n (suc k, lt, e) =
    let more = from_element_of_map f ways n (k, omega (arith, lt), e) in
    (more.0, ((suc more.1.0.0, (let less = more.1.0.1 in omega (arith, less)), more.1.0.2), more.1.1))

-- ---- all of a list, and one that fails

all-at : (test : Arc → Bool) (ways : List Arc) → IsTrue (list_all test ways) → (way : Arc) → Contains ways way → test way ≡ true
all-at test [] h way c = absurd (let lt = c.1 in omega (arith, lt))
all-at test (w ∷ ways) h way (zero, lt, e) = ap test (sym e) ∙ (and_parts (test w) (list_all test ways) h).0
all-at test (w ∷ ways) h way (suc k, lt, e) = all-at test ways (and_parts (test w) (list_all test ways) h).1 way (k, omega (arith, lt), e)

all-by : (test : Arc → Bool) (ways : List Arc) → ((way : Arc) → Contains ways way → test way ≡ true) → IsTrue (list_all test ways)
all-by test [] h = refl
all-by test (w ∷ ways) h =
    and_from (test w) (list_all test ways) (h w (zero, omega arith, refl)) (all-by test ways (λ way c. h way (suc c.0, (let lt = c.1 in omega (arith, lt)), c.2)))

unmarked : (b : Bool) → not b ≡ true → b ≡ true → ⊥
unmarked true e f = false≢true e
unmarked false e f = false≢true f

without : (b : Bool) → (b ≡ true → ⊥) → not b ≡ true
without true h = absurd (h refl)
without false h = refl

-- ---- the group's calls

module _ (procs : List ℕ) (ways : List Arc) (links : List Link) (ends : List ℕ) (marks : List Bool) (nodes : ℕ) (same : links ≡ map link_of ways) (ends_are : ends ≡ map (λ (way : Arc). way.to) (calls_in procs ways)) (tells : TellsReached nodes links ends marks) where
  abbrev test : Arc → Bool
  test way = not (is_marked marks way.from)

  apart : IsTrue (list_all test (calls_in procs ways)) → AreApart procs ways
  apart h first second one two word walk =
      unmarked (is_marked marks second.from) (all-at test (calls_in procs ways) h second two)
      ((tells.tells second.from).1 (
        first.to,
        word,
        subst (λ ns. Contains ns first.to) (sym ends_are) (element_of_map (λ (way : Arc). way.to) (calls_in procs ways) first one),
        subst (λ ls. IsWalk ls first.to second.from word) (sym same) walk,
      ))

  not_marked : AreApart procs ways → (way : Arc) → Contains (calls_in procs ways) way → is_marked marks way.from ≡ true → ⊥
  not_marked h way c e =
      let reached = (tells.tells way.from).0 e in
      let first = from_element_of_map (λ (w : Arc). w.to) (calls_in procs ways) reached.0 (subst (λ ns. Contains ns reached.0) ends_are reached.2) in
      h first.0 way first.1.0 c reached.1
      (subst (λ n. IsWalk (map link_of ways) n way.from reached.1) (sym first.1.1) (subst (λ ls. IsWalk ls reached.0 way.from reached.1) same reached.3))

  pub told_apart : IsTrue (list_all test (calls_in procs ways)) ↔ AreApart procs ways
  told_apart = (apart, λ h. all-by test (calls_in procs ways) (λ way c. without (is_marked marks way.from) (not_marked h way c)))

-- ---- where edges lead

abbrev AreWithin : ℕ → List Edge → Type 0
AreWithin nodes edges = AllByRecursion (λ (edge : Edge). (edge.from < nodes) × (edge.to < nodes)) edges

links-within : (nodes : ℕ) (edges : List Edge) → AreWithin nodes edges → AllByRecursion (λ (link : Link). (link.from < nodes) × (link.to < nodes)) (map link_of (map arc_of edges))
links-within nodes [] h = tt
links-within nodes (edge ∷ edges) h = (h.0, links-within nodes edges h.1)

ends-within : (nodes : ℕ) (procs : List ℕ) (edges : List Edge) → AreWithin nodes edges → AllByRecursion (λ n. n < nodes) (map (λ (way : Arc). way.to) (calls_in procs (map arc_of edges)))
ends-within nodes procs [] h = tt
ends-within nodes procs (edge ∷ edges) h = one (is_call_to procs (arc_of edge).act)
    (ends-within nodes procs edges h.1)
  where
    one : (b : Bool) → AllByRecursion (λ n. n < nodes) (map (λ (way : Arc). way.to) (calls_in procs (map arc_of edges))) → AllByRecursion (λ n. n < nodes) (map (λ (way : Arc). way.to) (if b then arc_of edge ∷ calls_in procs (map arc_of edges) else calls_in procs (map arc_of edges)))
    one true rest = (h.0.1, rest)
    one false rest = rest

pub links_within : (nodes : ℕ) (edges : List Edge) (links : List Link) → links ≡ map link_of (map arc_of edges) → All (λ (edge : Edge). (edge.from < nodes) × (edge.to < nodes)) edges → IsGraph nodes links
links_within nodes edges links e h =
    subst (IsGraph nodes) (sym e)
    (All-from_recursion (λ (link : Link). (link.from < nodes) × (link.to < nodes)) (map link_of (map arc_of edges))
    (links-within nodes edges (recursion_from_All (λ (edge : Edge). (edge.from < nodes) × (edge.to < nodes)) edges h)))

pub ends_within : (nodes : ℕ) (procs : List ℕ) (edges : List Edge) (ends : List ℕ) → ends ≡ map (λ (way : Arc). way.to) (calls_in procs (map arc_of edges)) → All (λ (edge : Edge). (edge.from < nodes) × (edge.to < nodes)) edges → All (λ n. n < nodes) ends
ends_within nodes procs edges ends e h =
    subst (All (λ n. n < nodes)) (sym e)
    (All-from_recursion (λ n. n < nodes) (map (λ (way : Arc). way.to) (calls_in procs (map arc_of edges)))
    (ends-within nodes procs edges (recursion_from_All (λ (edge : Edge). (edge.from < nodes) × (edge.to < nodes)) edges h)))
