-- The heads of a graph ascend, and each of them has a place among them.
use Rattle.std.proofs.Common.{◌≡◌, ◌⊎◌, inl, inr, ℕ, zero, suc, ◌+◌, ◌<◌, ◌≤◌, Bool, true, false, cond, length, get_or, List, ◌∷◌, Some, refl, sym, ap, subst, ◌∙◌, true≢false, arith}
use Rattle.std.specs.Prelude.{Err, Ok, slice_get}
use Rattle.std.specs.List.{filter, range_with_len}
use Rattle.std.specs.List.Sorted.{IsBinarySearchResult}
use Rattle.std.specs.Ordering.{nat_cmp}
use Rattle.std.proofs.lemmas.List.Sorted.{searched}
use Rattle.std.proofs.lemmas.Option.{get_or_from_slice_get, slice_get_within}
use Rattle.flow_graph.specs.FlowGraph.{FlowGraph}
use Rattle.point_induction.specs.Points.{heads_of, is_head}

order : (a x : ℕ) → a ≤ x → (a ≡ x) ⊎ (a + 1 ≤ x)
order zero zero le = inl refl
order zero (suc x) le = inr (omega arith)
order (suc a) zero le = absurd (omega (arith, le))
order (suc a) (suc x) le = elim (order a x (omega (arith, le))) [ inl e ↦ inl (ap suc e) | inr h ↦ inr (omega (arith, h)) ]

-- ---- numbers that pass, among those from one on

module _ (test : ℕ → Bool) where
  abbrev passing : ℕ → ℕ → List ℕ
  passing a n = filter test (range_with_len a n)

  -- each is one of these numbers and passes
  record IsPassing (a n x : ℕ) : Type 0 where
    from : a ≤ x
    below : x < a + n
    passes : test x ≡ true

  passing-is : (a n i : ℕ) → i < length (passing a n) → IsPassing a n (get_or (passing a n) i 0)
  passing-is a zero i lt = absurd (omega (arith, lt))
  passing-is a (suc n) i lt = go (test a) refl i lt (λ j less. later (passing-is (a + 1) n j less))
    where
      later : {x : ℕ} → IsPassing (a + 1) n x → IsPassing a (suc n) x
      later h = let from = h.from in let below = h.below in record { from = omega (arith, from); below = omega (arith, below); passes = h.passes }

      go : (b : Bool) → test a ≡ b → (i : ℕ) → i < length (cond b (a ∷ passing (a + 1) n) (passing (a + 1) n)) → ((j : ℕ) → j < length (passing (a + 1) n) → IsPassing a (suc n) (get_or (passing (a + 1) n) j 0))
          → IsPassing a (suc n) (get_or (cond b (a ∷ passing (a + 1) n) (passing (a + 1) n)) i 0)
      go true e zero lt ih = record { from = omega arith; below = omega arith; passes = e }
      go true e (suc i) lt ih = ih i (omega (arith, lt))
      go false e i lt ih = ih i lt

  passing-few : (a n : ℕ) → length (passing a n) ≤ n
  passing-few a zero = omega arith
  passing-few a (suc n) = go (test a) (passing-few (a + 1) n)
    where
      go : (b : Bool) → length (passing (a + 1) n) ≤ n → length (cond b (a ∷ passing (a + 1) n) (passing (a + 1) n)) ≤ suc n
      go true h = omega (arith, h)
      go false h = omega (arith, h)

  passing-rises : (a n i j : ℕ) → i ≤ j → j < length (passing a n) → get_or (passing a n) i 0 ≤ get_or (passing a n) j 0
  passing-rises a zero i j le lt = absurd (omega (arith, lt))
  passing-rises a (suc n) i j le lt = go (test a) (passing-rises (a + 1) n) i j le lt
    where
      go : (b : Bool) → ((i j : ℕ) → i ≤ j → j < length (passing (a + 1) n) → get_or (passing (a + 1) n) i 0 ≤ get_or (passing (a + 1) n) j 0) → (i j : ℕ) → i ≤ j → j < length (cond b (a ∷ passing (a + 1) n) (passing (a + 1) n)) → get_or (cond b (a ∷ passing (a + 1) n) (passing (a + 1) n)) i 0 ≤ get_or (cond b (a ∷ passing (a + 1) n) (passing (a + 1) n)) j 0
      go true ih zero zero le lt = omega arith
      go true ih zero (suc j) le lt = let from = (passing-is (a + 1) n j (omega (arith, lt))).from in omega (arith, from)
      go true ih (suc i) zero le lt = absurd (omega (arith, le))
      go true ih (suc i) (suc j) le lt = ih i j (omega (arith, le)) (omega (arith, lt))
      go false ih i j le lt = ih i j le lt

  passing-place : (a n x : ℕ) → test x ≡ true → a ≤ x → x < a + n → (i : ℕ) × (slice_get (passing a n) i ≡ Some x)
  passing-place a zero x passes le lt = absurd (omega (arith, le, lt))
  passing-place a (suc n) x passes le lt = go (test a) refl (order a x le) (λ more. passing-place (a + 1) n x passes more (omega (arith, lt)))
    where
      go : (b : Bool) → test a ≡ b → (a ≡ x) ⊎ (a + 1 ≤ x) → (a + 1 ≤ x → (i : ℕ) × (slice_get (passing (a + 1) n) i ≡ Some x)) → (i : ℕ) × (slice_get (cond b (a ∷ passing (a + 1) n) (passing (a + 1) n)) i ≡ Some x)
      go true e (inl same) ih = (0, ap (λ y. Some y) same)
      go true e (inr more) ih = let rest = ih more in (suc rest.0, rest.1)
      go false e (inl same) ih = absurd (true≢false (sym passes ∙ ap test (sym same) ∙ e))
      go false e (inr more) ih = ih more

-- ---- heads

pub head-place : (g : FlowGraph) (head : ℕ) → is_head g.arcs head ≡ true → head < g.nodes → (i : ℕ) × (slice_get (heads_of g) i ≡ Some head)
head-place g head e lt = passing-place (is_head g.arcs) 0 g.nodes head e (omega arith) (omega (arith, lt))

pub heads-few : (g : FlowGraph) → length (heads_of g) ≤ g.nodes
heads-few g = passing-few (is_head g.arcs) 0 g.nodes

pub heads-rise : (g : FlowGraph) (i j : ℕ) → i ≤ j → j < length (heads_of g) → get_or (heads_of g) i 0 ≤ get_or (heads_of g) j 0
heads-rise g i j le lt = passing-rises (is_head g.arcs) 0 g.nodes i j le lt

pub head-is : (g : FlowGraph) (i : ℕ) → i < length (heads_of g) → is_head g.arcs (get_or (heads_of g) i 0) ≡ true
head-is g i lt = (passing-is (is_head g.arcs) 0 g.nodes i lt).passes

-- ---- for the code

pub head-found : (g : FlowGraph) (heads : List ℕ) (node i : ℕ) → heads ≡ heads_of g → IsBinarySearchResult (λ y. nat_cmp y node) heads (Ok i) → true ≡ is_head g.arcs node
head-found g heads node i same at =
    let there = searched heads node (Ok i) at (subst (λ xs. (i j : ℕ) → i ≤ j → j < length xs → get_or xs i 0 ≤ get_or xs j 0) (sym same) (heads-rise g)) in
    let within : i < length (heads_of g) = subst (λ xs. i < length xs) same there.0 in
    let own : get_or (heads_of g) i 0 ≡ node = ap (λ xs. get_or xs i 0) (sym same) ∙ there.1 in
    sym (ap (is_head g.arcs) (sym own) ∙ head-is g i within)

-- the places before and from one on have other numbers
apart : (heads : List ℕ) (node i k : ℕ) → ((k : ℕ) → k < i → get_or heads k 0 < node) → ((k : ℕ) → i ≤ k → k < length heads → node < get_or heads k 0) → get_or heads k 0 ≡ node → k < length heads → (k < i) ⊎ (i ≤ k) → ⊥
apart heads node i k front back got within (inl lt) = let less = front k lt in absurd (omega (arith, less, got))
apart heads node i k front back got within (inr le) = let more = back k le within in absurd (omega (arith, more, got))

either-side : (k i : ℕ) → (k < i) ⊎ (i ≤ k)
either-side k zero = inr (omega arith)
either-side zero (suc i) = inl (omega arith)
either-side (suc k) (suc i) = elim (either-side k i) [ inl lt ↦ inl (omega (arith, lt)) | inr le ↦ inr (omega (arith, le)) ]

pub head-missing : (g : FlowGraph) (heads : List ℕ) (node i : ℕ) → heads ≡ heads_of g → node < g.nodes → IsBinarySearchResult (λ y. nat_cmp y node) heads (Err i) → false ≡ is_head g.arcs node
head-missing g heads node i same lt at = go (is_head g.arcs node) refl
  where
    go : (b : Bool) → is_head g.arcs node ≡ b → false ≡ is_head g.arcs node
    go true e =
        let there = searched heads node (Err i) at (subst (λ xs. (i j : ℕ) → i ≤ j → j < length xs → get_or xs i 0 ≤ get_or xs j 0) (sym same) (heads-rise g)) in
        let place = head-place g node e lt in
        let got : get_or heads place.0 0 ≡ node = ap (λ xs. get_or xs place.0 0) same ∙ get_or_from_slice_get (heads_of g) place.0 node 0 place.1 in
        let within : place.0 < length heads = subst (λ xs. place.0 < length xs) (sym same) (slice_get_within (heads_of g) place.0 node place.1) in
        absurd (apart heads node i place.0 there.1 there.2 got within (either-side place.0 i))
    go false e = sym e
