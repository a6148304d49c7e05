-- Nodes ahead of a source: exactly those to which a path leads from it that enters no head.
use Rattle.std.proofs.Common.{◌≡◌, ◌⊎◌, ℕ, zero, suc, ◌<◌, ◌≤◌, List, [], ◌∷◌, ◌++◌, length, Some, refl, sym, ap, subst, ◌∙◌, inl, inr, arith, get_or}
use Rattle.std.specs.Prelude.{Bool, true, false, not, nat_lt, ◌==◌, ◌&&◌, ◌||◌, slice_get}
use Rattle.std.specs.List.{list_any}
use Rattle.std.proofs.lemmas.Bool.{and_from, and_parts, cases_Bool, cases_lt, eq-eqb, eqb-true, false≢true, ltb-true, not-true, or_cases, or_left, or_right}
use Rattle.std.proofs.lemmas.List.{get_or_append_left, get_or_past, get_or_push, length_push}
use Rattle.std.proofs.lemmas.List.Folds.{list_any_at}
use Rattle.std.proofs.lemmas.Option.{get_or_from_slice_get, slice_get_within}
use Rattle.flow_graph.specs.FlowGraph.{Arc}
use Rattle.point_induction.specs.Points.{is_head, leads_back_to}
use Rattle.point_ways.specs.Laws.{NodesAheadAreLedTo}
use Rattle.point_ways.specs.Ways.{LeadsAhead, is_led_to, leads_from_marked, marks_ahead}

-- ---- a test that an element at a place passes

pub any-at : {A : Type 0} (test : A → Bool) (xs : List A) (k : ℕ) (x : A) → slice_get xs k ≡ Some x → test x ≡ true → list_any test xs ≡ true
any-at test xs k x is passes =
    list_any_at test xs k x (slice_get_within xs k x is) (ap test (get_or_from_slice_get xs k x x is) ∙ passes)

-- an element that passes, with its place
record Passing {A : Type 0} (test : A → Bool) (xs : List A) : Type 0 where
  place : ℕ
  element : A
  is : slice_get xs place ≡ Some element
  passes : test element ≡ true

passing : {A : Type 0} (test : A → Bool) (xs : List A) → list_any test xs ≡ true → Passing test xs
passing test [] any = absurd (false≢true any)
passing {A} test (x ∷ xs) any = by_first (cases_Bool (test x)) (λ more. passing test xs more)
  where
    later : Passing test xs → Passing test (x ∷ xs)
    later one = record { place = suc one.place; element = one.element; is = one.is; passes = one.passes }

    by_first : (test x ≡ true) ⊎ (test x ≡ false) → (list_any test xs ≡ true → Passing test xs) → Passing test (x ∷ xs)
    by_first (inl e) rest = record { place = 0; element = x; is = refl; passes = e }
    by_first (inr e) rest = later (rest (subst (λ b. (b || list_any test xs) ≡ true) e any))

-- ---- an edge to a node that is no head leads forward

pub edge-forward : (arcs : List Arc) (k : ℕ) (way : Arc) → slice_get arcs k ≡ Some way → is_head arcs way.to ≡ false → way.from < way.to
edge-forward arcs k way is free = by_test (cases_Bool (nat_lt way.from way.to))
  where
    by_test : (nat_lt way.from way.to ≡ true) ⊎ (nat_lt way.from way.to ≡ false) → way.from < way.to
    by_test (inl e) = ltb-true way.from way.to e
    by_test (inr e) =
        absurd (false≢true (sym free ∙ any-at (leads_back_to way.to) arcs k way is (and_from (way.to == way.to) (not (nat_lt way.from way.to)) (eq-eqb way.to way.to refl) (ap not e))))

module _ (arcs : List Arc) (source : ℕ) where
  -- ---- marks

  pub marks-none : marks_ahead arcs source 0 ≡ []
  unfolding marks_ahead
  marks-none = refl

  pub marks-more : (n : ℕ) → marks_ahead arcs source (suc n) ≡ marks_ahead arcs source n ++ is_led_to arcs source (marks_ahead arcs source n) n ∷ []
  unfolding marks_ahead
  marks-more n = refl

  pub length-marks : (n : ℕ) → length (marks_ahead arcs source n) ≡ n
  length-marks zero = ap length marks-none
  length-marks (suc n) =
      let one = length_push (marks_ahead arcs source n) (is_led_to arcs source (marks_ahead arcs source n) n) in
      let all = ap length (marks-more n) in
      let rest = length-marks n in omega (arith, one, all, rest)

  -- the mark of the last node, and those before it
  mark-last : (n : ℕ) → get_or (marks_ahead arcs source (suc n)) n false ≡ is_led_to arcs source (marks_ahead arcs source n) n
  mark-last n =
      ap (λ marks. get_or marks n false) (marks-more n)
      ∙ get_or_push (marks_ahead arcs source n) (is_led_to arcs source (marks_ahead arcs source n) n) false n (length-marks n)

  mark-before : (n k : ℕ) → k < n → get_or (marks_ahead arcs source (suc n)) k false ≡ get_or (marks_ahead arcs source n) k false
  mark-before n k less =
      ap (λ marks. get_or marks k false) (marks-more n)
      ∙ get_or_append_left (marks_ahead arcs source n) (is_led_to arcs source (marks_ahead arcs source n) n ∷ []) false k (subst (λ m. k < m) (sym (length-marks n)) less)

  -- a node's mark is by those of the lower nodes, however many marks there are
  pub mark-at : (n k : ℕ) → k < n → get_or (marks_ahead arcs source n) k false ≡ is_led_to arcs source (marks_ahead arcs source k) k
  mark-at zero k lt = absurd (omega arith)
  mark-at (suc n) k lt = by_place (cases_lt k n) (λ less. mark-at n k less)
    where
      by_place : (k < n) ⊎ (n ≤ k) → (k < n → get_or (marks_ahead arcs source n) k false ≡ is_led_to arcs source (marks_ahead arcs source k) k)
          → get_or (marks_ahead arcs source (suc n)) k false ≡ is_led_to arcs source (marks_ahead arcs source k) k
      by_place (inl less) rest = mark-before n k less ∙ rest less
      by_place (inr more) rest =
          let same : n ≡ k = omega (arith, more, lt) in
          subst (λ m. get_or (marks_ahead arcs source (suc n)) m false ≡ is_led_to arcs source (marks_ahead arcs source m) m) same (mark-last n)

  pub source-marked : (n : ℕ) → source < n → get_or (marks_ahead arcs source n) source false ≡ true
  source-marked n lt = mark-at n source lt ∙ or_left (source == source) _ (eq-eqb source source refl)

  -- the mark of a node to which an edge leads from a marked node
  pub marked-next : (n k : ℕ) (way : Arc) → slice_get arcs k ≡ Some way → is_head arcs way.to ≡ false → way.to < n
      → get_or (marks_ahead arcs source n) way.from false ≡ true → get_or (marks_ahead arcs source n) way.to false ≡ true
  marked-next n k way is free lt marked =
      let forward : way.from < way.to = edge-forward arcs k way is free in
      let below : get_or (marks_ahead arcs source way.to) way.from false ≡ true =
      mark-at way.to way.from forward ∙ sym (mark-at n way.from (omega (arith, forward, lt))) ∙ marked in
      let led : list_any (leads_from_marked (marks_ahead arcs source way.to) way.to) arcs ≡ true =
      any-at (leads_from_marked (marks_ahead arcs source way.to) way.to) arcs k way is
      (and_from (way.to == way.to) (get_or (marks_ahead arcs source way.to) way.from false) (eq-eqb way.to way.to refl) below) in
      mark-at n way.to lt
      ∙ or_right (way.to == source) (not (is_head arcs way.to) && list_any (leads_from_marked (marks_ahead arcs source way.to) way.to) arcs)
      (and_from (not (is_head arcs way.to)) (list_any (leads_from_marked (marks_ahead arcs source way.to) way.to) arcs) (ap not free) led)

  -- ---- a path leads to marked nodes alone

  led-up : (path : List ℕ) (from to : ℕ) → LeadsAhead arcs from path to → from ≤ to
  led-up [] from to leads = omega (arith, leads)
  led-up (edge ∷ path) from to (way, is, starts, free, later) =
      let forward : way.from < way.to = edge-forward arcs edge way is free in
      let more : way.to ≤ to = led-up path way.to to later in omega (arith, starts, forward, more)

  led-marked : (n : ℕ) (path : List ℕ) (from to : ℕ) → LeadsAhead arcs from path to → to < n
      → get_or (marks_ahead arcs source n) from false ≡ true → get_or (marks_ahead arcs source n) to false ≡ true
  led-marked n [] from to leads lt marked = subst (λ k. get_or (marks_ahead arcs source n) k false ≡ true) leads marked
  led-marked n (edge ∷ path) from to (way, is, starts, free, later) lt marked =
      let more : way.to ≤ to = led-up path way.to to later in
      led-marked n path way.to to later lt
      (marked-next n edge way is free (omega (arith, more, lt)) (subst (λ k. get_or (marks_ahead arcs source n) k false ≡ true) (sym starts) marked))

  -- ---- and to each of them leads one

  led-more : (path : List ℕ) (from k : ℕ) (way : Arc) → LeadsAhead arcs from path way.from → slice_get arcs k ≡ Some way → is_head arcs way.to ≡ false
      → LeadsAhead arcs from (path ++ k ∷ []) way.to
  led-more [] from k way leads is free = (way, is, sym leads, free, refl)
  led-more (edge ∷ path) from k way (first, there, starts, enters, later) is free = (first, there, starts, enters, led-more path first.to k way later is free)

  led-by_edge : (n : ℕ) → Passing (leads_from_marked (marks_ahead arcs source n) n) arcs → is_head arcs n ≡ false
      → ((k : ℕ) → get_or (marks_ahead arcs source n) k false ≡ true → (path : List ℕ) × LeadsAhead arcs source path k)
      → (path : List ℕ) × LeadsAhead arcs source path n
  led-by_edge n one free before =
      let way = one.element in
      let parts = and_parts (way.to == n) (get_or (marks_ahead arcs source n) way.from false) one.passes in
      let ends : way.to ≡ n = eqb-true way.to n parts.0 in
      let first = before way.from parts.1 in (
        first.0 ++ one.place ∷ [],
        subst (LeadsAhead arcs source (first.0 ++ one.place ∷ [])) ends (led-more first.0 source one.place way first.1 one.is (ap (is_head arcs) ends ∙ free)),
      )

  led-last : (n : ℕ) → is_led_to arcs source (marks_ahead arcs source n) n ≡ true
      → ((k : ℕ) → get_or (marks_ahead arcs source n) k false ≡ true → (path : List ℕ) × LeadsAhead arcs source path k)
      → (path : List ℕ) × LeadsAhead arcs source path n
  led-last n led before = by_kind (or_cases (n == source) (not (is_head arcs n) && list_any (leads_from_marked (marks_ahead arcs source n) n) arcs) led)
    where
      by_kind : ((n == source) ≡ true) ⊎ ((not (is_head arcs n) && list_any (leads_from_marked (marks_ahead arcs source n) n) arcs) ≡ true)
          → (path : List ℕ) × LeadsAhead arcs source path n
      by_kind (inl e) = ([], sym (eqb-true n source e))
      by_kind (inr e) =
          let parts = and_parts (not (is_head arcs n)) (list_any (leads_from_marked (marks_ahead arcs source n) n) arcs) e in
          led-by_edge n (passing (leads_from_marked (marks_ahead arcs source n) n) arcs parts.1) (not-true (is_head arcs n) parts.0) before

  marked-led : (n k : ℕ) → get_or (marks_ahead arcs source n) k false ≡ true → (path : List ℕ) × LeadsAhead arcs source path k
  marked-led zero k marked = absurd (false≢true (sym (ap (λ marks. get_or marks k false) marks-none) ∙ marked))
  marked-led (suc n) k marked = by_place (cases_lt k n) (cases_lt n k) (λ m h. marked-led n m h)
    where
      by_place : (k < n) ⊎ (n ≤ k) → (n < k) ⊎ (k ≤ n)
          → ((m : ℕ) → get_or (marks_ahead arcs source n) m false ≡ true → (path : List ℕ) × LeadsAhead arcs source path m)
          → (path : List ℕ) × LeadsAhead arcs source path k
      by_place (inl less) _ before = before k (sym (mark-before n k less) ∙ marked)
      by_place (inr more) (inl past) before =
          let all = length-marks (suc n) in
          absurd (false≢true (sym (get_or_past (marks_ahead arcs source (suc n)) k false (omega (arith, all, past))) ∙ marked))
      by_place (inr more) (inr most) before =
          let same : k ≡ n = omega (arith, more, most) in
          subst (λ m. (path : List ℕ) × LeadsAhead arcs source path m) (sym same)
          (led-last n (sym (mark-last n) ∙ subst (λ m. get_or (marks_ahead arcs source (suc n)) m false ≡ true) same marked) before)

-- ---- the law

pub nodes_ahead_are_led_to : NodesAheadAreLedTo
nodes_ahead_are_led_to graph source node lt = (
  λ ahead. marked-led graph.arcs source graph.nodes node ahead,
  λ path.
      let up = led-up graph.arcs source path.0 source node path.1 in
      led-marked graph.arcs source graph.nodes path.0 source node path.1 lt (source-marked graph.arcs source graph.nodes (omega (arith, up, lt))),
)
