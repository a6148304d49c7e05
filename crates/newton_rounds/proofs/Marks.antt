-- Marks that spread along links.
use Rattle.std.proofs.Common.{◌≡◌, ◌⊎◌, inl, inr, ℕ, zero, suc, ◌+◌, ◌<◌, ◌≤◌, Bool, true, false, not, ◌&&◌, ◌||◌, if◌then◌else◌, length, get_or, set, replicate, List, [], ◌∷◌, ◌++◌, refl, sym, ap, subst, ◌∙◌, arith}
use Rattle.std.specs.Prelude.{slice_get, None, Some, unwrap_or}
use Rattle.std.specs.Option.{is_some}
use Rattle.std.specs.List.{AllByRecursion}
use Rattle.std.proofs.lemmas.Bool.{false≢true, true≢false, or_parts}
use Rattle.std.proofs.lemmas.List.{get_or-set_same, length-set, length-replicate}
use Rattle.path_expr.specs.declared.link.Link.{Link}
use Rattle.path_expr.specs.Walks.{IsWalk, Leads}
use Rattle.newton_rounds.specs.Reached.{IsReached, is_marked, TellsReached, grows, after_link, after_links, grow_over, with_marks, count_unmarked, IsMarked}

-- ---- one mark more

set-long : (marks : List Bool) (n : ℕ) → length (set marks n true) ≡ length marks
set-long marks n = length-set marks n true

-- a mark stays
kept-by_set : (marks : List Bool) (n m : ℕ) → n < length marks → is_marked marks m ≡ true → is_marked (set marks n true) m ≡ true
kept-by_set [] n m lt h = h
kept-by_set (b ∷ marks) zero zero lt h = refl
kept-by_set (b ∷ marks) zero (suc m) lt h = h
kept-by_set (b ∷ marks) (suc n) zero lt h = h
kept-by_set (b ∷ marks) (suc n) (suc m) lt h = kept-by_set marks n m (omega arith) h

-- a mark that is there is an old one, or the new one
marked-after_set : (marks : List Bool) (n m : ℕ) → is_marked (set marks n true) m ≡ true → (m ≡ n) ⊎ (is_marked marks m ≡ true)
marked-after_set [] n m h = inr h
marked-after_set (b ∷ marks) zero zero h = inl refl
marked-after_set (b ∷ marks) zero (suc m) h = inr h
marked-after_set (b ∷ marks) (suc n) zero h = inr h
marked-after_set (b ∷ marks) (suc n) (suc m) h = go (marked-after_set marks n m h)
  where
    go : (m ≡ n) ⊎ (is_marked marks m ≡ true) → (suc m ≡ suc n) ⊎ (is_marked (b ∷ marks) (suc m) ≡ true)
    go (inl e) = inl (ap suc e)
    go (inr e) = inr e

marked-set : (marks : List Bool) (n : ℕ) → n < length marks → is_marked (set marks n true) n ≡ true
marked-set marks n lt = get_or-set_same marks n true false lt

fewer-set : (marks : List Bool) (n : ℕ) → n < length marks → is_marked marks n ≡ false → count_unmarked (set marks n true) < count_unmarked marks
fewer-set [] n lt h = absurd (omega (arith, lt))
fewer-set (true ∷ marks) zero lt h = absurd (true≢false h)
fewer-set (false ∷ marks) zero lt h = omega arith
fewer-set (true ∷ marks) (suc n) lt h = fewer-set marks n (omega arith) h
fewer-set (false ∷ marks) (suc n) lt h = let less = fewer-set marks n (omega arith) h in omega (arith, less)

-- ---- a link

step-long : (marks : List Bool) (link : Link) → length (after_link marks link) ≡ length marks
step-long marks link = go (grows marks link)
  where
    go : (b : Bool) → length (if b then set marks link.to true else marks) ≡ length marks
    go true = set-long marks link.to
    go false = refl

-- what the link does, by whether it grows the marks
step-grown : (marks : List Bool) (link : Link) → grows marks link ≡ true → after_link marks link ≡ set marks link.to true
step-grown marks link e = λ i. if e i then set marks link.to true else marks

step-same : (marks : List Bool) (link : Link) → grows marks link ≡ false → after_link marks link ≡ marks
step-same marks link e = λ i. if e i then set marks link.to true else marks

-- the two tests of a link that grows
grows-parts : (a b : Bool) → (a && not b) ≡ true → (a ≡ true) × (b ≡ false)
grows-parts true false e = (refl, refl)
grows-parts true true e = absurd (false≢true e)
grows-parts false b e = absurd (false≢true e)

-- the end of a link that does not grow the marks is marked, if its beginning is
still-closed : (a b : Bool) → (a && not b) ≡ false → a ≡ true → b ≡ true
still-closed true true e h = refl
still-closed true false e h = absurd (true≢false e)
still-closed false b e h = absurd (false≢true h)

by_growth : (b : Bool) → (b ≡ true) ⊎ (b ≡ false)
by_growth true = inl refl
by_growth false = inr refl

step-kept : (marks : List Bool) (link : Link) (m : ℕ) → link.to < length marks → is_marked marks m ≡ true → is_marked (after_link marks link) m ≡ true
step-kept marks link m lt h = go (by_growth (grows marks link))
  where
    go : (grows marks link ≡ true) ⊎ (grows marks link ≡ false) → is_marked (after_link marks link) m ≡ true
    go (inl e) = ap (λ ms. is_marked ms m) (step-grown marks link e) ∙ kept-by_set marks link.to m lt h
    go (inr e) = ap (λ ms. is_marked ms m) (step-same marks link e) ∙ h

none_some : {A : Type 0} {x : A} → None ≡ Some x → ⊥
none_some e = absurd (false≢true (ap is_some e))

some-one : {A : Type 0} {x y : A} → Some x ≡ Some y → x ≡ y
some-one {A} {x} {y} e = ap (λ o. unwrap_or o x) e

-- ---- links

abbrev LeadWithin : ℕ → List Link → Type 0
LeadWithin nodes links = AllByRecursion (λ (link : Link). (link.from < nodes) × (link.to < nodes)) links

pub links-long : (marks : List Bool) (links : List Link) → length (after_links marks links) ≡ length marks
links-long marks [] = refl
links-long marks (link ∷ links) = links-long (after_link marks link) links ∙ step-long marks link

-- where none of them grows the marks these are as they were, and closed under the links
pub unchanged : (marks : List Bool) (links : List Link) → grow_over marks links ≡ false → after_links marks links ≡ marks
unchanged marks [] e = refl
unchanged marks (link ∷ links) e =
    let parts = or_parts (grows marks link) (grow_over (after_link marks link) links) e in
    unchanged (after_link marks link) links parts.1 ∙ step-same marks link parts.0

pub closed : (marks : List Bool) (links : List Link) → grow_over marks links ≡ false → (number : ℕ) (link : Link) → slice_get links number ≡ Some link → is_marked marks link.from ≡ true → is_marked marks link.to ≡ true
closed marks [] e number link is h = absurd (nothing_there number link is)
  where
    nothing_there : (number : ℕ) (link : Link) → slice_get [] number ≡ Some link → ⊥
    nothing_there zero link e = absurd (none_some e)
    nothing_there (suc number) link e = absurd (none_some e)
closed marks (first ∷ links) e zero link is h =
    let parts = or_parts (grows marks first) (grow_over (after_link marks first) links) e in
    let same : first ≡ link = some-one is in
    ap (λ (l : Link). is_marked marks l.to) (sym same)
    ∙ still-closed (is_marked marks first.from) (is_marked marks first.to) parts.0 (ap (λ (l : Link). is_marked marks l.from) same ∙ h)
closed marks (first ∷ links) e (suc number) link is h =
    let parts = or_parts (grows marks first) (grow_over (after_link marks first) links) e in
    let same = step-same marks first parts.0 in
    ap (λ ms. is_marked ms link.to) (sym same)
    ∙ closed (after_link marks first) links parts.1 number link is (ap (λ ms. is_marked ms link.from) same ∙ h)

-- no mark is lost, and where the marks grew fewer are without
step-fewer : (marks : List Bool) (link : Link) → link.to < length marks → grows marks link ≡ true → count_unmarked (after_link marks link) < count_unmarked marks
step-fewer marks link lt e =
    let parts = grows-parts (is_marked marks link.from) (is_marked marks link.to) e in
    let less = fewer-set marks link.to lt parts.1 in
    let same = ap count_unmarked (step-grown marks link e) in
    omega (arith, less, same)

step-no_more : (marks : List Bool) (link : Link) → link.to < length marks → count_unmarked (after_link marks link) ≤ count_unmarked marks
step-no_more marks link lt = go (by_growth (grows marks link))
  where
    go : (grows marks link ≡ true) ⊎ (grows marks link ≡ false) → count_unmarked (after_link marks link) ≤ count_unmarked marks
    go (inl e) = let less = step-fewer marks link lt e in omega (arith, less)
    go (inr e) = let same = ap count_unmarked (step-same marks link e) in omega (arith, same)

module _ (nodes : ℕ) where
  links-no_more : (marks : List Bool) (links : List Link) → length marks ≡ nodes → LeadWithin nodes links → count_unmarked (after_links marks links) ≤ count_unmarked marks
  links-no_more marks [] long within = omega arith
  links-no_more marks (link ∷ links) long within =
      let lt = within.0.1 in
      let one = step-no_more marks link (omega (arith, lt, long)) in
      let rest = links-no_more (after_link marks link) links (step-long marks link ∙ long) within.1 in
      omega (arith, one, rest)

  pub links-fewer : (marks : List Bool) (links : List Link) → length marks ≡ nodes → LeadWithin nodes links → grow_over marks links ≡ true → count_unmarked (after_links marks links) < count_unmarked marks
  links-fewer marks [] long within e = absurd (false≢true e)
  links-fewer marks (link ∷ links) long within e =
      go (by_growth (grows marks link))
      (λ more. links-fewer (after_link marks link) links (step-long marks link ∙ long) within.1 more)
    where
      lt : link.to < length marks
      lt = let is = within.0.1 in omega (arith, is, long)

      go : (grows marks link ≡ true) ⊎ (grows marks link ≡ false) → (grow_over (after_link marks link) links ≡ true → count_unmarked (after_links (after_link marks link) links) < count_unmarked (after_link marks link)) → count_unmarked (after_links (after_link marks link) links) < count_unmarked marks
      go (inl h) rest_fewer =
          let one = step-fewer marks link lt h in
          let rest = links-no_more (after_link marks link) links (step-long marks link ∙ long) within.1 in
          omega (arith, one, rest)
      go (inr h) rest_fewer =
          let one = step-no_more marks link lt in
          let more : grow_over (after_link marks link) links ≡ true = ap (λ b. b || grow_over (after_link marks link) links) (sym h) ∙ e in
          let rest = rest_fewer more in
          omega (arith, one, rest)

  pub links-kept : (marks : List Bool) (links : List Link) → length marks ≡ nodes → LeadWithin nodes links → (m : ℕ) → is_marked marks m ≡ true → is_marked (after_links marks links) m ≡ true
  links-kept marks [] long within m h = h
  links-kept marks (link ∷ links) long within m h =
      let lt = within.0.1 in
      links-kept (after_link marks link) links (step-long marks link ∙ long) within.1 m (step-kept marks link m (omega (arith, lt, long)) h)

-- ---- marks of reached nodes

walk-longer : (links : List Link) (from to next number : ℕ) (word : List ℕ) → IsWalk links from to word → Leads links number to next → IsWalk links from next (word ++ number ∷ [])
walk-longer links from to next number [] e leads = (next, subst (λ n. Leads links number n next) (sym e) leads, refl)
walk-longer links from to next number (first ∷ word) w leads = (w.0, w.1, walk-longer links w.0 to next number word w.2 leads)

module _ (all : List Link) (starts : List ℕ) where
  abbrev pub Sound : List Bool → Type 0
  Sound marks = (node : ℕ) → is_marked marks node ≡ true → IsReached all starts node

  step-sound : (marks : List Bool) (link : Link) (number : ℕ) → slice_get all number ≡ Some link → Sound marks → Sound (after_link marks link)
  step-sound marks link number is sound = go (by_growth (grows marks link))
    where
      go : (grows marks link ≡ true) ⊎ (grows marks link ≡ false) → Sound (after_link marks link)
      go (inr e) = subst Sound (sym (step-same marks link e)) sound
      go (inl e) = subst Sound (sym (step-grown marks link e)) (λ node h. new node (marked-after_set marks link.to node h))
        where
          new : (node : ℕ) → (node ≡ link.to) ⊎ (is_marked marks node ≡ true) → IsReached all starts node
          new node (inr h) = sound node h
          new node (inl same) =
              let parts = grows-parts (is_marked marks link.from) (is_marked marks link.to) e in
              let old = sound link.from parts.0 in (
                old.0,
                old.1 ++ number ∷ [],
                old.2,
                subst (λ n. IsWalk all old.0 n (old.1 ++ number ∷ [])) (sym same)
                    (walk-longer all old.0 link.from link.to number old.1 old.3 is),
              )

  -- the links from a number on
  abbrev pub Stand : ℕ → List Link → Type 0
  Stand at links = (k : ℕ) (link : Link) → slice_get links k ≡ Some link → slice_get all (at + k) ≡ Some link

  links-sound : (at : ℕ) (marks : List Bool) (links : List Link) → Stand at links → Sound marks → Sound (after_links marks links)
  links-sound at marks [] stand sound = sound
  links-sound at marks (link ∷ links) stand sound =
      links-sound (suc at) (after_link marks link) links
      (λ k other is. let place : at + suc k ≡ suc at + k = omega arith in ap (λ n. slice_get all n) (sym place) ∙ stand (suc k) other is)
      (step-sound marks link (at + 0) (stand 0 link refl) sound)

  pub all-sound : (marks : List Bool) → Sound marks → Sound (after_links marks all)
  all-sound marks sound = links-sound 0 marks all (λ k link is. let place : 0 + k ≡ k = omega arith in ap (λ n. slice_get all n) place ∙ is) sound

  -- what is closed under the links has a mark for each node that a walk leads to
  pub closed-walk : (marks : List Bool) → grow_over marks all ≡ false → (word : List ℕ) (from to : ℕ) → IsWalk all from to word → is_marked marks from ≡ true → is_marked marks to ≡ true
  closed-walk marks e [] from to w h = ap (λ n. is_marked marks n) (sym w) ∙ h
  closed-walk marks e (number ∷ word) from to w h =
      closed-walk marks e word w.0 to w.2 (closed marks all e number (record { from = from; to = w.0 }) w.1 h)

-- ---- marks for the starts

module _ (all : List Link) (starts : List ℕ) where
  below-longer : (n m : ℕ) (more : List ℕ) → n ≡ m → AllByRecursion (λ k. k < n) more → AllByRecursion (λ k. k < m) more
  below-longer n m [] e h = tt
  below-longer n m (k ∷ more) e h = (let lt = h.0 in omega (arith, lt, e), below-longer n m more e h.1)

  none-marked : (nodes m : ℕ) → is_marked (replicate nodes false) m ≡ true → ⊥
  none-marked zero m h = false≢true h
  none-marked (suc nodes) zero h = false≢true h
  none-marked (suc nodes) (suc m) h = none-marked nodes m h

  starts-long : (marks : List Bool) (more : List ℕ) → length (with_marks marks more) ≡ length marks
  starts-long marks [] = refl
  starts-long marks (n ∷ more) = starts-long (set marks n true) more ∙ set-long marks n

  starts-kept : (marks : List Bool) (more : List ℕ) → AllByRecursion (λ n. n < length marks) more → (m : ℕ) → is_marked marks m ≡ true → is_marked (with_marks marks more) m ≡ true
  starts-kept marks [] lt m h = h
  starts-kept marks (n ∷ more) lt m h =
      starts-kept (set marks n true) more (below-longer (length marks) (length (set marks n true)) more (sym (set-long marks n)) lt.1) m (kept-by_set marks n m lt.0 h)

  starts-marked : (marks : List Bool) (more : List ℕ) → AllByRecursion (λ n. n < length marks) more → (k : ℕ) (start : ℕ) → k < length more → get_or more k start ≡ start → is_marked (with_marks marks more) start ≡ true
  starts-marked marks [] lt k start less is = absurd (omega (arith, less))
  starts-marked marks (n ∷ more) lt zero start less is =
      starts-kept (set marks n true) more (below-longer (length marks) (length (set marks n true)) more (sym (set-long marks n)) lt.1) start (ap (λ m. is_marked (set marks n true) m) (sym is) ∙ marked-set marks n lt.0)
  starts-marked marks (n ∷ more) lt (suc k) start less is = starts-marked (set marks n true) more (below-longer (length marks) (length (set marks n true)) more (sym (set-long marks n)) lt.1) k start (omega (arith, less)) is

  -- each mark is an old one, or that of one of these
  starts-old : (marks : List Bool) (more : List ℕ) (m : ℕ) → is_marked (with_marks marks more) m ≡ true → (is_marked marks m ≡ true) ⊎ ((k : ℕ) × (k < length more) × (get_or more k m ≡ m))
  starts-old marks [] m h = inl h
  starts-old marks (n ∷ more) m h = go (starts-old (set marks n true) more m h)
    where
      first : (m ≡ n) ⊎ (is_marked marks m ≡ true) → (is_marked marks m ≡ true) ⊎ ((k : ℕ) × (k < length (n ∷ more)) × (get_or (n ∷ more) k m ≡ m))
      first (inl e) = inr (0, omega arith, sym e)
      first (inr e) = inl e

      go : (is_marked (set marks n true) m ≡ true) ⊎ ((k : ℕ) × (k < length more) × (get_or more k m ≡ m)) → (is_marked marks m ≡ true) ⊎ ((k : ℕ) × (k < length (n ∷ more)) × (get_or (n ∷ more) k m ≡ m))
      go (inl e) = first (marked-after_set marks n m e)
      go (inr e) = inr (suc e.0, let lt = e.1 in omega (arith, lt), e.2)

  pub begun : (nodes : ℕ) → AllByRecursion (λ n. n < nodes) starts → IsMarked nodes all starts (with_marks (replicate nodes false) starts)
  begun nodes lt =
      record {
        long = starts-long (replicate nodes false) starts ∙ length-replicate nodes false;
        sound = λ node h. start (starts-old (replicate nodes false) starts node h);
        begun = λ start is. starts-marked (replicate nodes false) starts (below-longer nodes (length (replicate nodes false)) starts (sym (length-replicate nodes false)) lt) is.0 start is.1 is.2;
      }
    where
      start : {node : ℕ} → (is_marked (replicate nodes false) node ≡ true) ⊎ ((k : ℕ) × (k < length starts) × (get_or starts k node ≡ node)) → IsReached all starts node
      start {node} (inl h) = absurd (none-marked nodes node h)
      start {node} (inr h) = (node, [], h, refl)

  pub goes-on : (nodes : ℕ) (marks next : List Bool) → AllByRecursion (λ (link : Link). (link.from < nodes) × (link.to < nodes)) all → IsMarked nodes all starts marks → next ≡ after_links marks all → IsMarked nodes all starts next
  goes-on nodes marks next within h e = subst (IsMarked nodes all starts) (sym e) record {
    long = links-long marks all ∙ h.long;
    sound = all-sound all starts marks h.sound;
    begun = λ start is. links-kept nodes marks all h.long within start (h.begun start is);
  }

  pub told : (nodes : ℕ) (marks next : List Bool) → IsMarked nodes all starts marks → next ≡ after_links marks all → grow_over marks all ≡ false → TellsReached nodes all starts next
  told nodes marks next h e still = subst (TellsReached nodes all starts) (sym (e ∙ unchanged marks all still)) record {
    each = h.long;
    tells = λ node. (h.sound node, λ reached. closed-walk all starts marks still reached.1 reached.0 node reached.3 (h.begun reached.0 reached.2));
  }
