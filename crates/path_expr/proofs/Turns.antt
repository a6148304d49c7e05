-- How a walk is cut at its visits of one place.
use Rattle.std.proofs.Common.{◌≡◌, ℕ, ◌+◌, ◌<◌, ◌≤◌, List, [], ◌∷◌, ◌++◌, refl, sym, ◌∙◌, ap, subst, inl, inr, ◌⊎◌, append_assoc, arith}
use Rattle.std.specs.List.{concat}

-- a number that is n at least is n or above it
le_cases : (n d : ℕ) → n ≤ d → (d ≡ n) ⊎ (n + 1 ≤ d)
le_cases n d h = grind arith

lt_cases : (c n : ℕ) → (c < n) ⊎ ((c ≡ n) ⊎ (n < c))
lt_cases c n = grind arith

-- what holds of each list
abbrev pub Each : (List ℕ → Type 0) → List (List ℕ) → Type 0
Each P [] = Unit {0}
Each P (t ∷ ts) = P t × Each P ts

module _ (Step : ℕ → ℕ → ℕ → Type 0) where
  -- a walk of one step at least from i to j, each place between them n or above
  abbrev pub Inner : ℕ → ℕ → ℕ → List ℕ → Type 0
  Inner n i j [] = ⊥
  Inner n i j (k ∷ []) = Step k i j
  Inner n i j (k ∷ l ∷ ls) = (c : ℕ) × Step k i c × (n ≤ c) × Inner n c j (l ∷ ls)

  -- any walk from i to j
  abbrev pub Walk : ℕ → ℕ → List ℕ → Type 0
  Walk i j [] = i ≡ j
  Walk i j (k ∷ ks) = (c : ℕ) × Step k i c × Walk c j ks

  -- a walk that goes through place n: to it, turns there, and on
  pub record Through (n i j : ℕ) (w : List ℕ) : Type 0 where
    pub front : List ℕ
    pub turns : List (List ℕ)
    pub back : List ℕ
    pub is : w ≡ (front ++ concat turns) ++ back
    pub into : Inner (n + 1) i n front
    pub turning : Each (Inner (n + 1) n n) turns
    pub out : Inner (n + 1) n j back

  Inner-cons : (n i c j k : ℕ) (w : List ℕ) → Step k i c → n ≤ c → Inner n c j w → Inner n i j (k ∷ w)
  Inner-cons n i c j k [] s le h = absurd h
  Inner-cons n i c j k (l ∷ ls) s le h = (c, s, le, h)

  pub Inner-weaker : (n i j : ℕ) (w : List ℕ) → Inner (n + 1) i j w → Inner n i j w
  Inner-weaker n i j [] h = h
  Inner-weaker n i j (k ∷ []) h = h
  Inner-weaker n i j (k ∷ l ∷ ls) h = (h.0, h.1, omega arith, Inner-weaker n h.0 j (l ∷ ls) h.3)

  pub Inner-append : (n i c j : ℕ) (v w : List ℕ) → Inner n i c v → n ≤ c → Inner n c j w → Inner n i j (v ++ w)
  Inner-append n i c j [] w h le r = absurd h
  Inner-append n i c j (k ∷ []) w h le r = Inner-cons n i c j k w h le r
  Inner-append n i c j (k ∷ l ∷ ls) w h le r = (h.0, h.1, h.2, Inner-append n h.0 c j (l ∷ ls) w h.3 le r)

  -- turns at n, and on
  Inner-turns : (n j : ℕ) (turns : List (List ℕ)) (w : List ℕ) → Each (Inner (n + 1) n n) turns → Inner n n j w → Inner n n j (concat turns ++ w)
  Inner-turns n j [] w all h = h
  Inner-turns n j (t ∷ ts) w all h =
      subst (Inner n n j) (sym (append_assoc t (concat ts) w))
      (Inner-append n n n j t (concat ts ++ w) (Inner-weaker n n n t all.0) (omega arith) (Inner-turns n j ts w all.1 h))

  pub Inner-through : (n i j : ℕ) (w : List ℕ) → Through n i j w → Inner n i j w
  Inner-through n i j w t =
      subst (Inner n i j) (sym (t.is ∙ append_assoc t.front (concat t.turns) t.back))
      (Inner-append n i n j t.front (concat t.turns ++ t.back) (Inner-weaker n i n t.front t.into) (omega arith)
      (Inner-turns n j t.turns t.back t.turning (Inner-weaker n n j t.back t.out)))

  -- a step put in front of a walk that keeps above n from the step's end on, or that goes through n
  cut_at : (n j c k d : ℕ) (w : List ℕ) → Step k c d → (d ≡ n) ⊎ (n + 1 ≤ d) → Inner (n + 1) d j w ⊎ Through n d j w →
      Inner (n + 1) c j (k ∷ w) ⊎ Through n c j (k ∷ w)
  cut_at n j c k d w s (inl e) (inl h) = inr (record {
    front = k ∷ [];
    turns = [];
    back = w;
    is = refl;
    into = subst (Step k c) e s;
    turning = tt;
    out = subst (λ x. Inner (n + 1) x j w) e h;
  })
  cut_at n j c k d w s (inl e) (inr t) = inr (record {
    front = k ∷ [];
    turns = t.front ∷ t.turns;
    back = t.back;
    is = ap (λ v. k ∷ v) t.is;
    into = subst (Step k c) e s;
    turning = (subst (λ x. Inner (n + 1) x n t.front) e t.into, t.turning);
    out = t.out;
  })
  cut_at n j c k d w s (inr le) (inl h) = inl (Inner-cons (n + 1) c d j k w s le h)
  cut_at n j c k d w s (inr le) (inr t) = inr (record {
    front = k ∷ t.front;
    turns = t.turns;
    back = t.back;
    is = ap (λ v. k ∷ v) t.is;
    into = Inner-cons (n + 1) c d n k t.front s le t.into;
    turning = t.turning;
    out = t.out;
  })

  -- a walk keeps above n, or goes through n
  pub cut : (n j c : ℕ) (w : List ℕ) → Inner n c j w → Inner (n + 1) c j w ⊎ Through n c j w
  cut n j c [] h = absurd h
  cut n j c (k ∷ []) s = inl s
  cut n j c (k ∷ l ∷ ls) h =
      cut_at n j c k h.0 (l ∷ ls) h.1 (le_cases n h.0 h.2) (cut n j h.0 (l ∷ ls) h.3)

  pub Walk-append : (i c j : ℕ) (v w : List ℕ) → Walk i c v → Walk c j w → Walk i j (v ++ w)
  Walk-append i c j [] w e h = subst (λ x. Walk x j w) (sym e) h
  Walk-append i c j (k ∷ ks) w h r = (h.0, h.1, Walk-append h.0 c j ks w h.2 r)

  pub Walk-inner : (n i j : ℕ) (w : List ℕ) → Inner n i j w → Walk i j w
  Walk-inner n i j [] h = absurd h
  Walk-inner n i j (k ∷ []) s = (j, s, refl)
  Walk-inner n i j (k ∷ l ∷ ls) h = (h.0, h.1, Walk-inner n h.0 j (l ∷ ls) h.3)

  pub Walk-turns : (n m : ℕ) (turns : List (List ℕ)) → Each (Inner m n n) turns → Walk n n (concat turns)
  Walk-turns n m [] all = refl
  Walk-turns n m (t ∷ ts) all = Walk-append n n n t (concat ts) (Walk-inner m n n t all.0) (Walk-turns n m ts all.1)

  -- a walk to n from below: the last place below n, the way to it, the step up to n, and turns at n
  pub record Arrives (n i : ℕ) (w : List ℕ) : Type 0 where
    pub place : ℕ
    pub front : List ℕ
    pub step : List ℕ
    pub turns : List (List ℕ)
    pub below : place < n
    pub is : w ≡ (front ++ step) ++ concat turns
    pub walk : Walk i place front
    pub into : Inner (n + 1) place n step
    pub turning : Each (Inner (n + 1) n n) turns

  -- a walk from n to n that never goes below n
  pub record Turning (n i : ℕ) (w : List ℕ) : Type 0 where
    pub turns : List (List ℕ)
    pub same : i ≡ n
    pub is : w ≡ concat turns
    pub turning : Each (Inner (n + 1) n n) turns

  -- a walk to n from above that never goes below n
  pub record Falling (n i : ℕ) (w : List ℕ) : Type 0 where
    pub step : List ℕ
    pub turns : List (List ℕ)
    pub above : n < i
    pub is : w ≡ step ++ concat turns
    pub into : Inner (n + 1) i n step
    pub turning : Each (Inner (n + 1) n n) turns

  pub data Reaches (n i : ℕ) (w : List ℕ) : Type 0 where
    arrives : Arrives n i w → Reaches n i w
    turning : Turning n i w → Reaches n i w
    falling : Falling n i w → Reaches n i w

  reach_at : (n c k d : ℕ) (w : List ℕ) → Step k c d → (c < n) ⊎ ((c ≡ n) ⊎ (n < c)) → Reaches n d w → Reaches n c (k ∷ w)
  reach_at n c k d w s cases (arrives a) = arrives (record {
    place = a.place;
    front = k ∷ a.front;
    step = a.step;
    turns = a.turns;
    below = a.below;
    is = ap (λ v. k ∷ v) a.is;
    walk = (d, s, a.walk);
    into = a.into;
    turning = a.turning;
  })
  reach_at n c k d w s (inl lt) (turning t) = arrives (record {
    place = c;
    front = [];
    step = k ∷ [];
    turns = t.turns;
    below = lt;
    is = ap (λ v. k ∷ v) t.is;
    walk = refl;
    into = subst (Step k c) t.same s;
    turning = t.turning;
  })
  reach_at n c k d w s (inl lt) (falling f) = arrives (record {
    place = c;
    front = [];
    step = k ∷ f.step;
    turns = f.turns;
    below = lt;
    is = ap (λ v. k ∷ v) f.is;
    walk = refl;
    into = Inner-cons (n + 1) c d n k f.step s (omega arith) f.into;
    turning = f.turning;
  })
  reach_at n c k d w s (inr (inl e)) (turning t) = turning (record {
    turns = (k ∷ []) ∷ t.turns;
    same = e;
    is = ap (λ v. k ∷ v) t.is;
    turning = (subst (λ x. Step k x n) e (subst (Step k c) t.same s), t.turning);
  })
  reach_at n c k d w s (inr (inl e)) (falling f) = turning (record {
    turns = (k ∷ f.step) ∷ f.turns;
    same = e;
    is = ap (λ v. k ∷ v) f.is;
    turning = (subst (λ x. Inner (n + 1) x n (k ∷ f.step)) e (Inner-cons (n + 1) c d n k f.step s (omega arith) f.into), f.turning);
  })
  reach_at n c k d w s (inr (inr gt)) (turning t) = falling (record {
    step = k ∷ [];
    turns = t.turns;
    above = gt;
    is = ap (λ v. k ∷ v) t.is;
    into = subst (Step k c) t.same s;
    turning = t.turning;
  })
  reach_at n c k d w s (inr (inr gt)) (falling f) = falling (record {
    step = k ∷ f.step;
    turns = f.turns;
    above = gt;
    is = ap (λ v. k ∷ v) f.is;
    into = Inner-cons (n + 1) c d n k f.step s (omega arith) f.into;
    turning = f.turning;
  })

  -- a walk to n arrives from below, turns at n, or falls to it from above
  pub reach : (n i : ℕ) (w : List ℕ) → Walk i n w → Reaches n i w
  reach n i [] e = turning (record { turns = []; same = e; is = refl; turning = tt })
  reach n i (k ∷ ks) h = reach_at n i k h.0 ks h.1 (lt_cases i n) (reach n h.0 ks h.2)
