-- What an operation of a sequence, a join or a star asks of what was made before, and what it adds
-- to it.
use Rattle.std.proofs.Common.{◌≡◌, ℕ, List, [], ◌∷◌, ◌++◌, refl, sym, ◌∙◌, subst, inl, inr, ◌⊎◌, append_assoc}
use Rattle.std.proofs.lemmas.List.{append-nil}
use Rattle.path_expr.specs.PathExpr.{PathExpr, Zero, One, Edge, Seq, Join, Star, seq_of, join_of, star_of}
use Rattle.path_expr.specs.Operations.{seq_operation, join_operation, star_operation}
use Rattle.checked_tree.specs.Graph.{Graph, start_of, end_of}
use Rattle.checked_tree.specs.Ready.{IsAmong, IsReady, AreReady}

pub among-left : {A : Type 0} (p : A) (ps qs : List A) → IsAmong p ps → IsAmong p (ps ++ qs)
among-left p [] qs h = absurd h
among-left p (x ∷ ps) qs (inl e) = inl e
among-left p (x ∷ ps) qs (inr h) = inr (among-left p ps qs h)

pub among-right : {A : Type 0} (p : A) (ps qs : List A) → IsAmong p qs → IsAmong p (ps ++ qs)
among-right p [] qs h = h
among-right p (x ∷ ps) qs h = inr (among-right p ps qs h)

pub among-last : {A : Type 0} (p q : A) (ps : List A) → IsAmong p (ps ++ q ∷ []) → IsAmong p ps ⊎ (p ≡ q)
among-last p q [] (inl e) = inr e
among-last p q [] (inr h) = absurd h
among-last p q (x ∷ ps) (inl e) = inl (inl e)
among-last p q (x ∷ ps) (inr h) = elim (among-last p q ps h) [ inl k ↦ inl (inr k) | inr e ↦ inr e ]

module _ (g : Graph) where
  -- Zero, One at a node, or a path that was made and leads from the one node to the other
  abbrev pub Stands : List PathExpr → PathExpr → ℕ → ℕ → Type 0
  Stands done Zero i j = Unit {0}
  Stands done One i j = i ≡ j
  Stands done (Edge number) i j = IsAmong (Edge number) done × (start_of g (Edge number) ≡ i) × (end_of g (Edge number) ≡ j)
  Stands done (Seq a b) i j = IsAmong (Seq a b) done × (start_of g (Seq a b) ≡ i) × (end_of g (Seq a b) ≡ j)
  Stands done (Join a b) i j = IsAmong (Join a b) done × (start_of g (Join a b) ≡ i) × (end_of g (Join a b) ≡ j)
  Stands done (Star a) i j = IsAmong (Star a) done × (start_of g (Star a) ≡ i) × (end_of g (Star a) ≡ j)

  pub stands-more : (done more : List PathExpr) (p : PathExpr) (i j : ℕ) → Stands done p i j → Stands (done ++ more) p i j
  stands-more done more Zero i j h = tt
  stands-more done more One i j h = h
  stands-more done more p i j h = (among-left p done more h.0, h.1, h.2)

  pub stands-same : (done : List PathExpr) (p : PathExpr) (i j : ℕ) → Stands done p i j → Stands (done ++ []) p i j
  stands-same done p i j h = subst (λ d. Stands d p i j) (sym (append-nil done)) h

  -- ---- operations one after another

  pub AreReady-append : (done xs ys : List PathExpr) → AreReady g done xs → AreReady g (done ++ xs) ys → AreReady g done (xs ++ ys)
  AreReady-append done [] ys h k = subst (λ d. AreReady g d ys) (append-nil done) k
  AreReady-append done (x ∷ xs) ys h k =
      (h.0, AreReady-append (done ++ x ∷ []) xs ys h.1 (subst (λ d. AreReady g d ys) (sym (append_assoc done (x ∷ []) xs)) k))

  -- operations that are ready, and what is so after them
  pub record Gives (done ops : List PathExpr) (After : List PathExpr → Type 0) : Type 0 where
    pub ready : AreReady g done ops
    pub after : After (done ++ ops)

  pub gives-then : (done xs ys : List PathExpr) (After Later : List PathExpr → Type 0) → Gives done xs After → (After (done ++ xs) → Gives (done ++ xs) ys Later) → Gives done (xs ++ ys) Later
  gives-then done xs ys After Later first next =
      let second = next first.after in
      record { ready = AreReady-append done xs ys first.ready second.ready; after = subst Later (append_assoc done xs ys) second.after }

  pub gives-none : (done : List PathExpr) (After : List PathExpr → Type 0) → After done → Gives done [] After
  gives-none done After h = record { ready = tt; after = subst After (sym (append-nil done)) h }

  pub gives-weaker : (done ops : List PathExpr) (After Later : List PathExpr → Type 0) → Gives done ops After → ((d : List PathExpr) → After d → Later d) → Gives done ops Later
  gives-weaker done ops After Later h weaker = record { ready = h.ready; after = weaker (done ++ ops) h.after }

  -- ---- one operation

  gives-one : (done : List PathExpr) (p : PathExpr) (After : List PathExpr → Type 0) → IsReady g done p → After (done ++ p ∷ []) → Gives done (p ∷ []) After
  gives-one done p After h k = record { ready = (h, tt); after = k }

  newest : (done : List PathExpr) (p : PathExpr) → IsAmong p (done ++ p ∷ [])
  newest done p = among-right p done (p ∷ []) (inl refl)

  pub seq-gives : (done : List PathExpr) (p q : PathExpr) (i k j : ℕ) → Stands done p i k → Stands done q k j → Gives done (seq_operation p q) (λ d. Stands d (seq_of p q) i j)
  seq-gives done Zero q i k j h r = gives-none done (λ d. Unit {0}) tt
  seq-gives done One q i k j h r = gives-none done (λ d. Stands d q i j) (subst (λ n. Stands done q n j) (sym h) r)
  seq-gives done p Zero i k j h r = gives-none done (λ d. Unit {0}) tt
  seq-gives done p One i k j h r = gives-none done (λ d. Stands d p i j) (h.0, h.1, h.2 ∙ r)
  seq-gives done p q i k j h r =
      gives-one done (Seq p q) (λ d. Stands d (Seq p q) i j) (h.0, r.0, h.2 ∙ sym r.1) (newest done (Seq p q), h.1, r.2)

  -- Zero or a path that was made
  abbrev pub IsPlain : PathExpr → Type 0
  IsPlain Zero = Unit {0}
  IsPlain One = ⊥
  IsPlain p = Unit {0}

  pub join-gives : (done : List PathExpr) (p q : PathExpr) (i j : ℕ) → IsPlain p → IsPlain q → Stands done p i j → Stands done q i j → Gives done (join_operation p q) (λ d. Stands d (join_of p q) i j)
  join-gives done Zero q i j a b h r = gives-none done (λ d. Stands d q i j) r
  join-gives done One q i j a b h r = absurd a
  join-gives done p Zero i j a b h r = gives-none done (λ d. Stands d p i j) h
  join-gives done p One i j a b h r = absurd b
  join-gives done p q i j a b h r =
      gives-one done (Join p q) (λ d. Stands d (Join p q) i j) (h.0, r.0, h.1 ∙ sym r.1, h.2 ∙ sym r.2) (newest done (Join p q), h.1, h.2)

  pub star-gives : (done : List PathExpr) (p : PathExpr) (i : ℕ) → Stands done p i i → Gives done (star_operation p) (λ d. Stands d (star_of p) i i)
  star-gives done Zero i h = gives-none done (λ d. i ≡ i) refl
  star-gives done One i h = gives-none done (λ d. i ≡ i) refl
  star-gives done p i h = gives-one done (Star p) (λ d. Stands d (Star p) i i) (h.0, h.1 ∙ sym h.2) (newest done (Star p), h.1, h.1)

  pub plain-seq_left : (p q : PathExpr) → IsPlain p → IsPlain (seq_of p q)
  plain-seq_left Zero q h = tt
  plain-seq_left One q h = absurd h
  plain-seq_left p Zero h = tt
  plain-seq_left p One h = h
  plain-seq_left p q h = tt

  pub plain-seq_right : (p q : PathExpr) → IsPlain q → IsPlain (seq_of p q)
  plain-seq_right Zero q h = tt
  plain-seq_right One q h = h
  plain-seq_right p Zero h = tt
  plain-seq_right p One h = absurd h
  plain-seq_right p q h = tt

  pub plain-join : (p q : PathExpr) → IsPlain p → IsPlain q → IsPlain (join_of p q)
  plain-join Zero q h k = k
  plain-join p Zero h k = h
  plain-join p q h k = tt
