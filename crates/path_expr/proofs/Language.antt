-- What the operations that spend nothing on Zero and One do to languages.
use Rattle.std.proofs.Common.{◌≡◌, ℕ, List, [], ◌∷◌, ◌++◌, refl, sym, ◌∙◌, ap, subst, inl, inr, ◌⊎◌}
use Rattle.std.specs.List.{concat}
use Rattle.std.specs.Prelude.{All}
use Rattle.std.proofs.lemmas.List.{append-nil}
use Rattle.std.proofs.lemmas.List.Elements.{All-nil, All-cons, All-head, All-tail}
use Rattle.path_expr.specs.PathExpr.{PathExpr, Zero, One, InLanguage, seq_of, join_of, star_of}
use Rattle.path_expr.proofs.Turns.{Each}

Each-All : (P : List ℕ → Type 0) (ws : List (List ℕ)) → All P ws → Each P ws
Each-All P [] h = tt
Each-All P (w ∷ ws) h = (All-head P w ws h, Each-All P ws (All-tail P w ws h))

All-Each : (P : List ℕ → Type 0) (ws : List (List ℕ)) → Each P ws → All P ws
All-Each P [] h = All-nil P
All-Each P (w ∷ ws) h = All-cons P w ws h.0 (All-Each P ws h.1)

pub in_seq_of : (p q : PathExpr) (u v : List ℕ) → InLanguage p u → InLanguage q v → InLanguage (seq_of p q) (u ++ v)
in_seq_of Zero q u v h r = absurd h
in_seq_of One q u v h r = subst (λ x. InLanguage q (x ++ v)) (sym h) r
in_seq_of p Zero u v h r = absurd r
in_seq_of p One u v h r = subst (InLanguage p) (sym (ap (λ x. u ++ x) r ∙ append-nil u)) h
in_seq_of p q u v h r = (u, v, refl, h, r)

-- a word of one path and then another
pub record Splits (p q : PathExpr) (w : List ℕ) : Type 0 where
  pub front : List ℕ
  pub back : List ℕ
  pub is : w ≡ front ++ back
  pub first : InLanguage p front
  pub second : InLanguage q back

pub of_seq_of : (p q : PathExpr) (w : List ℕ) → InLanguage (seq_of p q) w → Splits p q w
of_seq_of Zero q w h = absurd h
of_seq_of One q w h = record { front = []; back = w; is = refl; first = refl; second = h }
of_seq_of p Zero w h = absurd h
of_seq_of p One w h = record { front = w; back = []; is = sym (append-nil w); first = h; second = refl }
of_seq_of p q w h = record { front = h.0; back = h.1; is = h.2; first = h.3; second = h.4 }

pub in_join_left : (p q : PathExpr) (w : List ℕ) → InLanguage p w → InLanguage (join_of p q) w
in_join_left Zero q w h = absurd h
in_join_left p Zero w h = h
in_join_left p q w h = inl h

pub in_join_right : (p q : PathExpr) (w : List ℕ) → InLanguage q w → InLanguage (join_of p q) w
in_join_right Zero q w h = h
in_join_right p Zero w h = absurd h
in_join_right p q w h = inr h

pub of_join_of : (p q : PathExpr) (w : List ℕ) → InLanguage (join_of p q) w → InLanguage p w ⊎ InLanguage q w
of_join_of Zero q w h = inr h
of_join_of p Zero w h = inl h
of_join_of p q w h = h

no_turns : (ws : List (List ℕ)) → Each (InLanguage Zero) ws → concat ws ≡ []
no_turns [] h = refl
no_turns (w ∷ ws) h = absurd h.0

empty_turns : (ws : List (List ℕ)) → Each (InLanguage One) ws → concat ws ≡ []
empty_turns [] h = refl
empty_turns (w ∷ ws) h = ap (λ x. x ++ concat ws) h.0 ∙ empty_turns ws h.1

pub in_star_of : (p : PathExpr) (ws : List (List ℕ)) → Each (InLanguage p) ws → InLanguage (star_of p) (concat ws)
in_star_of Zero ws h = no_turns ws h
in_star_of One ws h = empty_turns ws h
in_star_of p ws h = (ws, refl, All-Each (InLanguage p) ws h)

-- a word of turns
pub record Turned (p : PathExpr) (w : List ℕ) : Type 0 where
  pub turns : List (List ℕ)
  pub is : w ≡ concat turns
  pub each : Each (InLanguage p) turns

pub of_star_of : (p : PathExpr) (w : List ℕ) → InLanguage (star_of p) w → Turned p w
of_star_of Zero w h = record { turns = []; is = h; each = tt }
of_star_of One w h = record { turns = []; is = h; each = tt }
of_star_of p w h = record { turns = h.0; is = h.1; each = Each-All (InLanguage p) h.0 h.2 }

-- a path expression is Zero, or has a word
pub data Filled (p : PathExpr) : Type 0 where
  nothing : p ≡ Zero → Filled p
  word : (w : List ℕ) → InLanguage p w → Filled p

pub Filled-seq_of : (p q : PathExpr) → Filled p → Filled q → Filled (seq_of p q)
Filled-seq_of p q (nothing e) f = nothing (ap (λ x. seq_of x q) e)
Filled-seq_of p q (word w h) (nothing e) = nothing (ap (seq_of p) e ∙ seq_of-Zero p)
  where
    seq_of-Zero : (r : PathExpr) → seq_of r Zero ≡ Zero
    seq_of-Zero Zero = refl
    seq_of-Zero r = refl
Filled-seq_of p q (word u h) (word v r) = word (u ++ v) (in_seq_of p q u v h r)

pub Filled-join_of : (p q : PathExpr) → Filled p → Filled q → Filled (join_of p q)
Filled-join_of p q (nothing e) (nothing f) = nothing (ap (λ x. join_of x q) e ∙ f)
Filled-join_of p q (nothing e) (word w h) = word w (in_join_right p q w h)
Filled-join_of p q (word w h) f = word w (in_join_left p q w h)

pub Filled-star_of : (p : PathExpr) → Filled (star_of p)
Filled-star_of p = word [] (in_star_of p [] tt)
