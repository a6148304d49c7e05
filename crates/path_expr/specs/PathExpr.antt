-- Path expressions: regular expressions over the numbers of a graph's links (Tarjan 1981).
use Rattle.std.specs.Prelude.{◌≡◌, ℕ, List, [], ◌∷◌, ◌++◌, All, ◌⊎◌}
use Rattle.std.specs.List.{concat}

-- no path, the empty path alone, one link, one path and then another, either of two, and any number
-- of turns of one
pub data PathExpr : Type 0 where
  Zero : PathExpr
  One : PathExpr
  Edge : (number : ℕ) → PathExpr
  Seq : (first second : PathExpr) → PathExpr
  Join : (left right : PathExpr) → PathExpr
  Star : (turn : PathExpr) → PathExpr

-- which lists of link numbers a path expression stands for
abbrev pub InLanguage : PathExpr → List ℕ → Type 0
InLanguage Zero word = ⊥
InLanguage One word = word ≡ []
InLanguage (Edge number) word = word ≡ number ∷ []
InLanguage (Seq first second) word =
    (front : List ℕ) × (back : List ℕ) × (word ≡ front ++ back) × InLanguage first front
    × InLanguage second back
InLanguage (Join left right) word = InLanguage left word ⊎ InLanguage right word
InLanguage (Star turn) word = (turns : List (List ℕ)) × (word ≡ concat turns)
    × All (InLanguage turn) turns

-- one path and then another, where no operation is spent on Zero and One
abbrev pub seq_of : PathExpr → PathExpr → PathExpr
seq_of Zero second = Zero
seq_of One second = second
seq_of first Zero = Zero
seq_of first One = first
seq_of first second = Seq first second

-- either of two paths, where no operation is spent on Zero
abbrev pub join_of : PathExpr → PathExpr → PathExpr
join_of Zero right = right
join_of left Zero = left
join_of left right = Join left right

-- any number of turns, where no operation is spent on Zero and One
abbrev pub star_of : PathExpr → PathExpr
star_of Zero = One
star_of One = One
star_of turn = Star turn
