-- Operations whose operands were made before.
use Rattle.std.specs.Prelude.{◌≡◌, ◌⊎◌, ◌<◌, List, [], ◌∷◌, ◌++◌, length}
use Rattle.path_expr.specs.PathExpr.{PathExpr, Zero, One, Edge, Seq, Join, Star}
use Rattle.checked_tree.specs.Graph.{Graph, start_of, end_of}

-- it is one of these
abbrev pub IsAmong : {A : Type 0} → A → List A → Type 0
IsAmong x [] = ⊥
IsAmong x (other ∷ others) = (x ≡ other) ⊎ IsAmong x others

-- its link is there, or its operands were made before and their ends meet
abbrev pub IsReady : Graph → List PathExpr → PathExpr → Type 0
IsReady g done Zero = ⊥
IsReady g done One = ⊥
IsReady g done (Edge number) = number < length g.links
IsReady g done (Seq a b) = IsAmong a done × IsAmong b done × (end_of g a ≡ start_of g b)
IsReady g done (Join a b) = IsAmong a done × IsAmong b done × (start_of g a ≡ start_of g b)
    × (end_of g a ≡ end_of g b)
IsReady g done (Star a) = IsAmong a done × (start_of g a ≡ end_of g a)

-- each is, behind those before it
abbrev pub AreReady : Graph → List PathExpr → List PathExpr → Type 0
AreReady g done [] = Unit {0}
AreReady g done (path ∷ paths) = IsReady g done path × AreReady g (done ++ path ∷ []) paths
