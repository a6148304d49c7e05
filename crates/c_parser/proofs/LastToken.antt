-- The end of a text, token by token.
use Rattle.std.proofs.Common.{◌≡◌, Bool, false, List, [], ◌∷◌, refl, ap}
use Rattle.std.specs.Prelude.{not, ◌&&◌}
use Rattle.c_parser.specs.Spots.{Spot, ends_once, is_end}

-- whether the end stands last and nowhere else, where `ended` says whether it stood in front of
-- these
abbrev pub ends_behind : Bool → List Spot → Bool
ends_behind ended [] = ended
ends_behind ended (spot ∷ rest) = not ended && ends_behind (is_end spot.kind) rest

pub ends_behind-once : (spots : List Spot) → ends_behind false spots ≡ ends_once spots
ends_behind-once [] = refl
ends_behind-once (spot ∷ []) = refl
ends_behind-once (spot ∷ next ∷ rest) = ap (λ b. not (is_end spot.kind) && b) (ends_behind-once (next ∷ rest))
