-- Numbers in ascending order are no more than the numbers below their bound.
use Rattle.std.proofs.Common.{ℕ, ◌+◌, ◌<◌, ◌≤◌, length, List, [], ◌∷◌, refl, arith}
use Rattle.std.specs.Prelude.{All}
use Rattle.std.specs.List.{AllByRecursion, Contains}
use Rattle.std.proofs.lemmas.List.Elements.{recursion_from_All}
use Rattle.flow_graph.specs.Groups.{IsAscending}

from-few : (low n : ℕ) (ns : List ℕ) → low ≤ n → IsAscending ns → ((m : ℕ) → Contains ns m → low ≤ m) → AllByRecursion (λ m. m < n) ns → low + length ns ≤ n
from-few low n [] le up above below = omega (arith, le)
from-few low n (m ∷ ms) le up above below =
    let here : low ≤ m = above m (0, omega arith, refl) in
    let lt = below.0 in
    let more = from-few (m + 1) n ms (omega (arith, lt)) up.1 (λ k has. let after = up.0 k has in omega (arith, after)) below.1 in
    omega (arith, here, more)

pub ascending-few : (n : ℕ) (ns : List ℕ) → IsAscending ns → All (λ m. m < n) ns → length ns ≤ n
ascending-few n ns up below = let few = from-few 0 n ns (omega arith) up (λ m has. omega arith) (recursion_from_All (λ m. m < n) ns below) in omega (arith, few)
