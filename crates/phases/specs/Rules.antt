-- Which rule of analysis has phases, and which the facets of hulls.
use Rattle.std.specs.Prelude.{◌≡◌, ℕ, Bool, false, ◌==◌}

-- the fourth; under it verdicts are asked with products of rows too, and a recursion is told by its
-- last round
abbrev pub has_phases : ℕ → Bool
has_phases rule = rule == 4

-- the third; under it each star has the normals of the exact hull of its body's changes as further
-- directions
abbrev pub has_facets : ℕ → Bool
has_facets rule = rule == 3

-- neither: each limit that is noted was an answer
pub record IsPlainRule (rule : ℕ) : Type 0 where
  pub no_phases : has_phases rule ≡ false
  pub no_facets : has_facets rule ≡ false
