-- Cases of expressions. A case has rows and posts over the columns of a state and over auxiliaries
-- of its own. Its posts are the values that some expressions have in that state: one post for the
-- value of an expression, none for a test.
use Rattle.std.specs.Prelude.{ℕ, ◌+◌, List, ◌++◌, map, Bool, ◌&&◌, nat_lt, IsTrue}
use Rattle.std.specs.List.{flat_map, list_all}
use Rattle.linear_terms.specs.declared.row.Case.{Case}
use Rattle.linear_terms.specs.Auxiliaries.{renumbered_polynomial, is_numbered}
use Rattle.transition_formula.specs.declared.loss.Loss.{Loss}
use Rattle.transition_formula.specs.Renumbering.{renumbered_row}
use Rattle.transition_formula.specs.Transition.{every_column_of}

-- cases, and what was lost on the way to them, in order
pub record Listed : Type 0 where
  pub cases : List Case
  pub lost : List Loss

-- two cases of one state together: the auxiliaries of the second come after those of the first
abbrev pub beside : Case → Case → Case
beside first second =
    record {
      aux = first.aux + second.aux;
      rows = first.rows ++ map (renumbered_row (λ n. first.aux + n)) second.rows;
      post = first.post ++ map (renumbered_polynomial (λ n. first.aux + n)) second.post;
    }

-- each case of the one with each of the other
unfoldable pub both : List Case → List Case → List Case
both firsts seconds = flat_map (λ first. map (beside first) seconds) firsts

-- both of two: each case of the one with each of the other
abbrev pub together : Listed → Listed → Listed
together a b = record { cases = both a.cases b.cases; lost = a.lost ++ b.lost }

-- one of two: the cases of the first before those of the second
abbrev pub either : Listed → Listed → Listed
either a b = record { cases = a.cases ++ b.cases; lost = a.lost ++ b.lost }

-- a case with fewer auxiliaries than `limit`, which are all that its rows and posts have
abbrev pub is_ready : ℕ → Case → Bool
is_ready limit case = nat_lt case.aux limit && every_column_of (is_numbered case.aux) case

-- each has fewer auxiliaries than `limit`
abbrev pub AreFew : ℕ → List Case → Type 0
AreFew limit cases = IsTrue (list_all (λ case. nat_lt case.aux limit) cases)

-- each has fewer auxiliaries than `limit`, which are all that its rows and posts have
abbrev pub AreReady : ℕ → List Case → Type 0
AreReady limit cases = IsTrue (list_all (is_ready limit) cases)
