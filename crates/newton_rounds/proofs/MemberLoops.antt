-- Loops over the members with their formulas, and groups of few procedures.
use Rattle.std.proofs.Common.{◌≡◌, ℕ, zero, suc, ◌+◌, ◌<◌, ◌≤◌, length, drop, List, [], ◌∷◌, ◌++◌, get_or, refl, sym, ap, subst, ◌∙◌, arith}
use Rattle.std.specs.List.{AllByRecursion, AllZip}
use Rattle.std.proofs.lemmas.List.{drop_all, drop_more}
use Rattle.items.proofs.Each.{each-any}
use Rattle.linear_terms.specs.declared.row.Row.{Row}
use Rattle.transition_formula.specs.Transition.{Transition}
use Rattle.posing.specs.Posing.{Done, each, Always}
use Rattle.posing.proofs.Paths.{always_bind, always_weaker}
use Rattle.syntax_tree.specs.declared.program.Program.{Program}
use Rattle.newton_rounds.specs.Between.{AreCandidates, AreSummaries, FitTable, IsRowOver, IsSummary}
use Rattle.newton_rounds.specs.Candidates.{candidate_of}
use Rattle.newton_rounds.specs.Close.{pairs_of, with_candidate}
use Rattle.newton_rounds.specs.Pairs.{PairEnds}
use Rattle.newton_rounds.proofs.MatchLoops.{IsBehind, each-match}
use Rattle.newton_rounds.proofs.CandidateSummaries.{candidate-over}

-- a table without formulas fits
pub empty-fits : (program : Program) (procs : List ℕ) → FitTable program procs []
empty-fits program procs place proc p f at is found = absurd (cc found)

pub next-paired : (members : List PairEnds) (table : List Transition) (i : ℕ) (m : PairEnds) (f : Transition) → i < length members → length table ≡ length members → m ≡ get_or members i m → f ≡ get_or table i f
    → pairs_of (drop i members) (drop i table) ≡ (m, f) ∷ pairs_of (drop (i + 1) members) (drop (i + 1) table)
next-paired members table i m f lt long e g =
    λ j. pairs_of ((drop_more members i m lt ∙ ap (λ x. x ∷ drop (i + 1) members) (sym e)) j)
    ((drop_more table i f (omega (arith, lt, long)) ∙ ap (λ x. x ∷ drop (i + 1) table) (sym g)) j)

pub paired-end : (members : List PairEnds) (table : List Transition) (i : ℕ) → length members ≤ i → pairs_of (drop i members) (drop i table) ≡ []
paired-end members table i end = ap (λ ms. pairs_of ms (drop i table)) (drop_all i members end)

pub summary-read : (members : List PairEnds) (table : List Transition) (i : ℕ) (m : PairEnds) (f : Transition) → i < length members → m ≡ get_or members i m → f ≡ get_or table i f → AreSummaries members table → IsSummary m f
summary-read [] table i m f lt e g h = absurd (omega (arith, lt))
summary-read (n ∷ members) [] i m f lt e g h = absurd h
summary-read (n ∷ members) (k ∷ table) zero m f lt e g h = subst (λ (t : PairEnds × Transition). IsSummary t.0 t.1) (λ i. (sym e i, sym g i)) h.0
summary-read (n ∷ members) (k ∷ table) (suc i) m f lt e g h = summary-read members table i m f (omega (arith, lt)) e g h.1

-- ---- candidates of the members

candidate-behind : (made : List (List Row)) (member : PairEnds × Transition) → Always (IsBehind (λ (t : PairEnds × Transition) rows. AllByRecursion (IsRowOver t.0.pair.columns) rows) made member) (with_candidate made member)
unfolding with_candidate
candidate-behind made member =
    always_bind (AllByRecursion (IsRowOver member.0.pair.columns)) (IsBehind (λ (t : PairEnds × Transition) rows. AllByRecursion (IsRowOver t.0.pair.columns) rows) made member) (candidate_of member.0 member.1) (λ rows. Done (made ++ rows ∷ []))
    (candidate-over member.0 member.1) (λ rows h. record { value = rows; is = refl; holds = h })

pub candidates-over : (members : List PairEnds) (table : List Transition) → length table ≡ length members → Always (AreCandidates members) (each with_candidate [] (pairs_of members table))
candidates-over members table long =
    always_weaker (AllZip (λ (t : PairEnds × Transition) rows. AllByRecursion (IsRowOver t.0.pair.columns) rows) (pairs_of members table)) (AreCandidates members) (each with_candidate [] (pairs_of members table))
    (λ candidates h. go members table candidates long h)
    (each-match (λ member. Unit {0}) (λ (t : PairEnds × Transition) rows. AllByRecursion (IsRowOver t.0.pair.columns) rows) with_candidate (λ made member any. candidate-behind made member) (pairs_of members table)
    (each-any (λ member. Unit {0}) (λ member. tt) (pairs_of members table)))
  where
    go : (ms : List PairEnds) (fs : List Transition) (candidates : List (List Row)) → length fs ≡ length ms → AllZip (λ (t : PairEnds × Transition) rows. AllByRecursion (IsRowOver t.0.pair.columns) rows) (pairs_of ms fs) candidates → AreCandidates ms candidates
    go [] fs [] e h = tt
    go [] fs (rows ∷ candidates) e h = h
    go (m ∷ ms) [] candidates e h = absurd (omega (arith, e))
    go (m ∷ ms) (f ∷ fs) [] e h = h
    go (m ∷ ms) (f ∷ fs) (rows ∷ candidates) e h = (h.0, go ms fs candidates (omega (arith, e)) h.1)
