-- The formulas that a round makes go from the entry to the exit of their procedures.
--     candidates-known      what is known with the candidates
--     round-formulas        those of one round
--     last_round-fits       those of the last one, and what it leaves
--     rounds-fit            the summaries by it
use Rattle.std.proofs.Common.{◌≡◌, ℕ, ◌≤◌, Bool, true, false, List, [], ◌∷◌, length, map, Option, ◌∙◌}
use Rattle.std.specs.Prelude.{nat_le, ◌&&◌, if◌then◌else◌}
use Rattle.std.specs.List.{AllByRecursion, AllZip, flat_map, list_all}
use Rattle.std.proofs.lemmas.Bool.{leb-true}
use Rattle.std.proofs.lemmas.List.{length-map}
use Rattle.linear_terms.specs.declared.row.Row.{Row}
use Rattle.transition_formula.specs.Transition.{Transition}
use Rattle.transition_formula.proofs.ColumnTests.{both}
use Rattle.posing.specs.Posing.{Posing, Done, Noted, ◌>>=◌, each, until, Always}
use Rattle.posing.proofs.Paths.{always_bind, always_until, always_weaker}
use Rattle.syntax_tree.specs.declared.program.Proc.{Proc}
use Rattle.syntax_tree.specs.declared.program.Program.{Program}
use Rattle.syntax_tree.specs.WellFormed.{IsWellFormed}
use Rattle.phases.specs.Rules.{has_phases}
use Rattle.leaf_cases.specs.Conditions.{AreKnown}
use Rattle.checked_tree.proofs.Between.{few-cases}
use Rattle.newton_rounds.specs.declared.findings.Judgements.{Judgements}
use Rattle.newton_rounds.specs.declared.findings.RoundEnd.{RoundEnd}
use Rattle.newton_rounds.specs.Between.{AreCandidates, AreSummaries, IsSummary}
use Rattle.newton_rounds.specs.Candidates.{dropped_notes, end_of_round, last_round, members_with, no_judgements, round, some_note, summaries_by_round, table_of, with_round}
use Rattle.newton_rounds.specs.Closure.{ends_of_members, pair_ends}
use Rattle.newton_rounds.specs.Members.{members_of, with_table}
use Rattle.newton_rounds.specs.Pairs.{PairEnds}
use Rattle.newton_rounds.proofs.CandidateSummaries.{candidates-length, table-summaries}
use Rattle.newton_rounds.proofs.GroupCalls.{AreThere}
use Rattle.newton_rounds.proofs.GroupMembers.{all-members}
use Rattle.newton_rounds.proofs.JudgedRows.{IsUnfoldingOf, all-unfolded}
use Rattle.newton_rounds.proofs.KnownTables.{tabled-known}
use Rattle.newton_rounds.proofs.MatchLoops.{always_both}
use Rattle.newton_rounds.proofs.MemberTables.{IsProcedure, each-member}
use Rattle.newton_rounds.proofs.RoundRows.{round-keeps, summaries-fit}

module _ (program : Program) (formed : IsWellFormed program) (known : List (Option Transition)) (are : AreKnown program known) where
  unfolded-summary : (p : Proc) (f : Transition) → IsProcedure program p → IsUnfoldingOf program formed known are p f → IsSummary (pair_ends program p) f
  unfolded-summary p f number made =
      let ends = (made number).between in
      record {
        goes = record {
          from_is = ends.between.from_is;
          to_is = ends.between.to_is;
          fits = ends.between.fits;
          few = few-cases f.cases ends.fitted;
        };
        cases = leb-true (length f.cases) 16 (both (nat_le (length f.cases) 16) (list_all (λ case. nat_le (length case.rows) 64 && nat_le case.aux 64) f.cases) ends.fitted).0;
      }

  unfolded-summaries : (ps : List Proc) (fs : List Transition) → AllByRecursion (IsProcedure program) ps → AllZip (IsUnfoldingOf program formed known are) ps fs → AreSummaries (map (pair_ends program) ps) fs
  unfolded-summaries [] [] all h = tt
  unfolded-summaries [] (f ∷ fs) all h = absurd h
  unfolded-summaries (p ∷ ps) [] all h = absurd h
  unfolded-summaries (p ∷ ps) (f ∷ fs) all h = (unfolded-summary p f all.0 h.0, unfolded-summaries ps fs all.1 h.1)

module _ (program : Program) (procs : List ℕ) (known : List (Option Transition)) (formed : IsWellFormed program) (there : AreThere program procs) (few : length procs ≤ length program.procs) (are : AreKnown program known) where
  abbrev ps : List Proc
  ps = members_of program procs

  abbrev members : List PairEnds
  members = ends_of_members program procs

  pub candidates-known : (candidates : List (List Row)) → AreCandidates members candidates → AreKnown program (with_table procs (table_of members candidates) known)
  candidates-known candidates over =
      let table = table_of members candidates in
      tabled-known program procs table known (summaries-fit program procs there table (table-summaries members candidates (all-members program formed procs there few) over)) are

  candidates-many : (candidates : List (List Row)) → AreCandidates members candidates → length candidates ≡ length ps
  candidates-many candidates over = candidates-length members candidates over ∙ length-map ps (pair_ends program)

  pub round-formulas : (candidates : List (List Row)) → AreCandidates members candidates → Always (λ (next : RoundEnd × Bool). AreSummaries members next.0.formulas) (round program procs known candidates)
  unfolding round
  round-formulas candidates over =
      let all = with_table procs (table_of members candidates) known in
      let fine = candidates-known candidates over in
      always_bind (λ (made : Judgements). AllZip (IsUnfoldingOf program formed all fine) ps made.formulas) (λ (next : RoundEnd × Bool). AreSummaries members next.0.formulas)
      (each (with_round program all) no_judgements (members_with ps candidates)) (λ judged. Noted (dropped_notes judged.rows) (Done (end_of_round judged, some_note (dropped_notes judged.rows))))
      (all-unfolded program formed all fine ps candidates (candidates-many candidates over))
      (λ judged h. unfolded-summaries program formed all fine ps judged.formulas (each-member program procs there) h)

  -- ---- the last round

  abbrev pub IsFit : RoundEnd → Type 0
  IsFit end = AreCandidates members end.candidates × AreSummaries members end.formulas

  round-fits : (candidates : List (List Row)) → AreCandidates members candidates → Always (λ (next : RoundEnd × Bool). IsFit next.0) (round program procs known candidates)
  round-fits candidates over =
      always_both (λ (next : RoundEnd × Bool). AreCandidates members next.0.candidates) (λ (next : RoundEnd × Bool). AreSummaries members next.0.formulas) (round program procs known candidates)
      (always_weaker _ (λ (next : RoundEnd × Bool). AreCandidates members next.0.candidates) (round program procs known candidates) (λ next kept. kept.0) (round-keeps program procs known candidates (candidates-many candidates over) over))
      (round-formulas candidates over)

  abbrev one_round : RoundEnd → Posing (RoundEnd × Bool)
  one_round end = round program procs known end.candidates

  pub last_round-fits : (candidates : List (List Row)) → AreCandidates members candidates → Always IsFit (last_round program procs known candidates)
  unfolding last_round
  last_round-fits candidates over =
      let n = length (flat_map (λ rows. rows) candidates) in
      always_bind (λ (next : RoundEnd × Bool). IsFit next.0) IsFit (round program procs known candidates) (λ next. if next.1 then until one_round n next.0 else Done next.0)
      (round-fits candidates over)
      (λ next fit. go next.1 next.0 fit (always_until IsFit one_round n next.0 (λ made k. round-fits made.candidates k.0) fit))
    where
      go : (more : Bool) (end : RoundEnd) → IsFit end → Always IsFit (until one_round (length (flat_map (λ rows. rows) candidates)) end)
          → Always IsFit (if more then until one_round (length (flat_map (λ rows. rows) candidates)) end else Done end)
      go true end fit later = later
      go false end fit later = fit

  -- ---- the summaries

  pub summaries_by_round-fit : (rule : ℕ) (end : RoundEnd) → IsFit end → AreSummaries members (summaries_by_round rule members end)
  summaries_by_round-fit rule end fit = go (has_phases rule)
    where
      go : (phases : Bool) → AreSummaries members (if phases then end.formulas else table_of members end.candidates)
      go true = fit.1
      go false = table-summaries members end.candidates (all-members program formed procs there few) fit.0

  pub rounds-fit : (candidates : List (List Row)) → AreCandidates members candidates
      → Always (AreSummaries members) (last_round program procs known candidates >>= λ end. Done (summaries_by_round program.rule members end))
  rounds-fit candidates over =
      always_bind IsFit (AreSummaries members) (last_round program procs known candidates) (λ end. Done (summaries_by_round program.rule members end)) (last_round-fits candidates over)
      (λ end fit. summaries_by_round-fit program.rule end fit)
