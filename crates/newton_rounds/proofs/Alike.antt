-- Alike groups are both linear or neither, and their summaries are one computation.
use Rattle.std.proofs.Common.{◌≡◌, ℕ, ◌+◌, Bool, true, false, List, [], ◌∷◌, ◌++◌, map, Option, refl, sym, ap, ◌∙◌}
use Rattle.std.specs.Prelude.{if◌then◌else◌}
use Rattle.std.specs.List.{AllZip, range_with_len}
use Rattle.linear_terms.specs.declared.row.Row.{Row}
use Rattle.syntax_tree.specs.declared.program.Proc.{Proc}
use Rattle.syntax_tree.specs.declared.program.Program.{Program}
use Rattle.transition_formula.specs.Transition.{Transition}
use Rattle.posing.specs.Logs.{loss_notes}
use Rattle.posing.specs.Posing.{Posing, Done, Noted, ◌>>=◌, each, until}
use Rattle.phases.specs.Rules.{has_phases}
use Rattle.proc_summary.specs.Flow.{cells_from, columns_of, formula_at}
use Rattle.proc_summary.specs.Subject.{subject_of}
use Rattle.proc_summary.specs.Summary.{summary_from}
use Rattle.newton_rounds.specs.Alike.{AlikeGroupsAreOne, AreAlikeGroups, subjects_by}
use Rattle.newton_rounds.specs.declared.findings.RoundEnd.{RoundEnd}
use Rattle.newton_rounds.specs.Candidates.{before_rounds, dropped_notes, end_of_round, judgements_and, last_round, members_with, most_rounds, no_judgements, round, some_note, summaries_by_round, table_of, unfolded_formula, with_judged, with_round}
use Rattle.newton_rounds.specs.Close.{closure_by_rounds, closure_from, group_closure, pairs_of, with_candidate}
use Rattle.newton_rounds.specs.Closure.{base_of, bases_of, closure_of, ends_of_members, pair_ends, with_places_from, sides_of, stretches_with, with_base, with_closed, with_member, with_sides}
use Rattle.newton_rounds.specs.Members.{calls_from, calls_of, members_of, with_table}
use Rattle.newton_rounds.specs.Pairs.{base_from, losses_in_base}
use Rattle.newton_rounds.proofs.AlikeMembers.{AreMembers, alike-ends, alike-linear, alike-members, alike-subjects, all-calls-alike, own-calls-alike}
use Rattle.newton_rounds.proofs.PairLists.{zipped-each, zipped-length, zipped-map}

module _ (program other : Program) (procs others : List ℕ) (known other_known : List (Option Transition)) (alike : AreAlikeGroups program other procs others known other_known) where
  abbrev Are : Proc → Proc → Type 0
  Are = AreMembers program other procs others known other_known

  abbrev ps : List Proc
  ps = members_of program procs

  abbrev qs : List Proc
  qs = members_of other others

  members : AllZip Are ps qs
  members = alike-members program other procs others known other_known alike

  abbrev by : List Transition → List (Option Transition)
  by table = with_table procs table known

  abbrev other_by : List Transition → List (Option Transition)
  other_by table = with_table others table other_known

  subjects : (table : List Transition) (p q : Proc) → Are p q → subject_of program p (by table) ≡ subject_of other q (other_by table)
  subjects = alike-subjects program other procs others known other_known alike

  ends : (p q : Proc) → Are p q → pair_ends program p ≡ pair_ends other q
  ends = alike-ends program other procs others known other_known

  all-ends : ends_of_members program procs ≡ ends_of_members other others
  all-ends = zipped-map Are (pair_ends program) (pair_ends other) ends ps qs members

  all-subjects : (table : List Transition) → subjects_by program procs known table ≡ subjects_by other others other_known table
  all-subjects table = zipped-map Are (λ p. subject_of program p (by table)) (λ q. subject_of other q (other_by table)) (subjects table) ps qs members

  calls : calls_from procs 0 ps ≡ calls_from others 0 qs
  calls = all-calls-alike program other procs others known other_known 0 ps qs members

  -- ---- bases

  base-one : (p q : Proc) → Are p q → base_of program (by []) p ≡ base_of other (other_by []) q
  unfolding base_of
  base-one p q h =
      let m = ends p q h in
      let s = subjects [] p q h in
      λ i. cells_from (s i) 0 >>= λ cells.
      Noted (loss_notes (losses_in_base (m i) (formula_at (columns_of (s i)) cells (s i).exit)))
      (Done (base_from (m i) (formula_at (columns_of (s i)) cells (s i).exit)))

  bases-one : bases_of program procs known ≡ bases_of other others other_known
  unfolding bases_of with_base
  bases-one =
      zipped-each Are (with_base program (by [])) (with_base other (other_by [])) (λ made p q h. λ i. base-one p q h i >>= λ base. Done (made ++ base ∷ []))
      [] ps qs members

  -- ---- closures

  abbrev ArePlaced : ℕ × Proc → ℕ × Proc → Type 0
  ArePlaced a b = (a.0 ≡ b.0) × Are a.1 b.1

  placed : (place : ℕ) (xs ys : List Proc) → AllZip Are xs ys → AllZip ArePlaced (with_places_from place xs) (with_places_from place ys)
  placed place [] [] h = tt
  placed place [] (y ∷ ys) h = absurd h
  placed place (x ∷ xs) [] h = absurd h
  placed place (x ∷ xs) (y ∷ ys) h = ((refl, h.0), placed (place + 1) xs ys h.1)

  member-one : (table : List Transition) (made : List _) (a b : ℕ × Proc) → ArePlaced a b → with_member program procs (by table) made a ≡ with_member other others (other_by table) made b
  unfolding with_member
  member-one table made a b h =
      let s = subjects table a.1 b.1 h.1 in
      let own = (λ j. calls_of procs (h.0 j) a.1) ∙ own-calls-alike program other procs others known other_known b.0 a.1 b.1 h.1 in
      λ i. cells_from (s i) 0 >>= λ starts. each (with_sides (s i) starts) made (own i)

  sides-one : (table : List Transition) → sides_of program procs (by table) ≡ sides_of other others (other_by table)
  unfolding sides_of
  sides-one table =
      zipped-each ArePlaced (with_member program procs (by table)) (with_member other others (other_by table)) (member-one table)
      [] (with_places_from 0 ps) (with_places_from 0 qs) (placed 0 ps qs members)

  closure-one : (bases table : List Transition) → closure_of program procs known bases table ≡ closure_of other others other_known bases table
  unfolding closure_of
  closure-one bases table =
      let many = zipped-length Are ps qs members in
      λ i. sides-one table i >>= λ sides. each (with_closed (all-ends i) (stretches_with (calls i) sides) bases) [] (range_with_len 0 (many i))

  -- ---- rounds

  unfolded-one : (table : List Transition) (p q : Proc) → Are p q → unfolded_formula program (by table) p ≡ unfolded_formula other (other_by table) q
  unfolding unfolded_formula
  unfolded-one table p q h =
      let m = ends p q h in
      let s = subjects table p q h in
      λ i. cells_from (s i) 0 >>= λ cells. summary_from (m i).ends (formula_at (columns_of (s i)) cells (s i).exit)

  abbrev AreJudged : Proc × List Row → Proc × List Row → Type 0
  AreJudged a b = Are a.0 b.0 × (a.1 ≡ b.1)

  judged : (xs ys : List Proc) (candidates : List (List Row)) → AllZip Are xs ys → AllZip AreJudged (members_with xs candidates) (members_with ys candidates)
  judged [] [] candidates h = tt
  judged [] (y ∷ ys) candidates h = absurd h
  judged (x ∷ xs) [] candidates h = absurd h
  judged (x ∷ xs) (y ∷ ys) [] h = tt
  judged (x ∷ xs) (y ∷ ys) (rows ∷ candidates) h = ((h.0, refl), judged xs ys candidates h.1)

  row-one : (table : List Transition) (made : _) (a b : Proc × List Row) → AreJudged a b → with_round program (by table) made a ≡ with_round other (other_by table) made b
  unfolding with_round
  row-one table made a b h =
      λ i. unfolded-one table a.0 b.0 h.0 i >>= λ f. each (with_judged f) [] (h.1 i) >>= λ all. Done (judgements_and made f all)

  rows-one : (candidates : List (List Row))
      → each (with_round program (by (table_of (ends_of_members program procs) candidates))) no_judgements (members_with ps candidates)
      ≡ each (with_round other (other_by (table_of (ends_of_members other others) candidates))) no_judgements (members_with qs candidates)
  rows-one candidates =
      let table = table_of (ends_of_members other others) candidates in
      (λ i. each (with_round program (by (table_of (all-ends i) candidates))) no_judgements (members_with ps candidates))
      ∙ zipped-each AreJudged (with_round program (by table)) (with_round other (other_by table)) (row-one table)
      no_judgements (members_with ps candidates) (members_with qs candidates) (judged ps qs candidates members)

  round-one : (candidates : List (List Row)) → round program procs known candidates ≡ round other others other_known candidates
  unfolding round
  round-one candidates =
      λ i. rows-one candidates i >>= λ all. Noted (dropped_notes all.rows) (Done (end_of_round all, some_note (dropped_notes all.rows)))

  last-one : (candidates : List (List Row)) → last_round program procs known candidates ≡ last_round other others other_known candidates
  unfolding last_round
  last-one candidates = λ i. until (λ (end : RoundEnd). round-one end.candidates i) (most_rounds candidates) (before_rounds candidates)

  -- a group without members leaves nothing, whatever the rule is
  none-left : (candidates : List (List Row)) → qs ≡ [] → last_round other others other_known candidates ≡ Noted [] (Done (before_rounds []))
  unfolding last_round round ◌>>=◌
  none-left candidates none =
      λ i. until (λ (end : RoundEnd). each (with_round other (other_by (table_of (map (pair_ends other) (none i)) end.candidates))) no_judgements (members_with (none i) end.candidates) >>= λ judged.
      Noted (dropped_notes judged.rows) (Done (end_of_round judged, some_note (dropped_notes judged.rows)))) (most_rounds candidates) (before_rounds candidates)

  abbrev no_formulas : List Transition
  no_formulas = []

  abbrev left_by : ℕ → List (List Row) → Posing (List Transition)
  left_by rule candidates = last_round other others other_known candidates >>= λ end. Done (summaries_by_round rule (ends_of_members other others) end)

  left-one : (candidates : List (List Row)) → left_by program.rule candidates ≡ left_by other.rule candidates
  unfolding ◌>>=◌
  left-one candidates = go ps qs members refl
    where
      nothing : (phases : Bool) → (if phases then no_formulas else no_formulas) ≡ no_formulas
      nothing true = refl
      nothing false = refl

      without : (rule : ℕ) → qs ≡ [] → left_by rule candidates ≡ Noted [] (Done [])
      without rule none = (λ i. none-left candidates none i >>= λ end. Done (summaries_by_round rule (map (pair_ends other) (none i)) end)) ∙ ap (λ table. Noted [] (Done table)) (nothing (has_phases rule))

      go : (xs ys : List Proc) → AllZip Are xs ys → qs ≡ ys → left_by program.rule candidates ≡ left_by other.rule candidates
      go [] [] h e = without program.rule e ∙ sym (without other.rule e)
      go [] (y ∷ ys) h e = absurd h
      go (x ∷ xs) [] h e = absurd h
      go (x ∷ xs) (y ∷ ys) h e = ap (λ rule. left_by rule candidates) h.0.rule

  -- ---- summaries

  rounds-one : (bases : List Transition) → closure_by_rounds program procs known bases ≡ closure_by_rounds other others other_known bases
  unfolding closure_by_rounds
  rounds-one bases =
      λ i. closure-one bases [] i >>= λ first.
      closure-one bases first i >>= λ second.
      each with_candidate [] (pairs_of (all-ends i) second) >>= λ candidates.
      ((λ j. last-one candidates j >>= λ end. Done (summaries_by_round program.rule (all-ends j) end)) ∙ left-one candidates) i

  from-one : (linear : Bool) (bases : List Transition) → closure_from linear program procs known bases ≡ closure_from linear other others other_known bases
  from-one true bases = closure-one bases []
  from-one false bases = rounds-one bases

  closed-one : (linear : Bool) → group_closure linear program procs known ≡ group_closure linear other others other_known
  unfolding group_closure
  closed-one linear = λ i. bases-one i >>= λ bases. from-one linear bases i

pub alike_groups_are_one : AlikeGroupsAreOne
alike_groups_are_one program other procs others known other_known alike = (
  alike-linear program other procs others known other_known alike,
  closed-one program other procs others known other_known alike,
  all-subjects program other procs others known other_known alike,
)
