-- Alike groups: what is known with a table of their formulas, their members and their calls.
use Rattle.std.proofs.Common.{◌≡◌, ◌↔◌, ℕ, ◌+◌, ◌<◌, Bool, true, false, List, [], ◌∷◌, ◌++◌, length, map, Option, None, Some, refl, sym, ap, subst, ◌∙◌}
use Rattle.std.specs.Prelude.{if◌then◌else◌}
use Rattle.std.specs.Option.{is_some}
use Rattle.std.specs.List.{AllZip, Contains, flat_map, slice_get}
use Rattle.std.proofs.lemmas.Option.{slice_get_within}
use Rattle.path_expr.specs.declared.link.Link.{Link}
use Rattle.path_expr.specs.Walks.{IsWalk}
use Rattle.syntax_tree.specs.declared.program.Proc.{Proc}
use Rattle.syntax_tree.specs.declared.program.Program.{Program}
use Rattle.syntax_tree.specs.Code.{Statement}
use Rattle.transition_formula.specs.Transition.{Transition}
use Rattle.flow_graph.specs.FlowGraph.{Arc, body_of, flow_of, graph_of}
use Rattle.proc_summary.specs.Alike.{AreAlikeProcs, AreAlikeStatements, AreKnownAlike, alike_anys, alike_breaks, alike_calls, alike_checks, alike_continues, alike_guards, alike_ifs, alike_loops, alike_returns, alike_sets}
use Rattle.proc_summary.specs.Subject.{link_of, own_graph, subject_of}
use Rattle.proc_summary.proofs.Alike.{AreAlikeArcs, alike_procs_are_one, arcs-alike, ends-alike, links-alike, more_arcs, no_arcs, pair-alike, procs-wider}
use Rattle.newton_rounds.specs.Alike.{AreAlikeCallees, AreAlikeGroups, AreAlikeMembers}
use Rattle.newton_rounds.specs.Closure.{pair_ends}
use Rattle.newton_rounds.specs.Members.{AreApart, IsLinear, call_by, call_to, calls_from, calls_in, calls_of, is_call_to, members_of, place_of, with_table}
use Rattle.newton_rounds.proofs.LinearGroups.{element_of_map, from_element_of_map}
use Rattle.newton_rounds.proofs.ApartWalks.{no-place}
use Rattle.newton_rounds.proofs.GroupCalls.{placed-at}
use Rattle.newton_rounds.proofs.MemberTables.{first-member, table-leaves, table-tells}
use Rattle.newton_rounds.proofs.PairLists.{some-one, zipped-at, zipped-both}

-- ---- links tell whether calls are apart

listed : (ways next : List Arc) → map link_of ways ≡ map link_of next → (way : Arc) → Contains next way → (found : Arc) × (Contains ways found × (link_of found ≡ link_of way))
listed ways next same way c = from_element_of_map link_of ways (link_of way) (subst (λ all. Contains all (link_of way)) (sym same) (element_of_map link_of next way c))

apart-by-links : (procs others : List ℕ) (ways next : List Arc) → map link_of (calls_in procs ways) ≡ map link_of (calls_in others next) → map link_of ways ≡ map link_of next
    → AreApart procs ways → AreApart others next
apart-by-links procs others ways next calls links apart first second one two word walk =
    let a = listed (calls_in procs ways) (calls_in others next) calls first one in
    let b = listed (calls_in procs ways) (calls_in others next) calls second two in
    apart a.0 b.0 a.1.0 b.1.0 word
    (subst (λ n. IsWalk (map link_of ways) a.0.to n word) (sym (ap (λ (link : Link). link.from) b.1.1))
    (subst (λ n. IsWalk (map link_of ways) n second.from word) (sym (ap (λ (link : Link). link.to) a.1.1))
    (subst (λ all. IsWalk all first.to second.from word) (sym links) walk)))

module _ (program other : Program) (procs others : List ℕ) (known other_known : List (Option Transition)) where
  abbrev pub AreCallees : ℕ → ℕ → Type 0
  AreCallees = AreAlikeCallees procs others known other_known

  abbrev pub AreMembers : Proc → Proc → Type 0
  AreMembers = AreAlikeProcs AreCallees program other

  -- ---- calls

  call-told : (s o : Statement) → AreAlikeStatements AreCallees s o → is_call_to procs s ≡ is_call_to others o
  call-told _ _ (alike_sets col value) = refl
  call-told _ _ (alike_anys col) = refl
  call-told _ _ (alike_calls proc next args into h) = λ i. is_some (h.place i)
  call-told _ _ (alike_guards cond) = refl
  call-told _ _ (alike_checks number next cond) = refl
  call-told _ _ (alike_ifs cond a b c d h k) = refl
  call-told _ _ (alike_loops pre pre' cond body step body' step' first h k l) = refl
  call-told _ _ alike_breaks = refl
  call-told _ _ alike_continues = refl
  call-told _ _ alike_returns = refl

  call-alike : (caller : ℕ) (a b : Arc) (s o : Statement) → a.from ≡ b.from → a.to ≡ b.to → AreAlikeStatements AreCallees s o → call_by procs caller a s ≡ call_by others caller b o
  call-alike caller a b _ _ from to (alike_sets col value) = refl
  call-alike caller a b _ _ from to (alike_anys col) = refl
  call-alike caller a b _ _ from to (alike_calls proc next args into h) = ap (call_to caller a args into) h.place ∙ go (place_of next others)
    where
      go : (o : Option ℕ) → call_to caller a args into o ≡ call_to caller b args into o
      go None = refl
      go (Some callee) = λ i. record { caller = caller; callee = callee; from = from i; to = to i; args = args; into = into } ∷ []
  call-alike caller a b _ _ from to (alike_guards cond) = refl
  call-alike caller a b _ _ from to (alike_checks number next cond) = refl
  call-alike caller a b _ _ from to (alike_ifs cond c d e f h k) = refl
  call-alike caller a b _ _ from to (alike_loops pre pre' cond body step body' step' first h k l) = refl
  call-alike caller a b _ _ from to alike_breaks = refl
  call-alike caller a b _ _ from to alike_continues = refl
  call-alike caller a b _ _ from to alike_returns = refl

  calls-alike : (caller : ℕ) (xs ys : List Arc) → AreAlikeArcs AreCallees xs ys
      → flat_map (λ (way : Arc). call_by procs caller way way.act) xs ≡ flat_map (λ (way : Arc). call_by others caller way way.act) ys
  calls-alike caller _ _ no_arcs = refl
  calls-alike caller _ _ (more_arcs a b xs ys one h) = λ i. call-alike caller a b a.act b.act one.from one.to one.act i ++ calls-alike caller xs ys h i

  pub own-calls-alike : (caller : ℕ) (p q : Proc) → AreMembers p q → calls_of procs caller p ≡ calls_of others caller q
  own-calls-alike caller p q h = calls-alike caller (own_graph p).arcs (own_graph q).arcs (arcs-alike AreCallees program other p q h)

  pub all-calls-alike : (caller : ℕ) (ps qs : List Proc) → AllZip AreMembers ps qs → calls_from procs caller ps ≡ calls_from others caller qs
  all-calls-alike caller [] [] h = refl
  all-calls-alike caller [] (q ∷ qs) h = absurd h
  all-calls-alike caller (p ∷ ps) [] h = absurd h
  all-calls-alike caller (p ∷ ps) (q ∷ qs) h = λ i. own-calls-alike caller p q h.0 i ++ all-calls-alike (caller + 1) ps qs h.1 i

  -- ---- linear groups

  links-in : (xs ys : List Arc) → AreAlikeArcs AreCallees xs ys → map link_of (calls_in procs xs) ≡ map link_of (calls_in others ys)
  links-in _ _ no_arcs = refl
  links-in _ _ (more_arcs a b xs ys one h) =
      (λ i. map link_of (if call-told a.act b.act one.act i then a ∷ calls_in procs xs else calls_in procs xs)) ∙ go (is_call_to others b.act) (links-in xs ys h)
    where
      go : (c : Bool) → map link_of (calls_in procs xs) ≡ map link_of (calls_in others ys)
          → map link_of (if c then a ∷ calls_in procs xs else calls_in procs xs) ≡ map link_of (if c then b ∷ calls_in others ys else calls_in others ys)
      go true rest = λ i. record { from = one.from i; to = one.to i } ∷ rest i
      go false rest = rest

  member-apart : (proc number : ℕ) → AreAlikeMembers AreCallees program other proc number
      → AreApart procs (graph_of program proc).arcs ↔ AreApart others (graph_of other number).arcs
  member-apart proc number h =
      let graph : graph_of program proc ≡ own_graph h.p = ap (λ o. flow_of (body_of o)) h.is in
      let next : graph_of other number ≡ own_graph h.q = ap (λ o. flow_of (body_of o)) h.other_is in
      let arcs = arcs-alike AreCallees program other h.p h.q h.alike in
      let calls = links-in (own_graph h.p).arcs (own_graph h.q).arcs arcs in
      let links = links-alike AreCallees (own_graph h.p).arcs (own_graph h.q).arcs arcs in (
        λ apart. subst (λ g. AreApart others g.arcs) (sym next) (apart-by-links procs others (own_graph h.p).arcs (own_graph h.q).arcs calls links (subst (λ g. AreApart procs g.arcs) graph apart)),
        λ apart. subst (λ g. AreApart procs g.arcs) (sym graph) (apart-by-links others procs (own_graph h.q).arcs (own_graph h.p).arcs (sym calls) (sym links) (subst (λ g. AreApart others g.arcs) next apart)),
      )

  pub alike-linear : AreAlikeGroups program other procs others known other_known → IsLinear program procs ↔ IsLinear other others
  alike-linear h =
      zipped-both (AreAlikeMembers AreCallees program other) (λ proc. AreApart procs (graph_of program proc).arcs) (λ proc. AreApart others (graph_of other proc).arcs)
      member-apart procs others h.members

  -- ---- members

  members-zipped : (ns ms : List ℕ) → AllZip (AreAlikeMembers AreCallees program other) ns ms → AllZip AreMembers (members_of program ns) (members_of other ms)
  members-zipped [] [] h = tt
  members-zipped [] (m ∷ ms) h = absurd h
  members-zipped (n ∷ ns) [] h = absurd h
  members-zipped (n ∷ ns) (m ∷ ms) h =
      subst (λ all. AllZip AreMembers all (members_of other (m ∷ ms))) (sym (first-member program n ns h.0.p h.0.is))
      (subst (λ all. AllZip AreMembers (h.0.p ∷ members_of program ns) all) (sym (first-member other m ms h.0.q h.0.other_is))
      (h.0.alike, members-zipped ns ms h.1))

  pub alike-members : AreAlikeGroups program other procs others known other_known → AllZip AreMembers (members_of program procs) (members_of other others)
  alike-members h = members-zipped procs others h.members

  pub alike-ends : (p q : Proc) → AreMembers p q → pair_ends program p ≡ pair_ends other q
  alike-ends p q h = λ i. record { ends = ends-alike AreCallees program other p q h i; pair = pair-alike AreCallees program other p q h i }

  -- ---- what is known with a table

  table-alike : AreAlikeGroups program other procs others known other_known → (table : List Transition) (proc next : ℕ) → AreCallees proc next
      → AreKnownAlike (with_table procs table known) (with_table others table other_known) proc next
  table-alike h table proc next are = go (place_of proc procs) refl
    where
      go : (o : Option ℕ) → place_of proc procs ≡ o → slice_get (with_table procs table known) proc ≡ slice_get (with_table others table other_known) next
      go None e =
          table-leaves procs table known proc (no-place proc procs e) ∙ are.outside e
          ∙ sym (table-leaves others table other_known next (no-place next others (sym are.place ∙ e)))
      go (Some place) e =
          let here = placed-at proc procs place e in
          let there = placed-at next others place (sym are.place ∙ e) in
          let found = zipped-at (AreAlikeMembers AreCallees program other) procs others h.members place proc here in
          let same : found.0 ≡ next = some-one found.1 there in
          let within = slice_get_within program.procs proc found.2.p found.2.is in
          let other_within = slice_get_within other.procs found.0 found.2.q found.2.other_is in
          table-tells procs table known place proc h.once here (subst (λ n. proc < n) (sym h.each) within)
          ∙ sym (table-tells others table other_known place next h.other_once there (subst (λ n. n < length other_known) same (subst (λ n. found.0 < n) (sym h.other_each) other_within)))

  pub alike-subjects : AreAlikeGroups program other procs others known other_known → (table : List Transition) (p q : Proc) → AreMembers p q
      → subject_of program p (with_table procs table known) ≡ subject_of other q (with_table others table other_known)
  alike-subjects h table p q one =
      (alike_procs_are_one program other p q (with_table procs table known) (with_table others table other_known)
      (procs-wider AreCallees (AreKnownAlike (with_table procs table known) (with_table others table other_known)) (table-alike h table) program other p q one)).0
