-- The summaries of a linear group are met.
use Rattle.std.proofs.Common.{◌≡◌, ◌⊎◌, inl, inr, ℕ, zero, suc, ◌+◌, ◌<◌, ◌≤◌, ℤ, true, false, List, [], ◌∷◌, ◌++◌, length, map, take, drop, Option, None, Some, refl, sym, ap, subst, ◌∙◌, length-append, arith}
use Rattle.std.specs.Prelude.{IsTrue, ◌||◌, not, slice_get, unwrap_or}
use Rattle.std.specs.List.{AllByRecursion, AllZip, range_with_len}
use Rattle.std.specs.Option.{is_some}
use Rattle.std.proofs.lemmas.List.{length-drop, length-map, length-set}
use Rattle.std.proofs.lemmas.Option.{slice_get_within}
use Rattle.items.proofs.Each.{each-both, each-get, each-map}
use Rattle.posing.specs.Posing.{Done, each, Always}
use Rattle.posing.proofs.Paths.{always_bind, always_weaker}
use Rattle.syntax_tree.specs.declared.program.Proc.{Proc}
use Rattle.syntax_tree.specs.declared.program.Program.{Program}
use Rattle.syntax_tree.specs.Code.{Statement, Set, Any, Call, Guard, Check, If, Loop, Break, Continue, Return, code_of}
use Rattle.syntax_tree.specs.Term.{Term}
use Rattle.syntax_tree.specs.Value.{State}
use Rattle.syntax_tree.specs.WellFormed.{IsWellFormed, width_of}
use Rattle.execution.specs.Execution.{Returns}
use Rattle.transition_formula.specs.Meaning.{Holds}
use Rattle.transition_formula.specs.Transition.{Transition}
use Rattle.flow_graph.specs.FlowGraph.{Arc, FlowGraph, body_of, exit_of, graph_of}
use Rattle.flow_graph.specs.Heights.{ReturnsOver}
use Rattle.flow_graph.specs.Walks.{CallMeaning, CallRelates, EdgeRelates, Stride, Walks}
use Rattle.flow_graph.specs.Walks as walks
use Rattle.flow_graph.proofs.Heights.{over-returns, returns-by_height, returns-more, returns_have_heights}
use Rattle.leaf_cases.specs.Conditions.{AreKnown, IsActOf, KnownCalls}
use Rattle.leaf_cases.specs.Summaries.{AreMet, KnowsCallee, SummaryIsMet, exit_values}
use Rattle.leaf_cases.proofs.Graphs.{CallFits, EdgeFits, act-fits}
use Rattle.leaf_cases.proofs.MetCalls.{met_calls_are_known, returns-globals}
use Rattle.checked_tree.specs.Graph.{leaf_at}
use Rattle.checked_tree.specs.Law.{HaveCanonicalLeaves}
use Rattle.polyhedra.specs.Laws.{HaveCanonicalRows}
use Rattle.vocabularies.specs.Procs.{IsProcOf}
use Rattle.proc_summary.specs.Claims.{FitsIf, HoldsIf}
use Rattle.proc_summary.specs.Subject.{own_graph}
use Rattle.proc_summary.proofs.Graphs.{full-columns, graph-is, length-after}
use Rattle.proc_summary.proofs.ExitSummaries.{entry-columns, exit-columns}
use Rattle.newton_rounds.specs.declared.calls.Sides.{Sides}
use Rattle.newton_rounds.specs.Between.{AreBases, IsGroup, IsStretchIn, width_at}
use Rattle.newton_rounds.specs.Claims.{AreMetMembers}
use Rattle.newton_rounds.specs.Closure.{bases_of, closed_member, closure_of, ends_at, ends_of_members, group_graph, group_leaf, pair_ends, sides_of, stretches_with, with_closed}
use Rattle.newton_rounds.specs.Laws.{CallsMember, KnowsOthers}
use Rattle.newton_rounds.specs.Members.{AreApart, GroupCall, IsLinear, calls_from, is_call_to, members_of, place_of, with_table}
use Rattle.newton_rounds.specs.Pairs.{PairEnds, Stretch, pair_formula}
use Rattle.newton_rounds.specs.Shapes.{FitCalls, FitSides, IsCallIn, IsStretchBetween}
use Rattle.newton_rounds.proofs.ApartWalks.{IsSplit, no-place, split-apart, with-none}
use Rattle.newton_rounds.proofs.BasesMet.{IsBase, bases-true, entry-front, exits-long, exits-told}
use Rattle.newton_rounds.proofs.CratesBelow.{some_at}
use Rattle.newton_rounds.proofs.GroupCalls.{AreThere, calls-in, columns-at, ends-at, ends-many, member-at, placed-at}
use Rattle.newton_rounds.proofs.CallPlaces.{HasSides, call-found, leaf-found, link-found, sides-found, the_call}
use Rattle.checked_tree.proofs.CanonicalEvaluations.{rows-canonical}
use Rattle.recurrence.proofs.CanonicalOrder.{IsCanonicalFormula}
use Rattle.newton_rounds.proofs.ClosedMet.{IsClosed, LeadsToBase, closed-holds}
use Rattle.newton_rounds.proofs.GroupMembers.{group-is}
use Rattle.newton_rounds.proofs.MatchLoops.{IsBehind, each-match}
use Rattle.newton_rounds.proofs.MemberTables.{table-either}
use Rattle.newton_rounds.proofs.PairCalls.{IsCalled, pair-canonical, pair-holds}
use Rattle.newton_rounds.proofs.ExitColumns.{range-below}
use Rattle.newton_rounds.proofs.RoundsMet.{exit-long}
use Rattle.newton_rounds.proofs.SidesMet.{IsSide, IsSideOf, sides-true}
use Rattle.newton_rounds.proofs.KnownTables.{untabled-known}
use Rattle.newton_rounds.proofs.ToldCalls.{TellsCall}
use Rattle.newton_rounds.proofs.Unfoldings.{IsCanonicalExit, before-long, own-callee, own-walk}
use Rattle.newton_rounds.proofs.PairLists.{some-one, zipped-at}

-- ---- places

range-at : (a count k : ℕ) → k < count → slice_get (range_with_len a count) k ≡ Some (a + k)
range-at a zero k lt = absurd (omega (arith, lt))
range-at a (suc count) zero lt = ap Some (omega arith)
range-at a (suc count) (suc k) lt = range-at (a + 1) count k (omega (arith, lt)) ∙ ap Some (omega arith)

-- ---- states that are come to

state-long : (width : ℕ) (f : Option Transition) → FitsIf width f → (before after : State) → HoldsIf f before after → length after ≡ width
state-long width None fit before after h = absurd h
state-long width (Some f) fit before after h = length-after f before after fit.fits h ∙ fit.to

received-long : (into : Option ℕ) (value : ℤ) (state : State) → length (walks.state_with_value into value state) ≡ length state
received-long None value state = refl
received-long (Some col) value state = length-set state col value

module _ (program : Program) (procs : List ℕ) (known : List (Option Transition)) (formed : IsWellFormed program) (there : AreThere program procs) (few : length procs ≤ length program.procs) (are : AreKnown program known) where
  abbrev ps : List Proc
  ps = members_of program procs

  abbrev members : List PairEnds
  members = ends_of_members program procs

  abbrev untold : List (Option Transition)
  untold = with_table procs [] known

  pub untold-known : AreKnown program untold
  untold-known = untabled-known program procs known are

  abbrev calls : List GroupCall
  calls = calls_from procs 0 ps

  abbrev IsOwnSide : GroupCall → Sides → Type 0
  IsOwnSide = IsSideOf program procs untold formed untold-known

  -- a member at a place
  pub record MemberAt (place : ℕ) : Type 0 where
    pub proc : ℕ
    pub at : slice_get procs place ≡ Some proc
    pub p : Proc
    pub is : IsProcOf program proc p

  member-found : (place : ℕ) → place < length members → MemberAt place
  member-found place lt =
      let many = ends-many program procs there in
      let number = some_at procs place (omega (arith, lt, many)) in
      let p = some_at program.procs number.0 (each-get (λ proc. proc < length program.procs) procs place number.0 there number.1) in
      record { proc = number.0; at = number.1; p = p.0; is = p.1 }

  -- ---- sides and bases, as the graph wants them

  sides-fit : (cs : List GroupCall) (sides : List Sides) → AllByRecursion (IsCallIn members) cs → AllZip IsOwnSide cs sides → FitCalls members cs sides
  sides-fit [] [] h k = tt
  sides-fit [] (one ∷ sides) h k = absurd k
  sides-fit (call ∷ cs) [] h k = absurd k
  sides-fit (call ∷ cs) (one ∷ sides) h k =
      let m = member-found call.caller h.0.caller in
      let side = k.0 m.p (member-at program procs call.caller m.proc m.p there m.at m.is) in
      let same = columns-at program procs there call.caller m.proc m.p m.at m.is in
      (subst (λ n. FitSides n one) (sym same) (record { before = side.fit_before; after = side.fit_after }), sides-fit cs sides h.1 k.1)

  exits-canonical : (cs : List GroupCall) (sides : List Sides) → AllByRecursion (IsCallIn members) cs → AllZip IsOwnSide cs sides → AllByRecursion (λ (s : Stretch). IsCanonicalExit s.before) (stretches_with cs sides)
  exits-canonical [] [] h k = tt
  exits-canonical [] (one ∷ sides) h k = absurd k
  exits-canonical (call ∷ cs) [] h k = absurd k
  exits-canonical (call ∷ cs) (one ∷ sides) h k =
      let m = member-found call.caller h.0.caller in
      ((k.0 m.p (member-at program procs call.caller m.proc m.p there m.at m.is)).canonical, exits-canonical cs sides h.1 k.1)

  bases-fit : (qs : List Proc) (bases : List Transition) → AllZip (IsBase program untold) qs bases → AreBases (map (pair_ends program) qs) bases
  bases-fit [] [] h = tt
  bases-fit [] (base ∷ bases) h = absurd h
  bases-fit (q ∷ qs) [] h = absurd h
  bases-fit (q ∷ qs) (base ∷ bases) h = (h.0.goes, bases-fit qs bases h.1)

  bases-canonical : (qs : List Proc) (bases : List Transition) → AllZip (IsBase program untold) qs bases → AllByRecursion IsCanonicalFormula bases
  bases-canonical [] [] h = tt
  bases-canonical [] (base ∷ bases) h = absurd h
  bases-canonical (q ∷ qs) [] h = absurd h
  bases-canonical (q ∷ qs) (base ∷ bases) h = (h.0.canonical, bases-canonical qs bases h.1)

  module _ (sides : List Sides) (sides_fine : AllZip IsOwnSide calls sides) (bases : List Transition) (bases_fine : AllZip (IsBase program untold) ps bases) where
    abbrev stretches : List Stretch
    stretches = stretches_with calls sides

    in-group : AllByRecursion (IsCallIn members) calls
    in-group = calls-in program procs there formed

    group : IsGroup members stretches
    group = group-is program formed procs there few calls sides refl in-group (sides-fit calls sides in-group sides_fine)

    each_base : AreBases members bases
    each_base = bases-fit ps bases bases_fine

    canonical_bases : AllByRecursion IsCanonicalFormula bases
    canonical_bases = bases-canonical ps bases bases_fine

    leaves : HaveCanonicalLeaves (group_graph members stretches)
    leaves =
        each-map (λ (s : Stretch). IsStretchIn members s × IsCanonicalExit s.before) (λ (f : Transition). HaveCanonicalRows f.cases) (group_leaf members)
        (λ s h. rows-canonical (group_leaf members s) (pair-canonical (ends_at members s.call.caller) (ends_at members s.call.callee) s h.0.is h.1)) stretches
        (each-both (IsStretchIn members) (λ (s : Stretch). IsCanonicalExit s.before) stretches group.calls (exits-canonical calls sides in-group sides_fine))

    abbrev Leads : ℕ → List ℤ → Type 0
    Leads place pair = LeadsToBase members stretches bases group each_base canonical_bases leaves place pair

    module _ (met : AreMet program known) (knows : KnowsOthers program procs known) (linear : IsLinear program procs) where
      -- an activation returns, and its pair leads to a base
      LedToBase : CallMeaning
      LedToBase proc globals args after value =
          Returns program proc globals args after value
          × ((place : ℕ) (p : Proc) → slice_get procs place ≡ Some proc → IsProcOf program proc p → Leads place ((globals ++ args) ++ exit_values p after value))

      returned : (proc : ℕ) (globals args after : State) (value : ℤ) → LedToBase proc globals args after value → Returns program proc globals args after value
      unfolding LedToBase
      returned proc globals args after value both = both.0

      led : (proc : ℕ) (globals args after : State) (value : ℤ) → LedToBase proc globals args after value → (place : ℕ) (p : Proc) → slice_get procs place ≡ Some proc → IsProcOf program proc p
          → Leads place ((globals ++ args) ++ exit_values p after value)
      unfolding LedToBase
      led proc globals args after value both = both.1

      -- ---- calls outside the group

      met-untold : AreMet program untold
      met-untold number f e = go (table-either procs [] known number f e)
        where
          none : (n : ℕ) → slice_get [] n ≡ Some f → ⊥
          none zero e = cc
          none (suc n) e = cc

          go : ((place : ℕ) × (slice_get procs place ≡ Some number) × (slice_get [] place ≡ Some f)) ⊎ (slice_get known number ≡ Some (Some f)) → SummaryIsMet program number f
          go (inl found) = absurd (none found.0 found.2)
          go (inr older) = met number f older

      plain-told : (act : Statement) → CallsMember procs act ⊎ KnowsCallee known act → is_call_to procs act ≡ false → TellsCall LedToBase (KnownCalls untold) act
      plain-told (Call c args into) h none = go (place_of c procs) refl none h
        where
          go : (o : Option ℕ) → place_of c procs ≡ o → is_some o ≡ false → CallsMember procs (Call c args into) ⊎ KnowsCallee known (Call c args into) → TellsCall LedToBase (KnownCalls untold) (Call c args into)
          go (Some place) e f h = absurd (cc)
          go None e f (inl member) = absurd (no-place c procs e member.0 member.1)
          go None e f (inr older) =
              λ globals values left value both.
              met_calls_are_known program untold untold-known met-untold c older.0 (with-none procs known c e ∙ older.1) globals values left value (returned c globals values left value both)
      plain-told (Set col value) h none = tt
      plain-told (Any col) h none = tt
      plain-told (Guard cond) h none = tt
      plain-told (Check number cond) h none = tt
      plain-told (If cond a b) h none = tt
      plain-told (Loop pre cond body step first) h none = tt
      plain-told Break h none = tt
      plain-told Continue h none = tt
      plain-told Return h none = tt

      -- ---- one activation of a member

      module _ (place proc : ℕ) (p : Proc) (at : slice_get procs place ≡ Some proc) (is : IsProcOf program proc p) where
        abbrev arcs : List Arc
        arcs = (own_graph p).arcs

        member-here : slice_get ps place ≡ Some p
        member-here = member-at program procs place proc p there at is

        caller_is : ends_at members place ≡ pair_ends program p
        caller_is = ends-at program procs there place proc p at is

        arcs-told : (k : ℕ) (way : Arc) → slice_get arcs k ≡ Some way → is_call_to procs way.act ≡ false → TellsCall LedToBase (KnownCalls untold) way.act
        arcs-told k way e none = plain-told way.act (each-get (λ (w : Arc). CallsMember procs w.act ⊎ KnowsCallee known w.act) arcs k way (knows place proc p at is) e) none

        apart : AreApart procs arcs
        apart =
            subst (λ (f : FlowGraph). AreApart procs f.arcs) (graph-is program proc p known is)
            (each-get (λ n. AreApart procs (graph_of program n).arcs) procs place proc linear at)

        act-at : (k : ℕ) (way : Arc) → slice_get arcs k ≡ Some way → IsActOf program proc way.act
        act-at k way e = record { place = k; way = way; is = ap (λ (f : FlowGraph). slice_get f.arcs k) (graph-is program proc p known is) ∙ e; does = refl }

        module _ (globals args after : State) (value : ℤ) (r : ReturnsOver LedToBase program proc globals args after value) where
          abbrev before : State
          before = globals ++ (args ++ r.others)

          abbrev pair : List ℤ
          pair = (globals ++ args) ++ exit_values p after value

          params : length args ≡ p.params
          params = r.params ∙ ap (λ (q : Proc). q.params) (own-callee program proc p untold is formed untold-known LedToBase globals args after value r)

          wide : length before ≡ width_of program p
          wide = before-long program proc p untold is formed untold-known LedToBase globals args after value r

          -- without a call of the group its base holds
          by-base : (path : List Stride) → Walks (KnownCalls untold) (length program.globals) arcs 0 before path (exit_of (code_of p.body)) r.final → Leads place pair
          by-base path walk =
              let base = zipped-at (IsBase program untold) ps bases bases_fine place p member-here in
              let over : ReturnsOver (KnownCalls untold) program proc globals args after value = record {
                width = r.width;
                callee = r.callee;
                is = r.is;
                params = r.params;
                others = r.others;
                columns = r.columns;
                path = path;
                final = r.final;
                walk =
                    subst (λ (f : FlowGraph). Walks (KnownCalls untold) (length program.globals) f.arcs 0 before path (exit_of (body_of (slice_get program.procs proc))) r.final) (sym (graph-is program proc p known is))
                    (subst (λ o. Walks (KnownCalls untold) (length program.globals) arcs 0 before path (exit_of (body_of o)) r.final) (sym is) walk);
                after_is = r.after_is;
                value_is = r.value_is;
              } in
              record {
                last = place;
                within = subst (λ n. place < n) (sym (ends-many program procs there)) (slice_get_within procs place proc at);
                word = [];
                end = pair;
                walk = refl;
                run = refl;
                base = subst (λ o. Holds (unwrap_or o record { from = width_at members place; to = 0; cases = [] }) pair []) (sym base.1) (base.2.tells proc is globals args after value over);
              }

          -- with one its pair leads to the pair of the callee
          module _ (s : IsSplit procs LedToBase (KnownCalls untold) (length program.globals) arcs arcs-told (KnownCalls untold) 0 before (exit_of (code_of p.body)) r.final) (c : ℕ) (terms : List Term) (into : Option ℕ) (callee : ℕ) (of_group : place_of c procs ≡ Some callee) (does : s.way.act ≡ Call c terms into) (relates : CallRelates LedToBase (length program.globals) c terms into s.there s.back) where
            abbrev passed : State
            passed = take (length program.globals) s.there

            callee_returns : Returns program c passed relates.values relates.left relates.value
            callee_returns = returned c passed relates.values relates.left relates.value relates.returns

            abbrev q : Proc
            q = callee_returns.begins.entered.callee

            abbrev answer : List ℤ
            answer = (passed ++ relates.values) ++ exit_values q relates.left relates.value

            q_is : IsProcOf program c q
            q_is = callee_returns.begins.entered.is

            tail : Leads callee answer
            tail = led c passed relates.values relates.left relates.value relates.returns callee q (placed-at c procs callee of_group) q_is

            abbrev call : GroupCall
            call = the_call place callee s.way terms into

            call-listed : (k : ℕ) × (slice_get calls k ≡ Some call)
            call-listed =
                let found = call-found procs callee c terms into s.way does of_group 0 place s.edge ps p member-here s.is in
                let same : 0 + place ≡ place = omega arith in
                (found.0, found.1 ∙ ap (λ n. Some (the_call n callee s.way terms into)) same)

            has : HasSides IsOwnSide calls sides call-listed.0 call
            has = sides-found IsOwnSide calls sides sides_fine call-listed.0 call call-listed.1

            side : IsSide program p untold call has.one
            side = has.fine p member-here

            abbrev st : Stretch
            st = record { call = call; before = has.one.before; after = has.one.after }

            callee_is : ends_at members callee ≡ pair_ends program q
            callee_is = ends-at program procs there callee c q (placed-at c procs callee of_group) q_is

            between : IsStretchBetween (pair_ends program p) (pair_ends program q) st
            between =
                subst (λ m. IsStretchBetween m (pair_ends program q) st) caller_is
                (subst (λ m. IsStretchBetween (ends_at members place) m st) callee_is (each-get (IsStretchIn members) stretches call-listed.0 st group.calls has.stretch).is)

            -- ---- states of the caller

            short : length relates.left ≡ length program.globals
            short = returns-globals program c passed relates.values relates.left relates.value callee_returns ∙ callee_returns.begins.width

            starts : HoldsIf has.one.before before s.there
            starts = side.leads s.path before s.there wide s.first

            back_long : length s.back ≡ width_of program p
            back_long =
                let there_long = state-long (width_of program p) has.one.before side.fit_before before s.there starts in
                let dropped = length-drop (length program.globals) s.there in
                let joined = length-append relates.left (drop (length program.globals) s.there) in
                ap length relates.after_is ∙ received-long into relates.value (relates.left ++ drop (length program.globals) s.there) ∙ omega (arith, joined, dropped, short, there_long)

            stops : HoldsIf has.one.after s.back r.final
            stops = side.goes_on s.more s.back r.final back_long s.second

            final_long : length r.final ≡ (pair_ends program p).ends.full.columns
            final_long = state-long (width_of program p) has.one.after side.fit_after s.back r.final stops ∙ sym (full-columns program p)

            -- ---- the call is of the pair

            fits : CallFits program (width_of program p) c terms into
            fits = subst (EdgeFits program (width_of program p)) does (act-fits program proc p s.way.act formed is (act-at s.edge s.way s.is))

            called : IsCalled (pair_ends program p) (pair_ends program q) st between before s.there relates.values relates.left s.back r.final (exit_values p after value) relates.value q.returns
            called =
                let same : fits.callee ≡ q = some-one fits.is q_is in
                record {
                  starts = starts;
                  are = relates.are;
                  many = callee_returns.begins.entered.params ∙ sym (ap (λ (x : Proc). x.params) same) ∙ fits.params;
                  short = short;
                  wide = exit-long q.returns relates.left relates.value (length program.globals) short ∙ sym (exit-columns program c q formed q_is);
                  awaits = subst (λ (x : Proc). IsTrue (x.returns || not (is_some into))) same fits.returns;
                  back_is = relates.after_is;
                  stops = stops;
                  told = exits-told program untold formed untold-known proc p is r.final after value final_long r.after_is r.value_is;
                  long = exits-long program untold formed untold-known proc p is r.final after value final_long r.after_is r.value_is;
                }

            held : Holds (pair_formula (pair_ends program p) (pair_ends program q) st) pair answer
            held =
                subst (λ front. Holds (pair_formula (pair_ends program p) (pair_ends program q) st) (front ++ exit_values p after value) answer) (entry-front program untold formed untold-known proc p is globals args r.others r.width params)
                (pair-holds (pair_ends program p) (pair_ends program q) st between before s.there relates.values relates.left s.back r.final (exit_values p after value) relates.value q.returns called)

            leaf : leaf_at (group_graph members stretches) call-listed.0 ≡ pair_formula (pair_ends program p) (pair_ends program q) st
            leaf = leaf-found members stretches call-listed.0 st has.stretch ∙ (λ i. pair_formula (caller_is i) (callee_is i) st)

            by-call : Leads place pair
            by-call =
                record {
                  last = tail.last;
                  within = tail.within;
                  word = call-listed.0 ∷ tail.word;
                  end = tail.end;
                  walk = (callee, link-found stretches call-listed.0 st has.stretch, tail.walk);
                  run = (answer, subst (λ f. Holds f pair answer) (sym leaf) held, tail.run);
                  base = tail.base;
                }

          led-here : Leads place pair
          led-here =
              go
              (split-apart procs LedToBase (KnownCalls untold) (length program.globals) arcs arcs-told apart r.path 0 (exit_of (code_of p.body)) before r.final
              (own-walk program proc p untold is formed untold-known LedToBase globals args after value r))
            where
              by-act : (s : IsSplit procs LedToBase (KnownCalls untold) (length program.globals) arcs arcs-told (KnownCalls untold) 0 before (exit_of (code_of p.body)) r.final) (act : Statement)
                  → s.way.act ≡ act → is_call_to procs act ≡ true → EdgeRelates LedToBase (length program.globals) act s.there s.back → Leads place pair
              by-act s (Call c values into) does calls relates = of-place (place_of c procs) refl calls
                where
                  of-place : (o : Option ℕ) → place_of c procs ≡ o → is_some o ≡ true → Leads place pair
                  of-place None e f = absurd (cc)
                  of-place (Some callee) e f = by-call s c values into callee e does relates
              by-act s (Set col value) does calls relates = absurd (cc)
              by-act s (Any col) does calls relates = absurd (cc)
              by-act s (Guard cond) does calls relates = absurd (cc)
              by-act s (Check number cond) does calls relates = absurd (cc)
              by-act s (If cond a b) does calls relates = absurd (cc)
              by-act s (Loop pre cond body step first) does calls relates = absurd (cc)
              by-act s Break does calls relates = absurd (cc)
              by-act s Continue does calls relates = absurd (cc)
              by-act s Return does calls relates = absurd (cc)

              go : ((path : List Stride) × Walks (KnownCalls untold) (length program.globals) arcs 0 before path (exit_of (code_of p.body)) r.final)
                  ⊎ IsSplit procs LedToBase (KnownCalls untold) (length program.globals) arcs arcs-told (KnownCalls untold) 0 before (exit_of (code_of p.body)) r.final → Leads place pair
              go (inl plain) = by-base plain.0 plain.1
              go (inr s) = by-act s s.way.act refl s.calls_member s.relates

      -- ---- all activations

      led-over : (proc : ℕ) (globals args after : State) (value : ℤ) → ReturnsOver LedToBase program proc globals args after value → LedToBase proc globals args after value
      unfolding LedToBase
      led-over proc globals args after value r = (
        over-returns program proc globals args after value (returns-more LedToBase (Returns program) returned program proc globals args after value r),
        λ place p at is. led-here place proc p at is globals args after value r,
      )

      leads : (proc : ℕ) (globals args after : State) (value : ℤ) → Returns program proc globals args after value → (place : ℕ) (p : Proc) → slice_get procs place ≡ Some proc → IsProcOf program proc p
          → Leads place ((globals ++ args) ++ exit_values p after value)
      leads proc globals args after value returns =
          let tree = (returns_have_heights program proc globals args after value).0 returns in
          led proc globals args after value (returns-by_height program LedToBase led-over tree.0 proc globals args after value tree.1)

      -- ---- the closure

      abbrev ClosedAt : ℕ → Transition → Type 0
      ClosedAt place f = (lt : place < length members) → IsClosed members stretches bases group each_base canonical_bases leaves place lt f

      closed-behind : (made : List Transition) (place : ℕ) → place < length members → Always (IsBehind ClosedAt made place) (with_closed members stretches bases made place)
      unfolding with_closed
      closed-behind made place lt =
          always_bind (ClosedAt place) (IsBehind ClosedAt made place) (closed_member members stretches bases place) (λ f. Done (made ++ f ∷ []))
          (always_weaker (IsClosed members stretches bases group each_base canonical_bases leaves place lt) (ClosedAt place) (closed_member members stretches bases place) (λ f h other. h)
          (closed-holds members stretches bases group each_base canonical_bases leaves place lt))
          (λ f h. record { value = f; is = refl; holds = h })

      table-met : (table : List Transition) → AllZip ClosedAt (range_with_len 0 (length ps)) table → AreMetMembers program procs table
      table-met table h place proc f at g p is globals args after value returns =
          let many = ends-many program procs there in
          let mapped = length-map ps (pair_ends program) in
          let within : place < length members = subst (λ n. place < n) (sym many) (slice_get_within procs place proc at) in
          let found = zipped-at ClosedAt (range_with_len 0 (length ps)) table h place place (range-at 0 (length ps) place (subst (λ n. place < n) mapped within) ∙ ap Some (omega arith)) in
          let same : found.0 ≡ f = some-one found.1 g in
          let ends : ends_at members place ≡ pair_ends program p = ends-at program procs there place proc p at is in
          let r = returns in
          let own : r.begins.entered.callee ≡ p = some-one r.begins.entered.is is in
          let params : length args ≡ p.params = r.begins.entered.params ∙ ap (λ (q : Proc). q.params) own in
          let width = r.begins.width in
          let all = length-append globals args in
          let short = returns-globals program proc globals args after value returns ∙ width in
          subst (λ k. Holds k (globals ++ args) (exit_values p after value)) same
          (found.2 within (globals ++ args) (exit_values p after value)
          (omega (arith, all, width, params) ∙ sym (ap (λ (m : PairEnds). m.ends.entry.columns) ends ∙ entry-columns program proc p formed is))
          (exit-long p.returns after value (length program.globals) short ∙ sym (ap (λ (m : PairEnds). m.ends.exit.columns) ends ∙ exit-columns program proc p formed is))
          (leads proc globals args after value returns place p at is))

      pub members-met : Always (AreMetMembers program procs) (each (with_closed members stretches bases) [] (range_with_len 0 (length ps)))
      members-met =
          always_weaker (AllZip ClosedAt (range_with_len 0 (length ps))) (AreMetMembers program procs) (each (with_closed members stretches bases) [] (range_with_len 0 (length ps))) table-met
          (each-match (λ place. place < length members) ClosedAt (with_closed members stretches bases) closed-behind (range_with_len 0 (length ps))
          (range-below 0 (length ps) (length members) (let mapped = length-map ps (pair_ends program) in omega (arith, mapped))))

  -- a linear group's closure of no table
  pub closure-met : AreMet program known → KnowsOthers program procs known → IsLinear program procs → (bases : List Transition) → AllZip (IsBase program untold) ps bases
      → Always (AreMetMembers program procs) (closure_of program procs known bases [])
  unfolding closure_of
  closure-met met knows linear bases fine =
      always_bind (AllZip IsOwnSide calls) (AreMetMembers program procs) (sides_of program procs untold) (λ sides. each (with_closed members (stretches_with calls sides) bases) [] (range_with_len 0 (length ps)))
      (sides-true program procs untold formed untold-known there) (λ sides held. members-met sides held bases fine met knows linear)

  pub bases-met : Always (AllZip (IsBase program untold) ps) (bases_of program procs known)
  unfolding bases_of
  bases-met = bases-true program untold formed untold-known procs there
