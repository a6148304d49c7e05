-- Groups that are looked at one after the other, and come one after the other.
use Rattle.std.proofs.Common.{inl, inr, ◌⊎◌, ◌≡◌, ℕ, zero, suc, ◌<◌, Bool, true, false, List, [], ◌∷◌, ◌++◌, length, get_or, set, refl, sym, ap, subst, arith, ◌∙◌, append_assoc}
use Rattle.std.specs.Prelude.{◌==◌, ◌↔◌, not}
use Rattle.std.specs.Ordering.{is_gt, nat_cmp}
use Rattle.std.specs.declared.cmp.Ordering.TheVariants.{Less, Equal}
use Rattle.std.specs.BTreeMap.Range.{IsLtBy}
use Rattle.std.specs.Cmp.{nat_cmp_is}
use Rattle.std.proofs.lemmas.Map.Keys.{le_from_not_gt}
use Rattle.std.proofs.lemmas.Grind.{common_steps}
use Rattle.std.proofs.lemmas.Bool.{cases_eq}
use Rattle.std.proofs.lemmas.Bool.Decides.{Decides-eqb}
use Rattle.std.proofs.lemmas.List.{append-nil, get_or-set_other}
use Rattle.std.proofs.lemmas.List.Elements.{All-contains}
use Rattle.std.specs.List.{All, Contains, count_by}
use Rattle.syntax_tree.specs.declared.program.Program.{Program}
use Rattle.flow_graph.specs.declared.grouping.Group.{Group}
use Rattle.flow_graph.specs.declared.turns.Plan.{Plan}
use Rattle.flow_graph.specs.Components.{group_at}
use Rattle.flow_graph.specs.Groups.{AreGroups, AreGroupsAfter}
use Rattle.flow_graph.specs.Turns.{group, members_of, row_of, first_of, Stage, flag, waiters, mem, leads_back, IsPast, ArePast, AreWithin, Waits, IsFirst, Stands, Settled, Going}
use Rattle.flow_graph.proofs.Settling.{or_cases, or_left, or_right}
use Rattle.flow_graph.proofs.Sieves.{differ}
use Rattle.flow_graph.proofs.Turning.{Came, IsTaken, all_came, came_after, first_in, is_next, stands_after}

pub head_or_rest : (g x : ℕ) (rest : List ℕ) → Contains (g ∷ rest) x → (x ≡ g) ⊎ Contains rest x
head_or_rest g x rest (zero, l, e) = inl (sym e)
head_or_rest g x rest (suc i, l, e) = inr (i, omega (arith, l), e)

pub rest_in : (g x : ℕ) (rest : List ℕ) → Contains rest x → Contains (g ∷ rest) x
rest_in g x rest c = (suc c.0, omega (arith, c.1), c.2)

pub within_all : (program : Program) (plan : Plan) (s : Stage) (todo : List ℕ) (g : ℕ) → Going program plan s todo → AreWithin plan s g
within_all program plan s todo g going q c =
    let caller = going.plans.callers g q c in
    let w = going.plans.within q caller.2.1 in
    omega (arith, w, going.waiting)

pub todo_within : (program : Program) (plan : Plan) (s : Stage) (todo : List ℕ) (g : ℕ) → Going program plan s todo → Contains todo g → g < length s.next
todo_within program plan s todo g going c =
    let p = going.some g c in
    let w = going.plans.within p.0 p.1 in
    let e = p.2 in
    omega (arith, w, e, going.next)

module _ (program : Program) (plan : Plan) (s t : Stage) (g : ℕ) (rest : List ℕ) (going : Going program plan s (g ∷ rest)) (settled : Settled plan s t g) where
  waits_in : (k : ℕ) → Waits plan s k → Waits plan (record t { come = s.come }) k
  waits_in k w = record { at = w.at; called = w.called; other = w.other; late = w.late; waits = settled.waiting (group plan w.at) k w.waits }

  first_new : (f : ℕ) → f ≡ first_of plan g → flag s.come g ≡ false → ((q : ℕ) → Contains (row_of plan g) q → IsPast plan s.come g q) → IsFirst program plan s.come f
  first_new f e late past =
      let p = going.some g (0, omega arith, refl) in
      let head = first_in program plan going.count going.plans p.0 p.1 in
      let is : f ≡ first_of plan (group plan p.0) = e ∙ ap (first_of plan) (sym p.2) in
      let own : group plan f ≡ g = ap (group plan) is ∙ head.1 ∙ p.2 in
      record {
        there = (let h = head.0 in omega (arith, h, is));
        first = ap (first_of plan) own ∙ sym e;
        late = ap (flag s.come) own ∙ late;
        past = λ q c. subst (λ (x : ℕ). IsPast plan s.come x q) (sym own) (past q (subst (λ (x : ℕ). Contains (row_of plan x) q) own c));
      }

  stands_settled : Stands program plan going.count (record t { come = s.come }) rest
  stands_settled = record {
    all = going.stands.all;
    ready = λ f has. elim (settled.added f has) [
      | inl old ↦ going.stands.ready f old
      | inr new ↦ first_new f new.0 new.1 new.2
    ];
    waits = λ p within late. elim (going.stands.waits p within late) [
      | inl has ↦ inl (settled.kept (first_of plan (group plan p)) has)
      | inr other ↦ elim other [
        | inl w ↦ inr (inl (waits_in (group plan p) w))
        | inr todo ↦ elim (head_or_rest g (group plan p) rest todo) [
          | inl same ↦ elim (settled.now (ap (flag s.come) (sym same) ∙ late)) [
            | inl has ↦ inl (ap (λ (k : ℕ). t.ready (first_of plan k)) same ∙ has)
            | inr w ↦ inr (inl (subst (λ (k : ℕ). Waits plan (record t { come = s.come }) k) (sym same)
                (subst (λ (c : List Bool). Waits plan (record t { come = c }) g) settled.come w)))
          ]
          | inr more ↦ inr (inr more)
        ]
      ]
    ];
    closed = going.stands.closed;
  }

  pub going_settled : Going program plan t rest
  going_settled = subst (λ (c : List Bool). Going program plan (record t { come = c }) rest) (sym settled.come) (record {
    count = going.count;
    plans = going.plans;
    stands = stands_settled;
    past = subst (λ (c : List Bool). ArePast plan (record t { come = c })) settled.come settled.past;
    waiting = settled.as_many ∙ going.waiting;
    next = settled.places ∙ going.next;
    some = λ x c. going.some x (rest_in g x rest c);
    waiters = λ d x c. elim (settled.waits d x c) [
      | inl old ↦ going.waiters d x old
      | inr new ↦ subst (λ (k : ℕ). (p : ℕ) × (p < length program.procs) × (group plan p ≡ k)) (sym new) (going.some g (0, omega arith, refl))
    ];
  })

-- ---- the first of the ready

pub mem_of : (ks : List ℕ) (f : ℕ) → mem ks f ≡ true → Contains ks f
mem_of [] f e = absurd (cc e)
mem_of (k ∷ ks) f e = elim (or_cases (k == f) (mem ks f) e) [
  | inl same ↦ (0, omega arith, (Decides-eqb k f).0 same)
  | inr there ↦ rest_in k f ks (mem_of ks f there)
]

less_is : (f q : ℕ) → nat_cmp f q ≡ Less → f < q
less_is f q e =
    let low = le_from_not_gt f q (ap is_gt e) in
    elim (cases_eq f q) [
      | inl same ↦ absurd (cc (sym e ∙ sym (nat_cmp_is f q Equal same)))
      | inr ne ↦ omega (arith, low, ne)
    ]

pub taken_is : (old new : List ℕ) (f : ℕ) → old ≡ f ∷ new → All (IsLtBy nat_cmp f) new → IsTaken (mem old) (mem new) f
taken_is old new f e less = record {
  had = ap (λ (ks : List ℕ). mem ks f) e ∙ or_left (f == f) (mem new f) ((Decides-eqb f f).1 refl);
  least = λ q has. elim (or_cases (f == q) (mem new q) (sym (ap (λ (ks : List ℕ). mem ks q) e) ∙ has)) [
    | inl same ↦ let is = (Decides-eqb f q).0 same in omega (arith, is)
    | inr there ↦ let l = less_is f q (All-contains (IsLtBy nat_cmp f) new q less (mem_of new q there)) in omega (arith, l)
  ];
  from = λ q there.
      let l = less_is f q (All-contains (IsLtBy nat_cmp f) new q less (mem_of new q there)) in
      (ap (λ (ks : List ℕ). mem ks q) e ∙ or_right (f == q) (mem new q) there, λ same. omega (arith, l, same));
  rest = λ q has. elim (or_cases (f == q) (mem new q) (sym (ap (λ (ks : List ℕ). mem ks q) e) ∙ has)) [
    | inl same ↦ inl (sym ((Decides-eqb f q).0 same))
    | inr there ↦ inr there
  ];
}

-- ---- a turn

pub record Ordered (program : Program) (plan : Plan) (s : Stage) (groups : List Group) : Type 0 where
  pub come : List ℕ
  pub going : Going program plan s []
  pub came : Came program plan s come
  pub chain : (rest : List Group) → AreGroupsAfter program come rest → AreGroups program (groups ++ rest)

back_is : (groups : List ℕ) (g : ℕ) (row : List ℕ) → leads_back groups g row ≡ true → (q : ℕ) × Contains row q × (group_at groups q ≡ g)
back_is groups g [] e = absurd (cc e)
back_is groups g (q ∷ row) e = elim (or_cases (group_at groups q == g) (leads_back groups g row) e) [
  | inl same ↦ (q, (0, omega arith, refl), (Decides-eqb (group_at groups q) g).0 same)
  | inr more ↦ let r = back_is groups g row more in (r.0, rest_in q r.0 row r.1, r.2)
]

is_back : (groups : List ℕ) (g q : ℕ) (row : List ℕ) → Contains row q → group_at groups q ≡ g → leads_back groups g row ≡ true
is_back groups g q [] c e = absurd (omega (arith, c.1))
is_back groups g q (r ∷ row) c e = elim (head_or_rest r q row c) [
  | inl same ↦ or_left (group_at groups r == g) (leads_back groups g row) ((Decides-eqb (group_at groups r) g).1 (ap (group_at groups) (sym same) ∙ e))
  | inr there ↦ or_right (group_at groups r == g) (leads_back groups g row) (is_back groups g q row there e)
]

module _ (program : Program) (plan : Plan) (s : Stage) (groups : List Group) (f : ℕ) (new : ℕ → Bool) (ordered : Ordered program plan s groups) (taken : IsTaken s.ready new f) where
  pub late_first : flag s.come (group plan f) ≡ false
  late_first = (ordered.going.stands.ready f taken.had).late

  past_after : ArePast plan (record s { come = set s.come (group plan f) true; ready = new })
  past_after k i l h = elim (or_cases (group plan (get_or (row_of plan k) i 0) == k) (flag s.come (group plan (get_or (row_of plan k) i 0))) (ordered.going.past k i l h)) [
    | inl same ↦ or_left (group plan (get_or (row_of plan k) i 0) == k) _ same
    | inr came ↦ or_right (group plan (get_or (row_of plan k) i 0) == k) _ (elim (cases_eq (group plan (get_or (row_of plan k) i 0)) (group plan f)) [
      | inl here ↦ differ (flag s.come (group plan f)) late_first (ap (flag s.come) (sym here) ∙ came)
      | inr ne ↦ get_or-set_other s.come (group plan f) (group plan (get_or (row_of plan k) i 0)) true false ne ∙ came
    ])
  ]

  pub going_after : Going program plan (record s { come = set s.come (group plan f) true; ready = new }) (waiters s (group plan f))
  going_after = record {
    count = ordered.going.count;
    plans = ordered.going.plans;
    stands = stands_after program plan ordered.going.count ordered.going.plans s f new ordered.going.stands taken;
    past = past_after;
    waiting = ordered.going.waiting;
    next = ordered.going.next;
    some = λ g c. ordered.going.waiters (group plan f) g c;
    waiters = ordered.going.waiters;
  }

  pub ordered_after : (t : Stage) → Going program plan t [] → t.come ≡ set s.come (group plan f) true
      → Ordered program plan t (groups ++ (record { procs = members_of plan (group plan f); recursive = leads_back plan.groups (group plan f) (row_of plan (group plan f)) }) ∷ [])
  ordered_after t going same =
      let made : Group = record { procs = members_of plan (group plan f); recursive = leads_back plan.groups (group plan f) (row_of plan (group plan f)) } in
      record {
        come = ordered.come ++ members_of plan (group plan f);
        going = going;
        came = record {
          said = λ q. subst (λ (c : List Bool). Contains (ordered.come ++ members_of plan (group plan f)) q ↔ ((q < length program.procs) × (flag c (group plan q) ≡ true))) (sym same)
              ((came_after program plan ordered.going.count ordered.going.plans s f new ordered.going.stands taken ordered.come ordered.came).said q);
        };
        chain = λ rest are. subst (AreGroups program) (sym (append_assoc groups (made ∷ []) rest))
            (ordered.chain (made ∷ rest) (
              is_next program plan ordered.going.count ordered.going.plans s f new ordered.going.stands taken ordered.come (leads_back plan.groups (group plan f) (row_of plan (group plan f))) ordered.came
                  ((λ e. back_is plan.groups (group plan f) (row_of plan (group plan f)) e), (λ r. is_back plan.groups (group plan f) r.0 (row_of plan (group plan f)) r.1 r.2)),
              are,
            ));
      }

pub ordered_end : (program : Program) (plan : Plan) (s : Stage) (groups : List Group) → Ordered program plan s groups → ((f : ℕ) → s.ready f ≡ true → ⊥) → AreGroups program groups
ordered_end program plan s groups ordered none =
    subst (AreGroups program) (append-nil groups) (ordered.chain [] (λ q l. (ordered.came.said q).1 (
      l,
      (let w = ordered.going.plans.within q l in all_came program plan ordered.going.count ordered.going.plans s ordered.going.count q ordered.going.stands none l w),
    )))

-- ---- fewer that have not come

pub fewer_late : (come : List Bool) (g : ℕ) → g < length come → flag come g ≡ false → count_by not (set come g true) < count_by not come
fewer_late [] g l e = absurd (omega (arith, l))
fewer_late (b ∷ come) zero l e = grind (arith, common_steps)
fewer_late (b ∷ come) (suc g) l e = grind (arith, common_steps, fewer_late come g (omega (arith, l)) e)

pub ordered_none : (program : Program) (plan : Plan) (s : Stage) → Going program plan s [] → ((g : ℕ) → flag s.come g ≡ false) → Ordered program plan s []
ordered_none program plan s going none = record {
  come = [];
  going = going;
  came = record { said = λ q. ((λ c. absurd (omega (arith, c.1))), (λ both. differ (flag s.come (group plan q)) (none (group plan q)) both.1)) };
  chain = λ rest are. are;
}
