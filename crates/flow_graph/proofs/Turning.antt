-- The group that comes next, and what holds once it has come.
use Rattle.std.proofs.Common.{inl, inr, ◌⊎◌, ◌≡◌, ℕ, zero, suc, ◌<◌, ◌≤◌, Bool, true, false, List, [], ◌∷◌, ◌++◌, length, get_or, set, refl, sym, ap, subst, arith, ◌∙◌}
use Rattle.std.specs.Prelude.{◌↔◌, IsTrue}
use Rattle.std.proofs.lemmas.Bool.{cases_eq}
use Rattle.std.proofs.lemmas.List.{get_or-set_same, get_or-set_other, length-set}
use Rattle.std.proofs.lemmas.List.Elements.{Contains-append_left, Contains-append_right, Contains-append_cases}
use Rattle.std.specs.List.{Contains}
use Rattle.syntax_tree.specs.declared.program.Program.{Program}
use Rattle.flow_graph.specs.Groups.{Calls, CallsOver, Reaches, IsReady, IsAscending, IsNext}
use Rattle.flow_graph.specs.declared.turns.Plan.{Plan}
use Rattle.flow_graph.specs.Turns.{group, members_of, row_of, first_of, IsPlan, Stage, flag, waiters, IsPast, IsFirst, Stands}
use Rattle.flow_graph.proofs.Reaching.{reaches_join, target_within}
use Rattle.flow_graph.proofs.Sieves.{differ, true_or_false}

-- the procedures that have come are those of the groups that have
pub record Came (program : Program) (plan : Plan) (s : Stage) (come : List ℕ) : Type 0 where
  pub said : (q : ℕ) → Contains come q ↔ ((q < length program.procs) × (flag s.come (group plan q) ≡ true))

-- the first procedure of the ready groups
pub record IsTaken (old new : ℕ → Bool) (f : ℕ) : Type 0 where
  pub had : old f ≡ true
  pub least : (q : ℕ) → old q ≡ true → f ≤ q
  pub from : (q : ℕ) → new q ≡ true → (old q ≡ true) × (q ≡ f → ⊥)
  pub rest : (q : ℕ) → old q ≡ true → (q ≡ f) ⊎ (new q ≡ true)

head_in : (xs : List ℕ) (x : ℕ) → Contains xs x → Contains xs (get_or xs 0 0)
head_in [] x c = absurd (omega (arith, c.1))
head_in (y ∷ ys) x c = (0, omega arith, refl)

head_least : (xs : List ℕ) (x : ℕ) → IsAscending xs → Contains xs x → get_or xs 0 0 ≤ x
head_least [] x a c = absurd (omega (arith, c.1))
head_least (y ∷ ys) x a (zero, l, e) = omega (arith, e)
head_least (y ∷ ys) x a (suc k, l, e) = let b = a.0 x (k, omega (arith, l), e) in omega (arith, b)

module _ (program : Program) (plan : Plan) (count : ℕ) (is : IsPlan program plan count) where
  pub first_in : (p : ℕ) → p < length program.procs
      → (first_of plan (group plan p) < length program.procs) × (group plan (first_of plan (group plan p)) ≡ group plan p) × (first_of plan (group plan p) ≤ p)
  first_in p l =
      let there : Contains (members_of plan (group plan p)) p = (is.members (group plan p) p).1 (l, refl) in
      let head = (is.members (group plan p) (first_of plan (group plan p))).0 (head_in (members_of plan (group plan p)) p there) in
      (head.0, head.1, head_least (members_of plan (group plan p)) p (is.in_order (group plan p)) there)

  source : (p q : ℕ) (path : List ℕ) → CallsOver program p path q → p < length program.procs
  source p q [] c = c.0
  source p q (next ∷ path) c = c.0.0

  reaches_over : (p q r : ℕ) → Reaches program p q → Reaches program q r → Reaches program p r
  reaches_over p q r one other = (one.0 ++ q ∷ other.0, reaches_join program p q one.0 r other.0 one.1 other.1)

  -- within a group, and then a call
  group_call : (p x q : ℕ) → p < length program.procs → group plan p ≡ group plan x → Calls program x q → Reaches program p q
  group_call p x q l e c = elim ((is.one p x l c.0).0 e) [
    | inl same ↦ ([], subst (λ (k : ℕ). Calls program k q) (sym same) c)
    | inr both ↦ reaches_over p x q both.0 ([], c)
  ]

  module _ (s : Stage) (f : ℕ) (new : ℕ → Bool) (stands : Stands program plan count s []) (taken : IsTaken s.ready new f) where
    first : IsFirst program plan s.come f
    first = stands.ready f taken.had

    past_call : (p q : ℕ) → IsPast plan s.come (group plan f) p → Calls program p q → IsPast plan s.come (group plan f) q
    past_call p q (inl same) c = first.past q (subst (λ (g : ℕ). Contains (row_of plan g) q) same (is.called p q c))
    past_call p q (inr came) c = inr (stands.closed p q came c)

    past_over : (p q : ℕ) (path : List ℕ) → IsPast plan s.come (group plan f) p → CallsOver program p path q → IsPast plan s.come (group plan f) q
    past_over p q [] past c = past_call p q past c
    past_over p q (next ∷ path) past c = past_over next q path (past_call p next past c.0) c.1

    least_late : (come : List ℕ) (p : ℕ) → Came program plan s come → p < f → IsReady program come p → flag s.come (group plan p) ≡ false → ⊥
    least_late come p came less ready late =
        let within : p < length program.procs = let t = first.there in omega (arith, less, t) in
        elim (stands.waits p within late) [
          | inl has ↦ let low = taken.least (first_of plan (group plan p)) has in let h = (first_in p within).2 in omega (arith, low, h, less)
          | inr other ↦ elim other [
            | inl waits ↦
                let caller = is.callers (group plan p) waits.at waits.called in
                elim (ready waits.at (group_call p caller.0 waits.at within (sym caller.1) caller.2)) [
                  | inl has ↦ differ (flag s.come (group plan waits.at)) waits.late ((came.said waits.at).0 has).1
                  | inr one ↦ waits.other (sym ((is.one p waits.at within caller.2.1).1 one))
                ]
            | inr none ↦ omega (arith, none.1)
          ]
        ]

    returns : (path : List ℕ) → CallsOver program f path f → (q : ℕ) × Contains (row_of plan (group plan f)) q × (group plan q ≡ group plan f)
    returns [] c = (f, is.called f f c, refl)
    returns (next ∷ path) c = (
      next,
      is.called f next c.0,
      (is.one next f c.0.1 first.there).1 (inr ((path, c.1), ([], c.0))),
    )

    pub is_next : (come : List ℕ) (recursive : Bool) → Came program plan s come
        → (IsTrue recursive ↔ ((q : ℕ) × Contains (row_of plan (group plan f)) q × (group plan q ≡ group plan f)))
        → IsNext program come (record { procs = members_of plan (group plan f); recursive = recursive })
    is_next come recursive came loops = record {
      first = f;
      there = first.there;
      new = λ c. differ (flag s.come (group plan f)) first.late ((came.said f).0 c).1;
      ready = λ q reaches. elim (past_over f q reaches.0 (inl refl) reaches.1) [
        | inl same ↦ inr ((is.one f q first.there (target_within program f reaches.0 q reaches.1)).0 (sym same))
        | inr flagged ↦ inl ((came.said q).1 (target_within program f reaches.0 q reaches.1, flagged))
      ];
      least = λ p less ready. elim (true_or_false (flag s.come (group plan p))) [
        | inl flagged ↦ (came.said p).1 (let t = first.there in omega (arith, less, t), flagged)
        | inr late ↦ absurd (least_late come p came less ready late)
      ];
      members = λ q. (
        (λ c. let m = (is.members (group plan f) q).0 c in (m.0, (is.one f q first.there m.0).0 (sym m.1))),
        (λ both. (is.members (group plan f) q).1 (both.0, sym ((is.one f q first.there both.0).1 both.1))),
      );
      in_order = is.in_order (group plan f);
      recursive = (
        (λ yes. let c = loops.0 yes in let caller = is.callers (group plan f) c.0 c.1 in
            let one = group_call f caller.0 c.0 first.there (sym caller.1) caller.2 in
            elim ((is.one c.0 f caller.2.1 first.there).0 c.2) [
              | inl same ↦ subst (Reaches program f) same one
              | inr both ↦ reaches_over f c.0 f one both.0
            ]),
        (λ reaches. loops.1 (returns reaches.0 reaches.1)),
      );
    }

    -- ---- once it has come

    flag_here : flag (set s.come (group plan f) true) (group plan f) ≡ true
    flag_here = let w = is.within f first.there in get_or-set_same s.come (group plan f) true false (omega (arith, w, stands.all))

    flag_other : (g : ℕ) → (g ≡ group plan f → ⊥) → flag (set s.come (group plan f) true) g ≡ flag s.come g
    flag_other g ne = get_or-set_other s.come (group plan f) g true false ne

    flag_stays : (g : ℕ) → flag s.come g ≡ true → flag (set s.come (group plan f) true) g ≡ true
    flag_stays g e = elim (cases_eq g (group plan f)) [
      | inl same ↦ ap (flag (set s.come (group plan f) true)) same ∙ flag_here
      | inr ne ↦ flag_other g ne ∙ e
    ]

    flag_was : (g : ℕ) → flag (set s.come (group plan f) true) g ≡ false → (flag s.come g ≡ false) × (g ≡ group plan f → ⊥)
    flag_was g e =
        let ne : g ≡ group plan f → ⊥ = λ same. differ _ e (ap (flag (set s.come (group plan f) true)) same ∙ flag_here) in
        (sym (flag_other g ne) ∙ e, ne)

    past_stays : (g q : ℕ) → IsPast plan s.come g q → IsPast plan (set s.come (group plan f) true) g q
    past_stays g q (inl same) = inl same
    past_stays g q (inr flagged) = inr (flag_stays (group plan q) flagged)

    pub stands_after : Stands program plan count (record s { come = set s.come (group plan f) true; ready = new }) (waiters s (group plan f))
    stands_after = record {
      all = length-set s.come (group plan f) true ∙ stands.all;
      ready = λ k has.
          let before = taken.from k has in
          let old = stands.ready k before.0 in
          let apart : group plan k ≡ group plan f → ⊥ = λ same. before.1 (sym old.first ∙ ap (first_of plan) same ∙ first.first) in
          record {
            there = old.there;
            first = old.first;
            late = flag_other (group plan k) apart ∙ old.late;
            past = λ q c. past_stays (group plan k) q (old.past q c);
          };
      waits = λ p within late.
          let was = flag_was (group plan p) late in
          elim (stands.waits p within was.0) [
            | inl has ↦ elim (taken.rest (first_of plan (group plan p)) has) [
              | inl same ↦ absurd (was.1 (sym (first_in p within).1 ∙ ap (group plan) same))
              | inr still ↦ inl still
            ]
            | inr other ↦ elim other [
              | inl waits ↦ elim (cases_eq (group plan waits.at) (group plan f)) [
                | inl here ↦ inr (inr (subst (λ (g : ℕ). Contains (waiters s g) (group plan p)) here waits.waits))
                | inr ne ↦ inr (inl (record {
                  at = waits.at;
                  called = waits.called;
                  other = waits.other;
                  late = flag_other (group plan waits.at) ne ∙ waits.late;
                  waits = waits.waits;
                }))
              ]
              | inr none ↦ absurd (omega (arith, none.1))
            ]
          ];
      closed = λ p q flagged c. elim (cases_eq (group plan p) (group plan f)) [
        | inl same ↦ elim (past_call p q (inl same) c) [
          | inl here ↦ ap (flag (set s.come (group plan f) true)) here ∙ flag_here
          | inr came ↦ flag_stays (group plan q) came
        ]
        | inr ne ↦ flag_stays (group plan q) (stands.closed p q (sym (flag_other (group plan p) ne) ∙ flagged) c)
      ];
    }

    pub came_after : (come : List ℕ) → Came program plan s come
        → Came program plan (record s { come = set s.come (group plan f) true; ready = new }) (come ++ members_of plan (group plan f))
    came_after come came = record {
      said = λ q. (
        (λ c. elim (Contains-append_cases come (members_of plan (group plan f)) q c) [
          | inl before ↦ let b = (came.said q).0 before in (b.0, flag_stays (group plan q) b.1)
          | inr now ↦ let m = (is.members (group plan f) q).0 now in (m.0, ap (flag (set s.come (group plan f) true)) m.1 ∙ flag_here)
        ]),
        (λ both. elim (cases_eq (group plan q) (group plan f)) [
          | inl same ↦ Contains-append_right come (members_of plan (group plan f)) q ((is.members (group plan f) q).1 (both.0, same))
          | inr ne ↦ Contains-append_left come (members_of plan (group plan f)) q ((came.said q).1 (both.0, sym (flag_other (group plan q) ne) ∙ both.1))
        ]),
      );
    }

  -- where none is ready, all have come
  pub all_came : (s : Stage) (k p : ℕ) → Stands program plan count s [] → ((f : ℕ) → s.ready f ≡ true → ⊥) → p < length program.procs → group plan p < k
      → flag s.come (group plan p) ≡ true
  all_came s zero p stands none within low = absurd (omega (arith, low))
  all_came s (suc k) p stands none within low = elim (true_or_false (flag s.come (group plan p))) [
    | inl flagged ↦ flagged
    | inr late ↦ elim (stands.waits p within late) [
      | inl has ↦ absurd (none (first_of plan (group plan p)) has)
      | inr other ↦ elim other [
        | inl waits ↦ let caller = is.callers (group plan p) waits.at waits.called in
            let down = is.falls caller.0 waits.at caller.2 in
            let same = caller.1 in
            let less : group plan waits.at < k = elim (cases_eq (group plan waits.at) (group plan p)) [ inl e ↦ absurd (waits.other e) | inr ne ↦ omega (arith, down, same, ne, low) ] in
            differ (flag s.come (group plan waits.at)) waits.late (all_came s k waits.at stands none caller.2.1 less)
        | inr nothing ↦ absurd (omega (arith, nothing.1))
      ]
    ]
  ]
