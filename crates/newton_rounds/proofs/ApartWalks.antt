-- A walk of a member makes no call of its group, or its first one stands between two parts; in a
-- linear group there is no other.
use Rattle.std.proofs.Common.{◌≡◌, ◌⊎◌, inl, inr, ℕ, zero, suc, ◌+◌, Bool, true, false, List, [], ◌∷◌, map, Option, None, Some, refl, sym, ap, subst, ◌∙◌, arith}
use Rattle.std.specs.Prelude.{◌==◌, slice_get, if◌then◌else◌}
use Rattle.std.specs.List.{Contains}
use Rattle.std.specs.Option.{option_map}
use Rattle.std.proofs.lemmas.Bool.{eq-eqb}
use Rattle.std.proofs.lemmas.Option.{slice_get-map}
use Rattle.path_expr.specs.Walks.{IsWalk}
use Rattle.syntax_tree.specs.Value.{State}
use Rattle.transition_formula.specs.Transition.{Transition}
use Rattle.flow_graph.specs.FlowGraph.{Arc}
use Rattle.flow_graph.specs.Walks.{CallMeaning, EdgeRelates, Stride, Walks}
use Rattle.proc_summary.specs.Subject.{link_of}
use Rattle.newton_rounds.specs.Members.{AreApart, calls_in, is_call_to, place_of, with_table}
use Rattle.newton_rounds.proofs.MemberTables.{table-leaves}
use Rattle.newton_rounds.proofs.ToldCalls.{TellsCall, edge-told}

-- ---- places in the group

pub no-place : (n : ℕ) (ms : List ℕ) → place_of n ms ≡ None → (k : ℕ) → slice_get ms k ≡ Some n → ⊥
no-place n [] e zero f = absurd (cc)
no-place n [] e (suc k) f = absurd (cc)
no-place n (m ∷ ms) e k f = go (n == m) refl (place_of n ms) (λ g j. no-place n ms g j) e k f
  where
    go : (b : Bool) → (n == m) ≡ b → (o : Option ℕ) → (o ≡ None → (j : ℕ) → slice_get ms j ≡ Some n → ⊥) → (if b then Some 0 else option_map (λ place. place + 1) o) ≡ None → (k : ℕ) → slice_get (m ∷ ms) k ≡ Some n → ⊥
    go true same o later g k h = absurd (cc)
    go false differs (Some j) later g k h = absurd (cc)
    go false differs None later g zero h =
        let same : m ≡ n = cc in
        let equal : (n == m) ≡ true = eq-eqb n m (sym same) in
        absurd (cc)
    go false differs None later g (suc k) h = later refl k h

-- ---- calls in filtered lists

contains-found : (ways : List Arc) (k : ℕ) (way : Arc) → slice_get ways k ≡ Some way → Contains ways way
contains-found [] k way e = absurd (none k e)
  where
    none : (n : ℕ) → slice_get [] n ≡ Some way → ⊥
    none zero e = cc
    none (suc n) e = cc
contains-found (w ∷ ways) zero way e = let same : w ≡ way = cc in (0, omega arith, same)
contains-found (w ∷ ways) (suc k) way e = let more = contains-found ways k way e in (suc more.0, (let lt = more.1 in omega (arith, lt)), more.2)

contains-later : (w : Arc) (ways : List Arc) (way : Arc) → Contains ways way → Contains (w ∷ ways) way
contains-later w ways way more = (suc more.0, (let lt = more.1 in omega (arith, lt)), more.2)

-- an edge that calls a member is one of those that do
call-in : (procs : List ℕ) (ways : List Arc) (k : ℕ) (way : Arc) → slice_get ways k ≡ Some way → is_call_to procs way.act ≡ true → Contains (calls_in procs ways) way
call-in procs [] k way e is = absurd (none k e)
  where
    none : (n : ℕ) → slice_get [] n ≡ Some way → ⊥
    none zero e = cc
    none (suc n) e = cc
call-in procs (w ∷ ways) zero way e is =
    let same : w ≡ way = cc in
    let passes : is_call_to procs w.act ≡ true = subst (λ (x : Arc). is_call_to procs x.act ≡ true) (sym same) is in
    subst (λ b. Contains (if b then w ∷ calls_in procs ways else calls_in procs ways) way) (sym passes) (0, omega arith, same)
call-in procs (w ∷ ways) (suc k) way e is = go (is_call_to procs w.act) (call-in procs ways k way e is)
  where
    go : (b : Bool) → Contains (calls_in procs ways) way → Contains (if b then w ∷ calls_in procs ways else calls_in procs ways) way
    go true more = contains-later w (calls_in procs ways) way more
    go false more = more

-- ---- walks as words

walk-word : (calls : CallMeaning) (globals : ℕ) (arcs : List Arc) (path : List Stride) (node last : ℕ) (before after : State) → Walks calls globals arcs node before path last after
    → IsWalk (map link_of arcs) node last (map (λ (stride : Stride). stride.edge) path)
walk-word calls globals arcs [] node last before after walk = walk.0
walk-word calls globals arcs (stride ∷ path) node last before after (way, is, from, relates, later) = (
  way.to,
  slice_get-map link_of arcs stride.edge ∙ ap (option_map link_of) is ∙ (λ i. Some (record { from = from i; to = way.to })),
  walk-word calls globals arcs path way.to last stride.state after later,
)

-- ---- the first call of the group

module _ (procs : List ℕ) (calls others : CallMeaning) (globals : ℕ) (arcs : List Arc)
    (tells : (k : ℕ) (way : Arc) → slice_get arcs k ≡ Some way → is_call_to procs way.act ≡ false → TellsCall calls others way.act) where
  -- a walk to an edge that calls a member, and on from its end
  pub record IsSplit (rest : CallMeaning) (node : ℕ) (before : State) (last : ℕ) (final : State) : Type 0 where
    pub path : List Stride
    pub there : State
    pub edge : ℕ
    pub way : Arc
    pub is : slice_get arcs edge ≡ Some way
    pub calls_member : is_call_to procs way.act ≡ true
    pub first : Walks others globals arcs node before path way.from there
    pub back : State
    pub relates : EdgeRelates calls globals way.act there back
    pub more : List Stride
    pub second : Walks rest globals arcs way.to back more last final

  abbrev IsPlain : ℕ → State → ℕ → State → Type 0
  IsPlain node before last final = (path : List Stride) × Walks others globals arcs node before path last final

  pub split : (path : List Stride) (node last : ℕ) (before final : State) → Walks calls globals arcs node before path last final → IsPlain node before last final ⊎ IsSplit calls node before last final
  split [] node last before final walk = inl ([], walk)
  split (stride ∷ path) node last before final (way, is, from, relates, later) = go (is_call_to procs way.act) refl (split path way.to last stride.state final later)
    where
      go : (b : Bool) → is_call_to procs way.act ≡ b → IsPlain way.to stride.state last final ⊎ IsSplit calls way.to stride.state last final → IsPlain node before last final ⊎ IsSplit calls node before last final
      go true e next =
          inr (record { path = []; there = before; edge = stride.edge; way = way; is = is; calls_member = e; first = (sym from, refl); back = stride.state; relates = relates; more = path; second = later })
      go false e (inl plain) = inl (stride ∷ plain.0, (way, is, from, edge-told calls others globals way.act before stride.state (tells stride.edge way is e) relates, plain.1))
      go false e (inr s) =
          inr (record {
            path = stride ∷ s.path;
            there = s.there;
            edge = s.edge;
            way = s.way;
            is = s.is;
            calls_member = s.calls_member;
            first = (way, is, from, edge-told calls others globals way.act before stride.state (tells stride.edge way is e) relates, s.first);
            back = s.back;
            relates = s.relates;
            more = s.more;
            second = s.second;
          })

  -- in a linear group no call follows
  pub split-apart : AreApart procs arcs → (path : List Stride) (node last : ℕ) (before final : State) → Walks calls globals arcs node before path last final → IsPlain node before last final ⊎ IsSplit others node before last final
  split-apart apart path node last before final walk = go (split path node last before final walk)
    where
      alone : (s : IsSplit calls node before last final) → IsPlain s.way.to s.back last final ⊎ IsSplit calls s.way.to s.back last final → IsSplit others node before last final
      alone s (inl plain) = record {
        path = s.path;
        there = s.there;
        edge = s.edge;
        way = s.way;
        is = s.is;
        calls_member = s.calls_member;
        first = s.first;
        back = s.back;
        relates = s.relates;
        more = plain.0;
        second = plain.1;
      }
      alone s (inr t) =
          absurd (apart s.way t.way (call-in procs arcs s.edge s.way s.is s.calls_member) (call-in procs arcs t.edge t.way t.is t.calls_member)
          (map (λ (stride : Stride). stride.edge) t.path) (walk-word others globals arcs t.path s.way.to t.way.from s.back t.there t.first))

      go : IsPlain node before last final ⊎ IsSplit calls node before last final → IsPlain node before last final ⊎ IsSplit others node before last final
      go (inl plain) = inl plain
      go (inr s) = inr (alone s (split s.more s.way.to last s.back final s.second))

-- ---- what is known without a table

pub with-none : (procs : List ℕ) (known : List (Option Transition)) (c : ℕ) → place_of c procs ≡ None → slice_get (with_table procs [] known) c ≡ slice_get known c
with-none procs known c e = table-leaves procs [] known c (no-place c procs e)
