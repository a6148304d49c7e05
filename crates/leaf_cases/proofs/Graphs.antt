-- What the edges of the graph of a well-formed program do keeps the limits of a program.
use Rattle.std.proofs.Common.{◌≡◌, ℕ, zero, suc, ◌+◌, ◌<◌, ◌≤◌, true, false, pos, length, List, [], ◌∷◌, ◌++◌, Option, Some, None, refl, sym, ap, subst, ◌∙◌, arith, map, get_or}
use Rattle.std.specs.Prelude.{IsTrue, All, is_some, not, ◌&&◌, ◌||◌, ◌==◌, nat_le, nat_lt, slice_get}
use Rattle.std.specs.List.{AllByRecursion}
use Rattle.std.proofs.lemmas.Bool.{leb-true}
use Rattle.std.proofs.lemmas.Bool.Decides.{Decides-eqb}
use Rattle.std.proofs.lemmas.Option.{get_or_from_slice_get, slice_get_within, slice_get-map, slice_get_read}
use Rattle.items.proofs.Each.{each-append, each-get}
use Rattle.syntax_tree.specs.declared.op.Sign.TheVariants.{Not}
use Rattle.syntax_tree.specs.declared.program.Proc.{Proc}
use Rattle.syntax_tree.specs.declared.program.Program.{Program}
use Rattle.syntax_tree.specs.Cases.{cases_of, joint_cases}
use Rattle.syntax_tree.specs.Code.{Statement, Set, Any, Call, Guard, Check, If, Loop, Break, Continue, Return, Code, End, Then, code_of}
use Rattle.syntax_tree.specs.Nodes.{code_nodes, statement_nodes}
use Rattle.syntax_tree.specs.Term.{Term, Lit, Unary}
use Rattle.syntax_tree.specs.WellFormed.{columns_below, all_columns_below, operators_of, joint_operators, cond_fits, value_fits, args_fit, into_fits, callee_fits, statement_fits, code_fits, body_place, width_of, IsProcFit, IsWellFormed}
use Rattle.std.specs.Option.{option_map}
use Rattle.flow_graph.specs.declared.parts.Edge.{Edge}
use Rattle.flow_graph.specs.declared.parts.Graph.{Graph}
use Rattle.flow_graph.specs.FlowGraph.{graph_of, Arc, arc, skip, unless, inside, statement_arcs, code_arcs, outermost, exit_of, flow_of, body_of, FlowGraph}
use Rattle.flow_graph.specs.Plain.{arc_of, plain, statement_of_act}
use Rattle.transition_formula.specs.Transition.{Transition}
use Rattle.transition_formula.proofs.ColumnTests.{both}
use Rattle.transition_formula.proofs.Fitting.{true-below}
use Rattle.leaf_cases.specs.Conditions.{AreKnown, IsActOf, columns_at, columns_in}

pub record GuardFits (width : ℕ) (cond : Term) : Type 0 where
  pub below : IsTrue (columns_below width cond)
  pub operators : operators_of cond ≤ 200001
  pub cases : (cases_of cond).truth ≤ 256

pub record SetFits (width col : ℕ) (value : Term) : Type 0 where
  pub col_is : col < width
  pub below : IsTrue (columns_below width value)
  pub operators : operators_of value ≤ 200000
  pub cases : (cases_of value).value ≤ 256

pub record CallFits (program : Program) (width proc : ℕ) (args : List Term) (into : Option ℕ) : Type 0 where
  pub callee : Proc
  pub is : slice_get program.procs proc ≡ Some callee
  pub params : callee.params ≡ length args
  pub returns : IsTrue (callee.returns || not (is_some into))
  pub below : IsTrue (all_columns_below width args)
  pub operators : joint_operators args ≤ 200000
  pub cases : joint_cases args ≤ 256
  pub awaits : IsTrue (into_fits width into)

abbrev pub EdgeFits : Program → ℕ → Statement → Type 0
EdgeFits program width (Guard cond) = GuardFits width cond
EdgeFits program width (Set col value) = SetFits width col value
EdgeFits program width (Any col) = col < width
EdgeFits program width (Call proc args into) = CallFits program width proc args into
EdgeFits program width _ = ⊥

module _ (program : Program) (width : ℕ) where
  abbrev Fit : Arc → Type 0
  Fit way = EdgeFits program width way.act

  guard-fits : (cond : Term) → IsTrue (cond_fits width cond) → GuardFits width cond
  guard-fits cond h =
      let a = both (columns_below width cond && nat_le (operators_of cond) 200000 && nat_le (cases_of cond).truth 256) (nat_le (cases_of cond).falsity 256) h in
      let b = both (columns_below width cond && nat_le (operators_of cond) 200000) (nat_le (cases_of cond).truth 256) a.0 in
      let d = both (columns_below width cond) (nat_le (operators_of cond) 200000) b.0 in
      let few = leb-true (operators_of cond) 200000 d.1 in
      record { below = d.0; operators = omega arith; cases = leb-true (cases_of cond).truth 256 b.1 }

  unless-fits : (cond : Term) → IsTrue (cond_fits width cond) → GuardFits width (Unary Not cond)
  unless-fits cond h =
      let a = both (columns_below width cond && nat_le (operators_of cond) 200000 && nat_le (cases_of cond).truth 256) (nat_le (cases_of cond).falsity 256) h in
      let b = both (columns_below width cond && nat_le (operators_of cond) 200000) (nat_le (cases_of cond).truth 256) a.0 in
      let d = both (columns_below width cond) (nat_le (operators_of cond) 200000) b.0 in
      let few = leb-true (operators_of cond) 200000 d.1 in
      record { below = d.0; operators = omega arith; cases = leb-true (cases_of cond).falsity 256 a.1 }

  skip-fits : GuardFits width (Lit (pos 1))
  skip-fits = record { below = refl; operators = omega arith; cases = omega arith }

  set-fits : (col : ℕ) (value : Term) → IsTrue (nat_lt col width && value_fits width value) → SetFits width col value
  set-fits col value h =
      let a = both (nat_lt col width) (value_fits width value) h in
      let b = both (columns_below width value && nat_le (operators_of value) 200000) (nat_le (cases_of value).value 256) a.1 in
      let d = both (columns_below width value) (nat_le (operators_of value) 200000) b.0 in
      record { col_is = true-below col width a.0; below = d.0; operators = leb-true (operators_of value) 200000 d.1; cases = leb-true (cases_of value).value 256 b.1 }

  call-fits : (proc : ℕ) (args : List Term) (into : Option ℕ) → IsTrue (callee_fits (slice_get program.procs proc) (length args) (is_some into) && args_fit width args && into_fits width into) → CallFits program width proc args into
  call-fits proc args into h =
      let a = both (callee_fits (slice_get program.procs proc) (length args) (is_some into) && args_fit width args) (into_fits width into) h in
      let b = both (callee_fits (slice_get program.procs proc) (length args) (is_some into)) (args_fit width args) a.0 in
      let d = both (all_columns_below width args && nat_le (joint_operators args) 200000) (nat_le (joint_cases args) 256) b.1 in
      let e = both (all_columns_below width args) (nat_le (joint_operators args) 200000) d.0 in
      go (slice_get program.procs proc) refl b.0 e.0 (leb-true (joint_operators args) 200000 e.1) (leb-true (joint_cases args) 256 d.1) a.1
    where
      go : (o : Option Proc) → slice_get program.procs proc ≡ o → IsTrue (callee_fits o (length args) (is_some into)) → IsTrue (all_columns_below width args) → joint_operators args ≤ 200000 → joint_cases args ≤ 256 → IsTrue (into_fits width into) → CallFits program width proc args into
      go None e k below operators cases awaits = cc
      go (Some callee) e k below operators cases awaits =
          let f = both (callee.params == length args) (callee.returns || not (is_some into)) k in
          record { callee = callee; is = e; params = (Decides-eqb callee.params (length args)).0 f.0; returns = f.1; below = below; operators = operators; cases = cases; awaits = awaits }

  mutual
    statement-arcs : (t : _) (c : ℕ) (place : _) (statement : Statement) → IsTrue (statement_fits program width place statement) → AllByRecursion Fit (statement_arcs t c statement)
    statement-arcs t c place (Set col value) h = (set-fits col value h, tt)
    statement-arcs t c place (Any col) h = (true-below col width h, tt)
    statement-arcs t c place (Call proc args into) h = (call-fits proc args into h, tt)
    statement-arcs t c place (Guard cond) h = (guard-fits cond h, tt)
    statement-arcs t c place (Check number cond) h = (guard-fits cond (both (nat_le 1 number && nat_le number (length program.checks)) (cond_fits width cond) h).1, tt)
    statement-arcs t c place (If cond on_true on_false) h =
        let a = both (cond_fits width cond && code_fits program width place on_true) (code_fits program width place on_false) h in
        let b = both (cond_fits width cond) (code_fits program width place on_true) a.0 in
        let end_true : ℕ = c + 1 + code_nodes on_true in
        let end_false : ℕ = end_true + 1 + code_nodes on_false in
        let first : List Arc = arc c (c + 1) (Guard cond) ∷ code_arcs t (c + 1) on_true in
        let second : List Arc = arc c (end_true + 1) (unless cond) ∷ code_arcs t (end_true + 1) on_false in
        let third : List Arc = arc end_true (end_false + 1) skip ∷ arc end_false (end_false + 1) skip ∷ [] in
        each-append Fit (first ++ second) third
        (each-append Fit first second (guard-fits cond b.0, code-arcs t (c + 1) place on_true b.1) (unless-fits cond b.0, code-arcs t (end_true + 1) place on_false a.1))
        (skip-fits, (skip-fits, tt))
    statement-arcs t c place (Loop pre cond body step false) h =
        let a = both _ _ h in
        let b = both _ _ a.0 in
        let d = both (cond_fits width cond) _ b.0 in
        let test : ℕ = c + 1 + code_nodes pre in
        let end_body : ℕ = test + 1 + code_nodes body in
        let end_step : ℕ = end_body + 1 + code_nodes step in
        let first : List Arc = arc c (c + 1) skip ∷ code_arcs t (c + 1) pre in
        let second : List Arc = arc test (test + 1) (Guard cond) ∷ code_arcs (inside t (end_step + 1) (end_body + 1)) (test + 1) body in
        let third : List Arc = arc end_body (end_body + 1) skip ∷ code_arcs t (end_body + 1) step in
        let last : List Arc = arc end_step (c + 1) skip ∷ arc test (end_step + 1) (unless cond) ∷ [] in
        each-append Fit ((first ++ second) ++ third) last
        (each-append Fit (first ++ second) third
        (each-append Fit first second (skip-fits, code-arcs t (c + 1) _ pre d.1) (guard-fits cond d.0, code-arcs (inside t (end_step + 1) (end_body + 1)) (test + 1) (body_place place) body b.1))
        (skip-fits, code-arcs t (end_body + 1) _ step a.1))
        (skip-fits, (unless-fits cond d.0, tt))
    statement-arcs t c place (Loop pre cond body step true) h =
        let a = both _ _ h in
        let b = both _ _ a.0 in
        let d = both (cond_fits width cond) _ b.0 in
        let end_body : ℕ = c + 1 + code_nodes body in
        let test : ℕ = end_body + 1 + code_nodes pre in
        let first : List Arc = arc c (c + 1) skip ∷ code_arcs (inside t (test + 1) (end_body + 1)) (c + 1) body in
        let second : List Arc = arc end_body (end_body + 1) skip ∷ code_arcs t (end_body + 1) pre in
        let last : List Arc = arc test (c + 1) (Guard cond) ∷ arc test (test + 1) (unless cond) ∷ [] in
        each-append Fit (first ++ second) last
        (each-append Fit first second (skip-fits, code-arcs (inside t (test + 1) (end_body + 1)) (c + 1) (body_place place) body b.1) (skip-fits, code-arcs t (end_body + 1) _ pre d.1))
        (guard-fits cond d.0, (unless-fits cond d.0, tt))
    statement-arcs t c place Break h = (skip-fits, tt)
    statement-arcs t c place Continue h = (skip-fits, tt)
    statement-arcs t c place Return h = (skip-fits, tt)

    code-arcs : (t : _) (c : ℕ) (place : _) (code : Code) → IsTrue (code_fits program width place code) → AllByRecursion Fit (code_arcs t c code)
    code-arcs t c place End h = tt
    code-arcs t c place (Then statement rest) h =
        let a = both (statement_fits program width place statement) (code_fits program width place rest) h in
        each-append Fit (statement_arcs t c statement) (code_arcs t (c + statement_nodes statement) rest) (statement-arcs t c place statement a.0) (code-arcs t (c + statement_nodes statement) place rest a.1)

  graph-arcs : (place : _) (body : Code) → IsTrue (code_fits program width place body) → AllByRecursion Fit (flow_of body).arcs
  graph-arcs place body h = each-append Fit (code_arcs (outermost body) 0 body) (arc (code_nodes body) (exit_of body) skip ∷ []) (code-arcs (outermost body) 0 place body h) (skip-fits, tt)

pub all_get : {X : Type 0} (P : X → Type 0) (xs : List X) (k : ℕ) (x : X) → All P xs → slice_get xs k ≡ Some x → P x
all_get P xs k x all e = subst P (get_or_from_slice_get xs k x x e) (all k x (slice_get_within xs k x e))

pub act-fits : (program : Program) (proc : ℕ) (p : Proc) (statement : Statement) → IsWellFormed program → slice_get program.procs proc ≡ Some p → IsActOf program proc statement → EdgeFits program (width_of program p) statement
act-fits program proc p statement formed is act =
    let fit : IsProcFit program p = all_get (IsProcFit program) program.procs proc p formed.each is in
    let width = width_of program p in
    let all = graph-arcs program width _ (code_of p.body) fit.body in
    let same = subst (λ (o : Option Proc). slice_get (flow_of (body_of o)).arcs act.place ≡ Some act.way) is act.is in
    subst (EdgeFits program width) act.does (each-get (Fit program width) (flow_of (code_of p.body)).arcs act.place act.way all same)

some_at : {X : Type 0} (xs : List X) (k : ℕ) → k < length xs → (x : X) × (slice_get xs k ≡ Some x)
some_at [] k lt = absurd (omega arith)
some_at (x ∷ xs) zero lt = (x, refl)
some_at (x ∷ xs) (suc k) lt = some_at xs k (omega arith)

-- the same, where the statement and the width are told by the code
pub fit_as : {program : Program} {proc : ℕ} {statement other : Statement} {width : ℕ} → IsWellFormed program → proc < length program.procs → IsActOf program proc statement → statement ≡ other → width ≡ columns_at program proc
    → EdgeFits program width other
fit_as {program} {proc} {statement} {other} {width} formed lt act same wide =
    let p = some_at program.procs proc lt in
    let is : width ≡ width_of program p.0 = wide ∙ ap (columns_in program) p.1 in
    subst (λ n. EdgeFits program n other) (sym is) (subst (EdgeFits program (width_of program p.0)) same (act-fits program proc p.0 statement formed p.1 act))

pub narrow_at : (program : Program) (proc : ℕ) → IsWellFormed program → proc < length program.procs → columns_at program proc ≤ 1000
narrow_at program proc formed lt =
    let p = some_at program.procs proc lt in
    let fit : IsProcFit program p.0 = all_get (IsProcFit program) program.procs proc p.0 formed.each p.1 in
    let slots = fit.slots in
    let globals = formed.globals in
    subst (λ o. columns_in program o ≤ 1000) (sym p.1) (omega arith)

pub globals_at : (program : Program) (proc : ℕ) → proc < length program.procs → length program.globals ≤ columns_at program proc
globals_at program proc lt = let p = some_at program.procs proc lt in subst (λ o. length program.globals ≤ columns_in program o) (sym p.1) (omega arith)

pub proc_within : {program : Program} {known : List (Option Transition)} {width proc : ℕ} {args : List Term} {into : Option ℕ} → AreKnown program known → CallFits program width proc args into → proc < length known
proc_within {program} {known} {width} {proc} are fit = let lt = slice_get_within program.procs proc fit.callee fit.is in let same = are.each in omega arith

-- ---- for callers: edges of a graph that is made, and nothing known

pub act_of_edge : (program : Program) (proc : ℕ) (g : Graph) (edges : List Edge) (i : ℕ) (x : Edge) → plain g ≡ graph_of program proc → edges ≡ g.edges → i < length edges → x ≡ get_or edges i x → IsActOf program proc (statement_of_act x.act)
act_of_edge program proc g edges i x same list lt is =
    record {
      place = i;
      way = arc_of x;
      is =
          ap (λ (f : FlowGraph). slice_get f.arcs i) (sym same)
          ∙ ap (λ es. slice_get (map arc_of es) i) (sym list)
          ∙ slice_get-map arc_of edges i
          ∙ ap (option_map arc_of) (slice_get_read edges (length edges) i x refl lt is);
      does = refl;
    }

none-there : {X : Type 0} (n : ℕ) (x : X) → (let none : List (Option X) = None ∷ [] in slice_get none n ≡ Some (Some x)) → ⊥
none-there zero x e = cc
none-there (suc n) x e = cc

pub none_known : (program : Program) → length program.procs ≡ 1 → AreKnown program (None ∷ [])
none_known program one = record { each = sym one; fit = λ proc p f is known. absurd (none-there proc f known) }
