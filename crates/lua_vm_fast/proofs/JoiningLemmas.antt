-- `..` of texts and numbers that are there.
use Rattle.std.specs.Prelude.{◌≡◌, ℕ, ◌+◌, ◌/◌, ◌<◌, ◌≤◌, nat_lt, min, Bool, true, false, if◌then◌else◌, List, [], ◌∷◌, Option, Some, None, IfSome, slice_get, slice_set, refl}
use Rattle.std.specs.declared.rc.Rc.{Rc}
use Rattle.std.specs.declared.alloc.Global.{Global}
use Rattle.std.proofs.Common.{sym, ◌∙◌, ap, subst, arith}
use Rattle.std.proofs.lemmas.Bool.{lt-ltb, le-ltb, ltb-true, ltb-false}
use Rattle.lua_ast.specs.declared.expressions.BinOp.TheVariants.{Concat}
use Rattle.lua_ast.specs.declared.expressions.Expr.{Expr}
use Rattle.lua_ast.specs.declared.expressions.ExprKind.{out-ExprKind}
use Rattle.lua_ast.specs.declared.expressions.ExprKind.TheOpen as e
use Rattle.lua_ast.specs.declared.expressions.ExprKind.TheVariants as v
use Rattle.lua_ast.specs.declared.statements.Stmt.{Stmt}
use Rattle.lua_ast.specs.declared.statements.StmtKind.TheOpen as sk
use Rattle.lua_values.specs.declared.faults.StoreFault.{StoreFault}
use Rattle.lua_values.specs.declared.faults.StoreFault.TheVariants.{Full}
use Rattle.lua_values.specs.declared.values.Value.{Value}
use Rattle.lua_values.specs.Heap.{Heap, StoreView, step_limit, unit_limit}
use Rattle.lua_values.specs.StoreCalls.{full_cause}
use Rattle.lua_operators.specs.declared.events.Event.TheVariants.{Concat as AConcat}
use Rattle.lua_operators.specs.declared.outcome.Outcome.{Outcome}
use Rattle.lua_operators.specs.declared.outcome.Outcome.TheVariants as outcome
use Rattle.lua_operators.specs.Concatenation.{concatenated}
use Rattle.lua_operators.specs.OperandFaults.{concatenation_fault}
use Rattle.lua_meaning.specs.declared.slots.Slot.{Slot}
use Rattle.lua_meaning.specs.declared.slots.Slot.TheVariants.{Plain}
use Rattle.lua_meaning.specs.Arithmetic.{handled}
use Rattle.lua_meaning.specs.Assignments.{assignment_work}
use Rattle.lua_meaning.specs.Concatenation.{text_length, with_text, make_text, joined, concatenation_work}
use Rattle.lua_meaning.specs.Evaluator.{State, Ended, do_work}
use Rattle.lua_meaning.specs.Metatables.{handler_of_two}
use Rattle.lua_meaning.specs.Nodes.{eval}
use Rattle.lua_meaning.specs.Operators.{binary_work}
use Rattle.lua_meaning.specs.Positions.{callers_at}
use Rattle.lua_meaning.specs.Setting.{Setting}
use Rattle.lua_meaning.specs.Signs.{give, give_one, on_values, value}
use Rattle.lua_meaning.specs.Statements.{with_values}
use Rattle.lua_meaning.specs.Variables.{table_fault, unless_refused, with_locals, write_slot}
use Rattle.lua_meaning.specs.Works.{Caller, Places, Slots, AnExpr, Values, Look, Write, and_then}
use Rattle.lua_meaning.proofs.Running.{Does, stmt, val, exp, seq, count, target, end}
use Rattle.lua_vm_fast.specs.declared.places.Valued.{Valued}
use Rattle.lua_vm_fast.specs.declared.concatenation.Made.{Made}
use Rattle.lua_vm_fast.specs.Gives.{counting, later, Gives}
use Rattle.lua_vm_fast.specs.Runs.{state, RunsIf, IsLocals, IsAssignment, is_plain}
use Rattle.lua_vm_fast.specs.Joining.{with_units, making, made, Makes, MakesBinary, Joins, TakesIf}
use Rattle.lua_vm_fast.proofs.RunLemmas.{counted, plain_there}
use Rattle.lua_vm_fast.proofs.ValueLemmas.{binary_kind}

-- units that fit
fits : (h : Heap) (n : ℕ) → full_cause h n ≡ None → h.units + n ≤ unit_limit
fits h n e = by_test (nat_lt unit_limit (h.units + n)) refl e
  where
    by_test : (t : Bool) → nat_lt unit_limit (h.units + n) ≡ t → (if t then Some Full else None) ≡ None → h.units + n ≤ unit_limit
    by_test false is none = ltb-false _ _ is
    by_test true is none = absurd (cc)

roomy : (h : Heap) (n : ℕ) → h.units + n ≤ unit_limit → full_cause h n ≡ None
roomy h n le = ap (λ (t : Bool). if t then Some Full else None) (le-ltb unit_limit (h.units + n) le)

-- a value that takes no units
pub given_makes : (x : Expr) (s : Slots) (h : Heap) (m : Made) → m.units ≡ 0 → Gives x s h m.value m.steps → Makes x s h m
given_makes x s h m none g = record {
  one = λ S p w same few room. g.one S p w same few ∙ nothing w;
  all = λ S p w same few room. g.all S p w same few ∙ nothing w;
}
  where
    nothing : (w : State) → Ended (Values (m.value ∷ [])) s (later m.steps w) ≡ Ended (Values (m.value ∷ [])) s (made m.steps m.units w)
    nothing w =
        ap (λ (k : ℕ). Ended (Values (m.value ∷ [])) s (record w { store = record { heap = record w.store.heap { units = k }; steps = w.store.steps + m.steps } })) (omega (arith, none))

-- a text is made
text_made : (S : Setting) (callers : List Caller) (n : ℕ) (u : Value) (s : Slots) (w : State) → w.store.heap.units + (n + 16) ≤ unit_limit
    → Does S (make_text S callers n s (give_one u s)) w (Ended (Values (u ∷ [])) s (made 0 (n + 16) w))
text_made S callers n u s w room = record {
  is =
      ap (λ (c : Option StoreFault). do_work (eval S) (unless_refused S callers table_fault c s (Write (with_text w.store.heap n) (give_one u s))) w) (roomy w.store.heap (n + 16) room)
      ∙ ap (λ (k : ℕ). Ended (Values (u ∷ [])) s (record w { store = record { heap = with_text w.store.heap n; steps = k } })) (omega arith);
}

joining : (S : Setting) (callers : List Caller) (a b u : Value) (s : Slots) (w : State) → concatenated a b ≡ outcome.Gives u
    → w.store.steps + (text_length a + text_length b + text_length u) / 64 < step_limit → w.store.heap.units + (text_length u + 16) ≤ unit_limit
    → Does S (concatenation_work S callers a b s) w (Ended (Values (u ∷ [])) s (made 0 (text_length u + 16) (later ((text_length a + text_length b + text_length u) / 64) w)))
joining S callers a b u s w is few room = record {
  is =
      ap (λ (o : Outcome). do_work (eval S) (joined S callers (text_length a + text_length b) o s (Look (λ h. handled S callers (handler_of_two h a b AConcat) (a ∷ b ∷ []) (concatenation_fault a b) s))) w) is
      ∙ (count {go = make_text S callers (text_length u) s (give_one u s)} (lt-ltb _ _ few) (text_made S callers (text_length u) u s (later ((text_length a + text_length b + text_length u) / 64) w) room)).is;
}

both : (S : Setting) (line : ℕ) (a b : Expr) (s : Slots) (h : Heap) (left : Valued) (right m : Made) (p : Places) (w : State) → w.store.heap ≡ h → Gives a s h left.value left.steps → Makes b s h right → Joins left right m
    → w.store.steps + m.steps < step_limit → h.units + m.units ≤ unit_limit
    → Does S (value a p s (λ x s'. value b p s' (λ y s''. binary_work S (callers_at p line) Concat x y s''))) (later 1 w) (Ended (Values (m.value ∷ [])) s (made m.steps m.units w))
both S line a b s h left right m p w same ga mb j few room =
    seq (record { is = ga.one S p (later 1 w) same (omega (arith, few, j.steps)) }) (seq (record { is = mb.one S p (later left.steps (later 1 w)) same (omega (arith, few, j.steps)) (omega (arith, room, j.units)) })
    (record {
      is =
          (joining S (callers_at p line) left.value right.value m.value s (made right.steps right.units (later left.steps (later 1 w))) j.is (omega (arith, few, j.steps)) (subst (λ (g : Heap). g.units + right.units + (text_length m.value + 16) ≤ unit_limit) (sym same) (omega (arith, room, j.units)))).is
          ∙ ap (λ (k : ℕ). Ended (Values (m.value ∷ [])) s (record w { store = record { heap = record w.store.heap { units = w.store.heap.units + right.units + (text_length m.value + 16) }; steps = k } })) steps
          ∙ ap (λ (k : ℕ). Ended (Values (m.value ∷ [])) s (record w { store = record { heap = record w.store.heap { units = k }; steps = w.store.steps + m.steps } })) units;
    }))
  where
    steps : w.store.steps + 1 + left.steps + right.steps + (text_length left.value + text_length right.value + text_length m.value) / 64 + 0 ≡ w.store.steps + m.steps
    steps = omega (arith, j.steps)

    units : w.store.heap.units + right.units + (text_length m.value + 16) ≡ w.store.heap.units + m.units
    units = omega (arith, j.units)

pub makes_binary : (a b : Expr) (s : Slots) (h : Heap) (left : Valued) (right m : Made) → Gives a s h left.value left.steps → Makes b s h right → Joins left right m → MakesBinary a b s h m
makes_binary a b s h left right m ga mb j x l r is la rb = record {
  one = λ S p w same few room.
      (val {S = S} {x = x} {k = e.Binary Concat l r} {p = p} {s = s} {w = w} is (lt-ltb _ _ (omega (arith, few, j.steps)))
      (both S x.line l.value r.value s h left right m p w same (subst (λ (t : Expr). Gives t s h left.value left.steps) (sym la) ga) (subst (λ (t : Expr). Makes t s h right) (sym rb) mb) j few room)).is;
  all = λ S p w same few room.
      (exp {S = S} {x = x} {k = e.Binary Concat l r} {p = p} {s = s} {w = w} is (lt-ltb _ _ (omega (arith, few, j.steps)))
      (both S x.line l.value r.value s h left right m p w same (subst (λ (t : Expr). Gives t s h left.value left.steps) (sym la) ga) (subst (λ (t : Expr). Makes t s h right) (sym rb) mb) j few room)).is;
}

pub joined_makes : (a b : Expr) (s : Slots) (h : Heap) (left : Valued) (right : Made) (r : Option Made) → Gives a s h left.value left.steps → Makes b s h right → IfSome r (Joins left right) → IfSome r (λ m. MakesBinary a b s h m)
joined_makes a b s h left right (Some m) ga mb j = makes_binary a b s h left right m ga mb j
joined_makes a b s h left right None ga mb j = tt

-- `local NAME = a .. b`
local_ends : (S : Setting) (xs : List Expr) (places : List ℕ) (x : Expr) (i : ℕ) (m : Made) (s : Slots) (p : Places) (w : State) → places ≡ i ∷ [] → xs ≡ x ∷ [] → Makes x s w.store.heap m → w.store.steps + m.steps < step_limit
    → w.store.heap.units + m.units ≤ unit_limit → Does S (with_values xs p s (λ vs s'. give [] (with_locals places vs s'))) w (Ended (Values []) (slice_set s i (Plain m.value)) (made m.steps m.units w))
local_ends S xs places x i m s p w slots values g few room =
    rw (slots, values) (seq {n = AnExpr x} (record { is = g.all S p w refl few room }) end)

pub local_takes : (x : Expr) (i : ℕ) (m : Made) (r : Bool) (s s' : Slots) (before store : StoreView) → Makes x s before.heap m → TakesIf r i m 1 s before s' store → (st : Stmt) → IsLocals (i ∷ []) (x ∷ []) st → RunsIf r st s before s' store
local_takes x i m false s s' before store g t st is = t
local_takes x i m true s s' before store g t st is = λ S p rs.
    (stmt {k = sk.Local is.slots is.values} is.is_local (lt-ltb _ _ (omega (arith, t.few))) (local_ends S is.values.value.items is.slots.value.items x i m s p (later 1 (state before rs)) is.in_slots is.listed g (omega (arith, t.few)) (fits before.heap m.units t.allowed))).is
    ∙ ap (λ (k : ℕ). Ended (Values []) (slice_set s i (Plain m.value)) (state (record { heap = with_units m.units before.heap; steps = k }) rs)) sums
    ∙ ap (λ (u : Slots). Ended (Values []) u (state (making (m.steps + 1) m.units before) rs)) (sym t.set) ∙ ap (λ (st' : StoreView). Ended (Values []) s' (state st' rs)) (sym t.is)
  where
    sums : before.steps + 1 + m.steps ≡ before.steps + (m.steps + 1)
    sums = omega arith

-- `NAME = a .. b`
written : (S : Setting) (line i : ℕ) (u old : Value) (s : Slots) (p : Places) (w : State) → slice_get s i ≡ Some (Plain old)
    → Does S (and_then (write_slot S (callers_at p line) (slice_get s i) i u s (give [])) (on_values (λ us s'. give [] s'))) w (Ended (Values []) (slice_set s i (Plain u)) w)
written S line i u old s p w plain =
    record { is = ap (λ (t : Option Slot). do_work (eval S) (and_then (write_slot S (callers_at p line) t i u s (give [])) (on_values (λ us s'. give [] s'))) w) plain }

assignment_ends : (S : Setting) (targets xs : List Expr) (target' x : Expr) (i : ℕ) (m : Made) (old : Value) (s : Slots) (p : Places) (w : State) → targets ≡ target' ∷ [] → xs ≡ x ∷ [] → out-ExprKind target'.kind ≡ e.Slot i
    → Makes x s w.store.heap m → slice_get s i ≡ Some (Plain old) → w.store.steps + (m.steps + 1) < step_limit → w.store.heap.units + m.units ≤ unit_limit
    → Does S (assignment_work S targets xs p s) w (Ended (Values []) (slice_set s i (Plain m.value)) (made m.steps m.units (later 1 w)))
assignment_ends S targets xs target' x i m old s p w one values is g plain few room =
    rw (one, values) (count (lt-ltb _ _ (omega (arith, few))) (target {k = e.Slot i} target' p s _ is (seq {n = AnExpr x} (record { is = g.all S p (later 1 w) refl (omega (arith, few)) room }) (written S target'.line i m.value old s p (made m.steps m.units (later 1 w)) plain))))

pub assignment_takes : (x : Expr) (i : ℕ) (m : Made) (r : Bool) (s s' : Slots) (before store : StoreView) → is_plain (slice_get s i) ≡ true → Makes x s before.heap m → TakesIf r i m 2 s before s' store → (st : Stmt) → IsAssignment i x st
    → RunsIf r st s before s' store
assignment_takes x i m false s s' before store had g t st is = t
assignment_takes x i m true s s' before store had g t st is = λ S p rs.
    (stmt {k = sk.Assign is.assignments.targets is.assignments.values} is.assignments.is_assignment (lt-ltb _ _ (omega (arith, t.few)))
    (assignment_ends S is.assignments.targets.value.items is.assignments.values.value.items is.target x i m (plain_there s i had).0 s p (later 1 (state before rs)) is.assignments.aimed is.assignments.listed is.is_slot g (plain_there s i had).1 (omega (arith, t.few)) (fits before.heap m.units t.allowed))).is
    ∙ ap (λ (k : ℕ). Ended (Values []) (slice_set s i (Plain m.value)) (state (record { heap = with_units m.units before.heap; steps = k }) rs)) sums
    ∙ ap (λ (u : Slots). Ended (Values []) u (state (making (m.steps + 2) m.units before) rs)) (sym t.set) ∙ ap (λ (st' : StoreView). Ended (Values []) s' (state st' rs)) (sym t.is)
  where
    sums : before.steps + 1 + 1 + m.steps ≡ before.steps + (m.steps + 2)
    sums = omega arith

-- units and steps were counted, and the slot has the value
pub took : (i : ℕ) (m : Made) (more : ℕ) (s s' : Slots) (before mid store : StoreView) → nat_lt (before.steps + (m.steps + more)) step_limit ≡ true → full_cause before.heap m.units ≡ None
    → mid ≡ record { heap = record before.heap { units = before.heap.units + m.units }; steps = before.steps } → store ≡ record { heap = mid.heap; steps = min step_limit (mid.steps + (m.steps + more)) } → s' ≡ slice_set s i (Plain m.value)
    → TakesIf true i m more s before s' store
took i m more s s' before mid store few allowed added steps set = record {
  few = ltb-true _ _ few;
  allowed = allowed;
  set = set;
  is =
      subst (λ (t : StoreView). store ≡ counting (m.steps + more) t) added
      (counted (m.steps + more) mid store steps (ap (λ (t : StoreView). nat_lt (t.steps + (m.steps + more)) step_limit) added ∙ few));
}

-- an expression that is a chain
pub chain_makes : (x : Expr) (a b : Rc Expr Global) (y z : Expr) (s : Slots) (h : Heap) (r : Option Made) → x.kind ≡ v.Binary Concat a b → y ≡ a.value → z ≡ b.value → IfSome r (λ m. MakesBinary y z s h m) → IfSome r (λ m. Makes x s h m)
chain_makes x a b y z s h (Some m) is l r g = g x a b (binary_kind x Concat a b is) (sym l) (sym r)
chain_makes x a b y z s h None is l r g = tt
