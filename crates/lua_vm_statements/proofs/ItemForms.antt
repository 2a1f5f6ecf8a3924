-- What the items of statements do.
use Rattle.std.specs.Prelude.{◌≡◌, ℕ, ◌+◌, List, [], ◌∷◌, ◌++◌, drop, map, slice_get, Bool, true, false, if◌then◌else◌, Result, Ok, Err, refl}
use Rattle.std.proofs.Common.{sym, ◌∙◌, ap, Vec, Global}
use Rattle.std.specs.declared.rc.Rc.{Rc}
use Rattle.lua_ast.specs.declared.statements.Arm.{Arm, out-Arm}
use Rattle.lua_ast.specs.declared.statements.Stmt.{Stmt}
use Rattle.lua_values.specs.declared.values.Value.{Value}
use Rattle.lua_values.specs.Heap.{StoreView}
use Rattle.lua_operators.specs.Types.{is_truthy}
use Rattle.lua_meaning.specs.Works.{Places, Slots, AStmt, Sign, Values, Return, Break, Failed, Work, End, Eval, and_then}
use Rattle.lua_meaning.specs.Evaluator.{State, Ending, Ended, after, do_work}
use Rattle.lua_meaning.specs.Setting.{Setting}
use Rattle.lua_meaning.specs.Positions.{callers_at}
use Rattle.lua_meaning.specs.Signs.{give, on_values}
use Rattle.lua_meaning.specs.Blocks.{block}
use Rattle.lua_meaning.specs.Variables.{write_slot}
use Rattle.lua_meaning.specs.Assignments as assignment
use Rattle.lua_meaning.specs.Statements.{if_work}
use Rattle.lua_meaning.specs.Nodes.{eval}
use Rattle.lua_meaning.proofs.EvaluatorLemmas.{work-then}
use Rattle.lua_frames.specs.declared.flow.Flow.{Flow}
use Rattle.lua_frames.specs.declared.flow.Flow.TheVariants as flow
use Rattle.lua_frames.specs.declared.items.Item.TheVariants as i
use Rattle.lua_frames.specs.declared.targets.Assignment.{Assignment}
use Rattle.lua_frames.specs.declared.targets.Target.{Target}
use Rattle.lua_frames.specs.declared.targets.Target.TheVariants as target
use Rattle.lua_frames.specs.declared.threads.Frames.{Frames}
use Rattle.lua_frames.specs.Signals.{sign_of, HasFirst}
use Rattle.lua_frames.specs.Items.{resume_item, target_of, assign_values, targets_left, found_at, arm_work}
use Rattle.lua_frames.specs.Frames.{here, slots_of}
use Rattle.lua_frames.specs.Follows.{Enters, Works}
use Rattle.lua_frames.specs.Changes.{Waits, Ends}
use Rattle.lua_frames.proofs.FollowLemmas.{works_as, works_from, work_done, ends_works, step_under}
use Rattle.lua_vm_statements.specs.Assignments.{IsAssigned, Does}
use Rattle.lua_vm_statements.proofs.TargetLemmas.{mapped_on}

-- the statement of a block at an index is run, and then those after it
pub next_runs : {E : Type 0} (S : Setting) (stmts copy : Rc (Vec Stmt Global) Global) (st : Stmt) (next : ℕ) (old mid fs : Frames) (before store : StoreView) (r : Result Flow E)
    → drop next stmts.value.items ≡ st ∷ drop (next + 1) stmts.value.items → copy.value ≡ stmts.value → Waits old (i.Rest copy (next + 1)) mid → Enters S (AStmt st) mid before fs store r
    → Works S (block (drop next stmts.value.items) (here old) (slots_of old)) old before fs store r
next_runs S stmts copy st next old mid fs before store r e same h w =
    works_as S (block (drop next stmts.value.items) (here old) (slots_of old)) (Eval (AStmt st) (here old) (slots_of old) (resume_item S (i.Rest copy (next + 1)) (here old))) old fs before store r
    (step_under S old mid fs (i.Rest copy (next + 1)) (AStmt st) before store r h w)
    (ap (λ (t : List Stmt). block t (here old) (slots_of old)) e
    ∙ ap (λ (t : Vec Stmt Global). Eval (AStmt st) (here old) (slots_of old) (on_values (λ vs s'. block (drop (next + 1) t.items) (here old) s'))) (sym same))

-- a block is at its end
pub block_ends : {E : Type 0} (S : Setting) (stmts : List Stmt) (old new : Frames) (store : StoreView) (r : Result Flow E)
    → stmts ≡ [] → Ends (Values []) old new r → Works S (block stmts (here old) (slots_of old)) old store new store r
block_ends S stmts old new store r e h =
    works_as S (block stmts (here old) (slots_of old)) (End (Values []) (slots_of old)) old new store store r (ends_works S (Values []) old new store r h) (ap (λ (t : List Stmt). block t (here old) (slots_of old)) e)

-- an assignment alone
alone : (S : Setting) (sign : Sign) (s : Slots) (w : State) → IsAssigned sign → do_work (eval S) (on_values (λ us s'. give [] s') sign s) w ≡ Ended sign s w
alone S (Values vs) s w a = ap (λ (us : List Value). Ended (Values us) s w) (sym a)
alone S (Return vs) s w a = absurd a
alone S Break s w a = absurd a
alone S (Failed v) s w a = refl

does_alone : {E : Type 0} (S : Setting) (q : Work) (old new : Frames) (before store : StoreView) (r : Result Flow E) → Does S q old before new store r
    → Works S (and_then q (on_values (λ us s'. give [] s'))) old before new store r
does_alone S q old new before store (Ok flow.Went) d =
    work_done S (and_then q (on_values (λ us s'. give [] s'))) old new before store d.done.keeps.below d.done.keeps.kind d.done.keeps.function d.done.keeps.cells d.done.keeps.extras d.done.keeps.items
    (λ rs. work-then (eval S) q (on_values (λ us s'. give [] s')) (record { store = before; resumes = rs })
    ∙ ap (λ (o : Ending). after o (λ sign s w. do_work (eval S) (on_values (λ us s'. give [] s') sign s) w)) (d.done.comes rs)
    ∙ alone S (sign_of new.given) (slots_of new) (record { store = store; resumes = rs }) d.done.ends)
does_alone S q old new before store (Ok flow.Asked) d = absurd d.done
does_alone S q old new before store (Ok flow.Spent) d = absurd d.done
does_alone S q old new before store (Ok flow.Over) d = absurd d.done
does_alone S q old new before store (Err x) d = record { follows = tt }

-- a slot's value
slot_given : (S : Setting) (line n : ℕ) (sign : Sign) (v : Value) (p : Places) (s : Slots) → HasFirst sign v
    → on_values (λ vs s'. assign_values S (assignment.InSlot line n ∷ []) vs p s') sign s ≡ and_then (write_slot S (callers_at p line) (slice_get s n) n v s (give [])) (on_values (λ us s'. give [] s'))
slot_given S line n (Values vs) v p s h = rw h refl
slot_given S line n (Return vs) v p s h = absurd h
slot_given S line n Break v p s h = absurd h
slot_given S line n (Failed x) v p s h = absurd h

pub slot_assigned : {E : Type 0} (S : Setting) (line n : ℕ) (v : Value) (old mid new : Frames) (before store : StoreView) (r : Result Flow E)
    → HasFirst (sign_of old.given) v → mid.below ≡ old.below → mid.top ≡ old.top
    → Does S (write_slot S (callers_at (here mid) line) (slice_get (slots_of mid) n) n v (slots_of mid) (give [])) mid before new store r
    → Works S (resume_item S (i.AssignSlot line n) (here old) (sign_of old.given) (slots_of old)) old before new store r
slot_assigned S line n v old mid new before store r h b t d =
    works_as S (resume_item S (i.AssignSlot line n) (here old) (sign_of old.given) (slots_of old)) (and_then (write_slot S (callers_at (here mid) line) (slice_get (slots_of mid) n) n v (slots_of mid) (give [])) (on_values (λ us s'. give [] s'))) old new before store r
    (works_from S (and_then (write_slot S (callers_at (here mid) line) (slice_get (slots_of mid) n) n v (slots_of mid) (give [])) (on_values (λ us s'. give [] s'))) old mid new before store r b t
    (does_alone S (write_slot S (callers_at (here mid) line) (slice_get (slots_of mid) n) n v (slots_of mid) (give [])) mid new before store r d))
    (slot_given S line n (sign_of old.given) v (here old) (slots_of old) h ∙ rw (b, t) refl)

-- one more target of an assignment is found, a value at a key
pub target_found : {E : Type 0} (S : Setting) (line : ℕ) (object key : Value) (a : Assignment) (longer : Vec Target Global) (old fs : Frames) (before store : StoreView) (r : Result Flow E)
    → longer.items ≡ a.found.items ++ target.AtKey line object key ∷ []
    → Works S (targets_left S (record { found = longer; targets = a.targets; next = a.next; values = a.values }) (map target_of longer.items) (here old) (slots_of old)) old before fs store r
    → Works S (found_at S line object key a (here old) (slots_of old)) old before fs store r
target_found S line object key a longer old fs before store r e w =
    works_as S (found_at S line object key a (here old) (slots_of old)) (targets_left S (record { found = longer; targets = a.targets; next = a.next; values = a.values }) (map target_of longer.items) (here old) (slots_of old)) old fs before store r w
    (ap (λ (ts : List assignment.Target). targets_left S a ts (here old) (slots_of old)) (sym (ap (λ (ts : List Target). map target_of ts) e ∙ mapped_on a.found.items (target.AtKey line object key))))

-- the arms of `if` from one on, whose test gave a value
pub no_arm : (arms : List Arm) (last : List Stmt) (p : Places) (v : Value) (s : Slots) → arms ≡ [] → arm_work arms last p v s ≡ block last p s
no_arm arms last p v s e = rw e refl

abbrev by_test : Arm → List Arm → List Stmt → Bool → Places → Slots → Work
by_test a arms last holds p s = if holds then block (out-Arm a).body.value.items p s else if_work arms last p s

pub arm_holds : (arms : List Arm) (a : Arm) (rest : List Arm) (last : List Stmt) (p : Places) (v : Value) (s : Slots) → arms ≡ a ∷ rest → is_truthy v ≡ true
    → arm_work arms last p v s ≡ block (out-Arm a).body.value.items p s
arm_holds arms a rest last p v s e h = ap (λ (t : List Arm). arm_work t last p v s) e ∙ ap (λ (b : Bool). by_test a rest last b p s) h

pub arm_fails : (arms : List Arm) (a : Arm) (rest : List Arm) (last : List Stmt) (p : Places) (v : Value) (s : Slots) → arms ≡ a ∷ rest → is_truthy v ≡ false
    → arm_work arms last p v s ≡ if_work rest last p s
arm_fails arms a rest last p v s e h = ap (λ (t : List Arm). arm_work t last p v s) e ∙ ap (λ (b : Bool). by_test a rest last b p s) h
