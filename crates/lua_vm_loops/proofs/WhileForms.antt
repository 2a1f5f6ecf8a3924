-- `while`: its turns, those that are run at once, and what is left of it.
use Rattle.std.specs.Prelude.{◌≡◌, ℕ, ◌+◌, List, [], drop, min, nat_lt, Bool, true, Result}
use Rattle.std.proofs.Common.{sym, ◌∙◌, ap, Vec, Global}
use Rattle.std.specs.declared.rc.Rc.{Rc}
use Rattle.lua_ast.specs.declared.expressions.Expr.{Expr}
use Rattle.lua_ast.specs.declared.statements.Stmt.{Stmt}
use Rattle.lua_values.specs.Heap.{StoreView, step_limit}
use Rattle.lua_meaning.specs.Works.{Places, AValue, ATurn, Values, Eval}
use Rattle.lua_meaning.specs.Evaluator.{do_work}
use Rattle.lua_meaning.specs.Setting.{Setting}
use Rattle.lua_meaning.specs.Blocks.{block}
use Rattle.lua_meaning.specs.Loops.{after_body, while_work}
use Rattle.lua_meaning.specs.Nodes.{eval}
use Rattle.lua_vm_fast.specs.declared.loops.LoopEnd.{LoopEnd}
use Rattle.lua_vm_fast.specs.declared.loops.LoopEnd.TheVariants as loop_end
use Rattle.lua_vm_fast.specs.Runs.{Becomes, left_of}
use Rattle.lua_frames.specs.declared.flow.Flow.{Flow}
use Rattle.lua_frames.specs.declared.items.Item.TheVariants as i
use Rattle.lua_frames.specs.declared.threads.Frames.{Frames}
use Rattle.lua_frames.specs.Signals.{sign_of}
use Rattle.lua_frames.specs.Items.{resume_item}
use Rattle.lua_frames.specs.Frames.{here, slots_of}
use Rattle.lua_frames.specs.Follows.{Works, Enters}
use Rattle.lua_frames.specs.Changes.{Waits, Ends, KeepsAllButSlots}
use Rattle.lua_frames.proofs.FollowLemmas.{works_as, ends_works, work_under, enters_by}
use Rattle.lua_vm_loops.specs.declared.runs.RunEnd.TheVariants as run
use Rattle.lua_vm_loops.specs.Runs.{ends_run}
use Rattle.lua_vm_loops.proofs.RunForms.{body_ran}
use Rattle.lua_frames.proofs.MovedLemmas.{stays_here, works_moved}

-- a loop that was run as far as it goes at once, and then went on
pub loop_goes : {E : Type 0} (S : Setting) (test : Rc Expr Global) (body : Rc (Vec Stmt Global) Global) (end was : LoopEnd) (old mid fs : Frames) (before between store : StoreView) (r : Result Flow E)
    → KeepsAllButSlots old mid → was ≡ end
    → Becomes S (while_work test.value body.value.items (here old) (slots_of old)) before (left_of was test.value body.value.items (here old) (slots_of mid)) between
    → Works S (left_of end test.value body.value.items (here mid) (slots_of mid)) mid between fs store r
    → Works S (while_work test.value body.value.items (here old) (slots_of old)) old before fs store r
loop_goes S test body end was old mid fs before between store r keeps is comes w =
    works_moved S (while_work test.value body.value.items (here old) (slots_of old)) (left_of end test.value body.value.items (here mid) (slots_of mid)) old mid fs before between store r keeps
    (λ rs. comes rs ∙ ap (λ (e : LoopEnd). do_work (eval S) (left_of e test.value body.value.items (here old) (slots_of mid)) (record { store = between; resumes = rs })) is
    ∙ ap (λ (p : Places). do_work (eval S) (left_of end test.value body.value.items p (slots_of mid)) (record { store = between; resumes = rs })) (sym (stays_here old mid keeps))) w

-- it is over
pub loop_over : {E : Type 0} (S : Setting) (test : Expr) (body : List Stmt) (old new : Frames) (store : StoreView) (r : Result Flow E)
    → Ends (Values []) old new r → Works S (left_of loop_end.Over test body (here old) (slots_of old)) old store new store r
loop_over S test body old new store r e = ends_works S (Values []) old new store r e

-- its test is evaluated
pub loop_tests : {E : Type 0} (S : Setting) (test again : Rc Expr Global) (x : Expr) (body : Rc (Vec Stmt Global) Global) (old fs : Frames) (before store : StoreView) (r : Result Flow E)
    → again.value ≡ test.value → x ≡ again.value
    → Works S (Eval (AValue x) (here old) (slots_of old) (resume_item S (i.While test body) (here old))) old before fs store r
    → Works S (left_of loop_end.Test test.value body.value.items (here old) (slots_of old)) old before fs store r
loop_tests S test again x body old fs before store r same is w =
    works_as S (while_work test.value body.value.items (here old) (slots_of old)) (Eval (AValue x) (here old) (slots_of old) (resume_item S (i.While test body) (here old))) old fs before store r w
    (ap (λ (y : Expr). Eval (AValue y) (here old) (slots_of old) (resume_item S (i.While test body) (here old))) (sym (is ∙ same)))

-- a turn has begun, whose block goes on
pub loop_turns : {E : Type 0} (S : Setting) (test : Rc Expr Global) (body copy : Rc (Vec Stmt Global) Global) (next : ℕ) (old mid fs : Frames) (before store : StoreView) (r : Result Flow E)
    → copy.value ≡ body.value → Waits old (i.Turned test body) mid → Works S (block (drop next copy.value.items) (here mid) (slots_of mid)) mid before fs store r
    → Works S (left_of (loop_end.Body next) test.value body.value.items (here old) (slots_of old)) old before fs store r
loop_turns S test body copy next old mid fs before store r same h w =
    work_under S old mid fs (i.Turned test body) (λ p s. block (drop next body.value.items) p s) before store r h
    (works_as S (block (drop next body.value.items) (here mid) (slots_of mid)) (block (drop next copy.value.items) (here mid) (slots_of mid)) mid fs before store r w
    (ap (λ (b : Vec Stmt Global). block (drop next b.items) (here mid) (slots_of mid)) (sym same)))

-- after a run of the body the loop goes on
pub loop_again : {E : Type 0} (S : Setting) (test : Rc Expr Global) (body : Rc (Vec Stmt Global) Global) (old fs : Frames) (before store : StoreView) (r : Result Flow E)
    → ends_run (sign_of old.given) ≡ run.Ran → Works S (while_work test.value body.value.items (here old) (slots_of old)) old before fs store r
    → Works S (after_body (while_work test.value body.value.items (here old)) (sign_of old.given) (slots_of old)) old before fs store r
loop_again S test body old fs before store r e w = body_ran S (while_work test.value body.value.items) old fs before store r e w

-- a run of the body of `while`: its block, and then the test
pub turn_enters : {E : Type 0} (S : Setting) (test : Rc Expr Global) (body copy : Rc (Vec Stmt Global) Global) (old mid fs : Frames) (before counted store : StoreView) (below : Bool) (r : Result Flow E)
    → counted ≡ record { heap = before.heap; steps = min step_limit (before.steps + 1) } → below ≡ nat_lt (before.steps + 1) step_limit → below ≡ true
    → copy.value ≡ body.value → Waits old (i.Turned test body) mid → Works S (block copy.value.items (here mid) (slots_of mid)) mid counted fs store r
    → Enters S (ATurn test.value body.value.items) old before fs store r
turn_enters S test body copy old mid fs before counted store below r is e holds same h w =
    enters_by S (ATurn test.value body.value.items) old fs before counted store below r is e holds
    (work_under S old mid fs (i.Turned test body) (λ p s. block body.value.items p s) counted store r h
    (works_as S (block body.value.items (here mid) (slots_of mid)) (block copy.value.items (here mid) (slots_of mid)) mid fs counted store r w
    (ap (λ (b : Vec Stmt Global). block b.items (here mid) (slots_of mid)) (sym same))))
