-- Runs of the bodies of loops.
use Rattle.std.specs.Prelude.{◌≡◌, ℕ, ◌+◌, List, [], drop, min, nat_lt, Bool, true, false, if◌then◌else◌, Result, Ok, Err, refl}
use Rattle.std.proofs.Common.{sym, ◌∙◌, ap, subst, Vec, Global}
use Rattle.std.specs.declared.rc.Rc.{Rc}
use Rattle.lua_ast.specs.declared.expressions.Expr.{Expr}
use Rattle.lua_ast.specs.declared.statements.Stmt.{Stmt}
use Rattle.lua_values.specs.Heap.{StoreView, step_limit}
use Rattle.lua_meaning.specs.Works.{Places, Slots, Node, AValue, Sign, Values, Return, Break, Failed, Work, Eval, and_then}
use Rattle.lua_meaning.specs.Evaluator.{Resume, Ended, do_work}
use Rattle.lua_meaning.specs.Setting.{Setting}
use Rattle.lua_meaning.specs.Blocks.{block}
use Rattle.lua_meaning.specs.Loops.{after_body}
use Rattle.lua_meaning.specs.Nodes.{work_of, eval}
use Rattle.lua_frames.specs.declared.flow.Flow.{Flow}
use Rattle.lua_frames.specs.declared.items.Item.{Item}
use Rattle.lua_frames.specs.declared.items.Item.TheVariants as i
use Rattle.lua_frames.specs.declared.threads.Frames.{Frames}
use Rattle.lua_frames.specs.Signals.{sign_of}
use Rattle.lua_frames.specs.Items.{resume_item}
use Rattle.lua_frames.specs.Frames.{finish_from, here, slots_of, working}
use Rattle.lua_frames.specs.Follows.{Follows, Works, Enters}
use Rattle.lua_frames.specs.Changes.{Waits, Ends, KeepsAllButSlots}
use Rattle.lua_frames.proofs.FollowLemmas.{works_as, work_under, enters_by, finish_waits, ends_finish}
use Rattle.lua_frames.proofs.MovedLemmas.{stays_here, works_moved}
use Rattle.lua_vm_loops.specs.declared.runs.RunEnd.TheVariants as run
use Rattle.lua_vm_loops.specs.Runs.{ends_run}

-- a run begins with its step and the loop's variables, and then its block goes on under an item
pub run_enters : {E : Type 0} (S : Setting) (n : Node) (item : Item) (body copy : Rc (Vec Stmt Global) Global) (old changed mid fs : Frames) (before counted store : StoreView) (below : Bool) (r : Result Flow E)
    → counted ≡ record { heap = before.heap; steps = min step_limit (before.steps + 1) } → below ≡ nat_lt (before.steps + 1) step_limit → below ≡ true
    → KeepsAllButSlots old changed → copy.value ≡ body.value → Waits changed item mid
    → work_of S n (here old) (slots_of old) ≡ and_then (block body.value.items (here old) (slots_of changed)) (resume_item S item (here old))
    → Works S (block copy.value.items (here mid) (slots_of mid)) mid counted fs store r
    → Enters S n old before fs store r
run_enters S n item body copy old changed mid fs before counted store below r is e holds keeps same h form w =
    enters_by S n old fs before counted store below r is e holds
    (works_moved S (work_of S n (here old) (slots_of old)) (and_then (block body.value.items (here changed) (slots_of changed)) (resume_item S item (here changed))) old changed fs counted counted store r keeps
    (λ rs. ap (λ (q : Work). do_work (eval S) q (record { store = counted; resumes = rs }))
    (form ∙ ap (λ (p : Places). and_then (block body.value.items p (slots_of changed)) (resume_item S item p)) (sym (stays_here old changed keeps))))
    (work_under S changed mid fs item (λ p s. block body.value.items p s) counted store r h
    (works_as S (block body.value.items (here mid) (slots_of mid)) (block copy.value.items (here mid) (slots_of mid)) mid fs counted store r w
    (ap (λ (b : Vec Stmt Global). block b.items (here mid) (slots_of mid)) (sym same)))))

-- nothing has changed
pub keeps_all : (old : Frames) → KeepsAllButSlots old old
keeps_all old = record { below = refl; kind = refl; function = refl; cells = refl; extras = refl; items = refl }

-- an expression that is evaluated under an item, by another pointer
pub value_by : {E : Type 0} (S : Setting) (x y : Expr) (item : Item) (q : Work) (old fs : Frames) (before store : StoreView) (r : Result Flow E)
    → x ≡ y → q ≡ Eval (AValue y) (here old) (slots_of old) (resume_item S item (here old))
    → Works S (Eval (AValue x) (here old) (slots_of old) (resume_item S item (here old))) old before fs store r → Works S q old before fs store r
value_by S x y item q old fs before store r same is w =
    works_as S q (Eval (AValue x) (here old) (slots_of old) (resume_item S item (here old))) old fs before store r w
    (is ∙ ap (λ (e : Expr). Eval (AValue e) (here old) (slots_of old) (resume_item S item (here old))) (sym same))

-- the second of two works, by a truth
pub by_untruth : {E : Type 0} (S : Setting) (t : Bool) (q q' : Work) (old fs : Frames) (before store : StoreView) (r : Result Flow E)
    → t ≡ false → Works S q' old before fs store r → Works S (if t then q else q') old before fs store r
by_untruth S t q q' old fs before store r h w = works_as S (if t then q else q') q' old fs before store r w (ap (λ (b : Bool). if b then q else q') h)

-- the first of two works, by a truth
pub by_truth : {E : Type 0} (S : Setting) (t : Bool) (q q' : Work) (old fs : Frames) (before store : StoreView) (r : Result Flow E)
    → t ≡ true → Works S q old before fs store r → Works S (if t then q else q') old before fs store r
by_truth S t q q' old fs before store r h w = works_as S (if t then q else q') q old fs before store r w (ap (λ (b : Bool). if b then q else q') h)

-- the statements of a block from an index on wait, and nothing is given
pub rest_works : {E : Type 0} (S : Setting) (stmts : Rc (Vec Stmt Global) Global) (next : ℕ) (old mid new : Frames) (store : StoreView) (r : Result Flow E)
    → Waits old (i.Rest stmts next) mid → Ends (Values []) mid new r → Works S (block (drop next stmts.value.items) (here old) (slots_of old)) old store new store r
rest_works S stmts next old mid new store (Ok f) h e =
    record { follows = subst (λ (t : Flow). Follows S (working S (block (drop next stmts.value.items) (here old) (slots_of old)) old store) store new t) (sym e.went) (λ rs. sym (ends_finish S (Values []) mid new store (Ok f) e rs ∙ finish_waits S old mid (i.Rest stmts next) h (Ended (Values []) (slots_of mid) (record { store = store; resumes = rs })) ∙ goes rs)) }
  where
    goes : (rs : List Resume) → finish_from S old (do_work (eval S) (block (drop next stmts.value.items) (here old) (slots_of mid)) (record { store = store; resumes = rs })) ≡ working S (block (drop next stmts.value.items) (here old) (slots_of old)) old store rs
    goes rs = rw h.slots refl
rest_works S stmts next old mid new store (Err x) h e = record { follows = tt }

-- after a run of the body the loop goes on
ran : (go : Slots → Work) (sign : Sign) (s : Slots) → ends_run sign ≡ run.Ran → after_body go sign s ≡ go s
ran go (Values vs) s e = refl
ran go (Return vs) s e = absurd (cc)
ran go Break s e = absurd (cc)
ran go (Failed v) s e = absurd (cc)

pub body_ran : {E : Type 0} (S : Setting) (go : Places → Slots → Work) (old fs : Frames) (before store : StoreView) (r : Result Flow E)
    → ends_run (sign_of old.given) ≡ run.Ran → Works S (go (here old) (slots_of old)) old before fs store r → Works S (after_body (go (here old)) (sign_of old.given) (slots_of old)) old before fs store r
body_ran S go old fs before store r e w =
    works_as S (after_body (go (here old)) (sign_of old.given) (slots_of old)) (go (here old) (slots_of old)) old fs before store r w (ran (go (here old)) (sign_of old.given) (slots_of old) e)
