-- How a machine's parts follow what is to be done.
use Rattle.std.specs.Prelude.{◌≡◌, ℕ, ◌+◌, ◌<◌, List, [], nat_lt, min, if◌then◌else◌, Bool, true, false, Result, Ok, Err, IfOk, Option, Some, None, refl}
use Rattle.std.proofs.Common.{sym, ◌∙◌, ap, subst, arith, Vec, Global}
use borrow.Author.Tests.{ltb-true}
use Rattle.lua_values.specs.Heap.{StoreView, step_limit}
use Rattle.lua_meaning.specs.declared.slots.Slot.{Slot}
use Rattle.lua_meaning.specs.Works.{Places, Node, Sign, Slots, Work, End, Eval, Count, and_then}
use Rattle.lua_meaning.specs.Evaluator.{Resume, State, Ending, Ended, Spent, after, do_work}
use Rattle.lua_meaning.specs.Setting.{Setting}
use Rattle.lua_meaning.specs.Nodes.{work_of, eval}
use Rattle.lua_meaning.proofs.EvaluatorLemmas.{eval-law, work-then}
use Rattle.lua_meaning.specs.EndingLaws.{after_same as after_ended}
use Rattle.lua_frames.specs.declared.flow.Flow.{Flow}
use Rattle.lua_frames.specs.declared.flow.Flow.TheVariants as flow
use Rattle.lua_frames.specs.declared.flow.Op.{Op}
use Rattle.lua_frames.specs.declared.items.Item.{Item}
use Rattle.lua_frames.specs.declared.threads.Frames.{Frames}
use Rattle.lua_frames.specs.Signals.{sign_of}
use Rattle.lua_frames.specs.Items.{resume_item}
use Rattle.lua_frames.specs.Frames.{closed, finish_calls, finish_from, finish, around, here, slots_of, entering, working}
use Rattle.lua_frames.specs.Follows.{Follows, Asks, Enters, Works}
use Rattle.lua_frames.specs.Changes.{Waits, Ends}
use Rattle.lua_frames.proofs.FinishLemmas.{finish_push, spent_through}

state : StoreView → List Resume → State
state store resumes = record { store = store; resumes = resumes }

asks_along : (S : Setting) (o o' : List Resume → Ending) (store : StoreView) (fs : Frames) (op : Option Op) → ((rs : List Resume) → o rs ≡ o' rs) → Asks S o' store fs op → Asks S o store fs op
asks_along S o o' store fs None e h = h
asks_along S o o' store fs (Some op) e h = λ rs. e rs ∙ h rs

-- what follows one thing follows what is equal to it
pub follows_along : (S : Setting) (o o' : List Resume → Ending) (store : StoreView) (fs : Frames) (f : Flow) → ((rs : List Resume) → o rs ≡ o' rs) → Follows S o' store fs f → Follows S o store fs f
follows_along S o o' store fs flow.Went e h = λ rs. e rs ∙ h rs
follows_along S o o' store fs flow.Asked e h = asks_along S o o' store fs fs.asked e h
follows_along S o o' store fs flow.Spent e h = λ rs. e rs ∙ h rs
follows_along S o o' store fs flow.Over e h = λ rs. e rs ∙ h rs

pub follows_ok : {E : Type 0} (S : Setting) (o o' : List Resume → Ending) (store : StoreView) (fs : Frames) (r : Result Flow E) → ((rs : List Resume) → o rs ≡ o' rs) → IfOk r (λ f. Follows S o' store fs f) → IfOk r (λ f. Follows S o store fs f)
follows_ok S o o' store fs (Ok f) e h = follows_along S o o' store fs f e h
follows_ok S o o' store fs (Err x) e h = h

-- the same work in another form
pub works_as : {E : Type 0} (S : Setting) (q q' : Work) (old fs : Frames) (before store : StoreView) (r : Result Flow E) → Works S q' old before fs store r → q ≡ q' → Works S q old before fs store r
works_as S q q' old fs before store r w e =
    record { follows = follows_ok S (working S q old before) (working S q' old before) store fs r (λ rs. ap (λ (t : Work). working S t old before rs) e) w.follows }

-- work that comes to other work, perhaps in another store
pub works_by : {E : Type 0} (S : Setting) (q q' : Work) (old fs : Frames) (before mid store : StoreView) (r : Result Flow E)
    → ((rs : List Resume) → do_work (eval S) q (record { store = before; resumes = rs }) ≡ do_work (eval S) q' (record { store = mid; resumes = rs }))
    → Works S q' old mid fs store r → Works S q old before fs store r
works_by S q q' old fs before mid store r e w =
    record { follows = follows_ok S (working S q old before) (working S q' old mid) store fs r (λ rs. ap (finish_from S old) (e rs)) w.follows }

-- frames that differ in what is given alone
pub works_from : {E : Type 0} (S : Setting) (q : Work) (old old' fs : Frames) (before store : StoreView) (r : Result Flow E) → old'.below ≡ old.below → old'.top ≡ old.top → Works S q old' before fs store r → Works S q old before fs store r
works_from S q old old' fs before store r b t w =
    record { follows = follows_ok S (working S q old before) (working S q old' before) store fs r (λ rs. rw (b, t) refl) w.follows }

-- work that ends at once
pub ends_works : {E : Type 0} (S : Setting) (sign : Sign) (old new : Frames) (store : StoreView) (r : Result Flow E) → Ends sign old new r → Works S (End sign (slots_of old)) old store new store r
ends_works S sign old new store (Ok f) h =
    record { follows = subst (λ (t : Flow). Follows S (working S (End sign (slots_of old)) old store) store new t) (sym h.went) (λ rs. rw (h.below, h.top, h.given) refl) }
ends_works S sign old new store (Err x) h = record { follows = tt }

-- work that was done, in frames that have other slots now
pub work_done : {E : Type 0} (S : Setting) (q : Work) (old new : Frames) (before store : StoreView) → new.below ≡ old.below → new.top.kind ≡ old.top.kind → new.top.function ≡ old.top.function → new.top.cells ≡ old.top.cells → new.top.extras ≡ old.top.extras → new.top.items ≡ old.top.items
    → ((rs : List Resume) → do_work (eval S) q (record { store = before; resumes = rs }) ≡ Ended (sign_of new.given) (slots_of new) (record { store = store; resumes = rs })) → Works {E = E} S q old before new store (Ok flow.Went)
work_done S q old new before store b k f c e i done =
    record { follows = λ rs. ap (finish_from S old) (done rs) ∙ sym (rw (b, k, f, c, e, i) refl) }

-- no step is left for it
pub spends : {E : Type 0} (S : Setting) (q : Work) (old new : Frames) (before store : StoreView) → ((rs : List Resume) → do_work (eval S) q (record { store = before; resumes = rs }) ≡ Spent) → Works {E = E} S q old before new store (Ok flow.Spent)
spends S q old new before store h = record { follows = λ rs. ap (finish_from S old) (h rs) ∙ spent_through S old }

-- steps are counted, and the work goes on
pub count_goes : (S : Setting) (n : ℕ) (q : Work) (before store : StoreView) (below : Bool) → store ≡ record { heap = before.heap; steps = min step_limit (before.steps + n) } → below ≡ nat_lt (before.steps + n) step_limit → below ≡ true
    → (rs : List Resume) → do_work (eval S) (Count n q) (record { store = before; resumes = rs }) ≡ do_work (eval S) q (record { store = store; resumes = rs })
count_goes S n q before store below is e holds rs = by_test (nat_lt (before.steps + n) step_limit) (sym e ∙ holds) ∙ ap (λ (st : StoreView). do_work (eval S) q (record { store = st; resumes = rs })) (sym is)
  where
    few : before.steps + n < step_limit
    few = ltb-true _ _ (sym e ∙ holds)

    by_test : (t : Bool) → t ≡ true → (if t then do_work (eval S) q (record { store = record { heap = before.heap; steps = before.steps + n }; resumes = rs }) else Spent) ≡ do_work (eval S) q (record { store = record { heap = before.heap; steps = min step_limit (before.steps + n) }; resumes = rs })
    by_test true h = let d : before.steps + n ≡ min step_limit (before.steps + n) = omega (arith, few) in ap (λ (k : ℕ). do_work (eval S) q (record { store = record { heap = before.heap; steps = k }; resumes = rs })) d
    by_test false h = absurd (cc)

pub count_spent : (S : Setting) (n : ℕ) (q : Work) (before : StoreView) (below : Bool) → below ≡ nat_lt (before.steps + n) step_limit → below ≡ false
    → (rs : List Resume) → do_work (eval S) (Count n q) (record { store = before; resumes = rs }) ≡ Spent
count_spent S n q before below e fails rs = by_test (nat_lt (before.steps + n) step_limit) (sym e ∙ fails)
  where
    by_test : (t : Bool) → t ≡ false → (if t then do_work (eval S) q (record { store = record { heap = before.heap; steps = before.steps + n }; resumes = rs }) else Spent) ≡ Spent
    by_test true h = absurd (cc)
    by_test false h = refl

-- a node's step is counted, and its work begins
pub enters_by : {E : Type 0} (S : Setting) (n : Node) (old fs : Frames) (before mid store : StoreView) (below : Bool) (r : Result Flow E) → mid ≡ record { heap = before.heap; steps = min step_limit (before.steps + 1) } → below ≡ nat_lt (before.steps + 1) step_limit → below ≡ true
    → Works S (work_of S n (here old) (slots_of old)) old mid fs store r → Enters S n old before fs store r
enters_by S n old fs before mid store below r is e holds w =
    record {
      follows = follows_ok S (entering S n old before) (working S (work_of S n (here old) (slots_of old)) old mid) store fs r
          (λ rs. ap (finish_from S old) (eval-law (work_of S) n (here old) (slots_of old) (record { store = before; resumes = rs }) ∙ count_goes S 1 (work_of S n (here old) (slots_of old)) before mid below is e holds rs)) w.follows;
    }

pub enters_spent : {E : Type 0} (S : Setting) (n : Node) (old new : Frames) (before store : StoreView) (below : Bool) → below ≡ nat_lt (before.steps + 1) step_limit → below ≡ false → Enters {E = E} S n old before new store (Ok flow.Spent)
enters_spent S n old new before store below e fails =
    record { follows = λ rs. ap (finish_from S old) (eval-law (work_of S) n (here old) (slots_of old) (record { store = before; resumes = rs }) ∙ count_spent S 1 (work_of S n (here old) (slots_of old)) before below e fails rs) ∙ spent_through S old }

-- a node that is evaluated as work
pub enters_works : {E : Type 0} (S : Setting) (n : Node) (old fs : Frames) (before store : StoreView) (r : Result Flow E) → Enters S n old before fs store r → Works S (Eval n (here old) (slots_of old) (λ sign s. End sign s)) old before fs store r
enters_works S n old fs before store r h =
    record {
      follows = follows_ok S (working S (Eval n (here old) (slots_of old) (λ sign s. End sign s)) old before) (entering S n old before) store fs r
          (λ rs. ap (finish_from S old) (after_ended (eval S n (here old) (slots_of old) (record { store = before; resumes = rs })))) h.follows;
    }

waits_here : (old new : Frames) (item : Item) → Waits old item new → here new ≡ here old
waits_here old new item h = rw (h.below, h.kind, h.function, h.cells, h.extras) refl

-- frames with an item more go on with what the item does
pub finish_waits : (S : Setting) (old new : Frames) (item : Item) → Waits old item new → (o : Ending) → finish_from S new o ≡ finish_from S old (after o (λ sign s w. do_work (eval S) (resume_item S item (here old) sign s) w))
finish_waits S old new item h o =
    rw (h.below, h.kind, h.function, h.cells, h.extras, h.items) (ap (λ (t : Ending). finish_calls S [] old.below.frames.items (closed S old.top.kind (around old) t)) (finish_push S (here old) old.top.items.items item o))

-- a node is entered with an item under it
pub waits_entering : (S : Setting) (old new : Frames) (item : Item) (n : Node) (store : StoreView) → Waits old item new → (rs : List Resume) → working S (Eval n (here old) (slots_of old) (resume_item S item (here old))) old store rs ≡ entering S n new store rs
waits_entering S old new item n store h rs =
    sym (finish_waits S old new item h (eval S n (here old) (slots_of old) (record { store = store; resumes = rs })))
    ∙ ap (λ (t : Places). finish_from S new (eval S n t (slots_of old) (record { store = store; resumes = rs }))) (sym (waits_here old new item h))
    ∙ ap (λ (t : Vec Slot Global). finish_from S new (eval S n (here new) t.items (record { store = store; resumes = rs }))) (sym h.slots)

pub step_under : {E : Type 0} (S : Setting) (old new fs : Frames) (item : Item) (n : Node) (before store : StoreView) (r : Result Flow E) → Waits old item new → Enters S n new before fs store r → Works S (Eval n (here old) (slots_of old) (resume_item S item (here old))) old before fs store r
step_under S old new fs item n before store r h w =
    record { follows = follows_ok S (working S (Eval n (here old) (slots_of old) (resume_item S item (here old))) old before) (entering S n new before) store fs r (waits_entering S old new item n before h) w.follows }

-- work goes on with an item under it
pub work_under : {E : Type 0} (S : Setting) (old new fs : Frames) (item : Item) (q : Places → Slots → Work) (before store : StoreView) (r : Result Flow E) → Waits old item new → Works S (q (here new) (slots_of new)) new before fs store r → Works S (and_then (q (here old) (slots_of old)) (resume_item S item (here old))) old before fs store r
work_under S old new fs item q before store r h w =
    record { follows = follows_ok S (working S (and_then (q (here old) (slots_of old)) (resume_item S item (here old))) old before) (working S (q (here new) (slots_of new)) new before) store fs r same w.follows }
  where
    same : (rs : List Resume) → working S (and_then (q (here old) (slots_of old)) (resume_item S item (here old))) old before rs ≡ working S (q (here new) (slots_of new)) new before rs
    same rs =
        ap (finish_from S old) (work-then (eval S) (q (here old) (slots_of old)) (resume_item S item (here old)) (record { store = before; resumes = rs }))
        ∙ sym (finish_waits S old new item h (do_work (eval S) (q (here old) (slots_of old)) (record { store = before; resumes = rs })))
        ∙ ap (λ (t : Places). finish_from S new (do_work (eval S) (q t (slots_of old)) (record { store = before; resumes = rs }))) (sym (waits_here old new item h))
        ∙ ap (λ (t : Vec Slot Global). finish_from S new (do_work (eval S) (q (here new) t.items) (record { store = before; resumes = rs }))) (sym h.slots)

-- frames in which something was given
pub ends_finish : {E : Type 0} (S : Setting) (sign : Sign) (old new : Frames) (store : StoreView) (r : Result Flow E) → Ends sign old new r → (rs : List Resume)
    → finish S new (record { store = store; resumes = rs }) ≡ finish_from S old (Ended sign (slots_of old) (record { store = store; resumes = rs }))
ends_finish S sign old new store r h rs = rw (h.below, h.top, h.given) refl
