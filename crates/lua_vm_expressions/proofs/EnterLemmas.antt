-- Nodes that are entered: their step, and the item that waits for the one entered next.
use Rattle.std.specs.Prelude.{◌≡◌, ℕ, ◌+◌, ◌-◌, ◌<◌, List, min, nat_lt, Bool, true, false, Result, Ok, refl}
use Rattle.std.proofs.Common.{sym, ◌∙◌, ap, arith, Vec, Global}
use borrow.Author.Tests.{ltb-true}
use Rattle.lua_values.specs.Heap.{StoreView, step_limit}
use Rattle.lua_meaning.specs.declared.slots.Slot.{Slot}
use Rattle.lua_meaning.specs.Works.{Places, Node, Eval}
use Rattle.lua_meaning.specs.Evaluator.{Resume, Spent}
use Rattle.lua_meaning.specs.Setting.{Setting}
use Rattle.lua_meaning.specs.Nodes.{work_of, eval}
use Rattle.lua_meaning.proofs.EvaluatorLemmas.{eval-law}
use Rattle.lua_frames.specs.declared.flow.Flow.{Flow}
use Rattle.lua_frames.specs.declared.flow.Flow.TheVariants as flow
use Rattle.lua_frames.specs.declared.items.Item.{Item}
use Rattle.lua_frames.specs.declared.threads.Frames.{Frames}
use Rattle.lua_frames.specs.Items.{resume_item}
use Rattle.lua_frames.specs.Frames.{finish_from, here, slots_of, entering, working}
use Rattle.lua_frames.specs.Follows.{Enters, Works}
use Rattle.lua_frames.specs.Changes.{Waits}
use Rattle.lua_frames.proofs.FinishLemmas.{spent_through}
use Rattle.lua_frames.proofs.FollowLemmas.{follows_ok, finish_waits, count_goes, count_spent}

-- a node's step is counted, and its work is left
pub entered : (S : Setting) (n : Node) (fs : Frames) (before store : StoreView) (below : Bool)
    → store ≡ record { heap = before.heap; steps = min step_limit (before.steps + 1) } → below ≡ nat_lt (before.steps + 1) step_limit → below ≡ true → (rs : List Resume)
    → entering S n fs before rs ≡ working S (work_of S n (here fs) (slots_of fs)) fs store rs
entered S n fs before store below is e holds rs =
    ap (finish_from S fs) (eval-law (work_of S) n (here fs) (slots_of fs) (record { store = before; resumes = rs }) ∙ count_goes S 1 (work_of S n (here fs) (slots_of fs)) before store below is e holds rs)

-- no step is left for it
pub entered_spent : (S : Setting) (n : Node) (fs : Frames) (before : StoreView) (below : Bool)
    → below ≡ nat_lt (before.steps + 1) step_limit → below ≡ false → (rs : List Resume) → entering S n fs before rs ≡ Spent
entered_spent S n fs before below e fails rs =
    ap (finish_from S fs) (eval-law (work_of S) n (here fs) (slots_of fs) (record { store = before; resumes = rs }) ∙ count_spent S 1 (work_of S n (here fs) (slots_of fs)) before below e fails rs) ∙ spent_through S fs

placed : (old new : Frames) (item : Item) → Waits old item new → here new ≡ here old
placed old new item h = rw (h.below, h.kind, h.function, h.cells, h.extras) refl

-- a node is entered with an item under it
pub entered_under : (S : Setting) (old new : Frames) (item : Item) (n : Node) (store : StoreView) → Waits old item new → (rs : List Resume)
    → working S (Eval n (here old) (slots_of old) (resume_item S item (here old))) old store rs ≡ entering S n new store rs
entered_under S old new item n store h rs =
    sym (finish_waits S old new item h (eval S n (here old) (slots_of old) (record { store = store; resumes = rs })))
    ∙ ap (λ (t : Places). finish_from S new (eval S n t (slots_of old) (record { store = store; resumes = rs }))) (sym (placed old new item h))
    ∙ ap (λ (t : Vec Slot Global). finish_from S new (eval S n (here new) t.items (record { store = store; resumes = rs }))) (sym h.slots)

-- a node that comes to another one, whose work is done
pub enters_done : {E : Type 0} (S : Setting) (n m : Node) (old fs new : Frames) (before between counted store : StoreView) (below : Bool) (r : Result Flow E)
    → ((rs : List Resume) → entering S n old before rs ≡ entering S m fs between rs)
    → counted ≡ record { heap = between.heap; steps = min step_limit (between.steps + 1) } → below ≡ nat_lt (between.steps + 1) step_limit → below ≡ true
    → Works S (work_of S m (here fs) (slots_of fs)) fs counted new store r → Enters S n old before new store r
enters_done S n m old fs new before between counted store below r comes is e holds w =
    record { follows = follows_ok S (entering S n old before) (working S (work_of S m (here fs) (slots_of fs)) fs counted) store new r (λ rs. comes rs ∙ entered S m fs between counted below is e holds rs) w.follows }

-- and one for which no step is left
pub enters_no_step : {E : Type 0} (S : Setting) (n m : Node) (old fs new : Frames) (before between store : StoreView) (below : Bool)
    → ((rs : List Resume) → entering S n old before rs ≡ entering S m fs between rs) → below ≡ nat_lt (between.steps + 1) step_limit → below ≡ false
    → Enters {E = E} S n old before new store (Ok flow.Spent)
enters_no_step S n m old fs new before between store below comes e fails =
    record { follows = λ rs. comes rs ∙ entered_spent S m fs between below e fails rs }

-- a step fewer is left
pub fewer_left : (before store : StoreView) (below : Bool) → store ≡ record { heap = before.heap; steps = min step_limit (before.steps + 1) } → below ≡ nat_lt (before.steps + 1) step_limit → below ≡ true
    → step_limit - store.steps < step_limit - before.steps
fewer_left before store below is e holds =
    let few : before.steps + 1 < step_limit = ltb-true _ _ (sym e ∙ holds) in
    let now : store.steps ≡ before.steps + 1 = ap (λ (st : StoreView). st.steps) is ∙ least (before.steps + 1) few in omega (arith, few, now)
  where
    least : (k : ℕ) → k < step_limit → min step_limit k ≡ k
    least k h = omega (arith, h)
