-- The steps of a thread that runs.
use Rattle.std.specs.Prelude.{◌≡◌, ◌<◌, ℕ, List, [], ◌∷◌, Option, Some, None, refl}
use Rattle.std.proofs.Common.{subst, arith}
use Rattle.lua_values.specs.Heap.{StoreView}
use Rattle.lua_meaning.specs.Works.{Caller, Places, Sign}
use Rattle.lua_meaning.specs.Evaluator.{Resume, State, Ending, Ended, do_work}
use Rattle.lua_meaning.specs.Setting.{Setting}
use Rattle.lua_meaning.specs.Nodes.{work_of, eval}
use Rattle.lua_frames.specs.declared.frames.Frame.{Frame}
use Rattle.lua_frames.specs.declared.frames.Kind.{Kind}
use Rattle.lua_frames.specs.declared.items.Item.{Item}
use Rattle.lua_frames.specs.declared.threads.Frames.{Frames}
use Rattle.lua_frames.specs.Around.{deeper, places_of}
use Rattle.lua_frames.specs.Items.{resume_item}
use Rattle.lua_frames.specs.Signals.{sign_of}
use Rattle.lua_frames.specs.Frames.{closing, finish_items, closed, back, finish_calls, finish_from, around, here, slots_of, finish}
use Rattle.lua_frames.specs.declared.flow.Op.{Op}
use Rattle.lua_frames.specs.declared.flow.Flow.{Flow}
use Rattle.lua_frames.specs.declared.flow.Flow.TheVariants as flow
use Rattle.lua_frames.specs.Follows.{Asks, Follows}
use Rattle.lua_threads.specs.Steps.{RaisesSteps}
use Rattle.lua_threads.proofs.StepsRise.{Starts, Rises, eval-raises, after-rises, quiet-rises}
use Rattle.lua_threads.proofs.QuietItems.{item-quiet, closing-quiet}

items-rise : (S : Setting) (p : Places) (items : List Item) (n : ℕ) (o : Ending) → Rises n o → Rises n (finish_items S p items o)
items-rise S p [] n o h = h
items-rise S p (item ∷ items) n o h =
    after-rises n (finish_items S p items o) (λ sign s w. do_work (eval S) (resume_item S item p sign s) w) (items-rise S p items n o h)
    (λ sign s w h'. quiet-rises (eval S) (eval-raises (work_of S)) n (resume_item S item p sign s) w (item-quiet S item p sign s) h')

closed-rises : (S : Setting) (kind : Kind) (callers : List Caller) (n : ℕ) (o : Ending) → Rises n o → Rises n (closed S kind callers o)
closed-rises S kind callers n o h =
    after-rises n o (λ sign s w. do_work (eval S) (closing S kind callers sign) w) h
    (λ sign s w h'. quiet-rises (eval S) (eval-raises (work_of S)) n (closing S kind callers sign) w (closing-quiet S kind callers sign) h')

calls-rise : (S : Setting) (callers : List Caller) (fs : List Frame) (n : ℕ) (o : Ending) → Rises n o → Rises n (finish_calls S callers fs o)
calls-rise S callers [] n o h = h
calls-rise S callers (f ∷ fs) n o h =
    closed-rises S f.kind callers n (finish_items S (places_of callers f) f.items.items (back f.slots.items (finish_calls S (deeper callers f) fs o)))
    (items-rise S (places_of callers f) f.items.items n (back f.slots.items (finish_calls S (deeper callers f) fs o))
    (after-rises n (finish_calls S (deeper callers f) fs o) (λ sign s w. Ended sign f.slots.items w) (calls-rise S (deeper callers f) fs n o h) (λ sign s w h'. h')))

-- frames whose innermost item waits for what ended so
frames-rise : (S : Setting) (fs : Frames) (n : ℕ) (sign : Sign) (w : State) → Starts n w → Rises n (finish_from S fs (Ended sign (slots_of fs) w))
frames-rise S fs n sign w h =
    calls-rise S [] fs.below.frames.items n (closed S fs.top.kind (around fs) (finish_items S (here fs) fs.top.items.items (Ended sign (slots_of fs) w)))
    (closed-rises S fs.top.kind (around fs) n (finish_items S (here fs) fs.top.items.items (Ended sign (slots_of fs) w))
    (items-rise S (here fs) fs.top.items.items n (Ended sign (slots_of fs) w) h))

-- what frames stand for that were run in a store and won't be resumed
finish-rises : (S : Setting) (fs : Frames) (before : StoreView) → Rises before.steps (finish S fs (record { store = before; resumes = [] }))
finish-rises S fs before = frames-rise S fs before.steps (sign_of fs.given) (record { store = before; resumes = [] }) (refl, omega arith)

asked-rises : (S : Setting) (n : ℕ) (o : List Resume → Ending) (fs : Frames) (store : StoreView) (asked : Option Op) → Rises n (o []) → Asks S o store fs asked → n < store.steps
asked-rises S n o fs store None r h = absurd h
asked-rises S n o fs store (Some op) r h = subst (Rises n) (h []) r

-- a turn, after which the machine doesn't go on, has raised the steps where it asks, and has lowered them nowhere
pub ends_counted : (S : Setting) (first old fs : Frames) (before mid store : StoreView) (f : Flow)
    → ((rs : List Resume) → finish S first (record { store = before; resumes = rs }) ≡ finish S old (record { store = mid; resumes = rs }))
    → Follows S (λ rs. finish S old (record { store = mid; resumes = rs })) store fs f → (f ≡ flow.Went → ⊥) → (f ≡ flow.Spent → ⊥) → RaisesSteps before store f
ends_counted S first old fs before mid store flow.Went same h w p = absurd (w refl)
ends_counted S first old fs before mid store flow.Asked same h w p =
    asked-rises S before.steps (λ rs. finish S old (record { store = mid; resumes = rs })) fs store fs.asked (subst (Rises before.steps) (same []) (finish-rises S first before)) h
ends_counted S first old fs before mid store flow.Spent same h w p = absurd (p refl)
ends_counted S first old fs before mid store flow.Over same h w p = (subst (Rises before.steps) (h []) (subst (Rises before.steps) (same []) (finish-rises S first before))).1
