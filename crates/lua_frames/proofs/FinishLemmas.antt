-- How what is left of a thread is taken apart: an item or a frame more, and what ends in no sign.
use Rattle.std.specs.Prelude.{◌≡◌, ℕ, List, [], ◌∷◌, ◌++◌, Option, refl}
use Rattle.std.proofs.Common.{◌∙◌, ap}
use Rattle.lua_values.specs.declared.values.Value.{Value}
use Rattle.lua_values.specs.Heap.{StoreView}
use Rattle.lua_meaning.specs.declared.positions.Position.{Position}
use Rattle.lua_meaning.specs.Works.{Caller, Places}
use Rattle.lua_meaning.specs.Evaluator.{Ending, Parked, Spent, after, do_work}
use Rattle.lua_meaning.specs.Setting.{Setting}
use Rattle.lua_meaning.specs.Nodes.{eval}
use Rattle.lua_frames.specs.declared.frames.Frame.{Frame}
use Rattle.lua_frames.specs.declared.items.Item.{Item}
use Rattle.lua_frames.specs.declared.threads.Frames.{Frames}
use Rattle.lua_frames.specs.Around.{deeper, around_of, places_of}
use Rattle.lua_frames.specs.Items.{resume_item}
use Rattle.lua_frames.specs.Frames.{closed, back, finish_items, finish_calls, finish_from, around, here}

-- an item on top takes the ending first
pub finish_push : (S : Setting) (p : Places) (items : List Item) (item : Item) (o : Ending)
    → finish_items S p (items ++ item ∷ []) o ≡ finish_items S p items (after o (λ sign s w. do_work (eval S) (resume_item S item p sign s) w))
finish_push S p [] item o = refl
finish_push S p (x ∷ items) item o =
    ap (λ (t : Ending). after t (λ sign s w. do_work (eval S) (resume_item S x p sign s) w)) (finish_push S p items item o)

-- the functions around a frame more
pub around_push : (a : List Caller) (fs : List Frame) (f : Frame) → around_of a (fs ++ f ∷ []) ≡ deeper (around_of a fs) f
around_push a [] f = refl
around_push a (x ∷ fs) f = around_push (deeper a x) fs f

-- and so does a frame more
pub finish_call : (S : Setting) (a : List Caller) (fs : List Frame) (f : Frame) (o : Ending)
    → finish_calls S a (fs ++ f ∷ []) o
    ≡ finish_calls S a fs (closed S f.kind (around_of a fs) (finish_items S (places_of (around_of a fs) f) f.items.items (back f.slots.items o)))
finish_call S a [] f o = refl
finish_call S a (x ∷ fs) f o =
    ap (λ (t : Ending). closed S x.kind a (finish_items S (places_of a x) x.items.items (back x.slots.items t))) (finish_call S (deeper a x) fs f o)

-- spent steps go through all
pub items_spent : (S : Setting) (p : Places) (items : List Item) → finish_items S p items Spent ≡ Spent
items_spent S p [] = refl
items_spent S p (x ∷ items) = ap (λ (t : Ending). after t (λ sign s w. do_work (eval S) (resume_item S x p sign s) w)) (items_spent S p items)

pub calls_spent : (S : Setting) (a : List Caller) (fs : List Frame) → finish_calls S a fs Spent ≡ Spent
calls_spent S a [] = refl
calls_spent S a (x ∷ fs) =
    ap (λ (t : Ending). closed S x.kind a (finish_items S (places_of a x) x.items.items (back x.slots.items t))) (calls_spent S (deeper a x) fs)
    ∙ ap (closed S x.kind a) (items_spent S (places_of a x) x.items.items)

pub spent_through : (S : Setting) (fs : Frames) → finish_from S fs Spent ≡ Spent
spent_through S fs =
    ap (λ (t : Ending). finish_calls S [] fs.below.frames.items (closed S fs.top.kind (around fs) t)) (items_spent S (here fs) fs.top.items.items) ∙ calls_spent S [] fs.below.frames.items

-- and so does a thread that parks
pub items_parked : (S : Setting) (p : Places) (items : List Item) (number : ℕ) (args : List Value) (position : Option Position) (store : StoreView)
    → finish_items S p items (Parked number args position store) ≡ Parked number args position store
items_parked S p [] number args position store = refl
items_parked S p (x ∷ items) number args position store =
    ap (λ (t : Ending). after t (λ sign s w. do_work (eval S) (resume_item S x p sign s) w)) (items_parked S p items number args position store)

pub calls_parked : (S : Setting) (a : List Caller) (fs : List Frame) (number : ℕ) (args : List Value) (position : Option Position) (store : StoreView)
    → finish_calls S a fs (Parked number args position store) ≡ Parked number args position store
calls_parked S a [] number args position store = refl
calls_parked S a (x ∷ fs) number args position store =
    ap (λ (t : Ending). closed S x.kind a (finish_items S (places_of a x) x.items.items (back x.slots.items t))) (calls_parked S (deeper a x) fs number args position store)
    ∙ ap (closed S x.kind a) (items_parked S (places_of a x) x.items.items number args position store)

pub parked_through : (S : Setting) (fs : Frames) (number : ℕ) (args : List Value) (position : Option Position) (store : StoreView)
    → finish_from S fs (Parked number args position store) ≡ Parked number args position store
parked_through S fs number args position store =
    ap (λ (t : Ending). finish_calls S [] fs.below.frames.items (closed S fs.top.kind (around fs) t)) (items_parked S (here fs) fs.top.items.items number args position store)
    ∙ calls_parked S [] fs.below.frames.items number args position store
