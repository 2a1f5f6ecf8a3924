-- Faults at a line.
use Rattle.std.specs.Prelude.{◌≡◌, ℕ, List, ◌++◌, Result, Option, refl}
use Rattle.std.proofs.Common.{subst}
use Rattle.lua_values.specs.declared.values.Value.{Value}
use Rattle.lua_values.specs.declared.values.Value.TheVariants as value
use Rattle.lua_values.specs.Heap.{StoreView}
use Rattle.lua_meaning.specs.declared.positions.Position.{Position}
use Rattle.lua_meaning.specs.Works.{Caller, Failed, Slots, End}
use Rattle.lua_meaning.specs.Setting.{Setting}
use Rattle.lua_meaning.specs.Positions.{position_of, position_text, raise}
use Rattle.lua_meaning.specs.Natives.{raise_value}
use Rattle.lua_frames.specs.declared.flow.Flow.{Flow}
use Rattle.lua_frames.specs.declared.threads.Frames.{Frames}
use Rattle.lua_frames.specs.Frames.{slots_of}
use Rattle.lua_frames.specs.Follows.{Works}
use Rattle.lua_frames.specs.Changes.{Ends}
use Rattle.lua_frames.proofs.FollowLemmas.{works_as, ends_works}

-- a fault whose text is known in another form
pub raise_as : {E : Type 0} (S : Setting) (callers : List Caller) (text text' : List ℕ) (old new : Frames) (store : StoreView) (r : Result Flow E)
    → Works S (raise S callers text (slots_of old)) old store new store r → text ≡ text' → Works S (raise S callers text' (slots_of old)) old store new store r
raise_as S callers text text' old new store r w e = subst (λ (t : List ℕ). Works S (raise S callers t (slots_of old)) old store new store r) e w

-- a text is raised after its position
pub text_raised : {E : Type 0} (S : Setting) (callers : List Caller) (v whole : Value) (text : List ℕ) (position : Option Position) (old new : Frames) (store : StoreView) (r : Result Flow E)
    → v ≡ value.Text text → position ≡ position_of S callers → whole ≡ value.Text (position_text S position ++ text) → Ends (Failed whole) old new r → Works S (raise_value S callers v (slots_of old)) old store new store r
text_raised S callers v whole text position old new store r t p w e =
    works_as S (raise_value S callers v (slots_of old)) (End (Failed whole) (slots_of old)) old new store store r (ends_works S (Failed whole) old new store r e) (rw (t, w, p) refl)

-- and any other value as it is
as_it_is : (S : Setting) (callers : List Caller) (v : Value) (s : Slots) → ((text : List ℕ) → v ≡ value.Text text → ⊥) → raise_value S callers v s ≡ End (Failed v) s
as_it_is S callers value.Nil s k = refl
as_it_is S callers (value.Truth t) s k = refl
as_it_is S callers (value.Number n) s k = refl
as_it_is S callers (value.Text t) s k = absurd (k t refl)
as_it_is S callers (value.Table t) s k = refl
as_it_is S callers (value.Closure n) s k = refl
as_it_is S callers (value.Native n) s k = refl
as_it_is S callers (value.Thread n) s k = refl
as_it_is S callers value.Null s k = refl
as_it_is S callers (value.Object n m) s k = refl

pub other_raised : {E : Type 0} (S : Setting) (callers : List Caller) (v : Value) (old new : Frames) (store : StoreView) (r : Result Flow E)
    → ((text : List ℕ) → v ≡ value.Text text → ⊥) → Ends (Failed v) old new r → Works S (raise_value S callers v (slots_of old)) old store new store r
other_raised S callers v old new store r k e =
    works_as S (raise_value S callers v (slots_of old)) (End (Failed v) (slots_of old)) old new store store r (ends_works S (Failed v) old new store r e) (as_it_is S callers v (slots_of old) k)
