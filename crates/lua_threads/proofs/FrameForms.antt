-- Turns of the machine, which take its items.
use Rattle.std.specs.Prelude.{◌≡◌, ◌+◌, List, [], ◌∷◌, ◌++◌, Result, refl}
use Rattle.std.proofs.Common.{◌∙◌, ap, Vec, Global}
use Rattle.lua_values.specs.Heap.{StoreView}
use Rattle.lua_meaning.specs.Evaluator.{Resume, Ended}
use Rattle.lua_meaning.specs.Setting.{Setting}
use Rattle.lua_frames.specs.declared.flow.Flow.{Flow}
use Rattle.lua_frames.specs.declared.items.Item.{Item}
use Rattle.lua_frames.specs.declared.threads.Frames.{Frames}
use Rattle.lua_frames.specs.Signals.{sign_of}
use Rattle.lua_frames.specs.Items.{resume_item}
use Rattle.lua_frames.specs.Frames.{closed, finish_items, finish_calls, finish, around, here, slots_of, working}
use Rattle.lua_frames.specs.Follows.{Turns, Works}
use Rattle.lua_frames.specs.Changes.{Waits}
use Rattle.lua_frames.proofs.FollowLemmas.{follows_ok, works_as, finish_waits}

-- a turn of the innermost item, which is taken off first
pub item_turns : {E : Type 0} (S : Setting) (item : Item) (old mid fs : Frames) (before store : StoreView) (r : Result Flow E)
    → Waits mid item old → old.given ≡ mid.given → Works S (resume_item S item (here mid) (sign_of mid.given) (slots_of mid)) mid before fs store r → Turns S old before fs store r
item_turns S item old mid fs before store r h g w =
    record { follows = follows_ok S (λ rs. finish S old (record { store = before; resumes = rs })) (working S (resume_item S item (here mid) (sign_of mid.given) (slots_of mid)) mid before) store fs r turned w.follows }
  where
    turned : (rs : List Resume) → finish S old (record { store = before; resumes = rs }) ≡ working S (resume_item S item (here mid) (sign_of mid.given) (slots_of mid)) mid before rs
    turned rs = finish_waits S mid old item h (Ended (sign_of old.given) (slots_of old) (record { store = before; resumes = rs })) ∙ rw (g, h.slots) refl

-- an item that is this one
pub as_item : {E : Type 0} (S : Setting) (item same : Item) (old fs : Frames) (before store : StoreView) (r : Result Flow E)
    → item ≡ same → Works S (resume_item S same (here old) (sign_of old.given) (slots_of old)) old before fs store r → Works S (resume_item S item (here old) (sign_of old.given) (slots_of old)) old before fs store r
as_item S item same old fs before store r e w =
    works_as S (resume_item S item (here old) (sign_of old.given) (slots_of old)) (resume_item S same (here old) (sign_of old.given) (slots_of old)) old fs before store r w
    (ap (λ (t : Item). resume_item S t (here old) (sign_of old.given) (slots_of old)) e)

-- where nothing waits, taking off an item changes nothing
no_more : (xs : List Item) → xs ++ [] ≡ xs
no_more [] = refl
no_more (x ∷ xs) = ap (λ (t : List Item). x ∷ t) (no_more xs)

pub same_turns : {E : Type 0} (S : Setting) (old fs : Frames) (left : Vec Item Global) (before store : StoreView) (r : Result Flow E)
    → old.top.items.items ≡ left.items ++ [] → Turns S (record old { top = record old.top { items = left } }) before fs store r → Turns S old before fs store r
same_turns S old fs left before store r e w =
    record { follows = follows_ok S (λ rs. finish S old (record { store = before; resumes = rs })) (λ rs. finish S (record old { top = record old.top { items = left } }) (record { store = before; resumes = rs })) store fs r same w.follows }
  where
    same : (rs : List Resume) → finish S old (record { store = before; resumes = rs }) ≡ finish S (record old { top = record old.top { items = left } }) (record { store = before; resumes = rs })
    same rs =
        ap (λ (t : List Item). finish_calls S [] old.below.frames.items (closed S old.top.kind (around old) (finish_items S (here old) t (Ended (sign_of old.given) (slots_of old) (record { store = before; resumes = rs })))))
        (e ∙ no_more left.items)
