-- Frames whose slots alone have changed: what is left of their thread.
use Rattle.std.specs.Prelude.{◌≡◌, Result, refl}
use Rattle.std.proofs.Common.{sym, ◌∙◌, ap}
use Rattle.lua_values.specs.Heap.{StoreView}
use Rattle.lua_meaning.specs.Works.{Work}
use Rattle.lua_meaning.specs.Evaluator.{Ending, do_work}
use Rattle.lua_meaning.specs.Setting.{Setting}
use Rattle.lua_meaning.specs.Nodes.{eval}
use Rattle.lua_frames.specs.declared.flow.Flow.{Flow}
use Rattle.lua_frames.specs.declared.threads.Frames.{Frames}
use Rattle.lua_frames.specs.Frames.{finish_from, here, working}
use Rattle.lua_frames.specs.Follows.{Works, ComesTo}
use Rattle.lua_frames.proofs.FollowLemmas.{follows_ok}
use Rattle.lua_frames.specs.Changes.{KeepsAllButSlots}

-- they go on with an ending as before
pub moved : (S : Setting) (old new : Frames) → KeepsAllButSlots old new → (o : Ending) → finish_from S new o ≡ finish_from S old o
moved S old new h o = rw (h.below, h.kind, h.function, h.cells, h.extras, h.items) refl

-- they evaluate in the same place
pub stays_here : (old new : Frames) → KeepsAllButSlots old new → here new ≡ here old
stays_here old new h = rw (h.below, h.kind, h.function, h.cells, h.extras) refl

-- one change after another
pub kept_on : (old mid new : Frames) → KeepsAllButSlots old mid → KeepsAllButSlots mid new → KeepsAllButSlots old new
kept_on old mid new h k =
    record { below = k.below ∙ h.below; kind = k.kind ∙ h.kind; function = k.function ∙ h.function; cells = k.cells ∙ h.cells; extras = k.extras ∙ h.extras; items = k.items ∙ h.items }

-- work that comes to other work, which is done in the changed frames
pub works_moved : {E : Type 0} (S : Setting) (q q' : Work) (old mid fs : Frames) (before between store : StoreView) (r : Result Flow E)
    → KeepsAllButSlots old mid → ComesTo S q before q' between → Works S q' mid between fs store r → Works S q old before fs store r
works_moved S q q' old mid fs before between store r h e w =
    record { follows = follows_ok S (working S q old before) (working S q' mid between) store fs r (λ rs. ap (finish_from S old) (e rs) ∙ sym (moved S old mid h (do_work (eval S) q' (record { store = between; resumes = rs })))) w.follows }
