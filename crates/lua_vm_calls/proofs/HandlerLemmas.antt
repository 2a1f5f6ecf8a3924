-- Calls of handlers, of which one value or its truth is wanted.
use Rattle.std.specs.Prelude.{◌≡◌, ℕ, List, [], ◌∷◌, Bool, Result, refl}
use Rattle.lua_values.specs.declared.values.Value.{Value}
use Rattle.lua_values.specs.Heap.{StoreView}
use Rattle.lua_meaning.specs.Works.{and_then}
use Rattle.lua_meaning.specs.Setting.{Setting}
use Rattle.lua_meaning.specs.Positions.{callers_at}
use Rattle.lua_meaning.specs.Signs.{give_one}
use Rattle.lua_meaning.specs.Calls.{call, call_for_one}
use Rattle.lua_meaning.specs.Comparison.{call_for_truth}
use Rattle.lua_frames.specs.declared.flow.Flow.{Flow}
use Rattle.lua_frames.specs.declared.items.Item.TheVariants as i
use Rattle.lua_frames.specs.declared.threads.Frames.{Frames}
use Rattle.lua_frames.specs.Items.{resume_item}
use Rattle.lua_frames.specs.Frames.{here, slots_of}
use Rattle.lua_frames.specs.Follows.{Works}
use Rattle.lua_frames.specs.Changes.{Waits}
use Rattle.lua_frames.proofs.FollowLemmas.{works_as, works_from, work_under}

-- a handler of which one value is wanted
pub one_wanted : {E : Type 0} (S : Setting) (line : ℕ) (by : Value) (args : List Value) (old mid fs : Frames) (before store : StoreView) (r : Result Flow E)
    → Waits old i.First mid → Works S (call (callers_at (here mid) line) by args (slots_of mid)) mid before fs store r
    → Works S (call_for_one (callers_at (here old) line) by args (slots_of old) give_one) old before fs store r
one_wanted S line by args old mid fs before store r h w =
    works_as S (call_for_one (callers_at (here old) line) by args (slots_of old) give_one) (and_then (call (callers_at (here old) line) by args (slots_of old)) (resume_item S i.First (here old))) old fs before store r
    (work_under S old mid fs i.First (λ p s. call (callers_at p line) by args s) before store r h w) refl

-- one of which the truth is wanted, in frames whose lists alone have changed
truth_of : {E : Type 0} (S : Setting) (line : ℕ) (wanted : Bool) (by a b : Value) (args : List Value) (old mid fs : Frames) (before store : StoreView) (r : Result Flow E)
    → args ≡ a ∷ b ∷ [] → Waits old (i.Truth wanted) mid → Works S (call (callers_at (here mid) line) by args (slots_of mid)) mid before fs store r
    → Works S (call_for_truth (callers_at (here old) line) by a b wanted (slots_of old)) old before fs store r
truth_of S line wanted by a b args old mid fs before store r e h w =
    works_as S (call_for_truth (callers_at (here old) line) by a b wanted (slots_of old)) (and_then (call (callers_at (here old) line) by args (slots_of old)) (resume_item S (i.Truth wanted) (here old))) old fs before store r
    (work_under S old mid fs (i.Truth wanted) (λ p s. call (callers_at p line) by args s) before store r h w) (rw e refl)

pub truth_wanted : {E : Type 0} (S : Setting) (line : ℕ) (wanted : Bool) (by a b : Value) (args : List Value) (old listed mid fs : Frames) (before store : StoreView) (r : Result Flow E)
    → listed.below ≡ old.below → listed.top ≡ old.top → args ≡ a ∷ b ∷ [] → Waits listed (i.Truth wanted) mid → Works S (call (callers_at (here mid) line) by args (slots_of mid)) mid before fs store r
    → Works S (call_for_truth (callers_at (here old) line) by a b wanted (slots_of old)) old before fs store r
truth_wanted S line wanted by a b args old listed mid fs before store r u t e h w =
    works_as S (call_for_truth (callers_at (here old) line) by a b wanted (slots_of old)) (call_for_truth (callers_at (here listed) line) by a b wanted (slots_of listed)) old fs before store r
    (works_from S (call_for_truth (callers_at (here listed) line) by a b wanted (slots_of listed)) old listed fs before store r u t (truth_of S line wanted by a b args listed mid fs before store r e h w))
    (rw (u, t) refl)
