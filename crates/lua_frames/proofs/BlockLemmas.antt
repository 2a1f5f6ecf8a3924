-- A block that begins.
use Rattle.std.specs.Prelude.{◌≡◌, List, [], Result, Ok, Err, refl}
use Rattle.std.proofs.Common.{sym, ◌∙◌, subst, Vec, Global}
use Rattle.std.specs.declared.rc.Rc.{Rc}
use Rattle.lua_ast.specs.declared.statements.Stmt.{Stmt}
use Rattle.lua_values.specs.Heap.{StoreView}
use Rattle.lua_meaning.specs.Works.{Values}
use Rattle.lua_meaning.specs.Evaluator.{Resume, Ended, do_work}
use Rattle.lua_meaning.specs.Setting.{Setting}
use Rattle.lua_meaning.specs.Blocks.{block}
use Rattle.lua_meaning.specs.Nodes.{eval}
use Rattle.lua_frames.specs.declared.flow.Flow.{Flow}
use Rattle.lua_frames.specs.declared.items.Item.TheVariants as i
use Rattle.lua_frames.specs.declared.threads.Frames.{Frames}
use Rattle.lua_frames.specs.Frames.{finish_from, here, slots_of, working}
use Rattle.lua_frames.specs.Follows.{Follows, Works}
use Rattle.lua_frames.specs.Changes.{Waits, Ends}
use Rattle.lua_frames.proofs.FollowLemmas.{finish_waits, ends_finish}

-- its statements wait, and nothing is given
pub block_works : {E : Type 0} (S : Setting) (stmts copy : Rc (Vec Stmt Global) Global) (old mid new : Frames) (store : StoreView) (r : Result Flow E)
    → Waits old (i.Rest copy 0) mid → copy.value ≡ stmts.value → Ends (Values []) mid new r → Works S (block stmts.value.items (here old) (slots_of old)) old store new store r
block_works S stmts copy old mid new store (Ok f) h same e =
    record { follows = subst (λ (t : Flow). Follows S (working S (block stmts.value.items (here old) (slots_of old)) old store) store new t) (sym e.went) (λ rs. sym (ends_finish S (Values []) mid new store (Ok f) e rs ∙ finish_waits S old mid (i.Rest copy 0) h (Ended (Values []) (slots_of mid) (record { store = store; resumes = rs })) ∙ goes rs)) }
  where
    goes : (rs : List Resume) → finish_from S old (do_work (eval S) (block copy.value.items (here old) (slots_of mid)) (record { store = store; resumes = rs })) ≡ working S (block stmts.value.items (here old) (slots_of old)) old store rs
    goes rs = rw (h.slots, same) refl
block_works S stmts copy old mid new store (Err x) h same e = record { follows = tt }
