-- The cells and the closures that are made in the frame on top.
use Rattle.std.specs.Prelude.{◌≡◌, ℕ, ◌+◌, List, [], ◌∷◌, ◌++◌, length, drop, Option, Some, None, slice_get, Result, Ok, Err, IfOk, refl}
use Rattle.std.proofs.Common.{sym, ◌∙◌, ap}
use Rattle.lua_ast.specs.declared.programs.Capture.{Capture}
use Rattle.lua_ast.specs.declared.programs.Program.{Program}
use Rattle.lua_values.specs.declared.values.Value.{Value}
use Rattle.lua_values.specs.declared.values.Value.TheVariants.{Closure}
use Rattle.lua_values.specs.declared.faults.StoreFault.{StoreFault}
use Rattle.lua_values.specs.declared.faults.StoreFault.TheVariants.{Full}
use Rattle.lua_values.specs.Heap.{StoreView}
use Rattle.lua_values.specs.StoreCalls.{full_cause, with_cell, with_closure, closure_units, IsCause}
use Rattle.lua_operators.specs.declared.faults.Fault.TheVariants.{StorageLimit}
use Rattle.lua_meaning.specs.Works.{Caller, Places, Slots, Values, Work, Write}
use Rattle.lua_meaning.specs.Evaluator.{do_work}
use Rattle.lua_meaning.specs.Setting.{Setting}
use Rattle.lua_meaning.specs.Positions.{callers_at, raise_fault}
use Rattle.lua_meaning.specs.Signs.{give_one}
use Rattle.lua_meaning.specs.Variables.{unless_refused, table_fault}
use Rattle.lua_meaning.specs.Closures.{captures_of, present_cell, variable_value, with_cell_in, share_from, share, close, closure_work}
use Rattle.lua_meaning.specs.Nodes.{eval}
use Rattle.lua_frames.specs.declared.flow.Flow.{Flow}
use Rattle.lua_frames.specs.declared.threads.Frames.{Frames}
use Rattle.lua_frames.specs.Frames.{here, slots_of}
use Rattle.lua_frames.specs.Follows.{Works, ComesTo}
use Rattle.lua_frames.specs.Changes.{Ends, KeepsAllButSlots}
use Rattle.lua_frames.proofs.FollowLemmas.{ends_works}
use Rattle.lua_vm_expressions.specs.Captures.{made, Shares, SharesAll, Closes, Makes, KeepsCell}
use Rattle.lua_frames.proofs.MovedLemmas.{kept_on, stays_here, works_moved}

-- a full store's cause
pub full_there : (cause : Option StoreFault) → IsCause cause Full → cause ≡ Some Full
full_there None e = absurd (cc)
full_there (Some f) e = ap (λ (x : StoreFault). Some x) (sym e)

-- nothing of the frames changes
pub kept_all : (old new : Frames) → new.below ≡ old.below → new.top ≡ old.top → KeepsAllButSlots old new
kept_all old new b t = record { below = b; kind = rw t refl; function = rw t refl; cells = rw t refl; extras = rw t refl; items = rw t refl }

-- a closure that the store has room for
pub closes_made : (function c : ℕ) (cells : List ℕ) (old new : Frames) (before store : StoreView)
    → new.below ≡ old.below → new.top ≡ old.top → c ≡ length before.heap.closures → full_cause before.heap (closure_units cells) ≡ None → store ≡ record { heap = with_closure before.heap function cells; steps = before.steps }
    → Closes function cells old before new store (Some c)
closes_made function c cells old new before store b t n room is = record { keeps = kept_all old new b t; comes = comes }
  where
    comes : (S : Setting) (callers : List Caller) (go : Value → Slots → Work) → ComesTo S (close S callers function cells (slots_of old) go) before (go (Closure c) (slots_of new)) store
    comes S callers go rs =
        ap (λ (cause : Option StoreFault). do_work (eval S) (unless_refused S callers table_fault cause (slots_of old) (Write (with_closure before.heap function cells) (go (Closure (length before.heap.closures)) (slots_of old)))) (record { store = before; resumes = rs })) room
        ∙ sym (rw (n, t, is) refl)

-- and one that it has none for
pub closes_full : (function : ℕ) (cells : List ℕ) (old new : Frames) (before store : StoreView)
    → new.below ≡ old.below → new.top ≡ old.top → IsCause (full_cause before.heap (closure_units cells)) Full → store ≡ before
    → Closes function cells old before new store None
closes_full function cells old new before store b t full is = record { keeps = kept_all old new b t; comes = comes }
  where
    comes : (S : Setting) (callers : List Caller) (go : Value → Slots → Work) → ComesTo S (close S callers function cells (slots_of old) go) before (raise_fault S callers StorageLimit (slots_of new)) store
    comes S callers go rs =
        ap (λ (cause : Option StoreFault). do_work (eval S) (unless_refused S callers table_fault cause (slots_of old) (Write (with_closure before.heap function cells) (go (Closure (length before.heap.closures)) (slots_of old)))) (record { store = before; resumes = rs })) (full_there (full_cause before.heap (closure_units cells)) full)
        ∙ sym (rw (t, is) refl)

-- a variable that has a cell
pub shares_present : (variable : Capture) (c : ℕ) (fs : Frames) (store : StoreView) → present_cell variable (here fs) (slots_of fs) ≡ Some c → Shares variable fs store fs store (Some c)
shares_present variable c fs store e =
    record {
      keeps = kept_all fs fs refl refl;
      comes = λ S callers go rs. ap (λ (cell : Option ℕ). do_work (eval S) (share_from S callers cell variable (here fs) (slots_of fs) go) (record { store = store; resumes = rs })) e;
    }

-- one that gets a cell
pub shares_made : (variable : Capture) (c : ℕ) (value : Value) (old new : Frames) (before store : StoreView)
    → present_cell variable (here old) (slots_of old) ≡ None → value ≡ variable_value variable (here old) (slots_of old) before.heap → KeepsCell variable c old new
    → c ≡ length before.heap.cells → full_cause before.heap 16 ≡ None → store ≡ record { heap = with_cell before.heap value; steps = before.steps }
    → Shares variable old before new store (Some c)
shares_made variable c value old new before store absent v k n room is = record { keeps = k.keeps; comes = comes }
  where
    comes : (S : Setting) (callers : List Caller) (go : ℕ → Slots → Work) → ComesTo S (share_from S callers (present_cell variable (here old) (slots_of old)) variable (here old) (slots_of old) go) before (go c (slots_of new)) store
    comes S callers go rs =
        ap (λ (cell : Option ℕ). do_work (eval S) (share_from S callers cell variable (here old) (slots_of old) go) (record { store = before; resumes = rs })) absent
        ∙ ap (λ (cause : Option StoreFault). do_work (eval S) (unless_refused S callers table_fault cause (slots_of old) (Write (with_cell before.heap (variable_value variable (here old) (slots_of old) before.heap)) (go (length before.heap.cells) (with_cell_in variable (length before.heap.cells) (slots_of old))))) (record { store = before; resumes = rs })) room
        ∙ ap (λ (x : Value). do_work (eval S) (go (length before.heap.cells) (with_cell_in variable (length before.heap.cells) (slots_of old))) (record { store = record { heap = with_cell before.heap x; steps = before.steps }; resumes = rs })) (sym v)
        ∙ ap (λ (i : ℕ). do_work (eval S) (go i (with_cell_in variable i (slots_of old))) (record { store = record { heap = with_cell before.heap value; steps = before.steps }; resumes = rs })) (sym n)
        ∙ ap (λ (s : Slots). do_work (eval S) (go c s) (record { store = record { heap = with_cell before.heap value; steps = before.steps }; resumes = rs })) (sym k.slots)
        ∙ ap (λ (st : StoreView). do_work (eval S) (go c (slots_of new)) (record { store = st; resumes = rs })) (sym is)

-- and one for which there is no room
pub shares_full : (variable : Capture) (fs : Frames) (before store : StoreView)
    → present_cell variable (here fs) (slots_of fs) ≡ None → IsCause (full_cause before.heap 16) Full → store ≡ before
    → Shares variable fs before fs store None
shares_full variable fs before store absent full is = record { keeps = kept_all fs fs refl refl; comes = comes }
  where
    comes : (S : Setting) (callers : List Caller) (go : ℕ → Slots → Work) → ComesTo S (share_from S callers (present_cell variable (here fs) (slots_of fs)) variable (here fs) (slots_of fs) go) before (raise_fault S callers StorageLimit (slots_of fs)) store
    comes S callers go rs =
        ap (λ (cell : Option ℕ). do_work (eval S) (share_from S callers cell variable (here fs) (slots_of fs) go) (record { store = before; resumes = rs })) absent
        ∙ ap (λ (cause : Option StoreFault). do_work (eval S) (unless_refused S callers table_fault cause (slots_of fs) (Write (with_cell before.heap (variable_value variable (here fs) (slots_of fs) before.heap)) (go (length before.heap.cells) (with_cell_in variable (length before.heap.cells) (slots_of fs))))) (record { store = before; resumes = rs })) (full_there (full_cause before.heap 16) full)
        ∙ ap (λ (st : StoreView). do_work (eval S) (raise_fault S callers StorageLimit (slots_of fs)) (record { store = st; resumes = rs })) (sym is)

-- a closure whose variables have their cells
pub makes_closed : (program : Program) (function : ℕ) (cells : List ℕ) (c : Option ℕ) (variables : List Capture) (old mid new : Frames) (before between store : StoreView)
    → variables ≡ captures_of (slice_get program.functions.items function) → SharesAll variables old before mid between (Some cells) → Closes function cells mid between new store c
    → Makes program function old before new store c
makes_closed program function cells c variables old mid new before between store e h k =
    record {
      keeps = kept_on old mid new h.keeps k.keeps;
      comes = λ S callers go rs.
          ap (λ (xs : List Capture). do_work (eval S) (share S callers xs (here old) [] (slots_of old) (λ cells' s. close S callers function cells' s go)) (record { store = before; resumes = rs })) (sym e)
          ∙ h.comes S callers (λ cells' s. close S callers function cells' s go) rs ∙ k.comes S callers go rs;
    }

-- and one for whose variables there is no room
pub makes_full : (program : Program) (function : ℕ) (variables : List Capture) (old new : Frames) (before store : StoreView)
    → variables ≡ captures_of (slice_get program.functions.items function) → SharesAll variables old before new store None
    → Makes program function old before new store None
makes_full program function variables old new before store e h =
    record {
      keeps = h.keeps;
      comes = λ S callers go rs.
          ap (λ (xs : List Capture). do_work (eval S) (share S callers xs (here old) [] (slots_of old) (λ cells' s. close S callers function cells' s go)) (record { store = before; resumes = rs })) (sym e)
          ∙ h.comes S callers (λ cells' s. close S callers function cells' s go) rs;
    }

-- a closure's work, by the program
pub closure_as : (S : Setting) (program : Program) (line function : ℕ) (p : Places) (s : Slots) (go : Value → Slots → Work) → S.program ≡ program
    → closure_work S line function p s go ≡ share S (callers_at p line) (captures_of (slice_get program.functions.items function)) p [] s (λ cells s'. close S (callers_at p line) function cells s' go)
closure_as S program line function p s go e = ap (λ (x : Program). share S (callers_at p line) (captures_of (slice_get x.functions.items function)) p [] s (λ cells s'. close S (callers_at p line) function cells s' go)) e

-- a closure that was made is given
pub closure_given : {E : Type 0} (S : Setting) (program : Program) (line function c : ℕ) (old mid new : Frames) (before store : StoreView) (r : Result Flow E)
    → S.program ≡ program → Makes program function old before mid store (Some c) → Ends (Values (Closure c ∷ [])) mid new r
    → Works S (closure_work S line function (here old) (slots_of old) give_one) old before new store r
closure_given S program line function c old mid new before store r e h k =
    works_moved S (closure_work S line function (here old) (slots_of old) give_one) (give_one (Closure c) (slots_of mid)) old mid new before store store r h.keeps
    (λ rs. ap (λ (q : Work). do_work (eval S) q (record { store = before; resumes = rs })) (closure_as S program line function (here old) (slots_of old) give_one e) ∙ h.comes S (callers_at (here old) line) give_one rs)
    (ends_works S (Values (Closure c ∷ [])) mid new store r k)

-- one that wasn't fails at its line, whatever would go on with it
pub closure_refused : {E : Type 0} (S : Setting) (program : Program) (line function : ℕ) (go : Value → Slots → Work) (old mid new : Frames) (before between store : StoreView) (r : Result Flow E)
    → S.program ≡ program → Makes program function old before mid between None → Works S (raise_fault S (callers_at (here mid) line) StorageLimit (slots_of mid)) mid between new store r
    → Works S (closure_work S line function (here old) (slots_of old) go) old before new store r
closure_refused S program line function go old mid new before between store r e h k =
    works_moved S (closure_work S line function (here old) (slots_of old) go) (raise_fault S (callers_at (here mid) line) StorageLimit (slots_of mid)) old mid new before between store r h.keeps
    (λ rs. ap (λ (q : Work). do_work (eval S) q (record { store = before; resumes = rs })) (closure_as S program line function (here old) (slots_of old) go e) ∙ h.comes S (callers_at (here old) line) go rs
    ∙ ap (λ (p : Places). do_work (eval S) (raise_fault S (callers_at p line) StorageLimit (slots_of mid)) (record { store = between; resumes = rs })) (sym (stays_here old mid h.keeps)))
    k

-- the variables from an index on are left, and the cells of those before are done
abbrev pub Left : List Capture → ℕ → List ℕ → Frames → StoreView → Frames → StoreView → Type 0
Left variables k done old before new store =
    (S : Setting) (callers : List Caller) (go : List ℕ → Slots → Work) → ComesTo S (share S callers variables (here old) [] (slots_of old) go) before (share S callers (drop k variables) (here old) done (slots_of new) go) store

next_left : (variables : List Capture) (k : ℕ) (x : Capture) (done : List ℕ) (c : Option ℕ) (old mid new : Frames) (before between store : StoreView)
    → drop k variables ≡ x ∷ drop (k + 1) variables → KeepsAllButSlots old mid → Left variables k done old before mid between → Shares x mid between new store c
    → (S : Setting) (callers : List Caller) (go : List ℕ → Slots → Work)
    → ComesTo S (share S callers variables (here old) [] (slots_of old) go) before (made S callers c (slots_of new) (λ c' s'. share S callers (drop (k + 1) variables) (here old) (done ++ c' ∷ []) s' go)) store
next_left variables k x done c old mid new before between store is h e m S callers go rs =
    e S callers go rs
    ∙ ap (λ (xs : List Capture). do_work (eval S) (share S callers xs (here old) done (slots_of mid) go) (record { store = between; resumes = rs })) is
    ∙ ap (λ (p : Places). do_work (eval S) (share_from S callers (present_cell x p (slots_of mid)) x p (slots_of mid) (λ c' s'. share S callers (drop (k + 1) variables) (here old) (done ++ c' ∷ []) s' go)) (record { store = between; resumes = rs })) (sym (stays_here old mid h))
    ∙ m.comes S callers (λ c' s'. share S callers (drop (k + 1) variables) (here old) (done ++ c' ∷ []) s' go) rs

-- one more of them has its cell
pub one_more_shared : (variables : List Capture) (k : ℕ) (x : Capture) (done longer : List ℕ) (c : ℕ) (old mid new : Frames) (before between store : StoreView)
    → drop k variables ≡ x ∷ drop (k + 1) variables → KeepsAllButSlots old mid → Left variables k done old before mid between → Shares x mid between new store (Some c) → longer ≡ done ++ c ∷ []
    → Left variables (k + 1) longer old before new store
one_more_shared variables k x done longer c old mid new before between store is h e m l S callers go rs =
    next_left variables k x done (Some c) old mid new before between store is h e m S callers go rs
    ∙ ap (λ (cells : List ℕ). do_work (eval S) (share S callers (drop (k + 1) variables) (here old) cells (slots_of new) go) (record { store = store; resumes = rs })) (sym l)

-- there is no room for one of them
pub one_refused : (variables : List Capture) (k : ℕ) (x : Capture) (done : List ℕ) (old mid new : Frames) (before between store : StoreView)
    → drop k variables ≡ x ∷ drop (k + 1) variables → KeepsAllButSlots old mid → Left variables k done old before mid between → Shares x mid between new store None
    → SharesAll variables old before new store None
one_refused variables k x done old mid new before between store is h e m =
    record { keeps = kept_on old mid new h m.keeps; comes = λ S callers go rs. next_left variables k x done None old mid new before between store is h e m S callers go rs }

-- all of them have theirs
pub all_shared : (variables : List Capture) (k : ℕ) (done : List ℕ) (old new : Frames) (before store : StoreView)
    → drop k variables ≡ [] → KeepsAllButSlots old new → Left variables k done old before new store → SharesAll variables old before new store (Some done)
all_shared variables k done old new before store is h e =
    record {
      keeps = h;
      comes = λ S callers go rs. e S callers go rs ∙ ap (λ (xs : List Capture). do_work (eval S) (share S callers xs (here old) done (slots_of new) go) (record { store = store; resumes = rs })) is;
    }

-- a closure over cells that were shared, whether the store has room for it or not
pub makes_closed_ok : {E : Type 0} (program : Program) (function : ℕ) (cells : List ℕ) (variables : List Capture) (old mid new : Frames) (before between store : StoreView) (r : Result (Option ℕ) E)
    → variables ≡ captures_of (slice_get program.functions.items function) → SharesAll variables old before mid between (Some cells) → IfOk r (λ c. Closes function cells mid between new store c)
    → IfOk r (λ c. Makes program function old before new store c)
makes_closed_ok program function cells variables old mid new before between store (Ok c) e h k = makes_closed program function cells c variables old mid new before between store e h k
makes_closed_ok program function cells variables old mid new before between store (Err x) e h k = tt
