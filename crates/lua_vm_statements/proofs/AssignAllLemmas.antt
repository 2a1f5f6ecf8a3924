-- Assignments one after another, from the last target to the first.
use Rattle.std.specs.Prelude.{◌≡◌, ℕ, true, false, suc, zero, ◌≤◌, List, [], ◌∷◌, ◌++◌, length, map, reverse, drop, slice_get, slice_set, Result, Ok, refl}
use Rattle.std.proofs.Common.{sym, ◌∙◌, ap, subst, arith, Vec, Global}
use Rattle.std.proofs.lemmas.List.{reverse-append}
use Rattle.lua_values.specs.declared.values.Value.{Value}
use Rattle.lua_values.specs.declared.values.Value.TheVariants.{Nil}
use Rattle.lua_values.specs.Heap.{StoreView}
use Rattle.lua_meaning.specs.Works.{Places, Slots, Sign, Values, Return, Break, Failed, Work, End, and_then}
use Rattle.lua_meaning.specs.Evaluator.{Resume, Ending, Ended, after, do_work}
use Rattle.lua_meaning.specs.Setting.{Setting}
use Rattle.lua_meaning.specs.Signs.{first, or_nil, on_values}
use Rattle.lua_meaning.specs.Indexing.{store_work}
use Rattle.lua_meaning.specs.Assignments.{assigned, assign_to, assign_all}
use Rattle.lua_meaning.specs.Assignments as assignment
use Rattle.lua_meaning.specs.Nodes.{eval}
use Rattle.lua_meaning.proofs.EvaluatorLemmas.{work-then}
use Rattle.lua_frames.specs.declared.flow.Flow.{Flow}
use Rattle.lua_frames.specs.declared.flow.Flow.TheVariants as flow
use Rattle.lua_frames.specs.declared.items.Item.TheVariants as i
use Rattle.lua_frames.specs.declared.targets.Target.{Target}
use Rattle.lua_frames.specs.declared.targets.Target.TheVariants as target
use Rattle.lua_frames.specs.declared.threads.Frames.{Frames}
use Rattle.lua_frames.specs.Signals.{sign_of}
use Rattle.lua_frames.specs.Items.{target_of, assign_values, resume_item}
use Rattle.lua_frames.specs.Frames.{here, slots_of}
use Rattle.lua_frames.specs.Follows.{Works, ComesTo}
use Rattle.lua_frames.specs.Changes.{Waits, Ends, KeepsAllButSlots}
use Rattle.lua_frames.proofs.FollowLemmas.{ends_works, work_done, work_under}
use Rattle.lua_frames.proofs.MovedLemmas.{kept_on, stays_here, works_moved}
use Rattle.lua_vm_statements.specs.Assignments.{IsAssigned, has_failed, Assigns}

first_dropped : (vs : List Value) (n : ℕ) → or_nil (slice_get (drop 1 vs) n) ≡ or_nil (slice_get vs (suc n))
first_dropped [] n = refl
first_dropped (v ∷ vs) n = refl

-- the last of some targets, with its value
last_assigned : (ts : List assignment.Target) (t : assignment.Target) (vs : List Value) → assigned (ts ++ t ∷ []) vs ≡ assigned ts vs ++ (t, or_nil (slice_get vs (length ts))) ∷ []
last_assigned [] t [] = refl
last_assigned [] t (v ∷ vs) = refl
last_assigned (x ∷ ts) t vs =
    ap (λ (rest : List (assignment.Target × Value)). (x, first vs) ∷ rest) (last_assigned ts t (drop 1 vs) ∙ ap (λ (v : Value). assigned ts (drop 1 vs) ++ (t, v) ∷ []) (first_dropped vs (length ts)))

-- a value after those of some targets doesn't matter to them
set_after : (ts : List assignment.Target) (vs : List Value) (n : ℕ) (v : Value) → length ts ≤ n → assigned ts (slice_set vs n v) ≡ assigned ts vs
set_after [] vs n v h = refl
set_after (t ∷ ts) [] n v h = refl
set_after (t ∷ ts) (x ∷ vs) zero v h = absurd (omega (arith, h))
set_after (t ∷ ts) (x ∷ vs) (suc n) v h = ap (λ (rest : List (assignment.Target × Value)). (t, x) ∷ rest) (set_after ts vs n v (omega (arith, h)))

mapped : (ts : List Target) (t : Target) → map target_of (ts ++ t ∷ []) ≡ map target_of ts ++ target_of t ∷ []
mapped [] t = refl
mapped (x ∷ ts) t = ap (λ (rest : List assignment.Target). target_of x ∷ rest) (mapped ts t)

map_length : (ts : List Target) → length (map target_of ts) ≡ length ts
map_length [] = refl
map_length (x ∷ ts) = ap suc (map_length ts)

-- the last of some targets is assigned first
last_first : (S : Setting) (ts : List Target) (t : Target) (vs : List Value) (p : Places) (s : Slots)
    → assign_values S (map target_of (ts ++ t ∷ [])) vs p s ≡ and_then (assign_to S (target_of t) (or_nil (slice_get vs (length ts))) p s) (on_values (λ us s'. assign_values S (map target_of ts) vs p s'))
last_first S ts t vs p s =
    ap (λ (xs : List assignment.Target). assign_all S (reverse (assigned xs vs)) p s) (mapped ts t)
    ∙ ap (λ (xs : List (assignment.Target × Value)). assign_all S (reverse xs) p s) (last_assigned (map target_of ts) (target_of t) vs)
    ∙ ap (λ (xs : List (assignment.Target × Value)). assign_all S xs p s) (reverse-append (assigned (map target_of ts) vs) ((target_of t, or_nil (slice_get vs (length (map target_of ts)))) ∷ []))
    ∙ ap (λ (n : ℕ). and_then (assign_to S (target_of t) (or_nil (slice_get vs n)) p s) (on_values (λ us s'. assign_values S (map target_of ts) vs p s'))) (map_length ts)

-- the assignment of the last target was done; what it gave goes on
last_done : (S : Setting) (ts : List Target) (t : Target) (vs : List Value) (v : Value) (old new : Frames) (p : Places) (before store : StoreView)
    → p ≡ here old → v ≡ or_nil (slice_get vs (length ts)) → Assigns S (assign_to S (target_of t) v (here old) (slots_of old)) old before new store → (rs : List Resume)
    → do_work (eval S) (assign_values S (map target_of (ts ++ t ∷ [])) vs p (slots_of old)) (record { store = before; resumes = rs })
    ≡ do_work (eval S) (on_values (λ us s'. assign_values S (map target_of ts) vs p s') (sign_of new.given) (slots_of new)) (record { store = store; resumes = rs })
last_done S ts t vs v old new p before store place is d rs =
    ap (λ (q : Work). do_work (eval S) q (record { store = before; resumes = rs })) (last_first S ts t vs p (slots_of old))
    ∙ work-then (eval S) (assign_to S (target_of t) (or_nil (slice_get vs (length ts))) p (slots_of old)) (on_values (λ us s'. assign_values S (map target_of ts) vs p s')) (record { store = before; resumes = rs })
    ∙ ap (λ (o : Ending). after o (λ sign s w. do_work (eval S) (on_values (λ us s'. assign_values S (map target_of ts) vs p s') sign s) w)) (same ∙ d.comes rs)
  where
    same : do_work (eval S) (assign_to S (target_of t) (or_nil (slice_get vs (length ts))) p (slots_of old)) (record { store = before; resumes = rs }) ≡ do_work (eval S) (assign_to S (target_of t) v (here old) (slots_of old)) (record { store = before; resumes = rs })
    same = rw (place, is) refl

at_most : {m n : ℕ} → m ≡ n → m ≤ n
at_most e = omega (arith, e)

-- a machine's targets before the last, with the values that are left
values_left : (S : Setting) (ts : List Target) (vs us : List Value) (p : Places) (s : Slots) → us ≡ slice_set vs (length ts) Nil → assign_values S (map target_of ts) us p s ≡ assign_values S (map target_of ts) vs p s
values_left S ts vs us p s e =
    ap (λ (xs : List Value). assign_values S (map target_of ts) xs p s) e
    ∙ ap (λ (xs : List (assignment.Target × Value)). assign_all S (reverse xs) p s) (set_after (map target_of ts) vs (length ts) Nil (at_most (map_length ts)))

-- The assignment of some targets comes to that of fewer of them.
abbrev pub Fewer : Setting → List Target → List Value → Frames → StoreView → List Target → List Value → Frames → StoreView → Type 0
Fewer S targets values old before ts vs new store =
    ComesTo S (assign_values S (map target_of targets) values (here old) (slots_of old)) before (assign_values S (map target_of ts) vs (here old) (slots_of new)) store

-- the last one was assigned, and gave its value to what goes on
goes_on : (S : Setting) (targets ts : List Target) (t : Target) (values vs : List Value) (v : Value) (old mid new : Frames) (before between store : StoreView)
    → KeepsAllButSlots old mid → Fewer S targets values old before (ts ++ t ∷ []) vs mid between → v ≡ or_nil (slice_get vs (length ts)) → Assigns S (assign_to S (target_of t) v (here mid) (slots_of mid)) mid between new store
    → ComesTo S (assign_values S (map target_of targets) values (here old) (slots_of old)) before (on_values (λ us s'. assign_values S (map target_of ts) vs (here old) s') (sign_of new.given) (slots_of new)) store
goes_on S targets ts t values vs v old mid new before between store h e is d rs =
    e rs ∙ last_done S ts t vs v mid new (here old) between store (sym (stays_here old mid h)) is d rs

gave_nothing : (sign : Sign) → IsAssigned sign → has_failed sign ≡ false → sign ≡ Values []
gave_nothing (Values vs) a e = ap Values a
gave_nothing (Return vs) a e = absurd a
gave_nothing Break a e = absurd a
gave_nothing (Failed v) a e = absurd (cc)

failed_with : (sign : Sign) → has_failed sign ≡ true → (v : Value) × (sign ≡ Failed v)
failed_with (Values vs) e = absurd (cc)
failed_with (Return vs) e = absurd (cc)
failed_with Break e = absurd (cc)
failed_with (Failed v) e = (v, refl)

-- without a fault the others go on
pub fewer_by_one : (S : Setting) (targets ts more : List Target) (t : Target) (values vs us : List Value) (v : Value) (old mid new : Frames) (before between store : StoreView)
    → KeepsAllButSlots old mid → Fewer S targets values old before more vs mid between → more ≡ ts ++ t ∷ []
    → v ≡ or_nil (slice_get vs (length ts)) → us ≡ slice_set vs (length ts) Nil → Assigns S (assign_to S (target_of t) v (here mid) (slots_of mid)) mid between new store → has_failed (sign_of new.given) ≡ false
    → Fewer S targets values old before ts us new store
fewer_by_one S targets ts more t values vs us v old mid new before between store h e split is left d fails rs =
    goes_on S targets ts t values vs v old mid new before between store h (subst (λ (xs : List Target). Fewer S targets values old before xs vs mid between) split e) is d rs
    ∙ ap (λ (sign : Sign). do_work (eval S) (on_values (λ xs s'. assign_values S (map target_of ts) vs (here old) s') sign (slots_of new)) (record { store = store; resumes = rs })) (gave_nothing (sign_of new.given) d.ends fails)
    ∙ ap (λ (q : Work). do_work (eval S) q (record { store = store; resumes = rs })) (sym (values_left S ts vs us (here old) (slots_of new) left))

-- a fault ends all
pub fault_ends : {E : Type 0} (S : Setting) (targets ts more : List Target) (t : Target) (values vs : List Value) (v : Value) (old mid new : Frames) (before between store : StoreView)
    → KeepsAllButSlots old mid → Fewer S targets values old before more vs mid between → more ≡ ts ++ t ∷ []
    → v ≡ or_nil (slice_get vs (length ts)) → Assigns S (assign_to S (target_of t) v (here mid) (slots_of mid)) mid between new store → has_failed (sign_of new.given) ≡ true
    → Works {E = E} S (assign_values S (map target_of targets) values (here old) (slots_of old)) old before new store (Ok flow.Went)
fault_ends S targets ts more t values vs v old mid new before between store h e split is d fails =
    work_done S (assign_values S (map target_of targets) values (here old) (slots_of old)) old new before store k.below k.kind k.function k.cells k.extras k.items
    (λ rs. goes_on S targets ts t values vs v old mid new before between store h (subst (λ (xs : List Target). Fewer S targets values old before xs vs mid between) split e) is d rs
    ∙ ap (λ (sign : Sign). do_work (eval S) (on_values (λ xs s'. assign_values S (map target_of ts) vs (here old) s') sign (slots_of new)) (record { store = store; resumes = rs })) given
    ∙ ap (λ (sign : Sign). Ended sign (slots_of new) (record { store = store; resumes = rs })) (sym given))
  where
    k : KeepsAllButSlots old new
    k = kept_on old mid new h d.keeps

    given : sign_of new.given ≡ Failed (failed_with (sign_of new.given) fails).0
    given = (failed_with (sign_of new.given) fails).1

-- one at a key is assigned, and the others wait
pub at_key : {E : Type 0} (S : Setting) (targets ts : Vec Target Global) (more : List Target) (t : Target) (line : ℕ) (object key : Value) (values vs us : Vec Value Global) (v : Value) (old mid waits fs : Frames) (before between store : StoreView) (r : Result Flow E)
    → KeepsAllButSlots old mid → Fewer S targets.items values.items old before more vs.items mid between → more ≡ ts.items ++ t ∷ [] → t ≡ target.AtKey line object key
    → v ≡ or_nil (slice_get vs.items (length ts.items)) → us.items ≡ slice_set vs.items (length ts.items) Nil → Waits mid (i.Stores ts us) waits
    → Works S (store_work S line object key v (here waits) (slots_of waits)) waits between fs store r
    → Works S (assign_values S (map target_of targets.items) values.items (here old) (slots_of old)) old before fs store r
at_key S targets ts more t line object key values vs us v old mid waits fs before between store r h e split there is left k w =
    works_moved S (assign_values S (map target_of targets.items) values.items (here old) (slots_of old)) (and_then (store_work S line object key v (here mid) (slots_of mid)) (resume_item S (i.Stores ts us) (here mid))) old mid fs before between store r h comes
    (work_under S mid waits fs (i.Stores ts us) (λ p s. store_work S line object key v p s) between store r k w)
  where
    same_values : assigned (map target_of ts.items) vs.items ≡ assigned (map target_of ts.items) us.items
    same_values = sym (ap (λ (xs : List Value). assigned (map target_of ts.items) xs) left ∙ set_after (map target_of ts.items) vs.items (length ts.items) Nil (at_most (map_length ts.items)))

    comes : ComesTo S (assign_values S (map target_of targets.items) values.items (here old) (slots_of old)) before (and_then (store_work S line object key v (here mid) (slots_of mid)) (resume_item S (i.Stores ts us) (here mid))) between
    comes rs =
        e rs ∙ ap (λ (xs : List Target). do_work (eval S) (assign_values S (map target_of xs) vs.items (here old) (slots_of mid)) (record { store = between; resumes = rs })) split
        ∙ ap (λ (q : Work). do_work (eval S) q (record { store = between; resumes = rs })) (last_first S ts.items t vs.items (here old) (slots_of mid))
        ∙ ap (λ (x : Value). do_work (eval S) (and_then (assign_to S (target_of t) x (here old) (slots_of mid)) (on_values (λ xs s'. assign_values S (map target_of ts.items) vs.items (here old) s'))) (record { store = between; resumes = rs })) (sym is)
        ∙ ap (λ (x : Target). do_work (eval S) (and_then (assign_to S (target_of x) v (here old) (slots_of mid)) (on_values (λ xs s'. assign_values S (map target_of ts.items) vs.items (here old) s'))) (record { store = between; resumes = rs })) there
        ∙ ap (λ (ys : List (assignment.Target × Value)). do_work (eval S) (and_then (store_work S line object key v (here old) (slots_of mid)) (on_values (λ xs s'. assign_all S (reverse ys) (here old) s'))) (record { store = between; resumes = rs })) same_values
        ∙ ap (λ (p : Places). do_work (eval S) (and_then (store_work S line object key v p (slots_of mid)) (resume_item S (i.Stores ts us) p)) (record { store = between; resumes = rs })) (sym (stays_here old mid h))

-- none is left
pub none_left : {E : Type 0} (S : Setting) (targets ts : List Target) (values vs : List Value) (old mid new : Frames) (before store : StoreView) (r : Result Flow E)
    → KeepsAllButSlots old mid → Fewer S targets values old before ts vs mid store → ts ≡ [] → Ends (Values []) mid new r
    → Works S (assign_values S (map target_of targets) values (here old) (slots_of old)) old before new store r
none_left S targets ts values vs old mid new before store r h e none k =
    works_moved S (assign_values S (map target_of targets) values (here old) (slots_of old)) (End (Values []) (slots_of mid)) old mid new before store store r h
    (λ rs. e rs ∙ ap (λ (xs : List Target). do_work (eval S) (assign_values S (map target_of xs) vs (here old) (slots_of mid)) (record { store = store; resumes = rs })) none)
    (ends_works S (Values []) mid new store r k)
