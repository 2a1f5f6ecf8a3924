-- The pool stays kept as it is.
use Rattle.std.proofs.Common.{◌≡◌, ℕ, ◌+◌, nat_eq, List, [], ◌++◌, map, find, slice_get, Option, Some, None, option_map, refl, sym, ap, ◌∙◌, subst, append-nil}
use Rattle.std.specs.List.{AllByRecursion, IsDistinct}
use Rattle.std.specs.Map.{lookup, remove_entry}
use Rattle.shared_rules.specs.declared.sockets.Idle.{Idle}
use Rattle.shared_rules.specs.Pool.{of_key, first_of}
use Rattle.wakes.specs.Times.{Deadline, DeadlinesView}
use Rattle.sock_pool.specs.declared.keys.Keys.{Keys}
use Rattle.sock_pool.specs.declared.pool.Parked.{Parked}
use Rattle.sock_pool.specs.Keys.{socks_of, left_out}
use Rattle.sock_pool.specs.Kept.{Entry, IsEntry, idle_of, armed_of, IsRising, IsPooled}
use Rattle.sock_pool.specs.Changes.{disarmed}
use Rattle.sock_pool.proofs.Entries.{is_of, numbers-are, map-at, first-found, removed-is, found-is, entry-of, absent-stays, removed-each, removed-once, leaves-key}
use Rattle.sock_pool.proofs.Armed.{taken-armed, taken-unarmed, removed-rises}

-- where nothing left
pub stays : (n : ℕ) (es new : List Entry) (keys : Keys) (view : DeadlinesView) → IsPooled es keys view → lookup (nat_eq n) es ≡ None → new ≡ remove_entry (nat_eq n) es → IsPooled new keys view
stays n es new keys view old h e = subst (λ (x : List Entry). IsPooled x keys view) (sym (e ∙ absent-stays n es h)) old

pub found-idle : (n : ℕ) (es : List Entry) (o : Option Parked) → AllByRecursion IsEntry es → o ≡ lookup (nat_eq n) es → option_map (λ p. p.idle) o ≡ find (is_of n) (idle_of es)
found-idle n es o a h = ap (option_map (λ p. p.idle)) h ∙ found-is n es a

-- a socket leaves
pub leaves : (n : ℕ) (p : Parked) (es new : List Entry) (keys new-keys : Keys) (view new-view : DeadlinesView) → IsPooled es keys view → lookup (nat_eq n) es ≡ Some p → new ≡ remove_entry (nat_eq n) es
    → ((k : List ℕ) → socks_of new-keys k ≡ left_out p.idle.key n k (socks_of keys k)) → new-view.armed ≡ armed_of (remove_entry (nat_eq n) es) → new-view.last ≡ view.last → IsPooled new new-keys new-view
leaves n p es new keys new-keys view new-view old h e k a l = subst (λ (x : List Entry). IsPooled x new-keys new-view) (sym e) (record {
  each = removed-each IsEntry n es old.each;
  once = removed-once n es old.once;
  keyed = λ key. k key ∙ ap (left_out p.idle.key n key) (old.keyed key) ∙ leaves-key n (idle_of es) p.idle key (sym (found-idle n es (Some p) old.each (sym h)))
      ∙ ap (λ x. map (λ i. i.sock) (of_key key x)) (sym (removed-is n es old.each));
  armed = a;
  rising = subst (λ (m : ℕ). IsRising (m + 1) (remove_entry (nat_eq n) es)) (sym l) (removed-rises n (view.last + 1) es old.rising);
})

-- and its deadline with it
pub disarmed-is : (n top : ℕ) (p : Parked) (es : List Entry) (ds : List Deadline) (view : DeadlinesView) → AllByRecursion IsEntry es → IsRising top es → lookup (nat_eq n) es ≡ Some p → view.armed ≡ armed_of es ++ ds
    → (disarmed p.deadline view).armed ≡ armed_of (remove_entry (nat_eq n) es) ++ ds
disarmed-is n top p es ds view a r h v = put p.deadline refl
  where
    put : (d : Option ℕ) → p.deadline ≡ d → (disarmed d view).armed ≡ armed_of (remove_entry (nat_eq n) es) ++ ds
    put None e = v ∙ ap (λ l. l ++ ds) (sym (taken-unarmed n p es h e))
    put (Some k) e = ap (remove_entry (nat_eq k)) v ∙ taken-armed n k top p es ds r h e (entry-of n es p a h).timed

pub disarmed-last : (d : Option ℕ) (view : DeadlinesView) → (disarmed d view).last ≡ view.last
disarmed-last None view = refl
disarmed-last (Some k) view = refl

pub disarmed-all : (n : ℕ) (p : Parked) (es : List Entry) (keys : Keys) (view : DeadlinesView) → IsPooled es keys view → lookup (nat_eq n) es ≡ Some p → (disarmed p.deadline view).armed ≡ armed_of (remove_entry (nat_eq n) es)
disarmed-all n p es keys view old h = disarmed-is n (view.last + 1) p es [] view old.each old.rising h (old.armed ∙ sym (append-nil (armed_of es))) ∙ append-nil (armed_of (remove_entry (nat_eq n) es))

pub once-idle : (es : List Entry) (keys : Keys) (view : DeadlinesView) → IsPooled es keys view → IsDistinct nat_eq (map (λ i. i.sock) (idle_of es))
once-idle es keys view old = subst (IsDistinct nat_eq) (numbers-are es old.each) old.once

none-once : IsDistinct nat_eq []
unfolding IsDistinct
none-once = tt

-- a pool with nothing in it
pub empty-is : (es : List Entry) (keys : Keys) (view : DeadlinesView) → es ≡ [] → ((k : List ℕ) → socks_of keys k ≡ []) → view ≡ record { armed = []; last = 0 } → IsPooled es keys view
empty-is es keys view e k v =
    subst (λ (x : List Entry). IsPooled x keys view) (sym e) (subst (λ (w : DeadlinesView). IsPooled [] keys w) (sym v) (record { each = tt; once = none-once; keyed = k; armed = refl; rising = tt }))

-- the first of a key, by its number
pub taken-is : (n : ℕ) (key : List ℕ) (es : List Entry) (keys : Keys) (view : DeadlinesView) (pool : List Idle) → IsPooled es keys view → idle_of es ≡ pool → Some n ≡ slice_get (socks_of keys key) 0
    → (find (is_of n) pool ≡ first_of key pool) × (option_map (λ i. i.sock) (first_of key pool) ≡ Some n)
taken-is n key es keys view pool old v h =
    let f = ap (λ l. option_map (λ (i : Idle). i.sock) (first_of key l)) (sym v) ∙ sym (map-at (of_key key (idle_of es)) 0) ∙ sym (ap (λ l. slice_get l 0) (old.keyed key)) ∙ sym h in
    (first-found n key pool (subst (λ (l : List Idle). IsDistinct nat_eq (map (λ i. i.sock) l)) v (once-idle es keys view old)) f, f)
