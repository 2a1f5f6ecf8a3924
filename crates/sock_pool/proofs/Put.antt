-- A socket is put first, whether it was idle before or not, or all stays where it can't be.
use Rattle.std.proofs.Common.{◌≡◌, ℕ, ◌+◌, ◌≤◌, nat_eq, Bool, true, false, cond, List, [], ◌∷◌, ◌++◌, map, is_some, Option, Some, None, refl, sym, ap, ◌∙◌, subst, append-nil, arith, if◌then◌else◌}
use Rattle.std.proofs.lemmas.Bool.{eq-eqb}
use Rattle.std.proofs.lemmas.Cmp.{nat_list_eq_equiv}
use Rattle.std.specs.List.{AllByRecursion}
use Rattle.std.specs.Map.{lookup, remove_entry}
use Rattle.resty_base.specs.declared.names.Ms.{Ms}
use Rattle.shared_rules.specs.declared.sockets.Idle.{Idle}
use Rattle.shared_rules.specs.Keys.{same_key}
use Rattle.shared_rules.specs.Pool.{of_key, without_socket}
use Rattle.shared_rules.specs.KeyLaws.{same_key-eq}
use Rattle.wakes.specs.declared.deadlines.Whose.TheVariants as whose
use Rattle.wakes.specs.Times.{Deadline, DeadlinesView}
use Rattle.sock_pool.specs.declared.keys.Keys.{Keys}
use Rattle.sock_pool.specs.declared.pool.Parked.{Parked}
use Rattle.sock_pool.specs.Keys.{socks_of, without, first_put, left_out}
use Rattle.sock_pool.specs.Kept.{Entry, IsEntry, idle_of, armed_for, armed_of, IsBelow, bound, IsRising, IsPooled}
use Rattle.sock_pool.specs.Changes.{next_number, armed_until, disarmed, forgotten_key, forgotten_deadline}
use Rattle.sock_pool.proofs.Entries.{removed-is, absent-stays, none-idle, removed-each, put-once, leaves-key, key-without}
use Rattle.sock_pool.proofs.Armed.{rises-more, removed-rises, passed}
use Rattle.sock_pool.proofs.Pooled.{found-idle, disarmed-is, disarmed-last, once-idle}

-- the sockets of a key after what was kept of the socket before is forgotten
abbrev Left : Option Parked → ℕ → List ℕ → List ℕ → List ℕ → Type 0
Left None n k socks rest = socks ≡ rest
Left (Some p) n k socks rest = left_out p.idle.key n k socks ≡ rest

keyed-put : (r : Option Parked) (key k : List ℕ) (n : ℕ) (socks rest : List ℕ) → without n socks ≡ rest → Left r n k socks rest → forgotten_key r key n k (first_put key n k socks) ≡ cond (same_key key k) (n ∷ rest) rest
keyed-put None key k n socks rest u l = put (same_key key k)
  where
    put : (c : Bool) → (if c then n ∷ without n socks else socks) ≡ cond c (n ∷ rest) rest
    put true = ap (λ x. n ∷ x) u
    put false = l
keyed-put (Some p) key k n socks rest u l = put (same_key p.idle.key key) (same_key key k) (same_key p.idle.key k) refl refl refl l
  where
    put : (s c t : Bool) → same_key p.idle.key key ≡ s → same_key key k ≡ c → same_key p.idle.key k ≡ t → (if t then without n socks else socks) ≡ rest
        → (if s then (if c then n ∷ without n socks else socks) else (if t then without n (if c then n ∷ without n socks else socks) else (if c then n ∷ without n socks else socks))) ≡ cond c (n ∷ rest) rest
    put true true t a b d l = ap (λ x. n ∷ x) u
    put true false false a b d l = l
    put true false true a b d l = absurd (let g : true ≡ false = sym d ∙ ap (λ (x : List ℕ). same_key x k) (same_key-eq p.idle.key key a) ∙ b in cc)
    put false true true a b d l = absurd (let g : true ≡ false = sym d ∙ ap (same_key p.idle.key) (sym (same_key-eq key k b)) ∙ a in cc)
    put false true false a b d l = ap (λ x. n ∷ x) u
    put false false true a b d l = u
    put false false false a b d l = l

left-is : (n : ℕ) (k : List ℕ) (es : List Entry) (r : Option Parked) → AllByRecursion IsEntry es → r ≡ lookup (nat_eq n) es
    → Left r n k (map (λ i. i.sock) (of_key k (idle_of es))) (map (λ i. i.sock) (of_key k (without_socket n (idle_of es))))
left-is n k es None a h = ap (λ l. map (λ (i : Idle). i.sock) (of_key k l)) (sym (none-idle n (idle_of es) (sym (found-idle n es None a h))))
left-is n k es (Some p) a h = leaves-key n (idle_of es) p.idle k (sym (found-idle n es (Some p) a h))

armed-more : (until : Option Ms) (n : ℕ) (es : List Entry) (view : DeadlinesView) → view.armed ≡ armed_of es → (armed_until until n view).armed ≡ armed_of es ++ armed_for n (next_number until view) until
armed-more None n es view v = v ∙ sym (append-nil (armed_of es))
armed-more (Some at) n es view v = ap (λ l. l ++ (view.last + 1, record { at = at; whose = whose.Idle n }) ∷ []) v

forgotten-armed : (r : Option Parked) (n top : ℕ) (es : List Entry) (ds : List Deadline) (view : DeadlinesView) → AllByRecursion IsEntry es → IsRising top es → r ≡ lookup (nat_eq n) es → view.armed ≡ armed_of es ++ ds
    → (forgotten_deadline r view).armed ≡ armed_of (remove_entry (nat_eq n) es) ++ ds
forgotten-armed None n top es ds view a s h v = v ∙ ap (λ x. armed_of x ++ ds) (sym (absent-stays n es (sym h)))
forgotten-armed (Some p) n top es ds view a s h v = disarmed-is n top p es ds view a s (sym h) v

forgotten-last : (r : Option Parked) (view : DeadlinesView) → (forgotten_deadline r view).last ≡ view.last
forgotten-last None view = refl
forgotten-last (Some p) view = disarmed-last p.deadline view

rises-next : (until : Option Ms) (n : ℕ) (view : DeadlinesView) (es : List Entry) → IsRising (view.last + 1) es
    → IsBelow ((armed_until until n view).last + 1) (next_number until view) × IsRising (bound ((armed_until until n view).last + 1) (next_number until view)) es
rises-next None n view es r = (tt, r)
rises-next (Some at) n view es r = (omega arith, r)

next-timed : (until : Option Ms) (view : DeadlinesView) → is_some (next_number until view) ≡ is_some until
next-timed None view = refl
next-timed (Some at) view = refl

first-of-key : (i : Idle) (b : Bool) (l : List Idle) → cond b (i.sock ∷ map (λ x. x.sock) l) (map (λ x. x.sock) l) ≡ map (λ x. x.sock) (cond b (i ∷ l) l)
first-of-key i true l = refl
first-of-key i false l = refl

pub puts : (i : Idle) (key : List ℕ) (deadline : Option ℕ) (es new : List Entry) (keys mid last-keys : Keys) (view last-view : DeadlinesView) (r : Option Parked) → IsPooled es keys view
    → key ≡ i.key → r ≡ lookup (nat_eq i.sock) es → new ≡ (i.sock, record { idle = i; deadline = deadline }) ∷ remove_entry (nat_eq i.sock) es
    → ((k : List ℕ) → socks_of mid k ≡ first_put key i.sock k (socks_of keys k)) → ((k : List ℕ) → socks_of last-keys k ≡ forgotten_key r key i.sock k (socks_of mid k))
    → deadline ≡ next_number i.until view → last-view ≡ forgotten_deadline r (armed_until i.until i.sock view) → IsPooled new last-keys last-view
puts i key deadline es new keys mid last-keys view last-view r old ke re ne mk lk de ve = subst (λ (x : List Entry). IsPooled x last-keys last-view) (sym ne) (record {
  each = (record { named = refl; timed = ap is_some de ∙ next-timed i.until view }, removed-each IsEntry i.sock es old.each);
  once = put-once i.sock (record { idle = i; deadline = deadline }) es old.once;
  keyed = keyed;
  armed = ap (λ v. v.armed) ve ∙ forgotten-armed r i.sock (view.last + 1) es (armed_for i.sock (next_number i.until view) i.until) (armed_until i.until i.sock view) old.each old.rising re (armed-more i.until i.sock es view old.armed)
      ∙ ap (λ d. armed_of (remove_entry (nat_eq i.sock) es) ++ armed_for i.sock d i.until) (sym de);
  rising = subst (λ (d : Option ℕ). IsBelow (last-view.last + 1) d × IsRising (bound (last-view.last + 1) d) (remove_entry (nat_eq i.sock) es)) (sym de)
      (subst (λ (m : ℕ). IsBelow (m + 1) (next_number i.until view) × IsRising (bound (m + 1) (next_number i.until view)) (remove_entry (nat_eq i.sock) es))
      (sym (ap (λ v. v.last) ve ∙ forgotten-last r (armed_until i.until i.sock view)))
      (rises-next i.until i.sock view (remove_entry (nat_eq i.sock) es) (removed-rises i.sock (view.last + 1) es old.rising)));
})
  where
    keyed : (k : List ℕ) → socks_of last-keys k ≡ map (λ x. x.sock) (of_key k (i ∷ idle_of (remove_entry (nat_eq i.sock) es)))
    keyed k =
        let t = map (λ (x : Idle). x.sock) (of_key k (without_socket i.sock (idle_of es))) in
        lk k ∙ ap (forgotten_key r key i.sock k) (mk k ∙ ap (first_put key i.sock k) (old.keyed k))
        ∙ keyed-put r key k i.sock (map (λ x. x.sock) (of_key k (idle_of es))) t (key-without i.sock k (idle_of es) (once-idle es keys view old)) (left-is i.sock k es r old.each re)
        ∙ ap (λ b. cond b (i.sock ∷ t) t) (nat_list_eq_equiv.symm key k ∙ ap (same_key k) ke)
        ∙ ap (λ l. cond (same_key k i.key) (i.sock ∷ map (λ (x : Idle). x.sock) (of_key k l)) (map (λ (x : Idle). x.sock) (of_key k l))) (sym (removed-is i.sock es old.each))
        ∙ first-of-key i (same_key k i.key) (of_key k (idle_of (remove_entry (nat_eq i.sock) es)))

undone-armed : (until : Option Ms) (n : ℕ) (es : List Entry) (view : DeadlinesView) → IsRising (view.last + 1) es → view.armed ≡ armed_of es → (disarmed (next_number until view) (armed_until until n view)).armed ≡ armed_of es
undone-armed None n es view r v = v
undone-armed (Some at) n es view r v =
    ap (λ l. remove_entry (nat_eq (view.last + 1)) (l ++ (view.last + 1, record { at = at; whose = whose.Idle n }) ∷ [])) v
    ∙ passed (view.last + 1) (view.last + 1) es ((view.last + 1, record { at = at; whose = whose.Idle n }) ∷ []) r (omega arith)
    ∙ ap (λ b. armed_of es ++ cond b [] ((view.last + 1, record { at = at; whose = whose.Idle n }) ∷ [])) (eq-eqb (view.last + 1) (view.last + 1) refl) ∙ append-nil (armed_of es)

undone-last : (until : Option Ms) (n : ℕ) (view : DeadlinesView) → view.last ≤ (disarmed (next_number until view) (armed_until until n view)).last
undone-last None n view = omega arith
undone-last (Some at) n view = omega arith

-- the deadline of a socket that isn't put is taken out
pub undone : (until : Option Ms) (n : ℕ) (deadline : Option ℕ) (es new : List Entry) (keys new-keys : Keys) (view last-view : DeadlinesView) → IsPooled es keys view → new ≡ es → ((k : List ℕ) → socks_of new-keys k ≡ socks_of keys k)
    → deadline ≡ next_number until view → last-view ≡ disarmed deadline (armed_until until n view) → IsPooled new new-keys last-view
undone until n deadline es new keys new-keys view last-view old e s de ve =
    let v = ve ∙ ap (λ d. disarmed d (armed_until until n view)) de in
    let l = ap (λ w. w.last) v in
    let m = undone-last until n view in
    subst (λ (x : List Entry). IsPooled x new-keys last-view) (sym e) (record {
      each = old.each;
      once = old.once;
      keyed = λ k. s k ∙ old.keyed k;
      armed = ap (λ w. w.armed) v ∙ undone-armed until n es view old.rising old.armed;
      rising = rises-more (view.last + 1) (last-view.last + 1) es (omega (arith, l, m)) old.rising;
    })

-- and so are the sockets of its key
pub undone-keys : (n : ℕ) (key k : List ℕ) (es : List Entry) (keys : Keys) (view : DeadlinesView) → IsPooled es keys view → lookup (nat_eq n) es ≡ None → left_out key n k (first_put key n k (socks_of keys k)) ≡ socks_of keys k
undone-keys n key k es keys view old h = put (same_key key k)
  where
    same : without n (socks_of keys k) ≡ socks_of keys k
    same = ap (without n) (old.keyed k) ∙ key-without n k (idle_of es) (once-idle es keys view old)
        ∙ ap (λ l. map (λ (i : Idle). i.sock) (of_key k l)) (none-idle n (idle_of es) (sym (found-idle n es None old.each (sym h)))) ∙ sym (old.keyed k)

    put : (c : Bool) → (if c then without n (if c then n ∷ without n (socks_of keys k) else socks_of keys k) else (if c then n ∷ without n (socks_of keys k) else socks_of keys k)) ≡ socks_of keys k
    put true = ap (λ b. if b then without n (socks_of keys k) else n ∷ without n (without n (socks_of keys k))) (eq-eqb n n refl) ∙ same
    put false = refl
