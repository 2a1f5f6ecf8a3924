-- The deadline that is due first is that of the socket whose time is over first.
use Rattle.std.proofs.Common.{◌≡◌, ℕ, ◌+◌, ◌<◌, ◌≤◌, ◌⊎◌, nat_eq, nat_le, Bool, true, false, cond, List, [], ◌∷◌, ◌++◌, is_some, Option, Some, None, option_map, refl, sym, ap, ◌∙◌, inl, inr, arith, rules, subst, append-nil, if◌then◌else◌}
use Rattle.std.proofs.lemmas.Bool.{eq-eqb}
use Rattle.std.proofs.lemmas.Bool.Decides.{nat_tests}
use Rattle.std.proofs.lemmas.Cmp.{nat_eq_equiv}
use Rattle.std.proofs.lemmas.Map.Keys.{IsDistinct-head, IsDistinct-tail}
use Rattle.std.specs.List.{AllByRecursion, IsDistinct}
use Rattle.std.specs.Map.{keys_of, lookup, remove_entry}
use Rattle.resty_base.specs.declared.names.Ms.{Ms}
use Rattle.shared_rules.specs.declared.sockets.Idle.{Idle}
use Rattle.shared_rules.specs.Pool.{is_over, ends_by, sooner as sooner_idle, over_first}
use Rattle.wakes.specs.declared.deadlines.Whose.TheVariants as whose
use Rattle.wakes.specs.Times.{Deadline, DeadlinesView, sooner, soonest, if_due, due_at, without_any}
use Rattle.sock_pool.specs.declared.keys.Keys.{Keys}
use Rattle.sock_pool.specs.declared.pool.Parked.{Parked}
use Rattle.sock_pool.specs.Kept.{Entry, IsEntry, idle_of, armed_for, armed_of, IsPooled}
use Rattle.sock_pool.specs.Changes.{idle_socket, socket_of, without_due}
use Rattle.sock_pool.proofs.Entries.{entry-of}
use Rattle.sock_pool.proofs.Armed.{taken-armed}

at-most : (x y : ℕ) → nat_le x y ≡ true → x ≤ y
at-most x y h = search (nat_tests, rules)

above : (x y : ℕ) → nat_le x y ≡ false → y < x
above x y h = search (nat_tests, rules)

-- the first of those before, and of one that was armed after them
abbrev later : Option Deadline → Deadline → Deadline
later None d = d
later (Some a) d = if nat_le a.1.at.0 d.1.at.0 then a else d

sooner-later : (x : Deadline) (o : Option Deadline) (d : Deadline) → sooner x (Some (later o d)) ≡ later (Some (sooner x o)) d
sooner-later x None d = refl
sooner-later x (Some a) d = put (nat_le a.1.at.0 d.1.at.0) (nat_le x.1.at.0 a.1.at.0) (nat_le x.1.at.0 d.1.at.0) refl refl refl
  where
    put : (p q r : Bool) → nat_le a.1.at.0 d.1.at.0 ≡ p → nat_le x.1.at.0 a.1.at.0 ≡ q → nat_le x.1.at.0 d.1.at.0 ≡ r → sooner x (Some (if p then a else d)) ≡ later (Some (if q then x else a)) d
    put true true true p q r = ap (λ b. if b then x else a) q ∙ sym (ap (λ b. if b then x else d) r)
    put true true false p q r = let f = at-most a.1.at.0 d.1.at.0 p in let g = at-most x.1.at.0 a.1.at.0 q in let h = above x.1.at.0 d.1.at.0 r in absurd (omega (arith, f, g, h))
    put true false r p q e = ap (λ b. if b then x else a) q ∙ sym (ap (λ b. if b then a else d) p)
    put false true r p q e = refl
    put false false true p q r = let f = above a.1.at.0 d.1.at.0 p in let g = above x.1.at.0 a.1.at.0 q in let h = at-most x.1.at.0 d.1.at.0 r in absurd (omega (arith, f, g, h))
    put false false false p q r = ap (λ b. if b then x else d) r ∙ sym (ap (λ b. if b then a else d) p)

soonest-last : (ds : List Deadline) (d : Deadline) → soonest (ds ++ d ∷ []) ≡ Some (later (soonest ds) d)
soonest-last [] d = refl
soonest-last (x ∷ ds) d = ap (λ o. Some (sooner x o)) (soonest-last ds d) ∙ ap Some (sooner-later x (soonest ds) d)

abbrev IsIn : Entry → List Entry → Type 0
IsIn e [] = ⊥
IsIn e (x ∷ es) = (x ≡ e) ⊎ IsIn e es

in-apart : (n : ℕ) (e : Entry) (es : List Entry) → AllByRecursion (λ m. nat_eq n m ≡ false) (keys_of es) → IsIn e es → nat_eq n e.0 ≡ false
in-apart n e [] a h = absurd h
in-apart n e (x ∷ es) a (inl f) = subst (λ (y : Entry). nat_eq n y.0 ≡ false) f a.0
in-apart n e (x ∷ es) a (inr h) = in-apart n e es a.1 h

looked-up : (e : Entry) (es : List Entry) → IsDistinct nat_eq (keys_of es) → IsIn e es → lookup (nat_eq e.0) es ≡ Some e.1
looked-up e [] d h = absurd h
looked-up e (x ∷ es) d (inl f) = ap (λ b. cond b (Some x.1) (lookup (nat_eq e.0) es)) (eq-eqb e.0 x.0 (ap (λ (y : Entry). y.0) (sym f))) ∙ ap (λ (y : Entry). Some y.1) f
looked-up e (x ∷ es) d (inr h) =
    ap (λ b. cond b (Some x.1) (lookup (nat_eq e.0) es)) (nat_eq_equiv.symm e.0 x.0 ∙ in-apart x.0 e es (IsDistinct-head nat_eq x.0 (keys_of es) d) h)
    ∙ looked-up e es (IsDistinct-tail nat_eq x.0 (keys_of es) d) h

-- the deadline is that of the idle socket of an entry
record IsDeadline (es : List Entry) (i : Idle) (d : Deadline) : Type 0 where
  e : Entry
  within : IsIn e es
  idle : e.1.idle ≡ i
  number : e.1.deadline ≡ Some d.0
  for : d.1.whose ≡ whose.Idle e.0
  until : i.until ≡ Some d.1.at

abbrev Fits : List Entry → Option Idle → Option Deadline → Type 0
Fits es None None = Unit {0}
Fits es (Some i) (Some d) = IsDeadline es i d
Fits es None (Some d) = ⊥
Fits es (Some i) None = ⊥

wider : (e : Entry) (es : List Entry) (o : Option Idle) (s : Option Deadline) → Fits es o s → Fits (e ∷ es) o s
wider e es None None h = tt
wider e es (Some i) (Some d) h = record { e = h.e; within = inr h.within; idle = h.idle; number = h.number; for = h.for; until = h.until }
wider e es None (Some d) h = h
wider e es (Some i) None h = h

module _ (now : ℕ) (e : Entry) (es : List Entry) (k : ℕ) (at : Ms) (number : e.1.deadline ≡ Some k) (until : e.1.idle.until ≡ Some at) where
  abbrev mine : Deadline
  mine = (k, record { at = at; whose = whose.Idle e.0 })

  own : IsDeadline (e ∷ es) e.1.idle mine
  own = record { e = e; within = inl refl; idle = refl; number = number; for = refl; until = until }

  only : (b : Bool) → Fits (e ∷ es) (if b then Some e.1.idle else None) (if b then Some mine else None)
  only true = own
  only false = tt

  due-own : nat_le at.0 now ≡ true → Fits (e ∷ es) (Some e.1.idle) (if_due now (Some mine))
  due-own q = subst (λ (b : Bool). Fits (e ∷ es) (Some e.1.idle) (if b then Some mine else None)) (sym q) own

  due-other : (a : Deadline) (o : Option Idle) (x : Bool) → nat_le a.1.at.0 now ≡ x → Fits es o (if x then Some a else None) → Fits (e ∷ es) o (if_due now (Some a))
  due-other a o x q f = subst (λ (b : Bool). Fits (e ∷ es) o (if b then Some a else None)) (sym q) (wider e es o (if x then Some a else None) f)

  both-over : (a : Deadline) (j : Idle) (y : Bool) → nat_le a.1.at.0 now ≡ true → nat_le at.0 now ≡ true → nat_le a.1.at.0 at.0 ≡ y → IsDeadline es j a
      → Fits (e ∷ es) (sooner_idle e.1.idle (Some j)) (if_due now (Some (if y then a else mine)))
  both-over a j y xq bq yq f = put y yq
    where
      ends : (c : Bool) → nat_le a.1.at.0 at.0 ≡ c → ends_by e.1.idle.until j.until ≡ c
      ends c q = (λ i. ends_by (until i) (f.until i)) ∙ q

      put : (c : Bool) → nat_le a.1.at.0 at.0 ≡ c → Fits (e ∷ es) (sooner_idle e.1.idle (Some j)) (if_due now (Some (if c then a else mine)))
      put true q = subst (λ (b : Bool). Fits (e ∷ es) (if b then Some j else Some e.1.idle) (if_due now (Some a))) (sym (ends true q)) (due-other a (Some j) true xq f)
      put false q = subst (λ (b : Bool). Fits (e ∷ es) (if b then Some j else Some e.1.idle) (if_due now (Some mine))) (sym (ends false q)) (due-own bq)

  with-other : (a : Deadline) (x b y : Bool) → nat_le a.1.at.0 now ≡ x → nat_le at.0 now ≡ b → nat_le a.1.at.0 at.0 ≡ y → (o : Option Idle) → Fits es o (if x then Some a else None)
      → Fits (e ∷ es) (if b then sooner_idle e.1.idle o else o) (if_due now (Some (if y then a else mine)))
  with-other a true b y xq bq yq None f = absurd f
  with-other a true true y xq bq yq (Some j) f = both-over a j y xq bq yq f
  with-other a true false true xq bq yq (Some j) f = due-other a (Some j) true xq f
  with-other a true false false xq bq yq (Some j) f =
      let p = at-most a.1.at.0 now xq in let q = above at.0 now bq in let r = above a.1.at.0 at.0 yq in absurd (omega (arith, p, q, r))
  with-other a false b y xq bq yq (Some j) f = absurd f
  with-other a false true true xq bq yq None f =
      let p = above a.1.at.0 now xq in let q = at-most at.0 now bq in let r = at-most a.1.at.0 at.0 yq in absurd (omega (arith, p, q, r))
  with-other a false true false xq bq yq None f = due-own bq
  with-other a false false true xq bq yq None f = due-other a None false xq f
  with-other a false false false xq bq yq None f = subst (λ (b : Bool). Fits (e ∷ es) None (if b then Some mine else None)) (sym bq) tt

  one-more : (o : Option Idle) (s : Option Deadline) → Fits es o (if_due now s) → Fits (e ∷ es) (if nat_le at.0 now then sooner_idle e.1.idle o else o) (if_due now (Some (later s mine)))
  one-more None None f = only (nat_le at.0 now)
  one-more (Some j) None f = absurd f
  one-more o (Some a) f = with-other a (nat_le a.1.at.0 now) (nat_le at.0 now) (nat_le a.1.at.0 at.0) refl refl refl o f

fits : (now : ℕ) (es : List Entry) → AllByRecursion IsEntry es → Fits es (over_first now (idle_of es)) (if_due now (soonest (armed_of es)))
fits now [] a = tt
fits now (e ∷ es) a = put e.1.deadline e.1.idle.until refl refl a.0.timed (fits now es a.1)
  where
    put : (d : Option ℕ) (u : Option Ms) → e.1.deadline ≡ d → e.1.idle.until ≡ u → is_some d ≡ is_some u → Fits es (over_first now (idle_of es)) (if_due now (soonest (armed_of es)))
        → Fits (e ∷ es) (if is_over now u then sooner_idle e.1.idle (over_first now (idle_of es)) else over_first now (idle_of es)) (if_due now (soonest (armed_of es ++ armed_for e.0 d u)))
    put None None n u t f = subst (λ (l : List Deadline). Fits (e ∷ es) (over_first now (idle_of es)) (if_due now (soonest l))) (sym (append-nil (armed_of es))) (wider e es (over_first now (idle_of es)) (if_due now (soonest (armed_of es))) f)
    put (Some k) None n u t f = absurd (let g : true ≡ false = t in cc)
    put None (Some at) n u t f = absurd (let g : false ≡ true = t in cc)
    put (Some k) (Some at) n u t f =
        subst (λ (s : Option Deadline). Fits (e ∷ es) (if nat_le at.0 now then sooner_idle e.1.idle (over_first now (idle_of es)) else over_first now (idle_of es)) (if_due now s))
        (sym (soonest-last (armed_of es) (k, record { at = at; whose = whose.Idle e.0 })))
        (one-more now e es k at n u (over_first now (idle_of es)) (soonest (armed_of es)) f)

-- nothing is due
pub none-over : (now : ℕ) (es : List Entry) (keys : Keys) (view : DeadlinesView) → IsPooled es keys view → None ≡ socket_of (due_at now view.armed) → (over_first now (idle_of es) ≡ None) × (without_due now view ≡ view)
none-over now es keys view old h = put (over_first now (idle_of es)) (if_due now (soonest (armed_of es))) refl (ap (due_at now) old.armed) (fits now es old.each)
  where
    put : (o : Option Idle) (s : Option Deadline) → over_first now (idle_of es) ≡ o → due_at now view.armed ≡ s → Fits es o s → (over_first now (idle_of es) ≡ None) × (without_due now view ≡ view)
    put None None p q f = (p, ap (λ d. record view { armed = without_any d view.armed }) q)
    put (Some i) (Some d) p q f = absurd (let g : None ≡ Some f.e.0 = h ∙ ap socket_of q ∙ ap idle_socket f.for in cc)
    put None (Some d) p q f = absurd f
    put (Some i) None p q f = absurd f

-- the socket of the deadline that is due is the first whose time is over
pub record IsOver (now n : ℕ) (es : List Entry) (view : DeadlinesView) : Type 0 where
  pub parked : Parked
  pub found : lookup (nat_eq n) es ≡ Some parked
  pub first : option_map (λ (i : Idle). i.sock) (over_first now (idle_of es)) ≡ Some n
  pub armed : (without_due now view).armed ≡ armed_of (remove_entry (nat_eq n) es)

pub one-over : (now n : ℕ) (es : List Entry) (keys : Keys) (view : DeadlinesView) → IsPooled es keys view → Some n ≡ socket_of (due_at now view.armed) → IsOver now n es view
one-over now n es keys view old h = put (over_first now (idle_of es)) (if_due now (soonest (armed_of es))) refl (ap (due_at now) old.armed) (fits now es old.each)
  where
    of : (i : Idle) (d : Deadline) → over_first now (idle_of es) ≡ Some i → due_at now view.armed ≡ Some d → (f : IsDeadline es i d) → n ≡ f.e.0 → IsOver now n es view
    of i d p q f s =
        let at = looked-up f.e es old.once f.within in
        let there : lookup (nat_eq n) es ≡ Some f.e.1 = ap (λ (m : ℕ). lookup (nat_eq m) es) s ∙ at in
        let entry = entry-of n es f.e.1 old.each there in
        record {
          parked = f.e.1;
          found = there;
          first = ap (option_map (λ (x : Idle). x.sock)) p ∙ ap Some (ap (λ (x : Idle). x.sock) (sym f.idle) ∙ sym entry.named);
          armed = ap (λ x. without_any x view.armed) q ∙ ap (remove_entry (nat_eq d.0)) (old.armed ∙ sym (append-nil (armed_of es)))
              ∙ taken-armed n d.0 (view.last + 1) f.e.1 es [] old.rising there f.number entry.timed ∙ append-nil (armed_of (remove_entry (nat_eq n) es));
        }

    put : (o : Option Idle) (s : Option Deadline) → over_first now (idle_of es) ≡ o → due_at now view.armed ≡ s → Fits es o s → IsOver now n es view
    put None None p q f = absurd (let g : Some n ≡ None = h ∙ ap socket_of q in cc)
    put (Some i) (Some d) p q f = of i d p q f (let g : Some n ≡ Some f.e.0 = h ∙ ap socket_of q ∙ ap idle_socket f.for in let r : n ≡ f.e.0 = cc in r)
    put None (Some d) p q f = absurd f
    put (Some i) None p q f = absurd f
