-- The deadlines that are armed: what of them is one strand's, and which is due first.
use Rattle.std.proofs.Common.{◌≡◌, ℕ, ◌<◌, ◌≤◌, ◌==◌, ◌&&◌, nat_le, Bool, true, false, List, [], ◌∷◌, ◌++◌, length, Option, Some, None, if◌then◌else◌, refl, sym, ap, subst, ◌∙◌, arith}
use Rattle.std.proofs.lemmas.Bool.{eqb-true}
use Rattle.std.proofs.lemmas.Bool.Decides.{nat_tests}
use Rattle.std.proofs.lemmas.Option.{same_Some}
use Rattle.resty_base.specs.declared.names.StrandId.{StrandId}
use Rattle.resty_base.specs.declared.names.StrandId.TheVariants as strand
use Rattle.resty_base.specs.BoolLaws.{by_test, clash}
use Rattle.resty_world.specs.Ids.{same_strand}
use Rattle.resty_world.specs.IdLaws.{same_strand-self, same_strand-eq}
use Rattle.strand_contract.specs.Actions.{LocalAction}
use Rattle.strand_contract.specs.Behaviors.{Behavior}
use Rattle.strand_contract.specs.Alone.{is_waking, NoneIsDue, due, sooner as sooner_own}
use Rattle.executions.specs.Executions.{GlobalAction}
use Rattle.executions.specs.Phases.{Phase, Waking, Stopping, Running, phase}
use Rattle.executions.specs.Agenda.{Whose, OfStrand, OfJob, OfIdle, without_one, without_those, is_number, is_of, sooner, least, whose, next_due}
use Rattle.executions.specs.OwnDeadlines.{own_of, deadlines}
use Rattle.engine_base.specs.declared.seats.ToCome.{ToCome}
use Rattle.engine_base.specs.declared.seats.ToCome.TheVariants as coming
use Rattle.engine_base.specs.Standing.{phase_at, HasCome, MayWake}

-- a turn's phase fits what is still to come
pub come-of : {J : Type 0} (o : ToCome) (b : Behavior J) (ms : List (GlobalAction J)) → phase ms ≡ phase_at o → HasCome o b ms
come-of coming.Nothing b ms e = λ waking. absurd (let w : Waking ≡ Running = sym waking ∙ e in cc)
come-of coming.Wakings b ms e = e
come-of (coming.Endings last) b ms e = e

-- and so it does where what is still to come stays the same
pub come-same : {J : Type 0} (o o' : ToCome) (b : Behavior J) (ms : List (GlobalAction J)) → o' ≡ o → HasCome o b ms → HasCome o' b ms
come-same o o' b ms e h = subst (λ (r : ToCome). HasCome r b ms) (sym e) h

-- a strand whose turn it was may be woken, or nothing of it is due
pub may-wake : {J : Type 0} (v : Bool) (b : Behavior J) (es : List (LocalAction J)) → is_waking es ≡ v → MayWake v b es
may-wake true b es e = e
may-wake false b es e = λ waking. clash waking e

pub wake-same : {J : Type 0} (v v' : Bool) (b : Behavior J) (es : List (LocalAction J)) → v' ≡ v → MayWake v b es → MayWake v' b es
wake-same v v' b es e h = subst (λ (r : Bool). MayWake r b es) (sym e) h

-- a test that is true of nothing of the strand
abbrev Spares : (Whose → Bool) → StrandId → Type 0
Spares is_so s = (r : StrandId) (j : ℕ) → same_strand s r ≡ true → is_so (OfStrand r j) ≡ false

off-by : (t s r : StrandId) → same_strand t s ≡ false → same_strand t r ≡ true → same_strand s r ≡ false
off-by t s r ne on = by_test (same_strand s r) (λ h. clash on (subst (λ (x : StrandId). same_strand t x ≡ false) (same_strand-eq s r h) ne)) (λ off. off)

spares-number : (t s : StrandId) (k : ℕ) → same_strand t s ≡ false → Spares (is_number s k) t
spares-number t s k ne r j on = ap (λ v. v && (k == j)) (off-by t s r ne on)

spares-of : (t s : StrandId) → same_strand t s ≡ false → Spares (is_of s) t
spares-of t (strand.Conn c) ne r j on = off-by t (strand.Conn c) r ne on
spares-of t (strand.Job i) ne r j on = off-by t (strand.Job i) r ne on

spared-one : (is_so : Whose → Bool) (s : StrandId) (ds : List (Whose × ℕ)) → Spares is_so s → deadlines s (without_one is_so ds) ≡ deadlines s ds
spared-one is_so s [] p = refl
spared-one is_so s (d ∷ ds) p = put d.0 (is_so d.0) refl (spared-one is_so s ds p)
  where
    put : (w : Whose) (c : Bool) → is_so w ≡ c → deadlines s (without_one is_so ds) ≡ deadlines s ds → deadlines s (if c then ds else (w, d.1) ∷ without_one is_so ds) ≡ own_of s w d.1 (deadlines s ds)
    put (OfStrand r j) true e ih = by_test (same_strand s r) (λ on. clash e (p r j on)) (λ off. sym (ap (λ c. if c then (j, d.1) ∷ deadlines s ds else deadlines s ds) off))
    put (OfJob j) true e ih = refl
    put (OfIdle n) true e ih = refl
    put w false e ih = ap (λ r. own_of s w d.1 r) ih

spared-those : (is_so : Whose → Bool) (s : StrandId) (ds : List (Whose × ℕ)) → Spares is_so s → deadlines s (without_those is_so ds) ≡ deadlines s ds
spared-those is_so s [] p = refl
spared-those is_so s (d ∷ ds) p = put d.0 (is_so d.0) refl (spared-those is_so s ds p)
  where
    put : (w : Whose) (c : Bool) → is_so w ≡ c → deadlines s (without_those is_so ds) ≡ deadlines s ds → deadlines s (if c then without_those is_so ds else (w, d.1) ∷ without_those is_so ds) ≡ own_of s w d.1 (deadlines s ds)
    put (OfStrand r j) true e ih = by_test (same_strand s r) (λ on. clash e (p r j on)) (λ off. ih ∙ sym (ap (λ c. if c then (j, d.1) ∷ deadlines s ds else deadlines s ds) off))
    put (OfJob j) true e ih = ih
    put (OfIdle n) true e ih = ih
    put w false e ih = ap (λ r. own_of s w d.1 r) ih

-- another strand's deadline that leaves or comes changes none of a strand's
pub other-one : (t s : StrandId) (k : ℕ) (ds : List (Whose × ℕ)) → same_strand t s ≡ false → deadlines t (without_one (is_number s k) ds) ≡ deadlines t ds
other-one t s k ds ne = spared-one (is_number s k) t ds (spares-number t s k ne)

pub other-those : (t s : StrandId) (ds : List (Whose × ℕ)) → same_strand t s ≡ false → deadlines t (without_those (is_of s) ds) ≡ deadlines t ds
other-those t s ds ne = spared-those (is_of s) t ds (spares-of t s ne)

pub other-end : (t s : StrandId) (k at : ℕ) (ds : List (Whose × ℕ)) → same_strand t s ≡ false → deadlines t (ds ++ (OfStrand s k, at) ∷ []) ≡ deadlines t ds
other-end t s k at [] ne = ap (λ v. if v then (k, at) ∷ [] else []) ne
other-end t s k at (d ∷ ds) ne = ap (λ r. own_of t d.0 d.1 r) (other-end t s k at ds ne)

-- where all of a strand's leave, none of it is left
pub none-left : (s : StrandId) (ds : List (Whose × ℕ)) → deadlines s (without_those (is_of s) ds) ≡ []
none-left s [] = refl
none-left s (d ∷ ds) = put s d.0 (none-left s ds)
  where
    strands : (v : Bool) (j : ℕ) (s : StrandId) (r : StrandId) → same_strand s r ≡ v → deadlines s (without_those (is_of s) ds) ≡ [] → deadlines s (if v then without_those (is_of s) ds else (OfStrand r j, d.1) ∷ without_those (is_of s) ds) ≡ []
    strands true j s r e ih = ih
    strands false j s r e ih = ap (λ v. if v then (j, d.1) ∷ deadlines s (without_those (is_of s) ds) else deadlines s (without_those (is_of s) ds)) e ∙ ih

    jobs : (v : Bool) (j : ℕ) (s : StrandId) → deadlines s (without_those (is_of s) ds) ≡ [] → deadlines s (if v then without_those (is_of s) ds else (OfJob j, d.1) ∷ without_those (is_of s) ds) ≡ []
    jobs true j s ih = ih
    jobs false j s ih = ih

    put : (s : StrandId) (w : Whose) → deadlines s (without_those (is_of s) ds) ≡ [] → deadlines s (if is_of s w then without_those (is_of s) ds else (w, d.1) ∷ without_those (is_of s) ds) ≡ []
    put (strand.Conn c) (OfStrand r j) ih = strands (same_strand (strand.Conn c) r) j (strand.Conn c) r refl ih
    put (strand.Job i) (OfStrand r j) ih = strands (same_strand (strand.Job i) r) j (strand.Job i) r refl ih
    put (strand.Conn c) (OfJob j) ih = ih
    put (strand.Job i) (OfJob j) ih = jobs (i == j) j (strand.Job i) ih
    put (strand.Conn c) (OfIdle n) ih = ih
    put (strand.Job i) (OfIdle n) ih = ih

-- which of a strand's deadlines is due first, against the first of all: none where none is; no earlier one; and the same where that is the strand's
pub record IsOwnFirst (s : StrandId) (first : Option (Whose × ℕ)) (own : Option (ℕ × ℕ)) : Type 0 where
  pub none : first ≡ None → own ≡ None
  pub later : (e : Whose × ℕ) (f : ℕ × ℕ) → first ≡ Some e → own ≡ Some f → e.1 ≤ f.1
  pub same : (k at : ℕ) → first ≡ Some (OfStrand s k, at) → own ≡ Some (k, at)

some-none : {A : Type 0} (x : A) → Some x ≡ None → ⊥
some-none x e = cc

second-same : {A B : Type 0} (p q : A × B) → Some p ≡ Some q → p.1 ≡ q.1
second-same p q e = cc

-- a strand's own number and moment, where the deadline is a strand's, and whose it is
abbrev own_at : Whose → ℕ → Option (ℕ × ℕ)
own_at (OfStrand t k) at = Some (k, at)
own_at w at = None

abbrev own_in : Option (Whose × ℕ) → Option (ℕ × ℕ)
own_in None = None
own_in (Some d) = own_at d.0 d.1

abbrev whom : StrandId → Whose → StrandId
whom s (OfStrand t k) = t
whom s w = s

module _ (s : StrandId) where
  both : (j at : ℕ) → IsOwnFirst s (Some (OfStrand s j, at)) (Some (j, at))
  both j at = record {
    none = λ i. absurd (some-none (OfStrand s j, at) i);
    later = λ e f i k. let a : at ≡ e.1 = second-same (OfStrand s j, at) e i in let b : at ≡ f.1 = second-same (j, at) f k in omega (arith, a, b);
    same = λ k a i. ap own_in i;
  }

  neither : IsOwnFirst s None None
  neither = record {
    none = λ i. refl;
    later = λ e f i k. absurd (some-none e (sym i));
    same = λ k a i. absurd (some-none (OfStrand s k, a) (sym i));
  }

  -- no deadline of the strand is the first
  not-own : (e : Whose × ℕ) (q : Option (ℕ × ℕ)) → ((f : ℕ × ℕ) → q ≡ Some f → e.1 ≤ f.1) → ((k at : ℕ) → e ≡ (OfStrand s k, at) → q ≡ Some (k, at)) → IsOwnFirst s (Some e) q
  not-own e q low own = record {
    none = λ i. absurd (some-none e i);
    later = λ x f i k. let a : e.1 ≡ x.1 = second-same e x i in let b = low f k in omega (arith, a, b);
    same = λ k a i. own k a (same_Some e (OfStrand s k, a) i);
  }

  module _ (now j at : ℕ) where
    own-step : (r : Option (Whose × ℕ)) (q : Option (ℕ × ℕ)) → IsOwnFirst s r q → IsOwnFirst s (sooner now (OfStrand s j, at) r) (sooner_own now (j, at) q)
    own-step None None h = one (nat_le at now)
      where
        one : (p : Bool) → IsOwnFirst s (if p then Some (OfStrand s j, at) else None) (if p then Some (j, at) else None)
        one true = both j at
        one false = neither
    own-step None (Some f) h = absurd (some-none f (h.none refl))
    own-step (Some e) None h = one (nat_le at now) (nat_le at e.1) refl
      where
        one : (p m : Bool) → nat_le at e.1 ≡ m → IsOwnFirst s (if p && m then Some (OfStrand s j, at) else Some e) (if p then Some (j, at) else None)
        one true true m = both j at
        one true false m = not-own e (Some (j, at)) (λ f k. let b : at ≡ f.1 = second-same (j, at) f k in let l : e.1 ≤ at = grind (arith, nat_tests) in omega (arith, b, l)) (λ k a i. absurd (some-none (k, a) (sym (h.same k a (ap Some i)))))
        one false true m = h
        one false false m = h
    own-step (Some e) (Some f) h = one (nat_le at now) (nat_le at e.1) (nat_le at f.1) refl refl
      where
        low : e.1 ≤ f.1
        low = h.later e f refl refl

        one : (p m n : Bool) → nat_le at e.1 ≡ m → nat_le at f.1 ≡ n → IsOwnFirst s (if p && m then Some (OfStrand s j, at) else Some e) (if p && n then Some (j, at) else Some f)
        one true true true m n = both j at
        one true true false m n = absurd (let l = low in grind (arith, nat_tests))
        one true false true m n = not-own e (Some (j, at)) (λ g k. let b : at ≡ g.1 = second-same (j, at) g k in let l : e.1 ≤ at = grind (arith, nat_tests) in omega (arith, b, l))
            (λ k a i. absurd (let same : Some f ≡ Some (k, a) = h.same k a (ap Some i) in let x : f.1 ≡ a = second-same f (k, a) same in let y : e.1 ≡ a = ap (λ (d : Whose × ℕ). d.1) i in let z : f.1 ≡ e.1 = x ∙ sym y in clash (subst (λ (v : ℕ). nat_le at v ≡ true) z n) m))
        one true false false m n = h
        one false m n x y = h

    other-step : (w : Whose) (r : Option (Whose × ℕ)) (q : Option (ℕ × ℕ)) → ((k : ℕ) → w ≡ OfStrand s k → ⊥) → IsOwnFirst s r q → IsOwnFirst s (sooner now (w, at) r) q
    other-step w None None off h = one (nat_le at now)
      where
        one : (p : Bool) → IsOwnFirst s (if p then Some (w, at) else None) None
        one true = not-own (w, at) None (λ f k. absurd (some-none f (sym k))) (λ k a i. absurd (off k (ap (λ (d : Whose × ℕ). d.0) i)))
        one false = neither
    other-step w None (Some f) off h = absurd (some-none f (h.none refl))
    other-step w (Some e) q off h = one (nat_le at now) (nat_le at e.1) refl
      where
        one : (p m : Bool) → nat_le at e.1 ≡ m → IsOwnFirst s (if p && m then Some (w, at) else Some e) q
        one true true m = not-own (w, at) q (λ f k. let l : e.1 ≤ f.1 = h.later e f refl k in let a : at ≤ e.1 = grind (arith, nat_tests) in omega (arith, l, a)) (λ k a i. absurd (off k (ap (λ (d : Whose × ℕ). d.0) i)))
        one true false m = h
        one false m x = h

  pub own-first : (now : ℕ) (ds : List (Whose × ℕ)) → IsOwnFirst s (least now ds) (due now (deadlines s ds))
  own-first now [] = neither
  own-first now (d ∷ ds) = put d.0 (own-first now ds)
    where
      put : (w : Whose) → IsOwnFirst s (least now ds) (due now (deadlines s ds)) → IsOwnFirst s (sooner now (w, d.1) (least now ds)) (due now (own_of s w d.1 (deadlines s ds)))
      put (OfStrand t j) ih = by_test (same_strand s t)
          (λ on. subst (λ (v : Bool). IsOwnFirst s (sooner now (OfStrand t j, d.1) (least now ds)) (due now (if v then (j, d.1) ∷ deadlines s ds else deadlines s ds))) (sym on)
          (subst (λ (x : StrandId). IsOwnFirst s (sooner now (OfStrand x j, d.1) (least now ds)) (due now ((j, d.1) ∷ deadlines s ds))) (same_strand-eq s t on) (own-step now j d.1 (least now ds) (due now (deadlines s ds)) ih)))
          (λ off. subst (λ (v : Bool). IsOwnFirst s (sooner now (OfStrand t j, d.1) (least now ds)) (due now (if v then (j, d.1) ∷ deadlines s ds else deadlines s ds))) (sym off)
          (other-step now j d.1 (OfStrand t j) (least now ds) (due now (deadlines s ds)) (λ k e. let r : t ≡ s = ap (whom s) e in clash (subst (λ (x : StrandId). same_strand s x ≡ true) (sym r) (same_strand-self s)) off) ih))
      put (OfJob j) ih = other-step now j d.1 (OfJob j) (least now ds) (due now (deadlines s ds)) (λ k e. cc) ih
      put (OfIdle n) ih = other-step now n d.1 (OfIdle n) (least now ds) (due now (deadlines s ds)) (λ k e. cc) ih

-- whose is first is armed, and its moment is known
pub first-at : (first : Option (Whose × ℕ)) (w : Whose) → whose first ≡ Some w → (at : ℕ) × (first ≡ Some (w, at))
first-at None w e = absurd (some-none w (sym e))
first-at (Some d) w e = (d.1, ap (λ v. Some (v, d.1)) (same_Some d.0 w e))

-- nobody's is first
pub first-none : (first : Option (Whose × ℕ)) → whose first ≡ None → first ≡ None
first-none None e = refl
first-none (Some d) e = absurd (some-none d.0 e)

-- none gets longer by what leaves, and one that is first leaves
pub not-longer : (is_so : Whose → Bool) (ds : List (Whose × ℕ)) → length (without_one is_so ds) ≤ length ds
not-longer is_so [] = omega arith
not-longer is_so (d ∷ ds) = put (is_so d.0) (not-longer is_so ds)
  where
    put : (v : Bool) → length (without_one is_so ds) ≤ length ds → length (if v then ds else d ∷ without_one is_so ds) ≤ length (d ∷ ds)
    put true h = omega arith
    put false h = omega (arith, h)

pub all-not-longer : (is_so : Whose → Bool) (ds : List (Whose × ℕ)) → length (without_those is_so ds) ≤ length ds
all-not-longer is_so [] = omega arith
all-not-longer is_so (d ∷ ds) = put (is_so d.0) (all-not-longer is_so ds)
  where
    put : (v : Bool) → length (without_those is_so ds) ≤ length ds → length (if v then without_those is_so ds else d ∷ without_those is_so ds) ≤ length (d ∷ ds)
    put true h = omega (arith, h)
    put false h = omega (arith, h)

abbrev IsShorter : StrandId → ℕ → ℕ → List (Whose × ℕ) → Type 0
IsShorter s k now ds = whose (least now ds) ≡ Some (OfStrand s k) → length (without_one (is_number s k) ds) < length ds

pub shorter : (s : StrandId) (k now : ℕ) (ds : List (Whose × ℕ)) → whose (least now ds) ≡ Some (OfStrand s k) → length (without_one (is_number s k) ds) < length ds
shorter s k now [] e = absurd (some-none (OfStrand s k) (sym e))
shorter s k now (d ∷ ds) e = put (shorter s k now ds) (is_number s k d.0) refl
  where
    own : (w : Whose) → w ≡ OfStrand s k → is_number s k w ≡ true
    own w f = ap (is_number s k) f ∙ ap (λ v. v && (k == k)) (same_strand-self s) ∙ same_strand-self (strand.Conn k)

    rest : IsShorter s k now ds → is_number s k d.0 ≡ false → (o : Option (Whose × ℕ)) → least now ds ≡ o → whose (sooner now d o) ≡ Some (OfStrand s k) → length (without_one (is_number s k) ds) < length ds
    rest ih off None l f = alone (nat_le d.1 now) f
      where
        alone : (p : Bool) → whose (if p then Some d else None) ≡ Some (OfStrand s k) → length (without_one (is_number s k) ds) < length ds
        alone true g = clash (own d.0 (same_Some d.0 (OfStrand s k) g)) off
        alone false g = absurd (some-none (OfStrand s k) (sym g))
    rest ih off (Some r) l f = one (nat_le d.1 now && nat_le d.1 r.1) f
      where
        one : (p : Bool) → whose (if p then Some d else Some r) ≡ Some (OfStrand s k) → length (without_one (is_number s k) ds) < length ds
        one true g = clash (own d.0 (same_Some d.0 (OfStrand s k) g)) off
        one false g = ih (ap whose l ∙ g)

    put : IsShorter s k now ds → (v : Bool) → is_number s k d.0 ≡ v → length (if v then ds else d ∷ without_one (is_number s k) ds) < length (d ∷ ds)
    put ih true on = omega arith
    put ih false off = let h = rest ih off (least now ds) refl e in omega (arith, h)
