-- Which deadline comes first: of all that are armed, and in the words of executions.
use Rattle.std.proofs.Common.{◌≡◌, ℕ, ◌==◌, ◌&&◌, Bool, true, false, List, [], ◌∷◌, Option, Some, None, IfSome, option_map, nat_le, if◌then◌else◌, refl, sym, ap, subst, ◌∙◌, rules}
use Rattle.std.proofs.lemmas.Bool.{eq-eqb, eqb-true}
use Rattle.std.proofs.lemmas.Bool.Decides.{nat_tests}
use Rattle.std.specs.List.{AllByRecursion}
use Rattle.resty_world.specs.IdLaws.{same_strand-self}
use Rattle.resty_base.specs.declared.names.Ms.{Ms}
use Rattle.resty_base.specs.declared.names.StrandId.{StrandId}
use Rattle.wakes.specs.declared.deadlines.Whose.{Whose as Owner}
use Rattle.wakes.specs.declared.deadlines.Whose.TheVariants as owner
use Rattle.wakes.specs.Times.{Deadline, DeadlinesView, sooner as sooner_deadline, soonest, if_due, due_at, without_any}
use Rattle.executions.specs.Agenda.{Whose, OfStrand, sooner, least, whose, is_number}
use Rattle.engine_tables.specs.Agenda.{whose_of, agenda_of, earlier, first_moment}
use Rattle.engine_tables.specs.Kept.{strand_in, strand_of, is_strands, is_the, IsFound, IsKept, disarmed, without_due}

none-some : {A : Type 0} (x : A) → Some x ≡ None → ⊥
none-some x e = cc

-- a deadline in the words of executions
abbrev pub shown : Deadline → Whose × ℕ
shown d = (whose_of d.1.whose, d.1.at.0)

pub earliest-is : (ds : List Deadline) → option_map (λ (d : Deadline). d.1.at.0) (soonest ds) ≡ first_moment (agenda_of ds)
earliest-is [] = refl
earliest-is (d ∷ ds) = ap Some (step (soonest ds) ∙ ap (earlier d.1.at.0) (earliest-is ds))
  where
    pick : (b : Bool) (e : Deadline) → (if b then d else e).1.at.0 ≡ (if b then d.1.at.0 else e.1.at.0)
    pick true e = refl
    pick false e = refl

    step : (o : Option Deadline) → (sooner_deadline d o).1.at.0 ≡ earlier d.1.at.0 (option_map (λ (e : Deadline). e.1.at.0) o)
    step None = refl
    step (Some e) = pick (nat_le d.1.at.0 e.1.at.0) e

-- of two moments the later isn't reached where the earlier isn't
le-trans : (x y z : ℕ) → nat_le x y ≡ true → nat_le y z ≡ true → nat_le x z ≡ true
le-trans x y z a b = search (nat_tests, rules)

not-reached : (x y z : ℕ) → nat_le x y ≡ false → nat_le y z ≡ false → nat_le x z ≡ false
not-reached x y z a b = search (nat_tests, rules)

pub least-is : (now : ℕ) (ds : List Deadline) → option_map shown (due_at now ds) ≡ least now (agenda_of ds)
least-is now [] = refl
least-is now (d ∷ ds) = step (soonest ds) ∙ ap (sooner now (shown d)) (least-is now ds)
  where
    alone : (b : Bool) → option_map shown (if b then Some d else None) ≡ (if b then Some (shown d) else None)
    alone true = refl
    alone false = refl

    off : (e : Deadline) (b : Bool) → (if b && false then Some (shown d) else Some (shown e)) ≡ Some (shown e)
    off e true = refl
    off e false = refl

    -- of two that are armed, the second is the first that is due of the later, if it is due
    pick : (e : Deadline) (b r : Bool) → nat_le d.1.at.0 e.1.at.0 ≡ b → nat_le e.1.at.0 now ≡ r
        → option_map shown (if nat_le (if b then d else e).1.at.0 now then Some (if b then d else e) else None) ≡ sooner now (shown d) (option_map shown (if r then Some e else None))
    pick e true true x y = let on = le-trans d.1.at.0 e.1.at.0 now x y in
        ap (λ c. option_map shown (if c then Some d else None)) on ∙ sym (ap (λ c. if c && nat_le d.1.at.0 e.1.at.0 then Some (shown d) else Some (shown e)) on ∙ ap (λ c. if c then Some (shown d) else Some (shown e)) x)
    pick e true false x y = alone (nat_le d.1.at.0 now)
    pick e false true x y = ap (λ c. option_map shown (if c then Some e else None)) y ∙ sym (ap (λ c. if nat_le d.1.at.0 now && c then Some (shown d) else Some (shown e)) x ∙ off e (nat_le d.1.at.0 now))
    pick e false false x y = ap (λ c. option_map shown (if c then Some e else None)) y ∙ sym (ap (λ c. if c then Some (shown d) else None) (not-reached d.1.at.0 e.1.at.0 now x y))

    step : (o : Option Deadline) → option_map shown (if_due now (Some (sooner_deadline d o))) ≡ sooner now (shown d) (option_map shown (if_due now o))
    step None = alone (nat_le d.1.at.0 now)
    step (Some e) = pick e (nat_le d.1.at.0 e.1.at.0) (nat_le e.1.at.0 now) refl refl

-- what holds of all holds of the soonest
soonest-all : (P : Deadline → Type 0) (ds : List Deadline) → AllByRecursion P ds → IfSome (soonest ds) P
soonest-all P [] h = tt
soonest-all P (d ∷ ds) h = one (soonest ds) (soonest-all P ds h.1)
  where
    pick : (b : Bool) (e : Deadline) → P e → P (if b then d else e)
    pick true e q = h.0
    pick false e q = q

    one : (o : Option Deadline) → IfSome o P → P (sooner_deadline d o)
    one None q = h.0
    one (Some e) q = pick (nat_le d.1.at.0 e.1.at.0) e q

-- what holds of all holds of the one that is due
pub due-all : (P : Deadline → Type 0) (now : ℕ) (ds : List Deadline) → AllByRecursion P ds → IfSome (due_at now ds) P
due-all P now ds h = if-due (soonest ds) (soonest-all P ds h)
  where
    chosen : (b : Bool) (d : Deadline) → P d → IfSome (if b then Some d else None) P
    chosen true d p = p
    chosen false d p = tt

    if-due : (o : Option Deadline) → IfSome o P → IfSome (if_due now o) P
    if-due None k = tt
    if-due (Some d) k = chosen (nat_le d.1.at.0 now) d k

pub earliest-at : (ds : List Deadline) → option_map (λ (at : Ms). at.0) (option_map (λ (d : Deadline). d.1.at) (soonest ds)) ≡ first_moment (agenda_of ds)
earliest-at ds = twice (soonest ds) ∙ earliest-is ds
  where
    twice : (o : Option Deadline) → option_map (λ (at : Ms). at.0) (option_map (λ (d : Deadline). d.1.at) o) ≡ option_map (λ (d : Deadline). d.1.at.0) o
    twice None = refl
    twice (Some d) = refl

module _ (numbers : StrandId → ℕ → Option ℕ) (now : ℕ) (v : DeadlinesView) (kept : IsKept numbers v) where
  all-found : (o : Option Deadline) → due_at now v.armed ≡ o → IfSome o (IsFound numbers)
  all-found o e = subst (λ (p : Option Deadline). IfSome p (IsFound numbers)) e (due-all (IsFound numbers) now v.armed kept.each)

  first-is : (o : Option Deadline) → due_at now v.armed ≡ o → whose (option_map shown o) ≡ whose (least now (agenda_of v.armed))
  first-is o e = ap (λ p. whose (option_map shown p)) (sym e) ∙ ap whose (least-is now v.armed)

  -- where no strand's is due, none is
  pub none-due : None ≡ strand_of (due_at now v.armed) → (without_due now v ≡ v) × (None ≡ whose (least now (agenda_of v.armed)))
  none-due none = step (due_at now v.armed) refl
    where
      is-strands : (w : Owner) → is_strands w ≡ true → None ≡ strand_in w → ⊥
      is-strands (owner.Strand s k) on h = none-some (s, k) (sym h)
      is-strands (owner.Job j) on h = let f : false ≡ true = on in cc
      is-strands (owner.Idle n) on h = let f : false ≡ true = on in cc

      step : (o : Option Deadline) → due_at now v.armed ≡ o → (without_due now v ≡ v) × (None ≡ whose (least now (agenda_of v.armed)))
      step None e = (ap (λ o. record v { armed = without_any o v.armed }) e, first-is None e)
      step (Some d) e = absurd (is-strands d.1.whose (all-found (Some d) e).strands (none ∙ ap strand_of e))

  -- a strand's own number for the deadline that is due leads to it
  pub one-due : (t : StrandId × ℕ) → Some t ≡ strand_of (due_at now v.armed) → (without_due now v ≡ disarmed (numbers t.0 t.1) v) × (Some (OfStrand t.0 t.1) ≡ whose (least now (agenda_of v.armed)))
  one-due t some = step (due_at now v.armed) refl
    where
      the-is : (o : Option ℕ) (n : ℕ) → is_the o n ≡ true → o ≡ Some n
      the-is None n h = absurd (let f : false ≡ true = h in cc)
      the-is (Some m) n h = ap Some (eqb-true m n h)

      own : (w : Owner) → Some t ≡ strand_in w → (whose_of w ≡ OfStrand t.0 t.1) × (is_number t.0 t.1 (whose_of w) ≡ true)
      own (owner.Strand s k) h =
          let f : t ≡ (s, k) = cc in
          (sym (ap (λ (x : StrandId × ℕ). OfStrand x.0 x.1) f), ap (λ (x : StrandId × ℕ). is_number x.0 x.1 (OfStrand s k)) f ∙ ap (λ b. b && (k == k)) (same_strand-self s) ∙ eq-eqb k k refl)
      own (owner.Job j) h = absurd (none-some t h)
      own (owner.Idle n) h = absurd (none-some t h)

      step : (o : Option Deadline) → due_at now v.armed ≡ o → (without_due now v ≡ disarmed (numbers t.0 t.1) v) × (Some (OfStrand t.0 t.1) ≡ whose (least now (agenda_of v.armed)))
      step None e = absurd (none-some t (some ∙ ap strand_of e))
      step (Some d) e =
          let w = own d.1.whose (some ∙ ap strand_of e) in
          let n = the-is (numbers t.0 t.1) d.0 (sym ((all-found (Some d) e).found t.0 t.1) ∙ w.1) in
          (ap (λ o. record v { armed = without_any o v.armed }) e ∙ sym (ap (λ o. disarmed o v) n), sym (ap Some w.0) ∙ first-is (Some d) e)
