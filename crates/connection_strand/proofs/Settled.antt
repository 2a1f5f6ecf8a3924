-- Settling: what a run is told, and what follows a reply that is taken.
use Rattle.std.proofs.Common.{◌≡◌, ◌⊎◌, inl, inr, ℕ, Bool, true, false, not, ◌&&◌, ◌||◌, Option, if◌then◌else◌, refl, sym, ap, ◌∙◌, subst}
use Rattle.strand_plans.specs.Ledgers.{Ledger}
use Rattle.strand_plans.specs.Moves.{Move, Done, Look, Performed, perform}
use Rattle.run_contract.specs.declared.turns.RunSeen.{RunSeen}
use Rattle.run_contract.specs.declared.turns.RunSeen.TheVariants as seen
use Rattle.run_contract.specs.declared.turns.Asking.{Asking}
use Rattle.run_contract.specs.declared.turns.Asking.TheVariants as asking
use Rattle.run_contract.specs.Runs.{Waits}
use Rattle.run_contract.specs.Alike.{AreAlike}
use Rattle.run_contract.specs.Conditions.{IsRun}
use Rattle.connection_plan.specs.Clients.{Stage, Client, closes_after, is_last}
use Rattle.connection_plan.specs.Clients as stage
use Rattle.connection_plan.specs.Services.{Both}
use Rattle.connection_plan.specs.Turns.{is_there, is_all_taken, is_to_close, finish, tell, lose, next, ask_body, answer_asked, waiting, busy_at, busy, flush, settled_at, settle}
use Rattle.connection_plan.specs.Conditions.{AgreesWithin}
use Rattle.connection_plan.proofs.Stays.{Known}
use Rattle.connection_plan.proofs.Settling.{settling}
use Rattle.connection_strand.specs.Views.{View, service}
use Rattle.connection_strand.specs.declared.state.Connection.{Connection}
use Rattle.connection_strand.specs.declared.state.Progress.{Progress}
use Rattle.connection_strand.specs.declared.client.Stage as own
use Rattle.connection_strand.specs.declared.client.Stage.TheVariants as code
use Rattle.connection_strand.specs.Kept.{Kept, kept, stage_of, all_taken, seen_of_taken}
use Rattle.connection_strand.specs.Standing.{Moment, plain, Toward, IsAt, before}
use Rattle.connection_strand.proofs.Facing.{all-taken-is, stage-is}

module _ {R J I : Type 0} (v : View R J I)
    (lawful : IsRun v.meaning.plan v.meaning.holds) (apart : (x : R) (b c : Ledger J) (r : I) → AreAlike b c → v.meaning.stands x b r → v.meaning.stands x c r) where
  abbrev pub To : Moment J → Performed J (Both I) → Connection R → Progress J → Move J (Both I) → Type 0
  To e did c u m = Toward v e did c u m

  pub instead : (e : Moment J) (did : Performed J (Both I)) (c : Connection R) (u : Progress J) (m n : Move J (Both I)) (h : To e did c u m)
      → perform m h.ledger h.inner ≡ perform n h.ledger h.inner → To e did c u n
  instead e did c u m n h same = record { ledger = h.ledger; inner = h.inner; within = h.within; leads = h.leads ∙ ap (before u.acts.items) same }

  -- ---- by what the code asks

  taken-is : (e : Moment J) (did : Performed J (Both I)) (c : Connection R) (u : Progress J) (m : Move J (Both I)) (h : To e did c u m) → is_all_taken h.ledger ≡ all_taken (kept c.client)
  taken-is e did c u m h = sym (all-taken-is h.ledger h.inner.client) ∙ sym (ap all_taken h.within.serves.client)

  last-is : (e : Moment J) (did : Performed J (Both I)) (c : Connection R) (u : Progress J) (m : Move J (Both I)) (h : To e did c u m)
      → is_to_close h.ledger h.inner.client ≡ (all_taken (kept c.client) && (kept c.client).opened && is_last (kept c.client).reply)
  last-is e did c u m h =
      ap (λ (x : Bool). x && is_there h.ledger && is_last h.inner.client.reply) (sym (all-taken-is h.ledger h.inner.client))
      ∙ sym (ap (λ (k : Kept). all_taken k && k.opened && is_last k.reply) h.within.serves.client)

  -- ---- a run goes on

  -- whether it asks something
  pub busy-as : (now : ℕ) (again : Move J (Both I)) (did : Performed J (Both I)) (c : Connection R) (u : Progress J) (q : Option Asking) → c.waits.asks ≡ q
      → To (plain stage.Busy) did c u (Look (λ b s. busy (service v) now again b s)) → To (plain stage.Busy) did c u (Look (λ b s. busy_at (service v) now q again b s))
  busy-as now again did c u q is h =
      let e = sym (ap (λ (w : Waits). w.asks) h.within.run.3) ∙ is in
      instead (plain stage.Busy) did c u _ _ h (ap (λ (o : Option Asking). perform (busy_at (service v) now o again h.ledger h.inner) h.ledger h.inner) e)

  -- and what
  abbrev Asks : ℕ → Move J (Both I) → Asking → Move J (Both I)
  Asks now again q = Look (λ b s. answer_asked (service v) now again b s.client q)

  -- whether all is taken
  pub asked-taken : (now : ℕ) (again : Move J (Both I)) (did : Performed J (Both I)) (c : Connection R) (u : Progress J) (x : RunSeen) → x ≡ seen_of_taken (kept c.client)
      → To (plain stage.Busy) did c u (Asks now again asking.AllTaken) → To (plain stage.Busy) did c u (tell (service v) now x again)
  asked-taken now again did c u x is h =
      instead (plain stage.Busy) did c u _ _ h (ap (λ (y : RunSeen). perform (tell (service v) now y again) h.ledger h.inner)
      (ap (λ (o : Bool). if o then seen.AllTaken else seen.NotYet) (taken-is (plain stage.Busy) did c u _ h) ∙ sym is))

  -- ---- it waits

  module _ (now : ℕ) (again : Move J (Both I)) (did : Performed J (Both I)) (c : Connection R) (u : Progress J) (h : To (plain stage.Busy) did c u (Look (λ b s. waiting (service v) now again b s))) where
    abbrev b : Ledger J
    b = h.ledger

    abbrev s : Both I
    s = h.inner

    abbrev third : Move J (Both I)
    third = if (v.meaning.plan.waits s.run).body then ask_body (service v) now again b s.client else Done

    abbrev second : Move J (Both I)
    second = if is_to_close b s.client then lose (service v) now else third

    wants : c.waits.taken ≡ (v.meaning.plan.waits s.run).taken
    wants = ap (λ (w : Waits). w.taken) h.within.run.3

    first-is : (x : Bool) → (all_taken (kept c.client) && c.waits.taken) ≡ x → perform (waiting (service v) now again b s) b s ≡ perform (if x then tell (service v) now seen.AllTaken again else second) b s
    first-is x e = ap (λ (y : Bool). perform (if y then tell (service v) now seen.AllTaken again else second) b s)
        (ap (λ (y : Bool). y && (v.meaning.plan.waits s.run).taken) (taken-is (plain stage.Busy) did c u (Look (λ b s. waiting (service v) now again b s)) h) ∙ ap (λ (y : Bool). all_taken (kept c.client) && y) (sym wants) ∙ e)

    second-is : (x : Bool) → (all_taken (kept c.client) && (kept c.client).opened && is_last (kept c.client).reply) ≡ x → perform second b s ≡ perform (if x then lose (service v) now else third) b s
    second-is x e = ap (λ (y : Bool). perform (if y then lose (service v) now else third) b s) (last-is (plain stage.Busy) did c u (Look (λ b s. waiting (service v) now again b s)) h ∙ e)

    third-is : (x : Bool) → c.waits.body ≡ x → perform third b s ≡ perform (if x then ask_body (service v) now again b s.client else Done) b s
    third-is x e = ap (λ (y : Bool). perform (if y then ask_body (service v) now again b s.client else Done) b s) (sym (ap (λ (w : Waits). w.body) h.within.run.3) ∙ e)

    pub waits-taken : (all_taken (kept c.client) && c.waits.taken) ≡ true → To (plain stage.Busy) did c u (tell (service v) now seen.AllTaken again)
    waits-taken e = instead (plain stage.Busy) did c u _ _ h (first-is true e)

    pub waits-closes : (all_taken (kept c.client) && c.waits.taken) ≡ false → (all_taken (kept c.client) && (kept c.client).opened && is_last (kept c.client).reply) ≡ true
        → To (plain stage.Busy) did c u (lose (service v) now)
    waits-closes e f = instead (plain stage.Busy) did c u _ _ h (first-is false e ∙ second-is true f)

    pub waits-asks : (all_taken (kept c.client) && c.waits.taken) ≡ false → (all_taken (kept c.client) && (kept c.client).opened && is_last (kept c.client).reply) ≡ false → c.waits.body ≡ true
        → To (plain stage.Busy) did c u (Look (λ b s. ask_body (service v) now again b s.client))
    waits-asks e f g = instead (plain stage.Busy) did c u _ _ h (first-is false e ∙ second-is false f ∙ third-is true g)

    pub waits-not : (all_taken (kept c.client) && c.waits.taken) ≡ false → (all_taken (kept c.client) && (kept c.client).opened && is_last (kept c.client).reply) ≡ false → c.waits.body ≡ false
        → To (plain stage.Busy) did c u Done
    waits-not e f g = instead (plain stage.Busy) did c u _ _ h (first-is false e ∙ second-is false f ∙ third-is false g)

  -- ---- the run is over

  pub flush-sends : (now : ℕ) (rest : Move J (Both I)) (e : Moment J) (did : Performed J (Both I)) (c : Connection R) (u : Progress J) → all_taken (kept c.client) ≡ false
      → To e did c u (Look (λ b s. flush (service v) now rest b s.client)) → To e did c u Done
  flush-sends now rest e did c u taken h =
      instead e did c u _ Done h (ap (λ (x : Bool). perform (if not x then Done else (if not (is_there h.ledger) || closes_after h.inner.client.reply then finish else next (service v) now rest h.inner.client)) h.ledger h.inner)
      (taken-is e did c u _ h ∙ taken))

  flush-taken : (now : ℕ) (rest : Move J (Both I)) (e : Moment J) (did : Performed J (Both I)) (c : Connection R) (u : Progress J) (x : Bool) → all_taken (kept c.client) ≡ true
      → (not (kept c.client).opened || closes_after (kept c.client).reply) ≡ x → (h : To e did c u (Look (λ b s. flush (service v) now rest b s.client)))
      → perform (flush (service v) now rest h.ledger h.inner.client) h.ledger h.inner ≡ perform (if x then finish else next (service v) now rest h.inner.client) h.ledger h.inner
  flush-taken now rest e did c u x taken ends h =
      ap (λ (x : Bool). perform (if not x then Done else (if not (is_there h.ledger) || closes_after h.inner.client.reply then finish else next (service v) now rest h.inner.client)) h.ledger h.inner)
      (taken-is e did c u _ h ∙ taken)
      ∙ ap (λ (x : Bool). perform (if x then finish else next (service v) now rest h.inner.client) h.ledger h.inner)
      (sym (ap (λ (k : Kept). not k.opened || closes_after k.reply) h.within.serves.client) ∙ ends)

  pub flush-ends : (now : ℕ) (rest : Move J (Both I)) (e : Moment J) (did : Performed J (Both I)) (c : Connection R) (u : Progress J) → all_taken (kept c.client) ≡ true
      → (not (kept c.client).opened || closes_after (kept c.client).reply) ≡ true → To e did c u (Look (λ b s. flush (service v) now rest b s.client)) → To e did c u finish
  flush-ends now rest e did c u taken ends h = instead e did c u _ finish h (flush-taken now rest e did c u true taken ends h)

  pub flush-goes-on : (now : ℕ) (rest : Move J (Both I)) (e : Moment J) (did : Performed J (Both I)) (c : Connection R) (u : Progress J) → all_taken (kept c.client) ≡ true
      → (not (kept c.client).opened || closes_after (kept c.client).reply) ≡ false → To e did c u (Look (λ b s. flush (service v) now rest b s.client))
      → To e did c u (Look (λ b s. next (service v) now rest s.client))
  flush-goes-on now rest e did c u taken ends h = instead e did c u _ _ h (flush-taken now rest e did c u false taken ends h)

  -- ---- settling does one thing, and settles again

  settles : (now : ℕ) (st : Stage) (did : Performed J (Both I)) (c : Connection R) (u : Progress J) (h : To (plain st) did c u (settle (service v) now))
      → perform (settle (service v) now) h.ledger h.inner ≡ perform (settled_at (service v) now st (settle (service v) now) (settle (service v) now) h.ledger h.inner) h.ledger h.inner
  settles now st did c u h =
      let b = h.ledger in
      let s = h.inner in
      let w = h.within.serves in
      let known : Known v.meaning.plan v.meaning.holds b s = (subst (λ (x : Stage). AgreesWithin v.meaning.holds x b s.run) (sym h.within.at) h.within.known, w.none_asked) in
      settling (service v) now v.meaning.holds lawful b s known
      ∙ ap (λ (x : Stage). perform (settled_at (service v) now x (settle (service v) now) (settle (service v) now) b s) b s) h.within.at

  pub settles-busy : (now : ℕ) (did : Performed J (Both I)) (c : Connection R) (u : Progress J) → To (plain stage.Busy) did c u (settle (service v) now)
      → To (plain stage.Busy) did c u (Look (λ b s. busy (service v) now (settle (service v) now) b s))
  settles-busy now did c u h = instead (plain stage.Busy) did c u (settle (service v) now) _ h (settles now stage.Busy did c u h)

  pub settles-flush : (now : ℕ) (did : Performed J (Both I)) (c : Connection R) (u : Progress J) → To (plain stage.Flush) did c u (settle (service v) now)
      → To (plain stage.Flush) did c u (Look (λ b s. flush (service v) now (settle (service v) now) b s.client))
  settles-flush now did c u h = instead (plain stage.Flush) did c u (settle (service v) now) _ h (settles now stage.Flush did c u h)

  pub settles-not : (now : ℕ) (st : Stage) (did : Performed J (Both I)) (c : Connection R) (u : Progress J) → (st ≡ stage.Busy → ⊥) → (st ≡ stage.Flush → ⊥) → To (plain st) did c u (settle (service v) now)
      → To (plain st) did c u Done
  settles-not now st did c u f g h = instead (plain st) did c u (settle (service v) now) Done h (settles now st did c u h ∙ by st f g)
    where
      by : (x : Stage) → (x ≡ stage.Busy → ⊥) → (x ≡ stage.Flush → ⊥) → perform (settled_at (service v) now x (settle (service v) now) (settle (service v) now) h.ledger h.inner) h.ledger h.inner ≡ perform {J = J} {S = Both I} Done h.ledger h.inner
      by stage.Busy f g = absurd (f refl)
      by stage.Flush f g = absurd (g refl)
      by stage.Idle f g = refl
      by stage.Head f g = refl
      by stage.Drop f g = refl
      by stage.Over f g = refl

  -- ---- by the stage in code

  pub flush-at : (st : Stage) (did : Performed J (Both I)) (c : Connection R) (u : Progress J) (m : Move J (Both I)) → c.client.stage ≡ code.Flush → To (plain st) did c u m → To (plain stage.Flush) did c u m
  flush-at st did c u m e h = subst (λ (x : Stage). To (plain x) did c u m) (sym (stage-is v lawful apart st did c u m h) ∙ ap stage_of e) h

  pub not-at : (x : own.Stage) (y : Stage) → stage_of x ≡ y → (x ≡ code.Busy → ⊥) → (x ≡ code.Flush → ⊥) → ((y ≡ stage.Busy → ⊥) × (y ≡ stage.Flush → ⊥))
  not-at code.Busy y e f g = absurd (f refl)
  not-at code.Flush y e f g = absurd (g refl)
  not-at code.Idle y e f g = (λ x. let z : stage.Idle ≡ stage.Busy = e ∙ x in cc, λ x. let z : stage.Idle ≡ stage.Flush = e ∙ x in cc)
  not-at code.Head y e f g = (λ x. let z : stage.Head ≡ stage.Busy = e ∙ x in cc, λ x. let z : stage.Head ≡ stage.Flush = e ∙ x in cc)
  not-at code.Drop y e f g = (λ x. let z : stage.Drop ≡ stage.Busy = e ∙ x in cc, λ x. let z : stage.Drop ≡ stage.Flush = e ∙ x in cc)
  not-at code.Over y e f g = (λ x. let z : stage.Over ≡ stage.Busy = e ∙ x in cc, λ x. let z : stage.Over ≡ stage.Flush = e ∙ x in cc)

  -- a state at which it is busy
  pub is-busy : (c : Connection R) (u : Progress J) (st : Stage) → IsAt v st c u → c.client.stage ≡ code.Busy → IsAt v stage.Busy c u
  is-busy c u st x e =
      let h : To (plain st) (before u.acts.items (perform Done x.0 x.1)) c u Done = record { ledger = x.0; inner = x.1; within = x.2; leads = refl } in
      subst (λ (y : Stage). IsAt v y c u) (sym (stage-is v lawful apart st _ c u Done h) ∙ ap stage_of e) x

  pub rest-of : (x : own.Stage) → (x ≡ code.Idle) ⊎ ((x ≡ code.Head) ⊎ ((x ≡ code.Drop) ⊎ (x ≡ code.Over))) → ((x ≡ code.Busy → ⊥) × (x ≡ code.Flush → ⊥))
  rest-of x e = elim e [
    | inl f ↦ (λ y. let z : code.Idle ≡ code.Busy = sym f ∙ y in cc, λ y. let z : code.Idle ≡ code.Flush = sym f ∙ y in cc)
    | inr e ↦ elim e [
      | inl f ↦ (λ y. let z : code.Head ≡ code.Busy = sym f ∙ y in cc, λ y. let z : code.Head ≡ code.Flush = sym f ∙ y in cc)
      | inr e ↦ elim e [
        | inl f ↦ (λ y. let z : code.Drop ≡ code.Busy = sym f ∙ y in cc, λ y. let z : code.Drop ≡ code.Flush = sym f ∙ y in cc)
        | inr f ↦ (λ y. let z : code.Over ≡ code.Busy = sym f ∙ y in cc, λ y. let z : code.Over ≡ code.Flush = sym f ∙ y in cc)
      ]
    ]
  ]
