-- What settling does next, case by case.
use Rattle.std.proofs.Common.{◌≡◌, ℕ, Bool, true, false, ◌&&◌, ◌||◌, Option, Some, None, if◌then◌else◌, refl, ap, ◌∙◌}
use Rattle.std.specs.Prelude.{not}
use Rattle.strand_plans.specs.Ledgers.{Ledger}
use Rattle.strand_plans.specs.Moves.{Move, Done, perform}
use Rattle.run_contract.specs.declared.turns.RunSeen.TheVariants as seen
use Rattle.run_contract.specs.declared.turns.Asking.{Asking}
use Rattle.run_contract.specs.Conditions.{IsRun}
use Rattle.connection_plan.specs.Clients.{Stage, closes_after}
use Rattle.connection_plan.specs.Clients as stage
use Rattle.connection_plan.specs.Services.{Service, Both}
use Rattle.connection_plan.specs.Turns.{is_there, is_all_taken, is_to_close, finish, tell, lose, next, ask_body, answer_asked, waiting, busy_at, settled_at, settle}
use Rattle.connection_plan.proofs.Stays.{Known}
use Rattle.connection_plan.proofs.Settling.{settling}

module _ {J R : Type 0} (site : Service J R) (now : ℕ) (holds : Ledger J → R → Type 0) (run : IsRun site.runs holds) (b : Ledger J) (s : Both R) (h : Known site.runs holds b s) where
  -- settling comes to the same as these
  abbrev SettlesAs : Move J (Both R) → Type 0
  SettlesAs m = perform (settle site now) b s ≡ perform m b s

  at-stage : (st : Stage) → s.client.stage ≡ st → SettlesAs (settled_at site now st (settle site now) (settle site now) b s)
  at-stage st e = settling site now holds run b s h ∙ ap (λ (st : Stage). perform (settled_at site now st (settle site now) (settle site now) b s) b s) e

  -- ---- a run goes on

  -- its question is answered
  pub settles-asked : s.client.stage ≡ stage.Busy → (q : Asking) → (site.runs.waits s.run).asks ≡ Some q → SettlesAs (answer_asked site now (settle site now) b s.client q)
  settles-asked at q e = at-stage stage.Busy at ∙ ap (λ (o : Option Asking). perform (busy_at site now o (settle site now) b s) b s) e

  busy-answered : s.client.stage ≡ stage.Busy → (site.runs.waits s.run).asks ≡ None → SettlesAs (waiting site now (settle site now) b s)
  busy-answered at e = at-stage stage.Busy at ∙ ap (λ (o : Option Asking). perform (busy_at site now o (settle site now) b s) b s) e

  -- all is taken, and it waits for that
  pub settles-taken : s.client.stage ≡ stage.Busy → (site.runs.waits s.run).asks ≡ None → (is_all_taken b && (site.runs.waits s.run).taken) ≡ true → SettlesAs (tell site now seen.AllTaken (settle site now))
  settles-taken at a e =
      busy-answered at a
      ∙ ap (λ (c : Bool). perform (if c then tell site now seen.AllTaken (settle site now) else (if is_to_close b s.client then lose site now else (if (site.runs.waits s.run).body then ask_body site now (settle site now) b s.client else Done))) b s) e

  busy-else : s.client.stage ≡ stage.Busy → (site.runs.waits s.run).asks ≡ None → (is_all_taken b && (site.runs.waits s.run).taken) ≡ false
      → SettlesAs (if is_to_close b s.client then lose site now else (if (site.runs.waits s.run).body then ask_body site now (settle site now) b s.client else Done))
  busy-else at a e =
      busy-answered at a
      ∙ ap (λ (c : Bool). perform (if c then tell site now seen.AllTaken (settle site now) else (if is_to_close b s.client then lose site now else (if (site.runs.waits s.run).body then ask_body site now (settle site now) b s.client else Done))) b s) e

  -- the connection closes after a reply that is taken
  pub settles-closing : s.client.stage ≡ stage.Busy → (site.runs.waits s.run).asks ≡ None → (is_all_taken b && (site.runs.waits s.run).taken) ≡ false → is_to_close b s.client ≡ true → SettlesAs (lose site now)
  settles-closing at a e f =
      busy-else at a e ∙ ap (λ (c : Bool). perform (if c then lose site now else (if (site.runs.waits s.run).body then ask_body site now (settle site now) b s.client else Done)) b s) f

  busy-open : s.client.stage ≡ stage.Busy → (site.runs.waits s.run).asks ≡ None → (is_all_taken b && (site.runs.waits s.run).taken) ≡ false → is_to_close b s.client ≡ false
      → SettlesAs (if (site.runs.waits s.run).body then ask_body site now (settle site now) b s.client else Done)
  busy-open at a e f =
      busy-else at a e ∙ ap (λ (c : Bool). perform (if c then lose site now else (if (site.runs.waits s.run).body then ask_body site now (settle site now) b s.client else Done)) b s) f

  -- the body is asked for, where it waits for that
  pub settles-body : s.client.stage ≡ stage.Busy → (site.runs.waits s.run).asks ≡ None → (is_all_taken b && (site.runs.waits s.run).taken) ≡ false → is_to_close b s.client ≡ false
      → (site.runs.waits s.run).body ≡ true → SettlesAs (ask_body site now (settle site now) b s.client)
  settles-body at a e f g = busy-open at a e f ∙ ap (λ (c : Bool). perform (if c then ask_body site now (settle site now) b s.client else Done) b s) g

  -- it waits for nothing that is there
  pub settles-waiting : s.client.stage ≡ stage.Busy → (site.runs.waits s.run).asks ≡ None → (is_all_taken b && (site.runs.waits s.run).taken) ≡ false → is_to_close b s.client ≡ false
      → (site.runs.waits s.run).body ≡ false → SettlesAs Done
  settles-waiting at a e f g = busy-open at a e f ∙ ap (λ (c : Bool). perform (if c then ask_body site now (settle site now) b s.client else Done) b s) g

  -- ---- a run is over, or a head was refused

  -- not all is taken
  pub settles-sending : s.client.stage ≡ stage.Flush → is_all_taken b ≡ false → SettlesAs Done
  settles-sending at e =
      at-stage stage.Flush at
      ∙ ap (λ (c : Bool). perform (if not c then Done else (if not (is_there b) || closes_after s.client.reply then finish else next site now (settle site now) s.client)) b s) e

  flush-taken : s.client.stage ≡ stage.Flush → is_all_taken b ≡ true
      → SettlesAs (if not (is_there b) || closes_after s.client.reply then finish else next site now (settle site now) s.client)
  flush-taken at e =
      at-stage stage.Flush at
      ∙ ap (λ (c : Bool). perform (if not c then Done else (if not (is_there b) || closes_after s.client.reply then finish else next site now (settle site now) s.client)) b s) e

  -- the life ends after it
  pub settles-ending : s.client.stage ≡ stage.Flush → is_all_taken b ≡ true → (not (is_there b) || closes_after s.client.reply) ≡ true → SettlesAs finish
  settles-ending at e f = flush-taken at e ∙ ap (λ (c : Bool). perform (if c then finish else next site now (settle site now) s.client) b s) f

  -- the next request follows
  pub settles-next : s.client.stage ≡ stage.Flush → is_all_taken b ≡ true → (not (is_there b) || closes_after s.client.reply) ≡ false
      → SettlesAs (next site now (settle site now) s.client)
  settles-next at e f = flush-taken at e ∙ ap (λ (c : Bool). perform (if c then finish else next site now (settle site now) s.client) b s) f

  -- ---- nothing else settles

  abbrev pub IsSettled : Stage → Type 0
  IsSettled stage.Busy = ⊥
  IsSettled stage.Flush = ⊥
  IsSettled st = Unit {0}

  pub settles-not : IsSettled s.client.stage → SettlesAs Done
  settles-not x = by s.client.stage refl x
    where
      by : (st : Stage) → s.client.stage ≡ st → IsSettled st → SettlesAs Done
      by stage.Busy e x = absurd x
      by stage.Flush e x = absurd x
      by stage.Idle e x = at-stage stage.Idle e
      by stage.Head e x = at-stage stage.Head e
      by stage.Drop e x = at-stage stage.Drop e
      by stage.Over e x = at-stage stage.Over e
