-- Requests in turn: what heads lead to, what is waited for, and the end of a client.
use Rattle.std.proofs.Common.{◌≡◌, Bool, true, false, not, ◌&&◌, [], if◌then◌else◌, refl, sym, ap, ◌∙◌, subst}
use Rattle.strand_contract.specs.declared.turns.Place.TheVariants as place
use Rattle.strand_contract.specs.Alone.{is_some_left}
use Rattle.strand_plans.specs.Ledgers.{Ledger, left_at}
use Rattle.strand_plans.specs.Moves.{Move, Performed, perform}
use Rattle.run_contract.specs.Alike.{AreAlike}
use Rattle.run_contract.specs.Conditions.{IsRun}
use Rattle.connection_plan.specs.Clients.{Stage, Client}
use Rattle.connection_plan.specs.Clients as stage
use Rattle.connection_plan.specs.Services.{Both}
use Rattle.connection_plan.specs.Turns.{is_there, is_all_taken}
use Rattle.connection_strand.specs.Views.{View}
use Rattle.connection_strand.specs.declared.state.Connection.{Connection}
use Rattle.connection_strand.specs.declared.state.Progress.{Progress}
use Rattle.connection_strand.specs.declared.client.Stage as own
use Rattle.connection_strand.specs.declared.client.Stage.TheVariants as code
use Rattle.connection_strand.specs.Kept.{Kept, kept_of, stage_of, all_taken}
use Rattle.connection_strand.specs.Standing.{Moment, plain, IsOn, IsFree, IsAt, Toward, before}

pub all-taken-is : {J : Type 0} (b : Ledger J) (x : Client) → all_taken (kept_of b x) ≡ is_all_taken b
all-taken-is b x = by (is_there b)
  where
    by : (o : Bool) → not (o && is_some_left (if o then left_at place.Client b else [])) ≡ not (o && is_some_left (left_at place.Client b))
    by true = refl
    by false = refl

pub not-busy : (x : own.Stage) → (x ≡ code.Busy → ⊥) → IsOn (stage_of x) → IsFree (stage_of x)
not-busy code.Idle f on = tt
not-busy code.Head f on = tt
not-busy code.Flush f on = tt
not-busy code.Drop f on = tt
not-busy code.Busy f on = absurd (f refl)
not-busy code.Over f on = absurd on

module _ {R J I : Type 0} (v : View R J I)
    (lawful : IsRun v.meaning.plan v.meaning.holds) (apart : (x : R) (b c : Ledger J) (r : I) → AreAlike b c → v.meaning.stands x b r → v.meaning.stands x c r) where
  abbrev pub To : Moment J → Performed J (Both I) → Connection R → Progress J → Move J (Both I) → Type 0
  To e did c u m = Toward v e did c u m

  -- ---- by the stage in code

  pub stage-is : (st : Stage) (did : Performed J (Both I)) (c : Connection R) (u : Progress J) (m : Move J (Both I)) → To (plain st) did c u m → stage_of c.client.stage ≡ st
  stage-is st did c u m h = ap (λ (k : Kept). k.stage) h.within.serves.client ∙ h.within.at

  pub busy-at : (st : Stage) (did : Performed J (Both I)) (c : Connection R) (u : Progress J) (m : Move J (Both I)) → c.client.stage ≡ code.Busy → To (plain st) did c u m → To (plain stage.Busy) did c u m
  busy-at st did c u m e h = subst (λ (x : Stage). To (plain x) did c u m) (sym (stage-is st did c u m h) ∙ ap stage_of e) h

  -- moves that may be made there
  pub from-here : (st : Stage) (c : Connection R) (u : Progress J) → IsAt v st c u → (m : Move J (Both I)) → (did : Performed J (Both I)) × To (plain st) did c u m
  from-here st c u x m = (before u.acts.items (perform m x.0 x.1), record { ledger = x.0; inner = x.1; within = x.2; leads = refl })
