-- What a connection over a lawful run knows of its states, and what it may ask.
use Rattle.std.specs.Prelude.{◌≡◌, ℕ, false, None}
use Rattle.strand_contract.specs.declared.turns.Place.TheVariants as place
use Rattle.strand_plans.specs.Questions.{Question}
use Rattle.strand_plans.specs.Ledgers.{Ledger, has}
use Rattle.strand_plans.specs.Moves.{State}
use Rattle.run_contract.specs.Runs.{RunPlan}
use Rattle.run_contract.specs.Conditions.{IsBlank, Fits}
use Rattle.connection_plan.specs.Clients.{Stage}
use Rattle.connection_plan.specs.Clients as stage
use Rattle.connection_plan.specs.Services.{Service, Both}

-- At a stage, within an action: of a run that goes on what it knows itself, else that nothing of a run is left; once the life is over, that no question
-- waits and no socket is open.
abbrev pub AgreesWithin : {J R : Type 0} → (Ledger J → R → Type 0) → Stage → Ledger J → R → Type 0
AgreesWithin holds stage.Busy b r = holds b r
AgreesWithin holds stage.Over b r = (b.asked ≡ None) × ((k : ℕ) → has (place.Sock k) b.opened ≡ false)
AgreesWithin holds st b r = IsBlank b

module _ {J R : Type 0} (runs : RunPlan J R) (holds : Ledger J → R → Type 0) where
  -- between two actions: a run that goes on also has the answer to whatever it asked its connection
  abbrev pub Agrees : Stage → Ledger J → R → Type 0
  Agrees stage.Busy b r = holds b r × ((runs.waits r).asks ≡ None)
  Agrees st b r = AgreesWithin holds st b r

  abbrev pub Knows : State J (Both R) → Type 0
  Knows st = Agrees st.inner.client.stage st.ledger st.inner.run

-- it asks what its runs ask
abbrev pub MayAsk : {J R : Type 0} → Service J R → Question J → Type 0
MayAsk site x = Fits site.runs x
