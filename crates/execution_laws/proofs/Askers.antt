-- A client that wakes at the moment at which the job that it asked for starts: either may come first.
use Rattle.std.specs.Prelude.{◌≡◌, true, false, List, [], ◌∷◌, None, refl}
use Rattle.std.proofs.Common.{ap, arith}
use Rattle.std.proofs.lemmas.Bool.{ltb-true}
use Rattle.resty_base.specs.declared.names.StrandId.TheVariants as strand
use Rattle.resty_world.specs.declared.answers.TimerAnswer.TheVariants as timer
use Rattle.strand_contract.specs.declared.turns.Start.TheVariants as start
use Rattle.strand_contract.specs.Actions.{Moment, Began, Log, Timer, Due, Gone, LocalAction, Told, Did}
use Rattle.strand_contract.specs.Behaviors.{Behavior}
use Rattle.strand_contract.specs.Alone.{HasNoWork, IsBetween, IsExecution, IsQuiescent}
use Rattle.strand_contract.specs.Laws.{IsQuiet}
use Rattle.executions.specs.Executions.{GlobalAction, Of, Everyone, Throughout}
use Rattle.executions.specs.Agenda.{OfStrand}
use Rattle.executions.specs.Lawful.{AllAtRest, BeginsRight, IsGivenAtRest, IsLawful}
use Rattle.executions.specs.Plain.{IsPlain}
use Rattle.executions.proofs.Holders.{le-refl}
use Rattle.execution_laws.specs.Drops.{DropAlike}
use Rattle.execution_laws.specs.Spoiled.{StartsInAnyOrder, HasTwoHistories}
use Rattle.execution_laws.specs.Sleepers.{asker}
use Rattle.execution_laws.proofs.SmallExecutions.{no, all, unbegun, rests-living, rests-dead}
use Rattle.execution_laws.proofs.Sleepers.{newest, conn}

-- the client alone
abbrev asked : {J : Type 0} → List (LocalAction J)
asked = Did (Timer (record { 0 = 1 }) (timer.Job 1)) ∷ Did (Began 0 (start.Client 1)) ∷ []

abbrev logged : {J : Type 0} → List (LocalAction J)
logged = Did (Log [] true) ∷ Did (Due 0) ∷ Told (Moment 1) ∷ asked

-- the job alone
abbrev over : {J : Type 0} → J → List (LocalAction J)
over job = Did Gone ∷ Did (Began 1 (start.Job 1 false job)) ∷ []

-- both together
abbrev asks : {J : Type 0} → List (GlobalAction J)
asks = conn 1 (Timer (record { 0 = 1 }) (timer.Job 1)) ∷ conn 1 (Began 0 (start.Client 1)) ∷ []

abbrev wakes : {J : Type 0} → List (GlobalAction J) → List (GlobalAction J)
wakes ms = conn 1 (Log [] true) ∷ conn 1 (Due 0) ∷ ms

abbrev starts : {J : Type 0} → J → List (GlobalAction J) → List (GlobalAction J)
starts job ms = Of (strand.Job 1) Gone None ∷ Of (strand.Job 1) (Began 1 (start.Job 1 false job)) None ∷ ms

abbrev starts_last : {J : Type 0} → J → List (GlobalAction J)
starts_last job = starts job (wakes (Everyone (Moment 1) ∷ asks))

abbrev wakes_last : {J : Type 0} → J → List (GlobalAction J)
wakes_last job = wakes (starts job (Everyone (Moment 1) ∷ asks))

module _ {J : Type 0} (job : J) where
  abbrev b : Behavior J
  b = asker job

  asker-quiet : IsQuiet b
  asker-quiet (Told w) es h = refl
  asker-quiet (Did (Began now (start.Client c))) es h = no h
  asker-quiet (Did (Began now (start.Job j premature what))) es h = no h
  asker-quiet (Did (Due n)) es h = no h
  asker-quiet (Did x) es h = refl

  asked-idle : HasNoWork b asked
  asked-idle = record { no_act = refl; no_thread = refl; no_place = refl; no_offer = refl; no_deadline = λ on. refl; no_stop = refl; no_end = refl }

  logged-rests : IsQuiescent b logged
  logged-rests = rests-living b logged refl (record { no_act = refl; no_thread = refl; no_place = refl; no_offer = refl; no_deadline = λ on. refl; no_stop = refl; no_end = refl })

  told-between : IsBetween b (Told (Moment 1) ∷ asked)
  told-between = record { living = refl; no_act = refl; no_offer = refl }

  logged-alone : IsExecution b logged
  logged-alone = (((((tt, refl), (job, refl)), (refl, asked-idle)), (told-between, refl, (1, refl))), ([], refl))

  over-alone : IsExecution b (over job)
  over-alone = ((tt, refl), refl)

  none-rest : AllAtRest b []
  none-rest = record { each = λ s. unbegun b; waits = record { settled = tt; no_thread = refl; no_place = refl } }

  asks-rest : AllAtRest b asks
  asks-rest = record { each = all (IsQuiescent b) asks (unbegun b) (rests-living b asked refl asked-idle, tt); waits = record { settled = tt; no_thread = refl; no_place = refl } }

  told-begins : Throughout (BeginsRight b) (Everyone (Moment 1) ∷ asks)
  told-begins = (((tt, (refl, refl)), tt), tt)

  told-given : Throughout (IsGivenAtRest b) (Everyone (Moment 1) ∷ asks)
  told-given = (((tt, λ on. none-rest), λ on. no on), λ on. asks-rest)

  told-plain : IsPlain b (Everyone (Moment 1) ∷ asks)
  told-plain = (((tt, (refl, refl, ltb-true 0 2 refl)), (refl, refl)), tt)

  told-starts : Throughout (StartsInAnyOrder b) (Everyone (Moment 1) ∷ asks)
  told-starts = (((tt, tt), tt), tt)

  starts-last-lawful : IsLawful b (starts_last job)
  starts-last-lawful = record {
    alone = all (IsExecution b) (starts_last job) tt (logged-alone, (over-alone, tt));
    begins = ((((told-begins, tt), tt), ((refl, refl, refl), refl)), tt);
    given = ((((told-given, λ on. no on), λ on. no on), λ on. no on), λ on. no on);
    rests = record { each = all (IsQuiescent b) (starts_last job) (unbegun b) (logged-rests, (rests-dead b (over job) refl refl, tt)); waits = record { settled = refl; no_thread = refl; no_place = refl } };
  }

  wakes-last-lawful : IsLawful b (wakes_last job)
  wakes-last-lawful = record {
    alone = all (IsExecution b) (wakes_last job) tt (logged-alone, (over-alone, tt));
    begins = ((((told-begins, ((refl, refl, refl), refl)), tt), tt), tt);
    given = ((((told-given, λ on. no on), λ on. no on), λ on. no on), λ on. no on);
    rests = record { each = all (IsQuiescent b) (wakes_last job) (unbegun b) (logged-rests, (rests-dead b (over job) refl refl, tt)); waits = record { settled = refl; no_thread = refl; no_place = refl } };
  }

  starts-last-turns : Throughout (StartsInAnyOrder b) (starts_last job)
  starts-last-turns = ((((told-starts, (refl, refl, refl)), tt), (refl, refl, (1, le-refl 1, ([], [], refl)))), tt)

  wakes-last-turns : Throughout (StartsInAnyOrder b) (wakes_last job)
  wakes-last-turns = ((((told-starts, (refl, refl, (1, le-refl 1, ((OfStrand (strand.Conn 1) 0, 1) ∷ [], [], refl)))), tt), (refl, refl, refl)), tt)

  pub starts-differ : HasTwoHistories b (StartsInAnyOrder b) DropAlike
  starts-differ = record {
    quiet = asker-quiet;
    first = starts_last job;
    second = wakes_last job;
    first_allowed = record { lawful = starts-last-lawful; plain = ((((told-plain, refl), refl), refl), refl); ordered = starts-last-turns };
    second_allowed = record { lawful = wakes-last-lawful; plain = ((((told-plain, refl), refl), refl), refl); ordered = wakes-last-turns };
    inputs_same = refl;
    drops_same = λ index. refl;
    differ = λ e. (let f : 0 ≡ 1 = ap newest e in omega (arith, f));
  }
