-- Two sleepers that wake at one moment: their threads run in either order, or one is dropped in the midst of the other's turn.
use Rattle.std.specs.Prelude.{◌≡◌, ℕ, true, List, [], ◌∷◌, None, refl}
use Rattle.std.proofs.Common.{inl, inr, ap, arith}
use Rattle.std.proofs.lemmas.Bool.{ltb-true}
use Rattle.resty_base.specs.declared.names.StrandId.TheVariants as strand
use Rattle.resty_world.specs.declared.entry.Entry.{Entry}
use Rattle.resty_world.specs.declared.entry.Entry.TheVariants as entry
use Rattle.strand_contract.specs.declared.turns.Place.TheVariants as place
use Rattle.strand_contract.specs.declared.turns.Start.TheVariants as start
use Rattle.strand_contract.specs.Actions.{Moment, Action, Began, Close, Log, Dropped, Run, Due, LocalAction, Told, Did}
use Rattle.strand_contract.specs.Behaviors.{Behavior}
use Rattle.strand_contract.specs.Alone.{HasNoWork, IsBetween, IsExecution, IsQuiescent}
use Rattle.strand_contract.specs.Laws.{IsQuiet}
use Rattle.executions.specs.Executions.{GlobalAction, Of, Everyone, Throughout}
use Rattle.executions.specs.Lawful.{AllAtRest, BeginsRight, IsGivenAtRest, IsLawful}
use Rattle.executions.specs.Plain.{IsPlain}
use Rattle.executions.specs.Ordered.{MayTurn}
use Rattle.execution_laws.specs.Drops.{DropAlike, DropTheSame}
use Rattle.execution_laws.specs.Spoiled.{RunsInAnyOrder, DropsLater, HasTwoHistories}
use Rattle.execution_laws.specs.Sleepers.{sleeper}
use Rattle.execution_laws.proofs.SmallExecutions.{no, all, unbegun, rests-living, rests-dead}

-- whose log line is the newest entry
abbrev pub newest : List Entry → ℕ
newest (entry.Log (strand.Conn c) line done ∷ h) = c
newest h = 0

abbrev pub conn : {J : Type 0} → ℕ → Action J → GlobalAction J
conn c x = Of (strand.Conn c) x None

-- one alone
abbrev begun : {J : Type 0} → ℕ → List (LocalAction J)
begun c = Did (Began 0 (start.Client c)) ∷ []

abbrev woke : {J : Type 0} → ℕ → List (LocalAction J)
woke c = Did (Due 0) ∷ Told (Moment 1) ∷ begun c

abbrev logged : {J : Type 0} → ℕ → List (LocalAction J)
logged c = Did (Log [] true) ∷ Did (Run 0) ∷ woke c

abbrev closed_up : {J : Type 0} → ℕ → List (LocalAction J)
closed_up c = Did (Close place.Client) ∷ Did Dropped ∷ woke c

-- both together
abbrev arrived : {J : Type 0} → List (GlobalAction J)
arrived = conn 2 (Began 0 (start.Client 2)) ∷ conn 1 (Began 0 (start.Client 1)) ∷ []

abbrev woken : {J : Type 0} → List (GlobalAction J)
woken = conn 2 (Due 0) ∷ conn 1 (Due 0) ∷ Everyone (Moment 1) ∷ arrived

abbrev runs : {J : Type 0} → ℕ → List (GlobalAction J) → List (GlobalAction J)
runs c ms = conn c (Log [] true) ∷ conn c (Run 0) ∷ ms

abbrev in_order : {J : Type 0} → List (GlobalAction J)
in_order = runs 2 (runs 1 woken)

abbrev exchanged : {J : Type 0} → List (GlobalAction J)
exchanged = runs 1 (runs 2 woken)

abbrev dropped : {J : Type 0} → List (GlobalAction J)
dropped = conn 2 Dropped ∷ conn 1 (Run 0) ∷ woken

abbrev logs_last : {J : Type 0} → List (GlobalAction J)
logs_last = conn 1 (Log [] true) ∷ conn 2 (Close place.Client) ∷ dropped

abbrev closes_last : {J : Type 0} → List (GlobalAction J)
closes_last = conn 2 (Close place.Client) ∷ conn 1 (Log [] true) ∷ dropped

abbrev drops_first : {J : Type 0} → List (GlobalAction J) → List (GlobalAction J)
drops_first ms = conn 1 (Close place.Client) ∷ conn 1 Dropped ∷ ms

abbrev dropped_early : {J : Type 0} → List (GlobalAction J)
dropped_early = runs 2 (drops_first (runs 1 woken))

abbrev dropped_late : {J : Type 0} → List (GlobalAction J)
dropped_late = drops_first in_order

module _ (J : Type 0) where
  abbrev b : Behavior J
  b = sleeper

  sleeper-quiet : IsQuiet b
  sleeper-quiet (Told w) es h = refl
  sleeper-quiet (Did (Began now how)) es h = no h
  sleeper-quiet (Did (Due n)) es h = no h
  sleeper-quiet (Did (Run k)) es h = no h
  sleeper-quiet (Did x) es h = refl

  begun-idle : (c : ℕ) → HasNoWork b (begun c)
  begun-idle c = record { no_act = refl; no_thread = refl; no_place = refl; no_offer = refl; no_deadline = λ on. refl; no_stop = refl; no_end = refl }

  begun-rests : (c : ℕ) → IsQuiescent b (begun c)
  begun-rests c = rests-living b (begun c) refl (begun-idle c)

  logged-rests : (c : ℕ) → IsQuiescent b (logged c)
  logged-rests c = rests-living b (logged c) refl (record { no_act = refl; no_thread = refl; no_place = refl; no_offer = refl; no_deadline = λ on. refl; no_stop = refl; no_end = refl })

  closed-rests : (c : ℕ) → IsQuiescent b (closed_up c)
  closed-rests c = rests-dead b (closed_up c) refl refl

  told-between : (c : ℕ) → IsBetween b (Told (Moment 1) ∷ begun c)
  told-between c = record { living = refl; no_act = refl; no_offer = refl }

  woke-between : (c : ℕ) → IsBetween b (woke c)
  woke-between c = record { living = refl; no_act = refl; no_offer = refl }

  woke-alone : (c : ℕ) → IsExecution b (woke c)
  woke-alone c = (((tt, refl), (refl, begun-idle c)), (told-between c, refl, (1, refl)))

  logged-alone : (c : ℕ) → IsExecution b (logged c)
  logged-alone c = ((woke-alone c, (woke-between c, ([], refl), (λ on. refl), (λ on. refl), refl)), ([], refl))

  closed-alone : (c : ℕ) → IsExecution b (closed_up c)
  closed-alone c = ((woke-alone c, inl refl), inr (refl, ([], refl)))

  none-rest : AllAtRest b []
  none-rest = record { each = λ s. unbegun b; waits = record { settled = tt; no_thread = refl; no_place = refl } }

  one-rests : AllAtRest b (conn 1 (Began 0 (start.Client 1)) ∷ [])
  one-rests = record { each = all (IsQuiescent b) (conn 1 (Began 0 (start.Client 1)) ∷ []) (unbegun b) (begun-rests 1, tt); waits = record { settled = tt; no_thread = refl; no_place = refl } }

  two-rest : AllAtRest b arrived
  two-rest = record { each = all (IsQuiescent b) arrived (unbegun b) (begun-rests 1, (begun-rests 2, tt)); waits = record { settled = tt; no_thread = refl; no_place = refl } }

  woken-begins : Throughout (BeginsRight b) woken
  woken-begins = (((((tt, (refl, refl)), (refl, refl)), tt), tt), tt)

  woken-given : Throughout (IsGivenAtRest b) woken
  woken-given = (((((tt, λ on. none-rest), λ on. one-rests), λ on. two-rest), λ on. no on), λ on. no on)

  woken-plain : IsPlain b woken
  woken-plain = (((((tt, (refl, refl, ltb-true 0 2 refl)), (refl, refl, ltb-true 1 2 refl)), tt), refl), refl)

  -- threads in either order
  in-order-lawful : IsLawful b in_order
  in-order-lawful = record {
    alone = all (IsExecution b) in_order tt (logged-alone 1, (logged-alone 2, tt));
    begins = ((((woken-begins, tt), tt), tt), tt);
    given = ((((woken-given, λ on. no on), λ on. no on), λ on. no on), λ on. no on);
    rests = record { each = all (IsQuiescent b) in_order (unbegun b) (logged-rests 1, (logged-rests 2, tt)); waits = record { settled = tt; no_thread = refl; no_place = refl } };
  }

  exchanged-lawful : IsLawful b exchanged
  exchanged-lawful = record {
    alone = all (IsExecution b) exchanged tt (logged-alone 1, (logged-alone 2, tt));
    begins = ((((woken-begins, tt), tt), tt), tt);
    given = ((((woken-given, λ on. no on), λ on. no on), λ on. no on), λ on. no on);
    rests = record { each = all (IsQuiescent b) exchanged (unbegun b) (logged-rests 1, (logged-rests 2, tt)); waits = record { settled = tt; no_thread = refl; no_place = refl } };
  }

  woken-runs : Throughout (RunsInAnyOrder b) woken
  woken-runs = (((((tt, tt), tt), tt), (refl, refl, refl)), (refl, refl, refl))

  in-order-runs : Throughout (RunsInAnyOrder b) in_order
  in-order-runs = ((((woken-runs, (refl, refl, (λ on. refl), ([], (strand.Conn 2, 0) ∷ [], refl))), tt), (refl, tt, (λ on. refl), ([], [], refl))), tt)

  exchanged-runs : Throughout (RunsInAnyOrder b) exchanged
  exchanged-runs = ((((woken-runs, (refl, refl, (λ on. refl), ((strand.Conn 1, 0) ∷ [], [], refl))), tt), (refl, tt, (λ on. refl), ([], [], refl))), tt)

  pub runs-differ : HasTwoHistories b (RunsInAnyOrder b) DropAlike
  runs-differ = record {
    quiet = sleeper-quiet;
    first = in_order;
    second = exchanged;
    first_allowed = record { lawful = in-order-lawful; plain = ((((woken-plain, refl), refl), refl), refl); ordered = in-order-runs };
    second_allowed = record { lawful = exchanged-lawful; plain = ((((woken-plain, refl), refl), refl), refl); ordered = exchanged-runs };
    inputs_same = refl;
    drops_same = λ index. refl;
    differ = λ e. (let f : 2 ≡ 1 = ap newest e in omega (arith, f));
  }

  -- a drop in the midst of the other's turn
  logs-last-lawful : IsLawful b logs_last
  logs-last-lawful = record {
    alone = all (IsExecution b) logs_last tt (logged-alone 1, (closed-alone 2, tt));
    begins = ((((woken-begins, tt), tt), tt), tt);
    given = ((((woken-given, λ on. no on), λ on. no on), λ on. no on), λ on. no on);
    rests = record { each = all (IsQuiescent b) logs_last (unbegun b) (logged-rests 1, (closed-rests 2, tt)); waits = record { settled = tt; no_thread = refl; no_place = refl } };
  }

  closes-last-lawful : IsLawful b closes_last
  closes-last-lawful = record {
    alone = all (IsExecution b) closes_last tt (logged-alone 1, (closed-alone 2, tt));
    begins = ((((woken-begins, tt), tt), tt), tt);
    given = ((((woken-given, λ on. no on), λ on. no on), λ on. no on), λ on. no on);
    rests = record { each = all (IsQuiescent b) closes_last (unbegun b) (logged-rests 1, (closed-rests 2, tt)); waits = record { settled = tt; no_thread = refl; no_place = refl } };
  }

  woken-drops : Throughout (DropsLater b) woken
  woken-drops = (((((tt, tt), tt), tt), (refl, refl, refl)), (refl, refl, refl))

  dropped-drops : Throughout (DropsLater b) dropped
  dropped-drops = ((woken-drops, (refl, refl, (λ on. refl), ((strand.Conn 2, 0) ∷ [], refl))), refl)

  pub drops-differ : HasTwoHistories b (DropsLater b) DropAlike
  drops-differ = record {
    quiet = sleeper-quiet;
    first = logs_last;
    second = closes_last;
    first_allowed = record { lawful = logs-last-lawful; plain = ((((woken-plain, refl), refl), refl), refl); ordered = ((dropped-drops, tt), tt) };
    second_allowed = record { lawful = closes-last-lawful; plain = ((((woken-plain, refl), refl), refl), refl); ordered = ((dropped-drops, tt), tt) };
    inputs_same = refl;
    drops_same = λ index. refl;
    differ = λ e. (let f : 1 ≡ 0 = ap newest e in omega (arith, f));
  }

  -- a drop directly after its own turn, or after the other's
  abbrev ended : ℕ → List (LocalAction J)
  ended c = Did (Close place.Client) ∷ Did Dropped ∷ logged c

  ended-rests : (c : ℕ) → IsQuiescent b (ended c)
  ended-rests c = rests-dead b (ended c) refl refl

  ended-alone : (c : ℕ) → IsExecution b (ended c)
  ended-alone c = ((logged-alone c, inl refl), inr (refl, ([], refl)))

  early-lawful : IsLawful b dropped_early
  early-lawful = record {
    alone = all (IsExecution b) dropped_early tt (ended-alone 1, (logged-alone 2, tt));
    begins = ((((((woken-begins, tt), tt), tt), tt), tt), tt);
    given = ((((((woken-given, λ on. no on), λ on. no on), λ on. no on), λ on. no on), λ on. no on), λ on. no on);
    rests = record { each = all (IsQuiescent b) dropped_early (unbegun b) (ended-rests 1, (logged-rests 2, tt)); waits = record { settled = tt; no_thread = refl; no_place = refl } };
  }

  late-lawful : IsLawful b dropped_late
  late-lawful = record {
    alone = all (IsExecution b) dropped_late tt (ended-alone 1, (logged-alone 2, tt));
    begins = ((((((woken-begins, tt), tt), tt), tt), tt), tt);
    given = ((((((woken-given, λ on. no on), λ on. no on), λ on. no on), λ on. no on), λ on. no on), λ on. no on);
    rests = record { each = all (IsQuiescent b) dropped_late (unbegun b) (ended-rests 1, (logged-rests 2, tt)); waits = record { settled = tt; no_thread = refl; no_place = refl } };
  }

  first-turns : Throughout (MayTurn b) (runs 1 woken)
  first-turns = (((((((tt, tt), tt), tt), (refl, refl, refl)), (refl, refl, refl)), (refl, refl, (λ on. refl), ((strand.Conn 2, 0) ∷ [], refl))), tt)

  early-turns : Throughout (MayTurn b) dropped_early
  early-turns = ((((first-turns, (inl refl, refl)), tt), (refl, tt, (λ on. refl), ([], refl))), tt)

  late-turns : Throughout (MayTurn b) dropped_late
  late-turns = ((((first-turns, (refl, tt, (λ on. refl), ([], refl))), tt), (inl refl, refl)), tt)

  pub points-differ : HasTwoHistories b (MayTurn b) (DropTheSame b)
  points-differ = record {
    quiet = sleeper-quiet;
    first = dropped_early;
    second = dropped_late;
    first_allowed = record { lawful = early-lawful; plain = ((((((woken-plain, refl), refl), refl), refl), refl), refl); ordered = early-turns };
    second_allowed = record { lawful = late-lawful; plain = ((((((woken-plain, refl), refl), refl), refl), refl), refl); ordered = late-turns };
    inputs_same = refl;
    drops_same = refl;
    differ = λ e. (let f : 2 ≡ 0 = ap newest e in omega (arith, f));
  }
