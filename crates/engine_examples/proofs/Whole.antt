-- An execution that breaks nothing is lawful, kept, plain and ordered.
use Rattle.std.specs.Prelude.{◌≡◌, ℕ, ◌+◌, nat_le, nat_lt, Bool, true, false, not, ◌&&◌, ◌||◌, ◌==◌, pos, negsuc, int_le, List, [], ◌∷◌, ◌++◌, length, Option}
use Rattle.std.specs.Prelude.{Some, None, if◌then◌else◌, refl, All, map}
use Rattle.std.proofs.Common.{inl, inr, sym, ◌∙◌, ap, subst}
use Rattle.std.proofs.lemmas.Bool.{eqb-true, leb-true, ltb-true, and_parts, not-true}
use Rattle.std.proofs.lemmas.Float.{T_from_true}
use Rattle.std.specs.Int.Signed.{le_z_yes}
use Rattle.std.proofs.lemmas.List.Elements.{All-nil, All-cons}
use Rattle.resty_base.specs.declared.names.StrandId.{StrandId}
use Rattle.resty_base.specs.declared.names.StrandId.TheVariants as strand
use Rattle.resty_base.specs.declared.dictionary.DictValue.{DictValue}
use Rattle.resty_base.specs.declared.dictionary.DictValue.TheVariants as value
use Rattle.resty_world.specs.Ids.{same_strand}
use Rattle.resty_world.specs.IdLaws.{same_strand-eq}
use Rattle.strand_contract.specs.declared.turns.Place.{Place}
use Rattle.std.specs.List.{IsDistinct, AllByRecursion}
use Rattle.std.proofs.lemmas.Cmp.{nat_list_eq_equiv}
use Rattle.std.proofs.lemmas.Map.Made.{IsDistinct-from_count}
use Rattle.std.proofs.lemmas.Map.Keys.{IsDistinct-cons}
use Rattle.resty_base.specs.declared.names.Ms.{Ms}
use Rattle.resty_base.specs.BoolLaws.{by_test}
use Rattle.shared_rules.specs.declared.items.Item.{Item}
use Rattle.shared_rules.specs.Items.{used}
use Rattle.shared_rules.specs.Keys.{same_key}
use Rattle.shared_rules.specs.Ranges.{IsKept, IsNumbered, IsInTime, IsWithin}
use Rattle.shared_rules.specs.Dictionary.{dict}
use Rattle.shared_rules.specs.declared.sockets.Idle.{Idle}
use Rattle.shared_rules.specs.Pool.{take_answer, crowded_out, last_idle}
use Rattle.shared_rules.specs.Timers.{timer_answer}
use Rattle.strand_contract.specs.declared.turns.Start.{Start}
use Rattle.strand_contract.specs.declared.turns.Start.TheVariants as start
use Rattle.strand_contract.specs.Actions.{same_place, Action, Began, Dict, Take, Dial, Keep, Timer, Dropped, Run, Offer, Due, Halted, LocalAction, Told, Did}
use Rattle.strand_contract.specs.Behaviors.{Behavior}
use Rattle.strand_contract.specs.Alone.{lives, IsExecution}
use Rattle.strand_contract.specs.OpenPlaceLaws.{same-place}
use Rattle.executions.specs.Executions.{GlobalAction, Of, Everyone, TurnedAway, IdleGave, IdleClosed, projection, has_given, present, has_stopped, Throughout}
use Rattle.executions.specs.Phases.{Phase, Waking, Stopping, Running, phase}
use Rattle.executions.specs.Strands.{is_in, strands, under_way, next_to_stop, next_to_wind_up}
use Rattle.executions.specs.Counts.{arrived, accepted, open_connections}
use Rattle.executions.specs.Queues.{run_queue, offer_queue}
use Rattle.executions.specs.Sockets.{pool, event_socket}
use Rattle.executions.specs.Zones.{zone}
use Rattle.executions.specs.Agenda.{OfStrand, OfJob, OfIdle, next_due}
use Rattle.executions.specs.Jobs.{Pending, pending, job_of, next_job}
use Rattle.executions.specs.Ordered.{offers_last, was_touched, HasSettledIn, NothingWaits, MayStart, MayDropLiving, MayTurnAt, MayTurn, IsOrdered, MayCloseIn}
use Rattle.executions.specs.Ordered.{MayStartIn}
use Rattle.executions.specs.Lawful.{AllAtRest, IsGivenAtRest, IsStartOf, BeginsRight, IsLawful, NoneHoldsBack, HeldNothingBack, IsKept as IsKeptWhole}
use Rattle.executions.specs.Plain.{dialled_as, IsPlainAt, IsOfIdle, IsPlainBy, IsPlain, taken_number, taken_uses}
use Rattle.engine_examples.specs.Checks.{has_no_work, none, empty, is_strand, is_whose, same_option, same_bool, same_answer, same_timer, front_thread, front_place}
use Rattle.engine_examples.specs.Checks.{is_quiescent, enabled, holds_nothing, each, has_settled_in, has_settled, nothing_waits, all_at_rest, enabled_of}
use Rattle.engine_examples.specs.Checks.{is_numbered, is_in_time, are_kept, may_answer, is_job, is_start_of, begins_right, is_plain_at, is_of_idle, is_plain_by}
use Rattle.engine_examples.specs.Checks.{may_start, may_drop, is_waking_phase, is_stopping_phase, may_turn_at, may_turn, Breaks, unless, breaks_at, breaks_in}
use Rattle.engine_examples.specs.Checks.{breaks, are_distinct, has_none, is_within, may_close_in, may_start_in}
use Rattle.engine_examples.proofs.Same.{bad, clash, and3, and4, same-bool, same-option, same-answer, same-timer, is-strand}
use Rattle.engine_examples.proofs.Same.{is-whose, is-none, is-empty}
use Rattle.engine_examples.proofs.Sound.{one-of, if-so, no-work, quiescent, may-come, MayTell, keeps}
use Rattle.executions.proofs.Strands.{unnamed}

-- what every strand of the list is, every strand is
each-in : {J : Type 0} → (is_so : List (LocalAction J) → Bool) (ss : List StrandId) (ms : List (GlobalAction J)) (s : StrandId) → each is_so ss ms ≡ true → is_in s ss ≡ true → is_so (projection s ms) ≡ true
each-in is_so [] ms s h i = bad i
each-in is_so (t ∷ ss) ms s h i = let g = and_parts (is_so (projection t ms)) (each is_so ss ms) h in elim (one-of (same_strand s t) (is_in s ss) i) [
  | inl w ↦ subst (λ (r : StrandId). is_so (projection r ms) ≡ true) (sym (same_strand-eq s t w)) g.0
  | inr w ↦ each-in is_so ss ms s g.1 w
]

each-all : {J : Type 0} → (is_so : List (LocalAction J) → Bool) (ms : List (GlobalAction J)) → is_so [] ≡ true → each is_so (strands ms) ms ≡ true → (s : StrandId) → is_so (projection s ms) ≡ true
each-all is_so ms e h s = by_test (is_in s (strands ms)) (λ on. each-in is_so (strands ms) ms s h on) (λ off. ap is_so (unnamed s ms off) ∙ e)

numbered : (v : DictValue) → is_numbered v ≡ true → IsNumbered v
numbered (value.Text x) h = tt
numbered (value.Truth x) h = tt
numbered (value.Number n) h = let g = and_parts (int_le (negsuc 99_999_999_999_998) n) (int_le n (pos 99_999_999_999_999)) h in record { least = le_z_yes (T_from_true _ g.0); greatest = le_z_yes (T_from_true _ g.1) }

in-time : (o : Option Ms) → is_in_time o ≡ true → IsInTime o
in-time None h = tt
in-time (Some t) h = leb-true t.0 199_999_999_999_998 h

kept-all : (items : List Item) → are_kept items ≡ true → All IsKept items
kept-all [] h = All-nil IsKept
kept-all (item ∷ items) h = let g = and3 (is_numbered item.value) (is_in_time item.expiry) (are_kept items) h in
    All-cons IsKept item items (record { number = numbered item.value g.0; time = in-time item.expiry g.1 }) (kept-all items g.2)

none-has : (key : List ℕ) (items : List Item) → has_none key items ≡ true → AllByRecursion (λ k. same_key key k ≡ false) (map (λ item. item.key) items)
none-has key [] h = tt
none-has key (item ∷ items) h = let g = and_parts (not (same_key key item.key)) (has_none key items) h in (not-true (same_key key item.key) g.0, none-has key items g.1)

distinct : (items : List Item) → are_distinct items ≡ true → IsDistinct same_key (map (λ item. item.key) items)
distinct [] h = IsDistinct-from_count nat_list_eq_equiv [] refl
distinct (item ∷ items) h = let g = and_parts (has_none item.key items) (are_distinct items) h in
    IsDistinct-cons same_key item.key (map (λ item. item.key) items) (none-has item.key items g.0) (distinct items g.1)

within : (size : ℕ) (items : List Item) → is_within size items ≡ true → IsWithin size items
within size items h = let g = and3 (are_distinct items) (nat_le (used items) size) (are_kept items) h in
    record { distinct = distinct items g.0; bytes = leb-true (used items) size g.1; kept = kept-all items g.2 }

front : (s : StrandId) (k : ℕ) (l : List (StrandId × ℕ)) → front_thread s k l ≡ true → (rest : List (StrandId × ℕ)) × (l ≡ (s, k) ∷ rest)
front s k [] h = bad h
front s k (e ∷ l) h = let g = and_parts (same_strand s e.0) (k == e.1) h in (l, ap (λ t. (t, e.1) ∷ l) (sym (same_strand-eq s e.0 g.0)) ∙ ap (λ j. (s, j) ∷ l) (sym (eqb-true k e.1 g.1)))

front-place : (s : StrandId) (q : Place) (l : List (StrandId × Place)) → front_place s q l ≡ true → (rest : List (StrandId × Place)) × (l ≡ (s, q) ∷ rest)
front-place s q [] h = bad h
front-place s q (e ∷ l) h = let g = and_parts (same_strand s e.0) (same_place q e.1) h in (l, ap (λ t. (t, e.1) ∷ l) (sym (same_strand-eq s e.0 g.0)) ∙ ap (λ p. (s, p) ∷ l) (sym (same-place q e.1 g.1)))

module _ {J : Type 0} (same : J → J → Bool) (is-same : (i j : J) → same i j ≡ true → i ≡ j) (b : Behavior J) where
  settled-in : (p : Phase) (ms : List (GlobalAction J)) → has_settled_in p b ms ≡ true → HasSettledIn p b ms
  settled-in Waking ms h = is-none (next_due b ms) h
  settled-in Stopping ms h = let g = and3 (none (next_to_stop ms)) (empty (pool ms)) (empty (pending b ms)) h in (is-none (next_to_stop ms) g.0, is-empty (pool ms) g.1, is-empty (pending b ms) g.2)
  settled-in Running ms h = tt

  waits : (ms : List (GlobalAction J)) → nothing_waits b ms ≡ true → NothingWaits b ms
  waits ms h = let g = and3 (has_settled b ms) (empty (run_queue b ms)) (empty (offer_queue b ms)) h in record { settled = settled-in (phase ms) ms g.0; no_thread = is-empty (run_queue b ms) g.1; no_place = is-empty (offer_queue b ms) g.2 }

  at-rest : (ms : List (GlobalAction J)) → all_at_rest b ms ≡ true → AllAtRest b ms
  at-rest ms h = let g = and_parts (each (is_quiescent b) (strands ms) ms) (nothing_waits b ms) h in record { each = λ s. quiescent b (projection s ms) (each-all (is_quiescent b) ms refl g.0 s); waits = waits ms g.1 }

  none-holds : (ms : List (GlobalAction J)) → each (holds_nothing b) (strands ms) ms ≡ true → NoneHoldsBack b ms
  none-holds ms h s on = keeps b (projection s ms) (each-all (holds_nothing b) ms refl h s) on

  -- plain
  plain-at : (x : Action J) (n : Option ℕ) (ms : List (GlobalAction J)) → is_plain_at b x n ms ≡ true → IsPlainAt b x n ms
  plain-at (Began now (start.Client c)) n ms h = let g = and3 (none n) (c == arrived ms + 1) (nat_lt (open_connections ms) b.connections) h in (is-none n g.0, eqb-true c (arrived ms + 1) g.1, ltb-true (open_connections ms) b.connections g.2)
  plain-at (Dict z c given) n ms h = let g = and_parts (none n) (same_answer given (dict (b.zone_size z) c (present ms) (zone b z ms)).0) h in (is-none n g.0, same-answer given (dict (b.zone_size z) c (present ms) (zone b z ms)).0 g.1)
  plain-at (Take key uses) n ms h = let g = and_parts (same_option n (taken_number (take_answer key (pool ms)))) (same_option uses (taken_uses (take_answer key (pool ms)))) h in (same-option n (taken_number (take_answer key (pool ms))) g.0, same-option uses (taken_uses (take_answer key (pool ms))) g.1)
  plain-at (Dial host port done) n ms h = same-option n (dialled_as done ms) h
  plain-at (Keep k key idle size) n ms h = same-option n (crowded_out key size (pool ms)) h
  plain-at (Timer at given) n ms h = let g = and_parts (none n) (same_timer given (timer_answer (has_stopped ms) (length (pending b ms)) (accepted ms))) h in (is-none n g.0, same-timer given (timer_answer (has_stopped ms) (length (pending b ms)) (accepted ms)) g.1)
  plain-at (Began now (start.Job j premature job)) n ms h = is-none n h
  plain-at x n ms h = is-none n h

  of-idle : (idle : List Idle) (o : Option ℕ) → is_of_idle idle o ≡ true → IsOfIdle idle o
  of-idle idle None h = bad h
  of-idle idle (Some n) h = h

  plain-by : (m : GlobalAction J) (ms : List (GlobalAction J)) → is_plain_by b m ms ≡ true → IsPlainBy b m ms
  plain-by (Of s x n) ms h = plain-at x n ms h
  plain-by (Everyone w) ms h = tt
  plain-by (TurnedAway c) ms h = let g = and_parts (c == arrived ms + 1) (nat_le b.connections (open_connections ms)) h in (eqb-true c (arrived ms + 1) g.0, leb-true b.connections (open_connections ms) g.1)
  plain-by (IdleGave e) ms h = of-idle (pool ms) (event_socket e) h
  plain-by (IdleClosed n) ms h = h

  -- begins
  job-is : (j : ℕ) (job : J) (ps : List (Pending J)) → is_job same j job ps ≡ true → job_of j ps ≡ Some job
  job-is j job [] h = bad h
  job-is j job (p ∷ ps) h = put (j == p.number) h (job-is j job ps)
    where
      put : (c : Bool) → (if c then same job p.job else is_job same j job ps) ≡ true → (is_job same j job ps ≡ true → job_of j ps ≡ Some job) → (if c then Some p.job else job_of j ps) ≡ Some job
      put true h ih = ap Some (sym (is-same job p.job h))
      put false h ih = ih h

  start-is : (s : StrandId) (how : Start J) (ms : List (GlobalAction J)) → is_start_of same b s how ms ≡ true → IsStartOf b s how ms
  start-is (strand.Conn c) (start.Client d) ms h = eqb-true c d h
  start-is (strand.Job i) (start.Job j premature job) ms h = let g = and3 (i == j) (is_job same j job (pending b ms)) (same_bool premature (has_stopped ms)) h in (eqb-true i j g.0, job-is j job (pending b ms) g.1, same-bool premature (has_stopped ms) g.2)
  start-is (strand.Conn c) (start.Job j premature job) ms h = bad h
  start-is (strand.Job i) (start.Client d) ms h = bad h

  begins-at : (s : StrandId) (x : Action J) (n : Option ℕ) (ms : List (GlobalAction J)) → begins_right same b (Of s x n) ms ≡ true → BeginsRight b (Of s x n) ms
  begins-at s (Began now how) n ms h = let g = and_parts (is_start_of same b s how ms) (now == present ms) h in (start-is s how ms g.0, eqb-true now (present ms) g.1)
  begins-at s x n ms h = tt

  begins-by : (m : GlobalAction J) (ms : List (GlobalAction J)) → begins_right same b m ms ≡ true → BeginsRight b m ms
  begins-by (Of s x n) ms h = begins-at s x n ms h
  begins-by (Everyone w) ms h = tt
  begins-by (TurnedAway c) ms h = tt
  begins-by (IdleGave e) ms h = tt
  begins-by (IdleClosed n) ms h = tt

  -- ordered
  closes-in : (p : Phase) (n : ℕ) (ms : List (GlobalAction J)) → may_close_in p b n ms ≡ true → MayCloseIn p b n ms
  closes-in Waking n ms h = is-whose (OfIdle n) (next_due b ms) h
  closes-in Stopping n ms h = let g = and_parts (none (next_to_stop ms)) (same_option (Some n) (last_idle (pool ms))) h in (is-none (next_to_stop ms) g.0, sym (same-option (Some n) (last_idle (pool ms)) g.1))
  closes-in Running n ms h = bad h

  starts-in : (p : Phase) (j : ℕ) (ms : List (GlobalAction J)) → may_start_in p b j ms ≡ true → MayStartIn p b j ms
  starts-in Waking j ms h = is-whose (OfJob j) (next_due b ms) h
  starts-in Stopping j ms h = let g = and3 (none (next_to_stop ms)) (empty (pool ms)) (same_option (Some j) (next_job b ms)) h in
      (is-none (next_to_stop ms) g.0, is-empty (pool ms) g.1, sym (same-option (Some j) (next_job b ms) g.2))
  starts-in Running j ms h = bad h

  starts-so : (j : ℕ) (ms : List (GlobalAction J)) → may_start b j ms ≡ true → MayStart b j ms
  starts-so j ms h = let g = and_parts (none (under_way b ms)) (may_start_in (phase ms) b j ms) h in (is-none (under_way b ms) g.0, starts-in (phase ms) j ms g.1)

  drops-so : (c : Bool) (s : StrandId) (ms : List (GlobalAction J)) → may_drop c b s ms ≡ true → MayDropLiving c b s ms
  drops-so true s ms h = let g = and_parts (none (under_way b ms) || is_strand s (under_way b ms)) (was_touched s ms) h in (
    elim (one-of (none (under_way b ms)) (is_strand s (under_way b ms)) g.0) [
      | inl w ↦ inl (is-none (under_way b ms) w)
      | inr w ↦ inr (is-strand s (under_way b ms) w)
    ],
    g.1,
  )
  drops-so false (strand.Job j) ms h = starts-so j ms h
  drops-so false (strand.Conn c) ms h = bad h

  waking-is : (p : Phase) → is_waking_phase p ≡ true → p ≡ Waking
  waking-is Waking h = refl
  waking-is Stopping h = bad h
  waking-is Running h = bad h

  stopping-is : (p : Phase) → is_stopping_phase p ≡ true → p ≡ Stopping
  stopping-is Stopping h = refl
  stopping-is Waking h = bad h
  stopping-is Running h = bad h

  turn-at : (s : StrandId) (x : Action J) (ms : List (GlobalAction J)) → may_turn_at b s x ms ≡ true → MayTurnAt b s x ms
  turn-at s (Run k) ms h = let g = and4 (none (under_way b ms)) (has_settled b ms) (not (offers_last ms) || empty (offer_queue b ms)) (front_thread s k (run_queue b ms)) h in
      (is-none (under_way b ms) g.0, settled-in (phase ms) ms g.1, λ on. is-empty (offer_queue b ms) (if-so (offers_last ms) (empty (offer_queue b ms)) g.2 on), front s k (run_queue b ms) g.3)
  turn-at s (Offer q) ms h = let g = and4 (none (under_way b ms)) (has_settled b ms) (offers_last ms || empty (run_queue b ms)) (front_place s q (offer_queue b ms)) h in (
    is-none (under_way b ms) g.0,
    settled-in (phase ms) ms g.1,
    λ off. is-empty (run_queue b ms) (elim (one-of (offers_last ms) (empty (run_queue b ms)) g.2) [
      | inl w ↦ clash (offers_last ms) w off
      | inr w ↦ w
    ]),
    front-place s q (offer_queue b ms) g.3,
  )
  turn-at s (Due k) ms h = let g = and3 (none (under_way b ms)) (is_waking_phase (phase ms)) (is_whose (OfStrand s k) (next_due b ms)) h in (is-none (under_way b ms) g.0, waking-is (phase ms) g.1, is-whose (OfStrand s k) (next_due b ms) g.2)
  turn-at s (Began now (start.Job j premature job)) ms h = starts-so j ms h
  turn-at s (Began now (start.Client c)) ms h = tt
  turn-at s Halted ms h = let g = and_parts (none (under_way b ms)) ((is_stopping_phase (phase ms) && is_strand s (next_to_stop ms)) || (nothing_waits b ms && is_strand s (next_to_wind_up ms))) h in (
    is-none (under_way b ms) g.0,
    elim (one-of (is_stopping_phase (phase ms) && is_strand s (next_to_stop ms)) (nothing_waits b ms && is_strand s (next_to_wind_up ms)) g.1) [
      | inl w ↦ (let f = and_parts (is_stopping_phase (phase ms)) (is_strand s (next_to_stop ms)) w in inl (stopping-is (phase ms) f.0, is-strand s (next_to_stop ms) f.1))
      | inr w ↦ (let f = and_parts (nothing_waits b ms) (is_strand s (next_to_wind_up ms)) w in inr (waits ms f.0, is-strand s (next_to_wind_up ms) f.1))
    ],
  )
  turn-at s Dropped ms h = drops-so (lives (projection s ms)) s ms h
  turn-at s x ms h = tt

  turn-by : (m : GlobalAction J) (ms : List (GlobalAction J)) → may_turn b m ms ≡ true → MayTurn b m ms
  turn-by (Of s x n) ms h = turn-at s x ms h
  turn-by (IdleClosed n) ms h = let g = and_parts (none (under_way b ms)) (may_close_in (phase ms) b n ms) h in (is-none (under_way b ms) g.0, closes-in (phase ms) n ms g.1)
  turn-by (Everyone w) ms h = tt
  turn-by (TurnedAway c) ms h = tt
  turn-by (IdleGave e) ms h = tt

  -- alone
  tells : (x : Action J) (n : Option ℕ) (ms : List (GlobalAction J)) → may_answer b x ms ≡ true → is_plain_at b x n ms ≡ true → MayTell b (Did x)
  tells (Dict z c given) n ms h p =
      let g = and3 (nat_le (b.zone_size z) 67_108_864) (nat_le (present ms) 99_999_999_999_999) (is_within (b.zone_size z) (zone b z ms)) h in
      let q = and_parts (none n) (same_answer given (dict (b.zone_size z) c (present ms) (zone b z ms)).0) p in record {
        size = b.zone_size z;
        now = present ms;
        items = zone b z ms;
        small = leb-true (b.zone_size z) 67_108_864 g.0;
        moment = leb-true (present ms) 99_999_999_999_999 g.1;
        within = within (b.zone_size z) (zone b z ms) g.2;
        answered = same-answer given (dict (b.zone_size z) c (present ms) (zone b z ms)).0 q.1;
      }
  tells x n ms h p = tt

  alone-by : (m : GlobalAction J) (ms : List (GlobalAction J)) → enabled_of b m ms ≡ true → is_plain_by b m ms ≡ true → ((s : StrandId) → IsExecution b (projection s ms)) → (s : StrandId) → IsExecution b (projection s (m ∷ ms))
  alone-by (Of t x n) ms h p ih s = put (same_strand s t) refl
    where
      put : (c : Bool) → same_strand s t ≡ c → IsExecution b (if c then Did x ∷ projection s ms else projection s ms)
      put true e = let g = and_parts (enabled b (projection t ms) (Did x)) (may_answer b x ms) h in
          (ih s, may-come b (projection s ms) (Did x) (subst (λ (r : StrandId). enabled b (projection r ms) (Did x) ≡ true) (sym (same_strand-eq s t e)) g.0) (tells x n ms g.1 p))
      put false e = ih s
  alone-by (Everyone w) ms h p ih s = put (lives (projection s ms)) refl
    where
      put : (c : Bool) → lives (projection s ms) ≡ c → IsExecution b (if c then Told w ∷ projection s ms else projection s ms)
      put true on = (ih s, (on, no-work b (projection s ms) (if-so (lives (projection s ms)) (has_no_work b (projection s ms)) (each-all (λ es. not (lives es) || has_no_work b es) ms refl h s) on)))
      put false off = ih s
  alone-by (TurnedAway c) ms h p ih s = ih s
  alone-by (IdleGave e) ms h p ih s = ih s
  alone-by (IdleClosed n) ms h p ih s = ih s

  -- all of it
  joined : {A : Type 0} (xs ys : List A) → xs ++ ys ≡ [] → (xs ≡ []) × (ys ≡ [])
  joined [] ys h = (refl, h)
  joined (x ∷ xs) ys h = absurd (let f : x ∷ (xs ++ ys) ≡ [] = h in cc)

  held : (c : Bool) (x : Breaks) → unless c x ≡ [] → c ≡ true
  held true x h = refl
  held false x h = absurd (let f : x ∷ [] ≡ [] = h in cc)

  pub record Holds (ms : List (GlobalAction J)) : Type 0 where
    pub alone : (s : StrandId) → IsExecution b (projection s ms)
    pub begins : Throughout (BeginsRight b) ms
    pub given : Throughout (IsGivenAtRest b) ms
    pub keeps : Throughout (HeldNothingBack b) ms
    pub plain : IsPlain b ms
    pub ordered : IsOrdered b ms

  pub holds : (ms : List (GlobalAction J)) → breaks_in same b ms ≡ [] → Holds ms
  holds [] h = record { alone = λ s. tt; begins = tt; given = tt; keeps = tt; plain = tt; ordered = tt }
  holds (m ∷ ms) h =
      let g = joined (breaks_in same b ms) (breaks_at same b m ms (length ms)) h in
      let w = holds ms g.0 in
      let g0 = joined (unless (enabled_of b m ms) _) _ g.1 in
      let g1 = joined (unless (begins_right same b m ms) _) _ g0.1 in
      let g2 = joined (unless (not (has_given m) || all_at_rest b ms) _) _ g1.1 in
      let g3 = joined (unless (not (has_given m) || each (holds_nothing b) (strands ms) ms) _) _ g2.1 in
      let g4 = joined (unless (is_plain_by b m ms) _) _ g3.1 in
      let p = held (is_plain_by b m ms) _ g4.0 in record {
        alone = alone-by m ms (held (enabled_of b m ms) _ g0.0) p w.alone;
        begins = (w.begins, begins-by m ms (held (begins_right same b m ms) _ g1.0));
        given = (w.given, λ on. at-rest ms (if-so (has_given m) (all_at_rest b ms) (held (not (has_given m) || all_at_rest b ms) _ g2.0) on));
        keeps = (w.keeps, λ on. none-holds ms (if-so (has_given m) (each (holds_nothing b) (strands ms) ms) (held (not (has_given m) || each (holds_nothing b) (strands ms) ms) _ g3.0) on));
        plain = (w.plain, plain-by m ms p);
        ordered = (w.ordered, turn-by m ms (held (may_turn b m ms) _ g4.1));
      }

  pub whole : (ms : List (GlobalAction J)) → breaks same b ms ≡ [] → IsLawful b ms × IsKeptWhole b ms × IsPlain b ms × IsOrdered b ms
  whole ms h =
      let g = joined (breaks_in same b ms) _ h in
      let f = joined (unless (all_at_rest b ms) _) _ g.1 in
      let w = holds ms g.0 in
      (record { alone = w.alone; begins = w.begins; given = w.given; rests = at-rest ms (held (all_at_rest b ms) _ f.0) }, (w.keeps, none-holds ms (held (each (holds_nothing b) (strands ms) ms) _ f.1)), w.plain, w.ordered)
