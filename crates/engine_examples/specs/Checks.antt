-- The definitions of executions as a test: which of them an execution breaks, and where.
use Rattle.std.specs.Prelude.{ℕ, ◌+◌, ◌==◌, nat_le, nat_lt, ◌&&◌, ◌||◌, not, Bool, true, false, ℤ, pos, negsuc, List, [], ◌∷◌, ◌++◌, length, Option}
use Rattle.std.specs.Prelude.{Some, None, is_some, if◌then◌else◌}
use Rattle.resty_base.specs.declared.names.StrandId.{StrandId}
use Rattle.resty_base.specs.declared.names.StrandId.TheVariants as strand
use Rattle.resty_base.specs.declared.dictionary.How.{How}
use Rattle.resty_base.specs.declared.dictionary.How.TheVariants as how
use Rattle.resty_base.specs.declared.dictionary.DictValue.{DictValue}
use Rattle.resty_base.specs.declared.dictionary.DictValue.TheVariants as value
use Rattle.resty_base.specs.declared.dictionary.DictCall.{DictCall}
use Rattle.resty_base.specs.declared.dictionary.DictCall.TheVariants as call
use Rattle.resty_base.specs.declared.dictionary.DictAnswer.{DictAnswer}
use Rattle.resty_base.specs.declared.dictionary.DictAnswer.TheVariants as answer
use Rattle.resty_world.specs.Ids.{same_strand}
use Rattle.resty_world.specs.declared.answers.TimerAnswer.{TimerAnswer}
use Rattle.resty_world.specs.declared.answers.TimerAnswer.TheVariants as timer
use Rattle.strand_contract.specs.declared.turns.Place.{Place}
use Rattle.strand_contract.specs.declared.turns.Place.TheVariants as place
use Rattle.strand_contract.specs.declared.turns.Act.{Act}
use Rattle.strand_contract.specs.declared.turns.Act.TheVariants as act
use Rattle.resty_base.specs.declared.names.Ms.{Ms}
use Rattle.shared_rules.specs.declared.items.Item.{Item}
use Rattle.shared_rules.specs.Items.{used}
use Rattle.shared_rules.specs.Keys.{same_key}
use Rattle.shared_rules.specs.Dictionary.{dict, is_whole}
use Rattle.shared_rules.specs.declared.sockets.Idle.{Idle}
use Rattle.shared_rules.specs.Pool.{take_answer, crowded_out, last_idle, is_idle}
use Rattle.shared_rules.specs.Timers.{timer_answer}
use Rattle.strand_contract.specs.declared.turns.Start.{Start}
use Rattle.strand_contract.specs.declared.turns.Start.TheVariants as start
use Rattle.strand_contract.specs.Actions.{Action, Began, Bytes, Ended, Broken, Ready, Dialled, Refused, Put, Later, Lost, Close, Log, Dict, Take, Dial, Keep}
use Rattle.strand_contract.specs.Actions.{Timer, Dropped, Run, Offer, Due, Halted, Gone, LocalAction, Told, Did, same_place}
use Rattle.strand_contract.specs.Behaviors.{Behavior}
use Rattle.strand_contract.specs.Alone.{lives, was_dropped, moment, is_stopping, is_waking, is_winding_up, is_open, open_places, has_ended, was_put_off}
use Rattle.strand_contract.specs.Alone.{queued, piece, todo, waiting, to_offer, armed, due, offering, in_offers, is_some_left}
use Rattle.executions.specs.Executions.{GlobalAction, Of, Everyone, TurnedAway, IdleGave, IdleClosed, projection, has_given, present, has_stopped}
use Rattle.executions.specs.Phases.{Phase, Waking, Stopping, Running, phase}
use Rattle.executions.specs.Strands.{strands, has_some, under_way, next_to_stop, next_to_wind_up}
use Rattle.executions.specs.Counts.{arrived, accepted, open_connections}
use Rattle.executions.specs.Queues.{run_queue, offer_queue}
use Rattle.executions.specs.Sockets.{pool, event_socket}
use Rattle.executions.specs.Zones.{zone}
use Rattle.executions.specs.Agenda.{Whose, OfStrand, OfJob, OfIdle, next_due}
use Rattle.executions.specs.Jobs.{Pending, pending, next_job}
use Rattle.executions.specs.Ordered.{offers_last, was_touched}
use Rattle.executions.specs.Plain.{dialled_as, taken_number, taken_uses}

-- equal values
abbrev pub same_bool : Bool → Bool → Bool
same_bool true x = x
same_bool false x = not x

abbrev pub same_option : Option ℕ → Option ℕ → Bool
same_option None None = true
same_option (Some m) (Some n) = m == n
same_option m n = false

abbrev pub same_int : ℤ → ℤ → Bool
same_int (pos m) (pos n) = m == n
same_int (negsuc m) (negsuc n) = m == n
same_int m n = false

abbrev pub same_init : Option ℤ → Option ℤ → Bool
same_init None None = true
same_init (Some m) (Some n) = same_int m n
same_init m n = false

abbrev pub same_value : DictValue → DictValue → Bool
same_value (value.Text x) (value.Text y) = same_key x y
same_value (value.Number m) (value.Number n) = same_int m n
same_value (value.Truth x) (value.Truth y) = same_bool x y
same_value x y = false

abbrev pub same_how : How → How → Bool
same_how how.Set how.Set = true
same_how how.Add how.Add = true
same_how how.Replace how.Replace = true
same_how x y = false

abbrev pub same_call : DictCall → DictCall → Bool
same_call (call.Get k) (call.Get l) = same_key k l
same_call (call.Store h k v t f) (call.Store i l w u g) = same_how h i && same_key k l && same_value v w && (t == u) && (f == g)
same_call (call.Delete k) (call.Delete l) = same_key k l
same_call (call.Incr k b i t) (call.Incr l c j u) = same_key k l && same_int b c && same_init i j && (t == u)
same_call call.FlushAll call.FlushAll = true
same_call (call.FlushExpired m) (call.FlushExpired n) = m == n
same_call (call.Keys m) (call.Keys n) = m == n
same_call c d = false

abbrev pub same_keys : List (List ℕ) → List (List ℕ) → Bool
same_keys [] [] = true
same_keys (k ∷ ks) (l ∷ ls) = same_key k l && same_keys ks ls
same_keys ks ls = false

abbrev pub same_answer : DictAnswer → DictAnswer → Bool
same_answer (answer.Found v f) (answer.Found w g) = same_value v w && (f == g)
same_answer answer.Nothing answer.Nothing = true
same_answer (answer.Done x) (answer.Done y) = same_bool x y
same_answer answer.Exists answer.Exists = true
same_answer answer.Missing answer.Missing = true
same_answer (answer.NoMemory x) (answer.NoMemory y) = same_bool x y
same_answer answer.NotNumber answer.NotNumber = true
same_answer answer.OutOfRange answer.OutOfRange = true
same_answer (answer.Number m x) (answer.Number n y) = same_int m n && same_bool x y
same_answer (answer.Count m) (answer.Count n) = m == n
same_answer (answer.Names x) (answer.Names y) = same_keys x y
same_answer x y = false

abbrev pub same_timer : TimerAnswer → TimerAnswer → Bool
same_timer (timer.Job i) (timer.Job j) = i == j
same_timer timer.Full timer.Full = true
same_timer timer.Exiting timer.Exiting = true
same_timer x y = false

abbrev pub same_whose : Whose → Whose → Bool
same_whose (OfStrand s k) (OfStrand t j) = same_strand s t && (k == j)
same_whose (OfJob i) (OfJob j) = i == j
same_whose (OfIdle m) (OfIdle n) = m == n
same_whose v w = false

abbrev pub is_strand : StrandId → Option StrandId → Bool
is_strand s None = false
is_strand s (Some t) = same_strand s t

abbrev pub is_place : Place → Option Place → Bool
is_place q None = false
is_place q (Some p) = same_place q p

abbrev pub is_whose : Whose → Option Whose → Bool
is_whose w None = false
is_whose w (Some v) = same_whose w v

abbrev pub none : {A : Type 0} → Option A → Bool
none x = not (is_some x)

abbrev pub empty : {A : Type 0} → List A → Bool
empty xs = not (has_some xs)

abbrev pub starts_with : List ℕ → List ℕ → Bool
starts_with [] ys = true
starts_with (x ∷ xs) (y ∷ ys) = (x == y) && starts_with xs ys
starts_with xs ys = false

abbrev pub first_is : ℕ → List ℕ → Bool
first_is k [] = false
first_is k (j ∷ js) = k == j

abbrev pub first_place : Place → List Place → Bool
first_place q [] = false
first_place q (p ∷ ps) = same_place q p

abbrev pub front_thread : StrandId → ℕ → List (StrandId × ℕ) → Bool
front_thread s k [] = false
front_thread s k (e ∷ l) = same_strand s e.0 && (k == e.1)

abbrev pub front_place : StrandId → Place → List (StrandId × Place) → Bool
front_place s q [] = false
front_place s q (e ∷ l) = same_strand s e.0 && same_place q e.1

-- one strand
abbrev pub none_is_due : {J : Type 0} → Behavior J → List (LocalAction J) → Bool
none_is_due b es = not (is_waking es) || none (due (moment es) (armed b es))

abbrev pub has_no_work : {J : Type 0} → Behavior J → List (LocalAction J) → Bool
has_no_work b es =
    empty (todo b es) && empty (waiting b es) && empty (to_offer b es) && none (offering b es) && none_is_due b es && not (is_stopping es)
    && not (is_winding_up es)

abbrev pub is_quiescent : {J : Type 0} → Behavior J → List (LocalAction J) → Bool
is_quiescent b es = if lives es then has_no_work b es else empty (open_places es)

abbrev pub is_between : {J : Type 0} → Behavior J → List (LocalAction J) → Bool
is_between b es = lives es && empty (todo b es) && none (offering b es)

abbrev pub is_given_at : {J : Type 0} → Behavior J → List (LocalAction J) → Place → Bool
is_given_at b es q = lives es && has_no_work b es && is_open q es

abbrev pub is_offered_at : {J : Type 0} → Behavior J → List (LocalAction J) → Place → Bool
is_offered_at b es q = lives es && empty (todo b es) && is_place q (offering b es)

abbrev pub does_next : {J : Type 0} → Action J → List (Act J) → Bool
does_next (Close q) (act.HangUp p ∷ acts) = same_place q p
does_next (Log line done) (act.Log text ∷ acts) = same_key line text
does_next (Dict z c given) (act.Dict y d ∷ []) = (z == y) && same_call c d
does_next (Take key uses) (act.Take text ∷ []) = same_key key text
does_next (Dial host port done) (act.Dial h p ∷ []) = same_key host h && (port == p)
does_next (Keep k key idle size) (act.Keep j text span most ∷ []) = (k == j) && same_key key text && (idle.0 == span.0) && (size == most)
does_next (Timer at given) (act.Timer due job ∷ []) = at.0 == due.0
does_next Gone (act.Gone ∷ []) = true
does_next x acts = false

abbrev pub is_due : ℕ → Option (ℕ × ℕ) → Bool
is_due n None = false
is_due n (Some d) = n == d.0

abbrev pub enabled : {J : Type 0} → Behavior J → List (LocalAction J) → LocalAction J → Bool
enabled b es (Told w) = lives es && has_no_work b es
enabled b es (Did (Began now how)) = empty es
enabled b es (Did (Bytes q bytes)) = is_given_at b es q && not (has_ended q es) && has_some bytes
enabled b es (Did (Ended q)) = is_given_at b es q
enabled b es (Did (Broken q)) = is_given_at b es q
enabled b es (Did (Ready q)) = is_given_at b es q
enabled b es (Did (Dialled k)) = is_given_at b es (place.Sock k)
enabled b es (Did (Refused k)) = is_given_at b es (place.Sock k)
enabled b es (Did (Put q bytes)) = is_offered_at b es q && has_some bytes && starts_with bytes (piece b q es)
enabled b es (Did (Later q)) = is_offered_at b es q
enabled b es (Did (Lost q)) = is_offered_at b es q
enabled b es (Did (Close q)) = (does_next (Close q) (todo b es) && is_open q es) || (was_dropped es && first_place q (open_places es))
enabled b es (Did (Keep k key idle size)) = does_next (Keep k key idle size) (todo b es) && is_open (place.Sock k) es
enabled b es (Did Dropped) = lives es || empty es
enabled b es (Did (Run k)) =
    is_between b es && first_is k (waiting b es) && (not (in_offers es) || empty (to_offer b es)) && none_is_due b es && not (is_stopping es)
enabled b es (Did (Offer q)) =
    is_between b es && first_place q (to_offer b es) && (in_offers es || empty (waiting b es)) && none_is_due b es && not (is_stopping es)
enabled b es (Did (Due n)) = is_between b es && is_waking es && is_due n (due (moment es) (armed b es))
enabled b es (Did Halted) = is_between b es && (is_stopping es || (is_winding_up es && empty (waiting b es) && empty (to_offer b es)))
enabled b es (Did x) = does_next x (todo b es)

abbrev pub holds_nothing_at : {J : Type 0} → Behavior J → List Place → List (LocalAction J) → Bool
holds_nothing_at b [] es = true
holds_nothing_at b (q ∷ qs) es = (not (is_some_left (queued b q es)) || was_put_off q es) && holds_nothing_at b qs es

abbrev pub holds_nothing : {J : Type 0} → Behavior J → List (LocalAction J) → Bool
holds_nothing b es = not (lives es) || holds_nothing_at b (open_places es) es

-- all strands
abbrev pub each : {J : Type 0} → (List (LocalAction J) → Bool) → List StrandId → List (GlobalAction J) → Bool
each is_so [] ms = true
each is_so (s ∷ ss) ms = is_so (projection s ms) && each is_so ss ms

abbrev pub has_settled_in : {J : Type 0} → Phase → Behavior J → List (GlobalAction J) → Bool
has_settled_in Waking b ms = none (next_due b ms)
has_settled_in Stopping b ms = none (next_to_stop ms) && empty (pool ms) && empty (pending b ms)
has_settled_in Running b ms = true

abbrev pub has_settled : {J : Type 0} → Behavior J → List (GlobalAction J) → Bool
has_settled b ms = has_settled_in (phase ms) b ms

abbrev pub nothing_waits : {J : Type 0} → Behavior J → List (GlobalAction J) → Bool
nothing_waits b ms = has_settled b ms && empty (run_queue b ms) && empty (offer_queue b ms)

abbrev pub all_at_rest : {J : Type 0} → Behavior J → List (GlobalAction J) → Bool
all_at_rest b ms = each (is_quiescent b) (strands ms) ms && nothing_waits b ms

-- the items of a dictionary of a size are as they always are
abbrev pub is_numbered : DictValue → Bool
is_numbered (value.Number n) = is_whole n
is_numbered v = true

abbrev pub is_in_time : Option Ms → Bool
is_in_time None = true
is_in_time (Some expiry) = nat_le expiry.0 199_999_999_999_998

abbrev pub are_kept : List Item → Bool
are_kept [] = true
are_kept (item ∷ items) = is_numbered item.value && is_in_time item.expiry && are_kept items

abbrev pub has_none : List ℕ → List Item → Bool
has_none key [] = true
has_none key (item ∷ items) = not (same_key key item.key) && has_none key items

abbrev pub are_distinct : List Item → Bool
are_distinct [] = true
are_distinct (item ∷ items) = has_none item.key items && are_distinct items

abbrev pub is_within : ℕ → List Item → Bool
is_within size items = are_distinct items && nat_le (used items) size && are_kept items

-- the answer is one of a dictionary of at most 64 MiB
abbrev pub may_answer : {J : Type 0} → Behavior J → Action J → List (GlobalAction J) → Bool
may_answer b (Dict z c given) ms =
    nat_le (b.zone_size z) 67_108_864 && nat_le (present ms) 99_999_999_999_999 && is_within (b.zone_size z) (zone b z ms)
may_answer b x ms = true

abbrev pub enabled_of : {J : Type 0} → Behavior J → GlobalAction J → List (GlobalAction J) → Bool
enabled_of b (Of s x n) ms = enabled b (projection s ms) (Did x) && may_answer b x ms
enabled_of b (Everyone w) ms = each (λ es. not (lives es) || has_no_work b es) (strands ms) ms
enabled_of b m ms = true

abbrev pub is_job : {J : Type 0} → (J → J → Bool) → ℕ → J → List (Pending J) → Bool
is_job same j job [] = false
is_job same j job (p ∷ ps) = if j == p.number then same job p.job else is_job same j job ps

abbrev pub is_start_of : {J : Type 0} → (J → J → Bool) → Behavior J → StrandId → Start J → List (GlobalAction J) → Bool
is_start_of same b (strand.Conn c) (start.Client d) ms = c == d
is_start_of same b (strand.Job i) (start.Job j premature job) ms = (i == j) && is_job same j job (pending b ms) && same_bool premature (has_stopped ms)
is_start_of same b s how ms = false

abbrev pub begins_right : {J : Type 0} → (J → J → Bool) → Behavior J → GlobalAction J → List (GlobalAction J) → Bool
begins_right same b (Of s (Began now how) n) ms = is_start_of same b s how ms && (now == present ms)
begins_right same b m ms = true

abbrev pub is_plain_at : {J : Type 0} → Behavior J → Action J → Option ℕ → List (GlobalAction J) → Bool
is_plain_at b (Began now (start.Client c)) n ms = none n && (c == arrived ms + 1) && nat_lt (open_connections ms) b.connections
is_plain_at b (Dict z c given) n ms = none n && same_answer given (dict (b.zone_size z) c (present ms) (zone b z ms)).0
is_plain_at b (Take key uses) n ms = same_option n (taken_number (take_answer key (pool ms))) && same_option uses (taken_uses (take_answer key (pool ms)))
is_plain_at b (Dial host port done) n ms = same_option n (dialled_as done ms)
is_plain_at b (Keep k key idle size) n ms = same_option n (crowded_out key size (pool ms))
is_plain_at b (Timer at given) n ms = none n && same_timer given (timer_answer (has_stopped ms) (length (pending b ms)) (accepted ms))
is_plain_at b x n ms = none n

abbrev pub is_of_idle : List Idle → Option ℕ → Bool
is_of_idle idle None = false
is_of_idle idle (Some n) = is_idle n idle

abbrev pub is_plain_by : {J : Type 0} → Behavior J → GlobalAction J → List (GlobalAction J) → Bool
is_plain_by b (Of s x n) ms = is_plain_at b x n ms
is_plain_by b (Everyone w) ms = true
is_plain_by b (TurnedAway c) ms = (c == arrived ms + 1) && nat_le b.connections (open_connections ms)
is_plain_by b (IdleGave e) ms = is_of_idle (pool ms) (event_socket e)
is_plain_by b (IdleClosed n) ms = is_idle n (pool ms)

abbrev pub may_close_in : {J : Type 0} → Phase → Behavior J → ℕ → List (GlobalAction J) → Bool
may_close_in Waking b n ms = is_whose (OfIdle n) (next_due b ms)
may_close_in Stopping b n ms = none (next_to_stop ms) && same_option (Some n) (last_idle (pool ms))
may_close_in Running b n ms = false

abbrev pub may_start_in : {J : Type 0} → Phase → Behavior J → ℕ → List (GlobalAction J) → Bool
may_start_in Waking b j ms = is_whose (OfJob j) (next_due b ms)
may_start_in Stopping b j ms = none (next_to_stop ms) && empty (pool ms) && same_option (Some j) (next_job b ms)
may_start_in Running b j ms = false

abbrev pub may_start : {J : Type 0} → Behavior J → ℕ → List (GlobalAction J) → Bool
may_start b j ms = none (under_way b ms) && may_start_in (phase ms) b j ms

abbrev pub may_drop : {J : Type 0} → Bool → Behavior J → StrandId → List (GlobalAction J) → Bool
may_drop true b s ms = (none (under_way b ms) || is_strand s (under_way b ms)) && was_touched s ms
may_drop false b (strand.Job j) ms = may_start b j ms
may_drop false b (strand.Conn c) ms = false

abbrev pub is_waking_phase : Phase → Bool
is_waking_phase Waking = true
is_waking_phase p = false

abbrev pub is_stopping_phase : Phase → Bool
is_stopping_phase Stopping = true
is_stopping_phase p = false

abbrev pub may_turn_at : {J : Type 0} → Behavior J → StrandId → Action J → List (GlobalAction J) → Bool
may_turn_at b s (Run k) ms =
    none (under_way b ms) && has_settled b ms && (not (offers_last ms) || empty (offer_queue b ms)) && front_thread s k (run_queue b ms)
may_turn_at b s (Offer q) ms = none (under_way b ms) && has_settled b ms && (offers_last ms || empty (run_queue b ms)) && front_place s q (offer_queue b ms)
may_turn_at b s (Due k) ms = none (under_way b ms) && is_waking_phase (phase ms) && is_whose (OfStrand s k) (next_due b ms)
may_turn_at b s (Began now (start.Job j premature job)) ms = may_start b j ms
may_turn_at b s Halted ms =
    none (under_way b ms) && ((is_stopping_phase (phase ms) && is_strand s (next_to_stop ms)) || (nothing_waits b ms && is_strand s (next_to_wind_up ms)))
may_turn_at b s Dropped ms = may_drop (lives (projection s ms)) b s ms
may_turn_at b s x ms = true

abbrev pub may_turn : {J : Type 0} → Behavior J → GlobalAction J → List (GlobalAction J) → Bool
may_turn b (Of s x n) ms = may_turn_at b s x ms
may_turn b (IdleClosed n) ms = none (under_way b ms) && may_close_in (phase ms) b n ms
may_turn b m ms = true

-- what is broken, and behind how many actions
pub data Breaks : Type 0 where
  Alone : (at : ℕ) → Breaks
  Begins : (at : ℕ) → Breaks
  Rest : (at : ℕ) → Breaks
  Kept : (at : ℕ) → Breaks
  Plain : (at : ℕ) → Breaks
  Ordered : (at : ℕ) → Breaks

abbrev pub unless : Bool → Breaks → List Breaks
unless true x = []
unless false x = x ∷ []

abbrev pub breaks_at : {J : Type 0} → (J → J → Bool) → Behavior J → GlobalAction J → List (GlobalAction J) → ℕ → List Breaks
breaks_at same b m ms at =
    unless (enabled_of b m ms) (Alone at) ++ (unless (begins_right same b m ms) (Begins at)
    ++ (unless (not (has_given m) || all_at_rest b ms) (Rest at) ++ (unless (not (has_given m) || each (holds_nothing b) (strands ms) ms) (Kept at)
    ++ (unless (is_plain_by b m ms) (Plain at) ++ unless (may_turn b m ms) (Ordered at)))))

abbrev pub breaks_in : {J : Type 0} → (J → J → Bool) → Behavior J → List (GlobalAction J) → List Breaks
breaks_in same b [] = []
breaks_in same b (m ∷ ms) = breaks_in same b ms ++ breaks_at same b m ms (length ms)

-- what the execution breaks, the earliest first; nothing where it is lawful, kept, plain and ordered
abbrev pub breaks : {J : Type 0} → (J → J → Bool) → Behavior J → List (GlobalAction J) → List Breaks
breaks same b ms = breaks_in same b ms ++ (unless (all_at_rest b ms) (Rest (length ms)) ++ unless (each (holds_nothing b) (strands ms) ms) (Kept (length ms)))
