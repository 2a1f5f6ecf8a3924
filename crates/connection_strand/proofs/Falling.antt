-- What a turn that is shown pays for.
use Rattle.std.proofs.Common.{◌≡◌, ℕ, ◌≤◌, ◌<◌, ◌+◌, ◌*◌, Bool, true, false, not, ◌&&◌, ◌==◌, ◌||◌, List, [], ◌∷◌, length, take, drop, ◌++◌, length-append, take-append-drop, Option, Some, None, if◌then◌else◌, refl, sym, ap, ◌∙◌, arith, eq-eqb}
use Rattle.std.specs.Prelude.{nat_le, min, ◌-◌}
use Rattle.std.proofs.Math.Nat.{min_comm}
use Rattle.std.proofs.lemmas.List.{length-drop, length-take}
use Rattle.send_queue.specs.Queues as queues
use Rattle.strand_contract.specs.declared.turns.Act.{Act}
use Rattle.strand_contract.specs.declared.turns.Act.TheVariants as act
use Rattle.strand_contract.specs.declared.turns.Place.TheVariants as place
use Rattle.strand_contract.specs.declared.turns.Answer.{Answer}
use Rattle.strand_contract.specs.declared.turns.Answer.TheVariants as given
use Rattle.strand_contract.specs.Alone.{due, sooner}
use Rattle.strand_contract.specs.Calls.{is_own_turn}
use Rattle.run_contract.specs.Calls.{is_own_at}
use Rattle.run_contract.specs.declared.turns.SockSeen.{SockSeen}
use Rattle.run_contract.specs.declared.turns.SockSeen.TheVariants as at
use Rattle.strand_plans.specs.Moves.{ending}
use Rattle.strand_plans.specs.Ledgers.{has_number, numbers}
use Rattle.connection_strand.specs.declared.state.Connection.{Connection}
use Rattle.connection_strand.specs.declared.state.Progress.{Progress}
use Rattle.connection_strand.specs.Kept.{Kept, kept}
use Rattle.connection_strand.specs.Costs.{unit, weight_if, client_left, units, whole, Spends, Pays, Costs, Falls}
use Rattle.connection_strand.specs.Acts.{sockets_with}
use Rattle.connection_strand.specs.Shown.{sock_seen}
use Rattle.connection_strand.specs.Standing.{places}
use Rattle.connection_strand.proofs.Ends.{ending-length}
use Rattle.connection_strand.proofs.Costing.{may-end, one-longer, spends-client, hangs-costs}
use Rattle.connection_strand.proofs.Paying.{filter-fewer}

-- a deadline that is due is armed
pub due-armed : (now n at : ℕ) (ds : List (ℕ × ℕ)) → due now ds ≡ Some (n, at) → has_number n (numbers ds) ≡ true
due-armed now n at [] e = absurd (cc)
due-armed now n at (d ∷ ds) e = by (λ f. due-armed now n at ds f) (due now ds) refl
  where
    or-true : (c : Bool) → (c || true) ≡ true
    or-true true = refl
    or-true false = refl

    first : d ≡ (n, at) → has_number n (numbers (d ∷ ds)) ≡ true
    first f = ap (λ (k : ℕ × ℕ). (n == k.0) || has_number n (numbers ds)) f ∙ ap (λ (c : Bool). c || has_number n (numbers ds)) (eq-eqb n n refl)

    later : has_number n (numbers ds) ≡ true → has_number n (numbers (d ∷ ds)) ≡ true
    later f = ap (λ (c : Bool). (n == d.0) || c) f ∙ or-true (n == d.0)

    none : (c : Bool) → (if c then Some d else None) ≡ Some (n, at) → has_number n (numbers (d ∷ ds)) ≡ true
    none true f = first (cc)
    none false f = absurd (cc)

    some : (due now ds ≡ Some (n, at) → has_number n (numbers ds) ≡ true) → (y : ℕ × ℕ) → due now ds ≡ Some y → (c : Bool) → (if c then Some d else Some y) ≡ Some (n, at) → has_number n (numbers (d ∷ ds)) ≡ true
    some rest y g true f = first (cc)
    some rest y g false f = later (rest (g ∙ f))

    by : (due now ds ≡ Some (n, at) → has_number n (numbers ds) ≡ true) → (o : Option (ℕ × ℕ)) → due now ds ≡ o → has_number n (numbers (d ∷ ds)) ≡ true
    by rest None g = none (nat_le d.1 now) (sym (ap (sooner now d) g) ∙ e)
    by rest (Some y) g = some rest y g (nat_le d.1 now && nat_le d.1 y.1) (sym (ap (sooner now d) g) ∙ e)

-- what comes at a socket is a turn of the strand's own as it is one of the run's
pub own-sock : (k : ℕ) (x : SockSeen) → is_own_turn (sock_seen k x) ≡ is_own_at x
own-sock k (at.Bytes bytes) = refl
own-sock k at.Ended = refl
own-sock k at.Broken = refl
own-sock k at.Ready = refl
own-sock k (at.Took n) = refl
own-sock k at.Later = refl
own-sock k at.Lost = refl
own-sock k at.Dialled = refl
own-sock k at.Refused = refl

-- some of what is offered, and so of what is left
pub took-few : {R : Type 0} (m n : ℕ) (c : Connection R) → m ≡ min (length (queues.offered (kept c.client).sending)) n → m ≤ length (kept c.client).sending.bytes
took-few m n c e =
    let piece = queues.offered (kept c.client).sending in
    let f : m ≡ length (take n piece) = e ∙ min_comm (length piece) n ∙ sym (length-take n piece) in
    let g : length (take n piece) + length (drop n piece) ≡ length piece = sym (length-append (take n piece) (drop n piece)) ∙ ap length (take-append-drop n piece) in
    let xs = (kept c.client).sending.bytes in
    let i = 16_384 - (kept c.client).sending.phase in
    let l : length (take i xs) + length (drop i xs) ≡ length xs = sym (length-append (take i xs) (drop i xs)) ∙ ap length (take-append-drop i xs) in
    omega arith

pub units-hold : 8 ≤ unit
unfolding unit
units-hold = omega arith

-- an answer opens one socket at most
pub answered-few : (x : Answer) (k : Option ℕ) (n : ℕ) (ks : List ℕ) → length (sockets_with x k n ks) ≤ length ks + 1
answered-few (given.Dialled true) k n ks = let l : length (ks ++ n ∷ []) ≡ length ks + 1 = length-append ks (n ∷ []) in omega arith
answered-few (given.Took (Some uses)) k n ks = let l : length (ks ++ n ∷ []) ≡ length ks + 1 = length-append ks (n ∷ []) in omega arith
answered-few given.Kept (Some k) n ks = let l = filter-fewer (λ j. not (j == k)) ks in omega arith
answered-few x k n ks = omega arith

module _ {R : Type 0} (left : R → ℕ) (bound : ℕ) where
  -- by an answer one socket more may be open
  pub answered-opens : (c d : Connection R) → d ≡ record c { sockets = d.sockets; count = d.count; keeping = None } → length d.sockets.items ≤ length c.sockets.items + 1
      → whole left bound d ≤ whole left bound c + 2
  answered-opens c d same few =
      let e : whole left bound d ≡ unit * units left bound (kept c.client) c.run + client_left (kept c.client) + 2 * length d.sockets.items + 2 =
      ap (λ (k : Connection R). unit * units left bound (kept k.client) k.run + client_left (kept k.client) + 2 * length d.sockets.items + 2) same in
      omega arith

module _ {R J : Type 0} (left : R → ℕ) (bound : ℕ) where
  -- the client's part fell by so much, and what follows costs less
  pub client-falls : (n : ℕ) (c d c' : Connection R) (u u' : Progress J) → d.run ≡ c.run → d.sockets ≡ c.sockets → units left bound (kept d.client) c.run ≡ units left bound (kept c.client) c.run
      → client_left (kept d.client) + n < client_left (kept c.client) → Costs left bound n d u c' u' → Falls left bound c u c' u'
  client-falls n c d c' u u' run socks same less h =
      let e : whole left bound d ≡ unit * units left bound (kept c.client) c.run + client_left (kept d.client) + 2 * length c.sockets.items + 2 =
      ap (λ (r : Option R). unit * units left bound (kept d.client) r + client_left (kept d.client) + 2 * length d.sockets.items + 2) run
      ∙ ap (λ v. unit * units left bound (kept d.client) c.run + client_left (kept d.client) + 2 * length v.items + 2) socks
      ∙ ap (λ (x : ℕ). unit * x + client_left (kept d.client) + 2 * length c.sockets.items + 2) same in
      omega arith

  pub later-falls : (c c' : Connection R) (u u' : Progress J) → (kept c.client).off ≡ false → Spends left bound 5 (record c { client = record c.client { is_put_off = true } }) u c' u' → Falls left bound c u c' u'
  later-falls c c' u u' off h =
      client-falls 5 c (record c { client = record c.client { is_put_off = true } }) c' u u' refl refl refl (let w = ap (λ (x : Bool). weight_if (not x) 16) off in omega arith)
      (let e = may-end left bound c' in omega arith)

  pub waited-falls : (c c' : Connection R) (u u' : Progress J) → (kept c.client).waits ≡ true → Costs left bound 0 (record c { client = record c.client { is_waiting = false } }) u c' u' → Falls left bound c u c' u'
  waited-falls c c' u u' on h =
      client-falls 0 c (record c { client = record c.client { is_waiting = false } }) c' u u' refl refl refl (let w = ap (λ (x : Bool). weight_if x 4) on in omega arith) h

  pub sent-falls : (c c' : Connection R) (u u' : Progress J) → (kept c.client).sends ≡ true → Costs left bound 0 (record c { client = record c.client { is_sending = false } }) u c' u' → Falls left bound c u c' u'
  sent-falls c c' u u' on h =
      client-falls 0 c (record c { client = record c.client { is_sending = false } }) c' u u' refl refl refl (let w = ap (λ (x : Bool). weight_if x 4) on in omega arith) h

  -- some bytes of those that are offered were taken
  pub took-falls : (m : ℕ) (c d c' : Connection R) (u u' : Progress J) → d.run ≡ c.run → d.sockets ≡ c.sockets → kept d.client ≡ record (kept c.client) { sending = queues.taken (kept c.client).sending m }
      → 0 < m → m ≤ length (kept c.client).sending.bytes → Costs left bound 5 d u c' u' → Falls left bound c u c' u'
  took-falls m c d c' u u' run socks client some few h =
      client-falls 5 c d c' u u' run socks (ap (λ (k : Kept). units left bound k c.run) client)
      (let l = length-drop m (kept c.client).sending.bytes in
      let e : client_left (kept d.client) ≡ client_left (record (kept c.client) { sending = queues.taken (kept c.client).sending m }) = ap client_left client in omega arith) h

  -- the run paid
  pub told-falls : (c c' : Connection R) (u u' : Progress J) → Pays left bound unit c u c' u' → Falls left bound c u c' u'
  told-falls c c' u u' h = let e = may-end left bound c' in let n = units-hold in omega arith

  pub told-settled : (c d c' : Connection R) (u v u' : Progress J) → Pays left bound unit c u d v → Costs left bound 5 d v c' u' → Falls left bound c u c' u'
  told-settled c d c' u v u' h k = let n = units-hold in omega arith

  -- an open client is hung up
  pub hung-pays : (c d : Connection R) (u v : Progress J) → (kept c.client).opened ≡ true → d.run ≡ c.run → d.sockets ≡ c.sockets
      → kept d.client ≡ record (kept c.client) { opened = false; sending = queues.dropped (kept c.client).sending } → length v.acts.items ≡ length u.acts.items + 1 → Pays left bound 3 c u d v
  hung-pays c d u v opens run socks client acts =
      let k = kept c.client in
      let k' = record k { opened = false; sending = queues.dropped k.sending } in
      let e : whole left bound d ≡ unit * units left bound k c.run + client_left k' + 2 * length c.sockets.items + 2 =
      ap (λ (x : Kept). unit * units left bound x d.run + client_left x + 2 * length d.sockets.items + 2) client
      ∙ ap (λ (r : Option R). unit * units left bound k r + client_left k' + 2 * length d.sockets.items + 2) run
      ∙ ap (λ v. unit * units left bound k c.run + client_left k' + 2 * length v.items + 2) socks in
      let w = ap (λ (x : Bool). weight_if x 4) opens in
      omega arith

  -- or there is none
  pub hung-spends : (o : Bool) (c d : Connection R) (u v : Progress J) → (kept c.client).opened ≡ o → d.run ≡ c.run → d.sockets ≡ c.sockets
      → kept d.client ≡ (if o then record (kept c.client) { opened = false; sending = queues.dropped (kept c.client).sending } else kept c.client)
      → v.acts.items ≡ u.acts.items ++ (if o then act.HangUp place.Client ∷ [] else []) → Spends left bound 0 c u d v
  hung-spends true c d u v opens run socks client acts =
      hangs-costs left bound c d u v (hung-pays c d u v opens run socks client (one-longer u.acts.items v.acts.items (act.HangUp place.Client) acts))
  hung-spends false c d u v shut run socks client acts =
      spends-client left bound 0 c d u v (kept c.client) client run (ap (λ v. v.items) socks) refl (let l = ap length acts ∙ length-append u.acts.items [] in omega arith)

  pub closing-falls : (o : Bool) (x n : ℕ) (acts last : List (Act J)) (socks : List ℕ) → last ≡ acts ++ ending (places o socks) → n ≡ x + weight_if o 4 + 2 * length socks + 2
      → 0 + length last < n + length acts
  closing-falls o x n acts last socks e f = by o (ap length e ∙ length-append acts (ending (places o socks)) ∙ ap (λ k. length acts + k) (ending-length J o socks)) f
    where
      by : (o : Bool) → length last ≡ length acts + ((if o then 1 else 0) + length socks + 1) → n ≡ x + weight_if o 4 + 2 * length socks + 2 → 0 + length last < n + length acts
      by true e f = omega arith
      by false e f = omega arith

  pub lost-falls : (c d c' : Connection R) (u v u' : Progress J) → Pays left bound 3 c u d v → Spends left bound 0 d v c' u' → Falls left bound c u c' u'
  lost-falls c d c' u v u' h k = let n = may-end left bound c' in omega arith

  pub lost-alone : (c d : Connection R) (u v : Progress J) → Pays left bound 3 c u d v → Falls left bound c u d v
  lost-alone c d u v h = let n = may-end left bound d in omega arith

  pub pays-on : (c d e f : Connection R) (u v w x : Progress J) → Pays left bound 3 c u d v → Spends left bound 0 d v e w → Spends left bound 0 e w f x → Pays left bound 3 c u f x
  pays-on c d e f u v w x h k l = omega arith

  pub paid-spends : (n : ℕ) (c c' : Connection R) (u u' : Progress J) → Pays left bound n c u c' u' → Spends left bound 0 c u c' u'
  paid-spends n c c' u u' h = omega arith

  -- the run paid for its answer, and for the socket that it opened
  pub answered-falls : (c d e c' : Connection R) (u v u' : Progress J) → whole left bound d ≤ whole left bound c + 2 → Pays left bound unit d u e v → Costs left bound 5 e v c' u'
      → Falls left bound c u c' u'
  answered-falls c d e c' u v u' few h k = let n = units-hold in omega arith
