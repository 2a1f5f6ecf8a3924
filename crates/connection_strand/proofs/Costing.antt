-- What calls cost.
use Rattle.std.proofs.Common.{◌≡◌, ℕ, ◌≤◌, ◌+◌, ◌*◌, Bool, true, false, not, List, [], ◌∷◌, ◌++◌, length, Option, if◌then◌else◌, refl, ap, ◌∙◌, arith, length-append}
use Rattle.send_queue.specs.Queues as queues
use Rattle.send_queue.specs.Records.{Sending}
use Rattle.strand_contract.specs.declared.turns.Act.{Act}
use Rattle.connection_plan.specs.Clients.{Stage}
use Rattle.connection_plan.specs.Clients as stage
use Rattle.connection_plan.specs.Timers.{Timer}
use Rattle.connection_plan.specs.Timers as timer
use Rattle.connection_strand.specs.declared.state.Connection.{Connection}
use Rattle.connection_strand.specs.declared.state.Progress.{Progress}
use Rattle.connection_strand.specs.Kept.{Kept, kept, with_armed, is_armed}
use Rattle.connection_strand.specs.Costs.{unit, weight_if, client_left, units, whole, left_at, left_of, Spends, Pays, Costs, Settles}
use Rattle.connection_strand.proofs.Moving.{unarmed-same}

pub one-longer : {J : Type 0} (acts acts' : List (Act J)) (a : Act J) → acts' ≡ acts ++ a ∷ [] → length acts' ≡ length acts + 1
one-longer acts acts' a e = ap length e ∙ length-append acts (a ∷ [])

queued-longer : (s : Sending) (bytes : List ℕ) → length (queues.queued s bytes).bytes ≤ length s.bytes + length bytes
queued-longer s bytes = by s.gone
  where
    by : (gone : Bool) → length (if gone then s else record { bytes = s.bytes ++ bytes; phase = s.phase; gone = false }).bytes ≤ length s.bytes + length bytes
    by true = omega arith
    by false = let e = length-append s.bytes bytes in omega arith

waits-costs : (k : Kept) → client_left (record k { waits = true }) ≤ client_left k + 4
waits-costs k = by k.waits
  where
    by : (w : Bool) → 16 * length k.sending.bytes + weight_if (not k.off) 16 + weight_if k.opened 4 + weight_if true 4 + weight_if k.sends 4
        ≤ 16 * length k.sending.bytes + weight_if (not k.off) 16 + weight_if k.opened 4 + weight_if w 4 + weight_if k.sends 4 + 4
    by true = omega arith
    by false = omega arith

arms-costs : (t : Timer) (k : Kept) → client_left (with_armed t true k) ≤ client_left k + 4
arms-costs timer.Header k = waits-costs k
arms-costs timer.Keepalive k = waits-costs k
arms-costs timer.Body k = waits-costs k
arms-costs timer.Send k = by k.sends
  where
    by : (w : Bool) → 16 * length k.sending.bytes + weight_if (not k.off) 16 + weight_if k.opened 4 + weight_if k.waits 4 + weight_if true 4
        ≤ 16 * length k.sending.bytes + weight_if (not k.off) 16 + weight_if k.opened 4 + weight_if k.waits 4 + weight_if w 4 + 4
    by true = omega arith
    by false = omega arith

cancels-pays : (t : Timer) (k : Kept) → is_armed t k ≡ true → client_left (with_armed t false k) + 4 ≤ client_left k
cancels-pays timer.Header k e = let w = ap (λ (x : Bool). weight_if x 4) e in omega arith
cancels-pays timer.Keepalive k e = let w = ap (λ (x : Bool). weight_if x 4) e in omega arith
cancels-pays timer.Body k e = let w = ap (λ (x : Bool). weight_if x 4) e in omega arith
cancels-pays timer.Send k e = let w = ap (λ (x : Bool). weight_if x 4) e in omega arith

module _ {R J : Type 0} (left : R → ℕ) (bound : ℕ) where
  -- the run, what is held and how far the reply is are as they were
  pub spends-client : (n : ℕ) (c c' : Connection R) (u u' : Progress J) (k : Kept) → kept c'.client ≡ k → c'.run ≡ c.run → c'.sockets.items ≡ c.sockets.items
      → units left bound k c.run ≡ units left bound (kept c.client) c.run
      → client_left k + length u'.acts.items ≤ client_left (kept c.client) + length u.acts.items + n → Spends left bound n c u c' u'
  spends-client n c c' u u' k client run socks same less =
      let e : whole left bound c' ≡ unit * units left bound (kept c.client) c.run + client_left k + 2 * length c.sockets.items + 2 =
      ap (λ (x : Kept). unit * units left bound x c'.run + client_left x + 2 * length c'.sockets.items + 2) client
      ∙ ap (λ (r : Option R). unit * units left bound k r + client_left k + 2 * length c'.sockets.items + 2) run
      ∙ ap (λ (xs : List ℕ). unit * units left bound k c.run + client_left k + 2 * length xs + 2) socks
      ∙ ap (λ (x : ℕ). unit * x + client_left k + 2 * length c.sockets.items + 2) same in
      omega arith

  pub begins-costs : (t : Timer) (c c' : Connection R) (u u' : Progress J) (a : Act J) → kept c'.client ≡ with_armed t true (kept c.client) → c'.run ≡ c.run → c'.sockets.items ≡ c.sockets.items
      → u'.acts.items ≡ u.acts.items ++ a ∷ [] → Spends left bound 5 c u c' u'
  begins-costs t c c' u u' a client run socks acts =
      spends-client 5 c c' u u' (with_armed t true (kept c.client)) client run socks (same t)
      (let e = one-longer u.acts.items u'.acts.items a acts in let f = arms-costs t (kept c.client) in omega arith)
    where
      same : (t : Timer) → units left bound (with_armed t true (kept c.client)) c.run ≡ units left bound (kept c.client) c.run
      same timer.Header = refl
      same timer.Keepalive = refl
      same timer.Body = refl
      same timer.Send = refl

  ends-costs : (t : Timer) (c c' : Connection R) (u u' : Progress J) (a : Act J) → is_armed t (kept c.client) ≡ true → kept c'.client ≡ with_armed t false (kept c.client) → c'.run ≡ c.run
      → c'.sockets.items ≡ c.sockets.items → u'.acts.items ≡ u.acts.items ++ a ∷ [] → Spends left bound 0 c u c' u'
  ends-costs t c c' u u' a armed client run socks acts =
      spends-client 0 c c' u u' (with_armed t false (kept c.client)) client run socks (same t)
      (let e = one-longer u.acts.items u'.acts.items a acts in let f = cancels-pays t (kept c.client) armed in omega arith)
    where
      same : (t : Timer) → units left bound (with_armed t false (kept c.client)) c.run ≡ units left bound (kept c.client) c.run
      same timer.Header = refl
      same timer.Keepalive = refl
      same timer.Body = refl
      same timer.Send = refl

  -- or there is nothing to cancel
  pub ends-costs-if : (o : Bool) (t : Timer) (c c' : Connection R) (u u' : Progress J) (a : Act J) → is_armed t (kept c.client) ≡ o → kept c'.client ≡ with_armed t false (kept c.client) → c'.run ≡ c.run
      → c'.sockets.items ≡ c.sockets.items → u'.acts.items ≡ u.acts.items ++ (if o then a ∷ [] else []) → Spends left bound 0 c u c' u'
  ends-costs-if true t c c' u u' a armed client run socks acts = ends-costs t c c' u u' a armed client run socks acts
  ends-costs-if false t c c' u u' a none client run socks acts =
      spends-client 0 c c' u u' (kept c.client) (client ∙ unarmed-same t (kept c.client) none) run socks refl (let l = ap length acts ∙ length-append u.acts.items [] in omega arith)

  pub spends-nothing : (c : Connection R) (u : Progress J) → Spends left bound 0 c u c u
  spends-nothing c u = omega arith

  pub spends-none : (n : ℕ) (c : Connection R) (u : Progress J) → Spends left bound n c u c u
  spends-none n c u = omega arith

  pub queues-costs : (bytes : List ℕ) (c d c' : Connection R) (u u' : Progress J) → kept d.client ≡ record (kept c.client) { sending = queues.queued (kept c.client).sending bytes }
      → d.run ≡ c.run → d.sockets.items ≡ c.sockets.items → Spends left bound 1 d u c' u' → Spends left bound (16 * length bytes + 1) c u c' u'
  queues-costs bytes c d c' u u' client run socks h =
      let k = kept c.client in
      let f : Spends left bound (16 * length bytes) c u d u = spends-client (16 * length bytes) c d u u (record k { sending = queues.queued k.sending bytes }) client run socks refl
      (let l = queued-longer k.sending bytes in omega arith) in
      omega arith

  pub hangs-costs : (c c' : Connection R) (u u' : Progress J) → Pays left bound 3 c u c' u' → Spends left bound 0 c u c' u'
  hangs-costs c c' u u' h = omega arith

module _ {R : Type 0} (left : R → ℕ) (bound : ℕ) where
  pub may-end : (c : Connection R) → left_of left bound c ≤ whole left bound c
  may-end c = by (kept c.client).stage
    where
      by : (st : Stage) → left_at left bound st (whole left bound c) ≤ whole left bound c
      by stage.Over = omega arith
      by stage.Idle = omega arith
      by stage.Head = omega arith
      by stage.Busy = omega arith
      by stage.Flush = omega arith
      by stage.Drop = omega arith

-- a call that may end, after others
module _ {R J : Type 0} (left : R → ℕ) (bound : ℕ) where
  pub ends-within : (n : ℕ) (c c' : Connection R) (u u' : Progress J) → Spends left bound n c u c' u' → Costs left bound n c u c' u'
  ends-within n c c' u u' h = let e = may-end left bound c' in omega arith

  pub costs-more : (c c' : Connection R) (u u' : Progress J) → Costs left bound 0 c u c' u' → Costs left bound 5 c u c' u'
  costs-more c c' u u' h = omega arith

  pub costs-after : (n m : ℕ) (c d c' : Connection R) (u v u' : Progress J) → Spends left bound n c u d v → Costs left bound m d v c' u' → Costs left bound (n + m) c u c' u'
  costs-after n m c d c' u v u' h k = omega arith

  pub spends-after : (n m : ℕ) (c d c' : Connection R) (u v u' : Progress J) → Spends left bound n c u d v → Spends left bound m d v c' u' → Spends left bound (n + m) c u c' u'
  spends-after n m c d c' u v u' h k = omega arith

  pub spends-then : (n : ℕ) (c d c' : Connection R) (u v u' : Progress J) → Spends left bound 0 c u d v → Spends left bound n d v c' u' → Spends left bound n c u c' u'
  spends-then n c d c' u v u' h k = omega arith

  pub pays-after : (n : ℕ) (c d c' : Connection R) (u v u' : Progress J) → Spends left bound 0 c u d v → Pays left bound n d v c' u' → Pays left bound n c u c' u'
  pays-after n c d c' u v u' h k = omega arith

  pub settles-less : (c c' : Connection R) (u u' : Progress J) → Spends left bound 0 c u c' u' → Costs left bound 5 c u c' u'
  settles-less c c' u u' h = let n = may-end left bound c' in omega arith

  pub loses-costs : (c d c' : Connection R) (u v u' : Progress J) → Spends left bound 0 c u d v → Pays left bound unit d v c' u' → Costs left bound 0 c u c' u'
  loses-costs c d c' u v u' h k = let n = may-end left bound c' in omega arith

  pub settles-nothing : (c : Connection R) (u : Progress J) → Costs left bound 5 c u c u
  settles-nothing c u = let n = may-end left bound c in omega arith

pub unit-some : 1 ≤ unit
unfolding unit
unit-some = omega arith

unit-waits : 407 ≤ unit
unfolding unit
unit-waits = omega arith

-- what pays for a turn of the run settles something
module _ {R J : Type 0} (left : R → ℕ) (bound : ℕ) where
  pub pays-settles : (on : Bool) (c c' : Connection R) (u u' : Progress J) → Pays left bound unit c u c' u' → Settles left bound on c u c' u'
  pays-settles true c c' u u' h = let n = unit-some in omega arith
  pays-settles false c c' u u' h = let n = may-end left bound c' in omega arith

  -- also a wait for more of a body before it
  pub waits-settles : (on : Bool) (c d c' : Connection R) (u v u' : Progress J) → Spends left bound 406 c u d v → Pays left bound unit d v c' u' → Settles left bound on c u c' u'
  waits-settles true c d c' u v u' h k = let n = unit-waits in omega arith
  waits-settles false c d c' u v u' h k = let n = unit-waits in let e = may-end left bound c' in omega arith

  pub settles-after : (on : Bool) (c d c' : Connection R) (u v u' : Progress J) → Spends left bound 0 c u d v → Settles left bound on d v c' u' → Settles left bound on c u c' u'
  settles-after true c d c' u v u' h k = omega arith
  settles-after false c d c' u v u' h k = omega arith
