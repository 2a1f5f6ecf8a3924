-- What is shown, as the moves of its turn.
use Rattle.std.proofs.Common.{◌≡◌, ℕ, zero, suc, ◌==◌, eqb-true, ◌≤◌, ◌<◌, ◌+◌, Bool, true, false, not, List, [], ◌∷◌, length, take, drop, min, Some, None, if◌then◌else◌, refl, sym, ap, ◌∙◌, subst, arith, length-append, take-append-drop, append-nil}
use Rattle.std.specs.Prelude.{◌-◌, ◌%◌}
use Rattle.std.proofs.Math.Seq.{drop-nil}
use Rattle.std.proofs.lemmas.List.{length-take, length-drop, drop-drop}
use Rattle.std.proofs.Math.Nat.{min_comm, mod-add-mod}
use Rattle.strand_contract.specs.declared.turns.Place.TheVariants as place
use Rattle.strand_contract.specs.declared.turns.Seen.{Seen}
use Rattle.strand_contract.specs.declared.turns.Seen.TheVariants as seens
use Rattle.strand_contract.specs.Actions.{Did, Put}
use Rattle.strand_contract.specs.Alone.{IsPrefixOf}
use Rattle.strand_contract.specs.PrefixLaws.{taken-are}
use Rattle.strand_plans.specs.Ledgers.{Ledger, has, numbers, is_place, left_at, entered}
use Rattle.strand_plans.specs.Moves.{Move, Done, Look, Performed, perform}
use Rattle.strand_plans.specs.Moves as move
use Rattle.strand_plans.specs.Tidiness.{NumbersOnce}
use Rattle.strand_plans.specs.Turns.{IsDue}
use Rattle.run_contract.specs.declared.turns.RunSeen.{RunSeen}
use Rattle.run_contract.specs.declared.turns.RunSeen.TheVariants as seen
use Rattle.run_contract.specs.declared.turns.SockSeen.{SockSeen}
use Rattle.run_contract.specs.declared.turns.SockSeen.TheVariants as at
use Rattle.run_contract.specs.Alike.{AreAlike}
use Rattle.run_contract.specs.Calls as runs
use Rattle.run_contract.specs.Runs.{Waits, is_of_client}
use Rattle.run_contract.specs.Conditions.{IsBlank, IsRun, MayCome, MayComeAt, entered_as, next_piece}
use Rattle.run_contract.specs.StoredLaws.{own-due, not-below}
use Rattle.client_line.specs.Feeding.{fed}
use Rattle.connection_plan.specs.Clients.{Stage}
use Rattle.connection_plan.specs.Clients as stage
use Rattle.connection_plan.specs.Services.{Both}
use Rattle.connection_plan.specs.Timers.{number_of}
use Rattle.connection_plan.specs.Timers as timer
use Rattle.connection_plan.specs.Turns.{is_there, change, finish, begin_timer, end_timer, tell, lose, settle}
use Rattle.connection_plan.specs.Connections.{came_at, ends_at, to_run}
use Rattle.connection_plan.specs.Conditions.{Agrees, AgreesWithin}
use Rattle.connection_plan.proofs.Alike.{due-alike}
use Rattle.connection_plan.proofs.Lifted.{same-run-refl}
use Rattle.connection_plan.proofs.Meets.{taken-of}
use Rattle.connection_plan.proofs.Stays.{within-of, within-alike}
use Rattle.connection_strand.specs.Views.{View, service}
use Rattle.connection_strand.specs.declared.state.Connection.{Connection}
use Rattle.connection_strand.specs.declared.state.Progress.{Progress}
use Rattle.connection_strand.specs.declared.client.Stage as codes
use Rattle.connection_strand.specs.declared.client.Stage.TheVariants as code
use Rattle.send_queue.specs.Records.{Sending}
use Rattle.send_queue.specs.Queues as queues
use Rattle.connection_strand.specs.Kept.{Kept, kept, kept_of, waits_of, sending_of, stage_of, with_armed}
use Rattle.connection_strand.specs.Standing.{Moment, plain, IsOn, IsFree, IsUnasked, HasRun, Serves, Within, Toward, Came, before, places, kept_sock}
use Rattle.connection_strand.specs.Turns.{Told}
use Rattle.connection_strand.specs.Shown.{Shown, ToRun, action_by, sock_seen}
use Rattle.strand_plans.proofs.Once.{once-disarmed}
use Rattle.connection_strand.proofs.Deadlines.{cancelled-other, disarms}
use Rattle.connection_strand.proofs.Facing.{not-busy}
use Rattle.connection_strand.proofs.Moving.{IsSameRun, run-alike, stays-within}

take-le : (n : ℕ) (xs : List ℕ) → length (take n xs) ≤ length xs
take-le n xs = let e : length (take n xs) + length (drop n xs) ≡ length xs = sym (length-append (take n xs) (drop n xs)) ∙ ap length (take-append-drop n xs) in omega arith

pub two-up : (n : ℕ) → (n ≡ 0 → ⊥) → (n ≡ 1 → ⊥) → 2 ≤ n
two-up zero f g = absurd (f refl)
two-up (suc zero) f g = absurd (g refl)
two-up (suc (suc n)) f g = omega arith

module _ {R J I : Type 0} (v : View R J I)
    (lawful : IsRun v.meaning.plan v.meaning.holds) (apart : (x : R) (b c : Ledger J) (r : I) → AreAlike b c → v.meaning.stands x b r → v.meaning.stands x c r) (now : ℕ) where
  abbrev pub To : Moment J → Performed J (Both I) → Connection R → Progress J → Move J (Both I) → Type 0
  To e did c u m = Toward v e did c u m

  abbrev pub Shows : Seen → Performed J (Both I) → Connection R → Progress J → Type 0
  Shows x did c u = Shown v now x did c u

  -- with the action entered
  abbrev pub after : {x : Seen} {did : Performed J (Both I)} {c : Connection R} {u : Progress J} → Shows x did c u → Ledger J
  after {x} h = entered (Did (action_by h.ledger x)) h.ledger

  -- what is open is as it was, and nothing is asked
  record IsCalm (b c : Ledger J) : Type 0 where
    opened : c.opened ≡ b.opened
    count : c.count ≡ b.count
    asked : c.asked ≡ None
    counted : c.taken place.Client ≤ length (c.sent place.Client)
    once : NumbersOnce (numbers c.armed)

  serves-by : (x : Seen) (did : Performed J (Both I)) (c c' : Connection R) (u : Progress J) (h : Shows x did c u) → IsSameRun c c' → IsCalm h.ledger (after h)
      → kept c'.client ≡ kept_of (after h) h.inner.client → Serves c' u (after h) h.inner
  serves-by x did c c' u h same calm client = record {
    client = client;
    sockets = calm.opened ∙ h.sockets ∙ ap (λ ps. places (has place.Client ps) c.sockets.items) (sym calm.opened) ∙ ap (places (is_there (after h))) (sym same.sockets);
    count = same.count ∙ h.count ∙ sym calm.count;
    keeping = same.keeping ∙ h.keeping;
    offered = λ there. h.offered (ap (has place.Client) (sym calm.opened) ∙ there);
    taking = λ there. same.taking ∙ h.taking (ap (has place.Client) (sym calm.opened) ∙ there);
    counted = calm.counted;
    once = calm.once;
    none_asked = calm.asked;
    on = h.on;
  }

  within-by : (x : Seen) (did : Performed J (Both I)) (c c' : Connection R) (u : Progress J) (h : Shows x did c u) → IsSameRun c c' → AreAlike h.ledger (after h)
      → Serves c' u (after h) h.inner → Within v (plain h.inner.client.stage) c' u (after h) h.inner
  within-by x did c c' u h same alike serves = record {
    serves = serves;
    at = refl;
    run = run-alike v lawful apart h.inner.client.stage c.run c'.run (waits_of c.waits) (waits_of c'.waits) h.ledger (after h) h.inner.run same.run (ap waits_of same.waits) alike h.run;
    known = within-alike (service v) 0 v.meaning.holds lawful h.inner.client.stage h.ledger (after h) h.inner.run alike
        (within-of v.meaning.plan v.meaning.holds h.inner.client.stage h.ledger h.inner.run h.known);
    blank = λ over. absurd (let e : false ≡ true = over in cc);
    made = refl;
  }

  same-run : (c : Connection R) → IsSameRun c c
  same-run c = record { run = refl; waits = refl; sockets = refl; count = refl; keeping = refl; taking = refl }

  -- ---- at the client's place

  pub shown-bytes : (bytes : List ℕ) (did : Performed J (Both I)) (c : Connection R) (u : Progress J) (h : Shows (seens.Bytes place.Client bytes) did c u)
      → To (plain h.inner.client.stage) did c u (Look (λ b s. came_at (service v) now s.client.stage (fed s.client.came bytes) s))
  shown-bytes bytes did c u h =
      let alike : AreAlike h.ledger (after h) = record { threads = refl; armed = refl; put_off = λ k. refl; taken = λ k. refl; sent = λ k. refl; opened = λ k. refl; count = refl; asked = h.none_asked } in
      record {
        ledger = after h;
        inner = h.inner;
        within = within-by _ did c c u h (same-run c) alike (serves-by _ did c c u h (same-run c) (record { opened = refl; count = refl; asked = refl; counted = h.counted; once = h.once }) h.client);
        leads = h.leads;
      }

  pub shown-ended : (did : Performed J (Both I)) (c : Connection R) (u : Progress J) (h : Shows (seens.Ended place.Client) did c u)
      → To (plain h.inner.client.stage) did c u (Look (λ b s. ends_at (service v) now s.client.stage s))
  shown-ended did c u h =
      let alike : AreAlike h.ledger (after h) = record { threads = refl; armed = refl; put_off = λ k. refl; taken = λ k. refl; sent = λ k. refl; opened = λ k. refl; count = refl; asked = h.none_asked } in
      record {
        ledger = after h;
        inner = h.inner;
        within = within-by _ did c c u h (same-run c) alike (serves-by _ did c c u h (same-run c) (record { opened = refl; count = refl; asked = refl; counted = h.counted; once = h.once }) h.client);
        leads = h.leads;
      }

  pub shown-broken : (did : Performed J (Both I)) (c : Connection R) (u : Progress J) (h : Shows (seens.Broken place.Client) did c u) → To (plain h.inner.client.stage) did c u (lose (service v) now)
  shown-broken did c u h =
      let alike : AreAlike h.ledger (after h) = record { threads = refl; armed = refl; put_off = λ k. refl; taken = λ k. refl; sent = λ k. refl; opened = λ k. refl; count = refl; asked = h.none_asked } in
      record {
        ledger = after h;
        inner = h.inner;
        within = within-by _ did c c u h (same-run c) alike (serves-by _ did c c u h (same-run c) (record { opened = refl; count = refl; asked = refl; counted = h.counted; once = h.once }) h.client);
        leads = h.leads;
      }

  pub shown-stop : (did : Performed J (Both I)) (c : Connection R) (u : Progress J) (h : Shows seens.Stop did c u) → To (plain h.inner.client.stage) did c u finish
  shown-stop did c u h =
      let alike : AreAlike h.ledger (after h) = record { threads = refl; armed = refl; put_off = λ k. refl; taken = λ k. refl; sent = λ k. refl; opened = λ k. refl; count = refl; asked = h.none_asked } in
      record {
        ledger = after h;
        inner = h.inner;
        within = within-by _ did c c u h (same-run c) alike (serves-by _ did c c u h (same-run c) (record { opened = refl; count = refl; asked = refl; counted = h.counted; once = h.once }) h.client);
        leads = h.leads;
      }

  -- a place whose offer was begun isn't put off
  on-time : (did : Performed J (Both I)) (c : Connection R) (u : Progress J) (x : Seen) (h : Shows x did c u) → h.ledger.begun ≡ Some place.Client → h.ledger.put_off place.Client ≡ false
  on-time did c u x h begun = h.takes (ap (is_place place.Client) begun)

  pub shown-lost : (did : Performed J (Both I)) (c : Connection R) (u : Progress J) (h : Shows (seens.Lost place.Client) did c u) → To (plain h.inner.client.stage) did c u (lose (service v) now)
  shown-lost did c u h =
      let alike : AreAlike h.ledger (after h) = record { threads = refl; armed = refl; put_off = λ k. refl; taken = λ k. refl; sent = λ k. refl; opened = λ k. refl; count = refl; asked = h.none_asked } in
      record {
        ledger = after h;
        inner = h.inner;
        within = within-by _ did c c u h (same-run c) alike (serves-by _ did c c u h (same-run c) (record { opened = refl; count = refl; asked = refl; counted = h.counted; once = h.once })
            (h.client ∙ ap (λ (o : Bool). record (kept_of h.ledger h.inner.client) { off = o }) (on-time did c u _ h h.comes.begun)));
        leads = h.leads;
      }

  pub shown-ready : (did : Performed J (Both I)) (c c' : Connection R) (u : Progress J) (h : Shows (seens.Ready place.Client) did c u) → IsSameRun c c'
      → kept c'.client ≡ record (kept c.client) { off = false } → To (plain h.inner.client.stage) did c' u (end_timer (service v) now timer.Send (move.Send place.Client [] Done))
  shown-ready did c c' u h same client =
      let alike : AreAlike h.ledger (after h) = record { threads = refl; armed = refl; put_off = λ k. refl; taken = λ k. refl; sent = λ k. refl; opened = λ k. refl; count = refl; asked = h.none_asked } in
      record {
        ledger = after h;
        inner = h.inner;
        within = within-by _ did c c' u h same alike (serves-by _ did c c' u h same (record { opened = refl; count = refl; asked = refl; counted = h.counted; once = h.once })
            (client ∙ ap (λ (k : Kept). record k { off = false }) h.client));
        leads = h.leads;
      }

  pub shown-later : (did : Performed J (Both I)) (c c' : Connection R) (u : Progress J) (h : Shows (seens.Later place.Client) did c u) → IsSameRun c c'
      → kept c'.client ≡ record (kept c.client) { off = true } → To (plain h.inner.client.stage) did c' u (begin_timer (service v) now timer.Send Done)
  shown-later did c c' u h same client =
      let alike : AreAlike h.ledger (after h) = record { threads = refl; armed = refl; put_off = λ k. refl; taken = λ k. refl; sent = λ k. refl; opened = λ k. refl; count = refl; asked = h.none_asked } in
      record {
        ledger = after h;
        inner = h.inner;
        within = within-by _ did c c' u h same alike (serves-by _ did c c' u h same (record { opened = refl; count = refl; asked = refl; counted = h.counted; once = h.once })
            (client ∙ ap (λ (k : Kept). record k { off = true }) h.client));
        leads = h.leads;
      }

  -- ---- a run that goes on is told

  -- by the stage
  pub at-busy : (x : RunSeen) (did : Performed J (Both I)) (c : Connection R) (u : Progress J) (m : Move J (Both I)) (h : ToRun v now x did c u m) → c.client.stage ≡ code.Busy
      → Told v now x did c u m
  at-busy x did c u m h e = record {
    ledger = h.ledger;
    inner = h.inner;
    serves = h.serves;
    busy = busy;
    run = run.0;
    is = run.1;
    standing = run.2;
    waits = run.3;
    known = subst (λ (st : Stage). AgreesWithin v.meaning.holds st h.ledger h.inner.run) busy h.known;
    comes = h.comes busy;
    leads = h.leads ∙ ap (λ (st : Stage). before u.acts.items (perform (to_run (service v) now m st x) (entered_as x h.ledger) h.inner)) busy;
  }
    where
      busy : h.inner.client.stage ≡ stage.Busy
      busy = sym (ap (λ (k : Kept). k.stage) h.serves.client) ∙ ap stage_of e

      run : HasRun v stage.Busy c.run (waits_of c.waits) h.ledger h.inner.run
      run = subst (λ (st : Stage). HasRun v st c.run (waits_of c.waits) h.ledger h.inner.run) busy h.run

  pub may-tell : (x : RunSeen) (did : Performed J (Both I)) (c : Connection R) (u : Progress J) (m : Move J (Both I)) (h : Told v now x did c u m) (run : R) → c.run ≡ Some run
      → runs.MayBeTold v.meaning now x run
  may-tell x did c u m h run is =
      let f : h.run ≡ run = (let same : Some h.run ≡ Some run = sym h.is ∙ is in cc) in
      (h.ledger, h.inner.run, subst (λ (y : R). v.meaning.stands y h.ledger h.inner.run) f h.standing, h.known, h.comes)

  pub at-free : (x : RunSeen) (did : Performed J (Both I)) (c : Connection R) (u : Progress J) (m : Move J (Both I)) (h : ToRun v now x did c u m) (st : Stage) → IsFree st
      → stage_of c.client.stage ≡ st → Came v did c u
  at-free x did c u m h st free e =
      let b = entered_as x h.ledger in
      let at : h.inner.client.stage ≡ st = sym (ap (λ (k : Kept). k.stage) h.serves.client) ∙ e in
      subst (λ (d : Performed J (Both I)). Came v d c u) (sym (h.leads ∙ ap (λ (st : Stage). before u.acts.items (perform (to_run (service v) now m st x) b h.inner)) at ∙ ends st free)) (record {
        acts = append-nil u.acts.items;
        stays = λ on. record {
          client = h.serves.client;
          sockets = h.serves.sockets;
          count = h.serves.count;
          keeping = h.serves.keeping ∙ ap kept_sock (sym h.serves.none_asked);
          on = h.serves.on;
          run = subst (λ (st : Stage). HasRun v st c.run (waits_of c.waits) b h.inner.run) (sym at) (no-run st free b);
        };
        taking = λ there. h.serves.taking there;
      })
    where
      ends : (st : Stage) → IsFree st → before u.acts.items (perform (to_run (service v) now m st x) (entered_as x h.ledger) h.inner)
          ≡ before u.acts.items (perform {J = J} {S = Both I} Done (entered_as x h.ledger) h.inner)
      ends stage.Idle f = refl
      ends stage.Head f = refl
      ends stage.Flush f = refl
      ends stage.Drop f = refl
      ends stage.Busy f = absurd f
      ends stage.Over f = absurd f

      no-run : (st : Stage) → IsFree st → (b : Ledger J) → HasRun v st c.run (waits_of c.waits) b h.inner.run
      no-run stage.Idle f b = tt
      no-run stage.Head f b = tt
      no-run stage.Flush f b = tt
      no-run stage.Drop f b = tt
      no-run stage.Busy f b = absurd f
      no-run stage.Over f b = absurd f

  free-here : (x : RunSeen) (did : Performed J (Both I)) (c : Connection R) (u : Progress J) (m : Move J (Both I)) → ToRun v now x did c u m → (c.client.stage ≡ code.Busy → ⊥)
      → IsFree (stage_of c.client.stage)
  free-here x did c u m h f = not-busy c.client.stage f (subst IsOn (sym (ap (λ (k : Kept). k.stage) h.serves.client)) h.serves.on)

  pub not-going : (x : RunSeen) (did : Performed J (Both I)) (c : Connection R) (u : Progress J) (m : Move J (Both I)) → (c.client.stage ≡ code.Busy → ⊥) → ToRun v now x did c u m
      → Came v did c u
  not-going x did c u m f h = at-free x did c u m h (stage_of c.client.stage) (free-here x did c u m h f) refl

  -- ---- as a socket, a thread or a deadline is shown

  -- it comes, by the ledger
  abbrev IsComing : RunSeen → Ledger J → Type 0
  IsComing (seen.Run k) b = IsPrefixOf (k ∷ []) b.threads
  IsComing (seen.Due n) b = IsDue now b n × (2 ≤ n)
  IsComing (seen.Sock k y) b = MayComeAt k y b
  IsComing x b = ⊥

  -- to a run that has the answer to whatever it asked its connection
  may-come : (x : RunSeen) (b : Ledger J) (r : I) → IsComing x b → b.asked ≡ None → (v.meaning.plan.waits r).asks ≡ None → MayCome v.meaning.plan now x b r
  may-come (seen.Run k) b r h asked asks = (h, record { outside = asked; within = asks })
  may-come (seen.Due n) b r h asked asks = (h.0, h.1, asks)
  may-come (seen.Sock k y) b r h asked asks = (h, asks)
  may-come x b r h asked asks = absurd h

  -- it has that where it goes on
  unasked : (st : Stage) (b : Ledger J) (r : I) → st ≡ stage.Busy → Agrees v.meaning.plan v.meaning.holds st b r → (v.meaning.plan.waits r).asks ≡ None
  unasked st b r e h = (subst (λ (st : Stage). Agrees v.meaning.plan v.meaning.holds st b r) e h).1

  pub is-unasked : (x : Seen) (did : Performed J (Both I)) (c : Connection R) (u : Progress J) (h : Shows x did c u) (d : Connection R) → d.client.stage ≡ c.client.stage → d.waits ≡ c.waits → IsUnasked d
  is-unasked x did c u h d stages waits = λ at.
      let busy : h.inner.client.stage ≡ stage.Busy = sym (ap (λ (k : Kept). k.stage) h.client) ∙ sym (ap stage_of stages) ∙ at in
      let run : HasRun v stage.Busy c.run (waits_of c.waits) h.ledger h.inner.run = subst (λ (st : Stage). HasRun v st c.run (waits_of c.waits) h.ledger h.inner.run) busy h.run in
      ap (λ w. w.asks) waits ∙ ap (λ (w : Waits). w.asks) run.3 ∙ unasked h.inner.client.stage h.ledger h.inner.run busy h.known

  -- a turn of its own only a run takes that goes on
  own-is-busy : (x : RunSeen) (b : Ledger J) → IsComing x b → runs.is_own_turn x ≡ true → IsBlank b → ⊥
  own-is-busy x b h own blank = by x own h
    where
      shut : (k : ℕ) → has (place.Sock k) b.opened ≡ true → ⊥
      shut k o = let f : false ≡ true = sym (blank.no_socket k) ∙ o in cc

      by-sock : (k : ℕ) (y : SockSeen) → runs.is_own_at y ≡ true → MayComeAt k y b → ⊥
      by-sock k (at.Took n) o may = shut k may.taking.opened
      by-sock k at.Later o may = shut k may.opened
      by-sock k at.Lost o may = shut k may.opened
      by-sock k (at.Bytes bytes) o may = let f : false ≡ true = o in cc
      by-sock k at.Ended o may = let f : false ≡ true = o in cc
      by-sock k at.Broken o may = let f : false ≡ true = o in cc
      by-sock k at.Ready o may = let f : false ≡ true = o in cc
      by-sock k at.Dialled o may = let f : false ≡ true = o in cc
      by-sock k at.Refused o may = let f : false ≡ true = o in cc

      by : (x : RunSeen) → runs.is_own_turn x ≡ true → IsComing x b → ⊥
      by (seen.Run k) o may = let g : k ∷ may.0 ≡ [] = may.1 ∙ blank.no_thread in cc
      by (seen.Due n) o may = own-due now n may.0.at b.armed may.0.first (not-below n may.1) blank.no_deadline
      by (seen.Sock k y) o may = by-sock k y o may
      by x o may = absurd may

  goes-on : (x : RunSeen) (st : Stage) (b : Ledger J) (r : I) → IsOn st → Agrees v.meaning.plan v.meaning.holds st b r → IsComing x b → runs.is_own_turn x ≡ true → st ≡ stage.Busy
  goes-on x stage.Busy b r on h may own = refl
  goes-on x stage.Idle b r on h may own = absurd (own-is-busy x b may own h)
  goes-on x stage.Head b r on h may own = absurd (own-is-busy x b may own h)
  goes-on x stage.Flush b r on h may own = absurd (own-is-busy x b may own h)
  goes-on x stage.Drop b r on h may own = absurd (own-is-busy x b may own h)
  goes-on x stage.Over b r on h may own = absurd on

  told-by : (y : Seen) (x : RunSeen) (did : Performed J (Both I)) (c : Connection R) (u : Progress J) (m : Move J (Both I)) (h : Shows y did c u) → Serves c u (entered_as x h.ledger) h.inner
      → IsComing x h.ledger
      → did ≡ before u.acts.items (perform (to_run (service v) now m h.inner.client.stage x) (entered_as x h.ledger) h.inner) → ToRun v now x did c u m
  told-by y x did c u m h serves comes leads = record {
    ledger = h.ledger;
    inner = h.inner;
    serves = serves;
    run = h.run;
    known = within-of v.meaning.plan v.meaning.holds h.inner.client.stage h.ledger h.inner.run h.known;
    comes = λ busy. may-come x h.ledger h.inner.run comes h.none_asked (unasked h.inner.client.stage h.ledger h.inner.run busy h.known);
    goes_on = λ other own. goes-on x h.inner.client.stage h.ledger h.inner.run h.on h.known comes own;
    leads = leads;
  }

  calm-of : (y : Seen) (did : Performed J (Both I)) (c : Connection R) (u : Progress J) (h : Shows y did c u) → (after h).opened ≡ h.ledger.opened → (after h).count ≡ h.ledger.count → (after h).asked ≡ None
      → (after h).taken place.Client ≡ h.ledger.taken place.Client → (after h).put_off place.Client ≡ h.ledger.put_off place.Client → (after h).armed ≡ h.ledger.armed → Serves c u (after h) h.inner
  calm-of y did c u h opened count asked taken off armed =
      serves-by y did c c u h (same-run c) (record {
        opened = opened;
        count = count;
        asked = asked;
        counted = subst (λ (n : ℕ). n ≤ length (h.ledger.sent place.Client)) (sym taken) h.counted;
        once = subst (λ (ds : List (ℕ × ℕ)). NumbersOnce (numbers ds)) (sym armed) h.once;
      }) (h.client ∙ kept-same)
    where
      kept-same : kept_of h.ledger h.inner.client ≡ kept_of (after h) h.inner.client
      kept-same = rw (opened, taken, off, armed) refl

  pub shown-run : (k : ℕ) (did : Performed J (Both I)) (c : Connection R) (u : Progress J) (h : Shows (seens.Run k) did c u) → ToRun v now (seen.Run k) did c u (settle (service v) now)
  shown-run k did c u h = told-by (seens.Run k) (seen.Run k) did c u (settle (service v) now) h (calm-of (seens.Run k) did c u h refl refl refl refl refl refl) h.comes.0 h.leads

  -- all but bytes that were taken
  pub shown-sock : (k : ℕ) (x : SockSeen) → ((n : ℕ) → x ≡ at.Took n → ⊥) → (did : Performed J (Both I)) (c : Connection R) (u : Progress J) → Shows (sock_seen k x) did c u
      → ToRun v now (seen.Sock k x) did c u (settle (service v) now)
  shown-sock k (at.Bytes bytes) not did c u h = told-by _ (seen.Sock k (at.Bytes bytes)) did c u (settle (service v) now) h (calm-of _ did c u h refl refl refl refl refl refl) h.comes h.leads
  shown-sock k at.Ended not did c u h = told-by _ (seen.Sock k at.Ended) did c u (settle (service v) now) h (calm-of _ did c u h refl refl refl refl refl refl) h.comes h.leads
  shown-sock k at.Broken not did c u h = told-by _ (seen.Sock k at.Broken) did c u (settle (service v) now) h (calm-of _ did c u h refl refl refl refl refl refl) h.comes h.leads
  shown-sock k at.Ready not did c u h = told-by _ (seen.Sock k at.Ready) did c u (settle (service v) now) h (calm-of _ did c u h refl refl refl refl refl refl) h.comes h.leads
  shown-sock k at.Later not did c u h = told-by _ (seen.Sock k at.Later) did c u (settle (service v) now) h (calm-of _ did c u h refl refl refl refl refl refl) h.comes h.leads
  shown-sock k at.Lost not did c u h = told-by _ (seen.Sock k at.Lost) did c u (settle (service v) now) h (calm-of _ did c u h refl refl refl refl refl refl) h.comes h.leads
  shown-sock k at.Dialled not did c u h = told-by _ (seen.Sock k at.Dialled) did c u (settle (service v) now) h (calm-of _ did c u h refl refl refl refl refl refl) h.comes h.leads
  shown-sock k at.Refused not did c u h = told-by _ (seen.Sock k at.Refused) did c u (settle (service v) now) h (calm-of _ did c u h refl refl refl refl refl refl) h.comes h.leads
  shown-sock k (at.Took n) not did c u h = absurd (not n refl)

  pub shown-took : (k n m : ℕ) (piece : List ℕ) (did : Performed J (Both I)) (c : Connection R) (u : Progress J) (h : Shows (seens.Took (place.Sock k) n) did c u)
      → piece ≡ (if has (place.Sock k) h.ledger.opened then next_piece k h.ledger else []) → m ≡ min (length piece) n
      → ToRun v now (seen.Sock k (at.Took m)) did c u (settle (service v) now)
  shown-took k n m piece did c u h is e =
      subst (λ (i : ℕ). ToRun v now (seen.Sock k (at.Took i)) did c u (settle (service v) now)) (sym count)
      (told-by (seens.Took (place.Sock k) n) (seen.Sock k (at.Took (length bytes))) did c u (settle (service v) now) h
      (subst (λ (xs : List ℕ). Serves c u (entered (Did (Put (place.Sock k) xs)) h.ledger) h.inner) (sym first) (calm-of _ did c u h refl refl refl refl refl refl))
      (taken-of h.ledger k bytes h.comes)
      (h.leads ∙ ap (λ (xs : List ℕ). before u.acts.items (perform (to_run (service v) now (settle (service v) now) h.inner.client.stage (seen.Sock k (at.Took (length bytes)))) (entered (Did (Put (place.Sock k) xs)) h.ledger) h.inner)) (sym first)))
    where
      bytes : List ℕ
      bytes = take n (next_piece k h.ledger)

      first : take (length bytes) (left_at (place.Sock k) h.ledger) ≡ bytes
      first = taken-are bytes (left_at (place.Sock k) h.ledger) _ h.comes.prefix

      whole : piece ≡ next_piece k h.ledger
      whole = is ∙ ap (λ (o : Bool). if o then next_piece k h.ledger else []) h.comes.taking.opened

      count : m ≡ length bytes
      count = let f = length-take n (next_piece k h.ledger) in e ∙ ap (λ (xs : List ℕ). min (length xs) n) whole ∙ min_comm (length (next_piece k h.ledger)) n ∙ sym f

  -- ---- deadlines

  pub shown-due : (n : ℕ) → 2 ≤ n → (did : Performed J (Both I)) (c : Connection R) (u : Progress J) (h : Shows (seens.Due n) did c u) → ToRun v now (seen.Due n) did c u Done
  shown-due zero low did c u h = absurd (omega (arith, low))
  shown-due (suc zero) low did c u h = absurd (omega (arith, low))
  shown-due (suc (suc n)) low did c u h =
      told-by _ (seen.Due (suc (suc n))) did c u Done h (serves-by _ did c c u h (same-run c)
      (record { opened = refl; count = refl; asked = refl; counted = h.counted; once = once-disarmed (suc (suc n)) h.ledger.armed h.once })
      (h.client ∙ others)) (h.comes, low) h.leads
    where
      apart-from : (i : ℕ) → i < 2 → (i == suc (suc n)) ≡ false
      apart-from i l = by (i == suc (suc n)) refl
        where
          by : (x : Bool) → (i == suc (suc n)) ≡ x → x ≡ false
          by true e = absurd (let f : i ≡ suc (suc n) = eqb-true i (suc (suc n)) e in omega (arith, f, l))
          by false e = refl

      others : kept_of h.ledger h.inner.client ≡ kept_of (after h) h.inner.client
      others = rw (cancelled-other 0 (suc (suc n)) h.ledger.armed (apart-from 0 (omega arith)), cancelled-other 1 (suc (suc n)) h.ledger.armed (apart-from 1 (omega arith))) refl

  own-due-at : (t : timer.Timer) (did : Performed J (Both I)) (c c' : Connection R) (u : Progress J) (h : Shows (seens.Due (number_of t)) did c u) → IsSameRun c c'
      → kept c'.client ≡ with_armed t false (kept c.client) → AreAlike h.ledger (after h) → Within v (plain h.inner.client.stage) c' u (after h) h.inner
  own-due-at t did c c' u h same client alike =
      within-by _ did c c' u h same alike (serves-by _ did c c' u h same
      (record { opened = refl; count = refl; asked = refl; counted = h.counted; once = once-disarmed (number_of t) h.ledger.armed h.once })
      (client ∙ ap (with_armed t false) h.client ∙ disarms t h.ledger h.inner.client h.once))

  pub shown-waited : (did : Performed J (Both I)) (c c' : Connection R) (u : Progress J) (h : Shows (seens.Due 0) did c u) → IsSameRun c c'
      → kept c'.client ≡ record (kept c.client) { waits = false } → To (plain h.inner.client.stage) did c' u (lose (service v) now)
  shown-waited did c c' u h same client =
      let alike = due-alike 0 h.ledger refl h.none_asked in record {
        ledger = after h;
        inner = h.inner;
        within = own-due-at timer.Header did c c' u h same client (record { threads = refl; armed = alike.armed; put_off = λ k. refl; taken = λ k. refl; sent = λ k. refl; opened = λ k. refl; count = refl; asked = h.none_asked });
        leads = h.leads;
      }

  pub shown-sent : (did : Performed J (Both I)) (c c' : Connection R) (u : Progress J) (h : Shows (seens.Due 1) did c u) → IsSameRun c c'
      → kept c'.client ≡ record (kept c.client) { sends = false } → To (plain h.inner.client.stage) did c' u (lose (service v) now)
  shown-sent did c c' u h same client =
      let alike = due-alike 1 h.ledger refl h.none_asked in record {
        ledger = after h;
        inner = h.inner;
        within = own-due-at timer.Send did c c' u h same client (record { threads = refl; armed = alike.armed; put_off = λ k. refl; taken = λ k. refl; sent = λ k. refl; opened = λ k. refl; count = refl; asked = h.none_asked });
        leads = h.leads;
      }

  -- ---- bytes that the client took

  pub shown-taken : (n m : ℕ) (did : Performed J (Both I)) (c c' : Connection R) (u : Progress J) (h : Shows (seens.Took place.Client n) did c u) → IsSameRun c c'
      → m ≡ min (length (queues.offered (kept c.client).sending)) n → kept c'.client ≡ record (kept c.client) { sending = queues.taken (kept c.client).sending m }
      → To (plain h.inner.client.stage) did c' u (settle (service v) now)
  shown-taken n m did c c' u h same e client =
      let alike : AreAlike h.ledger (after h) = record { threads = refl; armed = refl; put_off = λ k. refl; taken = λ k. refl; sent = λ k. refl; opened = λ k. refl; count = refl; asked = h.none_asked } in
      record {
        ledger = after h;
        inner = h.inner;
        within = within-by _ did c c' u h same alike (serves-by _ did c c' u h same (record { opened = refl; count = refl; asked = refl; counted = enough; once = h.once }) sends);
        leads = h.leads;
      }
    where
      b : Ledger J
      b = h.ledger

      piece : List ℕ
      piece = take (16_384 - b.taken place.Client % 16_384) (left_at place.Client b)

      bytes : List ℕ
      bytes = take n piece

      there : is_there b ≡ true
      there = h.comes.taking.opened

      whole : queues.offered (kept c.client).sending ≡ piece
      whole = ap (λ (k : Kept). queues.offered k.sending) h.client ∙ ap (λ (o : Bool). take (16_384 - b.taken place.Client % 16_384) (if o then left_at place.Client b else [])) there

      count : m ≡ length bytes
      count = let f = length-take n piece in e ∙ ap (λ (xs : List ℕ). min (length xs) n) whole ∙ min_comm (length piece) n ∙ sym f

      enough : b.taken place.Client + length bytes ≤ length (b.sent place.Client)
      enough =
          let f : length piece ≤ length (left_at place.Client b) = take-le (16_384 - b.taken place.Client % 16_384) (left_at place.Client b) in
          let g : length bytes ≤ length piece = take-le n piece in
          let l = length-drop (b.taken place.Client) (b.sent place.Client) in
          let k = h.counted in omega arith

      same-sending : queues.taken (sending_of b) (length bytes) ≡ sending_of (after h)
      same-sending = by (is_there b)
        where
          by : (o : Bool) → queues.taken (record { bytes = if o then left_at place.Client b else []; phase = b.taken place.Client % 16_384; gone = not o }) (length bytes)
              ≡ record { bytes = if o then drop (b.taken place.Client + length bytes) (b.sent place.Client) else []; phase = (b.taken place.Client + length bytes) % 16_384; gone = not o }
          by true = ap (λ (xs : List ℕ). record { bytes = xs; phase = (b.taken place.Client % 16_384 + length bytes) % 16_384; gone = false }) (drop-drop (length bytes) (b.taken place.Client) (b.sent place.Client))
              ∙ ap (λ (i : ℕ). record { bytes = drop (b.taken place.Client + length bytes) (b.sent place.Client); phase = i; gone = false }) (mod-add-mod (b.taken place.Client) 16_384 (length bytes))
          by false = ap (λ (xs : List ℕ). record { bytes = xs; phase = (b.taken place.Client % 16_384 + length bytes) % 16_384; gone = true }) (drop-nil (length bytes))
              ∙ ap (λ (i : ℕ). record { bytes = []; phase = i; gone = true }) (mod-add-mod (b.taken place.Client) 16_384 (length bytes))

      sends : kept c'.client ≡ kept_of (after h) h.inner.client
      sends = client ∙ ap (λ (k : Kept). record k { sending = queues.taken k.sending m }) h.client
          ∙ ap (λ (i : ℕ). record (kept_of b h.inner.client) { sending = queues.taken (sending_of b) i }) count
          ∙ ap (λ (x : Sending). record (kept_of b h.inner.client) { sending = x }) same-sending
          ∙ ap (λ (o : Bool). record (kept_of b h.inner.client) { sending = sending_of (after h); off = o }) (h.takes (ap (is_place place.Client) h.comes.taking.begun))

  pub own-goes : (x : RunSeen) → is_of_client x ≡ false → runs.is_own_turn x ≡ true → (did : Performed J (Both I)) (c : Connection R) (u : Progress J) (m : Move J (Both I))
      → ToRun v now x did c u m → (c.client.stage ≡ code.Busy → ⊥) → ⊥
  own-goes x other own did c u m h f =
      let at : stage_of c.client.stage ≡ stage.Busy = ap (λ (k : Kept). k.stage) h.serves.client ∙ h.goes_on other own in
      subst IsFree at (free-here x did c u m h f)

  pub no-run-none : (x : RunSeen) (did : Performed J (Both I)) (c : Connection R) (u : Progress J) (m : Move J (Both I)) (h : Told v now x did c u m) → c.run ≡ None → ⊥
  no-run-none x did c u m h e = let f : None ≡ Some h.run = sym e ∙ h.is in cc

  -- how many they are
  pub took-are : (n m : ℕ) (did : Performed J (Both I)) (c : Connection R) (u : Progress J) (h : Shows (seens.Took place.Client n) did c u) → m ≡ min (length (queues.offered (kept c.client).sending)) n → 0 < m
  took-are n m did c u h e =
      let piece = take (16_384 - h.ledger.taken place.Client % 16_384) (left_at place.Client h.ledger) in
      let whole : queues.offered (kept c.client).sending ≡ piece = ap (λ (k : Kept). queues.offered k.sending) h.client
      ∙ ap (λ (o : Bool). take (16_384 - h.ledger.taken place.Client % 16_384) (if o then left_at place.Client h.ledger else [])) h.comes.taking.opened in
      let f : m ≡ length (take n piece) = e ∙ ap (λ (xs : List ℕ). min (length xs) n) whole ∙ min_comm (length piece) n ∙ sym (length-take n piece) in
      subst (λ (i : ℕ). 0 < i) (sym f) h.comes.some

  -- ---- the client sends no more

  ends-by : (e : Moment J) (did : Performed J (Both I)) (c c' : Connection R) (u : Progress J) (m : Move J (Both I)) → IsSameRun c c' → kept c'.client ≡ record (kept c.client) { ended = true }
      → To e did c u (change (λ x. record x { ended = true }) m) → To e did c' u m
  ends-by e did c c' u m same client h =
      let b = h.ledger in
      let s' : Both I = record h.inner { client = record h.inner.client { ended = true } } in
      let w = h.within.serves in
      record {
        ledger = b;
        inner = s';
        within = stays-within v lawful apart e c c' u u b b h.inner s' h.within (same-run-refl b) refl refl same.run same.waits (record {
          client = client ∙ ap (λ (k : Kept). record k { ended = true }) w.client;
          sockets = w.sockets ∙ ap (places (is_there b)) (sym same.sockets);
          count = same.count ∙ w.count;
          keeping = same.keeping ∙ w.keeping;
          offered = w.offered;
          taking = λ t. same.taking ∙ w.taking t;
          counted = w.counted;
          once = w.once;
          none_asked = w.none_asked;
          on = w.on;
        });
        leads = h.leads;
      }

  pub ends-as : (st : Stage) (st' : Stage) (did : Performed J (Both I)) (c : Connection R) (u : Progress J) (m : Move J (Both I)) → stage_of c.client.stage ≡ st'
      → ((b : Ledger J) (s : Both I) → perform (ends_at (service v) now st' s) b s ≡ perform m b s) → To (plain st) did c u (Look (λ b s. ends_at (service v) now s.client.stage s)) → To (plain st') did c u m
  ends-as st st' did c u m e same h =
      let at : h.inner.client.stage ≡ st' = sym (ap (λ (k : Kept). k.stage) h.within.serves.client) ∙ e in
      subst (λ (x : Stage). To (plain x) did c u m) (sym h.within.at ∙ at) (record {
        ledger = h.ledger;
        inner = h.inner;
        within = h.within;
        leads = h.leads ∙ ap (λ (x : Stage). before u.acts.items (perform (ends_at (service v) now x h.inner) h.ledger h.inner)) at ∙ ap (before u.acts.items) (same h.ledger h.inner);
      })

  -- a run that goes on is told, if it has a client
  abbrev told_end : Bool → Move J (Both I)
  told_end x = if x then tell (service v) now seen.ClientEnded (settle (service v) now) else settle (service v) now

  pub ends-busy : (st : Stage) (did : Performed J (Both I)) (c c' : Connection R) (u : Progress J) (x : Bool) → c.client.stage ≡ code.Busy → c.waits.client ≡ x → IsSameRun c c'
      → kept c'.client ≡ record (kept c.client) { ended = true }
      → To (plain st) did c u (Look (λ b s. ends_at (service v) now s.client.stage s)) → To (plain stage.Busy) did c' u (told_end x)
  ends-busy st did c c' u x e client-is same client h =
      let t = ends-as st stage.Busy did c u (Look (λ b s. change (λ x. record x { ended = true }) (told_end (v.meaning.plan.waits s.run).client))) (ap stage_of e) (λ b s. refl) h in
      let is : (v.meaning.plan.waits t.inner.run).client ≡ x = sym (ap (λ (w : Waits). w.client) t.within.run.3) ∙ client-is in
      ends-by (plain stage.Busy) did c c' u (told_end x) same client (record {
        ledger = t.ledger;
        inner = t.inner;
        within = t.within;
        leads = t.leads ∙ ap (λ (y : Bool). before u.acts.items (perform (change (λ x. record x { ended = true }) (told_end y)) t.ledger t.inner)) is;
      })

  -- it may be told
  pub tells-end : (did : Performed J (Both I)) (c : Connection R) (u : Progress J) → c.waits.client ≡ true → c.waits.asks ≡ None → To (plain stage.Busy) did c u (told_end true)
      → ToRun v now seen.ClientEnded did c u (settle (service v) now)
  tells-end did c u client asks h =
      let w = h.within in
      let busy = w.at in
      record {
        ledger = h.ledger;
        inner = h.inner;
        serves = w.serves;
        run = subst (λ (st : Stage). HasRun v st c.run (waits_of c.waits) h.ledger h.inner.run) (sym busy) w.run;
        known = subst (λ (st : Stage). AgreesWithin v.meaning.holds st h.ledger h.inner.run) (sym busy) w.known;
        comes = λ at. (record { outside = w.serves.none_asked; within = sym (ap (λ (x : Waits). x.asks) w.run.3) ∙ asks }, sym (ap (λ (x : Waits). x.client) w.run.3) ∙ client);
        goes_on = λ other own. busy;
        leads = h.leads ∙ ap (λ (st : Stage). before u.acts.items (perform (to_run (service v) now (settle (service v) now) st seen.ClientEnded) h.ledger h.inner)) (sym busy);
      }

  pub ends-flush : (st : Stage) (did : Performed J (Both I)) (c c' : Connection R) (u : Progress J) → c.client.stage ≡ code.Flush → IsSameRun c c' → kept c'.client ≡ record (kept c.client) { ended = true }
      → To (plain st) did c u (Look (λ b s. ends_at (service v) now s.client.stage s)) → To (plain stage.Flush) did c' u Done
  ends-flush st did c c' u e same client h =
      ends-by (plain stage.Flush) did c c' u Done same client
      (ends-as st stage.Flush did c u (change (λ x. record x { ended = true }) Done) (ap stage_of e) (λ b s. refl) h)

  pub ends-else : (st : Stage) (did : Performed J (Both I)) (c : Connection R) (u : Progress J) → (c.client.stage ≡ code.Busy → ⊥) → (c.client.stage ≡ code.Flush → ⊥)
      → To (plain st) did c u (Look (λ b s. ends_at (service v) now s.client.stage s)) → To (plain st) did c u finish
  ends-else st did c u f g h =
      let at = sym (ap (λ (k : Kept). k.stage) h.within.serves.client) in record {
        ledger = h.ledger;
        inner = h.inner;
        within = h.within;
        leads = h.leads ∙ ap (λ (x : Stage). before u.acts.items (perform (ends_at (service v) now x h.inner) h.ledger h.inner)) at ∙ by c.client.stage f g;
      }
    where
      by : (x : codes.Stage) → (x ≡ code.Busy → ⊥) → (x ≡ code.Flush → ⊥)
          → before u.acts.items (perform (ends_at (service v) now (stage_of x) h.inner) h.ledger h.inner) ≡ before u.acts.items (perform (finish {J = J} {R = I}) h.ledger h.inner)
      by code.Busy f g = absurd (f refl)
      by code.Flush f g = absurd (g refl)
      by code.Idle f g = refl
      by code.Head f g = refl
      by code.Drop f g = refl
      by code.Over f g = refl
