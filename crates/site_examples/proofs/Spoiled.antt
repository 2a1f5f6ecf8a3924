-- The spoiled histories are of no execution.
use Rattle.std.proofs.Common.{◌≡◌, ℕ, false, List, [], ◌∷◌, Some, None, max, take, get_or, refl, sym, ap, subst, ◌∙◌, lit<, arith}
use Rattle.std.specs.Prelude.{codes}
use Rattle.std.specs.Fmt.{digits}
use Rattle.resty_base.specs.declared.names.Id.TheVariants as id
use Rattle.resty_world.specs.declared.event.Event.TheVariants as event
use Rattle.resty_world.specs.declared.entry.Entry.{Entry}
use Rattle.resty_world.specs.declared.entry.Entry.TheVariants as entry
use Rattle.strand_contract.specs.declared.turns.Place.TheVariants as place
use Rattle.strand_contract.specs.declared.turns.Start.TheVariants as start
use Rattle.strand_contract.specs.Actions.{Moment, Began, Bytes, Put, Close, LocalAction, Did}
use Rattle.executions.specs.Executions.{GlobalAction, Of, Everyone, projection, present}
use Rattle.strand_contract.specs.Behaviors.{Behavior}
use Rattle.strand_contract.specs.Alone.{was_dropped, IsExecution, IsQuiescent}
use Rattle.executions.specs.Histories.{part, without_internal, external}
use Rattle.executions.specs.Lawful.{AllAtRest, IsLawful}
use Rattle.executions.specs.Plain.{IsPlain}
use Rattle.execution_laws.specs.StrandInputs.{gave}
use Rattle.execution_laws.proofs.OwnSteps.{IsStill, still-offered, still-at-rest}
use Rattle.execution_laws.proofs.Alone.{one}
use Rattle.execution_laws.proofs.Worlds.{gave-shown, dropped-shown}
use Rattle.run_contract.specs.declared.stored.NoJob.{NoJob}
use Rattle.http_reply.specs.Dates.{date_of, year_of, month_of}
use Rattle.ngx_calls.specs.Printing.{met_in}
use Rattle.run_threads.specs.Handlers.{goes_on}
use Rattle.site_examples.specs.Exchange.{request, reply_dated, hi_reply, asked, at_second_1, arrives as arrival, asks as question}
use Rattle.site_examples.specs.Spoiled.{HasNoExecution, byte_lost, put_after_stop, date_late, no_close}
use Rattle.site_examples.proofs.Leaves.{closes, puts, asks, arrives, ticks, stops}
use Rattle.site_examples.proofs.Peel.{Fine, StandsAlone, Peeled, fine-tail, fine-below, peel, part-below, present-below, present-none}
use Rattle.site_examples.proofs.Run.{begun, came, offered, served, is-offered, offered-at, is-served, rests-served}
use Rattle.site_examples.proofs.Seen.{client}
use Rattle.site_examples.proofs.Computed.{behavior, behavior-is, quiet}

abbrev pub Global : Type 0
Global = GlobalAction NoJob

pub fine-at : (ms : List Global) (e : Entry) (h : List Entry) (p : Peeled behavior ms e h) → Fine behavior ms → Fine behavior (p.top ∷ p.older)
fine-at ms e h p f = fine-below behavior p.above (p.top ∷ p.older) (subst (Fine behavior) p.whole f)

part-at : (ms : List Global) (e : Entry) (h : List Entry) (p : Peeled behavior ms e h) (m : Global) → p.top ≡ m → part client ms ≡ part client (m ∷ p.older)
part-at ms e h p m is = ap (part client) p.whole ∙ part-below client p.above (p.top ∷ p.older) p.internal ∙ ap (λ t. part client (t ∷ p.older)) is

-- the moment before the client arrives
second-1 : (ms : List Global) → Fine behavior ms → external behavior ms ≡ entry.Given at_second_1 ∷ [] → present ms ≡ 1_000
second-1 ms f is =
    let p : Peeled behavior ms (entry.Given at_second_1) [] = peel behavior ms (entry.Given at_second_1) [] f.plain tt is in
    let top : p.top ≡ Everyone (Moment 1_000) = ticks behavior p.top p.older 1_000 (fine-at ms _ _ p f).plain p.left in
    ap present p.whole ∙ present-below p.above (p.top ∷ p.older) p.internal ∙ ap (λ t. present (t ∷ p.older)) top ∙ ap (max 1_000) (present-none behavior p.older p.rest)

-- what the client sees, read off the history
pub begun-part : (ms : List Global) → Fine behavior ms → external behavior ms ≡ entry.Given arrival ∷ entry.Given at_second_1 ∷ [] → part client ms ≡ begun
begun-part ms f is =
    let p : Peeled behavior ms (entry.Given arrival) (entry.Given at_second_1 ∷ []) = peel behavior ms (entry.Given arrival) (entry.Given at_second_1 ∷ []) f.plain tt is in
    let g : Fine behavior (p.top ∷ p.older) = fine-at ms _ _ p f in
    let t = arrives behavior p.top p.older g.plain g.begins p.left in
    let k : Fine behavior (Of client (Began t.0 (start.Client 1)) t.1 ∷ p.older) = subst (λ m. Fine behavior (m ∷ p.older)) t.2 g in
    let now : t.0 ≡ 1_000 = k.begins.1.1 ∙ second-1 p.older (fine-tail behavior p.top p.older g) p.rest in
    let none : projection client p.older ≡ [] = (k.alone client).1 in
    part-at ms _ _ p (Of client (Began t.0 (start.Client 1)) t.1) t.2
    ∙ ap (λ l. Did (Began t.0 (start.Client 1)) ∷ without_internal l) none
    ∙ ap (λ i. Did (Began i (start.Client 1)) ∷ []) now

came-part : (ms : List Global) → Fine behavior ms → external behavior ms ≡ asked → part client ms ≡ came
came-part ms f is =
    let p : Peeled behavior ms (entry.Given question) (entry.Given arrival ∷ entry.Given at_second_1 ∷ []) = peel behavior ms (entry.Given question) (entry.Given arrival ∷ entry.Given at_second_1 ∷ []) f.plain tt is in
    let g : Fine behavior (p.top ∷ p.older) = fine-at ms _ _ p f in
    let t = asks behavior p.top p.older request g.plain p.left in
    part-at ms _ _ p (Of client (Bytes place.Client request) t.0) t.1 ∙ ap (λ l. Did (Bytes place.Client request) ∷ l) (begun-part p.older (fine-tail behavior p.top p.older g) p.rest)

put-part : (bytes : List ℕ) (ms : List Global) → Fine behavior ms → external behavior ms ≡ entry.Put (id.Conn 1) bytes ∷ asked → part client ms ≡ Did (Put place.Client bytes) ∷ came
put-part bytes ms f is =
    let p : Peeled behavior ms (entry.Put (id.Conn 1) bytes) asked = peel behavior ms (entry.Put (id.Conn 1) bytes) asked f.plain tt is in
    let g : Fine behavior (p.top ∷ p.older) = fine-at ms _ _ p f in
    let t = puts behavior p.top p.older bytes g.plain p.left in
    part-at ms _ _ p (Of client (Put place.Client bytes) t.0) t.1 ∙ ap (λ l. Did (Put place.Client bytes) ∷ l) (came-part p.older (fine-tail behavior p.top p.older g) p.rest)

closed-part : (bytes : List ℕ) (ms : List Global) → Fine behavior ms → external behavior ms ≡ entry.Close (id.Conn 1) ∷ entry.Put (id.Conn 1) bytes ∷ asked
    → part client ms ≡ Did (Close place.Client) ∷ Did (Put place.Client bytes) ∷ came
closed-part bytes ms f is =
    let p : Peeled behavior ms (entry.Close (id.Conn 1)) (entry.Put (id.Conn 1) bytes ∷ asked) = peel behavior ms (entry.Close (id.Conn 1)) (entry.Put (id.Conn 1) bytes ∷ asked) f.plain tt is in
    let g : Fine behavior (p.top ∷ p.older) = fine-at ms _ _ p f in
    let t = closes behavior p.top p.older g.plain p.left in
    part-at ms _ _ p (Of client (Close place.Client) t.0) t.1 ∙ ap (λ l. Did (Close place.Client) ∷ l) (put-part bytes p.older (fine-tail behavior p.top p.older g) p.rest)

-- no execution of these strands has it
abbrev HasNone : List Entry → Behavior NoJob → Type 0
HasNone h b = (ms : List Global) → IsLawful b ms → IsPlain b ms → external b ms ≡ h → ⊥

abbrev late : List ℕ
late = reply_dated (codes "Thu, 01 Jan 1970 00:00:02 GMT")

-- at Stop all were at rest
pub record Before (h : List Entry) : Type 0 where
  pub ms : List Global
  pub fine : Fine behavior ms
  pub rests : AllAtRest behavior ms
  pub history : external behavior ms ≡ h

at-stop : (ms : List Global) (h : List Entry) → Fine behavior ms → StandsAlone h → external behavior ms ≡ entry.Given event.Stop ∷ h → Before h
at-stop ms h f turned is =
    let p : Peeled behavior ms (entry.Given event.Stop) h = peel behavior ms (entry.Given event.Stop) h f.plain turned is in
    let g : Fine behavior (p.top ∷ p.older) = fine-at ms _ _ p f in
    record { ms = p.older; fine = fine-tail behavior p.top p.older g; rests = g.given.1 (stops behavior p.top p.older g.plain p.left); history = p.rest }

pub fine : (ms : List Global) → IsLawful behavior ms → IsPlain behavior ms → Fine behavior ms
fine ms lawful plain = record { alone = lawful.alone; begins = lawful.begins; given = lawful.given; plain = plain }

-- at rest the client has seen what these inputs make
pub same : (h : List Entry) (w : Before h) (es fs : List (LocalAction NoJob)) → part client w.ms ≡ es → was_dropped es ≡ false
    → IsExecution behavior fs → was_dropped fs ≡ false → IsStill behavior fs → gave es ≡ gave fs → projection client w.ms ≡ fs
same h w es fs seen whole f kept still e =
    let own : was_dropped (projection client w.ms) ≡ false = sym (dropped-shown (projection client w.ms)) ∙ ap was_dropped seen ∙ whole in
    one behavior quiet (projection client w.ms) fs (w.fine.alone client) f own kept
    (still-at-rest behavior quiet (projection client w.ms) (w.fine.alone client) own (w.rests.each client)) still
    (sym (gave-shown (projection client w.ms)) ∙ ap gave seen ∙ e)

still-served : IsStill behavior served
still-served = still-at-rest behavior quiet served is-served refl rests-served

abbrev short : List (LocalAction NoJob)
short = Did (Put place.Client (take 118 hi_reply)) ∷ offered

is-short : IsExecution behavior short
unfolding digits date_of year_of month_of goes_on met_in
is-short = (is-offered, (offered-at, lit< tt, (10 ∷ [], refl)))

short-goes-on : IsStill behavior short
unfolding digits date_of year_of month_of goes_on met_in
short-goes-on = still-offered behavior quiet short place.Client is-short refl refl refl

so-byte_lost : HasNone byte_lost behavior
so-byte_lost ms lawful plain is =
    let w : Before _ = at-stop ms _ (fine ms lawful plain) tt is in
    let seen = closed-part (take 118 hi_reply) w.ms w.fine w.history in
    let e : Did (Close place.Client) ∷ Did (Put place.Client (take 118 hi_reply)) ∷ came ≡ without_internal short = sym seen ∙ ap without_internal (same _ w _ short seen refl is-short refl short-goes-on refl) in
    absurd (cc)

so-put_after_stop : HasNone put_after_stop behavior
unfolding goes_on met_in
so-put_after_stop ms lawful plain is =
    let p : Peeled behavior ms (entry.Close (id.Conn 1)) (entry.Put (id.Conn 1) hi_reply ∷ entry.Given event.Stop ∷ asked) = peel behavior ms _ _ plain tt is in
    let f : Fine behavior p.older = fine-tail behavior p.top p.older (fine-at ms _ _ p (fine ms lawful plain)) in
    let q : Peeled behavior p.older (entry.Put (id.Conn 1) hi_reply) (entry.Given event.Stop ∷ asked) = peel behavior p.older _ _ f.plain tt p.rest in
    let w : Before asked = at-stop q.older asked (fine-tail behavior q.top q.older (fine-at p.older _ _ q f)) tt q.rest in
    let e : projection client w.ms ≡ offered = same _ w _ offered (came-part w.ms w.fine w.history) refl is-offered refl (still-offered behavior quiet offered place.Client is-offered refl refl refl) refl in
    let none : None ≡ Some place.Client = sym ((subst (IsQuiescent behavior) e (w.rests.each client)).idle refl).no_offer in
    absurd (cc)

abbrev put_in : List (LocalAction NoJob) → List ℕ
put_in (Did (Close q) ∷ Did (Put p bytes) ∷ es) = bytes
put_in es = []

late-differs : late ≡ hi_reply → ⊥
unfolding digits date_of year_of month_of goes_on met_in
late-differs e = let digit : ◌≡◌ {A = ℕ} 50 49 = ap (λ l. get_or l 62 0) e in absurd (omega arith)

so-date_late : HasNone date_late behavior
unfolding digits date_of year_of month_of goes_on met_in
so-date_late ms lawful plain is =
    let w : Before _ = at-stop ms _ (fine ms lawful plain) tt is in
    let seen = closed-part late w.ms w.fine w.history in
    let e : Did (Close place.Client) ∷ Did (Put place.Client late) ∷ came ≡ without_internal served = sym seen ∙ ap without_internal (same _ w _ served seen refl is-served refl still-served refl) in
    late-differs (ap put_in e)

so-no_close : HasNone no_close behavior
so-no_close ms lawful plain is =
    let w : Before _ = at-stop ms _ (fine ms lawful plain) tt is in
    let seen = put-part hi_reply w.ms w.fine w.history in
    let e : Did (Put place.Client hi_reply) ∷ came ≡ without_internal served = sym seen ∙ ap without_internal (same _ w _ served seen refl is-served refl still-served refl) in
    absurd (cc)

-- and so none of those of the site

pub no-byte_lost : HasNoExecution byte_lost
no-byte_lost = subst (HasNone byte_lost) behavior-is so-byte_lost

pub no-put_after_stop : HasNoExecution put_after_stop
no-put_after_stop = subst (HasNone put_after_stop) behavior-is so-put_after_stop

pub no-date_late : HasNoExecution date_late
no-date_late = subst (HasNone date_late) behavior-is so-date_late

pub no-no_close : HasNoExecution no_close
no-no_close = subst (HasNone no_close) behavior-is so-no_close
