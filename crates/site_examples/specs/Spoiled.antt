-- Histories that are the exchange's but for one thing.
use Rattle.std.specs.Prelude.{◌≡◌, List, [], ◌∷◌, take, codes}
use Rattle.resty_base.specs.declared.names.Id.TheVariants as id
use Rattle.resty_base.specs.declared.names.StrandId.TheVariants as strand
use Rattle.resty_world.specs.declared.event.Event.{Event}
use Rattle.resty_world.specs.declared.event.Event.TheVariants as event
use Rattle.resty_world.specs.declared.entry.Entry.{Entry}
use Rattle.resty_world.specs.declared.entry.Entry.TheVariants as entry
use Rattle.executions.specs.Executions.{GlobalAction}
use Rattle.executions.specs.Histories.{external}
use Rattle.executions.specs.Lawful.{IsLawful}
use Rattle.executions.specs.Plain.{IsPlain}
use Rattle.executions.specs.Ordered.{IsOrdered}
use Rattle.run_contract.specs.declared.stored.NoJob.{NoJob}
use Rattle.site_examples.specs.Site.{hi_behavior}
use Rattle.site_examples.specs.Exchange.{reply_dated, hi_reply, at_second_1, arrives, asked}

-- the last byte of the reply is lost
abbrev pub byte_lost : List Entry
byte_lost = entry.Given event.Stop ∷ entry.Close (id.Conn 1) ∷ entry.Put (id.Conn 1) (take 118 hi_reply) ∷ asked

-- the reply is held back until Stop was given
abbrev pub put_after_stop : List Entry
put_after_stop = entry.Close (id.Conn 1) ∷ entry.Put (id.Conn 1) hi_reply ∷ entry.Given event.Stop ∷ asked

-- the reply has the date of a second later
abbrev pub date_late : List Entry
date_late = entry.Given event.Stop ∷ entry.Close (id.Conn 1) ∷ entry.Put (id.Conn 1) (reply_dated (codes "Thu, 01 Jan 1970 00:00:02 GMT")) ∷ asked

-- the connection isn't closed after the reply
abbrev pub no_close : List Entry
no_close = entry.Given event.Stop ∷ entry.Put (id.Conn 1) hi_reply ∷ asked

-- no execution that is lawful and plain has this history
abbrev pub HasNoExecution : List Entry → Type 0
HasNoExecution h =
    (ms : List (GlobalAction NoJob)) → IsLawful hi_behavior ms → IsPlain hi_behavior ms
    → external hi_behavior ms ≡ h → ⊥

-- none that is lawful, plain and ordered has it
abbrev pub HasNoOrderedExecution : List Entry → Type 0
HasNoOrderedExecution h =
    (ms : List (GlobalAction NoJob)) → IsLawful hi_behavior ms → IsPlain hi_behavior ms → IsOrdered hi_behavior ms
    → external hi_behavior ms ≡ h → ⊥

-- none that is plain has it
abbrev pub HasNoPlainExecution : List Entry → Type 0
HasNoPlainExecution h =
    (ms : List (GlobalAction NoJob)) → IsPlain hi_behavior ms → external hi_behavior ms ≡ h → ⊥

-- the request is never given, though the connection is open: Stop closes it
abbrev pub not_asked : List Entry
not_asked = entry.Close (id.Conn 1) ∷ entry.Given event.Stop ∷ entry.Given arrives ∷ entry.Given at_second_1 ∷ []

-- the client is turned away, though there is room
abbrev pub turned_away : List Entry
turned_away = entry.Given event.Stop ∷ entry.Close (id.Conn 1) ∷ entry.Turned 1 ∷ entry.Given arrives ∷ entry.Given at_second_1 ∷ []

abbrev pub at_second_2 : Event
at_second_2 = event.Moment (record { 0 = 2_000 })

-- the client's strand is dropped at an event that isn't its own
abbrev pub dropped_by_others : List Entry
dropped_by_others =
    entry.Given event.Stop ∷ entry.Close (id.Conn 1) ∷ entry.Dropped (strand.Conn 1) ∷ entry.Given at_second_2 ∷ entry.Given arrives
    ∷ entry.Given at_second_1 ∷ []
