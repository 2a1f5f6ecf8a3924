-- An event that is given and changes nothing but the history.
use Rattle.std.proofs.Common.{◌≡◌, ℕ, Bool, true, false, List, [], ◌∷◌, refl, ◌∙◌, arith}
use Rattle.std.specs.Prelude.{◌||◌}
use Rattle.resty_base.specs.declared.names.Id.{Id}
use Rattle.resty_base.specs.declared.names.Id.TheVariants as id
use Rattle.resty_base.specs.declared.names.StrandId.{StrandId}
use Rattle.resty_world.specs.declared.event.Event.{Event}
use Rattle.resty_world.specs.declared.event.Event.TheVariants as event
use Rattle.resty_world.specs.declared.entry.Entry.{Entry}
use Rattle.resty_world.specs.declared.entry.Entry.TheVariants as entry
use Rattle.resty_world.specs.declared.schedule_line.SchedLine.{SchedLine}
use Rattle.resty_world.specs.declared.schedule_line.SchedLine.TheVariants as line
use Rattle.resty_world.specs.Book.{Book}
use Rattle.resty_world.specs.Given.{IsFit, IsCaused, given_entry, arrives, arrives_strand, arrivals_of, ends, is_fault, is_break, named_id, names_absent}
use Rattle.schedule_text.specs.Fitting.{Fits}
use Rattle.schedule_text.specs.Lines.{is_arrival}
use Rattle.schedule.specs.declared.replay.Replay.{Replay}
use Rattle.schedule.specs.Counts.{arrived_in, dials_in, loses_by}
use Rattle.schedule.specs.Knowing.{Knows}
use Rattle.schedule.specs.Peers.{Roll, peer_at, ended}
use Rattle.schedule.specs.OpenIds.{open_ids, hung_up, has_ended}
use Rattle.schedule.specs.ReplayBook.{book_of}
use Rattle.schedule.specs.Steps.{is_skipped}
use Rattle.schedule.proofs.KnowingLemmas.{open_where_due, first-off}

pub record Plain (world : Replay) (e : Event) : Type 0 where
  pub fit : IsFit (book_of world) e
  pub caused : (book : Book) → IsCaused book e
  pub entries : given_entry e ≡ entry.Given e ∷ []
  pub no_id : (x : Id) → arrives e x ≡ false
  pub no_strand : (s : StrandId) → arrives_strand e s ≡ false
  pub no_end : (x : Id) → ends e x ≡ false
  pub no_fault : is_fault e ≡ false
  pub no_break : is_break e ≡ false
  pub none : arrivals_of e ≡ 0
  pub no_arrival : is_arrival (line.Given e) ≡ false
  pub no_loss : loses_by (entry.Given e) ≡ 0
  pub ids : open_ids (entry.Given e ∷ world.history.entries) ≡ open_ids world.history.entries
  pub known : Knows world.peers (entry.Given e ∷ world.history.entries)

either-off : (b c : Bool) → (b || c) ≡ false → c ≡ false
either-off true c is = absurd (let wrong : true ≡ false = is in cc)
either-off false c is = is

not_ended_where_due : (roll : Roll) (history : List Entry) (i : Id) → Knows roll history → (hung_up history i || has_ended history i) ≡ false → ended (peer_at roll i) ≡ false
not_ended_where_due roll history i known due =
    known.are_ended i (known.are_closed i ∙ first-off (hung_up history i) (has_ended history i) due) ∙ either-off (hung_up history i) (has_ended history i) due

pub plain : (world : Replay) (before : List SchedLine) (e : Event) → Fits before (line.Given e)
    → names_absent (arrived_in world.history.entries) (dials_in world.history.entries) (named_id (line.Given e)) ≡ false
    → is_skipped world.history.entries (line.Given e) ≡ false
    → ((k : ℕ) → e ≡ event.Arrive k → ⊥) → ((i : Id) → e ≡ event.Ended i → ⊥) → ((i : Id) → e ≡ event.Broken i → ⊥) → Plain world e
plain world before (event.Arrive k) fits there due not_arrive not_ended not_broken = absurd (not_arrive k refl)
plain world before (event.Ended i) fits there due not_arrive not_ended not_broken = absurd (not_ended i refl)
plain world before (event.Broken i) fits there due not_arrive not_ended not_broken = absurd (not_broken i refl)
plain world before event.Fault fits there due not_arrive not_ended not_broken = absurd fits.ranged
plain world before (event.BadLine n) fits there due not_arrive not_ended not_broken = absurd fits.ranged
plain world before event.Memory fits there due not_arrive not_ended not_broken = absurd fits.ranged
plain world before (event.Bytes i bytes) fits there due not_arrive not_ended not_broken = record {
  fit = (open_where_due world.peers world.history.entries i _ world.known there due, not_ended_where_due world.peers world.history.entries i world.known due, fits.ranged.1.some, fits.ranged.1.within);
  caused = λ book. tt;
  entries = refl;
  no_id = λ x. refl;
  no_strand = λ s. refl;
  no_end = λ x. refl;
  no_fault = refl;
  no_break = refl;
  none = refl;
  no_arrival = refl;
  no_loss = refl;
  ids = refl;
  known = record { arrived = world.known.arrived ∙ omega arith; dialled = world.known.dialled ∙ omega arith; are_open = world.known.are_open; are_closed = world.known.are_closed; are_ended = world.known.are_ended; distinct = world.known.distinct };
}
plain world before (event.Ready i) fits there due not_arrive not_ended not_broken = record {
  fit = open_where_due world.peers world.history.entries i false world.known there due;
  caused = λ book. tt;
  entries = refl;
  no_id = λ x. refl;
  no_strand = λ s. refl;
  no_end = λ x. refl;
  no_fault = refl;
  no_break = refl;
  none = refl;
  no_arrival = refl;
  no_loss = refl;
  ids = refl;
  known = record { arrived = world.known.arrived ∙ omega arith; dialled = world.known.dialled ∙ omega arith; are_open = world.known.are_open; are_closed = world.known.are_closed; are_ended = world.known.are_ended; distinct = world.known.distinct };
}
plain world before (event.Dialled n) fits there due not_arrive not_ended not_broken = record {
  fit = open_where_due world.peers world.history.entries (id.Sock n) false world.known there due;
  caused = λ book. tt;
  entries = refl;
  no_id = λ x. refl;
  no_strand = λ s. refl;
  no_end = λ x. refl;
  no_fault = refl;
  no_break = refl;
  none = refl;
  no_arrival = refl;
  no_loss = refl;
  ids = refl;
  known = record { arrived = world.known.arrived ∙ omega arith; dialled = world.known.dialled ∙ omega arith; are_open = world.known.are_open; are_closed = world.known.are_closed; are_ended = world.known.are_ended; distinct = world.known.distinct };
}
plain world before (event.Refused n) fits there due not_arrive not_ended not_broken = record {
  fit = open_where_due world.peers world.history.entries (id.Sock n) false world.known there due;
  caused = λ book. tt;
  entries = refl;
  no_id = λ x. refl;
  no_strand = λ s. refl;
  no_end = λ x. refl;
  no_fault = refl;
  no_break = refl;
  none = refl;
  no_arrival = refl;
  no_loss = refl;
  ids = refl;
  known = record { arrived = world.known.arrived ∙ omega arith; dialled = world.known.dialled ∙ omega arith; are_open = world.known.are_open; are_closed = world.known.are_closed; are_ended = world.known.are_ended; distinct = world.known.distinct };
}
plain world before (event.Moment t) fits there due not_arrive not_ended not_broken = record {
  fit = fits.ranged;
  caused = λ book. tt;
  entries = refl;
  no_id = λ x. refl;
  no_strand = λ s. refl;
  no_end = λ x. refl;
  no_fault = refl;
  no_break = refl;
  none = refl;
  no_arrival = refl;
  no_loss = refl;
  ids = refl;
  known = record { arrived = world.known.arrived ∙ omega arith; dialled = world.known.dialled ∙ omega arith; are_open = world.known.are_open; are_closed = world.known.are_closed; are_ended = world.known.are_ended; distinct = world.known.distinct };
}
plain world before event.Stop fits there due not_arrive not_ended not_broken = record {
  fit = tt;
  caused = λ book. tt;
  entries = refl;
  no_id = λ x. refl;
  no_strand = λ s. refl;
  no_end = λ x. refl;
  no_fault = refl;
  no_break = refl;
  none = refl;
  no_arrival = refl;
  no_loss = refl;
  ids = refl;
  known = record { arrived = world.known.arrived ∙ omega arith; dialled = world.known.dialled ∙ omega arith; are_open = world.known.are_open; are_closed = world.known.are_closed; are_ended = world.known.are_ended; distinct = world.known.distinct };
}
