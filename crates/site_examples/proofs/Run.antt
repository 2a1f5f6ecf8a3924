-- The exchange is a run.
use Rattle.std.proofs.Common.{inl, true, nat_lt, List, [], ◌∷◌, length, get_or, ◌≡◌, refl, subst, lit<}
use Rattle.std.proofs.lemmas.Bool.{ltb-true}
use Rattle.std.proofs.lemmas.List.Sums.{AllPass-from_list_all}
use Rattle.std.specs.Fmt.{digits}
use Rattle.resty_base.specs.declared.names.Id.TheVariants as id
use Rattle.resty_world.specs.declared.event.Event.TheVariants as event
use Rattle.resty_world.specs.declared.entry.Entry.TheVariants as entry
use Rattle.resty_world.specs.declared.schedule_line.SchedLine.TheVariants as line
use Rattle.strand_contract.specs.declared.turns.Place.TheVariants as place
use Rattle.strand_contract.specs.declared.turns.Start.TheVariants as start
use Rattle.strand_contract.specs.declared.turns.Act.TheVariants as act
use Rattle.strand_contract.specs.Actions.{Began, Bytes, Run, Offer, Put, Close, Gone, LocalAction, Did}
use Rattle.strand_contract.specs.Behaviors.{Behavior}
use Rattle.strand_contract.specs.Alone.{HasNoWork, IsOfferedAt, IsBetween, IsExecution, IsQuiescent}
use Rattle.executions.specs.Histories.{external, offered_lengths}
use Rattle.executions.specs.Lawful.{IsLawful, IsKept}
use Rattle.executions.specs.Plain.{IsPlain}
use Rattle.executions.specs.Ordered.{IsOrdered}
use Rattle.engine_examples.proofs.Whole.{whole}
use Rattle.schedule_text.specs.Ranges.{IsBytes}
use Rattle.schedule.specs.Steps.{Passed, Answered}
use Rattle.schedule.specs.Told.{IsTold}
use Rattle.run_contract.specs.declared.stored.NoJob.{NoJob}
use Rattle.http_reply.specs.Dates.{date_of, year_of, month_of}
use Rattle.ngx_calls.specs.Printing.{met_in}
use Rattle.run_threads.specs.Handlers.{goes_on}
use Rattle.site_examples.specs.Site.{hi_behavior}
use Rattle.site_examples.specs.Exchange.{request, hi_reply, arrives, asks, lines, history, exchange, at_second_1 as at_second_1_event}
use Rattle.resty_base.specs.BoolLaws.{clash}
use Rattle.site_examples.proofs.Computed.{behavior, behavior-is}

-- what the client sees, step by step
abbrev pub begun : List (LocalAction NoJob)
begun = Did (Began 1_000 (start.Client 1)) ∷ []

abbrev pub came : List (LocalAction NoJob)
came = Did (Bytes place.Client request) ∷ begun

abbrev pub offered : List (LocalAction NoJob)
offered = Did (Offer place.Client) ∷ Did (Run 0) ∷ came

abbrev pub served : List (LocalAction NoJob)
served = Did Gone ∷ Did (Close place.Client) ∷ Did (Put place.Client hi_reply) ∷ offered

pub idle : HasNoWork behavior begun
idle = record { no_act = refl; no_thread = refl; no_place = refl; no_offer = refl; no_deadline = λ waking. refl; no_stop = refl; no_end = refl }

between-came : IsBetween behavior came
between-came = record { living = refl; no_act = refl; no_offer = refl }

between-ran : IsBetween behavior (Did (Run 0) ∷ came)
unfolding goes_on met_in
between-ran = record { living = refl; no_act = refl; no_offer = refl }

comes : IsExecution behavior came
comes = ((tt, refl), (record { living = refl; idle = idle; opened = refl }, refl, lit< tt))

pub is-offered : IsExecution behavior offered
unfolding goes_on met_in
is-offered = ((comes, (between-came, ([], refl), (λ h. refl), (λ waking. refl), refl)), (between-ran, ([], refl), (λ h. refl), (λ waking. refl), refl))

pub offered-at : IsOfferedAt behavior offered place.Client
unfolding goes_on met_in
offered-at = record { living = refl; no_act = refl; offered = refl }

pub is-served : IsExecution behavior served
unfolding digits date_of year_of month_of goes_on met_in
is-served = (((is-offered, (offered-at, lit< tt, ([], refl))), inl ((act.Gone ∷ [], refl), refl)), refl)

-- it is at rest until the request comes, and in the end
pub rests-begun : IsQuiescent behavior begun
rests-begun = record { idle = λ h. idle; closed = λ h. clash refl h }

pub rests-served : IsQuiescent behavior served
unfolding goes_on met_in
rests-served = record { idle = λ h. clash h refl; closed = λ h. refl }

-- the exchange breaks nothing
abbrev IsRight : Behavior NoJob → Type 0
IsRight b = IsLawful b exchange × IsKept b exchange × IsPlain b exchange × IsOrdered b exchange

right-so : IsRight behavior
unfolding digits date_of year_of month_of goes_on met_in
right-so = whole (λ i j. true) (λ i j h. refl) behavior exchange refl

pub right : IsRight hi_behavior
right = subst IsRight behavior-is right-so

pub shows : external hi_behavior exchange ≡ history
shows = subst (λ (b : Behavior NoJob). external b exchange ≡ history) behavior-is refl

-- the reply is of bytes
reply-bytes : IsBytes hi_reply
reply-bytes k d within = ltb-true (get_or hi_reply k d) 256 (AllPass-from_list_all (λ b. nat_lt b 256) hi_reply refl k d within)

told-so : IsTold lines history (offered_lengths behavior exchange)
unfolding digits date_of year_of month_of goes_on met_in
told-so = record {
  steps =
      Passed (line.Given event.Stop) ∷ Answered (entry.Close (id.Conn 1)) 0 ∷ Answered (entry.Put (id.Conn 1) hi_reply) (length hi_reply)
      ∷ Passed (line.Given asks) ∷ Passed (line.Given arrives) ∷ Passed (line.Given at_second_1_event) ∷ [];
  after = [];
  steps_right = ((((((tt, refl), refl), refl), (refl, (refl, reply-bytes), refl)), (tt, tt, refl)), refl);
  steps_lines = refl;
  steps_history = refl;
  steps_offers = refl;
}

pub told : IsTold lines history (offered_lengths hi_behavior exchange)
told = subst (λ (b : Behavior NoJob). IsTold lines history (offered_lengths b exchange)) behavior-is told-so
