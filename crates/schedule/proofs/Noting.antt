-- What a noted entry changes in a history.
use Rattle.std.proofs.Common.{◌≡◌, ℕ, true, false, List, ◌∷◌, reverse, Option, None, refl, sym, ap, ◌∙◌, arith}
use Rattle.std.specs.Bool.{if◌then◌else◌}
use Rattle.resty_base.specs.declared.names.Id.{Id}
use Rattle.resty_world.specs.Ids.{same_id}
use Rattle.resty_world.specs.declared.entry.Entry.{Entry}
use Rattle.resty_world.specs.declared.entry.Entry.TheVariants as entry
use Rattle.resty_world.specs.declared.answers.TimerAnswer.TheVariants as timer
use Rattle.resty_world.specs.Calls.{is_noted}
use Rattle.schedule.specs.declared.replay.Replay.{Replay}
use Rattle.schedule.specs.Knowing.{Knows}
use Rattle.schedule.specs.Peers.{Roll, peer_at, room_in, put_fails_in}
use Rattle.schedule.specs.OpenIds.{has, are_distinct, open_ids, closes, hung_up, ends_by, has_ended}
use Rattle.schedule.specs.Steps.{Step, IsAnswer, answered_by, tells_failure, offers_by, room_after, is_failed_log}
use Rattle.schedule.specs.Counts.{arrives_by, dials_by, loses_by}
use Rattle.schedule.specs.ReplayBook.{Stands}
use Rattle.schedule.proofs.Standing.{answers, same_faults, same_losses}

-- a world stands one step on, where it keeps all else
abbrev pub StandsOn : Entry → Type 0
StandsOn e = (old new : Replay) (s : Stands old) → new.course ≡ old.course → new.passed ≡ old.passed → new.peers ≡ old.peers
    → new.history.entries ≡ e ∷ old.history.entries → new.offered.items ≡ old.offered.items → new.faults ≡ old.faults → new.losses ≡ old.losses
    → new.dial_fails ≡ old.dial_fails → new.log_fails ≡ old.log_fails → new.listen_fails ≡ old.listen_fails → new.port ≡ old.port → Stands new

pub record Noting (history : List Entry) (e : Entry) (roll : Roll) : Type 0 where
  pub ids : open_ids (e ∷ history) ≡ open_ids history
  pub known : Knows roll (e ∷ history)
  pub stands : StandsOn e

-- an entry by which nothing but the history changes
record IsPlain (e : Entry) : Type 0 where
  ids : (history : List Entry) → open_ids (e ∷ history) ≡ open_ids history
  arrives : arrives_by e ≡ 0
  dials : dials_by e ≡ 0
  closes_none : (x : Id) → closes e x ≡ false
  ends_none : (x : Id) → ends_by e x ≡ false
  offers : (others : List ℕ) → offers_by e 0 others ≡ others
  no_call : answered_by e ≡ None
  no_failure : tells_failure e ≡ false
  no_failed_log : is_failed_log e ≡ false
  no_loss : loses_by e ≡ 0
  room : (x : Id) (room : Option ℕ) → room_after e x room ≡ room
  answer : (steps : List Step) → IsAnswer steps e 0

plain-stands : (e : Entry) → IsPlain e → StandsOn e
plain-stands e p old new s course passed peers entries offered faults losses dial_fails log_fails listen_fails port =
    answers old new e 0 s course passed entries (ap reverse offered ∙ sym (p.offers (reverse old.offered.items)))
    (rw p.no_call tt) (p.answer s.steps)
    (rw p.no_failed_log (faults ∙ same_faults old s)) (rw p.no_loss (losses ∙ same_losses old s))
    (λ x. ap (λ r. room_in (peer_at r x)) peers ∙ sym (p.room x _))
    (λ x. rw p.no_failure (ap (λ r. put_fails_in (peer_at r x)) peers ∙ omega arith))
    (rw p.no_failure (dial_fails ∙ omega arith)) (rw p.no_failure (log_fails ∙ omega arith)) listen_fails port

plain-noted : (roll : Roll) (history : List Entry) (e : Entry) → Knows roll history → IsPlain e → Noting history e roll
plain-noted roll history e known p = record {
  ids = p.ids history;
  known = record {
    arrived = omega (arith, known.arrived, p.arrives);
    dialled = omega (arith, known.dialled, p.dials);
    are_open = λ x. known.are_open x ∙ sym (ap (has same_id x) (p.ids history));
    are_closed = λ x. known.are_closed x ∙ sym (ap (λ b. if b then true else hung_up history x) (p.closes_none x));
    are_ended = λ x off. known.are_ended x off ∙ sym (ap (λ b. if b then true else has_ended history x) (p.ends_none x));
    distinct = ap (are_distinct same_id) (p.ids history) ∙ known.distinct;
  };
  stands = plain-stands e p;
}

never : {C : Type 0} → false ≡ true → C
never h = absurd (let e : false ≡ true = h in cc)

pub noted : (roll : Roll) (history : List Entry) (e : Entry) → Knows roll history → is_noted e ≡ true → Noting history e roll
noted roll history (entry.Given event) known kind = never kind
noted roll history (entry.Put i bytes) known kind = never kind
noted roll history (entry.Later i) known kind = never kind
noted roll history (entry.Lost i) known kind = never kind
noted roll history (entry.Close i) known kind = never kind
noted roll history (entry.Dial who host port n) known kind = never kind
noted roll history (entry.Log who line written) known kind = never kind
noted roll history (entry.Dict who zone call answer) known kind = plain-noted roll history (entry.Dict who zone call answer) known (record {
  ids = λ h. refl;
  arrives = refl;
  dials = refl;
  closes_none = λ x. refl;
  ends_none = λ x. refl;
  offers = λ others. refl;
  no_call = refl;
  no_failure = refl;
  no_failed_log = refl;
  no_loss = refl;
  room = λ x room. refl;
  answer = λ steps. tt;
})
noted roll history (entry.Take who key got) known kind = plain-noted roll history (entry.Take who key got) known (record {
  ids = λ h. refl;
  arrives = refl;
  dials = refl;
  closes_none = λ x. refl;
  ends_none = λ x. refl;
  offers = λ others. refl;
  no_call = refl;
  no_failure = refl;
  no_failed_log = refl;
  no_loss = refl;
  room = λ x room. refl;
  answer = λ steps. tt;
})
noted roll history (entry.Keep who n key idle size closed) known kind = plain-noted roll history (entry.Keep who n key idle size closed) known (record {
  ids = λ h. refl;
  arrives = refl;
  dials = refl;
  closes_none = λ x. refl;
  ends_none = λ x. refl;
  offers = λ others. refl;
  no_call = refl;
  no_failure = refl;
  no_failed_log = refl;
  no_loss = refl;
  room = λ x room. refl;
  answer = λ steps. tt;
})
noted roll history (entry.Timer who due (timer.Job n)) known kind = plain-noted roll history (entry.Timer who due (timer.Job n)) known (record {
  ids = λ h. refl;
  arrives = refl;
  dials = refl;
  closes_none = λ x. refl;
  ends_none = λ x. refl;
  offers = λ others. refl;
  no_call = refl;
  no_failure = refl;
  no_failed_log = refl;
  no_loss = refl;
  room = λ x room. refl;
  answer = λ steps. tt;
})
noted roll history (entry.Timer who due timer.Full) known kind = plain-noted roll history (entry.Timer who due timer.Full) known (record {
  ids = λ h. refl;
  arrives = refl;
  dials = refl;
  closes_none = λ x. refl;
  ends_none = λ x. refl;
  offers = λ others. refl;
  no_call = refl;
  no_failure = refl;
  no_failed_log = refl;
  no_loss = refl;
  room = λ x room. refl;
  answer = λ steps. tt;
})
noted roll history (entry.Timer who due timer.Exiting) known kind = plain-noted roll history (entry.Timer who due timer.Exiting) known (record {
  ids = λ h. refl;
  arrives = refl;
  dials = refl;
  closes_none = λ x. refl;
  ends_none = λ x. refl;
  offers = λ others. refl;
  no_call = refl;
  no_failure = refl;
  no_failed_log = refl;
  no_loss = refl;
  room = λ x room. refl;
  answer = λ steps. tt;
})
noted roll history (entry.Start n) known kind = plain-noted roll history (entry.Start n) known (record {
  ids = λ h. refl;
  arrives = refl;
  dials = refl;
  closes_none = λ x. refl;
  ends_none = λ x. refl;
  offers = λ others. refl;
  no_call = refl;
  no_failure = refl;
  no_failed_log = refl;
  no_loss = refl;
  room = λ x room. refl;
  answer = λ steps. tt;
})
noted roll history (entry.Turned c) known kind = plain-noted roll history (entry.Turned c) known (record {
  ids = λ h. refl;
  arrives = refl;
  dials = refl;
  closes_none = λ x. refl;
  ends_none = λ x. refl;
  offers = λ others. refl;
  no_call = refl;
  no_failure = refl;
  no_failed_log = refl;
  no_loss = refl;
  room = λ x room. refl;
  answer = λ steps. tt;
})
noted roll history (entry.Dropped dropped) known kind = plain-noted roll history (entry.Dropped dropped) known (record {
  ids = λ h. refl;
  arrives = refl;
  dials = refl;
  closes_none = λ x. refl;
  ends_none = λ x. refl;
  offers = λ others. refl;
  no_call = refl;
  no_failure = refl;
  no_failed_log = refl;
  no_loss = refl;
  room = λ x room. refl;
  answer = λ steps. tt;
})
