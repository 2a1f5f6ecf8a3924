-- What a write to a client's connection is answered.
use Rattle.std.proofs.Common.{◌≡◌, ℕ, zero, suc, ◌-◌, ◌%◌, ◌<◌, ◌≤◌, Bool, true, false, List, [], ◌∷◌, take, drop, length, Option, Some, None, if◌then◌else◌, refl, sym, ◌∙◌, append-nil, arith, length-take}
use Rattle.std.proofs.lemmas.List.{take-append-drop}
use Rattle.resty_base.specs.declared.names.Id.TheVariants as id
use Rattle.resty_base.specs.declared.names.StrandId.TheVariants as strand
use Rattle.resty_base.specs.BoolLaws.{by_test, clash}
use Rattle.resty_world.specs.declared.entry.Entry.TheVariants as entry
use Rattle.resty_world.specs.Book.{Book, KeepsIds, told}
use Rattle.strand_contract.specs.declared.turns.Place.{Place}
use Rattle.strand_contract.specs.declared.turns.Place.TheVariants as place
use Rattle.strand_contract.specs.declared.turns.Seen.{Seen}
use Rattle.strand_contract.specs.declared.turns.Seen.TheVariants as seen
use Rattle.strand_contract.specs.Actions.{LocalAction, Did}
use Rattle.strand_contract.specs.Behaviors.{Behavior}
use Rattle.strand_contract.specs.Alone.{lives, moment, is_open, has_ended, left_by, waiting, run_by, to_offer, offered_by, offering, going_on, begun_offer, in_offers, is_stopping, is_waking, piece, queued, taken, is_some_left, IsOfferedAt}
use Rattle.executions.specs.Executions.{GlobalAction, Of, projection}
use Rattle.executions.specs.Phases.{phase as phase_of}
use Rattle.executions.specs.Queues.{after_run, after_offer, run_queue as runs_of, offer_queue as offers_of}
use Rattle.executions.specs.Agenda.{agenda, agenda_at}
use Rattle.executions.specs.Histories.{external, offered_lengths}
use Rattle.executions.specs.Ordered.{offers_last}
use Rattle.strand_contract.specs.Calls.{action_of}
use Rattle.strand_contract.specs.Laws.{IsLastAct}
use Rattle.engine_base.specs.Right.{Tells}
use Rattle.engine_base.specs.Standing.{Held, Busy, Turn, IsOffer}
use Rattle.engine_base.proofs.Lists.{tells-more}
use Rattle.engine_base.proofs.Marks.{same-keeps, MayCome, held-same}
use Rattle.engine_base.proofs.Turns.{turn-next}

some-left : (q : List ℕ) → 0 < length q → is_some_left q ≡ true
some-left [] h = absurd (omega arith)
some-left (x ∷ q) h = refl

some-taken : (n : ℕ) (xs : List ℕ) → 0 < n → n ≤ length xs → 0 < length (take n xs)
some-taken n xs some fits = let l = length-take n xs in omega (arith, l)

pub piece-queued : {J : Type 0} (b : Behavior J) (q : Place) (es : List (LocalAction J)) → 0 < length (piece b q es) → 0 < length (queued b q es)
piece-queued b q es h = let n = length-take (16_384 - taken q es % 16_384) (queued b q es) in omega (arith, n)

pub queued-open : {J : Type 0} (b : Behavior J) (q : Place) (es : List (LocalAction J)) → 0 < length (queued b q es) → is_open q es ≡ true
queued-open b q es h = by_test (is_open q es) (λ on. on) (λ off. absurd (let n : 0 < length (if false then drop (taken q es) (b.sent q es) else []) = rw off at h in omega arith))

-- a connection to which something is still to be sent is being offered
pub is-offered : {J : Type 0} (b : Behavior J) (es : List (LocalAction J)) (o : Bool) → 0 < length (piece b place.Client es) → is_open place.Client es ≡ o → IsOffer true o (begun_offer es) → offering b es ≡ Some place.Client
is-offered b es o some here h =
    let left : 0 < length (queued b place.Client es) = piece-queued b place.Client es some in
    by_place (begun_offer es) h (sym here ∙ queued-open b place.Client es left) (some-left (queued b place.Client es) left)
  where
    by_place : (p : Option Place) → IsOffer true o p → o ≡ true → is_some_left (queued b place.Client es) ≡ true → going_on b es p ≡ Some place.Client
    by_place None k on left = clash on (k refl)
    by_place (Some place.Client) k on left = rw left refl
    by_place (Some (place.Sock j)) k on left = absurd k

-- one to which nothing is to be sent isn't
pub is-not-offered : {J : Type 0} (b : Behavior J) (es : List (LocalAction J)) (go o : Bool) → piece b place.Client es ≡ [] → IsOffer go o (begun_offer es) → offering b es ≡ None
is-not-offered b es go o nil h = by_place (begun_offer es) h
  where
    empty : (xs : List ℕ) (n : ℕ) → 0 < n → take n xs ≡ [] → is_some_left xs ≡ false
    empty [] n some e = refl
    empty (x ∷ xs) zero some e = absurd (omega arith)
    empty (x ∷ xs) (suc n) some e = absurd (let f : x ∷ take n xs ≡ [] = e in cc)

    by_place : (p : Option Place) → IsOffer go o p → going_on b es p ≡ None
    by_place None k = refl
    by_place (Some place.Client) k = rw (empty (queued b place.Client es) (16_384 - taken place.Client es % 16_384) (omega arith) nil) refl
    by_place (Some (place.Sock j)) k = absurd k

module _ {J S : Type 0} (b : Behavior J) (st : S → List (LocalAction J) → Type 0) (asks : (es : List (LocalAction J)) → IsLastAct (b.acts es)) (c : ℕ) (x : S) (o : Bool) (h : Held S) (book book' : Book) (ms : List (GlobalAction J))
    (y : Busy b st c x [] true o h book ms) (ids : KeepsIds book book') where
  offered-at : 0 < length (piece b place.Client (projection (strand.Conn c) ms)) → IsOfferedAt b (projection (strand.Conn c) ms) place.Client
  offered-at some = record { living = y.near.around.alive; no_act = y.near.to_do; offered = is-offered b (projection (strand.Conn c) ms) o some y.near.around.client y.near.offer }

  answered : (given : Seen) (go : Bool)
      → MayCome b c (action_of b (projection (strand.Conn c) ms) given) ms h.connections
      → lives (Did (action_of b (projection (strand.Conn c) ms) given) ∷ projection (strand.Conn c) ms) ≡ lives (projection (strand.Conn c) ms)
      → ((q : Place) → is_open q (Did (action_of b (projection (strand.Conn c) ms) given) ∷ projection (strand.Conn c) ms) ≡ is_open q (projection (strand.Conn c) ms))
      → left_by (Did (action_of b (projection (strand.Conn c) ms) given)) [] ≡ []
      → after_run (strand.Conn c) (action_of b (projection (strand.Conn c) ms) given) (runs_of b ms) ≡ runs_of b ms
      → after_offer (strand.Conn c) (action_of b (projection (strand.Conn c) ms) given) (offers_of b ms) ≡ offers_of b ms
      → agenda_at (strand.Conn c) (action_of b (projection (strand.Conn c) ms) given) None ms (agenda b ms) ≡ agenda b ms
      → is_waking (Did (action_of b (projection (strand.Conn c) ms) given) ∷ projection (strand.Conn c) ms) ≡ is_waking (projection (strand.Conn c) ms)
      → phase_of (Of (strand.Conn c) (action_of b (projection (strand.Conn c) ms) given) None ∷ ms) ≡ phase_of ms
      → run_by (Did (action_of b (projection (strand.Conn c) ms) given)) (waiting b (projection (strand.Conn c) ms)) ≡ waiting b (projection (strand.Conn c) ms)
      → offered_by (Did (action_of b (projection (strand.Conn c) ms) given)) (to_offer b (projection (strand.Conn c) ms)) ≡ to_offer b (projection (strand.Conn c) ms)
      → in_offers (Did (action_of b (projection (strand.Conn c) ms) given) ∷ projection (strand.Conn c) ms) ≡ in_offers (projection (strand.Conn c) ms)
      → IsOffer go o (begun_offer (Did (action_of b (projection (strand.Conn c) ms) given) ∷ projection (strand.Conn c) ms))
      → moment (Did (action_of b (projection (strand.Conn c) ms) given) ∷ projection (strand.Conn c) ms) ≡ moment (projection (strand.Conn c) ms)
      → is_stopping (Did (action_of b (projection (strand.Conn c) ms) given) ∷ projection (strand.Conn c) ms) ≡ is_stopping (projection (strand.Conn c) ms)
      → has_ended place.Client (Did (action_of b (projection (strand.Conn c) ms) given) ∷ projection (strand.Conn c) ms) ≡ has_ended place.Client (projection (strand.Conn c) ms)
      → offers_last (Of (strand.Conn c) (action_of b (projection (strand.Conn c) ms) given) None ∷ ms) ≡ offers_last ms
      → Tells book'.history (external b (Of (strand.Conn c) (action_of b (projection (strand.Conn c) ms) given) None ∷ ms))
      → Tells book'.offered (offered_lengths b (Of (strand.Conn c) (action_of b (projection (strand.Conn c) ms) given) None ∷ ms))
      → Turn b st c x given go o h book' ms
  answered given go may live opens no_use no_run no_offer arms_none wakes goes_on threads list kind offer time stop more last told offers_told =
      let a = y.near.around in
      turn-next b st c ms asks given x go o o h h _ _ book book' a y.stands y.near.moment (held-same c h)
      (same-keeps c ids) a.out may
      (live ∙ a.alive) (ids.is_open (id.Conn c) ∙ a.connection) (opens place.Client ∙ a.client) (λ k. opens (place.Sock k) ∙ a.no_socket k) (ids.strand_aside (strand.Conn c) ∙ a.own_aside) ids.arrivals told offers_told
      (a.common.runs ∙ sym no_run) (a.common.offered ∙ sym no_offer)
      (record {
        done = y.near.to_do;
        no_use = no_use;
        threads = threads ∙ sym y.near.threads;
        offered = list ∙ sym y.near.offered ∙ append-nil _;
        agenda = arms_none ∙ sym y.near.agenda;
        kind = kind ∙ y.near.kind;
        offer = offer;
        moment = time ∙ y.near.moment;
        stopping = stop ∙ y.near.stopping;
        no_more = more ∙ y.near.no_more ∙ sym (ids.has_ended (id.Conn c));
        not_to_end = y.near.not_to_end;
        wakes = wakes ∙ y.near.wakes;
        phase = goes_on ∙ y.near.phase;
        last = last ∙ y.near.last;
      })

  -- a piece is taken
  pub turn-put : (n : ℕ) → 0 < n → n ≤ length (piece b place.Client (projection (strand.Conn c) ms))
      → book'.history ≡ told (entry.Put (id.Conn c) (take n (piece b place.Client (projection (strand.Conn c) ms))) ∷ []) book.history
      → book'.offered ≡ told (length (piece b place.Client (projection (strand.Conn c) ms)) ∷ []) book.offered
      → Turn b st c x (seen.Took place.Client n) true o h book' ms
  turn-put n some fits history lengths =
      let a = y.near.around in
      let es : List (LocalAction J) = projection (strand.Conn c) ms in
      answered (seen.Took place.Client n) true
      (record {
        enabled = (offered-at (omega arith), some-taken n (piece b place.Client es) some fits, (drop n (piece b place.Client es), take-append-drop n (piece b place.Client es)));
        begins = (a.common.begins, tt);
        given = (a.common.given, λ e. absurd (let w : false ≡ true = e in cc));
        kept = (a.common.kept, λ e. absurd (let w : false ≡ true = e in cc));
        plain = (a.common.plain, refl);
        ordered = (a.common.ordered, tt);
        served = refl;
        counts = a.common.count;
      }) refl (λ q. refl) refl refl refl refl refl refl refl refl refl refl refl refl refl refl
      (tells-more book.history book'.history (entry.Put (id.Conn c) (take n (piece b place.Client es)) ∷ []) (external b ms) a.common.told history)
      (tells-more book.offered book'.offered (length (piece b place.Client es) ∷ []) (offered_lengths b ms) a.common.offers_told lengths)

  -- it is put off
  pub turn-later : 0 < length (piece b place.Client (projection (strand.Conn c) ms))
      → book'.history ≡ told (entry.Later (id.Conn c) ∷ []) book.history
      → book'.offered ≡ told (length (piece b place.Client (projection (strand.Conn c) ms)) ∷ []) book.offered
      → Turn b st c x (seen.Later place.Client) false o h book' ms
  turn-later some history lengths =
      let a = y.near.around in
      let es : List (LocalAction J) = projection (strand.Conn c) ms in
      answered (seen.Later place.Client) false
      (record {
        enabled = offered-at some;
        begins = (a.common.begins, tt);
        given = (a.common.given, λ e. absurd (let w : false ≡ true = e in cc));
        kept = (a.common.kept, λ e. absurd (let w : false ≡ true = e in cc));
        plain = (a.common.plain, refl);
        ordered = (a.common.ordered, tt);
        served = refl;
        counts = a.common.count;
      }) refl (λ q. refl) refl refl refl refl refl refl refl refl refl (λ e. absurd (let w : false ≡ true = e in cc)) refl refl refl refl
      (tells-more book.history book'.history (entry.Later (id.Conn c) ∷ []) (external b ms) a.common.told history)
      (tells-more book.offered book'.offered (length (piece b place.Client es) ∷ []) (offered_lengths b ms) a.common.offers_told lengths)

  -- it is lost
  pub turn-lost : 0 < length (piece b place.Client (projection (strand.Conn c) ms))
      → book'.history ≡ told (entry.Lost (id.Conn c) ∷ []) book.history
      → book'.offered ≡ told [] book.offered
      → Turn b st c x (seen.Lost place.Client) false o h book' ms
  turn-lost some history lengths =
      let a = y.near.around in
      answered (seen.Lost place.Client) false
      (record {
        enabled = offered-at some;
        begins = (a.common.begins, tt);
        given = (a.common.given, λ e. absurd (let w : false ≡ true = e in cc));
        kept = (a.common.kept, λ e. absurd (let w : false ≡ true = e in cc));
        plain = (a.common.plain, refl);
        ordered = (a.common.ordered, tt);
        served = refl;
        counts = a.common.count;
      }) refl (λ q. refl) refl refl refl refl refl refl refl refl refl (λ e. absurd (let w : false ≡ true = e in cc)) refl refl refl refl
      (tells-more book.history book'.history (entry.Lost (id.Conn c) ∷ []) (external b ms) a.common.told history)
      (tells-more book.offered book'.offered [] (offered_lengths b ms) a.common.offers_told lengths)
