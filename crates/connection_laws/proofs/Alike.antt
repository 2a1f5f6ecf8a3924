-- What decides which action of a strand may come next doesn't depend on its number.
use Rattle.std.proofs.Common.{◌≡◌, ℕ, ◌+◌, ◌-◌, ◌%◌, max, Bool, true, false, ◌||◌, List, [], ◌∷◌, ◌++◌, take, drop, length, Option, Some, None, if◌then◌else◌, refl, ap, ◌∙◌}
use Rattle.strand_contract.specs.declared.turns.Place.{Place}
use Rattle.strand_contract.specs.declared.turns.Place.TheVariants as place
use Rattle.strand_contract.specs.declared.turns.Start.TheVariants as start
use Rattle.strand_contract.specs.declared.turns.Act.{Act}
use Rattle.strand_contract.specs.Actions.{Moment, Stop, LocalAction, Told, Did, same_place, Began, Ended, Broken, Put, Later, Lost, Close, Log, Dict, Take, Dial, Keep, Timer, Dropped, Halted, Gone}
use Rattle.strand_contract.specs.Behaviors.{Behavior}
use Rattle.strand_contract.specs.Alone.{lives, was_dropped, moment, is_stopping, wakes_by, is_waking, winds_up_by, is_winding_up, socket_count, is_open, opens_by, open_places, has_ended, taken}
use Rattle.strand_contract.specs.Alone.{queued, piece, is_some_left, carried, left_by, todo, lined_up, run_by, waiting, offers, offered_by, to_offer, armed_by, taken_by, armed, due, but, begun_offer, going_on, offering, in_offers}
use Rattle.connection_laws.specs.Numbers.{DoTheSame, with_number, renumbered}

-- a place that was open, or is the socket of that number
or-new : (q : Place) (k m : ℕ) (c d : Bool) → k ≡ m → c ≡ d → (same_place q (place.Sock k) || c) ≡ (same_place q (place.Sock m) || d)
or-new q k m c d h i = ap (λ (j : ℕ). same_place q (place.Sock j) || c) h ∙ ap (λ (e : Bool). same_place q (place.Sock m) || e) i

module _ {J : Type 0} (n : ℕ) where
  -- what is the same of both numbers' beginnings is the same of each action
  pub same-of : {X : Type 0} (f : LocalAction J → X) (a : LocalAction J) → ((now c : ℕ) → f (Did (Began now (start.Client n))) ≡ f (Did (Began now (start.Client c))))
      → ((now j : ℕ) (premature : Bool) (job : J) → f (Did (Began now (start.Job n premature job))) ≡ f (Did (Began now (start.Job j premature job)))) → f (with_number n a) ≡ f a
  same-of f (Did (Began now (start.Client c))) client job = client now c
  same-of f (Did (Began now (start.Job j premature with_))) client job = job now j premature with_
  same-of f a client job = refl

  -- after one action more, of which each has its own number
  lives-on : (a : LocalAction J) (fs es : List (LocalAction J)) → lives fs ≡ lives es → lives (with_number n a ∷ fs) ≡ lives (a ∷ es)
  lives-on (Did (Began now (start.Client c))) fs es h = refl
  lives-on (Did (Began now (start.Job j premature job))) fs es h = refl
  lives-on (Did Gone) fs es h = refl
  lives-on (Did Dropped) fs es h = refl
  lives-on a fs es h = h

  dropped-on : (a : LocalAction J) (fs es : List (LocalAction J)) → was_dropped fs ≡ was_dropped es → was_dropped (with_number n a ∷ fs) ≡ was_dropped (a ∷ es)
  dropped-on (Did (Began now (start.Client c))) fs es h = h
  dropped-on (Did Dropped) fs es h = refl
  dropped-on a fs es h = h

  pub moment-on : (a : LocalAction J) (fs es : List (LocalAction J)) → moment fs ≡ moment es → moment (with_number n a ∷ fs) ≡ moment (a ∷ es)
  moment-on (Did (Began now (start.Client c))) fs es h = refl
  moment-on (Did (Began now (start.Job j premature job))) fs es h = refl
  moment-on (Told (Moment t)) fs es h = ap (λ (m : ℕ). max t m) h
  moment-on a fs es h = h

  stopping-on : (a : LocalAction J) (fs es : List (LocalAction J)) → is_stopping fs ≡ is_stopping es → is_stopping (with_number n a ∷ fs) ≡ is_stopping (a ∷ es)
  stopping-on (Did (Began now (start.Client c))) fs es h = h
  stopping-on (Told Stop) fs es h = refl
  stopping-on (Did Halted) fs es h = refl
  stopping-on a fs es h = h

  waking-on : (a : LocalAction J) (fs es : List (LocalAction J)) → is_waking fs ≡ is_waking es → is_waking (with_number n a ∷ fs) ≡ is_waking (a ∷ es)
  waking-on a fs es h = same-of (λ (x : LocalAction J). wakes_by x (is_waking fs)) a (λ now c. refl) (λ now j premature job. refl) ∙ ap (λ (c : Bool). wakes_by a c) h

  winding-on : (a : LocalAction J) (fs es : List (LocalAction J)) → is_winding_up fs ≡ is_winding_up es → is_winding_up (with_number n a ∷ fs) ≡ is_winding_up (a ∷ es)
  winding-on a fs es h = same-of (λ (x : LocalAction J). winds_up_by x (is_winding_up fs)) a (λ now c. refl) (λ now j premature job. refl) ∙ ap (λ (c : Bool). winds_up_by a c) h

  count-on : (a : LocalAction J) (fs es : List (LocalAction J)) → socket_count fs ≡ socket_count es → socket_count (with_number n a ∷ fs) ≡ socket_count (a ∷ es)
  count-on (Did (Began now (start.Client c))) fs es h = h
  count-on (Did (Dial host port true)) fs es h = ap (λ (k : ℕ). k + 1) h
  count-on (Did (Take key (Some uses))) fs es h = ap (λ (k : ℕ). k + 1) h
  count-on a fs es h = h

  open-on : (q : Place) (a : LocalAction J) (fs es : List (LocalAction J)) → socket_count fs ≡ socket_count es → is_open q fs ≡ is_open q es → is_open q (with_number n a ∷ fs) ≡ is_open q (a ∷ es)
  open-on q (Did (Began now (start.Client c))) fs es h i = refl
  open-on q (Did (Dial host port true)) fs es h i = or-new q (socket_count fs) (socket_count es) (is_open q fs) (is_open q es) h i
  open-on q (Did (Take key (Some uses))) fs es h i = or-new q (socket_count fs) (socket_count es) (is_open q fs) (is_open q es) h i
  open-on q (Did (Close p)) fs es h i = ap (λ (c : Bool). if same_place q p then false else c) i
  open-on q (Did (Keep k key idle size)) fs es h i = ap (λ (c : Bool). if same_place q (place.Sock k) then false else c) i
  open-on q a fs es h i = i

  places-on : (a : LocalAction J) (fs es : List (LocalAction J)) → socket_count fs ≡ socket_count es → open_places fs ≡ open_places es → open_places (with_number n a ∷ fs) ≡ open_places (a ∷ es)
  places-on a fs es h i = same-of (λ (x : LocalAction J). opens_by x (socket_count fs) (open_places fs)) a (λ now c. refl) (λ now j premature job. refl)
      ∙ ap (λ (k : ℕ). opens_by a k (open_places fs)) h ∙ ap (λ (ps : List Place). opens_by a (socket_count es) ps) i

  ended-on : (q : Place) (a : LocalAction J) (fs es : List (LocalAction J)) → has_ended q fs ≡ has_ended q es → has_ended q (with_number n a ∷ fs) ≡ has_ended q (a ∷ es)
  ended-on q (Did (Began now (start.Client c))) fs es h = h
  ended-on q (Did (Ended p)) fs es h = ap (λ (c : Bool). same_place q p || c) h
  ended-on q (Did (Broken p)) fs es h = ap (λ (c : Bool). same_place q p || c) h
  ended-on q a fs es h = h

  taken-on : (q : Place) (a : LocalAction J) (fs es : List (LocalAction J)) → taken q fs ≡ taken q es → taken q (with_number n a ∷ fs) ≡ taken q (a ∷ es)
  taken-on q (Did (Began now (start.Client c))) fs es h = h
  taken-on q (Did (Put p bytes)) fs es h = ap (λ (m : ℕ). if same_place q p then m + length bytes else m) h
  taken-on q a fs es h = h

  begun-on : (a : LocalAction J) (fs es : List (LocalAction J)) → begun_offer fs ≡ begun_offer es → begun_offer (with_number n a ∷ fs) ≡ begun_offer (a ∷ es)
  begun-on (Did (Began now (start.Client c))) fs es h = refl
  begun-on (Did (Close q)) fs es h = ap (λ (o : Option Place). but q o) h
  begun-on (Did (Log line done)) fs es h = h
  begun-on (Did (Dict zone call answer)) fs es h = h
  begun-on (Did (Take key uses)) fs es h = h
  begun-on (Did (Dial host port done)) fs es h = h
  begun-on (Did (Keep k key idle size)) fs es h = h
  begun-on (Did (Timer at answer)) fs es h = h
  begun-on a fs es h = refl

  offers-on : (a : LocalAction J) (fs es : List (LocalAction J)) → in_offers fs ≡ in_offers es → in_offers (with_number n a ∷ fs) ≡ in_offers (a ∷ es)
  offers-on (Did (Began now (start.Client c))) fs es h = refl
  offers-on (Did (Put q bytes)) fs es h = h
  offers-on (Did (Later q)) fs es h = h
  offers-on (Did (Lost q)) fs es h = h
  offers-on (Did (Close q)) fs es h = h
  offers-on (Did (Log line done)) fs es h = h
  offers-on (Did (Dict zone call answer)) fs es h = h
  offers-on (Did (Take key uses)) fs es h = h
  offers-on (Did (Dial host port done)) fs es h = h
  offers-on (Did (Keep k key idle size)) fs es h = h
  offers-on (Did (Timer at answer)) fs es h = h
  offers-on (Did Dropped) fs es h = h
  offers-on (Did Gone) fs es h = h
  offers-on a fs es h = refl

  -- the same of what depends on acts too
  module _ (b : Behavior J) (a : LocalAction J) (fs es : List (LocalAction J)) (acts : b.acts (with_number n a ∷ fs) ≡ b.acts (a ∷ es)) where
    todo-on : todo b fs ≡ todo b es → todo b (with_number n a ∷ fs) ≡ todo b (a ∷ es)
    todo-on h = same-of (λ (x : LocalAction J). left_by x (todo b fs) ++ carried (b.acts (with_number n a ∷ fs))) a (λ now c. refl) (λ now j premature job. refl)
        ∙ ap (λ (l : List (Act J)). left_by a l ++ carried (b.acts (with_number n a ∷ fs))) h ∙ ap (λ (l : List (Act J)). left_by a (todo b es) ++ carried l) acts

    waiting-on : waiting b fs ≡ waiting b es → waiting b (with_number n a ∷ fs) ≡ waiting b (a ∷ es)
    waiting-on h = same-of (λ (x : LocalAction J). lined_up (b.acts (with_number n a ∷ fs)) (run_by x (waiting b fs))) a (λ now c. refl) (λ now j premature job. refl)
        ∙ ap (λ (l : List ℕ). lined_up (b.acts (with_number n a ∷ fs)) (run_by a l)) h ∙ ap (λ (l : List (Act J)). lined_up l (run_by a (waiting b es))) acts

    to-offer-on : to_offer b fs ≡ to_offer b es → to_offer b (with_number n a ∷ fs) ≡ to_offer b (a ∷ es)
    to-offer-on h = same-of (λ (x : LocalAction J). offered_by x (to_offer b fs) ++ offers (b.acts (with_number n a ∷ fs))) a (λ now c. refl) (λ now j premature job. refl)
        ∙ ap (λ (l : List Place). offered_by a l ++ offers (b.acts (with_number n a ∷ fs))) h ∙ ap (λ (l : List (Act J)). offered_by a (to_offer b es) ++ offers l) acts

    armed-on : armed b fs ≡ armed b es → armed b (with_number n a ∷ fs) ≡ armed b (a ∷ es)
    armed-on h = same-of (λ (x : LocalAction J). armed_by (b.acts (with_number n a ∷ fs)) (taken_by x (armed b fs))) a (λ now c. refl) (λ now j premature job. refl)
        ∙ ap (λ (l : List (ℕ × ℕ)). armed_by (b.acts (with_number n a ∷ fs)) (taken_by a l)) h ∙ ap (λ (l : List (Act J)). armed_by l (taken_by a (armed b es))) acts

module _ {J : Type 0} (b : Behavior J) where
  -- all that decides which action may come next is the same after either
  pub record AreAlike (fs es : List (LocalAction J)) : Type 0 where
    pub living : lives fs ≡ lives es
    pub dropped : was_dropped fs ≡ was_dropped es
    pub now : moment fs ≡ moment es
    pub stopping : is_stopping fs ≡ is_stopping es
    pub waking : is_waking fs ≡ is_waking es
    pub winding : is_winding_up fs ≡ is_winding_up es
    pub count : socket_count fs ≡ socket_count es
    pub opened : (q : Place) → is_open q fs ≡ is_open q es
    pub places : open_places fs ≡ open_places es
    pub ended : (q : Place) → has_ended q fs ≡ has_ended q es
    pub took : (q : Place) → taken q fs ≡ taken q es
    pub begun : begun_offer fs ≡ begun_offer es
    pub at_offers : in_offers fs ≡ in_offers es
    pub acts_left : todo b fs ≡ todo b es
    pub threads : waiting b fs ≡ waiting b es
    pub queue : to_offer b fs ≡ to_offer b es
    pub deadlines : armed b fs ≡ armed b es
    pub does : DoTheSame b fs es

  one-more : (n : ℕ) (a : LocalAction J) (fs es : List (LocalAction J)) → DoTheSame b (with_number n a ∷ fs) (a ∷ es) → AreAlike fs es → AreAlike (with_number n a ∷ fs) (a ∷ es)
  one-more n a fs es same h = record {
    living = lives-on n a fs es h.living;
    dropped = dropped-on n a fs es h.dropped;
    now = moment-on n a fs es h.now;
    stopping = stopping-on n a fs es h.stopping;
    waking = waking-on n a fs es h.waking;
    winding = winding-on n a fs es h.winding;
    count = count-on n a fs es h.count;
    opened = λ q. open-on n q a fs es h.count (h.opened q);
    places = places-on n a fs es h.count h.places;
    ended = λ q. ended-on n q a fs es (h.ended q);
    took = λ q. taken-on n q a fs es (h.took q);
    begun = begun-on n a fs es h.begun;
    at_offers = offers-on n a fs es h.at_offers;
    acts_left = todo-on n b a fs es same.acts h.acts_left;
    threads = waiting-on n b a fs es same.acts h.threads;
    queue = to-offer-on n b a fs es same.acts h.queue;
    deadlines = armed-on n b a fs es same.acts h.deadlines;
    does = same;
  }

  pub alike : (n : ℕ) → ((es : List (LocalAction J)) → DoTheSame b (renumbered n es) es) → (es : List (LocalAction J)) → AreAlike (renumbered n es) es
  alike n same [] = record {
    living = refl;
    dropped = refl;
    now = refl;
    stopping = refl;
    waking = refl;
    winding = refl;
    count = refl;
    opened = λ q. refl;
    places = refl;
    ended = λ q. refl;
    took = λ q. refl;
    begun = refl;
    at_offers = refl;
    acts_left = refl;
    threads = refl;
    queue = refl;
    deadlines = refl;
    does = same [];
  }
  alike n same (a ∷ es) = one-more n a (renumbered n es) es (same (a ∷ es)) (alike n same es)

  module _ (fs es : List (LocalAction J)) (h : AreAlike fs es) where
    queued-alike : (q : Place) → queued b q fs ≡ queued b q es
    queued-alike q = ap (λ (c : Bool). if c then drop (taken q fs) (b.sent q fs) else []) (h.opened q)
        ∙ ap (λ (m : ℕ). if is_open q es then drop m (b.sent q fs) else []) (h.took q) ∙ ap (λ (l : List ℕ). if is_open q es then drop (taken q es) l else []) (h.does.sent q)

    pub piece-alike : (q : Place) → piece b q fs ≡ piece b q es
    piece-alike q = ap (λ (m : ℕ). take (16_384 - m % 16_384) (queued b q fs)) (h.took q) ∙ ap (λ (l : List ℕ). take (16_384 - taken q es % 16_384) l) (queued-alike q)

    going-on-alike : (o : Option Place) → going_on b fs o ≡ going_on b es o
    going-on-alike None = refl
    going-on-alike (Some q) = ap (λ (l : List ℕ). if is_some_left l then Some q else None) (queued-alike q)

    pub offering-alike : offering b fs ≡ offering b es
    offering-alike = going-on-alike (begun_offer fs) ∙ ap (λ (o : Option Place). going_on b es o) h.begun

    pub due-alike : due (moment fs) (armed b fs) ≡ due (moment es) (armed b es)
    due-alike = ap (λ (t : ℕ). due t (armed b fs)) h.now ∙ ap (λ (ds : List (ℕ × ℕ)). due (moment es) ds) h.deadlines
