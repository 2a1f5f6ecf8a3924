-- Which action leaves an entry of the client's, or of what all are told.
use Rattle.std.proofs.Common.{◌≡◌, ℕ, true, List, [], ◌∷◌, ◌++◌, Option, Some, None, refl, sym, ap, subst, ◌∙◌}
use Rattle.resty_base.specs.declared.names.Id.TheVariants as id
use Rattle.resty_base.specs.declared.names.StrandId.{StrandId}
use Rattle.resty_base.specs.declared.names.StrandId.TheVariants as strand
use Rattle.resty_world.specs.declared.event.Event.{Event}
use Rattle.resty_world.specs.declared.event.Event.TheVariants as event
use Rattle.shared_rules.specs.declared.sockets.Idle.{Idle}
use Rattle.resty_world.specs.declared.entry.Entry.{Entry}
use Rattle.resty_world.specs.declared.entry.Entry.TheVariants as entry
use Rattle.strand_contract.specs.declared.turns.Place.{Place}
use Rattle.strand_contract.specs.declared.turns.Place.TheVariants as place
use Rattle.strand_contract.specs.declared.turns.Start.TheVariants as start
use Rattle.strand_contract.specs.Actions.{Moment, Stop, Began, Bytes, Put, Close, Keep, Dropped}
use Rattle.executions.specs.Executions.{GlobalAction, Of, Everyone, TurnedAway, IdleGave, IdleClosed, has_given, Throughout}
use Rattle.strand_contract.specs.Behaviors.{Behavior}
use Rattle.executions.specs.Sockets.{id_at, pool, event_socket, closed_by}
use Rattle.executions.specs.Histories.{entries_of, closing}
use Rattle.executions.specs.Plain.{IsPlain, IsOfIdle}
use Rattle.executions.specs.Lawful.{BeginsRight}
use Rattle.site_examples.proofs.Seen.{client}

abbrev moment_in : List Entry → ℕ
moment_in (entry.Given (event.Moment t) ∷ h) = t.0
moment_in h = 0

-- the one entry that is left is the last of those that may be left
last-is : (o : Option ℕ) (k x : Entry) → closing o ++ k ∷ [] ≡ x ∷ [] → x ≡ k
last-is None k x e = let f : k ∷ [] ≡ x ∷ [] = e in cc
last-is (Some n) k x e = absurd (let f : entry.Close (id.Sock n) ∷ k ∷ [] ≡ x ∷ [] = e in cc)

-- no idle socket gives it
not-idle : {C : Type 0} (g e : Event) (pool : List Idle) → e ≡ g → IsOfIdle pool (event_socket g) → (IsOfIdle pool (event_socket e) → ⊥) → C
not-idle g e pool same p none = absurd (none (subst (λ (k : Event). IsOfIdle pool (event_socket k)) (sym same) p))

module _ {J : Type 0} where
  his-place : (s : StrandId) (q : Place) (ms : List (GlobalAction J)) → id_at s q ms ≡ id.Conn 1 → (s ≡ client) × (q ≡ place.Client)
  his-place (strand.Conn c) place.Client ms e = (let same : c ≡ 1 = cc in ap strand.Conn same, refl)
  his-place (strand.Job n) place.Client ms e = absurd (cc)
  his-place (strand.Conn c) (place.Sock k) ms e = absurd (cc)
  his-place (strand.Job n) (place.Sock k) ms e = absurd (cc)

  pub closes : (b : Behavior J) (top : GlobalAction J) (older : List (GlobalAction J)) → IsPlain b (top ∷ older) → entries_of b top older ≡ entry.Close (id.Conn 1) ∷ []
      → (n : Option ℕ) × (top ≡ Of client (Close place.Client) n)
  closes b (Of s (Began now (start.Client c)) n) older plain e = absurd (cc)
  closes b (Of s (Began now (start.Job k premature job)) n) older plain e = absurd (cc)
  closes b (Of s (Close q) n) older plain e =
      let at : id_at s q older ≡ id.Conn 1 = cc in
      let his = his-place s q older at in
      (n, ap (λ t. Of t (Close q) n) his.0 ∙ ap (λ p. Of client (Close p) n) his.1)
  closes b (Of s (Keep k key idle size) n) older plain e = let same = last-is n _ _ e in absurd (cc)
  closes b (Of s x n) older plain e = absurd (cc)
  closes b (Everyone Stop) older plain e = absurd (cc)
  closes b (Everyone (Moment t)) older plain e = absurd (cc)
  closes b (TurnedAway c) older plain e = absurd (cc)
  closes b (IdleGave g) older plain e = let same = last-is (closed_by g) (entry.Given g) _ e in absurd (cc)
  closes b (IdleClosed n) older plain e = absurd (cc)

  pub puts : (b : Behavior J) (top : GlobalAction J) (older : List (GlobalAction J)) (bytes : List ℕ) → IsPlain b (top ∷ older) → entries_of b top older ≡ entry.Put (id.Conn 1) bytes ∷ []
      → (n : Option ℕ) × (top ≡ Of client (Put place.Client bytes) n)
  puts b (Of s (Began now (start.Client c)) n) older bytes plain e = absurd (cc)
  puts b (Of s (Began now (start.Job k premature job)) n) older bytes plain e = absurd (cc)
  puts b (Of s (Put q taken) n) older bytes plain e =
      let at : id_at s q older ≡ id.Conn 1 = cc in
      let same : taken ≡ bytes = cc in
      let his = his-place s q older at in
      (n, ap (λ t. Of t (Put q taken) n) his.0 ∙ ap (λ p. Of client (Put p taken) n) his.1 ∙ ap (λ l. Of client (Put place.Client l) n) same)
  puts b (Of s (Keep k key idle size) n) older bytes plain e = let same = last-is n _ _ e in absurd (cc)
  puts b (Of s x n) older bytes plain e = absurd (cc)
  puts b (Everyone Stop) older bytes plain e = absurd (cc)
  puts b (Everyone (Moment t)) older bytes plain e = absurd (cc)
  puts b (TurnedAway c) older bytes plain e = absurd (cc)
  puts b (IdleGave g) older bytes plain e = let same = last-is (closed_by g) (entry.Given g) _ e in absurd (cc)
  puts b (IdleClosed n) older bytes plain e = absurd (cc)

  pub asks : (b : Behavior J) (top : GlobalAction J) (older : List (GlobalAction J)) (bytes : List ℕ) → IsPlain b (top ∷ older) → entries_of b top older ≡ entry.Given (event.Bytes (id.Conn 1) bytes) ∷ []
      → (n : Option ℕ) × (top ≡ Of client (Bytes place.Client bytes) n)
  asks b (Of s (Began now (start.Client c)) n) older bytes plain e = absurd (cc)
  asks b (Of s (Began now (start.Job k premature job)) n) older bytes plain e = absurd (cc)
  asks b (Of s (Bytes q came) n) older bytes plain e =
      let at : id_at s q older ≡ id.Conn 1 = cc in
      let same : came ≡ bytes = cc in
      let his = his-place s q older at in
      (n, ap (λ t. Of t (Bytes q came) n) his.0 ∙ ap (λ p. Of client (Bytes p came) n) his.1 ∙ ap (λ l. Of client (Bytes place.Client l) n) same)
  asks b (Of s (Keep k key idle size) n) older bytes plain e = let same = last-is n _ _ e in absurd (cc)
  asks b (Of s x n) older bytes plain e = absurd (cc)
  asks b (Everyone Stop) older bytes plain e = absurd (cc)
  asks b (Everyone (Moment t)) older bytes plain e = absurd (cc)
  asks b (TurnedAway c) older bytes plain e = absurd (cc)
  asks b (IdleGave g) older bytes plain e = let same : entry.Given (event.Bytes (id.Conn 1) bytes) ≡ entry.Given g = last-is (closed_by g) (entry.Given g) _ e in let given : event.Bytes (id.Conn 1) bytes ≡ g = cc in not-idle g (event.Bytes (id.Conn 1) bytes) (pool older) given plain.1 (λ p. p)
  asks b (IdleClosed n) older bytes plain e = absurd (cc)

  pub drops : (b : Behavior J) (top : GlobalAction J) (older : List (GlobalAction J)) → IsPlain b (top ∷ older) → entries_of b top older ≡ entry.Dropped client ∷ []
      → (n : Option ℕ) × (top ≡ Of client Dropped n)
  drops b (Of s (Began now (start.Client c)) n) older plain e = absurd (cc)
  drops b (Of s (Began now (start.Job k premature job)) n) older plain e = absurd (cc)
  drops b (Of s Dropped n) older plain e = (n, let same : s ≡ client = cc in ap (λ t. Of t Dropped n) same)
  drops b (Of s (Keep k key idle size) n) older plain e = let same = last-is n _ _ e in absurd (cc)
  drops b (Of s x n) older plain e = absurd (cc)
  drops b (Everyone Stop) older plain e = absurd (cc)
  drops b (Everyone (Moment t)) older plain e = absurd (cc)
  drops b (TurnedAway c) older plain e = absurd (cc)
  drops b (IdleGave g) older plain e = let same = last-is (closed_by g) (entry.Given g) _ e in absurd (cc)
  drops b (IdleClosed n) older plain e = absurd (cc)

  pub arrives : (b : Behavior J) (top : GlobalAction J) (older : List (GlobalAction J)) → IsPlain b (top ∷ older) → Throughout (BeginsRight b) (top ∷ older) → entries_of b top older ≡ entry.Given (event.Arrive 1) ∷ []
      → (now : ℕ) × (n : Option ℕ) × (top ≡ Of client (Began now (start.Client 1)) n)
  arrives b (Of (strand.Conn k) (Began now (start.Client c)) n) older plain begins e =
      let number : c ≡ 1 = cc in
      let same : k ≡ 1 = begins.1.0 ∙ number in
      (now, n, ap (λ i. Of (strand.Conn i) (Began now (start.Client c)) n) same ∙ ap (λ i. Of client (Began now (start.Client i)) n) number)
  arrives b (Of (strand.Job k) (Began now (start.Client c)) n) older plain begins e = absurd begins.1.0
  arrives b (Of s (Began now (start.Job k premature job)) n) older plain begins e = absurd (cc)
  arrives b (Of s (Keep k key idle size) n) older plain begins e = let same = last-is n _ _ e in absurd (cc)
  arrives b (Of s x n) older plain begins e = absurd (cc)
  arrives b (Everyone Stop) older plain begins e = absurd (cc)
  arrives b (Everyone (Moment t)) older plain begins e = absurd (cc)
  arrives b (TurnedAway c) older plain begins e = absurd (cc)
  arrives b (IdleGave g) older plain begins e = let same : entry.Given (event.Arrive 1) ≡ entry.Given g = last-is (closed_by g) (entry.Given g) _ e in let given : event.Arrive 1 ≡ g = cc in not-idle g (event.Arrive 1) (pool older) given plain.1 (λ p. p)
  arrives b (IdleClosed n) older plain begins e = absurd (cc)

  pub ticks : (b : Behavior J) (top : GlobalAction J) (older : List (GlobalAction J)) (now : ℕ) → IsPlain b (top ∷ older) → entries_of b top older ≡ entry.Given (event.Moment (record { 0 = now })) ∷ []
      → top ≡ Everyone (Moment now)
  ticks b (Of s (Began at (start.Client c)) n) older now plain e = absurd (cc)
  ticks b (Of s (Began at (start.Job k premature job)) n) older now plain e = absurd (cc)
  ticks b (Of s (Keep k key idle size) n) older now plain e = let same = last-is n _ _ e in absurd (cc)
  ticks b (Of s x n) older now plain e = absurd (cc)
  ticks b (Everyone Stop) older now plain e = absurd (cc)
  ticks b (Everyone (Moment t)) older now plain e = ap (λ i. Everyone (Moment i)) (ap moment_in e)
  ticks b (TurnedAway c) older now plain e = absurd (cc)
  ticks b (IdleGave g) older now plain e = let same : entry.Given (event.Moment (record { 0 = now })) ≡ entry.Given g = last-is (closed_by g) (entry.Given g) _ e in let given : event.Moment (record { 0 = now }) ≡ g = cc in not-idle g (event.Moment (record { 0 = now })) (pool older) given plain.1 (λ p. p)
  ticks b (IdleClosed n) older now plain e = absurd (cc)

  -- Stop is given
  pub stops : (b : Behavior J) (top : GlobalAction J) (older : List (GlobalAction J)) → IsPlain b (top ∷ older) → entries_of b top older ≡ entry.Given event.Stop ∷ [] → has_given top ≡ true
  stops b (Of s (Began at (start.Client c)) n) older plain e = refl
  stops b (Of s (Began at (start.Job k premature job)) n) older plain e = absurd (cc)
  stops b (Of s (Keep k key idle size) n) older plain e = let same = last-is n _ _ e in absurd (cc)
  stops b (Of s x n) older plain e = absurd (cc)
  stops b (Everyone w) older plain e = refl
  stops b (TurnedAway c) older plain e = refl
  stops b (IdleGave g) older plain e = refl
  stops b (IdleClosed n) older plain e = absurd (cc)
