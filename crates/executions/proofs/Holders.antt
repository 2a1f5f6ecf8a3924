-- A socket's number is held once, or idle once.
use Rattle.std.specs.Prelude.{◌≡◌, ◌≤◌, ◌<◌, ℕ, ◌+◌, Bool, true, false, ◌||◌, ◌&&◌, ◌==◌, List, [], ◌∷◌, ◌++◌, Option, Some, None, option_map, slice_get, if◌then◌else◌, refl}
use Rattle.std.proofs.Common.{arith, sym, ◌∙◌, ap, subst}
use Rattle.std.proofs.lemmas.Bool.{eqb-true, eq-eqb}
use Rattle.resty_base.specs.declared.names.StrandId.{StrandId}
use Rattle.resty_base.specs.BoolLaws.{by_test}
use Rattle.resty_world.specs.Ids.{same_strand}
use Rattle.resty_world.specs.IdLaws.{same_strand-eq, same_strand-self}
use Rattle.strand_contract.specs.declared.turns.Place.{Place}
use Rattle.strand_contract.specs.declared.turns.Place.TheVariants as place
use Rattle.shared_rules.specs.Keys.{same_key}
use Rattle.shared_rules.specs.declared.sockets.Idle.{Idle}
use Rattle.shared_rules.specs.Pool.{of_key, first_of, given, take_answer, without_socket, without_any, taken_from, kept_in, crowded_out, is_idle}
use Rattle.strand_contract.specs.declared.turns.Start.TheVariants as start
use Rattle.strand_contract.specs.Actions.{Action, Began, Close, Take, Dial, Keep, LocalAction, Told, Did, same_place}
use Rattle.strand_contract.specs.Behaviors.{Behavior}
use Rattle.strand_contract.specs.Alone.{lives, is_open, socket_count, IsExecution, Enabled}
use Rattle.executions.specs.Executions.{GlobalAction, Of, Everyone, TurnedAway, IdleGave, IdleClosed, projection, present}
use Rattle.executions.specs.Counts.{dialled}
use Rattle.executions.specs.Queues.{only}
use Rattle.executions.specs.Sockets.{Socket, without_held, got, idle_of, held_by, sockets, holder_in, owner, at_place, socket_at, closed_by, pool}
use Rattle.executions.specs.Plain.{IsPlain, IsPlainAt, taken_number, taken_uses}
use Rattle.executions.proofs.Strands.{clash}

pub le-refl : (a : ℕ) → a ≤ a
le-refl a = omega arith

abbrev pub one : ℕ → ℕ → ℕ
one n m = if n == m then 1 else 0

abbrev pub count_held : ℕ → List (StrandId × Socket) → ℕ
count_held n [] = 0
count_held n (e ∷ l) = one n e.1.sock + count_held n l

abbrev pub count_idle : ℕ → List Idle → ℕ
count_idle n [] = 0
count_idle n (i ∷ l) = one n i.sock + count_idle n l

held-end : (n : ℕ) (l : List (StrandId × Socket)) (e : StrandId × Socket) → count_held n (l ++ e ∷ []) ≡ count_held n l + one n e.1.sock
held-end n [] e = omega arith
held-end n (f ∷ l) e = let ih = held-end n l e in omega (arith, ih)

idle-less : (n m : ℕ) (l : List Idle) → count_idle n (without_socket m l) ≤ count_idle n l
idle-less n m [] = omega arith
idle-less n m (i ∷ l) = put (m == i.sock) (idle-less n m l)
  where
    put : (c : Bool) → count_idle n (without_socket m l) ≤ count_idle n l → count_idle n (if c then l else i ∷ without_socket m l) ≤ one n i.sock + count_idle n l
    put true ih = omega arith
    put false ih = omega (arith, ih)

idle-taken : (n : ℕ) (key : List ℕ) (l : List Idle) (i : Idle) → first_of key l ≡ Some i → count_idle n (without_socket i.sock l) + one n i.sock ≡ count_idle n l
idle-taken n key [] i h = absurd (let f : None ≡ Some i = h in cc)
idle-taken n key (j ∷ l) i h = put (same_key key j.key) h (idle-taken n key l i)
  where
    same : Some j ≡ Some i → j ≡ i
    same h = let f : Some j ≡ Some i = h in cc

    put : (c : Bool) → slice_get (if c then j ∷ of_key key l else of_key key l) 0 ≡ Some i → (first_of key l ≡ Some i → count_idle n (without_socket i.sock l) + one n i.sock ≡ count_idle n l) → count_idle n (without_socket i.sock (j ∷ l)) + one n i.sock ≡ one n j.sock + count_idle n l
    put true h ih = subst (λ (x : Idle). count_idle n (without_socket x.sock (j ∷ l)) + one n x.sock ≡ one n j.sock + count_idle n l) (same h)
        (ap (λ c. count_idle n (if c then l else j ∷ without_socket j.sock l) + one n j.sock) (eq-eqb j.sock j.sock refl) ∙ omega arith)
    put false h ih = cases (i.sock == j.sock) refl (ih h)
      where
        cases : (d : Bool) → (i.sock == j.sock) ≡ d → count_idle n (without_socket i.sock l) + one n i.sock ≡ count_idle n l → count_idle n (if d then l else j ∷ without_socket i.sock l) + one n i.sock ≡ one n j.sock + count_idle n l
        cases true e g = ap (λ m. count_idle n l + one n m) (eqb-true i.sock j.sock e) ∙ omega arith
        cases false e g = omega (arith, g)

held-less : (n : ℕ) (s : StrandId) (q : Place) (l : List (StrandId × Socket)) → count_held n (without_held s q l) ≤ count_held n l
held-less n s place.Client l = le-refl (count_held n l)
held-less n s (place.Sock k) [] = omega arith
held-less n s (place.Sock k) (e ∷ l) = put (same_strand s e.0 && (k == e.1.at)) (held-less n s (place.Sock k) l)
  where
    put : (c : Bool) → count_held n (without_held s (place.Sock k) l) ≤ count_held n l → count_held n (if c then l else e ∷ without_held s (place.Sock k) l) ≤ one n e.1.sock + count_held n l
    put true ih = omega arith
    put false ih = omega (arith, ih)

-- a strand has a socket at that place
abbrev pub is_held : StrandId → ℕ → List (StrandId × Socket) → Bool
is_held s k [] = false
is_held s k (e ∷ l) = (same_strand s e.0 && (k == e.1.at)) || is_held s k l

held-taken : (n : ℕ) (s : StrandId) (k : ℕ) (l : List (StrandId × Socket)) → is_held s k l ≡ true → count_held n (without_held s (place.Sock k) l) + one n (at_place k (only s l)).sock ≡ count_held n l
held-taken n s k [] h = clash false h refl
held-taken n s k (e ∷ l) h = put (same_strand s e.0) h (held-taken n s k l)
  where
    inner : (d : Bool) → (d || is_held s k l) ≡ true → (is_held s k l ≡ true → count_held n (without_held s (place.Sock k) l) + one n (at_place k (only s l)).sock ≡ count_held n l)
        → count_held n (if d then l else e ∷ without_held s (place.Sock k) l) + one n (if d then e.1 else at_place k (only s l)).sock ≡ one n e.1.sock + count_held n l
    inner true h ih = omega arith
    inner false h ih = let g = ih h in omega (arith, g)

    put : (c : Bool) → ((c && (k == e.1.at)) || is_held s k l) ≡ true → (is_held s k l ≡ true → count_held n (without_held s (place.Sock k) l) + one n (at_place k (only s l)).sock ≡ count_held n l)
        → count_held n (if c && (k == e.1.at) then l else e ∷ without_held s (place.Sock k) l) + one n (at_place k (if c then e.1 ∷ only s l else only s l)).sock ≡ one n e.1.sock + count_held n l
    put true h ih = inner (k == e.1.at) h ih
    put false h ih = let g = ih h in omega (arith, g)

held-more : (s : StrandId) (k : ℕ) (l : List (StrandId × Socket)) (e : StrandId × Socket) → is_held s k l ≡ true → is_held s k (l ++ e ∷ []) ≡ true
held-more s k [] e h = clash false h refl
held-more s k (f ∷ l) e h = put (same_strand s f.0 && (k == f.1.at)) h (held-more s k l e)
  where
    put : (c : Bool) → (c || is_held s k l) ≡ true → (is_held s k l ≡ true → is_held s k (l ++ e ∷ []) ≡ true) → (c || is_held s k (l ++ e ∷ [])) ≡ true
    put true h ih = refl
    put false h ih = ih h

held-last : (s : StrandId) (k : ℕ) (l : List (StrandId × Socket)) (e : StrandId × Socket) → (same_strand s e.0 && (k == e.1.at)) ≡ true → is_held s k (l ++ e ∷ []) ≡ true
held-last s k [] e h = ap (λ c. c || false) h
held-last s k (f ∷ l) e h = put (same_strand s f.0 && (k == f.1.at)) (held-last s k l e h)
  where
    put : (c : Bool) → is_held s k (l ++ e ∷ []) ≡ true → (c || is_held s k (l ++ e ∷ [])) ≡ true
    put true ih = refl
    put false ih = ih

-- another's place, or another place, stays
held-stays : (s t : StrandId) (k : ℕ) (q : Place) (l : List (StrandId × Socket)) → ((j : ℕ) → q ≡ place.Sock j → (same_strand s t && (k == j)) ≡ false) → is_held s k l ≡ true → is_held s k (without_held t q l) ≡ true
held-stays s t k place.Client l other h = h
held-stays s t k (place.Sock j) [] other h = clash false h refl
held-stays s t k (place.Sock j) (e ∷ l) other h = put (same_strand t e.0) refl (j == e.1.at) refl (same_strand s e.0 && (k == e.1.at)) refl h (held-stays s t k (place.Sock j) l other)
  where
    put : (c : Bool) → same_strand t e.0 ≡ c → (d : Bool) → (j == e.1.at) ≡ d → (f : Bool) → (same_strand s e.0 && (k == e.1.at)) ≡ f → (f || is_held s k l) ≡ true
        → (is_held s k l ≡ true → is_held s k (without_held t (place.Sock j) l) ≡ true) → is_held s k (if c && d then l else e ∷ without_held t (place.Sock j) l) ≡ true
    put true p true q true r h ih = clash (same_strand s t && (k == j))
        (subst (λ (x : StrandId). (same_strand s x && (k == j)) ≡ true) (sym (same_strand-eq t e.0 p)) (subst (λ (x : ℕ). (same_strand s e.0 && (k == x)) ≡ true) (sym (eqb-true j e.1.at q)) r)) (other j refl)
    put true p true q false r h ih = h
    put true p false q true r h ih = ap (λ c. c || is_held s k (without_held t (place.Sock j) l)) r
    put true p false q false r h ih = ap (λ c. c || is_held s k (without_held t (place.Sock j) l)) r ∙ ih h
    put false p d q true r h ih = ap (λ c. c || is_held s k (without_held t (place.Sock j) l)) r
    put false p d q false r h ih = ap (λ c. c || is_held s k (without_held t (place.Sock j) l)) r ∙ ih h

-- what is open is held
module _ {J : Type 0} (b : Behavior J) where
  at-same : (t s : StrandId) → same_strand s t ≡ false → (k j : ℕ) → (same_strand s t && (k == j)) ≡ false
  at-same t s h k j = ap (λ c. c && (k == j)) h

  others-held : (s t : StrandId) (x : Action J) (n : Option ℕ) (k m : ℕ) (l : List (StrandId × Socket)) → same_strand s t ≡ false → is_held s k l ≡ true → is_held s k (held_by t x n m l) ≡ true
  others-held s t (Dial host port true) None k m l ne h = h
  others-held s t (Dial host port true) (Some n) k m l ne h = held-more s k l (t, record { at = m; sock = n; uses = 0 }) h
  others-held s t (Take key (Some uses)) None k m l ne h = h
  others-held s t (Take key (Some uses)) (Some n) k m l ne h = held-more s k l (t, record { at = m; sock = n; uses = uses }) h
  others-held s t (Close q) n k m l ne h = held-stays s t k q l (λ j e. at-same t s ne k j) h
  others-held s t (Keep i key idle size) n k m l ne h = held-stays s t k (place.Sock i) l (λ j e. at-same t s ne k j) h
  others-held s t x n k m l ne h = h

  -- the strand's own action
  abbrev pub OpenHeld : StrandId → ℕ → List (LocalAction J) → List (StrandId × Socket) → Type 0
  OpenHeld s k es l = is_open (place.Sock k) es ≡ true → is_held s k l ≡ true

  closes : (s : StrandId) (k : ℕ) (q : Place) (es : List (LocalAction J)) (l : List (StrandId × Socket)) → OpenHeld s k es l → (c : Bool) → same_place (place.Sock k) q ≡ c → (if c then false else is_open (place.Sock k) es) ≡ true → is_held s k (without_held s q l) ≡ true
  closes s k q es l ih true e h = clash false h refl
  closes s k q es l ih false e h = held-stays s s k q l (λ j w. ap (λ c. c && (k == j)) (same_strand-self s) ∙ subst (λ (p : Place). same_place (place.Sock k) p ≡ false) w e) (ih h)

  opens : (s : StrandId) (k n uses : ℕ) (es : List (LocalAction J)) (l : List (StrandId × Socket)) → OpenHeld s k es l → (c : Bool) → (k == socket_count es) ≡ c → (c || is_open (place.Sock k) es) ≡ true
      → is_held s k (l ++ (s, record { at = socket_count es; sock = n; uses = uses }) ∷ []) ≡ true
  opens s k n uses es l ih true e h = held-last s k l _ (ap (λ c. c && (k == socket_count es)) (same_strand-self s) ∙ e)
  opens s k n uses es l ih false e h = held-more s k l _ (ih h)

  own-held : (s : StrandId) (x : Action J) (n : Option ℕ) (k : ℕ) (ms : List (GlobalAction J)) → IsExecution b (Did x ∷ projection s ms) → IsPlainAt b x n ms → OpenHeld s k (projection s ms) (sockets ms)
      → OpenHeld s k (Did x ∷ projection s ms) (held_by s x n (socket_count (projection s ms)) (sockets ms))
  own-held s (Began now (start.Client c)) n k ms f p ih h = clash false h refl
  own-held s (Dial host port true) n k ms f p ih h =
      subst (λ (o : Option ℕ). is_held s k (got s (socket_count (projection s ms)) o 0 (sockets ms)) ≡ true) (sym p) (opens s k (dialled ms + 1) 0 (projection s ms) (sockets ms) ih (k == socket_count (projection s ms)) refl h)
  own-held s (Take key (Some uses)) n k ms f p ih h = taken (take_answer key (pool ms)) p.0 p.1
    where
      taken : (o : Option (ℕ × ℕ)) → n ≡ taken_number o → Some uses ≡ taken_uses o → is_held s k (got s (socket_count (projection s ms)) n uses (sockets ms)) ≡ true
      taken None e g = absurd (let f : Some uses ≡ None = g in cc)
      taken (Some i) e g = subst (λ (o : Option ℕ). is_held s k (got s (socket_count (projection s ms)) o uses (sockets ms)) ≡ true) (sym e) (opens s k i.0 uses (projection s ms) (sockets ms) ih (k == socket_count (projection s ms)) refl h)
  own-held s (Close q) n k ms f p ih h = closes s k q (projection s ms) (sockets ms) ih (same_place (place.Sock k) q) refl h
  own-held s (Keep i key idle size) n k ms f p ih h = closes s k (place.Sock i) (projection s ms) (sockets ms) ih (k == i) refl h
  own-held s (Dial host port false) n k ms f p ih h = ih h
  own-held s (Take key None) n k ms f p ih h = ih h
  own-held s x n k ms f p ih h = ih h

  tail-if : (c : Bool) (a : LocalAction J) (es : List (LocalAction J)) → IsExecution b (if c then a ∷ es else es) → IsExecution b es
  tail-if true a es f = f.0
  tail-if false a es f = f

  pub open-held : (ms : List (GlobalAction J)) → ((s : StrandId) → IsExecution b (projection s ms)) → IsPlain b ms → (s : StrandId) (k : ℕ) → OpenHeld s k (projection s ms) (sockets ms)
  open-held [] f p s k h = clash false h refl
  open-held (Of t x n ∷ ms) f p s k h = put (same_strand s t) refl (f s) h (open-held ms (λ r. tail-if (same_strand r t) (Did x) (projection r ms) (f r)) p.0 s k)
    where
      put : (c : Bool) → same_strand s t ≡ c → IsExecution b (if c then Did x ∷ projection s ms else projection s ms) → is_open (place.Sock k) (if c then Did x ∷ projection s ms else projection s ms) ≡ true
          → OpenHeld s k (projection s ms) (sockets ms) → is_held s k (held_by t x n (socket_count (projection t ms)) (sockets ms)) ≡ true
      put true e g h ih = subst (λ (r : StrandId). is_held s k (held_by r x n (socket_count (projection r ms)) (sockets ms)) ≡ true) (same_strand-eq s t e) (own-held s x n k ms g p.1 ih h)
      put false e g h ih = others-held s t x n k (socket_count (projection t ms)) (sockets ms) e (ih h)
  open-held (Everyone w ∷ ms) f p s k h = put (lives (projection s ms)) h (open-held ms (λ r. tail-if (lives (projection r ms)) (Told w) (projection r ms) (f r)) p.0 s k)
    where
      put : (c : Bool) → is_open (place.Sock k) (if c then Told w ∷ projection s ms else projection s ms) ≡ true → OpenHeld s k (projection s ms) (sockets ms) → is_held s k (sockets ms) ≡ true
      put true h ih = ih h
      put false h ih = ih h
  open-held (TurnedAway c ∷ ms) f p s k h = open-held ms f p.0 s k h
  open-held (IdleGave e ∷ ms) f p s k h = open-held ms f p.0 s k h
  open-held (IdleClosed n ∷ ms) f p s k h = open-held ms f p.0 s k h

  -- numbers are given once
  abbrev pub total : ℕ → List (GlobalAction J) → ℕ
  total n ms = count_held n (sockets ms) + count_idle n (pool ms)

  pub record Once (ms : List (GlobalAction J)) : Type 0 where
    pub unborn : (n : ℕ) → dialled ms < n → total n ms ≡ 0
    pub zero : total 0 ms ≡ 0
    pub once : (n : ℕ) → total n ms ≤ 1

  less : (m : GlobalAction J) (ms : List (GlobalAction J)) → dialled ms ≤ dialled (m ∷ ms) → ((n : ℕ) → total n (m ∷ ms) ≤ total n ms) → Once ms → Once (m ∷ ms)
  less m ms d t o = record {
    unborn = λ n h. (let u = o.unborn n (omega (arith, d, h)) in let v = t n in omega (arith, u, v));
    zero = (let u = o.zero in let v = t 0 in omega (arith, u, v));
    once = λ n. (let u = o.once n in let v = t n in omega (arith, u, v));
  }

  crowded-less : (n : ℕ) (o : Option ℕ) (l : List Idle) → count_idle n (without_any o l) ≤ count_idle n l
  crowded-less n None l = le-refl (count_idle n l)
  crowded-less n (Some m) l = idle-less n m l

  kept-less : (n : ℕ) (i : Idle) (size : ℕ) (l : List Idle) → count_idle n (kept_in i size l) ≤ one n i.sock + count_idle n l
  kept-less n i size l = let w = idle-less n i.sock l in let v = crowded-less n (crowded_out i.key size (without_socket i.sock l)) (without_socket i.sock l) in omega (arith, v, w)

  grow : (a : ℕ) → a ≤ a + 0
  grow a = omega arith

  one-yes : (n m : ℕ) → (n == m) ≡ true → one n m ≡ 1
  one-yes n m on = ap (λ (c : Bool). if c then 1 else 0) on

  one-no : (n m : ℕ) → (n == m) ≡ false → one n m ≡ 0
  one-no n m off = ap (λ (c : Bool). if c then 1 else 0) off

  one-other : (n m : ℕ) → (n ≡ m → ⊥) → one n m ≡ 0
  one-other n m ne = by_test (n == m) (λ on. absurd (ne (eqb-true n m on))) (λ off. one-no n m off)

  once-dial : (s : StrandId) (host : List ℕ) (port : ℕ) (n : Option ℕ) (ms : List (GlobalAction J)) → n ≡ Some (dialled ms + 1) → Once ms → Once (Of s (Dial host port true) n ∷ ms)
  once-dial s host port n ms e o = subst (λ (x : Option ℕ). Once (Of s (Dial host port true) x ∷ ms)) (sym e) (record {
    unborn = λ m h. (let u = o.unborn m (omega (arith, h)) in let v = one-other m (dialled ms + 1) (λ w. omega (arith, w, h)) in let w = counted m in omega (arith, u, v, w));
    zero = (let u = o.zero in let v = one-other 0 (dialled ms + 1) (λ w. omega (arith, w)) in let w = counted 0 in omega (arith, u, v, w));
    once = λ m. by_test (m == (dialled ms + 1))
        (λ on. let w = counted m in let u = o.unborn m (let q = eqb-true m (dialled ms + 1) on in omega (arith, q)) in let v = one-yes m (dialled ms + 1) on in omega (arith, u, v, w))
        (λ off. let w = counted m in let u = o.once m in let v = one-no m (dialled ms + 1) off in omega (arith, u, v, w));
  })
    where
      counted : (m : ℕ) → count_held m (sockets ms ++ (s, record { at = socket_count (projection s ms); sock = dialled ms + 1; uses = 0 }) ∷ []) ≡ count_held m (sockets ms) + one m (dialled ms + 1)
      counted m = held-end m (sockets ms) (s, record { at = socket_count (projection s ms); sock = dialled ms + 1; uses = 0 })

  once-take : (s : StrandId) (key : List ℕ) (uses n : Option ℕ) (ms : List (GlobalAction J)) (o : Option Idle) → first_of key (pool ms) ≡ o → n ≡ taken_number (option_map given o) → uses ≡ taken_uses (option_map given o) → Once ms → Once (Of s (Take key uses) n ∷ ms)
  once-take s key uses n ms None f e g o = subst (λ (u : Option ℕ). Once (Of s (Take key u) n ∷ ms)) (sym g) (less (Of s (Take key None) n) ms (grow (dialled ms))
      (λ m. let w = idles m in omega (arith, w)) o)
    where
      idles : (m : ℕ) → count_idle m (taken_from key (pool ms)) ≤ count_idle m (pool ms)
      idles m = subst (λ (x : Option Idle). count_idle m (without_any (option_map (λ i. i.sock) x) (pool ms)) ≤ count_idle m (pool ms)) (sym f) (le-refl (count_idle m (pool ms)))
  once-take s key uses n ms (Some i) f e g o = subst (λ (u : Option ℕ). Once (Of s (Take key u) n ∷ ms)) (sym g) (subst (λ (x : Option ℕ). Once (Of s (Take key (Some (given i).1)) x ∷ ms)) (sym e)
      (less (Of s (Take key (Some (given i).1)) (Some i.sock)) ms (grow (dialled ms)) (λ m. let v = helds m in let w = idles m in omega (arith, v, w)) o))
    where
      helds : (m : ℕ) → count_held m (sockets (Of s (Take key (Some (given i).1)) (Some i.sock) ∷ ms)) ≡ count_held m (sockets ms) + one m i.sock
      helds m = held-end m (sockets ms) _

      idles : (m : ℕ) → count_idle m (taken_from key (pool ms)) + one m i.sock ≡ count_idle m (pool ms)
      idles m = subst (λ (x : Option Idle). count_idle m (without_any (option_map (λ i. i.sock) x) (pool ms)) + one m i.sock ≡ count_idle m (pool ms)) (sym f) (idle-taken m key (pool ms) i f)

  once-of : (s : StrandId) (x : Action J) (n : Option ℕ) (ms : List (GlobalAction J)) → ((t : StrandId) (k : ℕ) → OpenHeld t k (projection t ms) (sockets ms)) → (Enabled b (projection s ms) (Did x))
      → IsPlainAt b x n ms → Once ms → Once (Of s x n ∷ ms)
  once-of s (Dial host port true) n ms held f p o = once-dial s host port n ms p o
  once-of s (Take key uses) n ms held f p o = once-take s key uses n ms (first_of key (pool ms)) refl p.0 p.1 o
  once-of s (Close q) n ms held f p o = less (Of s (Close q) n) ms (grow (dialled ms)) (λ m. let w = held-less m s q (sockets ms) in omega (arith, w)) o
  once-of s (Keep k key idle size) n ms held f p o = less (Of s (Keep k key idle size) n) ms (grow (dialled ms))
      (λ m. let v = held-taken m s k (sockets ms) (held s k f.1) in let w = kept-less m (idle_of (present ms) key idle (socket_at s k ms)) size (pool ms) in omega (arith, v, w)) o
  once-of s x n ms held f p o = less (Of s x n) ms (grow (dialled ms)) (λ m. le-refl (total m ms)) o

  pub once : (ms : List (GlobalAction J)) → ((s : StrandId) → IsExecution b (projection s ms)) → IsPlain b ms → Once ms
  once [] f p = record { unborn = λ n h. refl; zero = refl; once = λ n. omega arith }
  once (Of s x n ∷ ms) f p = once-of s x n ms (open-held ms (λ r. tail-if (same_strand r s) (Did x) (projection r ms) (f r)) p.0) (head (same_strand s s) (same_strand-self s) (f s)) p.1
      (once ms (λ r. tail-if (same_strand r s) (Did x) (projection r ms) (f r)) p.0)
    where
      head : (c : Bool) → c ≡ true → IsExecution b (if c then Did x ∷ projection s ms else projection s ms) → Enabled b (projection s ms) (Did x)
      head true e g = g.1
      head false e g = clash false e refl
  once (Everyone w ∷ ms) f p = less (Everyone w) ms (grow (dialled ms)) (λ m. le-refl (total m ms)) (once ms (λ r. tail-if (lives (projection r ms)) (Told w) (projection r ms) (f r)) p.0)
  once (TurnedAway c ∷ ms) f p = less (TurnedAway c) ms (grow (dialled ms)) (λ m. le-refl (total m ms)) (once ms f p.0)
  once (IdleGave e ∷ ms) f p = less (IdleGave e) ms (grow (dialled ms)) (λ m. let w = crowded-less m (closed_by e) (pool ms) in omega (arith, w)) (once ms f p.0)
  once (IdleClosed n ∷ ms) f p = less (IdleClosed n) ms (grow (dialled ms)) (λ m. let w = idle-less m n (pool ms) in omega (arith, w)) (once ms f p.0)

  -- so the holder of a number is found, and an idle one has none
  held-some : (s : StrandId) (k : ℕ) (l : List (StrandId × Socket)) → is_held s k l ≡ true → 1 ≤ count_held (at_place k (only s l)).sock l
  held-some s k l h = let w = held-taken (at_place k (only s l)).sock s k l h in let v = one-yes (at_place k (only s l)).sock (at_place k (only s l)).sock (eq-eqb (at_place k (only s l)).sock (at_place k (only s l)).sock refl) in omega (arith, v, w)

  no-holder : (n : ℕ) (l : List (StrandId × Socket)) → count_held n l ≡ 0 → holder_in n l ≡ None
  no-holder n [] h = refl
  no-holder n (e ∷ l) h = by_test (n == e.1.sock) (λ on. let v = one-yes n e.1.sock on in absurd (omega (arith, v, h)))
      (λ off. ap (λ c. if c then Some (e.0, e.1.at) else holder_in n l) off ∙ no-holder n l (let v = one-no n e.1.sock off in omega (arith, v, h)))

  holder-is : (s : StrandId) (k : ℕ) (l : List (StrandId × Socket)) → is_held s k l ≡ true → count_held (at_place k (only s l)).sock l ≤ 1 → holder_in (at_place k (only s l)).sock l ≡ Some (s, k)
  holder-is s k [] h c = clash false h refl
  holder-is s k (e ∷ l) h c = put (same_strand s e.0) refl h c (holder-is s k l)
    where
      here : same_strand s e.0 ≡ true → (k == e.1.at) ≡ true → (if e.1.sock == e.1.sock then Some (e.0, e.1.at) else holder_in e.1.sock l) ≡ Some (s, k)
      here p q = ap (λ c. if c then Some (e.0, e.1.at) else holder_in e.1.sock l) (eq-eqb e.1.sock e.1.sock refl) ∙ ap (λ t. Some (t, e.1.at)) (sym (same_strand-eq s e.0 p)) ∙ ap (λ j. Some (s, j)) (sym (eqb-true k e.1.at q))

      later : is_held s k l ≡ true → one (at_place k (only s l)).sock e.1.sock + count_held (at_place k (only s l)).sock l ≤ 1 → (is_held s k l ≡ true → count_held (at_place k (only s l)).sock l ≤ 1 → holder_in (at_place k (only s l)).sock l ≡ Some (s, k))
          → (if (at_place k (only s l)).sock == e.1.sock then Some (e.0, e.1.at) else holder_in (at_place k (only s l)).sock l) ≡ Some (s, k)
      later h c ih = by_test ((at_place k (only s l)).sock == e.1.sock)
          (λ on. let v = one-yes (at_place k (only s l)).sock e.1.sock on in let w = held-some s k l h in absurd (omega (arith, v, w, c)))
          (λ off. ap (λ c. if c then Some (e.0, e.1.at) else holder_in (at_place k (only s l)).sock l) off ∙ ih h (omega (arith, c)))

      inner : same_strand s e.0 ≡ true → (d : Bool) → (k == e.1.at) ≡ d → (d || is_held s k l) ≡ true → one (if d then e.1 else at_place k (only s l)).sock e.1.sock + count_held (if d then e.1 else at_place k (only s l)).sock l ≤ 1
          → (is_held s k l ≡ true → count_held (at_place k (only s l)).sock l ≤ 1 → holder_in (at_place k (only s l)).sock l ≡ Some (s, k))
          → (if (if d then e.1 else at_place k (only s l)).sock == e.1.sock then Some (e.0, e.1.at) else holder_in (if d then e.1 else at_place k (only s l)).sock l) ≡ Some (s, k)
      inner p true q h c ih = here p q
      inner p false q h c ih = later h c ih

      put : (b : Bool) → same_strand s e.0 ≡ b → ((b && (k == e.1.at)) || is_held s k l) ≡ true
          → one (at_place k (if b then e.1 ∷ only s l else only s l)).sock e.1.sock + count_held (at_place k (if b then e.1 ∷ only s l else only s l)).sock l ≤ 1
          → (is_held s k l ≡ true → count_held (at_place k (only s l)).sock l ≤ 1 → holder_in (at_place k (only s l)).sock l ≡ Some (s, k))
          → (if (at_place k (if b then e.1 ∷ only s l else only s l)).sock == e.1.sock then Some (e.0, e.1.at) else holder_in (at_place k (if b then e.1 ∷ only s l else only s l)).sock l) ≡ Some (s, k)
      put true p h c ih = inner p (k == e.1.at) refl h c ih
      put false p h c ih = later h c ih

  idle-some : (n : ℕ) (l : List Idle) → is_idle n l ≡ true → 1 ≤ count_idle n l
  idle-some n [] h = clash false h refl
  idle-some n (i ∷ l) h = put (n == i.sock) h (idle-some n l)
    where
      put : (c : Bool) → (if c then true else is_idle n l) ≡ true → (is_idle n l ≡ true → 1 ≤ count_idle n l) → 1 ≤ (if c then 1 else 0) + count_idle n l
      put true h ih = omega arith
      put false h ih = let w = ih h in omega (arith, w)

  pub owner-is : (ms : List (GlobalAction J)) (s : StrandId) (k : ℕ) → ((r : StrandId) → IsExecution b (projection r ms)) → IsPlain b ms → is_open (place.Sock k) (projection s ms) ≡ true → owner (socket_at s k ms).sock ms ≡ Some (s, k)
  owner-is ms s k f p h = holder-is s k (sockets ms) (open-held ms f p s k h) (let w = (once ms f p).once (socket_at s k ms).sock in omega (arith, w))

  pub idle-unowned : (ms : List (GlobalAction J)) (n : ℕ) → ((r : StrandId) → IsExecution b (projection r ms)) → IsPlain b ms → is_idle n (pool ms) ≡ true → owner n ms ≡ None
  idle-unowned ms n f p h = no-holder n (sockets ms) (let w = (once ms f p).once n in let v = idle-some n (pool ms) h in omega (arith, v, w))
