-- A world some calls later, of which no event was asked.
use Rattle.std.proofs.Common.{◌≡◌, ℕ, Bool, true, false, List, [], ◌∷◌, ◌++◌, Option, Some, None, IfSome, refl, ap, sym, ◌∙◌, arith}
use Rattle.std.specs.Option.{option_map}
use Rattle.resty_base.specs.Counting.{Rose}
use Rattle.resty_base.specs.declared.names.Id.{Id}
use Rattle.resty_base.specs.declared.names.StrandId.{StrandId}
use Rattle.resty_world.specs.declared.entry.Entry.{Entry}
use Rattle.resty_world.specs.declared.entry.Entry.TheVariants as entry
use Rattle.resty_world.specs.declared.answers.Wrote.{Wrote}
use Rattle.resty_world.specs.declared.answers.Wrote.TheVariants as wrote
use Rattle.resty_world.specs.Book.{Book, told}
use Rattle.resty_world.specs.Contract.{Forgets}
use Rattle.resty_world.specs.Calls.{wrote_entry}
use Rattle.engine_base.proofs.Lists.{told-nothing}
use Rattle.engine_turns.specs.Worked.{to_event, has_failed_log, HasFailedLog, Logs, Worked}

pub goes-stays : {V : Type 0} (same : V → V → Type 0) (book : V → Book) (v : V) (f : Bool) → same v v → Worked same book v v f f
goes-stays same book v f stays = record { later = stays; event = refl; port = refl; logs = λ first l. l }

pub goes-joins : {V : Type 0} (same : V → V → Type 0) (book : V → Book) (u v w : V) (f g h : Bool) → (same u v → same v w → same u w) → Worked same book u v f g → Worked same book v w g h → Worked same book u w f h
goes-joins same book u v w f g h joins a d = record { later = joins a.later d.later; event = d.event ∙ a.event; port = d.port ∙ a.port; logs = λ first l. d.logs first (a.logs first l) }

-- no event is among the entries, and no log line that wasn't written
pub record IsWork (es : List Entry) : Type 0 where
  pub event : (h : List Entry) → to_event (es ++ h) ≡ to_event h
  pub written : (h : List Entry) → has_failed_log (es ++ h) ≡ has_failed_log h

-- what the entries leave as it was is so where a history is reported
kept-told : {A : Type 0} (f : List Entry → A) (o : Option (List Entry)) (es : List Entry) → ((h : List Entry) → f (es ++ h) ≡ f h) → option_map f (told es o) ≡ option_map f o
kept-told f None es kept = refl
kept-told f (Some h) es kept = ap Some (kept h)

failed-told : (o : Option (List Entry)) (es : List Entry) → IsWork es → IfSome o HasFailedLog → IfSome (told es o) HasFailedLog
failed-told None es w l = tt
failed-told (Some h) es w l = w.written h ∙ l

pub logs-more : (first : Book) (f : Bool) (old new : Book) (es : List Entry) → IsWork es → new.history ≡ told es old.history → new.faults ≡ old.faults → Logs first f old → Logs first f new
logs-more first false old new es w history faults l = (faults ∙ l.0, ap (option_map has_failed_log) history ∙ kept-told has_failed_log old.history es w.written ∙ l.1)
logs-more first true old new es w history faults l = (rw faults l.0, rw history (failed-told old.history es w l.1))

pub goes-work : {V : Type 0} (same : V → V → Type 0) (book : V → Book) (u v : V) (f : Bool) (es : List Entry) → same u v → IsWork es → (book v).history ≡ told es (book u).history → (book v).faults ≡ (book u).faults → (book v).port ≡ (book u).port → Worked same book u v f f
goes-work same book u v f es later w history faults port = record {
  later = later;
  event = ap (option_map to_event) history ∙ kept-told to_event (book u).history es w.event;
  port = port;
  logs = λ first l. logs-more first f (book u) (book v) es w history faults l;
}

pub nothing-work : IsWork []
nothing-work = record { event = λ h. refl; written = λ h. refl }

pub dropped-work : (s : StrandId) → IsWork (entry.Dropped s ∷ [])
dropped-work s = record { event = λ h. refl; written = λ h. refl }

pub closed-work : (i : Id) → IsWork (entry.Close i ∷ [])
closed-work i = record { event = λ h. refl; written = λ h. refl }

pub wrote-work : (i : Id) (bytes : List ℕ) (r : Wrote) → IsWork (wrote_entry i bytes r)
wrote-work i bytes (wrote.Took n) = record { event = λ h. refl; written = λ h. refl }
wrote-work i bytes wrote.Later = record { event = λ h. refl; written = λ h. refl }
wrote-work i bytes wrote.Broken = record { event = λ h. refl; written = λ h. refl }
wrote-work i bytes wrote.Memory = nothing-work

pub turned-work : (c : ℕ) → IsWork (entry.Turned c ∷ [])
turned-work c = record { event = λ h. refl; written = λ h. refl }

pub logged-work : (s : StrandId) (line : List ℕ) → IsWork (entry.Log s line true ∷ [])
logged-work s line = record { event = λ h. refl; written = λ h. refl }

-- a log line that isn't written
failed-line : (o : Option (List Entry)) (s : StrandId) (line : List ℕ) → IfSome (told (entry.Log s line false ∷ []) o) HasFailedLog
failed-line None s line = tt
failed-line (Some h) s line = refl

rises : (first : Book) (f : Bool) (old new : Book) → Logs first f old → Rose old.faults new.faults → Rose first.faults new.faults
rises first false old new l r = record { kept = rw (← l.0) r.kept; risen = rw (← l.0) r.risen }
rises first true old new l r =
    let before = l.0.kept in
    let rose = l.0.risen in
    let more = r.kept in
    record { kept = omega (arith, before, more); risen = omega (arith, rose, more) }

pub goes-failed : {V : Type 0} (same : V → V → Type 0) (book : V → Book) (u v : V) (f : Bool) (s : StrandId) (line : List ℕ) → same u v → (book v).history ≡ told (entry.Log s line false ∷ []) (book u).history
    → Rose (book u).faults (book v).faults → (book v).port ≡ (book u).port → Worked same book u v f true
goes-failed same book u v f s line later history rose port = record {
  later = later;
  event = ap (option_map to_event) history ∙ kept-told to_event (book u).history (entry.Log s line false ∷ []) (λ h. refl);
  port = port;
  logs = λ first l. (rises first f (book u) (book v) l rose, rw history (failed-line (book u).history s line));
}

-- what went well, and a put after it
pub goes-put : {V : Type 0} (same : V → V → Type 0) (book : V → Book) (u v w : V) (f g : Bool) → (same u v → same v w → same u w) → Worked same book u v f g
    → (i : Id) (bytes : List ℕ) (r : Wrote) → same v w → (book w).history ≡ told (wrote_entry i bytes r) (book v).history → (book w).faults ≡ (book v).faults → (book w).port ≡ (book v).port → Worked same book u w f g
goes-put same book u v w f g joins before i bytes r later history faults port =
    goes-joins same book u v w f g g joins before (goes-work same book v w g (wrote_entry i bytes r) later (wrote-work i bytes r) history faults port)

pub forgot-work : {V : Type 0} (same : V → V → Type 0) (book : V → Book) (u v : V) (f : Bool) (who : StrandId) → same u v → Forgets who (book u) (book v) → Worked same book u v f f
forgot-work same book u v f who later forgot = goes-work same book u v f [] later nothing-work (forgot.entered.history ∙ sym (told-nothing (book u).history)) forgot.counts.faults forgot.course.port

pub goes-same : {V : Type 0} (same : V → V → Type 0) (book : V → Book) (u v : V) (f : Bool) → same u v → book v ≡ book u → Worked same book u v f f
goes-same same book u v f later e = record {
  later = later;
  event = ap (λ (k : Book). option_map to_event k.history) e;
  port = ap (λ (k : Book). k.port) e;
  logs = λ first l. rw e l;
}
