-- What a turn says and logs, picked of what it makes known: so the same turn says and logs the same. And who has a client.
use Rattle.std.proofs.Common.{◌≡◌, ℕ, Bool, true, false, List, [], ◌∷◌, ◌++◌, Option, Some, None, refl, sym, ap, ◌∙◌, append_assoc, append-nil}
use Rattle.std.specs.Prelude.{not}
use Rattle.strand_contract.specs.declared.turns.Place.{Place}
use Rattle.strand_contract.specs.declared.turns.Place.TheVariants as place
use Rattle.strand_contract.specs.declared.turns.Act.{Act}
use Rattle.strand_contract.specs.declared.turns.Act.TheVariants as act
use Rattle.strand_plans.specs.Questions.{Question, asking_if, asking}
use Rattle.strand_plans.specs.Questions as question
use Rattle.strand_plans.specs.Ledgers.{Ledger, has, has_number, wants_offer}
use Rattle.strand_plans.specs.Moves.{with_sent, asked_of}
use Rattle.run_contract.specs.declared.turns.RunSeen.{RunSeen}
use Rattle.run_contract.specs.declared.turns.RunSeen.TheVariants as seen
use Rattle.run_contract.specs.declared.turns.RunAct.{RunAct}
use Rattle.run_contract.specs.declared.turns.RunAct.TheVariants as made
use Rattle.run_contract.specs.declared.turns.Asking.{Asking}
use Rattle.run_contract.specs.declared.turns.Asking.TheVariants as asks
use Rattle.run_contract.specs.declared.turns.Said.{Said}
use Rattle.run_contract.specs.declared.turns.Said.TheVariants as said
use Rattle.run_contract.specs.Deeds as deed
use Rattle.run_contract.specs.Deeds.{Deed, Say, Turn, Asks, Nothing, Outside, Within, made_if, made_by, made_after, made_asking, acts_made, ledger_by, ledger_after, taken}
use Rattle.run_contract.specs.Runs.{Waits, waits_told, waits_longer, waits_did}
use Rattle.connection_laws.specs.Own.{SameTurn, but_offers}
use Rattle.connection_laws.specs.Alone.{News, Seen, Given, words_of, lines_of}
use Rattle.connection_laws.specs.Replies.{has_client}

-- what is picked of each act and word
module _ {J A : Type 0} (of : RunAct J → List A) where
  abbrev picked : List (RunAct J) → List A
  picked [] = []
  picked (a ∷ rest) = of a ++ picked rest

  pick-if : (c : Bool) (a : Act J) (rest : List (RunAct J)) → of (made.Act a) ≡ [] → picked (made_if c a ++ rest) ≡ picked rest
  pick-if true a rest h = ap (λ (xs : List A). xs ++ picked rest) h
  pick-if false a rest h = refl

  -- Nothing is picked of offers and of questions. What is picked of a deed that is done, and of what follows, is what the deeds tell.
  module _ (offers : (q : Place) → of (made.Act (act.Offer q)) ≡ []) (questions : (x : Question J) → of (made.Act (asking x)) ≡ []) (told : List Deed → List A) (nothing_told : told [] ≡ [])
      (told_by : (d : Deed) (ds : List Deed) (b : Ledger J) (rest : List (RunAct J)) → picked rest ≡ told ds → picked (made_by d b ++ rest) ≡ told (d ∷ ds)) where
    picked-but : (xs : List (RunAct J)) → picked (but_offers xs) ≡ picked xs
    picked-but [] = refl
    picked-but (made.Act (act.Offer q) ∷ rest) = picked-but rest ∙ sym (ap (λ (xs : List A). xs ++ picked rest) (offers q))
    picked-but (a ∷ rest) = ap (λ (xs : List A). of a ++ xs) (picked-but rest)

    picked-asking : (a : Asks J) (b : Ledger J) → picked (made_asking a b) ≡ []
    picked-asking Nothing b = refl
    picked-asking (Within q) b = refl
    picked-asking (Outside x) b = by (asked_of x b)
      where
        by : (o : Option (Question J)) → picked (acts_made (asking_if o)) ≡ []
        by None = refl
        by (Some y) = append-nil (of (made.Act (asking y))) ∙ questions y

    picked-made : (ds : List Deed) (b : Ledger J) (rest : List (RunAct J)) → picked rest ≡ [] → picked (made_after ds b ++ rest) ≡ told ds
    picked-made [] b rest h = h ∙ sym nothing_told
    picked-made (d ∷ ds) b rest h =
        ap picked (append_assoc (made_by d b) (made_after ds (ledger_by d b)) rest)
        ∙ told_by d ds b (made_after ds (ledger_by d b) ++ rest) (picked-made ds (ledger_by d b) rest h)

    picked-taken : {R : Type 0} (t : Turn J R) (b : Ledger J) → picked (but_offers (taken t b).made) ≡ told t.does
    picked-taken t b =
        picked-but (taken t b).made
        ∙ picked-made t.does b (made_asking t.asks (ledger_after t.does b)) (picked-asking t.asks (ledger_after t.does b))

    same-told : {R : Type 0} (t u : Turn J R) (b c : Ledger J) → SameTurn t u b c → told t.does ≡ told u.does
    same-told t u b c h = sym (picked-taken t b) ∙ ap picked h.made ∙ picked-taken u c

module _ {J : Type 0} where
  abbrev word_in : RunAct J → List Said
  word_in (made.Say w) = w ∷ []
  word_in (made.Act a) = []

  words-by : (d : Deed) (ds : List Deed) (b : Ledger J) (rest : List (RunAct J)) → picked word_in rest ≡ words_of ds → picked word_in (made_by d b ++ rest) ≡ words_of (d ∷ ds)
  words-by (deed.Ready k) ds b rest h = pick-if word_in (not (has_number k b.threads)) (act.Ready k) rest refl ∙ h
  words-by (deed.HangUp k) ds b rest h = pick-if word_in (has (place.Sock k) b.opened) (act.HangUp (place.Sock k)) rest refl ∙ h
  words-by (deed.Send k bytes) ds b rest h = pick-if word_in (wants_offer (place.Sock k) (with_sent (place.Sock k) bytes b)) (act.Offer (place.Sock k)) rest refl ∙ h
  words-by (deed.Say w) ds b rest h = ap (λ ws. w ∷ ws) h
  words-by d ds b rest h = h

  pub same-words : {R : Type 0} (t u : Turn J R) (b c : Ledger J) → SameTurn t u b c → words_of t.does ≡ words_of u.does
  same-words t u b c h = same-told word_in (λ q. refl) (λ x. refl) words_of refl words-by t u b c h

  abbrev line_in : RunAct J → List (List ℕ)
  line_in (made.Act (act.Log line)) = line ∷ []
  line_in a = []

  lines-by : (d : Deed) (ds : List Deed) (b : Ledger J) (rest : List (RunAct J)) → picked line_in rest ≡ lines_of ds → picked line_in (made_by d b ++ rest) ≡ lines_of (d ∷ ds)
  lines-by (deed.Ready k) ds b rest h = pick-if line_in (not (has_number k b.threads)) (act.Ready k) rest refl ∙ h
  lines-by (deed.HangUp k) ds b rest h = pick-if line_in (has (place.Sock k) b.opened) (act.HangUp (place.Sock k)) rest refl ∙ h
  lines-by (deed.Send k bytes) ds b rest h = pick-if line_in (wants_offer (place.Sock k) (with_sent (place.Sock k) bytes b)) (act.Offer (place.Sock k)) rest refl ∙ h
  lines-by (deed.Log line) ds b rest h = ap (λ ls. line ∷ ls) h
  lines-by d ds b rest h = h

  no-line : (x : Question J) → line_in (made.Act (asking x)) ≡ []
  no-line (question.Dict zone call) = refl
  no-line x = refl

  pub same-lines : {R : Type 0} (t u : Turn J R) (b c : Ledger J) → SameTurn t u b c → lines_of t.does ≡ lines_of u.does
  same-lines t u b c h = same-told line_in (λ q. refl) no-line lines_of refl lines-by t u b c h

-- ---- clients

pub did-client : (ds : List Deed) (w : Waits) → (waits_did ds w).client ≡ w.client
did-client [] w = refl
did-client (Say said.WantsNoBody ∷ ds) w = did-client ds (record w { body = false })
did-client (Say said.Over ∷ ds) w = did-client ds (record w { body = false; taken = false })
did-client (Say (said.Send bytes) ∷ ds) w = did-client ds w
did-client (Say (said.Times times) ∷ ds) w = did-client ds w
did-client (Say (said.Ended closes) ∷ ds) w = did-client ds w
did-client (deed.Ready k ∷ ds) w = did-client ds w
did-client (deed.Unready k ∷ ds) w = did-client ds w
did-client (deed.Arm k at ∷ ds) w = did-client ds w
did-client (deed.Cancel k ∷ ds) w = did-client ds w
did-client (deed.HangUp k ∷ ds) w = did-client ds w
did-client (deed.Send k bytes ∷ ds) w = did-client ds w
did-client (deed.Log line ∷ ds) w = did-client ds w

longer-client : (q : Option Asking) (w : Waits) → (waits_longer q w).client ≡ w.client
longer-client None w = refl
longer-client (Some (asks.Body max)) w = refl
longer-client (Some asks.AllTaken) w = refl

pub told-client : (x : RunSeen) (w : Waits) → w.client ≡ false → (waits_told x w).client ≡ false
told-client (seen.Body content waited) w h = h
told-client (seen.BodyRefused code) w h = h
told-client seen.AllTaken w h = h
told-client seen.NotYet w h = longer-client w.asks w ∙ h
told-client seen.ClientGone w h = refl
told-client seen.ClientEnded w h = h
told-client (seen.Run k) w h = h
told-client (seen.Due n) w h = h
told-client (seen.Sock k s) w h = h

pub more-client : {J : Type 0} (n : News J) (news : List (News J)) → has_client (n ∷ []) ≡ true → has_client news ≡ true → has_client (n ∷ news) ≡ true
more-client (Seen now seen.ClientGone) news h k = absurd (let e : false ≡ true = h in cc)
more-client (Seen now (seen.Body content waited)) news h k = k
more-client (Seen now (seen.BodyRefused code)) news h k = k
more-client (Seen now seen.AllTaken) news h k = k
more-client (Seen now seen.NotYet) news h k = k
more-client (Seen now seen.ClientEnded) news h k = k
more-client (Seen now (seen.Run j)) news h k = k
more-client (Seen now (seen.Due n)) news h k = k
more-client (Seen now (seen.Sock j s)) news h k = k
more-client (Given now x) news h k = k

-- what began is a job
