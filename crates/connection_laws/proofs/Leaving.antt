-- What moves leave: the ledger, what is beside it, and the lines that were logged so far.
use Rattle.std.proofs.Common.{◌≡◌, ℕ, not, Bool, true, false, List, [], ◌∷◌, ◌++◌, Option, Some, None, refl, sym, ap, ◌∙◌, append-nil, append_assoc}
use Rattle.strand_contract.specs.declared.turns.Place.{Place}
use Rattle.strand_contract.specs.declared.turns.Act.{Act}
use Rattle.strand_contract.specs.declared.turns.Act.TheVariants as act
use Rattle.strand_plans.specs.Questions.{Question, asking_if}
use Rattle.strand_plans.specs.Questions as question
use Rattle.strand_plans.specs.Ledgers.{Ledger, has, has_number, wants_offer}
use Rattle.strand_plans.specs.Moves.{Move, Done, Unready, Send, Arm, Cancel, HangUp, Log, Set, Look, Ask, End, Performed, with_sent, with_offer, with_thread, without_thread, with_deadline, without_deadline, hung_up, asked_of, ended, ending, act_if, perform}
use Rattle.strand_plans.specs.Moves as move
use Rattle.connection_laws.specs.Replies.{lines_in}

pub record Left (J S : Type 0) : Type 0 where
  pub ledger : Ledger J
  pub inner : S
  pub lines : List (List ℕ)

ending-logs : (J : Type 0) (qs : List Place) → lines_in {J = J} (ending qs) ≡ []
ending-logs J [] = refl
ending-logs J (q ∷ qs) = ending-logs J qs

module _ {J : Type 0} where
  no-line : (c : Bool) (a : Act J) (acts : List (Act J)) → lines_in (a ∷ acts) ≡ lines_in acts → lines_in (act_if c a acts) ≡ lines_in acts
  no-line true a acts h = h
  no-line false a acts h = refl

  asking-logs : (o : Option (Question J)) → lines_in (asking_if o) ≡ []
  asking-logs None = refl
  asking-logs (Some (question.Dict zone call)) = refl
  asking-logs (Some (question.Take key)) = refl
  asking-logs (Some (question.Dial host port)) = refl
  asking-logs (Some (question.Keep k key idle size)) = refl
  asking-logs (Some (question.Timer at job)) = refl

module _ {J S : Type 0} where
  abbrev pub here_at : Ledger J → S → List (List ℕ) → Left J S
  here_at b s ls = record { ledger = b; inner = s; lines = ls }

  abbrev pub left : Move J S → Ledger J → S → List (List ℕ) → Left J S
  left Done b s ls = here_at b s ls
  left (move.Ready k m) b s ls = left m (with_thread k b) s ls
  left (Unready k m) b s ls = left m (without_thread k b) s ls
  left (Send q bytes m) b s ls = left m (with_offer q (with_sent q bytes b)) s ls
  left (Arm n at m) b s ls = left m (with_deadline n at b) s ls
  left (Cancel n m) b s ls = left m (without_deadline n b) s ls
  left (HangUp q m) b s ls = left m (hung_up q b) s ls
  left (Log line m) b s ls = left m b s (ls ++ line ∷ [])
  left (Set f m) b s ls = left m b (f s) ls
  left (Look go) b s ls = left (go b s) b s ls
  left (Ask x) b s ls = here_at (record b { asked = asked_of x b }) s ls
  left End b s ls = here_at (ended b) s ls

  -- what was performed, where so many lines were logged before
  abbrev pub with_lines : List (List ℕ) → Performed J S → Left J S
  with_lines ls p = here_at p.state.ledger p.state.inner (ls ++ lines_in p.acts)

  quietly : (ls : List (List ℕ)) (b : Ledger J) (s : S) (acts : List (Act J)) → lines_in acts ≡ [] → here_at b s ls ≡ here_at b s (ls ++ lines_in acts)
  quietly ls b s acts h = ap (λ ks. here_at b s ks) (sym (append-nil ls) ∙ ap (λ ks. ls ++ ks) (sym h))

  -- an act that logs no line, where there is one
  silently : (c : Bool) (a : Act J) (p : Performed J S) (ls : List (List ℕ)) → lines_in (a ∷ p.acts) ≡ lines_in p.acts
      → with_lines ls p ≡ with_lines ls (record { state = p.state; acts = act_if c a p.acts })
  silently c a p ls h = ap (λ ks. here_at p.state.ledger p.state.inner (ls ++ ks)) (sym (no-line c a p.acts h))

  pub left-is : (m : Move J S) (b : Ledger J) (s : S) (ls : List (List ℕ)) → left m b s ls ≡ with_lines ls (perform m b s)
  left-is Done b s ls = quietly ls b s [] refl
  left-is (move.Ready k m) b s ls = left-is m (with_thread k b) s ls ∙ silently (not (has_number k b.threads)) (act.Ready k) (perform m (with_thread k b) s) ls refl
  left-is (Unready k m) b s ls = left-is m (without_thread k b) s ls
  left-is (Send q bytes m) b s ls =
      let c = with_sent q bytes b in
      left-is m (with_offer q c) s ls ∙ silently (wants_offer q c) (act.Offer q) (perform m (with_offer q c) s) ls refl
  left-is (Arm n at m) b s ls = left-is m (with_deadline n at b) s ls
  left-is (Cancel n m) b s ls = left-is m (without_deadline n b) s ls
  left-is (HangUp q m) b s ls = left-is m (hung_up q b) s ls ∙ silently (has q b.opened) (act.HangUp q) (perform m (hung_up q b) s) ls refl
  left-is (Log line m) b s ls =
      let p = perform m b s in
      left-is m b s (ls ++ line ∷ []) ∙ ap (λ ks. here_at p.state.ledger p.state.inner ks) (append_assoc ls (line ∷ []) (lines_in p.acts))
  left-is (Set f m) b s ls = left-is m b (f s) ls
  left-is (Look go) b s ls = left-is (go b s) b s ls
  left-is (Ask x) b s ls = quietly ls (record b { asked = asked_of x b }) s (asking_if (asked_of x b)) (asking-logs (asked_of x b))
  left-is End b s ls = quietly ls (ended b) s (ending b.opened) (ending-logs J b.opened)

-- no move changes how many sockets there were
pub performs-count : {J S : Type 0} (m : Move J S) (b : Ledger J) (s : S) → (perform m b s).state.ledger.count ≡ b.count
performs-count Done b s = refl
performs-count (move.Ready k m) b s = performs-count m (with_thread k b) s
performs-count (Unready k m) b s = performs-count m (without_thread k b) s
performs-count (Send q bytes m) b s = performs-count m (with_offer q (with_sent q bytes b)) s
performs-count (Arm n at m) b s = performs-count m (with_deadline n at b) s
performs-count (Cancel n m) b s = performs-count m (without_deadline n b) s
performs-count (HangUp q m) b s = performs-count m (hung_up q b) s
performs-count (Log line m) b s = performs-count m b s
performs-count (Set f m) b s = performs-count m b (f s)
performs-count (Look go) b s = performs-count (go b s) b s
performs-count (Ask x) b s = refl
performs-count End b s = refl
