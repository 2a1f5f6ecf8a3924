-- What comes isn't what is next.
use Rattle.std.specs.Prelude.{◌≡◌, ℕ, zero, suc, Bool, true, false, ◌==◌, ◌&&◌, ℤ, pos, int_le, List, [], ◌∷◌, drop, Some, is_some, refl, codes}
use Rattle.std.proofs.Common.{sym, ◌∙◌, ap, arith}
use Rattle.resty_base.specs.declared.names.StrandId.TheVariants as strand
use Rattle.resty_base.specs.declared.dictionary.DictAnswer.TheVariants as answer
use Rattle.strand_contract.specs.declared.turns.Place.TheVariants as place
use Rattle.strand_contract.specs.Actions.{Close, Log, Dict, Take, Offer, Gone, Dropped, Told, Did, Moment, Stop}
use Rattle.strand_contract.specs.Laws.{IsQuiet}
use Rattle.executions.specs.Executions.{GlobalAction, Of, Everyone}
use Rattle.executions.specs.NextActions.{next, IsAnswer, is_drop}
use Rattle.executions.specs.Beginnings.{IsBeginning}
use Rattle.executions.proofs.OneNext.{one-next, older}
use Rattle.engine_examples.specs.Exchanges.{b, sleepers_exchanged, ends_at_once, counted, took_none, started_early, others_between, dropped_by, socket_then_line}
use Rattle.engine_examples.specs.Exchanges.{all_at_50, job_first, jobs_at_stop, runs_early, held_back, read_as, two_idle, fails, premature, all_at_stop, job_then_socket, numbered, two_replies, dropped_by_others}

bad : {C : Type 0} → false ≡ true → C
bad h = absurd (let e : false ≡ true = h in cc)

quiet : IsQuiet b
quiet (Told (Moment t)) es h = refl
quiet (Told Stop) es h = refl
quiet (Did (Close q)) es h = refl
quiet (Did (Log line done)) es h = refl
quiet (Did (Offer q)) es h = refl
quiet (Did Gone) es h = refl
quiet (Did Dropped) es h = refl
quiet (Did x) es h = bad h

fewer : (n : ℕ) (ms : List (GlobalAction ℕ)) → IsBeginning b ms → IsBeginning b (drop n ms)
fewer zero ms r = r
fewer (suc n) [] r = r
fewer (suc n) (m ∷ ms) r = fewer n ms (older b quiet m ms r)

came : (m : GlobalAction ℕ) (ms : List (GlobalAction ℕ)) → IsBeginning b (m ∷ ms) → is_drop m ≡ false → IsAnswer m (next b ms)
came m ms run d = one-next b quiet m ms (record { alone = run.alone; given = run.given; turns = run.ordered }) run.begins.1 run.plain.1 d

-- two actions that a test tells apart
apart : (is_so : GlobalAction ℕ → Bool) (m k : GlobalAction ℕ) → is_so m ≡ true → is_so k ≡ false → m ≡ k → ⊥
apart is_so m k p q e = bad (sym q ∙ ap is_so (sym e) ∙ p)

abbrev pub is_conn : ℕ → GlobalAction ℕ → Bool
is_conn c (Of (strand.Conn d) x n) = c == d
is_conn c m = false

abbrev pub is_job : ℕ → GlobalAction ℕ → Bool
is_job j (Of (strand.Job i) x n) = j == i
is_job j m = false

abbrev pub says : ℤ → GlobalAction ℕ → Bool
says v (Of s (Dict z c (answer.Number w any)) n) = int_le v w && int_le w v
says v m = false

abbrev pub takes : GlobalAction ℕ → Bool
takes (Of s (Take key (Some uses)) n) = true
takes m = false

abbrev pub closes_sock : GlobalAction ℕ → Bool
closes_sock (Of s (Close (place.Sock k)) n) = true
closes_sock m = false

pub not-exchanged : IsBeginning b sleepers_exchanged → ⊥
not-exchanged r = apart (is_conn 1) _ _ refl refl (came _ _ (fewer 12 sleepers_exchanged r) refl)

pub not-at-once : IsBeginning b ends_at_once → ⊥
not-at-once r = bad (came _ _ (fewer 6 ends_at_once r) refl)

pub not-again : IsBeginning b (counted 1) → ⊥
not-again r = apart (says (pos 1)) _ _ refl refl (came _ _ (fewer 9 (counted 1) r) refl)

pub not-taken : IsBeginning b took_none → ⊥
not-taken r = apart takes _ _ refl refl (came _ _ (fewer 2 took_none r) refl)

pub not-early : IsBeginning b started_early → ⊥
not-early r = bad (came _ _ (fewer 4 started_early r) refl)

pub not-between : IsBeginning b others_between → ⊥
not-between r = apart (is_conn 1) _ _ refl refl (came _ _ (fewer 7 others_between r) refl)

pub not-socket-first : IsBeginning b (dropped_by socket_then_line) → ⊥
not-socket-first r = apart closes_sock _ _ refl refl (came _ _ (fewer 2 (dropped_by socket_then_line) r) refl)

pub not-job-first : IsBeginning b (all_at_50 job_first) → ⊥
not-job-first r = apart (is_job 1) _ _ refl refl (came _ _ (fewer 11 (all_at_50 job_first) r) refl)

pub not-by-number : IsBeginning b (jobs_at_stop 1 2) → ⊥
not-by-number r = apart (is_job 1) _ _ refl refl (came _ _ (fewer 9 (jobs_at_stop 1 2) r) refl)

abbrev pub is_word : GlobalAction ℕ → Bool
is_word (Everyone w) = true
is_word m = false

abbrev pub finds_none : GlobalAction ℕ → Bool
finds_none (Of s (Dict z c answer.Nothing) n) = true
finds_none m = false

abbrev pub is_numbered : ℕ → GlobalAction ℕ → Bool
is_numbered k (Of s x (Some n)) = k == n
is_numbered k m = false

abbrev pub begins_with_a : List ℕ → Bool
begins_with_a [] = false
begins_with_a (x ∷ xs) = x == 97

pub not-early-run : IsBeginning b runs_early → ⊥
not-early-run r = apart (is_conn 2) _ _ refl refl (came _ _ (fewer 11 runs_early r) refl)

pub not-held-back : IsBeginning b held_back → ⊥
not-held-back r = apart is_word _ _ refl refl (came _ _ (fewer 5 held_back r) refl)

pub not-nothing : IsBeginning b (read_as answer.Nothing) → ⊥
not-nothing r = apart finds_none _ _ refl refl (came _ _ (fewer 5 (read_as answer.Nothing) r) refl)

pub not-another : IsBeginning b (two_idle 1) → ⊥
not-another r = apart (is_numbered 1) _ _ refl refl (came _ _ (fewer 2 (two_idle 1) r) refl)

pub not-dialled : IsBeginning b (fails true) → ⊥
not-dialled r = bad (ap is_some r.plain.1)

pub not-premature : IsBeginning b (premature false) → ⊥
not-premature r = bad (fewer 3 (premature false) r).begins.1.0.2

pub not-before-sockets : IsBeginning b (all_at_stop job_then_socket) → ⊥
not-before-sockets r = apart (is_job 1) _ _ refl refl (came _ _ (fewer 5 (all_at_stop job_then_socket) r) refl)

pub not-left-out : IsBeginning b (numbered 2) → ⊥
not-left-out r = let e : ◌≡◌ {A = ℕ} 2 1 = r.plain.1.1 in absurd (omega (arith, e))

pub not-of-another : IsBeginning b (two_replies (codes "b")) → ⊥
not-of-another r = bad (ap begins_with_a ((fewer 9 (two_replies (codes "b")) r).alone (strand.Conn 1)).1.2.1)

pub not-by-others : IsBeginning b dropped_by_others → ⊥
not-by-others r = bad r.ordered.1.1
