-- Each turn that a strand makes by itself leaves it less to do.
use Rattle.std.proofs.Common.{◌≡◌, ℕ, ◌+◌, ◌-◌, ◌%◌, ◌<◌, ◌≤◌, Bool, true, false, ◌&&◌, List, [], ◌∷◌, ◌++◌, drop, length, take, Some, Result, Ok, Err, IfOk, if◌then◌else◌, refl, sym, ap, ◌∙◌, subst, arith, length-drop, length-take, length-append}
use Rattle.strand_contract.specs.declared.turns.Act.{Act}
use Rattle.strand_contract.specs.declared.turns.Act.TheVariants as act
use Rattle.strand_contract.specs.declared.turns.Place.TheVariants as place
use Rattle.strand_contract.specs.declared.turns.Seen.{Seen}
use Rattle.strand_contract.specs.declared.turns.Seen.TheVariants as seen
use Rattle.strand_contract.specs.Calls.{action_of, is_own_turn}
use Rattle.strand_contract.specs.Actions.{LocalAction, Did}
use Rattle.strand_contract.specs.Alone.{piece, moment, IsExecution}
use Rattle.strand_contract.specs.ClientOnlyLaws.{clash}
use Rattle.strand_plans.specs.Ledgers.{has, is_place}
use Rattle.strand_plans.specs.Plans.{state_of}
use Rattle.strand_scripts.specs.declared.program.Op.{Op}
use Rattle.strand_scripts.specs.declared.program.Op.TheVariants as op
use Rattle.strand_scripts.specs.declared.program.Site.{Site}
use Rattle.strand_scripts.specs.declared.strand.ScriptStrand.{ScriptStrand}
use Rattle.strand_scripts.specs.declared.strand.Wait.{Wait}
use Rattle.strand_scripts.specs.declared.strand.Wait.TheVariants.{Going, Sleeping, Sending}
use Rattle.strand_scripts.specs.Lines.{Sending as Line, left_to_send, next_piece, sent_more, wants_offer, count_taken, put_off, end_acts}
use Rattle.strand_scripts.specs.Scripted.{script_plan, script_behavior, later}
use Rattle.strand_scripts.specs.Turns.{Turn, turn, strand_after, end_if, offer_acts, is_done, is_sending, ran, took_some, lost, shown, weights, wait_weight, left_of}
use Rattle.strand_scripts.specs.ConditionLaws.{runs-going, due-sleeping}
use Rattle.strand_scripts.proofs.Turning.{call, at-client, piece-here}

-- the turn leaves less than this, its acts counted
abbrev pub IsLess : {J : Type 0} → Turn J → ℕ → Type 0
IsLess t n = left_of t.strand + length t.acts < n

pub if-ok : {T E : Type 0} (r : Result T E) (P Q : T → Type 0) → IfOk r P → ((v : T) → P v → Q v) → IfOk r Q
if-ok (Ok v) P Q h f = f v h
if-ok (Err e) P Q h f = tt

few : (J : Type 0) (h : Line) → length (end_acts {J = J} h) ≤ 2
few J h = either h.opened
  where
    either : (c : Bool) → length (end_acts {J = J} (record h { opened = c })) ≤ 2
    either true = omega arith
    either false = omega arith

enough : (r l w : ℕ) (c : Bool) → 2 < r + l + (if c then 4 else 5) + w
enough r l w true = omega arith
enough r l w false = omega arith

-- what ends leaves nothing
end-less : (J : Type 0) (s : ScriptStrand) → s.line.over ≡ false → IsLess {J = J} (end_if true s []) (left_of s)
end-less J s going = rw going (let a = few J s.line in let b = enough (weights s.rest) (length (left_to_send s.line)) (wait_weight s.wait) s.line.off in omega arith)

lost-less : (J : Type 0) (s : ScriptStrand) → s.line.over ≡ false → IsLess {J = J} (lost s []) (left_of s)
lost-less J s going = rw going (let a = few J s.line in let b = enough (weights s.rest) (length (left_to_send s.line)) (wait_weight s.wait) s.line.off in omega arith)

one-act : (J : Type 0) (c : Bool) → length (offer_acts {J = J} c) ≤ 1
one-act J true = omega arith
one-act J false = omega arith

-- what is left of a line, and what more is sent
abbrev line_left : Line → ℕ
line_left h = length (left_to_send h) + (if h.off then 4 else 5)

sent-left : (text : List ℕ) (h : Line) → line_left (sent_more text h) ≤ line_left h + length text
sent-left text h = either h.opened
  where
    either : (c : Bool) → length (drop h.taken (if c then h.sent ++ text else h.sent)) + (if h.off then 4 else 5) ≤ length (drop h.taken h.sent) + (if h.off then 4 else 5) + length text
    either true = omega (arith, length-drop h.taken (h.sent ++ text), length-drop h.taken h.sent, length-append h.sent text)
    either false = omega arith

-- a strand that goes on, by its line, what it waits for and its rest
open-left : (h : Line) (w : Wait) (rest : List Op) → h.over ≡ false → left_of (record { line = h; wait = w; rest = rest }) ≡ weights rest + length (left_to_send h) + (if h.off then 4 else 5) + wait_weight w
open-left h w rest going = rw going refl

finish-less : {J : Type 0} (c : Bool) (h : Line) (acts : List (Act J)) → h.over ≡ false
    → IsLess (end_if c (record { line = h; wait = Sending; rest = [] }) acts) (line_left h + 1 + length acts)
finish-less {J} true h acts going = omega (arith, few J h, length-append acts (end_acts h), enough 0 (length (left_to_send h)) 0 h.off)
finish-less false h acts going = omega (arith, open-left h Sending [] going)

pub ran-less : {J : Type 0} (now : ℕ) (ops : List Op) (h : Line) (acts : List (Act J)) → h.over ≡ false → IsLess (ran now ops h acts) (weights ops + line_left h + 1 + length acts)
ran-less now [] h acts going = let less = finish-less (is_done h) h acts going in omega (arith, less)
ran-less now (op.Sleep span ∷ ops) h acts going = omega (arith, open-left h Sleeping ops going, length-append acts (act.Arm 2 (later now span) ∷ []))
ran-less now (op.Yield ∷ ops) h acts going = omega (arith, open-left h Going ops going, length-append acts (act.Ready 0 ∷ []))
ran-less now (op.Log text ∷ ops) h acts going = let less = ran-less now ops h (acts ++ act.Log text ∷ []) going in omega (arith, less, length-append acts (act.Log text ∷ []))
ran-less {J} now (op.Say text ∷ ops) h acts going =
    let w = wants_offer text h in
    let less = ran-less now ops (sent_more text h) (acts ++ offer_acts w) going in
    omega (arith, less, sent-left text h, length-append acts (offer_acts w), one-act J w)
ran-less {J} now (op.Recall ∷ ops) h acts going =
    let more : List (Act J) = act.Ready 1 ∷ act.Unready 1 ∷ [] in
    let less = ran-less now ops h (acts ++ more) going in omega (arith, less, length-append acts more)
ran-less now (op.Fail ∷ ops) h acts going = let less = ran-less now ops h acts going in omega (arith, less)

take-less : (J : Type 0) (n : ℕ) (s : ScriptStrand) → s.line.over ≡ false → s.line.off ≡ false → 0 < n → n ≤ length (left_to_send s.line) → IsLess {J = J} (took_some n s []) (left_of s)
take-less J n s going on some part = test (is_sending s.wait && is_done (count_taken n s.line))
  where
    test : (c : Bool) → IsLess {J = J} (end_if c (record s { line = count_taken n s.line }) []) (left_of s)
    test true = rw going (let a = few J s.line in let b = enough (weights s.rest) (length (left_to_send s.line)) (wait_weight s.wait) s.line.off in omega arith)
    test false = rw (going, on) (omega (arith, length-drop (s.line.taken + n) s.line.sent, length-drop s.line.taken s.line.sent))

later-less : (J : Type 0) (s : ScriptStrand) → s.line.over ≡ false → s.line.off ≡ false → IsLess {J = J} (turn (record s { line = put_off true s.line }) []) (left_of s)
later-less J s going on = rw (going, on) (omega arith)

due-less : (J : Type 0) (s : ScriptStrand) → s.line.over ≡ false → s.wait ≡ Sleeping → IsLess {J = J} (turn (record s { wait = Going }) (act.Ready 0 ∷ [])) (left_of s)
due-less J s going sleeps = rw (going, sleeps) (omega arith)

run-less : (J : Type 0) (now : ℕ) (s : ScriptStrand) → s.line.over ≡ false → s.wait ≡ Going → IsLess {J = J} (ran now s.rest s.line []) (left_of s)
run-less J now s going goes =
    let less = ran-less {J = J} now s.rest s.line [] going in
    let w : wait_weight s.wait ≡ 1 = ap wait_weight goes in
    omega (arith, less, open-left s.line s.wait s.rest going, w)

few-taken : (n : ℕ) (h : Line) → length (take n (next_piece h)) ≤ length (left_to_send h)
few-taken n h = omega (arith, length-take n (next_piece h), length-take (16_384 - h.taken % 16_384) (left_to_send h))

module _ {J : Type 0} (site : Site) (es : List (LocalAction J)) where
  pub less : (s : Seen) → is_own_turn s ≡ true → IsExecution (script_behavior site) (Did (action_of (script_behavior site) es s) ∷ es)
      → IsLess {J = J} (shown site (moment es) s (strand_after site es) []) (left_of (strand_after site es))
  less (seen.Took q n) own f =
      let b = script_behavior site in
      let h = strand_after site es in
      let k = call site es (seen.Took q n) f in
      let e = at-client site es q f.0 k.undropped k.comes.taking.opened in
      let o = subst (λ r. has r (state_of (script_plan site) es).ledger.opened ≡ true) e k.comes.taking.opened in
      let p = piece-here site es f.0 f.1.0.living f.1.0.no_act o in
      take-less J (length (take n (next_piece h.line))) h k.going (k.tidy.takes place.Client (ap (is_place place.Client) (k.comes.taking.begun ∙ ap Some e)))
      (subst (λ xs. 0 < length (take n xs)) (sym p) (subst (λ r. 0 < length (take n (piece b r es))) e f.1.1)) (few-taken n h.line)
  less (seen.Later q) own f =
      let k = call site es (seen.Later q) f in
      let e = at-client site es q f.0 k.undropped k.comes.opened in
      later-less J (strand_after site es) k.going (k.tidy.takes place.Client (ap (is_place place.Client) (k.comes.begun ∙ ap Some e)))
  less (seen.Lost q) own f =
      let k = call site es (seen.Lost q) f in
      lost-less J (strand_after site es) k.going
  less (seen.Due n) own f =
      let st = state_of (script_plan site) es in
      let k = call site es (seen.Due n) f in
      due-less J (strand_after site es) k.going (due-sleeping st.inner.wait (moment es) st.ledger.armed _ k.inner.armed k.comes.first)
  less (seen.Run n) own f =
      let st = state_of (script_plan site) es in
      let k = call site es (seen.Run n) f in
      run-less J (moment es) (strand_after site es) k.going (runs-going st.inner.wait n st.ledger.threads k.inner.queue k.comes.0)
  less seen.Stop own f = end-less J (strand_after site es) (call site es seen.Stop f).going
  less s own f = clash false own refl

pub follows-less : {J : Type 0} (site : Site) (es : List (LocalAction J)) (s : Seen) (now : ℕ) (old new : ScriptStrand) (acts : List (Act J)) → old ≡ strand_after site es → now ≡ moment es
    → (let b = script_behavior site in IsExecution b (Did (action_of b es s) ∷ es)) → is_own_turn s ≡ true → turn new acts ≡ shown site now s old [] → left_of new + length acts < left_of old
follows-less {J} site es s now old new acts stands at f own went =
    let e : turn new acts ≡ shown site (moment es) s (strand_after site es) [] = went ∙ ap (λ h. shown site now s h []) stands ∙ ap (λ n. shown site n s (strand_after site es) []) at in
    subst (λ (t : Turn J). left_of t.strand + length t.acts < left_of old) (sym e) (subst (λ h. IsLess {J = J} (shown site (moment es) s (strand_after site es) []) (left_of h)) (sym stands) (less site es s own f))
