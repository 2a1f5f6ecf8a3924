-- What a scripted strand holds, and what its turns do to it.
use Rattle.std.specs.Prelude.{ℕ, ◌+◌, Bool, true, false, not, ◌&&◌, List, [], ◌∷◌, ◌++◌, length, take, Option, Some, None, if◌then◌else◌}
use Rattle.strand_contract.specs.declared.turns.Place.TheVariants as place
use Rattle.strand_contract.specs.declared.turns.Act.{Act}
use Rattle.strand_contract.specs.declared.turns.Act.TheVariants as act
use Rattle.strand_contract.specs.declared.turns.Seen.{Seen}
use Rattle.strand_contract.specs.declared.turns.Seen.TheVariants as seen
use Rattle.strand_contract.specs.Actions.{LocalAction}
use Rattle.strand_contract.specs.Alone.{is_some_left}
use Rattle.strand_plans.specs.Ledgers.{Ledger, has}
use Rattle.strand_plans.specs.Moves.{State}
use Rattle.strand_plans.specs.Plans.{state_of}
use Rattle.strand_scripts.specs.declared.program.Op.{Op}
use Rattle.strand_scripts.specs.declared.program.Op.TheVariants as op
use Rattle.strand_scripts.specs.declared.program.Site.{Site}
use Rattle.strand_scripts.specs.declared.strand.ScriptStrand.{ScriptStrand}
use Rattle.strand_scripts.specs.declared.strand.Wait.{Wait}
use Rattle.strand_scripts.specs.declared.strand.Wait.TheVariants.{Asking, Going, Sleeping, Sending}
use Rattle.strand_scripts.specs.Lines as line
use Rattle.strand_scripts.specs.Lines.{left_to_send, next_piece, sent_more, wants_offer, count_taken, put_off, ended, end_acts}
use Rattle.strand_scripts.specs.Programs.{ops_of}
use Rattle.strand_scripts.specs.Scripted.{Script, script_plan, later}

-- of a ledger, of a state of the plan, and after what happened to a strand
abbrev pub line_of : {J : Type 0} → Ledger J → line.Sending
line_of b = record {
  opened = has place.Client b.opened;
  off = b.put_off place.Client;
  over = b.ended;
  sent = b.sent place.Client;
  taken = b.taken place.Client;
}

abbrev pub strand_of : {J : Type 0} → State J Script → ScriptStrand
strand_of st = record { line = line_of st.ledger; wait = st.inner.wait; rest = st.inner.rest }

abbrev pub strand_after : {J : Type 0} → Site → List (LocalAction J) → ScriptStrand
strand_after site es = strand_of (state_of (script_plan site) es)

-- what a turn comes to
pub record Turn (J : Type 0) : Type 0 where
  pub strand : ScriptStrand
  pub acts : List (Act J)

abbrev pub turn : {J : Type 0} → ScriptStrand → List (Act J) → Turn J
turn s acts = record { strand = s; acts = acts }

-- its thread is put into the run queue
abbrev pub readied : {J : Type 0} → ScriptStrand → List (Act J) → Turn J
readied s acts = turn (record s { wait = Going }) (acts ++ act.Ready 0 ∷ [])

-- it ends where the test is true
abbrev pub end_if : {J : Type 0} → Bool → ScriptStrand → List (Act J) → Turn J
end_if ends s acts = if ends then turn (record s { line = ended s.line }) (acts ++ end_acts s.line) else turn s acts

-- the client's first byte names the program; more bytes wake a sleeper
abbrev pub heard_by : {J : Type 0} → List Op → Wait → ScriptStrand → List (Act J) → Turn J
heard_by ops Asking s acts = readied (record s { rest = ops }) acts
heard_by ops Sleeping s acts = readied s (acts ++ act.Cancel 2 ∷ [])
heard_by ops w s acts = turn s acts

abbrev pub heard : {J : Type 0} → Site → List ℕ → ScriptStrand → List (Act J) → Turn J
heard site [] s acts = turn s acts
heard site (x ∷ xs) s acts = heard_by (ops_of x site.programs.items) s.wait s acts

abbrev pub is_done : line.Sending → Bool
is_done h = not (is_some_left (left_to_send h))

abbrev pub offer_acts : {J : Type 0} → Bool → List (Act J)
offer_acts offers = if offers then act.Offer place.Client ∷ [] else []

abbrev pub offered_again : {J : Type 0} → ScriptStrand → List (Act J) → Turn J
offered_again s acts = turn (record s { line = put_off false s.line }) (acts ++ offer_acts (s.line.opened && is_some_left (left_to_send s.line)))

abbrev pub is_sending : Wait → Bool
is_sending Sending = true
is_sending w = false

abbrev pub is_asking : Wait → Bool
is_asking Asking = true
is_asking w = false

-- so many bytes of the piece were taken
abbrev pub took_some : {J : Type 0} → ℕ → ScriptStrand → List (Act J) → Turn J
took_some n s acts = end_if (is_sending s.wait && is_done (count_taken n s.line)) (record s { line = count_taken n s.line }) acts

abbrev pub took : {J : Type 0} → ℕ → ScriptStrand → List (Act J) → Turn J
took count s acts = took_some (length (take count (next_piece s.line))) s acts

abbrev pub lost : {J : Type 0} → ScriptStrand → List (Act J) → Turn J
lost s acts = end_if true (record s { line = put_off false s.line }) acts

-- what an operation does: what the thread waits for then, the line, and the acts
abbrev pub waits_after : Op → Option Wait
waits_after (op.Sleep span) = Some Sleeping
waits_after op.Yield = Some Going
waits_after o = None

abbrev pub line_after : Op → line.Sending → line.Sending
line_after (op.Say text) h = sent_more text h
line_after o h = h

abbrev pub op_acts : {J : Type 0} → ℕ → Op → line.Sending → List (Act J)
op_acts now (op.Sleep span) h = act.Arm 2 (later now span) ∷ []
op_acts now op.Yield h = act.Ready 0 ∷ []
op_acts now (op.Log text) h = act.Log text ∷ []
op_acts now (op.Say text) h = offer_acts (wants_offer text h)
op_acts now op.Recall h = act.Ready 1 ∷ act.Unready 1 ∷ []
op_acts now op.Fail h = []

-- a run, from these operations on, with the acts so far
abbrev pub ran : {J : Type 0} → ℕ → List Op → line.Sending → List (Act J) → Turn J
ran now [] h acts = end_if (is_done h) (record { line = h; wait = Sending; rest = [] }) acts
ran now (op.Sleep span ∷ ops) h acts = turn (record { line = h; wait = Sleeping; rest = ops }) (acts ++ act.Arm 2 (later now span) ∷ [])
ran now (op.Yield ∷ ops) h acts = turn (record { line = h; wait = Going; rest = ops }) (acts ++ act.Ready 0 ∷ [])
ran now (op.Log text ∷ ops) h acts = ran now ops h (acts ++ act.Log text ∷ [])
ran now (op.Say text ∷ ops) h acts = ran now ops (sent_more text h) (acts ++ offer_acts (wants_offer text h))
ran now (op.Recall ∷ ops) h acts = ran now ops h (acts ++ act.Ready 1 ∷ act.Unready 1 ∷ [])
ran now (op.Fail ∷ ops) h acts = ran now ops h acts

-- the turn that begins with what it is shown
abbrev pub shown : {J : Type 0} → Site → ℕ → Seen → ScriptStrand → List (Act J) → Turn J
shown site now (seen.Bytes q bytes) s acts = heard site bytes s acts
shown site now (seen.Ended q) s acts = end_if (is_asking s.wait) s acts
shown site now (seen.Broken q) s acts = end_if true s acts
shown site now (seen.Ready q) s acts = offered_again s acts
shown site now (seen.Took q n) s acts = took n s acts
shown site now (seen.Later q) s acts = turn (record s { line = put_off true s.line }) acts
shown site now (seen.Lost q) s acts = lost s acts
shown site now (seen.Due n) s acts = readied s acts
shown site now (seen.Run k) s acts = ran now s.rest s.line acts
shown site now seen.Stop s acts = end_if true s acts
shown site now seen_ s acts = turn s acts

-- how much is left to be done
abbrev pub weight : Op → ℕ
weight (op.Say text) = 4 + length text
weight o = 4

abbrev pub weights : List Op → ℕ
weights [] = 0
weights (o ∷ ops) = weight o + weights ops

abbrev pub wait_weight : Wait → ℕ
wait_weight Going = 1
wait_weight Sleeping = 3
wait_weight w = 0

abbrev pub left_of : ScriptStrand → ℕ
left_of s =
    if s.line.over then 0
    else weights s.rest + length (left_to_send s.line) + (if s.line.off then 4 else 5) + wait_weight s.wait
