-- A strand that goes by a program of a few calls, for trying the definitions.
use Rattle.std.specs.Prelude.{ℕ, ◌+◌, ◌==◌, ◌&&◌, not, Bool, true, false, ℤ, pos, negsuc, List, [], ◌∷◌, ◌++◌, length, Option, Some, None, if◌then◌else◌}
use Rattle.std.specs.Prelude.{codes}
use Rattle.resty_base.specs.declared.dictionary.DictCall.{DictCall}
use Rattle.resty_base.specs.declared.dictionary.DictAnswer.{DictAnswer}
use Rattle.resty_base.specs.declared.dictionary.DictAnswer.TheVariants as answer
use Rattle.strand_contract.specs.declared.turns.Place.{Place}
use Rattle.strand_contract.specs.declared.turns.Place.TheVariants as place
use Rattle.strand_contract.specs.declared.turns.Act.{Act}
use Rattle.strand_contract.specs.declared.turns.Act.TheVariants as act
use Rattle.strand_contract.specs.declared.turns.Start.{Start}
use Rattle.strand_contract.specs.declared.turns.Start.TheVariants as start
use Rattle.strand_contract.specs.Actions.{Moment, Began, Bytes, Ready, Dialled, Put, Dict, Take, Dial, Keep, Timer, Run, Due, Halted, LocalAction, Told, Did}
use Rattle.strand_contract.specs.Behaviors.{Behavior}

pub data Op : Type 0 where
  Sleep : (span : ℕ) → Op
  Say : (text : List ℕ) → Op
  Write : (line : List ℕ) → Op
  Call : (zone : ℕ) (call : DictCall) → Op
  Connect : (key : List ℕ) → Op
  Receive : Op
  GiveBack : (key : List ℕ) (idle size : ℕ) → Op
  At : (span job : ℕ) → Op

-- what the strand waits for
pub data Wait : Type 0 where
  Asking : Wait
  Going : Wait
  Sleeping : Wait
  Connecting : Wait
  Receiving : Wait
  Sending : Wait
  Over : Wait

pub record State : Type 0 where
  pub ops : List Op
  pub now : ℕ
  pub wait : Wait
  pub client : Bool
  pub out : List ℕ
  pub taken : ℕ
  pub grown : Bool
  pub sock : Option ℕ
  pub count : ℕ
  pub got : Bool

abbrev pub unborn : State
unborn = record { ops = []; now = 0; wait = Over; client = false; out = []; taken = 0; grown = false; sock = None; count = 0; got = false }

abbrev pub hang_sock : Option ℕ → List (Act ℕ)
hang_sock None = []
hang_sock (Some k) = act.HangUp (place.Sock k) ∷ []

abbrev pub hang_client : Bool → List (Act ℕ)
hang_client true = act.HangUp place.Client ∷ []
hang_client false = []

-- the places that are put in line at the end of a turn
abbrev pub flush : State → List (Act ℕ) → State × List (Act ℕ)
flush st acts = if st.grown then (record st { grown = false }, act.Offer place.Client ∷ acts) else (st, acts)

abbrev pub leave : State → List (Act ℕ) → State × List (Act ℕ)
leave st acts = (record st { wait = Over; sock = None; client = false; grown = false }, acts ++ hang_client st.client ++ hang_sock st.sock ++ act.Gone ∷ [])

-- the sockets are hung up at the end, the client's line once all was taken
abbrev pub end_with : Bool → State → State × List (Act ℕ)
end_with true st = flush (record st { wait = Sending; sock = None }) (hang_sock st.sock)
end_with false st = leave st []

abbrev pub finish : State → State × List (Act ℕ)
finish st = end_with (st.client && not (st.taken == length st.out)) st

abbrev pub socket_of : Option ℕ → ℕ
socket_of None = 99
socket_of (Some k) = k

abbrev pub received : Bool → State → State × List (Act ℕ) → State × List (Act ℕ)
received true st on = on
received false st on = flush (record st { wait = Receiving }) []

abbrev pub logged : List ℕ → State × List (Act ℕ) → State × List (Act ℕ)
logged line r = (r.0, act.Log line ∷ r.1)

abbrev pub exec : List Op → State → State × List (Act ℕ)
exec [] st = finish st
exec (Sleep span ∷ ops) st = flush (record st { ops = ops; wait = Sleeping }) (act.Arm 2 (record { 0 = st.now + span }) ∷ [])
exec (Say text ∷ ops) st = exec ops (record st { out = st.out ++ text; grown = true })
exec (Write line ∷ ops) st = logged line (exec ops st)
exec (Call z call ∷ ops) st = flush (record st { ops = ops }) (act.Dict z call ∷ [])
exec (Connect key ∷ ops) st = flush (record st { ops = ops }) (act.Take key ∷ [])
exec (Receive ∷ ops) st = received st.got (record st { ops = ops }) (exec ops (record st { got = false }))
exec (GiveBack key idle size ∷ ops) st = flush (record st { ops = ops }) (act.Keep (socket_of st.sock) key (record { 0 = idle }) size ∷ [])
exec (At span job ∷ ops) st = flush (record st { ops = ops }) (act.Timer (record { 0 = st.now + span }) job ∷ [])

abbrev pub goes_on : State → State × List (Act ℕ)
goes_on st = exec st.ops st

-- a number of one digit, and a line end
abbrev pub digit : ℤ → List ℕ
digit (pos n) = (48 + n) ∷ 10 ∷ []
digit (negsuc n) = 45 ∷ []

abbrev pub said : DictAnswer → List ℕ
said (answer.Number n evicted) = digit n
said other = codes "nil\n"

abbrev pub says : List ℕ → State → State
says text st = record st { out = st.out ++ text; grown = true }

abbrev pub ready : State → State × List (Act ℕ)
ready st = (record st { wait = Going }, act.Ready 0 ∷ [])

-- bytes of the client are its program's name, bytes of a socket what it receives
abbrev pub told_bytes : (ℕ → List Op) → Place → List ℕ → Wait → State → State × List (Act ℕ)
told_bytes programs place.Client (x ∷ xs) Asking st = ready (record st { ops = programs x })
told_bytes programs (place.Sock k) bytes Receiving st = ready (record st { got = true; ops = Receive ∷ st.ops })
told_bytes programs (place.Sock k) bytes wait st = (record st { got = true }, [])
told_bytes programs q bytes wait st = (st, [])

abbrev pub told_dialled : Wait → State → State × List (Act ℕ)
told_dialled Connecting st = ready (says (codes "1 0\n") st)
told_dialled wait st = (st, [])

abbrev pub told_put : Wait → State → State × List (Act ℕ)
told_put Sending st = if st.taken == length st.out then leave st [] else (st, [])
told_put wait st = (st, [])

abbrev pub unarmed : Wait → List (Act ℕ)
unarmed Sleeping = act.Cancel 2 ∷ []
unarmed wait = []

abbrev pub begins : (ℕ → List Op) → Start ℕ → ℕ → State × List (Act ℕ)
begins jobs (start.Client c) now = (record unborn { now = now; wait = Asking; client = true }, [])
begins jobs (start.Job j premature job) now =
    (record unborn { now = now; wait = Going; ops = (if premature then Write (codes "premature") ∷ jobs job else jobs job) }, act.Ready 0 ∷ [])

abbrev pub step : (ℕ → List Op) → (ℕ → List Op) → LocalAction ℕ → State → State × List (Act ℕ)
step programs jobs (Told (Moment t)) st = (record st { now = t }, [])
step programs jobs (Did (Began now how)) st = begins jobs how now
step programs jobs (Did (Bytes q bytes)) st = told_bytes programs q bytes st.wait st
step programs jobs (Did (Dialled k)) st = told_dialled st.wait st
step programs jobs (Did (Ready place.Client)) st = (st, act.Offer place.Client ∷ [])
step programs jobs (Did (Run k)) st = goes_on st
step programs jobs (Did (Due k)) st = ready st
step programs jobs (Did (Put q bytes)) st = told_put st.wait (record st { taken = st.taken + length bytes })
step programs jobs (Did (Dict z call given)) st = goes_on (says (said given) st)
step programs jobs (Did (Take key None)) st = (st, act.Dial (127 ∷ 0 ∷ 0 ∷ 1 ∷ []) 9_000 ∷ [])
step programs jobs (Did (Take key (Some uses))) st = goes_on (says (codes "1 " ++ digit (pos uses)) (record st { sock = Some st.count; count = st.count + 1 }))
step programs jobs (Did (Dial host port true)) st = flush (record st { sock = Some st.count; count = st.count + 1; wait = Connecting }) []
step programs jobs (Did (Dial host port false)) st = goes_on st
step programs jobs (Did (Keep k key idle size)) st = goes_on (record st { sock = None })
step programs jobs (Did (Timer at given)) st = goes_on st
step programs jobs (Did Halted) st = leave st (unarmed st.wait)
step programs jobs a st = (st, [])

abbrev pub state : (ℕ → List Op) → (ℕ → List Op) → List (LocalAction ℕ) → State
state programs jobs [] = unborn
state programs jobs (a ∷ es) = (step programs jobs a (state programs jobs es)).0

abbrev pub script_acts : (ℕ → List Op) → (ℕ → List Op) → List (LocalAction ℕ) → List (Act ℕ)
script_acts programs jobs [] = []
script_acts programs jobs (a ∷ es) = (step programs jobs a (state programs jobs es)).1

abbrev pub script_sent : (ℕ → List Op) → (ℕ → List Op) → Place → List (LocalAction ℕ) → List ℕ
script_sent programs jobs place.Client es = (state programs jobs es).out
script_sent programs jobs (place.Sock k) es = []

-- clients go by the first byte that they send, jobs by what they start with
abbrev pub script_behavior : (ℕ → List Op) → (ℕ → List Op) → ℕ → Behavior ℕ
script_behavior programs jobs connections = record {
  acts = script_acts programs jobs;
  sent = script_sent programs jobs;
  zones = 1;
  zone_name = λ z. codes "d";
  zone_size = λ z. 1_048_576;
  connections = connections;
}
