-- Heads, found in what is held: nothing was found, too much came, or a head is cut off.
use Rattle.std.specs.Prelude.{true, Option, Some, None, option_map, nat_lt, if◌then◌else◌}
use Rattle.std.proofs.Common.{◌≡◌, ℕ, ◌+◌, ◌<◌, ◌≤◌, List, [], ◌++◌, length, take, drop, refl, sym, ap, subst, ◌∙◌, arith}
use Rattle.std.proofs.lemmas.Bool.{lt-ltb, le-ltb}
use Rattle.std.proofs.lemmas.List.{take-append-drop, take-append-le, take_all, length-take-le}
use Rattle.http_in.specs.declared.scan.HeadScan.{HeadScan}
use Rattle.uri_args.specs.declared.targets.Target.{Target}
use Rattle.http_bodies.specs.declared.states.BodyState.{BodyState}
use Rattle.http_bodies.specs.Bodies.{begun_state}
use Rattle.http_bodies.specs.Skips.{no_limit}
use Rattle.http_in.specs.declared.heads.Head as heads
use Rattle.http_in.specs.declared.heads.HeadRead.TheVariants as read
use Rattle.http_in.specs.Ends.{head_end}
use Rattle.http_in.specs.Scanning.{after_bytes, scan_of}
use Rattle.http_in.specs.Heads.{ReadsHead}
use Rattle.http_in.proofs.Scans.{after_bytes-append, head_end-bound, head_end-take}
use Rattle.http_in.proofs.Answers.{begins-with}
use Rattle.client_line.specs.declared.requests.LineOut.{LineOut}
use Rattle.client_line.specs.declared.requests.LineOut.TheVariants as out
use Rattle.client_line.specs.Requests.{IsOf}
use Rattle.client_line.specs.Records.{Head, Present, Over}
use Rattle.client_line.specs.Lines.{came_at, after_head, Leads}
use Rattle.client_line.specs.Views.{IsScanned}

-- ---- scanning goes on

-- the bytes that were scanned are the first of all
front-is : (scanned : ℕ) (bytes piece : List ℕ) → scanned ≤ length bytes → take scanned bytes ++ drop scanned (bytes ++ piece) ≡ bytes ++ piece
front-is scanned bytes piece h =
    ap (λ t. t ++ drop scanned (bytes ++ piece)) (sym (take-append-le scanned bytes piece h)) ∙ take-append-drop scanned (bytes ++ piece)

-- where the head ends among all, by where it ends among those that weren't scanned
pub scans-on : (scan : HeadScan) (scanned : ℕ) (bytes piece : List ℕ) (found : Option ℕ) → IsScanned scan scanned bytes
    → ((taken : List ℕ) → scan ≡ scan_of taken → head_end taken ≡ None → head_end (taken ++ drop scanned (bytes ++ piece)) ≡ option_map (λ n. length taken + n) found)
    → head_end (bytes ++ piece) ≡ option_map (λ n. scanned + n) found
scans-on scan scanned bytes piece found s f =
    let long : length (take scanned bytes) ≡ scanned = length-take-le scanned bytes s.within in
    ap head_end (sym (front-is scanned bytes piece s.within)) ∙ f (take scanned bytes) s.state s.unfinished ∙ ap (λ k. option_map (λ n. k + n) found) long

-- all are scanned then
pub scanned-all : (scan next : HeadScan) (scanned : ℕ) (bytes piece : List ℕ) → IsScanned scan scanned bytes → next ≡ after_bytes scan (drop scanned (bytes ++ piece))
    → head_end (bytes ++ piece) ≡ None → IsScanned next (length (bytes ++ piece)) (bytes ++ piece)
scanned-all scan next scanned bytes piece s n none =
    let all : take (length (bytes ++ piece)) (bytes ++ piece) ≡ bytes ++ piece = take_all (length (bytes ++ piece)) (bytes ++ piece) (omega arith) in
    let moved : next ≡ scan_of (bytes ++ piece) =
    n ∙ ap (λ z. after_bytes z (drop scanned (bytes ++ piece))) s.state ∙ sym (after_bytes-append (scan_of []) (take scanned bytes) (drop scanned (bytes ++ piece))) ∙ ap scan_of (front-is scanned bytes piece s.within) in
    record {
      within = omega arith;
      state = moved ∙ ap scan_of (sym all);
      unfinished = ap head_end all ∙ none;
    }

-- ---- what the bytes are answered with

pub waits : (bytes : List ℕ) → head_end bytes ≡ None → length bytes < 16_384 → IsOf bytes out.Waiting
waits bytes none short = (read.More, rw none (ap (λ b. if b then read.More else read.Refused 431) (sym (lt-ltb (length bytes) 16_384 short))), refl)

pub overflows : (bytes : List ℕ) → head_end bytes ≡ None → 16_384 ≤ length bytes → IsOf bytes (out.Refused 431)
overflows bytes none long = (read.Refused 431, rw none (ap (λ b. if b then read.More else read.Refused 431) (sym (le-ltb (length bytes) 16_384 long))), refl)

too-long : (bytes : List ℕ) (n : ℕ) → nat_lt 16_384 n ≡ true → ReadsHead bytes n (read.Refused 431)
too-long bytes n h = rw h refl

pub is-too-long : (bytes : List ℕ) (n : ℕ) → head_end bytes ≡ Some n → 16_384 < n → IsOf bytes (out.Refused 431)
is-too-long bytes n e h = (read.Refused 431, rw e (too-long bytes n (lt-ltb 16_384 n h)), refl)

-- the answer to a head that was cut off is that to all
pub cuts : (bytes : List ℕ) (n : ℕ) (answer : LineOut) → head_end bytes ≡ Some n → IsOf (take n bytes) answer → IsOf bytes answer
cuts bytes n answer e is = (is.0, begins-with bytes n is.0 e is.1, is.2)

-- it is whole
pub is-whole : (bytes : List ℕ) (n : ℕ) → head_end bytes ≡ Some n → head_end (take n bytes) ≡ Some (length (take n bytes))
is-whole bytes n e = head_end-take bytes n e ∙ ap Some (sym (length-take-le n bytes (head_end-bound bytes n e)))

-- ---- what they lead to

pub waiting-leads : (bytes held : List ℕ) → held ≡ bytes → head_end bytes ≡ None → length bytes < 16_384 → Leads (came_at Head bytes) out.Waiting (came_at Head held)
waiting-leads bytes held same none short = (waits bytes none short, ap (came_at Head) same)

pub refused-leads : (bytes : List ℕ) (code : ℕ) → IsOf bytes (out.Refused code) → Leads (came_at Head bytes) (out.Refused code) (came_at (Over code) [])
refused-leads bytes code is = (is, refl)

pub asked-leads : (bytes left : List ℕ) (n : ℕ) (head : heads.Head) (target : Target) → head_end bytes ≡ Some n → IsOf (take n bytes) (out.Request head target)
    → left ≡ drop n bytes → Leads (came_at Head bytes) (out.Request head target) (came_at (Present None head.body (begun_state head.body no_limit)) left)
asked-leads bytes left n head target e is l =
    let rest : left ≡ after_head (head_end bytes) bytes = l ∙ sym (ap (λ o. after_head o bytes) e) in
    (cuts bytes n (out.Request head target) e is, ap (came_at (Present None head.body (begun_state head.body no_limit))) rest)

-- ---- a head that was cut off

-- what is read of a shared copy of it is read of it
pub of-copy : (bytes shared head : List ℕ) (n : ℕ) (answer : LineOut) → shared ≡ head → head ≡ take n bytes → IsOf shared answer → IsOf (take n bytes) answer
of-copy bytes shared head n answer copy cut is = subst (λ (b : List ℕ). IsOf b answer) (copy ∙ cut) is

pub copy-is-whole : (bytes shared head : List ℕ) (n : ℕ) → head_end bytes ≡ Some n → shared ≡ head → head ≡ take n bytes → head_end shared ≡ Some (length shared)
copy-is-whole bytes shared head n e copy cut = subst (λ (b : List ℕ). head_end b ≡ Some (length b)) (sym (copy ∙ cut)) (is-whole bytes n e)

pub asked-so : (bytes left front : List ℕ) (n : ℕ) (head : heads.Head) (target : Target) (far : BodyState) → head_end bytes ≡ Some n
    → IsOf (take n bytes) (out.Request head target) → front ≡ [] → left ≡ drop n bytes → far ≡ begun_state head.body no_limit
    → Leads (came_at Head bytes) (out.Request head target) (came_at (Present None head.body far) (front ++ left))
asked-so bytes left front n head target far e is none l b =
    subst (λ (s : BodyState). Leads (came_at Head bytes) (out.Request head target) (came_at (Present None head.body s) (front ++ left))) (sym b)
    (asked-leads bytes (front ++ left) n head target e is (ap (λ (f : List ℕ). f ++ left) none ∙ l))

pub refused-so : (bytes front rest : List ℕ) (code : ℕ) → IsOf bytes (out.Refused code) → front ≡ [] → rest ≡ []
    → Leads (came_at Head bytes) (out.Refused code) (came_at (Over code) (front ++ rest))
refused-so bytes front rest code is f r = (is, ap (λ (b : List ℕ). came_at (Over code) (b ++ rest)) f ∙ ap (came_at (Over code)) r)

pub none-left : (front rest : List ℕ) → front ≡ [] → rest ≡ [] → front ++ rest ≡ []
none-left front rest f r = ap (λ (b : List ℕ). b ++ rest) f ∙ r

-- ---- a head that was scanned on

pub scan-found : (scan : HeadScan) (scanned : ℕ) (bytes piece rest joined : List ℕ) (found : Option ℕ) → IsScanned scan scanned bytes → joined ≡ bytes ++ piece
    → rest ≡ drop scanned joined
    → ((taken : List ℕ) → scan ≡ scan_of taken → head_end taken ≡ None → head_end (taken ++ rest) ≡ option_map (λ n. length taken + n) found)
    → head_end joined ≡ option_map (λ n. scanned + n) found
scan-found scan scanned bytes piece rest joined found s j r f =
    ap head_end j
    ∙ scans-on scan scanned bytes piece found s
    (λ t e none. subst (λ (b : List ℕ). head_end (t ++ b) ≡ option_map (λ n. length t + n) found) (r ∙ ap (drop scanned) j) (f t e none))

pub waiting-so : (scan next : HeadScan) (scanned total : ℕ) (bytes piece front joined rest : List ℕ) → IsScanned scan scanned bytes → front ≡ [] → joined ≡ bytes ++ piece
    → rest ≡ drop scanned joined → next ≡ after_bytes scan rest → head_end joined ≡ None → total ≡ length joined → total < 16_384
    → Leads (came_at Head (bytes ++ piece)) out.Waiting (came_at Head (front ++ joined)) × IsScanned next total (front ++ joined)
waiting-so scan next scanned total bytes piece front joined rest s f j r n none t short =
    let same : front ++ joined ≡ bytes ++ piece = ap (λ (b : List ℕ). b ++ joined) f ∙ j in
    let unfinished : head_end (bytes ++ piece) ≡ None = ap head_end (sym j) ∙ none in
    let size : total ≡ length (bytes ++ piece) = t ∙ ap length j in
    let all : IsScanned next (length (bytes ++ piece)) (bytes ++ piece) =
    scanned-all scan next scanned bytes piece s (n ∙ ap (after_bytes scan) (r ∙ ap (drop scanned) j)) unfinished in (
      waiting-leads (bytes ++ piece) (front ++ joined) same unfinished (omega (arith, size, short)),
      subst (λ (k : ℕ). IsScanned next k (front ++ joined)) (sym size) (subst (λ (b : List ℕ). IsScanned next (length (bytes ++ piece)) b) (sym same) all),
    )

pub overflow-so : (bytes piece front rest joined : List ℕ) (total : ℕ) → joined ≡ bytes ++ piece → head_end joined ≡ None → total ≡ length joined → 16_384 ≤ total
    → front ≡ [] → rest ≡ [] → Leads (came_at Head (bytes ++ piece)) (out.Refused 431) (came_at (Over 431) (front ++ rest))
overflow-so bytes piece front rest joined total j none t long f r =
    let size : total ≡ length (bytes ++ piece) = t ∙ ap length j in
    refused-so (bytes ++ piece) front rest 431 (overflows (bytes ++ piece) (ap head_end (sym j) ∙ none) (omega (arith, size, long))) f r
