-- What may follow a handler: the handler of a later phase, or another location where fewer than ten redirects were.
use Rattle.std.proofs.Common.{◌≡◌, ℕ, ◌+◌, ◌<◌, ◌≤◌, Bool, true, false, if◌then◌else◌, nat_lt, refl, arith, rules}
use Rattle.std.specs.Prelude.{⊤}
use Rattle.std.proofs.lemmas.Bool.Decides.{nat_tests}
use Rattle.phases.specs.declared.outcomes.Phase.{Phase}
use Rattle.phases.specs.declared.outcomes.Phase.TheVariants.{Rewrite, Access, Content, HeaderFilter, BodyFilter, Log}
use Rattle.phases.specs.declared.outcomes.Sent.{Sent}
use Rattle.phases.specs.declared.outcomes.Sent.TheVariants.{No, Before, Here}
use Rattle.phases.specs.declared.outcomes.Outcome.{Outcome}
use Rattle.phases.specs.declared.outcomes.Outcome.TheVariants.{Ended, ExitOk, Exit, Exec, ExecNamed, Redirect, Failed, Spent}
use Rattle.phases.specs.declared.outcomes.Next.{Next}
use Rattle.phases.specs.declared.outcomes.Next.TheVariants.{Run, Reply, Again, Finish, HangUp}
use Rattle.phases.specs.After.{most_redirects, is_filter, after, after_end, after_exit, after_status, after_redirect, after_failure, after_fault, after_handler, after_log}

-- how many handlers come from a phase on at most, before the request begins anew
abbrev pub left : Phase → ℕ
left Rewrite = 3
left Access = 2
left p = 1

-- one for the first phase
abbrev pub first : Phase → ℕ
first Rewrite = 1
first p = 0

abbrev pub is_log : Phase → Bool
is_log Log = true
is_log p = false

abbrev pub Follows : ℕ → Phase → Next → Type 0
Follows n p (Run q) = (left q + 1 ≤ left p) × (first q ≡ 0) × (is_log q ≡ false)
Follows n p Again = n < 10
Follows n p x = ⊤

if-follows : (n : ℕ) (p : Phase) (b : Bool) (x y : Next) → Follows n p x → Follows n p y → Follows n p (if b then x else y)
if-follows n p true x y f g = f
if-follows n p false x y f g = g

end-follows : (n : ℕ) (p : Phase) (sub : Bool) (sent : Sent) → Follows n p (after_end p sub sent)
end-follows n Rewrite sub Here = tt
end-follows n Rewrite true No = (omega arith, refl, refl)
end-follows n Rewrite true Before = (omega arith, refl, refl)
end-follows n Rewrite false No = (omega arith, refl, refl)
end-follows n Rewrite false Before = (omega arith, refl, refl)
end-follows n Access sub Here = tt
end-follows n Access sub No = (omega arith, refl, refl)
end-follows n Access sub Before = (omega arith, refl, refl)
end-follows n Content sub sent = tt
end-follows n HeaderFilter sub sent = tt
end-follows n BodyFilter sub sent = tt
end-follows n Log sub sent = tt

status-follows : (n : ℕ) (p : Phase) (status : ℕ) (sent : Sent) → Follows n p (after_status status sent)
status-follows n p status No = if-follows n p (nat_lt status 300) Finish (Reply status) tt tt
status-follows n p status Before = tt
status-follows n p status Here = tt

exit-follows : (n : ℕ) (p : Phase) (status : ℕ) (sub : Bool) (sent : Sent) → Follows n p (after_exit status sub sent)
exit-follows n p status sub sent = if-follows n p _ HangUp (after_status status sent) tt (status-follows n p status sent)

fault-follows : (n : ℕ) (p : Phase) (sent : Sent) → Follows n p (after_fault sent)
fault-follows n p No = tt
fault-follows n p Before = tt
fault-follows n p Here = tt

failure-follows : (n : ℕ) (p q : Phase) (sent : Sent) → Follows n p (after_failure q sent)
failure-follows n p q sent = if-follows n p (is_filter q) HangUp (after_fault sent) tt (fault-follows n p sent)

redirect-follows : (n : ℕ) (p : Phase) (sent : Sent) → Follows n p (after_redirect n sent)
redirect-follows n p sent = chosen (nat_lt n most_redirects) refl
  where
    chosen : (b : Bool) → nat_lt n most_redirects ≡ b → Follows n p (if b then Again else after_fault sent)
    chosen true h = search (nat_tests, rules)
    chosen false h = fault-follows n p sent

handler-follows : (n : ℕ) (p : Phase) (sub : Bool) (sent : Sent) (o : Outcome) → Follows n p (after_handler p sub sent n o)
handler-follows n p sub sent Ended = end-follows n p sub sent
handler-follows n p sub sent ExitOk = end-follows n p sub sent
handler-follows n p sub sent (Exit status) = exit-follows n p status sub sent
handler-follows n p sub sent (Exec target) = redirect-follows n p sent
handler-follows n p sub sent (ExecNamed name) = redirect-follows n p sent
handler-follows n p sub sent (Redirect status to) = status-follows n p status sent
handler-follows n p sub sent Failed = failure-follows n p p sent
handler-follows n p sub sent Spent = fault-follows n p sent

log-follows : (n : ℕ) (o : Outcome) → Follows n Log (after_log o)
log-follows n Spent = tt
log-follows n Ended = tt
log-follows n ExitOk = tt
log-follows n (Exit status) = tt
log-follows n (Exec target) = tt
log-follows n (ExecNamed name) = tt
log-follows n (Redirect status to) = tt
log-follows n Failed = tt

pub follows : (n : ℕ) (p : Phase) (sub : Bool) (sent : Sent) (o : Outcome) → Follows n p (after p sub sent n o)
follows n Log sub sent o = log-follows n o
follows n Rewrite sub sent o = handler-follows n Rewrite sub sent o
follows n Access sub sent o = handler-follows n Access sub sent o
follows n Content sub sent o = handler-follows n Content sub sent o
follows n HeaderFilter sub sent o = handler-follows n HeaderFilter sub sent o
follows n BodyFilter sub sent o = handler-follows n BodyFilter sub sent o
