-- What a text that a file holds makes of the file as a schedule.
use Rattle.std.proofs.Common.{◌≡◌, ℕ, List, Option, IfSome, subst}
use Rattle.resty_base.specs.FileMap.{FileMap}
use Rattle.resty_world.specs.declared.schedule_line.SchedLine.{SchedLine}
use Rattle.schedule_text.specs.Accepted.{IsRead, IsRefusedAt}
use Rattle.lua_modules.specs.TextsOfFiles.{Holds}
use Rattle.commands.specs.Verdict.{HasSchedule, IsBadAt, most_bytes}
use Rattle.commands.proofs.Names.{weaker_some}

pub has_schedule : (told : Option FileMap) (name text seen : List ℕ) (lines : List SchedLine) → IfSome told (λ held. Holds held name most_bytes text) → seen ≡ text
    → IsRead seen lines → IfSome told (λ held. HasSchedule held name lines)
has_schedule told name text seen lines holds same read =
    weaker_some told _ _ (λ held h. record { text = text; holds = h; accepted = subst (λ t. IsRead t lines) same read }) holds

pub has_bad_line : (told : Option FileMap) (name text seen : List ℕ) (n : ℕ) → IfSome told (λ held. Holds held name most_bytes text) → seen ≡ text
    → IsRefusedAt seen n → IfSome told (λ held. IsBadAt held name n)
has_bad_line told name text seen n holds same wrong =
    weaker_some told _ _ (λ held h. record { text = text; holds = h; refused = subst (λ t. IsRefusedAt t n) same wrong }) holds
