use Rattle.std.proofs.Common.{◌≡◌, ◌/◌, ◌<◌, min, ◌∙◌, ap, arith}
use Rattle.httpdate.specs.Date.{unix_secs}
use Rattle.httpdate.specs.Text.{imf_fixdate}
use Rattle.http_reply.proofs.Calendar.{date-unique}
use Rattle.http_reply.proofs.dates.date_text.Goals as goal

pub returns : goal.returns
returns c =
    let secs : unix_secs c.in-Ok.date ≡ min (c.args.now.0 / 1_000) 253_402_300_799 = c.in-Ok.ensures.value ∙ c.min.ensures in
    let below : min (c.args.now.0 / 1_000) 253_402_300_799 < 253_402_300_800 = omega arith in
    c.to_bytes.ensures ∙ ap imf_fixdate (date-unique c.in-Ok.date _ secs below)
