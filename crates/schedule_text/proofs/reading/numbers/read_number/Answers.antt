use Rattle.std.proofs.Common.{◌≡◌, true, sym, ◌∙◌, ap}
use Rattle.std.proofs.lemmas.Fmt.{IsAscii-decimal, parse-decimal}
use Rattle.std.proofs.lemmas.Str.{IsUtf8-from_ascii}
use Rattle.std.specs.Prelude.{decimal}
use Rattle.schedule_text.proofs.reading.numbers.read_number.Goals as goal

pub returns-in_default : goal.returns-in_default
returns-in_default c = λ number within is. c.in_default.ensures.cases.0 (rw is (IsUtf8-from_ascii (decimal number) (IsAscii-decimal number within)))

pub returns-in_default-parse : goal.returns-in_default-parse
returns-in_default-parse c = λ number within is.
    let whole = c.in-Ok.ensures.cases.0 in
    let parsed = parse-decimal 64 number c.in-Ok.digits.now c.parse.result within within (whole ∙ is) c.parse.ensures.value.0 in
    c.in_default-parse.not-Ok number parsed

pub returns-else-is_number : goal.returns-else-is_number
returns-else-is_number c = λ number within is.
    let whole = c.in-Ok.ensures.cases.0 in
    let parsed = parse-decimal 64 number c.in-Ok.digits.now c.parse.result within within (whole ∙ is) c.parse.ensures.value.0 in
    let same : c.in-Ok-parse.number ≡ number = cc in
    let yes : c.is_number.result ≡ true = c.is_number.ensures.1 (ap decimal same ∙ sym is) in
    let no = c.if-is_number.false in
    absurd cc
