use Rattle.std.proofs.Common.{◌≡◌, ◌<◌, ◌^◌, true, sym, ap, ◌∙◌, arith}
use Rattle.std.proofs.lemmas.Fmt.{parse-decimal}
use Rattle.std.specs.Prelude.{decimal}
use Rattle.commands.proofs.command_line.count_in.Goals as goal
use Rattle.commands.proofs.command_line.count_in.Goals.{else-is_number-via-then-is_number+then-count-gt0+else-count-lt1000000000000000000, else-is_number-via-then-is_number+else-count-gt0, else-is_number-via-else-is_number}

pub returns-in_default : goal.returns-in_default
returns-in_default c = λ count is.
    let fits : count < 2 ^ 64 = let short = is.short in omega arith in
    c.in_default.not-Ok count (parse-decimal 64 count c.args.word.now c.parse.result fits fits is.digits c.parse.ensures.value.0)

pub returns-else-is_number : goal.returns-else-is_number
returns-else-is_number c = λ count is.
    let short : count < 10 ^ 18 = is.short in
    let some : 0 < count = is.some in
    let fits : count < 2 ^ 64 = omega arith in
    let parsed = parse-decimal 64 count c.args.word.now c.parse.result fits fits is.digits c.parse.ensures.value.0 in
    let same : c.in-Ok.count ≡ count = cc in
    elim c.else-is_number.branch [
      | else-is_number-via-then-is_number+then-count-gt0+else-count-lt1000000000000000000 w ↦ absurd (omega (arith, w.if-count-lt1000000000000000000.false, same))
      | else-is_number-via-then-is_number+else-count-gt0 w ↦ absurd (omega (arith, w.if-count-gt0.false, same))
      | else-is_number-via-else-is_number w ↦
          let yes : c.is_number.result ≡ true = c.is_number.ensures.1 (is.digits ∙ ap decimal (sym same)) in
          let no = w.if-is_number.false in
          absurd cc
    ]
