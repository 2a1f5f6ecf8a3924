use Rattle.std.proofs.Common.{◌≡◌, ◌≤◌, ◌<◌, to_z, of_z, w64, None, ap, ◌∙◌, sym, arith}
use Rattle.std.specs.Prelude.{nat_abs}
use Rattle.std.specs.Str.Parse.{digits_value}
use Rattle.std.specs.ControlFlow.{continue_value}
use Rattle.std.proofs.lemmas.Int.{ints}
use Rattle.lua_lexer.proofs.Numbers.{front, escape_number, sized_so, same_number, byte_read, no_byte}
use Rattle.lua_lexer.proofs.strings.digits_escape.Goals as goal

pub returns-in_err-number_of-clause-value : goal.returns-in_err-number_of-clause-value
returns-in_err-number_of-clause-value c =
    let worth = escape_number _ _ _ _ _ _ c.min.ensures c.first_bytes.ensures c.digits-size.ensures.value c.first_bytes-2.ensures c.requires c.number_of.ensures in
    let none : c.number_of.result ≡ None = c.branch-number_of.ensures ∙ ap continue_value c.in_err-number_of.is in
    absurd (cc (none, worth))

pub overflow_cast-result : goal.overflow_cast-result
overflow_cast-result c =
    let worth = escape_number _ _ _ _ _ _ c.min.ensures c.first_bytes.ensures c.digits-size.ensures.value c.first_bytes-2.ensures c.requires c.number_of.ensures in
    let number = same_number _ _ _ _ c.in_ok-number_of.was worth c.get-number.ensures.value in
    rw number (omega (arith, ints))

pub returns-then-number-le255-clause-value : goal.returns-then-number-le255-clause-value
returns-then-number-le255-clause-value c =
    let worth = escape_number _ _ _ _ _ _ c.min.ensures c.first_bytes.ensures c.digits-size.ensures.value c.first_bytes-2.ensures c.requires c.number_of.ensures in
    let number = same_number _ _ _ _ c.in_ok-number_of.was worth c.get-number.ensures.value in
    let small : digits_value 10 (front 3 c.args.text.now) ≤ 255 = omega (arith, ints) in
    let byte : nat_abs (to_z w64 (of_z w64 c.get-number.result)) ≡ digits_value 10 (front 3 c.args.text.now) = rw number (omega (arith, ints)) in
    let sized = sized_so _ _ _ _ c.min.ensures c.first_bytes.ensures c.digits-size.ensures.value in
    rw (byte, sized) (sym (byte_read c.args.text.now small))

pub returns-else-number-le255-clause-value : goal.returns-else-number-le255-clause-value
returns-else-number-le255-clause-value c =
    let worth = escape_number _ _ _ _ _ _ c.min.ensures c.first_bytes.ensures c.digits-size.ensures.value c.first_bytes-2.ensures c.requires c.number_of.ensures in
    let number = same_number _ _ _ _ c.in_ok-number_of.was worth c.get-number.ensures.value in
    let wide : 255 < digits_value 10 (front 3 c.args.text.now) = omega (arith, ints) in
    sym (no_byte c.args.text.now wide)
