-- The classes of bytes don't overlap.
use Rattle.std.proofs.Common.{◌≡◌, ℕ, true, false, arith}
use Rattle.std.proofs.lemmas.Bool.Decides.{nat_tests}
use Rattle.std.specs.Char.{is_ascii_digit}
use Rattle.lua_numbers.specs.NumberText.{is_blank}
use Rattle.lua_lexer.specs.Characters.{is_word_start}

pub word_start_not_blank : (c : ℕ) → is_word_start c ≡ true → is_blank c ≡ false
word_start_not_blank c starts = grind (arith, nat_tests)

pub digit_not_blank : (c : ℕ) → is_ascii_digit c ≡ true → is_blank c ≡ false
digit_not_blank c digit = grind (arith, nat_tests)

pub digit_not_word_start : (c : ℕ) → is_ascii_digit c ≡ true → is_word_start c ≡ false
digit_not_word_start c digit = grind (arith, nat_tests)
