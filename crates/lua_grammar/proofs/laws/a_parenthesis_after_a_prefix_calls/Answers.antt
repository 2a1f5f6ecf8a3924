use Rattle.std.proofs.Common.{refl}
use Rattle.lua_grammar.specs.Printing.{print_block}
use Rattle.lua_grammar.proofs.Uniqueness.{reads_call, call_is_valid, not_on_two_lines, are_valid}
use Rattle.lua_grammar.proofs.laws.a_parenthesis_after_a_prefix_calls.Goals as goal

pub returns : goal.returns
unfolding print_block
returns c = record {
  same = refl;
  valid = call_is_valid;
  only = λ chunk is. reads_call chunk 1 is.0 is.1;
  lines = λ chunk is. not_on_two_lines chunk is.0 is.1;
  apart = are_valid;
}
