-- Tokens have at most one tree.
use Rattle.std.proofs.Common.{◌≡◌, true, false, List, [], ◌∷◌, refl, ap, sym, subst, ◌∙◌, arith, lit≤}
use Rattle.lua_lexer.specs.declared.words.Word.TheVariants.{End as EndWord}
use Rattle.lua_grammar.specs.Tree.{Block}
use Rattle.lua_grammar.specs.Tree as tree
use Rattle.lua_grammar.specs.Printing.{Lexeme, a_word, print_block}
use Rattle.lua_grammar.specs.Levels.{height}
use Rattle.lua_grammar.specs.Validity.{IsValid, IsValidBlock}
use Rattle.lua_grammar.specs.Laws.{one_call, two_statements}
use Rattle.lua_grammar.proofs.Before.{block_before}
use Rattle.lua_grammar.specs.Waiting.{failed, chunk}
use Rattle.lua_grammar.specs.Reading.{run, read, read_chunk}
use Rattle.lua_grammar.proofs.ReadingTrees.{block_read}
use Rattle.lua_grammar.proofs.Starts.{block_stops}

pub is_read : (b : Block) → IsValidBlock true false b → read (print_block b []) ≡ chunk b
is_read b v = let e = (block_before b).splits [] (a_word EndWord 1 []) in
    ap (run read_chunk) (sym e) ∙ block_read b true false _ (a_word EndWord 1 []) v (block_stops b _ tt)

pub stays_failed : (xs : List Lexeme) → run failed xs ≡ failed
stays_failed [] = refl
stays_failed (first ∷ after) = stays_failed after

pub one_tree : (b other : Block) → IsValidBlock true false b → IsValidBlock true false other → print_block b [] ≡ print_block other [] → b ≡ other
one_tree b other v w e =
    let p : chunk b ≡ chunk other = sym (is_read b v) ∙ ap read e ∙ is_read other w in cc

-- ---- a `(` after a prefix

pub reads_call : (b : Block) (line : tree.Line) → IsValidBlock true false b → print_block b [] ≡ print_block (two_statements line tree.bare) [] → b ≡ one_call line
unfolding print_block
reads_call b line v e =
    let p : chunk b ≡ chunk (one_call line) = sym (is_read b v) ∙ ap read e ∙ refl in cc

pub call_is_valid : IsValidBlock true false (one_call 1)
unfolding IsValid height
call_is_valid = (tt, ((tt, tt), ((tt, tt, refl, lit≤ tt), tt, refl, lit≤ tt)), tt)

pub not_on_two_lines : (b : Block) → IsValidBlock true false b → print_block b [] ≡ print_block (two_statements 2 tree.bare) [] → ⊥
unfolding IsValid
not_on_two_lines b v e =
    let valid : IsValidBlock true false (one_call 2) = subst (IsValidBlock true false) (reads_call b 2 v e) v in
    let line : 2 ≡ 1 = valid.1.1.0.2 in omega (arith, line)

pub are_valid : IsValidBlock true false (two_statements 2 (tree.closed 1))
unfolding IsValid height
are_valid = ((tt, ((tt, tt), tt), tt), (((tt, lit≤ tt), tt, refl, lit≤ tt), tt), tt)
