-- The first token of a tree is no `=`.
use Rattle.std.proofs.Common.{◌≡◌, ℕ, List, [], ◌∷◌, refl, subst, ◌∙◌}
use Rattle.lua_lexer.specs.declared.tokens.TokenKind.TheVariants.{Sign as SignKind}
use Rattle.lua_lexer.specs.declared.tokens.Token.{Token}
use Rattle.lua_lexer.specs.declared.signs.Sign.TheVariants.{Assign}
use Rattle.lua_ast.specs.declared.programs.Program.{Program}
use Rattle.lua_grammar.specs.Tree.{PrefixExp, VarList, Arms, Stat, LastStat, Stats, Block}
use Rattle.lua_grammar.specs.Tree as tree
use Rattle.lua_grammar.specs.Printing.{Lexeme, print_prefixexp, print_varlist, print_arms, print_stat, print_laststat, print_stats, print_block}
use Rattle.lua_grammar.specs.Scopes.{Frame, Scope}
use Rattle.lua_grammar.specs.Resolution.{Resolves}
use Rattle.lua_grammar.specs.Grammar.{IsProgramOf, IsChunkOf, ResolvesChunk}
use Rattle.lua_grammar.specs.Laws.{BeginWith, IsEmptyProgram}

abbrev NoAssign : List Lexeme → Type 0
NoAssign [] = ⊥
NoAssign (first ∷ after) = first.kind ≡ SignKind Assign → ⊥

prefix_first : (p : PrefixExp) (after : List Lexeme) → NoAssign (print_prefixexp p after)
unfolding print_prefixexp
prefix_first (tree.variable l n) after = λ e. cc
prefix_first (tree.paren o b c) after = λ e. cc
prefix_first (tree.item p o e c) after = prefix_first p _
prefix_first (tree.member p d l n) after = prefix_first p _
prefix_first (tree.call p a) after = prefix_first p _
prefix_first (tree.method p c l n a) after = prefix_first p _

vars_first : (vs : VarList) (after : List Lexeme) → NoAssign (print_varlist vs after)
unfolding print_varlist
vars_first (tree.one_var p) after = prefix_first p after
vars_first (tree.more_vars vs c p) after = vars_first vs _

arms_first : (list : Arms) (after : List Lexeme) → NoAssign (print_arms list after)
unfolding print_arms
arms_first (tree.if_arm i t h b) after = λ e. cc
arms_first (tree.elseif_arm list i t h b) after = arms_first list _

stat_first : (s : Stat) (after : List Lexeme) → NoAssign (print_stat s after)
unfolding print_stat
stat_first (tree.assign vs q es) after = vars_first vs _
stat_first (tree.call_statement p) after = prefix_first p after
stat_first (tree.do_block d b x) after = λ e. cc
stat_first (tree.while_loop w t d b x) after = λ e. cc
stat_first (tree.repeat_loop r b u t) after = λ e. cc
stat_first (tree.if_then list x) after = arms_first list _
stat_first (tree.if_else list l b x) after = arms_first list _
stat_first (tree.for_range f l n q from c to d b x) after = λ e. cc
stat_first (tree.for_steps f l n q from c to k step d b x) after = λ e. cc
stat_first (tree.for_in f ns i es d b x) after = λ e. cc
stat_first (tree.function_statement f n b) after = λ e. cc
stat_first (tree.method_statement f n c l m b) after = λ e. cc
stat_first (tree.local_function l f m n b) after = λ e. cc
stat_first (tree.local l ns) after = λ e. cc
stat_first (tree.local_values l ns q es) after = λ e. cc

last_first : (s : LastStat) (after : List Lexeme) → NoAssign (print_laststat s after)
unfolding print_laststat
last_first (tree.return_none r) after = λ e. cc
last_first (tree.return_values r es) after = λ e. cc
last_first (tree.break_ b) after = λ e. cc

-- statements before tokens of which the first is no `=`, if there are any
EmptyOr : List Lexeme → Type 0
EmptyOr [] = Unit {0}
EmptyOr (first ∷ after) = first.kind ≡ SignKind Assign → ⊥

weaker : (xs : List Lexeme) → NoAssign xs → EmptyOr xs
unfolding EmptyOr
weaker [] h = absurd h
weaker (x ∷ xs) h = h

stats_first : (ss : Stats) (after : List Lexeme) → EmptyOr after → EmptyOr (print_stats ss after)
unfolding print_stats
stats_first tree.no_stats after h = h
stats_first (tree.more_stats ss s x) after h = stats_first ss _ (weaker _ (stat_first s _))

block_first : (b : Block) → EmptyOr (print_block b [])
unfolding print_block EmptyOr
block_first (tree.statements ss) = stats_first ss [] tt
block_first (tree.with_last ss s x) = stats_first ss _ (weaker _ (last_first s _))

starts : (xs : List Lexeme) (line : ℕ) (after : List Lexeme) → EmptyOr xs → xs ≡ record { kind = SignKind Assign; line = line } ∷ after → ⊥
unfolding EmptyOr
starts [] line after h e = cc
starts (x ∷ xs) line after h e = h (cc)

pub no_assign : (tokens : List Token) (program : Program) → BeginWith Assign tokens → IsProgramOf tokens program → ⊥
no_assign tokens program (line, after, e) (chunk, is) = starts _ line after (block_first chunk) (let p = is.printed in cc)

-- ---- the empty text

IsSome : List Lexeme → Type 0
IsSome [] = ⊥
IsSome (first ∷ after) = Unit {0}

some_of : (xs : List Lexeme) → NoAssign xs → IsSome xs
unfolding IsSome
some_of [] h = h
some_of (x ∷ xs) h = tt

stats_some : (ss : Stats) (after : List Lexeme) → IsSome after → IsSome (print_stats ss after)
unfolding print_stats
stats_some tree.no_stats after h = h
stats_some (tree.more_stats ss s x) after h = stats_some ss _ (some_of _ (stat_first s _))

clash : (xs : List Lexeme) → IsSome xs → [] ≡ xs → ⊥
unfolding IsSome
clash [] h e = h
clash (x ∷ xs) h e = cc

bare_frame : Frame
bare_frame = record { locals = []; captures = []; slots = 0 }

empty_chunk : (program : Program) → ResolvesChunk 1 (tree.statements tree.no_stats) program → IsEmptyProgram program
unfolding Resolves bare_frame
empty_chunk program (kept, out, m, t, (no_out, same), (f, frame, enclosing, top, is, ended), functions, files) =
    let tops : Scope → Type 0 = λ x. x.enclosing ≡ frame ∷ enclosing in
    let e : bare_frame ∷ [] ≡ frame ∷ enclosing = subst tops same top in
    let bare : frame ≡ bare_frame = cc in
    let listed : t.functions ≡ f ∷ [] = rw (ended, same) refl in
    let slots = rw bare at is.slots in
    let captures = rw bare at is.captures in
    record {
      chunk = f;
      files = files;
      functions = functions ∙ listed;
      file = is.file;
      params = is.params;
      vararg = is.vararg;
      slots = slots;
      captures = captures;
      body = is.body ∙ no_out;
      begins = is.begins;
    }

chunk_of_none : (program : Program) (b : Block) → IsChunkOf [] program b → IsEmptyProgram program
unfolding print_block
chunk_of_none program (tree.statements tree.no_stats) is = empty_chunk program is.resolved
chunk_of_none program (tree.statements (tree.more_stats ss s x)) is =
    absurd (clash _ (stats_some ss _ (some_of _ (stat_first s _))) is.printed)
chunk_of_none program (tree.with_last ss s x) is = absurd (clash _ (stats_some ss _ (some_of _ (last_first s _))) is.printed)

pub empty_text : (program : Program) → IsProgramOf [] program → IsEmptyProgram program
empty_text program (b, is) = chunk_of_none program b is
