-- Where a fault other than out of memory was found, the tokens are no program.
use Rattle.std.proofs.Common.{◌≡◌, ◌<◌, ℕ, true, false, List, [], ◌∷◌, ◌++◌, drop, length, refl, sym, ap, subst, arith, ◌∙◌, append_assoc, zero, suc}
use Rattle.std.specs.List.{AllZip}
use Rattle.lua_ast.specs.declared.programs.Function.{Function}
use Rattle.lua_ast.specs.declared.programs.Program.{Program}
use Rattle.lua_ast.specs.declared.statements.Stmt.{Stmt}
use Rattle.lua_lexer.specs.declared.tokens.Token.{Token}
use Rattle.lua_lexer.specs.declared.tokens.TokenKind.{TokenKind}
use Rattle.lua_lexer.specs.declared.tokens.TokenKind.TheVariants.{Word}
use Rattle.lua_lexer.specs.declared.words.Word.TheVariants.{End}
use Rattle.lua_grammar.specs.Tree.{Line, Block}
use Rattle.lua_grammar.specs.Grammar.{IsChunk, IsProgramOf, first_line, outside}
use Rattle.lua_grammar.specs.Limits.{Few}
use Rattle.lua_grammar.specs.Printing.{Lexeme, a_word, lexemes}
use Rattle.lua_grammar.specs.Scopes.{Frame, enter}
use Rattle.lua_grammar.specs.Validity.{IsValidBlock}
use Rattle.lua_grammar.specs.Waiting.{failed, chunk, token, end_}
use Rattle.lua_grammar.specs.Reading.{read, read_chunk, run}
use Rattle.lua_grammar.proofs.Beginnings.{begins_a_chunk}
use Rattle.lua_grammar.proofs.DeadParts.{dead_end}
use Rattle.lua_grammar.proofs.Few.{few_inside}
use Rattle.lua_grammar.proofs.Frames.{Steady, ended_keeps}
use Rattle.lua_grammar.proofs.Growing.{block_goes}
use Rattle.lua_grammar.proofs.Uniqueness.{is_read, stays_failed}
use Rattle.lua_parser_base.specs.declared.cursor.Parser.{Parser}
use Rattle.lua_parser_base.specs.declared.faults.ParseFault.{ParseFault}
use Rattle.lua_parser_base.specs.declared.faults.ParseFault.TheVariants.{At, Memory}
use Rattle.lua_parser_base.specs.declared.nesting.Nesting.{Nesting}
use Rattle.lua_parser_base.specs.Fits.{FitsBlock}
use Rattle.lua_parser_base.specs.Next.{line_or}
use Rattle.lua_parser_base.specs.Readers.{Counts, GoOn, GoOnWith, Supposes}
use Rattle.lua_parser.specs.Unfit.{BeginAs, IsUnfit, OfAt}
use Rattle.lua_parser_base.specs.ReadsStatements.{ReadsBlock}
use Rattle.lua_parser_base.specs.States.{State, last_line, scope_of, state}
use Rattle.lua_parser_base.specs.StatementRefusals.{RefusesBlock}
use Rattle.lua_parser_base.specs.Standing.{FirstFault, IsBeginning, IsBroken, IsFirst, OnLimit}
use Rattle.lua_parser_base.specs.Nesting.{IsOutermost}
use Rattle.lua_parser_base.specs.Standing as standing
use Rattle.lua_parser_base.proofs.Next.{final_of}
use Rattle.lua_parser_base.proofs.OpenFunctions.{few_there}
use Rattle.lua_parser.proofs.PrintedStatements.{block_ended}

-- the tokens and the `end` that is put after them
go_on_to_end : (left : List Lexeme) → GoOn left (left ++ a_word End 1 [])
go_on_to_end [] = refl
go_on_to_end (first ∷ after) = (after ++ a_word End 1 [], refl)

none_around : (fs : List Frame) → AllZip Steady [] fs → Few fs
unfolding Few
none_around [] kept = tt
none_around (f ∷ fs) kept = absurd kept

go_on_all : (fault : ParseFault) (left : List Lexeme) → GoOnWith fault left (left ++ a_word End 1 [])
go_on_all (At line) left = go_on_to_end left
go_on_all other left = refl

-- tokens that begin as those that are left, with the `end` after them
begin_on : (left xs : List Lexeme) → BeginAs left xs → GoOn left (xs ++ a_word End 1 [])
begin_on [] xs h = rw h refl
begin_on (first ∷ after) xs h = (h.0 ++ a_word End 1 [], ap (λ ys. ys ++ a_word End 1 []) h.1)

-- a chunk fits
chunk_fits : (at : Nesting) (kept : Function) (s : State) (b : Block) → IsOutermost at → s.scope ≡ enter [] kept outside → IsChunk b → FitsBlock at s.scope.enclosing b
chunk_fits at kept s b outer begun is =
    let (first, out, m, t, opens, ends, functions, files) = is.resolved in
    let few = none_around t.enclosing (ended_keeps is.line [] true first out outside m t (block_goes b (enter [] first outside) out m opens) ends).frames in
    record {
      valid = subst (λ l. IsValidBlock at.vararg l b) (sym outer.in_loop) (subst (λ vararg. IsValidBlock vararg false b) (sym outer.vararg) is.valid);
      deep = let d = is.shallow in let n = outer.depth in omega (arith, d, n);
      resolvable = record {
        before = enter [] first outside;
        out = out;
        after = m;
        same = ap (λ z. z.enclosing) (sym begun);
        resolved = opens;
        few = few_inside is.line [] true out outside m t ends few;
      };
    }

supposed : (fault : ParseFault) (P : Type 0) → (fault ≡ Memory → ⊥) → P → Supposes fault P
supposed (At line) P other h = tt
supposed Memory P other h = other refl
supposed fault P other h = h

counted : (fault : ParseFault) (b : Block) → IsChunk b → Counts fault b
counted (At line) b is = tt
counted fault b is = is

-- a program's tokens are read to its chunk
program_read : (tokens : List Token) (program : Program) → IsProgramOf tokens program → (b : Block) × (run read_chunk (lexemes tokens ++ a_word End 1 []) ≡ chunk b) × IsChunk b
program_read tokens program (b, is) = (
  b,
  ap read is.printed ∙ is_read b is.valid,
  record { valid = is.valid; shallow = is.shallow; line = first_line (lexemes tokens); program = program; resolved = is.resolved },
)

whole_left : (tokens : List Token) (p : Parser) → p.index ≡ 0 → (state tokens p).left ≡ lexemes tokens
unfolding state
whole_left tokens p start = ap (λ n. lexemes (drop n tokens)) start

scope_there : (tokens : List Token) (p : Parser) (kept : Function) → scope_of p ≡ enter [] kept outside → (state tokens p).scope ≡ enter [] kept outside
unfolding state
scope_there tokens p kept begun = begun

-- where the block of the chunk is refused
pub block_refused : (at : Nesting) (tokens : List Token) (p : Parser) (t : State) (kept : Function) (fault : ParseFault) → IsOutermost at → p.index ≡ 0 → scope_of p ≡ enter [] kept outside →
    RefusesBlock at (state tokens p) t fault → (fault ≡ Memory → ⊥) → (program : Program) → IsProgramOf tokens program → ⊥
block_refused at tokens p t kept fault outer start begun refuses other program is =
    let sticks = (refuses (λ b. token (end_ (λ l. chunk b))) (supposed fault _ other (λ x not.
    dead_end (λ l. chunk x) (λ l h. not (chunk_fits at kept (state tokens p) x outer (scope_there tokens p kept begun) h))))).sticks in
    let (b, reads, stands) = program_read tokens program is in
    let all : sticks.read ++ (t.left ++ a_word End 1 []) ≡ lexemes tokens ++ a_word End 1 [] =
    sym (append_assoc sticks.read t.left (a_word End 1 [])) ∙ ap (λ xs. xs ++ a_word End 1 []) (sym sticks.printed ∙ whole_left tokens p start) in
    sticks.stuck (t.left ++ a_word End 1 []) (go_on_all fault t.left) b (ap (run read_chunk) all ∙ reads) (counted fault b stands)

beginning : (tokens : List Token) (p : Parser) (kept : Function) → p.index ≡ 0 → scope_of p ≡ enter [] kept outside → IsBeginning tokens (state tokens p)
beginning tokens p kept start begun = record { kept = kept; all = whole_left tokens p start; known = scope_there tokens p kept begun }

-- where nothing fits, no chunk goes on, and one does so before
pub block_unfit : (at : Nesting) (tokens : List Token) (p q : Parser) (kept : Function) (fault : ParseFault) → IsOutermost at → p.index ≡ 0 → scope_of p ≡ enter [] kept outside → RefusesBlock at (state tokens p) (state tokens q) fault →
    FirstFault (standing.here standing.block at) (state tokens p) (state tokens q) fault → OfAt (IsUnfit tokens) fault
block_unfit at tokens p q kept (At line) outer start begun refuses first =
    let t = state tokens q in
    let r = refuses (λ b. token (end_ (λ l. chunk b))) tt in
    record {
      before = r.sticks.read;
      left = t.left;
      all = sym (whole_left tokens p start) ∙ r.sticks.printed;
      reported = r.reports ∙ ap (λ final. line_or final t.left) (final_of tokens q);
      stuck = λ xs h b is.
          r.sticks.stuck (xs ++ a_word End 1 []) (begin_on t.left xs h) b
          (ap (run read_chunk) (sym (append_assoc r.sticks.read xs (a_word End 1 []))) ∙ is)
          tt;
      goes_on = begins_a_chunk r.sticks.read r.sticks.waits;
      start = state tokens p;
      begins = beginning tokens p kept start begun;
      stop = t;
      within = first (state tokens p) (standing.chunk at outer);
      few = few_there tokens q;
      there = refl;
    }
block_unfit at tokens p q kept other outer start begun refuses first = tt

-- after the chunk there are more tokens
never_chunk : (xs : List Lexeme) (b : Block) → run failed xs ≡ chunk b → ⊥
never_chunk xs b is = let e : failed ≡ chunk b = sym (stays_failed xs) ∙ is in cc

more_than_chunk : (x : Block) (xs : List Lexeme) (b : Block) → run (chunk x) (xs ++ a_word End 1 []) ≡ chunk b → ⊥
more_than_chunk x [] b is = never_chunk [] b is
more_than_chunk x (first ∷ after) b is = never_chunk (after ++ a_word End 1 []) b is

one_more : (x : Block) (kind : TokenKind) (l : Line) (xs : List Lexeme) (b : Block) → run (end_ (λ l. chunk x) kind l) (xs ++ a_word End 1 []) ≡ chunk b → ⊥
one_more x (Word End) l xs b is = more_than_chunk x xs b is
one_more x kind l xs b is = never_chunk (xs ++ a_word End 1 []) b is

too_many : (x : Block) (left : List Lexeme) (b : Block) → (left ≡ [] → ⊥) → run (token (end_ (λ l. chunk x))) (left ++ a_word End 1 []) ≡ chunk b → ⊥
too_many x [] b some is = some refl
too_many x (first ∷ after) b some is = one_more x first.kind first.line after b is

some_dropped : (tokens : List Token) (n : ℕ) → n < length tokens → lexemes (drop n tokens) ≡ [] → ⊥
some_dropped [] n more is = absurd (grind arith)
some_dropped (x ∷ xs) zero more is = cc
some_dropped (x ∷ xs) (suc n) more is = some_dropped xs n (grind arith) is

some_left : (tokens : List Token) (q : Parser) → q.index < length tokens → (state tokens q).left ≡ [] → ⊥
unfolding state
some_left tokens q more is = some_dropped tokens q.index more is

too_many_from : (x : Block) (left xs : List Lexeme) (b : Block) → (left ≡ [] → ⊥) → BeginAs left xs → run (token (end_ (λ l. chunk x))) (xs ++ a_word End 1 []) ≡ chunk b → ⊥
too_many_from x [] xs b some h is = some refl
too_many_from x (first ∷ after) xs b some h is = one_more x first.kind first.line h.0 b (rw h.1 at is)

-- the token after the chunk is one too many
pub token_unfit : (at : Nesting) (tokens : List Token) (p q : Parser) (kept : Function) (out : List Stmt) (fault : ParseFault) → IsOutermost at → p.index ≡ 0 → scope_of p ≡ enter [] kept outside → ReadsBlock at (state tokens p) out (state tokens q) → q.index < length tokens →
    fault ≡ At (line_or (last_line (lexemes tokens)) (state tokens q).left) → OfAt (IsUnfit tokens) fault
token_unfit at tokens p q kept out fault outer start begun r more is =
    let t = state tokens q in
    let moves = block_ended at (state tokens p) t out r (λ b. token (end_ (λ l. chunk b))) in
    rw is (record {
      before = moves.read;
      left = t.left;
      all = sym (whole_left tokens p start) ∙ moves.printed;
      reported = refl;
      stuck = λ xs h b reads.
          too_many_from r.tree t.left xs b (some_left tokens q more) h
          (sym (moves.runs (xs ++ a_word End 1 []) (begin_on t.left xs h)) ∙ ap (run read_chunk) (sym (append_assoc moves.read xs (a_word End 1 []))) ∙ reads);
      goes_on = begins_a_chunk moves.read (moves.waits tt);
      start = state tokens p;
      begins = beginning tokens p kept start begun;
      stop = t;
      within = standing.after_block (standing.chunk at outer) r;
      few = few_there tokens q;
      there = refl;
    })

pub too_many_tokens : (at : Nesting) (tokens : List Token) (p q : Parser) (out : List Stmt) → p.index ≡ 0 → ReadsBlock at (state tokens p) out (state tokens q) → q.index < length tokens →
    (program : Program) → IsProgramOf tokens program → ⊥
too_many_tokens at tokens p q out start r more program is =
    let t = state tokens q in
    let moves = block_ended at (state tokens p) t out r (λ b. token (end_ (λ l. chunk b))) in
    let (b, reads, stands) = program_read tokens program is in
    let all : moves.read ++ (t.left ++ a_word End 1 []) ≡ lexemes tokens ++ a_word End 1 [] =
    sym (append_assoc moves.read t.left (a_word End 1 [])) ∙ ap (λ xs. xs ++ a_word End 1 []) (sym moves.printed ∙ whole_left tokens p start) in
    too_many r.tree t.left b (some_left tokens q more) (sym (moves.runs (t.left ++ a_word End 1 []) (go_on_to_end t.left)) ∙ ap (run read_chunk) all ∙ reads)

-- ---- where a limit or a rule is broken

first_broken : (tokens : List Token) (start t : State) (fault : ParseFault) → IsBeginning tokens start → IsFirst start t fault → OnLimit (IsBroken tokens) fault
first_broken tokens start t (At line) begins first = tt
first_broken tokens start t Memory begins first = tt
first_broken tokens start t fault begins first = record { start = start; begins = begins; breaks = first }

pub block_broken : (at : Nesting) (tokens : List Token) (p : Parser) (t : State) (kept : Function) (fault : ParseFault) → IsOutermost at → p.index ≡ 0 → scope_of p ≡ enter [] kept outside →
    FirstFault (standing.here standing.block at) (state tokens p) t fault → OnLimit (IsBroken tokens) fault
block_broken at tokens p t kept fault outer start begun first =
    first_broken tokens (state tokens p) t fault (beginning tokens p kept start begun) (first (state tokens p) (standing.chunk at outer))
