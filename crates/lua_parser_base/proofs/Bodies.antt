-- A function's body and the chunk.
use Rattle.std.proofs.Common.{◌≡◌, ℕ, ◌≤◌, true, false, List, [], ◌∷◌, ◌++◌, length, drop, slice_get, slice_set, Some, map, reverse, refl, sym, ap, subst, arith, ◌∙◌, zero, suc}
use Rattle.lua_ast.specs.declared.statements.Stmt.{Stmt}
use Rattle.lua_ast.specs.declared.programs.Function.{Function}
use Rattle.lua_ast.specs.declared.programs.Program.{Program}
use Rattle.lua_lexer.specs.declared.tokens.Token.{Token}
use Rattle.lua_lexer.specs.declared.tokens.TokenKind.TheVariants.{Word as WordKind, Sign as SignKind}
use Rattle.lua_lexer.specs.declared.signs.Sign.TheVariants.{OpenParenthesis, CloseParenthesis}
use Rattle.lua_lexer.specs.declared.words.Word.TheVariants.{End as EndWord}
use Rattle.lua_grammar.specs.Tree.{Bytes}
use Rattle.lua_grammar.specs.Tree as tree
use Rattle.lua_grammar.specs.Printing.{lexemes, a_sign, a_word, print_exp, print_block, print_params}
use Rattle.lua_grammar.specs.Levels.{levels}
use Rattle.lua_grammar.specs.Validity.{IsValid, IsValidBlock, takes_vararg}
use Rattle.lua_grammar.specs.Scopes.{Scope, enter}
use Rattle.lua_grammar.specs.Resolution.{Resolves, Opens, EndsFunction, IsFunction, names_of_params}
use Rattle.lua_grammar.specs.Grammar.{first_line, outside, IsProgramOf}
use Rattle.lua_parser_base.specs.declared.nesting.Nesting.{Nesting}
use Rattle.lua_parser_base.specs.declared.functions.Parameters.{Parameters}
use Rattle.lua_parser_base.specs.declared.functions.Begun.{Begun}
use Rattle.lua_parser_base.specs.declared.cursor.Parser.{Parser}
use Rattle.lua_parser_base.specs.declared.frames.Frame.{Frame as KeptFrame}
use Rattle.lua_parser_base.specs.Frames.{frame_of, frames_of}
use Rattle.lua_parser_base.specs.States.{State, state, scope_of, Takes}
use Rattle.lua_parser_base.specs.Nesting.{IsWithin, IsOfFunction}
use Rattle.lua_parser_base.specs.Reads.{ReadsBody}
use Rattle.lua_parser_base.specs.ReadsNames.{ReadsParameters}
use Rattle.lua_parser_base.specs.ReadsStatements.{ReadsBlock}
use Rattle.lua_parser_base.specs.Functions.{Enters, Ends}
use Rattle.lua_parser_base.proofs.Lookups.{frames_pushed}

abbrev pub scope_with : List Function → KeptFrame → List KeptFrame → Scope
scope_with fs frame enclosing = record { functions = fs; enclosing = frame_of frame ∷ map frame_of (reverse enclosing) }

pub entered : (fs gs : List Function) (kept : Function) (old new : KeptFrame) (enclosing later : List KeptFrame) (names : List Bytes) → gs ≡ fs ++ kept ∷ [] →
    frame_of new ≡ record { locals = names; captures = []; slots = length names } → later ≡ enclosing ++ old ∷ [] →
    scope_with gs new later ≡ enter names kept (scope_with fs old enclosing)
entered fs gs kept old new enclosing later names fun frame more = rw (fun, frame, more, frames_pushed enclosing old) refl

pub ended : (fs gs : List Function) (f : Function) (n m : ℕ) (outer : KeptFrame) (others whole : List KeptFrame) → gs ≡ slice_set fs n f → n ≡ m →
    whole ≡ others ++ outer ∷ [] → scope_with gs outer others ≡ record { functions = slice_set fs m f; enclosing = map frame_of (reverse whole) }
ended fs gs f n m outer others whole set same split = rw (set, same, split, frames_pushed others outer) refl

pub enters_state : (tokens : List Token) (p q : Parser) (parameters : Parameters) (line : ℕ) (begun : Begun) → Enters parameters line begun (scope_of p) (scope_of q) →
    Enters parameters line begun (state tokens p).scope (state tokens q).scope
unfolding state
enters_state tokens p q parameters line begun h = h

pub ends_state : (tokens : List Token) (p q : Parser) (begun : Begun) (out : List Stmt) (number : ℕ) → Ends begun out (scope_of p) number (scope_of q) →
    Ends begun out (state tokens p).scope number (state tokens q).scope
unfolding state
ends_state tokens p q begun out number h = h

pub body_read : (at within inner : Nesting) (s a b c d e f t : State) (line opens closes ends number : ℕ) (before : List Bytes) (p : Parameters) (begun : Begun) (out : List Stmt) →
    Takes (SignKind OpenParenthesis) opens s a → ReadsParameters before a p b → Takes (SignKind CloseParenthesis) closes b c → Enters p line begun c.scope d.scope →
    d.left ≡ c.left → IsWithin at within → IsOfFunction begun.vararg within inner → ReadsBlock inner d out e → Takes (WordKind EndWord) ends e f →
    Ends begun out f.scope number t.scope → t.left ≡ f.left → ReadsBody at line before s number t
unfolding print_exp levels IsValid Resolves
body_read at within inner s a b c d e f t line opens closes ends number before p begun out opening rp closing enters same part function rb end_ done left =
    let names : List Bytes = before ++ names_of_params rp.tree in
    let scope : c.scope ≡ s.scope = closing.scope ∙ (rp.scope ∙ opening.scope) in
    let vararg : begun.vararg ≡ takes_vararg rp.tree = enters.vararg ∙ rp.vararg in
    let listed : p.names.items ≡ names = rp.listed in
    let starts : d.scope ≡ enter names enters.kept s.scope = enters.scope ∙ (ap (λ ns. enter ns enters.kept c.scope) listed ∙ ap (enter names enters.kept) scope) in
    let finish : EndsFunction begun.line names begun.vararg out s.scope f.scope t.scope =
    done.ends names s.scope (enters.params ∙ ap length listed) (enters.number ∙ ap (λ z. length z.functions) scope) in
    let opened : Opens rb.tree (enter names enters.kept s.scope) out f.scope =
    subst (λ z. Opens rb.tree (enter names enters.kept s.scope) out z) (sym end_.scope) (subst (λ z. Opens rb.tree z out e.scope) starts rb.resolved) in
    record {
      tree = tree.function_body opens rp.tree closes rb.tree ends;
      printed = opening.printed ∙ ap (a_sign OpenParenthesis opens) (rp.printed ∙ ap (print_params rp.tree) (closing.printed ∙ ap (a_sign CloseParenthesis closes) (sym same ∙ (rb.printed ∙ ap (print_block rb.tree) (end_.printed ∙ ap (a_word EndWord ends) (sym left))))));
      valid = subst (λ l. IsValidBlock (takes_vararg rp.tree) l rb.tree) function.in_loop (subst (λ r. IsValidBlock r inner.in_loop rb.tree) (function.vararg ∙ vararg) rb.valid);
      deep = let x = rb.deep in let y = part.depth in let z = function.depth in omega (arith, x, y, z);
      resolved = (
        enters.kept,
        out,
        f.scope,
        opened,
        subst (λ l. EndsFunction l names (takes_vararg rp.tree) out s.scope f.scope t.scope) enters.line (subst (λ r. EndsFunction begun.line names r out s.scope f.scope t.scope) vararg finish),
        done.number ∙ (enters.number ∙ ap (λ z. length z.functions) scope),
      );
    }

-- nothing is left after the last token
none_left : (tokens : List Token) (n : ℕ) → length tokens ≤ n → drop n tokens ≡ []
none_left [] zero h = refl
none_left [] (suc n) h = refl
none_left (x ∷ xs) zero h = absurd (grind arith)
none_left (x ∷ xs) (suc n) h = none_left xs n (grind arith)

pub chunk_begins : (fs : List Function) (f : Function) (frame : KeptFrame) (names : List Bytes) (enclosing : List KeptFrame) → fs ≡ f ∷ [] →
    frame_of frame ≡ record { locals = names; captures = []; slots = length names } → names ≡ [] → enclosing ≡ [] → scope_with fs frame enclosing ≡ enter [] f outside
chunk_begins fs f frame names enclosing one begun none alone = rw (one, begun, none, alone) refl

pub chunk_read : (tokens : List Token) (p q : Parser) (at : Nesting) (line : ℕ) (kept chunk : Function) (out : List Stmt) (program : Program) →
    ReadsBlock at (state tokens p) out (state tokens q) → p.index ≡ 0 → scope_of p ≡ enter [] kept outside → at.depth ≡ 1 → at.vararg ≡ true →
    at.in_loop ≡ false → length tokens ≤ q.index → line ≡ first_line (lexemes tokens) → IsFunction line [] true (frame_of q.frame) out chunk →
    program.functions.items ≡ slice_set q.functions.items 0 chunk → program.files ≡ [] ∷ [] → IsProgramOf tokens program
unfolding state print_exp levels IsValid Resolves
chunk_read tokens p q at line kept chunk out program r start begun depth vararg loop all first function functions files =
    let printed : lexemes (drop p.index tokens) ≡ print_block r.tree (lexemes (drop q.index tokens)) = r.printed in
    let ends : lexemes (drop q.index tokens) ≡ [] = ap lexemes (none_left tokens q.index all) in
    let begins : lexemes (drop p.index tokens) ≡ lexemes tokens = ap (λ n. lexemes (drop n tokens)) start in
    let opened : Opens r.tree (enter [] kept outside) out (scope_of q) = subst (λ z. Opens r.tree z out (scope_of q)) begun r.resolved in
    let whole : IsFunction (first_line (lexemes tokens)) [] true (frame_of q.frame) out chunk = subst (λ l. IsFunction l [] true (frame_of q.frame) out chunk) first function in (
      r.tree,
      record {
        printed = sym begins ∙ (printed ∙ ap (print_block r.tree) ends);
        valid = subst (λ l. IsValidBlock true l r.tree) loop (subst (λ x. IsValidBlock x at.in_loop r.tree) vararg r.valid);
        shallow = let d = r.deep in omega (arith, d, depth);
        resolved = (
          kept,
          out,
          scope_of q,
          record { functions = slice_set q.functions.items 0 chunk; enclosing = frames_of q.enclosing },
          opened,
          (chunk, frame_of q.frame, frames_of q.enclosing, refl, whole, refl),
          functions,
          files,
        );
      },
    )

line_of_next : (tokens : List Token) (n : ℕ) (token : Token) → slice_get tokens n ≡ Some token → token.line ≡ first_line (lexemes (drop n tokens))
line_of_next [] n token is = absurd (grind arith)
line_of_next (x ∷ xs) zero token is = grind arith
line_of_next (x ∷ xs) (suc n) token is = line_of_next xs n token (grind arith)

pub line_at : (tokens : List Token) (p : Parser) (token : Token) → slice_get tokens p.index ≡ Some token → token.line ≡ first_line (state tokens p).left
unfolding state
line_at tokens p token is = line_of_next tokens p.index token is
