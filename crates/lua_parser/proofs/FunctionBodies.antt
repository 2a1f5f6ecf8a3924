-- Where the parameters, the block or the `end` of a function are refused.
use Rattle.std.proofs.Common.{◌≡◌, ◌≤◌, ℕ, Bool, false, List, [], ◌∷◌, ◌++◌, length, refl, sym, ap, subst, arith, ◌∙◌}
use Rattle.lua_lexer.specs.declared.tokens.TokenKind.{TokenKind}
use Rattle.lua_lexer.specs.declared.tokens.TokenKind.TheVariants.{Word as WordKind, Sign as SignKind}
use Rattle.lua_lexer.specs.declared.signs.Sign.TheVariants.{OpenParenthesis, CloseParenthesis}
use Rattle.lua_lexer.specs.declared.words.Word.TheVariants.{End}
use Rattle.lua_ast.specs.declared.statements.Stmt.{Stmt}
use Rattle.lua_grammar.specs.Tree.{Line, Bytes, Params, FuncBody, Block}
use Rattle.lua_grammar.specs.Tree as tree
use Rattle.lua_grammar.specs.Levels.{levels, block_levels}
use Rattle.lua_grammar.specs.Validity.{IsValid, IsValidBlock, takes_vararg}
use Rattle.lua_grammar.specs.Waiting.{Reader, failed, token, end_}
use Rattle.lua_grammar.specs.Reading.{body, body_after}
use Rattle.lua_grammar.specs.Scopes.{Frame, enter}
use Rattle.lua_grammar.specs.Limits.{Few}
use Rattle.lua_grammar.specs.Resolution.{Resolves, names_of_params}
use Rattle.lua_grammar.proofs.DeadParts.{dead_end, dead_to_end}
use Rattle.lua_grammar.proofs.Few.{few_before, few_inside}
use Rattle.lua_grammar.proofs.Growing.{block_goes}
use Rattle.lua_parser_base.specs.declared.faults.ParseFault.{ParseFault}
use Rattle.lua_parser_base.specs.declared.faults.ParseFault.TheVariants.{At, Memory}
use Rattle.lua_parser_base.specs.declared.functions.Parameters.{Parameters}
use Rattle.lua_parser_base.specs.declared.functions.Begun.{Begun}
use Rattle.lua_parser_base.specs.declared.nesting.Nesting.{Nesting}
use Rattle.lua_parser_base.specs.States.{State, Takes}
use Rattle.lua_parser_base.specs.Next.{IsKind, IsTooDeep, Misses, OnAt}
use Rattle.lua_parser_base.specs.Nesting.{IsWithin, IsOfFunction}
use Rattle.lua_parser_base.specs.ReadsNames.{ReadsParameters}
use Rattle.lua_parser_base.specs.ReadsStatements.{ReadsBlock}
use Rattle.lua_parser_base.specs.Functions.{Enters}
use Rattle.lua_parser_base.specs.Fits.{FitsBody, FitsBlock}
use Rattle.lua_parser_base.specs.Readers.{Moves}
use Rattle.lua_parser_base.specs.Refusals.{RefusesBody}
use Rattle.lua_parser_base.specs.StatementRefusals.{RefusesBlock, RefusesParameters}
use Rattle.lua_parser_base.proofs.PrintedBlocks.{block_ended}
use Rattle.lua_parser_base.proofs.Moving.{by_token, moved, not_first, on, refused_on, supposes_on}
use Rattle.lua_parser_base.proofs.NameLists.{over_parameters_and_close, parameters_moved}
use Rattle.lua_parser_base.proofs.Refusing.{missed, no_close_parenthesis, no_end, too_deep}

-- ---- what a body that fits says of its parts

abbrev inner_frame : List Bytes → Frame
inner_frame names = record { locals = names; captures = []; slots = length names }

few_parameters : (at : Nesting) (line : Line) (first : List Bytes) (enclosing : List Frame) (o : Line) (ps : Params) (c : Line) (b : Block) (e : Line) →
    FitsBody at line first enclosing (tree.function_body o ps c b e) → length (first ++ names_of_params ps) ≤ 200
unfolding Resolves Few
few_parameters at line first enclosing o ps c b e f =
    let (kept, out, m, p, ends, i) = f.resolvable.resolved in
    let names = first ++ names_of_params ps in
    let s = f.resolvable.before in
    let inside : Few m.enclosing = few_inside line names (takes_vararg ps) out s m f.resolvable.after ends f.resolvable.few in
    let begun : Few (enter names kept s).enclosing = few_before (block_goes b (enter names kept s) out m p) inside in
    begun.0.locals

body_block_fits : (at within inner : Nesting) (line : Line) (first : List Bytes) (enclosing those : List Frame) (vararg : Bool) (o : Line) (ps : Params) (c : Line) (b : Block) (e : Line) →
    FitsBody at line first enclosing (tree.function_body o ps c b e) → IsWithin at within → vararg ≡ takes_vararg ps → IsOfFunction vararg within inner →
    those ≡ inner_frame (first ++ names_of_params ps) ∷ enclosing → FitsBlock inner those b
unfolding levels IsValid Resolves
body_block_fits at within inner line first enclosing those vararg o ps c b e f part takes function same =
    let (kept, out, m, p, ends, i) = f.resolvable.resolved in
    let names = first ++ names_of_params ps in
    let s = f.resolvable.before in
    record {
      valid = subst (λ l. IsValidBlock inner.vararg l b) (sym function.in_loop) (subst (λ r. IsValidBlock r false b) (sym (function.vararg ∙ takes)) f.valid);
      deep = let d = f.deep in let n = part.depth in let k = function.depth in omega (arith, d, n, k);
      resolvable = record {
        before = enter names kept s;
        out = out;
        after = m;
        same = ap (λ fs. inner_frame names ∷ fs) f.resolvable.same ∙ sym same;
        resolved = p;
        few = few_inside line names (takes_vararg ps) out s m f.resolvable.after ends f.resolvable.few;
      };
    }

block_deep : (b : Block) → 1 ≤ block_levels b
unfolding levels
block_deep (tree.statements ss) = omega arith
block_deep (tree.with_last ss s e) = omega arith

deep_body : (at : Nesting) (line : Line) (first : List Bytes) (enclosing : List Frame) (o : Line) (ps : Params) (c : Line) (b : Block) (e : Line) → 200 ≤ at.depth →
    FitsBody at line first enclosing (tree.function_body o ps c b e) → ⊥
unfolding levels
deep_body at line first enclosing o ps c b e full f = let d = f.deep in let n = block_deep b in omega (arith, d, n, full)

-- ---- its parameters

body_fails : (k : FuncBody → Reader) (kind : TokenKind) (l : Line) → (IsKind (SignKind OpenParenthesis) kind → ⊥) → body k kind l ≡ failed
body_fails k (SignKind OpenParenthesis) l h = absurd (h refl)
body_fails k kind l h = refl

pub body_unopened : (at : Nesting) (line : Line) (first : List Bytes) (fault : ParseFault) (s t : State) → OnAt (Misses (IsKind (SignKind OpenParenthesis)) s t) fault →
    RefusesBody at line first s t fault
body_unopened at line first fault s t m = λ k never suppose. missed fault _ (token (body k)) (IsKind (SignKind OpenParenthesis)) s t m suppose (λ is. cc) (body_fails k) tt

pub parameters_refused : (at : Nesting) (line : Line) (first : List Bytes) (fault : ParseFault) (s a t : State) (o : ℕ) → Takes (SignKind OpenParenthesis) o s a →
    RefusesParameters first a t fault → RefusesBody at line first s t fault
parameters_refused at line first fault s a t o opening refuses = λ k never suppose.
    refused_on (by_token (token (body k)) (SignKind OpenParenthesis) o s a opening)
    (refuses o k (supposes_on fault (λ suppose ps c b e many.
    suppose (tree.function_body o ps c b e) (λ f. let few = few_parameters at line first s.scope.enclosing o ps c b e f in omega (arith, few, many))) suppose))

pub parameters_unclosed : (at : Nesting) (line : Line) (first : List Bytes) (fault : ParseFault) (s a b t : State) (o : ℕ) (p : Parameters) → Takes (SignKind OpenParenthesis) o s a →
    ReadsParameters first a p b → OnAt (Misses (IsKind (SignKind CloseParenthesis)) b t) fault → RefusesBody at line first s t fault
parameters_unclosed at line first (At l) s a b t o p opening read m = λ k never suppose.
    refused_on (on (by_token (token (body k)) (SignKind OpenParenthesis) o s a opening)
    (parameters_moved read.tree o k a b read.printed read.ends (not_first (SignKind CloseParenthesis) b.left (λ is. cc) m.missing)))
    (no_close_parenthesis (At l) (Unit {0}) (body_after o k read.tree) b t m suppose)
parameters_unclosed at line first Memory s a b t o p opening read m = λ k never suppose. absurd suppose
parameters_unclosed at line first other s a b t o p opening read m = absurd m

-- ---- its block

-- parameters were read, and the function began
pub record BeginsBody (first : List Bytes) (vararg : Bool) (s d : State) : Type 0 where
  pub opens : Line
  pub tree : Params
  pub close : Line
  pub moves : (k : FuncBody → Reader) → Moves (token (body k)) s (body_after opens k tree close) d
  pub takes : vararg ≡ takes_vararg tree
  pub enclosing : d.scope.enclosing ≡ inner_frame (first ++ names_of_params tree) ∷ s.scope.enclosing

pub begins_body : (first : List Bytes) (line : Line) (s a b c d : State) (o close : ℕ) (p : Parameters) (begun : Begun) → Takes (SignKind OpenParenthesis) o s a →
    ReadsParameters first a p b → Takes (SignKind CloseParenthesis) close b c → Enters p line begun c.scope d.scope → d.left ≡ c.left → BeginsBody first begun.vararg s d
begins_body first line s a b c d o close p begun opening read closing enters same = record {
  opens = o;
  tree = read.tree;
  close = close;
  moves = λ k.
      moved same (on (by_token (token (body k)) (SignKind OpenParenthesis) o s a opening) (over_parameters_and_close read.tree o k a b c close read.printed closing));
  takes = enters.vararg ∙ read.vararg;
  enclosing =
      let scope : c.scope ≡ s.scope = closing.scope ∙ (read.scope ∙ opening.scope) in
      ap (λ z. z.enclosing) enters.scope ∙ (ap (λ z. inner_frame p.names.items ∷ z.enclosing) scope ∙ ap (λ ns. inner_frame ns ∷ s.scope.enclosing) read.listed);
}

pub body_too_deep : (at : Nesting) (line : Line) (first : List Bytes) (vararg : Bool) (fault : ParseFault) (s d : State) → BeginsBody first vararg s d → IsTooDeep at d fault →
    RefusesBody at line first s d fault
body_too_deep at line first vararg fault s d begins deep = λ k never suppose.
    refused_on (begins.moves k)
    (too_deep fault _ at (body_after begins.opens k begins.tree begins.close) d deep suppose (λ l b is. never _ b is) (λ full suppose.
    dead_to_end (λ b e. k (tree.function_body begins.opens begins.tree begins.close b e)) (λ b e.
    suppose (tree.function_body begins.opens begins.tree begins.close b e) (deep_body at line first s.scope.enclosing begins.opens begins.tree begins.close b e full))) tt)

pub body_block_refused : (at within inner : Nesting) (line : Line) (first : List Bytes) (vararg : Bool) (fault : ParseFault) (s d t : State) → BeginsBody first vararg s d →
    IsWithin at within → IsOfFunction vararg within inner → RefusesBlock inner d t fault → RefusesBody at line first s t fault
body_block_refused at within inner line first vararg fault s d t begins part function refuses = λ k never suppose.
    refused_on (begins.moves k)
    (refuses (λ b. token (end_ (λ e. k (tree.function_body begins.opens begins.tree begins.close b e)))) (supposes_on fault (λ suppose b not.
    dead_end (λ e. k (tree.function_body begins.opens begins.tree begins.close b e)) (λ e.
    suppose (tree.function_body begins.opens begins.tree begins.close b e) (λ f.
    not (body_block_fits at within inner line first s.scope.enclosing d.scope.enclosing vararg begins.opens begins.tree begins.close b e f part begins.takes function begins.enclosing)))) suppose))

pub body_unended : (at inner : Nesting) (line : Line) (first : List Bytes) (vararg : Bool) (fault : ParseFault) (s d e t : State) (out : List Stmt) → BeginsBody first vararg s d →
    ReadsBlock inner d out e → OnAt (Misses (IsKind (WordKind End)) e t) fault → RefusesBody at line first s t fault
body_unended at inner line first vararg fault s d e t out begins read m = λ k never suppose.
    refused_on (on (begins.moves k)
    (block_ended read.tree inner.vararg inner.in_loop (λ b. token (end_ (λ e. k (tree.function_body begins.opens begins.tree begins.close b e)))) d e read.printed read.valid read.ends))
    (no_end fault _ (λ e. k (tree.function_body begins.opens begins.tree begins.close read.tree e)) e t m suppose (λ l b is. never _ b is))
