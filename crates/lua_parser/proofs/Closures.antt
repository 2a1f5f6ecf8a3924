-- Where a function without a name is refused.
use Rattle.std.proofs.Common.{◌≡◌, ℕ, List, [], sym, subst, arith}
use Rattle.lua_grammar.specs.Tree.{Line, Bytes, Exp, FuncBody, Block}
use Rattle.lua_grammar.specs.Tree as tree
use Rattle.lua_grammar.specs.Levels.{levels}
use Rattle.lua_grammar.specs.Validity.{IsValid}
use Rattle.lua_grammar.specs.Scopes.{Frame}
use Rattle.lua_grammar.specs.Resolution.{Resolves}
use Rattle.lua_grammar.specs.Waiting.{Reader, chunk, exp, more_exp}
use Rattle.lua_lexer.specs.declared.tokens.TokenKind.TheVariants.{Word}
use Rattle.lua_lexer.specs.declared.words.Word.TheVariants as word
use Rattle.lua_parser_base.specs.declared.faults.ParseFault.{ParseFault}
use Rattle.lua_parser_base.specs.declared.nesting.Nesting.{Nesting}
use Rattle.lua_parser_base.specs.States.{State, Takes}
use Rattle.lua_parser_base.specs.Fits.{FitsBody, FitsExp}
use Rattle.lua_parser_base.specs.Refusals.{RefusesBody, RefusesExp, Unless}
use Rattle.lua_parser_base.proofs.Fitting.{first_exp_fits}
use Rattle.lua_parser_base.proofs.Moving.{by_token, refused_on, supposes_on}

body_alone_fits : (at : Nesting) (enclosing : List Frame) (line : Line) (b : FuncBody) → FitsExp at enclosing (tree.function line b) → FitsBody at line [] enclosing b
unfolding levels IsValid Resolves
body_alone_fits at enclosing line b f =
    let (n, r, is) = f.resolvable.resolved in
    record {
      valid = f.valid;
      deep = let d = f.deep in omega (arith, d);
      resolvable = record { before = f.resolvable.before; out = n; after = f.resolvable.after; same = f.resolvable.same; resolved = r; few = f.resolvable.few };
    }

body_supposes : (at : Nesting) (enclosing : List Frame) (m : ℕ) (k : Exp → Reader) (line : Line) → Unless (FitsExp at enclosing) k →
    Unless (FitsBody at line [] enclosing) (λ b. more_exp m (tree.function line b) k)
body_supposes at enclosing m k line suppose = λ b not whole from.
    suppose whole (λ f. not (body_alone_fits at enclosing line b (first_exp_fits at enclosing (tree.function line b) whole from f)))

waits : (m : ℕ) (e : Exp) (k : Exp → Reader) (b : Block) → more_exp m e k ≡ chunk b → ⊥
waits m e k b is = cc

pub closure_refused : (at : Nesting) (line : ℕ) (first : List Bytes) (fault : ParseFault) (s a t : State) → Takes (Word word.Function) line s a → first ≡ [] →
    RefusesBody at line first a t fault → RefusesExp at s t fault
closure_refused at line first fault s a t taken none refuses = λ m k h.
    let body_refuses : RefusesBody at line [] a t fault = subst (λ those. RefusesBody at line those a t fault) none refuses in
    let k' : FuncBody → Reader = λ b. more_exp m (tree.function line b) k in
    refused_on (by_token (exp m k) (Word word.Function) line s a taken)
    (body_refuses k' (λ b. waits m (tree.function line b) k)
    (supposes_on fault (λ suppose. subst (λ z. Unless (FitsBody at line [] z.enclosing) k') (sym taken.scope) (body_supposes at s.scope.enclosing m k line suppose)) h))
