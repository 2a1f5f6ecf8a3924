-- The block of Lua of the exchange: its tokens, its tree and its program.
use Rattle.std.proofs.Common.{◌≡◌, ℕ, zero, suc, true, List, [], ◌∷◌, Global, Some, Ok, refl, subst, lit≤, lit<}
use Rattle.std.specs.Prelude.{codes, slice_get}
use Rattle.lua_ast.specs.declared.expressions.ExprKind.{ExprKind}
use Rattle.lua_ast.specs.declared.expressions.ExprKind as kind
use Rattle.lua_ast.specs.declared.programs.Function.{Function}
use Rattle.lua_ast.specs.declared.programs.Program.{Program}
use Rattle.lua_lexer.specs.declared.signs.Sign.TheVariants.{Dot, OpenParenthesis, CloseParenthesis}
use Rattle.lua_lexer.specs.declared.tokens.Token.{Token}
use Rattle.lua_lexer.specs.declared.tokens.TokenKind.{TokenKind}
use Rattle.lua_lexer.specs.declared.tokens.TokenKind.TheVariants.{Name, Text, Sign}
use Rattle.lua_lexer.specs.Lexical.{HasTokens}
use Rattle.lua_lexer.specs.Tokens.{lexed, tokens_after, piece}
use Rattle.lua_lexer.specs.Strings.{body_after, taken_along, short_string, decoded_after, first_element}
use Rattle.lua_lexer.specs.Words.{name_or_word, kind_of_word, word_of, words, spelling}
use Rattle.lua_lexer.specs.Signs.{longest_sign, short_sign, sign_of_one, sign_of_two}
use Rattle.lua_lexer.specs.Comments.{is_comment}
use Rattle.lua_lexer.specs.Brackets.{is_bracket}
use Rattle.lua_lexer.specs.Characters.{line_end, line_ends_after}
use Rattle.lua_lexer.proofs.Lexes.{is_lexed}
use Rattle.lua_grammar.specs.Tree.{Block}
use Rattle.lua_grammar.specs.Tree as tree
use Rattle.lua_grammar.specs.Printing.{print_block}
use Rattle.lua_grammar.specs.Levels.{levels, height}
use Rattle.lua_grammar.specs.Validity.{IsValid}
use Rattle.lua_grammar.specs.Scopes.{Frame, Scope, look, own, last_index}
use Rattle.lua_grammar.specs.Resolution.{Resolves, ResolvesName, IsFunction, node}
use Rattle.lua_grammar.specs.Grammar.{IsProgramOf, ResolvesChunk}
use Rattle.conf.specs.declared.sites.Block as conf
use Rattle.site_check.specs.Sites.{HasProgram, IsRead}
use Rattle.site_examples.specs.Site.{hi_conf}
use Rattle.site_examples.specs.Program.{shared, one, ngx, key, say, argument, call, only, chunk_function, hi_program}
use Rattle.site_examples.specs.Texts.{configuration_text}
use Rattle.site_examples.proofs.Configured.{block, site as configuration}

abbrev token : TokenKind → ℕ → ℕ → Token
token k start end = record { kind = k; line = 2; start = start; end = end }

abbrev tokens : List Token
tokens =
    token (Name (codes "ngx")) 1 4 ∷ token (Sign Dot) 4 5 ∷ token (Name (codes "say")) 5 8 ∷ token (Sign OpenParenthesis) 8 9 ∷ token (Text (codes "hi")) 9 13
    ∷ token (Sign CloseParenthesis) 13 14 ∷ []

reads : lexed 2 block ≡ Ok tokens
unfolding lexed tokens_after piece body_after taken_along short_string decoded_after first_element name_or_word kind_of_word word_of words spelling longest_sign short_sign sign_of_one sign_of_two is_comment is_bracket line_ends_after line_end
reads = refl

has-tokens : HasTokens 2 block tokens
has-tokens = ((is_lexed 2 block).tokens tokens).1 reads

-- `ngx.say("hi")`
abbrev chunk : Block
chunk = tree.statements (tree.more_stats tree.no_stats
    (tree.call_statement (tree.call (tree.member (tree.variable 2 (codes "ngx")) 2 2 (codes "say")) (tree.args 2 (tree.one (tree.string 2 (codes "hi"))) 2)))
    tree.bare)

module _ (heap : Global) where
  abbrev f : Function
  f = chunk_function heap

  abbrev frame : Frame
  frame = record { locals = []; captures = []; slots = 0 }

  abbrev inside : Scope
  inside = record { functions = f ∷ []; enclosing = frame ∷ [] }

  abbrev after : Scope
  after = record { functions = f ∷ []; enclosing = [] }

  is-f : IsFunction 2 [] true frame (only heap ∷ []) f
  is-f = record {
    file = refl;
    params = refl;
    vararg = refl;
    slots = refl;
    captures = refl;
    body = refl;
    begins = refl;
    few_locals = lit≤ tt;
    few_captures = lit≤ tt;
  }

  is-ngx : ResolvesName 2 (codes "ngx") inside (node 2 (kind.Global (codes "ngx"))) inside
  unfolding look own last_index
  is-ngx = record { expr = refl; scope = refl }

  resolves : ResolvesChunk 2 chunk (hi_program heap)
  unfolding Resolves
  resolves = (
    f,
    only heap ∷ [],
    inside,
    after,
    (
      [],
      only heap,
      inside,
      (refl, refl),
      (
        call heap,
        (say heap, shared heap (one heap (argument heap)), inside, (ngx heap, is-ngx, (key heap, refl, refl)), (argument heap, (refl, refl), refl), refl),
        refl,
      ),
      refl,
    ),
    (f, frame, [], refl, is-f, refl),
    refl,
    refl,
  )

  is-program : IsProgramOf tokens (hi_program heap)
  unfolding print_block levels height IsValid
  is-program = (
    chunk,
    record {
      printed = refl;
      valid = (tt, (((tt, lit≤ tt), tt, refl, lit≤ tt), tt), tt);
      shallow = lit≤ tt;
      resolved = resolves;
    },
  )

  abbrev the_block : conf.Block
  the_block = record { text = block; line = 2 }

  built : HasProgram the_block (hi_program heap)
  built = record { tokens = tokens; lexed = has-tokens; parsed = is-program }

  built-so : (b : conf.Block) (p : Program) → Some the_block ≡ Some b → Some (hi_program heap) ≡ Some p → HasProgram b p
  built-so b p here there =
      let same : the_block ≡ b = cc in
      let made : hi_program heap ≡ p = cc in
      subst (λ (c : conf.Block). HasProgram c p) same (subst (HasProgram the_block) made built)

  each : (number : ℕ) (b : conf.Block) (p : Program) → slice_get hi_conf.blocks number ≡ Some b → slice_get (hi_program heap ∷ []) number ≡ Some p → HasProgram b p
  each zero b p here there = built-so b p here there
  each (suc n) b p here there = absurd (cc)

  pub site : IsRead configuration_text hi_conf (hi_program heap ∷ [])
  site = record { read = configuration; whole = lit< tt; each = record { counted = refl; parsed = each } }
