-- The chunk by hand.
use Rattle.std.proofs.Common.{◌≡◌, ℕ, List, [], ◌∷◌, codes, pos, refl, false, true, lit≤}
use Rattle.lua_ast.specs.declared.programs.Capture.TheVariants.{Slot}
use Rattle.lua_ast.specs.declared.programs.Program.{Program}
use Rattle.lua_ast.specs.declared.expressions.ExprKind as kind
use Rattle.lua_ast.specs.declared.statements.StmtKind as stmt
use Rattle.lua_lexer.specs.declared.tokens.Token.{Token}
use Rattle.lua_grammar.specs.Tree.{Block}
use Rattle.lua_grammar.specs.Tree as tree
use Rattle.lua_grammar.specs.Printing.{lexemes, print_block}
use Rattle.lua_grammar.specs.Levels.{levels}
use Rattle.lua_grammar.specs.Validity.{IsValid}
use Rattle.lua_ast.specs.declared.programs.Function.{Function}
use Rattle.lua_grammar.specs.Scopes.{Frame, Scope, enter, look, own, last_index, slots_from}
use Rattle.lua_grammar.specs.Resolution.{Resolves, ResolvesName, IsFunction, node, statement}
use Rattle.lua_grammar.specs.Grammar.{IsProgramOf, ResolvesChunk, outside}
use Rattle.lua_grammar.specs.Laws.{IsProgramByHand, tokens_by_hand}

chunk : Block
chunk =
    tree.with_last (tree.more_stats tree.no_stats (tree.local_values 1 (tree.first_name 1 (codes "a")) 1 (tree.one (tree.number 1 (pos 1)))) tree.bare)
    (tree.return_values 2 (tree.one (tree.function 2 (tree.function_body 2 tree.no_params 2
    (tree.with_last tree.no_stats (tree.return_values 2 (tree.one (tree.prefix (tree.variable 2 (codes "a"))))) tree.bare) 2))))
    tree.bare

name : List ℕ
name = codes "a"

-- the scope after the local, and the frame of the inner function at its end
before : Function → Scope
before f = record { functions = f ∷ []; enclosing = record { locals = name ∷ []; captures = []; slots = 1 } ∷ [] }

inner : Frame
inner = record { locals = []; captures = record { name = name; variable = Slot 0 } ∷ []; slots = 0 }

at_end : Function → Function → Scope
unfolding before inner
at_end f g = record { functions = f ∷ g ∷ []; enclosing = inner ∷ (before f).enclosing }

chunk_resolves : (program : Program) → IsProgramByHand program → ResolvesChunk 1 chunk program
unfolding chunk name before inner at_end Resolves look own last_index slots_from
chunk_resolves program is =
    let f = is.chunk in
    let g = is.inner in
    let c = is.is_chunk in
    let i = is.is_inner in
    let first = statement 1 (stmt.Local c.targets c.values) in
    let second = statement 2 (stmt.Return c.returned) in
    let third = statement 2 (stmt.Return i.returned) in
    let after : Scope = record { functions = f ∷ g ∷ []; enclosing = (before f).enclosing } in
    let last : Scope = record { functions = f ∷ g ∷ []; enclosing = [] } in
    let is_f : IsFunction 1 [] true (record { locals = name ∷ []; captures = []; slots = 1 }) (first ∷ second ∷ []) f = record {
      file = c.file;
      params = c.params;
      vararg = c.vararg;
      slots = c.slots;
      captures = c.captures;
      body = c.body;
      begins = c.begins;
      few_locals = lit≤ tt;
      few_captures = lit≤ tt;
    } in
    let is_g : IsFunction 2 [] false inner (third ∷ []) g = record {
      file = i.file;
      params = i.params;
      vararg = i.vararg;
      slots = i.slots;
      captures = i.captures;
      body = i.body;
      begins = i.begins;
      few_locals = lit≤ tt;
      few_captures = lit≤ tt;
    } in
    let read : ResolvesName 2 name (enter [] g (before f)) (node 2 (kind.Captured 0)) (at_end f g) = record { expr = refl; scope = refl } in (
      f,
      first ∷ second ∷ [],
      after,
      last,
      (
        first ∷ [],
        second,
        before f,
        (
          [],
          first,
          enter [] f outside,
          (refl, refl),
          (c.targets, c.values, enter [] f outside, (node 1 (kind.Number (pos 1)), (refl, refl), c.the_values), c.the_targets, refl, refl),
          refl,
        ),
        (
          c.returned,
          (
            node 2 (kind.Function 1),
            (
              1,
              (
                g,
                third ∷ [],
                at_end f g,
                (
                  [],
                  third,
                  enter [] g (before f),
                  (refl, refl),
                  (i.returned, (node 2 (kind.Captured 0), read, i.the_returned), refl),
                  refl,
                ),
                (g, inner, (before f).enclosing, refl, is_g, refl),
                refl,
              ),
              refl,
            ),
            c.the_returned,
          ),
          refl,
        ),
        refl,
      ),
      (f, record { locals = name ∷ []; captures = []; slots = 1 }, [], refl, is_f, refl),
      is.functions,
      is.files,
    )

pub by_hand : (tokens : List Token) (program : Program) → lexemes tokens ≡ tokens_by_hand → IsProgramByHand program → IsProgramOf tokens program
unfolding chunk print_block levels IsValid
by_hand tokens program e is = (
  chunk,
  record {
    printed = e;
    valid = ((tt, tt, tt), (tt, tt));
    shallow = lit≤ tt;
    resolved = rw e (chunk_resolves program is);
  },
)
