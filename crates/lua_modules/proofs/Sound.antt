-- A set stays sound where the program of a text is joined to its own.
use Rattle.std.proofs.Common.{◌≡◌, ℕ, zero, suc, ◌<◌, List, [], ◌∷◌, ◌++◌, length, Result, Ok, Err, OnOk, refl, sym, subst, ◌∙◌}
use Rattle.std.specs.Prelude.{OnErr}
use Rattle.std.specs.List.{All, AllZip}
use Rattle.std.proofs.lemmas.List.Elements.{All-append, All-cons, All-nil, All-weaker}
use Rattle.lua_ast.specs.WholeProgram.{IsWholeFunction, IsWholeProgram, IsWholeStmt}
use Rattle.lua_ast.specs.declared.programs.Function.{Function}
use Rattle.lua_ast.specs.declared.programs.Program.{Program}
use Rattle.lua_lexer.specs.declared.tokens.Token.{Token}
use Rattle.lua_grammar.specs.Grammar.{IsProgramOf}
use Rattle.lua_grammar.specs.Laws.{BeginsWithChunk}
use Rattle.lua_linking.specs.Raising.{RaisedFunction}
use Rattle.lua_linking.specs.Joining.{IsJoined}
use Rattle.lua_modules.specs.Texts.{HasProgram}
use Rattle.lua_modules.specs.Sets.{IsChunk, IsOutermost, IsSound, IsUnchanged, Lists, lists_of, next_function, module_of, of_file, with_block, with_module}
use Rattle.lua_modules.specs.Sets.{with_prelude}
use Rattle.lua_modules.specs.declared.sets.Module.{Module}
use Rattle.lua_modules.specs.declared.sets.ModuleSet.{ModuleSet}

-- a chunk stays one where functions are added after it
chunk_stays : (before raised : List Function) (n : ℕ) → IsChunk before n → IsChunk (before ++ raised) n
chunk_stays [] raised n h = absurd h
chunk_stays (f ∷ before) raised zero h = h
chunk_stays (f ∷ before) raised (suc n) h = chunk_stays before raised n h

raised_outermost : (by files : ℕ) (f g : Function) → RaisedFunction by files f g → IsOutermost f → IsOutermost g
raised_outermost by files f g r o = record { params = r.params ∙ o.params; vararg = r.vararg ∙ o.vararg; captures = r.captures ∙ o.captures }

-- the first function of what is joined is the next one
first_raised : (by files : ℕ) (fs gs : List Function) → AllZip (RaisedFunction by files) fs gs → IsChunk fs 0 → IsChunk gs 0
first_raised by files [] gs z h = absurd h
first_raised by files (f ∷ fs) [] z h = absurd z
first_raised by files (f ∷ fs) (g ∷ gs) z h = raised_outermost by files f g z.0 h

next_chunk : (before raised : List Function) → IsChunk raised 0 → IsChunk (before ++ raised) (length before)
next_chunk [] raised h = h
next_chunk (f ∷ before) raised h = next_chunk before raised h

begins : (chunk : Program) → BeginsWithChunk chunk → IsChunk chunk.functions.items 0
begins chunk b = subst (λ fs. IsChunk fs 0) (sym b.functions) (record { params = b.params; vararg = b.vararg; captures = b.captures })

-- a function is whole in a program with the same functions and as many files
function_whole : (before after : Program) → after.functions.items ≡ before.functions.items → length after.files ≡ length before.files
    → (f : Function) → IsWholeFunction before f → IsWholeFunction after f
function_whole before after functions files f w = record {
  file = subst (λ n. f.file < n) (sym files) w.file;
  params = w.params;
  body = subst (λ fs. All (IsWholeStmt fs f) f.body.value.items) (sym functions) w.body;
}

-- programs with the same functions and as many files are whole alike
whole_alike : (before after : Program) → after.functions.items ≡ before.functions.items → length after.files ≡ length before.files
    → IsWholeProgram before → IsWholeProgram after
whole_alike before after functions files whole = subst (All (IsWholeFunction after)) (sym functions)
    (All-weaker (IsWholeFunction before) (IsWholeFunction after) (function_whole before after functions files) before.functions.items whole)

-- the program of a text has one file, so its file may be named
named_whole : (line : ℕ) (text file : List ℕ) (chunk : Program) → HasProgram line text chunk → IsWholeProgram chunk → IsWholeProgram (of_file file chunk)
named_whole line text file chunk read whole =
    let one : chunk.files ≡ [] ∷ [] = read.parsed.1.resolved.7 in
    let count : 1 ≡ length chunk.files = rw one refl in
    whole_alike chunk (of_file file chunk) refl count whole

-- what holds in both ends
ended : {E : Type 0} (r : Result (Unit {0}) E) (P Q R G : Type 0) → (P → Q → G) → (R → G) → OnOk r P → OnOk r Q → OnErr r R → G
ended (Ok u) P Q R G done failed p q k = done p q
ended (Err e) P Q R G done failed p q k = failed k

-- a set with the same lists is sound alike
unchanged_sound : (before after : ModuleSet) → IsUnchanged before after → IsSound before → IsSound after
unchanged_sound before after same sound =
    let functions = sym same.program.functions in
    let lists = sym same.lists in record {
      whole = whole_alike before.program after.program same.program.functions (rw same.program.files refl) sound.whole;
      preludes = subst (λ fs. All (IsChunk fs) after.preludes.items) functions
          (subst (λ l. All (IsChunk before.program.functions.items) l.preludes) lists sound.preludes);
      modules = subst (λ fs. All (λ m. IsChunk fs m.function) after.modules.items) functions
          (subst (λ l. All (λ m. IsChunk before.program.functions.items m.function) l.modules) lists sound.modules);
      blocks = subst (λ fs. All (IsChunk fs) after.blocks.items) functions
          (subst (λ l. All (IsChunk before.program.functions.items) l.blocks) lists sound.blocks);
    }

module _ (before after : ModuleSet) (chunk : Program) (joined : IsJoined before.program chunk after.program) (whole : IsWholeProgram after.program)
    (first : IsChunk chunk.functions.items 0) (sound : IsSound before) where
  abbrev Old : ℕ → Type 0
  Old = IsChunk before.program.functions.items

  abbrev New : ℕ → Type 0
  New = IsChunk after.program.functions.items

  abbrev OldModule : Module → Type 0
  OldModule m = Old m.function

  abbrev NewModule : Module → Type 0
  NewModule m = New m.function

  there : (n : ℕ) → Old n → New n
  there n h = subst (λ fs. IsChunk fs n) (sym joined.functions) (chunk_stays before.program.functions.items joined.raised n h)

  next : New (next_function before)
  next = subst (λ fs. IsChunk fs (next_function before)) (sym joined.functions)
      (next_chunk before.program.functions.items joined.raised (first_raised _ _ chunk.functions.items joined.raised joined.numbers first))

  same : (ns : List ℕ) → All Old ns → All New ns
  same = All-weaker Old New there

  same_modules : All NewModule before.modules.items
  same_modules = All-weaker OldModule NewModule (λ m. there m.function) before.modules.items sound.modules

  more : (ns : List ℕ) → All Old ns → All New (ns ++ next_function before ∷ [])
  more ns h = All-append New ns (next_function before ∷ []) (same ns h) (All-cons New (next_function before) [] next (All-nil New))

  more_modules : (m : Module) → NewModule m → All NewModule (before.modules.items ++ m ∷ [])
  more_modules m h = All-append NewModule before.modules.items (m ∷ []) same_modules (All-cons NewModule m [] h (All-nil NewModule))

  with_lists : (lists : Lists) → lists_of after ≡ lists → All New lists.preludes → All NewModule lists.modules → All New lists.blocks → IsSound after
  with_lists lists e p m b = record {
    whole = whole;
    preludes = subst (λ l. All New l.preludes) (sym e) p;
    modules = subst (λ l. All NewModule l.modules) (sym e) m;
    blocks = subst (λ l. All New l.blocks) (sym e) b;
  }

  prelude_sound : lists_of after ≡ with_prelude (next_function before) (lists_of before) → IsSound after
  prelude_sound e = with_lists _ e (more _ sound.preludes) same_modules (same _ sound.blocks)

  block_sound : lists_of after ≡ with_block (next_function before) (lists_of before) → IsSound after
  block_sound e = with_lists _ e (same _ sound.preludes) same_modules (more _ sound.blocks)

  module_sound : (name file : List ℕ) → lists_of after ≡ with_module name file (next_function before) (lists_of before) → IsSound after
  module_sound name file e = with_lists _ e (same _ sound.preludes) (more_modules (module_of name file (next_function before)) next) (same _ sound.blocks)

-- what joining a text's program to a set's leaves, by the laws of joined programs and of chunks
module _ (before after : ModuleSet) (line : ℕ) (text file : List ℕ) (chunk : Program) (read : HasProgram line text chunk) (whole : IsWholeProgram chunk)
    (joins : (first second joined : Program) → IsJoined first second joined → IsWholeProgram first → IsWholeProgram second → IsWholeProgram joined)
    (begins_with : (tokens : List Token) (program : Program) → IsProgramOf tokens program → BeginsWithChunk program)
    {E : Type 0} (r : Result (Unit {0}) E) (joined : OnOk r (IsJoined before.program (of_file file chunk) after.program))
    (kept : OnErr r (IsUnchanged before after))
    (sound : IsSound before) where
  all_whole : IsJoined before.program (of_file file chunk) after.program → IsWholeProgram after.program
  all_whole j = joins before.program (of_file file chunk) after.program j sound.whole (named_whole line text file chunk read whole)

  first : IsChunk chunk.functions.items 0
  first = begins chunk (begins_with read.tokens chunk read.parsed)

  pub after_prelude : OnOk r (lists_of after ≡ with_prelude (next_function before) (lists_of before)) → IsSound after
  after_prelude e = ended r _ _ _ _ (λ j h. prelude_sound before after (of_file file chunk) j (all_whole j) first sound h)
      (λ k. unchanged_sound before after k sound) joined e kept

  pub after_module : (name : List ℕ) → OnOk r (lists_of after ≡ with_module name file (next_function before) (lists_of before)) → IsSound after
  after_module name e = ended r _ _ _ _ (λ j h. module_sound before after (of_file file chunk) j (all_whole j) first sound name file h)
      (λ k. unchanged_sound before after k sound) joined e kept

  pub after_block : OnOk r (lists_of after ≡ with_block (next_function before) (lists_of before)) → IsSound after
  after_block e = ended r _ _ _ _ (λ j h. block_sound before after (of_file file chunk) j (all_whole j) first sound h)
      (λ k. unchanged_sound before after k sound) joined e kept
