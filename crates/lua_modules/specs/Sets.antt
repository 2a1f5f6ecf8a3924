-- The modules and blocks of a site, and what adding one does.
use Rattle.std.specs.Prelude.{◌≡◌, ℕ, Bool, true, ◌&&◌, ◌==◌, List, [], ◌∷◌, ◌++◌, length, bytes_eq, slice_get, IsSomeAnd, if◌then◌else◌}
use Rattle.std.specs.List.{All, list_any}
use Rattle.lua_ast.specs.WholeProgram.{IsWholeProgram}
use Rattle.lua_ast.specs.declared.programs.Function.{Function}
use Rattle.lua_ast.specs.declared.programs.Program.{Program}
use Rattle.lua_linking.specs.Joining.{HasSameLists, IsJoined}
use Rattle.lua_modules.specs.Texts.{HasProgram}
use Rattle.lua_modules.specs.declared.sets.Chunks.{Chunks}
use Rattle.lua_modules.specs.declared.sets.Module.{Module}
use Rattle.lua_modules.specs.declared.sets.ModuleSet.{ModuleSet}

-- what a set has beside its program: the chunks of preludes, the modules, and the chunks of blocks
pub record Lists : Type 0 where
  pub preludes : List ℕ
  pub modules : List Module
  pub blocks : List ℕ

abbrev pub lists_of : ModuleSet → Lists
lists_of set = record { preludes = set.preludes.items; modules = set.modules.items; blocks = set.blocks.items }

-- the same of chunks that stand apart from their program
abbrev pub chunks_of : Chunks → Lists
chunks_of chunks = record { preludes = chunks.preludes.items; modules = chunks.modules.items; blocks = chunks.blocks.items }

abbrev pub with_prelude : ℕ → Lists → Lists
with_prelude function lists = record lists { preludes = lists.preludes ++ function ∷ [] }

-- a module without a file is built in
abbrev pub module_of : List ℕ → List ℕ → ℕ → Module
module_of name file function = record { name = name; function = function; built_in = length file == 0 }

abbrev pub with_module : List ℕ → List ℕ → ℕ → Lists → Lists
with_module name file function lists = record lists { modules = lists.modules ++ module_of name file function ∷ [] }

abbrev pub with_block : ℕ → Lists → Lists
with_block function lists = record lists { blocks = lists.blocks ++ function ∷ [] }

-- a built-in module without a name is a prelude
abbrev pub is_prelude : List ℕ → List ℕ → Bool
is_prelude name file = length file == 0 && length name == 0

abbrev pub with_chunk : List ℕ → List ℕ → ℕ → Lists → Lists
with_chunk name file function lists = if is_prelude name file then with_prelude function lists else with_module name file function lists

-- a program whose only file has this name
abbrev pub of_file : List ℕ → Program → Program
of_file file program = record program { files = file ∷ [] }

-- the program of a text that begins on this line is joined to the set's
pub record JoinsText (file : List ℕ) (line : ℕ) (text : List ℕ) (before after : ModuleSet) : Type 0 where
  pub chunk : Program
  pub read : HasProgram line text chunk
  pub joined : IsJoined before.program (of_file file chunk) after.program

-- the number of the next function
abbrev pub next_function : ModuleSet → ℕ
next_function set = length set.program.functions.items

-- a module or a prelude is added
pub record Adds (name file text : List ℕ) (before after : ModuleSet) : Type 0 where
  pub program : JoinsText file 1 text before after
  pub lists : lists_of after ≡ with_chunk name file (next_function before) (lists_of before)

-- a block is added
pub record AddsBlock (file : List ℕ) (line : ℕ) (text : List ℕ) (before after : ModuleSet) : Type 0 where
  pub program : JoinsText file line text before after
  pub lists : lists_of after ≡ with_block (next_function before) (lists_of before)

-- the set has the same files, functions, modules and blocks
pub record IsUnchanged (before after : ModuleSet) : Type 0 where
  pub program : HasSameLists before.program after.program
  pub lists : lists_of after ≡ lists_of before

abbrev pub has_module : List Module → List ℕ → Bool
has_module modules name = list_any (λ m. bytes_eq name m.name) modules

-- a function that takes its arguments as `...` and captures nothing (Lua 5.1 Reference Manual, 2.4.1)
pub record IsOutermost (f : Function) : Type 0 where
  pub params : f.params ≡ 0
  pub vararg : f.vararg ≡ true
  pub captures : f.captures.items ≡ []

-- the function of this number is there, and may be a chunk's
abbrev pub IsChunk : List Function → ℕ → Type 0
IsChunk functions number = IsSomeAnd (slice_get functions number) IsOutermost

-- the program is whole, and each number in a list is that of a chunk
pub record IsSound (set : ModuleSet) : Type 0 where
  pub whole : IsWholeProgram set.program
  pub preludes : All (IsChunk set.program.functions.items) set.preludes.items
  pub modules : All (λ m. IsChunk set.program.functions.items m.function) set.modules.items
  pub blocks : All (IsChunk set.program.functions.items) set.blocks.items
