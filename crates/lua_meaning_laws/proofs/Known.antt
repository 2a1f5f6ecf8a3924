-- What is known to a heap, and stays known as it grows; and works that keep to what is known.
use Rattle.std.proofs.Common.{◌≡◌, ℕ, ◌<◌, List, [], ◌∷◌, length, take, slice_get, All, refl, subst, ◌∙◌, arith}
use Rattle.std.specs.Prelude.{IsSomeAnd}
use Rattle.std.proofs.lemmas.List.Elements.{All-weaker}
use Rattle.lua_ast.specs.declared.expressions.Expr.{Expr}
use Rattle.lua_ast.specs.declared.statements.Stmt.{Stmt}
use Rattle.lua_ast.specs.declared.programs.Function.{Function}
use Rattle.lua_ast.specs.WholeProgram.{IsWholeExpr, IsWholeStmt, IsWholeProgram}
use Rattle.lua_values.specs.declared.values.Value.{Value}
use Rattle.lua_values.specs.Heap.{Heap, Base}
use Rattle.lua_values.specs.Fits.{FitCells}
use Rattle.lua_values.specs.NativeCalls.{IsLawful}
use Rattle.lua_values.specs.Laws.{StillFits, WritesKeepFitting, ReadsFit}
use Rattle.lua_meaning.specs.declared.resumes.Resumed.{Resumed}
use Rattle.lua_meaning.specs.declared.slots.Slot.{Slot}
use Rattle.lua_meaning.specs.declared.slots.Slot.TheVariants.{Plain, Shared}
use Rattle.lua_meaning.specs.Works.{Places, Slots, Node, AValue, AnExpr, AStmt, ATurn, ARepeat, AFor, AnIter, ACall, AnIndex, AStore, Sign, Values, Return, Break, Failed, Work, End, Eval, Outside, Look, Write, Count}
use Rattle.lua_meaning.specs.Setting.{Setting}
use Rattle.lua_meaning.specs.Over.{native_count}
use Rattle.lua_meaning_laws.specs.Standing.{Stands, Known, StandsAfter}
use Rattle.lua_meaning_laws.specs.Lives.{AnswerKnown}

-- what the law is told under
pub record Given (S : Setting) : Type 0 where
  pub whole : IsWholeProgram S.program
  pub lawful : IsLawful (native_count S) S.count S.lib
  pub still : StillFits
  pub writes : WritesKeepFitting
  pub reads : ReadsFit

-- the variable's value, or its cell, is there
abbrev pub SlotKnown : Setting → Heap → Slot → Type 0
SlotKnown S h (Plain v) = Known S h v
SlotKnown S h (Shared c) = c < length h.cells

abbrev pub SlotsKnown : Setting → Heap → Slots → Type 0
SlotsKnown S h s = All (SlotKnown S h) s

abbrev pub SignKnown : Setting → Heap → Sign → Type 0
SignKnown S h (Values vs) = All (Known S h) vs
SignKnown S h (Return vs) = All (Known S h) vs
SignKnown S h Break = Unit {0}
SignKnown S h (Failed v) = Known S h v

pub record PlacesKnown (S : Setting) (h : Heap) (p : Places) : Type 0 where
  pub cells : FitCells h p.cells
  pub extras : All (Known S h) p.extras

-- an expression or a statement of a function of the program
abbrev pub ExprIn : Setting → Expr → Type 0
ExprIn S x = (f : Function) × IsWholeExpr S.program.functions.items f x

abbrev pub StmtIn : Setting → Stmt → Type 0
StmtIn S st = (f : Function) × IsWholeStmt S.program.functions.items f st

-- the program has a function of this number
abbrev pub HasFunction : Setting → ℕ → Type 0
HasFunction S n = IsSomeAnd (slice_get S.program.functions.items n) (λ (f : Function). Unit {0})

abbrev pub NodeKnown : Setting → Heap → Node → Type 0
NodeKnown S h (AValue x) = ExprIn S x
NodeKnown S h (AnExpr x) = ExprIn S x
NodeKnown S h (AStmt st) = StmtIn S st
NodeKnown S h (ATurn test body) = ExprIn S test × All (StmtIn S) body
NodeKnown S h (ARepeat body test) = ExprIn S test × All (StmtIn S) body
NodeKnown S h (AFor line slot i limit step body) = All (StmtIn S) body
NodeKnown S h (AnIter line slots f state vs body) = Known S h f × Known S h state × All (Known S h) vs × All (StmtIn S) body
NodeKnown S h (ACall f args) = Known S h f × All (Known S h) args
NodeKnown S h (AnIndex line v key) = Known S h v × Known S h key
NodeKnown S h (AStore line v key x) = Known S h v × Known S h key × Known S h x

-- work that keeps to what is known: it evaluates and asks what is known, writes heaps that keep standing, and goes on so with
-- what is given, in whatever heap that keeps standing
abbrev pub WorkKnown : Setting → Heap → Work → Type 0
WorkKnown S h (End sign s) = SignKnown S h sign × SlotsKnown S h s
WorkKnown S h (Eval n p s go) =
    NodeKnown S h n × PlacesKnown S h p × SlotsKnown S h s
    × ((g : Heap) (sign : Sign) (s' : Slots) → StandsAfter S h g → SignKnown S g sign → SlotsKnown S g s' → WorkKnown S g (go sign s'))
WorkKnown S h (Outside number args position go) =
    All (Known S h) args × ((g : Heap) (answer : Resumed) → StandsAfter S h g → AnswerKnown S g answer → WorkKnown S g (go answer))
WorkKnown S h (Look go) = WorkKnown S h (go h)
WorkKnown S h (Write g go) = StandsAfter S h g × WorkKnown S g go
WorkKnown S h (Count n go) = WorkKnown S h go

-- work that goes on with values, or with one, in a heap that keeps standing
abbrev pub ValuesGo : Setting → Heap → (List Value → Slots → Work) → Type 0
ValuesGo S h go = (g : Heap) (vs : List Value) (s : Slots) → StandsAfter S h g → All (Known S g) vs → SlotsKnown S g s → WorkKnown S g (go vs s)

abbrev pub ValueGo : Setting → Heap → (Value → Slots → Work) → Type 0
ValueGo S h go = (g : Heap) (v : Value) (s : Slots) → StandsAfter S h g → Known S g v → SlotsKnown S g s → WorkKnown S g (go v s)

module _ (S : Setting) (G : Given S) where
  pub same_heap : (h : Heap) → Stands S h → StandsAfter S h h
  same_heap h st = record {
    stands = st;
    frozen = record { base = refl; tables = refl; cells = refl; closures = refl; no_shorter = record { tables = omega arith; cells = omega arith; closures = omega arith } };
  }

  pub later_heap : (a b c : Heap) → StandsAfter S a b → StandsAfter S b c → StandsAfter S a c
  later_heap a b c l m = record {
    stands = m.stands;
    frozen = record {
      base = m.frozen.base ∙ l.frozen.base;
      tables = subst (λ (x : Base). take x.tables c.tables ≡ take x.tables b.tables) l.frozen.base m.frozen.tables ∙ l.frozen.tables;
      cells = subst (λ (x : Base). take x.cells c.cells ≡ take x.cells b.cells) l.frozen.base m.frozen.cells ∙ l.frozen.cells;
      closures = subst (λ (x : Base). take x.closures c.closures ≡ take x.closures b.closures) l.frozen.base m.frozen.closures ∙ l.frozen.closures;
      no_shorter = record {
        tables = omega (arith, l.frozen.no_shorter.tables, m.frozen.no_shorter.tables);
        cells = omega (arith, l.frozen.no_shorter.cells, m.frozen.no_shorter.cells);
        closures = omega (arith, l.frozen.no_shorter.closures, m.frozen.no_shorter.closures);
      };
    };
  }

  pub value_later : (h g : Heap) (v : Value) → StandsAfter S h g → Known S h v → Known S g v
  value_later h g v l k = (G.still.value h g v l.frozen.no_shorter k.0, k.1)

  pub values_later : (h g : Heap) (vs : List Value) → StandsAfter S h g → All (Known S h) vs → All (Known S g) vs
  values_later h g vs l k = All-weaker (Known S h) (Known S g) (λ v. value_later h g v l) vs k

  pub slot_later : (h g : Heap) (x : Slot) → StandsAfter S h g → SlotKnown S h x → SlotKnown S g x
  slot_later h g (Plain v) l k = value_later h g v l k
  slot_later h g (Shared c) l k = omega (arith, k, l.frozen.no_shorter.cells)

  pub slots_later : (h g : Heap) (s : Slots) → StandsAfter S h g → SlotsKnown S h s → SlotsKnown S g s
  slots_later h g s l k = All-weaker (SlotKnown S h) (SlotKnown S g) (λ x. slot_later h g x l) s k

  pub cells_later : (h g : Heap) (cells : List ℕ) → StandsAfter S h g → FitCells h cells → FitCells g cells
  cells_later h g cells l k = All-weaker (λ c. c < length h.cells) (λ c. c < length g.cells) (λ c lt. omega (arith, lt, l.frozen.no_shorter.cells)) cells k

  pub places_later : (h g : Heap) (p : Places) → StandsAfter S h g → PlacesKnown S h p → PlacesKnown S g p
  places_later h g p l k = record { cells = cells_later h g p.cells l k.cells; extras = values_later h g p.extras l k.extras }
