-- Nodes keep to what is known.
use Rattle.std.proofs.Common.{List, ◌∷◌, slice_get, All}
use Rattle.std.proofs.lemmas.List.Elements.{All-cons}
use Rattle.lua_ast.specs.declared.expressions.ExprKind.{out-ExprKind}
use Rattle.lua_ast.specs.declared.statements.StmtKind.{out-StmtKind}
use Rattle.lua_values.specs.declared.values.Value.{Value}
use Rattle.lua_values.specs.declared.values.Value.TheVariants.{Nil, Truth, Number, Text, Table, Closure, Native, Thread, Null, Object}
use Rattle.lua_values.specs.Values.{is_nil}
use Rattle.lua_values.specs.Heap.{Heap}
use Rattle.lua_operators.specs.declared.events.Event.TheVariants.{Call}
use Rattle.lua_operators.specs.declared.faults.OperandFault.TheVariants as operand
use Rattle.lua_operators.specs.Types.{type_of}
use Rattle.lua_meaning.specs.Works.{Places, Slots, Node, AValue, AnExpr, AStmt, ATurn, ARepeat, AFor, AnIter, ACall, AnIndex, AStore, End, Eval}
use Rattle.lua_meaning.specs.Setting.{Setting}
use Rattle.lua_meaning.specs.Positions.{raise_operand}
use Rattle.lua_meaning.specs.Metatables.{handler}
use Rattle.lua_meaning.specs.Nodes.{call_by, callee_work, work_of}
use Rattle.lua_meaning_laws.specs.Standing.{Stands, Known}
use Rattle.lua_meaning_laws.proofs.Known.{Given, SlotsKnown, PlacesKnown, NodeKnown, WorkKnown}
use Rattle.lua_meaning_laws.proofs.Parts.{stmt_parts}
use Rattle.lua_meaning_laws.proofs.Readings.{either, handler_known}
use Rattle.lua_meaning_laws.proofs.Going.{ends_known}
use Rattle.lua_meaning_laws.proofs.Indexing.{index_known, store_known}
use Rattle.lua_meaning_laws.proofs.Closures.{called_known}
use Rattle.lua_meaning_laws.proofs.Natives.{native_known}
use Rattle.lua_meaning_laws.proofs.Statements.{parts_of, turn_known, repeat_known, for_turn_known, iter_known, stmt_known}
use Rattle.lua_meaning_laws.proofs.Expressions.{expr_known, one_known}

module _ (S : Setting) (G : Given S) where
  by_known : (h : Heap) (by f : Value) (args : List Value) (q : Places) (s : Slots) → Known S h by → Known S h f → All (Known S h) args → PlacesKnown S h q → SlotsKnown S h s → WorkKnown S h (call_by S by f args q s)
  by_known h by f args q s bk fk ak qk sk =
      either (WorkKnown S h) (is_nil by) (raise_operand S q.around (operand.Call (type_of f)) s) (Eval (ACall by (f ∷ args)) q s (λ sign s'. End sign s')) ((tt, tt), sk)
      (ends_known S G h (ACall by (f ∷ args)) q s (bk, All-cons (Known S h) f args fk ak) qk sk)

  callee_known : (h : Heap) (f : Value) (args : List Value) (q : Places) (s : Slots) → Stands S h → Known S h f → All (Known S h) args → PlacesKnown S h q → SlotsKnown S h s → WorkKnown S h (callee_work S f args q s)
  callee_known h (Closure c) args q s st fk ak qk sk = called_known S G h (slice_get h.closures c) args q s st (G.reads.closure h c st.fits) ak sk
  callee_known h (Native n) args q s st fk ak qk sk = native_known S G h n args q.around s st ak sk
  callee_known h Nil args q s st fk ak qk sk = by_known h (handler h Nil Call) Nil args q s (handler_known S G h Nil Call st) fk ak qk sk
  callee_known h (Truth b) args q s st fk ak qk sk = by_known h (handler h (Truth b) Call) (Truth b) args q s (handler_known S G h (Truth b) Call st) fk ak qk sk
  callee_known h (Number n) args q s st fk ak qk sk = by_known h (handler h (Number n) Call) (Number n) args q s (handler_known S G h (Number n) Call st) fk ak qk sk
  callee_known h (Text x) args q s st fk ak qk sk = by_known h (handler h (Text x) Call) (Text x) args q s (handler_known S G h (Text x) Call st) fk ak qk sk
  callee_known h (Table t) args q s st fk ak qk sk = by_known h (handler h (Table t) Call) (Table t) args q s (handler_known S G h (Table t) Call st) fk ak qk sk
  callee_known h (Thread n) args q s st fk ak qk sk = by_known h (handler h (Thread n) Call) (Thread n) args q s (handler_known S G h (Thread n) Call st) fk ak qk sk
  callee_known h Null args q s st fk ak qk sk = by_known h (handler h Null Call) Null args q s (handler_known S G h Null Call st) fk ak qk sk
  callee_known h (Object o n) args q s st fk ak qk sk = by_known h (handler h (Object o n) Call) (Object o n) args q s (handler_known S G h (Object o n) Call st) fk ak qk sk

  pub node_known : (h : Heap) (n : Node) (p : Places) (s : Slots) → Stands S h → NodeKnown S h n → PlacesKnown S h p → SlotsKnown S h s → WorkKnown S h (work_of S n p s)
  node_known h (AValue x) p s st k pk sk = one_known S G h x.line (out-ExprKind x.kind) p s (parts_of S x k) st pk sk
  node_known h (AnExpr x) p s st k pk sk = expr_known S G h x.line (out-ExprKind x.kind) p s (parts_of S x k) st pk sk
  node_known h (AStmt t) p s st k pk sk = stmt_known S G h t.line (out-StmtKind t.kind) p s (stmt_parts S k.0 t.kind k.1) st pk sk
  node_known h (ATurn test body) p s st k pk sk = turn_known S G h test body p s k.0 k.1 st pk sk
  node_known h (ARepeat body test) p s st k pk sk = repeat_known S G h body test p s k.0 k.1 st pk sk
  node_known h (AFor line slot i limit step body) p s st k pk sk = for_turn_known S G h line slot i limit step body p s k st pk sk
  node_known h (AnIter line slots f state vs body) p s st k pk sk = iter_known S G h line slots f state vs body p s k.0 k.1 k.2 k.3 st pk sk
  node_known h (ACall f args) p s st k pk sk = callee_known h f args p s st k.0 k.1 pk sk
  node_known h (AnIndex line v key) p s st k pk sk = index_known S G h line v key p s st k.0 k.1 pk sk
  node_known h (AStore line v key x) p s st k pk sk = store_known S G h line v key x p s st k.0 k.1 k.2 pk sk
