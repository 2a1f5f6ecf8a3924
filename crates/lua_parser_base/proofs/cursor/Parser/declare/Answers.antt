use Rattle.std.proofs.Common.{◌≡◌, ◌∷◌, ◌++◌, [], ◌+◌, ◌<◌, length, take, refl, sym, ap, rules, arith, length-append, ◌∙◌}
use Rattle.std.proofs.lemmas.Grind.{common_steps}
use Rattle.lua_grammar.specs.Scopes.{slots_from, with_locals}
use Rattle.lua_parser_base.specs.Frames.{frame_of}
use Rattle.lua_parser_base.proofs.Lookups.{slots_more, locals_more, locals_none, front_more, front_length}
use Rattle.lua_parser_base.proofs.cursor.Parser.declare.Goals as goal

pub loop-name-init : goal.loop-name-init
unfolding slots_from
loop-name-init c = record {
  slots = search rules;
  frame = sym (locals_none (frame_of c.args.self.now.frame) (let h = c.args.self.now.frame.covered in grind arith));
  index = refl;
  line = refl;
  functions = refl;
  enclosing = refl;
}

pub loop-name-preserved : goal.loop-name-preserved
loop-name-preserved c =
    let h = c.loop-name.invariant in
    let xs = c.deref-name-items.result.now in
    let i = c.loop-name.name-index in
    let inside : i < length xs = c.loop-name-test.true in
    let longer = front_more xs i c.name-item.result c.name-item.result inside c.name-item.is in
    let framed : frame_of c.declare_copy.new.self ≡ with_locals (c.name-item.result ∷ []) (with_locals (take i xs) (frame_of c.args.self.now.frame)) =
    c.in_ok-slot.ensures.frame ∙ ap (with_locals (c.name-item.result ∷ [])) h.frame in
    let index : c.in_ok-slot.slot ≡ length c.args.self.now.frame.locals.items + i =
    let l : c.loop-name.self.frame.locals.items ≡ c.args.self.now.frame.locals.items ++ take i xs = ap (λ f. f.locals) h.frame in
    c.in_ok-slot.ensures.slot ∙ rw (l, length-append c.args.self.now.frame.locals.items (take i xs), front_length xs i inside) refl
    in
    record {
      slots = rw (longer, slots_more (length c.args.self.now.frame.locals.items) (take i xs) c.name-item.result, front_length xs i inside, sym h.slots, sym index) c.in_ok-push.ensures.items;
      frame = rw (longer, locals_more (take i xs) c.name-item.result (frame_of c.args.self.now.frame)) framed;
      index = h.index;
      line = h.line;
      functions = h.functions;
      enclosing = h.enclosing;
    }

pub returns-clause-slots : goal.returns-clause-slots
returns-clause-slots c = grind (arith, common_steps)

pub returns-in_err-slot : goal.returns-in_err-slot
returns-in_err-slot c = grind (arith, common_steps)

pub returns-in_err-push : goal.returns-in_err-push
returns-in_err-push c = grind (arith, common_steps)
