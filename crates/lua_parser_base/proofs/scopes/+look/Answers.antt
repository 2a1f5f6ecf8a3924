use Rattle.std.proofs.Common.{◌≡◌, ◌∷◌, [], Some, None, refl, sym, arith}
use Rattle.std.proofs.lemmas.List.{nil_from_length as empty_of}
use Rattle.lua_grammar.specs.Scopes.{own, look}
use Rattle.lua_parser_base.specs.Frames.{frame_of, frames_of}
use Rattle.lua_parser_base.proofs.Lookups.{look_own, look_none, look_some, nowhere, frames_pushed, captured_length, none_of}
use Rattle.lua_grammar.specs.Limits.{Few}
use Rattle.lua_parser_base.proofs.Crowding.{crowded_frame, few_further, handed_match, upvalues_on}
use Rattle.lua_parser_base.specs.Next.{OnUpvalues}
use Rattle.lua_parser_base.proofs.scopes.+look.Goals as goal

pub returns-in-Some : goal.returns-in-Some
returns-in-Some t c = look_own _ _ _ _ (let e = c.own.ensures in let i = c.in-Some.is in cc)

pub returns-in_default-pop : goal.returns-in_default-pop
returns-in_default-pop t c =
    let o = none_of c.own.result c.in_default.not-Some in
    let p = none_of c.pop.result c.in_default-pop.not-Some in
    let before : c.args.enclosing.now.items ≡ [] = empty_of _ (grind (arith, p)) in
    let after : c.pop.new.self.items ≡ [] = empty_of _ (grind (arith, p)) in
    rw (before, after) (look_none _ _ _ _ (cc) (nowhere _))

pub returns-in_ok-hand_in-in-Some-found : goal.returns-in_ok-hand_in-in-Some-found
returns-in_ok-hand_in-in-Some-found t c =
    let none : own c.args.name.now (frame_of c.args.frame.now) ≡ None = let o = none_of c.own.result c.in_default.not-Some in cc in
    let split = rw c.in-Some-pop.is at c.pop.ensures.items in
    let before : frames_of c.args.enclosing.now ≡ frame_of c.in-Some-pop.outer ∷ frames_of c.pop.new.self = rw split (frames_pushed c.pop.new.self.items c.in-Some-pop.outer) in
    let after : frames_of c.push.new.self ≡ frame_of c.look.new.frame ∷ frames_of c.look.new.enclosing = rw c.in_ok-push.ensures.items (frames_pushed c.look.new.enclosing.items c.look.new.frame) in
    let found = rw c.in-Some-found.is at c.in_ok-found.ensures in
    let further : look c.args.name.now (frames_of c.args.enclosing.now) ≡ (Some c.in-Some-found.variable, frames_of c.push.new.self) = rw (before, after) found in
    let e = c.in_ok-hand_in-in-Some-found.ensures in
    rw (e.index, sym (captured_length c.args.frame.now.captures.items))
    (look_some _ (frame_of c.args.frame.now) (frame_of c.hand_in.new.self) _ _ c.in-Some-found.variable none further (rw e.locals refl) e.slots e.captures)

pub returns-in-None : goal.returns-in-None
returns-in-None t c =
    let none : own c.args.name.now (frame_of c.args.frame.now) ≡ None = let o = none_of c.own.result c.in_default.not-Some in cc in
    let split = rw c.in-Some-pop.is at c.pop.ensures.items in
    let before : frames_of c.args.enclosing.now ≡ frame_of c.in-Some-pop.outer ∷ frames_of c.pop.new.self = rw split (frames_pushed c.pop.new.self.items c.in-Some-pop.outer) in
    let after : frames_of c.push.new.self ≡ frame_of c.look.new.frame ∷ frames_of c.look.new.enclosing = rw c.in_ok-push.ensures.items (frames_pushed c.look.new.enclosing.items c.look.new.frame) in
    let found = rw c.in-None.is at c.in_ok-found.ensures in
    let further : look c.args.name.now (frames_of c.args.enclosing.now) ≡ (None, frames_of c.push.new.self) = rw (before, after) found in
    look_none _ _ _ _ none further

pub returns-in_err-found : goal.returns-in_err-found
returns-in_err-found t c =
    let none : own c.args.name.now (frame_of c.args.frame.now) ≡ None = let o = none_of c.own.result c.in_default.not-Some in cc in
    let split = rw c.in-Some-pop.is at c.pop.ensures.items in
    let before : frames_of c.args.enclosing.now ≡ frame_of c.in-Some-pop.outer ∷ frames_of c.pop.new.self = rw split (frames_pushed c.pop.new.self.items c.in-Some-pop.outer) in
    let many : OnUpvalues c.args.line (Few (look c.args.name.now (frames_of c.args.enclosing.now)).1 → ⊥) c.in_err-found.field-0.0 = rw before c.in_err-found.ensures in
    handed_match _ _ c.from_residual.result _ c.from_residual.ensures.1 (upvalues_on c.args.line {Q = Few (look c.args.name.now (frame_of c.args.frame.now ∷ frames_of c.args.enclosing.now)).1 → ⊥} _ (λ not few. not (few_further _ _ _ none few)) many)

pub returns-in_err-hand_in-in-Some-found : goal.returns-in_err-hand_in-in-Some-found
returns-in_err-hand_in-in-Some-found t c =
    let none : own c.args.name.now (frame_of c.args.frame.now) ≡ None = let o = none_of c.own.result c.in_default.not-Some in cc in
    let split = rw c.in-Some-pop.is at c.pop.ensures.items in
    let before : frames_of c.args.enclosing.now ≡ frame_of c.in-Some-pop.outer ∷ frames_of c.pop.new.self = rw split (frames_pushed c.pop.new.self.items c.in-Some-pop.outer) in
    let found = rw c.in-Some-found.is at c.in_ok-found.ensures in
    let further : look c.args.name.now (frames_of c.args.enclosing.now) ≡ (Some c.in-Some-found.variable, frame_of c.look.new.frame ∷ frames_of c.look.new.enclosing) = rw before found in
    handed_match _ _ c.from_residual-in_err-hand_in-in-Some-found.result _ c.from_residual-in_err-hand_in-in-Some-found.ensures.1
    (upvalues_on c.args.line {Q = Few (look c.args.name.now (frame_of c.args.frame.now ∷ frames_of c.args.enclosing.now)).1 → ⊥} _ (λ full.
    crowded_frame c.args.name.now (frame_of c.args.frame.now) (frames_of c.args.enclosing.now) _ c.in-Some-found.variable none further (rw (captured_length c.args.frame.now.captures.items) full)) c.in_err-hand_in-in-Some-found.ensures.crowded)
