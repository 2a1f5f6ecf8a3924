-- The first of the moments is that of the deadline that comes first.
use Rattle.std.proofs.Common.{◌≡◌, Some, None, ap, ◌∙◌, sym}
use Rattle.wakes.specs.declared.deadlines.Armed.{Armed}
use Rattle.wakes.proofs.Soonest.{first-is, none-is, empty-is}
use Rattle.wakes.proofs.deadlines.Deadlines.first.Goals as goal

pub returns-in_default : goal.returns-in_default
returns-in_default c =
    let e = none-is c.self.inside.by_number c.self.inside.by_moment c.self.inside.last c.self.invariant (empty-is c.self.inside.by_moment.keys c.in_default.ensures.variant.1) in
    rw (← c.self.view_is) (sym e)

pub returns-in_default-get : goal.returns-in_default-get
returns-in_default-get c =
    let at = c.in-Some.field-0.now in
    let f = first-is c.self.inside.by_number c.self.inside.by_moment c.self.inside.last at.0 at.1 c.self.invariant c.in-Some.ensures.member c.in-Some.ensures.least in
    absurd (let g : None ≡ Some f.0 = c.in_default-get.ensures.value ∙ f.3 in cc)

pub returns : goal.returns
returns c =
    let at = c.in-Some.field-0.now in
    let f = first-is c.self.inside.by_number c.self.inside.by_moment c.self.inside.last at.0 at.1 c.self.invariant c.in-Some.ensures.member c.in-Some.ensures.least in
    let g : Some c.in-Some-get.armed.now ≡ Some f.0 = c.in-Some-get.ensures.value ∙ f.3 in
    let h : c.in-Some-get.armed.now ≡ f.0 = cc in
    rw (← c.self.view_is) (ap (λ (a : Armed). Some (at.1, a)) h ∙ sym f.1)
