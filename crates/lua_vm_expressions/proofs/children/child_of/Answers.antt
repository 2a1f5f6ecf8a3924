use Rattle.std.proofs.Common.{◌≡◌, rules}
use Rattle.lua_vm_expressions.proofs.ChildForms.{begins_as, binary_begins, and_begins, or_begins, index_begins, method_begins}
use Rattle.lua_vm_expressions.proofs.children.child_of.Goals as goal

pub returns-in_ok-share-in-Binary : goal.returns-in_ok-share-in-Binary
returns-in_ok-share-in-Binary c =
    begins_as c.args.x.now _ _ _ _ c.begins_with.ensures c.deref.ensures (binary_begins c.args.x.now c.in-Binary.operator c.in-Binary.a c.in-Binary.b c.in_ok-share-in-Binary.field-0 c.in-Binary.is c.in_ok-share-in-Binary.ensures)

pub returns-in_ok-share-in-And : goal.returns-in_ok-share-in-And
returns-in_ok-share-in-And c =
    begins_as c.args.x.now _ _ _ _ c.begins_with-in-And.ensures c.deref-in-And.ensures (and_begins c.args.x.now c.in-And.a c.in-And.b c.in_ok-share-in-And.field-0 c.in-And.is c.in_ok-share-in-And.ensures)

pub returns-in_ok-share-in-Or : goal.returns-in_ok-share-in-Or
returns-in_ok-share-in-Or c =
    begins_as c.args.x.now _ _ _ _ c.begins_with-in-Or.ensures c.deref-in-Or.ensures (or_begins c.args.x.now c.in-Or.a c.in-Or.b c.in_ok-share-in-Or.field-0 c.in-Or.is c.in_ok-share-in-Or.ensures)

pub returns-in_ok-share-in-Index : goal.returns-in_ok-share-in-Index
returns-in_ok-share-in-Index c =
    begins_as c.args.x.now _ _ _ _ c.begins_with-in-Index.ensures c.deref-in-Index.ensures (index_begins c.args.x.now c.in-Index.a c.in-Index.b c.in_ok-share-in-Index.field-0 c.in-Index.is c.in_ok-share-in-Index.ensures)

pub returns-in_ok-share-in-Method : goal.returns-in_ok-share-in-Method
returns-in_ok-share-in-Method c =
    let same : c.in_ok-clone-in-Method.field-0 ≡ c.in-Method.name = search rules in
    begins_as c.args.x.now _ _ _ _ c.begins_with-in-Method-2.ensures c.deref-in-Method.ensures (method_begins c.args.x.now c.in-Method.a c.in-Method.name c.in_ok-clone-in-Method.field-0 c.in-Method.args c.in_ok-share-in-Method.field-0 c.in-Method.is same c.in_ok-share-in-Method.ensures)
