use Rattle.lua_vm_operators.proofs.OperatorLemmas.{binary_as}
use Rattle.lua_vm_operators.proofs.operators.operate.Goals as goal

pub returns-in-Add : goal.returns-in-Add
returns-in-Add g c = binary_as (g.H.Host.setting c.args.host.now) _ _ _ c.args.a c.args.b c.args.frames.now _ c.args.store.now _ _ c.in-Add.is c.arithmetic.ensures

pub returns-in-Sub : goal.returns-in-Sub
returns-in-Sub g c = binary_as (g.H.Host.setting c.args.host.now) _ _ _ c.args.a c.args.b c.args.frames.now _ c.args.store.now _ _ c.in-Sub.is c.arithmetic-in-Sub.ensures

pub returns-in-Mul : goal.returns-in-Mul
returns-in-Mul g c = binary_as (g.H.Host.setting c.args.host.now) _ _ _ c.args.a c.args.b c.args.frames.now _ c.args.store.now _ _ c.in-Mul.is c.arithmetic-in-Mul.ensures

pub returns-in-Div : goal.returns-in-Div
returns-in-Div g c = binary_as (g.H.Host.setting c.args.host.now) _ _ _ c.args.a c.args.b c.args.frames.now _ c.args.store.now _ _ c.in-Div.is c.arithmetic-in-Div.ensures

pub returns-in-Mod : goal.returns-in-Mod
returns-in-Mod g c = binary_as (g.H.Host.setting c.args.host.now) _ _ _ c.args.a c.args.b c.args.frames.now _ c.args.store.now _ _ c.in-Mod.is c.arithmetic-in-Mod.ensures

pub returns-in-Pow : goal.returns-in-Pow
returns-in-Pow g c = binary_as (g.H.Host.setting c.args.host.now) _ _ _ c.args.a c.args.b c.args.frames.now _ c.args.store.now _ _ c.in-Pow.is c.arithmetic-in-Pow.ensures

pub returns-in-Concat : goal.returns-in-Concat
returns-in-Concat g c = binary_as (g.H.Host.setting c.args.host.now) _ _ _ c.args.a c.args.b c.args.frames.now _ c.args.store.now _ _ c.in-Concat.is c.concatenation.ensures

pub returns-in-Eq : goal.returns-in-Eq
returns-in-Eq g c = binary_as (g.H.Host.setting c.args.host.now) _ _ _ c.args.a c.args.b c.args.frames.now _ c.args.store.now _ _ c.in-Eq.is c.equal.ensures

pub returns-in-Ne : goal.returns-in-Ne
returns-in-Ne g c = binary_as (g.H.Host.setting c.args.host.now) _ _ _ c.args.a c.args.b c.args.frames.now _ c.args.store.now _ _ c.in-Ne.is c.equal-in-Ne.ensures

pub returns-in-Lt : goal.returns-in-Lt
returns-in-Lt g c = binary_as (g.H.Host.setting c.args.host.now) _ _ _ c.args.a c.args.b c.args.frames.now _ c.args.store.now _ _ c.in-Lt.is c.comparison.ensures

pub returns-in-Le : goal.returns-in-Le
returns-in-Le g c = binary_as (g.H.Host.setting c.args.host.now) _ _ _ c.args.a c.args.b c.args.frames.now _ c.args.store.now _ _ c.in-Le.is c.comparison-in-Le.ensures

pub returns-in-Gt : goal.returns-in-Gt
returns-in-Gt g c = binary_as (g.H.Host.setting c.args.host.now) _ _ _ c.args.a c.args.b c.args.frames.now _ c.args.store.now _ _ c.in-Gt.is c.comparison-in-Gt.ensures

pub returns-in-Ge : goal.returns-in-Ge
returns-in-Ge g c = binary_as (g.H.Host.setting c.args.host.now) _ _ _ c.args.a c.args.b c.args.frames.now _ c.args.store.now _ _ c.in-Ge.is c.comparison-in-Ge.ensures
