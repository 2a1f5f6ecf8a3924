use Rattle.std.proofs.Common.{◌≡◌, ◌+◌, ◌-◌, suc, ◌∙◌, ap, arith}
use Rattle.std.specs.List.{range_with_len}
use Rattle.lua_site.specs.Making.{and_then, for_each}
use Rattle.lua_site.specs.Loading.{native_set}
use Rattle.lua_site.proofs.natives_table.set_natives.Goals as goal

pub loop-native-preserved : goal.loop-native-preserved
loop-native-preserved c =
    let n = c.loop-native.native in
    let left = c.args.natives - (n + 1) in
    let more : c.args.natives - n ≡ suc left = omega (arith, c.loop-native-test.true) in
    c.loop-native.invariant ∙ ap (λ k. for_each native_set c.loop-native.store.heap (range_with_len n k)) more
    ∙ ap (λ m. and_then m (λ h. for_each native_set h (range_with_len (n + 1) left))) c.in_ok-set_native.ensures
