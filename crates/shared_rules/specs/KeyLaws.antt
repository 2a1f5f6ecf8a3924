-- That the test of keys tells what is the same.
use Rattle.std.specs.Prelude.{◌≡◌, ℕ, true, List}
use Rattle.std.proofs.Common.{sym}
use Rattle.std.specs.Cmp.Lexicographic.{same_text}
use Rattle.shared_rules.specs.Keys.{same_key}

pub same_key-eq : (x y : List ℕ) → same_key x y ≡ true → x ≡ y
same_key-eq x y same = same_text x y (sym same)
