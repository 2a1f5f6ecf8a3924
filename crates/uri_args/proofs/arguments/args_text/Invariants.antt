use Rattle.std.proofs.Common.{◌≡◌, ◌++◌, ◌∷◌, [], drop, string_bytes}
use Rattle.std.specs.List.{flat_map}
use Rattle.uri_args.specs.Arguments as spec
use Rattle.uri_args.proofs.arguments.args_text.Given as goal

abbrev pub invariant-loop-pair : goal.invariant-loop-pair
invariant-loop-pair l =
    string_bytes l.text ++ flat_map (λ pair. (spec.ampersand ∷ []) ++ spec.pair_text pair) (drop l.pair-index l.others) ≡ spec.args_text l.pairs
