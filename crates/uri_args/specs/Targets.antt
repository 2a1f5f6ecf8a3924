-- Targets: an absolute path with arguments, or `http://`, a host and these (RFC 9112, 3.2.1 and 3.2.2).
use Rattle.std.specs.Prelude.{ℕ, Bool, false, ◌==◌, List, [], ◌∷◌, codes, length, drop, Option, None, Some, if◌then◌else◌}
use Rattle.std.specs.List.{starts_with}
use Rattle.std.specs.Option.{option_map, unwrap_or}
use Rattle.resty_base.specs.Ascii.{slash, question_mark}
use Rattle.http_base.specs.Hosts.{plain_host}
use Rattle.http_base.specs.Splitting.{before, after}
use Rattle.uri_args.specs.Paths.{path_of}
use Rattle.uri_args.specs.declared.targets.Target.{Target}

-- the text begins with `/`
abbrev pub begins_with_slash : List ℕ → Bool
begins_with_slash [] = false
begins_with_slash (b ∷ rest) = b == slash

-- a target from its path on, on this host: the path up to the first `?`, and the arguments after it
abbrev pub local_target : Option (List ℕ) → List ℕ → Option Target
local_target host local =
    if begins_with_slash local
    then option_map (λ path. record { path = path; args = unwrap_or (after question_mark local) []; host = host }) (path_of (before question_mark local))
    else None

-- an absolute target, by what stands after its `http://`: a host of one byte or more up to the first `/`, and the rest
abbrev pub absolute_target : List ℕ → Option Target
absolute_target rest =
    let authority = before slash rest in
    if length authority == 0 then None else local_target (Some (plain_host authority)) (drop (length authority) rest)

-- what the target says, None where it is refused
abbrev pub target_of : List ℕ → Option Target
target_of target = if starts_with (λ a b. a == b) target (codes "http://") then absolute_target (drop 7 target) else local_target None target
