-- The words of a directive, and what single words mean.
use Rattle.std.specs.Prelude.{ℕ, ◌-◌, Bool, true, false, not, ◌&&◌, ◌||◌, ◌==◌, nat_le, nat_lt, List, [], ◌∷◌, take, drop, length, filter, codes, bytes_eq}
use Rattle.std.specs.Prelude.{slice_index_or, Option, Some, None, if◌then◌else◌}
use Rattle.std.specs.List.{list_all, starts_with, ends_with}
use Rattle.std.specs.Option.{option_and_then}
use Rattle.std.specs.Char.{is_ascii_alphanumeric}
use Rattle.resty_base.specs.Ascii.{space, tilde, underscore, dash, dot, question_mark, semicolon}
use Rattle.conf_rules.specs.Values.{number_of}

-- the word at an index, empty where there is none
abbrev pub word : List (List ℕ) → ℕ → List ℕ
word words index = slice_index_or words index []

-- the number of a log level (lua-nginx-module manual, "Nginx log level constants")
abbrev pub level_of : List ℕ → Option ℕ
level_of name =
    if bytes_eq name (codes "emerg") then Some 1
    else if bytes_eq name (codes "alert") then Some 2
    else if bytes_eq name (codes "crit") then Some 3
    else if bytes_eq name (codes "error") then Some 4
    else if bytes_eq name (codes "warn") then Some 5
    else if bytes_eq name (codes "notice") then Some 6
    else if bytes_eq name (codes "info") then Some 7
    else if bytes_eq name (codes "debug") then Some 8
    else None

-- the level that the words of `error_log` give: a path, and a level or none
abbrev pub level_in : List (List ℕ) → Option ℕ
level_in words = if length words == 1 then Some 4 else if length words == 2 then level_of (word words 1) else None

-- the text begins with these bytes
abbrev pub begins : List ℕ → List ℕ → Bool
begins text front = starts_with (λ a b. a == b) text front

-- what stands after the address of `listen`, where it has one
abbrev pub port_text : List ℕ → List ℕ
port_text text = if begins text (codes "127.0.0.1:") || begins text (codes "localhost:") then drop 10 text else text

-- the number, where it is a port
abbrev pub in_ports : ℕ → Option ℕ
in_ports number = if nat_lt 0 number && nat_le number 65_535 then Some number else None

-- the port that a word of `listen` names
abbrev pub port_of : List ℕ → Option ℕ
port_of text = option_and_then in_ports (number_of (port_text text))

-- a visible byte of ASCII, or a space
abbrev pub is_plain : ℕ → Bool
is_plain b = nat_le space b && nat_le b tilde

-- all bytes are visible ones of ASCII, or spaces
abbrev pub are_plain : List ℕ → Bool
are_plain text = list_all is_plain text

-- a pattern without the `;;` that stands for the default path
abbrev pub without_default : List ℕ → List ℕ
without_default text = if ends_with (λ a b. a == b) text (codes ";;") then take (length text - 2) text else text

-- how many such bytes there are
abbrev pub count_of : List ℕ → ℕ → ℕ
count_of text b = length (filter (λ other. other == b) text)

-- one pattern of a path: plain bytes with one `?`, and no `;`
abbrev pub is_pattern : List ℕ → Bool
is_pattern text = are_plain text && count_of text question_mark == 1 && count_of text semicolon == 0

-- the names of dictionaries are made of letters, digits, `_`, `-` and `.`
abbrev pub is_name_byte : ℕ → Bool
is_name_byte b = is_ascii_alphanumeric b || b == underscore || b == dash || b == dot

-- all bytes may stand in the name of a dictionary
abbrev pub are_name_bytes : List ℕ → Bool
are_name_bytes text = list_all is_name_byte text

-- the text may be the name of a dictionary: it isn't empty, and all its bytes may stand there
abbrev pub is_name : List ℕ → Bool
is_name text = not (length text == 0) && are_name_bytes text

-- the text begins with this byte
abbrev pub begins_with : List ℕ → ℕ → Bool
begins_with [] b = false
begins_with (first ∷ text) b = first == b
