-- How the body of a request is framed (RFC 9112, sections 6.1 to 6.3).
use Rattle.std.specs.Prelude.{ℕ, Bool, false, ◌-◌, ◌==◌, ◌&&◌, List, [], ◌∷◌, length, flat_map, Result, Ok, Err, nat_lt, codes, slice_get, if◌then◌else◌}
use Rattle.std.specs.List.{list_all}
use Rattle.std.specs.Option.{option_map_or}
use Rattle.std.specs.Str.{bytes_eq, all_ascii_digits}
use Rattle.std.specs.Str.Parse.{digits_value}
use Rattle.resty_base.specs.declared.names.Pair2.{Pair2}
use Rattle.http_base.specs.Elements.{elements}
use Rattle.http_base.specs.FieldLists.{values_of}
use Rattle.http_base.specs.Names.{same_name}
use Rattle.http_in.specs.declared.framing.BodyKind.{BodyKind}
use Rattle.http_in.specs.declared.framing.BodyKind.TheVariants.{Nothing, Length, Chunked}

-- the elements of all fields of this name
abbrev pub listed : List Pair2 → List ℕ → List (List ℕ)
listed fields name = flat_map elements (values_of fields name)

-- the last coding is `chunked`
abbrev pub ends_chunked : List (List ℕ) → Bool
ends_chunked codings = option_map_or (λ coding. same_name coding (codes "chunked")) (slice_get codings (length codings - 1)) false

-- of codings: 400 where the last isn't `chunked`, 501 where others stand before it
abbrev pub coded : List (List ℕ) → Result BodyKind ℕ
coded codings = if ends_chunked codings then (if nat_lt 1 (length codings) then Err 501 else Ok Chunked) else Err 400

-- a number of 1 to 15 digits
abbrev pub is_length : List ℕ → Bool
is_length text = nat_lt 0 (length text) && nat_lt (length text) 16 && all_ascii_digits text

-- each of the texts is this one
abbrev pub are_all : List (List ℕ) → List ℕ → Bool
are_all values text = list_all (λ value. bytes_eq value text) values

-- of lengths: none, or one number, maybe repeated, else 400
abbrev pub counted : List (List ℕ) → Result BodyKind ℕ
counted [] = Ok Nothing
counted (text ∷ others) = if is_length text && are_all others text then Ok (Length (digits_value 10 text)) else Err 400

-- of codings and lengths: codings need 1.1 and no length beside them
abbrev pub framed : ℕ → List (List ℕ) → List (List ℕ) → Result BodyKind ℕ
framed minor [] lengths = counted lengths
framed minor (coding ∷ codings) [] = if minor == 0 then Err 400 else coded (coding ∷ codings)
framed minor (coding ∷ codings) (text ∷ lengths) = Err 400

-- the body's framing, or the status that the head is refused with
abbrev pub framing : ℕ → List Pair2 → Result BodyKind ℕ
framing minor fields = framed minor (listed fields (codes "transfer-encoding")) (values_of fields (codes "content-length"))
