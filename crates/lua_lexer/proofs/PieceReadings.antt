-- What it is that a piece was read, and that a piece by the rules is covered by the one that is read.
use Rattle.std.proofs.Common.{◌≡◌, ℕ, ◌<◌, ◌≤◌, List, ◌++◌, length, drop, take, Option, Result, Ok, Err, refl, arith, length-append}
use Rattle.std.proofs.lemmas.List.{take_at, drop_at}
use Rattle.lua_lexer.specs.declared.tokens.LexFault.{LexFault}
use Rattle.lua_lexer.specs.declared.tokens.Piece.{Piece}
use Rattle.lua_lexer.specs.declared.tokens.TokenKind.{TokenKind}
use Rattle.lua_lexer.specs.Lexical.{IsPiece, IsFault}
use Rattle.lua_lexer.specs.Tokens.{piece}

-- the first bytes of the text are a piece of that kind
pub record IsRead (text : List ℕ) (found : Piece) : Type 0 where
  pub some : 0 < found.size
  pub within : found.size ≤ length text
  pub is : IsPiece (take found.size text) (drop found.size text) found.kind

-- what was read is a piece by the rules, or a fault by them
abbrev pub Sound : ℕ → List ℕ → Result Piece LexFault → Type 0
Sound line text (Ok found) = IsRead text found
Sound line text (Err fault) = IsFault line text fault

-- a text in two parts, of which the first is a piece
pub parts_read : (bytes after : List ℕ) (found : Piece) → length bytes ≡ found.size → 0 < length bytes → IsPiece bytes after found.kind
    → IsRead (bytes ++ after) found
parts_read bytes after found size some is = record {
  some = omega arith;
  within = omega (arith, length-append bytes after);
  is = rw (take_at bytes after found.size size, drop_at bytes after found.size size) is;
}

-- what is read at the front of the text is no shorter than that piece, and of its kind where it is as long
pub record Covers (line : ℕ) (bytes after : List ℕ) (kind : Option TokenKind) : Type 0 where
  pub found : Piece
  pub reads : piece line (bytes ++ after) ≡ Ok found
  pub least : length bytes ≤ found.size
  pub same : length bytes ≡ found.size → kind ≡ found.kind

pub covers_whole : (line : ℕ) (bytes after : List ℕ) (kind : Option TokenKind)
    → piece line (bytes ++ after) ≡ Ok (record { kind = kind; size = length bytes }) → Covers line bytes after kind
covers_whole line bytes after kind reads = record {
  found = record { kind = kind; size = length bytes };
  reads = reads;
  least = omega arith;
  same = λ whole. refl;
}
