-- A file's name is text, so it is a path.
use Rattle.std.proofs.Common.{ℕ, ◌<◌, ◌≤◌, List, length, arith}
use Rattle.std.specs.Str.{IsUtf8}
use Rattle.std.proofs.lemmas.Str.{IsUtf8-from_ascii}
use Rattle.std.proofs.lemmas.Str.Ascii.{IsAscii-from_reads}
use Rattle.gos_outside.specs.FileName.{IsFileByte, IsFileName}

file_byte_is_ascii : (b : ℕ) → IsFileByte b → b < 128
file_byte_is_ascii b is = grind arith

pub file_name_is_text : (name : List ℕ) → IsFileName name → IsUtf8 name
file_name_is_text name is =
    let whole : length name ≤ length name = omega arith in
    IsUtf8-from_ascii name (IsAscii-from_reads name (length name) whole (λ k below. file_byte_is_ascii _ (is.each k 0 below)))
