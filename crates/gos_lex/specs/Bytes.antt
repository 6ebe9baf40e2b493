-- The classes of bytes. A byte is a number below 256; all classes are of ASCII.
use Rattle.std.specs.Prelude.{ℕ, Bool, ◌||◌, ◌==◌}
use Rattle.std.specs.Char.{is_ascii_alphabetic, is_ascii_digit}

-- a space, a tab, a carriage return or a line feed
abbrev pub is_blank : ℕ → Bool
is_blank b = b == 32 || (b == 9 || (b == 13 || b == 10))

-- a letter or `_`
abbrev pub begins_name : ℕ → Bool
begins_name b = is_ascii_alphabetic b || b == 95

-- a letter, a digit or `_`
abbrev pub continues_name : ℕ → Bool
continues_name b = begins_name b || is_ascii_digit b
