-- Widths, lengths, literals, and types as they are written.
--
-- Read first: Faults. Widths are 1 to the greatest, arrays have 2, 4, 8 or 16 numbers, and a type has at most 64 handshakes.
use Rattle.std.specs.Prelude.{ℕ, ◌^◌, Bool, ◌&&◌, ◌||◌, ◌==◌, Option, Some, None, Ok, Err, nat_lt, nat_le, if◌then◌else◌}
use Rattle.gos_lex.specs.declared.token.Span.{Span}
use Rattle.gos_types.specs.declared.widths.TheConstants.{GREATEST_WIDTH}
use Rattle.gos_types.specs.Types.{Type', Com, Exp, Var, Pair, Fun}
use Rattle.gos_model.specs.Weight.{count}
use Rattle.gos_check.specs.Faults.{Width, TypeTooLarge, Length, Found, after}

-- whether a number is a width
abbrev pub is_width : ℕ → Bool
is_width w = nat_lt 0 w && nat_le w GREATEST_WIDTH

-- the first of two, where there is one
abbrev pub first_of : Option ℕ → Option ℕ → Option ℕ
first_of (Some w) other = Some w
first_of None other = other

-- the first number of a type from the left that is no width
abbrev pub bad_width : Type' → Option ℕ
bad_width Com = None
bad_width (Exp w) = if is_width w then None else Some w
bad_width (Var w) = if is_width w then None else Some w
bad_width (Pair a b) = first_of (bad_width a) (bad_width b)
bad_width (Fun a b) = first_of (bad_width a) (bad_width b)

-- a type, where it has no more handshakes than are allowed
abbrev pub small : Span → Type' → Found Type'
small span t = if nat_lt 64 (count t) then Err (TypeTooLarge span (count t)) else Ok t

-- nothing, where no number is wrong as a width
abbrev pub no_bad : Span → Option ℕ → Found (Unit {0})
no_bad span None = Ok tt
no_bad span (Some w) = Err (Width span w 0)

-- a written type: its widths, and then its handshakes
abbrev pub written : Span → Type' → Found Type'
written span t = after (no_bad span (bad_width t)) (λ _. small span t)

-- the written width of a variable
abbrev pub written_width : Span → ℕ → Found (Unit {0})
written_width span w = if is_width w then Ok tt else Err (Width span w 0)

-- whether an array may have so many numbers
abbrev pub is_length : ℕ → Bool
is_length n = (n == 2) || ((n == 4) || ((n == 8) || (n == 16)))

-- the written length of an array
abbrev pub written_length : Span → ℕ → Found (Unit {0})
written_length span n = if is_length n then Ok tt else Err (Length span n)

-- a literal: its width, and then its value
abbrev pub literal : Span → ℕ → ℕ → Found Type'
literal span k w = after (written_width span w) (λ _. if nat_lt k (2 ^ w) then Ok (Exp w) else Err (Width span w k))
