-- The type of a term, or its first fault.
--
-- Read first: Written, Scopes, Free, Demands. The faults of a node come in this order: those of its written type, length, width or
-- literal, the length before the width; those of its parts from left to right; those of its own demands from left to right; a name that is free in both
-- parts of an application or of `||`; a type with too many handshakes.
use Rattle.std.specs.Prelude.{◌∷◌, Ok}
use Rattle.gos_lex.specs.declared.token.Span.{Span}
use Rattle.gos_types.specs.Types.{Type', Com, Var, Pair, Fun}
use Rattle.gos_syntax.specs.Trees.{Tree, Skip, Lit, Use, Lam, New, Array, App, Both, Fst, Snd, Seq, Par, If, While, Assign, Deref, Not, Bin}
use Rattle.gos_model.specs.Typing.{Imports, array_type}
use Rattle.gos_check.specs.Faults.{Found, after}
use Rattle.gos_check.specs.Written.{small, written, written_width, written_length, literal}
use Rattle.gos_check.specs.Scopes.{Binders, type_at, used}
use Rattle.gos_check.specs.Free.{free, apart}
use Rattle.gos_check.specs.Demands.{done, application, first_side, second_side, sequence, parallel, choice, looping, assignment, reading, negation, operation}

-- the place of a tree
abbrev pub place_of : Tree → Span
place_of (Skip s) = s
place_of (Lit s k w) = s
place_of (Use s x) = s
place_of (Lam s x a t m) = s
place_of (New s x w t m) = s
place_of (Array s x n u w t m) = s
place_of (App s m n) = s
place_of (Both s m n) = s
place_of (Fst s m) = s
place_of (Snd s m) = s
place_of (Seq s m n) = s
place_of (Par s m n) = s
place_of (If s m n p) = s
place_of (While s m n) = s
place_of (Assign s m n) = s
place_of (Deref s m) = s
place_of (Not s m) = s
place_of (Bin s op m n) = s

-- what a rule makes of the types of two parts, the left one first
abbrev pub of_two : Found Type' → Found Type' → (Type' → Type' → Found Type') → Found Type'
of_two m n rule = after m (λ a. after n (λ b. rule a b))

-- what a rule makes of the types of three parts, from left to right
abbrev pub of_three : Found Type' → Found Type' → Found Type' → (Type' → Type' → Type' → Found Type') → Found Type'
of_three m n p rule = after m (λ a. after n (λ b. after p (λ c. rule a b c)))

-- a type, where besides two parts share no name
abbrev pub separate : Tree → Tree → Found Type' → Found Type'
separate m n found = after found (λ t. after (apart (free m) (free n)) (λ _. Ok t))

-- a type, where besides it has no more handshakes than are allowed
abbrev pub sized : Span → Found Type' → Found Type'
sized s found = after found (λ t. small s t)

-- the type of a tree under imports and binders, or its first fault
abbrev pub judged : Imports → Binders → Tree → Found Type'
judged i g (Skip s) = sized s (Ok Com)
judged i g (Lit s k w) = sized s (literal s k w)
judged i g (Use s x) = sized s (used s x (type_at i g x))
judged i g (Lam s x a t m) = sized s (after (written t a) (λ _. after (judged i (record { name = x; ty = a } ∷ g) m) (λ b. Ok (Fun a b))))
judged i g (New s x w t m) =
    sized s (after (written_width t w) (λ _. after (judged i (record { name = x; ty = Var w } ∷ g) m) (λ b. done (place_of m) b)))
judged i g (Array s x n u w t m) =
    sized s (after (written_length u n) (λ _. after (written_width t w) (λ _.
    after (judged i (record { name = x; ty = array_type n w } ∷ g) m) (λ b. done (place_of m) b))))
judged i g (App s m n) = sized s (of_two (judged i g m) (judged i g n) (λ a b. separate m n (application (place_of m) a (place_of n) b)))
judged i g (Both s m n) = sized s (of_two (judged i g m) (judged i g n) (λ a b. Ok (Pair a b)))
judged i g (Fst s m) = sized s (after (judged i g m) (λ a. first_side (place_of m) a))
judged i g (Snd s m) = sized s (after (judged i g m) (λ a. second_side (place_of m) a))
judged i g (Seq s m n) = sized s (of_two (judged i g m) (judged i g n) (λ a b. sequence (place_of m) a (place_of n) b))
judged i g (Par s m n) = sized s (of_two (judged i g m) (judged i g n) (λ a b. separate m n (parallel (place_of m) a (place_of n) b)))
judged i g (If s m n p) =
    sized s (of_three (judged i g m) (judged i g n) (judged i g p) (λ a b c. choice (place_of m) a (place_of n) b (place_of p) c))
judged i g (While s m n) = sized s (of_two (judged i g m) (judged i g n) (λ a b. looping (place_of m) a (place_of n) b))
judged i g (Assign s m n) = sized s (of_two (judged i g m) (judged i g n) (λ a b. assignment (place_of m) a (place_of n) b))
judged i g (Deref s m) = sized s (after (judged i g m) (λ a. reading (place_of m) a))
judged i g (Not s m) = sized s (after (judged i g m) (λ a. negation (place_of m) a))
judged i g (Bin s op m n) = sized s (of_two (judged i g m) (judged i g n) (λ a b. operation op (place_of m) a (place_of n) b))
