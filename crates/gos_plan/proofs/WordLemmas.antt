-- The tables of words of a plan's text.
use Rattle.std.proofs.Common.{◌≡◌, ℕ, zero, suc, true, List, [], ◌∷◌, ◌++◌, map, Some, slice_get, refl, subst}
use Rattle.gos_plan.specs.declared.format.Format.{Format}
use Rattle.gos_plan.specs.declared.format.Format.TheVariants.{One, Two}
use Rattle.gos_plan.specs.Formats.{head_text}
use Rattle.gos_plan.specs.declared.kinds.Op2.TheVariants as ops
use Rattle.gos_plan.specs.declared.word.BareWord.TheVariants as bare
use Rattle.gos_plan.specs.declared.word.SizedWord.TheVariants as sized
use Rattle.gos_plan.specs.declared.word.PartWord.{PartWord}
use Rattle.gos_plan.specs.declared.word.PartWord.TheVariants as parts
use Rattle.gos_plan.specs.declared.word.TypeWord.{TypeWord}
use Rattle.gos_plan.specs.declared.word.TypeWord.TheVariants as types
use Rattle.gos_plan.specs.declared.word.BodyWord.{BodyWord}
use Rattle.gos_plan.specs.declared.word.BodyWord.TheVariants as bodies
use Rattle.gos_plan.specs.declared.word.LengthWord.{LengthWord}
use Rattle.gos_plan.specs.declared.word.LengthWord.TheVariants as lengths
use Rattle.gos_plan.specs.declared.word.EndWord.{EndWord}
use Rattle.gos_plan.specs.declared.word.EndWord.TheVariants as ends
use Rattle.gos_plan.specs.ObjectText.{word_text}
use Rattle.gos_plan.specs.ObjectItems.{letters, body_word_text, length_text, IsWordIn, end_word_text}
use Rattle.gos_plan.proofs.TableLemmas.{is_apart, TableOf, Table}

abbrev older_parts : List PartWord
older_parts =
    parts.Bare bare.Skip ∷ parts.Bare bare.Seq ∷ parts.Bare bare.Par ∷ parts.Bare bare.If ∷ parts.Bare bare.While
    ∷ parts.Sized sized.SeqExp ∷ parts.Sized sized.IfExp
    ∷ parts.Sized (sized.Op ops.Add) ∷ parts.Sized (sized.Op ops.Sub) ∷ parts.Sized (sized.Op ops.And) ∷ parts.Sized (sized.Op ops.Or)
    ∷ parts.Sized (sized.Op ops.Xor) ∷ parts.Sized (sized.Op ops.Eq) ∷ parts.Sized (sized.Op ops.Less)
    ∷ parts.Sized sized.Not ∷ parts.Sized sized.Assign ∷ parts.Sized sized.Deref ∷ parts.Lit ∷ parts.Local ∷ parts.Share ∷ []

-- an array's word comes last
abbrev pub all_parts : Format → List PartWord
all_parts One = older_parts
all_parts Two = older_parts ++ parts.Array ∷ []

abbrev part_place : PartWord → ℕ
part_place (parts.Bare bare.Skip) = 0
part_place (parts.Bare bare.Seq) = 1
part_place (parts.Bare bare.Par) = 2
part_place (parts.Bare bare.If) = 3
part_place (parts.Bare bare.While) = 4
part_place (parts.Sized sized.SeqExp) = 5
part_place (parts.Sized sized.IfExp) = 6
part_place (parts.Sized (sized.Op ops.Add)) = 7
part_place (parts.Sized (sized.Op ops.Sub)) = 8
part_place (parts.Sized (sized.Op ops.And)) = 9
part_place (parts.Sized (sized.Op ops.Or)) = 10
part_place (parts.Sized (sized.Op ops.Xor)) = 11
part_place (parts.Sized (sized.Op ops.Eq)) = 12
part_place (parts.Sized (sized.Op ops.Less)) = 13
part_place (parts.Sized sized.Not) = 14
part_place (parts.Sized sized.Assign) = 15
part_place (parts.Sized sized.Deref) = 16
part_place parts.Lit = 17
part_place parts.Local = 18
part_place parts.Share = 19
part_place parts.Array = 20

pub part_stands : (format : Format) (v : PartWord) → IsWordIn format v → slice_get (all_parts format) (part_place v) ≡ Some v
part_stands One (parts.Bare bare.Skip) is = refl
part_stands One (parts.Bare bare.Seq) is = refl
part_stands One (parts.Bare bare.Par) is = refl
part_stands One (parts.Bare bare.If) is = refl
part_stands One (parts.Bare bare.While) is = refl
part_stands One (parts.Sized sized.SeqExp) is = refl
part_stands One (parts.Sized sized.IfExp) is = refl
part_stands One (parts.Sized (sized.Op ops.Add)) is = refl
part_stands One (parts.Sized (sized.Op ops.Sub)) is = refl
part_stands One (parts.Sized (sized.Op ops.And)) is = refl
part_stands One (parts.Sized (sized.Op ops.Or)) is = refl
part_stands One (parts.Sized (sized.Op ops.Xor)) is = refl
part_stands One (parts.Sized (sized.Op ops.Eq)) is = refl
part_stands One (parts.Sized (sized.Op ops.Less)) is = refl
part_stands One (parts.Sized sized.Not) is = refl
part_stands One (parts.Sized sized.Assign) is = refl
part_stands One (parts.Sized sized.Deref) is = refl
part_stands One parts.Lit is = refl
part_stands One parts.Local is = refl
part_stands One parts.Share is = refl
part_stands One parts.Array is = absurd is
part_stands Two (parts.Bare bare.Skip) is = refl
part_stands Two (parts.Bare bare.Seq) is = refl
part_stands Two (parts.Bare bare.Par) is = refl
part_stands Two (parts.Bare bare.If) is = refl
part_stands Two (parts.Bare bare.While) is = refl
part_stands Two (parts.Sized sized.SeqExp) is = refl
part_stands Two (parts.Sized sized.IfExp) is = refl
part_stands Two (parts.Sized (sized.Op ops.Add)) is = refl
part_stands Two (parts.Sized (sized.Op ops.Sub)) is = refl
part_stands Two (parts.Sized (sized.Op ops.And)) is = refl
part_stands Two (parts.Sized (sized.Op ops.Or)) is = refl
part_stands Two (parts.Sized (sized.Op ops.Xor)) is = refl
part_stands Two (parts.Sized (sized.Op ops.Eq)) is = refl
part_stands Two (parts.Sized (sized.Op ops.Less)) is = refl
part_stands Two (parts.Sized sized.Not) is = refl
part_stands Two (parts.Sized sized.Assign) is = refl
part_stands Two (parts.Sized sized.Deref) is = refl
part_stands Two parts.Lit is = refl
part_stands Two parts.Local is = refl
part_stands Two parts.Share is = refl
part_stands Two parts.Array is = refl

-- the values of a list are so, where each of it is
abbrev pub Each : (PartWord → Type 0) → List PartWord → Type 0
Each Is [] = Unit {0}
Each Is (v ∷ vs) = Is v × Each Is vs

pub each_at : (Is : PartWord → Type 0) (vs : List PartWord) (k : ℕ) (v : PartWord) → Each Is vs → slice_get vs k ≡ Some v → Is v
each_at Is [] k v each at = absurd cc
each_at Is (w ∷ vs) zero v each at = let same : w ≡ v = cc at in subst Is same each.0
each_at Is (w ∷ vs) (suc k) v each at = each_at Is vs k v each.1 at

pub all_words : (format : Format) → Each (IsWordIn format) (all_parts format)
all_words One = (tt, (tt, (tt, (tt, (tt, (tt, (tt, (tt, (tt, (tt, (tt, (tt, (tt, (tt, (tt, (tt, (tt, (tt, (tt, (tt, tt))))))))))))))))))))
all_words Two = (tt, (tt, (tt, (tt, (tt, (tt, (tt, (tt, (tt, (tt, (tt, (tt, (tt, (tt, (tt, (tt, (tt, (tt, (tt, (tt, (tt, tt)))))))))))))))))))))

abbrev pub part_table : (format : Format) → TableOf PartWord (IsWordIn format) word_text
part_table format =
    record {
      all = all_parts format;
      apart = apart format;
      place = part_place;
      stands = part_stands format;
      among = λ k v at. each_at (IsWordIn format) (all_parts format) k v (all_words format) at;
    }
  where
    apart : (format : Format) → is_apart (map word_text (all_parts format)) ≡ true
    apart One = refl
    apart Two = refl

abbrev all_heads : List Format
all_heads = One ∷ Two ∷ []

abbrev head_place : Format → ℕ
head_place One = 0
head_place Two = 1

pub head_stands : (format : Format) → slice_get all_heads (head_place format) ≡ Some format
head_stands One = refl
head_stands Two = refl

abbrev pub head_table : Table Format head_text
head_table = record { all = all_heads; apart = refl; place = head_place; stands = head_stands }

abbrev type_place : TypeWord → ℕ
type_place types.Com = 0
type_place types.Exp = 1
type_place types.Var = 2
type_place types.Pair = 3
type_place types.Fun = 4

abbrev all_types : List TypeWord
all_types = types.Com ∷ types.Exp ∷ types.Var ∷ types.Pair ∷ types.Fun ∷ []

pub type_stands : (v : TypeWord) → slice_get all_types (type_place v) ≡ Some v
type_stands types.Com = refl
type_stands types.Exp = refl
type_stands types.Var = refl
type_stands types.Pair = refl
type_stands types.Fun = refl

abbrev pub type_table : Table TypeWord letters
type_table = record { all = all_types; apart = refl; place = type_place; stands = type_stands }

abbrev body_place : BodyWord → ℕ
body_place bodies.Com = 0
body_place bodies.Exp = 1

abbrev all_bodies : List BodyWord
all_bodies = bodies.Com ∷ bodies.Exp ∷ []

pub body_stands : (v : BodyWord) → slice_get all_bodies (body_place v) ≡ Some v
body_stands bodies.Com = refl
body_stands bodies.Exp = refl

abbrev pub body_table : Table BodyWord body_word_text
body_table = record { all = all_bodies; apart = refl; place = body_place; stands = body_stands }

abbrev length_place : LengthWord → ℕ
length_place lengths.Two = 0
length_place lengths.Four = 1
length_place lengths.Eight = 2
length_place lengths.Sixteen = 3

abbrev all_lengths : List LengthWord
all_lengths = lengths.Two ∷ lengths.Four ∷ lengths.Eight ∷ lengths.Sixteen ∷ []

pub length_stands : (v : LengthWord) → slice_get all_lengths (length_place v) ≡ Some v
length_stands lengths.Two = refl
length_stands lengths.Four = refl
length_stands lengths.Eight = refl
length_stands lengths.Sixteen = refl

abbrev pub length_table : Table LengthWord length_text
length_table = record { all = all_lengths; apart = refl; place = length_place; stands = length_stands }

abbrev end_place : EndWord → ℕ
end_place ends.Part = 0
end_place ends.Import = 1
end_place ends.Result = 2

abbrev all_ends : List EndWord
all_ends = ends.Part ∷ ends.Import ∷ ends.Result ∷ []

pub end_stands : (v : EndWord) → slice_get all_ends (end_place v) ≡ Some v
end_stands ends.Part = refl
end_stands ends.Import = refl
end_stands ends.Result = refl

abbrev pub end_table : Table EndWord end_word_text
end_table = record { all = all_ends; apart = refl; place = end_place; stands = end_stands }
