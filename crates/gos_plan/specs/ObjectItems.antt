-- The items of a plan's text, as its reader passes them.
--
-- Read first: TextItems, ObjectText. A type is one word, or a word and two operands; a limit is exceeded at the first byte
-- of a word of a type, where the type can't have at most 64 handshakes with that word.
use Rattle.std.specs.Prelude.{◌≡◌, ℕ, zero, suc, ◌+◌, ◌-◌, ◌^◌, ◌<◌, ◌≤◌, List, [], ◌∷◌, ◌++◌, length, codes}
use Rattle.gos_types.specs.Types.{Type', Com, Exp, Var, Pair, Fun}
use Rattle.gos_types.specs.Handshakes.{handshakes_of}
use Rattle.gos_plan.specs.declared.word.PartWord.{PartWord}
use Rattle.gos_plan.specs.declared.word.PartWord.TheVariants as parts
use Rattle.gos_plan.specs.declared.word.TypeWord.{TypeWord}
use Rattle.gos_plan.specs.declared.word.TypeWord.TheVariants as types
use Rattle.gos_plan.specs.declared.word.BodyWord.{BodyWord}
use Rattle.gos_plan.specs.declared.word.BodyWord.TheVariants as bodies
use Rattle.gos_plan.specs.declared.word.LengthWord.{LengthWord}
use Rattle.gos_plan.specs.declared.word.LengthWord.TheVariants as lengths
use Rattle.gos_plan.specs.declared.word.EndWord.{EndWord}
use Rattle.gos_plan.specs.declared.word.EndWord.TheVariants as ends
use Rattle.gos_plan.specs.declared.word.BareWord.{BareWord}
use Rattle.gos_plan.specs.declared.word.BareWord.TheVariants as bare
use Rattle.gos_plan.specs.declared.word.SizedWord.{SizedWord}
use Rattle.gos_plan.specs.declared.word.SizedWord.TheVariants as sized
use Rattle.gos_plan.specs.Kinds.{Part, Skip, Seq, Par, If, While, Op, Not, Assign, Deref}
use Rattle.gos_plan.specs.Seen.{operation_of}
use Rattle.gos_model.specs.Typing.{Imported, IsLength}
use Rattle.gos_plan.specs.Plans.{End, PartEnd, ImportEnd, ResultEnd, Joint, Plan}
use Rattle.gos_plan.specs.declared.format.Format.{Format}
use Rattle.gos_plan.specs.Formats.{greatest, HasArrays, HasWidthsIn, head_text}
use Rattle.gos_plan.specs.TextItems.{Item, Spans, Behind, both, plain, exactly, words, number_in, any_name, section}
use Rattle.gos_plan.specs.ObjectText.{number_text, type_text, word_text, word_of, bits_text, body_text, operands_text, part_text, import_text, end_text, joint_text, text_in, IsWritablePart, IsWritableImport, IsWritableEnd, IsWritableJoint, IsWritable, IsSmallType, IsSmallPart, IsSmallPlan}

-- how many handshakes a type has
abbrev pub shakes : Type' → ℕ
shakes t = length (handshakes_of t)

-- the word of a type
abbrev pub letters : TypeWord → List ℕ
letters types.Com = codes "com"
letters types.Exp = codes "exp"
letters types.Var = codes "var"
letters types.Pair = codes "pair"
letters types.Fun = codes "fun"

abbrev pub word_of_type : Type' → TypeWord
word_of_type Com = types.Com
word_of_type (Exp w) = types.Exp
word_of_type (Var w) = types.Var
word_of_type (Pair a b) = types.Pair
word_of_type (Fun a b) = types.Fun

-- the handshakes of a word that is a type's last, and one for each operand of another one
abbrev pub least : TypeWord → ℕ
least types.Com = 1
least types.Exp = 1
least word = 2

-- A word of a type. Before it stand words with so many handshakes, counted with one for each operand that comes behind
-- what begins with this word.
abbrev pub type_word : ℕ → Item
type_word before =
    record {
      Value = TypeWord;
      Is = λ word. Unit {0};
      Keeps = λ word. before + least word ≤ 64;
      text = letters;
      Over = λ source at place. (place ≡ at) × (word : TypeWord) × (end : ℕ) × Spans source at end (letters word) × (64 < before + least word);
    }

-- the words with two operands
abbrev pub IsFork : TypeWord → Type 0
IsFork types.Pair = Unit {0}
IsFork types.Fun = Unit {0}
IsFork word = ⊥

abbrev pub space : Item
space = exactly (32 ∷ [])

-- a first operand
abbrev pub operand : Format → ℕ → Item
operand format before =
    record {
      Value = Type';
      Is = HasWidthsIn format;
      Keeps = λ a. before + 1 + shakes a ≤ 64;
      text = type_text 32;
      Over = λ source at place. ⊥;
    }

-- one of the operands
pub data Operand : Type 0 where
  First Second : Operand

-- A limit is exceeded at a word within a type, on the way by these operands.
abbrev pub OverWithin : Format → List Operand → ℕ → List ℕ → ℕ → ℕ → Type 0
OverWithin format [] before source at place = (type_word before).Over source at place
OverWithin format (First ∷ way) before source at place =
    Behind (type_word before) (λ word source at place. IsFork word × Behind space (λ u. OverWithin format way (before + 1)) source at place) source at place
OverWithin format (Second ∷ way) before source at place =
    Behind (type_word before)
    (λ word source at place. IsFork word × Behind space (λ u. Behind (operand format before) (λ a. OverWithin format way (before + shakes a))) source at place)
    source at place

-- a type and the byte that ends it, behind so many handshakes
abbrev pub typed : Format → ℕ → ℕ → Item
typed format end before =
    record {
      Value = Type';
      Is = HasWidthsIn format;
      Keeps = λ t. before + shakes t ≤ 64;
      text = type_text end;
      Over = λ source at place. (way : List Operand) × OverWithin format way before source at place;
    }

-- two operands, behind a space
abbrev pub forks : Format → ℕ → ℕ → Item
forks format end before = both space (λ u. both (typed format 32 (before + 1)) (λ a. typed format end (before + shakes a)))

-- a number behind a space
abbrev pub sized_by : Format → ℕ → Item
sized_by format end = both space (λ u. number_in 1 (greatest format) end)

-- what stands behind the word of a type
abbrev pub type_operands_text : ℕ → Type' → List ℕ
type_operands_text end Com = end ∷ []
type_operands_text end (Exp w) = 32 ∷ number_text end w
type_operands_text end (Var w) = 32 ∷ number_text end w
type_operands_text end (Pair a b) = 32 ∷ (type_text 32 a ++ type_text end b)
type_operands_text end (Fun a b) = 32 ∷ (type_text 32 a ++ type_text end b)

abbrev pub OverOperands : Format → TypeWord → ℕ → List ℕ → ℕ → ℕ → Type 0
OverOperands format types.Pair before = (forks format 10 before).Over
OverOperands format types.Fun before = (forks format 10 before).Over
OverOperands format word before = λ source at place. ⊥

abbrev pub type_operands : Format → ℕ → ℕ → TypeWord → Item
type_operands format end before word =
    record {
      Value = Type';
      Is = λ t. HasWidthsIn format t × (word_of_type t ≡ word);
      Keeps = λ t. before + shakes t ≤ 64;
      text = type_operands_text end;
      Over = OverOperands format word before;
    }

-- the part with this word, and this width
abbrev pub bare_part : BareWord → Part
bare_part bare.Skip = Skip
bare_part bare.Seq = Seq 0
bare_part bare.Par = Par
bare_part bare.If = If 0
bare_part bare.While = While

abbrev pub sized_part : SizedWord → ℕ → Part
sized_part sized.SeqExp w = Seq w
sized_part sized.IfExp w = If w
sized_part (sized.Op op) w = Op (operation_of op) w
sized_part sized.Not w = Not w
sized_part sized.Assign w = Assign w
sized_part sized.Deref w = Deref w

-- what a Local or an Array runs
abbrev pub body_word_text : BodyWord → List ℕ
body_word_text bodies.Com = codes "com\n"
body_word_text bodies.Exp = codes "exp "

abbrev pub body : Format → Item
body format = plain ℕ (λ v. v ≤ greatest format) body_text

abbrev pub body_word_of : ℕ → BodyWord
body_word_of zero = bodies.Com
body_word_of (suc v) = bodies.Exp

abbrev pub body_operand : Format → BodyWord → Item
body_operand format word = plain ℕ (λ v. (v ≤ greatest format) × (body_word_of v ≡ word)) bits_text

-- the length of an array, which is one of four texts
abbrev pub length_of_word : LengthWord → ℕ
length_of_word lengths.Two = 2
length_of_word lengths.Four = 4
length_of_word lengths.Eight = 8
length_of_word lengths.Sixteen = 16

abbrev pub length_text : LengthWord → List ℕ
length_text lengths.Two = codes "2 "
length_text lengths.Four = codes "4 "
length_text lengths.Eight = codes "8 "
length_text lengths.Sixteen = codes "16 "

abbrev pub array_length : Item
array_length = plain ℕ IsLength (number_text 32)

-- the numbers of a literal, of a Local, and of an Array
abbrev pub literal_numbers : Format → Item
literal_numbers format = both (number_in 1 (greatest format) 32) (λ w. number_in 0 (2 ^ w - 1) 10)

abbrev pub local_numbers : Format → Item
local_numbers format = both (number_in 1 (greatest format) 32) (λ w. body format)

abbrev pub array_numbers : Format → Item
array_numbers format = both (number_in 1 (greatest format) 32) (λ w. both array_length (λ n. body format))

-- the words of parts that a format has
abbrev pub IsWordIn : Format → PartWord → Type 0
IsWordIn format parts.Array = HasArrays format
IsWordIn format word = Unit {0}

abbrev pub part_words : Format → Item
part_words format = plain PartWord (IsWordIn format) word_text

-- what stands behind the word of a part
abbrev pub OverPart : Format → PartWord → List ℕ → ℕ → ℕ → Type 0
OverPart format parts.Share = (typed format 10 0).Over
OverPart format word = λ source at place. ⊥

abbrev pub part_operands : Format → PartWord → Item
part_operands format word =
    record {
      Value = Part;
      Is = λ k. IsWritablePart format k × (word_of k ≡ word);
      Keeps = IsSmallPart;
      text = operands_text;
      Over = OverPart format word;
    }

-- the line of a part
abbrev pub part_line : Format → Item
part_line format =
    record {
      Value = Part;
      Is = IsWritablePart format;
      Keeps = IsSmallPart;
      text = part_text;
      Over = (both (part_words format) (part_operands format)).Over;
    }

-- the line of an import
abbrev pub import_line : Format → Item
import_line format =
    record {
      Value = Imported;
      Is = IsWritableImport format;
      Keeps = λ i. IsSmallType i.ty;
      text = import_text;
      Over = (both (exactly (codes "import ")) (λ u. both any_name (λ name. typed format 10 0))).Over;
    }

-- an end of a joint and the byte that ends it
abbrev pub end_word_text : EndWord → List ℕ
end_word_text ends.Part = codes "p"
end_word_text ends.Import = codes "i"
end_word_text ends.Result = codes "r."

abbrev pub end_word_of : End → EndWord
end_word_of (PartEnd i h) = ends.Part
end_word_of (ImportEnd i h) = ends.Import
end_word_of (ResultEnd h) = ends.Result

abbrev pub end_numbers_text : ℕ → End → List ℕ
end_numbers_text end (PartEnd i h) = number_text 46 i ++ number_text end h
end_numbers_text end (ImportEnd i h) = number_text 46 i ++ number_text end h
end_numbers_text end (ResultEnd h) = number_text end h

abbrev pub end_numbers : ℕ → EndWord → Item
end_numbers end word = plain End (λ e. IsWritableEnd e × (end_word_of e ≡ word)) (end_numbers_text end)

-- two numbers of an end
abbrev pub any_number : ℕ → Item
any_number end = number_in 0 4294967295 end

abbrev pub two_numbers : ℕ → Item
two_numbers end = both (any_number 46) (λ i. any_number end)

abbrev pub ended_end : ℕ → Item
ended_end end = plain End IsWritableEnd (end_text end)

-- the line of a joint
abbrev pub joint_line : Item
joint_line = plain Joint IsWritableJoint joint_text

-- a section of the text, behind its word
abbrev pub imports_section : Format → Item
imports_section format = both (exactly (codes "imports ")) (λ u. section 64 (import_line format))

abbrev pub parts_section : Format → Item
parts_section format = both (exactly (codes "parts ")) (λ u. section 16384 (part_line format))

abbrev pub joints_section : Item
joints_section = both (exactly (codes "joints ")) (λ u. section 65536 joint_line)

abbrev pub result_line : Format → Item
result_line format = both (exactly (codes "result ")) (λ u. typed format 10 0)

-- the text by its sections: the format with the weight, the imports, the result, the parts, the joints
abbrev pub weight_line : Item
weight_line = both (words Format head_text) (λ format. number_in 1 8192 10)

abbrev pub foot : Item
foot = exactly (codes "end\n")

abbrev pub sections : Item
sections =
    both weight_line (λ w.
    both (imports_section w.0) (λ i. both (result_line w.0) (λ r. both (parts_section w.0) (λ p. both joints_section (λ j. foot)))))

-- the whole text, of a plan in a format
abbrev pub whole : Item
whole =
    record {
      Value = (format : Format) × Plan;
      Is = λ v. IsWritable v.0 v.1;
      Keeps = λ v. IsSmallPlan v.1;
      text = λ v. text_in v.0 v.1;
      Over = sections.Over;
    }
