-- The text of a plan.
--
-- Read first: Plans, Formats. Words stand apart by one space, numbers are decimal, each line ends with a line feed, and
-- types are written in prefix order. Which plans have a text of a format, and which of those keep
-- its limits.
use Rattle.std.specs.Prelude.{ℕ, zero, suc, ◌^◌, ◌<◌, ◌≤◌, List, [], ◌∷◌, ◌++◌, length, codes}
use Rattle.std.specs.List.{AllByRecursion, flat_map}
use Rattle.std.specs.Fmt.{decimal}
use Rattle.gos_lex.specs.Names.{IsNameOrWord}
use Rattle.gos_types.specs.Types.{Type', Com, Exp, Var, Pair, Fun}
use Rattle.gos_types.specs.Handshakes.{handshakes_of}
use Rattle.gos_lex.specs.ItemTexts.{ended}
use Rattle.gos_plan.specs.declared.kinds.Op2.TheVariants as ops
use Rattle.gos_plan.specs.declared.word.BareWord.{BareWord}
use Rattle.gos_plan.specs.declared.word.BareWord.TheVariants as bare
use Rattle.gos_plan.specs.declared.word.SizedWord.{SizedWord}
use Rattle.gos_plan.specs.declared.word.SizedWord.TheVariants as sized
use Rattle.gos_plan.specs.declared.word.PartWord.{PartWord}
use Rattle.gos_plan.specs.declared.word.PartWord.TheVariants as parts
use Rattle.gos_plan.specs.declared.kinds.Op2.{Op2}
use Rattle.gos_plan.specs.Kinds.{Part, Skip, Lit, Seq, Par, If, While, Op, Not, Assign, Deref, Local, Array, Share}
use Rattle.gos_model.specs.Terms.{Op as Operation, Add, Sub, And, Or, Xor, Eq, Less}
use Rattle.gos_model.specs.Typing.{Imported, IsLength}
use Rattle.gos_plan.specs.Plans.{End, PartEnd, ImportEnd, ResultEnd, Joint, Plan}
use Rattle.gos_plan.specs.declared.format.Format.{Format}
use Rattle.gos_plan.specs.declared.format.Format.TheVariants.{Two}
use Rattle.gos_plan.specs.Formats.{greatest, HasArrays, IsWidthIn, HasWidthsIn, head_text}

-- a number and the byte that ends it
abbrev pub number_text : ℕ → ℕ → List ℕ
number_text end n = ended end (decimal n)

-- a type and the byte that ends it
abbrev pub type_text : ℕ → Type' → List ℕ
type_text end Com = codes "com" ++ end ∷ []
type_text end (Exp w) = codes "exp " ++ number_text end w
type_text end (Var w) = codes "var " ++ number_text end w
type_text end (Pair a b) = codes "pair " ++ (type_text 32 a ++ type_text end b)
type_text end (Fun a b) = codes "fun " ++ (type_text 32 a ++ type_text end b)

-- the word of a part, with the byte behind it
abbrev pub bare_text : BareWord → List ℕ
bare_text bare.Skip = codes "skip\n"
bare_text bare.Seq = codes "seq\n"
bare_text bare.Par = codes "par\n"
bare_text bare.If = codes "if\n"
bare_text bare.While = codes "while\n"

abbrev pub sized_text : SizedWord → List ℕ
sized_text sized.SeqExp = codes "seqexp "
sized_text sized.IfExp = codes "ifexp "
sized_text (sized.Op ops.Add) = codes "add "
sized_text (sized.Op ops.Sub) = codes "sub "
sized_text (sized.Op ops.And) = codes "and "
sized_text (sized.Op ops.Or) = codes "or "
sized_text (sized.Op ops.Xor) = codes "xor "
sized_text (sized.Op ops.Eq) = codes "eq "
sized_text (sized.Op ops.Less) = codes "less "
sized_text sized.Not = codes "not "
sized_text sized.Assign = codes "assign "
sized_text sized.Deref = codes "deref "

abbrev pub word_text : PartWord → List ℕ
word_text (parts.Bare word) = bare_text word
word_text (parts.Sized word) = sized_text word
word_text parts.Lit = codes "lit "
word_text parts.Local = codes "local "
word_text parts.Array = codes "array "
word_text parts.Share = codes "share "

-- the operator of the program
abbrev pub operator_for : Operation → Op2
operator_for Add = ops.Add
operator_for Sub = ops.Sub
operator_for And = ops.And
operator_for Or = ops.Or
operator_for Xor = ops.Xor
operator_for Eq = ops.Eq
operator_for Less = ops.Less

-- one of two words, by whether a number of bits follows
abbrev pub by_bits : ℕ → PartWord → PartWord → PartWord
by_bits zero none some = none
by_bits (suc v) none some = some

-- the word of a part
abbrev pub word_of : Part → PartWord
word_of Skip = parts.Bare bare.Skip
word_of (Lit w k) = parts.Lit
word_of (Seq v) = by_bits v (parts.Bare bare.Seq) (parts.Sized sized.SeqExp)
word_of Par = parts.Bare bare.Par
word_of (If v) = by_bits v (parts.Bare bare.If) (parts.Sized sized.IfExp)
word_of While = parts.Bare bare.While
word_of (Op op w) = parts.Sized (sized.Op (operator_for op))
word_of (Not w) = parts.Sized sized.Not
word_of (Assign w) = parts.Sized sized.Assign
word_of (Deref w) = parts.Sized sized.Deref
word_of (Local w v) = parts.Local
word_of (Array w n v) = parts.Array
word_of (Share t) = parts.Share

-- a number of bits, where there are some
abbrev pub bits_text : ℕ → List ℕ
bits_text zero = []
bits_text (suc v) = number_text 10 (suc v)

-- what a Local or an Array runs: a command, or an expression of v bits
abbrev pub body_text : ℕ → List ℕ
body_text zero = codes "com\n"
body_text (suc v) = codes "exp " ++ number_text 10 (suc v)

-- what stands behind the word of a part
abbrev pub operands_text : Part → List ℕ
operands_text Skip = []
operands_text (Lit w k) = number_text 32 w ++ number_text 10 k
operands_text (Seq v) = bits_text v
operands_text Par = []
operands_text (If v) = bits_text v
operands_text While = []
operands_text (Op op w) = number_text 10 w
operands_text (Not w) = number_text 10 w
operands_text (Assign w) = number_text 10 w
operands_text (Deref w) = number_text 10 w
operands_text (Local w v) = number_text 32 w ++ body_text v
operands_text (Array w n v) = number_text 32 w ++ (number_text 32 n ++ body_text v)
operands_text (Share t) = type_text 10 t

-- the line of a part
abbrev pub part_text : Part → List ℕ
part_text k = word_text (word_of k) ++ operands_text k

-- the line of an import
abbrev pub import_text : Imported → List ℕ
import_text i = codes "import " ++ (ended 32 i.name ++ type_text 10 i.ty)

-- an end of a joint and the byte that ends it
abbrev pub end_text : ℕ → End → List ℕ
end_text end (PartEnd i h) = codes "p" ++ (number_text 46 i ++ number_text end h)
end_text end (ImportEnd i h) = codes "i" ++ (number_text 46 i ++ number_text end h)
end_text end (ResultEnd h) = codes "r." ++ number_text end h

-- the line of a joint
abbrev pub joint_text : Joint → List ℕ
joint_text j = end_text 32 j.asking ++ end_text 10 j.serving

-- how many lines there are, and the lines
abbrev pub section_text : (V : Type 0) → (V → List ℕ) → List V → List ℕ
section_text V text vs = number_text 10 (length vs) ++ flat_map text vs

-- the sections with lines
abbrev pub imports_text : List Imported → List ℕ
imports_text imports = codes "imports " ++ section_text Imported import_text imports

abbrev pub parts_text : List Part → List ℕ
parts_text parts = codes "parts " ++ section_text Part part_text parts

abbrev pub joints_text : List Joint → List ℕ
joints_text joints = codes "joints " ++ section_text Joint joint_text joints

-- the whole text in a format
abbrev pub text_in : Format → Plan → List ℕ
text_in format p =
    head_text format ++ (number_text 10 p.weight
    ++ (imports_text p.imports
    ++ (codes "result " ++ (type_text 10 p.outcome
    ++ (parts_text p.parts
    ++ (joints_text p.joints
    ++ codes "end\n"))))))

-- the text that is written, which is of format 2
abbrev pub text_of : Plan → List ℕ
text_of = text_in Two

-- a number of a part, an import or a handshake, or a count
abbrev pub IsNumber : ℕ → Type 0
IsNumber n = n ≤ 4294967295

-- the numbers of a part are in the ranges of a format
abbrev pub IsWritablePart : Format → Part → Type 0
IsWritablePart format Skip = Unit {0}
IsWritablePart format (Lit w k) = IsWidthIn format w × (k < 2 ^ w)
IsWritablePart format (Seq v) = v ≤ greatest format
IsWritablePart format Par = Unit {0}
IsWritablePart format (If v) = v ≤ greatest format
IsWritablePart format While = Unit {0}
IsWritablePart format (Op op w) = IsWidthIn format w
IsWritablePart format (Not w) = IsWidthIn format w
IsWritablePart format (Assign w) = IsWidthIn format w
IsWritablePart format (Deref w) = IsWidthIn format w
IsWritablePart format (Local w v) = IsWidthIn format w × (v ≤ greatest format)
IsWritablePart format (Array w n v) = HasArrays format × IsWidthIn format w × IsLength n × (v ≤ greatest format)
IsWritablePart format (Share t) = HasWidthsIn format t

abbrev pub IsWritableImport : Format → Imported → Type 0
IsWritableImport format i = IsNameOrWord i.name × HasWidthsIn format i.ty

abbrev pub IsWritableEnd : End → Type 0
IsWritableEnd (PartEnd i h) = IsNumber i × IsNumber h
IsWritableEnd (ImportEnd i h) = IsNumber i × IsNumber h
IsWritableEnd (ResultEnd h) = IsNumber h

abbrev pub IsWritableJoint : Joint → Type 0
IsWritableJoint j = IsWritableEnd j.asking × IsWritableEnd j.serving

-- a plan with a text of a format
pub record IsWritable (format : Format) (p : Plan) : Type 0 where
  pub weight : (1 ≤ p.weight) × (p.weight ≤ 8192)
  pub imports : IsNumber (length p.imports) × AllByRecursion (IsWritableImport format) p.imports
  pub outcome : HasWidthsIn format p.outcome
  pub parts : IsNumber (length p.parts) × AllByRecursion (IsWritablePart format) p.parts
  pub joints : IsNumber (length p.joints) × AllByRecursion IsWritableJoint p.joints

-- a type has at most 64 handshakes
abbrev pub IsSmallType : Type' → Type 0
IsSmallType t = length (handshakes_of t) ≤ 64

abbrev pub IsSmallPart : Part → Type 0
IsSmallPart (Share t) = IsSmallType t
IsSmallPart k = Unit {0}

-- a plan within the limits
pub record IsSmallPlan (p : Plan) : Type 0 where
  pub imports : (length p.imports ≤ 64) × AllByRecursion (λ i. IsSmallType i.ty) p.imports
  pub outcome : IsSmallType p.outcome
  pub parts : (length p.parts ≤ 16384) × AllByRecursion IsSmallPart p.parts
  pub joints : length p.joints ≤ 65536
