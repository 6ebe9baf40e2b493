-- The words of lines, each with the space behind it: none begins another.
use Rattle.std.proofs.Common.{◌≡◌, ℕ, suc, zero, ◌<◌, Bool, true, false, List, [], ◌∷◌, ◌++◌, length, map, get_or, Option, Some, None, refl, sym, ◌∙◌, ap, subst, arith}
use Rattle.std.specs.List.{list_all}
use Rattle.std.specs.Str.{bytes_eq}
use Rattle.std.specs.Char.{is_ascii_alphabetic}
use Rattle.std.proofs.lemmas.List.Folds.{list_all-append}
use Rattle.std.proofs.lemmas.Bool.{and_parts}
use Rattle.gos_lex.specs.Items.{Misses}
use Rattle.gos_netlist.specs.declared.word.GateWord.{GateWord}
use Rattle.gos_netlist.specs.declared.word.GateWord.TheVariants as gates
use Rattle.gos_netlist.specs.declared.word.TypeWord.{TypeWord}
use Rattle.gos_netlist.specs.declared.word.TypeWord.TheVariants as types
use Rattle.gos_netlist.specs.Nets.{Side, Give, Take}
use Rattle.gos_netlist.specs.NetText.{side_word}
use Rattle.gos_lex.specs.ItemTexts.{IsTextOf, IsAmong, ended}
use Rattle.gos_netlist.specs.inner.NetLines.{gate_text, type_word, IsGateText, IsSideText, IsTypeWordText}
use Rattle.gos_lex.proofs.SequenceLemmas.{Lacks, IsCode, misses_as, ended_code}

-- a text of letters has no other byte
pub letters_lack : (V : Type 0) (Is : V → Type 0) (text : V → List ℕ) (c : ℕ) → is_ascii_alphabetic c ≡ false → ((v : V) → list_all is_ascii_alphabetic (text v) ≡ true)
    → Lacks (IsTextOf V Is text) c
letters_lack V Is text c other letters front more item =
    let whole : list_all is_ascii_alphabetic (front ++ c ∷ more) ≡ true = ap (list_all is_ascii_alphabetic) item.2 ∙ letters item.0 in
    let parts = and_parts (list_all is_ascii_alphabetic front) (list_all is_ascii_alphabetic (c ∷ more)) (sym (list_all-append is_ascii_alphabetic front (c ∷ more)) ∙ whole) in
    let byte = and_parts (is_ascii_alphabetic c) (list_all is_ascii_alphabetic more) parts.1 in
    cc (other, byte.0)

-- the value, where the test is met, or another one
abbrev pick : (V : Type 0) → Bool → V → Option V → Option V
pick V true v other = Some v
pick V false v other = other

-- the value of a table with this text
abbrev pub found : (V : Type 0) → (V → List ℕ) → List V → List ℕ → Option V
found V text [] bytes = None
found V text (v ∷ vs) bytes = pick V (bytes_eq bytes (text v)) v (found V text vs bytes)

gate_letters : (word : GateWord) → list_all is_ascii_alphabetic (gate_text word) ≡ true
gate_letters gates.Input = refl
gate_letters gates.Const = refl
gate_letters gates.Not = refl
gate_letters gates.And = refl
gate_letters gates.Or = refl
gate_letters gates.Xor = refl
gate_letters gates.Mux = refl
gate_letters gates.Add = refl
gate_letters gates.Sub = refl
gate_letters gates.Eq = refl
gate_letters gates.Less = refl
gate_letters gates.Gate = refl
gate_letters gates.Reg = refl

-- each word once
abbrev pub all_gates : List GateWord
all_gates =
    gates.Input ∷ gates.Const ∷ gates.Not ∷ gates.And ∷ gates.Or ∷ gates.Xor ∷ gates.Mux ∷ gates.Add ∷ gates.Sub ∷ gates.Eq ∷ gates.Less ∷ gates.Gate
    ∷ gates.Reg ∷ []

gate_found : (word : GateWord) → found GateWord gate_text all_gates (gate_text word) ≡ Some word
gate_found gates.Input = refl
gate_found gates.Const = refl
gate_found gates.Not = refl
gate_found gates.And = refl
gate_found gates.Or = refl
gate_found gates.Xor = refl
gate_found gates.Mux = refl
gate_found gates.Add = refl
gate_found gates.Sub = refl
gate_found gates.Eq = refl
gate_found gates.Less = refl
gate_found gates.Gate = refl
gate_found gates.Reg = refl

-- values that a text leads back to are the same where their texts are
pub same_value : (V : Type 0) (text : V → List ℕ) (all : List V) → ((v : V) → found V text all (text v) ≡ Some v) → (v w : V) → text v ≡ text w → v ≡ w
same_value V text all leads v w same =
    let both : Some v ≡ Some w = sym (leads v) ∙ (ap (found V text all) same ∙ leads w) in
    cc both

pub gate_code : IsCode GateWord (λ _. Unit {0}) (λ word. ended 32 (gate_text word))
gate_code =
    ended_code GateWord (λ _. Unit {0}) gate_text 32 (letters_lack GateWord (λ _. Unit {0}) gate_text 32 refl gate_letters)
    (λ v w is_v is_w same. same_value GateWord gate_text all_gates gate_found v w same)

side_letters : (side : Side) → list_all is_ascii_alphabetic (side_word side) ≡ true
side_letters Give = refl
side_letters Take = refl

side_found : (side : Side) → found Side side_word (Give ∷ Take ∷ []) (side_word side) ≡ Some side
side_found Give = refl
side_found Take = refl

pub side_code : IsCode Side (λ _. Unit {0}) (λ side. ended 32 (side_word side))
side_code =
    ended_code Side (λ _. Unit {0}) side_word 32 (letters_lack Side (λ _. Unit {0}) side_word 32 refl side_letters)
    (λ v w is_v is_w same. same_value Side side_word (Give ∷ Take ∷ []) side_found v w same)

type_letters : (word : TypeWord) → list_all is_ascii_alphabetic (type_word word) ≡ true
type_letters types.Com = refl
type_letters types.Exp = refl
type_letters types.Var = refl

type_found : (word : TypeWord) → found TypeWord type_word (types.Com ∷ types.Exp ∷ types.Var ∷ []) (type_word word) ≡ Some word
type_found types.Com = refl
type_found types.Exp = refl
type_found types.Var = refl

pub type_code : IsCode TypeWord (λ _. Unit {0}) (λ word. ended 32 (type_word word))
type_code =
    ended_code TypeWord (λ _. Unit {0}) type_word 32 (letters_lack TypeWord (λ _. Unit {0}) type_word 32 refl type_letters)
    (λ v w is_v is_w same. same_value TypeWord type_word (types.Com ∷ types.Exp ∷ types.Var ∷ []) type_found v w same)

-- each place of a table has a value
table_value : (V : Type 0) (text : V → List ℕ) (all : List V) (k : ℕ) → k < length (map text all) → (v : V) × (get_or (map text all) k [] ≡ text v)
table_value V text [] k inside = absurd (omega (arith, inside))
table_value V text (v ∷ all) zero inside = (v, refl)
table_value V text (v ∷ all) (suc k) inside = table_value V text all k (omega (arith, inside))

-- where no text of a table stands that has each value, none of a value does
of_table : (V : Type 0) (text : V → List ℕ) (all : List V) → ((v : V) → (k : ℕ) × (k < length (map text all)) × (get_or (map text all) k [] ≡ text v))
    → (words : List (List ℕ)) → words ≡ map text all
    → (source : List ℕ) (at place : ℕ) → Misses (IsAmong words) source at place → Misses (IsTextOf V (λ _. Unit {0}) text) source at place
of_table V text all place_of words same source at place misses =
    misses_as (IsAmong (map text all)) (IsTextOf V (λ _. Unit {0}) text) source at place
    (λ bytes item. let known = table_value V text all item.0 item.1 in (known.0, tt, item.2 ∙ known.1))
    (λ bytes item. let known = place_of item.0 in (known.0, known.1, item.2 ∙ sym known.2))
    (subst (λ (table : List (List ℕ)). Misses (IsAmong table) source at place) same misses)

gate_place : (v : GateWord) → (k : ℕ) × (k < length (map (λ word. ended 32 (gate_text word)) all_gates)) × (get_or (map (λ word. ended 32 (gate_text word)) all_gates) k [] ≡ ended 32 (gate_text v))
gate_place gates.Input = (0, omega arith, refl)
gate_place gates.Const = (1, omega arith, refl)
gate_place gates.Not = (2, omega arith, refl)
gate_place gates.And = (3, omega arith, refl)
gate_place gates.Or = (4, omega arith, refl)
gate_place gates.Xor = (5, omega arith, refl)
gate_place gates.Mux = (6, omega arith, refl)
gate_place gates.Add = (7, omega arith, refl)
gate_place gates.Sub = (8, omega arith, refl)
gate_place gates.Eq = (9, omega arith, refl)
gate_place gates.Less = (10, omega arith, refl)
gate_place gates.Gate = (11, omega arith, refl)
gate_place gates.Reg = (12, omega arith, refl)

-- no word of a gate stands
pub no_gate : (words : List (List ℕ)) → words ≡ map (λ word. ended 32 (gate_text word)) all_gates → (source : List ℕ) (at place : ℕ) → Misses (IsAmong words) source at place → Misses IsGateText source at place
no_gate words same source at place = of_table GateWord (λ word. ended 32 (gate_text word)) all_gates gate_place words same source at place

side_place : (v : Side) → (k : ℕ) × (k < length (map (λ side. ended 32 (side_word side)) (Give ∷ Take ∷ []))) × (get_or (map (λ side. ended 32 (side_word side)) (Give ∷ Take ∷ [])) k [] ≡ ended 32 (side_word v))
side_place Give = (0, omega arith, refl)
side_place Take = (1, omega arith, refl)

-- no word of a side stands
pub no_side : (words : List (List ℕ)) → words ≡ map (λ side. ended 32 (side_word side)) (Give ∷ Take ∷ []) → (source : List ℕ) (at place : ℕ) → Misses (IsAmong words) source at place → Misses IsSideText source at place
no_side words same source at place = of_table Side (λ side. ended 32 (side_word side)) (Give ∷ Take ∷ []) side_place words same source at place

-- the words of types, each once
abbrev pub all_types : List TypeWord
all_types = types.Com ∷ types.Exp ∷ types.Var ∷ []

type_place : (v : TypeWord) → (k : ℕ) × (k < length (map (λ word. ended 32 (type_word word)) all_types)) × (get_or (map (λ word. ended 32 (type_word word)) all_types) k [] ≡ ended 32 (type_word v))
type_place types.Com = (0, omega arith, refl)
type_place types.Exp = (1, omega arith, refl)
type_place types.Var = (2, omega arith, refl)

-- no word of a type stands
pub no_type : (words : List (List ℕ)) → words ≡ map (λ word. ended 32 (type_word word)) all_types → (source : List ℕ) (at place : ℕ) → Misses (IsAmong words) source at place → Misses IsTypeWordText source at place
no_type words same source at place = of_table TypeWord (λ word. ended 32 (type_word word)) all_types type_place words same source at place
