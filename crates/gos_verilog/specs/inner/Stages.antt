-- What is left of a text from a cursor on, and what the stages of the reader find there.
--
-- Read first: Lines; Items of gos_lex. Between the reader and its lemmas.
use Rattle.std.specs.Prelude.{◌≡◌, ◌⊎◌, ℕ, Bool, true, false, List, ◌∷◌, ◌++◌, map, drop, get_or, Some, slice_get, codes}
use Rattle.std.specs.List.{AllByRecursion, list_all, flat_map}
use Rattle.std.proofs.Common.{Bor}
use Rattle.gos_lex.specs.Bytes.{begins_name, continues_name}
use Rattle.gos_lex.specs.Names.{IsNameOrWord}
use Rattle.gos_lex.specs.Items.{TextAt, Misses}
use Rattle.gos_types.specs.Types.{Type', Var}
use Rattle.gos_types.specs.Widths.{IsWidth}
use Rattle.gos_netlist.specs.Nets.{Cell}
use Rattle.gos_lex.specs.ItemTexts.{IsTextOf, ended}
use Rattle.gos_verilog.specs.declared.fault.VFault.{VFault}
use Rattle.gos_verilog.specs.declared.fault.VFault.TheVariants as faults
use Rattle.gos_verilog.specs.declared.declared.Shape.{Shape}
use Rattle.gos_verilog.specs.PortNets.{PortNet}
use Rattle.gos_verilog.specs.inner.Drivers.{is_register}

-- these bytes are left
abbrev pub Rest : TextAt → List ℕ → Type 0
Rest cursor bytes = drop cursor.at cursor.text ≡ bytes

-- nothing but memory was wanting
abbrev pub IsWant : VFault → Type 0
IsWant fault = fault ≡ faults.NoMemory

-- bytes of names
abbrev pub AreNameBytes : List ℕ → Type 0
AreNameBytes bytes = list_all continues_name bytes ≡ true

abbrev pub HaveNames : List PortNet → Type 0
HaveNames = AllByRecursion (λ n. AreNameBytes n.name)

-- the names of nets, as the head of a module lists them
abbrev pub listed : List PortNet → List ℕ
listed = flat_map (λ n. codes ", " ++ n.name)

-- a name of a net of a port
pub record IsNetName (name : List ℕ) : Type 0 where
  pub bytes : AreNameBytes name
  pub first : ℕ
  pub rest : List ℕ
  pub is : name ≡ first ∷ rest
  pub begins : begins_name first ≡ true

-- nets of one name stand at one place
abbrev pub HaveOwnNames : List PortNet → Type 0
HaveOwnNames nets = (j k : ℕ) (a b : PortNet) → slice_get nets j ≡ Some a → slice_get nets k ≡ Some b → a.name ≡ b.name → j ≡ k

-- how many bytes stand behind a port's name in that of its first net
abbrev pub suffix_length : Type' → ℕ
suffix_length (Var w) = 6
suffix_length t = 5

-- these are the names of the nets
abbrev pub AreNamesOf : List PortNet → List (Bor (List ℕ)) → Type 0
AreNamesOf nets names = map (λ (b : Bor (List ℕ)). b.now) names ≡ map (λ (n : PortNet). n.name) nets

-- the nets have bits of the format
abbrev pub HaveWidths : List PortNet → Type 0
HaveWidths = AllByRecursion (λ n. IsWidth n.width)

abbrev pub HaveCellWidths : List Cell → Type 0
HaveCellWidths = AllByRecursion (λ c. IsWidth c.width)

-- a net of a port of which only the declaration is known
abbrev pub declared_net : PortNet → PortNet
declared_net n = record { name = n.name; input = n.input; width = n.width; cell = 0 }

-- the word for the kind of a cell's net
abbrev pub word_of : Bool → List ℕ
word_of true = codes "reg"
word_of false = codes "wire"

-- what is declared of a cell's net
abbrev pub shape_of : Cell → Shape
shape_of c = record { width = c.width; register = is_register c.gate }

-- what stands behind the declarations begins as no declaration of a cell does
abbrev pub IsBody : List ℕ → Type 0
IsBody body = (get_or body 0 0 ≡ 101) ⊎ (get_or body 2 0 ≡ 97)

-- the name of a module and the parenthesis behind it
abbrev pub IsModuleName : List ℕ → Type 0
IsModuleName = IsTextOf (List ℕ) IsNameOrWord (ended 40)

-- how each text begins
abbrev pub start_text : List ℕ → List ℕ
start_text name = codes "module gos_" ++ (ended 40 name ++ codes "clk, rst")

abbrev pub IsStart : List ℕ → Type 0
IsStart = IsTextOf (List ℕ) IsNameOrWord start_text

-- an item breaks off at the fault's place
abbrev pub BreaksAt : (List ℕ → Type 0) → TextAt → VFault → Type 0
BreaksAt IsItem cursor (faults.Form place) = Misses IsItem cursor.text cursor.at place
BreaksAt IsItem cursor faults.NoMemory = Unit {0}

-- the start stands
abbrev pub HasStart : TextAt → Type 0
HasStart cursor = (name x : List ℕ) × IsNameOrWord name × Rest cursor (start_text name ++ x)
