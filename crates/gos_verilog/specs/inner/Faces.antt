-- Ports as the head of a module names them, and what may be left of it behind some of them.
--
-- Read first: Left, Noted. A port's face is the role of its first net and its name: the other roles follow from the first.
use Rattle.std.specs.Prelude.{◌≡◌, ◌≢◌, ◌⊎◌, ℕ, ◌<◌, ◌≤◌, ◌↔◌, true, List, [], ◌∷◌, ◌++◌, None, Some, take, drop, length, map, slice_get, codes}
use Rattle.std.specs.List.{AllByRecursion, flat_map}
use Rattle.gos_lex.specs.Items.{Misses}
use Rattle.gos_lex.specs.Names.{IsNameOrWord}
use Rattle.gos_netlist.specs.Nets.{Give}
use Rattle.gos_lex.specs.ItemTexts.{IsTextOf, ended}
use Rattle.gos_netlist.specs.Writable.{IsNumber}
use Rattle.gos_lex.specs.declared.table.NameTable.{NameTable}
use Rattle.gos_verilog.specs.declared.port_net.Role.{Role}
use Rattle.gos_verilog.specs.declared.port_net.Role.TheVariants.{Run, Done, Ask, Ans, AnsValue, Read, Write, WriteValue}
use Rattle.gos_verilog.specs.PortNets.{suffix}
use Rattle.gos_lex.specs.NameTables.{number_at}
use Rattle.gos_verilog.specs.inner.Breaks.{Left, Item, PassedIn}
use Rattle.gos_verilog.specs.inner.Left.{is_first, LeftNets}

abbrev pub Face' : Type 0
Face' = Role × List ℕ

-- the roles of a port whose first net has this one
abbrev pub roles_from : Role → List Role
roles_from Run = Run ∷ Done ∷ []
roles_from Ask = Ask ∷ Ans ∷ AnsValue ∷ []
roles_from Read = Read ∷ Ans ∷ AnsValue ∷ Write ∷ WriteValue ∷ Done ∷ []
roles_from role = []

-- the names of nets of a port in these roles, each behind a comma
abbrev pub names_in : List ℕ → List Role → List ℕ
names_in name = flat_map (λ role. codes ", " ++ (name ++ suffix role))

abbrev pub port_text : Face' → List ℕ
port_text v = names_in v.1 (roles_from v.0)

-- the name of the first net, and what stands behind it and its comma
abbrev pub first_text : Face' → List ℕ
first_text v = v.1 ++ suffix v.0

abbrev pub behind_text : Face' → List ℕ
behind_text v = drop 1 (names_in v.1 (drop 1 (roles_from v.0)))

-- a name that no port has so far
abbrev pub IsFree : NameTable → List ℕ → Type 0
IsFree places name = IsNameOrWord name × (number_at places name ≡ None)

abbrev pub IsFreeFace : NameTable → Face' → Type 0
IsFreeFace places v = (is_first v.0 ≡ true) × IsFree places v.1

-- the name of the first net of a port whose name is free, that name and its comma, and the names of all nets of such a port
abbrev pub IsFirstName : NameTable → List ℕ → Type 0
IsFirstName places = IsTextOf Face' (IsFreeFace places) first_text

abbrev pub IsFirstNet : NameTable → List ℕ → Type 0
IsFirstNet places = IsTextOf Face' (IsFreeFace places) (λ v. ended 44 (first_text v))

abbrev pub IsFreePort : NameTable → List ℕ → Type 0
IsFreePort places = IsTextOf Face' (IsFreeFace places) port_text

-- the first bytes are the name of the first net of such a port, and a comma stands behind them
abbrev pub IsNameBefore : NameTable → List ℕ → ℕ → Face' → Type 0
IsNameBefore places text len v = IsFreeFace places v × (take len text ≡ first_text v) × (slice_get text len ≡ Some 44)

abbrev pub IsNoName : NameTable → List ℕ → ℕ → Type 0
IsNoName places text len = (v : Face') → IsNameBefore places text len v → ⊥

-- one more byte makes a free name
abbrev pub Grows : NameTable → List ℕ → Type 0
Grows places bytes = (b : ℕ) × IsFree places (bytes ++ b ∷ [])

-- the bytes are no free name and a front of the role's suffix
abbrev pub IsNoEnd : NameTable → List ℕ → Role → Type 0
IsNoEnd places bytes role = (front end more : List ℕ) → IsFree places front → bytes ≡ front ++ end → suffix role ≡ end ++ more → ⊥

-- the names that are not free are those of these ports
abbrev pub IsOther : List ℕ → List Face' → Type 0
IsOther name = AllByRecursion (λ u. u.1 ≢ name)

abbrev pub AreKnown : List Face' → NameTable → Type 0
AreKnown faces places = (name : List ℕ) → (number_at places name ≡ None) ↔ IsOther name faces

-- a port behind others, and ports behind others
abbrev pub IsNewFace : List Face' → Face' → Type 0
IsNewFace before v = (is_first v.0 ≡ true) × IsNameOrWord v.1 × IsOther v.1 before

abbrev pub AreNewFaces : List Face' → List Face' → Type 0
AreNewFaces before [] = Unit {0}
AreNewFaces before (v ∷ more) = IsNewFace before v × AreNewFaces (before ++ v ∷ []) more

abbrev pub IsNewPort : List Face' → List ℕ → Type 0
IsNewPort before = IsTextOf Face' (IsNewFace before) port_text

-- a port of this name
abbrev pub IsFaceOf : List ℕ → Face' → Type 0
IsFaceOf name v = (is_first v.0 ≡ true) × (v.1 ≡ name)

abbrev pub IsPortOf : List ℕ → List ℕ → Type 0
IsPortOf name = IsTextOf Face' (IsFaceOf name) port_text

-- the nets of these ports, with their roles and names
abbrev pub named_faces : List Face' → List (Role × List ℕ)
named_faces = flat_map (λ v. map (λ role. (role, v.1 ++ suffix role)) (roles_from v.0))

-- what stands behind the names of nets
abbrev pub head_end : List ℕ
head_end = codes ");\n  input clk;\n  input rst;\n"

-- the names of the nets of ports behind these, and the rest of the text
abbrev pub LeftFaces : List Face' → Left
LeftFaces before bytes =
    (more : List Face') × (rest : List ℕ) × AreNewFaces before more × IsNumber (length (before ++ more)) × LeftNets [] Give 0 (named_faces (before ++ more)) rest
    × (bytes ≡ flat_map port_text more ++ (head_end ++ rest))

-- those of the nets of one more port at least, and of none
abbrev pub LeftFace : List Face' → Left
LeftFace before = Item Face' (λ v. IsNewFace before v × (length before < 4294967295)) port_text (λ v. LeftFaces (before ++ v ∷ []))

abbrev pub LeftEnd : List Face' → Left
LeftEnd before = Item (Unit {0}) (λ _. Unit {0}) (λ _. head_end) (λ _. LeftNets [] Give 0 (named_faces before))

-- those of the nets of the first port, which has this name, and of others
abbrev pub LeftFirst : List ℕ → Left
LeftFirst name = Item Face' (IsFaceOf name) port_text (λ v. LeftFaces (v ∷ []))

-- there are as many ports as there may be, or none is named here
abbrev pub NoFace : List Face' → List ℕ → ℕ → ℕ → Type 0
NoFace before text at place = ((length before ≡ 4294967295) × (place ≡ at)) ⊎ ((length before < 4294967295) × Misses (IsNewPort before) text at place)

-- the names of ports behind the first that stand between these places, and where no further one goes on
pub record HasMore (first : Face') (text : List ℕ) (at end stopped : ℕ) : Type 0 where
  pub more : List Face'
  pub new : AreNewFaces (first ∷ []) more
  pub few : IsNumber (length (first ∷ more))
  pub within : end ≤ length text
  pub passed : PassedIn text at end (flat_map port_text more)
  pub none : NoFace (first ∷ more) text end stopped

-- the names of ports behind a place, the first of which has this name, and what stands behind them
pub record HasPorts (name bytes : List ℕ) : Type 0 where
  pub first : Face'
  pub more : List Face'
  pub rest : List ℕ
  pub of : IsFaceOf name first
  pub new : AreNewFaces (first ∷ []) more
  pub few : IsNumber (length (first ∷ more))
  pub is : bytes ≡ flat_map port_text (first ∷ more) ++ (head_end ++ rest)
