-- Which modules are accepted, and what that has to do with their first fault.
--
-- Read first: Typing, Weight and Sources of gos_model; Judgements. What is accepted speaks of no order and of no fault.
use Rattle.std.specs.Prelude.{◌≡◌, ◌≢◌, ◌↔◌, ℕ, ◌≤◌, List, [], ◌∷◌, Ok, MatchOption}
use Rattle.gos_types.specs.Types.{Type', Var, type_of}
use Rattle.gos_types.specs.Widths.{HasWidths}
use Rattle.gos_syntax.specs.Modules.{SeenImport, SeenModule}
use Rattle.gos_model.specs.Terms.{Name, Term, Skip, Lit, Bound, Import, Lam, App, Both, Fst, Snd, Seq, Par, If, While, Assign, Deref, New, NewArray, Not, Bin, Loc, Arr, Scope, Wait, Held, Put}
use Rattle.gos_model.specs.Typing.{Imports, array_type, Typed}
use Rattle.gos_model.specs.Weight.{count, node_type, weight}
use Rattle.gos_model.specs.Sources.{program_of}
use Rattle.gos_check.specs.declared.fault.CheckFault.{CheckFault}
use Rattle.gos_check.specs.Faults.{fault_of}
use Rattle.gos_check.specs.Judgements.{module_judged}

-- no import has this name
abbrev pub IsNew : Name → List SeenImport → Type 0
IsNew x [] = Unit {0}
IsNew x (i ∷ is) = (i.name ≢ x) × IsNew x is

-- no two imports have one name
abbrev pub NamesDiffer : List SeenImport → Type 0
NamesDiffer [] = Unit {0}
NamesDiffer (i ∷ is) = IsNew i.name is × NamesDiffer is

-- a type with at most 64 handshakes
abbrev pub IsSmall : Type' → Type 0
IsSmall t = count t ≤ 64

-- a type that may be written
abbrev pub IsWritten : Type' → Type 0
IsWritten t = HasWidths t × IsSmall t

-- each import has a type that may be written
abbrev pub AreWritten : List SeenImport → Type 0
AreWritten [] = Unit {0}
AreWritten (i ∷ is) = IsWritten (type_of i.ty) × AreWritten is

-- The type of each node of a term is small, and each type that is written in it may be. The widths of literals, of
-- variables and of arrays, and the lengths of these, are a matter of typing.
abbrev pub KeepsLimits : Imports → List Type' → Term → Type 0
KeepsLimits i g Skip = Unit {0}
KeepsLimits i g (Lit k w) = Unit {0}
KeepsLimits i g (Bound n) = IsSmall (node_type i g (Bound n))
KeepsLimits i g (Import x) = IsSmall (node_type i g (Import x))
KeepsLimits i g (Lam a m) = IsSmall (node_type i g (Lam a m)) × IsWritten a × KeepsLimits i (a ∷ g) m
KeepsLimits i g (App m n) = IsSmall (node_type i g (App m n)) × KeepsLimits i g m × KeepsLimits i g n
KeepsLimits i g (Both m n) = IsSmall (node_type i g (Both m n)) × KeepsLimits i g m × KeepsLimits i g n
KeepsLimits i g (Fst m) = IsSmall (node_type i g (Fst m)) × KeepsLimits i g m
KeepsLimits i g (Snd m) = IsSmall (node_type i g (Snd m)) × KeepsLimits i g m
KeepsLimits i g (Seq m n) = IsSmall (node_type i g (Seq m n)) × KeepsLimits i g m × KeepsLimits i g n
KeepsLimits i g (Par m n) = IsSmall (node_type i g (Par m n)) × KeepsLimits i g m × KeepsLimits i g n
KeepsLimits i g (If m n p) = IsSmall (node_type i g (If m n p)) × KeepsLimits i g m × KeepsLimits i g n × KeepsLimits i g p
KeepsLimits i g (While m n) = IsSmall (node_type i g (While m n)) × KeepsLimits i g m × KeepsLimits i g n
KeepsLimits i g (Assign m n) = IsSmall (node_type i g (Assign m n)) × KeepsLimits i g m × KeepsLimits i g n
KeepsLimits i g (Deref m) = IsSmall (node_type i g (Deref m)) × KeepsLimits i g m
KeepsLimits i g (New w m) = IsSmall (node_type i g (New w m)) × KeepsLimits i (Var w ∷ g) m
KeepsLimits i g (NewArray n w m) = IsSmall (node_type i g (NewArray n w m)) × KeepsLimits i (array_type n w ∷ g) m
KeepsLimits i g (Not m) = IsSmall (node_type i g (Not m)) × KeepsLimits i g m
KeepsLimits i g (Bin op m n) = IsSmall (node_type i g (Bin op m n)) × KeepsLimits i g m × KeepsLimits i g n
KeepsLimits i g (Loc l) = ⊥
KeepsLimits i g (Arr l) = ⊥
KeepsLimits i g (Scope l m) = ⊥
KeepsLimits i g (Wait x s) = ⊥
KeepsLimits i g (Held k op n) = ⊥
KeepsLimits i g (Put m k) = ⊥

-- a module that is accepted: it is typed, its names differ, and it keeps the limits
pub record IsAccepted (m : SeenModule) : Type 0 where
  pub names : NamesDiffer m.imports
  pub imports : AreWritten m.imports
  pub result : IsWritten (type_of m.result)
  pub typed : Typed (program_of m).imports [] (program_of m).body (type_of m.result)
  pub limits : KeepsLimits (program_of m).imports [] (program_of m).body
  pub weight : weight (program_of m).imports (program_of m).body ≤ 8192

-- the weight of a module
abbrev pub weighed : SeenModule → ℕ
weighed m = weight (program_of m).imports (program_of m).body

-- a refusal that has a cause: the module isn't accepted; want of memory has none
abbrev pub IsRefused : SeenModule → CheckFault → Type 0
IsRefused m refusal = MatchOption (fault_of refusal) (Unit {0}) (λ _. IsAccepted m → ⊥)

-- no fault is found exactly where a module is accepted, and what is found then is its weight
abbrev pub FoundExactly : Type 0
FoundExactly = (m : SeenModule) (w : ℕ) → (module_judged m ≡ Ok w) ↔ (IsAccepted m × (weighed m ≡ w))
