-- What a wired node connects fits.
--
-- Read first: Wired; Typed of gos_compile; Linearity of gos_check. It is said of any node, before its web has a plan.
use Rattle.std.specs.Prelude.{◌≡◌, ◌≢◌, ℕ, ◌≤◌, ◌<◌, ◌⊎◌, List, [], ◌∷◌, length, Some, slice_get, Contains}
use Rattle.gos_types.specs.Types.{Type', Com}
use Rattle.gos_model.specs.Typing.{Imported}
use Rattle.gos_check.specs.declared.linear.Split.{Split}
use Rattle.gos_check.specs.Nodes.{Numbered, Use, Under, One, Two, If, Binding, OneForm, TwoForm, OfSeq, type_of_node, node_seen}
use Rattle.gos_check.specs.Linearity.{times, sides, used, made}
use Rattle.gos_check.specs.Checked.{SeenLinear, IsChecked, program_in}
use Rattle.gos_plan.specs.Kinds.{Part, Contact}
use Rattle.gos_plan.specs.Plans.{End, Plan, contact_at, IsRight}
use Rattle.gos_realises.specs.realises.Modules.{Supply, AreSupplied}
use Rattle.gos_joining.specs.webs.Webs.{Web, Way, WaysFit}
use Rattle.gos_compile.specs.Wiring.{Types, parts_of, all_types}
use Rattle.gos_compile.specs.Typed.{NodesTyped}
use Rattle.gos_terms.specs.wired.Wired.{Supplies, Placing, Source, IsFrom, placed, wired_web, IsWired, AreRealised}
use Rattle.gos_terms.specs.wired.Modules.{numbers_from, supply_at}

-- A plan has the parts, imports and result of a node and its supplies, before its joints are spoken of.
pub record IsPlaced (types : Types) (m : Numbered) (ns : List ℕ) (env : Supplies) (pl : Placing) (c : Plan) : Type 0 where
  pub outcome : c.outcome ≡ type_of_node m
  pub parts : (x : Part) (s : Source) → IsFrom (parts_of types m) ns env x s → (slice_get c.parts (placed pl s) ≡ Some x) × (pl.source (placed pl s) ≡ s)
  pub no_more : (k : ℕ) (x : Part) → slice_get c.parts k ≡ Some x → IsFrom (parts_of types m) ns env x (pl.source k) × (placed pl (pl.source k) ≡ k)
  pub imports :
      (n k : ℕ) (x : Imported) → Contains ns n → slice_get (env n).plan.imports k ≡ Some x
      → (slice_get c.imports (pl.import n k) ≡ Some x) × (pl.origin (pl.import n k) ≡ record { number = n; import = k })
  pub no_import :
      (k : ℕ) (x : Imported) → slice_get c.imports k ≡ Some x
      → Contains ns (pl.origin k).number × (slice_get (env (pl.origin k).number).plan.imports (pl.origin k).import ≡ Some x)
      × (pl.import (pl.origin k).number (pl.origin k).import ≡ k)

-- each number is used once at most and made once at most, and none that has a supply is made
pub record IsLinear (m : Numbered) (ns : List ℕ) : Type 0 where
  pub used_once : (k : ℕ) → times k (used m) ≤ 1
  pub made_once : (k : ℕ) → times k (made m) ≤ 1
  pub supplied : (n : ℕ) → Contains ns n → times n (made m) ≡ 0

-- the supplies' plans are right, and of the numbers' types
abbrev pub AreOfTypes : Types → Supplies → List ℕ → Type 0
AreOfTypes types env ns = (n : ℕ) → Contains ns n → IsRight (env n).plan × ((env n).plan.outcome ≡ types n)

abbrev pub WiredNodeFits : Type 0
WiredNodeFits =
    (types : Types) (i j : ℕ) (m : Numbered) (ns : List ℕ) (env : Supplies) (pl : Placing) (c : Plan)
    → NodesTyped types m → IsLinear m ns → AreOfTypes types env ns → IsPlaced types m ns env pl c
    → WaysFit (wired_web types i j m ns env pl) c

-- a wired node's plan is one with its parts, imports and result
abbrev pub WiredIsPlaced : Type 0
WiredIsPlaced =
    (types : Types) (i j : ℕ) (m : Numbered) (ns : List ℕ) (env : Supplies) (pl : Placing) (r : Plan)
    → IsWired types i j m ns env pl r → IsPlaced types m ns env pl r

-- Where what ways connect fits, each end that there is is connected to one other at most.
abbrev pub FittingIsPlain : Type 0
FittingIsPlain =
    (v : Web) (c : Plan) → WaysFit v c → (a b d : End) (k l m : Contact)
    → contact_at c a ≡ Some k → contact_at c b ≡ Some l → contact_at c d ≡ Some m → a ≢ b → a ≢ d
    → Way v.ties (v.at a) (v.at b) → Way v.ties (v.at a) (v.at d) → b ≡ d

-- plans that realise terms are right, and of the terms' types
abbrev pub RealisedAreOfTypes : Type 0
RealisedAreOfTypes = (types : Types) (env : Supplies) (ns : List ℕ) → AreRealised types env ns → AreOfTypes types env ns

-- Where the induction on a checked module's term starts: it is linear, and what is supplied realises the terms of its numbers.
abbrev pub CheckedStarts : Type 0
CheckedStarts =
    (l : SeenLinear) (ss : List Supply) → IsChecked l → AreSupplied (program_in l).imports ss
    → IsLinear (node_seen l.term) (numbers_from 0 (length (program_in l).imports))
    × AreRealised (all_types (program_in l).imports (node_seen l.term)) (supply_at ss) (numbers_from 0 (length (program_in l).imports))

-- The parts of a linear node are linear, with supplies for numbers of the node and for sides of its splits; and below a binder, for its
-- number.
abbrev pub AreInside : List Split → List ℕ → List ℕ → Type 0
AreInside ss ns ks = (k : ℕ) → Contains ks k → Contains ns k ⊎ (0 < times k (sides ss))

abbrev pub BodyIsLinear : Type 0
BodyIsLinear =
    (t : Type') (ss : List Split) (b : Binding) (n : ℕ) (m : Numbered) (ns ks : List ℕ)
    → IsLinear (Under t ss b n m) ns → AreInside ss ns ks → IsLinear m ks × IsLinear m (n ∷ ks)

abbrev pub PartIsLinear : Type 0
PartIsLinear =
    (t : Type') (ss : List Split) (f : OneForm) (m : Numbered) (ns ks : List ℕ)
    → IsLinear (One t ss f m) ns → AreInside ss ns ks → IsLinear m ks

abbrev pub PartsAreLinear : Type 0
PartsAreLinear =
    (t : Type') (ss : List Split) (f : TwoForm) (m n : Numbered) (ns ks : List ℕ)
    → IsLinear (Two t ss f m n) ns → AreInside ss ns ks → IsLinear m ks × IsLinear n ks

abbrev pub ChoicesAreLinear : Type 0
ChoicesAreLinear =
    (t : Type') (ss : List Split) (m n p : Numbered) (ns ks : List ℕ)
    → IsLinear (If t ss m n p) ns → AreInside ss ns ks → IsLinear m ks × IsLinear n ks × IsLinear p ks

-- A number that is used is, and one that is used twice is not.
abbrev pub UseIsLinear : Type 0
UseIsLinear = IsLinear (Use Com [] 0) (0 ∷ [])

abbrev pub TwiceIsNotLinear : Type 0
TwiceIsNotLinear = IsLinear (Two Com [] OfSeq (Use Com [] 0) (Use Com [] 0)) (0 ∷ []) → ⊥
