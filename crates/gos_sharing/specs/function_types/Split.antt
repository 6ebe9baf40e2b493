-- A Share of a function's type, and Shares of the argument's type and of the outcome's in its place.
--
-- Read first: Buffers of buffers; Matched of gos_realises. Of each of the three one caller alone is joined. What the source asks of
-- its caller goes the other way at the argument's Share: there the source's end is the caller's.
use Rattle.std.specs.Prelude.{◌≡◌, ◌≢◌, ℕ, ◌+◌, ◌*◌, ◌<◌, ◌⊎◌, Some, slice_get, Contains}
use Rattle.gos_types.specs.Types.{Type', Fun}
use Rattle.gos_model.specs.Terms.{Term}
use Rattle.gos_plan.specs.Kinds.{Share}
use Rattle.gos_plan.specs.Plans.{End, PartEnd, ImportEnd, ResultEnd, Plan, IsRight}
use Rattle.gos_plan.specs.Tokens.{IsPortEnd}
use Rattle.gos_realises.specs.realises.Regular.{count, IsRegular}
use Rattle.gos_realises.specs.realises.Matched.{RealisesInTurn}
use Rattle.gos_joining.specs.webs.Webs.{joint}
use Rattle.gos_joining.specs.webs.Cutting.{StandsIn}
use Rattle.gos_sharing.specs.sharing.Sharing.{source_end, caller_end}
use Rattle.gos_sharing.specs.buffers.Buffers.{IsLoyal}

-- How the one plan lies in the other: the Share of type of -> to, one of its callers, the two Shares in its place, and the new numbers and
-- ends, and back.
pub record Splitting : Type 0 where
  pub wide : ℕ
  pub caller : ℕ
  pub of : Type'
  pub to : Type'
  pub argument : ℕ
  pub outcome : ℕ
  pub part : ℕ → ℕ
  pub part_back : ℕ → ℕ
  pub end : End → End
  pub end_back : End → End

-- an end that may stand in a joint: of the wide Share one of its source or of its caller
abbrev pub IsUsed : Splitting → End → Type 0
IsUsed f (PartEnd n h) =
    (n ≢ f.wide)
    ⊎ ((n ≡ f.wide)
    × ((h < count (Fun f.of f.to))
    ⊎ ((j : ℕ) × (j < count (Fun f.of f.to)) × (h ≡ count (Fun f.of f.to) + f.caller * count (Fun f.of f.to) + j))))
IsUsed f (ImportEnd n h) = Unit {0}
IsUsed f (ResultEnd h) = Unit {0}

-- u is x with the two Shares in place of the one.
pub record IsSplit (f : Splitting) (x u : Plan) : Type 0 where
  pub chosen : f.caller < 2
  pub wide_share : slice_get x.parts f.wide ≡ Some (Share (Fun f.of f.to))
  pub argument_share : slice_get u.parts f.argument ≡ Some (Share f.of)
  pub outcome_share : slice_get u.parts f.outcome ≡ Some (Share f.to)
  pub apart : f.argument ≢ f.outcome
  pub right : IsRight x
  pub also_right : IsRight u
  pub imports : u.imports ≡ x.imports
  pub outcome : u.outcome ≡ x.outcome
  pub parts :
      (n : ℕ) → n ≢ f.wide
      → (slice_get u.parts (f.part n) ≡ slice_get x.parts n) × (f.part_back (f.part n) ≡ n) × (f.part n ≢ f.argument) × (f.part n ≢ f.outcome)
  pub others : (n : ℕ) → n ≢ f.argument → n ≢ f.outcome → (f.part (f.part_back n) ≡ n) × (f.part_back n ≢ f.wide)
  pub ports : (e : End) → IsPortEnd e → f.end e ≡ e
  pub ends : (n h : ℕ) → n ≢ f.wide → f.end (PartEnd n h) ≡ PartEnd (f.part n) h
  pub argument_source : (j : ℕ) → j < count f.of → f.end (source_end f.wide j) ≡ caller_end f.argument f.of f.caller j
  pub argument_caller : (j : ℕ) → j < count f.of → f.end (caller_end f.wide (Fun f.of f.to) f.caller j) ≡ source_end f.argument j
  pub outcome_source : (j : ℕ) → j < count f.to → f.end (source_end f.wide (count f.of + j)) ≡ source_end f.outcome j
  pub outcome_caller :
      (j : ℕ) → j < count f.to → f.end (caller_end f.wide (Fun f.of f.to) f.caller (count f.of + j)) ≡ caller_end f.outcome f.to f.caller j
  pub used : (e : End) → StandsIn x e → IsUsed f e
  pub returns : (e : End) → IsUsed f e → f.end_back (f.end e) ≡ e
  pub joints : (d e : End) → Contains x.joints (joint d e) → Contains u.joints (joint (f.end d) (f.end e))
  pub all :
      (a b : End) → Contains u.joints (joint a b) → (d : End) × (e : End) × Contains x.joints (joint d e) × (f.end d ≡ a) × (f.end e ≡ b)

-- So the plan is regular where the other is, if the Share is loyal to its caller.
abbrev pub SplitIsRegular : Type 0
SplitIsRegular =
    (f : Splitting) (x u : Plan)
    → IsSplit f x u → IsLoyal f.wide f.caller (Fun f.of f.to) x → IsRegular u → IsRegular x

-- And it realises a command or an expression that the other realises.
abbrev pub SplitIsDone : Type 0
SplitIsDone =
    (f : Splitting) (x u : Plan) (m : Term)
    → IsSplit f x u → IsLoyal f.wide f.caller (Fun f.of f.to) x → IsRegular u
    → RealisesInTurn u m → RealisesInTurn x m
