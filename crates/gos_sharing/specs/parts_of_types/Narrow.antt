-- A Share of a wide type in place of a Share whose handshakes are some of its own.
--
-- Read first: Kinds, Plans of gos_plan; Matched, Regular of gos_realises; Rests of gos_supplies. Each handshake of the Share, its source's and its
-- callers', is passed on by itself, so the others may be left out.
use Rattle.std.specs.Prelude.{◌≡◌, ◌≢◌, ℕ, ◌+◌, ◌*◌, ◌<◌, Some, map, slice_get, nat_eq, Contains, if◌then◌else◌}
use Rattle.gos_types.specs.Types.{Type'}
use Rattle.gos_model.specs.Terms.{Term}
use Rattle.gos_plan.specs.Kinds.{Contact, Share, contacts_of}
use Rattle.gos_plan.specs.Plans.{End, PartEnd, ImportEnd, ResultEnd, Joint, Plan, IsRight}
use Rattle.gos_realises.specs.realises.Regular.{count, IsRegular}
use Rattle.gos_realises.specs.realises.Matched.{RealisesInTurn}
use Rattle.gos_supplies.specs.turns.Rests.{Rests}
use Rattle.gos_joining.specs.webs.Webs.{joint}

-- Which part the Share is, its type in the one plan and in the other, how many handshakes of the wide type stand before those of the narrow
-- one, and the number at the wide Share of each handshake of the narrow Share, and back.
pub record Narrowing : Type 0 where
  pub share : ℕ
  pub wide : Type'
  pub narrow : Type'
  pub skipped : ℕ
  pub shake : ℕ → ℕ
  pub shake_back : ℕ → ℕ

-- the number of a handshake of part n
abbrev pub shake_at : Narrowing → ℕ → ℕ → ℕ
shake_at f n h = if nat_eq n f.share then f.shake h else h

-- an end of the plan with the narrow Share, in the one with the wide Share
abbrev pub widened : Narrowing → End → End
widened f (PartEnd n h) = PartEnd n (shake_at f n h)
widened f (ImportEnd n h) = ImportEnd n h
widened f (ResultEnd h) = ResultEnd h

-- z has u's parts, with a wide Share in place of a narrow one. Handshake j of the narrow one's source and of each of its callers is handshake
-- skipped + j there: b is 0 for the source, and from 1 on for the callers. It runs beyond the two that there are, since an idle Share may be
-- in any branch; what it puts there is lost in both plans.
pub record HasWideShare (f : Narrowing) (z u : Plan) : Type 0 where
  pub wide_share : slice_get z.parts f.share ≡ Some (Share f.wide)
  pub narrow_share : slice_get u.parts f.share ≡ Some (Share f.narrow)
  pub others : (n : ℕ) → n ≢ f.share → slice_get z.parts n ≡ slice_get u.parts n
  pub imports : u.imports ≡ z.imports
  pub outcome : u.outcome ≡ z.outcome
  pub contacts : (j : ℕ) (k : Contact) → slice_get (contacts_of f.narrow) j ≡ Some k → slice_get (contacts_of f.wide) (f.skipped + j) ≡ Some k
  pub shakes : (b j : ℕ) → j < count f.narrow → f.shake (b * count f.narrow + j) ≡ b * count f.wide + (f.skipped + j)
  pub returns : (h : ℕ) → f.shake_back (f.shake h) ≡ h

-- z is u with the wide Share in place of the narrow one: its joints are u's. No other handshake of the wide Share stands in a joint.
pub record IsNarrow (f : Narrowing) (z u : Plan) : Type 0 where
  pub frame : HasWideShare f z u
  pub right : IsRight z
  pub also_right : IsRight u
  pub joints : (a b : End) → Contains u.joints (joint a b) → Contains z.joints (joint (widened f a) (widened f b))
  pub all :
      (a b : End) → Contains z.joints (joint a b) → (d : End) × (e : End) × Contains u.joints (joint d e) × (widened f d ≡ a) × (widened f e ≡ b)

-- There is one for each right plan: its joints are the plan's, renamed.
abbrev pub joint_widened : Narrowing → Joint → Joint
joint_widened f j = joint (widened f j.asking) (widened f j.serving)

abbrev pub NarrowIsThere : Type 0
NarrowIsThere =
    (f : Narrowing) (z u : Plan) → HasWideShare f z u → IsRight u → IsNarrow f (record z { joints = map (joint_widened f) u.joints }) u

-- The plan is regular where the other is.
abbrev pub NarrowIsRegular : Type 0
NarrowIsRegular = (f : Narrowing) (z u : Plan) → IsNarrow f z u → IsRegular u → IsRegular z

-- And it realises a command or an expression that the other realises.
abbrev pub NarrowIsDone : Type 0
NarrowIsDone = (f : Narrowing) (z u : Plan) (m : Term) → IsNarrow f z u → RealisesInTurn u m → RealisesInTurn z m

-- And it rests where the other does.
abbrev pub NarrowRests : Type 0
NarrowRests = (f : Narrowing) (z u : Plan) → IsNarrow f z u → Rests u → Rests z
