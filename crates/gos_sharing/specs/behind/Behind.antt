-- A plan of any type behind a Share of which one caller alone is joined.
--
-- Read first: Buffering of buffers, which has ground types; Regular of gos_realises. At the type of a function the source asks its
-- caller back, by what stands for the argument.
use Rattle.std.specs.Prelude.{◌≡◌, ◌↔◌, ℕ, suc, ◌<◌, List, [], ◌∷◌, ◌++◌, ◌⊎◌, length, map, Some, All, slice_get, Contains}
use Rattle.gos_types.specs.declared.shakes.Role.{Role}
use Rattle.gos_types.specs.declared.shakes.Role.TheVariants.{Serve, Ask}
use Rattle.gos_types.specs.Types.{Type', IsGround}
use Rattle.gos_plan.specs.Kinds.{Contact, Share, contacts_of}
use Rattle.gos_plan.specs.Plans.{End, ResultEnd, Joint, Plan, IsRight}
use Rattle.gos_plan.specs.TokenBits.{LiteralFits}
use Rattle.gos_realises.specs.realises.Regular.{IsRegular}
use Rattle.gos_supplies.specs.turns.Rests.{Rests}
use Rattle.gos_joining.specs.webs.Webs.{joint}
use Rattle.gos_sharing.specs.sharing.Sharing.{caller_end}
use Rattle.gos_sharing.specs.buffers.Buffering.{end_behind, joint_behind, buffered}

-- handshake j of the result joined to that of caller c: the user asks where the type serves, and serves where it asks
abbrev pub outer_joint : ℕ → Type' → ℕ → ℕ → Role → Joint
outer_joint i t c j Serve = joint (ResultEnd j) (caller_end i t c j)
outer_joint i t c j Ask = joint (caller_end i t c j) (ResultEnd j)

-- those of these handshakes, from number j on
abbrev pub outer_joints : ℕ → Type' → ℕ → ℕ → List Contact → List Joint
outer_joints i t c j [] = []
outer_joints i t c j (k ∷ ks) = outer_joint i t c j k.role ∷ outer_joints i t c (suc j) ks

-- a plan of outcome t behind caller c of a Share, which is its last part
abbrev pub passing : Type' → ℕ → Plan → Plan
passing t c p =
    record p {
      parts = p.parts ++ (Share t ∷ []);
      joints = map (joint_behind (length p.parts)) p.joints ++ outer_joints (length p.parts) t c 0 (contacts_of t);
    }

-- r has p's parts, and behind them a Share of p's outcome, which is r's too; c is one of its callers.
pub record HasShare (i : ℕ) (t : Type') (c : ℕ) (r p : Plan) : Type 0 where
  pub caller : c < 2
  pub number : i ≡ length p.parts
  pub parts : r.parts ≡ p.parts ++ (Share t ∷ [])
  pub imports : r.imports ≡ p.imports
  pub outcome : r.outcome ≡ t
  pub also_outcome : p.outcome ≡ t

-- r is p behind caller c of that Share. Its joints are p's, with the source for the result, and those of the caller.
pub record IsBehind (i : ℕ) (t : Type') (c : ℕ) (r p : Plan) : Type 0 where
  pub frame : HasShare i t c r p
  pub right : IsRight r
  pub also_right : IsRight p
  pub joints :
      (a b : End) → Contains r.joints (joint a b)
      ↔ (((d : End) × (e : End) × Contains p.joints (joint d e) × (a ≡ end_behind i d) × (b ≡ end_behind i e))
      ⊎ ((j : ℕ) × (k : Contact) × (slice_get (contacts_of t) j ≡ Some k) × (joint a b ≡ outer_joint i t c j k.role)))

-- so lies each plan that is put there
abbrev pub LiesBehind : Type 0
LiesBehind = (c : ℕ) (p : Plan) → c < 2 → IsRight p → IsBehind (length p.parts) p.outcome c (passing p.outcome c p) p

-- What is behind a Share is regular where the plan is, whatever of its result is joined.
abbrev pub BehindIsRegular : Type 0
BehindIsRegular = (i : ℕ) (t : Type') (c : ℕ) (r p : Plan) → IsBehind i t c r p → All LiteralFits p.parts → IsRegular p → IsRegular r

-- So it rests where the plan does.
abbrev pub BehindRests : Type 0
BehindRests = (i : ℕ) (t : Type') (c : ℕ) (r p : Plan) → IsBehind i t c r p → All LiteralFits p.parts → IsRegular p → Rests p → Rests r

-- at a ground type it is the plan of a buffer
abbrev pub GroundIsBuffered : Type 0
GroundIsBuffered = (t : Type') (c : ℕ) (p : Plan) → IsGround t → passing t c p ≡ buffered t c p
