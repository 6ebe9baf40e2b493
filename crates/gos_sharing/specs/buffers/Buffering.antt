-- The plan of a buffer: a Share in front of a plan.
--
-- Read first: Buffers; Realises of gos_realises.
use Rattle.std.specs.Prelude.{ℕ, zero, suc, ◌<◌, List, [], ◌∷◌, ◌++◌, length, map}
use Rattle.gos_types.specs.Types.{Type', IsGround}
use Rattle.gos_model.specs.Terms.{Term}
use Rattle.gos_plan.specs.Kinds.{Part, Share}
use Rattle.gos_plan.specs.Plans.{End, PartEnd, ImportEnd, ResultEnd, Joint, Plan, IsRight}
use Rattle.gos_plan.specs.Joining.{Link, Wiring}
use Rattle.gos_realises.specs.realises.Regular.{count, IsRegular}
use Rattle.gos_realises.specs.realises.Matched.{RealisesInTurn}
use Rattle.gos_realises.specs.realises.Links.{IsJoined}
use Rattle.gos_realises.specs.realises.Wirings.{link}
use Rattle.gos_realises.specs.realises.Realises.{Realises}
use Rattle.gos_joining.specs.webs.Webs.{joint}
use Rattle.gos_joining.specs.webs.Cutting.{StandsIn}
use Rattle.gos_sharing.specs.sharing.Sharing.{source_end, caller_end}
use Rattle.gos_sharing.specs.buffers.Buffers.{IsBuffer}

-- the plan with one more part behind its own, which stands in no joint
abbrev pub with_part : Part → Plan → Plan
with_part k p = record p { parts = p.parts ++ (k ∷ []) }

-- such a part does nothing
abbrev pub LoosePartIsFree : Type 0
LoosePartIsFree =
    (k : Part) (p : Plan)
    → IsRight p → (IsRegular p → IsRegular (with_part k p)) × ((m : Term) → RealisesInTurn p m → RealisesInTurn (with_part k p) m)

-- where an end of a plan stands behind Share i: its result's handshakes are those of the source
abbrev pub end_behind : ℕ → End → End
end_behind i (PartEnd k h) = PartEnd k h
end_behind i (ImportEnd k h) = ImportEnd k h
end_behind i (ResultEnd h) = source_end i h

abbrev pub joint_behind : ℕ → Joint → Joint
joint_behind i j = joint (end_behind i j.asking) (end_behind i j.serving)

-- handshakes j, j + 1, .. of the result, so many of them, joined to those of caller c
abbrev pub callers_joined : ℕ → Type' → ℕ → ℕ → ℕ → List Joint
callers_joined i t c j zero = []
callers_joined i t c j (suc m) = joint (ResultEnd j) (caller_end i t c j) ∷ callers_joined i t c (suc j) m

-- A plan of outcome t behind caller c of a Share, which is its last part.
abbrev pub buffered : Type' → ℕ → Plan → Plan
buffered t c p =
    record p {
      parts = p.parts ++ (Share t ∷ []);
      joints = map (joint_behind (length p.parts)) p.joints ++ callers_joined (length p.parts) t c 0 (count t);
    }

-- the plan of a Share alone, whose result is caller c's
abbrev pub lone_share : Type' → ℕ → Plan
lone_share t c = record { weight = 0; imports = []; outcome = t; parts = Share t ∷ []; joints = callers_joined 0 t c 0 (count t) }

-- handshakes j, j + 1, .. of plan 0's result, so many of them, joined to those of plan 1's source
abbrev pub sources_linked : ℕ → ℕ → List Link
sources_linked j zero = []
sources_linked j (suc m) = link 0 (ResultEnd j) 1 (source_end 0 j) ∷ sources_linked (suc j) m

-- the plan joined to a Share, with that Share's result
abbrev pub buffering : Type' → ℕ → Plan → Wiring
buffering t c p =
    record { plans = p ∷ lone_share t c ∷ []; links = sources_linked 0 (count t); giver = 1; skipped = 0; outcome = t }

-- of which the plan behind the Share is the joining
abbrev pub BufferedIsJoined : Type 0
BufferedIsJoined =
    (c : ℕ) (p : Plan) → c < 2 → IsRight p → IsGround p.outcome → IsJoined (buffering p.outcome c p) (buffered p.outcome c p)

-- each handshake of the plan's result stands in a joint
abbrev pub ResultIsJoined : Plan → Type 0
ResultIsJoined p = (j : ℕ) → j < count p.outcome → StandsIn p (ResultEnd j)

-- it is a buffer
abbrev pub BufferedIsBuffer : Type 0
BufferedIsBuffer =
    (c : ℕ) (p : Plan)
    → c < 2 → IsRight p → IsGround p.outcome → ResultIsJoined p
    → IsBuffer (length p.parts) p.outcome c (buffered p.outcome c p) (with_part (Share p.outcome) p)

-- so it realises what the plan does
abbrev pub GroundIsBuffered : Type 0
GroundIsBuffered =
    (t : Type') (c : ℕ) (p : Plan) (m : Term)
    → c < 2 → IsGround t → ResultIsJoined p → Realises t p m → Realises t (buffered t c p) m
