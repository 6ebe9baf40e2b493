-- What the region of N makes of each element of a plan that writes at a port.
--
-- Read first: Elements; Cutting of gos_joining. The region is asked when the Assign is run, and answers when the Assign takes
-- its number; of the write, of what the Assign does after it, and of its own answer the region knows nothing.
use Rattle.std.specs.Prelude.{◌≡◌, ℕ, [], ◌∷◌, Some, None}
use Rattle.gos_types.specs.Events.{Answer}
use Rattle.gos_model.specs.Terms.{Name}
use Rattle.gos_plan.specs.Firing.{Slot, Req, Ans}
use Rattle.gos_plan.specs.Plans.{End, PartEnd, ImportEnd, ResultEnd, Plan}
use Rattle.gos_plan.specs.Tokens.{Tokens, Fire, Out, In, token_at, Does}
use Rattle.gos_joining.specs.webs.Cutting.{Cut, in_if, cut_element}
use Rattle.gos_nodes.specs.assign_part.Writes.{IsPortWrite}

-- The region's ports: no end but the first of the Assign's stands for its result, and neither the Assign's others nor the
-- write nor the whole's result stands for one of its ports.
pub record RegionEnds (d k : ℕ) (f : Cut) : Type 0 where
  pub asked : (e : End) → f.inner (PartEnd d 0) ≡ Some e → e ≡ ResultEnd 0
  pub writes : f.inner (PartEnd d 1) ≡ None
  pub run : f.inner (PartEnd d 2) ≡ None
  pub variable : f.inner (ImportEnd k 1) ≡ None
  pub result : f.inner (ResultEnd 0) ≡ None

-- What the region does where the whole does these. Its result may stand in no joint: then it is asked in vain.
pub record RegionDoes (d k : ℕ) (f : Cut) (r : Plan) (s t : Tokens) : Type 0 where
  pub within : (i j : ℕ) (slot : Slot) → f.number i ≡ Some j → cut_element f r (Fire i slot) s ≡ Fire j slot ∷ []
  pub run : Does r (Fire d (Req 2)) s t → cut_element f r (Fire d (Req 2)) s ≡ in_if (f.inner (PartEnd d 0)) 0
  pub given :
      (v : ℕ) → Does r (Fire d (Ans 0)) s t → token_at r s (PartEnd d 0) Answer ≡ Some v
      → cut_element f r (Fire d (Ans 0)) s ≡ Out (ResultEnd 0) v ∷ []
  pub written : Does r (Fire d (Ans 1)) s t → cut_element f r (Fire d (Ans 1)) s ≡ []
  pub asks : (e b : End) (v : ℕ) → f.inner e ≡ Some b → cut_element f r (Out e v) s ≡ Out b v ∷ []
  pub writes : (v : ℕ) → cut_element f r (Out (ImportEnd k 1) v) s ≡ []
  pub is_written : (v : ℕ) → cut_element f r (In (ImportEnd k 1) v) s ≡ []
  pub answers : (v : ℕ) → cut_element f r (Out (ResultEnd 0) v) s ≡ []
  pub is_run : (v : ℕ) → cut_element f r (In (ResultEnd 0) v) s ≡ []

abbrev pub EndsOfWrites : Type 0
EndsOfWrites = (d k w : ℕ) (x : Name) (f : Cut) (r p : Plan) → IsPortWrite d k w x f r p → RegionEnds d k f

abbrev pub CutsOfWrites : Type 0
CutsOfWrites =
    (d k w : ℕ) (x : Name) (f : Cut) (r p : Plan) (s t : Tokens) → IsPortWrite d k w x f r p → RegionDoes d k f r s t
