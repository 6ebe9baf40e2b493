-- Cutting: some of the parts of a plan are a region, which has a plan of its own. What the whole does, the region does.
--
-- Read first: Tokens, TokenBits of gos_plan. A joint that leads out of the region is joined to a port of the region's plan.
-- Its place in the whole is a place of the region too, so nothing is buffered between.
use Rattle.std.specs.Prelude.{◌≡◌, ℕ, Bool, true, false, IsTrue, List, [], ◌∷◌, ◌++◌, ◌⊎◌, length, Option, Some, None, All, slice_get, nat_lt, Contains, if◌then◌else◌}
use Rattle.gos_plan.specs.Kinds.{Part}
use Rattle.gos_plan.specs.Firing.{Rest, Slot, Token, Row, at}
use Rattle.gos_plan.specs.Plans.{End, PartEnd, ImportEnd, ResultEnd, Joint, Plan, contact_at, same_end, stands_in, IsRight}
use Rattle.gos_plan.specs.Tokens.{Tokens, Element, Fire, Out, In, IsPortEnd, token_at, end_of, way_of, firing_of, Does, Runs, IsIdle}
use Rattle.gos_plan.specs.TokenBits.{LiteralFits, AllFit}
use Rattle.gos_joining.specs.webs.Webs.{joint}

-- How a region's plan lies in the whole: the number in the whole of each of its parts, and the number in the region of each
-- part of the whole that is in it; of each port of the region the end in the whole that stands on the other side of the
-- joint, and of each such end the port.
pub record Cut : Type 0 where
  pub part : ℕ → ℕ
  pub number : ℕ → Option ℕ
  pub outer : End → End
  pub inner : End → Option End

-- where an end of the region stands in the whole
abbrev pub lies_at : Cut → End → End
lies_at f (PartEnd i h) = PartEnd (f.part i) h
lies_at f (ImportEnd i h) = f.outer (ImportEnd i h)
lies_at f (ResultEnd h) = f.outer (ResultEnd h)

-- an end of a part of the region, and any other
abbrev pub IsInside : Cut → End → Type 0
IsInside f (PartEnd i h) = (j : ℕ) × (f.number i ≡ Some j)
IsInside f (ImportEnd i h) = ⊥
IsInside f (ResultEnd h) = ⊥

abbrev pub IsOutside : Cut → End → Type 0
IsOutside f (PartEnd i h) = f.number i ≡ None
IsOutside f (ImportEnd i h) = Unit {0}
IsOutside f (ResultEnd h) = Unit {0}

-- an end stands in a joint
abbrev pub StandsIn : Plan → End → Type 0
StandsIn p e = (j : Joint) × Contains p.joints j × IsTrue (stands_in e j)

-- c is the plan of the region. A port that stands in no joint stands for nothing. The contacts of a port are said, since of a
-- joint between two ports no part of the region tells the bits. No joint of the whole is two joints of the
-- region: a joined port lies outside, so the region isn't joined to itself.
pub record IsCut (f : Cut) (r c : Plan) : Type 0 where
  pub whole_right : IsRight r
  pub right : IsRight c
  pub parts : (i : ℕ) (k : Part) → slice_get c.parts i ≡ Some k → (slice_get r.parts (f.part i) ≡ Some k) × (f.number (f.part i) ≡ Some i)
  pub numbers : (i j : ℕ) → f.number i ≡ Some j → (f.part j ≡ i) × ((k : Part) × (slice_get c.parts j ≡ Some k))
  pub ports : (e : End) → IsPortEnd e → StandsIn c e → IsOutside f (f.outer e) × (f.inner (f.outer e) ≡ Some e)
  pub inners : (b e : End) → f.inner b ≡ Some e → IsPortEnd e × StandsIn c e × (f.outer e ≡ b)
  pub contacts : (e : End) → IsPortEnd e → StandsIn c e → contact_at r (f.outer e) ≡ contact_at c e
  pub joints : (a b : End) → Contains c.joints (joint a b) → Contains r.joints (joint (lies_at f a) (lies_at f b))
  pub all :
      (a b : End) → Contains r.joints (joint a b) → IsInside f a ⊎ IsInside f b
      → (d e : End) × Contains c.joints (joint d e) × (lies_at f d ≡ a) × (lies_at f e ≡ b)

-- whether an end asks in a joint
abbrev pub asks_in : List Joint → End → Bool
asks_in [] e = false
asks_in (j ∷ js) e = if same_end e j.asking then true else asks_in js e

-- The tokens of the region. What has no name in the region is as if it were idle: else a number beyond its parts could
-- stand for a part of the whole.
abbrev pub cut_tokens : Cut → Plan → Tokens → Tokens
cut_tokens f c s =
    record {
      in_place = λ way e. if asks_in c.joints e then s.in_place way (lies_at f e) else None;
      state = λ i. if nat_lt i (length c.parts) then s.state (f.part i) else at Rest 0;
    }

-- an output, or an input, at a port that there is
abbrev pub out_if : Option End → ℕ → List Element
out_if None v = []
out_if (Some e) v = Out e v ∷ []

abbrev pub in_if : Option End → ℕ → List Element
in_if None v = []
in_if (Some e) v = In e v ∷ []

-- the inputs that a part outside makes by these tokens
abbrev pub ins_of : Cut → ℕ → List Token → List Element
ins_of f i [] = []
ins_of f i (t ∷ ts) = in_if (f.inner (end_of i t.slot)) t.value ++ ins_of f i ts

-- what a firing outside is: the output that it takes, if it takes one of the region's, and the inputs that it makes
abbrev pub outside_firing : Cut → ℕ → Slot → Option ℕ → Option Row → List Element
outside_firing f i t None r = []
outside_firing f i t (Some v) None = []
outside_firing f i t (Some v) (Some r) = out_if (f.inner (end_of i t)) v ++ ins_of f i (r.puts v)

abbrev pub firing_in : Cut → ℕ → Slot → Option ℕ → List Element → List Element
firing_in f i t None outside = outside
firing_in f i t (Some j) outside = Fire j t ∷ []

-- What the region does where the whole makes this element.
abbrev pub cut_element : Cut → Plan → Element → Tokens → List Element
cut_element f r (Fire i t) s =
    firing_in f i t (f.number i)
    (outside_firing f i t (token_at r s (end_of i t) (way_of t)) (firing_of (slice_get r.parts i) (s.state i) t))
cut_element f r (Out e v) s = out_if (f.inner e) v
cut_element f r (In e v) s = in_if (f.inner e) v

-- The list of the region: relation, since each element's values are those of its state.
abbrev pub IsCutList : Cut → Plan → List Element → Tokens → List Element → Type 0
IsCutList f r [] s ys = ys ≡ []
IsCutList f r (x ∷ xs) s ys =
    (t : Tokens) → Does r x s t → (zs : List Element) × (ys ≡ cut_element f r x s ++ zs) × IsCutList f r xs t zs

-- A possible list has one such list.
abbrev pub CutListIs : Type 0
CutListIs =
    (f : Cut) (r : Plan) (xs : List Element) (s t : Tokens)
    → Runs r xs s t → (ys : List Element) × IsCutList f r xs s ys × ((zs : List Element) → IsCutList f r xs s zs → zs ≡ ys)

-- What the whole does the region does. Numbers have to fit, since an input has to: a token that is put on a cut joint.
abbrev pub ElementIsCut : Type 0
ElementIsCut =
    (f : Cut) (r c : Plan) (x : Element) (s t : Tokens)
    → IsCut f r c → All LiteralFits r.parts → AllFit r s → Does r x s t
    → Runs c (cut_element f r x s) (cut_tokens f c s) (cut_tokens f c t)

abbrev pub ListIsCut : Type 0
ListIsCut =
    (f : Cut) (r c : Plan) (xs ys : List Element) (s t : Tokens)
    → IsCut f r c → All LiteralFits r.parts → AllFit r s → Runs r xs s t → IsCutList f r xs s ys
    → Runs c ys (cut_tokens f c s) (cut_tokens f c t)

-- What is idle in the whole is idle in the region.
abbrev pub IdleIsCut : Type 0
IdleIsCut = (f : Cut) (r c : Plan) (s : Tokens) → IsIdle r s → IsIdle c (cut_tokens f c s)
