-- What may be done where a number is written at a port: by the region, by the part that writes, and at the ports.
--
-- Read first: Writes, Tables; Tokens of gos_plan.
use Rattle.std.specs.Prelude.{◌≡◌, ℕ, Some}
use Rattle.gos_model.specs.Terms.{Name}
use Rattle.gos_plan.specs.Firing.{Rest, Value, Writing, Slot, Req, Ans}
use Rattle.gos_plan.specs.Plans.{End, ImportEnd, ResultEnd, Plan}
use Rattle.gos_plan.specs.Tokens.{Tokens, Element, Fire, Out, In, Does}
use Rattle.gos_joining.specs.webs.Cutting.{Cut}
use Rattle.gos_nodes.specs.assign_part.Writes.{IsPortWrite}

-- A firing of the region's, or of part d by one of its three rows; an output at a port of the region's, the write at
-- import k, or the answer of the result. Of an input nothing is said: it is the outside that makes it.
pub data Done (d k : ℕ) (f : Cut) (s : Tokens) : Element → Type 0 where
  within : (i j : ℕ) (slot : Slot) → f.number i ≡ Some j → Done d k f s (Fire i slot)
  run : (s.state d).phase ≡ Rest → Done d k f s (Fire d (Req 2))
  given : (s.state d).phase ≡ Value → Done d k f s (Fire d (Ans 0))
  written : (s.state d).phase ≡ Writing → Done d k f s (Fire d (Ans 1))
  asks : (e b : End) (v : ℕ) → f.inner e ≡ Some b → Done d k f s (Out e v)
  writes : (v : ℕ) → Done d k f s (Out (ImportEnd k 1) v)
  answers : (v : ℕ) → Done d k f s (Out (ResultEnd 0) v)
  comes : (e : End) (v : ℕ) → Done d k f s (In e v)

-- every element that is possible is such
abbrev pub ElementsOfWrites : Type 0
ElementsOfWrites =
    (d k w : ℕ) (x : Name) (f : Cut) (r p : Plan) (y : Element) (s t : Tokens) → IsPortWrite d k w x f r p → Does r y s t → Done d k f s y
