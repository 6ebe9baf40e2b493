-- Ways of ties: one after another, back, and mapped to ways of other ties.
use Rattle.std.proofs.Common.{List, Contains, inl, inr}
use Rattle.gos_joining.specs.webs.Webs.{Dot, Tie, tie, Meet, Way, here, along}

pub meet_back : (ts : List Tie) (a b : Dot) → Meet ts a b → Meet ts b a
meet_back ts a b (inl h) = inr h
meet_back ts a b (inr h) = inl h

pub one_way : (ts : List Tie) (a b : Dot) → Meet ts a b → Way ts a b
one_way ts a b meets = along a b b meets (here b)

pub way_then : (ts : List Tie) (a b c : Dot) → Way ts a b → Way ts b c → Way ts a c
way_then ts a b c (here d) v = v
way_then ts a b c (along d e f meets way) v = along d e c meets (way_then ts e f c way v)

pub way_back : (ts : List Tie) (a b : Dot) → Way ts a b → Way ts b a
way_back ts a b (here d) = here d
way_back ts a b (along d e f meets way) = way_then ts f e d (way_back ts e f way) (one_way ts e d (meet_back ts d e meets))

-- where each tie becomes a way, so does each way
pub mapped_way : (ts us : List Tie) (f : Dot → Dot) → ((t : Tie) → Contains ts t → Way us (f t.one) (f t.other))
    → (a b : Dot) → Way ts a b → Way us (f a) (f b)
mapped_way ts us f each a b (here d) = here (f d)
mapped_way ts us f each a b (along d e g meets way) = way_then us (f d) (f e) (f g) (by_meet meets) (mapped_way ts us f each e g way)
  where
    by_meet : Meet ts d e → Way us (f d) (f e)
    by_meet (inl has) = each (tie d e) has
    by_meet (inr has) = way_back us (f e) (f d) (each (tie e d) has)
