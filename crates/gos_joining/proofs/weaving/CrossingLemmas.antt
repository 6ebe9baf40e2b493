-- A way needs a tie once at most: so it is decided whether there is one.
use Rattle.std.specs.Prelude.{◌≡◌, zero, suc, List, [], ◌∷◌, ◌⊎◌, Contains}
use Rattle.std.proofs.Common.{refl, sym, ap, subst, arith, inl, inr}
use Rattle.gos_joining.specs.webs.Webs.{Dot, Tie, tie, Meet, Way, here, along}
use Rattle.gos_joining.proofs.webs.WayLemmas.{way_then}
use Rattle.gos_joining.proofs.weaving.DotLemmas.{Decided, one_dot}

pub still : (ts : List Tie) (a b : Dot) → a ≡ b → Way ts a b
still ts a b same = subst (λ (x : Dot). Way ts a x) same (here a)

pub from_here : (ts : List Tie) (a c b : Dot) → a ≡ c → Way ts c b → Way ts a b
from_here ts a c b same way = subst (λ (x : Dot). Way ts x b) (sym same) way

-- with one tie more
later_tie : (ts : List Tie) (x t : Tie) → Contains ts t → Contains (x ∷ ts) t
later_tie ts x t (n, within, is) = (suc n, omega (arith, within), is)

later_meet : (ts : List Tie) (x : Tie) (a b : Dot) → Meet ts a b → Meet (x ∷ ts) a b
later_meet ts x a b (inl h) = inl (later_tie ts x (tie a b) h)
later_meet ts x a b (inr h) = inr (later_tie ts x (tie b a) h)

later_way : (ts : List Tie) (x : Tie) (a b : Dot) → Way ts a b → Way (x ∷ ts) a b
later_way ts x a b (here d) = here d
later_way ts x a b (along d c z meets way) = along d c z (later_meet ts x d c meets) (later_way ts x c z way)

-- A way that may use one tie more: it doesn't, or it uses it once, forth or back.
pub data Crossing (ts : List Tie) (p q a b : Dot) : Type 0 where
  Past : (way : Way ts a b) → Crossing ts p q a b
  Forth : (first : Way ts a p) (then : Way ts q b) → Crossing ts p q a b
  Back : (first : Way ts a q) (then : Way ts p b) → Crossing ts p q a b

-- the dots of a tie meet in the others, or are its own
abbrev Met : List Tie → Dot → Dot → Dot → Dot → Type 0
Met ts p q a b = Meet ts a b ⊎ ((a ≡ p) × (b ≡ q)) ⊎ ((a ≡ q) × (b ≡ p))

pub first_or_later : (ts : List Tie) (x t : Tie) → Contains (x ∷ ts) t → (x ≡ t) ⊎ Contains ts t
first_or_later ts x t (zero, within, is) = inl is
first_or_later ts x t (suc n, within, is) = inr (n, omega (arith, within), is)

met : (ts : List Tie) (p q a b : Dot) → Meet (tie p q ∷ ts) a b → Met ts p q a b
met ts p q a b (inl h) = forth (first_or_later ts (tie p q) (tie a b) h)
  where
    forth : (tie p q ≡ tie a b) ⊎ Contains ts (tie a b) → Met ts p q a b
    forth (inl is) = inr (inl (ap (λ (t : Tie). t.one) (sym is), ap (λ (t : Tie). t.other) (sym is)))
    forth (inr has) = inl (inl has)
met ts p q a b (inr h) = back (first_or_later ts (tie p q) (tie b a) h)
  where
    back : (tie p q ≡ tie b a) ⊎ Contains ts (tie b a) → Met ts p q a b
    back (inl is) = inr (inr (ap (λ (t : Tie). t.other) (sym is), ap (λ (t : Tie). t.one) (sym is)))
    back (inr has) = inl (inr has)

onward : (ts : List Tie) (p q a c b : Dot) → Met ts p q a c → Crossing ts p q c b → Crossing ts p q a b
onward ts p q a c b (inl meets) (Past way) = Past (along a c b meets way)
onward ts p q a c b (inl meets) (Forth first then) = Forth (along a c p meets first) then
onward ts p q a c b (inl meets) (Back first then) = Back (along a c q meets first) then
onward ts p q a c b (inr (inl (at_p, at_q))) (Past way) = Forth (still ts a p at_p) (from_here ts q c b (sym at_q) way)
onward ts p q a c b (inr (inl (at_p, at_q))) (Forth first then) = Forth (still ts a p at_p) then
onward ts p q a c b (inr (inl (at_p, at_q))) (Back first then) = Past (from_here ts a p b at_p then)
onward ts p q a c b (inr (inr (at_q, at_p))) (Past way) = Back (still ts a q at_q) (from_here ts p c b (sym at_p) way)
onward ts p q a c b (inr (inr (at_q, at_p))) (Forth first then) = Past (from_here ts a q b at_q then)
onward ts p q a c b (inr (inr (at_q, at_p))) (Back first then) = Back (still ts a q at_q) then

pub crossing : (ts : List Tie) (p q a b : Dot) → Way (tie p q ∷ ts) a b → Crossing ts p q a b
crossing ts p q a b (here d) = Past (here d)
crossing ts p q a b (along d c z meets way) = onward ts p q d c z (met ts p q d c meets) (crossing ts p q c z way)

crossed : (ts : List Tie) (p q a b : Dot) → Crossing ts p q a b → Way (tie p q ∷ ts) a b
crossed ts p q a b (Past way) = later_way ts (tie p q) a b way
crossed ts p q a b (Forth first then) =
    way_then (tie p q ∷ ts) a p b (later_way ts (tie p q) a p first)
    (along p q b (inl (0, omega arith, refl)) (later_way ts (tie p q) q b then))
crossed ts p q a b (Back first then) =
    way_then (tie p q ∷ ts) a q b (later_way ts (tie p q) a q first)
    (along q p b (inr (0, omega arith, refl)) (later_way ts (tie p q) p b then))

-- without ties a way leads nowhere
pub no_way : (a b : Dot) → Way [] a b → a ≡ b
no_way a b (here d) = refl
no_way a b (along d c z (inl (n, within, is)) way) = absurd (omega (arith, within))
no_way a b (along d c z (inr (n, within, is)) way) = absurd (omega (arith, within))

both_ways : {A B : Type 0} → Decided A → Decided B → Decided (A × B)
both_ways (inl a) (inl b) = inl (a, b)
both_ways (inl a) (inr not_so) = inr (λ h. not_so h.1)
both_ways (inr not_so) b = inr (λ h. not_so h.0)

by_crossing : (ts : List Tie) (p q a b : Dot)
    → Decided (Way ts a b) → Decided (Way ts a p × Way ts q b) → Decided (Way ts a q × Way ts p b) → Decided (Crossing ts p q a b)
by_crossing ts p q a b (inl way) forth back = inl (Past way)
by_crossing ts p q a b (inr not_so) (inl (first, then)) back = inl (Forth first then)
by_crossing ts p q a b (inr not_so) (inr none) (inl (first, then)) = inl (Back first then)
by_crossing ts p q a b (inr not_so) (inr none) (inr never) = inr nowhere
  where
    nowhere : Crossing ts p q a b → ⊥
    nowhere (Past way) = not_so way
    nowhere (Forth first then) = none (first, then)
    nowhere (Back first then) = never (first, then)

as_way : (ts : List Tie) (p q a b : Dot) → Decided (Crossing ts p q a b) → Decided (Way (tie p q ∷ ts) a b)
as_way ts p q a b (inl crosses) = inl (crossed ts p q a b crosses)
as_way ts p q a b (inr not_so) = inr (λ way. not_so (crossing ts p q a b way))

at_once : (a b : Dot) → Decided (a ≡ b) → Decided (Way [] a b)
at_once a b (inl same) = inl (still [] a b same)
at_once a b (inr not_so) = inr (λ way. not_so (no_way a b way))

pub decided_way : (ts : List Tie) (a b : Dot) → Decided (Way ts a b)
decided_way [] a b = at_once a b (one_dot a b)
decided_way (t ∷ ts) a b =
    as_way ts t.one t.other a b
    (by_crossing ts t.one t.other a b (decided_way ts a b)
    (both_ways (decided_way ts a t.one) (decided_way ts t.other b))
    (both_ways (decided_way ts a t.other) (decided_way ts t.one b)))
