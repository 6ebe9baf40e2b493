-- The loops that add edges: from what arrives at a handshake of a part to what leaves at another.
--
-- Read first: Choosing; LinkedLemmas.
use Rattle.std.proofs.Common.{◌≡◌, ◌+◌, ◌<◌, ◌⊎◌, ℕ, zero, suc, Bool, true, false, if◌then◌else◌, List, length, slice_get, Some, inl, inr, refl, sym, ap, subst, ◌∙◌, arith}
use Rattle.std.proofs.lemmas.Option.{same_Some}
use Rattle.gos_plan.specs.Kinds.{Part, part_contacts}
use Rattle.gos_plan.specs.Plans.{PartEnd}
use Rattle.gos_expand.specs.declared.arrivals.Arrivals.{Arrivals}
use Rattle.gos_expand.specs.Gates.{Making, passing_of}
use Rattle.gos_expand.specs.inner.Choosing.{Ways, ways_at, AreWithin, GoAcross, Adds, IsPassage, PassesTo, PassesFrom, PassesAt}
use Rattle.gos_order.specs.Rings as graph
use Rattle.gos_order.specs.Rings.{Edge, HasEdge, and_edge}
use Rattle.gos_expand.proofs.LinkedLemmas.{edge_behind, edge_before, edge_last, across_ringless, across_more}

pub adds_none : (P : ℕ → ℕ → Type 0) (edges : List Edge) → ((a b : ℕ) → P a b → ⊥) → Adds P edges edges
adds_none P edges none a b = (λ edge. inl edge, λ h. elim h [ inl edge ↦ edge | inr wrong ↦ absurd (none a b wrong) ])

-- edges of one kind and then of another
pub adds_then : (P Q R : ℕ → ℕ → Type 0) (before between after : List Edge) → Adds P before between → Adds Q between after
    → ((a b : ℕ) → R a b → P a b ⊎ Q a b) → ((a b : ℕ) → P a b ⊎ Q a b → R a b)
    → Adds R before after
adds_then P Q R before between after first second split join a b = (forth, back)
  where
    forth : HasEdge after a b → HasEdge before a b ⊎ R a b
    forth edge =
        elim ((second a b).0 edge) [
          | inl old ↦ elim ((first a b).0 old) [ inl first_old ↦ inl first_old | inr p ↦ inr (join a b (inl p)) ]
          | inr q ↦ inr (join a b (inr q))
        ]

    back : HasEdge before a b ⊎ R a b → HasEdge after a b
    back (inl edge) = (second a b).1 (inl ((first a b).1 (inl edge)))
    back (inr r) = elim (split a b r) [ inl p ↦ (second a b).1 (inl ((first a b).1 (inr p))) | inr q ↦ (second a b).1 (inr q) ]

-- edges that are as said
pub adds_as : (P Q : ℕ → ℕ → Type 0) (before after : List Edge) → Adds P before after → ((a b : ℕ) → P a b → Q a b) → ((a b : ℕ) → Q a b → P a b)
    → Adds Q before after
adds_as P Q before after adds there back a b = (
  λ edge. elim ((adds a b).0 edge) [ inl old ↦ inl old | inr p ↦ inr (there a b p) ],
  λ h. elim h [ inl old ↦ (adds a b).1 (inl old) | inr q ↦ (adds a b).1 (inr (back a b q)) ],
)

pub adds_one : (edges : List Edge) (x y : ℕ) → Adds (λ a b. (a ≡ x) × (b ≡ y)) edges (and_edge edges x y)
adds_one edges x y a b = (
  λ edge. elim (edge_behind edges x y a b edge) [ inl old ↦ inl old | inr is ↦ inr (sym is.0, sym is.1) ],
  λ h. elim h [ inl old ↦ edge_before edges x y a b old | inr is ↦ one is ],
)
  where
    one : (a ≡ x) × (b ≡ y) → HasEdge (and_edge edges x y) a b
    one (e, f) =
        subst (λ (n : ℕ). HasEdge (and_edge edges x y) n b) (sym e)
        (subst (λ (n : ℕ). HasEdge (and_edge edges x y) x n) (sym f) (edge_last edges x y))

-- what one passage adds
pub passage_added : (d : ℕ) (table : Arrivals) (part from to : ℕ) (first second : Ways) → ways_at table (PartEnd part from) ≡ Some first
    → ways_at table (PartEnd part to) ≡ Some second
    → AreWithin d table
    → (order after : graph.Graph) (added : Bool) → GoAcross d order.edges
    → (added ≡ false → graph.HasRing (and_edge order.edges first.arriving (d + second.leaving)))
    → after ≡ (if added then record order { edges = and_edge order.edges first.arriving (d + second.leaving) } else order)
    → Adds (IsPassage d table part from to) order.edges after.edges × GoAcross d after.edges
passage_added d table part from to first second comes goes within order after false across ring is =
    absurd
    (across_ringless d (and_edge order.edges first.arriving (d + second.leaving))
    (across_more d order.edges first.arriving (d + second.leaving) across (within (PartEnd part from) first comes).0 (omega arith)) (ring refl))
passage_added d table part from to first second comes goes within order after true across ring is =
    let edges : after.edges ≡ and_edge order.edges first.arriving (d + second.leaving) = ap (λ (g : graph.Graph). g.edges) is in (
      subst (λ (es : List Edge). Adds (IsPassage d table part from to) order.edges es) (sym edges)
          (adds_as (λ a b. (a ≡ first.arriving) × (b ≡ d + second.leaving)) (IsPassage d table part from to) order.edges
          (and_edge order.edges first.arriving (d + second.leaving)) (adds_one order.edges first.arriving (d + second.leaving))
          (λ a b h. record { first = first; comes = comes; second = second; goes = goes; arriving = h.0; leaving = h.1 }) back),
      subst (λ (es : List Edge). GoAcross d es) (sym edges)
          (across_more d order.edges first.arriving (d + second.leaving) across (within (PartEnd part from) first comes).0 (omega arith)),
    )
  where
    back : (a b : ℕ) → IsPassage d table part from to a b → (a ≡ first.arriving) × (b ≡ d + second.leaving)
    back a b x =
        let same = same_Some x.first first (sym x.comes ∙ comes) in
        let other = same_Some x.second second (sym x.goes ∙ goes) in
        (x.arriving ∙ ap (λ (w : Ways). w.arriving) same, x.leaving ∙ ap (λ (w : Ways). d + w.leaving) other)

-- below n + 1 is what is below n, and n
less_or_same : (m n : ℕ) → m < n + 1 → (m < n) ⊎ (m ≡ n)
less_or_same zero zero low = inr refl
less_or_same zero (suc n) low = inl (omega arith)
less_or_same (suc m) zero low = absurd (omega (arith, low))
less_or_same (suc m) (suc n) low = elim (less_or_same m n (omega (arith, low))) [ inl h ↦ inl (omega (arith, h)) | inr h ↦ inr (ap suc h) ]

-- one handshake more, one from which it comes more, and one part more
pub passes_to_more : (d : ℕ) (table : Arrivals) (m : Making) (k : Part) (part from n : ℕ) (before between after : List Edge)
    → Adds (PassesTo d table m k part from n) before between
    → Adds (λ a b. (passing_of m k from n ≡ true) × IsPassage d table part from n a b) between after
    → Adds (PassesTo d table m k part from (n + 1)) before after
passes_to_more d table m k part from n before between after first second =
    adds_then (PassesTo d table m k part from n) (λ a b. (passing_of m k from n ≡ true) × IsPassage d table part from n a b)
    (PassesTo d table m k part from (n + 1)) before between after first second split join
  where
    split : (a b : ℕ) → PassesTo d table m k part from (n + 1) a b
        → PassesTo d table m k part from n a b ⊎ ((passing_of m k from n ≡ true) × IsPassage d table part from n a b)
    split a b (to, low, passes, x) =
        elim (less_or_same to n low) [
          | inl less ↦ inl (to, less, passes, x)
          | inr same ↦ inr
              (ap (λ (h : ℕ). passing_of m k from h) (sym same) ∙ passes, subst (λ (h : ℕ). IsPassage d table part from h a b) same x)
        ]

    join : (a b : ℕ) → PassesTo d table m k part from n a b ⊎ ((passing_of m k from n ≡ true) × IsPassage d table part from n a b)
        → PassesTo d table m k part from (n + 1) a b
    join a b (inl (to, low, passes, x)) = (to, omega (arith, low), passes, x)
    join a b (inr (passes, x)) = (n, omega arith, passes, x)

pub passes_from_more : (d : ℕ) (table : Arrivals) (m : Making) (k : Part) (part n : ℕ) (before between after : List Edge)
    → Adds (PassesFrom d table m k part n) before between
    → Adds (PassesTo d table m k part n (length (part_contacts k))) between after
    → Adds (PassesFrom d table m k part (n + 1)) before after
passes_from_more d table m k part n before between after first second =
    adds_then (PassesFrom d table m k part n) (PassesTo d table m k part n (length (part_contacts k))) (PassesFrom d table m k part (n + 1)) before
    between after first second split join
  where
    split : (a b : ℕ) → PassesFrom d table m k part (n + 1) a b
        → PassesFrom d table m k part n a b ⊎ PassesTo d table m k part n (length (part_contacts k)) a b
    split a b (from, low, x) =
        elim (less_or_same from n low) [
          | inl less ↦ inl (from, less, x)
          | inr same ↦ inr (subst (λ (h : ℕ). PassesTo d table m k part h (length (part_contacts k)) a b) same x)
        ]

    join : (a b : ℕ) → PassesFrom d table m k part n a b ⊎ PassesTo d table m k part n (length (part_contacts k)) a b → PassesFrom d table m k part (n + 1) a b
    join a b (inl (from, low, x)) = (from, omega (arith, low), x)
    join a b (inr x) = (n, omega arith, x)

pub passes_at_more : (d : ℕ) (table : Arrivals) (making : ℕ → Making) (parts : List Part) (n : ℕ) (k : Part) → slice_get parts n ≡ Some k → (before between after : List Edge)
    → Adds (PassesAt d table making parts n) before between
    → Adds (PassesFrom d table (making n) k n (length (part_contacts k))) between after
    → Adds (PassesAt d table making parts (n + 1)) before after
passes_at_more d table making parts n k there before between after first second =
    adds_then (PassesAt d table making parts n) (PassesFrom d table (making n) k n (length (part_contacts k))) (PassesAt d table making parts (n + 1)) before between after
    first second split join
  where
    split : (a b : ℕ) → PassesAt d table making parts (n + 1) a b → PassesAt d table making parts n a b ⊎ PassesFrom d table (making n) k n (length (part_contacts k)) a b
    split a b (part, kind, low, is, x) =
        elim (less_or_same part n low) [
          | inl less ↦ inl (part, kind, less, is, x)
          | inr same ↦ inr
              (let kinds = same_Some kind k (sym is ∙ (ap (slice_get parts) same ∙ there)) in
              subst (λ (h : ℕ). PassesFrom d table (making h) k h (length (part_contacts k)) a b) same
              (subst (λ (y : Part). PassesFrom d table (making part) y part (length (part_contacts y)) a b) kinds x))
        ]

    join : (a b : ℕ) → PassesAt d table making parts n a b ⊎ PassesFrom d table (making n) k n (length (part_contacts k)) a b → PassesAt d table making parts (n + 1) a b
    join a b (inl (part, kind, low, is, x)) = (part, kind, omega (arith, low), is, x)
    join a b (inr x) = (n, k, omega arith, there, x)

-- the passages to one handshake more, where it is passed on there and where it isn't
pub with_passage : (d : ℕ) (table : Arrivals) (m : Making) (k : Part) (part from n : ℕ) (before between after : List Edge) → passing_of m k from n ≡ true
    → Adds (PassesTo d table m k part from n) before between
    → Adds (IsPassage d table part from n) between after
    → Adds (PassesTo d table m k part from (n + 1)) before after
with_passage d table m k part from n before between after passes first second =
    passes_to_more d table m k part from n before between after first
    (adds_as (IsPassage d table part from n) (λ a b. (passing_of m k from n ≡ true) × IsPassage d table part from n a b) between after second
    (λ a b x. (passes, x)) (λ a b x. x.1))

pub without_passage : (d : ℕ) (table : Arrivals) (m : Making) (k : Part) (part from n : ℕ) (before between : List Edge) → passing_of m k from n ≡ false
    → Adds (PassesTo d table m k part from n) before between
    → Adds (PassesTo d table m k part from (n + 1)) before between
without_passage d table m k part from n before between none first =
    passes_to_more d table m k part from n before between between first
    (adds_none (λ a b. (passing_of m k from n ≡ true) × IsPassage d table part from n a b) between (λ a b x. cc (none, x.0)))
