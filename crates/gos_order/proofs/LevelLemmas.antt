-- Levels: what makes room for an edge, and that levels that are raised rise along the edges with this one.
use Rattle.std.specs.Prelude.{◌≡◌, ◌⊎◌, ◌<◌, ◌≤◌, ◌∷◌, [], ℕ, zero, suc, List, length, replicate}
use Rattle.std.proofs.Common.{subst, arith, inl, inr}
use Rattle.std.proofs.lemmas.Bool.{cases_eq}
use Rattle.std.proofs.lemmas.List.{length_push}
use Rattle.gos_order.specs.Rings.{Edge, HasEdge, Leads, along, further, HasRing, and_edge}
use Rattle.gos_order.specs.inner.NodeLists.{at, IsIn}
use Rattle.gos_order.specs.inner.Levels.{AreRising, AreBefore, AreBehind, MakesRoom, AreRaised}
use Rattle.gos_order.proofs.EdgeLemmas.{has_either}

-- levels never fall along a path
rising_path : (edges : List Edge) (levels : List ℕ) (a b : ℕ) → AreRising edges levels → Leads edges a b → at levels a ≤ at levels b
rising_path edges levels a b rising (along _ _ edge) = rising a b edge
rising_path edges levels a b rising (further _ x _ edge path) = omega (arith, rising a x edge, rising_path edges levels x b rising path)

-- no node is behind, if the level of the one node isn't below the limit
behind_none : (edges : List Edge) (levels : List ℕ) (node limit : ℕ) → limit ≤ at levels node → AreBehind edges levels [] node limit
behind_none edges levels node limit high = record {
  among = inr high;
  all = λ a b edge among. absurd (omega (arith, among.1));
}

none_in : (node : ℕ) → IsIn [] node → ⊥
none_in node among = omega (arith, among.1)

cases_le : (a b : ℕ) → (a ≤ b) ⊎ (b < a)
cases_le a b = grind arith

module _ (edges : List Edge) (levels before behind : List ℕ) (from to limit : ℕ) (rising : AreRising edges levels)
    (are_before : AreBefore edges levels before from limit) (are_behind : AreBehind edges levels behind to limit)
    (clear : (a b : ℕ) → HasEdge edges a b → IsIn behind a → IsIn before b → ⊥) (other : IsIn before to → ⊥) where
  -- the node is not before the one, and is behind the other or not below the limit
  abbrev IsPast : ℕ → Type 0
  IsPast node = (IsIn before node → ⊥) × (IsIn behind node ⊎ (limit ≤ at levels node))

  past_edge : (a b : ℕ) → HasEdge edges a b → IsPast a → IsPast b
  past_edge a b edge (apart, inl among) = (
    clear a b edge among,
    elim (cases_le limit (at levels b)) [ inl high ↦ inr high | inr low ↦ inl (are_behind.all a b edge among low) ],
  )
  past_edge a b edge (apart, inr high) = (λ h. apart (are_before.all a b edge h high), inr (omega (arith, high, rising a b edge)))

  past_path : (a b : ℕ) → Leads edges a b → IsPast a → IsPast b
  past_path a b (along _ _ edge) past = past_edge a b edge past
  past_path a b (further _ x _ edge path) past = past_path x b path (past_edge a x edge past)

  -- no path leads from behind to before
  pub parted : Leads edges to from → ⊥
  parted path = (past_path to from path (other, are_behind.among)).0 are_before.among

-- there is room where the levels rise already
pub room_rising : (edges : List Edge) (levels : List ℕ) (from to : ℕ) → AreRising edges levels → at levels from < at levels to
    → MakesRoom edges levels [] from to (at levels from)
room_rising edges levels from to rising up = record {
  behind = behind_none edges levels to (at levels from) (omega (arith, up));
  rises = λ a among. absurd (none_in a among);
  other = none_in from;
  low = omega arith;
  high = omega arith;
  apart = λ path. omega (arith, up, rising_path edges levels to from rising path);
}

-- and where the one node isn't before the other, on the same level
pub room_level : (edges : List Edge) (levels before : List ℕ) (from to limit : ℕ) → AreRising edges levels → AreBefore edges levels before from limit
    → (IsIn before to → ⊥) → limit ≤ at levels to → MakesRoom edges levels [] from to limit
room_level edges levels before from to limit rising are_before other high =
    let none = behind_none edges levels to limit high in
    record {
      behind = none;
      rises = λ a among. absurd (none_in a among);
      other = none_in from;
      low = are_before.low;
      high = are_before.high;
      apart = parted edges levels before [] from to limit rising are_before none (λ a b edge among. absurd (none_in a among)) other;
    }

pub in_or_not : (items : List ℕ) (node : ℕ) → IsIn items node ⊎ (IsIn items node → ⊥)
in_or_not [] node = inr (none_in node)
in_or_not (x ∷ items) node = by (cases_eq x node) (in_or_not items node)
  where
    by : (x ≡ node) ⊎ (x ≡ node → ⊥) → IsIn items node ⊎ (IsIn items node → ⊥) → IsIn (x ∷ items) node ⊎ (IsIn (x ∷ items) node → ⊥)
    by (inl same) rest = inl (0, omega arith, same)
    by (inr other) (inl (place, within, is)) = inl (suc place, omega (arith, within), is)
    by (inr other) (inr none) = inr not_here
      where
        not_here : IsIn (x ∷ items) node → ⊥
        not_here (zero, within, is) = other is
        not_here (suc place, within, is) = none (place, omega (arith, within), is)

module _ (edges : List Edge) (levels items new : List ℕ) (from to limit : ℕ) (makes : MakesRoom edges levels items from to limit)
    (raised : AreRaised items limit levels new) where
  -- raised levels rise along an edge that was there
  rising_old : (a b : ℕ) → at levels a ≤ at levels b → HasEdge edges a b → at new a ≤ at new b
  rising_old a b rose edge = by (in_or_not items a) (in_or_not items b)
    where
      by : IsIn items a ⊎ (IsIn items a → ⊥) → IsIn items b ⊎ (IsIn items b → ⊥) → at new a ≤ at new b
      by (inl here) (inl there) = omega (arith, raised.raised a here, raised.raised b there)
      by (inl here) (inr none) = elim (cases_le limit (at levels b)) [
        | inl high ↦ omega (arith, high, raised.raised a here, raised.others b none)
        | inr low ↦ absurd (none (makes.behind.all a b edge here low))
      ]
      by (inr out) (inl there) = omega (arith, rose, makes.rises b there, raised.others a out, raised.raised b there)
      by (inr out) (inr none) = omega (arith, rose, raised.others a out, raised.others b none)

  -- and along the new one
  rising_new : at new from ≤ at new to
  rising_new = by (in_or_not items to) makes.behind.among
    where
      by : IsIn items to ⊎ (IsIn items to → ⊥) → IsIn items to ⊎ (limit ≤ at levels to) → at new from ≤ at new to
      by (inl here) among = omega (arith, makes.low, raised.others from makes.other, raised.raised to here)
      by (inr out) (inl here) = absurd (out here)
      by (inr out) (inr high) = omega (arith, makes.low, high, raised.others from makes.other, raised.others to out)

  pub rising_more : AreRising edges levels → AreRising (and_edge edges from to) new
  rising_more rising a b edge = elim (has_either edges from to a b edge) [
    | inl old ↦ rising_old a b (rising a b old) old
    | inr (is_from, is_to) ↦
        subst (λ (x : ℕ). at new x ≤ at new b) is_from (subst (λ (x : ℕ). at new from ≤ at new x) is_to rising_new)
  ]

  pub low_more : ((node : ℕ) → at levels node ≤ length edges) → (node : ℕ) → at new node ≤ length (and_edge edges from to)
  low_more low node = by (in_or_not items node)
    where
      by : IsIn items node ⊎ (IsIn items node → ⊥) → at new node ≤ length (and_edge edges from to)
      by (inl here) = omega (arith, makes.high, low from, raised.raised node here, length_push edges (record { from = from; to = to }))
      by (inr out) = omega (arith, low node, raised.others node out, length_push edges (record { from = from; to = to }))

-- where there is no edge
pub rising_empty : (levels : List ℕ) → AreRising [] levels
rising_empty levels a b edge = absurd edge

pub ringless_empty : HasRing [] → ⊥
ringless_empty (a, along _ _ edge) = edge
ringless_empty (a, further _ x _ edge path) = edge

pub low_zero : (count node bound : ℕ) → at (replicate count 0) node ≤ bound
low_zero zero node bound = omega arith
low_zero (suc count) zero bound = omega arith
low_zero (suc count) (suc node) bound = low_zero count node bound
