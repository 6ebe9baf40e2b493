-- How what stands for numbers inside a node's splits lies in the web of the node, and what of that web it is.
--
-- Read first: Inside. A part of such a supply is a part of a supply outside, or the Share of a split. A dot of the node's web may stand
-- for an end of one of these plans. Numbers are live that a child uses, or of which it uses a side; a Share of a live number is
-- seen from that side, and what serves the other one stands for nothing.
use Rattle.std.specs.Prelude.{◌≡◌, ℕ, zero, suc, ◌+◌, ◌*◌, ◌<◌, ◌≤◌, Bool, true, false, not, ◌&&◌, ◌||◌, List, [], ◌∷◌, ◌++◌, length, Option, Some, None, nat_eq, nat_lt, Contains, if◌then◌else◌}
use Rattle.gos_check.specs.declared.linear.Split.{Split}
use Rattle.gos_check.specs.Linearity.{times, split_in, sides}
use Rattle.gos_plan.specs.Plans.{End, PartEnd, ImportEnd, ResultEnd, Joint}
use Rattle.gos_realises.specs.realises.Regular.{count}
use Rattle.gos_joining.specs.webs.Webs.{Dot, Of, Number, Within, Tie, Way, own_web}
use Rattle.gos_joining.specs.unions.Unions.{within}
use Rattle.gos_compile.specs.Wiring.{Types, shares_ties}
use Rattle.gos_sharing.specs.buffers.Buffering.{end_behind}
use Rattle.gos_terms.specs.wired.Wired.{Supplies, Source, Own, Supplied, source_dot, dot_ties, all_supply_ties}
use Rattle.gos_terms.specs.wired.NodeFitting.{AreOfTypes}
use Rattle.gos_terms.specs.stages.Inside.{inside_one_supply, inside_supplies, numbers_inside, AreSplit, SidesAgree}

-- an end of the plan of a number's supply
pub record Spot : Type 0 where
  pub number : ℕ
  pub end : End

abbrev pub spot : ℕ → End → Spot
spot n e = record { number = n; end = e }

abbrev pub spot_if : Bool → ℕ → End → Option Spot
spot_if true n e = Some (spot n e)
spot_if false n e = None

-- What stands for each number; where part k of the plan of number n comes from, and whose imports are its own; which of that part's
-- handshakes serve somebody else; and the end for which a dot stands.
pub record Lodging : Type 0 where
  pub env : Supplies
  pub part : ℕ → ℕ → Source
  pub root : ℕ → ℕ
  pub spare : ℕ → ℕ → ℕ → Bool
  pub home : Dot → Option Spot

-- which numbers are live outside splits, where these are inside
abbrev pub live : List Split → (ℕ → Bool) → ℕ → Bool
live [] inner n = inner n
live (s ∷ ss) inner n = if nat_eq n s.of then live ss inner s.left || live ss inner s.right else live ss inner n

-- outside all splits
abbrev pub first_home : (ℕ → Bool) → Dot → Option Spot
first_home alive (Within zero (Number n h)) = spot_if (alive n) n (ResultEnd h)
first_home alive (Within (suc n) (Of e)) = spot_if (alive n) n e
first_home alive d = None

abbrev pub first_lodging : (ℕ → Bool) → Supplies → Lodging
first_lodging alive env = record { env = env; part = Supplied; root = λ n. n; spare = λ n k h. false; home = first_home alive }

-- the side of a split from which its Share is seen, if one of them is live
abbrev pub seen_from : Bool → Bool → Option ℕ
seen_from true b = Some 0
seen_from false true = Some 1
seen_from false false = None

abbrev pub side_number : Split → ℕ → ℕ
side_number s zero = s.left
side_number s (suc c) = s.right

abbrev pub is_side : Split → ℕ → Bool
is_side s n = nat_eq n s.left || nat_eq n s.right

-- of a Share with m handshakes, those of its source and of caller c
abbrev pub serves_side : ℕ → ℕ → ℕ → Bool
serves_side m c h = nat_lt h m || (not (nat_lt h (m + c * m)) && nat_lt h (m + c * m + m))

-- Inside one split, whose Share is part q, with m handshakes, and stands behind k parts.
abbrev pub moved_spot : Bool → ℕ → ℕ → Spot → Spot
moved_spot true n k x = spot n (end_behind k x.end)
moved_spot false n k x = x

abbrev pub moved : Split → Option ℕ → ℕ → Option Spot → Option Spot
moved s None k old = old
moved s (Some c) k None = None
moved s (Some c) k (Some x) = Some (moved_spot (nat_eq x.number s.of) (side_number s c) k x)

abbrev pub share_spot : ℕ → ℕ → Split → Option ℕ → ℕ → Option Spot
share_spot m k s None h = None
share_spot m k s (Some c) h = spot_if (serves_side m c h) (side_number s c) (PartEnd k h)

abbrev pub side_spot : Split → Option ℕ → ℕ → ℕ → Option Spot
side_spot s None n h = None
side_spot s (Some c) n h = spot_if (nat_eq n (side_number s c)) n (ResultEnd h)

abbrev pub one_home : ℕ → ℕ → ℕ → Split → Option ℕ → (Dot → Option Spot) → Dot → Option Spot
one_home q m k s c home (Within zero (Of (PartEnd i h))) =
    if nat_eq i q then share_spot m k s c h else moved s c k (home (Within 0 (Of (PartEnd i h))))
one_home q m k s c home (Within zero (Number n h)) =
    if is_side s n then side_spot s c n h else moved s c k (home (Within 0 (Number n h)))
one_home q m k s c home d = moved s c k (home d)

-- Share q of the node is number x of its own parts
abbrev pub one_lodging : Types → ℕ → ℕ → Split → Option ℕ → Lodging → Lodging
one_lodging types q x s c l =
    record {
      env = inside_one_supply types s l.env;
      part =
          λ n k. if is_side s n then if nat_eq k (length (l.env s.of).plan.parts) then Own x else l.part s.of k else l.part n k;
      root = λ n. if is_side s n then l.root s.of else l.root n;
      spare =
          λ n k h.
          if is_side s n then
          if nat_eq k (length (l.env s.of).plan.parts) then not (serves_side (count (types s.of)) (if nat_eq n s.left then 0 else 1) h)
          else l.spare s.of k h
          else l.spare n k h;
      home = one_home q (count (types s.of)) (length (l.env s.of).plan.parts) s c l.home;
    }

abbrev pub lodging : Types → ℕ → ℕ → (ℕ → Bool) → List Split → Lodging → Lodging
lodging types q x inner [] l = l
lodging types q x inner (s ∷ ss) l =
    lodging types (suc q) (suc x) inner ss (one_lodging types q x s (seen_from (live ss inner s.left) (live ss inner s.right)) l)

-- inside the splits of a node whose parts have numbers from i on, for a child that uses these numbers
abbrev pub lodged : Types → ℕ → (ℕ → Bool) → List Split → Supplies → Lodging
lodged types i inner ss env = lodging types i 0 inner ss (first_lodging (live ss inner) env)

-- both stand for nothing, or for two ends of one plan that its joints connect
abbrev pub Near : Supplies → Option Spot → Option Spot → Type 0
Near env None None = Unit {0}
Near env None (Some y) = ⊥
Near env (Some x) None = ⊥
Near env (Some x) (Some y) = (x.number ≡ y.number) × Way (own_web (env x.number).plan).ties (Of x.end) (Of y.end)

-- what is split is no side of a split at or behind its own
abbrev pub AreInOrder : List Split → Type 0
AreInOrder [] = Unit {0}
AreInOrder (s ∷ ss) = (times s.of (sides (s ∷ ss)) ≡ 0) × AreInOrder ss

-- no split has two live sides
abbrev pub AreApart : (ℕ → Bool) → List Split → Type 0
AreApart inner [] = Unit {0}
AreApart inner (s ∷ ss) = (live ss inner s.left ≡ true → live ss inner s.right ≡ true → ⊥) × AreApart inner ss

-- Splits as a node has them: each number is split once and each side made once, behind the numbers that stand for something outside.
pub record AreTidy (inner : ℕ → Bool) (ss : List Split) (ns : List ℕ) : Type 0 where
  pub sides_once : (k : ℕ) → times k (sides ss) ≤ 1
  pub split_once : (k : ℕ) → times k (split_in ss) ≤ 1
  pub in_order : AreInOrder ss
  pub apart : AreApart inner ss
  pub outside : (n : ℕ) → Contains ns n → times n (sides ss) ≡ 0

-- The supplies are those inside the splits.
abbrev pub LodgedAreInside : Type 0
LodgedAreInside =
    (types : Types) (i : ℕ) (inner : ℕ → Bool) (ss : List Split) (env : Supplies) → (lodged types i inner ss env).env ≡ inside_supplies types ss env

-- What a tie of a Share or of a supply connects stays in one plan, and is connected there.
abbrev pub HomesAreKept : Type 0
HomesAreKept =
    (types : Types) (i : ℕ) (inner : ℕ → Bool) (ss : List Split) (env : Supplies) (ns : List ℕ) (t : Tie)
    → AreTidy inner ss ns → Contains (within 0 (dot_ties (shares_ties i ss types)) ++ all_supply_ties types env ns) t
    → Near (lodged types i inner ss env).env ((lodged types i inner ss env).home t.one) ((lodged types i inner ss env).home t.other)

-- A number that is not split stands for the result of its own supply, if it is live.
abbrev pub NumbersAreHeld : Type 0
NumbersAreHeld =
    (types : Types) (i : ℕ) (inner : ℕ → Bool) (ss : List Split) (env : Supplies) (ns : List ℕ) (n h : ℕ)
    → AreTidy inner ss ns → times n (split_in ss) ≡ 0
    → (lodged types i inner ss env).home (Within 0 (Number n h)) ≡ spot_if (inner n) n (ResultEnd h)

-- The parts and imports of its supply are at home there, but for what serves somebody else.
pub record IsAtHome (i : ℕ) (l : Lodging) (n : ℕ) : Type 0 where
  pub parts :
      (k h : ℕ) → k < length (l.env n).plan.parts → l.home (source_dot i (l.part n k) h) ≡ spot_if (not (l.spare n k h)) n (PartEnd k h)
  pub imports : (k h : ℕ) → l.home (Within (suc (l.root n)) (Of (ImportEnd k h))) ≡ Some (spot n (ImportEnd k h))

abbrev pub NumbersAreAtHome : Type 0
NumbersAreAtHome =
    (types : Types) (i : ℕ) (inner : ℕ → Bool) (ss : List Split) (env : Supplies) (ns : List ℕ) (n : ℕ)
    → AreTidy inner ss ns → times n (split_in ss) ≡ 0 → inner n ≡ true → IsAtHome i (lodged types i inner ss env) n

-- where an end of the plan of a number's supply lies
abbrev pub lies : ℕ → Lodging → ℕ → End → Dot
lies i l n (PartEnd k h) = source_dot i (l.part n k) h
lies i l n (ImportEnd k h) = Within (suc (l.root n)) (Of (ImportEnd k h))
lies i l n (ResultEnd h) = Within 0 (Number n h)

-- A joint of one of these plans is a way of the node's web, which has the ties of the Shares and of the supplies.
abbrev pub JointsAreWays : Type 0
JointsAreWays =
    (types : Types) (i : ℕ) (inner : ℕ → Bool) (ss : List Split) (env : Supplies) (ns : List ℕ) (ts : List Tie) (n : ℕ) (j : Joint)
    → AreTidy inner ss ns → SidesAgree ss types → AreSplit ss ns → AreOfTypes types env ns
    → ((t : Tie) → Contains (within 0 (dot_ties (shares_ties i ss types)) ++ all_supply_ties types env ns) t → Contains ts t)
    → Contains (numbers_inside ss ns) n → Contains ((lodged types i inner ss env).env n).plan.joints j
    → Way ts (lies i (lodged types i inner ss env) n j.asking) (lies i (lodged types i inner ss env) n j.serving)

-- What a dot stands for is of a live number.
abbrev pub SpotsAreLive : Type 0
SpotsAreLive =
    (types : Types) (i : ℕ) (inner : ℕ → Bool) (ss : List Split) (env : Supplies) (d : Dot) (x : Spot)
    → (lodged types i inner ss env).home d ≡ Some x → inner x.number ≡ true
