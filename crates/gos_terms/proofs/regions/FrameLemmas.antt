-- How the web of a child, with its supplies, lies in that of its node: what its dots stand for, there and back.
use Rattle.std.specs.Prelude.{◌≡◌, ◌≢◌, ℕ, zero, suc, ◌+◌, ◌<◌, ◌≤◌, ◌⊎◌, Bool, true, false, not, ◌&&◌, List, length, Option, Some, None, nat_lt, nat_eq, Contains, if◌then◌else◌}
use Rattle.std.proofs.Common.{refl, sym, ◌∙◌, ap, subst, arith, inl, inr}
use Rattle.std.proofs.lemmas.Option.{none-some}
use Rattle.gos_check.specs.Nodes.{Numbered}
use Rattle.gos_check.specs.Linearity.{times, made, used}
use Rattle.gos_check.proofs.TimesLemmas.{some_times, listed_times}
use Rattle.gos_plan.specs.Plans.{End, PartEnd, ImportEnd, ResultEnd}
use Rattle.gos_ties.specs.declared.points.Place.TheVariants as places
use Rattle.gos_ties.specs.declared.points.Point.{Point}
use Rattle.gos_ties.specs.declared.points.Tie as point_ties
use Rattle.gos_joining.specs.webs.Webs.{Dot, Of, Number, Node, Within, Tie, tie, own_web}
use Rattle.gos_realises.specs.realises.Regular.{count}
use Rattle.gos_joining.specs.unions.Unions.{within}
use Rattle.gos_joining.proofs.unions.UnionLemmas.{of_image, in_image}
use Rattle.std.proofs.lemmas.List.Elements.{Contains-append_cases}
use Rattle.std.proofs.lemmas.Bool.{lt-ltb, eq-eqb, ne_eqb, not-true, and_from}
use Rattle.gos_types.proofs.BoolLemmas.{and_first, and_second}
use Rattle.gos_compile.specs.Wiring.{Types, row, parts_of, nodes, ties_of}
use Rattle.gos_terms.specs.wired.Wired.{Supplies, dot_of, dot_ties, result_ties, supply_ties}
use Rattle.gos_terms.proofs.wired.TieLemmas.{of_results}
use Rattle.gos_terms.specs.stages.Leading.{dot_leading}
use Rattle.gos_terms.proofs.stages.FollowLemmas.{dots_lead}
use Rattle.gos_terms.proofs.regions.SpanLemmas.{EachPoint, Both, HoldsInside, spans, one_tie}

-- A child: the numbers for which it has supplies, of which some are names that only it knows; its node has parts from `first`
-- on, and it has its own `shift` later. What a handshake of the node's own part stands for; and where its handshakes lead.
pub record Frame : Type 0 where
  pub types : Types
  pub first : ℕ
  pub shift : ℕ
  pub node : ℕ
  pub child : Numbered
  pub numbers : List ℕ
  pub named : ℕ → Bool
  pub port : ℕ → Option Dot
  pub out : List Point

abbrev pub is_in : ℕ → List ℕ → Bool
is_in n ns = nat_lt 0 (times n ns)

-- k is one of n numbers from low on
abbrev pub in_range : ℕ → ℕ → ℕ → Bool
in_range low n k = not (nat_lt k low) && nat_lt k (low + n)

abbrev pub itself_if : Bool → Dot → Option Dot
itself_if true d = Some d
itself_if false d = None

-- a supply of the node's that the child has too
abbrev pub kept : Frame → ℕ → Bool
kept f n = is_in n f.numbers && not (f.named n)

-- a number of the child's
abbrev pub known : Frame → ℕ → Bool
known f n = nat_lt 0 (times n (made f.child) + times n f.numbers)

abbrev pub size : Frame → ℕ
size f = length (parts_of f.types f.child)

abbrev pub shake_of_end : End → ℕ
shake_of_end (PartEnd i h) = h
shake_of_end (ImportEnd i h) = h
shake_of_end (ResultEnd h) = h

abbrev pub back : Frame → Dot → Option Dot
back f (Within zero (Of (PartEnd k h))) = if nat_eq k f.first then f.port h else itself_if (in_range (f.first + f.shift) (size f) k) (Within 0 (Of (PartEnd k h)))
back f (Within zero (Of (ImportEnd k h))) = None
back f (Within zero (Of (ResultEnd h))) = None
back f (Within zero (Number n h)) = itself_if (known f n) (Within 0 (Number n h))
back f (Within zero (Node k h)) = itself_if (in_range f.node (nodes f.child) k) (Within 0 (Node k h))
back f (Within zero (Within k d)) = None
back f (Within (suc n) d) = itself_if (kept f n) (Within (suc n) d)
back f (Of e) = None
back f (Number n h) = None
back f (Node n h) = None

abbrev pub laid_end : Bool → ℕ → ℕ → End → Dot
laid_end true first n e = Within 0 (Of (PartEnd first (suc (shake_of_end e))))
laid_end false first n e = Within (suc n) (Of e)

abbrev pub laid : Frame → Dot → Dot
laid f (Within zero d) = Within 0 (dot_leading f.out d)
laid f (Within (suc n) (Of e)) = laid_end (f.named n) f.first n e
laid f (Within (suc n) (Number k h)) = Within (suc n) (Number k h)
laid f (Within (suc n) (Node k h)) = Within (suc n) (Node k h)
laid f (Within (suc n) (Within k d)) = Within (suc n) (Within k d)
laid f (Of e) = Of e
laid f (Number n h) = Number n h
laid f (Node n h) = Node n h

-- a point's dot stands for itself, and so does, laid, one of the child's
abbrev pub Held : Frame → Dot → Type 0
Held f d = back f d ≡ Some d

abbrev pub Comes : Frame → Point → Type 0
Comes f p = back f (laid f (Within 0 (dot_of p))) ≡ Some (Within 0 (dot_of p))

-- or it stands for nothing
abbrev pub Gone : Frame → Point → Type 0
Gone f p = back f (Within 0 (dot_of p)) ≡ None

pub in_range_true : (low n k : ℕ) → low ≤ k → k < low + n → in_range low n k ≡ true
in_range_true low n k a b =
    let below : nat_lt k low ≡ false = grind (arith, a) in
    let above : nat_lt k (low + n) ≡ true = grind (arith, b) in
    and_from (not (nat_lt k low)) (nat_lt k (low + n)) (ap not below) above

pub in_range_is : (low n k : ℕ) → in_range low n k ≡ true → (low ≤ k) × (k < low + n)
in_range_is low n k e =
    let one = not-true (nat_lt k low) (and_first (not (nat_lt k low)) (nat_lt k (low + n)) e) in
    let other = and_second (not (nat_lt k low)) (nat_lt k (low + n)) e in (grind (arith, one), grind (arith, other))

pub out_of_range : (low n k : ℕ) → (k < low) ⊎ (low + n ≤ k) → in_range low n k ≡ false
out_of_range low n k off = tested (in_range low n k) refl
  where
    outside : (low ≤ k) × (k < low + n) → (k < low) ⊎ (low + n ≤ k) → ⊥
    outside (a, b) (inl c) = omega (arith, a, c)
    outside (a, b) (inr c) = omega (arith, b, c)

    tested : (b : Bool) → in_range low n k ≡ b → b ≡ false
    tested false e = refl
    tested true e = absurd (outside (in_range_is low n k e) off)

pub itself_true : (b : Bool) (d : Dot) → b ≡ true → itself_if b d ≡ Some d
itself_true b d e = ap (λ (x : Bool). itself_if x d) e

pub itself_false : (b : Bool) (d : Dot) → b ≡ false → itself_if b d ≡ None
itself_false b d e = ap (λ (x : Bool). itself_if x d) e

pub itself_is : (b : Bool) (d x : Dot) → itself_if b d ≡ Some x → b ≡ true
itself_is true d x e = refl
itself_is false d x e = absurd (none-some x e)

pub kept_true : (f : Frame) (n : ℕ) → Contains f.numbers n → f.named n ≡ false → kept f n ≡ true
kept_true f n has unnamed =
    let many = some_times n f.numbers has in
    and_from (is_in n f.numbers) (not (f.named n)) (lt-ltb 0 (times n f.numbers) (omega (arith, many))) (ap not unnamed)

pub kept_is : (f : Frame) (n : ℕ) → kept f n ≡ true → Contains f.numbers n × (f.named n ≡ false)
kept_is f n e =
    let one : nat_lt 0 (times n f.numbers) ≡ true = and_first (is_in n f.numbers) (not (f.named n)) e in
    let many : 1 ≤ times n f.numbers = grind (arith, one) in
    (listed_times n f.numbers many, not-true (f.named n) (and_second (is_in n f.numbers) (not (f.named n)) e))

pub known_of : (f : Frame) (n : ℕ) → Contains f.numbers n → known f n ≡ true
known_of f n has = let many = some_times n f.numbers has in lt-ltb 0 (times n (made f.child) + times n f.numbers) (omega (arith, many))

-- a dot of a part of the node that isn't its own
pub other_part : (f : Frame) (k h : ℕ) → k ≢ f.first
    → back f (Within 0 (Of (PartEnd k h))) ≡ itself_if (in_range (f.first + f.shift) (size f) k) (Within 0 (Of (PartEnd k h)))
other_part f k h other =
    ap (λ (b : Bool). if b then f.port h else itself_if (in_range (f.first + f.shift) (size f) k) (Within 0 (Of (PartEnd k h)))) (ne_eqb k f.first other)

pub own_part : (f : Frame) (h : ℕ) → back f (Within 0 (Of (PartEnd f.first h))) ≡ f.port h
own_part f h =
    ap (λ (b : Bool). if b then f.port h else itself_if (in_range (f.first + f.shift) (size f) f.first) (Within 0 (Of (PartEnd f.first h))))
    (eq-eqb f.first f.first refl)

pub part_held : (f : Frame) → 0 < f.shift → (k h : ℕ) → f.first + f.shift ≤ k → k < f.first + f.shift + size f → Held f (Within 0 (Of (PartEnd k h)))
part_held f some k h low high =
    let other : k ≢ f.first = λ e. omega (arith, e, some, low) in
    other_part f k h other
    ∙ itself_true (in_range (f.first + f.shift) (size f) k) (Within 0 (Of (PartEnd k h))) (in_range_true (f.first + f.shift) (size f) k low high)

-- The child's own points, and its ties, are held.
module _
    (f : Frame) (some : 0 < f.shift)
    (knows : (k : ℕ) → 0 < times k (used f.child) → 0 < times k (made f.child) + times k f.numbers) where
  pub own_comes : HoldsInside (Comes f) f.types (f.first + f.shift) f.node f.child
  own_comes =
      record {
        parts = λ k h low high. part_held f some k h low high;
        nodes =
            λ k h low high.
            itself_true (in_range f.node (nodes f.child) k) (Within 0 (Node k h)) (in_range_true f.node (nodes f.child) k low high);
        numbers =
            λ k h many. itself_true (known f k) (Within 0 (Number k h)) (lt-ltb 0 (times k (made f.child) + times k f.numbers) (by_use k many));
      }
    where
      by_use : (k : ℕ) → 0 < times k (made f.child) + times k (used f.child) → 0 < times k (made f.child) + times k f.numbers
      by_use k many = tested (times k (used f.child)) refl
        where
          tested : (n : ℕ) → times k (used f.child) ≡ n → 0 < times k (made f.child) + times k f.numbers
          tested zero e = omega (arith, e, many)
          tested (suc n) e = knows k (omega (arith, e))

  abbrev pub its_ties : List point_ties.Tie
  its_ties = ties_of f.types (f.first + f.shift) f.node f.child (row places.Result 0 (length f.out))

  abbrev pub its_ties_there : List point_ties.Tie
  its_ties_there = ties_of f.types (f.first + f.shift) f.node f.child f.out

  abbrev pub lead_tie : Tie → Tie
  lead_tie t = tie (dot_leading f.out t.one) (dot_leading f.out t.other)

  -- a tie of the child within its node is one of its own
  pub record Led (u : Tie) : Type 0 where
    pub of : Tie
    pub has : Contains (dot_ties its_ties) of
    pub is : lead_tie of ≡ u
    pub one : back f (Within 0 u.one) ≡ Some (Within 0 of.one)
    pub other : back f (Within 0 u.other) ≡ Some (Within 0 of.other)

  pub led : EachPoint (Comes f) (row places.Result 0 (length f.out)) → (u : Tie) → Contains (dot_ties its_ties_there) u → Led u
  led result u has =
      let (t, has_t, is) =
      of_image lead_tie (dot_ties its_ties) u
      (subst (λ (ts : List Tie). Contains ts u) (dots_lead f.types (f.first + f.shift) f.node f.child f.out) has) in
      let (s, has_s, same) = of_image (λ (s : point_ties.Tie). tie (dot_of s.one) (dot_of s.other)) its_ties t has_t in
      let held = one_tie (Both (Comes f)) its_ties s (spans (Comes f) f.types (f.first + f.shift) f.node f.child (row places.Result 0 (length f.out)) own_comes result) has_s in
      record {
        of = t;
        has = has_t;
        is = is;
        one =
            subst (λ (x : Tie). back f (Within 0 x.one) ≡ Some (Within 0 t.one)) is
            (subst (λ (x : Tie). back f (Within 0 (dot_leading f.out x.one)) ≡ Some (Within 0 x.one)) same held.0);
        other =
            subst (λ (x : Tie). back f (Within 0 x.other) ≡ Some (Within 0 t.other)) is
            (subst (λ (x : Tie). back f (Within 0 (dot_leading f.out x.other)) ≡ Some (Within 0 x.other)) same held.1);
      }

  pub leads : (t : Tie) → Contains (dot_ties its_ties) t → Contains (dot_ties its_ties_there) (lead_tie t)
  leads t has =
      subst (λ (ts : List Tie). Contains ts (lead_tie t)) (sym (dots_lead f.types (f.first + f.shift) f.node f.child f.out))
      (in_image lead_tie (dot_ties its_ties) t has)

-- The ties of a supply.
pub record OfSupply (n : ℕ) (t : Tie) (Q : Dot → Type 0) : Type 0 where
  pub one : Q t.one
  pub other : Q t.other

pub supply_each : (types : Types) (env : Supplies) (n : ℕ) (Q : Dot → Type 0) → ((e : End) → Q (Within (suc n) (Of e))) → ((h : ℕ) → Q (Within 0 (Number n h)))
    → (t : Tie) → Contains (supply_ties types env n) t → OfSupply n t Q
supply_each types env n Q inner number t has =
    elim (Contains-append_cases (within (suc n) (own_web (env n).plan).ties) (result_ties n 0 (count (types n))) t has) [
      | inl own ↦
          let (u, has_u, is) = of_image (λ (x : Tie). tie (Within (suc n) x.one) (Within (suc n) x.other)) (own_web (env n).plan).ties t own in
          let (j, has_j, same) = of_image (λ j. tie (Of j.asking) (Of j.serving)) (env n).plan.joints u has_u in
          subst (λ (x : Tie). OfSupply n x Q) is
          (subst (λ (x : Tie). OfSupply n (tie (Within (suc n) x.one) (Within (suc n) x.other)) Q) same
          (record { one = inner j.asking; other = inner j.serving }))
      | inr later ↦
          let (g, low, high, same) = of_results n 0 (count (types n)) t later in
          subst (λ (x : Tie). OfSupply n x Q) (sym same) (record { one = number g; other = inner (ResultEnd g) })
    ]
