-- The web of a child within the web of its node: a fold.
--
-- Read first: Lodging, Leading, Ranges; Folds of gos_nodes. The handshakes of the child's result lead to the node's own part, or to the
-- node's result. Its own points are the same in the node's web, but for its result, which is where these lead. A number that it
-- uses and that is split is the source of the Share from which the child's supply comes.
use Rattle.std.specs.Prelude.{◌≡◌, ℕ, zero, suc, ◌+◌, ◌-◌, ◌<◌, ◌≤◌, Bool, not, ◌&&◌, ◌||◌, List, [], ◌∷◌, ◌++◌, ◌⊎◌, length, map, Option, Some, None, nat_eq, nat_lt, slice_get, Contains, if◌then◌else◌}
use Rattle.gos_types.specs.Types.{Type'}
use Rattle.gos_model.specs.Typing.{Imported}
use Rattle.gos_check.specs.declared.linear.Split.{Split}
use Rattle.gos_check.specs.Nodes.{Numbered, type_of_node}
use Rattle.gos_check.specs.Linearity.{times, split_in, used, made}
use Rattle.gos_plan.specs.Kinds.{Part}
use Rattle.gos_plan.specs.Plans.{End, PartEnd, ImportEnd, ResultEnd, Plan}
use Rattle.gos_realises.specs.realises.Regular.{count}
use Rattle.gos_ties.specs.declared.points.Place.TheVariants as places
use Rattle.gos_ties.specs.declared.points.Point.{Point}
use Rattle.gos_ties.specs.Ties.{point}
use Rattle.gos_joining.specs.webs.Webs.{Dot, Of, Number, Node, Within, Tie, Way, Web}
use Rattle.gos_joining.specs.webs.Cutting.{Cut}
use Rattle.gos_joining.specs.unions.Unions.{within}
use Rattle.gos_nodes.specs.windows.Regions.{Serving}
use Rattle.gos_nodes.specs.folds.Folds.{Fold, Follows}
use Rattle.gos_compile.specs.Wiring.{Types, parts_of, nodes, shares_ties, ties_of}
use Rattle.gos_terms.specs.wired.Wired.{Supplies, Source, Own, Supplied, Placing, IsFrom, placed, source_dot, dot_at, dot_ties, all_supply_ties, wired_web}
use Rattle.gos_terms.specs.wired.NodeFitting.{AreOfTypes}
use Rattle.gos_terms.specs.stages.Inside.{numbers_inside, AreSplit, SidesAgree}
use Rattle.gos_terms.specs.stages.Leading.{dot_leading}
use Rattle.gos_terms.specs.stages.Lodging.{Spot, Lodging, live, seen_from, lodged, lies, AreTidy}

-- where a handshake of the child's result leads: to one of the node's own part, or of the node's result
pub data Lead : Type 0 where
  AtOwn : (shake : ℕ) → Lead
  AtResult : (shake : ℕ) → Lead

-- A child of a node: the types of numbers; the node's first part, its splits, and what stands for numbers outside it; among the
-- node's parts the place of its own part; where the child's handshakes lead, one after another; the place of the child's first
-- part; the child's first node, the child, and the numbers for which it has supplies. Where a node has no own part its place is
-- one that no Share has and no part of the child.
pub record Child : Type 0 where
  pub types : Types
  pub first : ℕ
  pub splits : List Split
  pub env : Supplies
  pub numbers : List ℕ
  pub own : ℕ
  pub out : List Lead
  pub off : ℕ
  pub node : ℕ
  pub term : Numbered
  pub uses : List ℕ

abbrev pub is_used : Child → ℕ → Bool
is_used f n = nat_lt 0 (times n f.uses)

-- what stands for its numbers
abbrev pub lodge : Child → Lodging
lodge f = lodged f.types f.first (is_used f) f.splits f.env

-- where its handshakes lead; part q is the own one
abbrev pub lead_point : ℕ → Lead → Point
lead_point q (AtOwn s) = point (places.Part q) s
lead_point q (AtResult s) = point places.Result s

abbrev pub child_out : Child → List Point
child_out f = map (lead_point (f.first + f.own)) f.out

-- the handshake of the own part at which a child is asked that has but one
abbrev pub asked_in : List Lead → ℕ
asked_in [] = 0
asked_in (AtOwn s ∷ ls) = s
asked_in (AtResult s ∷ ls) = s

abbrev pub asked : Child → ℕ
asked f = asked_in f.out

-- its web
abbrev pub child_web : Child → Placing → Web
child_web f pl = wired_web f.types (f.first + f.off) f.node f.term f.uses (lodge f).env pl

-- where its dots lie
abbrev pub child_dot : Child → Dot → Dot
child_dot f (Within zero d) = Within 0 (dot_leading (child_out f) d)
child_dot f (Within (suc n) (Of e)) = lies f.first (lodge f) n e
child_dot f d = d

-- and the dots of it for which dots of the node's web stand
abbrev pub in_range : ℕ → ℕ → ℕ → Bool
in_range a n k = not (nat_lt k a) && nat_lt k (a + n)

abbrev pub spot_dot : Option Spot → Option Dot
spot_dot None = None
spot_dot (Some x) = Some (Within (suc x.number) (Of x.end))

-- the handshake of its result, from number k on, that leads to handshake h of the own part, or of the node's result
abbrev pub of_own : List Lead → ℕ → ℕ → Option Dot
of_own [] k h = None
of_own (AtOwn s ∷ ls) k h = if nat_eq h s then Some (Within 0 (Of (ResultEnd k))) else of_own ls (suc k) h
of_own (AtResult s ∷ ls) k h = of_own ls (suc k) h

abbrev pub of_result : List Lead → ℕ → ℕ → Option Dot
of_result [] k h = None
of_result (AtOwn s ∷ ls) k h = of_result ls (suc k) h
of_result (AtResult s ∷ ls) k h = if nat_eq h s then Some (Within 0 (Of (ResultEnd k))) else of_result ls (suc k) h

abbrev pub asks_child : Child → ℕ → Option Dot
asks_child f h = of_own f.out 0 h

abbrev pub is_number : Child → ℕ → Bool
is_number f n = is_used f n || nat_lt 0 (times n (made f.term))

abbrev pub child_back : Child → Dot → Option Dot
child_back f (Within zero (Of (PartEnd q h))) =
    if nat_eq q (f.first + f.own) then asks_child f h
    else if in_range (f.first + f.off) (length (parts_of f.types f.term)) q then Some (Within 0 (Of (PartEnd q h)))
    else spot_dot ((lodge f).home (Within 0 (Of (PartEnd q h))))
child_back f (Within zero (Of (ResultEnd h))) = of_result f.out 0 h
child_back f (Within zero (Node q h)) = if in_range f.node (nodes f.term) q then Some (Within 0 (Node q h)) else None
child_back f (Within zero (Number n h)) =
    if is_number f n then Some (Within 0 (Number n h)) else spot_dot ((lodge f).home (Within 0 (Number n h)))
child_back f d = spot_dot ((lodge f).home d)

-- the part from which a part of the child's plan comes
abbrev pub child_source : Child → Source → Source
child_source f (Own k) = Own (f.off + k)
child_source f (Supplied n k) = (lodge f).part n k

-- the part, and the port, that have a dot
abbrev pub part_of_dot : Child → Placing → Option Dot → Option ℕ
part_of_dot f pl (Some (Within zero (Of (PartEnd q h)))) = Some (pl.own (q - (f.first + f.off)))
part_of_dot f pl (Some (Within (suc n) (Of (PartEnd q h)))) = Some (pl.supplied n q)
part_of_dot f pl d = None

abbrev pub port_of_dot : Placing → Option Dot → Option End
port_of_dot pl (Some (Within zero (Of (ResultEnd h)))) = Some (ResultEnd h)
port_of_dot pl (Some (Within (suc n) (Of (ImportEnd q h)))) = Some (ImportEnd (pl.import n q) h)
port_of_dot pl d = None

abbrev pub lead_end : ℕ → Lead → End
lead_end q (AtOwn s) = PartEnd q s
lead_end q (AtResult s) = ResultEnd s

abbrev pub led_end : ℕ → Option Lead → ℕ → End
led_end q None h = ResultEnd h
led_end q (Some l) h = lead_end q l

abbrev pub child_outer : Child → Placing → Placing → End → End
child_outer f pl plc (PartEnd k h) = PartEnd k h
child_outer f pl plc (ImportEnd k h) = ImportEnd (pl.import ((lodge f).root (plc.origin k).number) (plc.origin k).import) h
child_outer f pl plc (ResultEnd h) = led_end (pl.own f.own) (slice_get f.out h) h

-- how it lies in the node, whose plan has so many parts, numbered by pl, where its own plan is numbered by plc
abbrev pub child_cut : Child → Placing → Placing → ℕ → Cut
child_cut f pl plc size =
    record {
      part = λ j. placed pl (child_source f (plc.source j));
      number = λ j. if nat_lt j size then part_of_dot f plc (child_back f (source_dot f.first (pl.source j) 0)) else None;
      outer = child_outer f pl plc;
      inner = λ b. port_of_dot plc (child_back f (dot_at f.first pl b));
    }

abbrev pub child_fold : Child → Placing → Placing → ℕ → Fold
child_fold f pl plc size = record { cut = child_cut f pl plc size; dot = child_dot f; back = child_back f }

-- the Shares that serve it
abbrev pub serving_if : ℕ → Type' → Option ℕ → List Serving
serving_if part t None = []
serving_if part t (Some c) = record { part = part; ty = t; side = c } ∷ []

abbrev pub servings : Types → Placing → (ℕ → Bool) → ℕ → List Split → List Serving
servings types pl inner x [] = []
servings types pl inner x (s ∷ ss) =
    serving_if (pl.own x) (types s.of) (seen_from (live ss inner s.left) (live ss inner s.right)) ++ servings types pl inner (suc x) ss

abbrev pub child_servings : Child → Placing → List Serving
child_servings f pl = servings f.types pl (is_used f) 0 f.splits

-- The ties of the node's web are those of the Shares and supplies, those of the child, and others, whose dots stand for
-- nothing of it.
abbrev pub shared_ties : Child → List Tie
shared_ties f = within 0 (dot_ties (shares_ties f.first f.splits f.types)) ++ all_supply_ties f.types f.env f.numbers

abbrev pub own_ties : Child → List Tie
own_ties f = within 0 (dot_ties (ties_of f.types (f.first + f.off) f.node f.term (child_out f)))

abbrev pub IsForeign : Child → Tie → Type 0
IsForeign f t = (child_back f t.one ≡ None) × (child_back f t.other ≡ None)

-- no two lead to one
abbrev pub AreDistinct : List Lead → Type 0
AreDistinct ls = (h k : ℕ) (l : Lead) → slice_get ls h ≡ Some l → slice_get ls k ≡ Some l → h ≡ k

pub record IsChild (f : Child) (ts : List Tie) : Type 0 where
  pub tidy : AreTidy (is_used f) f.splits f.numbers
  pub agree : SidesAgree f.splits f.types
  pub split : AreSplit f.splits f.numbers
  pub supplies : AreOfTypes f.types f.env f.numbers
  pub scope : (n : ℕ) → Contains f.uses n → Contains (numbers_inside f.splits f.numbers) n × (times n (split_in f.splits) ≡ 0)
  pub covers : (n : ℕ) → 0 < times n (used f.term) → (0 < times n (made f.term)) ⊎ Contains f.uses n
  pub unmade : (n : ℕ) → Contains (numbers_inside f.splits f.numbers) n → times n (made f.term) ≡ 0
  pub shares_first : length f.splits ≤ f.own
  pub off_first : length f.splits ≤ f.off
  pub own_apart : (f.own < f.off) ⊎ (f.off + length (parts_of f.types f.term) ≤ f.own)
  pub has_shared : (t : Tie) → Contains (shared_ties f) t → Contains ts t
  pub has_own : (t : Tie) → Contains (own_ties f) t → Contains ts t
  pub only : (t : Tie) → Contains ts t → Contains (shared_ties f) t ⊎ Contains (own_ties f) t ⊎ IsForeign f t
  pub long : length f.out ≡ count (type_of_node f.term)
  pub distinct : AreDistinct f.out

-- A tie of the child's web is a way of the node's.
abbrev pub ChildWays : Type 0
ChildWays =
    (f : Child) (ts : List Tie) (pl : Placing) (t : Tie)
    → IsChild f ts → Contains (child_web f pl).ties t → Way ts (child_dot f t.one) (child_dot f t.other)

-- What a tie of the node's web connects stands for nothing of the child, or for what a way of its web connects.
abbrev pub ChildStays : Type 0
ChildStays =
    (f : Child) (ts : List Tie) (pl : Placing) (t : Tie)
    → IsChild f ts → Contains ts t → Follows (child_web f pl).ties (child_back f t.one) (child_back f t.other)

-- the parts and imports of a plan are numbered so
pub record IsLaid (own : List Part) (ns : List ℕ) (env : Supplies) (pl : Placing) (r : Plan) : Type 0 where
  pub parts : (x : Part) (s : Source) → IsFrom own ns env x s → (slice_get r.parts (placed pl s) ≡ Some x) × (pl.source (placed pl s) ≡ s)
  pub no_more : (k : ℕ) (x : Part) → slice_get r.parts k ≡ Some x → IsFrom own ns env x (pl.source k) × (placed pl (pl.source k) ≡ k)
  pub imports :
      (n k : ℕ) (x : Imported) → Contains ns n → slice_get (env n).plan.imports k ≡ Some x
      → (slice_get r.imports (pl.import n k) ≡ Some x) × (pl.origin (pl.import n k) ≡ record { number = n; import = k })
  pub no_import :
      (k : ℕ) (x : Imported) → slice_get r.imports k ≡ Some x
      → Contains ns (pl.origin k).number × (slice_get (env (pl.origin k).number).plan.imports (pl.origin k).import ≡ Some x)
      × (pl.import (pl.origin k).number (pl.origin k).import ≡ k)
