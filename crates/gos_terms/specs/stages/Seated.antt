-- What stands for a number lies in what is wired to it, up to its result; and so the Shares of splits are loyal.
--
-- Read first: Folding; Wired of wired; Seats of gos_sharing.
use Rattle.std.specs.Prelude.{◌≡◌, ℕ, Bool, true, List, length, Option, Some, None, nat_eq, nat_lt, slice_get, Contains, if◌then◌else◌}
use Rattle.gos_check.specs.Nodes.{Numbered}
use Rattle.gos_check.specs.declared.linear.Split.{Split}
use Rattle.gos_plan.specs.Kinds.{Part, Share}
use Rattle.gos_plan.specs.Plans.{Plan, IsRight}
use Rattle.gos_nodes.specs.windows.Regions.{Serving, IsLoyal}
use Rattle.gos_compile.specs.Wiring.{Types}
use Rattle.gos_terms.specs.wired.Wired.{Supplies, Source, Own, Supplied, Origin, Placing, placed, IsWired}
use Rattle.gos_terms.specs.wired.NodeFitting.{AreOfTypes}
use Rattle.gos_sharing.specs.loyal.Seats.{Seat, IsSeated}
use Rattle.gos_terms.specs.stages.Inside.{AreSplit, SidesAgree, AreOrdered}
use Rattle.gos_terms.specs.stages.Lodging.{Lodging, lodged, AreTidy}
use Rattle.gos_terms.specs.stages.Folding.{servings}

-- which part of the supply of number n comes from there, and which import
abbrev pub supplied_part : ℕ → Source → Option ℕ
supplied_part n (Own k) = None
supplied_part n (Supplied m k) = if nat_eq m n then Some k else None

abbrev pub supplied_import : ℕ → Origin → Option ℕ
supplied_import n o = if nat_eq o.number n then Some o.import else None

-- where the supply of number n lies in the plan r, which is numbered by pl
abbrev pub supply_seat : Placing → ℕ → Plan → Seat
supply_seat pl n r =
    record {
      part = pl.supplied n;
      number = λ i. if nat_lt i (length r.parts) then supplied_part n (pl.source i) else None;
      import = pl.import n;
      origin = λ i. if nat_lt i (length r.imports) then supplied_import n (pl.origin i) else None;
    }

abbrev pub SuppliesAreSeated : Type 0
SuppliesAreSeated =
    (types : Types) (i j : ℕ) (m : Numbered) (ns : List ℕ) (env : Supplies) (pl : Placing) (r : Plan) (n : ℕ)
    → IsWired types i j m ns env pl r → Contains ns n → IsRight (env n).plan → IsSeated (supply_seat pl n r) r (env n).plan

-- What stands for number n inside splits lies so in c, whose parts come from these sources.
pub record LiesIn (c : Plan) (comes : ℕ → Source) (l : Lodging) (n : ℕ) : Type 0 where
  pub seat : Seat
  pub seated : IsSeated seat c (l.env n).plan
  pub from : (k : ℕ) (x : Part) → slice_get (l.env n).plan.parts k ≡ Some x → comes (seat.part k) ≡ l.part n k

-- Where that is so of each live number, a Share of the splits that is seen from there is loyal in c; the
-- supplies outside are regular.
abbrev pub ServedIsLoyal : Type 0
ServedIsLoyal =
    (types : Types) (i : ℕ) (inner : ℕ → Bool) (ss : List Split) (env : Supplies) (ns : List ℕ) (pl : Placing) (comes : ℕ → Source) (c : Plan) (n : Serving)
    → AreTidy inner ss ns → SidesAgree ss types → AreSplit ss ns → AreOfTypes types env ns → AreOrdered env ns
    → ((m : ℕ) → inner m ≡ true → LiesIn c comes (lodged types i inner ss env) m)
    → Contains (servings types pl inner 0 ss) n
    → (j : ℕ) × (placed pl (comes j) ≡ n.part) × (slice_get c.parts j ≡ Some (Share n.ty)) × IsLoyal j n.ty n.side c
