-- A plan that lies in a greater one up to its result: its parts, imports and joints are among those of the greater plan, but for the joints
-- of its result, which may go on to anything there.
--
-- Read first: Cutting of gos_joining; Source of behind. So lies what stands for a number in what is wired to it, and what is behind a
-- Share in that.
use Rattle.std.specs.Prelude.{◌≡◌, ℕ, length, Option, Some, None, slice_get, nat_lt, Contains, if◌then◌else◌}
use Rattle.gos_types.specs.Types.{Type'}
use Rattle.gos_model.specs.Typing.{Imported}
use Rattle.gos_plan.specs.Kinds.{Part}
use Rattle.gos_plan.specs.Plans.{End, PartEnd, ImportEnd, ResultEnd, Plan, IsRight}
use Rattle.gos_realises.specs.realises.Regular.{IsRegular}
use Rattle.gos_joining.specs.webs.Webs.{joint}
use Rattle.gos_joining.specs.webs.Cutting.{Cut, StandsIn}
use Rattle.gos_sharing.specs.buffers.Buffers.{IsLoyal}
use Rattle.gos_sharing.specs.behind.Behind.{IsBehind}
use Rattle.gos_sharing.specs.behind.Source.{IsBefore}

-- the numbers of its parts and imports in the greater plan, and back
pub record Seat : Type 0 where
  pub part : ℕ → ℕ
  pub number : ℕ → Option ℕ
  pub import : ℕ → ℕ
  pub origin : ℕ → Option ℕ

-- where its ends lie, but for those of its result
abbrev pub seat_end : Seat → End → End
seat_end g (PartEnd k h) = PartEnd (g.part k) h
seat_end g (ImportEnd k h) = ImportEnd (g.import k) h
seat_end g (ResultEnd h) = ResultEnd h

abbrev pub IsNoResult : End → Type 0
IsNoResult (PartEnd k h) = Unit {0}
IsNoResult (ImportEnd k h) = Unit {0}
IsNoResult (ResultEnd h) = ⊥

-- p lies so in r. A handshake of one of its parts or imports that stands in a joint there stands in one of its own.
pub record IsSeated (g : Seat) (r p : Plan) : Type 0 where
  pub whole_right : IsRight r
  pub right : IsRight p
  pub parts : (k : ℕ) (x : Part) → slice_get p.parts k ≡ Some x → (slice_get r.parts (g.part k) ≡ Some x) × (g.number (g.part k) ≡ Some k)
  pub numbers : (i k : ℕ) → g.number i ≡ Some k → (g.part k ≡ i) × ((x : Part) × (slice_get p.parts k ≡ Some x))
  pub imports : (k : ℕ) (x : Imported) → slice_get p.imports k ≡ Some x → (slice_get r.imports (g.import k) ≡ Some x) × (g.origin (g.import k) ≡ Some k)
  pub origins : (i k : ℕ) → g.origin i ≡ Some k → g.import k ≡ i
  pub joints :
      (a b : End) → IsNoResult a → IsNoResult b → Contains p.joints (joint a b) → Contains r.joints (joint (seat_end g a) (seat_end g b))
  pub stands : (k h : ℕ) (x : Part) → slice_get p.parts k ≡ Some x → StandsIn r (PartEnd (g.part k) h) → StandsIn p (PartEnd k h)
  pub heard : (k h : ℕ) (x : Imported) → slice_get p.imports k ≡ Some x → StandsIn r (ImportEnd (g.import k) h) → StandsIn p (ImportEnd k h)

-- one seat within another
abbrev pub then_number : Option ℕ → (ℕ → Option ℕ) → Option ℕ
then_number None f = None
then_number (Some k) f = f k

abbrev pub seat_in : Seat → Seat → Seat
seat_in g h =
    record {
      part = λ k. g.part (h.part k);
      number = λ i. then_number (g.number i) h.number;
      import = λ k. g.import (h.import k);
      origin = λ i. then_number (g.origin i) h.origin;
    }

-- What lies so in what lies so lies so in the whole.
abbrev pub SeatsCompose : Type 0
SeatsCompose = (g h : Seat) (r x p : Plan) → IsSeated g r x → IsSeated h x p → IsSeated (seat_in g h) r p

-- the seat of a plan whose numbers stay
abbrev pub same_seat : Plan → Seat
same_seat p =
    record { part = λ k. k; number = λ i. if nat_lt i (length p.parts) then Some i else None; import = λ k. k; origin = λ i. Some i }

-- So lies a plan in itself, and in itself behind a Share.
abbrev pub ItselfIsSeated : Type 0
ItselfIsSeated = (p : Plan) → IsRight p → IsSeated (same_seat p) p p

abbrev pub BehindIsSeated : Type 0
BehindIsSeated = (i : ℕ) (t : Type') (c : ℕ) (r p : Plan) → IsBehind i t c r p → IsSeated (same_seat p) r p

-- how a region of the seated plan lies in the greater one
abbrev pub part_back : Option ℕ → ℕ → Option End
part_back None h = None
part_back (Some k) h = Some (PartEnd k h)

abbrev pub import_back : Option ℕ → ℕ → Option End
import_back None h = None
import_back (Some k) h = Some (ImportEnd k h)

abbrev pub end_back : Seat → End → Option End
end_back g (PartEnd i h) = part_back (g.number i) h
end_back g (ImportEnd i h) = import_back (g.origin i) h
end_back g (ResultEnd h) = None

abbrev pub then_end : Option End → (End → Option End) → Option End
then_end None f = None
then_end (Some e) f = f e

abbrev pub seated_cut : Seat → Cut → Cut
seated_cut g f =
    record {
      part = λ k. g.part (f.part k);
      number = λ i. then_number (g.number i) f.number;
      outer = λ e. seat_end g (f.outer e);
      inner = λ b. then_end (end_back g b) f.inner;
    }

-- What is before a Share in the seated plan is before it in the whole.
abbrev pub SeatedIsBefore : Type 0
SeatedIsBefore =
    (g : Seat) (f : Cut) (i : ℕ) (t : Type') (c : ℕ) (r x p : Plan) → IsSeated g r x → IsBefore f i t c x p → IsBefore (seated_cut g f) (g.part i) t c r p

-- So the Share of a seated plan that is behind it is loyal there, at any type and with imports of any types.
abbrev pub SeatedIsLoyal : Type 0
SeatedIsLoyal =
    (g : Seat) (i : ℕ) (t : Type') (c : ℕ) (r x p : Plan)
    → IsSeated g r x → IsBehind i t c x p → IsRegular p → IsLoyal (g.part i) c t r
