-- A block's part holds numbers for its body: one, or those of an array. What of the wiring, and of the name that stands for them, is alike.
use Rattle.std.specs.Prelude.{◌≡◌, ℕ, zero, suc, Bool, false, List, [], ◌∷◌, ◌++◌, Some, slice_get, Contains}
use Rattle.std.proofs.Common.{refl, ◌∙◌, ap, arith}
use Rattle.std.proofs.lemmas.Option.{none-some, same_Some}
use Rattle.gos_types.specs.declared.shakes.Role.TheVariants.{Serve, Ask}
use Rattle.gos_types.specs.Types.{Type', Exp, Var, Fun}
use Rattle.gos_model.specs.Terms.{Name, Import}
use Rattle.gos_model.specs.Typing.{array_type, index_width}
use Rattle.gos_check.specs.Nodes.{Binding, OfNew, OfArray}
use Rattle.gos_plan.specs.Kinds as kinds
use Rattle.gos_plan.specs.Kinds.{Part, Contact, serves, contacts_of, part_contacts}
use Rattle.gos_plan.specs.Firing.{Phase, State}
use Rattle.gos_plan.specs.Plans.{ImportEnd, ResultEnd}
use Rattle.gos_realises.specs.realises.Regular.{count}
use Rattle.gos_realises.specs.realises.Modules.{Supply}
use Rattle.gos_ties.specs.declared.points.Place.TheVariants as places
use Rattle.gos_ties.specs.declared.points.Point.{Point}
use Rattle.gos_ties.specs.Ties.{point}
use Rattle.gos_joining.specs.webs.Webs.{joint}
use Rattle.gos_supplies.specs.names.Names.{name_plan, imported}
use Rattle.gos_supplies.specs.turns.Names.{IsNamePlan}
use Rattle.gos_supplies.proofs.arrays.NameLemmas.{array_name_is_name}
use Rattle.gos_nodes.specs.blocks.Servers.{Server, IsServer, is_active, array_runs, array_opened}
use Rattle.gos_nodes.proofs.blocks.DriverLemmas.{local_is_server}
use Rattle.gos_nodes.proofs.blocks.ArrayDriverLemmas.{array_is_server}
use Rattle.gos_compile.specs.Wiring.{row, led, answer_bits, binder_part, binder_ties, binder_out}
use Rattle.gos_terms.specs.regions.Blocks.{port_plan}

-- a block holds a number of w bits, or k of them
pub data Holder : Type 0 where
  OneNumber : (w : ℕ) → Holder
  ManyNumbers : (k w : ℕ) → Holder

abbrev pub binding_of : Holder → Binding
binding_of (OneNumber w) = OfNew w
binding_of (ManyNumbers k w) = OfArray k w

abbrev pub supply_of : Holder → Type'
supply_of (OneNumber w) = Var w
supply_of (ManyNumbers k w) = array_type k w

-- its part, whose body answers with v bits, and what that part serves
abbrev pub part_of : Holder → ℕ → Part
part_of (OneNumber w) v = kinds.Local w v
part_of (ManyNumbers k w) v = kinds.Array w k v

abbrev runs_of : Holder → Phase → Bool
runs_of (OneNumber w) = is_active
runs_of (ManyNumbers k w) = array_runs

abbrev opened_of : Holder → State → ℕ → Bool
opened_of (OneNumber w) q h = false
opened_of (ManyNumbers k w) q h = array_opened q.phase h

abbrev pub server_of : Holder → ℕ → Server
server_of hold v = record { part = part_of hold v; supply = supply_of hold; runs = runs_of hold; opened = opened_of hold }

pub server_is : (hold : Holder) (v : ℕ) → IsServer (server_of hold v) v
server_is (OneNumber w) v = local_is_server w v
server_is (ManyNumbers k w) v = array_is_server w k v

pub run_contact : (hold : Holder) (v : ℕ) → slice_get (part_contacts (part_of hold v)) (suc (count (supply_of hold))) ≡ Some (serves 0 v)
run_contact (OneNumber w) v = refl
run_contact (ManyNumbers k w) v = refl

-- how its binder is wired
pub holder_part : (hold : Holder) (t : Type') → binder_part (binding_of hold) t ≡ part_of hold (answer_bits t) ∷ []
holder_part (OneNumber w) t = refl
holder_part (ManyNumbers k w) t = refl

pub holder_ties : (hold : Holder) (t : Type') (i n : ℕ) (out : List Point)
    → binder_ties (binding_of hold) t i n out
    ≡ led out (places.Part i) (suc (count (supply_of hold))) ++ led (row (places.Number n) 0 (count (supply_of hold))) (places.Part i) 1
holder_ties (OneNumber w) t i n out = refl
holder_ties (ManyNumbers k w) t i n out = refl

pub holder_out : (hold : Holder) (t : Type') (i : ℕ) (out : List Point) → binder_out (binding_of hold) t i out ≡ point (places.Part i) 0 ∷ []
holder_out (OneNumber w) t i out = refl
holder_out (ManyNumbers k w) t i out = refl

-- what stands for a number that has a name, of any type
abbrev pub name_supply : Name → Type' → Supply
name_supply x a = record { plan = port_plan x a; term = Import x }

pub port_imports : (x : Name) (a : Type') → (port_plan x a).imports ≡ imported x a ∷ []
port_imports x (Fun (Exp i) (Var w)) = refl
port_imports x a = refl

-- of a variable and of an array it is that of a name
is_name : (x : Name) (w : ℕ) → IsNamePlan (imported x (Var w)) (name_plan x (Var w))
is_name x w =
    record {
      right = (((0, w, refl, refl), refl, refl), (((w, 0, refl, refl), refl, refl), tt));
      imports = refl;
      outcome = refl;
      parts = refl;
      serving = λ h c at serves. serving h c at;
      asking = λ h c at asks. absurd (never h c at asks);
    }
  where
    serving : (h : ℕ) (c : Contact) → slice_get (contacts_of (Var w)) h ≡ Some c → Contains (name_plan x (Var w)).joints (joint (ResultEnd h) (ImportEnd 0 h))
    serving zero c at = (0, omega arith, refl)
    serving (suc zero) c at = (1, omega arith, refl)
    serving (suc (suc h)) c at = absurd (none-some c at)

    serve_ask : Serve ≡ Ask → ⊥
    serve_ask e = cc e

    never : (h : ℕ) (c : Contact) → slice_get (contacts_of (Var w)) h ≡ Some c → c.role ≡ Ask → ⊥
    never zero c at asks = serve_ask (ap (λ (x : Contact). x.role) (same_Some _ c at) ∙ asks)
    never (suc zero) c at asks = serve_ask (ap (λ (x : Contact). x.role) (same_Some _ c at) ∙ asks)
    never (suc (suc h)) c at asks = none-some c at

pub holder_name : (hold : Holder) (x : Name) → IsNamePlan (imported x (supply_of hold)) (port_plan x (supply_of hold))
holder_name (OneNumber w) x = is_name x w
holder_name (ManyNumbers k w) x = array_name_is_name x (index_width k) w
