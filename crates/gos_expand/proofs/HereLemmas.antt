-- The part or the import at an end of a plan whose blocks are numbered: its handshake there, and where its cells begin.
use Rattle.std.specs.Prelude.{Some, IsSome}
use Rattle.std.proofs.Common.{get_or, ◌≡◌, ℕ, ◌+◌, ◌≤◌, List, map, ap, subst, arith, ◌∙◌, slice_get}
use Rattle.std.proofs.lemmas.Option.{get_or_from_slice_get}
use Rattle.gos_types.specs.Types.{type_of}
use Rattle.gos_plan.specs.declared.plan.PlanImport.{PlanImport}
use Rattle.gos_plan.specs.declared.plan.End as declared
use Rattle.gos_plan.specs.declared.plan.End.TheVariants as ends
use Rattle.gos_plan.specs.Kinds.{Contact, contacts_of}
use Rattle.gos_plan.specs.Plans.{contact_at}
use Rattle.gos_plan.specs.Seen.{SeenPlan, plan_of, import_of, end_of}
use Rattle.gos_expand.specs.declared.numbering.Numbering.{Numbering}
use Rattle.gos_expand.specs.Starts.{port_start}
use Rattle.gos_expand.specs.inner.Numbering.{IsNumbered, laying_in}
use Rattle.gos_expand.proofs.BlockLemmas.{there_mapped}
use Rattle.gos_expand.proofs.EndLemmas.{import_known, import_here, import_begins, import_ends_within}

-- the import at the end of one
pub record ImportHere (plan : SeenPlan) (n : Numbering) (i h : ℕ) (x : PlanImport) : Type 0 where
  pub listed : slice_get plan.imports i ≡ Some x
  pub there : slice_get (map import_of plan.imports) i ≡ Some (import_of x)
  pub contact : Contact
  pub shake : slice_get (contacts_of (type_of x.ty)) h ≡ Some contact
  pub begins : slice_get n.ports.items (i + 1) ≡ Some (port_start (plan_of plan) (i + 1))

import_with : (plan : SeenPlan) (n : Numbering) (i h : ℕ) (x : PlanImport) → IsNumbered (plan_of plan) n → slice_get plan.imports i ≡ Some x → (c : Contact) × (slice_get (contacts_of (type_of x.ty)) h ≡ Some c)
    → ImportHere plan n i h x
import_with plan n i h x numbered listed shake =
    let there = there_mapped import_of i plan.imports x listed in
    record {
      listed = listed;
      there = there;
      contact = shake.0;
      shake = shake.1;
      begins = import_begins (plan_of plan) n.ports.items i (import_of x) numbered.of_ports there;
    }

pub some_import : (plan : SeenPlan) (n : Numbering) (e : declared.End) (i h : ℕ) → IsNumbered (plan_of plan) n → IsSome (contact_at (plan_of plan) (end_of e)) → e ≡ ends.Import i h
    → (x : PlanImport) × ImportHere plan n i h x
some_import plan n e i h numbered some is =
    let known = import_known plan.imports i h (subst (λ (d : declared.End). IsSome (contact_at (plan_of plan) (end_of d))) is some) in
    (known.0, import_with plan n i h known.0 numbered known.2 (known.1, known.3))

pub this_import : (plan : SeenPlan) (n : Numbering) (e : declared.End) (i h : ℕ) (items : List PlanImport) (x : PlanImport) → IsNumbered (plan_of plan) n → IsSome (contact_at (plan_of plan) (end_of e)) → e ≡ ends.Import i h
    → items ≡ plan.imports → x ≡ get_or items i x → ImportHere plan n i h x
this_import plan n e i h items x numbered some is same found =
    let here = import_here plan.imports items i h x same (subst (λ (d : declared.End). IsSome (contact_at (plan_of plan) (end_of d))) is some) found in
    import_with plan n i h x numbered here.0 here.1

pub import_base : {plan : SeenPlan} {n : Numbering} {i h : ℕ} {x : PlanImport} (items : List ℕ) → ImportHere plan n i h x → items ≡ n.ports.items → get_or items (i + 1) 0 ≡ port_start (plan_of plan) (i + 1)
import_base {plan} {n} {i} {h} {x} items here same =
    ap (λ (ns : List ℕ). get_or ns (i + 1) 0) same ∙ get_or_from_slice_get n.ports.items (i + 1) (port_start (plan_of plan) (i + 1)) 0 here.begins

pub import_low : {plan : SeenPlan} {n : Numbering} {i h : ℕ} {x : PlanImport} (items : List ℕ) → ImportHere plan n i h x → items ≡ n.ports.items → IsNumbered (plan_of plan) n → get_or items (i + 1) 0 ≤ 4000000000
import_low {plan} {n} {i} {h} {x} items here same numbered =
    let base = import_base items here same in
    let within = import_ends_within (laying_in n) (plan_of plan) i (import_of x) here.there in
    omega (arith, base, within, numbered.whole, numbered.room)
