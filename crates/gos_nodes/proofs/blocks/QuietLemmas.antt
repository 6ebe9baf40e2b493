-- Where the whole is quiet the body is, and where the body and its server are idle the whole is.
use Rattle.std.specs.Prelude.{◌≡◌, ◌⊎◌, ℕ, suc, Option, Some, None, All, slice_get}
use Rattle.std.proofs.Common.{refl, sym, ap, subst, inl, inr, ◌∙◌}
use Rattle.gos_types.specs.Events.{Direction, Request, Answer}
use Rattle.gos_plan.specs.Kinds.{Part, Contact, asks, contacts_of, part_contacts}
use Rattle.gos_plan.specs.Firing.{Rest, Slot, Req, Ans}
use Rattle.gos_plan.specs.Plans.{End, PartEnd, ImportEnd, ResultEnd, Plan, contact_at, contacts_of_part}
use Rattle.gos_plan.specs.Tokens.{Tokens, Fire, Out, end_of, way_of, way_taken, token_at, fired, Passes, Does, IsIdle, IsQuiet}
use Rattle.gos_plan.specs.Orderly.{AllWelcome}
use Rattle.gos_plan.specs.TokenBits.{LiteralFits}
use Rattle.gos_joining.specs.webs.Cutting.{cut_tokens}
use Rattle.gos_nodes.specs.sessions.Sessions.{bits}
use Rattle.gos_nodes.specs.parallel.Parallel.{IsJointOf, IsPartOf}
use Rattle.gos_nodes.proofs.parallel.GateLemmas.{gate}
use Rattle.gos_nodes.proofs.parallel.HungLemmas.{IsHung}
use Rattle.gos_nodes.proofs.parallel.QuietLemmas.{Neat, idle_by_parts, joint_empty, part_rests, lies_there, import_quiet, region_quiet}
use Rattle.gos_nodes.specs.blocks.Servers.{run_of}
use Rattle.gos_nodes.specs.blocks.Block.{Block, IsBlock}
use Rattle.gos_nodes.proofs.blocks.ServerLemmas.{body_contact, supply_contact}
use Rattle.gos_nodes.proofs.blocks.RegionLemmas as region
use Rattle.gos_nodes.proofs.blocks.RegionLemmas.{IsPort, Which, variable, other, which}

module _ (r : Plan) (b : Block) (is : IsBlock r b) (literals : All LiteralFits r.parts) where
  hung : IsHung (IsPort b) b.own 0 (bits r.outcome) b.cut r b.body
  hung = region.hung_body r b is

  -- a token that lies where the server takes it would be taken
  taken_fires : (t : Slot) (c : Contact) (v : ℕ) (s : Tokens) → AllWelcome r s → IsQuiet r s → contact_at r (end_of b.own t) ≡ Some c → way_taken c.role ≡ way_of t
      → token_at r s (end_of b.own t) (way_of t) ≡ Some v → (w : Tokens) × Does r (Fire b.own t) s w
  taken_fires t c v s welcome quiet there way lies =
      let (row, by) = welcome b.own t c v there way lies in (fired r b.own row v s, (v, row, lies, by, refl))

  own_contact : (h : ℕ) (c : Contact) → slice_get (part_contacts b.server.part) h ≡ Some c → contact_at r (PartEnd b.own h) ≡ Some c
  own_contact h c there = ap (λ (o : Option Part). slice_get (contacts_of_part o) h) is.own ∙ there

  module _ (s : Tokens) (welcome : AllWelcome r s) (quiet : IsQuiet r s) where
    -- what the body puts at the variable is taken
    supply_fires : (k v : ℕ) (c : Contact) → slice_get (contacts_of b.server.supply) k ≡ Some c
        → token_at b.body (cut_tokens b.cut b.body s) (ImportEnd b.place k) (way_taken c.role) ≡ Some v → ⊥
    supply_fires k v c there lies = by_way (way_taken c.role) refl
      where
        here : token_at r s (PartEnd b.own (suc k)) (way_taken c.role) ≡ Some v
        here = ap (λ (e : End). token_at r s e (way_taken c.role)) (sym (is.served k)) ∙ lies_there hung b.place k (way_taken c.role) v s lies

        at_own : contact_at r (PartEnd b.own (suc k)) ≡ Some c
        at_own = own_contact (suc k) c (supply_contact b.server (bits r.outcome) is.server k c there)

        by_way : (way : Direction) → way_taken c.role ≡ way → ⊥
        by_way Request way =
            let (w, does) =
            taken_fires (Req (suc k)) c v s welcome quiet at_own way (subst (λ (x : Direction). token_at r s (PartEnd b.own (suc k)) x ≡ Some v) way here) in
            quiet.0 b.own (Req (suc k)) w does
        by_way Answer way =
            let (w, does) =
            taken_fires (Ans (suc k)) c v s welcome quiet at_own way (subst (λ (x : Direction). token_at r s (PartEnd b.own (suc k)) x ≡ Some v) way here) in
            quiet.0 b.own (Ans (suc k)) w does

    at_variable : (k v : ℕ) (u : Tokens) → Passes b.body (Out (ImportEnd b.place k) v) (contact_at b.body (ImportEnd b.place k)) (cut_tokens b.cut b.body s) u → ⊥
    at_variable k v u passes =
        by_contact (slice_get (contacts_of b.server.supply) k) refl
        (subst (λ (o : Option Contact). Passes b.body (Out (ImportEnd b.place k) v) o (cut_tokens b.cut b.body s) u) (region.variable_contact r b is k) passes)
      where
        by_contact : (o : Option Contact) → slice_get (contacts_of b.server.supply) k ≡ o
            → Passes b.body (Out (ImportEnd b.place k) v) o (cut_tokens b.cut b.body s) u → ⊥
        by_contact None there none = none
        by_contact (Some c) there lies = supply_fires k v c there lies.0

    pub body_quiet : IsQuiet b.body (cut_tokens b.cut b.body s)
    body_quiet =
        region_quiet hung (region.body_done r b is) s quiet
        (λ v lies.
        taken_fires (Ans 0) (asks 0 (bits r.outcome)) v s welcome quiet
        (own_contact 0 (asks 0 (bits r.outcome)) (body_contact b.server (bits r.outcome) is.server)) refl lies)
        (λ i k v u passes. at_import i k v u (which b i) passes)
      where
        at_import : (i k v : ℕ) (u : Tokens) → Which b i
            → Passes b.body (Out (ImportEnd i k) v) (contact_at b.body (ImportEnd i k)) (cut_tokens b.cut b.body s) u → ⊥
        at_import i k v u (variable same) passes =
            at_variable k v u
            (subst (λ n. Passes b.body (Out (ImportEnd n k) v) (contact_at b.body (ImportEnd n k)) (cut_tokens b.cut b.body s) u) same passes)
        at_import i k v u (other apart) passes =
            import_quiet hung i k v s u quiet (λ stands. let (j, leads, same) = is.imports i k apart stands in (j, leads)) passes

  pub whole_idle : (s : Tokens) → Neat r s → IsIdle b.body (cut_tokens b.cut b.body s) → (s.state b.own).phase ≡ Rest → gate s Request ≡ None
      → gate s Answer ≡ None → IsIdle r s
  whole_idle s neat body rest none empty =
      idle_by_parts r s neat (λ x y has way. by_joint way x y (is.joints x y has)) (λ i k there. by_part i (is.parts i k there))
    where
      by_joint : (way : Direction) (x y : End) → IsJointOf b.cut b.body x y ⊎ ((x ≡ ResultEnd 0) × (y ≡ PartEnd b.own (run_of b.server))) → s.in_place way x ≡ None
      by_joint way x y (inl one) = joint_empty hung s body x y one way
      by_joint Request x y (inr (at, beyond)) = ap (s.in_place Request) at ∙ none
      by_joint Answer x y (inr (at, beyond)) = ap (s.in_place Answer) at ∙ empty

      by_part : (i : ℕ) → IsPartOf b.cut i ⊎ (i ≡ b.own) → (s.state i).phase ≡ Rest
      by_part i (inl one) = part_rests hung s body i one
      by_part i (inr same) = ap (λ n. (s.state n).phase) same ∙ rest
