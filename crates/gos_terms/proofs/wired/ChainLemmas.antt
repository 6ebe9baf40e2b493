-- Chains: where each point leads on in each role to one point at most, and sees one handshake from its two sides, the end of what
-- leads on from an end is its other side.
use Rattle.std.specs.Prelude.{◌≡◌, ◌⊎◌}
use Rattle.std.proofs.Common.{sym, ◌∙◌, ap, subst, inl, inr}
use Rattle.gos_plan.specs.Kinds.{Contact, turned_contact}
use Rattle.gos_plan.proofs.ContactLemmas.{turned_contact_twice}
use Rattle.gos_terms.proofs.wired.FlowLemmas.{Alike, same, apart, role_cases}

-- What has to hold of points and of what leads from one, where it sees a handshake, to another.
pub record IsFair (D : Type 0) (Leads : D → D → Contact → Type 0) : Type 0 where
  pub back : (q x : D) (c : Contact) → Leads q x c → Leads x q (turned_contact c)
  pub once : (q x y : D) (c d : Contact) → Leads q x c → Leads q y d → c.role ≡ d.role → x ≡ y
  pub through : (q x y : D) (c d : Contact) → Leads q x c → Leads q y d → (c.role ≡ d.role → ⊥) → d ≡ turned_contact c

module _ (D : Type 0) (Leads : D → D → Contact → Type 0) (fair : IsFair D Leads) (a : D) (k : Contact) (at_a : (x : D) (c : Contact) → Leads a x c → k ≡ c) where
  pub data Chain : D → Type 0 where
    first : (q : D) → Leads q a (turned_contact k) → Chain q
    more : (q x : D) → Chain x → Leads q x (turned_contact k) → Chain q

  abbrev pub Reached : D → Type 0
  Reached q = (q ≡ a) ⊎ Chain q

  onward : (x y : D) (d : Contact) → Chain x → Leads y x d → Reached y
  onward x y d (first q before) next = by_role (role_cases (turned_contact d).role (turned_contact k).role)
    where
      back : Leads q y (turned_contact d)
      back = fair.back y q d next

      by_role : Alike (turned_contact d).role (turned_contact k).role → Reached y
      by_role (same e) = inl (fair.once q y a (turned_contact d) (turned_contact k) back before e)
      by_role (apart differ) =
          let fits : turned_contact k ≡ turned_contact (turned_contact d) = fair.through q y a (turned_contact d) (turned_contact k) back before differ in
          inr (more y q (first q before) (subst (λ (c : Contact). Leads y q c) (sym (fits ∙ turned_contact_twice d)) next))
  onward x y d (more q z chain before) next = by_role (role_cases (turned_contact d).role (turned_contact k).role)
    where
      back : Leads q y (turned_contact d)
      back = fair.back y q d next

      by_role : Alike (turned_contact d).role (turned_contact k).role → Reached y
      by_role (same e) =
          let same_point : z ≡ y = fair.once q z y (turned_contact k) (turned_contact d) before back (sym e) in
          inr (subst Chain same_point chain)
      by_role (apart differ) =
          let fits : turned_contact k ≡ turned_contact (turned_contact d) = fair.through q y z (turned_contact d) (turned_contact k) back before differ in
          inr (more y q (more q z chain before) (subst (λ (c : Contact). Leads y q c) (sym (fits ∙ turned_contact_twice d)) next))

  from_end : (x y : D) (d : Contact) → x ≡ a → Leads y x d → Reached y
  from_end x y d is next =
      let there : Leads y a d = subst (λ (z : D). Leads y z d) is next in
      let seen : k ≡ turned_contact d = at_a y (turned_contact d) (fair.back y a d there) in
      let turned_k : turned_contact k ≡ d = ap turned_contact seen ∙ turned_contact_twice d in
      inr (first y (subst (λ (c : Contact). Leads y a c) (sym turned_k) there))

  pub step : (x y : D) (c : Contact) → Reached x → Leads x y c → Reached y
  step x y c (inl is) next = from_end x y (turned_contact c) is (fair.back x y c next)
  step x y c (inr chain) next = onward x y (turned_contact c) chain (fair.back x y c next)

  pub reached_fits : (b : D) (d : Contact) → ((x : D) (c : Contact) → Leads b x c → d ≡ c) → Reached b → (b ≡ a) ⊎ (d ≡ turned_contact k)
  reached_fits b d at_b (inl is) = inl is
  reached_fits b d at_b (inr (first q leaves)) = inr (at_b a (turned_contact k) leaves)
  reached_fits b d at_b (inr (more q z chain leaves)) = inr (at_b z (turned_contact k) leaves)
