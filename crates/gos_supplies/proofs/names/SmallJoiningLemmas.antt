-- Small joinings: a plan of whose places each class has an end that asks and one that serves, and no other.
use Rattle.std.specs.Prelude.{◌≡◌, ◌≢◌, ℕ, ◌⊎◌, Option, Some, None, Contains}
use Rattle.std.proofs.Common.{sym, ◌∙◌, ap, subst, inl, inr}
use Rattle.gos_types.specs.declared.shakes.Role.{Role}
use Rattle.gos_types.specs.declared.shakes.Role.TheVariants.{Serve, Ask}
use Rattle.gos_plan.specs.Kinds.{Contact, asks, serves, turned_contact}
use Rattle.gos_plan.specs.Plans.{End, Plan, contact_at}
use Rattle.gos_plan.specs.Joining.{Wiring, origin, Path, Connects}
use Rattle.gos_joining.specs.webs.Webs.{joint}
use Rattle.gos_supplies.proofs.names.ClassLemmas.{Classes, class, PlansStay, LinksStay, path_stays}

abbrev pub role_or : Option Contact → Role
role_or None = Ask
role_or (Some c) = c.role

-- the class of an end of the plan
abbrev pub end_class : Wiring → Classes → End → ℕ
end_class w f e = class f (origin w e)

-- Each class has an end that asks and one that serves, which see each other from two sides, and they are a joint.
pub record IsPaired (w : Wiring) (f : Classes) (p : Plan) (asker server : ℕ → End) : Type 0 where
  pub plans : PlansStay f w.plans
  pub links : LinksStay f w.links
  pub which : (e : End) (c : Contact) → contact_at p e ≡ Some c → (e ≡ asker (end_class w f e)) ⊎ (e ≡ server (end_class w f e))
  pub turned :
      (k : ℕ) (c d : Contact) → asker k ≢ server k → contact_at p (asker k) ≡ Some c → contact_at p (server k) ≡ Some d
      → (d ≡ turned_contact c) × (c ≡ turned_contact d)
  pub joined :
      (k q v : ℕ) → contact_at p (asker k) ≡ Some (asks q v) → contact_at p (server k) ≡ Some (serves q v)
      → Contains p.joints (joint (asker k) (server k))
  pub not_back : (k q v : ℕ) → contact_at p (server k) ≡ Some (asks q v) → contact_at p (asker k) ≡ Some (serves q v) → ⊥

module _ (w : Wiring) (f : Classes) (p : Plan) (asker server : ℕ → End) (paired : IsPaired w f p asker server) where
  -- two ends that a path connects are one, or those of a class
  abbrev Paired : End → End → ℕ → Type 0
  Paired a b k = (a ≡ b) ⊎ (((a ≡ asker k) × (b ≡ server k)) ⊎ ((a ≡ server k) × (b ≡ asker k)))

  pairs : (a b : End) (k : ℕ) → (a ≡ asker k) ⊎ (a ≡ server k) → (b ≡ asker k) ⊎ (b ≡ server k) → Paired a b k
  pairs a b k (inl d) (inl e) = inl (d ∙ sym e)
  pairs a b k (inl d) (inr e) = inr (inl (d, e))
  pairs a b k (inr d) (inl e) = inr (inr (d, e))
  pairs a b k (inr d) (inr e) = inl (d ∙ sym e)

  connected : (a b : End) (c d : Contact) (n : ℕ) → contact_at p a ≡ Some c → contact_at p b ≡ Some d
      → Path w n (origin w a) (origin w b) → Paired a b (end_class w f a)
  connected a b c d n one other path =
      let same : end_class w f a ≡ end_class w f b = path_stays w f paired.plans paired.links n (origin w a) (origin w b) path in
      pairs a b (end_class w f a) (paired.which a c one)
      (subst (λ (k : ℕ). (b ≡ asker k) ⊎ (b ≡ server k)) (sym same) (paired.which b d other))

  pub paired_fits : (a b : End) (c d : Contact) (n : ℕ) → contact_at p a ≡ Some c → contact_at p b ≡ Some d → a ≢ b
      → Path w n (origin w a) (origin w b) → d ≡ turned_contact c
  paired_fits a b c d n one other apart path =
      elim (connected a b c d n one other path) [
        | inl same ↦ absurd (apart same)
        | inr (inl (x, y)) ↦ (paired.turned (end_class w f a) c d (λ e. apart (x ∙ (e ∙ sym y))) (at a (asker (end_class w f a)) c x one) (at b (server (end_class w f a)) d y other)).0
        | inr (inr (x, y)) ↦ (paired.turned (end_class w f a) d c (λ e. apart (x ∙ (sym e ∙ sym y))) (at b (asker (end_class w f a)) d y other) (at a (server (end_class w f a)) c x one)).1
      ]
    where
      at : (e d : End) (c : Contact) → e ≡ d → contact_at p e ≡ Some c → contact_at p d ≡ Some c
      at e d c is there = ap (contact_at p) (sym is) ∙ there

  not_itself : (a b : End) (q v : ℕ) → contact_at p a ≡ Some (asks q v) → contact_at p b ≡ Some (serves q v) → a ≢ b
  not_itself a b q v asked served e =
      let no : Ask ≡ Serve = ap role_or (sym asked ∙ (ap (contact_at p) e ∙ served)) in cc no

  pub paired_joint : (a b : End) → Connects w p a b → Contains p.joints (joint a b)
  paired_joint a b (q, v, n, asked, served, path) =
      elim (connected a b (asks q v) (serves q v) n asked served path) [
        | inl same ↦ absurd (not_itself a b q v asked served same)
        | inr (inl (x, y)) ↦ subst (λ (e : End). Contains p.joints (joint e b)) (sym x)
            (subst (λ (e : End). Contains p.joints (joint (asker (end_class w f a)) e)) (sym y)
            (paired.joined (end_class w f a) q v (ap (contact_at p) (sym x) ∙ asked) (ap (contact_at p) (sym y) ∙ served)))
        | inr (inr (x, y)) ↦ absurd (paired.not_back (end_class w f a) q v (ap (contact_at p) (sym x) ∙ asked) (ap (contact_at p) (sym y) ∙ served))
      ]
