-- A way of the larger web stays in the smaller one, or outside it.
use Rattle.std.specs.Prelude.{◌≡◌, ℕ, [], ◌⊎◌, Option, Some, None, Contains, slice_get}
use Rattle.std.proofs.Common.{refl, sym, ◌∙◌, ap, subst, inl, inr}
use Rattle.gos_model.specs.Typing.{Imported}
use Rattle.gos_plan.specs.Kinds.{Part, Contact, asks, serves, contacts_of}
use Rattle.gos_plan.specs.Plans.{End, PartEnd, ImportEnd, ResultEnd, Plan, contact_at, contacts_of_part, contacts_of_import, turned_if}
use Rattle.gos_plan.proofs.JointLemmas.{fits, contained}
use Rattle.gos_joining.specs.webs.Webs.{Dot, tie, Web, Meet, Way, here, along, Connects, joint, IsOfWeb}
use Rattle.gos_joining.proofs.webs.WayLemmas.{way_then, way_back}
use Rattle.gos_supplies.specs.unjoined.Beside.{Placing, placed, IsLoose, IsOwn, LiesIn, IsBeside}
use Rattle.gos_supplies.specs.unjoined.Homes.{AreHome, IsHome, WebIsBeside}

module _ (home : Dot → Option Dot) (w v : Web) (ties : (a b : Dot) → Contains w.ties (tie a b) → AreHome v (home a) (home b)) where
  -- what meets in w meets at home, or outside
  one_home : (x y : Dot) → Meet w.ties x y → AreHome v (home x) (home y)
  one_home x y (inl has) = ties x y has
  one_home x y (inr has) = by_homes (home x) (home y) (ties y x has)
    where
      by_homes : (o u : Option Dot) → AreHome v u o → AreHome v o u
      by_homes None None h = h
      by_homes None (Some b) h = h
      by_homes (Some a) None h = h
      by_homes (Some a) (Some b) h = way_back v.ties b a h

  abbrev Home : Dot → Dot → Type 0
  Home a y = (b : Dot) × (home y ≡ Some b) × Way v.ties a b

  step_home : (x y a : Dot) → home x ≡ Some a → AreHome v (home x) (home y) → Home a y
  step_home x y a at meets = by_home (home y) refl (subst (λ (o : Option Dot). AreHome v o (home y)) at meets)
    where
      by_home : (o : Option Dot) → home y ≡ o → AreHome v (Some a) (home y) → Home a y
      by_home None none h = absurd (subst (AreHome v (Some a)) none h)
      by_home (Some b) at_y h = (b, at_y, subst (AreHome v (Some a)) at_y h)

  step_away : (x y : Dot) → home x ≡ None → AreHome v (home x) (home y) → home y ≡ None
  step_away x y none meets = by_home (home y) refl (subst (λ (o : Option Dot). AreHome v o (home y)) none meets)
    where
      by_home : (o : Option Dot) → home y ≡ o → AreHome v None (home y) → home y ≡ None
      by_home None at_y h = at_y
      by_home (Some b) at_y h = absurd (subst (AreHome v None) at_y h)

  way_home : (x y : Dot) → Way w.ties x y → (a : Dot) → home x ≡ Some a → Home a y
  way_home x y (here d) a at = (a, at, here a)
  way_home x y (along d c z meets way) a at =
      let (b, at_c, first) = step_home d c a at (one_home d c meets) in
      let (e, at_z, rest) = way_home c z way b at_c in
      (e, at_z, way_then v.ties a b e first rest)

  way_away : (x y : Dot) → Way w.ties x y → home x ≡ None → home y ≡ None
  way_away x y (here d) none = none
  way_away x y (along d c z meets way) none = way_away c z way (step_away d c none (one_home d c meets))

module _ (home : Dot → Option Dot) (f : Placing) (w v : Web) (r c : Plan) (of_w : IsOfWeb w r) (of_v : IsOfWeb v c) (lies : LiesIn f r c)
    (is : IsHome home f w v r c)
  where
    -- handshakes
    part_same : (i h : ℕ) (k : Part) → slice_get c.parts i ≡ Some k → contact_at r (PartEnd (f.part i) h) ≡ contact_at c (PartEnd i h)
    part_same i h k at = ap (λ (o : Option Part). slice_get (contacts_of_part o) h) ((lies.parts i k at).0 ∙ sym at)

    import_same : (i h : ℕ) (x : Imported) → slice_get c.imports i ≡ Some x → contact_at r (ImportEnd (f.import i) h) ≡ contact_at c (ImportEnd i h)
    import_same i h x at = ap (λ (o : Option Imported). slice_get (contacts_of_import o) h) ((lies.imports i x at).0 ∙ sym at)

    result_same : (h : ℕ) → contact_at r (ResultEnd h) ≡ contact_at c (ResultEnd h)
    result_same h = ap (λ t. turned_if (slice_get (contacts_of t) h)) lies.outcome

    contact_there : (e : End) (k : Contact) → contact_at c e ≡ Some k → contact_at r (placed f e) ≡ Some k
    contact_there (PartEnd i h) k at = by_part (slice_get c.parts i) refl
      where
        by_part : (o : Option Part) → slice_get c.parts i ≡ o → contact_at r (PartEnd (f.part i) h) ≡ Some k
        by_part None none =
            let both : slice_get (contacts_of_part None) h ≡ Some k = sym (ap (λ (o : Option Part). slice_get (contacts_of_part o) h) none) ∙ at in
            absurd (cc both)
        by_part (Some x) there = part_same i h x there ∙ at
    contact_there (ImportEnd i h) k at = by_import (slice_get c.imports i) refl
      where
        by_import : (o : Option Imported) → slice_get c.imports i ≡ o → contact_at r (ImportEnd (f.import i) h) ≡ Some k
        by_import None none =
            let both : slice_get (contacts_of_import None) h ≡ Some k = sym (ap (λ (o : Option Imported). slice_get (contacts_of_import o) h) none) ∙ at in
            absurd (cc both)
        by_import (Some x) there = import_same i h x there ∙ at
    contact_there (ResultEnd h) k at = result_same h ∙ at

    -- an end that is there is the plan's, or loose
    abbrev Stands : End → Contact → Type 0
    Stands e k = ((d : End) × (placed f d ≡ e) × (contact_at c d ≡ Some k)) ⊎ IsLoose f e

    stands : (e : End) (k : Contact) → contact_at r e ≡ Some k → Stands e k
    stands (PartEnd i h) k at = by_number (f.number i) refl
      where
        by_number : (o : Option ℕ) → f.number i ≡ o → Stands (PartEnd i h) k
        by_number None loose = inr loose
        by_number (Some j) own =
            let (lands, (x, there)) = lies.numbers i j own in
            let same : PartEnd (f.part j) h ≡ PartEnd i h = ap (λ (n : ℕ). PartEnd n h) lands in
            inl (PartEnd j h, same, sym (part_same j h x there) ∙ (ap (contact_at r) same ∙ at))
    stands (ImportEnd i h) k at = by_number (f.import_number i) refl
      where
        by_number : (o : Option ℕ) → f.import_number i ≡ o → Stands (ImportEnd i h) k
        by_number None loose = inr loose
        by_number (Some j) own =
            let (lands, (x, there)) = lies.import_numbers i j own in
            let same : ImportEnd (f.import j) h ≡ ImportEnd i h = ap (λ (n : ℕ). ImportEnd n h) lands in
            inl (ImportEnd j h, same, sym (import_same j h x there) ∙ (ap (contact_at r) same ∙ at))
    stands (ResultEnd h) k at = inl (ResultEnd h, refl, sym (result_same h) ∙ at)

    joints : (a b : End) → Contains c.joints (joint a b) → Contains r.joints (joint (placed f a) (placed f b))
    joints a b has =
        let (q, x, asked, served) = fits c [] c.joints (joint a b) of_v.right (contained c.joints (joint a b) has) in
        (of_w.joints (placed f a) (placed f b)).1
        (q, x, contact_there a (asks q x) asked, contact_there b (serves q x) served, is.joints a b has)

    all : (a b : End) → Contains r.joints (joint a b) → IsOwn f c a b ⊎ (IsLoose f a × IsLoose f b)
    all a b has = by_ends (stands a (asks q x) asked) (stands b (serves q x) served)
      where
        way : Connects w r a b
        way = (of_w.joints a b).0 has

        q : ℕ
        q = way.0

        x : ℕ
        x = way.1

        asked : contact_at r a ≡ Some (asks q x)
        asked = way.2

        served : contact_at r b ≡ Some (serves q x)
        served = way.3

        at_home : (e d : End) (k : Contact) → placed f d ≡ e → contact_at c d ≡ Some k → home (w.at e) ≡ Some (v.at d)
        at_home e d k lands there = ap (λ (g : End). home (w.at g)) (sym lands) ∙ is.ends d k there

        by_ends : Stands a (asks q x) → Stands b (serves q x) → IsOwn f c a b ⊎ (IsLoose f a × IsLoose f b)
        by_ends (inr loose) (inr other) = inr (loose, other)
        by_ends (inl (d, lands, there)) (inr other) =
            let (y, at_y, rest) = way_home home w v is.ties (w.at a) (w.at b) way.4 (v.at d) (at_home a d (asks q x) lands there) in
            let both : None ≡ Some y = sym (is.loose b (serves q x) served other) ∙ at_y in
            absurd (cc both)
        by_ends (inr loose) (inl (e, lands, there)) =
            let none = way_away home w v is.ties (w.at a) (w.at b) way.4 (is.loose a (asks q x) asked loose) in
            let both : None ≡ Some (v.at e) = sym none ∙ at_home b e (serves q x) lands there in
            absurd (cc both)
        by_ends (inl (d, lands_d, there_d)) (inl (e, lands_e, there_e)) =
            let (y, at_y, rest) = way_home home w v is.ties (w.at a) (w.at b) way.4 (v.at d) (at_home a d (asks q x) lands_d there_d) in
            let both : Some y ≡ Some (v.at e) = sym at_y ∙ at_home b e (serves q x) lands_e there_e in
            let same : y ≡ v.at e = cc both in
            let way_v : Way v.ties (v.at d) (v.at e) = subst (Way v.ties (v.at d)) same rest in
            inl (d, e, (of_v.joints d e).1 (q, x, there_d, there_e, way_v), lands_d, lands_e)

    pub home_beside : IsBeside f r c
    home_beside = record { lies = lies; whole_right = of_w.right; right = of_v.right; joints = joints; all = all }

pub web_is_beside : WebIsBeside
web_is_beside home f w v r c of_w of_v lies is = home_beside home f w v r c of_w of_v lies is
