-- What lies where, and which ways follow which.
use Rattle.std.specs.Prelude.{None, slice_get, Contains}
use Rattle.std.proofs.Common.{◌≡◌, ℕ, List, ◌⊎◌, Option, Some, inl, inr, refl, sym, ◌∙◌, ap, subst}
use Rattle.std.proofs.lemmas.Option.{none-some, same_Some}
use Rattle.gos_plan.specs.Kinds.{Part, Contact, asks, serves}
use Rattle.gos_plan.specs.Plans.{End, PartEnd, ImportEnd, ResultEnd, Plan, contacts_of_part, contact_at}
use Rattle.gos_plan.proofs.ContactLemmas.{serves_is_not_asks, part_is_there}
use Rattle.gos_joining.specs.webs.Webs.{Dot, Tie, tie, Web, Meet, Way, here, along, Connects, joint}
use Rattle.gos_joining.specs.webs.Cutting.{lies_at, IsOutside}
use Rattle.gos_joining.proofs.webs.CutLemmas.{name_by, name_of, outside_name, port_lies}
use Rattle.gos_joining.proofs.webs.WayLemmas.{way_then, way_back, mapped_way}
use Rattle.gos_nodes.specs.windows.Regions.{Serving}
use Rattle.gos_nodes.specs.folds.Folds.{Fold, Follows, IsFolded, IsSpare, IsFold}

-- one end doesn't both ask and serve
pub connects_two : (v : Web) (c : Plan) (a b : End) → Connects v c a b → a ≡ b → ⊥
connects_two v c a b (q, m, asked, served, way) same = serves_is_not_asks q m q m (sym served ∙ (ap (contact_at c) (sym same) ∙ asked))

-- A dot stands for one, to which a way leads.
pub record Leads (ts : List Tie) (x : Dot) (o : Option Dot) : Type 0 where
  pub to : Dot
  pub stands : o ≡ Some to
  pub way : Way ts x to

there : (ts : List Tie) (o p : Option Dot) (x : Dot) → Follows ts o p → o ≡ Some x → Leads ts x p
there ts None p x h e = absurd (none-some x e)
there ts (Some d) None x h e = absurd h
there ts (Some d) (Some y) x h e = record { to = y; stands = refl; way = subst (λ (z : Dot). Way ts z y) (same_Some d x e) h }

back_there : (ts : List Tie) (o p : Option Dot) (y : Dot) → Follows ts o p → p ≡ Some y → Leads ts y o
back_there ts o None y h e = absurd (none-some y e)
back_there ts None (Some d) y h e = absurd h
back_there ts (Some x) (Some d) y h e =
    record { to = x; stands = refl; way = way_back ts x y (subst (λ (z : Dot). Way ts x z) (same_Some d y e) h) }

module _
    (f : Fold) (ss : List Serving) (w v : Web) (r c : Plan) (is : IsFold f ss w v r c) where
  -- ways of the small web are ways of the large one
  pub laid_way : (a b : Dot) → Way v.ties a b → Way w.ties (f.dot a) (f.dot b)
  laid_way a b way = mapped_way v.ties w.ties f.dot is.ways a b way

  -- and a way of the large one from a dot that stands for one is a way of the small one
  meets_there : (a b x : Dot) → f.back a ≡ Some x → Meet w.ties a b → Leads v.ties x (f.back b)
  meets_there a b x e (inl h) = there v.ties (f.back a) (f.back b) x (is.stays (tie a b) h) e
  meets_there a b x e (inr h) = back_there v.ties (f.back b) (f.back a) x (is.stays (tie b a) h) e

  pub lifted : (a b : Dot) → Way w.ties a b → (x : Dot) → f.back a ≡ Some x → Leads v.ties x (f.back b)
  lifted a b (here d) x e = record { to = x; stands = e; way = here x }
  lifted a b (along d m z meets way) x e =
      let first = meets_there d m x e meets in
      let rest = lifted m z way first.to first.stands in
      record { to = rest.to; stands = rest.stands; way = way_then v.ties x first.to rest.to first.way rest.way }

  -- ends of the region have their handshakes in the whole, and their names
  pub laid_contact : (e : End) (k : Contact) → contact_at c e ≡ Some k → contact_at r (lies_at f.cut e) ≡ Some k
  laid_contact (PartEnd i h) k at =
      let one = part_is_there (slice_get c.parts i) h k at in
      ap (λ (o : Option Part). slice_get (contacts_of_part o) h) ((is.parts i one.0 one.1).0 ∙ sym one.1) ∙ at
  laid_contact (ImportEnd i h) k at = (is.ports (ImportEnd i h) k tt at).2
  laid_contact (ResultEnd h) k at = (is.ports (ResultEnd h) k tt at).2

  pub laid_name : (e : End) (k : Contact) → contact_at c e ≡ Some k → name_of f.cut (lies_at f.cut e) ≡ Some e
  laid_name (PartEnd i h) k at =
      let one = part_is_there (slice_get c.parts i) h k at in ap (name_by f.cut (f.cut.part i) h) (is.parts i one.0 one.1).1
  laid_name (ImportEnd i h) k at =
      let port = is.ports (ImportEnd i h) k tt at in outside_name f.cut (f.cut.outer (ImportEnd i h)) port.0 ∙ port.1
  laid_name (ResultEnd h) k at =
      let port = is.ports (ResultEnd h) k tt at in outside_name f.cut (f.cut.outer (ResultEnd h)) port.0 ∙ port.1

  pub laid_one : (d e : End) (k l : Contact) → contact_at c d ≡ Some k → contact_at c e ≡ Some l → lies_at f.cut d ≡ lies_at f.cut e → d ≡ e
  laid_one d e k l at_d at_e same = same_Some d e (sym (laid_name d k at_d) ∙ (ap (name_of f.cut) same ∙ laid_name e l at_e))

  -- an end of the whole that stands for one of the region's
  pub record Named (e : End) (k : Contact) : Type 0 where
    pub own : End
    pub lies : lies_at f.cut own ≡ e
    pub at : contact_at c own ≡ Some k

  pub inside_part : (i h j : ℕ) (k : Contact) → f.cut.number i ≡ Some j → contact_at r (PartEnd i h) ≡ Some k
      → (f.cut.part j ≡ i) × (contact_at c (PartEnd j h) ≡ Some k)
  inside_part i h j k number at =
      let known = is.numbers i j number in
      let whole = is.parts j known.1.0 known.1.1 in (
        known.0,
        ap (λ (o : Option Part). slice_get (contacts_of_part o) h)
            (known.1.1 ∙ (sym whole.0 ∙ ap (λ n. slice_get r.parts n) known.0))
            ∙ at,
      )

  outside_named : (e : End) → IsOutside f.cut e → (k : Contact) (y : Dot) → contact_at r e ≡ Some k → f.back (w.at e) ≡ Some y → Named e k
  outside_named e out k y at stands =
      let port = is.comes e k y out at stands in record { own = port.0; lies = port_lies f.cut port.0 port.1 ∙ port.2; at = port.3 }

  named_by : (i h : ℕ) (o : Option ℕ) → f.cut.number i ≡ o → (k : Contact) (y : Dot)
      → contact_at r (PartEnd i h) ≡ Some k → f.back (w.at (PartEnd i h)) ≡ Some y → Named (PartEnd i h) k
  named_by i h None number k y at stands = outside_named (PartEnd i h) number k y at stands
  named_by i h (Some j) number k y at stands =
      let part = inside_part i h j k number at in
      record { own = PartEnd j h; lies = ap (λ n. PartEnd n h) part.0; at = part.1 }

  pub named : (e : End) (k : Contact) (y : Dot) → contact_at r e ≡ Some k → f.back (w.at e) ≡ Some y → Named e k
  named (PartEnd i h) k y at stands = named_by i h (f.cut.number i) refl k y at stands
  named (ImportEnd i h) k y at stands = outside_named (ImportEnd i h) tt k y at stands
  named (ResultEnd h) k y at stands = outside_named (ResultEnd h) tt k y at stands

  -- what such an end stands for is its own dot
  own_dot : (d : End) (k : Contact) (y : Dot) → contact_at c d ≡ Some k → f.back (w.at (lies_at f.cut d)) ≡ Some y
      → IsFolded f w v d ⊎ IsSpare f ss w v c d → v.at d ≡ y
  own_dot d k y at stands (inl folded) = same_Some (v.at d) y (sym folded.1 ∙ stands)
  own_dot d k y at stands (inr spare) = absurd (none-some y (sym spare.0 ∙ stands))

  pub stands_for : (d : End) (k : Contact) (y : Dot) → contact_at c d ≡ Some k → f.back (w.at (lies_at f.cut d)) ≡ Some y → v.at d ≡ y
  stands_for d k y at stands = own_dot d k y at stands (is.ends d k at)

  -- two ends that a way connects are both folded, so a way connects them in the whole
  first_folded : (a b : End) (l : Contact) → contact_at c b ≡ Some l → (a ≡ b → ⊥) → Way v.ties (v.at a) (v.at b)
      → IsFolded f w v a ⊎ IsSpare f ss w v c a → IsFolded f w v a
  first_folded a b l at differ way (inl folded) = folded
  first_folded a b l at differ way (inr spare) = absurd (differ (sym (spare.2 b l at way)))

  pub is_folded : (a b : End) (k l : Contact) → contact_at c a ≡ Some k → contact_at c b ≡ Some l → (a ≡ b → ⊥) → Way v.ties (v.at a) (v.at b)
      → IsFolded f w v a
  is_folded a b k l at_a at_b differ way = first_folded a b l at_b differ way (is.ends a k at_a)

  pub laid_ends : (a b : End) (k l : Contact) → contact_at c a ≡ Some k → contact_at c b ≡ Some l → (a ≡ b → ⊥) → Way v.ties (v.at a) (v.at b)
      → Way w.ties (w.at (lies_at f.cut a)) (w.at (lies_at f.cut b))
  laid_ends a b k l at_a at_b differ way =
      let one = is_folded a b k l at_a at_b differ way in
      let other = is_folded b a l k at_b at_a (λ same. differ (sym same)) (way_back v.ties (v.at a) (v.at b) way) in
      subst (λ (x : Dot). Way w.ties x (w.at (lies_at f.cut b))) one.0
      (subst (λ (y : Dot). Way w.ties (f.dot (v.at a)) y) other.0 (laid_way (v.at a) (v.at b) way))

  -- so what connects in the small web is a joint of the whole
  pub laid_joint : (a b : End) → Connects v c a b → Contains r.joints (joint (lies_at f.cut a) (lies_at f.cut b))
  laid_joint a b (q, m, asked, served, way) =
      (is.whole.joints (lies_at f.cut a) (lies_at f.cut b)).1 (
        q,
        m,
        laid_contact a (asks q m) asked,
        laid_contact b (serves q m) served,
        laid_ends a b (asks q m) (serves q m) asked served (connects_two v c a b (q, m, asked, served, way)) way,
      )

  -- and a joint of the whole whose end stands for one is of ends that connect
  pub record Lifted (a b : End) : Type 0 where
    pub first : End
    pub last : End
    pub first_lies : lies_at f.cut first ≡ a
    pub last_lies : lies_at f.cut last ≡ b
    pub connects : Connects v c first last

  lift_from : (a b : End) → Connects w r a b → (x : Dot) → f.back (w.at a) ≡ Some x → Lifted a b
  lift_from a b (q, m, asked, served, way) x stands =
      let far = lifted (w.at a) (w.at b) way x stands in
      let one = named a (asks q m) x asked stands in
      let other = named b (serves q m) far.to served far.stands in
      let one_dot = stands_for one.own (asks q m) x one.at (ap (λ (e : End). f.back (w.at e)) one.lies ∙ stands) in
      let other_dot = stands_for other.own (serves q m) far.to other.at (ap (λ (e : End). f.back (w.at e)) other.lies ∙ far.stands) in
      record {
        first = one.own;
        last = other.own;
        first_lies = one.lies;
        last_lies = other.lies;
        connects = (
          q,
          m,
          one.at,
          other.at,
          subst (λ (y : Dot). Way v.ties y (v.at other.own)) (sym one_dot) (subst (λ (y : Dot). Way v.ties x y) (sym other_dot) far.way),
        );
      }

  pub lifted_joint : (a b : End) → Contains r.joints (joint a b) → (x : Dot) → (f.back (w.at a) ≡ Some x) ⊎ (f.back (w.at b) ≡ Some x) → Lifted a b
  lifted_joint a b has x (inl stands) = lift_from a b ((is.whole.joints a b).0 has) x stands
  lifted_joint a b has x (inr stands) =
      let (q, m, asked, served, way) = (is.whole.joints a b).0 has in
      let near = lifted (w.at b) (w.at a) (way_back w.ties (w.at a) (w.at b) way) x stands in
      lift_from a b (q, m, asked, served, way) near.to near.stands
