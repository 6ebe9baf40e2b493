-- A plan whose parts and joints are those of two plans, moved, is that of an access: both are cut out of it.
use Rattle.std.specs.Prelude.{◌≡◌, ◌⊎◌, ℕ, zero, suc, ◌+◌, ◌-◌, ◌<◌, Bool, true, false, List, [], ◌∷◌, ◌++◌, length, Option, Some, None, Contains, slice_get, nat_lt, if◌then◌else◌}
use Rattle.std.proofs.Common.{refl, sym, ◌∙◌, ap, subst, arith, inl, inr}
use Rattle.std.proofs.lemmas.Bool.Decides.{nat_tests}
use Rattle.std.proofs.lemmas.Option.{none-some, same_Some, slice_get_within}
use Rattle.gos_types.specs.Types.{Type', Exp, Var, Fun}
use Rattle.gos_model.specs.Terms.{Name}
use Rattle.gos_model.specs.Typing.{Imported}
use Rattle.gos_plan.specs.Kinds.{Part, contacts_of}
use Rattle.gos_plan.specs.Plans.{End, PartEnd, ImportEnd, ResultEnd, Joint, Plan, contact_at, contacts_of_import, turned_if, is_free, IsRight}
use Rattle.gos_plan.specs.Tokens.{IsPortEnd}
use Rattle.gos_plan.proofs.JointLemmas.{listed, contained, free_later, stands_somewhere}
use Rattle.gos_plan.proofs.ContactLemmas.{part_is_there}
use Rattle.gos_joining.specs.webs.Webs.{joint}
use Rattle.gos_joining.specs.webs.Cutting.{Cut, lies_at, IsInside, IsOutside, StandsIn}
use Rattle.gos_joining.proofs.webs.CutLemmas.{stands_by}
use Rattle.gos_supplies.specs.names.Names.{imported}
use Rattle.gos_supplies.specs.arrays.Made.{IsJointOf, IsAccess}
use Rattle.gos_supplies.proofs.arrays.ElementLemmas.{own_name, index_name, stands_there}

-- a name that stands in a joint
abbrev named_if : Plan → Option End → Option End
named_if c None = None
named_if c (Some e) = if is_free e c.joints then None else Some e

-- where the ends of the index and of the own plan stand, behind so many parts
abbrev pub index_out : End → End
index_out (PartEnd k h) = PartEnd k h
index_out (ImportEnd j h) = ImportEnd (suc j) h
index_out (ResultEnd h) = ImportEnd 0 h

abbrev pub own_out : ℕ → End → End
own_out n (PartEnd k h) = PartEnd (n + k) h
own_out n (ImportEnd j h) = ImportEnd j (suc h)
own_out n (ResultEnd h) = ResultEnd h

abbrev pub index_cut : Plan → Cut
index_cut q =
    record {
      part = λ k. k;
      number = λ k. if nat_lt k (length q.parts) then Some k else None;
      outer = index_out;
      inner = λ b. named_if q (index_name b);
    }

abbrev pub own_cut : ℕ → Plan → Cut
own_cut n p =
    record {
      part = λ k. n + k;
      number = λ k. if nat_lt k n then None else (if nat_lt (k - n) (length p.parts) then Some (k - n) else None);
      outer = own_out n;
      inner = λ b. named_if p (own_name b);
    }

pub record IsSplit (i w : ℕ) (x : Name) (r p q : Plan) : Type 0 where
  pub whole_right : IsRight r
  pub own_right : IsRight p
  pub index_right : IsRight q
  pub variable : p.imports ≡ imported x (Var w) ∷ []
  pub imports : r.imports ≡ imported x (Fun (Exp i) (Var w)) ∷ q.imports
  pub outcome : r.outcome ≡ p.outcome
  pub number : q.outcome ≡ Exp i
  pub parts : r.parts ≡ q.parts ++ p.parts
  pub own_joints : (a b : End) → Contains p.joints (joint a b) → Contains r.joints (joint (own_out (length q.parts) a) (own_out (length q.parts) b))
  pub index_joints : (a b : End) → Contains q.joints (joint a b) → Contains r.joints (joint (index_out a) (index_out b))
  pub joints :
      (a b : End) → Contains r.joints (joint a b)
      → ((d : End) × (e : End) × Contains p.joints (joint d e) × (own_out (length q.parts) d ≡ a) × (own_out (length q.parts) e ≡ b))
      ⊎ ((d : End) × (e : End) × Contains q.joints (joint d e) × (index_out d ≡ a) × (index_out e ≡ b))

-- what is at a number of two lists
pub get_first : {A : Type 0} (xs ys : List A) (k : ℕ) (z : A) → slice_get xs k ≡ Some z → slice_get (xs ++ ys) k ≡ Some z
get_first [] ys k z at = absurd (none-some z at)
get_first (u ∷ xs) ys zero z at = at
get_first (u ∷ xs) ys (suc k) z at = get_first xs ys k z at

pub get_second : {A : Type 0} (xs ys : List A) (k : ℕ) → slice_get (xs ++ ys) (length xs + k) ≡ slice_get ys k
get_second [] ys k = ap (slice_get ys) (let e : 0 + k ≡ k = omega arith in e)
get_second (u ∷ xs) ys k = ap (slice_get (u ∷ (xs ++ ys))) (let e : suc (length xs) + k ≡ suc (length xs + k) = omega arith in e) ∙ get_second xs ys k

free_of : (c : Plan) (e : End) → StandsIn c e → is_free e c.joints ≡ false
free_of c e (j, has, stands) = by_test (is_free e c.joints) refl
  where
    by_test : (b : Bool) → is_free e c.joints ≡ b → b ≡ false
    by_test true free = absurd (free_later e c.joints j (contained c.joints j has) free stands)
    by_test false free = refl

named_stands : (c : Plan) (e : End) → StandsIn c e → named_if c (Some e) ≡ Some e
named_stands c e stands = ap (λ (b : Bool). if b then None else Some e) (free_of c e stands)

stands_named : (c : Plan) (o : Option End) (e : End) → named_if c o ≡ Some e → (o ≡ Some e) × StandsIn c e
stands_named c None e named = absurd (none-some e named)
stands_named c (Some d) e named = by_test (is_free d c.joints) refl
  where
    by_test : (b : Bool) → is_free d c.joints ≡ b → (Some d ≡ Some e) × StandsIn c e
    by_test true free = absurd (none-some e (sym (ap (λ (t : Bool). if t then None else Some d) free) ∙ named))
    by_test false free =
        let same : Some d ≡ Some e = sym (ap (λ (t : Bool). if t then None else Some d) free) ∙ named in
        let (j, is_in, stands) = stands_somewhere d c.joints free in
        (same, subst (StandsIn c) (same_Some d e same) (j, listed c.joints j is_in, stands))

module _ (i w : ℕ) (x : Name) (r p q : Plan) (is : IsSplit i w x r p q) where
  abbrev n : ℕ
  n = length q.parts

  abbrev f : Cut
  f = own_cut (length q.parts) p

  abbrev g : Cut
  g = index_cut q

  own_lies : (e : End) → lies_at f e ≡ own_out (length q.parts) e
  own_lies (PartEnd k h) = refl
  own_lies (ImportEnd j h) = refl
  own_lies (ResultEnd h) = refl

  index_lies : (e : End) → lies_at g e ≡ index_out e
  index_lies (PartEnd k h) = refl
  index_lies (ImportEnd j h) = refl
  index_lies (ResultEnd h) = refl

  -- numbers of parts
  index_number : (k : ℕ) → k < length q.parts → g.number k ≡ Some k
  index_number k low = let test : nat_lt k (length q.parts) ≡ true = grind (arith, nat_tests, low) in ap (λ (b : Bool). if b then Some k else None) test

  own_number : (k : ℕ) → k < length p.parts → f.number (length q.parts + k) ≡ Some k
  own_number k low =
      let first : nat_lt (length q.parts + k) (length q.parts) ≡ false = grind (arith, nat_tests) in
      let same : length q.parts + k - length q.parts ≡ k = omega arith in
      let second : nat_lt k (length p.parts) ≡ true = grind (arith, nat_tests, low) in
      ap (λ (b : Bool). if b then None else (if nat_lt (length q.parts + k - length q.parts) (length p.parts) then Some (length q.parts + k - length q.parts) else None)) first
      ∙ (ap (λ (m : ℕ). if nat_lt m (length p.parts) then Some m else None) same ∙ ap (λ (b : Bool). if b then Some k else None) second)

  index_part : (k : ℕ) (z : Part) → slice_get q.parts k ≡ Some z → (slice_get r.parts k ≡ Some z) × (g.number k ≡ Some k)
  index_part k z at = (ap (λ (us : List Part). slice_get us k) is.parts ∙ get_first q.parts p.parts k z at, index_number k (slice_get_within q.parts k z at))

  own_part : (k : ℕ) (z : Part) → slice_get p.parts k ≡ Some z → (slice_get r.parts (length q.parts + k) ≡ Some z) × (f.number (length q.parts + k) ≡ Some k)
  own_part k z at = (
    ap (λ (us : List Part). slice_get us (length q.parts + k)) is.parts ∙ (get_second q.parts p.parts k ∙ at),
    own_number k (slice_get_within p.parts k z at),
  )

  pub there_at : (c : List Part) (k : ℕ) → k < length c → (z : Part) × (slice_get c k ≡ Some z)
  there_at [] k low = absurd (omega (arith, low))
  there_at (z ∷ c) zero low = (z, refl)
  there_at (z ∷ c) (suc k) low = there_at c k (omega (arith, low))

  index_numbers : (k j : ℕ) → g.number k ≡ Some j → (j ≡ k) × ((z : Part) × (slice_get q.parts j ≡ Some z))
  index_numbers k j number = by_test (nat_lt k (length q.parts)) refl
    where
      by_test : (b : Bool) → nat_lt k (length q.parts) ≡ b → (j ≡ k) × ((z : Part) × (slice_get q.parts j ≡ Some z))
      by_test true test =
          let same : k ≡ j = same_Some k j (sym (ap (λ (t : Bool). if t then Some k else None) test) ∙ number) in
          let low : k < length q.parts = grind (arith, nat_tests, test) in
          (sym same, subst (λ (m : ℕ). (z : Part) × (slice_get q.parts m ≡ Some z)) same (there_at q.parts k low))
      by_test false test = absurd (none-some j (sym (ap (λ (t : Bool). if t then Some k else None) test) ∙ number))

  own_numbers : (k j : ℕ) → f.number k ≡ Some j → (length q.parts + j ≡ k) × ((z : Part) × (slice_get p.parts j ≡ Some z))
  own_numbers k j number = by_test (nat_lt k (length q.parts)) (nat_lt (k - length q.parts) (length p.parts)) refl refl
    where
      by_test : (b c : Bool) → nat_lt k (length q.parts) ≡ b → nat_lt (k - length q.parts) (length p.parts) ≡ c
          → (length q.parts + j ≡ k) × ((z : Part) × (slice_get p.parts j ≡ Some z))
      by_test true c test other =
          absurd (none-some j (sym (ap (λ (t : Bool). if t then None else (if nat_lt (k - length q.parts) (length p.parts) then Some (k - length q.parts) else None)) test) ∙ number))
      by_test false false test other =
          absurd (none-some j (sym (λ z. if test z then None else (if other z then Some (k - length q.parts) else None)) ∙ number))
      by_test false true test other =
          let same : k - length q.parts ≡ j = same_Some (k - length q.parts) j (sym (λ z. if test z then None else (if other z then Some (k - length q.parts) else None)) ∙ number) in
          let low : k - length q.parts < length p.parts = grind (arith, nat_tests, other) in
          let high : length q.parts + (k - length q.parts) ≡ k = grind (arith, nat_tests, test) in
          (ap (λ (m : ℕ). length q.parts + m) (sym same) ∙ high, subst (λ (m : ℕ). (z : Part) × (slice_get p.parts m ≡ Some z)) same (there_at p.parts (k - length q.parts) low))

  -- the ports that are joined
  no_variable : (j h : ℕ) → StandsIn p (ImportEnd (suc j) h) → ⊥
  no_variable j h stands =
      let (k, there) = stands_there p (ImportEnd (suc j) h) is.own_right stands in
      none-some k (sym (ap (λ (us : List Imported). slice_get (contacts_of_import (slice_get us (suc j))) h) is.variable) ∙ there)

  no_number : (h : ℕ) → StandsIn q (ResultEnd (suc h)) → ⊥
  no_number h stands =
      let (k, there) = stands_there q (ResultEnd (suc h)) is.index_right stands in
      none-some k (sym (ap (λ (t : Type'). turned_if (slice_get (contacts_of t) (suc h))) is.number) ∙ there)

  own_ports : (e : End) → IsPortEnd e → StandsIn p e → IsOutside f (f.outer e) × (f.inner (f.outer e) ≡ Some e)
  own_ports (PartEnd k h) port stands = absurd port
  own_ports (ImportEnd zero h) port stands = (tt, named_stands p (ImportEnd 0 h) stands)
  own_ports (ImportEnd (suc j) h) port stands = absurd (no_variable j h stands)
  own_ports (ResultEnd h) port stands = (tt, named_stands p (ResultEnd h) stands)

  index_ports : (e : End) → IsPortEnd e → StandsIn q e → IsOutside g (g.outer e) × (g.inner (g.outer e) ≡ Some e)
  index_ports (PartEnd k h) port stands = absurd port
  index_ports (ImportEnd j h) port stands = (tt, named_stands q (ImportEnd j h) stands)
  index_ports (ResultEnd zero) port stands = (tt, named_stands q (ResultEnd 0) stands)
  index_ports (ResultEnd (suc h)) port stands = absurd (no_number h stands)

  own_inners : (b e : End) → f.inner b ≡ Some e → IsPortEnd e × StandsIn p e × (f.outer e ≡ b)
  own_inners b e inner = let (name, stands) = stands_named p (own_name b) e inner in by_end b e name stands
    where
      by_end : (b e : End) → own_name b ≡ Some e → StandsIn p e → IsPortEnd e × StandsIn p e × (f.outer e ≡ b)
      by_end (PartEnd k h) e name stands = absurd (none-some e name)
      by_end (ImportEnd zero zero) e name stands = absurd (none-some e name)
      by_end (ImportEnd zero (suc h)) e name stands =
          let at : ImportEnd 0 h ≡ e = same_Some (ImportEnd 0 h) e name in
          subst (λ (d : End). StandsIn p d → IsPortEnd d × StandsIn p d × (f.outer d ≡ ImportEnd 0 (suc h))) at (λ here. (tt, here, refl)) stands
      by_end (ImportEnd (suc j) h) e name stands = absurd (none-some e name)
      by_end (ResultEnd h) e name stands =
          let at : ResultEnd h ≡ e = same_Some (ResultEnd h) e name in
          subst (λ (d : End). StandsIn p d → IsPortEnd d × StandsIn p d × (f.outer d ≡ ResultEnd h)) at (λ here. (tt, here, refl)) stands

  index_inners : (b e : End) → g.inner b ≡ Some e → IsPortEnd e × StandsIn q e × (g.outer e ≡ b)
  index_inners b e inner = let (name, stands) = stands_named q (index_name b) e inner in by_end b e name stands
    where
      by_end : (b e : End) → index_name b ≡ Some e → StandsIn q e → IsPortEnd e × StandsIn q e × (g.outer e ≡ b)
      by_end (PartEnd k h) e name stands = absurd (none-some e name)
      by_end (ImportEnd zero zero) e name stands =
          let at : ResultEnd 0 ≡ e = same_Some (ResultEnd 0) e name in
          subst (λ (d : End). StandsIn q d → IsPortEnd d × StandsIn q d × (g.outer d ≡ ImportEnd 0 0)) at (λ here. (tt, here, refl)) stands
      by_end (ImportEnd zero (suc h)) e name stands = absurd (none-some e name)
      by_end (ImportEnd (suc j) h) e name stands =
          let at : ImportEnd j h ≡ e = same_Some (ImportEnd j h) e name in
          subst (λ (d : End). StandsIn q d → IsPortEnd d × StandsIn q d × (g.outer d ≡ ImportEnd (suc j) h)) at (λ here. (tt, here, refl)) stands
      by_end (ResultEnd h) e name stands = absurd (none-some e name)

  import_contacts : (j h : ℕ) → contact_at r (ImportEnd j h) ≡ slice_get (contacts_of_import (slice_get (imported x (Fun (Exp i) (Var w)) ∷ q.imports) j)) h
  import_contacts j h = ap (λ (us : List Imported). slice_get (contacts_of_import (slice_get us j)) h) is.imports

  own_contacts : (e : End) → IsPortEnd e → StandsIn p e → contact_at r (f.outer e) ≡ contact_at p e
  own_contacts (PartEnd k h) port stands = absurd port
  own_contacts (ImportEnd zero h) port stands =
      import_contacts 0 (suc h) ∙ sym (ap (λ (us : List Imported). slice_get (contacts_of_import (slice_get us 0)) h) is.variable)
  own_contacts (ImportEnd (suc j) h) port stands = absurd (no_variable j h stands)
  own_contacts (ResultEnd h) port stands = ap (λ (t : Type'). turned_if (slice_get (contacts_of t) h)) is.outcome

  index_contacts : (e : End) → IsPortEnd e → StandsIn q e → contact_at r (g.outer e) ≡ contact_at q e
  index_contacts (PartEnd k h) port stands = absurd port
  index_contacts (ImportEnd j h) port stands = import_contacts (suc j) h
  index_contacts (ResultEnd zero) port stands = import_contacts 0 0 ∙ sym (ap (λ (t : Type'). turned_if (slice_get (contacts_of t) 0)) is.number)
  index_contacts (ResultEnd (suc h)) port stands = absurd (no_number h stands)

  -- a joint of one side has no part of the other
  no_inside_index : (e : End) → IsInside g (own_out (length q.parts) e) → ⊥
  no_inside_index (PartEnd k h) (j, number) =
      let test : nat_lt (length q.parts + k) (length q.parts) ≡ false = grind (arith, nat_tests) in
      none-some j (sym (ap (λ (b : Bool). if b then Some (length q.parts + k) else None) test) ∙ number)
  no_inside_index (ImportEnd j h) inside = inside
  no_inside_index (ResultEnd h) inside = inside

  no_inside_own : (e : End) → StandsIn q e → IsInside f (index_out e) → ⊥
  no_inside_own (PartEnd k h) stands (j, number) =
      let (c, there) = stands_there q (PartEnd k h) is.index_right stands in
      let (z, at) = part_is_there (slice_get q.parts k) h c there in
      let low = slice_get_within q.parts k z at in
      let test : nat_lt k (length q.parts) ≡ true = grind (arith, nat_tests, low) in
      none-some j (sym (ap (λ (b : Bool). if b then None else (if nat_lt (k - length q.parts) (length p.parts) then Some (k - length q.parts) else None)) test) ∙ number)
  no_inside_own (ImportEnd j h) stands inside = inside
  no_inside_own (ResultEnd h) stands inside = inside

  asking_in : (a b : End) → Contains q.joints (joint a b) → StandsIn q a
  asking_in a b has = (joint a b, has, stands_by a (joint a b) (inl refl))

  serving_in : (a b : End) → Contains q.joints (joint a b) → StandsIn q b
  serving_in a b has = (joint a b, has, stands_by b (joint a b) (inr refl))

  abbrev OfOwn : End → End → Type 0
  OfOwn a b = (d : End) × (e : End) × Contains p.joints (joint d e) × (own_out (length q.parts) d ≡ a) × (own_out (length q.parts) e ≡ b)

  abbrev OfIndex : End → End → Type 0
  OfIndex a b = (d : End) × (e : End) × Contains q.joints (joint d e) × (index_out d ≡ a) × (index_out e ≡ b)

  own_all : (a b : End) → Contains r.joints (joint a b) → IsInside f a ⊎ IsInside f b → IsJointOf f p a b
  own_all a b has inside = by_side (is.joints a b has) inside
    where
      by_side : OfOwn a b ⊎ OfIndex a b → IsInside f a ⊎ IsInside f b → IsJointOf f p a b
      by_side (inl (d, e, there, first, last)) inside = (d, e, there, own_lies d ∙ first, own_lies e ∙ last)
      by_side (inr (d, e, there, first, last)) (inl inside) = absurd (no_inside_own d (asking_in d e there) (subst (IsInside f) (sym first) inside))
      by_side (inr (d, e, there, first, last)) (inr inside) = absurd (no_inside_own e (serving_in d e there) (subst (IsInside f) (sym last) inside))

  index_all : (a b : End) → Contains r.joints (joint a b) → IsInside g a ⊎ IsInside g b → IsJointOf g q a b
  index_all a b has inside = by_side (is.joints a b has) inside
    where
      by_side : OfOwn a b ⊎ OfIndex a b → IsInside g a ⊎ IsInside g b → IsJointOf g q a b
      by_side (inr (d, e, there, first, last)) inside = (d, e, there, index_lies d ∙ first, index_lies e ∙ last)
      by_side (inl (d, e, there, first, last)) (inl inside) = absurd (no_inside_index d (subst (IsInside g) (sym first) inside))
      by_side (inl (d, e, there, first, last)) (inr inside) = absurd (no_inside_index e (subst (IsInside g) (sym last) inside))

  sides : (a b : End) → Contains r.joints (joint a b) → IsJointOf f p a b ⊎ IsJointOf g q a b
  sides a b has = by_side (is.joints a b has)
    where
      by_side : OfOwn a b ⊎ OfIndex a b → IsJointOf f p a b ⊎ IsJointOf g q a b
      by_side (inl (d, e, there, first, last)) = inl (d, e, there, own_lies d ∙ first, own_lies e ∙ last)
      by_side (inr (d, e, there, first, last)) = inr (d, e, there, index_lies d ∙ first, index_lies e ∙ last)

  -- each part is of one side
  part_of : (k : ℕ) (z : Part) → slice_get r.parts k ≡ Some z
      → ((j : ℕ) × (f.number k ≡ Some j) × (g.number k ≡ None)) ⊎ ((j : ℕ) × (g.number k ≡ Some j) × (f.number k ≡ None))
  part_of k z at = by_test (nat_lt k (length q.parts)) refl
    where
      by_test : (b : Bool) → nat_lt k (length q.parts) ≡ b
          → ((j : ℕ) × (f.number k ≡ Some j) × (g.number k ≡ None)) ⊎ ((j : ℕ) × (g.number k ≡ Some j) × (f.number k ≡ None))
      by_test true test =
          inr (
            k,
            ap (λ (b : Bool). if b then Some k else None) test,
            ap (λ (b : Bool). if b then None else (if nat_lt (k - length q.parts) (length p.parts) then Some (k - length q.parts) else None)) test,
          )
      by_test false test =
          let high : length q.parts + (k - length q.parts) ≡ k = grind (arith, nat_tests, test) in
          let there : slice_get p.parts (k - length q.parts) ≡ Some z =
          sym (get_second q.parts p.parts (k - length q.parts)) ∙ (ap (slice_get (q.parts ++ p.parts)) high ∙ (sym (ap (λ (us : List Part). slice_get us k) is.parts) ∙ at))
          in
          inl (
            k - length q.parts,
            ap f.number (sym high) ∙ own_number (k - length q.parts) (slice_get_within p.parts (k - length q.parts) z there),
            ap (λ (b : Bool). if b then Some k else None) test,
          )

  pub split_access : IsAccess i w x (own_cut (length q.parts) p) (index_cut q) r p q
  split_access =
      record {
        own =
            record {
              whole_right = is.whole_right;
              right = is.own_right;
              parts = own_part;
              numbers = own_numbers;
              ports = own_ports;
              inners = own_inners;
              contacts = own_contacts;
              joints = λ a b has. subst (λ (j : Joint). Contains r.joints j) (λ z. joint (sym (own_lies a) z) (sym (own_lies b) z)) (is.own_joints a b has);
              all = own_all;
            };
        index =
            record {
              whole_right = is.whole_right;
              right = is.index_right;
              parts = index_part;
              numbers = index_numbers;
              ports = index_ports;
              inners = index_inners;
              contacts = index_contacts;
              joints = λ a b has. subst (λ (j : Joint). Contains r.joints j) (λ z. joint (sym (index_lies a) z) (sym (index_lies b) z)) (is.index_joints a b has);
              all = index_all;
            };
        variable = is.variable;
        imports = is.imports;
        outcome = is.outcome;
        number = is.number;
        accesses = λ j h. refl;
        result = λ h. refl;
        others = λ j h. refl;
        asked = λ h. refl;
        parts = part_of;
        joints = sides;
      }
