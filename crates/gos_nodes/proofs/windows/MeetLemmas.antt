-- What the region of c, in r, has of the imports of r: at which of their ends something may pass, and that what is open there in the
-- region is what is open in the whole.
use Rattle.std.specs.Prelude.{None, slice_get}
use Rattle.std.proofs.Common.{◌≡◌, ℕ, Bool, true, false, List, ◌∷◌, ◌⊎◌, Option, Some, inl, inr, refl, sym, ◌∙◌, ap, subst, if◌then◌else◌}
use Rattle.gos_types.specs.declared.shakes.Role.TheVariants.{Ask}
use Rattle.gos_types.specs.Events.{Direction}
use Rattle.gos_types.proofs.BoolLemmas.{same_tests}
use Rattle.gos_model.specs.Typing.{Imported}
use Rattle.gos_plan.specs.Kinds.{Contact}
use Rattle.gos_plan.specs.Plans.{End, ImportEnd, Plan, IsRight, contact_at, contacts_of_import, same_end}
use Rattle.gos_plan.specs.Tokens.{places_of}
use Rattle.gos_plan.proofs.JointLemmas.{same_is, same_itself}
use Rattle.gos_realises.specs.realises.Regular.{Pass, pass, is_request, is_open}
use Rattle.gos_realises.specs.realises.Realises.{NamesDiffer}
use Rattle.gos_realises.proofs.realises.ToldLemmas.{there_is}
use Rattle.gos_joining.specs.webs.Cutting.{Cut, StandsIn}
use Rattle.gos_sharing.proofs.buffers.BranchLemmas.{place_stands}
use Rattle.gos_nodes.specs.windows.OpenNodes.{IsHeard}
use Rattle.gos_nodes.proofs.windows.PortLemmas.{stands_contact, stands_place, one_place}

-- An end of an import that asks and has no joint, in the whole and in the region, which has another end of this import.
pub record IsUnjoined (r : Plan) (f : Cut) (c : Plan) (i n : ℕ) : Type 0 where
  pub import : ℕ
  pub outer : f.outer (ImportEnd i n) ≡ ImportEnd import n
  pub same : slice_get r.imports import ≡ slice_get c.imports i
  pub contact : Contact
  pub own : contact_at c (ImportEnd i n) ≡ Some contact
  pub asks : contact.role ≡ Ask
  pub none : places_of r (ImportEnd import n) ≡ None
  pub own_none : places_of c (ImportEnd i n) ≡ None
  pub beside : ℕ
  pub stands : StandsIn c (ImportEnd i beside)
  pub at : f.outer (ImportEnd i beside) ≡ ImportEnd import beside

-- an end of an import that stands in a joint and leads to an import of the whole
pub record IsJoined (f : Cut) (c : Plan) (i n : ℕ) : Type 0 where
  pub import : ℕ
  pub stands : StandsIn c (ImportEnd i n)
  pub outer : f.outer (ImportEnd i n) ≡ ImportEnd import n

-- an end of an import at which something of the whole's imports may pass in the region
abbrev pub Meets : Plan → Cut → Plan → ℕ → ℕ → Type 0
Meets r f c i n = IsJoined f c i n ⊎ IsUnjoined r f c i n

pub met_joined : (r : Plan) (f : Cut) (c : Plan) (i n k : ℕ) → StandsIn c (ImportEnd i n) → f.outer (ImportEnd i n) ≡ ImportEnd k n → Meets r f c i n
met_joined r f c i n k stands outer = inl (record { import = k; stands = stands; outer = outer })

-- what has to be known of the region's imports
pub record HasPorts (r : Plan) (f : Cut) (c : Plan) : Type 0 where
  pub right : IsRight c
  pub whole_right : IsRight r
  pub names : NamesDiffer c.imports
  pub whole_names : NamesDiffer r.imports
  pub ports :
      (i h k : ℕ) → StandsIn c (ImportEnd i h) → f.outer (ImportEnd i h) ≡ ImportEnd k h
      → slice_get r.imports k ≡ slice_get c.imports i
  pub joined : (i h : ℕ) → StandsIn c (ImportEnd i h) → StandsIn r (f.outer (ImportEnd i h))
  pub heard : IsHeard f r c

-- what is open of imports in the region is open in the whole
pub record AreFollowed (r : Plan) (f : Cut) (c : Plan) (own past : List Pass) : Type 0 where
  pub same :
      (i h k : ℕ) → Meets r f c i h → f.outer (ImportEnd i h) ≡ ImportEnd k h
      → is_open own (ImportEnd i h) ≡ is_open past (ImportEnd k h)
  pub met : (i h : ℕ) → is_open own (ImportEnd i h) ≡ true → Meets r f c i h

module _ (r : Plan) (f : Cut) (c : Plan) (has : HasPorts r f c) where
  -- where such an end lies in the whole, and of which import it is
  pub met_at : (i n : ℕ) → Meets r f c i n → (k : ℕ) × (f.outer (ImportEnd i n) ≡ ImportEnd k n) × (slice_get r.imports k ≡ slice_get c.imports i)
  met_at i n (inl joined) = (joined.import, joined.outer, has.ports i n joined.import joined.stands joined.outer)
  met_at i n (inr none) = (none.import, none.outer, none.same)

  pub met_contact : (i n : ℕ) → Meets r f c i n → (x : Contact) × (contact_at c (ImportEnd i n) ≡ Some x)
  met_contact i n (inl joined) = stands_contact c has.right (ImportEnd i n) joined.stands
  met_contact i n (inr none) = (none.contact, none.own)

  pub met_import : (i n k : ℕ) → Meets r f c i n → f.outer (ImportEnd i n) ≡ ImportEnd k n → slice_get r.imports k ≡ slice_get c.imports i
  met_import i n k meets at =
      let (q, at_q, same) = met_at i n meets in
      let both : ImportEnd q n ≡ ImportEnd k n = sym at_q ∙ at in
      let one : q ≡ k = cc both in
      ap (slice_get r.imports) (sym one) ∙ same

  pub met_contacts : (i n : ℕ) (b : End) → Meets r f c i n → f.outer (ImportEnd i n) ≡ b → contact_at r b ≡ contact_at c (ImportEnd i n)
  met_contacts i n b meets at =
      let (k, at_k, same) = met_at i n meets in
      ap (contact_at r) (sym at ∙ at_k) ∙ ap (λ (o : Option Imported). slice_get (contacts_of_import o) n) same

  pub own_import : (i n : ℕ) → Meets r f c i n → (x : Imported) × (slice_get c.imports i ≡ Some x)
  own_import i n meets = let (x, is) = met_contact i n meets in there_is c.imports i n x is

  -- two ends of one import of the whole are of one import of the region, and back
  pub one_import : (i j n m k : ℕ) → Meets r f c i n → Meets r f c j m → f.outer (ImportEnd i n) ≡ ImportEnd k n → f.outer (ImportEnd j m) ≡ ImportEnd k m → i ≡ j
  one_import i j n m k first second at_first at_second =
      let (x, is) = own_import i n first in
      one_place c.imports has.names i j x is (sym (met_import j m k second at_second) ∙ (met_import i n k first at_first ∙ is))

  pub one_outer : (i n m k : ℕ) → Meets r f c i n → Meets r f c i m → f.outer (ImportEnd i n) ≡ ImportEnd k n → f.outer (ImportEnd i m) ≡ ImportEnd k m
  one_outer i n m k first second at =
      let (p, at_p, also) = met_at i m second in
      let (x, is) = own_import i n first in
      let same : p ≡ k = one_place r.imports has.whole_names p k x (also ∙ is) (met_import i n k first at ∙ is) in
      at_p ∙ ap (λ (y : ℕ). ImportEnd y m) same

  same_outer : (i n k j m b : ℕ) → Meets r f c i n → Meets r f c j m → f.outer (ImportEnd i n) ≡ ImportEnd k n → f.outer (ImportEnd j m) ≡ ImportEnd b m
      → same_end (ImportEnd k n) (ImportEnd b m) ≡ same_end (ImportEnd i n) (ImportEnd j m)
  same_outer i n k j m b first second at also = same_tests (same_end (ImportEnd k n) (ImportEnd b m)) (same_end (ImportEnd i n) (ImportEnd j m)) to from
    where
      to : same_end (ImportEnd k n) (ImportEnd b m) ≡ true → same_end (ImportEnd i n) (ImportEnd j m) ≡ true
      to t =
          let both : ImportEnd k n ≡ ImportEnd b m = same_is (ImportEnd k n) (ImportEnd b m) t in
          let imports : k ≡ b = cc both in
          let shakes : n ≡ m = cc both in
          let one = one_import i j n m k first second at (also ∙ ap (λ (y : ℕ). ImportEnd y m) (sym imports)) in
          subst (λ (e : End). same_end (ImportEnd i n) e ≡ true) (λ l. ImportEnd (one l) (shakes l)) (same_itself (ImportEnd i n))

      from : same_end (ImportEnd i n) (ImportEnd j m) ≡ true → same_end (ImportEnd k n) (ImportEnd b m) ≡ true
      from t =
          let both : ImportEnd i n ≡ ImportEnd j m = same_is (ImportEnd i n) (ImportEnd j m) t in
          let there : ImportEnd k n ≡ ImportEnd b m = sym at ∙ (ap f.outer both ∙ also) in
          subst (λ (e : End). same_end (ImportEnd k n) e ≡ true) there (same_itself (ImportEnd k n))

  -- an end at which the surroundings ask, of an import of which the region has another end
  stands_beside : (i n k : ℕ) → Meets r f c i n → f.outer (ImportEnd i n) ≡ ImportEnd k n
      → (m : ℕ) × StandsIn c (ImportEnd i m) × (f.outer (ImportEnd i m) ≡ ImportEnd k m)
  stands_beside i n k (inl joined) at = (n, joined.stands, at)
  stands_beside i n k (inr none) at =
      let both : ImportEnd none.import n ≡ ImportEnd k n = sym none.outer ∙ at in
      let one : none.import ≡ k = cc both in
      (none.beside, none.stands, none.at ∙ ap (λ (y : ℕ). ImportEnd y none.beside) one)

  pub heard_meets : (i n k h : ℕ) (x : Contact) → Meets r f c i n → f.outer (ImportEnd i n) ≡ ImportEnd k n → contact_at r (ImportEnd k h) ≡ Some x → x.role ≡ Ask
      → Meets r f c i h × (f.outer (ImportEnd i h) ≡ ImportEnd k h)
  heard_meets i n k h x meets at at_k asks = (by_place (places_of r (ImportEnd k h)) refl, heard.0)
    where
      same : slice_get r.imports k ≡ slice_get c.imports i
      same = met_import i n k meets at

      own_contact : contact_at c (ImportEnd i h) ≡ Some x
      own_contact = sym (ap (λ (o : Option Imported). slice_get (contacts_of_import o) h) same) ∙ at_k

      beside : (m : ℕ) × StandsIn c (ImportEnd i m) × (f.outer (ImportEnd i m) ≡ ImportEnd k m)
      beside = stands_beside i n k meets at

      heard : (f.outer (ImportEnd i h) ≡ ImportEnd k h) × (StandsIn r (ImportEnd k h) → StandsIn c (ImportEnd i h))
      heard = has.heard i beside.0 h k x beside.1 beside.2 own_contact asks

      by_own : places_of r (ImportEnd k h) ≡ None → (o : Option End) → places_of c (ImportEnd i h) ≡ o → places_of c (ImportEnd i h) ≡ None
      by_own none None own_none = own_none
      by_own none (Some a) named =
          let (e, there) = stands_place r has.whole_right (f.outer (ImportEnd i h)) (has.joined i h (place_stands c (ImportEnd i h) a named)) in
          let clash : None ≡ Some e = sym none ∙ (ap (places_of r) (sym heard.0) ∙ there) in absurd (cc clash)

      by_place : (o : Option End) → places_of r (ImportEnd k h) ≡ o → Meets r f c i h
      by_place (Some a) named = inl (record { import = k; stands = heard.1 (place_stands r (ImportEnd k h) a named); outer = heard.0 })
      by_place None none =
          inr
          (record {
            import = k;
            outer = heard.0;
            same = same;
            contact = x;
            own = own_contact;
            asks = asks;
            none = none;
            own_none = by_own none (places_of c (ImportEnd i h)) refl;
            beside = beside.0;
            stands = beside.1;
            at = beside.2;
          })

  -- what passes an import of the region
  pub followed_pass : (own past : List Pass) → AreFollowed r f c own past → (i h k : ℕ) → Meets r f c i h → f.outer (ImportEnd i h) ≡ ImportEnd k h → (way : Direction)
      → AreFollowed r f c (pass (ImportEnd i h) way ∷ own) (pass (ImportEnd k h) way ∷ past)
  followed_pass own past followed i h k meets at way =
      record {
        same = λ j n b also at_b.
            (let ends = same_outer i h k j n b meets also at at_b in
            λ l. if sym ends l then is_request way else followed.same j n b also at_b l);
        met = λ j n up. met j n (same_end (ImportEnd i h) (ImportEnd j n)) refl up;
      }
    where
      met : (j n : ℕ) (b : Bool) → same_end (ImportEnd i h) (ImportEnd j n) ≡ b → (if b then is_request way else is_open own (ImportEnd j n)) ≡ true → Meets r f c j n
      met j n true t up =
          let is : ImportEnd i h ≡ ImportEnd j n = same_is (ImportEnd i h) (ImportEnd j n) t in
          let import : i ≡ j = cc is in
          let shake : h ≡ n = cc is in
          subst (λ (y : ℕ). Meets r f c y n) import (subst (λ (y : ℕ). Meets r f c i y) shake meets)
      met j n false t up = followed.met j n up

  -- So an import of which the region has an end is open in it where it is in the whole, if no other region has it.
  pub alike : (own past : List Pass) → AreFollowed r f c own past → (i h k : ℕ) → Meets r f c i h → f.outer (ImportEnd i h) ≡ ImportEnd k h
      → ((n : ℕ) → is_open past (ImportEnd k n) ≡ true → (j : ℕ) × Meets r f c j n × (f.outer (ImportEnd j n) ≡ ImportEnd k n))
      → (n : ℕ) → is_open own (ImportEnd i n) ≡ is_open past (ImportEnd k n)
  alike own past followed i h k meets at only n = same_tests (is_open own (ImportEnd i n)) (is_open past (ImportEnd k n)) to from
    where
      to : is_open own (ImportEnd i n) ≡ true → is_open past (ImportEnd k n) ≡ true
      to up =
          let here = followed.met i n up in
          sym (followed.same i n k here (one_outer i h n k meets here at)) ∙ up

      from : is_open past (ImportEnd k n) ≡ true → is_open own (ImportEnd i n) ≡ true
      from up =
          let (j, here, at_j) = only n up in
          let one = one_import i j h n k meets here at at_j in
          ap (λ (y : ℕ). is_open own (ImportEnd y n)) one ∙ (followed.same j n k here at_j ∙ up)
