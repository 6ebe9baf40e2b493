-- Joints whose ends are moved are right where they fit, and where ends that were apart stay so.
use Rattle.std.specs.Prelude.{◌≡◌, not, ◌&&◌, ◌||◌, List, [], ◌∷◌, Some, map}
use Rattle.std.proofs.Common.{refl, sym, ◌∙◌, ap, subst, inl, inr}
use Rattle.gos_plan.specs.Kinds.{Contact, asks, serves}
use Rattle.gos_plan.specs.Plans.{End, Joint, Plan, contact_at, same_end, is_free, Fits, AreRight, IsRight}
use Rattle.gos_plan.proofs.JointLemmas.{IsIn, fits}

abbrev pub moved_ends : (End → End) → Joint → Joint
moved_ends to j = record { asking = to j.asking; serving = to j.serving }

-- which joints these are
pub map_in : (f : Joint → Joint) (js : List Joint) (j : Joint) → IsIn j js → IsIn (f j) (map f js)
map_in f [] j h = absurd h
map_in f (x ∷ xs) j (inl e) = inl (ap f e)
map_in f (x ∷ xs) j (inr h) = inr (map_in f xs j h)

pub in_map : (f : Joint → Joint) (js : List Joint) (j : Joint) → IsIn j (map f js) → (k : Joint) × IsIn k js × (j ≡ f k)
in_map f [] j h = absurd h
in_map f (x ∷ xs) j (inl e) = (x, inl refl, e)
in_map f (x ∷ xs) j (inr h) = let (k, is_in, same) = in_map f xs j h in (k, inr is_in, same)

module _ (p q : Plan) (to : End → End) (Own : End → Type 0) (own : (j : Joint) → IsIn j p.joints → Own j.asking × Own j.serving)
    (same : (e d : End) → Own e → Own d → same_end (to e) (to d) ≡ same_end e d) (fit : (j : Joint) → IsIn j p.joints → Fits q (moved_ends to j)) where
  abbrev Within : List Joint → Type 0
  Within js = (j : Joint) → IsIn j js → IsIn j p.joints

  free_moved : (e : End) → Own e → (js : List Joint) → Within js → is_free (to e) (map (moved_ends to) js) ≡ is_free e js
  free_moved e its [] within = refl
  free_moved e its (x ∷ xs) within =
      let ends = own x (within x (inl refl)) in
      let one = same e x.asking its ends.0 in
      let other = same e x.serving its ends.1 in
      let rest = free_moved e its xs (λ j h. within j (inr h)) in λ n. not (one n || other n) && rest n

  right_from : (before js : List Joint) → Within before → Within js → AreRight p before js → AreRight q (map (moved_ends to) before) (map (moved_ends to) js)
  right_from before [] past within right = tt
  right_from before (x ∷ xs) past within right =
      let here = within x (inl refl) in
      let ends = own x here in (
        (fit x here, free_moved x.asking ends.0 before past ∙ right.0.1, free_moved x.serving ends.1 before past ∙ right.0.2),
        right_from (x ∷ before) xs (with_one here) (λ j h. within j (inr h)) right.1,
      )
    where
      with_one : IsIn x p.joints → Within (x ∷ before)
      with_one here j (inl e) = subst (λ (y : Joint). IsIn y p.joints) (sym e) here
      with_one here j (inr h) = past j h

  pub right_where_fit : IsRight p → AreRight q [] (map (moved_ends to) p.joints)
  right_where_fit right = right_from [] p.joints (λ j h. absurd h) (λ j h. h) right

-- they fit where the handshakes of the ends are the same
pub right_moved : (p q : Plan) (to : End → End) → IsRight p
    → ((e d : End) (k x : Contact) → contact_at p e ≡ Some k → contact_at p d ≡ Some x → same_end (to e) (to d) ≡ same_end e d)
    → ((e : End) (k : Contact) → contact_at p e ≡ Some k → contact_at q (to e) ≡ Some k) → AreRight q [] (map (moved_ends to) p.joints)
right_moved p q to right same contacts = right_where_fit p q to There own (λ e d one other. same e d one.0 other.0 one.1 other.1) moves right
  where
    There : End → Type 0
    There e = (k : Contact) × (contact_at p e ≡ Some k)

    own : (j : Joint) → IsIn j p.joints → There j.asking × There j.serving
    own j is_in = let fit = fits p [] p.joints j right is_in in ((asks fit.0 fit.1, fit.2), (serves fit.0 fit.1, fit.3))

    moves : (j : Joint) → IsIn j p.joints → Fits q (moved_ends to j)
    moves j is_in =
        let fit = fits p [] p.joints j right is_in in
        (fit.0, fit.1, contacts j.asking (asks fit.0 fit.1) fit.2, contacts j.serving (serves fit.0 fit.1) fit.3)
