-- One step further down, and what stands around it then.
use Rattle.std.proofs.Common.{◌≡◌, ◌<◌, ◌≤◌, arith, ℕ, zero, suc, List, [], ◌∷◌, ◌++◌, length, drop, refl, sym, ap, subst, Some, None, ◌∙◌}
use Rattle.gos_model.specs.Terms.{Term}
use Rattle.gos_witness.specs.declared.nodes.Node.{Node}
use Rattle.gos_witness.specs.declared.walking.Zone.{Zone}
use Rattle.gos_witness.specs.declared.walking.Frame.{Frame}
use Rattle.gos_witness.specs.declared.walking.Entered.{Entered}
use Rattle.gos_witness.specs.declared.walking.Place.{Place}
use Rattle.gos_witness.specs.NodeLists.{Listed, seen, shape, Fits, IsRight}
use Rattle.gos_witness.specs.inner.Places.{ended, IsPlace, child, with_child, and_part, and_term, part_at, replaced, fill, plug, AreFrames, FitsFrame, EntersAt}
use Rattle.gos_witness.proofs.KeepLemmas.{fits_keeps, same_tables}
use Rattle.gos_witness.proofs.PlaceLemmas.{plug_more, frames_more}

-- where the way stands after some steps, and what stands around it
pub record IsWalked (l : Listed) (root : ℕ) (start : Zone) (steps : List ℕ) (z : Zone) (rest : List ℕ) (node : ℕ) (fs : List Frame) : Type 0 where
  pub part : part_at start steps (seen l root) ≡ part_at z rest (seen l node)
  pub whole : (x : Term) → replaced start steps (seen l root) x ≡ plug l fs (replaced z rest (seen l node) x)
  pub there : node < length l.nodes
  pub frames : AreFrames l.tables (length l.nodes) fs

-- one step further
pub walked_more : (l : Listed) (root : ℕ) (start : Zone) (steps : List ℕ) (z : Zone) (i : ℕ) (rest : List ℕ) (node : ℕ) (fs : List Frame) (n : Node) (e : Entered)
    → IsWalked l root start steps z (i ∷ rest) node fs → IsRight l node n → EntersAt l z i n.form e
    → IsWalked l root start steps e.zone rest e.part (fs ++ e.frame ∷ [])
walked_more l root start steps z i rest node fs n e w right enters = record {
  part = w.part ∙ ap (and_part (λ y c. part_at y rest c)) at;
  whole = λ x. w.whole x ∙ ap (plug l fs) (here x) ∙ sym (plug_more l fs e.frame (replaced e.zone rest (seen l e.part) x));
  there = part_there;
  frames = frames_more l.tables (length l.nodes) fs e.frame w.frames fits;
}
  where
    m : Term
    m = seen l node

    at : child z m i ≡ Some (e.zone, seen l e.part)
    at = ap (λ q. child z q i) right.term ∙ enters.child

    here : (x : Term) → replaced z (i ∷ rest) m x ≡ fill l e.frame (replaced e.zone rest (seen l e.part) x)
    here x =
        ap (λ o. with_child i m (and_term (λ y c. replaced y rest c x) m o)) at
        ∙ ap (λ q. with_child i q (replaced e.zone rest (seen l e.part) x)) right.term
        ∙ enters.others (replaced e.zone rest (seen l e.part) x)

    below : Fits l.tables (length l.nodes) n.form
    below = fits_keeps l.tables l.tables node (length l.nodes) n.form (same_tables l.tables) (omega (arith, w.there)) right.fits

    part_there : e.part < length l.nodes
    part_there = enters.part l.tables (length l.nodes) below

    fits : FitsFrame l.tables (length l.nodes) e.frame
    fits = enters.frame l.tables (length l.nodes) below

-- no step further
pub walked_out : (l : Listed) (root : ℕ) (start : Zone) (steps : List ℕ) (z : Zone) (i : ℕ) (rest : List ℕ) (node : ℕ) (fs : List Frame) (n : Node)
    → IsWalked l root start steps z (i ∷ rest) node fs → IsRight l node n → child z (shape l n.form) i ≡ None
    → part_at start steps (seen l root) ≡ None
walked_out l root start steps z i rest node fs n w right none =
    w.part ∙ ap (and_part (λ y c. part_at y rest c)) (ap (λ q. child z q i) right.term ∙ none)

-- the way has come to its end
pub walked_to : (l : Listed) (root : ℕ) (start : Zone) (steps : List ℕ) (z : Zone) (node : ℕ) (place : Place) → IsWalked l root start steps z [] node place.frames.items
    → place.node ≡ node → ended z (seen l node) ≡ Some (seen l node) → IsPlace l root start steps place
walked_to l root start steps z node place w is ends = record {
  part = w.part ∙ ends ∙ ap (λ (i : ℕ). Some (seen l i)) (sym is);
  whole = λ x. w.whole x;
  there = subst (λ (i : ℕ). i < length l.nodes) (sym is) w.there;
  frames = w.frames;
}

-- the way begins
pub walking_begins : (l : Listed) (root : ℕ) (start : Zone) (steps : List ℕ) (fs : List Frame) → root < length l.nodes → fs ≡ []
    → IsWalked l root start steps start steps root fs
walking_begins l root start steps fs there none =
    subst (λ (x : List Frame). IsWalked l root start steps start steps root x) (sym none) (record {
      part = refl;
      whole = λ x. refl;
      there = there;
      frames = tt;
    })

-- no step is left
pub nothing_left : (k : ℕ) (xs : List ℕ) → length xs ≤ k → drop k xs ≡ []
nothing_left zero [] h = refl
nothing_left zero (x ∷ xs) h = absurd (omega (arith, h))
nothing_left (suc k) [] h = refl
nothing_left (suc k) (x ∷ xs) h = nothing_left k xs (omega (arith, h))
